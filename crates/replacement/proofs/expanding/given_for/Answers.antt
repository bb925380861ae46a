use Rattle.environments.specs.KeptLaws.{asks_one}
use Rattle.replacement.proofs.expanding.given_for.Goals as goal

pub returns-in-Ok-clause-kept : goal.returns-in-Ok-clause-kept
returns-in-Ok-clause-kept g c =
    let does = c.in-Ok.ensures in
    record {
      entries = does.entries;
      names = does.names;
      packages = does.packages;
      asked = asks_one _ _ _ does.asked;
      extends = does.extends;
      adds = does.adds;
    }

pub returns-in-Err-clause-kept : goal.returns-in-Err-clause-kept
returns-in-Err-clause-kept g c =
    let does = c.in-Err.ensures in
    record {
      entries = does.entries;
      names = does.names;
      packages = does.packages;
      asked = asks_one _ _ _ does.asked;
      extends = does.extends;
      adds = does.adds;
    }
