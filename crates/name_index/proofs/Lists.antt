-- Lists that grow at their end.
use Rattle.std.proofs.Common.{◌≡◌, ℕ, ◌+◌, List, [], ◌∷◌, ◌++◌, length, arith}
use Rattle.std.specs.List.{AllByRecursion}
use Rattle.name_index.specs.declared.records.PackageRecord.{PackageRecord}
use Rattle.name_index.specs.Records.{IsNumbered, name_count}

pub all_pushed : {X : Type 0} (P : X → Type 0) (xs : List X) (x : X) → AllByRecursion P xs → P x → AllByRecursion P (xs ++ x ∷ [])
all_pushed P [] x all here = (here, tt)
all_pushed P (y ∷ ys) x all here = (all.0, all_pushed P ys x all.1 here)

pub numbered_pushed : (n : ℕ) (ps : List PackageRecord) (p : PackageRecord) → IsNumbered n ps → p.first ≡ n + name_count ps → IsNumbered n (ps ++ p ∷ [])
numbered_pushed n [] p numbered here = (omega (arith, here), tt)
numbered_pushed n (q ∷ ps) p numbered here =
    (numbered.0, numbered_pushed (n + length q.entries.items) ps p numbered.1 (omega (arith, here)))

pub name_count-push : (ps : List PackageRecord) (p : PackageRecord) → name_count (ps ++ p ∷ []) ≡ name_count ps + length p.entries.items
name_count-push [] p = omega arith
name_count-push (q ∷ ps) p = omega (arith, name_count-push ps p)
