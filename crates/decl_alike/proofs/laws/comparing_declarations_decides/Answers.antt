use Rattle.replacement.specs.Expansion.{known}
use Rattle.decl_alike.proofs.DeclLemmas.{decls_alike, heads_differ, types_differ}
use Rattle.decl_alike.proofs.laws.comparing_declarations_decides.Goals as goal

pub returns-clause-same : goal.returns-clause-same
returns-clause-same c sides q is =
    decls_alike sides (c.comparing_decides_identity.ensures.same sides) (c.comparing_decides_identity.ensures.differ sides)
    (known (sides.left.entries q) q) (known (sides.right.entries q) q) is

pub returns-clause-heads : goal.returns-clause-heads
returns-clause-heads c sides q is =
    heads_differ sides (c.comparing_decides_identity.ensures.same sides) (c.comparing_decides_identity.ensures.differ sides)
    (known (sides.left.entries q) q) (known (sides.right.entries q) q) is

pub returns-clause-types : goal.returns-clause-types
returns-clause-types c sides q depth is =
    types_differ sides (c.comparing_decides_identity.ensures.same sides) (c.comparing_decides_identity.ensures.differ sides) depth
    (known (sides.left.entries q) q) (known (sides.right.entries q) q) is
