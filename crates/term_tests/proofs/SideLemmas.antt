-- What an environment gives for an alias.
use Rattle.std.proofs.Common.{◌≡◌, inl, inr, ℕ, ◌<◌, List, [], ◌∷◌, length, Option, Some, Ok, Err, refl, ap, sym, subst, ◌∙◌}
use Rattle.std.specs.Prelude.{Result, Bool, IfOk}
use Rattle.std.specs.List.{Contains}
use Rattle.go_values.specs.declared.qualified.QName.{QName}
use Rattle.type_terms.specs.declared.declarations.DeclNode.{DeclNode}
use Rattle.type_terms.specs.Additions.{Outgrows}
use Rattle.type_terms.specs.Arenas.{Contents, AllBelow}
use Rattle.type_terms.specs.Declarations.{decl_nodes, decl_of}
use Rattle.type_terms.specs.Trees.{Tree}
use Rattle.environments.specs.declared.declaring.EnvError.{EnvError}
use Rattle.environments.specs.declared.declaring.EnvError.TheVariants.{Unknown, Damaged, TableFull, Nodes as EnvNodes, OutOfMemory as EnvMemory}
use Rattle.environments.specs.Environments.{declared, Answers, entry_types}
use Rattle.environments.specs.Kept.{OpensBehind}
use Rattle.environments.specs.KeptLaws.{outgrown_by_declare}
use Rattle.replacement.specs.declared.faults.SetFault.{SetFault}
use Rattle.replacement.specs.declared.faults.SetFault.TheVariants.{Env, AliasCycle, EmbedCycle, Arity, Kind, TermInterface, UnionMethods, TooMany, Nodes, OutOfMemory}
use Rattle.replacement.specs.Expansion.{Entries, then, known}
use Rattle.replacement.specs.Calls.{Gives}
use Rattle.type_sets.specs.TermTests.{right_of}
use Rattle.term_tests.specs.Mentions.{declared_right, IsSide}
use Rattle.term_tests.proofs.ListLemmas.{cases_of, none_of}

below_at : (bound : ℕ) (ids : List ℕ) (id : ℕ) → AllBelow bound ids → Contains ids id → id < bound
below_at bound [] id all held = absurd (none_of id held)
below_at bound (x ∷ xs) id all held = elim (cases_of x xs id held) [ inl same ↦ subst (λ n. n < bound) (sym same) all.0 | inr later ↦ below_at bound xs id all.1 later ]

-- the declaration is there
pub side_given : (opens : Tree → Type 0) (entries : Entries) (q : QName) (before after : Contents) (full : Option Bool) (decl : DeclNode)
    → entries q ≡ Some (declared (decl_of after.nodes decl)) → AllBelow (length after.nodes) (decl_nodes decl) → (result : Result ℕ SetFault)
    → IsSide after.nodes result (right_of q (decl_of after.nodes decl)) → IfOk result (λ id. Contains (decl_nodes decl) id)
    → Gives opens before after full result (declared_right entries q)
side_given opens entries q before after full decl there below (Ok id) is inside = (ap (λ e. then (known e q) (right_of q)) there ∙ is, below_at (length after.nodes) (decl_nodes decl) id below inside)
side_given opens entries q before after full decl there below (Err (Kind name)) is inside = ap (λ e. then (known e q) (right_of q)) there ∙ is
side_given opens entries q before after full decl there below (Err OutOfMemory) is inside = tt
side_given opens entries q before after full decl there below (Err (Env e)) is inside = absurd is
side_given opens entries q before after full decl there below (Err (AliasCycle name)) is inside = absurd is
side_given opens entries q before after full decl there below (Err (EmbedCycle name)) is inside = absurd is
side_given opens entries q before after full decl there below (Err (Arity name want have)) is inside = absurd is
side_given opens entries q before after full decl there below (Err TermInterface) is inside = absurd is
side_given opens entries q before after full decl there below (Err UnionMethods) is inside = absurd is
side_given opens entries q before after full decl there below (Err TooMany) is inside = absurd is
side_given opens entries q before after full decl there below (Err Nodes) is inside = absurd is

-- it isn't
pub side_missing : (entries : Entries) (q : QName) (before after : Contents) (full : Option Bool) (e : EnvError) → Answers (entries q) q after full (Err e)
    → (e ≡ EnvNodes → Outgrows before (entry_types (entries q)))
    → Gives (OpensBehind entries (λ name. name ≡ q)) before after full (Err (Env e)) (declared_right entries q)
side_missing entries q before after full (Unknown name) answer full_by =
    ap (λ o. then (known o q) (right_of q)) answer.0 ∙ ap (λ n. Err (Env (Unknown n))) (sym answer.1)
side_missing entries q before after full (Damaged name fault) answer full_by =
    ap (λ o. then (known o q) (right_of q)) answer.0.1 ∙ ap (λ n. Err (Env (Damaged n fault))) (sym answer.1)
side_missing entries q before after full TableFull answer full_by = answer
side_missing entries q before after full EnvNodes answer full_by = outgrown_by_declare entries q before (full_by refl)
side_missing entries q before after full EnvMemory answer full_by = tt
