-- What a later call gives, the whole gives.
use Rattle.std.proofs.Common.{◌≡◌, ℕ, Bool, List, Option, Some, None, Ok, Err, subst, ◌∙◌}
use Rattle.std.specs.Prelude.{Result}
use Rattle.go_values.specs.declared.qualified.QName.{QName}
use Rattle.type_terms.specs.declared.descriptors.Node.{Node}
use Rattle.type_terms.specs.Arenas.{Contents, Extends}
use Rattle.type_terms.specs.Trees.{Tree}
use Rattle.environments.specs.OpenedTypes.{AddsAmong}
use Rattle.interface_opening.specs.Opening.{Step, stops}
use Rattle.replacement.specs.declared.faults.SetFault.{SetFault}
use Rattle.replacement.specs.declared.faults.SetFault.TheVariants.{Env, AliasCycle, EmbedCycle, Arity, Kind, TermInterface, UnionMethods, TooMany, Nodes, OutOfMemory}
use Rattle.replacement.specs.Expansion.{Entries}
use Rattle.replacement.specs.Calls.{Stops, Gives}
use Rattle.replacement.proofs.KeptLemmas.{stops_later}
use Rattle.type_sets.specs.Interfaces.{SetMethod as Method}
use Rattle.interface_opener.specs.declared.found.Found.{Found}
use Rattle.opened_interfaces.specs.declared.run.Run.{Run}
use Rattle.opened_interfaces.specs.declared.run.Met.{Met}
use Rattle.opened_interfaces.specs.Calls.{GivesStep, GivesJoined}

-- what is said of later values is said of the same earlier ones
pub same_world : (P : Entries → List QName → Tree → Type 0) (later entries : Entries) (more names : List QName) (type first : Tree)
    → later ≡ entries → more ≡ names → type ≡ first → P later more type → P entries names first
same_world P later entries more names type first e n t p =
    subst (λ a. P a names first) e (subst (λ b. P later b first) n (subst (λ c. P later more c) t p))

pub same_worlds : (P : Entries → List QName → Type 0) (later entries : Entries) (more names : List QName)
    → later ≡ entries → more ≡ names → P later more → P entries names
same_worlds P later entries more names e n p = subst (λ a. P a names) e (subst (λ b. P later b) n p)

module _ (fewer more : Tree → Type 0) (old middle after : Contents) (wider : (t : Tree) → fewer t → more t) (grown : Extends old middle)
    (adds : AddsAmong more old middle) (full : Option Bool) where
  pub gives_later : (r : Result ℕ SetFault) (want other : Result Tree SetFault) → other ≡ want → Gives fewer middle after full r want → Gives more old after full r other
  gives_later (Ok id) want other same gives = (same ∙ gives.0, gives.1)
  gives_later (Err fault) want other same gives = stops_later fewer more old middle wider grown adds full fault _ _ (λ is. same ∙ is) gives

  pub step_later : (r : Result (Option Met) SetFault) (run : Run) (step other : Step Tree QName Method SetFault) → other ≡ step
      → GivesStep fewer middle after full r run step → GivesStep more old after full r run other
  step_later (Ok None) run step other same gives = (same ∙ gives.0, gives.1)
  step_later (Ok (Some x)) run step other same gives = (same ∙ gives.0, gives.1, gives.2)
  step_later (Err fault) run step other same gives = stops_later fewer more old middle wider grown adds full fault _ _ (λ is. same ∙ is) gives

-- what stops an interface from coming to its holder stops the step
pub join_stops : (opening : Tree → Type 0) (before : Contents) (full : Option Bool) (nodes : List Node) (new : Found) (step other : Step Tree QName Method SetFault) → other ≡ step
    → (fault : SetFault) → GivesJoined nodes (Err fault) new step → Stops opening before full fault (other ≡ stops fault)
join_stops opening before full nodes new step other same OutOfMemory is = tt
join_stops opening before full nodes new step other same UnionMethods is = same ∙ is.0
join_stops opening before full nodes new step other same (Env e) is = let e : (Env e) ≡ UnionMethods = is.1 in absurd cc
join_stops opening before full nodes new step other same (AliasCycle q) is = let e : (AliasCycle q) ≡ UnionMethods = is.1 in absurd cc
join_stops opening before full nodes new step other same (EmbedCycle q) is = let e : (EmbedCycle q) ≡ UnionMethods = is.1 in absurd cc
join_stops opening before full nodes new step other same (Arity q want have) is = let e : (Arity q want have) ≡ UnionMethods = is.1 in absurd cc
join_stops opening before full nodes new step other same (Kind q) is = let e : (Kind q) ≡ UnionMethods = is.1 in absurd cc
join_stops opening before full nodes new step other same TermInterface is = let e : TermInterface ≡ UnionMethods = is.1 in absurd cc
join_stops opening before full nodes new step other same TooMany is = let e : TooMany ≡ UnionMethods = is.1 in absurd cc
join_stops opening before full nodes new step other same Nodes is = let e : Nodes ≡ UnionMethods = is.1 in absurd cc
