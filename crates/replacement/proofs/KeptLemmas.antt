-- Why calls stop, one after the other, and what is added for a side.
use Rattle.std.proofs.Common.{◌≡◌, ℕ, [], ◌∷◌, Bool, Option, Ok, Err, sym, subst, ◌∙◌, inl, inr}
use Rattle.std.specs.Prelude.{Result}
use Rattle.std.specs.List.{Contains}
use Rattle.go_values.specs.declared.qualified.QName.{QName}
use Rattle.type_terms.specs.Additions.{AddsOnly, Outgrows}
use Rattle.type_terms.specs.Arenas.{Contents, Extends}
use Rattle.type_terms.specs.Extensions.{extends_itself}
use Rattle.type_terms.specs.Trees.{Tree}
use Rattle.environments.specs.declared.declaring.EnvError.TheVariants.{Unknown, Damaged, TableFull, Nodes as EnvNodes, OutOfMemory as EnvMemory}
use Rattle.replacement.specs.declared.faults.SetFault.{SetFault}
use Rattle.replacement.specs.declared.faults.SetFault.TheVariants.{Env, AliasCycle, EmbedCycle, Arity, Kind, TermInterface, UnionMethods, TooMany, Nodes, OutOfMemory}
use Rattle.environments.specs.OpenedTypes.{AddsAmong, OutgrowsAmong}
use Rattle.environments.specs.Environments.{Entry, entry_types}
use Rattle.environments.specs.Kept.{World, Kept}
use Rattle.environments.specs.KeptLaws.{adds_nothing, adds_wider, listed_add, one_of, listed_outgrow, outgrown_before, kept_more, kept_grown}
use Rattle.replacement.specs.Calls.{Stops, Gives, GivesSide, AddsSide, OpensSide}

-- What is added for a side, and why there is no room for it.

only : (want : Result Tree SetFault) (type : Tree) → want ≡ Ok type → (t : Tree) → Contains (type ∷ []) t → want ≡ Ok t
only want type is t held = subst (λ u. want ≡ Ok u) (one_of type t held) is

pub side_adds : (want : Result Tree SetFault) (type : Tree) (old new : Contents) → want ≡ Ok type → AddsOnly (type ∷ []) old new → AddsSide old new want
side_adds want type old new is adds = listed_add (type ∷ []) (λ t. want ≡ Ok t) old new (only want type is) adds

pub side_outgrows : (want : Result Tree SetFault) (type : Tree) (arena : Contents) → want ≡ Ok type → Outgrows arena (type ∷ []) → OutgrowsAmong (λ t. want ≡ Ok t) arena
side_outgrows want type arena is outgrown = listed_outgrow (type ∷ []) (λ t. want ≡ Ok t) arena (only want type is) outgrown

-- Why calls stop: what stops a later call stops the whole.
pub stops_later : (fewer more : Tree → Type 0) (old middle : Contents) → ((t : Tree) → fewer t → more t) → Extends old middle → AddsAmong more old middle
    → (full : Option Bool) (fault : SetFault) (cause other : Type 0) → (cause → other) → Stops fewer middle full fault cause → Stops more old full fault other
stops_later fewer more old middle wider grown adds full OutOfMemory cause other f s = s
stops_later fewer more old middle wider grown adds full Nodes cause other f s = outgrown_before fewer more old middle wider grown adds s
stops_later fewer more old middle wider grown adds full (Env EnvMemory) cause other f s = s
stops_later fewer more old middle wider grown adds full (Env EnvNodes) cause other f s = outgrown_before fewer more old middle wider grown adds s
stops_later fewer more old middle wider grown adds full (Env TableFull) cause other f s = s
stops_later fewer more old middle wider grown adds full (Env (Unknown q)) cause other f s = f s
stops_later fewer more old middle wider grown adds full (Env (Damaged q fault)) cause other f s = f s
stops_later fewer more old middle wider grown adds full (AliasCycle q) cause other f s = f s
stops_later fewer more old middle wider grown adds full (EmbedCycle q) cause other f s = f s
stops_later fewer more old middle wider grown adds full (Arity q want have) cause other f s = f s
stops_later fewer more old middle wider grown adds full (Kind q) cause other f s = f s
stops_later fewer more old middle wider grown adds full TermInterface cause other f s = f s
stops_later fewer more old middle wider grown adds full UnionMethods cause other f s = f s
stops_later fewer more old middle wider grown adds full TooMany cause other f s = f s

pub stops_more : (fewer more : Tree → Type 0) (arena : Contents) → ((t : Tree) → fewer t → more t) → (full : Option Bool) (fault : SetFault) (cause other : Type 0) → (cause → other)
    → Stops fewer arena full fault cause → Stops more arena full fault other
stops_more fewer more arena wider full fault cause other f s =
    stops_later fewer more arena arena wider (extends_itself arena) (adds_nothing more arena) full fault cause other f s

-- The side of a name, which is put together once its declaration was found.
module _ (entry : Option Entry) (want own : Result Tree SetFault) (same : own ≡ want) where
  of_entry : (type : Tree) → Contains (entry_types entry) type → OpensSide entry want type
  of_entry type held = inl held

  of_own : (type : Tree) → own ≡ Ok type → OpensSide entry want type
  of_own type is = inr (sym same ∙ is)

  pub side_gives : (old now after : Contents) → Extends old now → AddsAmong (Contains (entry_types entry)) old now → (full : Option Bool) (result : Result ℕ SetFault)
      → GivesSide now after full result own → Gives (OpensSide entry want) old after full result want
  side_gives old now after grown adds full (Ok id) gives = (sym same ∙ gives.0, gives.1)
  side_gives old now after grown adds full (Err fault) gives =
      stops_later (λ type. own ≡ Ok type) (OpensSide entry want) old now of_own grown (adds_wider (Contains (entry_types entry)) (OpensSide entry want) old now of_entry adds) full fault
      (own ≡ Err fault) (want ≡ Err fault) (λ is. sym same ∙ is) gives

  pub side_kept : (may : QName → Type 0) (old middle : World) (before now after : Contents) → Kept may (Contains (entry_types entry)) old middle before now
      → (new : World) → new.entries ≡ middle.entries → new.names ≡ middle.names → new.packages ≡ middle.packages → new.asked ≡ middle.asked → Extends now after → AddsSide now after own
      → Kept may (OpensSide entry want) old new before after
  side_kept may old middle before now after first new entries names packages asked grown adds =
      kept_grown may (OpensSide entry want) old middle before now after
      (kept_more may may (Contains (entry_types entry)) (OpensSide entry want) old middle before now (λ q is. is) of_entry first)
      new entries names packages asked grown (adds_wider (λ type. own ≡ Ok type) (OpensSide entry want) now after of_own adds)
