-- What two calls keep and add, one after the other, and a want of room in the later one.
use Rattle.std.proofs.Common.{◌≡◌, ℕ, ◌<◌, ◌≤◌, ◌⊎◌, zero, suc, List, [], ◌∷◌, length, Option, Some, None}
use Rattle.std.proofs.Common.{refl, sym, subst, ◌∙◌, inl, inr, arith}
use Rattle.std.specs.List.{Contains}
use Rattle.std.proofs.lemmas.Bool.{cases_lt}
use Rattle.go_values.specs.declared.qualified.QName.{QName}
use Rattle.type_terms.specs.Additions.{IsDenoted, AddsOnly, Outgrows}
use Rattle.type_terms.specs.Arenas.{Contents, Extends}
use Rattle.type_terms.specs.Denotation.{tree}
use Rattle.type_terms.specs.Extensions.{extends_itself, extends_again, extends_tree}
use Rattle.type_terms.specs.Trees.{Tree}
use Rattle.environments.specs.Environments.{Entry, AsksOnly, entry_types}
use Rattle.environments.specs.Kept.{World, AsksAmong, Kept, OpensBehind}
use Rattle.environments.specs.OpenedTypes.{StandsAmong, AddsAmong, OutgrowsAmong}

-- What calls ask for.

pub asks_itself : (may : QName → Type 0) (asked : Option (List QName)) → AsksAmong may asked asked
asks_itself may (Some names) = (λ name held. inl held, λ name held. held)
asks_itself may None = tt

pub asks_one : (q : QName) (old new : Option (List QName)) → AsksOnly old q new → AsksAmong (λ name. name ≡ q) old new
asks_one q (Some old) (Some new) asks = asks
asks_one q None None asks = tt
asks_one q (Some old) None asks = absurd asks
asks_one q None (Some new) asks = absurd asks

pub asks_again : (may : QName → Type 0) (old middle new : Option (List QName)) → AsksAmong may old middle
    → AsksAmong may middle new → AsksAmong may old new
asks_again may (Some old) (Some middle) (Some new) first second = (
  λ name held. elim (second.0 name held) [ inl early ↦ first.0 name early | inr late ↦ inr late ],
  λ name held. second.1 name (first.1 name held),
)
asks_again may None None None first second = tt
asks_again may (Some old) None new first second = absurd first
asks_again may None (Some middle) new first second = absurd first
asks_again may (Some old) (Some middle) None first second = absurd second
asks_again may None None (Some new) first second = absurd second

pub asks_more : (may more : QName → Type 0) (old new : Option (List QName)) → ((q : QName) → may q → more q)
    → AsksAmong may old new → AsksAmong more old new
asks_more may more (Some old) (Some new) wider asks =
    (λ name held. elim (asks.0 name held) [ inl early ↦ inl early | inr late ↦ inr (wider name late) ], asks.1)
asks_more may more None None wider asks = tt
asks_more may more (Some old) None wider asks = absurd asks
asks_more may more None (Some new) wider asks = absurd asks

-- What calls add.

pub among_wider : (fewer more : Tree → Type 0) → ((t : Tree) → fewer t → more t) → (type : Tree)
    → StandsAmong fewer type → StandsAmong more type
among_wider fewer more wider type stands = (stands.0, wider stands.0 stands.1, stands.2)

pub adds_nothing : (opens : Tree → Type 0) (arena : Contents) → AddsAmong opens arena arena
adds_nothing opens arena = λ number from below. absurd (omega arith)

pub adds_wider : (fewer more : Tree → Type 0) (old new : Contents) → ((t : Tree) → fewer t → more t)
    → AddsAmong fewer old new → AddsAmong more old new
adds_wider fewer more old new wider adds = λ number from below.
    among_wider fewer more wider (tree new.nodes number) (adds number from below)

pub adds_again : (opens : Tree → Type 0) (old middle new : Contents) → Extends middle new → AddsAmong opens old middle
    → AddsAmong opens middle new → AddsAmong opens old new
adds_again opens old middle new grown first second = λ number from below.
    by number from below (cases_lt number (length middle.nodes))
  where
    by : (number : ℕ) → length old.nodes ≤ number → number < length new.nodes
        → (number < length middle.nodes) ⊎ (length middle.nodes ≤ number) → StandsAmong opens (tree new.nodes number)
    by number from below (inl early) =
        subst (StandsAmong opens) (sym (extends_tree middle new grown number early)) (first number from early)
    by number from below (inr late) = second number late below

-- what stands in a list of types, stands in all types that are opened
pub listed_add : (types : List Tree) (opens : Tree → Type 0) (old new : Contents)
    → ((t : Tree) → Contains types t → opens t) → AddsOnly types old new → AddsAmong opens old new
listed_add types opens old new each adds = adds_wider (Contains types) opens old new each adds

-- a list of one has that one
pub one_of : (type other : Tree) → Contains (type ∷ []) other → type ≡ other
one_of type other (zero, within, is) = is
one_of type other (suc k, within, is) = absurd (omega arith)

-- Why there is no room.

-- what a list of types outgrows, all types that are opened do
pub listed_outgrow : (types : List Tree) (opens : Tree → Type 0) (arena : Contents)
    → ((t : Tree) → Contains types t → opens t) → Outgrows arena types → OutgrowsAmong opens arena
listed_outgrow types opens arena each outgrown = record {
  trees = outgrown.trees;
  apart = outgrown.apart;
  known = λ type held. elim (outgrown.known type held) [
    | inl denoted ↦ inl denoted
    | inr stands ↦ inr (stands.0, each stands.0 stands.1, stands.2)
  ];
  many = outgrown.many;
}

-- a want of room in a later call is one of the arena at entry
pub outgrown_before : (fewer more : Tree → Type 0) (old middle : Contents) → ((t : Tree) → fewer t → more t)
    → Extends old middle → AddsAmong more old middle → OutgrowsAmong fewer middle → OutgrowsAmong more old
outgrown_before fewer more old middle wider grown adds outgrown = record {
  trees = outgrown.trees;
  apart = outgrown.apart;
  known = λ type held. known type (outgrown.known type held);
  many = subst (λ limit. limit < length outgrown.trees) grown.limit outgrown.many;
}
  where
    denoted : (type : Tree) (n : ℕ) → n < length middle.nodes → tree middle.nodes n ≡ type
        → (n < length old.nodes) ⊎ (length old.nodes ≤ n) → IsDenoted old.nodes type ⊎ StandsAmong more type
    denoted type n below is (inl early) = inl (n, early, sym (extends_tree old middle grown n early) ∙ is)
    denoted type n below is (inr late) = inr (subst (StandsAmong more) is (adds n late below))

    known : (type : Tree) → IsDenoted middle.nodes type ⊎ StandsAmong fewer type
        → IsDenoted old.nodes type ⊎ StandsAmong more type
    known type (inl (n, below, is)) = denoted type n below is (cases_lt n (length old.nodes))
    known type (inr stands) = inr (among_wider fewer more wider type stands)

pub outgrown_wider : (fewer more : Tree → Type 0) (arena : Contents) → ((t : Tree) → fewer t → more t)
    → OutgrowsAmong fewer arena → OutgrowsAmong more arena
outgrown_wider fewer more arena wider outgrown =
    outgrown_before fewer more arena arena wider (extends_itself arena) (adds_nothing more arena) outgrown

-- What calls keep.

pub kept_itself : (may : QName → Type 0) (opens : Tree → Type 0) (w : World) (arena : Contents)
    → Kept may opens w w arena arena
kept_itself may opens w arena = record {
  entries = refl;
  names = refl;
  packages = refl;
  asked = asks_itself may w.asked;
  extends = extends_itself arena;
  adds = adds_nothing opens arena;
}

pub kept_again : (may : QName → Type 0) (opens : Tree → Type 0) (old middle new : World)
    (before between after : Contents) → Kept may opens old middle before between
    → Kept may opens middle new between after → Kept may opens old new before after
kept_again may opens old middle new before between after first second = record {
  entries = second.entries ∙ first.entries;
  names = second.names ∙ first.names;
  packages = second.packages ∙ first.packages;
  asked = asks_again may old.asked middle.asked new.asked first.asked second.asked;
  extends = extends_again before between after first.extends second.extends;
  adds = adds_again opens before between after second.extends first.adds second.adds;
}

pub kept_more : (may more : QName → Type 0) (opens wider : Tree → Type 0) (old new : World) (before after : Contents)
    → ((q : QName) → may q → more q) → ((t : Tree) → opens t → wider t) → Kept may opens old new before after
    → Kept more wider old new before after
kept_more may more opens wider old new before after asks_of opens_of kept = record {
  entries = kept.entries;
  names = kept.names;
  packages = kept.packages;
  asked = asks_more may more old.asked new.asked asks_of kept.asked;
  extends = kept.extends;
  adds = adds_wider opens wider before after opens_of kept.adds;
}

-- an arena was extended, and what an environment means stayed
pub kept_grown : (may : QName → Type 0) (opens : Tree → Type 0) (old middle : World) (before between after : Contents)
    → Kept may opens old middle before between → (new : World) → new.entries ≡ middle.entries
    → new.names ≡ middle.names → new.packages ≡ middle.packages → new.asked ≡ middle.asked → Extends between after
    → AddsAmong opens between after → Kept may opens old new before after
kept_grown may opens old middle before between after first new entries names packages asked grown adds = record {
  entries = entries ∙ first.entries;
  names = names ∙ first.names;
  packages = packages ∙ first.packages;
  asked = subst (AsksAmong may old.asked) (sym asked) first.asked;
  extends = extends_again before between after first.extends grown;
  adds = adds_again opens before between after grown first.adds adds;
}

-- What stands behind names.

pub behind_one : (entries : QName → Option Entry) (may : QName → Type 0) (q : QName) → may q → (type : Tree)
    → Contains (entry_types (entries q)) type → OpensBehind entries may type
behind_one entries may q is type held = (q, is, held)

pub behind_wider : (entries : QName → Option Entry) (may more : QName → Type 0) → ((q : QName) → may q → more q)
    → (type : Tree) → OpensBehind entries may type → OpensBehind entries more type
behind_wider entries may more wider type opened = (opened.0, wider opened.0 opened.1, opened.2)

-- one name was asked for
pub kept_by_declare : (q : QName) (old new : World) (before after : Contents) → new.entries ≡ old.entries
    → new.names ≡ old.names → new.packages ≡ old.packages → AsksOnly old.asked q new.asked → Extends before after
    → AddsOnly (entry_types (old.entries q)) before after
    → Kept (λ name. name ≡ q) (OpensBehind old.entries (λ name. name ≡ q)) old new before after
kept_by_declare q old new before after entries names packages asks extends adds = record {
  entries = entries;
  names = names;
  packages = packages;
  asked = asks_one q old.asked new.asked asks;
  extends = extends;
  adds = listed_add (entry_types (old.entries q)) (OpensBehind old.entries (λ name. name ≡ q)) before after
      (behind_one old.entries (λ name. name ≡ q) q refl) adds;
}

pub outgrown_by_declare : (entries : QName → Option Entry) (q : QName) (arena : Contents)
    → Outgrows arena (entry_types (entries q)) → OutgrowsAmong (OpensBehind entries (λ name. name ≡ q)) arena
outgrown_by_declare entries q arena outgrown =
    listed_outgrow (entry_types (entries q)) (OpensBehind entries (λ name. name ≡ q)) arena
    (behind_one entries (λ name. name ≡ q) q refl) outgrown
