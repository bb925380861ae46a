-- What an opening comes to, and what is asked for and opened on its way.
use Rattle.std.specs.Prelude.{◌≡◌, ◌⊎◌, ℕ, suc, List, ◌∷◌, ◌++◌, Bool, true, ◌||◌, None, Ok}
use Rattle.go_values.specs.declared.qualified.QName.{QName}
use Rattle.type_terms.specs.Trees.{Tree}
use Rattle.interface_opening.specs.Elements.{Interface, Opened, Looks}
use Rattle.interface_opening.specs.Opening.{Item, term, goes, opens, step, joining, inside, opened_with, none_opened}
use Rattle.replacement.specs.Expansion.{Entries, expanded}
use Rattle.replacement.specs.Calls.{AsksExpanding, OpensExpanding, AsksDefined}
use Rattle.term_tests.specs.Mentions.{IsMentioned, OpensMentioned}
use Rattle.type_sets.specs.Interfaces.{SetMethod}
use Rattle.type_sets.specs.TypeSets.{looks, set_limit, top_items}
use Rattle.interface_nodes.specs.Beneath.{OpensInterface}

-- From what is still to be done and what is known an opening comes to these later, where at most n interfaces more may
-- be opened, and then at most m.
pub data ComesTo {T Q M F : Type 0} (look : Looks T Q M F) (m : ℕ) (due : List (Item T Q)) (known : Opened T M)
    : ℕ → List (Item T Q) → Opened T M → Type 0 where
  here : ComesTo look m due known m due known
  on : (n : ℕ) (item : Item T Q) (rest : List (Item T Q)) (s t : Opened T M) → step look item rest s ≡ goes t
      → ComesTo look m due known n rest t → ComesTo look m due known n (item ∷ rest) s
  into : (n : ℕ) (item : Item T Q) (rest : List (Item T Q)) (s t : Opened T M) (x : T) (it : Interface T Q M)
      → step look item rest s ≡ opens x it t
      → ComesTo look m due known n (inside look x it ++ (joining look item x ++ rest)) (opened_with look x it t)
      → ComesTo look m due known (suc n) (item ∷ rest) s

-- What is needed of a type: X are names that are asked for, or types that are opened.
pub record Needs (X : Type 0) : Type 1 where
  -- for the tests of a term
  pub mention : Tree → X → Type 0
  -- for what it is with no alias at its head
  pub way : Tree → X → Type 0
  -- and then for the interface that its underlying type is
  pub side : Tree → X → Type 0

module _ (entries : Entries) where
  abbrev pub asks : Needs QName
  asks = record { mention = IsMentioned entries; way = AsksExpanding entries; side = AsksDefined }

  abbrev pub opened_for : Needs Tree
  opened_for = record
      { mention = OpensMentioned entries; way = OpensExpanding entries; side = OpensInterface entries }

module _ (entries : Entries) (names : List QName) where
  -- beneath a type with no alias at its head; a term that is no interface is tested
  abbrev pub AtShown : {X : Type 0} → Needs X → Tree → Tree → X → Type 0
  AtShown needs x type a = needs.side x a ⊎ (((looks entries names).beneath x ≡ Ok None) × needs.mention type a)

  -- at a term, which is tested first where it has a tilde or is one of several
  pub data AtTerm {X : Type 0} (needs : Needs X) (tested : Bool) (type : Tree) (a : X) : Type 0 where
    first : tested ≡ true → needs.mention type a → AtTerm needs tested type a
    way : needs.way type a → AtTerm needs tested type a
    shown : (x : Tree) → expanded entries names type ≡ Ok x → AtShown needs x type a → AtTerm needs tested type a

  abbrev pub AtItem : {X : Type 0} → Needs X → Item Tree QName → X → Type 0
  AtItem needs (term holder several x) a = AtTerm needs (several || x.tilde) x.type a
  AtItem needs _ a = ⊥

  -- at what an opening comes to
  pub record OnWay {X : Type 0} (needs : Needs X) (n : ℕ) (items : List (Item Tree QName)) (s : Opened Tree SetMethod)
      (a : X) : Type 0 where
    pub left : ℕ
    pub item : Item Tree QName
    pub rest : List (Item Tree QName)
    pub known : Opened Tree SetMethod
    pub comes : ComesTo (looks entries names) left (item ∷ rest) known n items s
    pub at : AtItem needs item a

  -- as a type is opened
  abbrev pub AsksOpening : Tree → QName → Type 0
  AsksOpening type = OnWay (asks entries) set_limit (top_items entries names type) none_opened

  abbrev pub OpensOpening : Tree → Tree → Type 0
  OpensOpening type = OnWay (opened_for entries) set_limit (top_items entries names type) none_opened
