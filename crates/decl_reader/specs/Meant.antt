-- What stands for the numbers of types in a declaration, and that the parts of one mean the same by two that agree on
-- their types.
use Rattle.std.specs.Prelude.{◌≡◌, ◌<◌, ℕ, List, [], ◌∷◌, ◌++◌, map, length, true}
use Rattle.std.specs.List.{AllByRecursion, flat_map}
use Rattle.go_values.specs.declared.positions.Pos.{Pos}
use Rattle.type_terms.specs.declared.descriptors.Node.{Node}
use Rattle.type_terms.specs.Shapes.{ParamOf, SigOf, FieldOf, MethodOf, TermOf, Shape, instance_of, param_map, sig_map}
use Rattle.type_terms.specs.Shapes.{field_map, method_map, term_map, param_types, sig_types, field_types, method_types}
use Rattle.type_terms.specs.Shapes.{term_types, shape_types, retype}
use Rattle.type_terms.specs.ShapeLaws.{Agree, type_agrees, sig_agrees, retype_agrees}
use Rattle.type_terms.specs.Replaced.{all_left, all_right, map_agrees}
use Rattle.type_terms.specs.Trees.{Text, Tree, Level}
use Rattle.type_terms.specs.Declarations.{ReceiverOf, Form, Decl, receiver_map, receiver_types, form_map, form_types}
use Rattle.type_terms.specs.DeclarationLaws.{form_agrees}
use Rattle.decl_spelling.specs.Spelled.{form_meant}
use Rattle.decl_spelling.specs.Tables.{Table, type_named, type_spelled}
use Rattle.block_reader.specs.declared.declarations.DeclParts.{DeclParts}
use Rattle.block_reader.specs.Parts.{form_spelled}
use Rattle.decl_spelling.specs.Descent.{is_generic}
use Rattle.decl_reader.specs.Blocks.{Entry, table_of}

-- the types that stand for numbers
abbrev pub Named : Type 0
Named = ℕ → Tree

-- the types that the numbers in a file name, by the finished descriptors and the nodes of an arena
abbrev pub named_by : ℕ → List Node → List Entry → Named
named_by version nodes entries = type_named version (table_of nodes entries)

-- ---- with types in place of numbers

abbrev pub param_meant : Named → ParamOf Pos Text ℕ → ParamOf Pos Text Tree
param_meant named x = param_map (λ (p : Pos). p) (λ (t : Text). t) (λ (t : Text). t) named x

abbrev pub sig_meant : Named → SigOf Pos Text ℕ → SigOf Pos Text Tree
sig_meant named x = sig_map (λ (p : Pos). p) (λ (t : Text). t) (λ (t : Text). t) named x

abbrev pub field_meant : Named → FieldOf Pos Text Text ℕ → FieldOf Pos Text Text Tree
field_meant named x = field_map (λ (p : Pos). p) (λ (t : Text). t) (λ (t : Text). t) named x

abbrev pub method_meant : Named → MethodOf Pos Text Text ℕ → MethodOf Pos Text Text Tree
method_meant named x = method_map (λ (p : Pos). p) (λ (t : Text). t) (λ (t : Text). t) named x

abbrev pub term_meant : Named → TermOf ℕ → TermOf Tree
term_meant named x = term_map (λ (p : Pos). p) (λ (t : Text). t) (λ (t : Text). t) named x

abbrev pub receiver_meant : Named → ReceiverOf Pos Text ℕ → ReceiverOf Pos Text Tree
receiver_meant named x = receiver_map (λ (p : Pos). p) (λ (t : Text). t) named x

abbrev pub level_meant : Named → Shape Pos Text Text ℕ → Level
level_meant named x = retype named x

abbrev pub decl_meant : Named → Form Pos Text ℕ → Decl
decl_meant named x = form_map (λ (p : Pos). p) (λ (t : Text). t) named x

-- an instance has the name of a generic type, and an argument
abbrev pub IsGenericFlat : ℕ → Table → Shape Pos Text Text ℕ → Type 0
IsGenericFlat version done (instance_of base args) =
    (is_generic (type_named version done base) ≡ true) × (0 < length args)
IsGenericFlat version done _ = Unit {0}

-- what a declaration that was read means, with the types that its numbers name
abbrev pub decl_by : ℕ → Table → DeclParts → Decl
decl_by version done parts =
    form_meant (form_map (λ pos. pos) (λ text. text) (type_spelled version done) (form_spelled parts))

abbrev pub decl_named : ℕ → List Node → List Entry → DeclParts → Decl
decl_named version nodes entries parts = decl_by version (table_of nodes entries) parts

-- ---- two that agree on its types give one meaning

module _ (f g : Named) where
  pub number_agrees : (number : ℕ) → AllByRecursion (Agree f g) (number ∷ []) → f number ≡ g number
  number_agrees number all = all.0

  pub numbers_agree : (numbers : List ℕ) → AllByRecursion (Agree f g) numbers → map f numbers ≡ map g numbers
  numbers_agree numbers all = type_agrees f g numbers all

  pub param_agrees : (x : ParamOf Pos Text ℕ) → AllByRecursion (Agree f g) (param_types x)
      → param_meant f x ≡ param_meant g x
  param_agrees x all i = record { pos = x.pos; name = x.name; type = all.0 i }

  pub signature_agrees : (x : SigOf Pos Text ℕ) → AllByRecursion (Agree f g) (sig_types x)
      → sig_meant f x ≡ sig_meant g x
  signature_agrees x all = sig_agrees f g Pos Text Text x all

  pub field_agrees : (x : FieldOf Pos Text Text ℕ) → AllByRecursion (Agree f g) (field_types x)
      → field_meant f x ≡ field_meant g x
  field_agrees x all i =
      record { origin = x.origin; pos = x.pos; name = x.name; type = all.0 i; embedded = x.embedded; tag = x.tag }

  pub method_agrees : (x : MethodOf Pos Text Text ℕ) → AllByRecursion (Agree f g) (method_types x)
      → method_meant f x ≡ method_meant g x
  method_agrees x all =
      let sig = signature_agrees x.sig all in λ i. record { origin = x.origin; pos = x.pos; name = x.name; sig = sig i }

  pub term_agrees : (x : TermOf ℕ) → AllByRecursion (Agree f g) (term_types x) → term_meant f x ≡ term_meant g x
  term_agrees x all i = record { tilde = x.tilde; type = all.0 i }

  pub receiver_agrees : (x : ReceiverOf Pos Text ℕ) → AllByRecursion (Agree f g) (receiver_types x)
      → receiver_meant f x ≡ receiver_meant g x
  receiver_agrees x all =
      let sig = signature_agrees x.sig all.1 in
      λ i. record {
        pos = x.pos;
        name = x.name;
        recv = record { pos = x.recv.pos; name = x.recv.name; type = all.0 i };
        sig = sig i;
      }

  pub level_agrees : (x : Shape Pos Text Text ℕ) → AllByRecursion (Agree f g) (shape_types x)
      → level_meant f x ≡ level_meant g x
  level_agrees x all = retype_agrees f g Pos Text Text x all

  pub decl_agrees : (x : Form Pos Text ℕ) → AllByRecursion (Agree f g) (form_types x) → decl_meant f x ≡ decl_meant g x
  decl_agrees x all = form_agrees f g Pos Text x all

-- ---- lists and pairs

abbrev pub list_meant : {S M : Type 0} → (Named → S → M) → Named → List S → List M
list_meant meant named xs = map (meant named) xs

abbrev pub both_meant : {S M S' M' : Type 0} → (Named → S → M) → (Named → S' → M') → Named → S × S' → M × M'
both_meant meant meant' named x = (meant named x.0, meant' named x.1)

pub list_agrees : {S M : Type 0} (meant : Named → S → M) (types : S → List ℕ)
    → ((f g : Named) (x : S) → AllByRecursion (Agree f g) (types x) → meant f x ≡ meant g x)
    → (f g : Named) (xs : List S) → AllByRecursion (Agree f g) (flat_map types xs) → map (meant f) xs ≡ map (meant g) xs
list_agrees meant types agrees f g xs all = map_agrees (meant f) (meant g) types (Agree f g) (agrees f g) xs all

pub both_agree : {S M S' M' : Type 0} (meant : Named → S → M) (types : S → List ℕ)
    → ((f g : Named) (x : S) → AllByRecursion (Agree f g) (types x) → meant f x ≡ meant g x)
    → (meant' : Named → S' → M') (types' : S' → List ℕ)
    → ((f g : Named) (x : S') → AllByRecursion (Agree f g) (types' x) → meant' f x ≡ meant' g x)
    → (f g : Named) (x : S × S') → AllByRecursion (Agree f g) (types x.0 ++ types' x.1)
    → both_meant meant meant' f x ≡ both_meant meant meant' g x
both_agree meant types agrees meant' types' agrees' f g x all =
    let first = agrees f g x.0 (all_left (Agree f g) (types x.0) (types' x.1) all) in
    let second = agrees' f g x.1 (all_right (Agree f g) (types x.0) (types' x.1) all) in
    λ i. (first i, second i)
