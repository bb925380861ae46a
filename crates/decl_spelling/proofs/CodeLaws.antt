-- A number stands for the value whose code it is.
use Rattle.std.proofs.Common.{◌≡◌, ◌≢◌, ℕ, Bool, true, false, List, [], ◌∷◌, ◌&&◌, cond, Option, Some, None, refl, sym, ap, subst, ◌∙◌, inl, inr}
use Rattle.std.specs.Prelude.{◌==◌, nat_le, IfSome, IfNone, slice_index}
use Rattle.std.proofs.lemmas.Bool.{eqb-true}
use Rattle.code_tables.specs.declared.predeclared.Basic.{Basic}
use Rattle.code_tables.specs.declared.predeclared.Basic.TheVariants as b
use Rattle.code_tables.specs.declared.descriptors.TypeTag.{TypeTag}
use Rattle.code_tables.specs.declared.descriptors.TypeTag.TheVariants as t
use Rattle.code_tables.specs.declared.declarations.DeclTag.{DeclTag}
use Rattle.code_tables.specs.declared.declarations.DeclTag.TheVariants as d
use Rattle.code_tables.specs.Basic.{basic_code, basic_number, basic_values}
use Rattle.code_tables.specs.TypeTag.{type_tag_code, type_tag_number, type_tag_values}
use Rattle.code_tables.specs.DeclTag.{decl_tag_code, decl_tag_number, decl_tag_values}
use Rattle.wire_bytes.proofs.Steps.{chosen}
use Rattle.type_terms.specs.declared.literals.Dir.{Dir}
use Rattle.type_terms.specs.declared.literals.Dir.TheVariants.{Receive, Send, Both}
use Rattle.decl_spelling.specs.Codes.{coded, basic_of, type_tag_of, in_version_1, in_version, decl_tag_of, dir_of}
use Rattle.decl_spelling.specs.Grammar.{dir_number}

-- ---- a table of codes

module _ {T : Type 0} (code : T → ℕ) where
  some_is : (x y : T) → Some x ≡ Some y → x ≡ y
  some_is x y e = cc

  pub coded_takes : (values : List T) (n : ℕ) (v : T) → coded code values n ≡ Some v → code v ≡ n
  coded_takes [] n v e = absurd cc
  coded_takes (value ∷ values) n v e =
      elim (chosen (code value == n) (Some value) (coded code values n) (Some v) e) [
        | inl here ↦ ap code (sym (some_is value v here.1)) ∙ eqb-true (code value) n here.0
        | inr later ↦ coded_takes values n v later.1
      ]

  -- and back, where each value is found by its code
  pub coded_gives : (values : List T) → ((v : T) → coded code values (code v) ≡ Some v) → (n : ℕ) (v : T) → code v ≡ n → coded code values n ≡ Some v
  coded_gives values found n v e = subst (λ m. coded code values m ≡ Some v) e (found v)

  -- what a table answers at a number, where each value is found by its code
  pub is_coded : (values : List T) → ((v : T) → coded code values (code v) ≡ Some v) → (n : ℕ) (result : Option T) → IfSome result (λ v. code v ≡ n) → IfNone result ((v : T) → code v ≢ n)
      → result ≡ coded code values n
  is_coded values found n (Some v) has missing = sym (coded_gives values found n v has)
  is_coded values found n None has missing = sym (by (coded code values n) refl)
    where
      by : (o : Option T) → coded code values n ≡ o → o ≡ None
      by (Some v) e = absurd (missing v (coded_takes values n v e))
      by None e = refl

  -- the same of a table that has each value's code at its number
  pub table_answers : (values : List T) → ((v : T) → coded code values (code v) ≡ Some v) → (number : T → ℕ) (codes : List ℕ) → ((v : T) → slice_index codes (number v) ≡ code v) → (n : ℕ) (result : Option T)
      → IfSome result (λ v. slice_index codes (number v) ≡ n) → IfNone result ((v : T) → slice_index codes (number v) ≢ n) → result ≡ coded code values n
  table_answers values found number codes its n (Some v) has missing = is_coded values found n (Some v) (sym (its v) ∙ has) tt
  table_answers values found number codes its n None has missing = is_coded values found n None tt (λ v e. missing v (its v ∙ e))

pub basic_again : (v : Basic) → coded basic_code basic_values (basic_code v) ≡ Some v
basic_again b.Bool = refl
basic_again b.Int = refl
basic_again b.Int8 = refl
basic_again b.Int16 = refl
basic_again b.Int32 = refl
basic_again b.Int64 = refl
basic_again b.Uint = refl
basic_again b.Uint8 = refl
basic_again b.Uint16 = refl
basic_again b.Uint32 = refl
basic_again b.Uint64 = refl
basic_again b.Uintptr = refl
basic_again b.Float32 = refl
basic_again b.Float64 = refl
basic_again b.Complex64 = refl
basic_again b.Complex128 = refl
basic_again b.String = refl
basic_again b.Byte = refl
basic_again b.Rune = refl
basic_again b.Error = refl
basic_again b.UntypedBool = refl
basic_again b.UntypedInt = refl
basic_again b.UntypedRune = refl
basic_again b.UntypedFloat = refl
basic_again b.UntypedComplex = refl
basic_again b.UntypedString = refl
basic_again b.UntypedNil = refl
basic_again b.UnsafePointer = refl
basic_again b.Comparable = refl
basic_again b.Any = refl

pub type_tag_again : (v : TypeTag) → coded type_tag_code type_tag_values (type_tag_code v) ≡ Some v
type_tag_again t.Defined = refl
type_tag_again t.Pointer = refl
type_tag_again t.Slice = refl
type_tag_again t.Array = refl
type_tag_again t.Chan = refl
type_tag_again t.Map = refl
type_tag_again t.Signature = refl
type_tag_again t.Struct = refl
type_tag_again t.Interface = refl
type_tag_again t.TypeParameter = refl
type_tag_again t.Instance = refl
type_tag_again t.Union = refl
type_tag_again t.Alias = refl

pub decl_tag_again : (v : DeclTag) → coded decl_tag_code decl_tag_values (decl_tag_code v) ≡ Some v
decl_tag_again d.Var = refl
decl_tag_again d.Func = refl
decl_tag_again d.GenericFunc = refl
decl_tag_again d.Const = refl
decl_tag_again d.Defined = refl
decl_tag_again d.GenericDefined = refl
decl_tag_again d.Alias = refl
decl_tag_again d.GenericAlias = refl
decl_tag_again d.TypeParameter = refl

-- ---- what the tables of codes answer

pub basics_answer : (codes : List ℕ) → ((v : Basic) → slice_index codes (basic_number v) ≡ basic_code v) → (n : ℕ) (result : Option Basic)
    → IfSome result (λ v. slice_index codes (basic_number v) ≡ n) → IfNone result ((v : Basic) → slice_index codes (basic_number v) ≢ n) → result ≡ coded basic_code basic_values n
basics_answer codes its n result = table_answers basic_code basic_values basic_again basic_number codes its n result

pub type_tags_answer : (codes : List ℕ) → ((v : TypeTag) → slice_index codes (type_tag_number v) ≡ type_tag_code v) → (n : ℕ) (result : Option TypeTag)
    → IfSome result (λ v. slice_index codes (type_tag_number v) ≡ n) → IfNone result ((v : TypeTag) → slice_index codes (type_tag_number v) ≢ n) → result ≡ coded type_tag_code type_tag_values n
type_tags_answer codes its n result = table_answers type_tag_code type_tag_values type_tag_again type_tag_number codes its n result

pub decl_tags_answer : (codes : List ℕ) → ((v : DeclTag) → slice_index codes (decl_tag_number v) ≡ decl_tag_code v) → (n : ℕ) (result : Option DeclTag)
    → IfSome result (λ v. slice_index codes (decl_tag_number v) ≡ n) → IfNone result ((v : DeclTag) → slice_index codes (decl_tag_number v) ≢ n) → result ≡ coded decl_tag_code decl_tag_values n
decl_tags_answer codes its n result = table_answers decl_tag_code decl_tag_values decl_tag_again decl_tag_number codes its n result

-- ---- in a version

version_takes : {T : Type 0} (code : T → ℕ) (values : List T) (hidden : Bool) (n : ℕ) (v : T) → cond hidden None (coded code values n) ≡ Some v → code v ≡ n
version_takes code values true n v e = absurd cc
version_takes code values false n v e = coded_takes code values n v e

pub basic_of_takes : (version n : ℕ) (v : Basic) → basic_of version n ≡ Some v → basic_code v ≡ n
basic_of_takes version n v e = version_takes basic_code basic_values ((version == 1) && nat_le 28 n) n v e

pub type_tag_of_takes : (version n : ℕ) (v : TypeTag) → type_tag_of version n ≡ Some v → type_tag_code v ≡ n
type_tag_of_takes version n v e = version_takes type_tag_code type_tag_values ((version == 1) && nat_le 9 n) n v e

in_version_1_is : (tag v : DeclTag) → in_version_1 tag ≡ Some v → tag ≡ v
in_version_1_is d.GenericFunc v e = absurd cc
in_version_1_is d.GenericDefined v e = absurd cc
in_version_1_is d.GenericAlias v e = absurd cc
in_version_1_is d.TypeParameter v e = absurd cc
in_version_1_is tag v e = cc

pub decl_tag_of_takes : (version n : ℕ) (v : DeclTag) → decl_tag_of version n ≡ Some v → decl_tag_code v ≡ n
decl_tag_of_takes version n v e = by (coded decl_tag_code decl_tag_values n) refl e
  where
    by : (o : Option DeclTag) → coded decl_tag_code decl_tag_values n ≡ o → in_version version o ≡ Some v → decl_tag_code v ≡ n
    by (Some tag) found e =
        let same : tag ≡ v = elim (chosen (version == 1) (in_version_1 tag) (Some tag) (Some v) e) [ inl first ↦ in_version_1_is tag v first.1 | inr later ↦ some_is decl_tag_code tag v later.1 ] in
        coded_takes decl_tag_code decl_tag_values n v (found ∙ ap (λ (t : DeclTag). Some t) same)
    by None found e = absurd cc

pub dir_takes : (n : ℕ) (dir : Dir) → dir_of n ≡ Some dir → n ≡ dir_number dir
dir_takes n dir e =
    elim (chosen (n == 1) (Some Receive) (cond (n == 2) (Some Send) (cond (n == 3) (Some Both) None)) (Some dir) e) [
      | inl one ↦ eqb-true n 1 one.0 ∙ ap dir_number (dir_is Receive dir one.1)
      | inr more ↦ elim (chosen (n == 2) (Some Send) (cond (n == 3) (Some Both) None) (Some dir) more.1) [
        | inl two ↦ eqb-true n 2 two.0 ∙ ap dir_number (dir_is Send dir two.1)
        | inr most ↦ elim (chosen (n == 3) (Some Both) None (Some dir) most.1) [
          | inl three ↦ eqb-true n 3 three.0 ∙ ap dir_number (dir_is Both dir three.1)
          | inr none ↦ absurd (let no = none.1 in cc)
        ]
      ]
    ]
  where
    dir_is : (x y : Dir) → Some x ≡ Some y → x ≡ y
    dir_is x y e = cc

pub dir_again : (dir : Dir) → dir_of (dir_number dir) ≡ Some dir
dir_again Receive = refl
dir_again Send = refl
dir_again Both = refl
