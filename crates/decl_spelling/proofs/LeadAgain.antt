-- Where a head leads, its reading finds that.
use Rattle.std.proofs.Common.{◌≡◌, ℕ, ◌+◌, ◌-◌, inl, inr, ltb, List, [], ◌∷◌, length, drop, Bool, true, false, Some, refl, sym, ap, arith}
use Rattle.std.specs.Prelude.{ℤ, pos, negsuc}
use Rattle.std.proofs.lemmas.Bool.{lt-ltb, le-ltb}
use Rattle.code_tables.specs.declared.descriptors.TypeTag.{TypeTag}
use Rattle.code_tables.specs.declared.descriptors.TypeTag.TheVariants as types
use Rattle.code_tables.specs.declared.declarations.DeclTag.{DeclTag}
use Rattle.code_tables.specs.declared.declarations.DeclTag.TheVariants as decls
use Rattle.wire_bytes.specs.Reading.{InOrder}
use Rattle.wire_bytes.specs.Begins.{Begins}
use Rattle.wire_bytes.specs.Uvarint.{BeginsWith}
use Rattle.wire_bytes.specs.Varint.{Varint, number_of, signed_of}
use Rattle.wire_bytes.proofs.Spellings.{begins_again}
use Rattle.wire_bytes.proofs.TextLemmas.{text_again}
use Rattle.wire_bytes.proofs.PrefixCodeLemmas.{signed_even, signed_odd}
use Rattle.position_codec.specs.Place.{is_odd}
use Rattle.decl_spelling.specs.Sections.{Sections}
use Rattle.decl_spelling.specs.Heads.{Lead, to_basic, to_name, HasText, HasFile, HasLine, HasPosition, HasNumbers, HasName, IsKindAt, IsNameAt, IsInstanceAt, LeadsTo, HasTParams, IsHead, front_of, find_number, find_signed, find_text, pass_file, pass_line, pass_position, pass_times, pass_numbers, find_name, kind_at, name_by, name_at, find_base, type_by, lead_at, lead_of, pass_tparams, head_lead}

number_again : (a : List ℕ) (n : ℕ) (b : List ℕ) → BeginsWith a n b → find_number a ≡ Some (n, b)
number_again a n b begins = ap front_of (begins_again a n b begins)

signed_is : (x : ℤ) → signed_of (number_of x) ≡ x
signed_is (pos n) = signed_even n
signed_is (negsuc n) = signed_odd n

signed_again : (a : List ℕ) (x : ℤ) (b : List ℕ) → Begins Varint a x b → find_signed a ≡ Some (x, b)
unfolding find_signed
signed_again a x b begins = rw (number_again a (number_of x) b begins, signed_is x) refl

text_found : (strings a text b : List ℕ) → HasText strings a text b → find_text strings a ≡ Some (text, b)
unfolding find_text
text_found strings a text b has = rw (number_again a has.0 b has.1, text_again strings has.0 text has.2) refl

file_again : (strings : List ℕ) (more : Bool) (a b : List ℕ) → HasFile strings more a b → pass_file strings more a ≡ Some b
unfolding pass_file
file_again strings false a b has = ap (λ (rest : List ℕ). Some rest) has
file_again strings true a b has = rw (text_found strings a has.0 b has.1) refl

line_again : (strings : List ℕ) (more : Bool) (a b : List ℕ) → HasLine strings more a b → pass_line strings more a ≡ Some b
unfolding pass_line
line_again strings false a b has = ap (λ (rest : List ℕ). Some rest) has
line_again strings true a b has = rw (signed_again a has.0 has.1 has.2) (file_again strings (is_odd has.0) has.1 b has.3)

position_again : (strings a b : List ℕ) → HasPosition strings a b → pass_position strings a ≡ Some b
unfolding pass_position
position_again strings a b has = rw (signed_again a has.0 has.1 has.2) (line_again strings (is_odd has.0) has.1 b has.3)

times_again : (numbers a b : List ℕ) → InOrder BeginsWith a numbers b → pass_times (length numbers) a ≡ Some b
unfolding pass_times
times_again [] a b order = ap (λ (rest : List ℕ). Some rest) order
times_again (n ∷ numbers) a b order = rw (number_again a n order.0 order.1) (times_again numbers order.0 b order.2)

numbers_again : (a b : List ℕ) → HasNumbers a b → pass_numbers a ≡ Some b
unfolding pass_numbers
numbers_again a b has = rw (number_again a (length has.0) has.1 has.3, lt-ltb 0 (length has.0) has.2) (times_again has.0 has.1 b has.4)

-- ---- descriptors

name_again : (src : Sections) (a path name : List ℕ) → HasName src a path name → find_name src a ≡ Some (to_name path name)
unfolding find_name
name_again src a path name has =
    rw (text_found src.strings a name has.at_path has.name_stands, text_found src.strings has.at_path has.text has.rest has.path_stands) (ap (λ (p : List ℕ). Some (to_name p name)) (sym has.means))

kind_again : (src : Sections) (start : ℕ) (kind : TypeTag) (a : List ℕ) → IsKindAt src start kind a → kind_at src start ≡ Some (kind, a)
unfolding kind_at
kind_again src start kind a stands = rw (number_again (drop start src.body) _ a stands.0, stands.1) refl

named_again : (src : Sections) (start : ℕ) (path name : List ℕ) → IsNameAt src start path name → name_at src start ≡ Some (to_name path name)
unfolding name_at
named_again src start path name is =
    let found = name_again src is.at_name path name is.names in
    let by : name_by src is.kind is.at_name ≡ Some (to_name path name) = elim is.its_kind [
      | inl defined ↦ rw defined found
      | inr alias ↦ rw alias found
    ] in
    rw (kind_again src start is.kind is.at_name is.stands) by

base_again : (src : Sections) (start : ℕ) (path name : List ℕ) → (is : IsInstanceAt src start path name) → find_base src is.at_pos ≡ Some (to_name path name)
unfolding find_base
base_again src start path name is =
    let offset : 32 + is.base - 32 ≡ is.base = omega arith in
    let high : ltb (32 + is.base) 32 ≡ false = le-ltb (32 + is.base) 32 (omega arith) in
    rw (position_again src.strings is.at_pos is.at_arguments is.pos, numbers_again is.at_arguments is.at_base is.arguments, number_again is.at_base (32 + is.base) is.rest is.base_stands, high, offset)
    (named_again src is.base path name is.names)

type_name_again : (src : Sections) (start : ℕ) (path name : List ℕ) → IsNameAt src start path name → lead_at src start ≡ Some (to_name path name)
unfolding lead_at
type_name_again src start path name is =
    let found = name_again src is.at_name path name is.names in
    let by : type_by src is.kind is.at_name ≡ Some (to_name path name) = elim is.its_kind [
      | inl defined ↦ rw defined found
      | inr alias ↦ rw alias found
    ] in
    rw (kind_again src start is.kind is.at_name is.stands) by

type_instance_again : (src : Sections) (start : ℕ) (path name : List ℕ) → IsInstanceAt src start path name → lead_at src start ≡ Some (to_name path name)
unfolding lead_at
type_instance_again src start path name is = rw (kind_again src start types.Instance is.at_pos is.stands) (base_again src start path name is)

number_leads_again : (src : Sections) (number : ℕ) (lead : Lead) → LeadsTo src number lead → lead_of src number ≡ Some lead
number_leads_again src number (to_basic basic) leads = rw (lt-ltb number 32 leads.0, leads.1) refl
number_leads_again src number (to_name path name) leads =
    let start = leads.0 in
    let offset : number - 32 ≡ start = omega (arith, leads.1) in
    let high : ltb number 32 ≡ false = le-ltb number 32 (omega (arith, leads.1)) in
    let found : lead_at src start ≡ Some (to_name path name) = elim leads.2 [ inl is ↦ type_name_again src start path name is | inr is ↦ type_instance_again src start path name is ] in
    rw (high, offset) found

-- ---- declarations

tparams_again : (kind : DeclTag) (a b : List ℕ) → HasTParams kind a b → pass_tparams kind a ≡ Some b
tparams_again decls.Defined a b has = ap (λ (rest : List ℕ). Some rest) has
tparams_again decls.GenericDefined a b has = numbers_again a b has
tparams_again decls.Alias a b has = ap (λ (rest : List ℕ). Some rest) has
tparams_again decls.GenericAlias a b has = numbers_again a b has
tparams_again kind a b has = absurd has

pub head_again : (src : Sections) (start : ℕ) (lead : Lead) → IsHead src start lead → head_lead src start ≡ Some lead
unfolding head_lead
head_again src start lead is =
    rw (is.letter, is.known, position_again src.strings is.at_pos is.at_tparams is.pos, tparams_again is.kind is.at_tparams is.at_type is.tparams, number_again is.at_type is.number is.rest is.type)
    (number_leads_again src is.number lead is.leads)
