-- Where the reading of a head finds that it leads, it leads.
use Rattle.std.proofs.Common.{◌≡◌, ℕ, zero, suc, ◌+◌, ◌-◌, ◌<◌, ◌≤◌, ◌⊎◌, inl, inr, ltb, cond, List, [], ◌∷◌, length, drop, Bool, true, false, Option, Some, None, Ok, Err, refl, sym, ap, subst, ◌∙◌, arith}
use Rattle.std.specs.Prelude.{ℤ}
use Rattle.std.specs.Option.{option_map}
use Rattle.std.proofs.lemmas.Bool.{ltb-true, ltb-false}
use Rattle.code_tables.specs.declared.predeclared.Basic.{Basic}
use Rattle.code_tables.specs.declared.descriptors.TypeTag.{TypeTag}
use Rattle.code_tables.specs.declared.descriptors.TypeTag.TheVariants as types
use Rattle.code_tables.specs.declared.declarations.DeclTag.{DeclTag}
use Rattle.code_tables.specs.declared.declarations.DeclTag.TheVariants as decls
use Rattle.code_tables.specs.TypeTag.{type_tag_code}
use Rattle.code_tables.specs.DeclTag.{decl_tag_code}
use Rattle.wire_bytes.specs.Reading.{InOrder}
use Rattle.wire_bytes.specs.Begins.{Begins}
use Rattle.wire_bytes.specs.Uvarint.{Uvarint, BeginsWith, Front, uvarint_in}
use Rattle.wire_bytes.specs.Varint.{Varint, signed_of}
use Rattle.wire_bytes.specs.Text.{text_in}
use Rattle.wire_bytes.proofs.Steps.{chosen}
use Rattle.wire_bytes.proofs.Spellings.{IsBytes, IsBytes-rest, uvarint_takes}
use Rattle.wire_bytes.proofs.TextLemmas.{IsBytes-drop, text_takes}
use Rattle.wire_bytes.proofs.CursorLemmas.{IsBytes-behind}
use Rattle.position_codec.specs.Place.{is_odd}
use Rattle.file_parts.specs.Paths.{meant}
use Rattle.decl_spelling.specs.Sections.{Sections}
use Rattle.decl_spelling.specs.Codes.{basic_of, type_tag_of, decl_tag_of}
use Rattle.decl_spelling.specs.Heads.{Lead, to_basic, to_name, HasText, HasFile, HasLine, HasPosition, HasNumbers, HasName, IsKindAt, IsNameAt, IsInstanceAt, LeadsTo, HasTParams, IsHead, ◌>>=◌, front_of, find_number, find_signed, find_text, pass_file, pass_line, pass_position, pass_times, pass_numbers, find_name, kind_at, name_by, name_at, find_base, type_by, lead_at, lead_of, pass_tparams, find_byte, head_lead}
use Rattle.decl_spelling.proofs.ValueTakes.{number_again}
use Rattle.decl_spelling.proofs.CodeLaws.{type_tag_of_takes, decl_tag_of_takes}

-- ---- steps

bind_some : {A B : Type 0} (o : Option A) (f : A → Option B) (y : B) → (o >>= f) ≡ Some y → (x : A) × (o ≡ Some x) × (f x ≡ Some y)
bind_some (Some x) f y e = (x, refl, e)
bind_some None f y e = absurd cc

some_is : {A : Type 0} (x y : A) → Some x ≡ Some y → x ≡ y
some_is x y e = cc

-- ---- numbers and texts

front_is : (front : Front) (x : ℕ × List ℕ) → front_of front ≡ Some x → front ≡ Ok x
front_is (Ok y) x e = ap (λ (z : ℕ × List ℕ). Ok z) (some_is y x e)
front_is (Err d) x e = absurd cc

number_taken : (a : List ℕ) (n : ℕ) (b : List ℕ) → IsBytes a → find_number a ≡ Some (n, b) → BeginsWith a n b × IsBytes b
number_taken a n b fits e =
    let begins = uvarint_takes a n b fits (front_is (uvarint_in a) (n, b) e) in
    (begins, IsBytes-behind begins.0 b a begins.2 fits)

signed_taken : (a : List ℕ) (x : ℤ) (b : List ℕ) → IsBytes a → find_signed a ≡ Some (x, b) → Begins Varint a x b × IsBytes b
unfolding find_signed
signed_taken a x b fits e =
    let first = bind_some (find_number a) (λ number. Some (signed_of number.0, number.1)) (x, b) e in
    let number = number_taken a first.0.0 first.0.1 fits first.1 in
    subst (λ (p : ℤ × List ℕ). Begins Varint a p.0 p.1 × IsBytes p.1) (some_is (signed_of first.0.0, first.0.1) (x, b) first.2)
    ((number.0.0, subst (Uvarint number.0.0) (sym (number_again first.0.0)) number.0.1, number.0.2), number.1)

text_taken : (strings a text b : List ℕ) → IsBytes strings → IsBytes a → find_text strings a ≡ Some (text, b) → HasText strings a text b × IsBytes b
unfolding find_text
text_taken strings a text b inside fits e =
    let first = bind_some (find_number a) (λ offset. text_in strings offset.0 >>= λ text. Some (text, offset.1)) (text, b) e in
    let second = bind_some (text_in strings first.0.0) (λ text. Some (text, first.0.1)) (text, b) first.2 in
    let number = number_taken a first.0.0 first.0.1 fits first.1 in
    subst (λ (p : List ℕ × List ℕ). HasText strings a p.0 p.1 × IsBytes p.1) (some_is (second.0, first.0.1) (text, b) second.2)
    ((first.0.0, number.0, text_takes strings first.0.0 second.0 inside second.1), number.1)

-- ---- positions

stay : (a b : List ℕ) → IsBytes a → Some a ≡ Some b → (a ≡ b) × IsBytes b
stay a b fits e = let same = some_is a b e in (same, subst IsBytes same fits)

file_passed : (strings : List ℕ) (more : Bool) (a b : List ℕ) → IsBytes strings → IsBytes a → pass_file strings more a ≡ Some b → HasFile strings more a b × IsBytes b
unfolding pass_file
file_passed strings false a b inside fits e = stay a b fits e
file_passed strings true a b inside fits e =
    let first = bind_some (find_text strings a) (λ text. Some text.1) b e in
    let text = text_taken strings a first.0.0 first.0.1 inside fits first.1 in
    subst (λ (rest : List ℕ). HasFile strings true a rest × IsBytes rest) (some_is first.0.1 b first.2) ((first.0.0, text.0), text.1)

line_passed : (strings : List ℕ) (more : Bool) (a b : List ℕ) → IsBytes strings → IsBytes a → pass_line strings more a ≡ Some b → HasLine strings more a b × IsBytes b
unfolding pass_line
line_passed strings false a b inside fits e = stay a b fits e
line_passed strings true a b inside fits e =
    let first = bind_some (find_signed a) (λ line. pass_file strings (is_odd line.0) line.1) b e in
    let line = signed_taken a first.0.0 first.0.1 fits first.1 in
    let file = file_passed strings (is_odd first.0.0) first.0.1 b inside line.1 first.2 in
    ((first.0.0, first.0.1, line.0, file.0), file.1)

position_passed : (strings a b : List ℕ) → IsBytes strings → IsBytes a → pass_position strings a ≡ Some b → HasPosition strings a b × IsBytes b
unfolding pass_position
position_passed strings a b inside fits e =
    let first = bind_some (find_signed a) (λ column. pass_line strings (is_odd column.0) column.1) b e in
    let column = signed_taken a first.0.0 first.0.1 fits first.1 in
    let line = line_passed strings (is_odd first.0.0) first.0.1 b inside column.1 first.2 in
    ((first.0.0, first.0.1, column.0, line.0), line.1)

-- ---- lists of numbers

times_passed : (n : ℕ) (a b : List ℕ) → IsBytes a → pass_times n a ≡ Some b → ((numbers : List ℕ) × (length numbers ≡ n) × InOrder BeginsWith a numbers b) × IsBytes b
unfolding pass_times
times_passed zero a b fits e = let same = stay a b fits e in (([], refl, same.0), same.1)
times_passed (suc n) a b fits e =
    let first = bind_some (find_number a) (λ number. pass_times n number.1) b e in
    let number = number_taken a first.0.0 first.0.1 fits first.1 in
    let others = times_passed n first.0.1 b number.1 first.2 in
    ((first.0.0 ∷ others.0.0, ap suc others.0.1, (first.0.1, number.0, others.0.2)), others.1)

numbers_passed : (a b : List ℕ) → IsBytes a → pass_numbers a ≡ Some b → HasNumbers a b × IsBytes b
unfolding pass_numbers
numbers_passed a b fits e =
    let first = bind_some (find_number a) (λ count. cond (ltb 0 count.0) (pass_times count.0 count.1) None) b e in
    let count = number_taken a first.0.0 first.0.1 fits first.1 in
    elim (chosen (ltb 0 first.0.0) (pass_times first.0.0 first.0.1) None (Some b) first.2) [
      | inl some ↦
          let times = times_passed first.0.0 first.0.1 b count.1 some.1 in
          ((times.0.0, first.0.1, subst (λ (n : ℕ). 0 < n) (sym times.0.1) (ltb-true 0 first.0.0 some.0), subst (λ (n : ℕ). BeginsWith a n first.0.1) (sym times.0.1) count.0, times.0.2), times.1)
      | inr empty ↦ absurd (let none = empty.1 in cc)
    ]

-- ---- descriptors

-- what leads to a name, and to no predeclared type
abbrev pub ToName : (List ℕ → List ℕ → Type 0) → Lead → Type 0
ToName Leads (to_basic basic) = ⊥
ToName Leads (to_name path name) = Leads path name

pub to_name_as : (F G : List ℕ → List ℕ → Type 0) → ((path name : List ℕ) → F path name → G path name) → (lead : Lead) → ToName F lead → ToName G lead
to_name_as F G then (to_basic basic) leads = leads
to_name_as F G then (to_name path name) leads = then path name leads

-- a file's own bytes
pub record AreBytes (src : Sections) : Type 0 where
  pub strings : IsBytes src.strings
  pub body : IsBytes src.body

name_found : (src : Sections) (a : List ℕ) (lead : Lead) → AreBytes src → IsBytes a → find_name src a ≡ Some lead → ToName (HasName src a) lead
unfolding find_name
name_found src a lead are fits e =
    let first = bind_some (find_text src.strings a) (λ name. find_text src.strings name.1 >>= λ text. Some (to_name (meant src.own text.0) name.0)) lead e in
    let second = bind_some (find_text src.strings first.0.1) (λ text. Some (to_name (meant src.own text.0) first.0.0)) lead first.2 in
    let name = text_taken src.strings a first.0.0 first.0.1 are.strings fits first.1 in
    let text = text_taken src.strings first.0.1 second.0.0 second.0.1 are.strings name.1 second.1 in
    subst (ToName (HasName src a)) (some_is (to_name (meant src.own second.0.0) first.0.0) lead second.2)
    (record { at_path = first.0.1; rest = second.0.1; text = second.0.0; name_stands = name.0; path_stands = text.0; means = refl })

kind_found : (src : Sections) (start : ℕ) (kind : TypeTag) (a : List ℕ) → AreBytes src → kind_at src start ≡ Some (kind, a) → IsKindAt src start kind a × IsBytes a
unfolding kind_at
kind_found src start kind a are e =
    let first = bind_some (find_number (drop start src.body)) (λ number. type_tag_of src.version number.0 >>= λ kind. Some (kind, number.1)) (kind, a) e in
    let second = bind_some (type_tag_of src.version first.0.0) (λ kind. Some (kind, first.0.1)) (kind, a) first.2 in
    let number = number_taken (drop start src.body) first.0.0 first.0.1 (IsBytes-drop start src.body are.body) first.1 in
    let code : first.0.0 ≡ type_tag_code second.0 = sym (type_tag_of_takes src.version first.0.0 second.0 second.1) in
    subst (λ (p : TypeTag × List ℕ). IsKindAt src start p.0 p.1 × IsBytes p.1) (some_is (second.0, first.0.1) (kind, a) second.2)
    ((subst (λ (n : ℕ). BeginsWith (drop start src.body) n first.0.1) code number.0, subst (λ (n : ℕ). type_tag_of src.version n ≡ Some second.0) code second.1), number.1)

named_by : (src : Sections) (start : ℕ) (kind : TypeTag) (a : List ℕ) (lead : Lead) → AreBytes src → IsKindAt src start kind a → IsBytes a → name_by src kind a ≡ Some lead → ToName (IsNameAt src start) lead
named_by src start types.Defined a lead are stands fits e =
    to_name_as (HasName src a) (IsNameAt src start) (λ path name names. record { kind = types.Defined; at_name = a; its_kind = inl refl; stands = stands; names = names }) lead (name_found src a lead are fits e)
named_by src start types.Alias a lead are stands fits e =
    to_name_as (HasName src a) (IsNameAt src start) (λ path name names. record { kind = types.Alias; at_name = a; its_kind = inr refl; stands = stands; names = names }) lead (name_found src a lead are fits e)
named_by src start kind a lead are stands fits e = absurd cc

named_found : (src : Sections) (start : ℕ) (lead : Lead) → AreBytes src → name_at src start ≡ Some lead → ToName (IsNameAt src start) lead
unfolding name_at
named_found src start lead are e =
    let first = bind_some (kind_at src start) (λ kind. name_by src kind.0 kind.1) lead e in
    let kind = kind_found src start first.0.0 first.0.1 are first.1 in
    named_by src start first.0.0 first.0.1 lead are kind.0 kind.1 first.2

base_found : (src : Sections) (start : ℕ) (a : List ℕ) (lead : Lead) → AreBytes src → IsKindAt src start types.Instance a → IsBytes a → find_base src a ≡ Some lead → ToName (IsInstanceAt src start) lead
unfolding find_base
base_found src start a lead are stands fits e =
    let first = bind_some (pass_position src.strings a) (λ at_arguments. pass_numbers at_arguments >>= λ at_base. find_number at_base >>= λ base. cond (ltb base.0 32) None (name_at src (base.0 - 32))) lead e in
    let second = bind_some (pass_numbers first.0) (λ at_base. find_number at_base >>= λ base. cond (ltb base.0 32) None (name_at src (base.0 - 32))) lead first.2 in
    let third = bind_some (find_number second.0) (λ base. cond (ltb base.0 32) None (name_at src (base.0 - 32))) lead second.2 in
    let pos = position_passed src.strings a first.0 are.strings fits first.1 in
    let arguments = numbers_passed first.0 second.0 pos.1 second.1 in
    let base = number_taken second.0 third.0.0 third.0.1 arguments.1 third.1 in
    elim (chosen (ltb third.0.0 32) None (name_at src (third.0.0 - 32)) (Some lead) third.2) [
      | inl low ↦ absurd (let none = low.1 in cc)
      | inr high ↦
          let above : 32 ≤ third.0.0 = ltb-false third.0.0 32 high.0 in
          let number : third.0.0 ≡ 32 + (third.0.0 - 32) = omega arith in
          to_name_as (IsNameAt src (third.0.0 - 32)) (IsInstanceAt src start) (λ path name names. record {
            at_pos = a;
            at_arguments = first.0;
            at_base = second.0;
            rest = third.0.1;
            base = third.0.0 - 32;
            stands = stands;
            pos = pos.0;
            arguments = arguments.0;
            base_stands = subst (λ (n : ℕ). BeginsWith second.0 n third.0.1) number base.0;
            names = names;
          }) lead (named_found src (third.0.0 - 32) lead are high.1)
    ]

abbrev IsTypeAt : Sections → ℕ → List ℕ → List ℕ → Type 0
IsTypeAt src start path name = IsNameAt src start path name ⊎ IsInstanceAt src start path name

type_by_found : (src : Sections) (start : ℕ) (kind : TypeTag) (a : List ℕ) (lead : Lead) → AreBytes src → IsKindAt src start kind a → IsBytes a → type_by src kind a ≡ Some lead → ToName (IsTypeAt src start) lead
type_by_found src start types.Instance a lead are stands fits e = to_name_as (IsInstanceAt src start) (IsTypeAt src start) (λ path name leads. inr leads) lead (base_found src start a lead are stands fits e)
type_by_found src start kind a lead are stands fits e = to_name_as (IsNameAt src start) (IsTypeAt src start) (λ path name leads. inl leads) lead (named_by src start kind a lead are stands fits e)

type_found : (src : Sections) (start : ℕ) (lead : Lead) → AreBytes src → lead_at src start ≡ Some lead → ToName (IsTypeAt src start) lead
unfolding lead_at
type_found src start lead are e =
    let first = bind_some (kind_at src start) (λ kind. type_by src kind.0 kind.1) lead e in
    let kind = kind_found src start first.0.0 first.0.1 are first.1 in
    type_by_found src start first.0.0 first.0.1 lead are kind.0 kind.1 first.2

basic_leads : (src : Sections) (number : ℕ) (o : Option Basic) (lead : Lead) → number < 32 → basic_of src.version number ≡ o → option_map to_basic o ≡ Some lead → LeadsTo src number lead
basic_leads src number (Some basic) lead low is e = subst (LeadsTo src number) (some_is (to_basic basic) lead e) (low, is)
basic_leads src number None lead low is e = absurd cc

name_leads : (src : Sections) (number : ℕ) (lead : Lead) → 32 ≤ number → ToName (IsTypeAt src (number - 32)) lead → LeadsTo src number lead
name_leads src number (to_basic basic) high leads = absurd leads
name_leads src number (to_name path name) high leads = (number - 32, omega arith, leads)

number_leads : (src : Sections) (number : ℕ) (lead : Lead) → AreBytes src → lead_of src number ≡ Some lead → LeadsTo src number lead
number_leads src number lead are e =
    elim (chosen (ltb number 32) (option_map to_basic (basic_of src.version number)) (lead_at src (number - 32)) (Some lead) e) [
      | inl low ↦ basic_leads src number (basic_of src.version number) lead (ltb-true number 32 low.0) refl low.1
      | inr high ↦ name_leads src number lead (ltb-false number 32 high.0) (type_found src (number - 32) lead are high.1)
    ]

-- ---- declarations

tparams_passed : (kind : DeclTag) (a b : List ℕ) → IsBytes a → pass_tparams kind a ≡ Some b → HasTParams kind a b × IsBytes b
tparams_passed decls.Defined a b fits e = stay a b fits e
tparams_passed decls.GenericDefined a b fits e = numbers_passed a b fits e
tparams_passed decls.Alias a b fits e = stay a b fits e
tparams_passed decls.GenericAlias a b fits e = numbers_passed a b fits e
tparams_passed kind a b fits e = absurd cc

byte_found : (a : List ℕ) (byte : ℕ) (b : List ℕ) → IsBytes a → find_byte a ≡ Some (byte, b) → (a ≡ byte ∷ b) × IsBytes b
byte_found [] byte b fits e = absurd cc
byte_found (first ∷ rest) byte b fits e =
    let same = some_is (first, rest) (byte, b) e in
    (ap (λ (p : ℕ × List ℕ). p.0 ∷ p.1) same, subst (λ (p : ℕ × List ℕ). IsBytes p.1) same (IsBytes-rest first rest fits))

pub head_taken : (src : Sections) (start : ℕ) (lead : Lead) → AreBytes src → head_lead src start ≡ Some lead → IsHead src start lead
unfolding head_lead
head_taken src start lead are e =
    let first = bind_some (find_byte (drop start src.body)) (λ letter. decl_tag_of src.version letter.0 >>= λ kind. pass_position src.strings letter.1 >>= λ at_tparams. pass_tparams kind at_tparams >>= λ at_type. find_number at_type >>= λ number. lead_of src number.0) lead e in
    let second = bind_some (decl_tag_of src.version first.0.0) (λ kind. pass_position src.strings first.0.1 >>= λ at_tparams. pass_tparams kind at_tparams >>= λ at_type. find_number at_type >>= λ number. lead_of src number.0) lead first.2 in
    let kind = second.0 in
    let third = bind_some (pass_position src.strings first.0.1) (λ at_tparams. pass_tparams kind at_tparams >>= λ at_type. find_number at_type >>= λ number. lead_of src number.0) lead second.2 in
    let fourth = bind_some (pass_tparams kind third.0) (λ at_type. find_number at_type >>= λ number. lead_of src number.0) lead third.2 in
    let fifth = bind_some (find_number fourth.0) (λ number. lead_of src number.0) lead fourth.2 in
    let letter = byte_found (drop start src.body) first.0.0 first.0.1 (IsBytes-drop start src.body are.body) first.1 in
    let code : first.0.0 ≡ decl_tag_code kind = sym (decl_tag_of_takes src.version first.0.0 kind second.1) in
    let pos = position_passed src.strings first.0.1 third.0 are.strings letter.1 third.1 in
    let tparams = tparams_passed kind third.0 fourth.0 pos.1 fourth.1 in
    let number = number_taken fourth.0 fifth.0.0 fifth.0.1 tparams.1 fifth.1 in
    record {
      kind = kind;
      at_pos = first.0.1;
      at_tparams = third.0;
      at_type = fourth.0;
      rest = fifth.0.1;
      number = fifth.0.0;
      letter = letter.0 ∙ ap (λ (b : ℕ). b ∷ first.0.1) code;
      known = subst (λ (n : ℕ). decl_tag_of src.version n ≡ Some kind) code second.1;
      pos = pos.0;
      tparams = tparams.0;
      type = number.0;
      leads = number_leads src fifth.0.0 lead are fifth.2;
    }
