-- A declaration that is read is spelled.
use Rattle.std.proofs.Common.{◌≡◌, ℕ, ◌≤◌, List, [], ◌∷◌, length, drop, map, All, Bool, true, false, Result, Ok, Err, Option, Some, None, refl, sym, ◌∙◌, ap, subst}
use Rattle.std.specs.List.{flat_map, AllByRecursion}
use Rattle.std.proofs.lemmas.List.Elements.{All-from_recursion}
use Rattle.code_tables.specs.declared.predeclared.Basic.{Basic}
use Rattle.code_tables.specs.DeclTag.{decl_tag_code}
use Rattle.wire_bytes.specs.Reading.{place, ◌>>=◌}
use Rattle.wire_bytes.proofs.Steps.{bind_ok, done_is}
use Rattle.wire_bytes.proofs.Spellings.{IsBytes}
use Rattle.type_terms.specs.Replaced.{all_left, all_right, all_append}
use Rattle.type_terms.specs.Trees.{Tree}
use Rattle.type_terms.specs.Declarations.{constant_of, defined_of, receiver_types, form_types, Decl}
use Rattle.decl_spelling.specs.declared.mention.Demand.TheVariants.{Any, Parameter, Underlying}
use Rattle.decl_spelling.specs.Sections.{Sections, Basics, window}
use Rattle.decl_spelling.specs.Spelled.{SpelledText, SpelledPos, SpelledType, form_meant}
use Rattle.decl_spelling.specs.Codes.{decl_tag_of}
use Rattle.decl_spelling.specs.Reading.{Ahead, Stopped, start, list_at}
use Rattle.decl_spelling.specs.Tables.{Table, type_named, type_spelled}
use Rattle.decl_spelling.specs.Descent.{meets, resolve_all, block_at}
use Rattle.decl_spelling.specs.Constants.{Spelling, Kind, spelled, floating, none, kind_of, basic_type, spelling_by, spelling_at, value_at}
use Rattle.decl_spelling.specs.Declarations.{FlatForm, Receiver, Head, whole, of_type, of_constant, head_at, receiver_at, resolved, has_methods, Read, read, methods_of, after_type, fault_alone, after_constant, after_head, read_at, decl_of, spelled_of, decl_at}
use Rattle.decl_spelling.specs.Grammar.{Here}
use Rattle.decl_spelling.specs.Spelling.{Known, Names, nowhere, here, number_of, same_pos, same_text, IsMethods, IsValue, IsForm, SpellsDecl, spelled_with}
use Rattle.decl_spelling.specs.Asks.{Ask, asking}
use Rattle.decl_spelling.proofs.Took.{Fits, seen_from, IsHead, IsHeadParts, kind_of_head, head_asks, IsValueOf}
use Rattle.decl_spelling.proofs.ValueReaders.{kind_spelling}
use Rattle.decl_spelling.proofs.FlatLaws.{head_took, receivers_took, value_took}
use Rattle.decl_spelling.proofs.TableLaws.{blocks_of, has_none}
use Rattle.decl_spelling.specs.KnownTypes.{Kept}
use Rattle.decl_spelling.proofs.KnownTypeLemmas.{known_named, known_still, named_still}
use Rattle.decl_spelling.proofs.Windows.{behind, byte_within}
use Rattle.decl_spelling.proofs.RetypeLemmas.{form_twice, form_same}
use Rattle.decl_spelling.proofs.AskLemmas.{IsMet, asks_from, mentions_met}
use Rattle.decl_spelling.proofs.TypeTakes.{Fine, all_known}
use Rattle.decl_spelling.proofs.MapLemmas.{all_weaker, all_map}
use Rattle.decl_spelling.proofs.BlockTakes.{window_fits, here_is, block_takes}
use Rattle.decl_spelling.proofs.Forms.{form_asks, form_all, whole_asks, form_types_map, with_tree, with_types, kind_same, receivers_numbers, generic_list, form_stands, Meets}

-- ---- what single steps say

abbrev pub blank : Ahead → Ahead
blank a = record { spot = a.spot; before = a.before; mentions = [] }

pub resolved_ok : {X : Type 0} (src : Sections) (offset : ℕ) (r : Result (X × Ahead) Stopped) (done : Table) (y : (X × Ahead) × Table) → resolved src offset r done ≡ Ok y
    → (x : X × Ahead) × (r ≡ Ok x) × (resolve_all src (block_at src offset) offset (x.1).mentions done ≡ Ok y.1) × ((x.0, blank x.1) ≡ y.0)
resolved_ok src offset (Ok x) done y e =
    let types = bind_ok (resolve_all src (block_at src offset) offset (x.1).mentions done) (λ known. Ok ((x.0, blank x.1), known)) y e in
    let same = done_is ((x.0, blank x.1), types.0) y types.2 in
    (x, refl, types.1 ∙ ap (λ z. Ok z.1) same, ap (λ z. z.0) same)
resolved_ok src offset (Err s) done y e =
    let types = bind_ok (resolve_all src (block_at src offset) offset s.mentions done) (λ known. Err s.fault) y e in
    absurd (let err = types.2 in cc)

kind_ok : (at : ℕ) (kind : Kind) (spelling : Spelling) → spelling_by at kind ≡ Ok spelling → kind ≡ spelled spelling
kind_ok at (spelled s) spelling e = ap spelled (done_is s spelling e)
kind_ok at floating spelling e = absurd (cc)
kind_ok at none spelling e = absurd (cc)

pub spelling_ok : (at : ℕ) (a : Option Basic) (spelling : Spelling) → spelling_at at a ≡ Ok spelling → (basic : Basic) × (a ≡ Some basic) × (kind_of basic ≡ spelled spelling)
spelling_ok at (Some basic) spelling e = (basic, refl, kind_ok at (kind_of basic) spelling e)
spelling_ok at None spelling e = absurd (cc)

pub fault_ok : {X : Type 0} (r : Result X Stopped) (x : X) → fault_alone r ≡ Ok x → r ≡ Ok x
fault_ok (Ok y) x e = ap (λ z. Ok z) (done_is y x e)
fault_ok (Err s) x e = absurd (cc)

met_still : (src : Sections) (done known : Table) (holder : ℕ) (asks : List Ask) → Kept done known → AllByRecursion (IsMet src done holder) asks → AllByRecursion (IsMet src known holder) asks
met_still src done known holder asks kept =
    all_weaker (IsMet src done holder) (IsMet src known holder)
    (λ ask met. (known_still src done known holder ask.0 kept met.0, ap (meets ask.1) (named_still src done known holder ask.0 kept met.0) ∙ met.1)) asks

all_meets : (src : Sections) (done : Table) (holder : ℕ) (asks : List Ask) → AllByRecursion (IsMet src done holder) asks → AllByRecursion (Meets (type_named src.version done)) asks
all_meets src done holder = all_weaker (IsMet src done holder) (Meets (type_named src.version done)) (λ ask met. met.1)

pub fine_none : (src : Sections) → Fine src []
fine_none src = record { rising = tt; sound = record { each = λ b has. absurd (has_none b has); apart = λ a b has_a has_b. absurd (has_none a has_a) } }

-- what was read is spelled, with the same parts
abbrev pub Spells : Sections → Basics → ℕ → Read → Type 0
Spells src basics offset x = (spells : SpellsDecl src basics offset (decl_of src x)) × (spelled_with spells ≡ spelled_of x)

-- ---- a declaration that was read, and its types

-- the byte of the kind, and what is left behind it
abbrev pub IsBegun : Sections → ℕ → List ℕ → Head → Type 0
IsBegun src offset rest head = (drop offset src.body ≡ decl_tag_code (kind_of_head head) ∷ rest) × (decl_tag_of src.version (decl_tag_code (kind_of_head head)) ≡ Some (kind_of_head head))

abbrev pub parts_at : List ℕ → Here
parts_at rest = record { left = rest; before = nowhere }

module _ (src : Sections) (basics : Basics) (offset : ℕ) (done : Table) (fine : Fine src done) (rest : List ℕ) where
  abbrev types : ℕ → Tree
  types = type_named src.version done

  pub spells : (form : FlatForm) (value : Option ℕ) (end : ℕ) (after : Here) → IsBegun src offset rest (whole form) → IsForm src basics (parts_at rest) (with_types types form) value after → AllByRecursion (IsMet src done offset) (form_asks form)
      → Spells src basics offset (record { form = form; value = value; end = end; table = done })
  spells form value end after begins stands met =
      let each : AllByRecursion (λ n. Names src (blocks_of done) offset (with_tree types n)) (form_types form)
      = form_all (IsMet src done offset) (λ n. Names src (blocks_of done) offset (with_tree types n)) (λ t asked known. known_named src done offset t known.0) form met in (
        record {
          blocks = blocks_of done;
          sound = fine.sound;
          parts = with_types types form;
          value = value;
          rest = rest;
          after = after;
          kind = begins.0 ∙ ap (λ kind. decl_tag_code kind ∷ rest) (sym (kind_same types form));
          known = subst (λ kind. decl_tag_of src.version (decl_tag_code kind) ≡ Some kind) (sym (kind_same types form)) begins.1;
          stands = stands;
          named = subst (λ (xs : List Known). All (Names src (blocks_of done) offset) xs) (sym (form_types_map same_pos same_text (with_tree types) form))
              (All-from_recursion (Names src (blocks_of done) offset) (map (with_tree types) (form_types form)) (all_map (Names src (blocks_of done) offset) (with_tree types) (form_types form) each));
          meant = ap form_meant (sym (form_twice (with_tree types) (λ (x : Known). x.tree) SpelledPos SpelledText form));
        },
        λ i. record { form = (form_twice (with_tree types) number_of SpelledPos SpelledText form ∙ form_same SpelledPos SpelledText form) i; value = value },
      )

  pub read_spells : (form : FlatForm) (value : Option ℕ) (a : Ahead) (after : Here) (x : Read) → IsBegun src offset rest (whole form) → IsForm src basics (parts_at rest) (with_types types form) value after → AllByRecursion (IsMet src done offset) (form_asks form) → read form value a done ≡ Ok x
      → Spells src basics offset x
  read_spells form value a after x begins stands met e =
      subst (Spells src basics offset) (done_is (record { form = form; value = value; end = place a.spot; table = done }) x e) (spells form value (place a.spot) after begins stands met)

  -- a defined type
  pub defined_stands : (pos : SpelledPos) (tparams : List SpelledType) (underlying : SpelledType) (methods : List Receiver) (b after : Here) → IsHeadParts src (parts_at rest) (of_type pos tparams underlying) b
      → AllByRecursion (Meets types) (head_asks (of_type pos tparams underlying)) → IsMethods src (has_methods (types underlying.number)) b methods after
      → IsForm src basics (parts_at rest) (with_types types (defined_of pos tparams underlying methods)) None after
  defined_stands pos tparams underlying methods b after parts met own =
      let behind : List Ask = (underlying.number, Underlying) ∷ [] in (
        parts.0,
        parts.1,
        b,
        parts.2,
        generic_list types parts.0 tparams parts.1 parts.3 (all_left (Meets types) (asking Parameter tparams) behind met),
        parts.4,
        (all_right (Meets types) (asking Parameter tparams) behind met).0,
        subst (λ (xs : List Receiver). IsMethods src (has_methods (types underlying.number)) b xs after) (sym (receivers_numbers types methods)) own,
        refl,
      )

  defined_asks : (pos : SpelledPos) (tparams : List SpelledType) (underlying : SpelledType) (methods : List Receiver) → AllByRecursion (IsMet src done offset) (head_asks (of_type pos tparams underlying))
      → AllByRecursion (IsMet src done offset) (asking Any (flat_map receiver_types methods)) → AllByRecursion (IsMet src done offset) (form_asks (defined_of pos tparams underlying methods))
  defined_asks pos tparams underlying methods head own =
      let behind : List Ask = (underlying.number, Underlying) ∷ [] in
      let all : List Ask = (underlying.number, Underlying) ∷ asking Any (flat_map receiver_types methods) in
      all_append (IsMet src done offset) (asking Parameter tparams) all (all_left (IsMet src done offset) (asking Parameter tparams) behind head) ((all_right (IsMet src done offset) (asking Parameter tparams) behind head).0, own)

-- ---- a declaration that is read

module _ (src : Sections) (basics : Basics) (strings : IsBytes src.strings) (bytes : IsBytes src.body) where
  module _ (offset : ℕ) (within : offset ≤ length src.body) (rest tail : List ℕ) (a : Ahead) (no_mentions : a.mentions ≡ []) (fits : Fits a) where
    methods_taken : (pos : SpelledPos) (tparams : List SpelledType) (underlying : SpelledType) (done : Table) (x : Read) → Fine src done → IsBegun src offset rest (of_type pos tparams underlying)
        → IsHeadParts src (parts_at rest) (of_type pos tparams underlying) (seen_from a tail) → AllByRecursion (IsMet src done offset) (head_asks (of_type pos tparams underlying))
        → has_methods (type_spelled src.version done underlying) ≡ true → after_type src offset pos tparams underlying a done true ≡ Ok x → Spells src basics offset x
    methods_taken pos tparams underlying done x fine begins parts met own e =
        let both = bind_ok (resolved src offset (list_at (receiver_at src) a) done) (methods_of pos tparams underlying) x e in
        let y = both.0 in
        let list = resolved_ok src offset (list_at (receiver_at src) a) done y both.1 in
        let methods = (list.0).0 in
        let b = (list.0).1 in
        let taken = receivers_took src strings a fits methods b list.1 in
        let types = all_known src (block_at src offset) (block_takes src strings bytes offset) offset within b.mentions done y.1 fine list.2 in
        let asked = asks_from a b (asking Any (flat_map receiver_types methods)) no_mentions taken.went in
        let own_met = mentions_met src y.1 offset b.mentions (asking Any (flat_map receiver_types methods)) asked types.1 in
        let head_met = met_still src done y.1 offset (head_asks (of_type pos tparams underlying)) types.0.kept met in
        let types_met = all_meets src y.1 offset (head_asks (of_type pos tparams underlying)) head_met in
        let underlying_met = (all_right (IsMet src done offset) (asking Parameter tparams) ((underlying.number, Underlying) ∷ []) met).0 in
        let still : has_methods (type_spelled src.version y.1 underlying) ≡ true = ap has_methods (named_still src done y.1 offset underlying.number types.0.kept underlying_met.0) ∙ own in
        let stands : IsMethods src (has_methods (type_spelled src.version y.1 underlying)) (seen_from a tail) methods (seen_from b tail)
        = subst (λ (c : Bool). IsMethods src c (seen_from a tail) methods (seen_from b tail)) (sym still) (taken.stands tail) in
        let form : FlatForm = defined_of pos tparams underlying methods in
        let spelled_so = defined_stands src basics offset y.1 types.0.fine rest pos tparams underlying methods (seen_from a tail) (seen_from b tail) parts types_met stands in
        let asks_met = defined_asks src basics offset y.1 types.0.fine rest pos tparams underlying methods head_met own_met in
        let same : (methods, blank b) ≡ y.0 = list.3 in
        read_spells src basics offset y.1 types.0.fine rest form None (blank b) (seen_from b tail) x begins spelled_so asks_met
        (ap (λ (z : List Receiver × Ahead). read (defined_of pos tparams underlying z.0) None z.1 y.1) same ∙ both.2)

    no_methods_taken : (pos : SpelledPos) (tparams : List SpelledType) (underlying : SpelledType) (done : Table) (x : Read) → Fine src done → IsBegun src offset rest (of_type pos tparams underlying)
        → IsHeadParts src (parts_at rest) (of_type pos tparams underlying) (seen_from a tail) → AllByRecursion (IsMet src done offset) (head_asks (of_type pos tparams underlying))
        → has_methods (type_spelled src.version done underlying) ≡ false → after_type src offset pos tparams underlying a done false ≡ Ok x → Spells src basics offset x
    no_methods_taken pos tparams underlying done x fine begins parts met own e =
        let stands : IsMethods src (has_methods (type_spelled src.version done underlying)) (seen_from a tail) [] (seen_from a tail)
        = subst (λ (c : Bool). IsMethods src c (seen_from a tail) [] (seen_from a tail)) (sym own) (refl, refl) in
        let types_met = all_meets src done offset (head_asks (of_type pos tparams underlying)) met in
        read_spells src basics offset done fine rest (defined_of pos tparams underlying []) None a (seen_from a tail) x begins
        (defined_stands src basics offset done fine rest pos tparams underlying [] (seen_from a tail) (seen_from a tail) parts types_met stands)
        (defined_asks src basics offset done fine rest pos tparams underlying [] met tt) e

    constant_taken : (pos : SpelledPos) (type : SpelledType) (at : ℕ) (done : Table) (x : Read) → Fine src done → IsBegun src offset rest (of_constant pos type at)
        → IsHeadParts src (parts_at rest) (of_constant pos type at) (seen_from a tail) → AllByRecursion (IsMet src done offset) (head_asks (of_constant pos type at))
        → after_constant src basics pos type at a done ≡ Ok x → Spells src basics offset x
    constant_taken pos type at done x fine begins parts met e =
        let tree = type_spelled src.version done type in
        let chosen = bind_ok (spelling_at at (basic_type basics tree)) (λ spelling. fault_alone (value_at src spelling a) >>= λ value. read (constant_of pos type (value.0).value) (value.0).offset value.1 done) x e in
        let valued = bind_ok (fault_alone (value_at src chosen.0 a)) (λ value. read (constant_of pos type (value.0).value) (value.0).offset value.1 done) x chosen.2 in
        let basic = spelling_ok at (basic_type basics tree) chosen.0 chosen.1 in
        let taken = value_took src chosen.0 (kind_spelling basic.0 chosen.0 basic.2) strings a fits valued.0.0 valued.0.1 (fault_ok (value_at src chosen.0 a) valued.0 valued.1) in
        let stands : IsValueOf src chosen.0 (seen_from a tail) valued.0.0 (seen_from valued.0.1 tail) = taken.stands tail in
        let value : IsValue src basics tree (seen_from a tail) valued.0.0 (seen_from valued.0.1 tail)
        = record { basic = basic.0; spelling = chosen.0; at_value = stands.0; its_basic = basic.1; its_spelling = basic.2; kind = stands.1; spelled_value = stands.2 } in
        read_spells src basics offset done fine rest (constant_of pos type (valued.0.0).value) (valued.0.0).offset valued.0.1 (seen_from valued.0.1 tail) x begins (parts.0, seen_from a tail, parts.1, parts.2, value) met valued.2

    type_taken : (pos : SpelledPos) (tparams : List SpelledType) (underlying : SpelledType) (done : Table) (x : Read) → Fine src done → IsBegun src offset rest (of_type pos tparams underlying)
        → IsHeadParts src (parts_at rest) (of_type pos tparams underlying) (seen_from a tail) → AllByRecursion (IsMet src done offset) (head_asks (of_type pos tparams underlying))
        → (own : Bool) → has_methods (type_spelled src.version done underlying) ≡ own → after_type src offset pos tparams underlying a done own ≡ Ok x → Spells src basics offset x
    type_taken pos tparams underlying done x fine begins parts met true own e = methods_taken pos tparams underlying done x fine begins parts met own e
    type_taken pos tparams underlying done x fine begins parts met false own e = no_methods_taken pos tparams underlying done x fine begins parts met own e

    after_taken : (head : Head) (done : Table) (x : Read) → Fine src done → IsBegun src offset rest head → IsHeadParts src (parts_at rest) head (seen_from a tail) → AllByRecursion (IsMet src done offset) (head_asks head)
        → after_head src basics offset head a done ≡ Ok x → Spells src basics offset x
    after_taken (whole form) done x fine begins parts met e =
        read_spells src basics offset done fine rest form None a (seen_from a tail) x begins
        (form_stands (type_named src.version done) src basics (parts_at rest) form (seen_from a tail) parts (all_meets src done offset (head_asks (whole form)) met))
        (whole_asks (IsMet src done offset) (λ n. Unit {0}) (λ t asked met. tt) src (parts_at rest) form (seen_from a tail) parts met) e
    after_taken (of_type pos tparams underlying) done x fine begins parts met e = type_taken pos tparams underlying done x fine begins parts met (has_methods (type_spelled src.version done underlying)) refl e
    after_taken (of_constant pos type at) done x fine begins parts met e = constant_taken pos type at done x fine begins parts met e

  pub read_takes : (offset : ℕ) (x : Read) → read_at src basics offset ≡ Ok x → Spells src basics offset x
  unfolding read_at
  read_takes offset x e =
      let to = length src.body in
      let s = start (window src offset to) in
      let tail = behind src.body offset to in
      let both = bind_ok (resolved src offset (head_at src s) []) (λ head. after_head src basics offset (head.0).0 (head.0).1 head.1) x e in
      let y = both.0 in
      let first = resolved_ok src offset (head_at src s) [] y both.1 in
      let head = (first.0).0 in
      let b = (first.0).1 in
      let taken = head_took src strings s (window_fits src offset to bytes) head b first.1 in
      let stands : IsHead src (here src offset) head (seen_from b tail) = subst (λ (a : Here). IsHead src a head (seen_from b tail)) (here_is src offset to) (taken.stands tail) in
      let within : offset ≤ length src.body = byte_within src.body offset (decl_tag_code (kind_of_head head)) stands.rest stands.kind in
      let types = all_known src (block_at src offset) (block_takes src strings bytes offset) offset within b.mentions [] y.1 (fine_none src) first.2 in
      let met = mentions_met src y.1 offset b.mentions (head_asks head) (asks_from s b (head_asks head) refl taken.went) types.1 in
      let same : (head, blank b) ≡ y.0 = first.3 in
      after_taken offset within stands.rest tail (blank b) refl (record { bytes = taken.went.fits.bytes; line = taken.went.fits.line; column = taken.went.fits.column }) head y.1 x types.0.fine (stands.kind, stands.known) stands.parts met
      (ap (λ (z : Head × Ahead). after_head src basics offset z.0 z.1 y.1) same ∙ both.2)

  pub decl_takes : (offset : ℕ) (d : Decl) → decl_at src basics offset ≡ Ok d → SpellsDecl src basics offset d
  decl_takes offset d e =
      let both = bind_ok (read_at src basics offset) (λ x. Ok (decl_of src x)) d e in
      subst (SpellsDecl src basics offset) (done_is (decl_of src both.0) d both.2) (read_takes offset both.0 both.1).0
