-- A declaration that is spelled is read.
use Rattle.std.proofs.Common.{◌≡◌, ℕ, ◌≤◌, List, [], ◌∷◌, length, map, Bool, true, false, Result, Ok, Option, Some, None, refl, sym, ◌∙◌, ap, subst, arith}
use Rattle.std.specs.List.{flat_map, AllByRecursion}
use Rattle.code_tables.specs.declared.predeclared.Basic.{Basic}
use Rattle.wire_bytes.specs.declared.fault.ByteFault.{ByteFault}
use Rattle.wire_bytes.specs.Reading.{place, ◌>>=◌}
use Rattle.wire_bytes.proofs.Spellings.{IsBytes}
use Rattle.type_terms.specs.Replaced.{all_left, all_right, all_append}
use Rattle.type_terms.specs.DeclarationLaws.{form_agrees}
use Rattle.type_terms.specs.Declarations.{ReceiverOf, var_of, function_of, constant_of, defined_of, renamed_of, type_parameter_of, receiver_types, form_types, form_map}
use Rattle.decl_spelling.specs.declared.mention.Demand.TheVariants.{Any, Parameter, Underlying}
use Rattle.decl_spelling.specs.Sections.{Sections, Basics}
use Rattle.decl_spelling.specs.Spelled.{SpelledText, SpelledPos, SpelledType, SpelledConst}
use Rattle.decl_spelling.specs.Reading.{Ahead, Stopped, list_at}
use Rattle.decl_spelling.specs.Tables.{Table, type_named, type_spelled}
use Rattle.decl_spelling.specs.Descent.{resolve_all, block_at}
use Rattle.decl_spelling.specs.Constants.{Spelling, spelled, kind_of, basic_type, spelling_at, value_at}
use Rattle.decl_spelling.specs.Declarations.{FlatForm, Receiver, Head, whole, of_type, of_constant, receiver_at, resolved, has_methods, Read, methods_of, after_type, after_constant, after_head}
use Rattle.decl_spelling.specs.Grammar.{Here, IsList}
use Rattle.decl_spelling.specs.Spelling.{Block, Known, Names, Sound, KnownForm, numbers, number_of, same_pos, same_text, numbered_receiver, IsReceiver, IsMethods, IsValue}
use Rattle.decl_spelling.specs.Asks.{Ask, asking}
use Rattle.decl_spelling.proofs.Took.{Fits, seen_from, head_asks, unplaced_head}
use Rattle.decl_spelling.proofs.ValueReaders.{kind_spelling}
use Rattle.decl_spelling.proofs.FlatLaws.{receivers_took, receivers_again, value_again}
use Rattle.decl_spelling.specs.KnownTypes.{Kept, IsKnown}
use Rattle.decl_spelling.proofs.KnownTypeLemmas.{known_still}
use Rattle.decl_spelling.proofs.RetypeLemmas.{form_twice}
use Rattle.decl_spelling.proofs.AskLemmas.{IsNamed, asks_from, any_named}
use Rattle.decl_spelling.proofs.TypeAgain.{Inside, mentions_named, tree_is, all_again}
use Rattle.decl_spelling.proofs.BlockAgain.{all_asked, block_again}
use Rattle.decl_spelling.proofs.Forms.{form_asks, form_all, form_types_map, receivers_types_map}
use Rattle.decl_spelling.proofs.DeclarationHeads.{flat_form, head_of, IsRest}
use Rattle.decl_spelling.proofs.DeclTakes.{blank}
use Rattle.decl_spelling.proofs.MapLemmas.{all_weaker, all_unmap, all_both}

-- ---- a head without the place of its typeOff

pub asks_unplaced : (x : Head) → head_asks (unplaced_head x) ≡ head_asks x
asks_unplaced (whole form) = refl
asks_unplaced (of_type pos tparams type) = refl
asks_unplaced (of_constant pos type at) = refl

whole_is : (y : Head) (form : FlatForm) → unplaced_head y ≡ whole form → y ≡ whole form
whole_is (whole other) form e = e
whole_is (of_type pos tparams type) form e = e
whole_is (of_constant pos type at) form e = absurd (cc)

type_is : (y : Head) (pos : SpelledPos) (tparams : List SpelledType) (type : SpelledType) → unplaced_head y ≡ of_type pos tparams type → y ≡ of_type pos tparams type
type_is (whole other) pos tparams type e = e
type_is (of_type p ts t) pos tparams type e = e
type_is (of_constant p t at) pos tparams type e = absurd (cc)

constant_is : (y : Head) (pos : SpelledPos) (type : SpelledType) → unplaced_head y ≡ of_constant pos type 0 → (at : ℕ) × (y ≡ of_constant pos type at)
constant_is (whole other) pos type e = absurd (cc)
constant_is (of_type p ts t) pos type e = absurd (cc)
constant_is (of_constant p t at) pos type e =
    let positions : p ≡ pos = (cc) in
    let types : t ≡ type = (cc) in
    (at, λ i. of_constant (positions i) (types i) at)

-- ---- the steps

-- one step, and then what it leads to
pub next_done : {A B : Type 0} (r : Result A ByteFault) (f : A → Result B ByteFault) (x : A) (y : B) → r ≡ Ok x → f x ≡ Ok y → (r >>= f) ≡ Ok y
next_done r f x y is leads = ap (λ r. r >>= f) is ∙ leads

pub resolved_done : {X : Type 0} (src : Sections) (offset : ℕ) (r : Result (X × Ahead) Stopped) (x : X × Ahead) (done known : Table) → r ≡ Ok x → resolve_all src (block_at src offset) offset (x.1).mentions done ≡ Ok known
    → resolved src offset r done ≡ Ok ((x.0, blank x.1), known)
resolved_done src offset r x done known is types = rw (is, types) refl

spelling_done : (at : ℕ) (a : Option Basic) (basic : Basic) (spelling : Spelling) → a ≡ Some basic → kind_of basic ≡ spelled spelling → spelling_at at a ≡ Ok spelling
spelling_done at a basic spelling is kind = rw is (rw kind refl)

known_still_all : (src : Sections) (done known : Table) (holder : ℕ) (asks : List Ask) → Kept done known → AllByRecursion (λ ask. IsKnown src done holder ask.0) asks → AllByRecursion (λ ask. IsKnown src known holder ask.0) asks
known_still_all src done known holder asks kept = all_weaker (λ ask. IsKnown src done holder ask.0) (λ ask. IsKnown src known holder ask.0) (λ ask. known_still src done known holder ask.0 kept) asks

module _ (src : Sections) (basics : Basics) (strings : IsBytes src.strings) (bytes : IsBytes src.body)
    (all : List Block) (sound : Sound src all) (offset : ℕ) (within : offset ≤ length src.body) where
  -- the types that are known are those that the declaration names
  form_is : (known : Table) (parts : KnownForm) → Inside src all known → AllByRecursion (Names src all offset) (form_types parts) → AllByRecursion (λ ask. IsKnown src known offset ask.0) (form_asks (flat_form parts))
      → form_map same_pos same_text (type_spelled src.version known) (flat_form parts) ≡ form_map same_pos same_text (λ (x : Known). x.tree) parts
  form_is known parts inside named is =
      let of_numbers : AllByRecursion (λ (t : SpelledType). IsKnown src known offset t.number) (form_types (flat_form parts)) = form_all (λ ask. IsKnown src known offset ask.0) (λ (t : SpelledType). IsKnown src known offset t.number) (λ t asked k. k) (flat_form parts) is in
      let types : form_types (flat_form parts) ≡ map number_of (form_types parts) = form_types_map same_pos same_text number_of parts in
      let of_types : AllByRecursion (λ (x : Known). IsKnown src known offset x.number) (form_types parts) = all_unmap (λ (t : SpelledType). IsKnown src known offset t.number) number_of (form_types parts) (subst (AllByRecursion (λ (t : SpelledType). IsKnown src known offset t.number)) types of_numbers) in
      let same : AllByRecursion (λ (x : Known). type_named src.version known x.number ≡ x.tree) (form_types parts)
      = all_both (λ (x : Known). IsKnown src known offset x.number) (Names src all offset) (λ (x : Known). type_named src.version known x.number ≡ x.tree)
      (λ x is names. tree_is src all sound known offset x inside is names) (form_types parts) of_types named in
      form_twice number_of (type_spelled src.version known) SpelledPos SpelledText parts
      ∙ form_agrees (λ (x : Known). type_named src.version known x.number) (λ (x : Known). x.tree) SpelledPos SpelledText parts same

  -- what is read behind the head: the parts, with the types that they name
  abbrev IsRead : KnownForm → Option ℕ → Result Read ByteFault → Type 0
  IsRead parts value r = (x : Read) × (r ≡ Ok x) × (form_map same_pos same_text (type_spelled src.version x.table) x.form ≡ form_map same_pos same_text (λ (t : Known). t.tree) parts) × (x.form ≡ flat_form parts) × (x.value ≡ value)

  whole_read : (parts : KnownForm) (y : Head) (a : Ahead) (known : Table) → y ≡ whole (flat_form parts) → Inside src all known → AllByRecursion (Names src all offset) (form_types parts)
      → AllByRecursion (λ ask. IsKnown src known offset ask.0) (form_asks (flat_form parts)) → IsRead parts None (after_head src basics offset y a known)
  whole_read parts y a known is inside named asks =
      (record { form = flat_form parts; value = None; end = place a.spot; table = known }, ap (λ (y : Head). after_head src basics offset y a known) is, form_is known parts inside named asks, refl, refl)

  module _ (tail : List ℕ) (nothing : length tail ≡ 0) (a : Ahead) (no_mentions : a.mentions ≡ []) (fits : Fits a) (known : Table) (inside : Inside src all known) where
    constant_read : (pos : SpelledPos) (type : Known) (value : SpelledConst) (at : ℕ) (after : Here) → IsValue src basics type.tree (seen_from a tail) value after → Names src all offset type → IsKnown src known offset type.number
        → IsRead (constant_of pos type value.value) value.offset (after_constant src basics pos (number_of type) at a known)
    constant_read pos type value at after stands named is =
        let tree : type_named src.version known type.number ≡ type.tree = tree_is src all sound known offset type inside is named in
        let basic : basic_type basics (type_named src.version known type.number) ≡ Some stands.basic = ap (basic_type basics) tree ∙ stands.its_basic in
        let spelling : spelling_at at (basic_type basics (type_named src.version known type.number)) ≡ Ok stands.spelling = spelling_done at _ stands.basic stands.spelling basic stands.its_spelling in
        let again = value_again src stands.spelling (kind_spelling stands.basic stands.spelling stands.its_spelling) a tail value after (stands.at_value, stands.kind, stands.spelled_value) (omega arith) in
        let b = again.0 in
        let given : value_at src stands.spelling a ≡ Ok (value, b) = again.1 in (
          record { form = constant_of pos (number_of type) value.value; value = value.offset; end = place b.spot; table = known },
          rw (spelling, given) refl,
          form_is known (constant_of pos type value.value) inside (named, tt) (is, tt),
          refl,
          refl,
        )

    methods_read : (pos : SpelledPos) (tparams : List Known) (underlying : Known) (methods : List (ReceiverOf SpelledPos SpelledText Known)) (after : Here) → IsList (IsReceiver src) (seen_from a tail) (map numbered_receiver methods) after
        → AllByRecursion (Names src all offset) (form_types (defined_of pos tparams underlying methods))
        → AllByRecursion (λ ask. IsKnown src known offset ask.0) (head_asks (of_type pos (numbers tparams) (number_of underlying)))
        → IsRead (defined_of pos tparams underlying methods) None (after_type src offset pos (numbers tparams) (number_of underlying) a known true)
    methods_read pos tparams underlying methods after stands named is =
        let flat : List Receiver = map numbered_receiver methods in
        let again = receivers_again src a tail flat after stands (omega arith) in
        let b = again.0 in
        let given : list_at (receiver_at src) a ≡ Ok (flat, b) = again.1 in
        let taken = receivers_took src strings a fits flat b given in
        let asked = asks_from a b (asking Any (flat_map receiver_types flat)) no_mentions taken.went in
        let types : flat_map receiver_types flat ≡ map number_of (flat_map receiver_types methods) = receivers_types_map same_pos same_text number_of methods in
        let behind : List Known = underlying ∷ flat_map receiver_types methods in
        let own_named = any_named src all offset (flat_map receiver_types methods) (all_right (Names src all offset) tparams behind named).1 in
        let own = mentions_named src all offset b.mentions (asking Any (flat_map receiver_types flat)) asked
        (subst (λ (ns : List SpelledType). AllByRecursion (IsNamed src all offset) (asking Any ns)) (sym types) own_named) in
        let resolved_so = all_again src all sound (block_at src offset) offset (block_again src strings bytes all sound offset offset (omega arith) within) b.mentions known own inside in
        let more = resolved_so.0 in
        let K : Ask → Type 0 = λ ask. IsKnown src more offset ask.0 in
        let own_known : AllByRecursion K (asking Any (flat_map receiver_types flat)) = all_asked (IsKnown src more offset) b.mentions (asking Any (flat_map receiver_types flat)) asked resolved_so.4 in
        let head_known : AllByRecursion K (head_asks (of_type pos (numbers tparams) (number_of underlying))) = known_still_all src known more offset (head_asks (of_type pos (numbers tparams) (number_of underlying))) resolved_so.3 is in
        let last : List Ask = (underlying.number, Underlying) ∷ [] in
        let read_so : Read = record { form = defined_of pos (numbers tparams) (number_of underlying) flat; value = None; end = place b.spot; table = more } in
        let asks : AllByRecursion K (form_asks (flat_form (defined_of pos tparams underlying methods)))
        = all_append K (asking Parameter (numbers tparams)) ((underlying.number, Underlying) ∷ asking Any (flat_map receiver_types flat)) (all_left K (asking Parameter (numbers tparams)) last head_known)
        ((all_right K (asking Parameter (numbers tparams)) last head_known).0, own_known) in (
          read_so,
          next_done (resolved src offset (list_at (receiver_at src) a) known) (methods_of pos (numbers tparams) (number_of underlying)) ((flat, blank b), more) read_so
              (resolved_done src offset (list_at (receiver_at src) a) (flat, b) known more given resolved_so.1) refl,
          form_is more (defined_of pos tparams underlying methods) resolved_so.2 named asks,
          refl,
          refl,
        )

    no_methods_read : (pos : SpelledPos) (tparams : List Known) (underlying : Known) (methods : List (ReceiverOf SpelledPos SpelledText Known)) → map numbered_receiver methods ≡ []
        → AllByRecursion (Names src all offset) (form_types (defined_of pos tparams underlying methods))
        → AllByRecursion (λ ask. IsKnown src known offset ask.0) (head_asks (of_type pos (numbers tparams) (number_of underlying)))
        → IsRead (defined_of pos tparams underlying methods) None (after_type src offset pos (numbers tparams) (number_of underlying) a known false)
    no_methods_read pos tparams underlying [] none named is =
        (record { form = defined_of pos (numbers tparams) (number_of underlying) []; value = None; end = place a.spot; table = known }, refl, form_is known (defined_of pos tparams underlying []) inside named is, refl, refl)
    no_methods_read pos tparams underlying (method ∷ methods) none named is = absurd (cc)

    type_read : (pos : SpelledPos) (tparams : List Known) (underlying : Known) (methods : List (ReceiverOf SpelledPos SpelledText Known)) (after : Here) (own : Bool) → IsMethods src own (seen_from a tail) (map numbered_receiver methods) after
        → AllByRecursion (Names src all offset) (form_types (defined_of pos tparams underlying methods))
        → AllByRecursion (λ ask. IsKnown src known offset ask.0) (head_asks (of_type pos (numbers tparams) (number_of underlying)))
        → IsRead (defined_of pos tparams underlying methods) None (after_type src offset pos (numbers tparams) (number_of underlying) a known own)
    type_read pos tparams underlying methods after true stands named is = methods_read pos tparams underlying methods after stands named is
    type_read pos tparams underlying methods after false stands named is = no_methods_read pos tparams underlying methods stands.0 named is

    defined_read : (pos : SpelledPos) (tparams : List Known) (underlying : Known) (methods : List (ReceiverOf SpelledPos SpelledText Known)) (after : Here) → IsMethods src (has_methods underlying.tree) (seen_from a tail) (map numbered_receiver methods) after
        → AllByRecursion (Names src all offset) (form_types (defined_of pos tparams underlying methods))
        → AllByRecursion (λ ask. IsKnown src known offset ask.0) (head_asks (of_type pos (numbers tparams) (number_of underlying)))
        → IsRead (defined_of pos tparams underlying methods) None (after_head src basics offset (of_type pos (numbers tparams) (number_of underlying)) a known)
    defined_read pos tparams underlying methods after stands named is =
        let K : Ask → Type 0 = λ ask. IsKnown src known offset ask.0 in
        let underlying_known = (all_right K (asking Parameter (numbers tparams)) ((underlying.number, Underlying) ∷ []) is).0 in
        let underlying_named = (all_right (Names src all offset) tparams (underlying ∷ flat_map receiver_types methods) named).0 in
        let tree : type_named src.version known underlying.number ≡ underlying.tree = tree_is src all sound known offset underlying inside underlying_known underlying_named in
        subst (λ (own : Bool). IsRead (defined_of pos tparams underlying methods) None (after_type src offset pos (numbers tparams) (number_of underlying) a known own)) (sym (ap has_methods tree))
        (type_read pos tparams underlying methods after (has_methods underlying.tree) stands named is)

    no_value : (parts : KnownForm) (value : Option ℕ) (r : Result Read ByteFault) → value ≡ None → IsRead parts None r → IsRead parts value r
    no_value parts value r none read = subst (λ v. IsRead parts v r) (sym none) read

    pub rest_read : (parts : KnownForm) (value : Option ℕ) (y : Head) (after : Here) → unplaced_head y ≡ unplaced_head (head_of parts) → IsRest src basics (seen_from a tail) parts value after → AllByRecursion (Names src all offset) (form_types parts)
        → AllByRecursion (λ ask. IsKnown src known offset ask.0) (head_asks (head_of parts)) → IsRead parts value (after_head src basics offset y a known)
    rest_read (var_of pos type) at y after is stands named asks = no_value (var_of pos type) at _ stands.1 (whole_read (var_of pos type) y a known (whole_is y _ is) inside named asks)
    rest_read (function_of pos tparams sig) at y after is stands named asks = no_value (function_of pos tparams sig) at _ stands.1 (whole_read (function_of pos tparams sig) y a known (whole_is y _ is) inside named asks)
    rest_read (constant_of pos type value) at y after is stands named asks =
        let constant = constant_is y pos (number_of type) is in
        subst (λ (y : Head). IsRead (constant_of pos type value) at (after_head src basics offset y a known)) (sym constant.1) (constant_read pos type (record { offset = at; value = value }) constant.0 after stands named.0 asks.0)
    rest_read (defined_of pos tparams underlying methods) at y after is stands named asks =
        no_value (defined_of pos tparams underlying methods) at (after_head src basics offset y a known) stands.1 (subst (λ (y : Head). IsRead (defined_of pos tparams underlying methods) None (after_head src basics offset y a known)) (sym (type_is y pos (numbers tparams) (number_of underlying) is)) (defined_read pos tparams underlying methods after stands.0 named asks))
    rest_read (renamed_of pos tparams type) at y after is stands named asks = no_value (renamed_of pos tparams type) at _ stands.1 (whole_read (renamed_of pos tparams type) y a known (whole_is y _ is) inside named asks)
    rest_read (type_parameter_of pos implicit bound) at y after is stands named asks = no_value (type_parameter_of pos implicit bound) at _ stands.1 (whole_read (type_parameter_of pos implicit bound) y a known (whole_is y _ is) inside named asks)
