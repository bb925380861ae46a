-- What reading a declaration leaves stands in the types that are read of it.
use Rattle.std.proofs.Common.{◌≡◌, ℕ, ◌≤◌, List, [], ◌∷◌, ◌++◌, length, map, Contains, Bool, true, false, Result, Ok, Err, None, refl, sym, ◌∙◌, ap, subst, append_assoc}
use Rattle.std.specs.List.{AllByRecursion, flat_map}
use Rattle.std.proofs.lemmas.List.{append-nil}
use Rattle.wire_bytes.specs.declared.fault.ByteFault.{ByteFault}
use Rattle.wire_bytes.specs.Reading.{place, ◌>>=◌}
use Rattle.wire_bytes.proofs.Steps.{bind_ok, done_is}
use Rattle.wire_bytes.proofs.Spellings.{IsBytes}
use Rattle.type_terms.specs.Shapes.{sig_types}
use Rattle.type_terms.specs.Additions.{StandsIn}
use Rattle.type_terms.specs.Replaced.{all_append}
use Rattle.type_terms.specs.Trees.{Tree}
use Rattle.type_terms.specs.Declarations.{var_of, function_of, constant_of, defined_of, renamed_of, type_parameter_of, receiver_types, form_types, form_map, Decl}
use Rattle.decl_spelling.specs.declared.mention.Mention.{Mention}
use Rattle.decl_spelling.specs.declared.mention.Demand.TheVariants.{Any, Parameter}
use Rattle.decl_spelling.specs.Sections.{Sections, Basics, HoldsBytes, window}
use Rattle.decl_spelling.specs.Spelled.{SpelledPos, SpelledType}
use Rattle.decl_spelling.specs.Reading.{Ahead, Stopped, start, list_at}
use Rattle.decl_spelling.specs.Tables.{Table, type_named, type_spelled}
use Rattle.decl_spelling.specs.Descent.{block_at, resolve_all}
use Rattle.decl_spelling.specs.Constants.{basic_type, spelling_at, value_at}
use Rattle.decl_spelling.specs.Declarations.{FlatForm, Receiver, Head, whole, of_type, of_constant, head_at, receiver_at, resolved, has_methods, Read, read, methods_of, after_type, fault_alone, after_head, read_at, decl_of, decl_at}
use Rattle.decl_spelling.specs.Grammar.{Here}
use Rattle.decl_spelling.specs.Leaving.{if_well, left_at, left_by_named, left_by_part, left_by_methods, left_after_head, left_by_decl, types_by, types_read}
use Rattle.decl_spelling.specs.KnownTypes.{IsAnswered}
use Rattle.decl_spelling.specs.Asks.{asking}
use Rattle.decl_spelling.proofs.Took.{Fits, IsHead, IsHeadParts, head_asks, right_demand, seen_from}
use Rattle.decl_spelling.proofs.FlatLaws.{head_took, receivers_took, numbers_of, numbers_asked, numbers_in, asking_types, numbers-append}
use Rattle.decl_spelling.proofs.AskLemmas.{asks_from}
use Rattle.decl_spelling.proofs.MapLemmas.{all_weaker, map_twice}
use Rattle.decl_spelling.proofs.Forms.{form_types_map, form_meant_types}
use Rattle.decl_spelling.proofs.TypeTakes.{Fine, all_known}
use Rattle.decl_spelling.proofs.BlockTakes.{window_fits, here_is, block_takes}
use Rattle.decl_spelling.proofs.DeclTakes.{blank, resolved_ok, fine_none}
use Rattle.decl_spelling.proofs.DeclAtLaws.{strings_are, body_is}
use Rattle.decl_spelling.proofs.Windows.{behind}
use Rattle.decl_spelling.proofs.TableLaws.{first_has, later_has}
use Rattle.decl_spelling.specs.Spelling.{here, same_pos, same_text}
use Rattle.decl_spelling.proofs.LeavingReach.{stands_same, stands_left, stands_right, types_of, types_as, types_still, all_reached, block_leaves}
use Rattle.std.proofs.lemmas.List.{map-append}

-- ---- the types of a form

abbrev form_numbers : FlatForm → List ℕ
form_numbers form = numbers_in (form_types form)

-- numbers of types in a row
numbers-both : (xs ys : List SpelledType) → numbers_in (xs ++ ys) ≡ numbers_in xs ++ numbers_in ys
numbers-both xs ys = map-append (λ (t : SpelledType). t.number) xs ys

form_stands_in : (types : ℕ → Tree) (numbers : List ℕ) (form : FlatForm) (more : List ℕ) → form_numbers form ≡ numbers ++ more → (t : Tree) → StandsIn (map types numbers) t → StandsIn (map types (form_numbers form)) t
form_stands_in types numbers form more is t stands =
    subst (λ (ns : List ℕ). StandsIn (map types ns) t) (sym is) (subst (λ (ts : List Tree). StandsIn ts t) (sym (map-append types numbers more)) (stands_left (map types numbers) (map types more) t stands))

-- a head that is a whole form asks for its types
whole_numbers : (src : Sections) (a : Here) (form : FlatForm) (b : Here) → IsHeadParts src a (whole form) b → form_numbers form ≡ numbers_asked (head_asks (whole form))
whole_numbers src a (var_of pos type) b parts = refl
whole_numbers src a (function_of pos tparams sig) b parts =
    numbers-both tparams (sig_types sig)
    ∙ sym (numbers-append (asking Parameter tparams) (asking Any (sig_types sig)) ∙ ap (λ (ns : List ℕ). ns ++ numbers_asked (asking Any (sig_types sig))) (asking_types Parameter tparams) ∙ ap (λ (ns : List ℕ). numbers_in tparams ++ ns) (asking_types Any (sig_types sig)))
whole_numbers src a (constant_of pos type value) b parts = absurd parts
whole_numbers src a (defined_of pos tparams underlying methods) b parts = absurd parts
whole_numbers src a (renamed_of pos tparams type) b parts =
    numbers-both tparams (type ∷ []) ∙ sym (numbers-append (asking Parameter tparams) ((type.number, right_demand tparams) ∷ []) ∙ ap (λ (ns : List ℕ). ns ++ type.number ∷ []) (asking_types Parameter tparams))
whole_numbers src a (type_parameter_of pos implicit constraint) b parts = refl

type_numbers : (pos : SpelledPos) (tparams : List SpelledType) (type : SpelledType) → numbers_asked (head_asks (of_type pos tparams type)) ≡ numbers_in (tparams ++ type ∷ [])
type_numbers pos tparams type = numbers-append (asking Parameter tparams) _ ∙ ap (λ (ns : List ℕ). ns ++ type.number ∷ []) (asking_types Parameter tparams) ∙ sym (numbers-both tparams (type ∷ []))

abbrev AllStand : List Tree → List Tree → Type 0
AllStand types left = AllByRecursion (StandsIn types) left

all_same : (types : List Tree) (left : List Tree) → ((t : Tree) → Contains left t → Contains types t) → AllByRecursion (StandsIn types) left
all_same types [] has = tt
all_same types (x ∷ xs) has = (stands_same types x (has x (first_has x xs)), all_same types xs (λ t there. has t (later_has x t xs there)))

module _ (src : Sections) (basics : Basics) (holds : HoldsBytes src) (offset : ℕ) (within : offset ≤ length src.body) where
  abbrev strings : IsBytes src.strings
  strings = strings_are src holds

  abbrev bytes : IsBytes src.body
  bytes = body_is src holds

  -- what a part of a declaration leaves stands in the types that it names
  named_reached : (ms : List Mention) (done known : Table) → Fine src done → resolve_all src (block_at src offset) offset ms done ≡ Ok known → AllByRecursion (StandsIn (types_of src.version known ms)) (left_by_named src offset ms done)
  named_reached = all_reached src (block_at src offset) (block_takes src strings bytes offset) (left_at src offset) (block_leaves src strings bytes offset) offset within

  abbrev types_in : Read → List Tree
  types_in x = map (type_named src.version x.table) (form_numbers x.form)

  -- what the head leaves and what follows it, with what is read in the end
  methods_stand : (pos : SpelledPos) (tparams : List SpelledType) (underlying : SpelledType) (ms : List Mention) (left : List Tree) (a : Ahead) (done : Table) (x : Read) → a.mentions ≡ [] → Fits a → Fine src done → AllByRecursion (IsAnswered src done offset) ms
      → map (λ (m : Mention). m.value) ms ≡ numbers_in (tparams ++ underlying ∷ []) → AllStand (types_of src.version done ms) left → (own : Bool) → after_type src offset pos tparams underlying a done own ≡ Ok x
      → AllStand (types_in x) (left ++ left_by_methods src offset a done own)
  methods_stand pos tparams underlying ms left a done x no_mentions fits fine answered values stand true e =
      let both = bind_ok (resolved src offset (list_at (receiver_at src) a) done) (methods_of pos tparams underlying) x e in
      let y = both.0 in
      let known = y.1 in
      let list = resolved_ok src offset (list_at (receiver_at src) a) done y both.1 in
      let methods = (list.0).0 in
      let b = (list.0).1 in
      let form : FlatForm = defined_of pos tparams underlying methods in
      let taken = receivers_took src strings a fits methods b list.1 in
      let types = all_known src (block_at src offset) (block_takes src strings bytes offset) offset within b.mentions done known fine list.2 in
      let others : List SpelledType = flat_map receiver_types methods in
      let more : List ℕ = numbers_in others in
      let front_numbers : List ℕ = numbers_in (tparams ++ underlying ∷ []) in
      let asked : map (λ (m : Mention). m.value) b.mentions ≡ more = numbers_of b.mentions ∙ ap numbers_asked (asks_from a b (asking Any others) no_mentions taken.went) ∙ asking_types Any others in
      let all : List Tree = map (type_named src.version known) (form_numbers form) in
      let split : form_numbers form ≡ front_numbers ++ more = ap numbers_in (sym (append_assoc tparams (underlying ∷ []) others)) ∙ numbers-both (tparams ++ underlying ∷ []) others in
      let head_types : types_of src.version done ms ≡ map (type_named src.version known) front_numbers = sym (types_still src done known offset ms types.0.kept answered) ∙ types_as src.version known ms front_numbers values in
      let front : AllStand all left
      = all_weaker (StandsIn (types_of src.version done ms)) (StandsIn all) (λ t stands. form_stands_in (type_named src.version known) front_numbers form more split t (subst (λ (ts : List Tree). StandsIn ts t) head_types stands)) left stand in
      let reached = named_reached b.mentions done known fine list.2 in
      let own_types = types_as src.version known b.mentions more asked in
      let back : AllStand all (left_by_named src offset b.mentions done)
      = all_weaker (StandsIn (types_of src.version known b.mentions)) (StandsIn all)
      (λ t stands. subst (λ (ts : List Tree). StandsIn ts t) (sym (ap (map (type_named src.version known)) split ∙ map-append (type_named src.version known) front_numbers more))
      (stands_right (map (type_named src.version known) front_numbers) (map (type_named src.version known) more) t (subst (λ (ts : List Tree). StandsIn ts t) own_types stands)))
      (left_by_named src offset b.mentions done) reached in
      let end : read form None (blank b) known ≡ Ok x = ap (λ (z : List Receiver × Ahead). read (defined_of pos tparams underlying z.0) None z.1 known) list.3 ∙ both.2 in
      subst (λ (z : Read). AllStand (types_in z) (left ++ left_by_methods src offset a done true)) (done_is (record { form = form; value = None; end = place (blank b).spot; table = known }) x end)
      (all_append (StandsIn all) left (left_by_part src offset (list_at (receiver_at src) a) done) front (subst (λ (r : Result (List Receiver × Ahead) Stopped). AllStand all (left_by_part src offset r done)) (sym list.1) back))
  methods_stand pos tparams underlying ms left a done x no_mentions fits fine answered values stand false e =
      let form : FlatForm = defined_of pos tparams underlying [] in
      let numbers = types_as src.version done ms (numbers_in (tparams ++ underlying ∷ [])) values in
      subst (λ (z : Read). AllStand (types_in z) (left ++ [])) (done_is (record { form = form; value = None; end = place a.spot; table = done }) x e)
      (subst (λ (ts : List Tree). AllStand (map (type_named src.version done) (form_numbers form)) ts) (sym (append-nil left)) (subst (λ (ts : List Tree). AllStand ts left) numbers stand))

  after_stands : (head : Head) (ms : List Mention) (left : List Tree) (a from b : Here) (c : Ahead) (done : Table) (x : Read) → c.mentions ≡ [] → Fits c → Fine src done → AllByRecursion (IsAnswered src done offset) ms
      → IsHeadParts src from head b → map (λ (m : Mention). m.value) ms ≡ numbers_asked (head_asks head) → AllStand (types_of src.version done ms) left → after_head src basics offset head c done ≡ Ok x
      → AllStand (types_in x) (left ++ left_after_head src offset head c done)
  after_stands (whole form) ms left a from b c done x no_mentions fits fine answered parts values stand e =
      let numbers = types_as src.version done ms (form_numbers form) (values ∙ sym (whole_numbers src from form b parts)) in
      subst (λ (z : Read). AllStand (types_in z) (left ++ [])) (done_is (record { form = form; value = None; end = place c.spot; table = done }) x e)
      (subst (λ (ts : List Tree). AllStand (map (type_named src.version done) (form_numbers form)) ts) (sym (append-nil left)) (subst (λ (ts : List Tree). AllStand ts left) numbers stand))
  after_stands (of_type pos tparams underlying) ms left a from b c done x no_mentions fits fine answered parts values stand e =
      methods_stand pos tparams underlying ms left c done x no_mentions fits fine answered (values ∙ type_numbers pos tparams underlying) stand (has_methods (type_spelled src.version done underlying)) e
  after_stands (of_constant pos type at) ms left a from b c done x no_mentions fits fine answered parts values stand e =
      let tree = type_spelled src.version done type in
      let chosen = bind_ok (spelling_at at (basic_type basics tree)) (λ spelling. fault_alone (value_at src spelling c) >>= λ value. read (constant_of pos type (value.0).value) (value.0).offset value.1 done) x e in
      let valued = bind_ok (fault_alone (value_at src chosen.0 c)) (λ value. read (constant_of pos type (value.0).value) (value.0).offset value.1 done) x chosen.2 in
      let form : FlatForm = constant_of pos type (valued.0.0).value in
      let numbers = types_as src.version done ms (type.number ∷ []) values in
      subst (λ (z : Read). AllStand (types_in z) (left ++ [])) (done_is (record { form = form; value = (valued.0.0).offset; end = place valued.0.1.spot; table = done }) x valued.2)
      (subst (λ (ts : List Tree). AllStand (map (type_named src.version done) (form_numbers form)) ts) (sym (append-nil left)) (subst (λ (ts : List Tree). AllStand ts left) numbers stand))

  whole_stands : (x : Read) → read_at src basics offset ≡ Ok x → AllStand (types_in x) (left_by_decl src offset)
  unfolding read_at left_by_decl
  whole_stands x e =
      let to = length src.body in
      let s = start (window src offset to) in
      let tail = behind src.body offset to in
      let both = bind_ok (resolved src offset (head_at src s) []) (λ head. after_head src basics offset (head.0).0 (head.0).1 head.1) x e in
      let y = both.0 in
      let first = resolved_ok src offset (head_at src s) [] y both.1 in
      let head = (first.0).0 in
      let b = (first.0).1 in
      let taken = head_took src strings s (window_fits src offset to bytes) head b first.1 in
      let stands : IsHead src (here src offset) head (seen_from b tail) = subst (λ (a : Here). IsHead src a head (seen_from b tail)) (here_is src offset to) (taken.stands tail) in
      let types = all_known src (block_at src offset) (block_takes src strings bytes offset) offset within b.mentions [] y.1 (fine_none src) first.2 in
      let values : map (λ (m : Mention). m.value) b.mentions ≡ numbers_asked (head_asks head) = numbers_of b.mentions ∙ ap numbers_asked (asks_from s b (head_asks head) refl taken.went) in
      let left = left_by_named src offset b.mentions [] in
      let all : AllStand (types_in x) (left ++ left_after_head src offset head (blank b) y.1)
      = after_stands head b.mentions left (here src offset) _ (seen_from b tail) (blank b) y.1 x refl (record { bytes = taken.went.fits.bytes; line = taken.went.fits.line; column = taken.went.fits.column }) types.0.fine types.1
      stands.parts values (named_reached b.mentions [] y.1 (fine_none src) first.2)
      (ap (λ (z : Head × Ahead). after_head src basics offset z.0 z.1 y.1) first.3 ∙ both.2) in
      subst (λ (r : Result (Head × Ahead) Stopped). AllStand (types_in x) (left_by_part src offset r [] ++ if_well (resolved src offset (head_at src s) []) (λ z. left_after_head src offset (z.0).0 (z.0).1 z.1))) (sym first.1)
      (subst (λ (r : Result ((Head × Ahead) × Table) ByteFault). AllStand (types_in x) (left ++ if_well r (λ z. left_after_head src offset (z.0).0 (z.0).1 z.1))) (sym both.1)
      (subst (λ (z : Head × Ahead). AllStand (types_in x) (left ++ left_after_head src offset z.0 z.1 y.1)) first.3 all))

  stands_by : (r : Result Decl ByteFault) → decl_at src basics offset ≡ r → AllStand (types_by src offset r) (left_by_decl src offset)
  stands_by (Ok decl) e =
      let both = bind_ok (read_at src basics offset) (λ x. Ok (decl_of src x)) decl e in
      let x = both.0 in
      let is : form_types decl ≡ types_in x = ap form_types (sym (done_is (decl_of src x) decl both.2)) ∙ form_meant_types (form_map same_pos same_text (type_spelled src.version x.table) x.form) ∙ form_types_map same_pos same_text (type_spelled src.version x.table) x.form
      ∙ sym (map_twice (λ (t : SpelledType). t.number) (type_named src.version x.table) (type_spelled src.version x.table) (λ t. refl) (form_types x.form)) in
      subst (λ (ts : List Tree). AllStand ts (left_by_decl src offset)) (sym is) (whole_stands x both.1)
  stands_by (Err fault) e = all_same (left_by_decl src offset) (left_by_decl src offset) (λ t has. has)

  -- What is left stands in what is read.
  pub left_stands : AllByRecursion (StandsIn (types_read src basics offset)) (left_by_decl src offset)
  left_stands = stands_by (decl_at src basics offset) refl
