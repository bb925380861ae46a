-- What a declaration that is read with some descriptors finished leaves: more of them, which know all of its types.
use Rattle.std.proofs.Common.{◌≡◌, ℕ, ◌+◌, ◌≤◌, List, [], ◌∷◌, ◌++◌, length, Bool, true, false, Ok, Option, None, refl, ◌∙◌, ap, subst, arith}
use Rattle.std.specs.List.{flat_map, AllByRecursion}
use Rattle.wire_bytes.specs.Reading.{place, ◌>>=◌}
use Rattle.wire_bytes.proofs.Steps.{bind_ok, done_is}
use Rattle.wire_bytes.proofs.Spellings.{IsBytes}
use Rattle.type_terms.specs.Replaced.{all_left, all_right, all_append}
use Rattle.type_terms.specs.Declarations.{constant_of, defined_of, receiver_types}
use Rattle.decl_spelling.specs.declared.mention.Demand.TheVariants.{Any, Parameter, Underlying}
use Rattle.decl_spelling.specs.Sections.{Sections, Basics, window}
use Rattle.decl_spelling.specs.Spelled.{SpelledPos, SpelledType}
use Rattle.decl_spelling.specs.Reading.{Ahead, start, list_at}
use Rattle.decl_spelling.specs.Tables.{Table, type_spelled}
use Rattle.decl_spelling.specs.Descent.{block_at}
use Rattle.decl_spelling.specs.Constants.{basic_type, spelling_at, value_at}
use Rattle.decl_spelling.specs.Declarations.{FlatForm, Receiver, Head, whole, of_type, of_constant, head_at, receiver_at, resolved, has_methods, Read, read, methods_of, after_type, fault_alone, after_constant, after_head}
use Rattle.decl_spelling.specs.Grammar.{Here}
use Rattle.decl_spelling.specs.Spelling.{here}
use Rattle.decl_spelling.specs.Asks.{Ask, asking}
use Rattle.decl_spelling.specs.KnownTypes.{Kept, IsKnown}
use Rattle.decl_spelling.proofs.Took.{Fits, seen_from, IsHead, IsHeadParts, kind_of_head, head_asks}
use Rattle.decl_spelling.proofs.ValueReaders.{kind_spelling}
use Rattle.decl_spelling.proofs.FlatLaws.{head_took, receivers_took, value_took}
use Rattle.decl_spelling.proofs.KnownTypeLemmas.{known_still}
use Rattle.decl_spelling.proofs.Windows.{behind, byte_within}
use Rattle.decl_spelling.proofs.AskLemmas.{IsMet, asks_from, mentions_met}
use Rattle.decl_spelling.proofs.TypeTakes.{Fine, Added, added_none, added_twice, all_known}
use Rattle.decl_spelling.proofs.MapLemmas.{all_weaker}
use Rattle.decl_spelling.proofs.BlockTakes.{window_fits, here_is, block_takes}
use Rattle.decl_spelling.proofs.Forms.{form_asks, whole_asks}
use Rattle.decl_spelling.proofs.DeclTakes.{blank, resolved_ok, spelling_ok, fault_ok, parts_at}
use Rattle.decl_spelling.specs.Descent.{resolve_all}
use Rattle.code_tables.specs.DeclTag.{decl_tag_code}
use Rattle.shared_reading.specs.WithMemory.{read_with}

abbrev pub AreKnown : Sections → ℕ → Table → List Ask → Type 0
AreKnown src offset known = AllByRecursion (λ ask. IsKnown src known offset ask.0)

-- A declaration was read from where these descriptors were finished.
pub record Whole (src : Sections) (offset : ℕ) (done : Table) (x : Read) : Type 0 where
  pub added : Added src offset done x.table
  pub known : AreKnown src offset x.table (form_asks x.form)
  pub within : x.end ≤ src.body_at + length src.body

pub met_known : (src : Sections) (offset : ℕ) (known : Table) (asks : List Ask) → AllByRecursion (IsMet src known offset) asks → AreKnown src offset known asks
met_known src offset known = all_weaker (IsMet src known offset) (λ ask. IsKnown src known offset ask.0) (λ ask met. met.0)

pub known_on : (src : Sections) (offset : ℕ) (done known : Table) (asks : List Ask) → Kept done known → AreKnown src offset done asks → AreKnown src offset known asks
known_on src offset done known asks kept = all_weaker (λ ask. IsKnown src done offset ask.0) (λ ask. IsKnown src known offset ask.0) (λ ask. known_still src done known offset ask.0 kept) asks

-- what stands behind the type parameters of a defined type
pub underlying_known : (src : Sections) (offset : ℕ) (known : Table) (tparams : List SpelledType) (underlying : SpelledType) → AreKnown src offset known (asking Parameter tparams ++ (underlying.number, Underlying) ∷ []) → IsKnown src known offset underlying.number
underlying_known src offset known tparams underlying asks = (all_right (λ ask. IsKnown src known offset ask.0) (asking Parameter tparams) ((underlying.number, Underlying) ∷ []) asks).0

module _ (src : Sections) (basics : Basics) (strings : IsBytes src.strings) (bytes : IsBytes src.body) (offset : ℕ) (within : offset ≤ length src.body) where
  defined_known : (known : Table) (tparams : List SpelledType) (underlying : SpelledType) (methods : List Receiver) (pos : SpelledPos) → AreKnown src offset known (head_asks (of_type pos tparams underlying))
      → AreKnown src offset known (asking Any (flat_map receiver_types methods)) → AreKnown src offset known (form_asks (defined_of pos tparams underlying methods))
  defined_known known tparams underlying methods pos head own =
      let K : Ask → Type 0 = λ ask. IsKnown src known offset ask.0 in
      let behind : List Ask = (underlying.number, Underlying) ∷ [] in
      all_append K (asking Parameter tparams) ((underlying.number, Underlying) ∷ asking Any (flat_map receiver_types methods)) (all_left K (asking Parameter tparams) behind head)
      ((all_right K (asking Parameter tparams) behind head).0, own)

  module _ (a : Ahead) (no_mentions : a.mentions ≡ []) (fits : Fits a) (end : a.spot.end ≡ src.body_at + length src.body) (done : Table) (fine : Fine src done) where
    form_whole : (form : FlatForm) (value : Option ℕ) (x : Read) → AreKnown src offset done (form_asks form) → read form value a done ≡ Ok x → Whole src offset done x
    form_whole form value x known e =
        let is = done_is (record { form = form; value = value; end = place a.spot; table = done }) x e in
        subst (Whole src offset done) is (record { added = added_none src offset done fine; known = known; within = omega (arith, end) })

    methods_whole : (pos : SpelledPos) (tparams : List SpelledType) (underlying : SpelledType) (x : Read) → AreKnown src offset done (head_asks (of_type pos tparams underlying))
        → after_type src offset pos tparams underlying a done true ≡ Ok x → Whole src offset done x
    methods_whole pos tparams underlying x asks e =
        let both = bind_ok (resolved src offset (list_at (receiver_at src) a) done) (methods_of pos tparams underlying) x e in
        let y = both.0 in
        let list = resolved_ok src offset (list_at (receiver_at src) a) done y both.1 in
        let methods = (list.0).0 in
        let b = (list.0).1 in
        let taken = receivers_took src strings a fits methods b list.1 in
        let types = all_known src (block_at src offset) (block_takes src strings bytes offset) offset within b.mentions done y.1 fine list.2 in
        let own = met_known src offset y.1 (asking Any (flat_map receiver_types methods)) (mentions_met src y.1 offset b.mentions (asking Any (flat_map receiver_types methods)) (asks_from a b (asking Any (flat_map receiver_types methods)) no_mentions taken.went) types.1) in
        let head = known_on src offset done y.1 (head_asks (of_type pos tparams underlying)) types.0.kept asks in
        let same : (methods, blank b) ≡ y.0 = list.3 in
        let is = done_is (record { form = defined_of pos tparams underlying methods; value = None; end = place b.spot; table = y.1 }) x
        (ap (λ (z : List Receiver × Ahead). read (defined_of pos tparams underlying z.0) None z.1 y.1) same ∙ both.2) in
        subst (Whole src offset done) is (record { added = types.0; known = defined_known y.1 tparams underlying methods pos head own; within = omega (arith, end, taken.went.same_end) })

    type_whole : (pos : SpelledPos) (tparams : List SpelledType) (underlying : SpelledType) (x : Read) → AreKnown src offset done (head_asks (of_type pos tparams underlying))
        → (own : Bool) → after_type src offset pos tparams underlying a done own ≡ Ok x → Whole src offset done x
    type_whole pos tparams underlying x asks true e = methods_whole pos tparams underlying x asks e
    type_whole pos tparams underlying x asks false e = form_whole (defined_of pos tparams underlying []) None x (defined_known done tparams underlying [] pos asks tt) e

    constant_whole : (pos : SpelledPos) (type : SpelledType) (at : ℕ) (x : Read) → AreKnown src offset done (head_asks (of_constant pos type at)) → after_constant src basics pos type at a done ≡ Ok x → Whole src offset done x
    constant_whole pos type at x asks e =
        let tree = type_spelled src.version done type in
        let chosen = bind_ok (spelling_at at (basic_type basics tree)) (λ spelling. fault_alone (value_at src spelling a) >>= λ value. read (constant_of pos type (value.0).value) (value.0).offset value.1 done) x e in
        let valued = bind_ok (fault_alone (value_at src chosen.0 a)) (λ value. read (constant_of pos type (value.0).value) (value.0).offset value.1 done) x chosen.2 in
        let basic = spelling_ok at (basic_type basics tree) chosen.0 chosen.1 in
        let taken = value_took src chosen.0 (kind_spelling basic.0 chosen.0 basic.2) strings a fits valued.0.0 valued.0.1 (fault_ok (value_at src chosen.0 a) valued.0 valued.1) in
        let is = done_is (record { form = constant_of pos type (valued.0.0).value; value = (valued.0.0).offset; end = place valued.0.1.spot; table = done }) x valued.2 in
        subst (Whole src offset done) is (record { added = added_none src offset done fine; known = asks; within = omega (arith, end, taken.went.same_end) })

    pub after_whole : (head : Head) (rest tail : List ℕ) (x : Read) → IsHeadParts src (parts_at rest) head (seen_from a tail) → AreKnown src offset done (head_asks head) → after_head src basics offset head a done ≡ Ok x → Whole src offset done x
    after_whole (whole form) rest tail x parts asks e =
        form_whole form None x (whole_asks (λ ask. IsKnown src done offset ask.0) (λ n. Unit {0}) (λ t asked known. tt) src (parts_at rest) form (seen_from a tail) parts asks) e
    after_whole (of_type pos tparams underlying) rest tail x parts asks e = type_whole pos tparams underlying x asks (has_methods (type_spelled src.version done underlying)) e
    after_whole (of_constant pos type at) rest tail x parts asks e = constant_whole pos type at x asks e

-- ---- from its start

-- The head of a declaration was read, with its types, and what is left is read behind it.
pub record HeadRead (src : Sections) (basics : Basics) (memory : Table) (offset : ℕ) (x : Read) : Type 0 where
  pub head : Head
  pub ahead : Ahead
  pub known : Table
  pub read_head : head_at src (start (window src offset (length src.body))) ≡ Ok (head, ahead)
  pub types : resolve_all src (block_at src offset) offset ahead.mentions memory ≡ Ok known
  pub behind_it : after_head src basics offset head (blank ahead) known ≡ Ok x
  pub within : offset ≤ length src.body
  pub rest : List ℕ
  pub tail : List ℕ
  pub parts : IsHeadParts src (parts_at rest) head (seen_from (blank ahead) tail)
  pub fits : Fits (blank ahead)
  pub end : ahead.spot.end ≡ src.body_at + length src.body
  pub added : Added src offset memory known
  pub asks : AreKnown src offset known (head_asks head)

module _ (src : Sections) (basics : Basics) (strings : IsBytes src.strings) (bytes : IsBytes src.body) where
  pub head_read : (memory : Table) (offset : ℕ) (x : Read) → Fine src memory → read_with src basics memory offset ≡ Ok x → HeadRead src basics memory offset x
  unfolding read_with
  head_read memory offset x fine e =
      let to = length src.body in
      let s = start (window src offset to) in
      let tail = behind src.body offset to in
      let both = bind_ok (resolved src offset (head_at src s) memory) (λ head. after_head src basics offset (head.0).0 (head.0).1 head.1) x e in
      let y = both.0 in
      let first = resolved_ok src offset (head_at src s) memory y both.1 in
      let head = (first.0).0 in
      let b = (first.0).1 in
      let taken = head_took src strings s (window_fits src offset to bytes) head b first.1 in
      let stands : IsHead src (here src offset) head (seen_from b tail) = subst (λ (a : Here). IsHead src a head (seen_from b tail)) (here_is src offset to) (taken.stands tail) in
      let within : offset ≤ length src.body = byte_within src.body offset (decl_tag_code (kind_of_head head)) stands.rest stands.kind in
      let types = all_known src (block_at src offset) (block_takes src strings bytes offset) offset within b.mentions memory y.1 fine first.2 in
      let same : (head, blank b) ≡ y.0 = first.3 in
      record {
        head = head;
        ahead = b;
        known = y.1;
        read_head = first.1;
        types = first.2;
        behind_it = ap (λ (z : Head × Ahead). after_head src basics offset z.0 z.1 y.1) same ∙ both.2;
        within = within;
        rest = stands.rest;
        tail = tail;
        parts = stands.parts;
        fits = record { bytes = taken.went.fits.bytes; line = taken.went.fits.line; column = taken.went.fits.column };
        end = taken.went.same_end;
        added = types.0;
        asks = met_known src offset y.1 (head_asks head) (mentions_met src y.1 offset b.mentions (head_asks head) (asks_from s b (head_asks head) refl taken.went) types.1);
      }

  pub behind_head : (memory : Table) (offset : ℕ) (x : Read) → (h : HeadRead src basics memory offset x) → Whole src offset h.known x
  behind_head memory offset x h = after_whole src basics strings bytes offset h.within (blank h.ahead) refl h.fits h.end h.known h.added.fine h.head h.rest h.tail x h.parts h.asks h.behind_it

  pub with_whole : (memory : Table) (offset : ℕ) (x : Read) → Fine src memory → read_with src basics memory offset ≡ Ok x → Whole src offset memory x
  with_whole memory offset x fine e =
      let h = head_read memory offset x fine e in
      let w = behind_head memory offset x h in
      record { added = added_twice src offset memory h.known x.table h.added w.added; known = w.known; within = w.within }
