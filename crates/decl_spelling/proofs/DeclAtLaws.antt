-- The function that decides and the relation agree: at an offset one declaration is spelled and there is no fault, or none is and there is one.
use Rattle.std.proofs.Common.{◌≡◌, ℕ, zero, suc, ◌<◌, ◌≤◌, ◌⊎◌, inl, inr, List, [], ◌∷◌, length, Contains, Result, Ok, Err, Some, refl, sym, ◌∙◌, ap, subst, arith, map}
use Rattle.std.specs.List.{AllByRecursion}
use Rattle.std.proofs.lemmas.List.Elements.{recursion_from_All, All-weaker}
use Rattle.code_tables.specs.DeclTag.{decl_tag_code}
use Rattle.wire_bytes.specs.declared.fault.ByteFault.{ByteFault}
use Rattle.wire_bytes.proofs.Steps.{done_is}
use Rattle.wire_bytes.proofs.Spellings.{IsBytes}
use Rattle.type_terms.specs.Declarations.{form_types, Decl, form_map}
use Rattle.decl_spelling.specs.Sections.{Sections, Basics, window, HoldsBytes}
use Rattle.decl_spelling.specs.Codes.{decl_tag_of}
use Rattle.decl_spelling.specs.Spelled.{SpelledDecl, form_meant}
use Rattle.decl_spelling.specs.Reading.{start, Ahead, Stopped}
use Rattle.decl_spelling.specs.Tables.{Table, at}
use Rattle.decl_spelling.specs.Descent.{block_at}
use Rattle.decl_spelling.specs.Declarations.{head_at, Read, after_head, read_at, decl_of, spelled_of, decl_at, FirstFault, resolved, Head}
use Rattle.decl_spelling.specs.Descriptors.{Flat}
use Rattle.decl_spelling.specs.Grammar.{Here, IsDescriptor}
use Rattle.decl_spelling.specs.Spelling.{Block, Names, Sound, here, kind_of_decl, SpellsDecl, spelled_with, block_spelled, Says, KnownForm, same_pos, same_text, Known}
use Rattle.decl_spelling.specs.Asks.{ask_of}
use Rattle.decl_spelling.proofs.Took.{seen_from, IsHead, head_asks, Fits, unplaced_head}
use Rattle.decl_spelling.proofs.FlatLaws.{flat_again, head_took, head_again}
use Rattle.decl_spelling.proofs.TableLaws.{finished_of, some_is}
use Rattle.decl_spelling.specs.KnownTypes.{IsKnown}
use Rattle.decl_spelling.proofs.KnownTypeLemmas.{names_more}
use Rattle.decl_spelling.proofs.Windows.{behind, behind_length, byte_within}
use Rattle.decl_spelling.proofs.AskLemmas.{asks_from}
use Rattle.decl_spelling.proofs.NewBlocks.{block_some}
use Rattle.decl_spelling.proofs.BlockTakes.{window_fits, here_is}
use Rattle.decl_spelling.proofs.TypeAgain.{mentions_named, all_again}
use Rattle.decl_spelling.proofs.BlockAgain.{all_asked, block_again}
use Rattle.decl_spelling.proofs.DeclTakes.{blank, parts_at, read_takes, decl_takes}
use Rattle.decl_spelling.proofs.DeclarationHeads.{head_of, IsRest, head_stands, head_kind, head_named}
use Rattle.decl_spelling.proofs.DeclAgain.{asks_unplaced, next_done, resolved_done, rest_read}

-- ---- sections of bytes

pub are_bytes : (bytes : List ℕ) → AllByRecursion (λ b. b < 256) bytes → IsBytes bytes
are_bytes [] all i = omega arith
are_bytes (b ∷ bytes) all zero = all.0
are_bytes (b ∷ bytes) all (suc i) = are_bytes bytes all.1 i

pub strings_are : (src : Sections) → HoldsBytes src → IsBytes src.strings
strings_are src holds = are_bytes src.strings holds.0

pub body_is : (src : Sections) → HoldsBytes src → IsBytes src.body
body_is src holds = are_bytes src.body holds.1

-- ---- what needs no reading

-- with more blocks a declaration is spelled as well
pub spells_more : (src : Sections) (basics : Basics) (offset : ℕ) (decl : Decl) (spells : SpellsDecl src basics offset decl) (all : List Block) → Sound src all → ((block : Block) → Contains spells.blocks block → Contains all block)
    → (more : SpellsDecl src basics offset decl) × (more.blocks ≡ all)
spells_more src basics offset decl spells all sound more = (
  record {
    blocks = all;
    sound = sound;
    parts = spells.parts;
    value = spells.value;
    rest = spells.rest;
    after = spells.after;
    kind = spells.kind;
    known = spells.known;
    stands = spells.stands;
    named = All-weaker (Names src spells.blocks offset) (Names src all offset) (λ x. names_more src spells.blocks all offset x more) (form_types spells.parts) spells.named;
    meant = spells.meant;
  },
  refl,
)

-- two faults of one reading are one
pub one_fault : (src : Sections) (basics : Basics) (offset : ℕ) (a b : ByteFault) → FirstFault src basics offset a → FirstFault src basics offset b → a ≡ b
one_fault src basics offset a b first second = (cc)

-- ---- declarations

-- where the head of a declaration was read, with its types, and what it leads to
read_done : (src : Sections) (basics : Basics) (offset : ℕ) (y : (Head × Ahead) × Table) (x : Read) (d e : Decl) (s : SpelledDecl) → resolved src offset (head_at src (start (window src offset (length src.body)))) [] ≡ Ok y
    → after_head src basics offset (y.0).0 (y.0).1 y.1 ≡ Ok x → decl_of src x ≡ e → d ≡ e → spelled_of x ≡ s → (x : Read) × (read_at src basics offset ≡ Ok x) × (decl_of src x ≡ d) × (spelled_of x ≡ s)
unfolding read_at
read_done src basics offset y x d e s first leads means said spelled = (x, next_done (resolved src offset (head_at src (start (window src offset (length src.body)))) []) (λ head. after_head src basics offset (head.0).0 (head.0).1 head.1) y x first leads, means ∙ sym said, spelled)

-- The head of a declaration was read again, but for the place of a typeOff.
record HeadAgain (src : Sections) (offset : ℕ) (parts : KnownForm) (after : Here) : Type 0 where
  head : Head
  ahead : Ahead
  read : head_at src (start (window src offset (length src.body))) ≡ Ok (head, ahead)
  same : unplaced_head head ≡ unplaced_head (head_of parts)
  left : after ≡ seen_from ahead (behind src.body offset (length src.body))
  asked : map ask_of ahead.mentions ≡ head_asks (head_of parts)
  fits : Fits (blank ahead)

module _ (src : Sections) (basics : Basics) (holds : HoldsBytes src) where
  -- nothing is behind the window of a declaration
  no_tail : (offset : ℕ) → offset ≤ length src.body → length (behind src.body offset (length src.body)) ≡ 0
  no_tail offset within = omega (arith, behind_length src.body offset (length src.body) within (omega arith))

  head_reread : (offset : ℕ) → offset ≤ length src.body → (parts : KnownForm) (after : Here) → IsHead src (here src offset) (head_of parts) after → HeadAgain src offset parts after
  head_reread offset within parts after stands =
      let to = length src.body in
      let s = start (window src offset to) in
      let tail = behind src.body offset to in
      let there : IsHead src (seen_from s tail) (head_of parts) after = subst (λ (a : Here). IsHead src a (head_of parts) after) (sym (here_is src offset to)) stands in
      let again = head_again src s tail (head_of parts) after there (omega (arith, no_tail offset within)) in
      let head = again.0 in
      let ahead = (again.2).0 in
      let went = (head_took src (strings_are src holds) s (window_fits src offset to (body_is src holds)) head ahead (again.2).1).went in
      record {
        head = head;
        ahead = ahead;
        read = (again.2).1;
        same = again.1;
        left = (again.2).2;
        asked = asks_from s ahead (head_asks head) refl went ∙ sym (asks_unplaced head) ∙ ap head_asks again.1 ∙ asks_unplaced (head_of parts);
        fits = record { bytes = went.fits.bytes; line = went.fits.line; column = went.fits.column };
      }

  -- what is spelled is read, in two parts
  pub read_again : (offset : ℕ) (d : Decl) (spells : SpellsDecl src basics offset d) → (x : Read) × (read_at src basics offset ≡ Ok x) × (decl_of src x ≡ d) × (spelled_of x ≡ spelled_with spells)
  read_again offset d spells =
      let parts = spells.parts in
      let blocks = spells.blocks in
      let kind = kind_of_decl parts in
      let tail = behind src.body offset (length src.body) in
      let within : offset ≤ length src.body = byte_within src.body offset (decl_tag_code kind) spells.rest spells.kind in
      let two = head_stands src basics (parts_at spells.rest) parts spells.value spells.after spells.stands in
      let stands : IsHead src (here src offset) (head_of parts) two.0
      = record {
        rest = spells.rest;
        kind = spells.kind ∙ ap (λ kind. decl_tag_code kind ∷ spells.rest) (sym (head_kind parts));
        known = subst (λ kind. decl_tag_of src.version (decl_tag_code kind) ≡ Some kind) (sym (head_kind parts)) spells.known;
        parts = two.1;
      } in
      let again = head_reread offset within parts two.0 stands in
      let names = recursion_from_All (Names src blocks offset) (form_types parts) spells.named in
      let nameable = mentions_named src blocks offset again.ahead.mentions (head_asks (head_of parts)) again.asked (head_named src blocks offset basics (parts_at spells.rest) parts spells.value spells.after spells.stands names) in
      let reads = block_again src (strings_are src holds) (body_is src holds) blocks spells.sound offset offset (omega arith) within in
      let types = all_again src blocks spells.sound (block_at src offset) offset reads again.ahead.mentions [] nameable tt in
      let is = all_asked (IsKnown src types.0 offset) again.ahead.mentions (head_asks (head_of parts)) again.asked types.4 in
      let rest : IsRest src basics (seen_from again.ahead tail) parts spells.value spells.after = subst (λ (a : Here). IsRest src basics a parts spells.value spells.after) again.left two.2 in
      let last = rest_read src basics (strings_are src holds) (body_is src holds) blocks spells.sound offset within tail (no_tail offset within) (blank again.ahead) refl again.fits types.0 types.2 parts spells.value again.head spells.after again.same rest names is in
      let first = resolved_done src offset (head_at src (start (window src offset (length src.body)))) (again.head, again.ahead) [] types.0 again.read types.1 in
      read_done src basics offset ((again.head, blank again.ahead), types.0) last.0 d (form_meant (form_map same_pos same_text (λ (t : Known). t.tree) parts)) (spelled_with spells) first last.1 (ap form_meant last.2) spells.meant
      (λ i. record { form = last.3 i; value = last.4 i })

  pub decl_again : (offset : ℕ) (d : Decl) → SpellsDecl src basics offset d → decl_at src basics offset ≡ Ok d
  decl_again offset d spells =
      let again = read_again offset d spells in
      next_done (read_at src basics offset) (λ x. Ok (decl_of src x)) again.0 d again.1 (ap (λ (d : Decl). Ok d) again.2)

  pub one_decl : (offset : ℕ) (a b : Decl) → SpellsDecl src basics offset a → SpellsDecl src basics offset b → a ≡ b
  one_decl offset a b first second = done_is a b (sym (decl_again offset a first) ∙ decl_again offset b second)

  -- and what it is spelled with
  pub one_spelling : (offset : ℕ) (a b : Decl) (first : SpellsDecl src basics offset a) (second : SpellsDecl src basics offset b) → spelled_with first ≡ spelled_with second
  one_spelling offset a b first second =
      let x = read_again offset a first in
      let y = read_again offset b second in
      sym x.3 ∙ ap spelled_of (done_is x.0 y.0 (sym x.1 ∙ y.1)) ∙ y.3

  -- What was read is spelled, with the same parts.
  pub read_found : (offset : ℕ) (x : Read) → read_at src basics offset ≡ Ok x → (spells : SpellsDecl src basics offset (decl_of src x)) × (spelled_with spells ≡ spelled_of x)
  read_found = read_takes src basics (strings_are src holds) (body_is src holds)

  pub decl_found : (offset : ℕ) (d : Decl) → decl_at src basics offset ≡ Ok d → SpellsDecl src basics offset d
  decl_found = decl_takes src basics (strings_are src holds) (body_is src holds)

  pub decl_or_fault : (offset : ℕ) → ((d : Decl) × SpellsDecl src basics offset d) ⊎ ((f : ByteFault) × FirstFault src basics offset f)
  decl_or_fault offset = go (decl_at src basics offset) refl
    where
      go : (r : Result Decl ByteFault) → decl_at src basics offset ≡ r → ((d : Decl) × SpellsDecl src basics offset d) ⊎ ((f : ByteFault) × FirstFault src basics offset f)
      go (Ok d) e = inl (d, decl_found offset d e)
      go (Err f) e = inr (f, e)

  pub never_both : (offset : ℕ) (d : Decl) (f : ByteFault) → SpellsDecl src basics offset d → FirstFault src basics offset f → ⊥
  never_both offset d f spells fault = let found = decl_again offset d spells in cc

-- ---- descriptors

abbrev read_or : {X : Type 0} → X → Result X Stopped → X
read_or x (Ok y) = y
read_or x (Err stopped) = x

module _ (src : Sections) (holds : HoldsBytes src) where
  -- a block is read by itself, up to the end of the data
  block_read : (all : List Block) → Sound src all → (b : Block) → Contains all b → (known : Table) × (block_at src (length src.body) b.start (length src.body) [] ≡ Ok known) × (at known b.start ≡ Some (finished_of b))
  block_read all sound b has =
      let says = sound.each b has in
      let ends : b.end ≤ length src.body = omega (arith, says.ends) in
      let again = block_again src (strings_are src holds) (body_is src holds) all sound (length src.body) (length src.body) (omega arith) (omega arith) b [] has ends tt refl in
      (again.0, again.1, again.4)

  -- two blocks with one start are read alike
  pub one_type : (some all : List Block) → Sound src some → Sound src all → (a b : Block) → Contains some a → Contains all b → a.start ≡ b.start → a ≡ b
  one_type some all sound_some sound_all a b has_a has_b same =
      let first = block_read some sound_some a has_a in
      let second = block_read all sound_all b has_b in
      let moved : block_at src (length src.body) a.start (length src.body) [] ≡ Ok second.0 = ap (λ (o : ℕ). block_at src (length src.body) o (length src.body) []) same ∙ second.1 in
      let tables : first.0 ≡ second.0 = done_is first.0 second.0 (sym first.1 ∙ moved) in
      let there : at second.0 a.start ≡ Some (finished_of b) = ap (at second.0) same ∙ second.2 in
      let here_too : at second.0 a.start ≡ Some (finished_of a) = ap (λ (t : Table). at t a.start) (sym tables) ∙ first.2 in
      let finished : finished_of a ≡ finished_of b = some_is (finished_of a) (finished_of b) (at second.0 a.start) here_too there in
      λ i. record { start = same i; end = (finished i).end; tree = (finished i).tree }

  -- and are spelled with the same
  pub one_block : (some all : List Block) (a b : Block) (first : Says src some a) (second : Says src all b) → a.start ≡ b.start → block_spelled first ≡ block_spelled second
  one_block some all a b first second same =
      let to = length src.body in
      let tail = behind src.body b.start to in
      let s = start (window src b.start to) in
      let within : b.start ≤ to = omega (arith, block_some src all b second, second.ends) in
      let none : length tail ≡ 0 = omega (arith, behind_length src.body b.start to within (omega arith)) in
      let here_b : seen_from s tail ≡ here src b.start = here_is src b.start to in
      let here_a : seen_from s tail ≡ here src a.start = here_b ∙ ap (here src) (sym same) in
      let x = flat_again src s tail (block_spelled first) first.after (subst (λ (a : Here). IsDescriptor src a (block_spelled first) first.after) (sym here_a) first.stands) (omega arith) in
      let y = flat_again src s tail (block_spelled second) second.after (subst (λ (a : Here). IsDescriptor src a (block_spelled second) second.after) (sym here_b) second.stands) (omega arith) in
      ap (λ (z : Flat × Ahead). z.0) (ap (read_or (block_spelled first, x.0)) (sym x.1 ∙ y.1))
