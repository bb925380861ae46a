-- What a declaration that is put does to what a section stands for.
use Rattle.std.proofs.Common.{◌≡◌, ℕ, Bool, true, false, cond, List, [], ◌∷◌, ◌++◌, length, map, None, refl, ap, sym, subst, ◌∙◌, inl, inr, append_assoc}
use Rattle.std.specs.Prelude.{fold, slice_index_or}
use Rattle.std.specs.List.{AllByRecursion}
use Rattle.code_tables.specs.DeclTag.{decl_tag_code}
use Rattle.go_values.specs.declared.qualified.QName.{QName}
use Rattle.wire_bytes.specs.Section.{with_text}
use Rattle.position_codec.specs.Place.{Place, no_place}
use Rattle.type_terms.specs.declared.declarations.DeclNode.{DeclNode}
use Rattle.type_terms.specs.declared.declarations.DeclNode.TheVariants.{Var, Func, Constant, Defined, Alias, Parameter}
use Rattle.type_terms.specs.declared.descriptors.Node.{Node}
use Rattle.type_terms.specs.Arenas.{AllBelow}
use Rattle.type_terms.specs.Declarations.{Decl, decl_nodes}
use Rattle.type_terms.specs.Denotation.{tree}
use Rattle.type_terms.specs.Trees.{Text, Tree, named, interface, instance, types, no_types, no_methods}
use Rattle.decl_spelling.specs.Sections.{Basics}
use Rattle.file_envelope.specs.FileBytes.{text_number}
use Rattle.file_layout.specs.Items.{Item, decl_items, decl_kind}
use Rattle.file_layout.specs.Bytes.{place_after, items_bytes}
use Rattle.file_layout.specs.Walk.{Event, says, tells, ends, items_events, walk, decl_events}
use Rattle.file_layout.specs.Places.{is_placed, number_in, place_type, place_decl}
use Rattle.block_writer.specs.declared.declarations.Told.{Told}
use Rattle.block_writer.specs.declared.items.Item.{Item as Put}
use Rattle.block_writer.specs.declared.items.Item.TheVariants as put
use Rattle.block_writer.specs.Adding.{meant}
use Rattle.block_writer.specs.Putting.{items_texts}
use Rattle.block_writer.specs.Declaring.{decl_over, HidesNone, IsTold, last_of, AddsDecl, PutsDecl}
use Rattle.block_writer.proofs.Types.{ids}
use Rattle.block_writer.proofs.DeclTypes.{decl_ids}
use Rattle.block_writer.proofs.LastItems.{IsLast, is_last}
use Rattle.block_walk.specs.declared.section.Section.{Section}
use Rattle.block_walk.specs.Steps.{item_steps, items_steps, decl_steps}
use Rattle.block_walk.specs.Going.{Out, with_event, with_events, after, IsKnown, IsClosed}
use Rattle.block_walk.specs.Labels.{Labels, IsLabelled}
use Rattle.block_walk.specs.Standing.{Stands, HasRoom, IsThere, Goes}
use Rattle.block_walk.specs.Declaring.{decl_placed, Declares}
use Rattle.block_walk.proofs.FinishLemmas.{texts_grow, all_numbered, sized, size_of}
use Rattle.block_walk.proofs.KnownLemmas.{fold_said, items_said}
use Rattle.block_walk.proofs.GoingLemmas.{items_after}

-- ---- the steps of a declaration

steps_then : (before : Place) (xs last : List Item) → ((place : Place) → items_steps place last ≡ []) → items_steps before (xs ++ last) ≡ items_steps before xs
steps_then before [] last none = none before
steps_then before (x ∷ xs) last none = ap (λ ss. item_steps before x ++ ss) (steps_then (place_after before x) xs last none)

no_steps : (last : List Item) → IsLast last → (place : Place) → items_steps place last ≡ []
no_steps last (inl e) place = ap (items_steps place) e
no_steps last (inr (signed, max, n, e)) place = ap (items_steps place) e

-- the items that are added have all of them
pub steps_are : (told : Told) (decl : DeclNode) (xs : List Put) (type : ℕ → Tree) (basics : Basics) → AddsDecl told decl [] xs → IsTold basics type told decl
    → items_steps no_place (map (meant type) xs) ≡ decl_steps basics (decl_over type decl)
steps_are told decl xs type basics adds so =
    let last = last_of told.basic decl in
    sym (steps_then no_place (map (meant type) xs) last (no_steps last (is_last told decl))) ∙ ap (items_steps no_place) (adds type basics so)

-- their nodes are there
all_there : (nodes : List Node) (xs : List Put) → AllBelow (length nodes) (ids xs) → AllByRecursion (IsThere nodes) xs
all_there nodes [] all = tt
all_there nodes (put.Number n ∷ xs) all = (tt, all_there nodes xs all)
all_there nodes (put.Flag x ∷ xs) all = (tt, all_there nodes xs all)
all_there nodes (put.Text text ∷ xs) all = (tt, all_there nodes xs all)
all_there nodes (put.Path path ∷ xs) all = (tt, all_there nodes xs all)
all_there nodes (put.Position pos ∷ xs) all = (tt, all_there nodes xs all)
all_there nodes (put.NoPosition ∷ xs) all = (tt, all_there nodes xs all)
all_there nodes (put.Type id ∷ xs) all = (all.0, all_there nodes xs all.1)

pub items_there : (nodes : List Node) (told : Told) (decl : DeclNode) (xs : List Put) → HidesNone told decl → AddsDecl told decl [] xs → AllBelow (length nodes) (decl_nodes decl) → AllByRecursion (IsThere nodes) xs
items_there nodes told decl xs hides adds below = all_there nodes xs (subst (AllBelow (length nodes)) (sym (decl_ids told decl xs hides adds)) below)

-- ---- texts are only added

-- types that come down to what is told, or may have no methods, and from which a number is got back
abbrev generic : ℕ → Tree
generic n = instance (named (record { path = []; name = [] })) (types (sized n) no_types)

abbrev bare : ℕ → Tree
bare n = interface [] (types (sized n) no_types) no_methods

abbrev back : Tree → ℕ
back (instance base (types type rest)) = size_of type
back (interface home (types type rest) own) = size_of type
back type = size_of type

no_basics : Basics
no_basics path name = None

module _ (own : Text) (labels : List ℕ) (told : Told) (decl : DeclNode) (a b : List Text) (u v : List ℕ) (puts : PutsDecl own labels told decl a b u v) where
  abbrev label : ℕ → ℕ
  label id = slice_index_or labels id 0

  all_back : (type : ℕ → Tree) → ((id : ℕ) → back (type id) ≡ label id) → (xs : List ℕ) → AllByRecursion (λ id. back (type id) ≡ label id) xs
  all_back type same [] = tt
  all_back type same (x ∷ xs) = (same x, all_back type same xs)

  grown_by : (type : ℕ → Tree) (basics : Basics) → ((id : ℕ) → back (type id) ≡ label id) → IsTold basics type told decl → (texts : List Text) × (b ≡ a ++ texts)
  grown_by type basics same so =
      let put = puts type back basics so (all_back type same (decl_nodes decl)) in
      let more = texts_grow a (items_texts own no_place (decl_items basics (decl_over type decl))) in
      (more.0, put.said ∙ more.1)

pub grown : (own : Text) (labels : List ℕ) (told : Told) (decl : DeclNode) (a b : List Text) (u v : List ℕ) → PutsDecl own labels told decl a b u v → (texts : List Text) × (b ≡ a ++ texts)
grown own labels told (Var pos ty) a b u v puts = grown_by own labels told (Var pos ty) a b u v puts (λ id. sized (slice_index_or labels id 0)) no_basics (λ id. refl) tt
grown own labels told (Func pos tparams sig) a b u v puts = grown_by own labels told (Func pos tparams sig) a b u v puts (λ id. sized (slice_index_or labels id 0)) no_basics (λ id. refl) tt
grown own labels told (Constant pos ty value) a b u v puts =
    grown_by own labels told (Constant pos ty value) a b u v puts (λ id. generic (slice_index_or labels id 0)) (λ path name. told.basic) (λ id. refl) refl
grown own labels told (Defined pos tparams underlying methods) a b u v puts = by told.has_methods refl
  where
    by : (has : Bool) → told.has_methods ≡ has → (texts : List Text) × (b ≡ a ++ texts)
    by true e = grown_by own labels told (Defined pos tparams underlying methods) a b u v puts (λ id. sized (slice_index_or labels id 0)) no_basics (λ id. refl) e
    by false e = grown_by own labels told (Defined pos tparams underlying methods) a b u v puts (λ id. bare (slice_index_or labels id 0)) no_basics (λ id. refl) e
grown own labels told (Alias pos tparams ty) a b u v puts = grown_by own labels told (Alias pos tparams ty) a b u v puts (λ id. sized (slice_index_or labels id 0)) no_basics (λ id. refl) tt
grown own labels told (Parameter pos implicit constraint) a b u v puts = grown_by own labels told (Parameter pos implicit constraint) a b u v puts (λ id. sized (slice_index_or labels id 0)) no_basics (λ id. refl) tt

-- ---- events place no declaration

module _ (own : Text) (offset : Text → ℕ) where
  event_lines : (out : Out) (e : Event) → (with_event own offset out e).written.lines ≡ out.written.lines
  unfolding place_type
  event_lines out (says text) = refl
  event_lines out (tells path) = refl
  event_lines out (ends type) = by (is_placed out.written.blocks type)
    where
      by : (b : Bool) → (cond b out.written (place_type own offset out.written type)).lines ≡ out.written.lines
      by true = refl
      by false = refl

  events_lines : (out : Out) (es : List Event) → (with_events own offset out es).written.lines ≡ out.written.lines
  events_lines out [] = refl
  events_lines out (e ∷ es) = events_lines (with_event own offset out e) es ∙ event_lines out e

-- ---- a declaration that is put

-- The section that is before, the one with all types, and the one behind; the numbers of types, and where it starts.
module _ (nodes : List Node) (own : Text) (told : Told) (decl : DeclNode) (old mid new : Section) (labels : List ℕ) (start : ℕ) where
  -- what was put of a declaration behind its types
  pub record PutBehind : Type 0 where
    pub below : AllBelow (length nodes) (decl_nodes decl)
    pub room : HasRoom nodes mid
    pub set : Labels nodes mid.numbers.items labels
    pub labelled : AllByRecursion (IsLabelled nodes labels) (decl_nodes decl)
    pub puts : PutsDecl own labels told decl mid.strings new.strings mid.body new.body
    pub numbers : new.numbers.items ≡ labels
    pub placed : new.placed.items ≡ mid.placed.items
    pub paths : new.paths.keys ≡ mid.paths.keys
    pub names : new.names.keys ≡ mid.names.keys
    pub starts : start ≡ length mid.body

  module _ (is : PutBehind) (basics : Basics) (so : IsTold basics (tree nodes) told decl) where
    meant_decl : Decl
    meant_decl = decl_over (tree nodes) decl

    stands_with : (more : List Text) (out : Out) (q : QName) → Stands nodes mid out → fold with_text out.texts (items_texts own no_place (decl_items basics (decl_over (tree nodes) decl))) ≡ out.texts
        → Stands nodes new (decl_placed own (text_number (new.strings ++ more)) basics out q (decl_over (tree nodes) decl))
    unfolding place_decl
    stands_with more out q stands said =
        let offset = text_number (new.strings ++ more) in
        let decl' = decl_over (tree nodes) decl in
        let number = number_in out.written.blocks in
        let puts = is.puts (tree nodes) number basics so (all_numbered nodes mid labels is.set out stands (decl_nodes decl) is.below is.labelled) in
        record {
          bytes =
              puts.added more
              ∙ ap (λ (bytes : List ℕ). bytes ++ decl_tag_code (decl_kind decl') ∷ items_bytes own offset number no_place (decl_items basics decl')) stands.bytes;
          texts = puts.said ∙ ap (λ (texts : List Text). fold with_text texts (items_texts own no_place (decl_items basics decl'))) stands.texts ∙ said;
          paths = is.paths ∙ stands.paths;
          names = is.names ∙ stands.names;
          numbers = λ id low made. ap (λ ns. slice_index_or ns id 0) is.numbers ∙ is.set.kept id made ∙ stands.numbers id low made;
          placed = λ id low. ap (λ ms. slice_index_or ms id false) is.placed ∙ stands.placed id low;
          denoted = stands.denoted;
        }

    closed_with : (offset : Text → ℕ) (out : Out) (q : QName) → IsClosed own offset out → IsClosed own offset (decl_placed own offset basics out q (decl_over (tree nodes) decl))
    unfolding place_decl
    closed_with offset out q closed = closed

    line_with : (offset : Text → ℕ) (out : Out) (q : QName) → Stands nodes mid out → (decl_placed own offset basics out q (decl_over (tree nodes) decl)).written.lines ≡ out.written.lines ++ record { name = q; start = start } ∷ []
    unfolding place_decl
    line_with offset out q stands = ap (λ (n : ℕ). out.written.lines ++ record { name = q; start = n } ∷ []) (sym (is.starts ∙ ap length stands.bytes))

    pub declares : Goes nodes own old mid (decl_steps basics (decl_over (tree nodes) decl)) [] → Declares nodes own basics (decl_over (tree nodes) decl) start old new
    declares goes = record {
      texts = goes.texts ++ behind.0;
      grown = all_grown;
      room = record { numbers = ap length is.numbers ∙ is.set.same ∙ is.room.numbers; marks = ap length is.placed ∙ is.room.marks };
      comes = λ more out q stands closed.
          let offset = text_number (new.strings ++ more) in
          let decl' = decl_over (tree nodes) decl in
          let items = decl_items basics decl' in
          let same : mid.strings ++ (behind.0 ++ more) ≡ new.strings ++ more = sym (append_assoc mid.strings behind.0 more) ∙ ap (λ (ts : List Text). ts ++ more) (sym behind.1) in
          let came = goes.comes (behind.0 ++ more) out stands in
          let reached = items_after own offset no_place items out closed in
          let now : came.0 ≡ with_events own offset out (decl_events basics decl') =
          sym came.2 ∙ ap (λ (ts : List Text). after own (text_number ts) out (decl_steps basics decl')) same ∙ reached.is in
          let out' = with_events own offset out (decl_events basics decl') in
          let stood : Stands nodes mid out' = subst (Stands nodes mid) now came.1 in
          let shut : IsClosed own offset out' = subst (IsClosed own offset) reached.is reached.closed in
          let known = subst (λ (o : Out). AllByRecursion (IsKnown own offset o) (items_events walk no_place items)) reached.is reached.known in
          let said = fold_said own offset out'.texts (items_texts own no_place items) (items_said own offset out' walk no_place items known) in
          record {
            stands = stands_with more out' q stood said;
            closed = closed_with offset out' q shut;
            lines = line_with offset out' q stood ∙ ap (λ ls. ls ++ record { name = q; start = start } ∷ []) (events_lines own offset out (decl_events basics decl'));
          };
    }
      where
        behind : (texts : List Text) × (new.strings ≡ mid.strings ++ texts)
        behind = grown own labels told decl mid.strings new.strings mid.body new.body is.puts

        all_grown : new.strings ≡ old.strings ++ (goes.texts ++ behind.0)
        all_grown = behind.1 ∙ ap (λ (ts : List Text). ts ++ behind.0) goes.grown ∙ append_assoc old.strings goes.texts behind.0
