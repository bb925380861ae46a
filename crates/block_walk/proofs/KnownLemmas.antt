-- What is known stays known, and changes nothing.
use Rattle.std.proofs.Common.{◌≡◌, ℕ, Bool, true, false, cond, List, [], ◌∷◌, ◌++◌, length, Option, Some, None, refl, ap, sym, subst, ◌∙◌, ◌⊎◌, inl, inr, ◌+◌}
use Rattle.std.specs.Prelude.{◌||◌, fold, is_some, nat_eq, option_map}
use Rattle.std.specs.List.{AllByRecursion, flat_map, list_any}
use Rattle.std.specs.Cmp.Lexicographic.{pointwise}
use Rattle.std.proofs.lemmas.Bool.{or_left, or_right}
use Rattle.std.proofs.lemmas.Cmp.{nat_list_eq_equiv}
use Rattle.go_values.specs.declared.qualified.QName.{QName}
use Rattle.wire_bytes.specs.Section.{offset_in, spelled_text, with_text}
use Rattle.position_codec.specs.Place.{Place, place_of, no_place}
use Rattle.type_terms.specs.Replaced.{all_right}
use Rattle.type_terms.specs.Trees.{Text, Tree, named, level_of}
use Rattle.type_terms.specs.TreeEquality.{same_tree, same_told, same_itself, same_name}
use Rattle.decl_spelling.specs.Spelling.{Block}
use Rattle.export_order.specs.Order.{is_among}
use Rattle.file_layout.specs.Items.{Item, a_number, a_flag, a_text, a_path, a_position, a_type, a_whole, level_items}
use Rattle.file_layout.specs.Bytes.{same_file, path_text}
use Rattle.file_layout.specs.Walk.{Event, says, tells, ends, event_texts, items_events, walk}
use Rattle.file_layout.specs.Places.{Written, is_placed, place_type, happen}
use Rattle.block_writer.specs.Putting.{items_texts}
use Rattle.block_walk.specs.Going.{Out, IsSaid, is_told, with_path, leaf_names, with_name, with_names, with_event, with_events, put_type, finished, IsKnown, IsClosed}

-- ---- texts

option_there : (o : Option ℕ) (n : ℕ) → is_some o ≡ true → is_some (option_map (λ k. n + k) o) ≡ true
option_there (Some k) n e = refl
option_there None n e = absurd cc

said_more : (xs ys : List Text) (t : Text) → IsSaid xs t → IsSaid (xs ++ ys) t
said_more [] ys t e = absurd cc
said_more (x ∷ xs) ys t e = by (pointwise nat_eq t x) e (said_more xs ys t)
  where
    back : (o : Option ℕ) (n : ℕ) → is_some (option_map (λ k. n + k) o) ≡ true → is_some o ≡ true
    back (Some k) n e = refl
    back None n e = absurd cc

    by : (b : Bool) → is_some (cond b (Some 0) (option_map (λ o. length (spelled_text x) + o) (offset_in xs t))) ≡ true
        → (IsSaid xs t → IsSaid (xs ++ ys) t) → is_some (cond b (Some 0) (option_map (λ o. length (spelled_text x) + o) (offset_in (xs ++ ys) t))) ≡ true
    by true e later = refl
    by false e later = option_there (offset_in (xs ++ ys) t) (length (spelled_text x)) (later (back (offset_in xs t) (length (spelled_text x)) e))

said_last : (xs : List Text) (t : Text) → IsSaid (xs ++ t ∷ []) t
said_last [] t = ap (λ b. is_some (cond b (Some 0) (option_map (λ o. length (spelled_text t) + o) None))) (nat_list_eq_equiv.refl t)
said_last (x ∷ xs) t = by (pointwise nat_eq t x) (said_last xs t)
  where
    by : (b : Bool) → IsSaid (xs ++ t ∷ []) t → is_some (cond b (Some 0) (option_map (λ o. length (spelled_text x) + o) (offset_in (xs ++ t ∷ []) t))) ≡ true
    by true later = refl
    by false later = option_there (offset_in (xs ++ t ∷ []) t) (length (spelled_text x)) later

pub said_same : (texts : List Text) (t : Text) → IsSaid texts t → with_text texts t ≡ texts
said_same texts t e = ap (λ b. cond b texts (texts ++ t ∷ [])) e

pub said_later : (texts : List Text) (t u : Text) → IsSaid texts t → IsSaid (with_text texts u) t
said_later texts t u e = by (is_some (offset_in texts u))
  where
    by : (b : Bool) → IsSaid (cond b texts (texts ++ u ∷ [])) t
    by true = e
    by false = said_more texts (u ∷ []) t e

pub said_itself : (texts : List Text) (t : Text) → IsSaid (with_text texts t) t
said_itself texts t = by (is_some (offset_in texts t)) refl
  where
    by : (b : Bool) → is_some (offset_in texts t) ≡ b → IsSaid (cond b texts (texts ++ t ∷ [])) t
    by true e = e
    by false e = said_last texts t

-- ---- paths and names

-- Things of which each is put once, by a test.
module _ {X : Type 0} (same : X → X → Bool) (itself : (x : X) → same x x ≡ true) where
  abbrev with_one : List X → X → List X
  with_one xs x = cond (list_any (same x) xs) xs (xs ++ x ∷ [])

  any_more : (xs ys : List X) (x : X) → list_any (same x) xs ≡ true → list_any (same x) (xs ++ ys) ≡ true
  any_more [] ys x e = absurd cc
  any_more (z ∷ zs) ys x e = by (same x z) e (any_more zs ys x)
    where
      by : (b : Bool) → (b || list_any (same x) zs) ≡ true → (list_any (same x) zs ≡ true → list_any (same x) (zs ++ ys) ≡ true) → (b || list_any (same x) (zs ++ ys)) ≡ true
      by true e later = refl
      by false e later = later e

  any_last : (xs : List X) (x : X) → list_any (same x) (xs ++ x ∷ []) ≡ true
  any_last [] x = or_left (same x x) false (itself x)
  any_last (z ∷ zs) x = or_right (same x z) (list_any (same x) (zs ++ x ∷ [])) (any_last zs x)

  one_later : (xs : List X) (x y : X) → list_any (same x) xs ≡ true → list_any (same x) (with_one xs y) ≡ true
  one_later xs x y e = by (list_any (same y) xs)
    where
      by : (b : Bool) → list_any (same x) (cond b xs (xs ++ y ∷ [])) ≡ true
      by true = e
      by false = any_more xs (y ∷ []) x e

  one_itself : (xs : List X) (x : X) → list_any (same x) (with_one xs x) ≡ true
  one_itself xs x = by (list_any (same x) xs) refl
    where
      by : (b : Bool) → list_any (same x) xs ≡ b → list_any (same x) (cond b xs (xs ++ x ∷ [])) ≡ true
      by true e = e
      by false e = any_last xs x

same_name_itself : (q : QName) → same_name q q ≡ true
same_name_itself q = same_itself (named q)

abbrev pub AllAmong : List QName → List QName → Type 0
AllAmong names = AllByRecursion (λ q. is_among names q ≡ true)

names_later : (names qs : List QName) (q : QName) → is_among names q ≡ true → is_among (with_names names qs) q ≡ true
names_later names [] q e = e
names_later names (r ∷ rs) q e = names_later (with_name names r) rs q (one_later same_name same_name_itself names q r e)

names_itself : (names qs : List QName) → AllAmong (with_names names qs) qs
names_itself names [] = tt
names_itself names (q ∷ qs) = (names_later (with_name names q) qs q (one_itself same_name same_name_itself names q), names_itself (with_name names q) qs)

pub names_both : (names xs ys : List QName) → with_names names (xs ++ ys) ≡ with_names (with_names names xs) ys
names_both names [] ys = refl
names_both names (x ∷ xs) ys = names_both (with_name names x) xs ys

names_same : (names qs : List QName) → AllAmong names qs → with_names names qs ≡ names
names_same names [] all = refl
names_same names (q ∷ qs) all = ap (λ (ns : List QName). with_names ns qs) (ap (λ b. cond b names (names ++ q ∷ [])) all.0) ∙ names_same names qs all.1

all_among_later : (old new : List QName) → ((q : QName) → is_among old q ≡ true → is_among new q ≡ true) → (qs : List QName) → AllAmong old qs → AllAmong new qs
all_among_later old new more [] all = tt
all_among_later old new more (q ∷ qs) all = (more q all.0, all_among_later old new more qs all.1)

-- ---- blocks

placed_more : (type : Tree) (blocks more : List Block) → is_placed blocks type ≡ true → is_placed (blocks ++ more) type ≡ true
placed_more type [] more e = absurd cc
placed_more type (b ∷ bs) more e = by (same_tree type b.tree) e (placed_more type bs more)
  where
    by : (c : Bool) → (c || is_placed bs type) ≡ true → (is_placed bs type ≡ true → is_placed (bs ++ more) type ≡ true) → (c || is_placed (bs ++ more) type) ≡ true
    by true e later = refl
    by false e later = later e

placed_last : (type : Tree) (blocks : List Block) (block : Block) → block.tree ≡ type → is_placed (blocks ++ block ∷ []) type ≡ true
placed_last type [] block is = or_left (same_tree type block.tree) false (subst (λ (t : Tree). same_tree type t ≡ true) (sym is) (same_itself type))
placed_last type (b ∷ bs) block is = or_right (same_tree type b.tree) (is_placed (bs ++ block ∷ []) type) (placed_last type bs block is)

pub placed_cases : (type : Tree) (blocks : List Block) (block : Block) → is_placed (blocks ++ block ∷ []) type ≡ true → (is_placed blocks type ≡ true) ⊎ (type ≡ block.tree)
placed_cases type [] block e = by (same_tree type block.tree) refl e
  where
    by : (c : Bool) → same_tree type block.tree ≡ c → (c || false) ≡ true → (false ≡ true) ⊎ (type ≡ block.tree)
    by true is e = inr (same_told type block.tree is)
    by false is e = inl e
placed_cases type (b ∷ bs) block e = by (same_tree type b.tree) e (placed_cases type bs block)
  where
    by : (c : Bool) → (c || is_placed (bs ++ block ∷ []) type) ≡ true → (is_placed (bs ++ block ∷ []) type ≡ true → (is_placed bs type ≡ true) ⊎ (type ≡ block.tree))
        → ((c || is_placed bs type) ≡ true) ⊎ (type ≡ block.tree)
    by true e later = inl refl
    by false e later = later e

-- ---- events

module _ (own : Text) (offset : Text → ℕ) where
  happen_more : (w : Written) (type other : Tree) → is_placed w.blocks other ≡ true → is_placed (happen own offset w (ends type)).blocks other ≡ true
  unfolding place_type
  happen_more w type other e = by (is_placed w.blocks type)
    where
      by : (b : Bool) → is_placed (cond b w (place_type own offset w type)).blocks other ≡ true
      by true = e
      by false = placed_more other w.blocks _ e

  happen_itself : (w : Written) (type : Tree) → is_placed (happen own offset w (ends type)).blocks type ≡ true
  unfolding place_type
  happen_itself w type = by (is_placed w.blocks type) refl
    where
      by : (b : Bool) → is_placed w.blocks type ≡ b → is_placed (cond b w (place_type own offset w type)).blocks type ≡ true
      by true e = e
      by false e = placed_last type w.blocks _ refl

  -- what is placed now was, or is the one that ended
  pub happen_cases : (w : Written) (type other : Tree) → is_placed (happen own offset w (ends type)).blocks other ≡ true → (is_placed w.blocks other ≡ true) ⊎ (other ≡ type)
  unfolding place_type
  happen_cases w type other e = by (is_placed w.blocks type) e
    where
      by : (b : Bool) → is_placed (cond b w (place_type own offset w type)).blocks other ≡ true → (is_placed w.blocks other ≡ true) ⊎ (other ≡ type)
      by true e = inl e
      by false e = placed_cases other w.blocks _ e

  -- what was known is known
  pub record More (old new : Out) : Type 0 where
    pub texts : (t : Text) → IsSaid old.texts t → IsSaid new.texts t
    pub paths : (t : Text) → is_told old.paths t ≡ true → is_told new.paths t ≡ true
    pub names : (q : QName) → is_among old.names q ≡ true → is_among new.names q ≡ true
    pub placed : (t : Tree) → is_placed old.written.blocks t ≡ true → is_placed new.written.blocks t ≡ true

  pub no_more : (out : Out) → More out out
  no_more out = record { texts = λ t e. e; paths = λ t e. e; names = λ q e. e; placed = λ t e. e }

  pub more_again : {a b c : Out} → More a b → More b c → More a c
  more_again first second = record {
    texts = λ t e. second.texts t (first.texts t e);
    paths = λ t e. second.paths t (first.paths t e);
    names = λ q e. second.names q (first.names q e);
    placed = λ t e. second.placed t (first.placed t e);
  }

  pub event_more : (out : Out) (e : Event) → More out (with_event own offset out e)
  event_more out (says text) = record { texts = λ t e. said_later out.texts t text e; paths = λ t e. e; names = λ q e. e; placed = λ t e. e }
  event_more out (tells path) = record { texts = λ t e. said_later out.texts t (path_text own path) e; paths = λ t e. one_later (pointwise nat_eq) nat_list_eq_equiv.refl out.paths t path e; names = λ q e. e; placed = λ t e. e }
  event_more out (ends type) = record { texts = λ t e. e; paths = λ t e. e; names = λ q e. names_later out.names (leaf_names type) q e; placed = λ t e. happen_more out.written type t e }

  pub event_known : (out : Out) (e : Event) → IsKnown own offset (with_event own offset out e) e
  event_known out (says text) = said_itself out.texts text
  event_known out (tells path) = (said_itself out.texts (path_text own path), one_itself (pointwise nat_eq) nat_list_eq_equiv.refl out.paths path)
  event_known out (ends type) = (happen_itself out.written type, names_itself out.names (leaf_names type))

  known_more : (old new : Out) → More old new → (e : Event) → IsKnown own offset old e → IsKnown own offset new e
  known_more old new more (says text) known = more.texts text known
  known_more old new more (tells path) known = (more.texts (path_text own path) known.0, more.paths path known.1)
  known_more old new more (ends type) known = (more.placed type known.0, all_among_later old.names new.names more.names (leaf_names type) known.1)

  pub all_known_more : (old new : Out) → More old new → (es : List Event) → AllByRecursion (IsKnown own offset old) es → AllByRecursion (IsKnown own offset new) es
  all_known_more old new more [] all = tt
  all_known_more old new more (e ∷ es) all = (known_more old new more e all.0, all_known_more old new more es all.1)

  -- what is known changes nothing
  pub known_same : (out : Out) (e : Event) → IsKnown own offset out e → with_event own offset out e ≡ out
  known_same out (says text) known = λ i. record { texts = said_same out.texts text known i; paths = out.paths; names = out.names; written = out.written }
  known_same out (tells path) known =
      let told : is_told out.paths path ≡ true → with_path out.paths path ≡ out.paths = λ e. ap (λ b. cond b out.paths (out.paths ++ path ∷ [])) e in
      λ i. record { texts = said_same out.texts (path_text own path) known.0 i; paths = told known.1 i; names = out.names; written = out.written }
  known_same out (ends type) known =
      let placed : happen own offset out.written (ends type) ≡ out.written = ap (λ b. cond b out.written (place_type own offset out.written type)) known.0 in
      λ i. record { texts = out.texts; paths = out.paths; names = names_same out.names (leaf_names type) known.1 i; written = placed i }

  pub all_known_same : (out : Out) (es : List Event) → AllByRecursion (IsKnown own offset out) es → with_events own offset out es ≡ out
  all_known_same out [] all = refl
  all_known_same out (e ∷ es) all = ap (λ o. with_events own offset o es) (known_same out e all.0) ∙ all_known_same out es all.1

  -- ---- the texts of a descriptor, behind its items

  pub fold_said : (texts ts : List Text) → AllByRecursion (IsSaid texts) ts → fold with_text texts ts ≡ texts
  fold_said texts [] all = refl
  fold_said texts (t ∷ ts) all = ap (λ (xs : List Text). fold with_text xs ts) (said_same texts t all.0) ∙ fold_said texts ts all.1

  pub items_said : (out : Out) (go : Tree → List Event) (before : Place) (xs : List Item) → AllByRecursion (IsKnown own offset out) (items_events go before xs) → AllByRecursion (IsSaid out.texts) (items_texts own before xs)
  items_said out go before [] all = tt
  items_said out go before (a_number n ∷ xs) all = items_said out go before xs all
  items_said out go before (a_flag x ∷ xs) all = items_said out go before xs all
  items_said out go before (a_text text ∷ xs) all = (all.0, items_said out go before xs all.1)
  items_said out go before (a_path path ∷ xs) all = (all.0.0, items_said out go before xs all.1)
  items_said out go before (a_position pos ∷ xs) all = by (same_file before (place_of pos)) all (items_said out go (place_of pos) xs)
    where
      by : (b : Bool) → AllByRecursion (IsKnown own offset out) (cond b [] (says (place_of pos).file ∷ []) ++ items_events go (place_of pos) xs)
          → (AllByRecursion (IsKnown own offset out) (items_events go (place_of pos) xs) → AllByRecursion (IsSaid out.texts) (items_texts own (place_of pos) xs))
          → AllByRecursion (IsSaid out.texts) (flat_map (event_texts own) (cond b [] (says (place_of pos).file ∷ []) ++ items_events (λ type. []) (place_of pos) xs))
      by true all later = later all
      by false all later = (all.0, later all.1)
  items_said out go before (a_type type ∷ xs) all = items_said out go before xs (all_right (IsKnown own offset out) (go type) (items_events go before xs) all)
  items_said out go before (a_whole signed max v ∷ xs) all = items_said out go before xs all

  -- behind its items a descriptor only ends
  pub finished_same : (out : Out) (type : Tree) (es : List Event) → walk type ≡ es ++ ends type ∷ [] → IsClosed own offset out → AllByRecursion (IsKnown own offset out) (items_events walk no_place (level_items (level_of type)))
      → finished own offset out type ≡ with_event own offset out (ends type)
  finished_same out type es walked closed known = by (is_placed out.written.blocks type) refl
    where
      said : fold with_text out.texts (items_texts own no_place (level_items (level_of type))) ≡ out.texts
      said = fold_said out.texts (items_texts own no_place (level_items (level_of type))) (items_said out walk no_place (level_items (level_of type)) known)

      by : (b : Bool) → is_placed out.written.blocks type ≡ b → cond b out (put_type own offset out type) ≡ with_event own offset out (ends type)
      by true is =
          let last = (all_right (IsKnown own offset out) es (ends type ∷ []) (subst (AllByRecursion (IsKnown own offset out)) walked (closed type is))).0 in
          sym (known_same out (ends type) last)
      by false is =
          let placed : happen own offset out.written (ends type) ≡ place_type own offset out.written type = ap (λ b. cond b out.written (place_type own offset out.written type)) is in
          λ i. record { texts = said i; paths = out.paths; names = with_names out.names (leaf_names type); written = sym placed i }
