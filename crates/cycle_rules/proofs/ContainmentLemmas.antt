-- What the search for what is contained keeps, step by step.
use Rattle.std.proofs.Common.{Option, None, unwrap_or, IfSome, IfNone, ◌≡◌, ℕ, ◌+◌, ◌<◌, ◌≤◌, ◌⊎◌, List, [], ◌∷◌, ◌++◌, length, replicate, take, not, cond, count_by, sum_by, set, Bool, true, false, slice_get, Some, refl, sym, ap, ◌∙◌, subst, inl, inr, arith, length-append, length-set, length-take-le}
use Rattle.std.proofs.Math.ListN.{length-replicate}
use Rattle.std.proofs.lemmas.Bool.{cases_lt, cases_eq}
use Rattle.std.proofs.lemmas.List.Sums.{sum_by_more, sum_by-drop_more, sum_by-set}
use Rattle.std.proofs.lemmas.Option.{get_or_from_slice_get}
use Rattle.cycle_rules.specs.Counting.{form_count}
use Rattle.cycle_rules.specs.declared.shapes.Form.{Form}
use Rattle.cycle_rules.specs.declared.shapes.Form.TheVariants.{Stop, Held, Apply, Parts}
use Rattle.cycle_rules.specs.declared.shapes.DeclShape.{DeclShape}
use Rattle.cycle_rules.specs.declared.containment.Place.{Place}
use Rattle.cycle_rules.specs.Paths.{Arrow}
use Rattle.cycle_rules.specs.Forms.{Content, parameter, shape, Holds, held, applied, part, argument, Fits, Owns}
use Rattle.cycle_rules.specs.Containment.{Findings, StandsAt, IsArgument, HasEntry, IsSound, IsFound, IsMarked, IsListed, IsPlaced, Counts, IsHandled, IsContainment, OnlyPlaces, size_left, count_unmarked, GainsEntry, IsUnmarked, AreWhole}
use Rattle.cycle_rules.proofs.FitsLemmas.{fits-Apply, fits-Parts, fits-Held, same_Apply, not_Held_Apply, not_Parts_Apply}
use Rattle.cycle_rules.proofs.PlaceLemmas.{at_within, at_some, at-replicate, at-left, at-last, at-push_cases, at-take, at-taken, at-set_same, at-set_other, at-pushed_old, at-pushed_new, at-pushed_cases, at-written_old, at-written_cases}

pub only_twice : {old now new : Findings} → OnlyPlaces old now → OnlyPlaces now new → OnlyPlaces old new
only_twice first then = record {
  shapes = then.shapes ∙ first.shapes;
  marks = then.marks ∙ first.marks;
  at = then.at ∙ first.at;
  applications = then.applications ∙ first.applications;
  edges = then.edges ∙ first.edges;
  places = λ q place there. then.places q place (first.places q place there);
}

-- what holds of each form before a place, and of the one there, holds of each up to it
pub placed_more : (forms : List Form) (index : ℕ) (item : Form) → slice_get forms index ≡ Some item → (P : ℕ → Form → Type 0) → ((k : ℕ) (form : Form) → k < index → slice_get forms k ≡ Some form → P k form) → P index item → (k : ℕ) (form : Form) → k < index + 1 → slice_get forms k ≡ Some form → P k form
placed_more forms index item at P below here k form under there = elim (cases_eq k index) [
  | inl same ↦
      let own : slice_get forms index ≡ Some form = subst (λ (n : ℕ). slice_get forms n ≡ Some form) same there in
      let equal : item ≡ form = cc in
      subst (λ (n : ℕ). P n form) (sym same) (subst (P index) equal here)
  | inr other ↦ below k form (omega arith) there
]

-- a form added is one more of those counted so far
pub size_more : (forms : List Form) (index : ℕ) (item : Form) → slice_get forms index ≡ Some item → (places places' : List Place) {at at' : ℕ} (size : ℕ) → at' ≡ at →
    size_left places' at' ≡ size_left places at' + form_count item → size_left places at ≤ size + sum_by form_count (take index forms) → size_left places' at ≤ size + sum_by form_count (take (index + 1) forms)
size_more forms index item there places places' {at} {at'} size same new old =
    let w = at_within forms index item there in
    let more = sum_by_more form_count forms index item w in
    let one = ap form_count (get_or_from_slice_get forms index item item there) in
    let grown : size_left places' at ≡ size_left places at + form_count item = subst (λ (n : ℕ). size_left places' n ≡ size_left places n + form_count item) same new in
    omega arith

-- a form passed over changes nothing
pub size_passed : (forms : List Form) (index n size : ℕ) → index < length forms → n ≤ size + sum_by form_count (take index forms) → n ≤ size + sum_by form_count (take (index + 1) forms)
size_passed forms index n size below old = let more = sum_by_more form_count forms index Stop below in omega arith

-- what counts in a form that counts
pub counts_argument : (shapes : List DeclShape) (s t k : ℕ) (form inner : Form) (arguments : List Form) → Counts shapes s form → form ≡ Apply t arguments → Owns shapes t (parameter k) → slice_get arguments k ≡ Some inner → Counts shapes s inner
counts_argument shapes s t k form inner arguments was e owns at = record {
  owner = was.owner;
  at = was.at;
  fits = (fits-Apply form t arguments e was.fits).each k inner at;
  counts = λ content holds. was.counts content (subst (λ (z : Form). Holds shapes z content) (sym e) (argument t arguments k inner owns.owner content owns.at owns.holds at holds));
}

pub counts_part : (shapes : List DeclShape) (s k : ℕ) (form inner : Form) (all : List Form) → Counts shapes s form → form ≡ Parts all → slice_get all k ≡ Some inner → Counts shapes s inner
counts_part shapes s k form inner all was e at = record {
  owner = was.owner;
  at = was.at;
  fits = fits-Parts form all e was.fits k inner at;
  counts = λ content holds. was.counts content (subst (λ (z : Form). Holds shapes z content) (sym e) (part all k inner content at holds));
}

pub owns_applied : (shapes : List DeclShape) (s t : ℕ) (form : Form) (arguments : List Form) → Counts shapes s form → form ≡ Apply t arguments → Owns shapes s (shape t)
owns_applied shapes s t form arguments was e = record { owner = was.owner; at = was.at; holds = was.counts (shape t) (subst (λ (z : Form). Holds shapes z (shape t)) (sym e) (applied t arguments)) }

pub owns_held : (shapes : List DeclShape) (s i : ℕ) (form : Form) → Counts shapes s form → form ≡ Held i → Owns shapes s (parameter i)
owns_held shapes s i form was e = record { owner = was.owner; at = was.at; holds = was.counts (parameter i) (subst (λ (z : Form). Holds shapes z (parameter i)) (sym e) (held i)) }

pub placed_grown : (places more : List Place) (s : ℕ) (form : Form) → ((q : ℕ) (place : Place) → slice_get places q ≡ Some place → slice_get more q ≡ Some place) → IsPlaced places s form → IsPlaced more s form
placed_grown places more s form grown was = record { index = was.index; place = was.place; at = grown was.index was.place was.at; owned = was.owned; formed = was.formed }

-- what was found for a place stays found as more is found
handled_grown : {marks marks' : List (List Bool)} {places places' : List Place} {applications applications' : List (List Place)} {edges edges' : List (List ℕ)} {place : Place} →
    ((t j : ℕ) → IsMarked marks t j → IsMarked marks' t j) → ((s : ℕ) (form : Form) → IsPlaced places s form → IsPlaced places' s form) → ((t : ℕ) (p : Place) → IsListed applications t p → IsListed applications' t p) → ((s t : ℕ) → Arrow edges s t → Arrow edges' s t) →
    IsHandled marks places applications edges place → IsHandled marks' places' applications' edges' place
handled_grown {marks} {marks'} {places} {places'} {applications} {applications'} {edges} {edges'} {place} more_marks more_places more_applications more_edges was = record {
  held = λ i e. more_marks place.owner i (was.held i e);
  applied = λ t arguments e. more_edges place.owner t (was.applied t arguments e);
  listed = λ t arguments e. more_applications t place (was.listed t arguments e);
  parts = λ all k form e at. more_places place.owner form (was.parts all k form e at);
}

module _ (shapes : List DeclShape) (marks : List (List Bool)) (places : List Place) (at : ℕ) (applications : List (List Place)) (edges : List (List ℕ))
    (search : IsContainment shapes marks places at applications edges) where
  pub added : (place : Place) → Counts shapes place.owner place.form.now → IsContainment shapes marks (places ++ place ∷ []) at applications edges
  added place counts =
      let grown : (q : ℕ) (p : Place) → slice_get places q ≡ Some p → slice_get (places ++ place ∷ []) q ≡ Some p = at-left places (place ∷ []) in
      let placed : (s : ℕ) (form : Form) → IsPlaced places s form → IsPlaced (places ++ place ∷ []) s form = λ s form. placed_grown places (places ++ place ∷ []) s form grown in
      record {
        marks_sized = search.marks_sized;
        applications_sized = search.applications_sized;
        edges_sized = search.edges_sized;
        rows_sized = search.rows_sized;
        sound = λ q p there. elim (at-push_cases places place q p there) [
          | inl old ↦ search.sound q p old
          | inr new ↦ subst (λ (z : Place). Counts shapes z.owner z.form.now) new.1 counts
        ];
        marked = search.marked;
        joined = search.joined;
        listed = λ t p there. let was = search.listed t p there in (was.0, grown was.0 p was.1);
        applied = search.applied;
        within = let w = search.within in omega (arith, length-append places (place ∷ []));
        roots = λ s of there. placed s of.holds (search.roots s of there);
        handled = λ q p below there. elim (at-push_cases places place q p there) [
          | inl old ↦ handled_grown (λ t j m. m) placed (λ t z l. l) (λ s t a. a) (search.handled q p below old)
          | inr new ↦ let w = search.within in let q_is = new.0 in absurd (omega arith)
        ];
        passed = λ t j p arguments form listed formed mark there. placed p.owner form (search.passed t j p arguments form listed formed mark there);
      }

  pub advanced : (place : Place) → slice_get places at ≡ Some place → IsHandled marks places applications edges place → IsContainment shapes marks places (at + 1) applications edges
  advanced place here handled = record {
    marks_sized = search.marks_sized;
    applications_sized = search.applications_sized;
    edges_sized = search.edges_sized;
    rows_sized = search.rows_sized;
    sound = search.sound;
    marked = search.marked;
    joined = search.joined;
    listed = search.listed;
    applied = search.applied;
    within = let w = at_within places at place here in omega arith;
    roots = search.roots;
    handled = λ q p below there. elim (cases_lt q at) [
      | inl before ↦ search.handled q p before there
      | inr last ↦
          let q_is : q ≡ at = omega arith in
          let own : slice_get places at ≡ Some p = subst (λ (n : ℕ). slice_get places n ≡ Some p) q_is there in
          let same : place ≡ p = cc in
          subst (λ (z : Place). IsHandled marks places applications edges z) same handled
    ];
    passed = search.passed;
  }

  module _ (s t : ℕ) (row : List ℕ) (from : slice_get edges s ≡ Some row) (owns : Owns shapes s (shape t)) where
    arrow_old : (a b : ℕ) → Arrow edges a b → Arrow (set edges s (row ++ t ∷ [])) a b
    arrow_old a b arrow =
        let more = at-pushed_old edges s row t from a arrow.place arrow.targets b arrow.from arrow.to in
        record { targets = more.0; place = arrow.place; from = more.1; to = more.2 }

    pub arrow_new : Arrow (set edges s (row ++ t ∷ [])) s t
    arrow_new = record { targets = row ++ t ∷ []; place = length row; from = at-pushed_new edges s row t from; to = at-last row t }

    joined_new : (a b : ℕ) → Arrow (set edges s (row ++ t ∷ [])) a b → Owns shapes a (shape b)
    joined_new a b arrow = elim (at-pushed_cases edges s row t from a arrow.place arrow.targets b arrow.from arrow.to) [
      | inl old ↦ search.joined a b (record { targets = old.0; place = arrow.place; from = old.1; to = old.2 })
      | inr new ↦ subst (λ (n : ℕ). Owns shapes n (shape b)) (sym new.0) (subst (λ (n : ℕ). Owns shapes s (shape n)) new.1 owns)
    ]

    pub joins : IsContainment shapes marks places at applications (set edges s (row ++ t ∷ []))
    joins = record {
      marks_sized = search.marks_sized;
      applications_sized = search.applications_sized;
      edges_sized = length-set edges s (row ++ t ∷ []) ∙ search.edges_sized;
      rows_sized = search.rows_sized;
      sound = search.sound;
      marked = search.marked;
      joined = joined_new;
      listed = search.listed;
      applied = search.applied;
      within = search.within;
      roots = search.roots;
      handled = λ q p below there. handled_grown (λ u j m. m) (λ u form z. z) (λ u z l. l) arrow_old (search.handled q p below there);
      passed = search.passed;
    }

  module _ (t : ℕ) (row : List Place) (place : Place) (arguments : List Form) (from : slice_get applications t ≡ Some row)
      (q : ℕ) (there : slice_get places q ≡ Some place) (formed : place.form.now ≡ Apply t arguments)
      (passed : (j : ℕ) (form : Form) → IsMarked marks t j → slice_get arguments j ≡ Some form → IsPlaced places place.owner form)
      (same : (u : ℕ) (others : List Form) → place.form.now ≡ Apply u others → others ≡ arguments) where
    listed_old : (a : ℕ) (p : Place) → IsListed applications a p → IsListed (set applications t (row ++ place ∷ [])) a p
    listed_old a p listed =
        let more = at-pushed_old applications t row place from a listed.index listed.places p listed.from listed.to in
        record { places = more.0; index = listed.index; from = more.1; to = more.2 }

    pub listed_new : IsListed (set applications t (row ++ place ∷ [])) t place
    listed_new = record { places = row ++ place ∷ []; index = length row; from = at-pushed_new applications t row place from; to = at-last row place }

    listed_cases : (a : ℕ) (p : Place) → IsListed (set applications t (row ++ place ∷ [])) a p → IsListed applications a p ⊎ ((a ≡ t) × (place ≡ p))
    listed_cases a p listed = elim (at-pushed_cases applications t row place from a listed.index listed.places p listed.from listed.to) [
      | inl old ↦ inl (record { places = old.0; index = listed.index; from = old.1; to = old.2 })
      | inr new ↦ inr new
    ]

    pub lists : IsContainment shapes marks places at (set applications t (row ++ place ∷ [])) edges
    lists = record {
      marks_sized = search.marks_sized;
      applications_sized = length-set applications t (row ++ place ∷ []) ∙ search.applications_sized;
      edges_sized = search.edges_sized;
      rows_sized = search.rows_sized;
      sound = search.sound;
      marked = search.marked;
      joined = search.joined;
      listed = λ a p listed. elim (listed_cases a p listed) [ inl old ↦ search.listed a p old | inr new ↦ (q, subst (λ (z : Place). slice_get places q ≡ Some z) new.1 there) ];
      applied = λ a p listed. elim (listed_cases a p listed) [
        | inl old ↦ search.applied a p old
        | inr new ↦ (arguments, subst (λ (z : Place). z.form.now ≡ Apply a arguments) new.1 (subst (λ (n : ℕ). place.form.now ≡ Apply n arguments) (sym new.0) formed))
      ];
      within = search.within;
      roots = search.roots;
      handled = λ k p below here. handled_grown (λ u j m. m) (λ u form z. z) listed_old (λ u v a. a) (search.handled k p below here);
      passed = λ a j p others form listed formed' mark here. elim (listed_cases a p listed) [
        | inl old ↦ search.passed a j p others form old formed' mark here
        | inr new ↦
            let own : place.form.now ≡ Apply a others = subst (λ (z : Place). z.form.now ≡ Apply a others) (sym new.1) formed' in
            let equal = same a others own in
            let at_j : slice_get arguments j ≡ Some form = subst (λ (l : List Form). slice_get l j ≡ Some form) equal here in
            let marked : IsMarked marks t j = subst (λ (n : ℕ). IsMarked marks n j) new.0 mark in
            subst (λ (z : Place). IsPlaced places z.owner form) new.1 (passed j form marked at_j)
      ];
    }

  module _ (t j : ℕ) (row : List Bool) (from : slice_get marks t ≡ Some row) (fits : j < length row) (owns : Owns shapes t (parameter j))
      (passed : (place : Place) (arguments : List Form) (form : Form) → IsListed applications t place → place.form.now ≡ Apply t arguments → slice_get arguments j ≡ Some form → IsPlaced places place.owner form) where
    marked_old : (a b : ℕ) → IsMarked marks a b → IsMarked (set marks t (set row j true)) a b
    marked_old a b mark =
        let more = at-written_old marks t j row true from a b mark.entries true (inl refl) mark.from mark.to in
        record { entries = more.0; from = more.1; to = more.2 }

    marked_cases : (a b : ℕ) → IsMarked (set marks t (set row j true)) a b → IsMarked marks a b ⊎ ((a ≡ t) × (b ≡ j))
    marked_cases a b mark = elim (at-written_cases marks t j row true from a b mark.entries true mark.from mark.to) [
      | inl old ↦ inl (record { entries = old.0; from = old.1; to = old.2 })
      | inr new ↦ inr new
    ]

    pub marks_more : IsContainment shapes (set marks t (set row j true)) places at applications edges
    marks_more = record {
      marks_sized = length-set marks t (set row j true) ∙ search.marks_sized;
      applications_sized = search.applications_sized;
      edges_sized = search.edges_sized;
      rows_sized = λ a entries of there here. elim (cases_lt a t) [
        | inl below ↦ search.rows_sized a entries of (sym (at-set_other marks t a (set row j true) (λ e. absurd (omega arith))) ∙ there) here
        | inr above ↦ elim (cases_lt t a) [
          | inl over ↦ search.rows_sized a entries of (sym (at-set_other marks t a (set row j true) (λ e. absurd (omega arith))) ∙ there) here
          | inr equal ↦
              let same : a ≡ t = omega arith in
              let own = at-set_same marks t (set row j true) (at_within marks t row from) in
              let mine : slice_get (set marks t (set row j true)) t ≡ Some entries = subst (λ (n : ℕ). slice_get (set marks t (set row j true)) n ≡ Some entries) same there in
              let is : set row j true ≡ entries = cc in
              let was = search.rows_sized t row of from (subst (λ (n : ℕ). slice_get shapes n ≡ Some of) same here) in
              sym (ap length is) ∙ length-set row j true ∙ was
        ]
      ];
      sound = search.sound;
      marked = λ a b mark. elim (marked_cases a b mark) [
        | inl old ↦ search.marked a b old
        | inr new ↦ subst (λ (n : ℕ). Owns shapes n (parameter b)) (sym new.0) (subst (λ (n : ℕ). Owns shapes t (parameter n)) (sym new.1) owns)
      ];
      joined = search.joined;
      listed = search.listed;
      applied = search.applied;
      within = search.within;
      roots = search.roots;
      handled = λ q p below there. handled_grown marked_old (λ u form z. z) (λ u z l. l) (λ u v a. a) (search.handled q p below there);
      passed = λ a b p arguments form listed formed mark here. elim (marked_cases a b mark) [
        | inl old ↦ search.passed a b p arguments form listed formed old here
        | inr new ↦ passed p arguments form
            (subst (λ (n : ℕ). IsListed applications n p) new.0 listed)
            (subst (λ (n : ℕ). p.form.now ≡ Apply n arguments) new.0 formed)
            (subst (λ (n : ℕ). slice_get arguments n ≡ Some form) new.1 here)
      ];
    }

  -- what was found, of a place of this declaration
  Found : ℕ → Content → Type 0
  Found s (parameter i) = IsMarked marks s i
  Found s (shape t) = Arrow edges s t

  module _ (all : at ≡ length places) where
    found : {form : Form} {content : Content} (s : ℕ) → IsPlaced places s form → Holds shapes form content → Found s content
    unfolding Found
    found s placed (held i) =
        let w = at_within places placed.index placed.place placed.at in
        let done = search.handled placed.index placed.place (omega arith) placed.at in
        subst (λ (n : ℕ). IsMarked marks n i) placed.owned (done.held i placed.formed)
    found s placed (applied t arguments) =
        let w = at_within places placed.index placed.place placed.at in
        let done = search.handled placed.index placed.place (omega arith) placed.at in
        subst (λ (n : ℕ). Arrow edges n t) placed.owned (done.applied t arguments placed.formed)
    found s placed (part parts k form content here holds) =
        let w = at_within places placed.index placed.place placed.at in
        let done = search.handled placed.index placed.place (omega arith) placed.at in
        found s (subst (λ (n : ℕ). IsPlaced places n form) placed.owned (done.parts parts k form placed.formed here)) holds
    found s placed (argument t arguments k form of content there inner here holds) =
        let w = at_within places placed.index placed.place placed.at in
        let done = search.handled placed.index placed.place (omega arith) placed.at in
        let mark : IsMarked marks t k = found t (search.roots t of there) inner in
        let passed = search.passed t k placed.place arguments form (done.listed t arguments placed.formed) placed.formed mark here in
        found s (subst (λ (n : ℕ). IsPlaced places n form) placed.owned passed) holds

    -- in the end each declaration has all that it contains
    pub each_found : (s t : ℕ) → Owns shapes s (shape t) → Arrow edges s t
    unfolding Found
    each_found s t owns = found s (search.roots s owns.owner owns.at) owns.holds

-- the same of what the code has at hand
pub contained_as : {shapes shapes' : List DeclShape} {marks marks' : List (List Bool)} {places places' : List Place} {at at' : ℕ} {applications applications' : List (List Place)} {edges edges' : List (List ℕ)} →
    shapes' ≡ shapes → marks' ≡ marks → places' ≡ places → at' ≡ at → applications' ≡ applications → edges' ≡ edges → IsContainment shapes marks places at applications edges → IsContainment shapes' marks' places' at' applications' edges'
contained_as a b c d e f search = rw (a, b, c, d, e, f) search

-- an entry put at the end of a row stands there
pub gains_listed : {old new : List (List Place)} {t : ℕ} {place : Place} → GainsEntry old new t place → IsListed new t place
gains_listed {old} {new} {t} {place} gained = record {
  places = gained.row ++ place ∷ [];
  index = length gained.row;
  from = subst (λ (l : List (List Place)). slice_get l t ≡ Some (gained.row ++ place ∷ [])) (sym gained.to) (at-pushed_new old t gained.row place gained.from);
  to = at-last gained.row place;
}

pub gains_arrow : {old new : List (List ℕ)} {s t : ℕ} → GainsEntry old new s t → Arrow new s t
gains_arrow {old} {new} {s} {t} gained = record {
  targets = gained.row ++ t ∷ [];
  place = length gained.row;
  from = subst (λ (l : List (List ℕ)). slice_get l s ≡ Some (gained.row ++ t ∷ [])) (sym gained.to) (at-pushed_new old s gained.row t gained.from);
  to = at-last gained.row t;
}

-- an application is handled when it is listed and its owner has an edge
pub handled_apply : (s : Findings) (place : Place) (t : ℕ) (arguments : List Form) → place.form.now ≡ Apply t arguments
    → Arrow s.edges place.owner t → IsListed s.applications t place → IsFound s place
handled_apply s place t arguments formed arrow listed = record {
  held = λ i e. absurd (not_Held_Apply place.form.now i t arguments formed e);
  applied = λ u others e. subst (λ (n : ℕ). Arrow s.edges place.owner n) (same_Apply place.form.now t u arguments others formed e).0 arrow;
  listed = λ u others e. subst (λ (n : ℕ). IsListed s.applications n place) (same_Apply place.form.now t u arguments others formed e).0 listed;
  parts = λ all k form e there. absurd (not_Parts_Apply place.form.now t all arguments formed e);
}

-- a declaration that is applied has a place of its own
pub applied_within : (s : Findings) (place : Place) (t : ℕ) (arguments : List Form) → Counts s.shapes place.owner place.form.now
    → place.form.now ≡ Apply t arguments → t < length s.shapes
applied_within s place t arguments counts formed =
    let fits = fits-Apply place.form.now t arguments formed counts.fits in
    at_within s.shapes t fits.of fits.at

-- a parameter that counts has an entry
pub held_within : (s : Findings) → IsSound s → (t i : ℕ) (form : Form) → Counts s.shapes t form → form ≡ Held i → HasEntry s.marks t i
held_within s sound t i form counts is_held =
    let w = at_within s.shapes t counts.owner counts.at in
    let m = sound.marks_sized in
    let row = at_some s.marks t (omega arith) in
    let long = sound.rows_sized t row.0 counts.owner row.1 counts.at in
    let below = fits-Held form i is_held counts.fits in
    record { entries = row.0; from = row.1; within = omega arith }

-- an entry that was read as false, or that isn't there, isn't marked
pub unmarked_entry : (rows : List (List Bool)) (t j : ℕ) (o : Option Bool) → IfSome o (λ entry. StandsAt rows t j entry)
    → IfNone o ((entry : Bool) → StandsAt rows t j entry → ⊥) → unwrap_or o false ≡ false → IsMarked rows t j → ⊥
unmarked_entry rows t j (Some true) there none e mark = cc
unmarked_entry rows t j (Some false) there none e mark = twice there.from mark.from there.to mark.to
  where
    twice : {entries others : List Bool} → slice_get rows t ≡ Some entries → slice_get rows t ≡ Some others → slice_get entries j ≡ Some false → slice_get others j ≡ Some true → ⊥
    twice {entries} {others} a b c d =
        let same : entries ≡ others = cc in
        let own : slice_get others j ≡ Some false = subst (λ (l : List Bool). slice_get l j ≡ Some false) same c in
        cc
unmarked_entry rows t j None there none e mark = none true mark

-- the next place is the first of those that are left
pub size_next : (places : List Place) (at : ℕ) (place : Place) → slice_get places at ≡ Some place → size_left places at ≡ form_count place.form.now + size_left places (at + 1)
size_next places at place here =
    let w = at_within places at place here in
    let more = sum_by-drop_more (λ (p : Place). form_count p.form.now) places at place w in
    let one = ap (λ (p : Place). form_count p.form.now) (get_or_from_slice_get places at place place here) in
    omega arith

-- an entry that is set is one fewer of those that aren't
pub count_marked : (marks : List (List Bool)) (t j : ℕ) (row : List Bool) → slice_get marks t ≡ Some row → slice_get row j ≡ Some false → count_unmarked (set marks t (set row j true)) + 1 ≡ count_unmarked marks
count_marked marks t j row from to =
    let outer = sum_by-set (λ r. count_by not r) marks t (set row j true) row (at_within marks t row from) in
    let inner = sum_by-set (λ b. cond (not b) 1 0) row j true false (at_within row j false to) in
    let row_is = ap (λ (r : List Bool). count_by not r) (get_or_from_slice_get marks t row row from) in
    let entry_is = ap {B = ℕ} (λ (b : Bool). cond (not b) 1 0) (get_or_from_slice_get row j false false to) in
    omega (arith, outer, inner, row_is, entry_is)

-- one argument stands in a place
pub same_argument : {form : Form} {j : ℕ} {one two : Form} → IsArgument form j one → IsArgument form j two → one ≡ two
same_argument {form} {j} {one} {two} a b =
    let same = (same_Apply form a.applied b.applied a.arguments b.arguments a.formed b.formed).1 in
    let there : slice_get b.arguments j ≡ Some one = subst (λ (l : List Form). slice_get l j ≡ Some one) same a.there in
    let other = b.there in
    cc

-- what counts in a listed application of a declaration that contains its parameter j
pub argument_counts : (s : Findings) → IsSound s → (t j : ℕ) → Owns s.shapes t (parameter j) → (place : Place) → IsListed s.applications t place → (form : Form) → IsArgument place.form.now j form → Counts s.shapes place.owner form
argument_counts s sound t j owned place listed form is =
    let q = sound.listed t place listed in
    let own = sound.applied t place listed in
    let same = (same_Apply place.form.now is.applied t is.arguments own.0 is.formed own.1).0 in
    counts_argument s.shapes place.owner is.applied j place.form.now form is.arguments (sound.sound q.0 place q.1) is.formed (subst (λ (n : ℕ). Owns s.shapes n (parameter j)) (sym same) owned) is.there

-- before anything was handled
pub begins : (shapes : List DeclShape) (marks : List (List Bool)) (places : List Place) (applications : List (List Place)) (edges : List (List ℕ)) →
    ((s : ℕ) (of : DeclShape) → slice_get shapes s ≡ Some of → Fits shapes of.params of.holds) → IsUnmarked shapes marks → AreWhole shapes places → applications ≡ replicate (length shapes) [] → edges ≡ replicate (length shapes) [] → IsContainment shapes marks places 0 applications edges
begins shapes marks places applications edges fit unmarked whole no_applications no_edges =
    record {
      marks_sized = unmarked.sized;
      applications_sized = ap length no_applications ∙ length-replicate (length shapes) [];
      edges_sized = ap length no_edges ∙ length-replicate (length shapes) [];
      rows_sized = unmarked.rows_sized;
      sound = λ q place there.
          let of = at_some shapes q (let w = at_within places q place there in let l = whole.sized in omega arith) in
          let formed = whole.formed q place of.0 there of.1 in
          let owned = whole.owned q place there in
          record {
            owner = of.0;
            at = subst (λ (n : ℕ). slice_get shapes n ≡ Some of.0) (sym owned) of.1;
            fits = subst (λ (z : Form). Fits shapes of.0.params z) (sym formed) (fit q of.0 of.1);
            counts = λ content holds. subst (λ (z : Form). Holds shapes z content) formed holds;
          };
      marked = λ t j mark. absurd (unmarked.unset t j mark);
      joined = λ s t arrow.
          let row : arrow.targets ≡ [] = at-replicate (length shapes) [] s arrow.targets (subst (λ (l : List (List ℕ)). slice_get l s ≡ Some arrow.targets) no_edges arrow.from) in
          let there : slice_get [] arrow.place ≡ Some t = subst (λ (l : List ℕ). slice_get l arrow.place ≡ Some t) row arrow.to in
          absurd cc;
      listed = λ t place listed. absurd (none_listed t place listed);
      applied = λ t place listed. absurd (none_listed t place listed);
      within = omega arith;
      roots = λ s of there.
          let place = at_some places s (let w = at_within shapes s of there in let l = whole.sized in omega arith) in
          record { index = s; place = place.0; at = place.1; owned = whole.owned s place.0 place.1; formed = whole.formed s place.0 of place.1 there };
      handled = λ q place below there. absurd (omega arith);
      passed = λ t j place arguments form listed formed mark there. absurd (none_listed t place listed);
    }
  where
    none_listed : (t : ℕ) (place : Place) → IsListed applications t place → ⊥
    none_listed t place listed =
        let row : listed.places ≡ [] = at-replicate (length shapes) [] t listed.places (subst (λ (l : List (List Place)). slice_get l t ≡ Some listed.places) no_applications listed.from) in
        let there : slice_get [] listed.index ≡ Some place = subst (λ (l : List Place). slice_get l listed.index ≡ Some place) row listed.to in
        cc

-- one more declaration, with a row of its own
pub unmarked_more : (shapes : List DeclShape) (i : ℕ) (last : DeclShape) (rows : List (List Bool)) (row : List Bool) → slice_get shapes i ≡ Some last → row ≡ replicate last.params false → IsUnmarked (take i shapes) rows → IsUnmarked (take (i + 1) shapes) (rows ++ row ∷ [])
unmarked_more shapes i last rows row here row_is was =
    let w = at_within shapes i last here in
    let count : length rows ≡ i = was.sized ∙ length-take-le i shapes (omega arith) in
    record {
      sized = length-append rows (row ∷ []) ∙ omega (arith, length-take-le (i + 1) shapes (omega arith));
      rows_sized = λ t entries of at_row at_shape.
          let taken = at-take (i + 1) shapes t of at_shape in
          elim (at-push_cases rows row t entries at_row) [
            | inl old ↦ let v = at_within rows t entries old in was.rows_sized t entries of old (at-taken i shapes t of (omega arith) taken.1)
            | inr new ↦
                let t_is : t ≡ i = omega (arith, new.0) in
                let own : slice_get shapes i ≡ Some of = subst (λ (n : ℕ). slice_get shapes n ≡ Some of) t_is taken.1 in
                let same : last ≡ of = cc in
                sym (ap length new.1) ∙ ap length row_is ∙ length-replicate last.params false ∙ ap (λ (z : DeclShape). z.params) same
          ];
      unset = λ t j mark. elim (at-push_cases rows row t mark.entries mark.from) [
        | inl old ↦ was.unset t j (record { entries = mark.entries; from = old; to = mark.to })
        | inr new ↦
            let entry : slice_get (replicate last.params false) j ≡ Some true = subst (λ (l : List Bool). slice_get l j ≡ Some true) (sym new.1 ∙ row_is) mark.to in
            let false_is = at-replicate last.params false j true entry in
            cc
      ];
    }
