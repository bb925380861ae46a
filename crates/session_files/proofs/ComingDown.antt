-- A way through heads is no longer than there are names, since it comes by no name twice.
use Rattle.std.proofs.Common.{◌≡◌, ℕ, zero, suc, ◌<◌, ◌≤◌, List, [], ◌∷◌, length, Bool, true, false, ◌||◌, eqb, Option, Some, None, slice_get, option_and_then, refl, sym, ap, ◌∙◌, arith}
use Rattle.std.specs.List.{AllByRecursion, IsDistinct, list_any}
use Rattle.std.proofs.lemmas.Bool.{eqb-true}
use Rattle.std.proofs.lemmas.Option.{slice_get_within}
use Rattle.std.proofs.lemmas.Map.Steps.{length-le_from_distinct_below}
use Rattle.code_tables.specs.declared.predeclared.Basic.{Basic}
use Rattle.name_index.specs.FullFile.{Listed}
use Rattle.name_index.specs.Lookup.{as_listed}
use Rattle.decl_spelling.specs.Heads.{Lead, to_basic, to_name, head_lead}
use Rattle.decl_spelling.proofs.DeclAtLaws.{strings_are, body_is}
use Rattle.decl_spelling.proofs.LeadAgain.{head_again}
use Rattle.decl_spelling.proofs.LeadTakes.{AreBytes, head_taken}
use Rattle.session_files.specs.FileSections.{sections_in}
use Rattle.session_files.specs.Sessions.{Opened, IsSound, AreSound, all_listed}
use Rattle.session_files.specs.Names.{LeadsTo, ComesDownTo, at_once, onward, At, stands_at, lead_at, lead_of, led_by, comes_down_within, comes_down}
use Rattle.session_files.proofs.Bytes.{holds_bytes, one_of}
use Rattle.session_files.proofs.Standing.{stood, stands_again, in_all}

-- ---- one head

leads_to : (files : List Opened) → AreSound files → (path name : List ℕ) (lead : Lead) → lead_of files path name ≡ Some lead → LeadsTo files path name lead
leads_to files sound path name lead e = go (stands_at files path name) refl e
  where
    go : (x : Option At) → stands_at files path name ≡ x → option_and_then lead_at x ≡ Some lead → LeadsTo files path name lead
    go None at e = absurd cc
    go (Some x) at e =
        let s = stood files path name x at in
        let holds = holds_bytes s.opened.file (one_of (λ o. IsSound o.file) files s.file s.opened sound s.stands.there) in
        let are : AreBytes (sections_in s.opened.file) = record { strings = strings_are (sections_in s.opened.file) holds; body = body_is (sections_in s.opened.file) holds } in
        let is : head_lead (sections_in s.opened.file) x.1 ≡ Some lead = ap (λ f. head_lead (sections_in f) x.1) s.its_file ∙ e in
        record {
          file = s.file;
          number = s.number;
          opened = s.opened;
          offset = x.1;
          stands = s.stands;
          head = head_taken (sections_in s.opened.file) x.1 lead are is;
        }

leads_again : (files : List Opened) → AreSound files → (path name : List ℕ) (lead : Lead) → LeadsTo files path name lead → lead_of files path name ≡ Some lead
leads_again files sound path name lead leads =
    ap (option_and_then lead_at) (stands_again files sound path name leads.file leads.number leads.opened leads.offset leads.stands) ∙ head_again (sections_in leads.opened.file) leads.offset lead leads.head

-- ---- what is found is come down to

pub found_within : (files : List Opened) → AreSound files → (n : ℕ) (path name : List ℕ) (basic : Basic) → comes_down_within files n path name ≡ Some basic → ComesDownTo files basic path name
found_within files sound zero path name basic e = absurd cc
found_within files sound (suc n) path name basic e = go (lead_of files path name) refl e (found_within files sound n)
  where
    go : (lead : Option Lead) → lead_of files path name ≡ lead → led_by (comes_down_within files n) lead ≡ Some basic
        → ((path name : List ℕ) (basic : Basic) → comes_down_within files n path name ≡ Some basic → ComesDownTo files basic path name) → ComesDownTo files basic path name
    go None is e later = absurd cc
    go (Some (to_basic found)) is e later = let same : found ≡ basic = cc in at_once (leads_to files sound path name (to_basic basic) (is ∙ ap (λ b. Some (to_basic b)) same))
    go (Some (to_name next_path next_name)) is e later = onward next_path next_name (leads_to files sound path name (to_name next_path next_name) is) (later next_path next_name basic e)

-- ---- what is come down to is found

-- with more heads it is found as well
pub more_heads : (files : List Opened) (n m : ℕ) (path name : List ℕ) (basic : Basic) → n ≤ m → comes_down_within files n path name ≡ Some basic → comes_down_within files m path name ≡ Some basic
more_heads files zero m path name basic le e = absurd cc
more_heads files (suc n) zero path name basic le e = absurd (omega arith)
more_heads files (suc n) (suc m) path name basic le e = go (lead_of files path name) e (more_heads files n m)
  where
    go : (lead : Option Lead) → led_by (comes_down_within files n) lead ≡ Some basic
        → ((path name : List ℕ) (basic : Basic) → n ≤ m → comes_down_within files n path name ≡ Some basic → comes_down_within files m path name ≡ Some basic) → led_by (comes_down_within files m) lead ≡ Some basic
    go None e later = absurd cc
    go (Some (to_basic found)) e later = e
    go (Some (to_name next_path next_name)) e later = later next_path next_name basic (omega arith) e

-- what the name with a number comes down to
abbrev number_within : List Opened → ℕ → ℕ → Option Basic
number_within files n k = option_and_then (λ l. comes_down_within files n l.path l.name) (slice_get (all_listed files) k)

-- The numbers of the names on a way: with fewer heads nothing is found, and none comes twice.
record Way (files : List Opened) (basic : Basic) (path name : List ℕ) : Type 0 where
  numbers : List ℕ
  found : comes_down_within files (length numbers) path name ≡ Some basic
  least : (m : ℕ) → m < length numbers → comes_down_within files m path name ≡ None
  all : AllByRecursion (λ k. number_within files (length numbers) k ≡ Some basic) numbers
  inside : AllByRecursion (λ k. k < length (all_listed files)) numbers
  distinct : IsDistinct eqb numbers

number_is : (files : List Opened) (n k : ℕ) (path name : List ℕ) (offset : ℕ) (o : Option Basic) → slice_get (all_listed files) k ≡ Some (as_listed path name offset) → comes_down_within files n path name ≡ o → number_within files n k ≡ o
number_is files n k path name offset o at is = ap (option_and_then (λ l. comes_down_within files n l.path l.name)) at ∙ is

all_more : (files : List Opened) (n m : ℕ) (basic : Basic) → n ≤ m → (ks : List ℕ) → AllByRecursion (λ k. number_within files n k ≡ Some basic) ks → AllByRecursion (λ k. number_within files m k ≡ Some basic) ks
all_more files n m basic le [] all = tt
all_more files n m basic le (k ∷ ks) all = (go (slice_get (all_listed files) k) all.0, all_more files n m basic le ks all.1)
  where
    go : (l : Option Listed) → option_and_then (λ l. comes_down_within files n l.path l.name) l ≡ Some basic → option_and_then (λ l. comes_down_within files m l.path l.name) l ≡ Some basic
    go None e = absurd cc
    go (Some l) e = more_heads files n m l.path l.name basic le e

-- a name that isn't found with so many heads is none of those that are
apart : (files : List Opened) (n k : ℕ) (basic : Basic) → number_within files n k ≡ None → (ks : List ℕ) → AllByRecursion (λ k. number_within files n k ≡ Some basic) ks → AllByRecursion (λ other. eqb k other ≡ false) ks
apart files n k basic none [] all = tt
apart files n k basic none (other ∷ ks) all = (go (eqb k other) refl, apart files n k basic none ks all.1)
  where
    go : (b : Bool) → eqb k other ≡ b → b ≡ false
    go false e = refl
    go true e = let same : number_within files n k ≡ number_within files n other = ap (number_within files n) (eqb-true k other e) in absurd (some_none (sym none ∙ same ∙ all.0))
      where
        some_none : ◌≡◌ {A = Option Basic} None (Some basic) → ⊥
        some_none e = cc

way : (files : List Opened) → AreSound files → (basic : Basic) (path name : List ℕ) → ComesDownTo files basic path name → Way files basic path name
unfolding IsDistinct
way files sound basic path name (at_once leads) =
    let is = leads_again files sound path name (to_basic basic) leads in
    let found : comes_down_within files 1 path name ≡ Some basic = ap (led_by (comes_down_within files 0)) is in
    let at = in_all files leads.file leads.opened leads.stands.there leads.number (as_listed path name leads.offset) leads.stands.listed in
    record {
      numbers = at.0 ∷ [];
      found = found;
      least = least;
      all = (number_is files 1 at.0 path name leads.offset (Some basic) at.1 found, tt);
      inside = (slice_get_within (all_listed files) at.0 (as_listed path name leads.offset) at.1, tt);
      distinct = (tt, tt);
    }
  where
    least : (m : ℕ) → m < 1 → comes_down_within files m path name ≡ None
    least zero lt = refl
    least (suc m) lt = absurd (omega arith)
way files sound basic path name (onward next_path next_name leads down) = longer (way files sound basic next_path next_name down)
  where
    step : (n : ℕ) → comes_down_within files (suc n) path name ≡ comes_down_within files n next_path next_name
    step n = ap (led_by (comes_down_within files n)) (leads_again files sound path name (to_name next_path next_name) leads)

    least : (w : Way files basic next_path next_name) (m : ℕ) → m < suc (length w.numbers) → comes_down_within files m path name ≡ None
    least w zero lt = refl
    least w (suc m) lt = step m ∙ w.least m (omega arith)

    longer : Way files basic next_path next_name → Way files basic path name
    longer w =
        let at = in_all files leads.file leads.opened leads.stands.there leads.number (as_listed path name leads.offset) leads.stands.listed in
        let found = step (length w.numbers) ∙ w.found in
        let none = number_is files (length w.numbers) at.0 path name leads.offset None at.1 (least w (length w.numbers) (omega arith)) in
        record {
          numbers = at.0 ∷ w.numbers;
          found = found;
          least = least w;
          all = (number_is files (suc (length w.numbers)) at.0 path name leads.offset (Some basic) at.1 found, all_more files (length w.numbers) (suc (length w.numbers)) basic (omega arith) w.numbers w.all);
          inside = (slice_get_within (all_listed files) at.0 (as_listed path name leads.offset) at.1, w.inside);
          distinct = (apart files (length w.numbers) at.0 basic none w.numbers w.all, w.distinct);
        }

each_below : (n : ℕ) (ks : List ℕ) → AllByRecursion (λ k. k < n) ks → (q : ℕ) → list_any (eqb q) ks ≡ true → q < n
each_below n [] all q has = absurd cc
each_below n (k ∷ ks) all q has = go (eqb q k) refl has (each_below n ks all.1 q)
  where
    go : (b : Bool) → eqb q k ≡ b → b || list_any (eqb q) ks ≡ true → (list_any (eqb q) ks ≡ true → q < n) → q < n
    go true e has later = omega (arith, all.0, eqb-true q k e)
    go false e has later = later has

pub found_down : (files : List Opened) → AreSound files → (path name : List ℕ) (basic : Basic) → comes_down files path name ≡ Some basic → ComesDownTo files basic path name
found_down files sound path name basic = found_within files sound (length (all_listed files)) path name basic

pub down_found : (files : List Opened) → AreSound files → (path name : List ℕ) (basic : Basic) → ComesDownTo files basic path name → comes_down files path name ≡ Some basic
down_found files sound path name basic down =
    let w = way files sound basic path name down in
    more_heads files (length w.numbers) (length (all_listed files)) path name basic (length-le_from_distinct_below w.numbers (length (all_listed files)) w.distinct (each_below (length (all_listed files)) w.numbers w.inside)) w.found
