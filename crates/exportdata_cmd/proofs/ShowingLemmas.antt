-- What is shown is one thing, and what was found is it.
use Rattle.std.proofs.Common.{◌≡◌, ◌⊎◌, inl, inr, ℕ, Bool, true, false, cond, List, [], ◌∷◌, ◌++◌, length, refl, sym, ◌∙◌, ap}
use Rattle.std.proofs.Common.{arith}
use Rattle.go_values.specs.declared.qualified.QName.{QName}
use Rattle.type_terms.specs.declared.descriptors.Node.{Node}
use Rattle.session_files.specs.Sessions.{Opened, AreDistinct, all_names, IsNameCount}
use Rattle.session_env.specs.SessionEntries.{session_entries}
use Rattle.asked_names.specs.Finding.{Entries}
use Rattle.asked_names.specs.Counting.{IsEach, IsCount, is_declared, declared_among}
use Rattle.asked_names.proofs.CountLaws.{one_count}
use Rattle.exportdata_cmd.specs.Endings.{Ending, output_end}
use Rattle.exportdata_cmd.specs.Showing.{answer_texts, decoded_line, shown_status, shown_end, Shows}
use Rattle.exportdata_cmd.specs.LookedUp.{found_texts, found_status, IsShown}
use Rattle.exportdata_cmd.specs.declared.showing.Shown.{Shown}
use Rattle.exportdata_cmd.specs.declared.exits.Status.{Status}
use Rattle.exportdata_cmd.specs.declared.exits.Status.TheVariants.{Done, Refused}
use Rattle.exportdata_cmd.proofs.LookedUpLemmas.{texts_shown, status_shown}

each_of : (names each : List QName) → AreDistinct names each → IsEach names each
each_of names each are = record { once = are.once; from = are.from; all = are.all }

-- how many distinct names files list is one number
one_name_count : (files : List Opened) (m n : ℕ) → IsNameCount files m → IsNameCount files n → m ≡ n
one_name_count files m n (xs, x, first) (ys, y, second) =
    one_count (all_names files) m n (xs, each_of (all_names files) xs x, first) (ys, each_of (all_names files) ys y, second)

pub one_shown : (files : List Opened) (names : List QName) (a b : Ending) → Shows files names a → Shows files names b → a ≡ b
one_shown files names a b x y =
    let entries = session_entries files in
    let count = one_count (declared_among entries names) x.count y.count x.decoded y.decoded in
    let all = one_name_count files x.all y.all x.listed y.listed in
    x.shown ∙ (λ i. shown_end entries names (count i) (all i)) ∙ sym y.shown

pub shown_either : (entries : Entries) (names : List QName)
    → (shown_status entries names ≡ Done) ⊎ (shown_status entries names ≡ Refused)
shown_either entries [] = inl refl
shown_either entries (q ∷ names) = by (is_declared (entries q)) (shown_either entries names)
  where
    by : (b : Bool) → (shown_status entries names ≡ Done) ⊎ (shown_status entries names ≡ Refused)
        → (cond b (shown_status entries names) Refused ≡ Done) ⊎ (cond b (shown_status entries names) Refused ≡ Refused)
    by true others = others
    by false others = inr refl

-- what was found for all names is what is shown
pub shows : (nodes : List Node) (files : List Opened) (names : List QName) (shown : Shown) → IsShown nodes files names shown
    → (status : Status) → status ≡ found_status shown.found.items
    → Shows files names (output_end status (answer_texts (session_entries files) names
    ++ decoded_line shown.tally.declared shown.tally.listed ∷ []))
shows nodes files names shown is status status_is = record {
  count = shown.tally.declared;
  all = shown.tally.listed;
  decoded = is.declared;
  listed = is.listed;
  shown = ap (λ s. output_end s (answer_texts (session_entries files) names
      ++ decoded_line shown.tally.declared shown.tally.listed ∷ [])) (status_is
      ∙ status_shown nodes (session_entries files) names shown.found.items is.found);
}

-- the lines that are put are those that are shown
pub lines_shown : (nodes : List Node) (files : List Opened) (names : List QName) (shown : Shown) → IsShown nodes files names shown
    → found_texts nodes shown.names.items shown.found.items ≡ answer_texts (session_entries files) names
lines_shown nodes files names shown is =
    ap (λ ns. found_texts nodes ns shown.found.items) is.names_are
    ∙ texts_shown nodes (session_entries files) names shown.found.items is.found
