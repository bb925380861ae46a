use Rattle.std.specs.Prelude.{◌≡◌, ℕ, ◌<◌, ◌≤◌, List, Bool, true, length, slice_get, slice_set, [], ◌∷◌, ◌++◌, map}
use Rattle.std.specs.Prelude.{sum_by, count_by, not, drop, Some}
use Rattle.cycle_rules.specs.declared.shapes.Form.{Form}
use Rattle.cycle_rules.specs.declared.shapes.Form.TheVariants.{Held, Apply, Parts}
use Rattle.cycle_rules.specs.declared.shapes.DeclShape.{DeclShape}
use Rattle.cycle_rules.specs.declared.containment.Place.{Place}
use Rattle.std.specs.declared.vec.Vec.{Vec}
use Rattle.std.specs.declared.alloc.Global.{Global}
use Rattle.cycle_rules.specs.Forms.{Content, parameter, shape, Holds, Fits, Owns}
use Rattle.cycle_rules.specs.Counting.{form_count}
use Rattle.cycle_rules.specs.Paths.{Arrow}

-- the table has this entry in this row and column
pub record StandsAt {X : Type 0} (rows : List (List X)) (row column : ℕ) (entry : X) : Type 0 where
  pub entries : List X
  pub from : slice_get rows row ≡ Some entries
  pub to : slice_get entries column ≡ Some entry

-- the entry of this row and column is true
abbrev pub IsMarked : List (List Bool) → ℕ → ℕ → Type 0
IsMarked rows row column = StandsAt rows row column true

-- the place stands in this row
pub record IsListed (rows : List (List Place)) (row : ℕ) (place : Place) : Type 0 where
  pub places : List Place
  pub index : ℕ
  pub from : slice_get rows row ≡ Some places
  pub to : slice_get places index ≡ Some place

-- the form applies a declaration, and this is the argument in this place
pub record IsArgument (form : Form) (place : ℕ) (argument : Form) : Type 0 where
  pub applied : ℕ
  pub arguments : List Form
  pub formed : form ≡ Apply applied arguments
  pub there : slice_get arguments place ≡ Some argument

-- among the places is one of this owner with this form
pub record IsPlaced (places : List Place) (owner : ℕ) (form : Form) : Type 0 where
  pub index : ℕ
  pub place : Place
  pub at : slice_get places index ≡ Some place
  pub owned : place.owner ≡ owner
  pub formed : place.form.now ≡ form

-- what the form contains, the declaration at this place of the list contains
pub record Counts (shapes : List DeclShape) (place : ℕ) (form : Form) : Type 0 where
  pub owner : DeclShape
  pub at : slice_get shapes place ≡ Some owner
  pub fits : Fits shapes owner.params form
  pub counts : (content : Content) → Holds shapes form content → Holds shapes owner.holds content

-- what was found for a place
pub record IsHandled (marks : List (List Bool)) (places : List Place) (applications : List (List Place))
    (edges : List (List ℕ)) (place : Place) : Type 0 where
  pub held : (i : ℕ) → place.form.now ≡ Held i → IsMarked marks place.owner i
  pub applied : (t : ℕ) (arguments : List Form) → place.form.now ≡ Apply t arguments → Arrow edges place.owner t
  pub listed : (t : ℕ) (arguments : List Form) → place.form.now ≡ Apply t arguments → IsListed applications t place
  pub parts : (all : List Form) (k : ℕ) (form : Form) → place.form.now ≡ Parts all → slice_get all k ≡ Some form
      → IsPlaced places place.owner form

-- what the search for what is contained keeps
pub record IsContainment (shapes : List DeclShape) (marks : List (List Bool)) (places : List Place) (at : ℕ)
    (applications : List (List Place)) (edges : List (List ℕ)) : Type 0 where
  pub marks_sized : length marks ≡ length shapes
  pub applications_sized : length applications ≡ length shapes
  pub edges_sized : length edges ≡ length shapes
  pub rows_sized : (t : ℕ) (row : List Bool) (of : DeclShape) → slice_get marks t ≡ Some row
      → slice_get shapes t ≡ Some of → length row ≡ of.params
  -- what was found is so
  pub sound : (q : ℕ) (place : Place) → slice_get places q ≡ Some place → Counts shapes place.owner place.form.now
  pub marked : (t j : ℕ) → IsMarked marks t j → Owns shapes t (parameter j)
  pub joined : (s t : ℕ) → Arrow edges s t → Owns shapes s (shape t)
  pub listed : (t : ℕ) (place : Place) → IsListed applications t place → (q : ℕ) × (slice_get places q ≡ Some place)
  pub applied : (t : ℕ) (place : Place) → IsListed applications t place → (arguments : List Form)
      × (place.form.now ≡ Apply t arguments)
  -- what is so was found, as far as the places were handled
  pub within : at ≤ length places
  pub roots : (s : ℕ) (of : DeclShape) → slice_get shapes s ≡ Some of → IsPlaced places s of.holds
  pub handled : (q : ℕ) (place : Place) → q < at → slice_get places q ≡ Some place
      → IsHandled marks places applications edges place
  pub passed : (t j : ℕ) (place : Place) (arguments : List Form) (form : Form) → IsListed applications t place
      → place.form.now ≡ Apply t arguments → IsMarked marks t j → slice_get arguments j ≡ Some form
      → IsPlaced places place.owner form

-- a row for each declaration, with an entry for each of its parameters, none of which is set
pub record IsUnmarked (shapes : List DeclShape) (rows : List (List Bool)) : Type 0 where
  pub sized : length rows ≡ length shapes
  pub rows_sized : (t : ℕ) (row : List Bool) (of : DeclShape) → slice_get rows t ≡ Some row
      → slice_get shapes t ≡ Some of → length row ≡ of.params
  pub unset : (t j : ℕ) → IsMarked rows t j → ⊥

-- the place of each declaration's whole form
pub record AreWhole (shapes : List DeclShape) (places : List Place) : Type 0 where
  pub sized : length places ≡ length shapes
  pub owned : (s : ℕ) (place : Place) → slice_get places s ≡ Some place → place.owner ≡ s
  pub formed : (s : ℕ) (place : Place) (of : DeclShape) → slice_get places s ≡ Some place
      → slice_get shapes s ≡ Some of → place.form.now ≡ of.holds

-- how many forms stand in those that weren't handled yet
abbrev pub size_left : List Place → ℕ → ℕ
size_left places at = sum_by (λ p. form_count p.form.now) (drop at places)

-- how many parameters weren't found to be contained
abbrev pub count_unmarked : List (List Bool) → ℕ
count_unmarked marks = sum_by (λ row. count_by not row) marks

-- the rows of a table
abbrev pub rows_of : {X : Type 0} → List (Vec X Global) → List (List X)
rows_of rows = map (λ row. row.items) rows

-- the table has an entry there
pub record HasEntry {X : Type 0} (rows : List (List X)) (row column : ℕ) : Type 0 where
  pub entries : List X
  pub from : slice_get rows row ≡ Some entries
  pub within : column < length entries

-- What a search has found: for each declaration which of its parameters it contains, the forms that count, how many of
-- them were handled, and for each declaration the forms that apply it and the declarations that it contains.
pub record Findings : Type 0 where
  pub shapes : List DeclShape
  pub marks : List (List Bool)
  pub places : List Place
  pub at : ℕ
  pub applications : List (List Place)
  pub edges : List (List ℕ)

-- the search keeps what it should
abbrev pub IsSound : Findings → Type 0
IsSound s = IsContainment s.shapes s.marks s.places s.at s.applications s.edges

-- what counts in this place was found
abbrev pub IsFound : Findings → Place → Type 0
IsFound s place = IsHandled s.marks s.places s.applications s.edges place

-- a step left the next place where it was
pub record IsNext (old new : Findings) (place : Place) : Type 0 where
  pub shapes : new.shapes ≡ old.shapes
  pub marks : new.marks ≡ old.marks
  pub at : new.at ≡ old.at
  pub here : slice_get new.places new.at ≡ Some place

-- the place applies the declaration at t, and its arguments that count are among the places
pub record Applies (s : Findings) (place : Place) (t : ℕ) : Type 0 where
  pub arguments : List Form
  pub formed : place.form.now ≡ Apply t arguments
  pub owns : Owns s.shapes place.owner (shape t)
  pub passed : (j : ℕ) (form : Form) → IsMarked s.marks t j → slice_get arguments j ≡ Some form
      → IsPlaced s.places place.owner form

-- each argument for this parameter is among the places
abbrev pub ArePlaced : Findings → ℕ → ℕ → Type 0
ArePlaced s t j = (place : Place) (arguments : List Form) (form : Form) → IsListed s.applications t place
    → place.form.now ≡ Apply t arguments → slice_get arguments j ≡ Some form → IsPlaced s.places place.owner form

-- one row of a table gained an entry at its end
pub record GainsEntry {X : Type 0} (old new : List (List X)) (place : ℕ) (entry : X) : Type 0 where
  pub row : List X
  pub from : slice_get old place ≡ Some row
  pub to : new ≡ slice_set old place (row ++ entry ∷ [])

-- a step left all places where they were, and all but places alone
pub record OnlyPlaces (old new : Findings) : Type 0 where
  pub shapes : new.shapes ≡ old.shapes
  pub marks : new.marks ≡ old.marks
  pub at : new.at ≡ old.at
  pub applications : new.applications ≡ old.applications
  pub edges : new.edges ≡ old.edges
  pub places : (q : ℕ) (place : Place) → slice_get old.places q ≡ Some place → slice_get new.places q ≡ Some place
