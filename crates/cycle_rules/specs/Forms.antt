use Rattle.std.specs.Prelude.{◌≡◌, ℕ, ◌<◌, List, slice_get, Some}
use Rattle.cycle_rules.specs.declared.shapes.Form.{Form}
use Rattle.cycle_rules.specs.declared.shapes.Form.TheVariants.{Stop, Held, Apply, Parts}
use Rattle.cycle_rules.specs.declared.shapes.DeclShape.{DeclShape}

-- what a form may contain: a parameter of the declaration that it is of, or a declaration
pub data Content : Type 0 where
  parameter : ℕ → Content
  shape : ℕ → Content

-- A form contains what stands in it, and in an argument only where the applied declaration contains that parameter. So
-- a missing argument contains nothing, and neither does one too many, for which there is no parameter.
pub data Holds (shapes : List DeclShape) : Form → Content → Type 0 where
  held : (i : ℕ) → Holds shapes (Held i) (parameter i)
  applied : (t : ℕ) (arguments : List Form) → Holds shapes (Apply t arguments) (shape t)
  part : (parts : List Form) (k : ℕ) (form : Form) (content : Content) → slice_get parts k ≡ Some form
      → Holds shapes form content → Holds shapes (Parts parts) content
  argument : (t : ℕ) (arguments : List Form) (k : ℕ) (form : Form) (of : DeclShape) (content : Content)
      → slice_get shapes t ≡ Some of → Holds shapes of.holds (parameter k) → slice_get arguments k ≡ Some form
      → Holds shapes form content → Holds shapes (Apply t arguments) content

-- The form names parameters that there are and declarations of the list, applied to any number of arguments.
pub data Fits (shapes : List DeclShape) (params : ℕ) : Form → Type 0 where
  stop : Fits shapes params Stop
  held : (i : ℕ) → i < params → Fits shapes params (Held i)
  applied : (t : ℕ) (arguments : List Form) (of : DeclShape) → slice_get shapes t ≡ Some of
      → ((k : ℕ) (form : Form) → slice_get arguments k ≡ Some form → Fits shapes params form)
      → Fits shapes params (Apply t arguments)
  parts : (all : List Form) → ((k : ℕ) (form : Form) → slice_get all k ≡ Some form → Fits shapes params form)
      → Fits shapes params (Parts all)

-- the declaration at t contains this
pub record Owns (shapes : List DeclShape) (t : ℕ) (content : Content) : Type 0 where
  pub owner : DeclShape
  pub at : slice_get shapes t ≡ Some owner
  pub holds : Holds shapes owner.holds content
