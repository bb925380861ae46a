-- Text that is skipped: any tokens in which the brackets match, each with its own kind.
use Rattle.std.specs.Prelude.{◌≡◌, Bool, true, false, List, [], ◌∷◌, if◌then◌else◌, Option, Some, None, Ok}
use Rattle.go_expr_syntax.specs.declared.symbols.Symbol.{Symbol}
use Rattle.go_expr_syntax.specs.declared.symbols.Symbol.TheVariants as t
use Rattle.go_syntax.specs.declared.skipped.Bracket.{Bracket}
use Rattle.go_syntax.specs.declared.skipped.Bracket.TheVariants.{Round, Square, Curly}
use Rattle.go_syntax.specs.declared.skipped.Step.{Step}
use Rattle.go_syntax.specs.declared.skipped.Step.TheVariants as step
use Rattle.go_expr_syntax.specs.Reading.{Reply, unexpected, is_semicolon}

-- the kind of bracket that a token opens, and that it closes
abbrev pub opened : Symbol → Option Bracket
opened (t.OpenParen at) = Some Round
opened (t.OpenBracket at) = Some Square
opened (t.OpenBrace at) = Some Curly
opened _ = None

abbrev pub closed : Symbol → Option Bracket
closed (t.CloseParen at) = Some Round
closed (t.CloseBracket at) = Some Square
closed (t.CloseBrace at) = Some Curly
closed _ = None

-- a token that may stand outside all brackets of the text: where it is one line of code, no semicolon
abbrev pub stands_outside : Bool → Symbol → Bool
stands_outside line k = if line then (if is_semicolon k then false else true) else true

-- The text, and what is left after it. Inside brackets each token may stand.
pub data IsSkipped : Bool → List Symbol → List Symbol → Type 0 where
  nothing : (line : Bool) (rest : List Symbol) → IsSkipped line rest rest
  token : (line : Bool) (k : Symbol) (ts rest : List Symbol) → opened k ≡ None → closed k ≡ None
      → stands_outside line k ≡ true → IsSkipped line ts rest → IsSkipped line (k ∷ ts) rest
  within : (line : Bool) (b : Bracket) (o c : Symbol) (ts us rest : List Symbol) → opened o ≡ Some b
      → closed c ≡ Some b → IsSkipped false ts (c ∷ us) → IsSkipped line us rest → IsSkipped line (o ∷ ts) rest

-- ---- reading

abbrev pub same : Bracket → Bracket → Bool
same Round Round = true
same Square Square = true
same Curly Curly = true
same _ _ = false

-- at the end of the tokens
abbrev pub skip_end : List Bracket → Reply (Unit {0})
skip_end [] = Ok (tt, [])
skip_end (b ∷ open_ones) = unexpected []

-- at a token that closes a bracket: it ends the text if none is open
abbrev pub skip_close : List Bracket → (List Bracket → Reply (Unit {0})) → Symbol → List Symbol → Bracket
    → Reply (Unit {0})
skip_close [] more k ts b = Ok (tt, k ∷ ts)
skip_close (a ∷ open_ones) more k ts b = if same a b then more open_ones else unexpected (k ∷ ts)

abbrev pub skip_plain : Bool → List Bracket → (List Bracket → Reply (Unit {0})) → Symbol → List Symbol
    → Reply (Unit {0})
skip_plain line [] more k ts = if stands_outside line k then more [] else Ok (tt, k ∷ ts)
skip_plain line (a ∷ open_ones) more k ts = more (a ∷ open_ones)

-- one token, where these brackets are open, the innermost first
abbrev pub skip_on : Bool → List Bracket → (List Bracket → Reply (Unit {0})) → Symbol → List Symbol → Option Bracket
    → Option Bracket → Reply (Unit {0})
skip_on line open_ones more k ts (Some b) c = more (b ∷ open_ones)
skip_on line open_ones more k ts None (Some b) = skip_close open_ones more k ts b
skip_on line open_ones more k ts None None = skip_plain line open_ones more k ts

-- the text, where these brackets are open
abbrev pub skip : Bool → List Bracket → List Symbol → Reply (Unit {0})
skip line open_ones [] = skip_end open_ones
skip line open_ones (k ∷ ts) = skip_on line open_ones (λ bs. skip line bs ts) k ts (opened k) (closed k)

-- what a token does where the old brackets are open: the new ones are after it
abbrev pub Steps : Bool → List Bracket → Symbol → Step → List Bracket → Type 0
Steps line old k step.Goes new =
    (more : List Bracket → Reply (Unit {0})) (ts : List Symbol)
    → skip_on line old more k ts (opened k) (closed k) ≡ more new
Steps line old k step.Ends new =
    (more : List Bracket → Reply (Unit {0})) (ts : List Symbol)
    → skip_on line old more k ts (opened k) (closed k) ≡ Ok (tt, k ∷ ts)
Steps line old k step.Clashes new =
    (more : List Bracket → Reply (Unit {0})) (ts : List Symbol)
    → skip_on line old more k ts (opened k) (closed k) ≡ unexpected (k ∷ ts)
