-- A text as the list of its characters, read from the front. A character is its number.
use Rattle.std.specs.Prelude.{◌≡◌, ℕ, Bool, true, false, ◌==◌, List, [], ◌∷◌, if◌then◌else◌, Option, Some, None}
use Rattle.std.specs.Prelude.{option_and_then}

-- characters that the rules name
abbrev pub line_feed : ℕ
line_feed = 10

abbrev pub double_quote : ℕ
double_quote = 34

abbrev pub single_quote : ℕ
single_quote = 39

abbrev pub star : ℕ
star = 42

abbrev pub plus : ℕ
plus = 43

abbrev pub minus : ℕ
minus = 45

abbrev pub point : ℕ
point = 46

abbrev pub slash : ℕ
slash = 47

abbrev pub digit_zero : ℕ
digit_zero = 48

abbrev pub backslash : ℕ
backslash = 92

abbrev pub underscore : ℕ
underscore = 95

abbrev pub back_quote : ℕ
back_quote = 96

abbrev pub letter_i : ℕ
letter_i = 105

abbrev pub byte_order_mark : ℕ
byte_order_mark = 65279

-- the first character, and the characters after it
abbrev pub split : List ℕ → Option (ℕ × List ℕ)
split [] = None
split (c ∷ cs) = Some (c, cs)

-- the characters at the front that pass, and those from the first one on that doesn't
abbrev pub front_while : (ℕ → Bool) → List ℕ → List ℕ
front_while p [] = []
front_while p (c ∷ cs) = if p c then c ∷ front_while p cs else []

abbrev pub after_while : (ℕ → Bool) → List ℕ → List ℕ
after_while p [] = []
after_while p (c ∷ cs) = if p c then after_while p cs else (c ∷ cs)

-- what follows this character, or these two, at the front
abbrev pub strip : ℕ → List ℕ → Option (List ℕ)
strip p [] = None
strip p (c ∷ cs) = if c == p then Some cs else None

abbrev pub strip_pair : ℕ → ℕ → List ℕ → Option (List ℕ)
strip_pair p q cs = option_and_then (strip q) (strip p cs)

-- each character passes
abbrev pub Each : (ℕ → Bool) → List ℕ → Type 0
Each p [] = Unit {0}
Each p (c ∷ cs) = (p c ≡ true) × Each p cs

-- the text ends, or goes on with a character that doesn't pass
abbrev pub Ends : (ℕ → Bool) → List ℕ → Type 0
Ends p [] = Unit {0}
Ends p (c ∷ cs) = p c ≡ false
