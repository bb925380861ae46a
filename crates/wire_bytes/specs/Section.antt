-- A string section that is made: texts in the order of their first mention, each once.
use Rattle.std.specs.Prelude.{ℕ, zero, suc, ◌+◌, ◌/◌, ◌%◌, List, [], ◌∷◌, ◌++◌, length, Option, Some, None, nat_eq}
use Rattle.std.specs.Prelude.{nat_lt, is_some, if◌then◌else◌}
use Rattle.std.specs.Cmp.Lexicographic.{pointwise}
use Rattle.std.specs.Option.{option_map}

-- a number below 128 ^ (k + 1), as k + 1 groups at the most
abbrev pub groups_of : ℕ → ℕ → List ℕ
groups_of zero n = n ∷ []
groups_of (suc k) n = if nat_lt n 128 then n ∷ [] else (n % 128 + 128) ∷ groups_of k (n / 128)

-- the spelling of a number of 64 bits
unfoldable pub spelling_of : ℕ → List ℕ
spelling_of n = groups_of 9 n

-- a text as it stands in the section: its length, and then the text
abbrev pub spelled_text : List ℕ → List ℕ
spelled_text text = spelling_of (length text) ++ text

-- the section of some texts
abbrev pub section_of : List (List ℕ) → List ℕ
section_of [] = []
section_of (t ∷ texts) = spelled_text t ++ section_of texts

-- where in their section a text stands, if it is one of them: behind those before its first mention
abbrev pub offset_in : List (List ℕ) → List ℕ → Option ℕ
offset_in [] text = None
offset_in (t ∷ texts) text = if pointwise nat_eq text t then Some 0
    else option_map (λ o. length (spelled_text t) + o) (offset_in texts text)

-- the texts after one is mentioned: it is new and goes last, or it is there and they stay
abbrev pub with_text : List (List ℕ) → List ℕ → List (List ℕ)
with_text texts text = if is_some (offset_in texts text) then texts else texts ++ text ∷ []
