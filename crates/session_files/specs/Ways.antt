-- What the names of an index come down to, found for all of them at once.
use Rattle.std.specs.Prelude.{◌≡◌, ℕ, ◌+◌, ◌<◌, ◌≤◌, List, length, Option, Some, None, slice_get, unwrap_or}
use Rattle.code_tables.specs.declared.predeclared.Basic.{Basic}
use Rattle.session_files.specs.Sessions.{Opened}
use Rattle.session_files.specs.Names.{comes_down_within, comes_down}
use Rattle.session_files.specs.Index.{Spot, qname_at}
use Rattle.session_files.specs.declared.basics.Way.{Way}
use Rattle.session_files.specs.declared.basics.Way.TheVariants.{Known, Next}

-- what the name that is listed there comes down to, by at most so many heads
abbrev pub within_at : List Opened → ℕ → Spot → Option Basic
within_at files count at = comes_down_within files count (qname_at files at).path (qname_at files at).name

abbrev pub basic_at : List Opened → Spot → Option Basic
basic_at files at = comes_down files (qname_at files at).path (qname_at files at).name

-- ---- on the way there

-- Name i comes down to what name j does, by at least so many heads more.
pub record LeadsOn (within : ℕ → ℕ → Option Basic) (limit count reach i j : ℕ) : Type 0 where
  pub inside : j < count
  pub heads : ℕ
  pub far : reach ≤ heads
  pub on : (n : ℕ) → within (n + heads) i ≡ within n j
  pub same : within limit i ≡ within limit j

-- a name comes down to this, or to what a name does that is at least so many heads further on
abbrev pub IsWay : (ℕ → ℕ → Option Basic) → ℕ → ℕ → ℕ → ℕ → Way → Type 0
IsWay within limit count reach i (Known basic) = basic ≡ within limit i
IsWay within limit count reach i (Next j) = LeadsOn within limit count reach i j

abbrev pub AreWays : (ℕ → ℕ → Option Basic) → ℕ → ℕ → List Way → Type 0
AreWays within limit reach ways =
    (i : ℕ) (way : Way) → slice_get ways i ≡ Some way → IsWay within limit (length ways) reach i way

-- as far as is known of the way
abbrev pub further : List Way → Way → Way
further ways (Known basic) = Known basic
further ways (Next j) = unwrap_or (slice_get ways j) (Next j)

abbrev pub settled : Way → Option Basic
settled (Known basic) = basic
settled (Next j) = None

-- where the head of a name leads
pub record LeadsAt (files : List Opened) (index : List Spot) (at : Spot) (j : ℕ) : Type 0 where
  pub next : Spot
  pub there : slice_get index j ≡ Some next
  pub on : (n : ℕ) → within_at files (n + 1) at ≡ within_at files n next
  pub same : basic_at files at ≡ basic_at files next

abbrev pub IsFirstWay : List Opened → List Spot → Spot → Way → Type 0
IsFirstWay files index at (Known basic) = basic ≡ basic_at files at
IsFirstWay files index at (Next j) = LeadsAt files index at j

abbrev pub AreFirstWays : List Opened → List Spot → List Way → Type 0
AreFirstWays files index ways =
    (length ways ≡ length index)
    × ((i : ℕ) (way : Way) (at : Spot) → slice_get ways i ≡ Some way → slice_get index i ≡ Some at
    → IsFirstWay files index at way)
