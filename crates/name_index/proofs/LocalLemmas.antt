-- Reading a full file depends only on the bytes up to where its first breach is met.
use Rattle.std.proofs.Common.{◌≡◌, ℕ, List, length, ◌||◌, Option, Some, None, Result, Ok, Err, refl, subst, inl, inr}
use Rattle.std.specs.Prelude.{nat_lt, nat_eq, not, ◌==◌}
use Rattle.std.specs.Cmp.Lexicographic.{slice_cmp, pointwise}
use Rattle.std.specs.Ordering.{nat_cmp, is_lt}
use Rattle.wire_bytes.specs.declared.fault.ByteFault.{ByteFault}
use Rattle.wire_bytes.specs.declared.fault.ByteFault.TheVariants as faults
use Rattle.wire_bytes.specs.Reading.{Spot, ◌>>=◌, demand, or_fault, byte_at}
use Rattle.wire_bytes.specs.Uvarint.{uvarint_at}
use Rattle.wire_bytes.specs.Text.{text_in}
use Rattle.wire_bytes.specs.Order.{rises}
use Rattle.wire_bytes.specs.Local.{IsLocal}
use Rattle.wire_bytes.proofs.LocalLemmas.{TakesSome, StandsAt, IsLocalFrom, after_step, done_local, then_from, then_local, from_local, from_demand, from_or, from_done, from_judged, demand_fault, bind_err, some_then, many_local}
use Rattle.wire_bytes.proofs.NumbersLocal.{byte_local, byte_some, uvarint_local, uvarint_some}
use Rattle.name_index.specs.FullFile.{Entry, Package}
use Rattle.name_index.specs.FirstBreach.{text_offset_at, entry_at, entries_at, path_rule, package_at, packages_at, Header, header_at, index_at}

-- ---- texts and names

abbrev texting : List ℕ → ℕ → ℕ → Spot → Result ((ℕ × List ℕ) × Spot) ByteFault
texting strings start offset s = or_fault (faults.Range start offset) (text_in strings offset) >>= λ text. Ok ((offset, text), s)

texting_from : (strings : List ℕ) (start offset : ℕ) → IsLocalFrom start (texting strings start offset)
texting_from strings start offset = from_or start (faults.Range start offset) (text_in strings offset) (λ text s. Ok ((offset, text), s)) (refl, refl) (λ text. from_done start (offset, text))

text_local : (strings : List ℕ) → IsLocal (text_offset_at strings)
unfolding text_offset_at
text_local strings = then_from uvarint_at (texting strings) uvarint_local uvarint_some (texting_from strings)

text_some : (strings : List ℕ) → TakesSome (text_offset_at strings)
unfolding text_offset_at
text_some strings = some_then uvarint_at (texting strings) uvarint_some (λ start offset. (texting_from strings start offset).steady)

abbrev placing : ℕ → List ℕ → ℕ → ℕ → Spot → Result (Entry × Spot) ByteFault
placing size name start offset s = demand (nat_lt offset size) (faults.Range start offset) >>= λ inside. Ok (record { name = name; offset = offset }, s)

abbrev listing : ℕ → Option (List ℕ) → ℕ → ℕ × List ℕ → Spot → Result (Entry × Spot) ByteFault
listing size last start name s = demand (rises last name.1) (faults.Order start) >>= λ rising. after_step uvarint_at (placing size name.1) s

entry_local : (strings : List ℕ) (size : ℕ) (last : Option (List ℕ)) → IsLocal (entry_at strings size last)
unfolding entry_at
entry_local strings size last =
    then_from (text_offset_at strings) (listing size last) (text_local strings) (text_some strings)
    (λ start name. from_demand start (rises last name.1) (faults.Order start) (after_step uvarint_at (placing size name.1)) (refl, refl)
    (from_local start (after_step uvarint_at (placing size name.1)) (then_from uvarint_at (placing size name.1) uvarint_local uvarint_some
    (λ start offset. from_demand start (nat_lt offset size) (faults.Range start offset) (λ s. Ok (record { name = name.1; offset = offset }, s)) (refl, refl) (from_done start _)))))

entries_local : (strings : List ℕ) (size n : ℕ) → IsLocal (entries_at strings size n)
entries_local strings size n = many_local (entry_at strings size) (λ e. Some e.name) (entry_local strings size) n None

-- ---- packages

path_stands : (own : List ℕ) (last : Option (List ℕ)) (start offset : ℕ) (text : List ℕ) (f : ByteFault) → path_rule own last start offset text ≡ Err f → StandsAt start f
path_stands own None start offset text f e = subst (StandsAt start) (demand_fault (length text == 0) (faults.Range start offset) f e) (refl, refl)
path_stands own (Some last) start offset text f e =
    elim (bind_err (demand (is_lt (slice_cmp nat_cmp last text)) (faults.Order start)) (λ rising. demand (not (pointwise nat_eq text own)) (faults.Range start offset)) f e) [
      | inl falling ↦ subst (StandsAt start) (demand_fault _ (faults.Order start) f falling) (refl, refl)
      | inr same ↦ subst (StandsAt start) (demand_fault _ (faults.Range start offset) f same.2) (refl, refl)
    ]

abbrev counted : List ℕ → ℕ → List ℕ → List ℕ → ℕ → Spot → Result (Package × Spot) ByteFault
counted strings size path name count s = entries_at strings size count s >>= λ entries. Ok (record { path = path; name = name; entries = entries.0 }, entries.1)

abbrev behind_path : List ℕ → ℕ → ℕ × List ℕ → Spot → Result (Package × Spot) ByteFault
behind_path strings size path s =
    text_offset_at strings s >>= λ name. uvarint_at name.1 >>= λ height. uvarint_at height.1 >>= λ count. entries_at strings size count.0 count.1 >>= λ entries.
    Ok (record { path = path.1; name = name.0.1; entries = entries.0 }, entries.1)

behind_path_local : (strings : List ℕ) (size : ℕ) (path : ℕ × List ℕ) → IsLocal (behind_path strings size path)
behind_path_local strings size path =
    then_local (text_offset_at strings) (λ name s. uvarint_at s >>= λ height. uvarint_at height.1 >>= λ count. counted strings size path.1 name.1 count.0 count.1) (text_local strings)
    (λ name. then_local uvarint_at (λ height s. uvarint_at s >>= λ count. counted strings size path.1 name.1 count.0 count.1) uvarint_local
    (λ height. then_local uvarint_at (counted strings size path.1 name.1) uvarint_local
    (λ count. then_local (entries_at strings size count) (λ entries s. Ok (record { path = path.1; name = name.1; entries = entries }, s)) (entries_local strings size count) (λ entries. done_local _))))

package_local : (own strings : List ℕ) (size : ℕ) (last : Option (List ℕ)) → IsLocal (package_at own strings size last)
unfolding package_at
package_local own strings size last =
    then_from (text_offset_at strings) (λ start path s. path_rule own last start path.0 path.1 >>= λ fine. behind_path strings size path s) (text_local strings) (text_some strings)
    (λ start path. from_judged start (path_rule own last start path.0 path.1) (λ fine. behind_path strings size path) (path_stands own last start path.0 path.1)
    (λ fine. from_local start (behind_path strings size path) (behind_path_local strings size path)))

packages_local : (own strings : List ℕ) (size n : ℕ) → IsLocal (packages_at own strings size n)
packages_local own strings size n = many_local (package_at own strings size) (λ p. Some p.path) (package_local own strings size) n None

pub index_local : (own strings : List ℕ) (size : ℕ) → IsLocal (index_at own strings size)
unfolding index_at
index_local own strings size =
    then_from uvarint_at (λ start count s. demand (nat_lt 0 count) (faults.Range start 0) >>= λ some. packages_at own strings size count s) uvarint_local uvarint_some
    (λ start count. from_demand start (nat_lt 0 count) (faults.Range start 0) (packages_at own strings size count) (refl, refl)
    (from_local start (packages_at own strings size count) (packages_local own strings size count)))

-- ---- the header

abbrev sizes : ℕ → Spot → Result (Header × Spot) ByteFault
sizes version s = uvarint_at s >>= λ strings. uvarint_at strings.1 >>= λ body. Ok (record { version = version; strings = strings.0; body = body.0 }, body.1)

sizes_local : (version : ℕ) → IsLocal (sizes version)
sizes_local version =
    then_local uvarint_at (λ strings s. uvarint_at s >>= λ body. Ok (record { version = version; strings = strings; body = body.0 }, body.1)) uvarint_local
    (λ strings. then_local uvarint_at (λ body s. Ok (record { version = version; strings = strings; body = body }, s)) uvarint_local (λ body. done_local _))

abbrev versioned : ℕ → ℕ → Spot → Result (Header × Spot) ByteFault
versioned start version s = demand ((version == 1) || (version == 2)) (faults.Version version) >>= λ known. sizes version s

version_local : IsLocal (after_step uvarint_at versioned)
version_local =
    then_from uvarint_at versioned uvarint_local uvarint_some
    (λ start version. from_demand start ((version == 1) || (version == 2)) (faults.Version version) (sizes version) (tt, refl) (from_local start (sizes version) (sizes_local version)))

pub header_local : IsLocal header_at
unfolding header_at
header_local =
    then_from byte_at (λ start letter s. demand (letter == 105) (faults.Tag start letter) >>= λ full. after_step uvarint_at versioned s) byte_local byte_some
    (λ start letter. from_demand start (letter == 105) (faults.Tag start letter) (after_step uvarint_at versioned) (refl, refl) (from_local start (after_step uvarint_at versioned) version_local))
