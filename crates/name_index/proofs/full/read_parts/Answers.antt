use Rattle.std.proofs.Common.{◌≡◌, List, ℕ, Ok, length, map, ◌-◌, ap, subst, ◌∙◌, arith}
use Rattle.std.proofs.lemmas.List.{take_all}
use Rattle.wire_bytes.specs.Reading.{Spot}
use Rattle.name_index.specs.FullFile.{content}
use Rattle.name_index.specs.FirstBreach.{header_at, index_at}
use Rattle.name_index.specs.Records.{header_of, section_of, package_of}
use Rattle.name_index.specs.declared.records.PackageRecord.{PackageRecord}
use Rattle.name_index.proofs.FullFileLemmas.{paths_read}
use Rattle.name_index.proofs.PartsLemmas.{read_paths}
use Rattle.name_index.proofs.full.read_parts.Goals as goal

pub returns-clause-paths : goal.returns-clause-paths
returns-clause-paths c =
    let own = c.args.own.now in
    let bytes = c.args.bytes.now in
    let strings = content bytes (section_of c.in_ok-strings.strings) in
    let records = c.in_ok-packages.packages.items in
    let all : c.new-cursor.result.left ≡ bytes = c.new-cursor.ensures.left ∙ take_all (length bytes - 0) bytes (omega arith) in
    let start : c.new-cursor.result ≡ record { end = length bytes; left = bytes } = λ i. record { end = c.new-cursor.ensures.end i; left = all i } in
    let header : header_at (record { end = length bytes; left = bytes }) ≡ Ok (header_of c.in_ok-header.header, c.read_header.new.cursor) = subst (λ (s : Spot). header_at s ≡ Ok (header_of c.in_ok-header.header, c.read_header.new.cursor)) start c.in_ok-header.ensures.exact in
    let index = subst (λ (t : List ℕ). index_at own t c.in_ok-body.body.len c.read_section-2.new.cursor ≡ Ok (map (package_of t) records, c.read_index.new.cursor)) c.section_bytes-texts.ensures c.in_ok-packages.ensures.exact in
    let read = paths_read own bytes (header_of c.in_ok-header.header) (section_of c.in_ok-strings.strings) (section_of c.in_ok-body.body) (map (package_of strings) records) c.read_header.new.cursor c.read_section.new.cursor c.read_section-2.new.cursor c.read_index.new.cursor
    (λ i. omega (arith, c.type_inv.bytes i)) header c.in_ok-strings.ensures.exact c.in_ok-body.ensures.exact index in
    let spans : c.in_ok-paths.paths.items ≡ map (λ r. r.path) records = c.in_ok-paths.ensures ∙ ap (λ (rs : List PackageRecord). map (λ r. r.path) rs) c.as_slice.ensures.value in
    rw spans (read_paths own strings records read)
