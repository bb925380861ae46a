use Rattle.std.proofs.Common.{leb, ℕ, rules, arith}
use Rattle.std.proofs.lemmas.List.Sorted.{IsPartitionPoint-from_clause, IsPartitionedBy-leb}
use Rattle.decl_reader.specs.Places.{PlaceEntry}
use Rattle.decl_reader.proofs.ListedLemmas.{divided_at, rises_to}
use Rattle.decl_reader.proofs.places.listed.search.Goals as goal

pub returns : goal.returns
returns c =
    let es = c.args.listed.now in
    let o = c.args.offset in
    let parted = IsPartitionedBy-leb (λ (e : PlaceEntry). e.0) es o (λ i j d le less. rises_to d es i j c.requires.order le less) in
    let point = IsPartitionPoint-from_clause (λ (e : PlaceEntry). leb e.0 o) es c.partition_point.result c.partition_point.ensures.partitioned parted (λ a r q k. search rules) in
    divided_at o es c.requires.order c.partition_point.result (0, record { end = 0; index = 0 }) c.partition_point.ensures.bound point.0 point.1
