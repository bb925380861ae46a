use Rattle.std.proofs.Common.{leb, rules, arith}
use Rattle.std.proofs.lemmas.List.Sorted.{IsPartitionedBy-leb, IsPartitionPoint-from_clause}
use Rattle.name_index.proofs.HolderLemmas.{firsts_rise, is_holder, holds_none}
use Rattle.name_index.proofs.lookup.holder_of.Goals as goal

pub returns-then-after-eq0-clause-none : goal.returns-then-after-eq0-clause-none
returns-then-after-eq0-clause-none c =
    holds_none c.args.packages.now c.args.k c.partition_point-after.result c.if-after-eq0.true c.requires
    (IsPartitionPoint-from_clause (λ r. leb r.first c.args.k) c.args.packages.now c.partition_point-after.result c.partition_point-after.ensures.partitioned
    (IsPartitionedBy-leb (λ r. r.first) c.args.packages.now c.args.k (firsts_rise 0 c.args.packages.now c.requires)) (λ a r f h. search rules))

pub returns-else-after-eq0-clause-found : goal.returns-else-after-eq0-clause-found
returns-else-after-eq0-clause-found c =
    is_holder c.args.packages.now c.args.k c.partition_point-after.result (omega arith) c.partition_point-after.ensures.bound
    (IsPartitionPoint-from_clause (λ r. leb r.first c.args.k) c.args.packages.now c.partition_point-after.result c.partition_point-after.ensures.partitioned
    (IsPartitionedBy-leb (λ r. r.first) c.args.packages.now c.args.k (firsts_rise 0 c.args.packages.now c.requires)) (λ a r f h. search rules))
