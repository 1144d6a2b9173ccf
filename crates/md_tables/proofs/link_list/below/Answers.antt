use Rattle.std.proofs.Common.{ltb, rules}
use Rattle.std.proofs.lemmas.List.Sorted.{IsPartitionPoint-from_clause, IsPartitionedBy-ltb}
use Rattle.md_tables.proofs.link_list.below.Goals as goal

pub returns-clause-point : goal.returns-clause-point
returns-clause-point c =
    IsPartitionPoint-from_clause (λ n. ltb n c.args.number) _ _ c.partition_point.ensures.partitioned (IsPartitionedBy-ltb (λ n. n) _ c.args.number c.requires) (λ a r q k. search rules)
