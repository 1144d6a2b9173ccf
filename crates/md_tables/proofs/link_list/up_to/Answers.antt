use Rattle.std.proofs.Common.{leb, rules}
use Rattle.std.proofs.lemmas.List.Sorted.{IsPartitionPoint-from_clause, IsPartitionedBy-leb}
use Rattle.md_tables.proofs.link_list.up_to.Goals as goal

pub returns-clause-point : goal.returns-clause-point
returns-clause-point c =
    IsPartitionPoint-from_clause (λ n. leb n c.args.number) _ _ c.partition_point.ensures.partitioned (IsPartitionedBy-leb (λ n. n) _ c.args.number c.requires) (λ a r q k. search rules)
