use Rattle.wi_graph.proofs.Words.{ℕ, rules, nat_lt, IsPartitionPoint-from_clause, IsPartitionedBy-ltb}
use Rattle.wi_graph.proofs.WithinSteps.{never_falls}
use Rattle.wi_graph.proofs.within.count_before.Goals as goal

pub returns-clause-point : goal.returns-clause-point
returns-clause-point c =
    let xs = c.args.cells.now in
    let parted = IsPartitionedBy-ltb (λ (x : ℕ). x) xs c.args.from (never_falls xs c.requires) in
    IsPartitionPoint-from_clause (λ (x : ℕ). nat_lt x c.args.from) xs _ c.partition_point.ensures.partitioned parted (λ a r q k. search rules)
