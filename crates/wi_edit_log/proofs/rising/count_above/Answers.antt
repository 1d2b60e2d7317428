use Rattle.wi_edit_log.proofs.Words.{rules, arith, ltb-true, nat_lt, IsPartitionPoint-from_clause, IsPartitionedBy-ltb, Area, row_of}
use Rattle.wi_edit_log.proofs.Below.{lasts_rise, passed}
use Rattle.wi_edit_log.proofs.rising.count_above.Goals as goal

pub returns-clause-rest : goal.returns-clause-rest
returns-clause-rest c a l =
    let rs = c.args.areas.now in
    let parted = IsPartitionedBy-ltb (λ (r : Area). row_of r.last) rs c.args.row (lasts_rise rs c.requires) in
    let point = IsPartitionPoint-from_clause (λ (r : Area). nat_lt (row_of r.last) c.args.row) rs _ c.partition_point.ensures.partitioned parted (λ b r q k. search rules) in
    passed rs c.partition_point.result c.args.row a (λ i d m o. ltb-true _ _ (point.0 i d (omega arith) m)) l
