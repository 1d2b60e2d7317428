use Rattle.wi_engine.proofs.Words.{◌≡◌, ◌∙◌, List, Some, IfSome, ap, sym, subst, rules, nat_lt, find, keys_of, take_rest, IsPartitionPoint-from_clause, IsPartitionedBy-ltb, is_within, Replacement, IsInOrder, as_map, replaced}
use Rattle.wi_engine.proofs.filled.FirstReplaced.{addresses_rise, drop_in_order, from_point, of_all}
use Rattle.wi_engine.proofs.filled.next_replaced.Goals as goal

pub first_within-requires : goal.first_within-requires
first_within-requires c =
    let rs = c.args.replacements.now in
    subst IsInOrder (sym (take_rest rs c.partition_point-before.result)) (drop_in_order c.partition_point-before.result rs c.requires)

pub returns-clause-cell : goal.returns-clause-cell
returns-clause-cell c =
    let rs = c.args.replacements.now in
    let parted = IsPartitionedBy-ltb (λ (r : Replacement). r.at) rs c.args.from (addresses_rise rs c.requires) in
    let point = IsPartitionPoint-from_clause (λ (r : Replacement). nat_lt r.at c.args.from) rs _ c.partition_point-before.ensures.partitioned parted (λ a r q k. search rules) in
    c.first_within.ensures.cell
    ∙ ap (λ (xs : List Replacement). find (is_within c.args.area) (keys_of (as_map xs))) (take_rest rs c.partition_point-before.result)
    ∙ from_point c.args.area c.args.from rs _ point c.partition_point-before.ensures.bound

pub returns-clause-value : goal.returns-clause-value
returns-clause-value c =
    let rs = c.args.replacements.now in
    let i = c.partition_point-before.result in
    of_all i rs c.first_within.result c.requires (subst (λ (xs : List Replacement). IfSome c.first_within.result (λ r. replaced xs r.now.at ≡ Some r.now.value)) (take_rest rs i) c.first_within.ensures.value)
