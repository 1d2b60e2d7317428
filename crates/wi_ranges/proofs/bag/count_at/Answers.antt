use Rattle.wi_ranges.proofs.Words.{◌<◌, ◌≤◌, ◌∙◌, length, sym, arith}
use Rattle.wi_ranges.proofs.Counts.{last_counts, last_number, none_last, other_last}
use Rattle.wi_ranges.proofs.bag.count_at.Goals as goal

pub prove-unreachable-requires : goal.prove-unreachable-requires
prove-unreachable-requires c =
    let below : c.in-Some.last.now.1.number < length c.args.pieces.now.keys =
    last_counts c.args.pieces.now c.args.block.now c.args.pair.now 18446744073709551615 c.range.result c.next_back.new.self c.in-Some.last.now
    c.requires.whole c.requires.among (c.range.ensures.in_range tt) c.in-Some.ensures.steps (sym c.is_of.ensures ∙ c.if-not-is_of.false) in
    omega (arith, below, c.if-prove.true, c.len.ensures.len)

pub returns-else-not-is_of : goal.returns-else-not-is_of
returns-else-not-is_of c =
    let short : length c.args.pieces.now.keys ≤ 18446744073709551615 = omega (arith, c.len.ensures.len, c.len.ensures.small) in
    last_number c.args.pieces.now c.args.block.now c.args.pair.now 18446744073709551615 c.range.result c.next_back.new.self c.in-Some.last.now
    c.requires.whole c.requires.among short (c.range.ensures.in_range tt) c.in-Some.ensures.steps (sym c.is_of.ensures ∙ c.if-not-is_of.false)

pub returns-then-not-is_of : goal.returns-then-not-is_of
returns-then-not-is_of c =
    other_last c.args.pieces.now c.args.block.now c.args.pair.now 18446744073709551615 c.range.result c.next_back.new.self c.in-Some.last.now
    c.requires.whole c.requires.among (c.range.ensures.in_range tt) c.in-Some.ensures.steps (sym c.is_of.ensures ∙ c.if-not-is_of.true)

pub returns-in-None : goal.returns-in-None
returns-in-None c =
    none_last c.args.pieces.now c.args.block.now c.args.pair.now 18446744073709551615 c.range.result
    c.requires.whole c.requires.among (c.range.ensures.in_range tt) c.in-None.ensures.steps.0
