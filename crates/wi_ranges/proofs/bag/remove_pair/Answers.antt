use Rattle.wi_ranges.proofs.Words.{◌≡◌, ◌+◌, ◌-◌, arith, count_of, bag_of, Numbered}
use Rattle.wi_ranges.proofs.BagLemmas.{has_one_less, lost, whole_less}
use Rattle.wi_ranges.proofs.First.{row_there}
use Rattle.wi_ranges.proofs.bag.remove_pair.Goals as goal

pub returns-then-count-gt0-clause-less : goal.returns-then-count-gt0-clause-less
returns-then-count-gt0-clause-less c =
    let m : Numbered = record { pair = c.args.pair.now; number = c.count_at-count.result - 1 } in
    let x = c.around-around.result in
    let ks = c.args.pieces.now.keys in
    let us = c.take_out.new.pieces.keys in
    let count : count_of (bag_of ks) m.pair ≡ (c.count_at-count.result - 1) + 1 = omega (arith, c.count_at-count.ensures, c.if-count-gt0.true) in
    has_one_less m ks us (row_there m.pair x 1048576 c.around-around.ensures.holds c.around-around.ensures.within) (lost m x ks us c.around-around.ensures.blocks c.requires count c.take_out.ensures.loses)

pub returns-then-count-gt0-clause-whole : goal.returns-then-count-gt0-clause-whole
returns-then-count-gt0-clause-whole c =
    let m : Numbered = record { pair = c.args.pair.now; number = c.count_at-count.result - 1 } in
    let x = c.around-around.result in
    let ks = c.args.pieces.now.keys in
    let us = c.take_out.new.pieces.keys in
    let count : count_of (bag_of ks) m.pair ≡ (c.count_at-count.result - 1) + 1 = omega (arith, c.count_at-count.ensures, c.if-count-gt0.true) in
    whole_less m x ks us c.around-around.ensures.blocks (row_there m.pair x 1048576 c.around-around.ensures.holds c.around-around.ensures.within) c.requires count c.take_out.ensures
