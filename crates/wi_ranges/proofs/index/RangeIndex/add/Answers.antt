use Rattle.wi_ranges.proofs.Words.{rules, List, Some, subst, sym, RangePair, Bag, HasOneMore, pair_for, bag_of, with_pairs, HasPairMore}
use Rattle.wi_ranges.proofs.AroundLemmas.{around_more}
use Rattle.wi_ranges.proofs.Joined.{more_by_cell, more_in_bag}
use Rattle.wi_ranges.proofs.index.RangeIndex.add.Goals as goal

pub returns-then-branch-clause-ok : goal.returns-then-branch-clause-ok
returns-then-branch-clause-ok c =
    let p = pair_for c.args.area c.args.reader in
    let old = c.self.inside.singles in
    let new = c.add.new.self in
    let bag = bag_of c.self.inside.pieces.keys in
    let more = subst (λ (q : RangePair). HasPairMore q old new) c.new-pair.ensures (c.in_ok-add.ensures.more c.if-branch.true) in
    subst (λ (b : Bag). HasOneMore p b (with_pairs new bag)) c.self.view_is (more_by_cell p old new bag more)

pub invariant_of-self-2 : goal.invariant_of-self-2
invariant_of-self-2 c =
    let p = pair_for c.args.area c.args.reader in
    let bag = bag_of c.self.inside.pieces.keys in
    let new = bag_of c.add_pair.new.pieces.keys in
    let more : HasOneMore p bag new = search (rules, c.in_ok-add_pair.ensures.more) in
    (c.in_ok-add_pair.ensures.whole, around_more p bag new c.self.inside.around (Some c.with_area.result) more c.self.invariant.1 c.with_area.ensures.area c.with_area.ensures.others)

pub returns-clause-ok : goal.returns-clause-ok
returns-clause-ok c =
    let p = pair_for c.args.area c.args.reader in
    let singles = c.self.inside.singles in
    let bag = bag_of c.self.inside.pieces.keys in
    let new = bag_of c.add_pair.new.pieces.keys in
    let more : HasOneMore p bag new = search (rules, c.in_ok-add_pair.ensures.more) in
    subst (λ (ps : List RangePair). HasOneMore p c.args.self.now (with_pairs ps new)) (sym (c.in_ok-add.ensures.same c.if-branch.false))
    (subst (λ (b : Bag). HasOneMore p b (with_pairs singles new)) c.self.view_is (more_in_bag p singles bag new more))
