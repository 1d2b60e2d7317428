use Rattle.wi_ranges.proofs.Words.{rules, ◌≡◌, List, false, subst, sym, list_any, RangePair, Bag, HasOneLess, is_same, pair_for, bag_of, with_pairs, HasPairMore}
use Rattle.wi_ranges.proofs.AroundLemmas.{around_less}
use Rattle.wi_ranges.proofs.Joined.{less_by_cell, less_in_bag}
use Rattle.wi_ranges.proofs.index.RangeIndex.remove.Goals as goal

pub invariant_of-self-2 : goal.invariant_of-self-2
invariant_of-self-2 c =
    let p = pair_for c.args.area c.args.reader in
    let bag = bag_of c.self.inside.pieces.keys in
    let new = bag_of c.remove_pair.new.pieces.keys in
    let less : HasOneLess p bag new = search rules in
    (c.remove_pair.ensures.whole, around_less p bag new c.self.inside.around less c.self.invariant.1)

pub returns-then-remove : goal.returns-then-remove
returns-then-remove c =
    let p = pair_for c.args.area c.args.reader in
    let old = c.self.inside.singles in
    let new = c.remove.new.self in
    let bag = bag_of c.self.inside.pieces.keys in
    let less = subst (λ (q : RangePair). HasPairMore q new old) c.new-pair.ensures (c.remove.ensures.less c.if-remove.true) in
    subst (λ (b : Bag). HasOneLess p b (with_pairs new bag)) c.self.view_is (less_by_cell p old new bag less)

pub returns : goal.returns
returns c =
    let p = pair_for c.args.area c.args.reader in
    let singles = c.self.inside.singles in
    let bag = bag_of c.self.inside.pieces.keys in
    let new = bag_of c.remove_pair.new.pieces.keys in
    let none = subst (λ (q : RangePair). list_any (is_same q) singles ≡ false) c.new-pair.ensures (c.remove.ensures.none c.if-remove.false) in
    let less : HasOneLess p bag new = search rules in
    subst (λ (ps : List RangePair). HasOneLess p c.args.self.now (with_pairs ps new)) (sym (c.remove.ensures.same c.if-remove.false))
    (subst (λ (b : Bag). HasOneLess p b (with_pairs singles new)) c.self.view_is (less_in_bag p singles bag new none less))
