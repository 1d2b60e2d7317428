use Rattle.wi_ranges.proofs.Words.{◌≡◌, ◌++◌, rules, dedup_is, items_from_extend, YieldsList-from_copied, YieldsList-from_rest, IsStrictlyIncreasing-dedup}
use Rattle.wi_ranges.proofs.RisingLemmas.{sorted_once}
use Rattle.wi_ranges.proofs.rising_set.merged.Goals as goal

pub returns-clause-order : goal.returns-clause-order
returns-clause-order c = rw (dedup_is _ _ _ c.dedup.ensures.filtered) (IsStrictlyIncreasing-dedup _ c.in_ok-sort.ensures.sorted)

pub returns-clause-cells : goal.returns-clause-cells
returns-clause-cells c =
    let gives = items_from_extend c.extend.result c.extend.ensures.ran (YieldsList-from_copied (YieldsList-from_rest c.args.others.now.keys cc)) in
    let more : c.extend.new.self.items ≡ c.args.cells.items ++ c.args.others.now.keys = search (rules, gives) in
    sorted_once _ _ _ _ more c.in_ok-sort.ensures.permutation (dedup_is _ _ _ c.dedup.ensures.filtered)
