use Rattle.wi_ranges.proofs.Words.{nat_cmp, contains}
use Rattle.wi_ranges.proofs.FewLemmas.{one_more_in}
use Rattle.wi_ranges.proofs.few.insert_all.Goals as goal

pub loop-cell-preserved : goal.loop-cell-preserved
loop-cell-preserved c = λ r.
    one_more_in c.args.cells.now c.loop-cell.cell-index c.cell-item.result r (contains nat_cmp c.args.set.now r) (contains nat_cmp c.loop-cell.set r) (contains nat_cmp c.insert.new.self r)
    c.loop-cell-test.true c.cell-item.is (c.in_ok-insert.ensures.has r) (c.loop-cell.invariant r)
