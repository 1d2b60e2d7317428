use Rattle.wi_graph.proofs.Words.{◌∙◌, ℕ, List, ap, sym, arith, true≢false, is_one_of, has-from_Contains}
use Rattle.std.proofs.lemmas.List.{take_all}
use Rattle.wi_graph.proofs.SearchSteps.{none_more}
use Rattle.wi_graph.proofs.cone.any_is_read.Goals as goal

pub returns-then-has_readers-clause-read : goal.returns-then-has_readers-clause-read
returns-then-has_readers-clause-read c =
    let x = c.cell-item.result in
    λ t. (x, has-from_Contains c.args.cells.now x (c.loop-cell.cell-index, c.loop-cell-test.true, sym c.cell-item.is), c.has_readers.ensures.0 c.if-has_readers.true)

pub returns-then-has_readers-clause-unread : goal.returns-then-has_readers-clause-unread
returns-then-has_readers-clause-unread c = λ none. absurd (true≢false none)

pub loop-cell-preserved : goal.loop-cell-preserved
loop-cell-preserved c =
    none_more c.args.readers.now c.args.cells.now c.loop-cell.cell-index c.cell-item.result c.has_readers.result c.loop-cell-test.true c.cell-item.is c.has_readers.ensures c.if-has_readers.false c.loop-cell.invariant

pub returns-clause-unread : goal.returns-clause-unread
returns-clause-unread c = λ t a r h. c.loop-cell.invariant a r (ap (λ (xs : List ℕ). is_one_of xs a) (take_all c.loop-cell.cell-index c.args.cells.now (omega (arith, c.loop-cell-test.false))) ∙ h)
