use Rattle.wi_sessions.proofs.Words.{◌||◌, ◌&&◌, ◌==◌, ◌∙◌, ap, sym, arith, take_all, has_bit, is_staged}
use Rattle.wi_sessions.proofs.BitLemmas.{none_in_zero}
use Rattle.wi_sessions.proofs.WordLemmas.{Words, one_more_room}
use Rattle.wi_sessions.proofs.cells.staged_of.Goals as goal

pub loop-cell-init : goal.loop-cell-init
loop-cell-init c = λ i. none_in_zero i

pub loop-cell-preserved : goal.loop-cell-preserved
loop-cell-preserved c =
    λ i. c.with_room-bits.ensures i ∙ ap (λ b. b || ((c.loop-cell-item.result.0 == c.args.at) && has_bit i c.loop-cell-item.result.1)) (c.loop-cell.invariant i)
    ∙ sym (one_more_room c.args.staged.now c.loop-cell.cell-index c.loop-cell-item.result (omega arith) c.loop-cell-item.is i c.args.at)

pub returns : goal.returns
returns c = λ i. c.loop-cell.invariant i ∙ ap (λ (rs : Words). is_staged rs i c.args.at) (take_all c.loop-cell.cell-index c.args.staged.now (omega arith))
