use Rattle.wi_sessions.proofs.Words.{◌||◌, ◌&&◌, ◌∙◌, ap, sym, or-false, has_bit}
use Rattle.wi_sessions.proofs.cells.with_room.Goals as goal

pub returns-then-eq : goal.returns-then-eq
returns-then-eq c = λ i. c.joined.ensures i ∙ ap (λ t. has_bit i c.args.bits || (t && has_bit i c.args.more)) (sym (sym c.eq.ensures ∙ c.if-eq.true))

pub returns : goal.returns
returns c = λ i. sym (ap (λ t. has_bit i c.args.bits || (t && has_bit i c.args.more)) (sym c.eq.ensures ∙ c.if-eq.false) ∙ or-false (has_bit i c.args.bits))
