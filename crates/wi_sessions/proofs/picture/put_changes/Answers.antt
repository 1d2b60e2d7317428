use Rattle.wi_sessions.proofs.Words.{◌∙◌, on_err, ◌≡◌, ◌<◌, length, sym, ap, arith, common_steps, nil_from_length, with_changes}
use Rattle.wi_sessions.proofs.PictureLemmas.{all_put, none_put}
use Rattle.wi_sessions.proofs.picture.put_changes.Goals as goal

pub sweep-requires-clause-edit : goal.sweep-requires-clause-edit
sweep-requires-clause-edit c = c.exchange_values-answer.ensures.edit

pub sweep-requires-clause-occupied : goal.sweep-requires-clause-occupied
sweep-requires-clause-occupied c = c.unwrap_or.ensures ∙ c.exchange_values-answer.ensures.occupied

pub returns-in_err-answer-clause-refused : goal.returns-in_err-answer-clause-refused
returns-in_err-answer-clause-refused c =
    on_err c.from_residual.result
    (none_put c.args.values.now.entries c.exchange_values-answer.new.values.entries c.sweep.new.rooms.entries c.requires c.sweep.ensures.between c.sweep.ensures.same c.in_err-answer.ensures.refused)

pub returns-clause-done : goal.returns-clause-done
returns-clause-done c =
    all_put c.args.values.now.entries c.exchange_values-answer.new.values.entries c.sweep.new.rooms.entries c.requires c.sweep.ensures.between c.sweep.ensures.same
    c.args.changes.now c.in_ok-answer.ensures.done

pub returns-then-is_empty-clause-done : goal.returns-then-is_empty-clause-done
returns-then-is_empty-clause-done c = ap (with_changes c.args.values.now.entries) (sym (nil_from_length c.args.changes.now (grind (arith, common_steps))))

pub returns-then-is_empty-clause-between : goal.returns-then-is_empty-clause-between
returns-then-is_empty-clause-between c = c.requires

pub returns-in_err-answer-clause-some : goal.returns-in_err-answer-clause-some
returns-in_err-answer-clause-some c =
    let some : 0 < length c.args.changes.now = grind (arith, common_steps) in
    on_err c.from_residual.result (λ none. let l : length c.args.changes.now ≡ 0 = ap length none in omega (arith, some, l))
