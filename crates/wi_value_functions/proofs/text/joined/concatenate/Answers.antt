use Rattle.wi_value_functions.proofs.Words.{ap, ◌∙◌, List, ℕ, string_bytes, err_from_is_err_and, to_text, map_until_error, concatenated}
use Rattle.wi_value_functions.proofs.Joining.{joined_to, joined_more, joined_all, joined_stops}
use Rattle.wi_value_functions.proofs.text.joined.concatenate.Goals as goal

pub loop-value-init : goal.loop-value-init
loop-value-init c = ap (λ (us : List ℕ). joined_to us (map_until_error to_text c.args.values.now)) c.new-joined.ensures.bytes

pub returns-in_err-push_text : goal.returns-in_err-push_text
returns-in_err-push_text c =
    let p = err_from_is_err_and c.from_residual.result c.from_residual.ensures.1 in
    rw p.1 (joined_stops (string_bytes c.loop-value.joined) c.args.values.now c.loop-value.value-index c.value-item.result (concatenated c.args.values.now) c.in_err-push_text.field-0.0 p.0
    c.loop-value-test.true c.value-item.is c.in_err-push_text.ensures.taken p.2 c.loop-value.invariant)

pub loop-value-preserved : goal.loop-value-preserved
loop-value-preserved c =
    joined_more (string_bytes c.loop-value.joined) (string_bytes c.push_text.new.text) c.args.values.now c.loop-value.value-index c.value-item.result (concatenated c.args.values.now)
    c.loop-value-test.true c.value-item.is c.in_ok-push_text.ensures.taken c.in_ok-push_text.ensures.done c.loop-value.invariant

pub returns : goal.returns
returns c =
    c.in_ok-limited_text.ensures
    ∙ joined_all (string_bytes c.loop-value.joined) c.args.values.now c.loop-value.value-index (concatenated c.args.values.now) c.loop-value-test.false c.loop-value.invariant
