use Rattle.wi_worlds.proofs.Words.{◌++◌, ◌∙◌, List, ap, IfOk-from_err, Replacement, as_map, order_from_entries, one_more_taken, all_taken, one_less}
use Rattle.wi_worlds.proofs.entries.listed.Goals as goal

pub loop-at-init : goal.loop-at-init
loop-at-init c = ap (λ (rs : List Replacement). as_map rs ++ c.into_iter-at-iterator.result) c.in_ok-replacements.ensures.items

pub loop-at-preserved : goal.loop-at-preserved
loop-at-preserved c =
    one_more_taken c.loop-at.replacements.items c.push.new.self.items (record { at = c.in-Some.at; value = c.in-Some.value }) c.loop-at.at-iterator c.next.new.self c.into_iter-at-iterator.result
    c.in_ok-push.ensures.items c.in-Some.ensures.steps c.loop-at.invariant

pub loop-at-smaller : goal.loop-at-smaller
loop-at-smaller c = one_less c.loop-at.at-iterator c.next.new.self (c.in-Some.at, c.in-Some.value) c.in-Some.ensures.steps

pub returns-in_err-replacements-clause-value : goal.returns-in_err-replacements-clause-value
returns-in_err-replacements-clause-value c = IfOk-from_err c.from_residual.result _ c.from_residual.ensures.0

pub returns-in_err-replacements-clause-order : goal.returns-in_err-replacements-clause-order
returns-in_err-replacements-clause-order c = IfOk-from_err c.from_residual.result _ c.from_residual.ensures.0

pub returns-in_err-push-clause-value : goal.returns-in_err-push-clause-value
returns-in_err-push-clause-value c = IfOk-from_err c.from_residual-in_err-push.result _ c.from_residual-in_err-push.ensures.0

pub returns-in_err-push-clause-order : goal.returns-in_err-push-clause-order
returns-in_err-push-clause-order c = IfOk-from_err c.from_residual-in_err-push.result _ c.from_residual-in_err-push.ensures.0

pub returns-clause-value : goal.returns-clause-value
returns-clause-value c = all_taken _ _ _ c.in-None.ensures.steps.0 c.loop-at.invariant ∙ c.into_iter-at-iterator.ensures.into_iter_gives.0

pub returns-clause-order : goal.returns-clause-order
returns-clause-order c =
    order_from_entries c.loop-at.replacements.items c.args.map.entries
    (all_taken _ _ _ c.in-None.ensures.steps.0 c.loop-at.invariant ∙ c.into_iter-at-iterator.ensures.into_iter_gives.0)
    c.len.ensures.ordered
