use Rattle.wi_edit_log.proofs.Words.{◌∙◌, None, ap, min, rules, sym, entries_in}
use Rattle.wi_edit_log.proofs.Least.{stale_is_first}
use Rattle.wi_edit_log.proofs.Runs.{none_of_own}
use Rattle.wi_edit_log.proofs.edit_log.EditLog.first_stale.Goals as goal

pub returns-then-end-since : goal.returns-then-end-since
returns-then-end-since c =
    stale_is_first c.args.self.now c.deref.result.now c.args.session c.args.since c.min-since.result c.args.cells.now None
    (ap entries_in c.deref.ensures.value ∙ c.self.view_is) (c.min-since.ensures ∙ ap (min c.args.since) (c.len.ensures ∙ sym c.deref.ensures.len))
    (none_of_own c.deref.result.now c.args.session c.run_after-end.result c.min-since.result c.args.cells.now c.if-end-since.true c.run_after-end.ensures.one_session)

pub returns-then-are_looked_up : goal.returns-then-are_looked_up
returns-then-are_looked_up c =
    stale_is_first c.args.self.now c.deref-then-are_looked_up.result.now c.args.session c.args.since c.min-since.result c.args.cells.now c.first_named.result
    (ap entries_in c.deref-then-are_looked_up.ensures.value ∙ c.self.view_is) (c.min-since.ensures ∙ ap (min c.args.since) (c.len.ensures ∙ sym c.deref-then-are_looked_up.ensures.len)) (search rules)

pub returns-else-are_looked_up : goal.returns-else-are_looked_up
returns-else-are_looked_up c =
    stale_is_first c.args.self.now c.deref-else-are_looked_up.result.now c.args.session c.args.since c.min-since.result c.args.cells.now c.first_of_others.result
    (ap entries_in c.deref-else-are_looked_up.ensures.value ∙ c.self.view_is) (c.min-since.ensures ∙ ap (min c.args.since) (c.len.ensures ∙ sym c.deref-else-are_looked_up.ensures.len)) (search rules)
