use Rattle.wi_engine.proofs.Words.{sym, ◌∙◌}
use Rattle.wi_engine.proofs.content_ref.content_in.Goals as goal

pub returns-in-Some : goal.returns-in-Some
returns-in-Some c = c.constant.ensures ∙ sym (c.in-Some.ensures.some c.args.store.now.sheet)

pub returns-in-None : goal.returns-in-None
returns-in-None c = c.stored.ensures ∙ sym (c.in-None.ensures.none c.args.store.now.sheet)
