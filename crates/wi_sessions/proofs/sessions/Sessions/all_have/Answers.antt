use Rattle.wi_sessions.proofs.Words.{◌∙◌, ap, Roster, is_pending_for_all}
use Rattle.wi_sessions.proofs.sessions.Sessions.all_have.Goals as goal

pub returns : goal.returns
returns c = c.all_have.ensures ∙ ap (λ (r : Roster). is_pending_for_all r c.args.at) c.self.view_is
