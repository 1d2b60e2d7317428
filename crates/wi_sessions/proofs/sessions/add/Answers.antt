use Rattle.wi_sessions.proofs.Words.{◌∙◌, refl, rc_str_bytes}
use Rattle.wi_sessions.proofs.RosterLemmas.{added}
use Rattle.wi_sessions.proofs.sessions.add.Goals as goal

pub returns-clause-added : goal.returns-clause-added
returns-clause-added c = c.in_ok-insert.ensures.entries ∙ added c.args.sessions.now c.args.name c.args.details (rc_str_bytes c.args.name) refl c.requires
