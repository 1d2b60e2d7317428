use Rattle.wi_graph.proofs.Words.{◌∙◌, sym, true≢false, rules, lone_key}
use Rattle.wi_graph.proofs.turning.lone_unread.Goals as goal

pub returns-clause-alone : goal.returns-clause-alone
returns-clause-alone c = lone_key c.args.changes.now c.index-changes-0.result (search rules) c.index-changes-0.is

pub returns-clause-unread : goal.returns-clause-unread
returns-clause-unread c = λ h. absurd (true≢false (sym (c.has_readers.ensures.1 h) ∙ c.if-has_readers.false))
