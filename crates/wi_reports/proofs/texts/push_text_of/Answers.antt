use Rattle.wi_reports.proofs.Words.{rules, string_bytes, sym, one_more}
use Rattle.wi_reports.proofs.texts.push_text_of.Goals as goal

pub returns : goal.returns
returns c = sym (one_more string_bytes _ _ _ _ c.in_ok-push.ensures.items (search rules))
