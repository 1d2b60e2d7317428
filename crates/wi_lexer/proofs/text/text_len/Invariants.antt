use Rattle.wi_lexer.proofs.QuoteLemmas.{IsReached}
use Rattle.wi_lexer.proofs.text.text_len.Given as goal

abbrev pub invariant-loop-i : goal.invariant-loop-i
invariant-loop-i l = IsReached l.inside l.len l.i l.text
