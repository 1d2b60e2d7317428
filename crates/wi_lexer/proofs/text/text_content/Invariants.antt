use Rattle.wi_lexer.proofs.Words.{length, string_bytes, Utf8, shadow}
use Rattle.wi_lexer.proofs.QuoteLemmas.{IsRead}
use Rattle.wi_lexer.proofs.text.text_content.Given as goal

abbrev pub invariant-loop-piece : goal.invariant-loop-piece
invariant-loop-piece l = shadow (Utf8 l.rest) × IsRead (string_bytes l.content) l.rest l.text

abbrev pub decreases-loop-piece : goal.decreases-loop-piece
decreases-loop-piece l = length l.rest
