use Rattle.wi_parser.proofs.Words.{rules}
use Rattle.wi_parser.proofs.Answered.{text_taken}
use Rattle.wi_parser.proofs.content.Content.taken_as_text.Goals as goal

pub returns-then-text-gt-MAX_TEXT : goal.returns-then-text-gt-MAX_TEXT
returns-then-text-gt-MAX_TEXT c = search rules

pub returns : goal.returns
returns c = text_taken _ _ c.if-text-gt-MAX_TEXT.false c.in_ok-from_str.ensures
