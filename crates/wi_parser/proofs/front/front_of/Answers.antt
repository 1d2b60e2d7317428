use Rattle.wi_parser.proofs.Words.{codes, ap, ◌∙◌, after}
use Rattle.wi_parser.proofs.front.front_of.Goals as goal

pub returns : goal.returns
returns c = record { plain = c.after_prefix-plain.ensures; body = c.after-body.ensures ∙ ap (after (codes "=")) c.after_prefix-plain.ensures }
