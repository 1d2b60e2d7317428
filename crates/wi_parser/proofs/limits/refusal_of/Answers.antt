use Rattle.wi_parser.proofs.Words.{sym, ◌∙◌, all_meant}
use Rattle.wi_parser.proofs.Parses.{by_depth_alone}
use Rattle.wi_parser.proofs.limits.refusal_of.Goals as goal

pub returns : goal.returns
returns c = c.depth_refusal.ensures ∙ sym (by_depth_alone (all_meant c.args.symbols.now) (sym c.has_refused.ensures ∙ c.if-has_refused.false))
