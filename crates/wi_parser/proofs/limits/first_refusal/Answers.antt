use Rattle.wi_parser.proofs.Words.{rules, sym, ◌∙◌, all_meant}
use Rattle.wi_parser.proofs.Parses.{by_depth}
use Rattle.wi_parser.proofs.limits.first_refusal.Goals as goal

pub returns-then-has_outside : goal.returns-then-has_outside
returns-then-has_outside c = search rules

pub returns : goal.returns
returns c =
    c.depth_refusal.ensures
    ∙ sym (by_depth (all_meant c.args.symbols.now) (sym c.has_outside.ensures ∙ c.if-has_outside.false) (sym c.has_unfit.ensures ∙ c.if-has_unfit.false))
