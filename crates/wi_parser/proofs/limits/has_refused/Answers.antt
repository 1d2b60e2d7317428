use Rattle.wi_parser.proofs.Words.{rules, tests, sym, ◌∙◌, YieldsList-from_slice, any_from_yields_List, is_refused, meant_by}
use Rattle.wi_parser.proofs.Refusals.{any_meant}
use Rattle.wi_parser.proofs.limits.has_refused.Goals as goal

pub returns : goal.returns
returns c =
    any_from_yields_List (λ w. is_refused (meant_by w)) _ _ c.any.result c.any.ensures.ran (YieldsList-from_slice c.args.symbols.now (cc)) (λ x b q k. search (rules, tests))
    ∙ sym (any_meant is_refused c.args.symbols.now)
