use Rattle.wi_values.proofs.Words.{◌∙◌, sym, rules, tests, YieldsList-from_slice, all_from_yields_List, is_ascii_digit, digits_same}
use Rattle.wi_values.proofs.address.are_digits.Goals as goal

pub returns : goal.returns
returns c =
    all_from_yields_List is_ascii_digit _ _ _ c.all.ensures.ran (YieldsList-from_slice c.args.bytes.now cc) (λ x b q k. search (rules, tests))
    ∙ sym (digits_same c.args.bytes.now)
