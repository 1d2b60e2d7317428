use Rattle.wi_fraction.proofs.Vocabulary.{◌∙◌, sym, inl, gcd-one}
use Rattle.wi_fraction.proofs.Numbers.{number_at-too_large, number_of-whole}
use Rattle.wi_fraction.proofs.Steps.{bounded-some, bounded-none}
use Rattle.wi_fraction.proofs.arithmetic.whole_product.Goals as goal

pub returns-in_err-product : goal.returns-in_err-product
returns-in_err-product c = c.from_residual.ensures ∙ number_at-too_large c.args.negative _ 1 (inl (bounded-none _ (sym c.in_err-product.was ∙ c.product.ensures))) ∙ number_of-whole c.args.negative _

pub number_at-requires-clause-lowest : goal.number_at-requires-clause-lowest
number_at-requires-clause-lowest c = gcd-one _

pub returns : goal.returns
returns c = c.number_at.ensures ∙ rw (bounded-some _ _ c.in_ok-product.ensures).0 (number_of-whole c.args.negative _)
