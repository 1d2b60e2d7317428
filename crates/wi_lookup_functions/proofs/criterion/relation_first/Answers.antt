use Rattle.wi_lookup_functions.proofs.Words.{ℕ, Bool, List, ap, Value, constant_of}
use Rattle.wi_standard_functions.specs.Inner.Criteria.{Criterion}
use Rattle.wi_lookup_functions.proofs.criterion.relation_first.Goals as goal

abbrev by : (Value → Value → Bool) → List ℕ → Criterion
by relation text = record { relation = relation; operand = constant_of text }

pub returns-in_default-after-5 : goal.returns-in_default-after-5
returns-in_default-after-5 c =
    rw (c.in_default.ensures, c.in_default-after.ensures, c.in_default-after-2.ensures, c.in_default-after-3.ensures, c.in_default-after-4.ensures, c.in_default-after-5.ensures) (ap (λ (relation : Value → Value → Bool). by relation c.args.text.now) (search c.in_default.ensures))
