-- The plans that a calculator has.
use Rattle.std.specs.Prelude.{All}
use Rattle.wi_parser.specs.Sheet.{Sheet}
use Rattle.wi_engine.specs.Inner.Plans.{IsPlanOf}
use Rattle.wi_propagate.specs.declared.plans.Plans.{Plans}

-- each is one of the sheet
abbrev pub ArePlans : Sheet → Plans → Type 0
ArePlans s ps = All (λ p. IsPlanOf s p) ps.plans.items
