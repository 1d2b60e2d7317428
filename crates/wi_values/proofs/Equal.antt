-- Equality of values, and that of replacements, decides whether they are one.
use Rattle.wi_values.proofs.Words.{◌≡◌, arith, Decides, common_steps, numbers, texts, Value, Replacement}
use Rattle.std.specs.Prelude.{Bool}
use Rattle.wi_values.specs.contracts.value.ValuePartialEq.TheImpl as values
use Rattle.wi_values.specs.contracts.replacement.ReplacementPartialEq.TheImpl as block

pub same_value_Decides : (v w : Value) → Decides (values.ghosts.eq v w) (v ≡ w)
same_value_Decides v w = grind (arith, common_steps, numbers, texts)

-- a test that is true exactly where two values are one
abbrev pub the_equality : (test : Value → Value → Bool) × ((v w : Value) → Decides (test v w) (v ≡ w))
the_equality = (values.ghosts.eq, same_value_Decides)

pub same_replacement_Decides : (x y : Replacement) → Decides (block.ghosts.eq x y) (x ≡ y)
same_replacement_Decides x y = grind (arith, common_steps, numbers, texts)
