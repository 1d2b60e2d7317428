-- What the operand of a criterion is, as a fact about the bytes of its text.
use Rattle.std.specs.Prelude.{◌≡◌, ℕ, List, Some}
use Rattle.wi_values.specs.Imported.{IsImported}
use Rattle.wi_values.specs.declared.value.Value.{Value}
use Rattle.wi_standard_functions.specs.Criterion.{constant_of}

-- a text is taken for the constant that it is imported as
abbrev pub OperandsAreImported : Type 0
OperandsAreImported = (text : List ℕ) (v : Value) → IsImported text (Some v) → constant_of text ≡ v
