-- Two operands, neither of which is an error.
use Rattle.std.specs.Prelude.{Result, Ok, Err}
use Rattle.wi_values.specs.declared.value.ErrorKind.{ErrorKind}

-- both operands, or the first error from the left
abbrev pub both : {A B : Type 0} → Result A ErrorKind → Result B ErrorKind → Result (A × B) ErrorKind
both (Err e) y = Err e
both (Ok x) (Err e) = Err e
both (Ok x) (Ok y) = Ok (x, y)
