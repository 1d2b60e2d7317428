-- What a text holds.
use Rattle.std.specs.Prelude.{ℕ, List, [], Option, Some, None}
use Rattle.std.specs.Rc.{rc_str_bytes}
use Rattle.std.specs.declared.rc.RcStr.{RcStr}

-- the bytes of a shared text, and none where there is none
abbrev pub shared_bytes : {Z : Type 0} → Option (RcStr Z) → List ℕ
shared_bytes None = []
shared_bytes (Some shared) = rc_str_bytes shared
