-- What a command is answered.
use Rattle.std.specs.Prelude.{◌≡◌, ◌∷◌, ◌++◌}
use Rattle.wi_cli.specs.Words.{ℕ, false, List, [], Option, Some, codes, Contains, address_text, has_session, State, is_outside, Command, Csv, Bytes}
use Rattle.wi_scenarios.specs.Commands.Command.{Drop, As}
use Rattle.wi_scenarios.specs.Commands.Causes.{Cause, OutOfSheet, NumberRange, TooDeep, Syntax, LeavesSheet, Stale, Full, EditLimit, order, Holds, IsFirst, stale_cell}
use Rattle.wi_scenarios.specs.Commands.Does.{Does}

-- behind the code of a stale edit a space and the cell
abbrev pub cell_named : Cause → Option ℕ → Bytes
cell_named Stale (Some at) = codes " " ++ address_text at
cell_named cause o = []

-- the causes that are found only once something may have grown
abbrev pub late : List Cause
late = OutOfSheet ∷ NumberRange ∷ TooDeep ∷ Syntax ∷ LeavesSheet ∷ Stale ∷ Full ∷ EditLimit ∷ []

-- E01 may stand in place of any answer but a cause found before anything grows. `drop`, and `as` of a session that is there,
-- grow nothing; data lines for a cell of the sheet always may.
abbrev pub MayLackMemory : State → Command → Type 0
MayLackMemory s (Drop name) = ⊥
MayLackMemory s (As name) =
    (has_session s.sessions name ≡ false) × ((x : Cause × Bytes) → IsFirst s (As name) order x → Contains late x.0)
MayLackMemory s (Csv force (Some at) n lines) = is_outside at ≡ false
MayLackMemory s c = (x : Cause × Bytes) → IsFirst s c order x → Contains late x.0

pub data Replies (s : State) (c : Command) : Bytes → State → Type 0 where
  accepted : (t : State) (records : Bytes) → ((cause : Cause) → Holds s cause c → ⊥) → Does s c (t, records)
      → Replies s c (records ++ codes "ok\n") t
  refused : (cause : Cause) (code : Bytes) → IsFirst s c order (cause, code)
      → Replies s c (codes "refused E" ++ code ++ cell_named cause (stale_cell s c) ++ codes "\n") s
  unserved : MayLackMemory s c → Replies s c (codes "refused E01\n") s
