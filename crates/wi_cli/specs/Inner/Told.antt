-- The reply to a command, and what is told of one line.
use Rattle.wi_scenarios.specs.Commands.Command.{Drop, As}
use Rattle.std.specs.Prelude.{◌%◌, ◌++◌, ◌+◌, ◌/◌, ◌∷◌, ◌≡◌}
use Rattle.wi_cli.specs.Words.{Answer, Command, Csv, Done, Err, IsStep, List, Memory, None, Ok, Option, Passed, Refusal, Refused, Reply, Result, Serves, Some, Stale, State, [], address_text, byte, code_of, codes, has_session, true, ℕ}
use Rattle.wi_cli.specs.Reply.{MayLackMemory}

-- `refused E`, and a code in two digits
abbrev pub refused_code : ℕ → List ℕ
refused_code code = codes "refused E" ++ (byte "0" + code / 10) ∷ (byte "0" + code % 10) ∷ []

-- behind the code of a stale cell a space, and its address
abbrev pub refused_cell : Refusal → List ℕ
refused_cell (Stale at) = codes " " ++ address_text at
refused_cell e = []

-- the line of a refusal
unfoldable pub refused : Refusal → List ℕ
refused e = refused_code (code_of e) ++ refused_cell e ++ codes "\n"

-- the records and then `ok`, or the refusal
abbrev pub reply : Answer → List ℕ
reply (Ok a) = a.1 ++ codes "ok\n"
reply (Err e) = refused e

-- ---- what is told of one line

-- where a call of the workbook is never refused as out of memory; data lines have no such call
abbrev pub KeepsMemory : Command → Result (Unit {0}) Refusal → State → Type 0
KeepsMemory (Drop name) r s = r ≡ Err Memory → ⊥
KeepsMemory (As name) r s = has_session s.sessions name ≡ true → (r ≡ Err Memory → ⊥)
KeepsMemory (Csv force at n lines) r s = ⊥
KeepsMemory c r s = Unit {0}

-- a call of the workbook did the command, or refused it
pub record IsServed (c : Command) (r : Result (Unit {0}) Refusal) (s t : State) (records : List ℕ) : Type 0 where
  pub serves : Serves (IsStep s c) r s t records
  pub keeps : KeepsMemory c r s

-- some commands may be refused as out of memory; another refusal is the step's
abbrev pub RefusedAs : Refusal → State → Command → Type 0
RefusedAs Memory s c = MayLackMemory s c
RefusedAs e s c = IsStep s c (Err e)

-- the line is passed over, or its command is answered by the step, or as out of memory
abbrev pub Told : Option Command → Reply → State → State → List ℕ → Type 0
Told None Passed s t out = t ≡ s
Told (Some c) Done s t out = IsStep s c (Ok (t, out))
Told (Some c) (Refused e) s t out = (t ≡ s) × RefusedAs e s c
Told o a s t out = ⊥

-- the bytes that tell it
abbrev pub reply_bytes : Reply → List ℕ → List ℕ
reply_bytes Passed out = []
reply_bytes Done out = out ++ codes "ok\n"
reply_bytes (Refused e) out = refused e
