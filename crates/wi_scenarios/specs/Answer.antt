-- What a command is answered.
use Rattle.std.specs.Prelude.{◌≡◌}
use Rattle.wi_scenarios.specs.Words.{ℕ, Bool, true, false, not, List, [], Result, Ok, Err, ShiftFault, StoreFault, Refusal, State}
use Rattle.wi_values.specs.declared.address.AddressFault.{AddressFault}
use Rattle.wi_values.specs.declared.address.AddressFault.TheVariants.{Shape, Outside}
use Rattle.wi_values.specs.declared.import.FieldFault.{FieldFault}
use Rattle.wi_values.specs.declared.import.FieldFault.TheVariants as field
use Rattle.wi_parser.specs.declared.fault.ParseFault.{ParseFault}
use Rattle.wi_parser.specs.declared.fault.ParseFault.TheVariants as parse
use Rattle.wi_parser.specs.declared.shift.ShiftFault.TheVariants as shift
use Rattle.wi_store.specs.declared.fault.StoreFault.TheVariants as store
use Rattle.wi_import.specs.declared.fault.ImportFault.{ImportFault}
use Rattle.wi_import.specs.declared.fault.ImportFault.TheVariants as import
use Rattle.wi_scenarios.specs.declared.refusal.Refusal.TheVariants.{Memory, BadCommand, BadLine, OutOfSheet, Syntax, TooDeep, NumberRange, TooLong, Full, NoScenario, TooMany, InUse, CutShort, BadField, TooLarge, LeavesSheet, EditLimit, Stale, Loop}

-- the new state and the records, or the first refusal that holds
abbrev pub Answer : Type 0
Answer = Result (State × List ℕ) Refusal

-- the code of each refusal
abbrev pub code_of : Refusal → ℕ
code_of Memory = 1
code_of BadCommand = 2
code_of BadLine = 3
code_of OutOfSheet = 4
code_of Syntax = 5
code_of TooDeep = 6
code_of NumberRange = 7
code_of TooLong = 8
code_of Full = 9
code_of NoScenario = 10
code_of TooMany = 11
code_of InUse = 12
code_of CutShort = 13
code_of BadField = 14
code_of TooLarge = 15
code_of LeavesSheet = 16
code_of EditLimit = 17
code_of (Stale at) = 18
code_of Loop = 19

-- the refusal of an operand that is no address or rectangle, or none of the sheet
abbrev pub operand_refusal : AddressFault → Refusal
operand_refusal Shape = BadCommand
operand_refusal Outside = OutOfSheet

-- the refusal of a content that can't be read
abbrev pub parse_refusal : ParseFault → Refusal
parse_refusal parse.TooLong = TooLong
parse_refusal parse.OutOfSheet = OutOfSheet
parse_refusal parse.NumberRange = NumberRange
parse_refusal parse.TooDeep = TooDeep
parse_refusal parse.Syntax = Syntax
parse_refusal parse.Memory = Memory

-- the refusal of an import
abbrev pub import_refusal : ImportFault → Refusal
import_refusal import.BadField = BadField
import_refusal import.TooLong = TooLong
import_refusal import.OutOfSheet = OutOfSheet
import_refusal import.Memory = Memory

-- the refusal of a copy
abbrev pub shift_refusal : ShiftFault → Refusal
shift_refusal shift.LeavesSheet = LeavesSheet
shift_refusal shift.Memory = Memory

-- the refusal of an edit by the store
abbrev pub edit_refusal : StoreFault → Refusal
edit_refusal store.Full = Full
edit_refusal store.EditLimit = EditLimit
edit_refusal store.Memory = Memory

-- the refusal of a text that is put into a scenario
abbrev pub field_refusal : FieldFault → Refusal
field_refusal field.TooLong = TooLong
field_refusal field.Memory = Memory

-- whether a refusal is found before anything grows
abbrev pub is_found_before_growth : Refusal → Bool
is_found_before_growth BadCommand = true
is_found_before_growth BadLine = true
is_found_before_growth TooLarge = true
is_found_before_growth TooLong = true
is_found_before_growth NoScenario = true
is_found_before_growth InUse = true
is_found_before_growth TooMany = true
is_found_before_growth Loop = true
is_found_before_growth e = false

-- whether anything may grow before this answer is found
abbrev pub may_grow : Answer → Bool
may_grow (Ok a) = true
may_grow (Err e) = not (is_found_before_growth e)

-- The answer is one before which something may grow.
pub record MayGrow (IsAnswer : Answer → Type 0) : Type 0 where
  pub answer : Answer
  pub is_answer : IsAnswer answer
  pub grows : may_grow answer ≡ true

-- "out of memory" may stand in place of an answer before which something may grow, another refusal only as the answer
abbrev pub MayRefuse : Refusal → (Answer → Type 0) → Type 0
MayRefuse Memory IsAnswer = MayGrow IsAnswer
MayRefuse e IsAnswer = IsAnswer (Err e)

-- The call did as the answer says and wrote these records, or it refused, wrote none and left the state as it was.
abbrev pub Serves : (Answer → Type 0) → Result (Unit {0}) Refusal → State → State → List ℕ → Type 0
Serves IsAnswer (Ok _) old new records = IsAnswer (Ok (new, records))
Serves IsAnswer (Err e) old new records = MayRefuse e IsAnswer × (new ≡ old) × (records ≡ [])

-- behind data lines "out of memory" may stand in place of any answer, another refusal only as the answer
abbrev pub MayRefuseData : Refusal → (Answer → Type 0) → Type 0
MayRefuseData Memory IsAnswer = Unit {0}
MayRefuseData e IsAnswer = IsAnswer (Err e)

abbrev pub ServesData : (Answer → Type 0) → Result (Unit {0}) Refusal → State → State → Type 0
ServesData IsAnswer (Ok _) old new = IsAnswer (Ok (new, []))
ServesData IsAnswer (Err e) old new = MayRefuseData e IsAnswer × (new ≡ old)
