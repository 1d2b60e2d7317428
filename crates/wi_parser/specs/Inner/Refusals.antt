-- For which causes symbols are refused before they are read, in which order.
use Rattle.std.specs.Prelude.{Bool, true, false, List, if◌then◌else◌, Option, Some, None}
use Rattle.std.specs.List.{list_any}
use Rattle.wi_parser.specs.declared.fault.ParseFault.{ParseFault}
use Rattle.wi_parser.specs.declared.fault.ParseFault.TheVariants.{OutOfSheet, NumberRange, TooDeep}
use Rattle.wi_parser.specs.Symbol.{Symbol, bad_token}
use Rattle.wi_parser.specs.Nesting.{is_too_deep}

-- a bad token
abbrev pub is_refused : Symbol → Bool
is_refused (bad_token e) = true
is_refused s = false

-- a reference to a cell outside the sheet
abbrev pub is_out_of_sheet : Symbol → Bool
is_out_of_sheet (bad_token OutOfSheet) = true
is_out_of_sheet s = false

-- a number that does not fit
abbrev pub is_unfit : Symbol → Bool
is_unfit (bad_token NumberRange) = true
is_unfit s = false

abbrev pub refusal_of : List Symbol → Option ParseFault
refusal_of ts =
    if list_any is_out_of_sheet ts then Some OutOfSheet
    else (if list_any is_unfit ts then Some NumberRange
    else (if is_too_deep ts then Some TooDeep else None))
