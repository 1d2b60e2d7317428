-- Data lines, as they are read and held, and what a line asks for.
use Rattle.std.specs.Prelude.{if◌then◌else◌, ◌&&◌, ◌++◌, ◌+◌, ◌<◌, ◌==◌, ◌≡◌}
use Rattle.wi_cli.specs.Words.{AddressFault, All, Answer, BadCommand, Bool, Cell, Command, Csv, CutShort, DataLines, Err, Held, IsImportStep, IsStep, Lacking, Line, List, None, Ok, Option, OutOfSheet, Outside, Refusal, Result, RunFault, Shape, Some, State, TooLong, Unreadable, [], concat, false, is_ok, length, list_any, raw_lines, read_address, true, ℕ}
use Rattle.wi_cli.specs.Reply.{MayLackMemory}
use Rattle.wi_cli.specs.declared.csv_line.CsvLine.{CsvLine as ReadCsv}
use Rattle.wi_cli.specs.Inner.Script.{CsvLine, is_long}
use Rattle.wi_cli.specs.Inner.Told.{RefusedAs}
use Rattle.wi_cli.specs.Inner.Reading.{Place}
use Rattle.wi_cli.specs.Inner.Turn.{TookLines, BrokeLines}
use Rattle.wi_cli.specs.Inner.Operands.{IsRead}
use Rattle.wi_cli.specs.declared.line.Line.TheVariants as read

-- a line that asks for data lines, as it was read
abbrev pub IsCsv : Option CsvLine → Option ReadCsv → Type 0
IsCsv o None = o ≡ None
IsCsv o (Some csv) =
    (word : List ℕ) × (o ≡ Some (record { force = csv.force; address = word; lines = csv.lines })) × (csv.at ≡ read_address word)

-- what it is as a command, with this cell, if its word spells one, and its data lines
abbrev pub command_of_csv : ReadCsv → Option Cell → List (List ℕ) → Command
command_of_csv csv at lines = if csv.is_text then Csv csv.force at csv.lines lines else Unreadable

-- its data lines are to be held
abbrev pub wants : ReadCsv → Bool
wants csv = csv.is_text && is_ok csv.at

-- what became of the data lines that were taken
abbrev pub Holds : Bool → Held → List ℕ → List (List ℕ) → Type 0
Holds wanted All bytes lines = (list_any is_long lines ≡ false) × (wanted ≡ true → bytes ≡ concat lines)
Holds wanted Lacking bytes lines = wanted ≡ true
Holds wanted TooLong bytes lines = list_any is_long lines ≡ true

abbrev pub HoldsLines : DataLines → List (List ℕ) → Type 0
HoldsLines d lines = Holds d.wanted d.held d.bytes.items lines

-- lines were added
pub record AddedTo (d d' : DataLines) (lines : List (List ℕ)) : Type 0 where
  pub wanted : d'.wanted ≡ d.wanted
  pub missing : d'.missing + length lines ≡ d.missing
  pub held : (before : List (List ℕ)) → HoldsLines d before → HoldsLines d' (before ++ lines)

-- Of the data lines that are asked for some were taken: none, where the source had nothing left before them.
pub record TookData (asked : ℕ) (d : DataLines) (before whole : Bool) (p q : Place) : Type 0 where
  pub took : TookLines whole p q
  pub none_taken : before ≡ false → (whole ≡ false) × (took.lines ≡ []) × (took.last ≡ [])
  pub missing : length (took.lines ++ raw_lines took.last) + d.missing ≡ asked
  pub held : HoldsLines d (took.lines ++ raw_lines took.last)

-- fewer than those were taken, and no more
pub record BrokeData (asked : ℕ) (before : Bool) (fault : RunFault) (p q : Place) : Type 0 where
  pub came : before ≡ true
  pub broke : BrokeLines fault p q
  pub some_missing : length broke.lines < asked

-- where the data lines of a line go that are not too long, or why they are refused
abbrev pub target_of : Result ℕ AddressFault → ℕ → Result ℕ Refusal
target_of (Ok at) missing = if missing == 0 then Ok at else Err CutShort
target_of (Err Shape) missing = Err BadCommand
target_of (Err Outside) missing = if missing == 0 then Err OutOfSheet else Err CutShort

-- the command puts these bytes there, or is refused whatever the state is
abbrev pub IsTarget : Command → Bool → List ℕ → Result ℕ Refusal → Type 0
IsTarget c force bytes (Ok at) = (s : State) → MayLackMemory s c × ((a : Answer) → IsImportStep s force at bytes a → IsStep s c a)
IsTarget c force bytes (Err e) = (s : State) → RefusedAs e s c

-- what is read of a line that asks for these data lines, if for any, is UTF-8 or not, and has this command, if it has
-- one, where it asks for none
abbrev pub IsAsked : Option CsvLine → Bool → Option Command → Line → Type 0
IsAsked asked text o read.Passed = (asked ≡ None) × (o ≡ None)
IsAsked asked text o (read.Csv csv) = IsCsv asked (Some csv) × (csv.is_text ≡ text)
IsAsked asked text o (read.Command r) = (asked ≡ None) × ((c : Command) × (o ≡ Some c) × IsRead c r)
