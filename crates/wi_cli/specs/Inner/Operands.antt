-- The operands of commands, as they are read, and the commands that have them.
use Rattle.wi_scenarios.specs.Commands.Command.{Set, Clear, Fill, Scenario, Drop, Base, Use, As, Show, Export, Changes, Compare, Table, Formula}
use Rattle.std.specs.Prelude.{if◌then◌else◌, ◌&&◌, ◌+◌, ◌-◌, ◌==◌, ◌||◌, ◌≡◌, ◌≢◌}
use Rattle.wi_cli.specs.Words.{AddressFault, Area, BadCommand, Bool, Cell, Command, CornerCells, Err, IsStep, List, Memory, None, Ok, Option, Outside, Refusal, Result, Shape, Some, State, address, after_word, area, byte, bytes_eq, bytes_of, cell, codes, corners, digits_value, drop, false, first_word, form, is_ascii_alphabetic, is_column, is_outside, is_row, is_row_number, is_space, letters_value, lies_outside, list_all, list_any, nat_lt, operand_refusal, option_map, position, prefix_len, read_address, read_name, read_rect, result_err, take, ℕ}
use Rattle.wi_cli.specs.declared.command.Command.{Command as ReadCommand}
use Rattle.wi_cli.specs.declared.command.Command.TheVariants as read

-- no word is there
abbrev pub is_all_spaces : List ℕ → Bool
is_all_spaces text = list_all is_space text

-- ---- cells

-- the cell that a word spells, of any size
unfoldable pub spelled_cell : List ℕ → Option Cell
spelled_cell word =
    let k = prefix_len is_ascii_alphabetic word in
    if nat_lt 0 k && is_row_number (drop k word)
    then Some (record { row = digits_value 10 (drop k word) - 1; column = letters_value (take k word) - 1 }) else None

abbrev pub both : {X Y : Type 0} → Option X → Option Y → Option (X × Y)
both (Some x) (Some y) = Some (x, y)
both o p = None

-- the corners of a word whose first colon is known: without one it is a single cell's
abbrev pub spelled_corners : List ℕ → Option ℕ → Option CornerCells
spelled_corners word None = both (spelled_cell word) (spelled_cell word)
spelled_corners word (Some k) = both (spelled_cell (take k word)) (spelled_cell (drop (k + 1) word))

unfoldable pub spelled_rect : List ℕ → Option CornerCells
spelled_rect word = spelled_corners word (position (λ c. c == byte ":") word)

-- what is outside the sheet isn't read
abbrev pub read_by : {X : Type 0} → Bool → X → Result X AddressFault
read_by outside x = if outside then Err Outside else Ok x

-- a cell, and a rectangle, as the code has read it
abbrev pub read_any : Option Cell → Result ℕ AddressFault
read_any None = Err Shape
read_any (Some c) = read_by (is_outside c) (address c)

abbrev pub read_any_area : Option CornerCells → Result Area AddressFault
read_any_area None = Err Shape
read_any_area (Some r) = read_by (is_outside r.0 || is_outside r.1) (area r)

-- ---- what is read: a command of operands of the sheet, or a refusal

abbrev pub Reading : Type 0
Reading = Result Command Refusal

-- the command, where no word is left
abbrev pub at_end : List ℕ → Reading → Reading
at_end more command = if is_all_spaces more then command else Err BadCommand

-- a command of an operand, where it is one
abbrev pub of_operand : {X : Type 0} → Result X AddressFault → (X → Reading) → Reading
of_operand (Ok x) command = command x
of_operand (Err fault) command = Err (operand_refusal fault)

-- why a rectangle that is to be one column, or one row, is refused, if it is
abbrev pub line_fault : (Area → Bool) → Result Area AddressFault → Option AddressFault
line_fault is_line (Ok area) = if is_line area then None else Some Shape
line_fault is_line (Err fault) = Some fault

-- of two operands: the wrong form of either comes before a cell outside the sheet
abbrev pub worse : Option AddressFault → Option AddressFault → Option AddressFault
worse None other = other
worse (Some Outside) (Some fault) = Some fault
worse one other = one

-- the command, unless an operand is refused
abbrev pub unless_refused : Option AddressFault → Reading → Reading
unless_refused None command = command
unless_refused (Some fault) command = Err (operand_refusal fault)

-- ---- names

-- a command of what is named, where it is a name
abbrev pub of_name : {X : Type 0} → Option X → (X → Reading) → Reading
of_name (Some x) command = command x
of_name None command = Err BadCommand

-- the name that is the only word
abbrev pub only_name : List ℕ → Option (List ℕ)
only_name words = if is_all_spaces (after_word words) then read_name (first_word words) else None

-- the name that is the only word, or no name where there is no word
abbrev pub name_or_none : List ℕ → Option (Option (List ℕ))
name_or_none words = if is_all_spaces words then Some None else option_map (λ name. Some name) (only_name words)

-- a scenario's name, or `-` for the sheet as it stands
abbrev pub read_side : List ℕ → Option (Option (List ℕ))
read_side word = if bytes_eq word (codes "-") then Some None else option_map (λ name. Some name) (read_name word)

-- ---- what commands of several operands are read as, by what each operand is

abbrev pub fill_of : Bool → Result ℕ AddressFault → Result Area AddressFault → Reading
fill_of force from area =
    unless_refused (worse (result_err from) (result_err area)) (of_operand from (λ from. of_operand area (λ area. Ok (Fill force (cell from) (corners area)))))

abbrev pub table_of_one : Result ℕ AddressFault → Result ℕ AddressFault → Result Area AddressFault → Reading
table_of_one f r xs =
    unless_refused (worse (result_err f) (worse (result_err r) (line_fault is_column xs)))
    (of_operand f (λ f. of_operand r (λ r. of_operand xs (λ xs. Ok (Table (cell f) (cell r) (corners xs) None)))))

abbrev pub table_of_two : Result ℕ AddressFault → Result ℕ AddressFault → Result Area AddressFault → Result ℕ AddressFault → Result Area AddressFault → Reading
table_of_two f r xs c ys =
    unless_refused (worse (result_err f) (worse (result_err r) (worse (line_fault is_column xs) (worse (result_err c) (line_fault is_row ys)))))
    (of_operand f (λ f. of_operand r (λ r. of_operand xs (λ xs. of_operand c (λ c. of_operand ys (λ ys. Ok (Table (cell f) (cell r) (corners xs) (Some (cell c, corners ys)))))))))

-- with what stands behind the column's word: nothing, or the second input and the row
abbrev pub table_behind : Result ℕ AddressFault → Result ℕ AddressFault → Result Area AddressFault → List ℕ → Reading
table_behind f r xs more =
    if is_all_spaces more then table_of_one f r xs
    else at_end (after_word (after_word more)) (table_of_two f r xs (read_address (first_word more)) (read_rect (first_word (after_word more))))

-- ---- commands as they are read

-- a command of cells and rectangles of the sheet, where its own lie in it
abbrev pub placed : Command → Command
placed (Set force at text) = Set force (cell (address at)) text
placed (Clear force r) = Clear force (corners (area r))
placed (Fill force at r) = Fill force (cell (address at)) (corners (area r))
placed (Scenario name at text) = Scenario name (cell (address at)) text
placed (Show r) = Show (corners (area r))
placed (Export r) = Export (corners (area r))
placed (Compare p q r) = Compare p q (corners (area r))
placed (Table f r xs y) =
    Table (cell (address f)) (cell (address r)) (corners (area xs)) (option_map (λ v. (cell (address v.0), corners (area v.1))) y)
placed (Formula at) = Formula (cell (address at))
placed c = c

-- the command that was read
abbrev pub command_of : ReadCommand → Command
command_of (read.Set force at content) = Set force (cell at) content.now
command_of (read.Clear force area) = Clear force (corners area)
command_of (read.Fill force from area) = Fill force (cell from) (corners area)
command_of (read.Scenario name at content) = Scenario (bytes_of name) (cell at) content.now
command_of (read.Drop name) = Drop (bytes_of name)
command_of (read.Base name other) = Base (bytes_of name) (option_map bytes_of other)
command_of (read.Use name) = Use (option_map bytes_of name)
command_of (read.As name) = As (bytes_of name)
command_of (read.Show area) = Show (corners area)
command_of (read.Export area) = Export (corners area)
command_of read.Changes = Changes
command_of (read.Compare first second area) = Compare (option_map bytes_of first) (option_map bytes_of second) (corners area)
command_of (read.Table f r xs) = Table (cell f) (cell r) (corners xs) None
command_of (read.TableOfTwo f r xs c ys) = Table (cell f) (cell r) (corners xs) (Some (cell c, corners ys))
command_of (read.Formula at) = Formula (cell at)

-- the command is read so: its operands lie in the sheet, or whatever the state is it is refused
abbrev pub IsReadAs : Command → Reading → Type 0
IsReadAs c (Ok d) = (list_any lies_outside (form c) ≡ false) × (d ≡ placed c)
IsReadAs c (Err e) = (s : State) → IsStep s c (Err e)

-- this was read
abbrev pub IsReading : Reading → Result ReadCommand Refusal → Type 0
IsReading r (Ok d) = r ≡ Ok (command_of d)
IsReading r (Err e) = (r ≡ Err e) × (e ≢ Memory)

-- the command was read; or it is refused, not as out of memory
unfoldable pub IsRead : Command → Result ReadCommand Refusal → Type 0
IsRead c (Ok d) = IsReadAs c (Ok (command_of d))
IsRead c (Err e) = IsReadAs c (Err e) × (e ≢ Memory)

-- what was read stands for this, a name or maybe none, if there is one
abbrev pub IsNamed : {X Y : Type 0} → (X → Y) → Option Y → Result X Refusal → Type 0
IsNamed of o (Ok x) = o ≡ Some (of x)
IsNamed of o (Err e) = (o ≡ None) × (e ≡ BadCommand)
