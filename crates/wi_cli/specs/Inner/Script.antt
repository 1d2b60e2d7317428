-- The commands that lines spell: blocks of a line and the data lines that it takes.
use Rattle.std.specs.Prelude.{if◌then◌else◌, ◌&&◌, ◌++◌, ◌-◌, ◌==◌, ◌||◌, ◌∷◌}
use Rattle.wi_cli.specs.Words.{Bool, Command, Csv, List, None, Option, Some, Unreadable, [], after_word, all_ascii_digits, byte, bytes_eq, codes, digits_value, false, first_word, is_utf8, length, max_line, nat_le, nat_lt, not, true, without_cr, without_lf, ℕ}
use Rattle.wi_cli.specs.Inner.Operands.{is_all_spaces, spelled_cell}
use Rattle.wi_cli.specs.Inner.Forms.{spelled_command}

-- ---- a line that asks for data lines

-- whether it is forced, the word that stands for ADDR, and how many data lines it asks for
pub record CsvLine : Type 0 where
  pub force : Bool
  pub address : List ℕ
  pub lines : ℕ

-- LINES: 1 to 7 digits, and at most 1,000,000
abbrev pub read_lines : List ℕ → Option ℕ
read_lines word =
    if ((nat_lt 0 (length word) && nat_le (length word) 7) && all_ascii_digits word) && nat_le (digits_value 10 word) 1000000
    then Some (digits_value 10 word) else None

abbrev pub csv_of : Bool → List ℕ → Option ℕ → Option CsvLine
csv_of force address None = None
csv_of force address (Some lines) = Some (record { force = force; address = address; lines = lines })

-- `ADDR LINES`, whatever stands for ADDR
abbrev pub csv_operands : Bool → List ℕ → Option CsvLine
csv_operands force operands =
    if is_all_spaces (after_word (after_word operands)) then csv_of force (first_word operands) (read_lines (first_word (after_word operands))) else None

-- an edit of this name, where it is `csv`
abbrev pub csv_named : Bool → List ℕ → List ℕ → Option CsvLine
csv_named force name operands = if bytes_eq name (codes "csv") then csv_operands force operands else None

-- an edit of this name, where it is `csv`, or where it is `force` and `csv` comes behind it
abbrev pub csv_by_name : List ℕ → List ℕ → Option CsvLine
csv_by_name name operands =
    if bytes_eq name (codes "force") then csv_named true (first_word operands) (after_word operands) else csv_named false name operands

-- what a text asks for
abbrev pub csv_text : List ℕ → Option CsvLine
csv_text text = csv_by_name (first_word text) (after_word text)

-- a line without its LF, also where it isn't UTF-8; one that is too long asks for none
unfoldable pub csv_line : List ℕ → Option CsvLine
csv_line content = if nat_lt max_line (length content) then None else csv_text (without_cr content)

-- a data line that is too long, a CR counted
abbrev pub is_long : List ℕ → Bool
is_long line = nat_lt max_line (length (without_lf line))

-- ---- the blocks of a script: a line, and the data lines that it takes

-- each line with its LF; and how many data lines are missing
pub record Block : Type 0 where
  pub line : List ℕ
  pub data_lines : List (List ℕ)
  pub missing : ℕ

abbrev pub lines_of : Option CsvLine → ℕ
lines_of None = 0
lines_of (Some csv) = csv.lines

-- how many data lines a line asks for
abbrev pub asked : List ℕ → ℕ
asked line = lines_of (csv_line (without_lf line))

-- the block that a line begins
abbrev pub begun : List ℕ → Block
begun line = record { line = line; data_lines = []; missing = asked line }

-- a block with one data line more
abbrev pub with_data : Block → List ℕ → Block
with_data b l = record { line = b.line; data_lines = b.data_lines ++ l ∷ []; missing = b.missing - 1 }

-- no data line is missing
abbrev pub is_complete : Block → Bool
is_complete b = b.missing == 0

-- the blocks of lines, where the first of them belong to a block that was begun
abbrev pub blocks_from : Block → List (List ℕ) → List Block
blocks_from b [] = b ∷ []
blocks_from b (l ∷ ls) = if is_complete b then b ∷ blocks_from (begun l) ls else blocks_from (with_data b l) ls

abbrev pub blocks : List (List ℕ) → List Block
blocks [] = []
blocks (l ∷ ls) = blocks_from (begun l) ls

-- ---- the commands of lines

abbrev pub is_comment : List ℕ → Bool
is_comment [] = false
is_comment (b ∷ bs) = b == byte "#"

-- the command of a text that is a good line, or nothing where it is passed over
abbrev pub text_command : List ℕ → Option Command
text_command text = if is_all_spaces text || is_comment text then None else Some (spelled_command text)

-- The command of a line without its LF. It is refused where it is too long, a CR counted, or not UTF-8, also where it
-- would be passed over.
unfoldable pub line_command : List ℕ → Option Command
line_command content =
    if nat_lt max_line (length content) || not (is_utf8 (without_cr content)) then Some Unreadable
    else text_command (without_cr content)

abbrev pub command_with : Option CsvLine → Block → Option Command
command_with None b = line_command (without_lf b.line)
command_with (Some csv) b =
    Some (if is_utf8 (without_cr (without_lf b.line)) then Csv csv.force (spelled_cell csv.address) csv.lines b.data_lines else Unreadable)

-- The command of a line with its data lines. One that asks for data lines is refused where it is not UTF-8.
abbrev pub block_command : Block → Option Command
block_command b = command_with (csv_line (without_lf b.line)) b
