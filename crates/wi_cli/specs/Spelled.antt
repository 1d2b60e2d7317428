-- The words that spell the operands of commands, whether the sheet has the cells or not.
use Rattle.std.specs.Prelude.{◌≡◌, ◌≢◌, ◌+◌, ◌<◌, ◌≤◌, ◌∷◌, ◌++◌}
use Rattle.wi_cli.specs.Words.{List, [], length, Some, None, IsTrue, codes, list_all, is_ascii_alphabetic, all_ascii_digits, digits_value, letters_value, is_row_number, is_name, Cell, CornerCells, Operand, WORD, CONTENT, NAME, SESSION, ADDR, RECT, LINES, SIDE, ANY, Bytes, is_space, first_word, after_word}

-- ADDR is ASCII letters of either case and then digits, the first not `0`.
pub data IsAddr : Bytes → Cell → Type 0 where
  addr : (letters digits : Bytes) (c : Cell) → 0 < length letters → IsTrue (list_all is_ascii_alphabetic letters) → IsTrue (is_row_number digits)
      → letters_value letters ≡ c.column + 1 → digits_value 10 digits ≡ c.row + 1 → IsAddr (letters ++ digits) c

-- RECT is ADDR or `ADDR:ADDR`, corners in any order.
pub data IsRect : Bytes → CornerCells → Type 0 where
  a_cell : (word : Bytes) (c : Cell) → IsAddr word c → IsRect word (c, c)
  two_cells : (v w : Bytes) (c d : Cell) → IsAddr v c → IsAddr w d → IsRect (v ++ codes ":" ++ w) (c, d)

module _ (word : Bytes) where
  abbrev pub IsSpelled : Operand → Type 0
  IsSpelled (WORD w) = word ≡ w
  IsSpelled (ADDR c) = IsAddr word c
  IsSpelled (RECT r) = IsRect word r
  IsSpelled (NAME name) = (word ≡ name) × IsTrue (is_name name)
  IsSpelled (SESSION name) = (word ≡ name) × IsTrue (is_name name)
  IsSpelled (SIDE (Some name)) = (word ≡ name) × IsTrue (is_name name)
  IsSpelled (SIDE None) = word ≡ codes "-"
  IsSpelled (ANY (Some c)) = IsAddr word c
  IsSpelled (ANY None) = (word ≢ []) × ((c : Cell) → IsAddr word c → ⊥)
  IsSpelled (LINES n) =
      (word ≢ []) × (length word ≤ 7) × IsTrue (all_ascii_digits word) × (digits_value 10 word ≡ n) × (n ≤ 1000000)
  IsSpelled (CONTENT text) = ⊥

-- Each operand is spelled by a word, spaces before, between and behind. CONTENT is everything after the one space that
-- follows the word before it.
abbrev pub IsWritten : Bytes → List Operand → Type 0
IsWritten text [] = IsTrue (list_all is_space text)
IsWritten text (CONTENT content ∷ os) = (text ≡ content) × (os ≡ [])
IsWritten text (o ∷ os) = IsSpelled (first_word text) o × IsWritten (after_word text) os
