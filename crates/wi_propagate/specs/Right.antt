-- What is so of the values that are kept.
use Rattle.std.specs.Prelude.{◌≡◌, ◌≤◌, ℕ, false, List, IfSome}
use Rattle.wi_values.specs.declared.value.Value.{Value}
use Rattle.wi_values.specs.declared.replacement.Replacement.{Replacement}
use Rattle.wi_values.specs.Replacements.{last_for}
use Rattle.wi_parser.specs.Sheet.{Sheet, put_all}
use Rattle.wi_cache.specs.declared.key.Key.{Key}
use Rattle.wi_cache.specs.Entries.{Entries, value_for}
use Rattle.wi_graph.specs.Circular.{circular}
use Rattle.wi_graph.specs.Reach.{Reaches}
use Rattle.wi_sheet.specs.CellValue.{cell_value}
use Rattle.wi_propagate.specs.KeptSheet.{KeptSheet, generation_in}

-- both lists of replacements say the same of each cell that c reaches, replaced and not replaced alike
abbrev pub SayTheSameFrom : Sheet → ℕ → List Replacement → List Replacement → Type 0
SayTheSameFrom s c p w = (d : ℕ) → Reaches s c d → last_for p d ≡ last_for w d

-- The cell is not circular, and v is its value under each list of replacements that says the same as w of what it
-- reaches.
pub record IsRight (s : Sheet) (c : ℕ) (w : List Replacement) (v : Value) : Type 0 where
  pub open_cell : circular s c ≡ false
  pub holds : (p : List Replacement) → SayTheSameFrom s c p w → cell_value (put_all s p) c ≡ v

-- A value is kept for a key of no later edit than the last; where its generation is the cell's present one, the value
-- is right.
pub record IsKeptFor (s : Sheet) (edits : ℕ) (generation : ℕ → ℕ) (k : Key) (v : Value) : Type 0 where
  pub past : k.generation ≤ edits
  pub right : k.generation ≡ generation k.cell → IsRight s k.cell k.world v

abbrev pub AreRight : Sheet → ℕ → (ℕ → ℕ) → Entries → Type 0
AreRight s edits generation es = (k : Key) → IfSome (value_for es k) (IsKeptFor s edits generation k)

-- generations are of edits that were accepted, there is room for a value, and each value of a present generation is
-- right
pub record AreKeptRight (k : KeptSheet) : Type 0 where
  pub space : 1 ≤ k.values.capacity
  pub past : (c : ℕ) → generation_in k.generations c ≤ k.stored.edits
  pub right : AreRight k.stored.sheet k.stored.edits (generation_in k.generations) k.values.entries
