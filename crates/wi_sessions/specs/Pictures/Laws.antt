-- Laws of change lists, as statements.
use Rattle.std.specs.Prelude.{◌≡◌, ℕ, ◌+◌, ◌<◌, ◌≤◌, Bool, false, not, List, [], ◌∷◌, map, filter}
use Rattle.std.specs.List.{range_with_len}
use Rattle.wi_values.specs.Address.{is_one_of}
use Rattle.wi_values.specs.declared.value.Value.{Value}
use Rattle.wi_sessions.specs.Pictures.{same_value, value_in, with_changes, sheet_size, changes_since}

-- the cells of the sheet, in row-major order
abbrev pub every_cell : List ℕ
every_cell = range_with_len 0 sheet_size

-- those of the cells whose value isn't the picture's, each with its value
abbrev pub changes_among : List ℕ → List (ℕ × Value) → (ℕ → Value) → List (ℕ × Value)
changes_among cells picture shown =
    map (λ a. (a, shown a)) (filter (λ a. not (same_value (value_in picture a) (shown a))) cells)

-- the cells rise, from one number on, and stay below another
abbrev pub Rises : ℕ → ℕ → List ℕ → Type 0
Rises low high [] = Unit {0}
Rises low high (a ∷ more) = (low ≤ a) × (a < high) × Rises (a + 1) high more

-- the cells are in row-major order, and of all others of the sheet the picture has the value
abbrev pub Suffice : List ℕ → List (ℕ × Value) → (ℕ → Value) → Type 0
Suffice cells picture shown =
    Rises 0 sheet_size cells × ((a : ℕ) → a < sheet_size → is_one_of cells a ≡ false → value_in picture a ≡ shown a)

-- so whichever such cells are looked at, what has changed is the same
abbrev pub AnyCells : Type 0
AnyCells = (cells : List ℕ) (picture : List (ℕ × Value)) (shown : ℕ → Value) → Suffice cells picture shown →
    changes_since picture shown ≡ changes_among cells picture shown

-- once what has changed is put in, the picture has the value of each cell of the sheet
abbrev pub PictureIsShown : Type 0
PictureIsShown = (picture : List (ℕ × Value)) (shown : ℕ → Value) (a : ℕ) → a < sheet_size →
    value_in (with_changes picture (changes_since picture shown)) a ≡ shown a
