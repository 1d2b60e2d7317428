-- Where the fields of two records go, the first for the cell C5.
use Rattle.std.specs.Prelude.{◌≡◌, ℕ, List, [], ◌∷◌, codes, refl}
use Rattle.wi_import.proofs.Words.{Field, fields_from}

-- `a` and an empty field, and below them `=1+1` alone
abbrev two_records : List (List (List ℕ))
two_records = (codes "a" ∷ [] ∷ []) ∷ (codes "=1+1" ∷ []) ∷ []

abbrev field : ℕ → ℕ → List ℕ → Field
field row column bytes = record { row = row; column = column; bytes = bytes }

row_by_row : fields_from 4 2 two_records ≡ field 4 2 (codes "a") ∷ field 4 3 [] ∷ field 5 2 (codes "=1+1") ∷ []
row_by_row = refl
