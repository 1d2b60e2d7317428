-- The records of the code, as their bytes, and what stands for one of them.
use Rattle.std.specs.Prelude.{ℕ, ◌+◌, Bool, ◌||◌, List, [], ◌∷◌, length, map, Option, Some, None, Vec}
use Rattle.std.specs.declared.alloc.Global.{Global}
use Rattle.wi_values.specs.Address.{Area, place}
use Rattle.wi_import.specs.Fields.{Field}
use Rattle.wi_import.specs.Inner.Reading.{is_bad, is_too_long, is_outside}

abbrev pub bytes_of : List (Vec ℕ Global) → List (List ℕ)
bytes_of fields = map (λ f. f.items) fields

-- the cells of a record, a part of its row from a column on, where it has fields
abbrev pub area_of_record : ℕ → ℕ → List (List ℕ) → Option Area
area_of_record row column [] = None
area_of_record row column (field ∷ others) = Some (record { first = place row column; last = place row (column + length others) })

abbrev pub all_bytes : List (Vec (Vec ℕ Global) Global) → List (List (List ℕ))
all_bytes records = map (λ fields. bytes_of fields.items) records

-- a field has a fault of some kind
abbrev pub is_faulty : Field → Bool
is_faulty f = is_bad f.bytes || (is_too_long f.bytes || is_outside f)
