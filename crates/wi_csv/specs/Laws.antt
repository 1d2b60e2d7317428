-- What is written is read again.
use Rattle.std.specs.Prelude.{◌≡◌, ◌≢◌, ℕ, List, [], All}
use Rattle.std.specs.List.{flat_map}
use Rattle.wi_csv.specs.Records.{recs}
use Rattle.wi_csv.specs.Row.{row}

-- records of one field or more, written one after another, are the records of that text
abbrev pub ReadAgain : Type 0
ReadAgain = (rows : List (List (List ℕ))) → All (λ fields. fields ≢ []) rows → recs (flat_map row rows) ≡ rows
