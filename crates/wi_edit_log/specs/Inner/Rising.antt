-- Rectangles of which each lies below the one before.
use Rattle.std.specs.Prelude.{ℕ, ◌+◌, Bool, true, ◌&&◌, nat_le, List, [], ◌∷◌}
use Rattle.wi_values.specs.Address.{Area, row_of}

-- the rectangle begins at the row n or below, and ends no earlier than it begins
abbrev pub begins_from : ℕ → Area → Bool
begins_from n r = nat_le n (row_of r.first) && nat_le (row_of r.first) (row_of r.last)

-- each rectangle begins at the row n or below, and below those before it
abbrev pub rise_from : ℕ → List Area → Bool
rise_from n [] = true
rise_from n (r ∷ rs) = begins_from n r && rise_from (row_of r.last + 1) rs

abbrev pub are_rising : List Area → Bool
are_rising rs = rise_from 0 rs
