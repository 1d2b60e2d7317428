-- A rectangle's corners may stand in any order, and both may be one cell.
use Rattle.wi_values.proofs.Words.{◌≡◌, ℕ, min, max, true, nat_le, ◌&&◌, arith, nat_tests, Area, place, row_of, column_of, rect_of, is_within, CornersMayTurn}
use Rattle.wi_values.proofs.Within.{row_of_place, column_of_place}

turned : (a b : ℕ) → rect_of a b ≡ rect_of b a
turned a b =
    let rows_least : min (row_of a) (row_of b) ≡ min (row_of b) (row_of a) = omega arith in
    let columns_least : min (column_of a) (column_of b) ≡ min (column_of b) (column_of a) = omega arith in
    let rows_most : max (row_of a) (row_of b) ≡ max (row_of b) (row_of a) = omega arith in
    let columns_most : max (column_of a) (column_of b) ≡ max (column_of b) (column_of a) = omega arith in
    rw (rows_least, columns_least, rows_most, columns_most)

within : (r s c d : ℕ) → ((nat_le (min r s) r && nat_le r (max r s)) && (nat_le (min c d) c && nat_le c (max c d))) ≡ true
within r s c d =
    let a : nat_le (min r s) r ≡ true = grind (arith, nat_tests) in
    let b : nat_le r (max r s) ≡ true = grind (arith, nat_tests) in
    let e : nat_le (min c d) c ≡ true = grind (arith, nat_tests) in
    let f : nat_le c (max c d) ≡ true = grind (arith, nat_tests) in
    rw (a, b, e, f)

inside : (a b : ℕ) → is_within (rect_of a b) a ≡ true
inside a b =
    let r = row_of_place (min (row_of a) (row_of b)) (min (column_of a) (column_of b)) (omega arith) in
    let c = column_of_place (min (row_of a) (row_of b)) (min (column_of a) (column_of b)) (omega arith) in
    let r' = row_of_place (max (row_of a) (row_of b)) (max (column_of a) (column_of b)) (omega arith) in
    let c' = column_of_place (max (row_of a) (row_of b)) (max (column_of a) (column_of b)) (omega arith) in
    rw (r, c, r', c') (within (row_of a) (row_of b) (column_of a) (column_of b))

pub corners_may_turn : CornersMayTurn
corners_may_turn a b = (turned a b, inside a b)

-- both corners of a cell's rectangle are that cell
abbrev pub of_cell : ℕ → Area
of_cell a = record { first = a; last = a }

pub one_cell : (a : ℕ) → of_cell a ≡ rect_of a a
one_cell a =
    let first : place (min (row_of a) (row_of a)) (min (column_of a) (column_of a)) ≡ a = omega arith in
    let last : place (max (row_of a) (row_of a)) (max (column_of a) (column_of a)) ≡ a = omega arith in
    cc
