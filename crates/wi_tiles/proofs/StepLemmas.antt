-- A step of a walk.
use Rattle.wi_tiles.proofs.Words.{◌≡◌, ℕ, ◌+◌, ◌<◌, List, ◌∷◌, Option, Some, None, ◌∙◌, true, arith, Bool, IsSome, IfSome, MatchOption, Bor, bit_at, w64, trailing_zeros, ◌≢◌, Area, place, Pages, Band, is_ahead, entries_of, slot, cell_in, is_pending, filled, CountsFirst, IsFirstLeft, IsTurn, IsWalk}
use Rattle.wi_tiles.proofs.Counts.{counts_next, whole_next, filled_small, filled_below}
use Rattle.wi_tiles.proofs.Firsts.{first_bit, first_value}
use Rattle.wi_tiles.proofs.WalkLemmas.{passing, takes_left, rest_left, turned}

-- what a walk tells of its tile
module _ {V : Type 0} (w : Pages V) (r : Area) (corner left before : ℕ) (whole : Bool) (row column : ℕ) (tiles : Option (Bor (Band V))) (n : ℕ) where
  pub walk_there : (tile : Option (Bor (List (Option V)))) → IsWalk w r tile corner left before whole row column tiles n → IfSome tile (λ t. (i : ℕ) → i < 64 → bit_at left i ≡ 1 → IsSome (slot t.now i))
  walk_there None walk = tt
  walk_there (Some t) walk = walk.rest.there

  pub walk_counts : (tile : Option (Bor (List (Option V)))) → IsWalk w r tile corner left before whole row column tiles n → IfSome tile (λ t. whole ≡ true → CountsFirst t.now left before)
  walk_counts None walk = tt
  walk_counts (Some t) walk = λ all. (walk.counted all).0

  -- the first of the bits that are left goes
  module _ (b m after : ℕ) (v : V) (cleared : bit_at after b ≡ 0) (others : (i : ℕ) → i < 64 → i ≢ b → bit_at after i ≡ bit_at left i) where
    pub step_left : (tile : Option (Bor (List (Option V)))) → IsWalk w r tile corner left before whole row column tiles n → MatchOption tile ⊥ (λ t. IsFirstLeft t.now left b m v) → passing (is_pending r (place row column) corner left) (entries_of w) ≡ (cell_in corner b, v) ∷ passing (is_pending r (place row column) corner after) (entries_of w)
    step_left None walk found = absurd found
    step_left (Some t) walk found = takes_left w r (place row column) corner left after b m t.now v walk.rest found cleared others

    pub walk_left : (tile : Option (Bor (List (Option V)))) → IsWalk w r tile corner left before whole row column tiles n → MatchOption tile ⊥ (λ t. IsFirstLeft t.now left b m v) → IsWalk w r tile corner after (m + 1) whole row column tiles n
    walk_left None walk found = absurd found
    walk_left (Some t) walk found = record {
      counted = λ all.
          let so = (walk.counted all).1 in
          (counts_next t.now left after b m v found cleared others so, whole_next t.now left after b m v found cleared others so);
      rest = rest_left w r (place row column) corner left after b m t.now v walk.rest found cleared others;
      nothing = tt;
      goes = walk.goes;
      band = walk.band;
    }

  -- the first of the bits of the next tile goes
  module _ (b after : ℕ) (v : V) (cleared : bit_at after b ≡ 0) (others : (i : ℕ) → i < 64 → i ≢ b → bit_at after i ≡ bit_at left i) where
    pub step_turned : (from : ℕ) (t : List (Option V)) → IsTurn w r from t corner left before whole row column tiles n → IsFirstLeft t left b before v → passing (is_ahead r from) (entries_of w) ≡ (cell_in corner b, v) ∷ passing (is_pending r (place row column) corner after) (entries_of w)
    step_turned from t turn found = turned w r from t corner left before whole row column tiles n turn ∙ takes_left w r (place row column) corner left after b before t v turn.rest found cleared others

    pub walk_turned : (from : ℕ) (t : Bor (List (Option V))) → IsTurn w r from t.now corner left before whole row column tiles n → IsFirstLeft t.now left b before v → IsWalk w r (Some t) corner after (before + 1) whole row column tiles n
    walk_turned from t turn found = record {
      counted = λ all. (counts_next t.now left after b before v found cleared others (turn.follow all), whole_next t.now left after b before v found cleared others (turn.follow all));
      rest = rest_left w r (place row column) corner left after b before t.now v turn.rest found cleared others;
      nothing = tt;
      goes = turn.goes;
      band = turn.band;
    }

  -- what the next tile gives
  module _ (from : ℕ) (t : List (Option V)) (turn : IsTurn w r from t corner left before whole row column tiles n) where
    first : (trailing_zeros w64 left < 64) × (bit_at left (trailing_zeros w64 left) ≡ 1) × ((i : ℕ) → i < trailing_zeros w64 left → bit_at left i ≡ 0)
    first = first_bit left turn.some turn.small

    there : IsSome (slot t (trailing_zeros w64 left))
    there = turn.rest.there (trailing_zeros w64 left) first.0 first.1

    count : filled t (trailing_zeros w64 left) ≡ before
    count = turn.counts (trailing_zeros w64 left) first.0 first.1 first.2

    pub turn_within : trailing_zeros w64 left < 64
    turn_within = first.0

    pub turn_place : before < filled t 64
    turn_place = omega (arith, count, filled_below t (trailing_zeros w64 left) first.0 there)

    pub turn_few : before < 64
    turn_few = omega (arith, count, filled_small t (trailing_zeros w64 left), first.0)

    pub turn_value : (v : V) → ((i : ℕ) → i < 64 → IsSome (slot t i) → filled t i ≡ before → slot t i ≡ Some v) → IsFirstLeft t left (trailing_zeros w64 left) before v
    turn_value v read = first_value t left before v turn.some turn.small count (read (trailing_zeros w64 left) first.0 there count)
