-- Cells with a bit for each session for which they are pending or have room only. Bits of rooms are listed once more.
use Rattle.std.specs.Prelude.{◌≡◌, ◌≢◌, ◌<◌, ℕ, ◌==◌, ◌&&◌, ◌||◌, Bool, false, not, List, [], length, map, filter, unwrap_or, Result, OnOk, OnErr}
use Rattle.std.specs.declared.alloc.AllocError.{AllocError}
use Rattle.std.specs.Int.{bit_at}
use Rattle.std.specs.List.{list_any, range_with_len}
use Rattle.std.specs.Ordering.{nat_cmp}
use Rattle.std.specs.Map.{keys_of, lookup}
use Rattle.std.specs.BTreeMap.{is_at}
use Rattle.wi_sessions.specs.Pending.{AllPending, list_at}
use Rattle.wi_values.specs.Address.{is_one_of}

-- the i-th session's bit stands in a word
abbrev pub has_bit : ℕ → ℕ → Bool
has_bit i word = bit_at word i == 1

-- the bits of a cell
abbrev pub word_in : List (ℕ × ℕ) → ℕ → ℕ
word_in words c = unwrap_or (lookup (is_at (nat_cmp c)) words) 0

-- a cell is pending for the i-th session or has room only
abbrev pub is_in : List (ℕ × ℕ) → ℕ → ℕ → Bool
is_in words i c = has_bit i (word_in words c)

-- it has room only
abbrev pub is_staged : List (ℕ × ℕ) → ℕ → ℕ → Bool
is_staged staged i c = list_any (λ e. (e.0 == c) && has_bit i e.1) staged

-- all such cells
abbrev pub cells_with : List (ℕ × ℕ) → ℕ → List ℕ
cells_with words i = keys_of (filter (λ e. has_bit i e.1) words)

-- the cells that are pending for the i-th session
abbrev pub cells_in : List (ℕ × ℕ) → List (ℕ × ℕ) → ℕ → List ℕ
cells_in words staged i = filter (λ c. not (is_staged staged i c)) (cells_with words i)

-- those for which there is room only
abbrev pub vacant_in : List (ℕ × ℕ) → List (ℕ × ℕ) → ℕ → List ℕ
vacant_in words staged i = filter (λ c. is_staged staged i c) (cells_with words i)

-- both, of each of so many sessions
abbrev pub pending_in : List (ℕ × ℕ) → List (ℕ × ℕ) → ℕ → AllPending
pending_in words staged n = record {
  pending = map (cells_in words staged) (range_with_len 0 n);
  vacant = map (vacant_in words staged) (range_with_len 0 n);
}

-- what is pending in these words, and in those, is the same
abbrev pub SamePending : (words staged more rooms : List (ℕ × ℕ)) → Type 0
SamePending words staged more rooms =
    (i c : ℕ) → (is_in more i c && not (is_staged rooms i c)) ≡ (is_in words i c && not (is_staged staged i c))

-- Room was made for the cells and sessions that pass the test, where there was none and they weren't pending.
pub record HasMade (test : ℕ → ℕ → Bool) (words staged more rooms : List (ℕ × ℕ)) : Type 0 where
  pub put : (i c : ℕ) → is_in more i c ≡ (is_in words i c || test i c)
  pub made : (i c : ℕ) → is_staged rooms i c ≡ (is_staged staged i c || (test i c && not (is_in words i c)))

-- the cells and sessions that pass the test have no bit any more, all others have what they had
abbrev pub HasCleared : (test : ℕ → ℕ → Bool) (words less : List (ℕ × ℕ)) → Type 0
HasCleared test words less = (i c : ℕ) → is_in less i c ≡ (is_in words i c && not (test i c))

-- the i-th session's bit for one of the cells
abbrev pub at_cells : List ℕ → ℕ → ℕ → ℕ → Bool
at_cells cells bits i c = is_one_of cells c && has_bit i bits

-- Room was made for the cells that pass the test, for the sessions with a bit, or for a part of them where memory ran
-- out. What is pending is the same, and so is all for sessions without a bit.
pub record MakesRooms (test : ℕ → Bool) (bits : ℕ) (result : Result (Unit {0}) AllocError) (words staged more rooms : List (ℕ × ℕ)) : Type 0 where
  pub pending : SamePending words staged more rooms
  pub room : OnOk result (HasMade (λ i c. test c && has_bit i bits) words staged more rooms)
  pub others : (i c : ℕ) → has_bit i bits ≡ false → (is_in more i c ≡ is_in words i c) × (is_staged rooms i c ≡ is_staged staged i c)

-- Room was made for the i-th session: for each of the cells that isn't pending for it, beside the rooms that it had. If
-- memory runs out, it has no room at all. What is pending, and the rooms of the others, are the same.
pub record GetsRoom (cells : List ℕ) (i : ℕ) (result : Result (Unit {0}) AllocError) (old new : AllPending) : Type 0 where
  pub lists : new.pending ≡ old.pending
  pub room : OnOk result ((a : ℕ) → is_one_of (list_at new.vacant i) a ≡ (is_one_of (list_at old.vacant i) a || (is_one_of cells a && not (is_one_of (list_at old.pending i) a))))
  pub refused : OnErr result (list_at new.vacant i ≡ [])
  pub others : (j : ℕ) → j ≢ i → list_at new.vacant j ≡ list_at old.vacant j

-- Room was made for each session in this way. If memory runs out, none has room at all.
pub record GetRooms (cells : List ℕ) (result : Result (Unit {0}) AllocError) (old new : AllPending) : Type 0 where
  pub pending : new.pending ≡ old.pending
  pub room : OnOk result ((i a : ℕ) → i < length old.pending → is_one_of (list_at new.vacant i) a ≡ (is_one_of (list_at old.vacant i) a || (is_one_of cells a && not (is_one_of (list_at old.pending i) a))))
  pub refused : OnErr result ((j : ℕ) → list_at new.vacant j ≡ [])
