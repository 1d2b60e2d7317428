-- Where the cells stand that are pending for a session or have room only.
use Rattle.std.specs.Prelude.{◌≡◌, ℕ, ◌<◌, ◌≤◌, ◌||◌, Bool, true, false, List, length, drop}
use Rattle.std.specs.List.{slice_index_or}
use Rattle.std.specs.Ordering.{nat_cmp}
use Rattle.std.specs.Map.{keys_of}
use Rattle.std.specs.List.Sorted.{IsStrictlySortedBy}
use Rattle.wi_values.specs.Address.{is_one_of}
use Rattle.wi_sessions.specs.declared.unread.Unread.{Unread}
use Rattle.wi_sessions.specs.Inner.Cells.{is_in, is_staged}

-- a cell is looked at: behind a place of the list of changed cells, or in a list of the session's own; or each is
abbrev pub is_unread : List ℕ → Unread → ℕ → Bool
is_unread changed u c = u.anywhere || (is_one_of (drop u.from changed) c || is_one_of u.own.items c)

-- The place lies in the list, and each cell with the i-th session's bit is looked at.
pub record HasPlace (words : List (ℕ × ℕ)) (changed : List ℕ) (i : ℕ) (u : Unread) : Type 0 where
  pub within : u.from ≤ length changed
  pub found : (c : ℕ) → is_in words i c ≡ true → is_unread changed u c ≡ true

abbrev pub HavePlaces : List (ℕ × ℕ) → List ℕ → List Unread → Type 0
HavePlaces words changed unread =
    (i : ℕ) (d : Unread) → i < length unread → HasPlace words changed i (slice_index_or unread i d)

-- each session looks at these cells
abbrev pub AreLookedAt : (cells changed : List ℕ) → List Unread → Type 0
AreLookedAt cells changed unread =
    (i c : ℕ) (d : Unread) → i < length unread → is_one_of cells c ≡ true → is_unread changed (slice_index_or unread i d) c ≡ true

-- The cells are in order; there are no more sessions than bits; no other bit stands in a word; and each session has its
-- place.
pub record AreKept (words staged : List (ℕ × ℕ)) (changed : List ℕ) (unread : List Unread) : Type 0 where
  pub order : IsStrictlySortedBy nat_cmp (keys_of words)
  pub few : length unread ≤ 64
  pub none : (i c : ℕ) → length unread ≤ i → is_in words i c ≡ false
  pub bare : (i c : ℕ) → length unread ≤ i → is_staged staged i c ≡ false
  pub places : HavePlaces words changed unread
