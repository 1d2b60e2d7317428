-- The first content of a rectangle.
use Rattle.wi_store.proofs.Words.{◌≡◌, ℕ, Bool, true, false, ◌&&◌, cond, List, [], ◌∷◌, filter, Option, Some, None, refl, sym, ap, ◌∙◌, nat_le, unwrap_or, find, keys_of, and-false, and-true, Area, is_within, Sheet, content_of, Content, is_ahead, Rooms, sheet_in, room_of, RoomsAreInOrder, AreBetweenEdits}
use Rattle.wi_store.proofs.RoomLemmas.{Ascends-from_order, keys-sheet_in, content_of-sheet_in}

-- one test after another
pub find_ahead : (r : Area) (from : ℕ) (xs : List ℕ) → find (is_ahead r (Some from)) xs ≡ find (λ a. nat_le from a) (filter (is_within r) xs)
find_ahead r from [] = refl
find_ahead r from (x ∷ xs) = at (is_within r x) refl (find_ahead r from xs)
  where
    at : (b : Bool) → is_within r x ≡ b → find (is_ahead r (Some from)) xs ≡ find (λ a. nat_le from a) (filter (is_within r) xs) →
        cond (nat_le from x && is_within r x) (Some x) (find (is_ahead r (Some from)) xs) ≡ find (λ a. nat_le from a) (cond b (x ∷ filter (is_within r) xs) (filter (is_within r) xs))
    at true h ih =
        ap (λ (b : Bool). cond (nat_le from x && b) (Some x) (find (is_ahead r (Some from)) xs)) h
        ∙ ap (λ (b : Bool). cond b (Some x) (find (is_ahead r (Some from)) xs)) (and-true (nat_le from x))
        ∙ ap (λ (o : Option ℕ). cond (nat_le from x) (Some x) o) ih
    at false h ih =
        ap (λ (b : Bool). cond (nat_le from x && b) (Some x) (find (is_ahead r (Some from)) xs)) h
        ∙ ap (λ (b : Bool). cond b (Some x) (find (is_ahead r (Some from)) xs)) (and-false (nat_le from x))
        ∙ ih

-- the first cell of a rectangle that has a room is the first that has a content
pub sought_in : (r : Area) (from : ℕ) (rooms : Rooms) (s : Sheet) (o : Option ℕ) → AreBetweenEdits None rooms → sheet_in rooms ≡ s
    → o ≡ find (λ a. nat_le from a) (filter (is_within r) (keys_of rooms)) → o ≡ find (λ a. nat_le from a) (filter (is_within r) (keys_of s))
sought_in r from rooms s o b e f =
    f ∙ ap (λ (cells : List ℕ). find (λ a. nat_le from a) (filter (is_within r) cells)) (sym (keys-sheet_in rooms (Ascends-from_order rooms b.order) b.full) ∙ ap (λ (t : Sheet). keys_of t) e)

-- its room tells what stands there
pub stands_in : (rooms : Rooms) (s : Sheet) (c : ℕ) (x : Content) → RoomsAreInOrder rooms → sheet_in rooms ≡ s → room_of rooms c ≡ Some (Some x) → content_of s c ≡ Some x
stands_in rooms s c x order e h = ap (λ (t : Sheet). content_of t c) (sym e) ∙ content_of-sheet_in c rooms (Ascends-from_order rooms order) ∙ ap (λ (o : Option (Option Content)). unwrap_or o None) h
