-- Which cells are in rectangles, one and many.
use Rattle.wi_edit_log.proofs.Words.{◌≡◌, ◌∙◌, ℕ, ◌+◌, ◌≤◌, ◌<◌, ◌||◌, ◌&&◌, List, [], length, take, get_or, Option, None, Bool, true, false, max, subst, refl, ap, sym, arith, and-false, and_comm, and-or_distrib_left, and-or_distrib_right, then_some, and_parts, and_from, both_ways, le-leb, take_all, list_any_more, Area, columns, place, row_of, column_of, is_within, row_of_place, column_of_place, column_within, within_parts, is_within_one, IsFirst, in_both, in_each, in_one, sooner, le_trans, max_at_most}
use Rattle.std.proofs.Common.{nat_le}
use Rattle.wi_edit_log.proofs.First.{no_first, same_first, sooner_first}

-- ---- one and some of the others

pub in_none : (r : Area) → IsFirst (in_one r []) None
in_none r = no_first (in_one r []) (λ a. and-false (is_within r a))

pub one_more_of : (areas : List Area) (i : ℕ) (s : Area) → i < length areas → s ≡ get_or areas i s → (a : ℕ) → is_within_one (take (i + 1) areas) a ≡ (is_within_one (take i areas) a || is_within s a)
one_more_of areas i s l at a = list_any_more (λ t. is_within t a) areas i s l ∙ ap (λ t. is_within_one (take i areas) a || is_within t a) (sym at)

-- one more of the others
pub in_one_more : (r : Area) (areas : List Area) (i : ℕ) (s : Area) (o p q : Option ℕ) → i < length areas → s ≡ get_or areas i s → q ≡ sooner o p
    → IsFirst (in_one r (take i areas)) o → IsFirst (in_both r s) p → IsFirst (in_one r (take (i + 1) areas)) q
in_one_more r areas i s o p q l at e h k =
    let more : (a : ℕ) → in_one r (take (i + 1) areas) a ≡ (in_one r (take i areas) a || in_both r s a) =
    λ a. ap (λ b. is_within r a && b) (one_more_of areas i s l at a)
    ∙ and-or_distrib_left (is_within r a) (is_within_one (take i areas) a) (is_within s a) in
    rw e (sooner_first (in_one r (take i areas)) (in_both r s) (in_one r (take (i + 1) areas)) o p more h k)

-- all of the others
pub in_one_all : (r : Area) (areas : List Area) (i : ℕ) (o : Option ℕ) → length areas ≤ i → IsFirst (in_one r (take i areas)) o → IsFirst (in_one r areas) o
in_one_all r areas i o l h = rw (take_all i areas l) at h

-- ---- some of a list, and any test

module _ (test : ℕ → Bool) where
  pub of_none : IsFirst (λ a. is_within_one [] a && test a) None
  of_none = no_first (λ a. is_within_one [] a && test a) (λ a. refl)

  -- one more of the list
  pub of_one_more : (areas : List Area) (i : ℕ) (s : Area) (o p q : Option ℕ) → i < length areas → s ≡ get_or areas i s → q ≡ sooner o p
      → IsFirst (λ a. is_within_one (take i areas) a && test a) o → IsFirst (λ a. is_within s a && test a) p → IsFirst (λ a. is_within_one (take (i + 1) areas) a && test a) q
  of_one_more areas i s o p q l at e h k =
      let more : (a : ℕ) → (is_within_one (take (i + 1) areas) a && test a) ≡ ((is_within_one (take i areas) a && test a) || (is_within s a && test a)) =
      λ a. ap (λ b. b && test a) (one_more_of areas i s l at a) ∙ and-or_distrib_right (is_within_one (take i areas) a) (is_within s a) (test a) in
      rw e (sooner_first (λ a. is_within_one (take i areas) a && test a) (λ a. is_within s a && test a) (λ a. is_within_one (take (i + 1) areas) a && test a) o p more h k)

  -- all of the list
  pub of_all : (areas : List Area) (i : ℕ) (o : Option ℕ) → length areas ≤ i → IsFirst (λ a. is_within_one (take i areas) a && test a) o → IsFirst (λ a. is_within_one areas a && test a) o
  of_all areas i o l h = rw (take_all i areas l) at h

-- the lists may be turned
pub turned : (areas others : List Area) (o : Option ℕ) → IsFirst (in_each areas others) o → IsFirst (in_each others areas) o
turned areas others o = same_first (in_each areas others) (in_each others areas) o (λ a. and_comm (is_within_one areas a) (is_within_one others a))

-- ---- two rectangles: their first cell is at the later of their first rows and of their first columns

within_at : (r : Area) (a row column : ℕ) → row_of a ≡ row → column_of a ≡ column → row_of r.first ≤ row → row ≤ row_of r.last → column_of r.first ≤ column → column ≤ column_of r.last → is_within r a ≡ true
within_at r a row column e f l m n o =
    rw (e, f) (and_from (nat_le (row_of r.first) row && nat_le row (row_of r.last)) (nat_le (column_of r.first) column && nat_le column (column_of r.last))
    (and_from (nat_le (row_of r.first) row) (nat_le row (row_of r.last)) (le-leb (row_of r.first) row l) (le-leb row (row_of r.last) m))
    (and_from (nat_le (column_of r.first) column) (nat_le column (column_of r.last)) (le-leb (column_of r.first) column n) (le-leb column (column_of r.last) o)))

no_sooner : (row column a : ℕ) → row ≤ row_of a → column ≤ column_of a → place row column ≤ a
no_sooner row column a l m = omega arith

from_left : (k l m : ℕ) → k ≡ max l m → l ≤ k
from_left k l m e = omega arith

from_right : (k l m : ℕ) → k ≡ max l m → m ≤ k
from_right k l m e = omega arith

corner_shared : (r s : Area) (row column a : ℕ) → row ≡ max (row_of r.first) (row_of s.first) → column ≡ max (column_of r.first) (column_of s.first) → in_both r s a ≡ true
    → (place row column ≤ a) × (in_both r s (place row column) ≡ true)
corner_shared r s row column a e f h =
    let both = and_parts (is_within r a) (is_within s a) h in
    let p = within_parts r a both.0 in
    let q = within_parts s a both.1 in
    let above = max_at_most row (row_of r.first) (row_of s.first) (row_of a) e p.0 q.0 in
    let left = max_at_most column (column_of r.first) (column_of s.first) (column_of a) f p.2 q.2 in
    let inside : column < columns = (let w = column_within a in omega arith) in
    let at_row = row_of_place row column inside in
    let at_column = column_of_place row column inside in (
      no_sooner row column a above left,
      and_from (is_within r (place row column)) (is_within s (place row column))
          (within_at r (place row column) row column at_row at_column (from_left row _ _ e) (le_trans above p.1) (from_left column _ _ f) (le_trans left p.3))
          (within_at s (place row column) row column at_row at_column (from_right row _ _ e) (le_trans above q.1) (from_right column _ _ f) (le_trans left q.3)),
    )

pub first_shared : (r s : Area) (row column at : ℕ) (shared : Bool) (found : Option ℕ) → row ≡ max (row_of r.first) (row_of s.first) → column ≡ max (column_of r.first) (column_of s.first)
    → at ≡ place row column → shared ≡ in_both r s at → found ≡ then_some shared at → IsFirst (in_both r s) found
first_shared r s row column at shared found e f here is gives =
    let by_notes = gives ∙ ap (λ b. then_some b at) is ∙ ap (λ a. then_some (in_both r s a) a) here in
    subst (IsFirst (in_both r s)) (sym by_notes) (by (in_both r s (place row column)) refl)
  where
    by : (b : Bool) → in_both r s (place row column) ≡ b → IsFirst (in_both r s) (then_some b (place row column))
    by true t = record { passes = t; least = λ a h. (corner_shared r s row column a e f h).0 }
    by false t = record { passes = tt; least = λ a h. both_ways (in_both r s (place row column)) t (corner_shared r s row column a e f h).1 }
