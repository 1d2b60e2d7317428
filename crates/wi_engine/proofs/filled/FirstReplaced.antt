-- The first of replacements in order that lies in a rectangle.
use Rattle.wi_engine.proofs.Words.{◌≡◌, ℕ, zero, suc, ◌<◌, ◌≤◌, Bool, true, false, cond, List, [], ◌∷◌, drop, length, get_or, map, Option, Some, None, IfSome, refl, sym, ap, ◌∙◌, subst, arith, nat_le, nat_lt, find, IsPartitionPoint, IsNonDecreasingBy, keys_of, Bor, nat_cmp, is_at, false_from_ne_true, leb-true, le-leb, ltb-true, ltb-false, drop-cons, sorted_from_strictly_increasing, below_from_sorted, length-map, get_or-map, Area, is_within, Value, Replacement, IsInOrder, as_map, replaced, ComeAfter, Ascends, Ascends-from_order, order-from_Ascends, at_same, at_itself, lookup_after, sorted_from_order, order_from_sorted, within_between, is_ahead}

-- ---- those from a place on are in order

drop_ascends : (i : ℕ) (rs : List Replacement) → Ascends (as_map rs) → Ascends (as_map (drop i rs))
drop_ascends zero rs h = h
drop_ascends (suc i) [] h = h
drop_ascends (suc i) (r ∷ rs) h = drop_ascends i rs h.1

pub ascends : (rs : List Replacement) → IsInOrder rs → Ascends (as_map rs)
ascends rs h = Ascends-from_order (as_map rs) (sorted_from_order rs h)

pub drop_in_order : (i : ℕ) (rs : List Replacement) → IsInOrder rs → IsInOrder (drop i rs)
drop_in_order i rs h = order_from_sorted (drop i rs) (order-from_Ascends (as_map (drop i rs)) (drop_ascends i rs (ascends rs h)))

pub addresses_rise : (rs : List Replacement) → IsInOrder rs → IsNonDecreasingBy (λ r. r.at) rs
addresses_rise rs order i j d l m = at_or_before (nat_lt i j) refl
  where
    below : i < j → (get_or rs i d).at ≤ (get_or rs j d).at
    below k =
        let at = λ (r : Replacement). r.at in
        let long : length (map at rs) ≡ length rs = length-map rs at in
        let less = below_from_sorted (map at rs) i j 0 (sorted_from_strictly_increasing (map at rs) order) k (omega (arith, long, m)) in
        let first = get_or-map at rs i d 0 (omega (arith, l, m)) in
        let second = get_or-map at rs j d 0 m in
        omega (arith, less, first, second)

    at_or_before : (b : Bool) → nat_lt i j ≡ b → (get_or rs i d).at ≤ (get_or rs j d).at
    at_or_before true e = below (ltb-true i j e)
    at_or_before false e =
        let same : i ≡ j = let high = ltb-false i j e in omega (arith, l, high) in
        let size : (get_or rs i d).at ≡ (get_or rs j d).at = ap (λ (k : ℕ). (get_or rs k d).at) same in
        omega (arith, size)

-- ---- those before a cell are passed over

all_ahead : (r : Area) (from : ℕ) (rs : List Replacement) → ((k : ℕ) (d : Replacement) → k < length rs → from ≤ (get_or rs k d).at) →
    find (is_ahead r (Some from)) (keys_of (as_map rs)) ≡ find (is_within r) (keys_of (as_map rs))
all_ahead r from [] h = refl
all_ahead r from (x ∷ rs) h =
    let here : nat_le from x.at ≡ true = le-leb from x.at (h 0 x (omega arith)) in
    rw (here, all_ahead r from rs (λ k d l. h (suc k) d (omega (arith, l)))) refl

passed_by : (r : Area) (from : ℕ) (rs : List Replacement) (i : ℕ) → ((k : ℕ) (d : Replacement) → k < i → (get_or rs k d).at < from) → ((k : ℕ) (d : Replacement) → i ≤ k → k < length rs → from ≤ (get_or rs k d).at) → i ≤ length rs →
    find (is_ahead r (Some from)) (keys_of (as_map rs)) ≡ find (is_within r) (keys_of (as_map (drop i rs)))
passed_by r from rs zero low high l = all_ahead r from rs (λ k d m. high k d (omega arith) m)
passed_by r from [] (suc i) low high l = absurd (omega (arith, l))
passed_by r from (x ∷ rs) (suc i) low high l =
    let beside : nat_le from x.at ≡ false = false_from_ne_true _ (λ w. let above = leb-true from x.at w in let below = low 0 x (omega arith) in absurd (omega (arith, above, below))) in
    rw beside (passed_by r from rs i (λ k d m. low (suc k) d (omega (arith, m))) (λ k d n m. high (suc k) d (omega (arith, n)) (omega (arith, m))) (omega (arith, l)))

pub from_point : (r : Area) (from : ℕ) (rs : List Replacement) (i : ℕ) → IsPartitionPoint (λ (x : Replacement). nat_lt x.at from ≡ true) (λ (x : Replacement). nat_lt x.at from ≡ false) rs i → i ≤ length rs →
    find (is_within r) (keys_of (as_map (drop i rs))) ≡ find (is_ahead r (Some from)) (keys_of (as_map rs))
from_point r from rs i h l =
    sym (passed_by r from rs i (λ k d m. ltb-true _ _ (h.0 k d (omega arith) m)) (λ k d n m. ltb-false _ _ (h.1 k d n m)) l)

-- ---- what a cell is replaced by

behind : (r : Replacement) (rs : List Replacement) (a : ℕ) (v : Value) → ComeAfter r.at (as_map rs) → replaced rs a ≡ Some v → replaced (r ∷ rs) a ≡ Some v
behind r rs a v after h = at (is_at (nat_cmp a) r.at) refl
  where
    at : (b : Bool) → is_at (nat_cmp a) r.at ≡ b → cond b (Some r.value) (replaced rs a) ≡ Some v
    at true e = let none = lookup_after a (as_map rs) (subst (λ (b : ℕ). ComeAfter b (as_map rs)) (at_same a r.at e) after) in absurd (let z = sym none ∙ h in cc)
    at false e = h

stands : (rs : List Replacement) (i : ℕ) (x : Replacement) → Ascends (as_map rs) → i < length rs → x ≡ get_or rs i x → replaced rs x.at ≡ Some x.value
stands [] i x asc l e = absurd (omega (arith, l))
stands (r ∷ rs) zero x asc l e = subst (λ (y : Replacement). replaced (r ∷ rs) y.at ≡ Some y.value) (sym e) (rw (at_itself r.at) refl)
stands (r ∷ rs) (suc i) x asc l e = behind r rs x.at x.value asc.0 (stands rs i x asc.1 (omega (arith, l)) e)

-- the one at a place is its cell's
pub stands_at : (rs : List Replacement) (i : ℕ) (x : Replacement) → IsInOrder rs → i < length rs → x ≡ get_or rs i x → replaced rs x.at ≡ Some x.value
stands_at rs i x order l e = stands rs i x (ascends rs order) l e

whole : (i : ℕ) (rs : List Replacement) (a : ℕ) (v : Value) → Ascends (as_map rs) → replaced (drop i rs) a ≡ Some v → replaced rs a ≡ Some v
whole zero rs a v asc h = h
whole (suc i) [] a v asc h = h
whole (suc i) (r ∷ rs) a v asc h = behind r rs a v asc.0 (whole i rs a v asc.1 h)

-- and so it is of all, where it is of those from a place on
pub of_all : (i : ℕ) (rs : List Replacement) (o : Option (Bor Replacement)) → IsInOrder rs → IfSome o (λ r. replaced (drop i rs) r.now.at ≡ Some r.now.value) → IfSome o (λ r. replaced rs r.now.at ≡ Some r.now.value)
of_all i rs None order h = tt
of_all i rs (Some r) order h = whole i rs r.now.at r.now.value (ascends rs order) h

-- ---- none lies beyond the rectangle's last cell

none_beyond : (r : Area) (c : ℕ) (es : List (ℕ × Value)) → r.last < c → ComeAfter c es → find (is_within r) (keys_of es) ≡ None
none_beyond r c [] l h = refl
none_beyond r c (e ∷ es) l h =
    let beside : is_within r e.0 ≡ false = false_from_ne_true _ (λ w. let within = within_between r e.0 w in absurd (omega (arith, within.1, l, h.0))) in
    rw beside (none_beyond r c es l h.1)

none_past : (r : Area) (x : Replacement) (rs : List Replacement) → Ascends (as_map (x ∷ rs)) → r.last < x.at → find (is_within r) (keys_of (as_map (x ∷ rs))) ≡ None
none_past r x rs h l =
    let beside : is_within r x.at ≡ false = false_from_ne_true _ (λ w. let within = within_between r x.at w in absurd (omega (arith, within.1, l))) in
    rw beside (none_beyond r x.at (as_map rs) l h.0)

pub past_the_last : (r : Area) (rs : List Replacement) (i : ℕ) (x : Replacement) → IsInOrder rs → i < length rs → x ≡ get_or rs i x → r.last < x.at → find (is_within r) (keys_of (as_map (drop i rs))) ≡ None
past_the_last r rs i x order inside e l =
    let cut : drop i rs ≡ x ∷ drop (suc i) rs = drop-cons rs i x inside ∙ ap (λ (y : Replacement). y ∷ drop (suc i) rs) (sym e) in
    ap (λ (ys : List Replacement). find (is_within r) (keys_of (as_map ys))) cut
    ∙ none_past r x (drop (suc i) rs) (subst (λ (ys : List Replacement). Ascends (as_map ys)) cut (drop_ascends i rs (ascends rs order))) l
