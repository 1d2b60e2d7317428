-- Steps of bringing an edit in.
use Rattle.wi_graph.proofs.Words.{◌≡◌, ◌+◌, ◌<◌, ◌≤◌, ℕ, Bool, true, false, cond, List, [], ◌∷◌, ◌++◌, take, take_all, drop, drop-cons, get_or, length, Option, Some, None, refl, ap, sym, ◌∙◌, subst, arith, suc, add-one, drop_all, if◌then◌else◌, lookup, nat_cmp, is_at, Area, get, IsOrdered, RangePair, Bag, pair_for, is_same, count_of, HasOneMore, ComeAfter, Ascends, Ascends-from_order, lookup_after, taken_more, Rooms, Coming, brought_to, coming_at, items_of, in_room, room_at, areas_of, times, times_in, times_coming, AreInOrder, HasRooms, HasPairs, HasBoth, HasRoomFor, times_among, HasThese, SmallVec}
use Rattle.wi_graph.proofs.Tests.{is_at-eq, at_same, turn_test}
use Rattle.wi_graph.proofs.ComingSteps.{found_longer}
use Rattle.wi_graph.proofs.RoomSteps.{times_more, times_other, times_room, Loses}

pub one_more : (k : ℕ) (rs : List Area) (i : ℕ) (r : Area) (first old new : Bag) → i < length rs → r ≡ get_or rs i r → HasOneMore (pair_for r k) old new → ((p : RangePair) → count_of old p ≡ count_of first p + times k (take i rs) p) →
    (p : RangePair) → count_of new p ≡ count_of first p + times k (take (i + 1) rs) p
one_more k rs i r first old new h e l u p = at (is_same (pair_for r k) p) (l p) (times_more k rs i r p h e)
  where
    at : (b : Bool) → count_of new p ≡ (if b then count_of old p + 1 else count_of old p) → times k (take (i + 1) rs) p ≡ times k (take i rs) p + cond b 1 0 → count_of new p ≡ count_of first p + times k (take (i + 1) rs) p
    at true f g = omega (arith, f, g, u p)
    at false f g = omega (arith, f, g, u p)

-- ---- the rooms of some cells

among_more : (front : Coming) (k : ℕ) (o : Option (SmallVec Area)) (p : RangePair) → times_among (front ++ (k, o) ∷ []) p ≡ times_among front p + times k (areas_of (items_of o)) p
among_more [] k o p = let a : times k (areas_of (items_of o)) p + 0 ≡ 0 + times k (areas_of (items_of o)) p = omega arith in a
among_more (e ∷ front) k o p =
    let ih = among_more front k o p in
    let a : times e.0 (areas_of (items_of e.1)) p + times_among (front ++ (k, o) ∷ []) p ≡ (times e.0 (areas_of (items_of e.1)) p + times_among front p) + times k (areas_of (items_of o)) p = omega (arith, ih) in a

-- in order each cell has one room
among_all : (es : Coming) → Ascends es → (p : RangePair) → times_among es p ≡ times p.reader (areas_of (in_room (lookup (is_at (nat_cmp p.reader)) es))) p
among_all [] a p = refl
among_all (e ∷ es) a p = at (is_at (nat_cmp p.reader) e.0) refl (among_all es a.1 p)
  where
    at : (b : Bool) → is_at (nat_cmp p.reader) e.0 ≡ b → times_among es p ≡ times p.reader (areas_of (in_room (lookup (is_at (nat_cmp p.reader)) es))) p →
        times e.0 (areas_of (items_of e.1)) p + times_among es p ≡ times p.reader (areas_of (in_room (cond b (Some e.1) (lookup (is_at (nat_cmp p.reader)) es)))) p
    at true h ih =
        let r : e.0 ≡ p.reader = at_same p.reader e.0 h in
        let x : times e.0 (areas_of (items_of e.1)) p ≡ times p.reader (areas_of (items_of e.1)) p = ap (λ (k : ℕ). times k (areas_of (items_of e.1)) p) r in
        let n : lookup (is_at (nat_cmp p.reader)) es ≡ None = lookup_after p.reader es (subst (λ (z : ℕ). ComeAfter z es) r a.0) in
        let z : times p.reader (areas_of (in_room (lookup (is_at (nat_cmp p.reader)) es))) p ≡ 0 = ap (λ (y : Option (Option (SmallVec Area))). times p.reader (areas_of (in_room y)) p) n in
        omega (arith, x, ih, z)
    at false h ih =
        let n = times_other e.0 (areas_of (items_of e.1)) p (turn_test e.0 p.reader ∙ sym (is_at-eq p.reader e.0) ∙ h) in
        omega (arith, n, ih)

-- ---- one after another is brought in

pub record IsBringing (first rooms : Rooms) (readers : Bag) (front : Coming) : Type 0 where
  pub ordered : IsOrdered nat_cmp rooms
  pub same : (c : ℕ) → room_at rooms c ≡ room_at first c
  pub have_rooms : HasRooms rooms front
  pub pairs : HasThese readers rooms front

pub bringing_start : (rooms : Rooms) (readers : Bag) → IsOrdered nat_cmp rooms → HasPairs readers rooms → IsBringing rooms rooms readers []
bringing_start rooms readers o h = record {
  ordered = o;
  same = λ c. refl;
  have_rooms = λ c n. refl;
  pairs = λ p. let a = h p in let b : count_of readers p ≡ times_in rooms p + 0 = omega (arith, a) in b;
}

pub bringing_step : (first rooms mid : Rooms) (readers more : Bag) (coming : Coming) (i : ℕ) (x : ℕ × Option (SmallVec Area)) → AreInOrder coming → i < length coming → x ≡ get_or coming i x → IsOrdered nat_cmp mid → ((c : ℕ) → room_at mid c ≡ room_at rooms c) →
    HasRoomFor None mid.entries (x.0, x.1) → ((c : ℕ) → get nat_cmp mid c ≡ None → get nat_cmp rooms c ≡ None) → ((p : RangePair) → count_of more p ≡ count_of readers p + times x.0 (areas_of (items_of x.1)) p) →
    IsBringing first rooms readers (take i coming) → IsBringing first mid more (take (i + 1) coming)
bringing_step first rooms mid readers more coming i x order l e ord n has stay g t = subst (IsBringing first mid more) (sym longer) (record {
  ordered = ord;
  same = λ c. n c ∙ t.same c;
  have_rooms = λ c h. room c h (is_at (nat_cmp x.0) c) refl;
  pairs = λ p.
      let a = t.pairs p in
      let d : times_in mid p ≡ times_in rooms p = times_room mid p (room_at rooms p.reader) (n p.reader) in
      let f = among_more (take i coming) x.0 x.1 p in
      omega (arith, a, d, f, g p);
})
  where
    longer : take (i + 1) coming ≡ take i coming ++ (x.0, x.1) ∷ []
    longer = taken_more coming i x l e

    found : (c : ℕ) (b : Bool) → is_at (nat_cmp x.0) c ≡ b → brought_to (take i coming ++ (x.0, x.1) ∷ []) c ≡ cond b (Some x.1) (brought_to (take i coming) c)
    found c b s = ap (λ (xs : Coming). brought_to xs c) (sym longer) ∙ found_longer coming i x order l e c ∙ ap (λ (d : Bool). cond d (Some x.1) (brought_to (take i coming) c)) s

    room : (c : ℕ) → get nat_cmp mid c ≡ None → (b : Bool) → is_at (nat_cmp x.0) c ≡ b → coming_at (take i coming ++ (x.0, x.1) ∷ []) c ≡ None
    room c h true s = ap in_room (found c true s) ∙ ap items_of (has (ap (get nat_cmp mid) (sym (at_same x.0 c s)) ∙ h))
    room c h false s = ap in_room (found c false s) ∙ t.have_rooms c (stay c h)

-- all are in
pub bringing_end : (first rooms : Rooms) (coming : Coming) (readers : Bag) (i : ℕ) → AreInOrder coming → length coming ≤ i → IsBringing first rooms readers (take i coming) → HasRooms rooms coming × HasBoth readers rooms coming
bringing_end first rooms coming readers i o l t = (
  λ c n. ap (λ (xs : Coming). coming_at xs c) (sym all_in) ∙ t.have_rooms c n,
  λ p.
      let a = t.pairs p in
      let d : times_among (take i coming) p ≡ times_coming coming p = ap (λ (xs : Coming). times_among xs p) all_in ∙ among_all coming (Ascends-from_order coming o) p in
      omega (arith, a, d),
)
  where
    all_in : take i coming ≡ coming
    all_in = take_all i coming l

-- ---- and taken out again

pub record IsTakingOut (first rooms : Rooms) (readers : Bag) (left : Coming) : Type 0 where
  pub ordered : IsOrdered nat_cmp rooms
  pub same : (c : ℕ) → room_at rooms c ≡ room_at first c
  pub pairs : HasThese readers rooms left

pub taking_out_start : (rooms : Rooms) (readers : Bag) (brought : Coming) → IsOrdered nat_cmp rooms → HasThese readers rooms brought → IsTakingOut rooms rooms readers brought
taking_out_start rooms readers brought o h = record { ordered = o; same = λ c. refl; pairs = h }

pub taking_out_step : (first rooms mid : Rooms) (readers fewer : Bag) (brought : Coming) (i : ℕ) (x : ℕ × Option (SmallVec Area)) → i < length brought → x ≡ get_or brought i x → Loses x.0 (items_of x.1) readers fewer → IsOrdered nat_cmp mid →
    ((c : ℕ) → room_at mid c ≡ room_at rooms c) → IsTakingOut first rooms readers (drop i brought) → IsTakingOut first mid fewer (drop (i + 1) brought)
taking_out_step first rooms mid readers fewer brought i x l e loses ord n t = record {
  ordered = ord;
  same = λ c. n c ∙ t.same c;
  pairs = λ p.
      let a = t.pairs p in
      let b : times_among (drop i brought) p ≡ times x.0 (areas_of (items_of x.1)) p + times_among (drop (i + 1) brought) p = ap (λ (xs : Coming). times_among xs p) opened in
      let d : times_in mid p ≡ times_in rooms p = times_room mid p (room_at rooms p.reader) (n p.reader) in
      omega (arith, a, b, d, loses p);
}
  where
    opened : drop i brought ≡ x ∷ drop (i + 1) brought
    opened = drop-cons brought i x l ∙ ap (λ (y : ℕ × Option (SmallVec Area)). y ∷ drop (suc i) brought) (sym e) ∙ ap (λ (n : ℕ). x ∷ drop n brought) (sym (add-one i))

pub taking_out_end : (first rooms : Rooms) (readers : Bag) (brought : Coming) (i : ℕ) → length brought ≤ i → IsTakingOut first rooms readers (drop i brought) → HasPairs readers rooms
taking_out_end first rooms readers brought i l t p =
    let a = t.pairs p in
    let b : times_among (drop i brought) p ≡ 0 = ap (λ (xs : Coming). times_among xs p) (drop_all i brought l) in
    omega (arith, a, b)
