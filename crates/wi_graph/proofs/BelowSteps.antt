-- Steps of a search among what a cell reads.
use Rattle.wi_graph.proofs.Words.{◌≡◌, ◌==◌, ◌&&◌, ◌||◌, ◌⊎◌, inl, inr, ℕ, ◌+◌, ◌<◌, ◌≤◌, Bool, true, false, true≢false, cond, filter, nat_le, List, [], ◌∷◌, ◌++◌, take, get_or, length, Option, Some, None, is_some, refl, ap, sym, ◌∙◌, subst, arith, or-false, or_assoc, or_cases, or_left, or_right, and_parts, and_from, cases_lt, false_from_ne_true, le-leb, leb-true, list_any-append, sorted_head, sorted_tail, find, AllByRecursion, IsStrictlySortedBy, keys_of, lookup, nat_cmp, Less, is_at, insert_entry, Area, is_within, found-insert, below_from_Less, within_between, taken_more, CellEntries, get, IsOrdered, is_one_of, Rooms, in_room, room_at, areas_of, is_within_one, is_ahead, is_passed, has_visited, AreFound, HasAreas, HasRest, IsLookedAt, IsSearchingBelow, ReachesNot}
use Rattle.std.proofs.lemmas.List.{take_all}
use Rattle.wi_graph.proofs.Tests.{is_itself, turn_test, clash}
use Rattle.wi_graph.proofs.Walks.{same_cell}
use Rattle.wi_graph.proofs.ClosingSteps.{no_key}

-- ---- the first of a list in order that passes two tests

pub find_first : (p q : ℕ → Bool) (ks : List ℕ) (r : ℕ) → find p (filter q ks) ≡ Some r → (q r ≡ true) × (p r ≡ true)
find_first p q [] r h = cc
find_first p q (k ∷ ks) r h = at (q k) refl h (find_first p q ks r)
  where
    here : (b : Bool) → p k ≡ b → q k ≡ true → cond b (Some k) (find p (filter q ks)) ≡ Some r → (find p (filter q ks) ≡ Some r → (q r ≡ true) × (p r ≡ true)) → (q r ≡ true) × (p r ≡ true)
    here true e m g ih = let z : k ≡ r = cc in (ap q (sym z) ∙ m, ap p (sym z) ∙ e)
    here false e m g ih = ih g

    at : (b : Bool) → q k ≡ b → find p (cond b (k ∷ filter q ks) (filter q ks)) ≡ Some r → (find p (filter q ks) ≡ Some r → (q r ≡ true) × (p r ≡ true)) → (q r ≡ true) × (p r ≡ true)
    at true m g ih = here (p k) refl m g ih
    at false m g ih = ih g

all_after : (k d : ℕ) (xs : List ℕ) → AllByRecursion (λ b. nat_cmp k b ≡ Less) xs → is_one_of xs d ≡ true → k < d
all_after k d [] h m = cc
all_after k d (x ∷ xs) h m = at (or_cases (x == d) _ m) (all_after k d xs h.1)
  where
    at : ((x == d) ≡ true) ⊎ (is_one_of xs d ≡ true) → (is_one_of xs d ≡ true → k < d) → k < d
    at (inl e) ih = subst (λ (y : ℕ). k < y) (same_cell d x e) (below_from_Less k x h.0)
    at (inr n) ih = ih n

-- none comes earlier
pub find_least : (p q : ℕ → Bool) (ks : List ℕ) (r : ℕ) → IsStrictlySortedBy nat_cmp ks → find p (filter q ks) ≡ Some r → (d : ℕ) → is_one_of ks d ≡ true → q d ≡ true → p d ≡ true → r ≤ d
find_least p q [] r o h d m i j = cc
find_least p q (k ∷ ks) r o h d m i j = at (q k) refl h (or_cases (k == d) _ m) (λ g n. find_least p q ks r (sorted_tail nat_cmp k ks o) g d n i j)
  where
    here : (b : Bool) → p k ≡ b → cond b (Some k) (find p (filter q ks)) ≡ Some r → ((k == d) ≡ true) ⊎ (is_one_of ks d ≡ true) → (find p (filter q ks) ≡ Some r → is_one_of ks d ≡ true → r ≤ d) → r ≤ d
    here true e g (inl n) ih =
        let z : k ≡ r = cc in
        let y = same_cell d k n in
        omega (arith, z, y)
    here true e g (inr n) ih =
        let z : k ≡ r = cc in
        let l = all_after k d ks (sorted_head nat_cmp k ks o) n in
        omega (arith, z, l)
    here false e g (inl n) ih = clash (p d) j (ap p (sym (same_cell d k n)) ∙ e)
    here false e g (inr n) ih = ih g n

    at : (b : Bool) → q k ≡ b → find p (cond b (k ∷ filter q ks) (filter q ks)) ≡ Some r → ((k == d) ≡ true) ⊎ (is_one_of ks d ≡ true) → (find p (filter q ks) ≡ Some r → is_one_of ks d ≡ true → r ≤ d) → r ≤ d
    at true e g c ih = here (p k) refl g c ih
    at false e g (inl n) ih = clash (q d) i (ap q (sym (same_cell d k n)) ∙ e)
    at false e g (inr n) ih = ih g n

-- or there is none
pub find_none : (p q : ℕ → Bool) (ks : List ℕ) → find p (filter q ks) ≡ None → (d : ℕ) → is_one_of ks d ≡ true → q d ≡ true → p d ≡ false
find_none p q [] h d m i = cc
find_none p q (k ∷ ks) h d m i = at (q k) refl h (or_cases (k == d) _ m) (λ g n. find_none p q ks g d n i)
  where
    here : (b : Bool) → p k ≡ b → cond b (Some k) (find p (filter q ks)) ≡ None → ((k == d) ≡ true) ⊎ (is_one_of ks d ≡ true) → (find p (filter q ks) ≡ None → is_one_of ks d ≡ true → p d ≡ false) → p d ≡ false
    here true e g c ih = cc
    here false e g (inl n) ih = ap p (sym (same_cell d k n)) ∙ e
    here false e g (inr n) ih = ih g n

    at : (b : Bool) → q k ≡ b → find p (cond b (k ∷ filter q ks) (filter q ks)) ≡ None → ((k == d) ≡ true) ⊎ (is_one_of ks d ≡ true) → (find p (filter q ks) ≡ None → is_one_of ks d ≡ true → p d ≡ false) → p d ≡ false
    at true e g c ih = here (p k) refl g c ih
    at false e g (inl n) ih = clash (q d) i (ap q (sym (same_cell d k n)) ∙ e)
    at false e g (inr n) ih = ih g n

-- ---- what is ahead

pub ahead_last : (ahead : List (Area × ℕ)) (area : Area) (from d : ℕ) → is_ahead (ahead ++ (area, from) ∷ []) d ≡ (is_ahead ahead d || (is_within area d && nat_le from d))
ahead_last ahead area from d =
    list_any-append (λ (t : Area × ℕ). is_within t.0 d && nat_le t.1 d) ahead ((area, from) ∷ []) ∙ ap (λ (b : Bool). is_ahead ahead d || b) (or-false (is_within area d && nat_le from d))

-- rectangles one after another
pub no_areas : (cell : ℕ) (ahead : List (Area × ℕ)) → HasAreas cell [] ahead ahead
no_areas cell ahead = record {
  more = λ d. sym (or-false (is_ahead ahead d));
  apart = refl;
}

own_first : (r : Area) (d : ℕ) (b : Bool) → is_within r d ≡ b → (b && nat_le r.first d) ≡ b
own_first r d true e = le-leb r.first d (within_between r d e).0
own_first r d false e = refl

pub areas_more : (cell : ℕ) (areas : List Area) (i : ℕ) (r : Area) (b : Bool) (old mid new : List (Area × ℕ)) → i < length areas → r ≡ get_or areas i r → b ≡ is_within r cell → b ≡ false → new ≡ mid ++ (r, r.first) ∷ [] → HasAreas cell (take i areas) old mid →
    HasAreas cell (take (i + 1) areas) old new
areas_more cell areas i r b old mid new l e w n k a = record {
  more = λ d.
      ap (λ (xs : List (Area × ℕ)). is_ahead xs d) k ∙ ahead_last mid r r.first d
      ∙ ap (λ (x : Bool). is_ahead mid d || x) (own_first r d (is_within r d) refl ∙ sym (or-false (is_within r d)))
      ∙ ap (λ (x : Bool). x || (is_within r d || false)) (a.more d) ∙ or_assoc (is_ahead old d) (is_within_one (take i areas) d) (is_within r d || false)
      ∙ ap (λ (x : Bool). is_ahead old d || x) (sym (in_taken d));
  apart = in_taken cell ∙ ap (λ (x : Bool). x || (is_within r cell || false)) a.apart ∙ ap (λ (x : Bool). x || false) (sym w ∙ n);
}
  where
    in_taken : (d : ℕ) → is_within_one (take (i + 1) areas) d ≡ (is_within_one (take i areas) d || (is_within r d || false))
    in_taken d = ap (λ (xs : List Area). is_within_one xs d) (taken_more areas i r l e) ∙ list_any-append (λ (q : Area). is_within q d) (take i areas) (r ∷ [])

pub all_areas : (cell : ℕ) (areas : List Area) (i : ℕ) (old new : List (Area × ℕ)) → length areas ≤ i → HasAreas cell (take i areas) old new → HasAreas cell areas old new
all_areas cell areas i old new l a = subst (λ (xs : List Area). HasAreas cell xs old new) (take_all i areas l) a

-- ---- a step

goes_on : (rooms : Rooms) (cell : ℕ) (areas : List Area) (visited more : ℕ → Bool) (before after : List (Area × ℕ)) → IsSearchingBelow rooms cell areas visited before → ((d : ℕ) → visited d ≡ true → more d ≡ true) →
    ((d : ℕ) → is_ahead before d ≡ true → (room_at rooms d ≡ None) ⊎ ((more d ≡ true) ⊎ (is_ahead after d ≡ true))) →
    ((e : ℕ) → more e ≡ true → (visited e ≡ true) ⊎ ((is_ahead before e ≡ true) × ((d : ℕ) → is_within_one (areas_of (room_at rooms e)) d ≡ true → ((cell == d) ≡ false) × (is_ahead after d ≡ true)))) →
    ((d : ℕ) → is_ahead after d ≡ true → (cell == d) ≡ false) → IsSearchingBelow rooms cell areas more after
goes_on rooms cell areas visited more before after s stays known fresh apart = record {
  first = λ d i. looked d (s.first d i);
  reads = λ e d i j. read e d j (fresh e i);
  apart = λ e i. other e (fresh e i);
  apart_ahead = apart;
}
  where
    at : (d : ℕ) → (room_at rooms d ≡ None) ⊎ ((visited d ≡ true) ⊎ (is_ahead before d ≡ true)) → (room_at rooms d ≡ None) ⊎ ((more d ≡ true) ⊎ (is_ahead after d ≡ true))
    at d (inl n) = inl n
    at d (inr (inl i)) = inr (inl (stays d i))
    at d (inr (inr i)) = known d i

    looked : (d : ℕ) → IsLookedAt rooms cell visited before d → IsLookedAt rooms cell more after d
    looked d k = (k.0, at d k.1)

    read : (e d : ℕ) → is_within_one (areas_of (room_at rooms e)) d ≡ true → (visited e ≡ true) ⊎ ((is_ahead before e ≡ true) × ((x : ℕ) → is_within_one (areas_of (room_at rooms e)) x ≡ true → ((cell == x) ≡ false) × (is_ahead after x ≡ true))) → IsLookedAt rooms cell more after d
    read e d j (inl i) = looked d (s.reads e d i j)
    read e d j (inr k) = let x = k.1 d j in (x.0, inr (inr x.1))

    other : (e : ℕ) → (visited e ≡ true) ⊎ ((is_ahead before e ≡ true) × ((x : ℕ) → is_within_one (areas_of (room_at rooms e)) x ≡ true → ((cell == x) ≡ false) × (is_ahead after x ≡ true))) → (cell == e) ≡ false
    other e (inl i) = s.apart e i
    other e (inr k) = s.apart_ahead e k.0

roomless : (rooms : Rooms) (d : ℕ) → is_one_of (keys_of rooms.entries) d ≡ false → room_at rooms d ≡ None
roomless rooms d h = ap in_room (no_key rooms.entries d h)

-- a rectangle has no more
pub below_none : (rooms : Rooms) (cell : ℕ) (areas : List Area) (visited : ℕ → Bool) (ahead : List (Area × ℕ)) (area : Area) (from : ℕ) → find (λ a. nat_le from a) (filter (is_within area) (keys_of rooms.entries)) ≡ None →
    IsSearchingBelow rooms cell areas visited (ahead ++ (area, from) ∷ []) → IsSearchingBelow rooms cell areas visited ahead
below_none rooms cell areas visited ahead area from h s =
    goes_on rooms cell areas visited visited (ahead ++ (area, from) ∷ []) ahead s (λ d i. i) (λ d i. known d (or_cases (is_ahead ahead d) _ (sym (ahead_last ahead area from d) ∙ i))) (λ e i. inl i) (λ d i. s.apart_ahead d (ahead_last ahead area from d ∙ or_left (is_ahead ahead d) _ i))
  where
    no : (d : ℕ) → is_within area d ≡ true → nat_le from d ≡ true → (b : Bool) → is_one_of (keys_of rooms.entries) d ≡ b → room_at rooms d ≡ None
    no d w l true m = clash (nat_le from d) l (find_none (λ a. nat_le from a) (is_within area) (keys_of rooms.entries) h d m w)
    no d w l false m = roomless rooms d m

    known : (d : ℕ) → (is_ahead ahead d ≡ true) ⊎ ((is_within area d && nat_le from d) ≡ true) → (room_at rooms d ≡ None) ⊎ ((visited d ≡ true) ⊎ (is_ahead ahead d ≡ true))
    known d (inl i) = inr (inr i)
    known d (inr k) = let x = and_parts (is_within area d) (nat_le from d) k in inl (no d x.0 x.1 (is_one_of (keys_of rooms.entries) d) refl)

-- it has one
read_known : (rooms : Rooms) (area : Area) (from read : ℕ) (ahead mid after : List (Area × ℕ)) (more : ℕ → Bool) → IsOrdered nat_cmp rooms → find (λ a. nat_le from a) (filter (is_within area) (keys_of rooms.entries)) ≡ Some read → HasRest area read ahead mid →
    more read ≡ true → ((d : ℕ) → is_ahead mid d ≡ true → is_ahead after d ≡ true) → (d : ℕ) → is_ahead (ahead ++ (area, from) ∷ []) d ≡ true → (room_at rooms d ≡ None) ⊎ ((more d ≡ true) ⊎ (is_ahead after d ≡ true))
read_known rooms area from read ahead mid after more o f r g u d i = at (or_cases (is_ahead ahead d) _ (sym (ahead_last ahead area from d) ∙ i))
  where
    later : read ≤ d → is_within area d ≡ true → (read < d) ⊎ (d ≤ read) → (more d ≡ true) ⊎ (is_ahead after d ≡ true)
    later l w (inl k) = inr (u d (r.rest d w k))
    later l w (inr k) = let e : read ≡ d = omega arith in inl (subst (λ (x : ℕ). more x ≡ true) e g)

    known : is_within area d ≡ true → nat_le from d ≡ true → (b : Bool) → is_one_of (keys_of rooms.entries) d ≡ b → (room_at rooms d ≡ None) ⊎ ((more d ≡ true) ⊎ (is_ahead after d ≡ true))
    known w l false m = inl (roomless rooms d m)
    known w l true m = inr (later (find_least (λ a. nat_le from a) (is_within area) (keys_of rooms.entries) read o f d m w l) w (cases_lt read d))

    at : (is_ahead ahead d ≡ true) ⊎ ((is_within area d && nat_le from d) ≡ true) → (room_at rooms d ≡ None) ⊎ ((more d ≡ true) ⊎ (is_ahead after d ≡ true))
    at (inl j) = inr (inr (u d (r.stays d j)))
    at (inr k) = let x = and_parts (is_within area d) (nat_le from d) k in known x.0 x.1 (is_one_of (keys_of rooms.entries) d) refl

read_apart : (rooms : Rooms) (cell : ℕ) (areas : List Area) (visited : ℕ → Bool) (ahead mid : List (Area × ℕ)) (area : Area) (from read : ℕ) → nat_le from read ≡ true → HasRest area read ahead mid → IsSearchingBelow rooms cell areas visited (ahead ++ (area, from) ∷ []) →
    (d : ℕ) → is_ahead mid d ≡ true → (cell == d) ≡ false
read_apart rooms cell areas visited ahead mid area from read l r s d i = at (r.within d i)
  where
    at : (is_ahead ahead d ≡ true) ⊎ ((is_within area d ≡ true) × (read < d)) → (cell == d) ≡ false
    at (inl j) = s.apart_ahead d (ahead_last ahead area from d ∙ or_left (is_ahead ahead d) _ j)
    at (inr k) =
        let m = leb-true from read l in
        let n : from ≤ d = omega (arith, m, k.1) in
        s.apart_ahead d (ahead_last ahead area from d ∙ or_right (is_ahead ahead d) _ (and_from (is_within area d) (nat_le from d) k.0 (le-leb from d n)))

more_cases : (visited more : ℕ → Bool) (read : ℕ) → ((d : ℕ) → more d ≡ (visited d || (read == d))) → (e : ℕ) → more e ≡ true → (read ≡ e) ⊎ (visited e ≡ true)
more_cases visited more read g e i = at (or_cases (visited e) (read == e) (sym (g e) ∙ i))
  where
    at : (visited e ≡ true) ⊎ ((read == e) ≡ true) → (read ≡ e) ⊎ (visited e ≡ true)
    at (inl k) = inr k
    at (inr k) = inl (same_cell e read k)

-- that was found before
pub below_old : (rooms : Rooms) (cell : ℕ) (areas : List Area) (visited more : ℕ → Bool) (ahead mid : List (Area × ℕ)) (area : Area) (from read : ℕ) → IsOrdered nat_cmp rooms → find (λ a. nat_le from a) (filter (is_within area) (keys_of rooms.entries)) ≡ Some read →
    HasRest area read ahead mid → visited read ≡ true → ((d : ℕ) → more d ≡ (visited d || (read == d))) → IsSearchingBelow rooms cell areas visited (ahead ++ (area, from) ∷ []) → IsSearchingBelow rooms cell areas more mid
below_old rooms cell areas visited more ahead mid area from read o f r h g s =
    goes_on rooms cell areas visited more (ahead ++ (area, from) ∷ []) mid s (λ d i. g d ∙ or_left (visited d) _ i) (read_known rooms area from read ahead mid mid more o f r (g read ∙ or_right (visited read) _ (is_itself read)) (λ d i. i)) (λ e i. inl (was e (more_cases visited more read g e i)))
    (read_apart rooms cell areas visited ahead mid area from read (find_first (λ a. nat_le from a) (is_within area) (keys_of rooms.entries) read f).1 r s)
  where
    was : (e : ℕ) → (read ≡ e) ⊎ (visited e ≡ true) → visited e ≡ true
    was e (inl k) = subst (λ (x : ℕ). visited x ≡ true) k h
    was e (inr k) = k

-- that is new
pub below_new : (rooms : Rooms) (cell : ℕ) (areas : List Area) (visited more : ℕ → Bool) (ahead mid after : List (Area × ℕ)) (area : Area) (from read : ℕ) → IsOrdered nat_cmp rooms → find (λ a. nat_le from a) (filter (is_within area) (keys_of rooms.entries)) ≡ Some read →
    HasRest area read ahead mid → HasAreas cell (areas_of (room_at rooms read)) mid after → ((d : ℕ) → more d ≡ (visited d || (read == d))) → IsSearchingBelow rooms cell areas visited (ahead ++ (area, from) ∷ []) → IsSearchingBelow rooms cell areas more after
below_new rooms cell areas visited more ahead mid after area from read o f r a g s =
    goes_on rooms cell areas visited more (ahead ++ (area, from) ∷ []) after s (λ d i. g d ∙ or_left (visited d) _ i) (read_known rooms area from read ahead mid after more o f r (g read ∙ or_right (visited read) _ (is_itself read)) (λ d i. a.more d ∙ or_left (is_ahead mid d) _ i))
    (λ e i. fresh e (more_cases visited more read g e i)) (λ d i. apart d (or_cases (is_ahead mid d) _ (sym (a.more d) ∙ i)))
  where
    first : (is_within area read ≡ true) × (nat_le from read ≡ true)
    first = find_first (λ a. nat_le from a) (is_within area) (keys_of rooms.entries) read f

    not_it : (d : ℕ) → is_within_one (areas_of (room_at rooms read)) d ≡ true → (cell == d) ≡ false
    not_it d i = false_from_ne_true (cell == d) (λ e. clash (is_within_one (areas_of (room_at rooms read)) cell) (ap (is_within_one (areas_of (room_at rooms read))) (same_cell d cell e) ∙ i) a.apart)

    here : is_ahead (ahead ++ (area, from) ∷ []) read ≡ true
    here = ahead_last ahead area from read ∙ or_right (is_ahead ahead read) _ (and_from (is_within area read) (nat_le from read) first.0 first.1)

    given : (d : ℕ) → is_within_one (areas_of (room_at rooms read)) d ≡ true → ((cell == d) ≡ false) × (is_ahead after d ≡ true)
    given d j = (not_it d j, a.more d ∙ or_right (is_ahead mid d) _ j)

    fresh : (e : ℕ) → (read ≡ e) ⊎ (visited e ≡ true) → (visited e ≡ true) ⊎ ((is_ahead (ahead ++ (area, from) ∷ []) e ≡ true) × ((d : ℕ) → is_within_one (areas_of (room_at rooms e)) d ≡ true → ((cell == d) ≡ false) × (is_ahead after d ≡ true)))
    fresh e (inl k) = inr (subst (λ (x : ℕ). is_ahead (ahead ++ (area, from) ∷ []) x ≡ true) k here, λ d j. given d (subst (λ (x : ℕ). is_within_one (areas_of (room_at rooms x)) d ≡ true) (sym k) j))
    fresh e (inr k) = inl k

    apart : (d : ℕ) → (is_ahead mid d ≡ true) ⊎ (is_within_one (areas_of (room_at rooms read)) d ≡ true) → (cell == d) ≡ false
    apart d (inl j) = read_apart rooms cell areas visited ahead mid area from read first.1 r s d j
    apart d (inr j) = not_it d j

-- ---- the cells that were found

pub none_visited : {X : Type 0} (cells : CellEntries X) → cells.entries ≡ [] → (d : ℕ) → has_visited cells d ≡ false
none_visited {X} cells e d = ap (λ (es : List (ℕ × X)). is_some (lookup (is_at (nat_cmp d)) es)) e

pub visited_one : {X : Type 0} (old new : CellEntries X) (a : ℕ) (v : X) → new.entries ≡ cond (is_some (get nat_cmp old a)) old.entries (insert_entry nat_cmp old.entries a v) → (c : ℕ) → has_visited new c ≡ (has_visited old c || (a == c))
visited_one {X} old new a v e c = at (get nat_cmp old a) refl e
  where
    there : (b : Bool) → (a == c) ≡ b → is_some (get nat_cmp old a) ≡ true → has_visited old c ≡ (has_visited old c || b)
    there true t h = let z : has_visited old c ≡ true = ap (λ (x : ℕ). is_some (get nat_cmp old x)) (sym (same_cell c a t)) ∙ h in z ∙ sym (or_left (has_visited old c) true z)
    there false t h = sym (or-false (has_visited old c))

    put : (b : Bool) → is_some (cond b (Some v) (lookup (is_at (nat_cmp c)) old.entries)) ≡ (has_visited old c || b)
    put true = sym (or_right (has_visited old c) true refl)
    put false = sym (or-false (has_visited old c))

    at : (o : Option X) → get nat_cmp old a ≡ o → new.entries ≡ cond (is_some o) old.entries (insert_entry nat_cmp old.entries a v) → has_visited new c ≡ (has_visited old c || (a == c))
    at (Some w) h k = ap (λ (es : List (ℕ × X)). is_some (lookup (is_at (nat_cmp c)) es)) k ∙ there (a == c) refl (ap (λ (o : Option X). is_some o) h)
    at None h k = ap (λ (es : List (ℕ × X)). is_some (lookup (is_at (nat_cmp c)) es)) k ∙ ap (λ (o : Option X). is_some o) (found-insert old.entries a v c ∙ ap (λ (b : Bool). cond b (Some v) (lookup (is_at (nat_cmp c)) old.entries)) (turn_test c a)) ∙ put (a == c)

passed_more : (v k n : Bool) → ((v || n) || k) ≡ ((v || k) || n)
passed_more true k n = refl
passed_more false true true = refl
passed_more false true false = refl
passed_more false false n = or-false n

pub passed_one : {X : Type 0} (old new : CellEntries X) (known : ℕ → Bool) (a : ℕ) → ((c : ℕ) → has_visited new c ≡ (has_visited old c || (a == c))) → (c : ℕ) → is_passed new known c ≡ (is_passed old known c || (a == c))
passed_one {X} old new known a e c = ap (λ (b : Bool). b || known c) (e c) ∙ passed_more (has_visited old c) (known c) (a == c)

-- ---- what is found among what the cell reads now

pub found_start : (rooms : Rooms) (cell : ℕ) (areas : List Area) (known visited : ℕ → Bool) (ahead : List (Area × ℕ)) → ((x : ℕ) → visited x ≡ false) → HasAreas cell areas [] ahead → IsSearchingBelow rooms cell areas known [] → AreFound rooms cell known visited ahead
found_start rooms cell areas known visited ahead e a s = record {
  found = λ x i. clash (visited x) i (e x);
  to_come = λ d i. s.first d (sym (a.more d) ∙ i);
}

pub none_found : (rooms : Rooms) (cell : ℕ) (known visited : ℕ → Bool) → ((x : ℕ) → visited x ≡ false) → AreFound rooms cell known visited []
none_found rooms cell known visited e = record { found = λ x i. clash (visited x) i (e x); to_come = λ d i. absurd (true≢false (sym i)) }

pub all_found : (rooms : Rooms) (cell : ℕ) (known visited : ℕ → Bool) (ahead : List (Area × ℕ)) → AreFound rooms cell known visited ahead → AreFound rooms cell known visited []
all_found rooms cell known visited ahead f = record { found = f.found; to_come = λ d i. absurd (true≢false (sym i)) }

-- a rectangle has no more, or was looked at
pub found_none : (rooms : Rooms) (cell : ℕ) (known visited : ℕ → Bool) (ahead : List (Area × ℕ)) (area : Area) (from : ℕ) → AreFound rooms cell known visited (ahead ++ (area, from) ∷ []) → AreFound rooms cell known visited ahead
found_none rooms cell known visited ahead area from f = record {
  found = f.found;
  to_come = λ d i. f.to_come d (ahead_last ahead area from d ∙ or_left (is_ahead ahead d) _ i);
}

module _ (rooms : Rooms) (cell : ℕ) (areas : List Area) (known visited more : ℕ → Bool) (ahead mid : List (Area × ℕ)) (area : Area) (from read : ℕ) (s : IsSearchingBelow rooms cell areas known []) (f : AreFound rooms cell known visited (ahead ++ (area, from) ∷ []))
    (first : (is_within area read ≡ true) × (nat_le from read ≡ true)) (r : HasRest area read ahead mid) (g : (d : ℕ) → more d ≡ (visited d || (read == d))) where
  read_found : IsLookedAt rooms cell known [] read
  read_found = f.to_come read (ahead_last ahead area from read ∙ or_right (is_ahead ahead read) _ (and_from (is_within area read) (nat_le from read) first.0 first.1))

  rest_found : (d : ℕ) → is_ahead mid d ≡ true → IsLookedAt rooms cell known [] d
  rest_found d i = at (r.within d i)
    where
      at : (is_ahead ahead d ≡ true) ⊎ ((is_within area d ≡ true) × (read < d)) → IsLookedAt rooms cell known [] d
      at (inl j) = f.to_come d (ahead_last ahead area from d ∙ or_left (is_ahead ahead d) _ j)
      at (inr k) =
          let m = leb-true from read first.1 in
          let n : from ≤ d = omega (arith, m, k.1) in
          f.to_come d (ahead_last ahead area from d ∙ or_right (is_ahead ahead d) _ (and_from (is_within area d) (nat_le from d) k.0 (le-leb from d n)))

  more_found : (e : ℕ) → more e ≡ true → IsLookedAt rooms cell known [] e
  more_found e i = at (more_cases visited more read g e i)
    where
      at : (read ≡ e) ⊎ (visited e ≡ true) → IsLookedAt rooms cell known [] e
      at (inl k) = subst (λ (x : ℕ). IsLookedAt rooms cell known [] x) k read_found
      at (inr k) = f.found e k

  -- one that was found before
  pub found_old : AreFound rooms cell known more mid
  found_old = record { found = more_found; to_come = rest_found }

  -- one that is new: what it reads is known too
  pub found_new : (after : List (Area × ℕ)) → HasAreas cell (areas_of (room_at rooms read)) mid after → AreFound rooms cell known more after
  found_new after a = record { found = more_found; to_come = λ d i. at d (or_cases (is_ahead mid d) _ (sym (a.more d) ∙ i)) }
    where
      its : (d : ℕ) → is_within_one (areas_of (room_at rooms read)) d ≡ true → (room_at rooms read ≡ None) ⊎ ((known read ≡ true) ⊎ (is_ahead [] read ≡ true)) → IsLookedAt rooms cell known [] d
      its d j (inl e) = absurd (true≢false (sym j ∙ ap (λ (o : Option (List Area)). is_within_one (areas_of o) d) e))
      its d j (inr (inl k)) = s.reads read d k j
      its d j (inr (inr k)) = absurd (true≢false (sym k))

      at : (d : ℕ) → (is_ahead mid d ≡ true) ⊎ (is_within_one (areas_of (room_at rooms read)) d ≡ true) → IsLookedAt rooms cell known [] d
      at d (inl j) = rest_found d j
      at d (inr j) = its d j read_found.1

-- ---- how it begins and ends

pub below_start : {X : Type 0} (rooms : Rooms) (cell : ℕ) (now areas : List Area) (known : ℕ → Bool) (cells : CellEntries X) (ahead : List (Area × ℕ)) → IsSearchingBelow rooms cell now known [] → AreFound rooms cell known (has_visited cells) [] → HasAreas cell areas [] ahead → IsSearchingBelow rooms cell areas (is_passed cells known) ahead
below_start {X} rooms cell now areas known cells ahead s f a = record {
  first = λ d i. (not_it d i, inr (inr (a.more d ∙ i)));
  reads = λ e d i j. at e d j (or_cases (has_visited cells e) (known e) i);
  apart = λ e i. other e (or_cases (has_visited cells e) (known e) i);
  apart_ahead = λ d i. not_it d (sym (a.more d) ∙ i);
}
  where
    not_it : (d : ℕ) → is_within_one areas d ≡ true → (cell == d) ≡ false
    not_it d i = false_from_ne_true (cell == d) (λ k. clash (is_within_one areas cell) (ap (is_within_one areas) (same_cell d cell k) ∙ i) a.apart)

    wider : (d : ℕ) → (room_at rooms d ≡ None) ⊎ ((known d ≡ true) ⊎ (is_ahead [] d ≡ true)) → (room_at rooms d ≡ None) ⊎ ((is_passed cells known d ≡ true) ⊎ (is_ahead ahead d ≡ true))
    wider d (inl e) = inl e
    wider d (inr (inl k)) = inr (inl (or_right (has_visited cells d) (known d) k))
    wider d (inr (inr k)) = absurd (true≢false (sym k))

    of_known : (e d : ℕ) → is_within_one (areas_of (room_at rooms e)) d ≡ true → known e ≡ true → IsLookedAt rooms cell (is_passed cells known) ahead d
    of_known e d j k = let x = s.reads e d k j in (x.0, wider d x.1)

    of_found : (e d : ℕ) → is_within_one (areas_of (room_at rooms e)) d ≡ true → (room_at rooms e ≡ None) ⊎ ((known e ≡ true) ⊎ (is_ahead [] e ≡ true)) → IsLookedAt rooms cell (is_passed cells known) ahead d
    of_found e d j (inl n) = absurd (true≢false (sym j ∙ ap (λ (o : Option (List Area)). is_within_one (areas_of o) d) n))
    of_found e d j (inr (inl k)) = of_known e d j k
    of_found e d j (inr (inr k)) = absurd (true≢false (sym k))

    at : (e d : ℕ) → is_within_one (areas_of (room_at rooms e)) d ≡ true → (has_visited cells e ≡ true) ⊎ (known e ≡ true) → IsLookedAt rooms cell (is_passed cells known) ahead d
    at e d j (inl v) = of_found e d j (f.found e v).1
    at e d j (inr k) = of_known e d j k

    other : (e : ℕ) → (has_visited cells e ≡ true) ⊎ (known e ≡ true) → (cell == e) ≡ false
    other e (inl v) = (f.found e v).0
    other e (inr k) = s.apart e k

pub below_end : (rooms : Rooms) (cell : ℕ) (areas : List Area) (visited : ℕ → Bool) (ahead : List (Area × ℕ)) → ahead ≡ [] → IsSearchingBelow rooms cell areas visited ahead → ReachesNot rooms cell areas
below_end rooms cell areas visited ahead e s = (visited, subst (IsSearchingBelow rooms cell areas visited) e s)
