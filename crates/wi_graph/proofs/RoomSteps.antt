-- Steps of taking an edit, and of taking it back.
use Rattle.wi_graph.proofs.Words.{◌≡◌, ◌==◌, ◌+◌, ◌-◌, ◌<◌, ℕ, zero, suc, Bool, true, false, cond, not, List, [], ◌∷◌, ◌++◌, take, get_or, length, Option, Some, None, IsSome, refl, ap, sym, ◌∙◌, arith, add-one, if◌then◌else◌, option_flatten, unwrap_or, nat_cmp, is_at, SmallVec, Area, get, IsOrdered, RangePair, Bag, pair_for, is_same, count_of, HasOneLess, same_is, Rooms, Coming, items_of, in_room, room_at, brought_to, coming_at, put_over, room_over, areas_of, times, times_in, times_coming, AreInOrder, HasRooms, HasPairs, HasBoth, HoldsTheSame}
use Rattle.wi_graph.proofs.ComingSteps.{last_there, last_gone, order_left}
use Rattle.std.specs.Option.{is_some}
use Rattle.wi_graph.proofs.Tests.{is_at-eq, is_itself}
use Rattle.wi_graph.proofs.Walks.{same_cell}

-- ---- how often

pub times_other : (k : ℕ) (rs : List Area) (p : RangePair) → (k == p.reader) ≡ false → times k rs p ≡ 0
times_other k [] p n = refl
times_other k (r ∷ rs) p n = at (is_same (pair_for r k) p) refl (times_other k rs p n)
  where
    at : (b : Bool) → is_same (pair_for r k) p ≡ b → times k rs p ≡ 0 → cond b 1 0 + times k rs p ≡ 0
    at true e ih = let z = ap (λ (q : RangePair). k == q.reader) (same_is (pair_for r k) p e) in let y = is_itself k in cc
    at false e ih = omega (arith, ih)

pub times_more : (k : ℕ) (rs : List Area) (i : ℕ) (r : Area) (p : RangePair) → i < length rs → r ≡ get_or rs i r → times k (take (i + 1) rs) p ≡ times k (take i rs) p + cond (is_same (pair_for r k) p) 1 0
times_more k rs i r p h e = ap (λ (n : ℕ). times k (take n rs) p) (add-one i) ∙ at rs i h e
  where
    at : (xs : List Area) (j : ℕ) → j < length xs → r ≡ get_or xs j r → times k (take (suc j) xs) p ≡ times k (take j xs) p + cond (is_same (pair_for r k) p) 1 0
    at [] j l f = absurd (omega arith)
    at (x ∷ xs) zero l f = let z : cond {A = ℕ} (is_same (pair_for r k) p) 1 0 ≡ cond (is_same (pair_for x k) p) 1 0 = ap {B = ℕ} (λ (y : Area). cond (is_same (pair_for y k) p) 1 0) f in omega (arith, z)
    at (x ∷ xs) (suc j) l f = let ih = at xs j (omega arith) f in omega (arith, ih)

pub less_more : (k : ℕ) (rs : List Area) (i : ℕ) (r : Area) (first old new : Bag) → i < length rs → r ≡ get_or rs i r → HasOneLess (pair_for r k) old new → ((p : RangePair) → count_of old p ≡ count_of first p - times k (take i rs) p) →
    (p : RangePair) → count_of new p ≡ count_of first p - times k (take (i + 1) rs) p
less_more k rs i r first old new h e l u p = at (is_same (pair_for r k) p) (l p) (times_more k rs i r p h e)
  where
    at : (b : Bool) → count_of new p ≡ (if b then count_of old p - 1 else count_of old p) → times k (take (i + 1) rs) p ≡ times k (take i rs) p + cond b 1 0 → count_of new p ≡ count_of first p - times k (take (i + 1) rs) p
    at true f g = omega (arith, f, g, u p)
    at false f g = omega (arith, f, g, u p)

-- ---- a room

pub put_room : (old new : Rooms) (k : ℕ) (x : Option (Option (SmallVec Area))) (o : Option (List Area)) → in_room x ≡ o → ((q : ℕ) → get nat_cmp new q ≡ cond (is_at (nat_cmp k) q) x (get nat_cmp old q)) →
    (c : ℕ) → room_at new c ≡ (if k == c then o else room_at old c)
put_room old new k x o e u c = ap in_room (u c) ∙ at (is_at (nat_cmp k) c) (k == c) (is_at-eq k c)
  where
    at : (b d : Bool) → b ≡ d → in_room (cond b x (get nat_cmp old c)) ≡ cond d o (room_at old c)
    at true true s = e
    at false false s = refl
    at true false s = cc
    at false true s = cc

pub put_others : (old new : Rooms) (k : ℕ) (x : Option (Option (SmallVec Area))) → ((q : ℕ) → get nat_cmp new q ≡ cond (is_at (nat_cmp k) q) x (get nat_cmp old q)) → (c : ℕ) → (k == c) ≡ false → get nat_cmp new c ≡ get nat_cmp old c
put_others old new k x u c n = u c ∙ ap (λ (b : Bool). cond b x (get nat_cmp old c)) (is_at-eq k c ∙ n)

-- none come
pub none_come : (old new : Rooms) (k : ℕ) (r : Option (SmallVec Area)) (b : Bool) → is_some r ≡ not b → b ≡ true → ((c : ℕ) → room_at new c ≡ (if k == c then None else room_at old c)) → (c : ℕ) → room_at new c ≡ (if k == c then items_of r else room_at old c)
none_come old new k None b e t h = h
none_come old new k (Some v) b e t h = let z : true ≡ false = e ∙ ap not t in cc

-- some come, and have a room
pub has_room : (old : Rooms) (k : ℕ) (r : Option (SmallVec Area)) (b : Bool) → is_some r ≡ not b → b ≡ false → (get nat_cmp old k ≡ None → items_of r ≡ None) → IsSome (get nat_cmp old k)
has_room old k r b e t h = at (get nat_cmp old k) r (e ∙ ap not t) h
  where
    at : (o : Option (Option (SmallVec Area))) (x : Option (SmallVec Area)) → is_some x ≡ true → (o ≡ None → items_of x ≡ None) → IsSome o
    at (Some y) x s n = refl
    at None None s n = cc
    at None (Some v) s n = let z = n refl in cc

-- what a cell had
pub had_room : (o : Option (Option (SmallVec Area))) (r : Option (SmallVec Area)) (s : Option (Option (SmallVec Area))) → s ≡ o → r ≡ option_flatten s → items_of r ≡ in_room o
had_room o r s e f = ap items_of f ∙ ap (λ (x : Option (Option (SmallVec Area))). items_of (option_flatten x)) e ∙ at o
  where
    at : (x : Option (Option (SmallVec Area))) → items_of (option_flatten x) ≡ in_room x
    at None = refl
    at (Some y) = refl

in_room-pinned : (o : Option (Option (SmallVec Area))) → in_room o ≡ items_of (unwrap_or o None)
in_room-pinned None = refl
in_room-pinned (Some x) = refl

-- where each cell holds the same, it reads the same
pub reads_same : (old new : Rooms) → HoldsTheSame None old.entries new.entries → (c : ℕ) → room_at new c ≡ room_at old c
reads_same old new h c = in_room-pinned (get nat_cmp new c) ∙ ap items_of (h c) ∙ sym (in_room-pinned (get nat_cmp old c))

-- ---- an edit is taken, cell by cell

pub record IsTaking (first_next : Coming) (first : Rooms) (next : Coming) (rooms : Rooms) (readers : Bag) : Type 0 where
  pub ordered : IsOrdered nat_cmp rooms
  pub order : AreInOrder next
  pub has_rooms : HasRooms rooms next
  pub pairs : HasBoth readers rooms next
  pub over : (c : ℕ) → room_over next rooms c ≡ room_over first_next first c

pub record IsTakingBack (first : Rooms) (next : Coming) (rooms : Rooms) (readers : Bag) : Type 0 where
  pub ordered : IsOrdered nat_cmp rooms
  pub order : AreInOrder next
  pub pairs : HasBoth readers rooms next
  pub same : (c : ℕ) → room_at rooms c ≡ room_at first c

-- the cell is no longer to come
abbrev pub Popped : Coming → Coming → ℕ → Type 0
Popped next later k = (q : ℕ) → brought_to later q ≡ cond (is_at (nat_cmp k) q) None (brought_to next q)

pub popped_here : (next later : Coming) (k : ℕ) → Popped next later k → brought_to later k ≡ None
popped_here next later k u = u k ∙ ap (λ (b : Bool). cond b None (brought_to next k)) (is_at-eq k k ∙ is_itself k)

pub popped_other : (next later : Coming) (k : ℕ) → Popped next later k → (c : ℕ) → (k == c) ≡ false → brought_to later c ≡ brought_to next c
popped_other next later k u c n = u c ∙ ap (λ (b : Bool). cond b None (brought_to next c)) (is_at-eq k c ∙ n)

abbrev pub Loses : ℕ → Option (List Area) → Bag → Bag → Type 0
Loses k o old new = (p : RangePair) → count_of new p ≡ count_of old p - times k (areas_of o) p

pub times_room : (rooms : Rooms) (p : RangePair) (o : Option (List Area)) → room_at rooms p.reader ≡ o → times_in rooms p ≡ times p.reader (areas_of o) p
times_room rooms p o e = ap (λ (x : Option (List Area)). times p.reader (areas_of x) p) e

pub times_brought : (next : Coming) (p : RangePair) (o : Option (List Area)) → coming_at next p.reader ≡ o → times_coming next p ≡ times p.reader (areas_of o) p
times_brought next p o e = ap (λ (x : Option (List Area)). times p.reader (areas_of x) p) e

pub taking_step : (first_next : Coming) (first : Rooms) (next later : Coming) (rooms new : Rooms) (readers fewer : Bag) (k : ℕ) (o stood : Option (SmallVec Area)) → next ≡ later ++ (k, o) ∷ [] → IsOrdered nat_cmp new →
    ((c : ℕ) → room_at new c ≡ (if k == c then items_of o else room_at rooms c)) → ((c : ℕ) → (k == c) ≡ false → get nat_cmp new c ≡ get nat_cmp rooms c) → items_of stood ≡ room_at rooms k → Loses k (items_of stood) readers fewer →
    IsTaking first_next first next rooms readers → IsTaking first_next first later new fewer
taking_step first_next first next later rooms new readers fewer k o stood is ord n nx s l t = record {
  ordered = ord;
  order = order_left next later k o t.order is;
  has_rooms = λ c h. room c h (k == c) refl;
  pairs = λ p. counted p (k == p.reader) refl;
  over = λ c. over c (k == c) refl ∙ t.over c;
}
  where
    g : brought_to next k ≡ Some o
    g = last_there next later k o t.order is

    u : Popped next later k
    u = last_gone next later k o t.order is

    here : (c : ℕ) → (k == c) ≡ true → room_at new c ≡ items_of o
    here c e = n c ∙ ap (λ (b : Bool). cond b (items_of o) (room_at rooms c)) e

    there : (c : ℕ) → (k == c) ≡ false → room_at new c ≡ room_at rooms c
    there c e = n c ∙ ap (λ (b : Bool). cond b (items_of o) (room_at rooms c)) e

    no_more : (c : ℕ) → (k == c) ≡ true → brought_to later c ≡ None
    no_more c e = ap (λ (x : ℕ). brought_to later x) (sym (same_cell c k e)) ∙ popped_here next later k u

    was : (c : ℕ) → (k == c) ≡ true → brought_to next c ≡ Some o
    was c e = ap (λ (x : ℕ). brought_to next x) (sym (same_cell c k e)) ∙ g

    room : (c : ℕ) → get nat_cmp new c ≡ None → (b : Bool) → (k == c) ≡ b → coming_at later c ≡ None
    room c h true e = ap in_room (no_more c e)
    room c h false e = ap in_room (popped_other next later k u c e) ∙ t.has_rooms c (sym (nx c e) ∙ h)

    over : (c : ℕ) (b : Bool) → (k == c) ≡ b → room_over later new c ≡ room_over next rooms c
    over c true e = ap (λ (x : Option (Option (SmallVec Area))). put_over x (room_at new c)) (no_more c e) ∙ here c e ∙ ap (λ (x : Option (Option (SmallVec Area))). put_over x (room_at rooms c)) (sym (was c e))
    over c false e = ap (λ (x : Option (Option (SmallVec Area))). put_over x (room_at new c)) (popped_other next later k u c e) ∙ ap (λ (x : Option (List Area)). put_over (brought_to next c) x) (there c e)

    counted : (p : RangePair) (b : Bool) → (k == p.reader) ≡ b → count_of fewer p ≡ times_in new p + times_coming later p
    counted p true e =
        let r : k ≡ p.reader = same_cell p.reader k e in
        let a = t.pairs p in
        let d : times k (areas_of (items_of stood)) p ≡ times_in rooms p = ap (λ (x : Option (List Area)). times k (areas_of x) p) s ∙ ap (λ (x : ℕ). times x (areas_of (room_at rooms x)) p) r in
        let f : times_coming next p ≡ times p.reader (areas_of (items_of o)) p = times_brought next p (items_of o) (ap in_room (was p.reader e)) in
        let h : times_in new p ≡ times p.reader (areas_of (items_of o)) p = times_room new p (items_of o) (here p.reader e) in
        let i : times_coming later p ≡ 0 = times_brought later p None (ap in_room (no_more p.reader e)) in
        omega (arith, a, d, f, h, i, l p)
    counted p false e =
        let a = t.pairs p in
        let d = times_other k (areas_of (items_of stood)) p e in
        let f : times_coming later p ≡ times_coming next p = times_brought later p (coming_at next p.reader) (ap in_room (popped_other next later k u p.reader e)) in
        let h : times_in new p ≡ times_in rooms p = times_room new p (room_at rooms p.reader) (there p.reader e) in
        omega (arith, a, d, f, h, l p)

pub cancelling_step : (first : Rooms) (next later : Coming) (rooms new : Rooms) (readers fewer : Bag) (k : ℕ) (o : Option (SmallVec Area)) → next ≡ later ++ (k, o) ∷ [] → Loses k (items_of o) readers fewer → IsOrdered nat_cmp new →
    ((c : ℕ) → room_at new c ≡ room_at rooms c) → IsTakingBack first next rooms readers → IsTakingBack first later new fewer
cancelling_step first next later rooms new readers fewer k o is l ord n t = record {
  ordered = ord;
  order = order_left next later k o t.order is;
  pairs = λ p. counted p (k == p.reader) refl;
  same = λ c. n c ∙ t.same c;
}
  where
    g : brought_to next k ≡ Some o
    g = last_there next later k o t.order is

    u : Popped next later k
    u = last_gone next later k o t.order is

    counted : (p : RangePair) (b : Bool) → (k == p.reader) ≡ b → count_of fewer p ≡ times_in new p + times_coming later p
    counted p true e =
        let r : k ≡ p.reader = same_cell p.reader k e in
        let a = t.pairs p in
        let d : times k (areas_of (items_of o)) p ≡ times p.reader (areas_of (items_of o)) p = ap (λ (x : ℕ). times x (areas_of (items_of o)) p) r in
        let f : times_coming next p ≡ times p.reader (areas_of (items_of o)) p = times_brought next p (items_of o) (ap in_room (ap (λ (x : ℕ). brought_to next x) (sym r) ∙ g)) in
        let h : times_in new p ≡ times_in rooms p = times_room new p (room_at rooms p.reader) (n p.reader) in
        let i : times_coming later p ≡ 0 = times_brought later p None (ap in_room (ap (λ (x : ℕ). brought_to later x) (sym r) ∙ popped_here next later k u)) in
        omega (arith, a, d, f, h, i, l p)
    counted p false e =
        let a = t.pairs p in
        let d = times_other k (areas_of (items_of o)) p e in
        let f : times_coming later p ≡ times_coming next p = times_brought later p (coming_at next p.reader) (ap in_room (popped_other next later k u p.reader e)) in
        let h : times_in new p ≡ times_in rooms p = times_room new p (room_at rooms p.reader) (n p.reader) in
        omega (arith, a, d, f, h, l p)

pub no_entries : (next : Coming) → next ≡ [] → (c : ℕ) → brought_to next c ≡ None
no_entries next h c = ap (λ (es : Coming). brought_to es c) h

none_left : (next : Coming) → next ≡ [] → (p : RangePair) → times_coming next p ≡ 0
none_left next h p = times_brought next p None (ap in_room (no_entries next h p.reader))

pub taking_end : (first_next : Coming) (first : Rooms) (next : Coming) (rooms : Rooms) (readers : Bag) → next ≡ [] → IsTaking first_next first next rooms readers → ((c : ℕ) → room_at rooms c ≡ room_over first_next first c) × HasPairs readers rooms
taking_end first_next first next rooms readers h t = (
  λ c. ap (λ (x : Option (Option (SmallVec Area))). put_over x (room_at rooms c)) (sym (no_entries next h c)) ∙ t.over c,
  λ p. let a = t.pairs p in let b = none_left next h p in omega (arith, a, b),
)

pub cancelling_end : (first : Rooms) (next : Coming) (rooms : Rooms) (readers : Bag) → next ≡ [] → IsTakingBack first next rooms readers → HasPairs readers rooms
cancelling_end first next rooms readers h t = λ p. let a = t.pairs p in let b = none_left next h p in omega (arith, a, b)
