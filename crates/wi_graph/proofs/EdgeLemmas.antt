-- Edges in order, and what is found in them.
use Rattle.wi_graph.proofs.Words.{◌≡◌, ◌==◌, ◌<◌, ℕ, Bool, true, false, cond, not, List, [], ◌∷◌, Option, Some, None, refl, ap, sym, ◌∙◌, subst, nat_cmp, lookup, is_at, Area, IsOrdered, ComeAfter, Ascends, Ascends-from_order, Ascends-filter, Ascends-insert, lookup_after, is_at-eq, at_same, found-insert, found-without, Value, Empty, Number, Text, Logical, Fault, Content, Constant, Formula, Sheet, constant, content_of, with_content, Edges, areas_in, areas_at, AreEdgesOf, with_areas, edges_after, brought, sheet_after, Rooms, Coming, brought_to, items_of, in_room, room_at, put_over, room_over, with_room, edges_in, edges_over, SmallVec, same_entries}

-- ---- what is found

pub areas_with : (es : Edges) (c : ℕ) (o : Option (List Area)) (q : ℕ) → areas_at (with_areas es c o) q ≡ cond (q == c) o (areas_at es q)
areas_with es c None q = found-without es c q
areas_with es c (Some x) q = found-insert es c x q

pub areas_over : (es : Edges) (xs : Coming) (q : ℕ) → areas_at (edges_over es xs) q ≡ put_over (brought_to xs q) (areas_at es q)
areas_over es [] q = refl
areas_over es (x ∷ xs) q = areas_with (edges_over es xs) x.0 (items_of x.1) q ∙ at (q == x.0) (is_at (nat_cmp q) x.0) (is_at-eq q x.0) (areas_over es xs q)
  where
    at : (b d : Bool) → d ≡ b → areas_at (edges_over es xs) q ≡ put_over (lookup (is_at (nat_cmp q)) xs) (areas_at es q) →
        cond b (items_of x.1) (areas_at (edges_over es xs) q) ≡ put_over (cond d (Some x.1) (lookup (is_at (nat_cmp q)) xs)) (areas_at es q)
    at true true e ih = refl
    at false false e ih = ih
    at true false e ih = cc
    at false true e ih = cc

-- ---- what stays in order

pub ascends_with : (es : Edges) (c : ℕ) (o : Option (List Area)) → Ascends es → Ascends (with_areas es c o)
ascends_with es c None h = Ascends-filter (λ e. not (e.0 == c)) es h
ascends_with es c (Some x) h = Ascends-insert c x es h

pub ascends_over : (es : Edges) (xs : Coming) → Ascends es → Ascends (edges_over es xs)
ascends_over es [] h = h
ascends_over es (x ∷ xs) h = ascends_with (edges_over es xs) x.0 (items_of x.1) (ascends_over es xs h)

pub ascends_after : (es : Edges) (xs : List (ℕ × Option Content)) → Ascends es → Ascends (edges_after es xs)
ascends_after es [] h = h
ascends_after es (x ∷ xs) h = ascends_after (with_areas es x.0 (areas_in x.1)) xs (ascends_with es x.0 (areas_in x.1) h)

-- ---- rooms

after_room : (a c : ℕ) (o : Option (SmallVec Area)) (es : Edges) → a < c → ComeAfter a es → ComeAfter a (with_room c o es)
after_room a c None es l h = h
after_room a c (Some v) es l h = (l, h)

after_rooms : (a : ℕ) (xs : List (ℕ × Option (SmallVec Area))) → ComeAfter a xs → ComeAfter a (edges_in xs)
after_rooms a [] h = tt
after_rooms a (x ∷ xs) h = after_room a x.0 x.1 (edges_in xs) h.0 (after_rooms a xs h.1)

ascends_room : (c : ℕ) (o : Option (SmallVec Area)) (es : Edges) → ComeAfter c es → Ascends es → Ascends (with_room c o es)
ascends_room c None es l h = h
ascends_room c (Some v) es l h = (l, h)

pub ascends_rooms : (xs : List (ℕ × Option (SmallVec Area))) → Ascends xs → Ascends (edges_in xs)
ascends_rooms [] h = tt
ascends_rooms (x ∷ xs) h = ascends_room x.0 x.1 (edges_in xs) (after_rooms x.0 xs h.0) (ascends_rooms xs h.1)

pub areas_rooms : (xs : List (ℕ × Option (SmallVec Area))) → Ascends xs → (q : ℕ) → areas_at (edges_in xs) q ≡ in_room (lookup (is_at (nat_cmp q)) xs)
areas_rooms [] h q = refl
areas_rooms (x ∷ xs) h q = at x.1 (is_at (nat_cmp q) x.0) refl (areas_rooms xs h.1 q)
  where
    at : (o : Option (SmallVec Area)) (b : Bool) → is_at (nat_cmp q) x.0 ≡ b → areas_at (edges_in xs) q ≡ in_room (lookup (is_at (nat_cmp q)) xs) →
        areas_at (with_room x.0 o (edges_in xs)) q ≡ in_room (cond b (Some o) (lookup (is_at (nat_cmp q)) xs))
    at None true e ih = lookup_after q (edges_in xs) (after_rooms q xs (subst (λ (z : ℕ). ComeAfter z xs) (at_same q x.0 e) h.0))
    at None false e ih = ih
    at (Some v) true e ih = ap (λ (b : Bool). cond b (Some v.items) (areas_at (edges_in xs) q)) e
    at (Some v) false e ih = ap (λ (b : Bool). cond b (Some v.items) (areas_at (edges_in xs) q)) e ∙ ih

pub rooms_over : (old new : Rooms) (next : Coming) → IsOrdered nat_cmp old → IsOrdered nat_cmp new → ((c : ℕ) → room_at new c ≡ room_over next old c) → edges_in new.entries ≡ edges_over (edges_in old.entries) next
rooms_over old new next h k e =
    let a = Ascends-from_order old.entries h in
    let b = Ascends-from_order new.entries k in
    same_entries (edges_in new.entries) (edges_over (edges_in old.entries) next) (ascends_rooms new.entries b) (ascends_over (edges_in old.entries) next (ascends_rooms old.entries a))
    (λ q. areas_rooms new.entries b q ∙ e q ∙ ap (λ (o : Option (List Area)). put_over (brought_to next q) o) (sym (areas_rooms old.entries a q)) ∙ sym (areas_over (edges_in old.entries) next q))

pub rooms_same : (old new : Rooms) → IsOrdered nat_cmp old → IsOrdered nat_cmp new → ((c : ℕ) → room_at new c ≡ room_at old c) → edges_in new.entries ≡ edges_in old.entries
rooms_same old new h k e =
    let a = Ascends-from_order old.entries h in
    let b = Ascends-from_order new.entries k in
    same_entries (edges_in new.entries) (edges_in old.entries) (ascends_rooms new.entries b) (ascends_rooms old.entries a) (λ q. areas_rooms new.entries b q ∙ e q ∙ sym (areas_rooms old.entries a q))

-- ---- the edges are those of the edited sheet

pub content_of-with : (s : Sheet) (c : ℕ) (o : Option Content) (q : ℕ) → content_of (with_content s c o) q ≡ cond (q == c) o (content_of s q)
content_of-with s c None q = found-without s c q
content_of-with s c (Some x) q = found-insert s c x q

no_areas : (v : Value) → areas_in (constant v) ≡ None
no_areas Empty = refl
no_areas (Number n) = refl
no_areas (Text t) = refl
no_areas (Logical b) = refl
no_areas (Fault e) = refl

areas_brought : (o : Option Content) → areas_in (brought o) ≡ areas_in o
areas_brought None = refl
areas_brought (Some (Constant v)) = no_areas v
areas_brought (Some (Formula t)) = refl

areas_in-cond : (b : Bool) (o p : Option Content) → areas_in (cond b o p) ≡ cond b (areas_in o) (areas_in p)
areas_in-cond true o p = refl
areas_in-cond false o p = refl

edges_step : (es : Edges) (s : Sheet) (c : ℕ) (o : Option Content) → AreEdgesOf es s → AreEdgesOf (with_areas es c (areas_in o)) (with_content s c (brought o))
edges_step es s c o h q =
    areas_with es c (areas_in o) q ∙ ap (λ (x : Option (List Area)). cond (q == c) x (areas_at es q)) (sym (areas_brought o)) ∙ ap (cond (q == c) (areas_in (brought o))) (h q)
    ∙ sym (areas_in-cond (q == c) (brought o) (content_of s q)) ∙ ap areas_in (sym (content_of-with s c (brought o) q))

pub edges_follow : (es : Edges) (s : Sheet) (changes : List (ℕ × Option Content)) → AreEdgesOf es s → AreEdgesOf (edges_after es changes) (sheet_after s changes)
edges_follow es s [] h = h
edges_follow es s (x ∷ xs) h = edges_follow (with_areas es x.0 (areas_in x.1)) (with_content s x.0 (brought x.1)) xs (edges_step es s x.0 x.1 h)
