-- What an edit brings, step by step, and a sheet that has it.
use Rattle.wi_graph.proofs.Words.{◌≡◌, ◌==◌, ◌+◌, ◌<◌, ◌≤◌, ℕ, Bool, true, false, cond, List, [], ◌∷◌, ◌++◌, take, take_all, get_or, length, Option, Some, None, refl, ap, sym, ◌∙◌, subst, arith, common_steps, or_parts, slice_eq-Decides, Decides, if◌then◌else◌, option_eq, is_none, pointwise, nat_cmp, keys_of, is_at, Area, get, IsOrdered, Empty, Content, Constant, Sheet, content_of, SameOff, Edges, areas_in, areas_at, with_areas, edges_after, Rooms, Coming, AreInOrder, brought_to, coming_at, items_of, in_room, room_at, put_over, room_over, edges_in, edges_over, areas_then, Brings, HasNoIdle, ReadsStay, Ascends-from_order, order-from_Ascends, taken_more, SmallVec, same_entries}
use Rattle.wi_values.specs.contracts.rect.RectPartialEq.TheImpl as rect
use Rattle.wi_graph.proofs.Tests.{at_itself, at_same, turn_test, is_at-eq}
use Rattle.wi_graph.proofs.Walks.{same_cell}
use Rattle.wi_graph.proofs.EdgeLemmas.{areas_with, areas_over, areas_rooms, ascends_over, ascends_after, ascends_rooms}

then_more : (xs : List (ℕ × Option Content)) (x : ℕ × Option Content) (c : ℕ) (o : Option (List Area)) → areas_then (xs ++ x ∷ []) c o ≡ cond (c == x.0) (areas_in x.1) (areas_then xs c o)
then_more [] x c o = refl
then_more (y ∷ ys) x c o = then_more ys x c (cond (c == y.0) (areas_in y.1) o)

cells_more : (xs : List (ℕ × Option Content)) (x : ℕ × Option Content) → keys_of (xs ++ x ∷ []) ≡ keys_of xs ++ x.0 ∷ []
cells_more [] x = refl
cells_more (y ∷ ys) x = ap (λ (zs : List ℕ). y.0 ∷ zs) (cells_more ys x)

pub cells_step : (xs : List (ℕ × Option Content)) (i : ℕ) (x : ℕ × Option Content) (old new : List ℕ) → i < length xs → x ≡ get_or xs i x → new ≡ old ++ x.0 ∷ [] → old ≡ keys_of (take i xs) → new ≡ keys_of (take (i + 1) xs)
cells_step xs i x old new l e n h = n ∙ ap (λ (ys : List ℕ). ys ++ x.0 ∷ []) h ∙ sym (cells_more (take i xs) x) ∙ ap keys_of (sym (taken_more xs i x l e))

-- what is next for a cell is put in, or taken out
abbrev pub Updates : ℕ → Option (Option (SmallVec Area)) → Coming → Coming → Type 0
Updates k x old new = (q : ℕ) → brought_to new q ≡ cond (is_at (nat_cmp k) q) x (brought_to old q)

abbrev pub Puts : Rooms → ℕ → Option (List Area) → Coming → Coming → Type 0
Puts rooms k o old new = (c : ℕ) → room_over new rooms c ≡ (if k == c then o else room_over old rooms c)

next_step : (rooms : Rooms) (old new : Coming) (k : ℕ) (x : Option (Option (SmallVec Area))) (o : Option (List Area)) → put_over x (room_at rooms k) ≡ o → Updates k x old new → Puts rooms k o old new
next_step rooms old new k x o e u c = ap (λ (z : Option (Option (SmallVec Area))). put_over z (room_at rooms c)) (u c) ∙ at (is_at (nat_cmp k) c) (k == c) (is_at-eq k c) refl
  where
    at : (b d : Bool) → b ≡ d → (k == c) ≡ d → put_over (cond b x (brought_to old c)) (room_at rooms c) ≡ cond d o (room_over old rooms c)
    at true true s f = ap (λ (y : ℕ). put_over x (room_at rooms y)) (sym (same_cell c k f)) ∙ e
    at false false s f = refl
    at true false s f = cc
    at false true s f = cc

pub next_put : (rooms : Rooms) (old new : Coming) (k : ℕ) (r : Option (SmallVec Area)) → Updates k (Some r) old new → Puts rooms k (items_of r) old new
next_put rooms old new k r u = next_step rooms old new k (Some r) (items_of r) refl u

pub next_out : (rooms : Rooms) (old new : Coming) (k : ℕ) (r : Option (SmallVec Area)) → items_of r ≡ room_at rooms k → Updates k None old new → Puts rooms k (items_of r) old new
next_out rooms old new k r h u = next_step rooms old new k None (items_of r) (sym h) u

-- nothing idle is next after it either
no_idle_step : (rooms : Rooms) (old new : Coming) (k : ℕ) (x : Option (Option (SmallVec Area))) → (in_room x ≡ room_at rooms k → x ≡ None) → Updates k x old new → HasNoIdle rooms old → HasNoIdle rooms new
no_idle_step rooms old new k x e u h c m = u c ∙ at (is_at (nat_cmp k) c) (k == c) (is_at-eq k c) refl (ap in_room (sym (u c)) ∙ m)
  where
    at : (b d : Bool) → b ≡ d → (k == c) ≡ d → in_room (cond b x (brought_to old c)) ≡ room_at rooms c → cond b x (brought_to old c) ≡ None
    at true true s f i = e (i ∙ sym (ap (room_at rooms) (same_cell c k f)))
    at false false s f i = h c i
    at true false s f i = cc
    at false true s f i = cc

pub out_idle : (rooms : Rooms) (old new : Coming) (k : ℕ) → Updates k None old new → HasNoIdle rooms old → HasNoIdle rooms new
out_idle rooms old new k u = no_idle_step rooms old new k None (λ i. refl) u

pub put_idle : (rooms : Rooms) (old new : Coming) (k : ℕ) (r : Option (SmallVec Area)) → (items_of r ≡ room_at rooms k → Prim.⊥) → Updates k (Some r) old new → HasNoIdle rooms old → HasNoIdle rooms new
put_idle rooms old new k r h u = no_idle_step rooms old new k (Some r) (λ i. absurd (h i)) u

pub brings_step : (xs : List (ℕ × Option Content)) (i : ℕ) (x : ℕ × Option Content) (rooms : Rooms) (old new : Coming) (o : Option (List Area)) → i < length xs → x ≡ get_or xs i x → o ≡ areas_in x.1 → Puts rooms x.0 o old new → Brings rooms old (take i xs) → Brings rooms new (take (i + 1) xs)
brings_step xs i x rooms old new o l e g u h c =
    u c ∙ ap (λ (b : Bool). cond b o (room_over old rooms c)) (turn_test x.0 c) ∙ at (c == x.0) ∙ sym (then_more (take i xs) x c (room_at rooms c))
    ∙ ap (λ (ys : List (ℕ × Option Content)). areas_then ys c (room_at rooms c)) (sym (taken_more xs i x l e))
  where
    at : (b : Bool) → cond b o (room_over old rooms c) ≡ cond b (areas_in x.1) (areas_then (take i xs) c (room_at rooms c))
    at true = g
    at false = h c

pub brings_start : (rooms : Rooms) (next : Coming) → next ≡ [] → Brings rooms next [] × HasNoIdle rooms next
brings_start rooms next e = (λ c. ap (λ (o : Option (Option (SmallVec Area))). put_over o (room_at rooms c)) (none c), λ c h. none c)
  where
    none : (c : ℕ) → brought_to next c ≡ None
    none c = ap (λ (es : Coming). brought_to es c) e

pub brings_end : (rooms : Rooms) (next : Coming) (xs : List (ℕ × Option Content)) (i : ℕ) → length xs ≤ i → Brings rooms next (take i xs) → Brings rooms next xs
brings_end rooms next xs i l h = subst (λ (ys : List (ℕ × Option Content)). Brings rooms next ys) (take_all i xs l) h

-- ---- an edit of one cell

pub brings_one : (rooms : Rooms) (k : ℕ) (o : Option Content) (r : Option (SmallVec Area)) (next : Coming) → next ≡ (k, r) ∷ [] → items_of r ≡ areas_in o → Brings rooms next ((k, o) ∷ [])
brings_one rooms k o r next e i c = ap (λ (es : Coming). room_over es rooms c) e ∙ at (is_at (nat_cmp c) k) (c == k) (is_at-eq c k)
  where
    at : (b d : Bool) → b ≡ d → put_over (cond b (Some r) None) (room_at rooms c) ≡ cond d (areas_in o) (room_at rooms c)
    at true true s = i
    at false false s = refl
    at true false s = cc
    at false true s = cc

pub brings_none : (rooms : Rooms) (k : ℕ) (o : Option Content) (r : Option (SmallVec Area)) (next : Coming) → next ≡ [] → items_of r ≡ areas_in o → items_of r ≡ room_at rooms k → Brings rooms next ((k, o) ∷ [])
brings_none rooms k o r next e i n c = ap (λ (es : Coming). room_over es rooms c) e ∙ at (c == k) refl
  where
    at : (d : Bool) → (c == k) ≡ d → room_at rooms c ≡ cond d (areas_in o) (room_at rooms c)
    at true s = ap (room_at rooms) (same_cell k c s) ∙ sym n ∙ i
    at false s = refl

pub one_idle : (rooms : Rooms) (k : ℕ) (r : Option (SmallVec Area)) (next : Coming) → next ≡ (k, r) ∷ [] → (items_of r ≡ room_at rooms k → Prim.⊥) → HasNoIdle rooms next
one_idle rooms k r next e n c i = ap (λ (es : Coming). brought_to es c) e ∙ at (is_at (nat_cmp c) k) refl (ap (λ (es : Coming). coming_at es c) (sym e) ∙ i)
  where
    at : (b : Bool) → is_at (nat_cmp c) k ≡ b → in_room (cond b (Some r) None) ≡ room_at rooms c → cond b (Some r) None ≡ None
    at true s j = absurd (n (j ∙ sym (ap (room_at rooms) (at_same c k s))))
    at false s j = refl

pub one_order : (k : ℕ) (r : Option (SmallVec Area)) (next : Coming) → next ≡ (k, r) ∷ [] → AreInOrder next
one_order k r next e = subst AreInOrder (sym e) (order-from_Ascends ((k, r) ∷ []) (tt, tt))

pub none_order : (next : Coming) → next ≡ [] → AreInOrder next
none_order next e = subst AreInOrder (sym e) (order-from_Ascends {X = Option (SmallVec Area)} [] tt)

-- ---- the edges after it

then_edges : (es : Edges) (xs : List (ℕ × Option Content)) (c : ℕ) → areas_at (edges_after es xs) c ≡ areas_then xs c (areas_at es c)
then_edges es [] c = refl
then_edges es (x ∷ xs) c = then_edges (with_areas es x.0 (areas_in x.1)) xs c ∙ ap (areas_then xs c) (areas_with es x.0 (areas_in x.1) c)

pub staged_edges : (rooms new : Rooms) (next later : Coming) (xs : List (ℕ × Option Content)) → IsOrdered nat_cmp rooms → IsOrdered nat_cmp new → Brings rooms next xs → ((c : ℕ) → room_at new c ≡ room_at rooms c) → ((c : ℕ) → brought_to later c ≡ brought_to next c) →
    edges_over (edges_in new.entries) later ≡ edges_after (edges_in rooms.entries) xs
staged_edges rooms new next later xs o p b e f =
    let s = Ascends-from_order rooms.entries o in
    let t = Ascends-from_order new.entries p in
    same_entries (edges_over (edges_in new.entries) later) (edges_after (edges_in rooms.entries) xs) (ascends_over (edges_in new.entries) later (ascends_rooms new.entries t)) (ascends_after (edges_in rooms.entries) xs (ascends_rooms rooms.entries s))
    (λ q. areas_over (edges_in new.entries) later q ∙ ap (λ (z : Option (Option (SmallVec Area))). put_over z (areas_at (edges_in new.entries) q)) (f q)
    ∙ ap (put_over (brought_to next q)) (areas_rooms new.entries t q ∙ e q) ∙ b q ∙ ap (areas_then xs q) (sym (areas_rooms rooms.entries s q)) ∙ sym (then_edges (edges_in rooms.entries) xs q))

-- ---- what stays

same_area : (x y : Area) → Decides (rect.ghosts.eq x y) (x ≡ y)
same_area x y = grind (arith, common_steps)

pub same_room : (r : Bool) (o p : Option (SmallVec Area)) → r ≡ option_eq (λ x y. pointwise rect.ghosts.eq x.items y.items) o p → Decides r (items_of o ≡ items_of p)
same_room r None None e = (λ h. refl, λ h. e)
same_room r None (Some w) e = (λ h. cc, λ h. cc)
same_room r (Some v) None e = (λ h. cc, λ h. cc)
same_room r (Some v) (Some w) e = let d = slice_eq-Decides same_area v.items w.items r e in (λ h. ap (λ (xs : List Area). Some xs) (d.0 h), λ h. let k : v.items ≡ w.items = cc in d.1 k)

pub no_room : (rooms : Rooms) (c : ℕ) (r : Bool) (o : Option (SmallVec Area)) → get nat_cmp rooms c ≡ None → r ≡ is_none o → Decides r (items_of o ≡ room_at rooms c)
no_room rooms c r None e f = (λ h. sym (ap in_room e), λ h. f)
no_room rooms c r (Some v) e f = (λ h. cc, λ h. let z : Some v.items ≡ None = h ∙ ap in_room e in cc)

-- each cell goes on reading what it reads only where nothing is next
pub nothing_next : (rooms : Rooms) (next : Coming) → next ≡ [] → ReadsStay rooms next
nothing_next rooms next e c = ap (λ (es : Coming). room_over es rooms c) e

pub next_nothing : (rooms : Rooms) (next : Coming) → HasNoIdle rooms next → ReadsStay rooms next → next ≡ []
next_nothing rooms [] n s = refl
next_nothing rooms (e ∷ es) n s =
    let here : brought_to (e ∷ es) e.0 ≡ Some e.1 = ap (λ (b : Bool). cond b (Some e.1) (brought_to es e.0)) (at_itself e.0) in
    let same : items_of e.1 ≡ room_at rooms e.0 = ap (λ (o : Option (Option (SmallVec Area))). put_over o (room_at rooms e.0)) (sym here) ∙ s e.0 in
    let none : Some e.1 ≡ None = sym here ∙ n e.0 (ap in_room here ∙ same) in
    cc

-- so are the edges
pub stay_edges : (rooms : Rooms) (next : Coming) → IsOrdered nat_cmp rooms → ReadsStay rooms next → edges_over (edges_in rooms.entries) next ≡ edges_in rooms.entries
stay_edges rooms next o h =
    let a = Ascends-from_order rooms.entries o in
    let s = ascends_rooms rooms.entries a in
    same_entries (edges_over (edges_in rooms.entries) next) (edges_in rooms.entries) (ascends_over (edges_in rooms.entries) next s) s
    (λ q. areas_over (edges_in rooms.entries) next q ∙ ap (put_over (brought_to next q)) (areas_rooms rooms.entries a q) ∙ h q ∙ sym (areas_rooms rooms.entries a q))

pub edges_stay : (rooms : Rooms) (next : Coming) → IsOrdered nat_cmp rooms → edges_over (edges_in rooms.entries) next ≡ edges_in rooms.entries → ReadsStay rooms next
edges_stay rooms next o e c =
    let a = Ascends-from_order rooms.entries o in
    ap (put_over (brought_to next c)) (sym (areas_rooms rooms.entries a c)) ∙ sym (areas_over (edges_in rooms.entries) next c) ∙ ap (λ (es : Edges). areas_at es c) e ∙ areas_rooms rooms.entries a c

-- ---- a sheet after it

abbrev given : Option Content → Content
given None = Constant Empty
given (Some x) = x

given_areas : (o : Option Content) → areas_in (Some (given o)) ≡ areas_in o
given_areas None = refl
given_areas (Some x) = refl

abbrev pub then_sheet : Sheet → List (ℕ × Option Content) → Sheet
then_sheet s [] = s
then_sheet s (x ∷ xs) = then_sheet ((x.0, given x.1) ∷ s) xs

pub then_contents : (s : Sheet) (xs : List (ℕ × Option Content)) (c : ℕ) → areas_in (content_of (then_sheet s xs) c) ≡ areas_then xs c (areas_in (content_of s c))
then_contents s [] c = refl
then_contents s (x ∷ xs) c = then_contents ((x.0, given x.1) ∷ s) xs c ∙ ap (areas_then xs c) (at (is_at (nat_cmp c) x.0) (c == x.0) (is_at-eq c x.0))
  where
    at : (b d : Bool) → b ≡ d → areas_in (cond b (Some (given x.1)) (content_of s c)) ≡ cond d (areas_in x.1) (areas_in (content_of s c))
    at true true e = given_areas x.1
    at false false e = refl
    at true false e = cc
    at false true e = cc

pub then_same : (s : Sheet) (xs : List (ℕ × Option Content)) → SameOff s (then_sheet s xs) (keys_of xs)
then_same s [] d h = refl
then_same s (x ∷ xs) d h =
    let n = or_parts (x.0 == d) _ h in
    let k : is_at (nat_cmp d) x.0 ≡ false = is_at-eq d x.0 ∙ turn_test d x.0 ∙ n.0 in
    sym (ap (λ (b : Bool). cond b (Some (given x.1)) (content_of s d)) k) ∙ then_same ((x.0, given x.1) ∷ s) xs d n.1
