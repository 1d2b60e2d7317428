-- A graph of no formulas, and one after an edit.
use Rattle.wi_graph.proofs.Words.{◌≡◌, ℕ, Bool, false, List, [], Option, Some, None, option_map, IfSome, IfNone, ap, sym, ◌∙◌, subst, false_from_ne_true, list_any, nat_cmp, lookup, keys_of, is_at, BTreeSet, contains, Area, IsOrdered, Bag, count_of, circular, unwrap_or, Sheet, Edges, AreEdgesOf, Staging, staging, Staged, Turns, Rooms, Coming, in_room, room_at, room_over, edges_in, edges_over, areas_of, times, HasPairs, less_these, AreCyclic, IsGraph, IsStaged, SmallVec}
use Rattle.std.specs.List.Sorted.{IsStrictlySortedBy}
use Rattle.wi_graph.proofs.Walks.{circular_walks}
use Rattle.wi_graph.proofs.GraphSteps.{graph_circular}

no_cyclic : (c : ℕ) → circular [] c ≡ false
no_cyclic c = false_from_ne_true (circular [] c) (λ h. let z = circular_walks [] c h 0 in cc)

nothing_there : (rooms : Rooms) → rooms.entries ≡ [] → (c : ℕ) → room_at rooms c ≡ None
nothing_there rooms e c = ap (λ (es : List (ℕ × Option (SmallVec Area))). in_room (lookup (is_at (nat_cmp c)) es)) e

order_of_none : (rooms : Rooms) → rooms.entries ≡ [] → IsOrdered nat_cmp rooms
unfolding IsStrictlySortedBy
order_of_none rooms e = subst (λ (es : List (ℕ × Option (SmallVec Area))). IsStrictlySortedBy nat_cmp (keys_of es)) (sym e) tt

pub empty_graph : (rooms : Rooms) (readers : Bag) (cyclic : BTreeSet ℕ) → rooms.entries ≡ [] → readers ≡ [] → cyclic.keys ≡ [] → IsGraph rooms readers cyclic
empty_graph rooms readers cyclic e r n = record {
  ordered = order_of_none rooms e;
  pairs = λ p. ap (λ (b : Bag). count_of b p) r ∙ sym (ap (λ (o : Option (List Area)). times p.reader (areas_of o) p) (nothing_there rooms e p.reader));
  circular = record {
    sheet = [];
    are = nothing_there rooms e;
    cyclic = λ c. ap (λ (xs : List ℕ). list_any (is_at (nat_cmp c)) xs) n ∙ sym (no_cyclic c);
  };
}

-- nothing is staged
pub unstaged : (rooms : Rooms) (readers : Bag) (cyclic : BTreeSet ℕ) (staged : Option Staged) → option_map (λ x. edges_over (edges_in rooms.entries) x.next.items) staged ≡ None → IfNone staged (IsGraph rooms readers cyclic) → IsGraph rooms readers cyclic
unstaged rooms readers cyclic None e h = h
unstaged rooms readers cyclic (Some x) e h = cc

pub cyclic_over : (f g : ℕ → Option (List Area)) (p q : ℕ → Bool) → ((c : ℕ) → f c ≡ g c) → ((c : ℕ) → p c ≡ q c) → AreCyclic g q → AreCyclic f p
cyclic_over f g p q e h a = record { sheet = a.sheet; are = λ c. e c ∙ a.are c; cyclic = λ c. h c ∙ a.cyclic c }

pub committed_graph : (old new : Rooms) (next : Coming) (before after : Bag) (had has : BTreeSet ℕ) (turns : Turns) → IsStaged old next before had turns → IsOrdered nat_cmp new → ((c : ℕ) → room_at new c ≡ room_over next old c) → HasPairs after new →
    ((c : ℕ) → contains nat_cmp has c ≡ less_these had turns.ceased.items c) → IsGraph new after has
committed_graph old new next before after had has turns s o e p h = record {
  ordered = o;
  pairs = p;
  circular = cyclic_over (room_at new) (room_over next old) (contains nat_cmp has) (less_these had turns.ceased.items) e h s.after;
}

-- ---- what it is seen as

abbrev pub view_of : Rooms → Option Staged → Staging
view_of rooms o = staging (edges_in rooms.entries) (option_map (λ x. edges_over (edges_in rooms.entries) x.next.items) o)

pub committed_view : (old new : Rooms) (o after : Option Staged) (now : Staging) (x : Staged) → o ≡ Some x → after ≡ None → view_of old o ≡ now → edges_in new.entries ≡ edges_over (edges_in old.entries) x.next.items →
    view_of new after ≡ staging (unwrap_or now.staged now.now) None
committed_view old new None after now x e f v k = cc
committed_view old new (Some y) (Some z) now x e f v k = cc
committed_view old new (Some y) None now x e f v k =
    let s : y ≡ x = cc in
    ap (λ (z : Edges). staging z None) (k ∙ ap (λ (w : Staged). edges_over (edges_in old.entries) w.next.items) (sym s)) ∙ ap (λ (n : Staging). staging (unwrap_or n.staged n.now) None) v

pub cancelled_view : (old new : Rooms) (o after : Option Staged) (now : Staging) → after ≡ None → view_of old o ≡ now → edges_in new.entries ≡ edges_in old.entries → view_of new after ≡ staging now.now None
cancelled_view old new o (Some z) now f v k = cc
cancelled_view old new o None now f v k = ap (λ (z : Edges). staging z None) k ∙ ap (λ (n : Staging). staging n.now None) v

pub staged_is : (rooms : Rooms) (readers : Bag) (cyclic : BTreeSet ℕ) (o : Option Staged) (x : Staged) → o ≡ Some x → IfSome o (λ y. IsStaged rooms y.next.items readers cyclic y.turns) → IsStaged rooms x.next.items readers cyclic x.turns
staged_is rooms readers cyclic o x e h = rw e at h

-- which cells it says are circular
pub circular_is : (rooms : Rooms) (readers : Bag) (cyclic : BTreeSet ℕ) (o : Option Staged) (now : Staging) (at : ℕ) (r : Bool) → view_of rooms o ≡ now → now.staged ≡ None →
    IfNone o (IsGraph rooms readers cyclic) × IfSome o (λ x. IsStaged rooms x.next.items readers cyclic x.turns) → r ≡ contains nat_cmp cyclic at → (s : Sheet) → AreEdgesOf now.now s → r ≡ circular s at
circular_is rooms readers cyclic o now at r v n g e s h =
    let graph = unstaged rooms readers cyclic o (ap (λ (x : Staging). x.staged) v ∙ n) g.0 in
    e ∙ graph_circular rooms readers cyclic graph s (subst (λ (x : Staging). AreEdgesOf x.now s) (sym v) h) at
