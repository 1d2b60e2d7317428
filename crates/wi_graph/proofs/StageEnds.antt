-- An edit is staged, or refused.
use Rattle.wi_graph.proofs.Words.{◌≡◌, ℕ, Bool, ◌&&◌, ◌||◌, List, not, Option, Some, None, option_map, IfSome, IfNone, refl, ap, sym, ◌∙◌, nat_cmp, BTreeSet, contains, IsOrdered, Content, Bag, is_one_of, Edges, Staging, staging, edges_after, Staged, Turns, Rooms, Coming, brought_to, room_at, put_over, room_over, edges_in, edges_over, AreInOrder, HasNoIdle, HasRooms, HasPairs, HasBoth, less_these, IsGraph, IsStaged, ReadsStay, turned_by, AreTurns}
use Rattle.wi_graph.proofs.ChangeSteps.{stay_edges, edges_stay}
use Rattle.wi_graph.proofs.SetSteps.{AreNew, came_before}
use Rattle.wi_graph.proofs.GraphEnds.{view_of, cyclic_over}

-- the edit is staged
pub staged_graph : (rooms new : Rooms) (next : Coming) (readers more : Bag) (cyclic has : BTreeSet ℕ) (turns : Turns) → IsGraph rooms readers cyclic → AreInOrder next → HasNoIdle rooms next → IsOrdered nat_cmp new → HasRooms new next → HasBoth more new next →
    ((c : ℕ) → room_at new c ≡ room_at rooms c) → AreTurns rooms next cyclic turns →
    ((c : ℕ) → contains nat_cmp has c ≡ (contains nat_cmp cyclic c || is_one_of turns.became.items c)) → IsStaged new next more has turns
staged_graph rooms new next readers more cyclic has turns g r n o hr hb e t h = record {
  ordered = o;
  order = r;
  no_idle = λ c i. n c (i ∙ e c);
  has_rooms = hr;
  pairs = hb;
  before = cyclic_over (room_at new) (room_at rooms) (less_these has turns.became.items) (contains nat_cmp cyclic) e (came_before cyclic has turns.became.items t.fresh h) g.circular;
  after = cyclic_over (room_over next new) (room_over next rooms) (less_these has turns.ceased.items) (turned_by cyclic turns)
      (λ c. ap (put_over (brought_to next c)) (e c))
      (λ c. ap (λ (b : Bool). b && not (is_one_of turns.ceased.items c)) (h c)) t.after;
}

-- or refused
pub same_graph : (rooms : Rooms) (readers : Bag) (cyclic has : BTreeSet ℕ) → IsGraph rooms readers cyclic → ((c : ℕ) → contains nat_cmp has c ≡ contains nat_cmp cyclic c) → IsGraph rooms readers has
same_graph rooms readers cyclic has g h = record {
  ordered = g.ordered;
  pairs = g.pairs;
  circular = cyclic_over (room_at rooms) (room_at rooms) (contains nat_cmp has) (contains nat_cmp cyclic) (λ c. refl) h g.circular;
}

pub refused_graph : (old new : Rooms) (before after : Bag) (cyclic mid has : BTreeSet ℕ) (became taken : List ℕ) → IsGraph old before cyclic → IsOrdered nat_cmp new → ((c : ℕ) → room_at new c ≡ room_at old c) → HasPairs after new →
    AreNew became cyclic → ((c : ℕ) → contains nat_cmp mid c ≡ (contains nat_cmp cyclic c || is_one_of became c)) → taken ≡ became → ((c : ℕ) → contains nat_cmp has c ≡ less_these mid taken c) → IsGraph new after has
refused_graph old new before after cyclic mid has became taken g o e p k m t h = record {
  ordered = o;
  pairs = p;
  circular = cyclic_over (room_at new) (room_at old) (contains nat_cmp has) (contains nat_cmp cyclic) e (λ c. h c ∙ ap (λ (xs : List ℕ). less_these mid xs c) t ∙ came_before cyclic mid became k m c) g.circular;
}

pub refused_invariant : (old new : Rooms) (readers : Bag) (cyclic : BTreeSet ℕ) (o : Option Staged) → option_map (λ x. edges_over (edges_in old.entries) x.next.items) o ≡ None → IsGraph new readers cyclic →
    IfNone o (IsGraph new readers cyclic) × IfSome o (λ x. IsStaged new x.next.items readers cyclic x.turns)
refused_invariant old new readers cyclic None e g = (g, tt)
refused_invariant old new readers cyclic (Some x) e g = cc

pub refused_view : (old new : Rooms) (o : Option Staged) (now : Staging) → view_of old o ≡ now → edges_in new.entries ≡ edges_in old.entries → view_of new o ≡ now
refused_view old new o now v k = ap (λ (es : Edges). staging es (option_map (λ x. edges_over es x.next.items) o)) k ∙ v

pub staged_view : (old new : Rooms) (later : Coming) (o : Option Staged) (now : Staging) (xs : List (ℕ × Option Content)) → view_of old o ≡ now → edges_in new.entries ≡ edges_in old.entries → edges_over (edges_in new.entries) later ≡ edges_after (edges_in old.entries) xs →
    staging (edges_in new.entries) (Some (edges_over (edges_in new.entries) later)) ≡ staging now.now (Some (edges_after now.now xs))
staged_view old new later o now xs v k m =
    ap (λ (es : Edges). staging es (Some (edges_over (edges_in new.entries) later))) k ∙ ap (λ (es : Edges). staging (edges_in old.entries) (Some es)) m
    ∙ ap (λ (n : Staging). staging n.now (Some (edges_after n.now xs))) v

-- ---- whether it changes what cells read

pub stays_view : (rooms : Rooms) (o : Option Staged) (now : Staging) (x : Staged) → o ≡ Some x → view_of rooms o ≡ now → IsOrdered nat_cmp rooms → ReadsStay rooms x.next.items → now.staged ≡ Some now.now
stays_view rooms None now x e v h s = cc
stays_view rooms (Some y) now x e v h s =
    let z : y ≡ x = cc in
    ap (λ (n : Staging). n.staged) (sym v) ∙ ap (λ (es : Edges). Some es) (ap (λ (w : Staged). edges_over (edges_in rooms.entries) w.next.items) z ∙ stay_edges rooms x.next.items h s) ∙ ap (λ (n : Staging). Some n.now) v

pub view_stays : (rooms : Rooms) (o : Option Staged) (now : Staging) (x : Staged) → o ≡ Some x → view_of rooms o ≡ now → IsOrdered nat_cmp rooms → now.staged ≡ Some now.now → ReadsStay rooms x.next.items
view_stays rooms None now x e v h k = cc
view_stays rooms (Some y) now x e v h k =
    let z : y ≡ x = cc in
    let f : Some (edges_over (edges_in rooms.entries) y.next.items) ≡ Some (edges_in rooms.entries) = ap (λ (n : Staging). n.staged) v ∙ k ∙ ap (λ (n : Staging). Some n.now) (sym v) in
    let g : edges_over (edges_in rooms.entries) y.next.items ≡ edges_in rooms.entries = cc in
    edges_stay rooms x.next.items h (ap (λ (w : Staged). edges_over (edges_in rooms.entries) w.next.items) (sym z) ∙ g)
