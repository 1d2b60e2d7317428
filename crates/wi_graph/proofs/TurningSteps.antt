-- Steps to the cells of a cone that are circular after an edit.
use Rattle.wi_graph.proofs.Words.{◌≡◌, ◌==◌, ◌+◌, ◌<◌, ℕ, Bool, true, false, ◌&&◌, ◌||◌, cond, not, List, [], filter, take, get_or, length, Option, Some, refl, ap, sym, ◌∙◌, and_parts, and_from, not-true, any-filter_same, keys_of, nat_cmp, Vec, SmallVec, BTreeMap, is_at, BTreeSet, contains, difference, Area, is_within_one, IsOrdered, Sheet, content_of, content_reads, Bag, circular, is_one_of, in_cone, AreEdgesOf, areas_in, Turns, areas_then, IsEditCone, ceased_from, Rooms, Coming, AreInOrder, brought_to, put_over, items_of, room_at, room_over, edges_in, areas_of, HasPairs, AreCyclic, IsGraph, as_set, IsConeOf, items_there, reads_in, EachReadsOne, AreStripped, IsWithin, reads_outside, turned_by, AreTurns, FindsCyclic, Ascends-from_order, has_key}
use Rattle.std.specs.BTreeMap.{get}
use Rattle.wi_graph.proofs.Tests.{is_at-eq, clash}
use Rattle.wi_graph.proofs.Walks.{same_cell}
use Rattle.wi_graph.proofs.SetSteps.{in_difference, taken}
use Rattle.wi_graph.proofs.SearchSteps.{found_cone}
use Rattle.wi_graph.proofs.PinnedSteps.{pinned_finds, finds_pinned, pinned_test}
use Rattle.wi_graph.proofs.EdgeLemmas.{areas_rooms}
use Rattle.wi_graph.proofs.ComingSteps.{found_longer}
use Rattle.wi_graph.proofs.ChangeSteps.{then_sheet, then_contents, then_same}
use Rattle.wi_graph.proofs.GraphSteps.{reads_areas, graph_readers}
use Rattle.wi_graph.proofs.GraphEnds.{cyclic_over}
use Rattle.wi_graph.proofs.CircularAfter.{circular_after}

-- ---- what they read

pub reads_step : (cells : List ℕ) (i x : ℕ) (f : ℕ → List Area) (old new : BTreeMap ℕ (Vec Area)) (v : Vec Area) → i < length cells → x ≡ get_or cells i x → v.items ≡ f x → ((q : ℕ) → get nat_cmp new q ≡ cond (is_at (nat_cmp x) q) (Some v) (get nat_cmp old q)) →
    ((c : ℕ) → is_one_of (take i cells) c ≡ true → items_there (get nat_cmp old c) ≡ f c) → (c : ℕ) → is_one_of (take (i + 1) cells) c ≡ true → items_there (get nat_cmp new c) ≡ f c
reads_step cells i x f old new v l e g u h c k = ap items_there (u c ∙ ap (λ (b : Bool). cond b (Some v) (get nat_cmp old c)) (is_at-eq x c)) ∙ at (x == c) refl (sym (taken cells i x c l e) ∙ k)
  where
    last : (b : Bool) → (b || (false || false)) ≡ true → b ≡ true
    last true m = refl
    last false m = cc

    at : (b : Bool) → (x == c) ≡ b → (is_one_of (take i cells) c || ((x == c) || false)) ≡ true → items_there (cond b (Some v) (get nat_cmp old c)) ≡ f c
    at true s m = g ∙ ap f (same_cell c x s)
    at false s m = h c (last (is_one_of (take i cells) c) (ap (λ (b : Bool). is_one_of (take i cells) c || (b || false)) (sym s) ∙ m))

-- ---- what stripping leaves

pub brought_step : (rooms : Rooms) (next : Coming) (i : ℕ) (x : ℕ × Option (SmallVec Area)) (old new : BTreeMap ℕ (Vec Area)) (v : Vec Area) → AreInOrder next → i < length next → x ≡ get_or next i x → v.items ≡ areas_of (items_of x.1) → ((q : ℕ) → get nat_cmp new q ≡ cond (is_at (nat_cmp x.0) q) (Some v) (get nat_cmp old q)) →
    (c : ℕ) → items_there (get nat_cmp old c) ≡ areas_of (room_over (take i next) rooms c) → items_there (get nat_cmp new c) ≡ areas_of (room_over (take (i + 1) next) rooms c)
brought_step rooms next i x old new v o l e g u c h =
    ap items_there (u c) ∙ at (is_at (nat_cmp x.0) c) ∙ sym (ap (λ (b : Option (Option (SmallVec Area))). areas_of (put_over b (room_at rooms c))) (found_longer next i x o l e c))
  where
    at : (b : Bool) → items_there (cond b (Some v) (get nat_cmp old c)) ≡ areas_of (put_over (cond b (Some x.1) (brought_to (take i next) c)) (room_at rooms c))
    at true = g
    at false = h

pub found_cyclic : (rooms : Rooms) (next : Coming) (cyclic cells pinned all rest : BTreeSet ℕ) (list outer : List ℕ) (reads : BTreeMap ℕ (Vec Area)) → list ≡ cells.keys → ((c : ℕ) → is_one_of list c ≡ true → items_there (get nat_cmp reads c) ≡ areas_of (room_over next rooms c)) →
    outer ≡ filter (reads_outside reads cyclic cells) cells.keys → ((c : ℕ) → contains nat_cmp pinned c ≡ is_one_of outer c) → ((c : ℕ) → contains nat_cmp all c ≡ is_one_of list c) →
    IsWithin rest all → AreStripped reads pinned all rest → EachReadsOne reads pinned rest → FindsCyclic rooms next cyclic cells rest
found_cyclic rooms next cyclic cells pinned all rest list outer reads e g o h a w st left s t xs same are circ cone c =
    circular_after s t xs (contains nat_cmp pinned) (contains nat_cmp rest) same (record {
      holds = λ d i k. holds d i k;
      frees = λ d i k f r n. frees d i k f r n (contains nat_cmp cyclic f) refl;
      within = λ d k. sym (cone d) ∙ in_cells d (w d k);
      gone = λ p up d i k. st p (λ f m n u. up f (sym (cone f) ∙ in_cells f m) n (λ q r l. u q (as_read f (in_cells f m) q ∙ r) (in_all q (cone q ∙ l)))) d (in_all d (cone d ∙ i)) k;
      left = λ d k n. let x = left d k n in (x.cell, sym (as_read d (in_cells d (w d k)) x.cell) ∙ x.read, x.there);
    }) c
    ∙ ap (λ (b : Bool). cond b (contains nat_cmp rest c) (circular s c)) (sym (cone c)) ∙ ap (λ (b : Bool). cond (contains nat_cmp cells c) (contains nat_cmp rest c) b) (sym (circ c))
  where
    in_list : (d : ℕ) → contains nat_cmp cells d ≡ is_one_of list d
    in_list d = has_key cells.keys d ∙ ap (λ (ys : List ℕ). is_one_of ys d) (sym e)

    in_cells : (d : ℕ) → contains nat_cmp all d ≡ true → contains nat_cmp cells d ≡ true
    in_cells d k = in_list d ∙ sym (a d) ∙ k

    in_all : (d : ℕ) → contains nat_cmp cells d ≡ true → contains nat_cmp all d ≡ true
    in_all d k = a d ∙ sym (in_list d) ∙ k

    as_read : (d : ℕ) → contains nat_cmp cells d ≡ true → (q : ℕ) → reads_in reads d q ≡ content_reads (content_of t d) q
    as_read d k q = ap (λ (rs : List Area). is_within_one rs q) (g d (sym (in_list d) ∙ k) ∙ ap areas_of (are d)) ∙ sym (reads_areas (content_of t d) q)

    holds : (d : ℕ) → in_cone s xs d ≡ true → contains nat_cmp pinned d ≡ true → (f : ℕ) × (content_reads (content_of t d) f ≡ true) × (in_cone s xs f ≡ false) × (circular s f ≡ true)
    holds d i k =
        let p = and_parts (reads_outside reads cyclic cells d) _ (sym (pinned_test reads cyclic cells outer pinned o h d) ∙ k) in
        let x = pinned_finds cyclic cells (items_there (get nat_cmp reads d)) p.0 in
        (x.0, sym (as_read d (cone d ∙ i) x.0) ∙ x.2, sym (cone x.0) ∙ x.3, sym (circ x.0) ∙ has_key cyclic.keys x.0 ∙ x.1)

    frees : (d : ℕ) → in_cone s xs d ≡ true → contains nat_cmp pinned d ≡ false → (f : ℕ) → content_reads (content_of t d) f ≡ true → in_cone s xs f ≡ false → (b : Bool) → contains nat_cmp cyclic f ≡ b → circular s f ≡ false
    frees d i k f r n true m =
        let y = finds_pinned cyclic cells (items_there (get nat_cmp reads d)) f (sym (has_key cyclic.keys f) ∙ m) (as_read d (cone d ∙ i) f ∙ r) (cone f ∙ n) in
        clash (contains nat_cmp pinned d) (pinned_test reads cyclic cells outer pinned o h d ∙ and_from (reads_outside reads cyclic cells d) _ y (cone d ∙ i)) k
    frees d i k f r n false m = sym (circ f) ∙ m

pub rest_within : (cells all rest : BTreeSet ℕ) (list : List ℕ) → list ≡ cells.keys → ((c : ℕ) → contains nat_cmp all c ≡ is_one_of list c) → IsWithin rest all → IsWithin rest cells
rest_within cells all rest list e a w c k = has_key cells.keys c ∙ ap (λ (ys : List ℕ). is_one_of ys c) (sym e) ∙ sym (a c) ∙ w c k

-- ---- the turns

ceased_is : (cyclic cells rest : BTreeSet ℕ) (c : ℕ) → is_one_of (ceased_from cyclic cells rest) c ≡ ((contains nat_cmp cyclic c && not (contains nat_cmp rest c)) && contains nat_cmp cells c)
ceased_is cyclic cells rest c =
    any-filter_same (λ x. x == c) (λ x. contains nat_cmp cyclic x && not (contains nat_cmp rest x)) (contains nat_cmp cyclic c && not (contains nat_cmp rest c))
    (λ k h. ap (λ (y : ℕ). contains nat_cmp cyclic y && not (contains nat_cmp rest y)) (same_cell c k h)) cells.keys
    ∙ ap (λ (b : Bool). (contains nat_cmp cyclic c && not (contains nat_cmp rest c)) && b) (sym (has_key cells.keys c))

abbrev pub AreOf : BTreeSet ℕ → BTreeSet ℕ → BTreeSet ℕ → Turns → Type 0
AreOf cyclic cells rest turns = (turns.became.items ≡ difference nat_cmp rest cyclic) × (turns.ceased.items ≡ ceased_from cyclic cells rest)

turned_after : (cyclic cells rest : BTreeSet ℕ) (turns : Turns) → AreOf cyclic cells rest turns → IsWithin rest cells → (c : ℕ) → turned_by cyclic turns c ≡ cond (contains nat_cmp cells c) (contains nat_cmp rest c) (contains nat_cmp cyclic c)
turned_after cyclic cells rest turns e w c =
    ap (λ (xs : List ℕ). (contains nat_cmp cyclic c || is_one_of xs c) && not (is_one_of turns.ceased.items c)) e.0
    ∙ ap (λ (b : Bool). (contains nat_cmp cyclic c || b) && not (is_one_of turns.ceased.items c)) (in_difference rest cyclic c)
    ∙ ap (λ (xs : List ℕ). (contains nat_cmp cyclic c || (not (contains nat_cmp cyclic c) && contains nat_cmp rest c)) && not (is_one_of xs c)) e.1
    ∙ ap (λ (b : Bool). (contains nat_cmp cyclic c || (not (contains nat_cmp cyclic c) && contains nat_cmp rest c)) && not b) (ceased_is cyclic cells rest c)
    ∙ at (contains nat_cmp cells c) (contains nat_cmp rest c) (contains nat_cmp cyclic c) (w c)
  where
    at : (k r f : Bool) → (r ≡ true → k ≡ true) → ((f || (not f && r)) && not ((f && not r) && k)) ≡ cond k r f
    at true true true w = refl
    at true true false w = refl
    at true false true w = refl
    at true false false w = refl
    at false true f w = let z = w refl in cc
    at false false true w = refl
    at false false false w = refl

-- the cone of some cells
pub cone_is : (rooms : Rooms) (readers : Bag) (cells list : List ℕ) → IsOrdered nat_cmp rooms → HasPairs readers rooms → IsConeOf readers cells list →
    (s : Sheet) → ((c : ℕ) → room_at rooms c ≡ areas_in (content_of s c)) → (c : ℕ) → is_one_of list c ≡ in_cone s cells c
cone_is rooms readers cells list o h k s are = found_cone s readers cells (as_set list) (graph_readers rooms readers o h s (λ d. areas_rooms rooms.entries (Ascends-from_order rooms.entries o) d ∙ are d)) k.all k.closed k.least

-- by the edges
pub listed_cone : (rooms : Rooms) (readers : Bag) (cyclic : BTreeSet ℕ) (cells list : List ℕ) → IsGraph rooms readers cyclic → IsConeOf readers cells list →
    (s : Sheet) → AreEdgesOf (edges_in rooms.entries) s → (c : ℕ) → is_one_of list c ≡ in_cone s cells c
listed_cone rooms readers cyclic cells list g k s h = found_cone s readers cells (as_set list) (graph_readers rooms readers g.ordered g.pairs s h) k.all k.closed k.least

-- a sheet after the edit
pub brought : (rooms : Rooms) (next : Coming) (cyclic cone : BTreeSet ℕ) (g : AreCyclic (room_at rooms) (contains nat_cmp cyclic)) (k : IsEditCone rooms next (contains nat_cmp cone)) → (c : ℕ) → room_over next rooms c ≡ areas_in (content_of (then_sheet g.sheet k.changes) c)
brought rooms next cyclic cone g k c = k.brings c ∙ ap (areas_then k.changes c) (g.are c) ∙ sym (then_contents g.sheet k.changes c)

pub cone_turns : (rooms : Rooms) (next : Coming) (cyclic cells rest : BTreeSet ℕ) (turns : Turns) → AreCyclic (room_at rooms) (contains nat_cmp cyclic) → IsEditCone rooms next (contains nat_cmp cells) → FindsCyclic rooms next cyclic cells rest → IsWithin rest cells → AreOf cyclic cells rest turns →
    AreTurns rooms next cyclic turns
cone_turns rooms next cyclic cells rest turns g k st w e = record {
  fresh = λ c h. not-true (contains nat_cmp cyclic c) (and_parts (not (contains nat_cmp cyclic c)) _ (sym (in_difference rest cyclic c) ∙ ap (λ (ys : List ℕ). is_one_of ys c) (sym e.0) ∙ h)).0;
  after = record {
    sheet = then_sheet g.sheet k.changes;
    are = brought rooms next cyclic cells g k;
    cyclic = λ c. turned_after cyclic cells rest turns e w c
        ∙ sym (st g.sheet (then_sheet g.sheet k.changes) (keys_of k.changes) (then_same g.sheet k.changes) (brought rooms next cyclic cells g k) g.cyclic (k.is_cone g.sheet g.are) c);
  };
}

-- none that turn
pub none_became : (cyclic : BTreeSet ℕ) (turns : Turns) → turns.became.items ≡ [] → (c : ℕ) → is_one_of turns.became.items c ≡ true → contains nat_cmp cyclic c ≡ false
none_became cyclic turns f c k = let z : is_one_of [] c ≡ true = ap (λ (xs : List ℕ). is_one_of xs c) (sym f) ∙ k in cc

pub none_turned : (cyclic : BTreeSet ℕ) (turns : Turns) → turns.became.items ≡ [] → turns.ceased.items ≡ [] → (c : ℕ) → turned_by cyclic turns c ≡ contains nat_cmp cyclic c
none_turned cyclic turns f h c =
    ap (λ (xs : List ℕ). (contains nat_cmp cyclic c || is_one_of xs c) && not (is_one_of turns.ceased.items c)) f
    ∙ ap (λ (xs : List ℕ). (contains nat_cmp cyclic c || false) && not (is_one_of xs c)) h
    ∙ at (contains nat_cmp cyclic c)
  where
    at : (b : Bool) → ((b || false) && true) ≡ b
    at true = refl
    at false = refl

-- where nothing is next
pub nothing_turns : (rooms : Rooms) (next : Coming) (cyclic : BTreeSet ℕ) (turns : Turns) → AreCyclic (room_at rooms) (contains nat_cmp cyclic) → next ≡ [] → turns.became.items ≡ [] → turns.ceased.items ≡ [] → AreTurns rooms next cyclic turns
nothing_turns rooms next cyclic turns g e f h = record {
  fresh = none_became cyclic turns f;
  after = cyclic_over (room_over next rooms) (room_at rooms) (turned_by cyclic turns) (contains nat_cmp cyclic) (λ c. ap (λ (es : Coming). room_over es rooms c) e) (none_turned cyclic turns f h) g;
}
