-- Edits that close no cycle.
use Rattle.wi_graph.proofs.Words.{◌≡◌, ◌==◌, ◌&&◌, ◌||◌, ◌⊎◌, inl, inr, ℕ, zero, suc, Bool, true, false, true≢false, not, not-true, cond, filter, nat_le, get_or, length, arith, List, [], ◌∷◌, Option, Some, None, IfSome, is_some, refl, ap, sym, ◌∙◌, subst, or_cases, or_left, or_right, or_parts, or-false, and_parts, and_from, false_from_ne_true, le-leb, nil_from_length, list_any, find, keys_of, lookup, nat_cmp, is_at, BTreeSet, btree_set_len, contains, SmallVec, one_truth, Area, is_within, within_between, Content, Sheet, content_of, content_reads, circular, is_one_of, areas_in, Turns, areas_then, Brings, IsEditCone, Rooms, Coming, brought_to, in_room, items_of, room_at, put_over, room_over, areas_of, AreCyclic, is_within_one, reads_cell, has_one, reads_one_of, meets_one_of, has_room_in, StandsApart, AreTurns, as_set, is_ahead, IsLookedAt, ReachesNot, ReadsApart, IsAhead, IsAtOrBefore, has_key, Reaches, Walks, reaches}
use Rattle.wi_graph.proofs.Tests.{is_at-eq, turn_test, is_itself, clash}
use Rattle.wi_graph.proofs.Walks.{found, same_cell}
use Rattle.wi_graph.proofs.Graphs.{left_circular}
use Rattle.wi_graph.proofs.Cones.{outside_circular}
use Rattle.wi_graph.proofs.ReachTest.{not_in_cone, reaches_true, true_reaches}
use Rattle.wi_graph.proofs.CircularAfter.{reads_circular}
use Rattle.wi_graph.proofs.ChangeSteps.{then_sheet, then_contents, then_same}
use Rattle.wi_graph.proofs.GraphSteps.{reads_areas}
use Rattle.wi_graph.proofs.TurningSteps.{brought, none_became, none_turned}

-- ---- whether a rectangle has one of the cells

inside_finds : (ks : List ℕ) (r : Area) → list_any (is_within r) ks ≡ true → (d : ℕ) × (is_one_of ks d ≡ true) × (is_within r d ≡ true)
inside_finds [] r h = cc
inside_finds (k ∷ ks) r h = at (or_cases (is_within r k) _ h) (inside_finds ks r)
  where
    at : (is_within r k ≡ true) ⊎ (list_any (is_within r) ks ≡ true) → (list_any (is_within r) ks ≡ true → (d : ℕ) × (is_one_of ks d ≡ true) × (is_within r d ≡ true)) → (d : ℕ) × (is_one_of (k ∷ ks) d ≡ true) × (is_within r d ≡ true)
    at (inl m) ih = (k, or_left (k == k) _ (is_itself k), m)
    at (inr m) ih = let x = ih m in (x.0, or_right (k == x.0) _ x.1, x.2)

pub has_one_is : (cells : BTreeSet ℕ) (r : Area) (o : Option ℕ) → IfSome o (IsAhead cells r r.first) → ((c : ℕ) → IsAhead cells r r.first c → IsAtOrBefore o c) → is_some o ≡ has_one cells r
has_one_is cells r None f n = sym (false_from_ne_true (has_one cells r) (λ h.
    let x = inside_finds cells.keys r h in
    n x.0 ((within_between r x.0 x.2).0, x.2, has_key cells.keys x.0 ∙ x.1)))
has_one_is cells r (Some d) f n = sym (found (is_within r) cells.keys d (sym (has_key cells.keys d) ∙ f.2) f.1)

-- ---- where the cone is one cell

lone_area : (rs : List Area) (c : ℕ) → is_within_one rs c ≡ list_any (has_one (as_set (c ∷ []))) rs
lone_area [] c = refl
lone_area (r ∷ rs) c = ap (λ (b : Bool). b || is_within_one rs c) (sym (or-false (is_within r c))) ∙ ap (λ (b : Bool). (is_within r c || false) || b) (lone_area rs c)

lone_reads : (es : Coming) (c : ℕ) → reads_cell es c ≡ reads_one_of es (as_set (c ∷ []))
lone_reads [] c = refl
lone_reads (e ∷ es) c =
    ap (λ (b : Bool). b || reads_cell es c) (lone_area (areas_of (items_of e.1)) c)
    ∙ ap (λ (b : Bool). list_any (has_one (as_set (c ∷ []))) (areas_of (items_of e.1)) || b) (lone_reads es c)

pub lone_cell_reads : (es : Coming) (cone : List ℕ) (c : ℕ) → length cone ≡ 1 → c ≡ get_or cone 0 c → reads_cell es c ≡ reads_one_of es (as_set cone)
lone_cell_reads es [] c l s = cc
lone_cell_reads es (k ∷ []) c l s = let is : c ≡ k = s in ap (reads_cell es) is ∙ lone_reads es k
lone_cell_reads es (j ∷ k ∷ ks) c l s = absurd (omega arith)

-- ---- what reads none of them

none_read : (cells : BTreeSet ℕ) (es : Coming) (c : ℕ) (r : Option (SmallVec Area)) → brought_to es c ≡ Some r → reads_one_of es cells ≡ false → list_any (has_one cells) (areas_of (items_of r)) ≡ false
none_read cells [] c r e h = cc
none_read cells (x ∷ xs) c r e h = at (is_at (nat_cmp c) x.0) e (or_parts (list_any (has_one cells) (areas_of (items_of x.1))) _ h) (none_read cells xs c r)
  where
    at : (b : Bool) → cond b (Some x.1) (lookup (is_at (nat_cmp c)) xs) ≡ Some r → (list_any (has_one cells) (areas_of (items_of x.1)) ≡ false) × (reads_one_of xs cells ≡ false) →
        (lookup (is_at (nat_cmp c)) xs ≡ Some r → reads_one_of xs cells ≡ false → list_any (has_one cells) (areas_of (items_of r)) ≡ false) → list_any (has_one cells) (areas_of (items_of r)) ≡ false
    at true k p ih = let z : x.1 ≡ r = cc in subst (λ (o : Option (SmallVec Area)). list_any (has_one cells) (areas_of (items_of o)) ≡ false) z p.0
    at false k p ih = ih k p.1

apart_from : (cells : BTreeSet ℕ) (rs : List Area) (d : ℕ) → list_any (has_one cells) rs ≡ false → is_within_one rs d ≡ true → contains nat_cmp cells d ≡ false
apart_from cells [] d n h = cc
apart_from cells (r ∷ rs) d n h = at (or_cases (is_within r d) _ h) (or_parts (has_one cells r) _ n) (apart_from cells rs d)
  where
    at : (is_within r d ≡ true) ⊎ (is_within_one rs d ≡ true) → (has_one cells r ≡ false) × (list_any (has_one cells) rs ≡ false) → (list_any (has_one cells) rs ≡ false → is_within_one rs d ≡ true → contains nat_cmp cells d ≡ false) →
        contains nat_cmp cells d ≡ false
    at (inl w) p ih = false_from_ne_true (contains nat_cmp cells d) (λ k. clash (has_one cells r) (found (is_within r) cells.keys d (sym (has_key cells.keys d) ∙ k) w) p.0)
    at (inr w) p ih = ih p.1 w

-- what is for none of them, and reads none
none_met : (cells : BTreeSet ℕ) (es : Coming) (c : ℕ) (r : Option (SmallVec Area)) → brought_to es c ≡ Some r → meets_one_of es cells ≡ false → (contains nat_cmp cells c ≡ false) × (list_any (has_one cells) (areas_of (items_of r)) ≡ false)
none_met cells [] c r e h = cc
none_met cells (x ∷ xs) c r e h = at (is_at (nat_cmp c) x.0) (is_at-eq c x.0) e (or_parts (contains nat_cmp cells x.0 || list_any (has_one cells) (areas_of (items_of x.1))) _ h) (none_met cells xs c r)
  where
    at : (b : Bool) → b ≡ (c == x.0) → cond b (Some x.1) (lookup (is_at (nat_cmp c)) xs) ≡ Some r → ((contains nat_cmp cells x.0 || list_any (has_one cells) (areas_of (items_of x.1))) ≡ false) × (meets_one_of xs cells ≡ false) →
        (lookup (is_at (nat_cmp c)) xs ≡ Some r → meets_one_of xs cells ≡ false → (contains nat_cmp cells c ≡ false) × (list_any (has_one cells) (areas_of (items_of r)) ≡ false)) → (contains nat_cmp cells c ≡ false) × (list_any (has_one cells) (areas_of (items_of r)) ≡ false)
    at true t k p ih =
        let z : x.1 ≡ r = cc in
        let q = or_parts (contains nat_cmp cells x.0) _ p.0 in
        (ap (contains nat_cmp cells) (same_cell x.0 c (sym t)) ∙ q.0, subst (λ (o : Option (SmallVec Area)). list_any (has_one cells) (areas_of (items_of o)) ≡ false) z q.1)
    at false t k p ih = ih k p.1

-- ---- so no cycle is closed, and none is opened

-- no cell that gets something else is circular, and what it reads then isn't circular after the edit
record IsApart (rooms : Rooms) (next : Coming) (cyclic : BTreeSet ℕ) (then : Sheet) : Type 0 where
  before : AreCyclic (room_at rooms) (contains nat_cmp cyclic)
  after : (c : ℕ) → room_over next rooms c ≡ areas_in (content_of then c)
  named : (c : ℕ) (v : Option (SmallVec Area)) → brought_to next c ≡ Some v → contains nat_cmp cyclic c ≡ false
  reads : (c : ℕ) (v : Option (SmallVec Area)) → brought_to next c ≡ Some v → (d : ℕ) → is_within_one (areas_of (items_of v)) d ≡ true → circular then d ≡ false

module _ {rooms : Rooms} {next : Coming} {cyclic : BTreeSet ℕ} {then : Sheet} (k : IsApart rooms next cyclic then) where
  reads_then : (c : ℕ) (o : Option (Option (SmallVec Area))) → brought_to next c ≡ o → (d : ℕ) → content_reads (content_of then c) d ≡ is_within_one (areas_of (put_over o (room_at rooms c))) d
  reads_then c o e d =
      reads_areas (content_of then c) d
      ∙ ap (λ (x : Option (List Area)). is_within_one (areas_of x) d) (sym (k.after c) ∙ ap (λ (x : Option (Option (SmallVec Area))). put_over x (room_at rooms c)) e)

  reads_before : (c d : ℕ) → content_reads (content_of k.before.sheet c) d ≡ is_within_one (areas_of (room_at rooms c)) d
  reads_before c d = reads_areas (content_of k.before.sheet c) d ∙ ap (λ (x : Option (List Area)). is_within_one (areas_of x) d) (sym (k.before.are c))

  -- a cell that is circular after the edit reads such a cell before it too
  still_reads : (c : ℕ) → circular then c ≡ true → (d : ℕ) × (content_reads (content_of k.before.sheet c) d ≡ true) × (circular then d ≡ true)
  still_reads c h = let f = reads_circular then c h in at f.0 f.1 f.2 (brought_to next c) refl
    where
      at : (d : ℕ) → content_reads (content_of then c) d ≡ true → circular then d ≡ true → (o : Option (Option (SmallVec Area))) → brought_to next c ≡ o → (d : ℕ) × (content_reads (content_of k.before.sheet c) d ≡ true) × (circular then d ≡ true)
      at d r u None e = (d, reads_before c d ∙ sym (reads_then c None e d) ∙ r, u)
      at d r u (Some v) e = clash (circular then d) u (k.reads c v e d (sym (reads_then c (Some v) e d) ∙ r))

  -- and one that was circular before it reads such a cell after it too
  reads_still : (c : ℕ) → circular k.before.sheet c ≡ true → (d : ℕ) × (content_reads (content_of then c) d ≡ true) × (circular k.before.sheet d ≡ true)
  reads_still c h = let f = reads_circular k.before.sheet c h in at f.0 f.1 f.2 (brought_to next c) refl
    where
      at : (d : ℕ) → content_reads (content_of k.before.sheet c) d ≡ true → circular k.before.sheet d ≡ true → (o : Option (Option (SmallVec Area))) → brought_to next c ≡ o → (d : ℕ) × (content_reads (content_of then c) d ≡ true) × (circular k.before.sheet d ≡ true)
      at d r u None e = (d, reads_then c None e d ∙ sym (reads_before c d) ∙ r, u)
      at d r u (Some v) e = clash (circular k.before.sheet c) h (sym (k.before.cyclic c) ∙ k.named c v e)

  same_cyclic : (c : ℕ) → contains nat_cmp cyclic c ≡ circular then c
  same_cyclic c =
      k.before.cyclic c
      ∙ one_truth (circular k.before.sheet c) (circular then c) (left_circular then (circular k.before.sheet) reads_still c) (left_circular k.before.sheet (circular then) still_reads c)

  none_turns : (turns : Turns) → turns.became.items ≡ [] → turns.ceased.items ≡ [] → AreTurns rooms next cyclic turns
  none_turns turns f h = record {
    fresh = none_became cyclic turns f;
    after = record { sheet = then; are = k.after; cyclic = λ c. none_turned cyclic turns f h c ∙ same_cyclic c };
  }

-- where no circular cell is met, and none of the cone is read
pub none_turn : (rooms : Rooms) (next : Coming) (cyclic cone : BTreeSet ℕ) (turns : Turns) → AreCyclic (room_at rooms) (contains nat_cmp cyclic) → IsEditCone rooms next (contains nat_cmp cone) → meets_one_of next cyclic ≡ false → reads_one_of next cone ≡ false → turns.became.items ≡ [] → turns.ceased.items ≡ [] →
    AreTurns rooms next cyclic turns
none_turn rooms next cyclic cone turns g e m n f h = none_turns {then = then_sheet g.sheet e.changes} (record {
  before = g;
  after = brought rooms next cyclic cone g e;
  named = λ c v k. (none_met cyclic next c v k m).0;
  reads = λ c v k d i.
      sym (outside_circular g.sheet (then_sheet g.sheet e.changes) (keys_of e.changes) d (then_same g.sheet e.changes) (not_in_cone g.sheet (keys_of e.changes) d (sym (e.is_cone g.sheet g.are d) ∙ apart_from cone (areas_of (items_of v)) d (none_read cone next c v k n) i)))
      ∙ sym (g.cyclic d) ∙ apart_from cyclic (areas_of (items_of v)) d (none_met cyclic next c v k m).1 i;
}) turns f h

-- where what is next reads no formula
pub apart_turn : (rooms : Rooms) (next : Coming) (cyclic : BTreeSet ℕ) (changes : List (ℕ × Option Content)) (turns : Turns) → AreCyclic (room_at rooms) (contains nat_cmp cyclic) → Brings rooms next changes → StandsApart rooms next cyclic → turns.became.items ≡ [] → turns.ceased.items ≡ [] →
    AreTurns rooms next cyclic turns
apart_turn rooms next cyclic changes turns g b a f h = none_turns {then = then_sheet g.sheet changes} (record {
  before = g;
  after = after;
  named = λ c v e. (a c v e).0;
  reads = λ c v e d i. false_from_ne_true (circular (then_sheet g.sheet changes) d) (λ u. ends d ((a c v e).1 d i) (reads_circular (then_sheet g.sheet changes) d u));
}) turns f h
  where
    after : (c : ℕ) → room_over next rooms c ≡ areas_in (content_of (then_sheet g.sheet changes) c)
    after c = b c ∙ ap (areas_then changes c) (g.are c) ∙ sym (then_contents g.sheet changes c)

    ends : (d : ℕ) → room_over next rooms d ≡ None → (x : ℕ) × (content_reads (content_of (then_sheet g.sheet changes) d) x ≡ true) × (circular (then_sheet g.sheet changes) x ≡ true) → ⊥
    ends d n x =
        let z : is_within_one (areas_of None) x.0 ≡ true = ap (λ (o : Option (List Area)). is_within_one (areas_of o) x.0) (sym n ∙ after d) ∙ sym (reads_areas (content_of (then_sheet g.sheet changes) d) x.0) ∙ x.1 in
        cc

-- ---- what reads no formula

-- one of some rooms lies in a rectangle
pub has_rooms_is : (r : Area) (ks : List ℕ) → is_some (find (λ a. nat_le r.first a) (filter (is_within r) ks)) ≡ list_any (is_within r) ks
has_rooms_is r [] = refl
has_rooms_is r (k ∷ ks) = at (is_within r k) refl (has_rooms_is r ks)
  where
    at : (b : Bool) → is_within r k ≡ b → is_some (find (λ a. nat_le r.first a) (filter (is_within r) ks)) ≡ list_any (is_within r) ks →
        is_some (find (λ a. nat_le r.first a) (cond b (k ∷ filter (is_within r) ks) (filter (is_within r) ks))) ≡ (b || list_any (is_within r) ks)
    at false e ih = ih
    at true e ih = first (nat_le r.first k) (le-leb r.first k (within_between r k e).0)
      where
        first : (b : Bool) → b ≡ true → is_some (cond b (Some k) (find (λ a. nat_le r.first a) (filter (is_within r) ks))) ≡ true
        first true h = refl
        first false h = cc

pub no_key : (es : List (ℕ × Option (SmallVec Area))) (d : ℕ) → is_one_of (keys_of es) d ≡ false → lookup (is_at (nat_cmp d)) es ≡ None
no_key [] d h = refl
no_key (e ∷ es) d h = at (is_at (nat_cmp d) e.0) (is_at-eq d e.0) (or_parts (e.0 == d) _ h) (no_key es d)
  where
    at : (b : Bool) → b ≡ (d == e.0) → ((e.0 == d) ≡ false) × (is_one_of (keys_of es) d ≡ false) → (is_one_of (keys_of es) d ≡ false → lookup (is_at (nat_cmp d)) es ≡ None) → cond b (Some e.1) (lookup (is_at (nat_cmp d)) es) ≡ None
    at true t p ih = clash (e.0 == d) (turn_test e.0 d ∙ sym t) p.0
    at false t p ih = ih p.1

no_room_there : (rooms : Rooms) (cell : ℕ) (rs : List Area) (d : ℕ) → list_any (has_room_in rooms cell) rs ≡ false → is_within_one rs d ≡ true → ((cell == d) ≡ false) × (is_one_of (keys_of rooms.entries) d ≡ false)
no_room_there rooms cell [] d n h = cc
no_room_there rooms cell (r ∷ rs) d n h = at (or_cases (is_within r d) _ h) (or_parts (has_room_in rooms cell r) _ n) (no_room_there rooms cell rs d)
  where
    at : (is_within r d ≡ true) ⊎ (is_within_one rs d ≡ true) → (has_room_in rooms cell r ≡ false) × (list_any (has_room_in rooms cell) rs ≡ false) → (list_any (has_room_in rooms cell) rs ≡ false → is_within_one rs d ≡ true → ((cell == d) ≡ false) × (is_one_of (keys_of rooms.entries) d ≡ false)) →
        ((cell == d) ≡ false) × (is_one_of (keys_of rooms.entries) d ≡ false)
    at (inl w) p ih =
        let q = or_parts (is_within r cell) _ p.0 in (
          false_from_ne_true (cell == d) (λ e. clash (is_within r cell) (ap (is_within r) (same_cell d cell e) ∙ w) q.0),
          false_from_ne_true (is_one_of (keys_of rooms.entries) d) (λ m. clash (list_any (is_within r) (keys_of rooms.entries)) (found (is_within r) (keys_of rooms.entries) d m w) q.1),
        )
    at (inr w) p ih = ih p.1 w

pub one_stands_apart : (rooms : Rooms) (next : Coming) (cyclic : BTreeSet ℕ) (x : ℕ × Option (SmallVec Area)) → length next ≡ 1 → x ≡ get_or next 0 x → contains nat_cmp cyclic x.0 ≡ false → list_any (has_room_in rooms x.0) (areas_of (items_of x.1)) ≡ false → StandsApart rooms next cyclic
one_stands_apart rooms [] cyclic x l e n m c v h = cc
one_stands_apart rooms (y ∷ []) cyclic x l e n m c v h = at (is_at (nat_cmp c) y.0) (is_at-eq c y.0) h
  where
    is_y : x ≡ y
    is_y = e

    at : (b : Bool) → b ≡ (c == y.0) → cond b (Some y.1) None ≡ Some v → (contains nat_cmp cyclic c ≡ false) × ((d : ℕ) → is_within_one (areas_of (items_of v)) d ≡ true → room_over (y ∷ []) rooms d ≡ None)
    at false t k = cc
    at true t k =
        let z : y.1 ≡ v = cc in
        let s : y.0 ≡ c = sym (same_cell y.0 c (sym t)) in
        (ap (contains nat_cmp cyclic) (sym s ∙ sym (ap (λ (w : ℕ × Option (SmallVec Area)). w.0) is_y)) ∙ n, λ d i. none d (no_room_there rooms x.0 (areas_of (items_of x.1)) d m (ap (λ (w : Option (SmallVec Area)). is_within_one (areas_of (items_of w)) d) (ap (λ (w : ℕ × Option (SmallVec Area)). w.1) is_y ∙ z) ∙ i)))
      where
        none : (d : ℕ) → ((x.0 == d) ≡ false) × (is_one_of (keys_of rooms.entries) d ≡ false) → room_over (y ∷ []) rooms d ≡ None
        none d p =
            ap (λ (b : Bool). put_over (cond b (Some y.1) None) (room_at rooms d)) (is_at-eq d y.0 ∙ turn_test d y.0 ∙ ap (λ (w : ℕ). w == d) (sym (ap (λ (w : ℕ × Option (SmallVec Area)). w.0) is_y)) ∙ p.0)
            ∙ ap in_room (no_key rooms.entries d p.1)
one_stands_apart rooms (y ∷ z ∷ zs) cyclic x l e n m c v h = absurd (omega arith)

-- where no cell is circular, none is met
pub no_cyclic_met : (es : Coming) (cells : BTreeSet ℕ) → btree_set_len cells ≡ 0 → false ≡ meets_one_of es cells
no_cyclic_met es cells z = subst (λ (ks : List ℕ). false ≡ meets_one_of es (record { keys = ks })) (sym (nil_from_length cells.keys z)) (sym (nothing_met es))
  where
    none_in : (rs : List Area) → list_any (has_one (record { keys = [] })) rs ≡ false
    none_in [] = refl
    none_in (r ∷ rs) = none_in rs

    nothing_met : (xs : Coming) → meets_one_of xs (record { keys = [] }) ≡ false
    nothing_met [] = refl
    nothing_met (x ∷ xs) = ap (λ (b : Bool). b || meets_one_of xs (record { keys = [] })) (none_in (areas_of (items_of x.1))) ∙ nothing_met xs

-- ---- where what one cell is to read, at any remove, isn't circular and isn't the cell

pub reach_turn : (rooms : Rooms) (next : Coming) (cyclic : BTreeSet ℕ) (changes : List (ℕ × Option Content)) (turns : Turns) → AreCyclic (room_at rooms) (contains nat_cmp cyclic) → Brings rooms next changes → ReadsApart rooms next cyclic → turns.became.items ≡ [] → turns.ceased.items ≡ [] →
    AreTurns rooms next cyclic turns
reach_turn rooms next cyclic changes turns g b k f h = none_turns {then = then_sheet g.sheet changes} (record {
  before = g;
  after = after;
  named = λ c v e. (none_met cyclic next c v e k.unmet).0;
  reads = λ c v e d i. false_from_ne_true (circular (then_sheet g.sheet changes) d) (λ u. clash (circular g.sheet d) (was_circular d (first c v e d i) u) (is_open c v e d i));
}) turns f h
  where
    after : (c : ℕ) → room_over next rooms c ≡ areas_in (content_of (then_sheet g.sheet changes) c)
    after c = b c ∙ ap (areas_then changes c) (g.are c) ∙ sym (then_contents g.sheet changes c)

    is_open : (c : ℕ) (v : Option (SmallVec Area)) → brought_to next c ≡ Some v → (d : ℕ) → is_within_one (areas_of (items_of v)) d ≡ true → circular g.sheet d ≡ false
    is_open c v e d i = sym (g.cyclic d) ∙ apart_from cyclic (areas_of (items_of v)) d (none_met cyclic next c v e k.unmet).1 i

    -- nothing is next for another cell
    others : (d : ℕ) → (k.cell == d) ≡ false → brought_to next d ≡ None
    others d n = ap (λ (es : Coming). brought_to es d) k.alone ∙ ap (λ (x : Bool). cond x (Some k.room) None) (is_at-eq d k.cell ∙ turn_test d k.cell ∙ n)

    its_room : (x : Bool) (v : Option (SmallVec Area)) → cond x (Some k.room) None ≡ Some v → k.room ≡ v
    its_room true v e = cc
    its_room false v e = cc

    first : (c : ℕ) (v : Option (SmallVec Area)) → brought_to next c ≡ Some v → (d : ℕ) → is_within_one (areas_of (items_of v)) d ≡ true → IsLookedAt rooms k.cell k.not_met.0 [] d
    first c v e d i =
        k.not_met.1.first d (ap (λ (w : Option (SmallVec Area)). is_within_one (areas_of (items_of w)) d) (its_room (is_at (nat_cmp c) k.cell) v (ap (λ (es : Coming). brought_to es c) (sym k.alone) ∙ e)) ∙ i)

    reads_then : (x y : ℕ) → brought_to next x ≡ None → content_reads (content_of (then_sheet g.sheet changes) x) y ≡ is_within_one (areas_of (room_at rooms x)) y
    reads_then x y n =
        reads_areas (content_of (then_sheet g.sheet changes) x) y
        ∙ ap (λ (o : Option (List Area)). is_within_one (areas_of o) y) (sym (after x) ∙ ap (λ (o : Option (Option (SmallVec Area))). put_over o (room_at rooms x)) n)

    reads_before : (x y : ℕ) → content_reads (content_of g.sheet x) y ≡ is_within_one (areas_of (room_at rooms x)) y
    reads_before x y = reads_areas (content_of g.sheet x) y ∙ ap (λ (o : Option (List Area)). is_within_one (areas_of o) y) (sym (g.are x))

    -- what is looked at and circular then was found
    found_at : (d : ℕ) → (k.cell == d) ≡ false → circular (then_sheet g.sheet changes) d ≡ true → (room_at rooms d ≡ None) ⊎ ((k.not_met.0 d ≡ true) ⊎ (is_ahead [] d ≡ true)) → k.not_met.0 d ≡ true
    found_at d n u (inl e) =
        let x = reads_circular (then_sheet g.sheet changes) d u in
        clash (content_reads (content_of (then_sheet g.sheet changes) d) x.0) x.1 (reads_then d x.0 (others d n) ∙ ap (λ (o : Option (List Area)). is_within_one (areas_of o) x.0) e)
    found_at d n u (inr (inl i)) = i
    found_at d n u (inr (inr i)) = cc

    both : ℕ → Bool
    both x = circular (then_sheet g.sheet changes) x && k.not_met.0 x

    down : (x : ℕ) → both x ≡ true → (y : ℕ) × (content_reads (content_of g.sheet x) y ≡ true) × (both y ≡ true)
    down x m =
        let p = and_parts (circular (then_sheet g.sheet changes) x) (k.not_met.0 x) m in
        let r = reads_circular (then_sheet g.sheet changes) x p.0 in
        let j : is_within_one (areas_of (room_at rooms x)) r.0 ≡ true = sym (reads_then x r.0 (others x (k.not_met.1.apart x p.1))) ∙ r.1 in
        let l = k.not_met.1.reads x r.0 p.1 j in
        (r.0, reads_before x r.0 ∙ j, and_from (circular (then_sheet g.sheet changes) r.0) (k.not_met.0 r.0) r.2 (found_at r.0 l.0 r.2 l.1))

    was_circular : (d : ℕ) → IsLookedAt rooms k.cell k.not_met.0 [] d → circular (then_sheet g.sheet changes) d ≡ true → circular g.sheet d ≡ true
    was_circular d l u = left_circular g.sheet both down d (and_from (circular (then_sheet g.sheet changes) d) (k.not_met.0 d) u (found_at d l.0 u l.1))

-- one cell gets something
pub reads_apart : (rooms : Rooms) (next : Coming) (cyclic : BTreeSet ℕ) (x : ℕ × Option (SmallVec Area)) → length next ≡ 1 → x ≡ get_or next 0 x → meets_one_of next cyclic ≡ false → ReachesNot rooms x.0 (areas_of (items_of x.1)) → ReadsApart rooms next cyclic
reads_apart rooms [] cyclic x l e m n = absurd (omega arith)
reads_apart rooms (y ∷ []) cyclic x l e m n = record {
  cell = x.0;
  room = x.1;
  alone = ap (λ (w : ℕ × Option (SmallVec Area)). w ∷ []) (sym e);
  unmet = m;
  not_met = n;
}
reads_apart rooms (y ∷ z ∷ zs) cyclic x l e m n = absurd (omega arith)

-- which isn't circular
pub first_open : (next : Coming) (cyclic : BTreeSet ℕ) (x : ℕ × Option (SmallVec Area)) → length next ≡ 1 → x ≡ get_or next 0 x → meets_one_of next cyclic ≡ false → contains nat_cmp cyclic x.0 ≡ false
first_open [] cyclic x l e m = absurd (omega (arith, l))
first_open (y ∷ ys) cyclic x l e m =
    false_from_ne_true (contains nat_cmp cyclic x.0) (λ k.
    clash (meets_one_of (y ∷ ys) cyclic) (or_left (contains nat_cmp cyclic y.0 || list_any (has_one cyclic) (areas_of (items_of y.1))) (meets_one_of ys cyclic)
    (or_left (contains nat_cmp cyclic y.0) (list_any (has_one cyclic) (areas_of (items_of y.1))) (ap (λ (w : ℕ × Option (SmallVec Area)). contains nat_cmp cyclic w.0) (sym e) ∙ k))) m)

-- ---- what a cell that isn't circular reads now, at any remove, isn't the cell

walk_on : (n : ℕ) (s : Sheet) (c e d : ℕ) → Walks n s c e → content_reads (content_of s e) d ≡ true → Walks (suc n) s c d
walk_on zero s c e d w r = (d, subst (λ (x : ℕ). content_reads (content_of s x) d ≡ true) (sym w) r, refl)
walk_on (suc n) s c e d w r = (w.0, w.1, walk_on n s w.0 e d w.2 r)

-- a cell that reaches one that reads it is circular
on_cycle : (s : Sheet) (c e : ℕ) → Reaches s c e → content_reads (content_of s e) c ≡ true → circular s c ≡ true
on_cycle s c e w r = left_circular s (λ x. reaches s x c) (λ x h. let v = reaches_true s x c h in goes x v.0 v.1) c (true_reaches s c c (0, refl))
  where
    by_step : (n x : ℕ) → Walks (suc n) s x c → (d : ℕ) × (content_reads (content_of s x) d ≡ true) × (reaches s d c ≡ true)
    by_step n x v = (v.0, v.1, true_reaches s v.0 c (n, v.2))

    goes : (x n : ℕ) → Walks n s x c → (d : ℕ) × (content_reads (content_of s x) d ≡ true) × (reaches s d c ≡ true)
    goes x zero v = subst (λ (y : ℕ). (d : ℕ) × (content_reads (content_of s y) d ≡ true) × (reaches s d c ≡ true)) (sym v) (by_step w.0 c (walk_on w.0 s c e c w.1 r))
    goes x (suc n) v = by_step n x v

pub now_apart : (rooms : Rooms) (test : ℕ → Bool) (cell : ℕ) → AreCyclic (room_at rooms) test → test cell ≡ false → ReachesNot rooms cell (areas_of (room_at rooms cell))
now_apart rooms test cell g unmet = (
  below,
  record {
    first = λ d i. looked cell d (0, refl) (reads cell d i);
    reads = λ e d m i. looked e d (reaches_true g.sheet cell e (parts e m).0) (reads e d i);
    apart = λ e m. not-true (cell == e) (parts e m).1;
    apart_ahead = λ d i. absurd (true≢false (sym i));
  },
)
  where
    below : ℕ → Bool
    below d = reaches g.sheet cell d && not (cell == d)

    parts : (e : ℕ) → below e ≡ true → (reaches g.sheet cell e ≡ true) × (not (cell == e) ≡ true)
    parts e m = and_parts (reaches g.sheet cell e) (not (cell == e)) m

    reads : (e d : ℕ) → is_within_one (areas_of (room_at rooms e)) d ≡ true → content_reads (content_of g.sheet e) d ≡ true
    reads e d i = reads_areas (content_of g.sheet e) d ∙ ap (λ (o : Option (List Area)). is_within_one (areas_of o) d) (sym (g.are e)) ∙ i

    -- what it reaches doesn't read it
    other : (e d : ℕ) → Reaches g.sheet cell e → content_reads (content_of g.sheet e) d ≡ true → (cell == d) ≡ false
    other e d w r =
        false_from_ne_true (cell == d) (λ k.
        clash (circular g.sheet cell) (on_cycle g.sheet cell e w (subst (λ (x : ℕ). content_reads (content_of g.sheet e) x ≡ true) (sym (same_cell d cell k)) r)) (sym (g.cyclic cell) ∙ unmet))

    looked : (e d : ℕ) → Reaches g.sheet cell e → content_reads (content_of g.sheet e) d ≡ true → IsLookedAt rooms cell below [] d
    looked e d w r =
        let n = other e d w r in (
          n,
          inr (inl (and_from (reaches g.sheet cell d) (not (cell == d)) (true_reaches g.sheet cell d (suc w.0, walk_on w.0 g.sheet cell e d w.1 r)) (ap not n))),
        )
