-- Steps of stripping.
use Rattle.wi_graph.proofs.Words.{◌≡◌, ◌==◌, ◌&&◌, ◌||◌, ◌⊎◌, inl, inr, not, nat_le, ℕ, ◌≤◌, Bool, true, false, cond, List, [], ◌∷◌, ◌++◌, Option, Some, None, refl, ap, sym, ◌∙◌, arith, or-false, or_cases, or_left, or_right, and_parts, and_from, false_from_ne_true, not-true, not_from_false, le-leb, list_any-append, lookup, nat_cmp, Vec, BTreeMap, is_at, BTreeSet, contains, difference, Area, row_of, is_within, is_one_of, IsAhead, IsAtOrBefore, items_there, is_within_one, reads_in, waiting_for, waits_for, KeepsReads, ReadsOne, EachReadsOne, AreStripped, IsWithin, Waits, IsTracking, IsFree, within_between}
use Rattle.std.specs.BTreeMap.{get}
use Rattle.wi_graph.proofs.Tests.{turn_test, is_at-eq, is_itself, clash}
use Rattle.wi_graph.proofs.Walks.{same_cell}
use Rattle.wi_graph.proofs.SetSteps.{in_last, in_front, in_back, in_difference, Loses, loses_others, loses_one, keeps_others}

-- ---- the start

no_waiting : (waiting : BTreeMap ℕ (Vec ℕ)) (d c : ℕ) → waiting.entries ≡ [] → waits_for waiting d c ≡ true → ⊥
no_waiting waiting d c e h =
    let z : is_one_of [] c ≡ true = ap (λ (es : List (ℕ × Vec ℕ)). is_one_of (items_there (lookup (is_at (nat_cmp d)) es)) c) (sym e) ∙ h in
    cc

pub track_start : (areas : BTreeMap ℕ (Vec Area)) (pinned rest : BTreeSet ℕ) (work : List ℕ) (waiting : BTreeMap ℕ (Vec ℕ)) → work ≡ difference nat_cmp rest pinned → waiting.entries ≡ [] →
    IsTracking areas pinned rest work waiting None
track_start areas pinned rest work waiting e n = record {
  each = λ c h u. inr (inl (ap (λ (xs : List ℕ). is_one_of xs c) e ∙ in_difference rest pinned c ∙ and_from (not (contains nat_cmp pinned c)) _ (not_from_false (contains nat_cmp pinned c) u) h));
  work_unheld = λ c h. not-true (contains nat_cmp pinned c) (and_parts (not (contains nat_cmp pinned c)) _ (sym (in_difference rest pinned c) ∙ ap (λ (xs : List ℕ). is_one_of xs c) (sym e) ∙ h)).0;
  waiting_unheld = λ d c h. absurd (no_waiting waiting d c n h);
}

-- ---- the next is taken

pub track_pop : (areas : BTreeMap ℕ (Vec Area)) (pinned rest : BTreeSet ℕ) (work less : List ℕ) (waiting : BTreeMap ℕ (Vec ℕ)) (cell : ℕ) → work ≡ less ++ cell ∷ [] → IsTracking areas pinned rest work waiting None →
    IsTracking areas pinned rest less waiting (Some cell) × (contains nat_cmp pinned cell ≡ false)
track_pop areas pinned rest work less waiting cell e t = (
  record {
    each = λ c h u. at c (t.each c h u);
    work_unheld = λ c h. t.work_unheld c (ap (λ (xs : List ℕ). is_one_of xs c) e ∙ in_front less (cell ∷ []) c h);
    waiting_unheld = t.waiting_unheld;
  },
  t.work_unheld cell (ap (λ (xs : List ℕ). is_one_of xs cell) e ∙ in_back less (cell ∷ []) cell (or_left (cell == cell) false (is_itself cell))),
)
  where
    split : (c : ℕ) → (is_one_of less c ≡ true) ⊎ (cell ≡ c) → (Some cell ≡ Some c) ⊎ ((is_one_of less c ≡ true) ⊎ Waits areas rest waiting c)
    split c (inl k) = inr (inl k)
    split c (inr k) = inl (ap (λ (x : ℕ). Some x) k)

    at : (c : ℕ) → (None ≡ Some c) ⊎ ((is_one_of work c ≡ true) ⊎ Waits areas rest waiting c) → (Some cell ≡ Some c) ⊎ ((is_one_of less c ≡ true) ⊎ Waits areas rest waiting c)
    at c (inl k) = cc
    at c (inr (inl k)) = split c (in_last less cell c (ap (λ (xs : List ℕ). is_one_of xs c) (sym e) ∙ k))
    at c (inr (inr k)) = inr (inr k)

-- some of what cells read is forgotten
pub track_kept : (areas now : BTreeMap ℕ (Vec Area)) (pinned rest : BTreeSet ℕ) (work : List ℕ) (waiting : BTreeMap ℕ (Vec ℕ)) (o : Option ℕ) → KeepsReads rest areas now → IsTracking areas pinned rest work waiting o → IsTracking now pinned rest work waiting o
track_kept areas now pinned rest work waiting o k t = record {
  each = λ c h u. at c (t.each c h u);
  work_unheld = t.work_unheld;
  waiting_unheld = t.waiting_unheld;
}
  where
    at : (c : ℕ) → (o ≡ Some c) ⊎ ((is_one_of work c ≡ true) ⊎ Waits areas rest waiting c) → (o ≡ Some c) ⊎ ((is_one_of work c ≡ true) ⊎ Waits now rest waiting c)
    at c (inl i) = inl i
    at c (inr (inl i)) = inr (inl i)
    at c (inr (inr i)) = inr (inr (record { cell = i.cell; waits = i.waits; read = k c i.cell i.there ∙ i.read; there = i.there }))

-- it is gone already
pub track_gone : (areas : BTreeMap ℕ (Vec Area)) (pinned rest : BTreeSet ℕ) (work : List ℕ) (waiting : BTreeMap ℕ (Vec ℕ)) (cell : ℕ) → contains nat_cmp rest cell ≡ false → IsTracking areas pinned rest work waiting (Some cell) → IsTracking areas pinned rest work waiting None
track_gone areas pinned rest work waiting cell n t = record {
  each = λ c h u. at c h (t.each c h u);
  work_unheld = t.work_unheld;
  waiting_unheld = t.waiting_unheld;
}
  where
    at : (c : ℕ) → contains nat_cmp rest c ≡ true → (Some cell ≡ Some c) ⊎ ((is_one_of work c ≡ true) ⊎ Waits areas rest waiting c) → (None ≡ Some c) ⊎ ((is_one_of work c ≡ true) ⊎ Waits areas rest waiting c)
    at c h (inl k) = let s : cell ≡ c = cc in clash (contains nat_cmp rest c) h (ap (λ (x : ℕ). contains nat_cmp rest x) (sym s) ∙ n)
    at c h (inr k) = inr k

-- it waits
pub track_park : (areas : BTreeMap ℕ (Vec Area)) (pinned rest : BTreeSet ℕ) (work : List ℕ) (waiting next : BTreeMap ℕ (Vec ℕ)) (cell read : ℕ) →
    ((d : ℕ) → waiting_for next d ≡ cond (read == d) (waiting_for waiting d ++ cell ∷ []) (waiting_for waiting d)) → reads_in areas cell read ≡ true → contains nat_cmp rest read ≡ true → contains nat_cmp pinned cell ≡ false →
    IsTracking areas pinned rest work waiting (Some cell) → IsTracking areas pinned rest work next None
track_park areas pinned rest work waiting next cell read p r there unheld t = record {
  each = λ c h u. at c (t.each c h u);
  work_unheld = t.work_unheld;
  waiting_unheld = λ d c h. waiter d c (read == d) (ap (λ (xs : List ℕ). is_one_of xs c) (sym (p d)) ∙ h);
}
  where
    split : (d c : ℕ) → (waits_for waiting d c ≡ true) ⊎ (cell ≡ c) → contains nat_cmp pinned c ≡ false
    split d c (inl k) = t.waiting_unheld d c k
    split d c (inr k) = ap (λ (x : ℕ). contains nat_cmp pinned x) (sym k) ∙ unheld

    waiter : (d c : ℕ) (b : Bool) → is_one_of (cond b (waiting_for waiting d ++ cell ∷ []) (waiting_for waiting d)) c ≡ true → contains nat_cmp pinned c ≡ false
    waiter d c true h = split d c (in_last (waiting_for waiting d) cell c h)
    waiter d c false h = t.waiting_unheld d c h

    still : (d c : ℕ) (b : Bool) → waits_for waiting d c ≡ true → is_one_of (cond b (waiting_for waiting d ++ cell ∷ []) (waiting_for waiting d)) c ≡ true
    still d c true h = in_front (waiting_for waiting d) (cell ∷ []) c h
    still d c false h = h

    put : (b : Bool) → (read == read) ≡ b → is_one_of (cond b (waiting_for waiting read ++ cell ∷ []) (waiting_for waiting read)) cell ≡ true
    put true e = in_back (waiting_for waiting read) (cell ∷ []) cell (or_left (cell == cell) false (is_itself cell))
    put false e = clash (read == read) (is_itself read) e

    parked : waits_for next read cell ≡ true
    parked = ap (λ (xs : List ℕ). is_one_of xs cell) (p read) ∙ put (read == read) refl

    at : (c : ℕ) → (Some cell ≡ Some c) ⊎ ((is_one_of work c ≡ true) ⊎ Waits areas rest waiting c) → (None ≡ Some c) ⊎ ((is_one_of work c ≡ true) ⊎ Waits areas rest next c)
    at c (inl k) =
        let s : cell ≡ c = cc in
        inr (inr (record { cell = read; waits = ap (λ (x : ℕ). waits_for next read x) (sym s) ∙ parked; read = ap (λ (x : ℕ). reads_in areas x read) (sym s) ∙ r; there = there }))
    at c (inr (inl k)) = inr (inl k)
    at c (inr (inr k)) = inr (inr (record { cell = k.cell; waits = ap (λ (xs : List ℕ). is_one_of xs c) (p k.cell) ∙ still k.cell c (read == k.cell) k.waits; read = k.read; there = k.there }))

-- ---- a cell goes

-- what cells read at first, and what is left of that
pub record IsStripping (first areas : BTreeMap ℕ (Vec Area)) (pinned all rest : BTreeSet ℕ) (work : List ℕ) (waiting : BTreeMap ℕ (Vec ℕ)) : Type 0 where
  pub kept : KeepsReads rest first areas
  pub tracking : IsTracking areas pinned rest work waiting None
  pub within : IsWithin rest all
  pub stripped : AreStripped first pinned all rest

pub strip_start : (areas : BTreeMap ℕ (Vec Area)) (pinned rest : BTreeSet ℕ) (work : List ℕ) (waiting : BTreeMap ℕ (Vec ℕ)) → work ≡ difference nat_cmp rest pinned → waiting.entries ≡ [] →
    IsStripping areas areas pinned rest rest work waiting
strip_start areas pinned rest work waiting e n = record {
  kept = λ c d h. refl;
  tracking = track_start areas pinned rest work waiting e n;
  within = λ c h. h;
  stripped = λ p up c h k. clash (contains nat_cmp rest c) h k;
}

pub track_strip : (areas : BTreeMap ℕ (Vec Area)) (pinned rest less : BTreeSet ℕ) (work more : List ℕ) (waiting next : BTreeMap ℕ (Vec ℕ)) (cell : ℕ) → Loses rest less cell → more ≡ work ++ waiting_for waiting cell →
    ((d : ℕ) → waiting_for next d ≡ cond (cell == d) [] (waiting_for waiting d)) → IsTracking areas pinned rest work waiting (Some cell) → IsTracking areas pinned less more next None
track_strip areas pinned rest less work more waiting next cell l m n t = record {
  each = λ c h u. let o = loses_others rest less cell l c h in at c o.1 (t.each c o.0 u);
  work_unheld = λ c h. looked c (or_cases (is_one_of work c) (is_one_of (waiting_for waiting cell) c) (sym (list_any-append (λ (y : ℕ). y == c) work (waiting_for waiting cell)) ∙ ap (λ (xs : List ℕ). is_one_of xs c) (sym m) ∙ h));
  waiting_unheld = λ d c h. waiter d c (cell == d) (ap (λ (xs : List ℕ). is_one_of xs c) (sym (n d)) ∙ h);
}
  where
    looked : (c : ℕ) → (is_one_of work c ≡ true) ⊎ (is_one_of (waiting_for waiting cell) c ≡ true) → contains nat_cmp pinned c ≡ false
    looked c (inl k) = t.work_unheld c k
    looked c (inr k) = t.waiting_unheld cell c k

    waiter : (d c : ℕ) (b : Bool) → is_one_of (cond b [] (waiting_for waiting d)) c ≡ true → contains nat_cmp pinned c ≡ false
    waiter d c true h = cc
    waiter d c false h = t.waiting_unheld d c h

    goes_on : (c : ℕ) (k : Waits areas rest waiting c) (b : Bool) → (cell == k.cell) ≡ b → (None ≡ Some c) ⊎ ((is_one_of more c ≡ true) ⊎ Waits areas less next c)
    goes_on c k true e =
        let s : waits_for waiting cell c ≡ true = ap (λ (x : ℕ). waits_for waiting x c) (same_cell k.cell cell e) ∙ k.waits in
        inr (inl (ap (λ (xs : List ℕ). is_one_of xs c) m ∙ in_back work (waiting_for waiting cell) c s))
    goes_on c k false e =
        let w : waits_for next k.cell c ≡ true = ap (λ (xs : List ℕ). is_one_of xs c) (n k.cell ∙ ap (λ (b : Bool). cond b [] (waiting_for waiting k.cell)) e) ∙ k.waits in
        inr (inr (record { cell = k.cell; waits = w; read = k.read; there = keeps_others rest less cell l k.cell (turn_test k.cell cell ∙ e) k.there }))

    at : (c : ℕ) → (cell ≡ c → ⊥) → (Some cell ≡ Some c) ⊎ ((is_one_of work c ≡ true) ⊎ Waits areas rest waiting c) → (None ≡ Some c) ⊎ ((is_one_of more c ≡ true) ⊎ Waits areas less next c)
    at c o (inl k) = let s : cell ≡ c = cc in absurd (o s)
    at c o (inr (inl k)) = inr (inl (ap (λ (xs : List ℕ). is_one_of xs c) m ∙ in_front work (waiting_for waiting cell) c k))
    at c o (inr (inr k)) = goes_on c k (cell == k.cell) refl

pub loses_within : (rest less all : BTreeSet ℕ) (cell : ℕ) → Loses rest less cell → IsWithin rest all → IsWithin less all
loses_within rest less all cell l w c h = w c (loses_others rest less cell l c h).0

-- a cell that reads none of the set by what is left read none at first
pub first_free : (first areas : BTreeMap ℕ (Vec Area)) (pinned rest : BTreeSet ℕ) (cell : ℕ) → KeepsReads rest first areas → IsFree areas pinned rest cell → IsFree first pinned rest cell
first_free first areas pinned rest cell k f = record {
  there = f.there;
  unheld = f.unheld;
  none = λ d r. false_from_ne_true (contains nat_cmp rest d) (λ i. clash (contains nat_cmp rest d) i (f.none d (k cell d i ∙ r)));
}

pub strip_gone : (areas : BTreeMap ℕ (Vec Area)) (pinned all rest less : BTreeSet ℕ) (cell : ℕ) → Loses rest less cell → IsFree areas pinned rest cell → AreStripped areas pinned all rest → AreStripped areas pinned all less
strip_gone areas pinned all rest less cell l f s p up c h g = at (loses_one rest less cell l c g)
  where
    at : (contains nat_cmp rest c ≡ false) ⊎ (cell ≡ c) → p c ≡ true
    at (inl k) = s p up c h k
    at (inr k) =
        up c h (ap (λ (x : ℕ). contains nat_cmp pinned x) (sym k) ∙ f.unheld) (λ d r i. s p up d i (f.none d (ap (λ (x : ℕ). reads_in areas x d) k ∙ r)))

pub strip_step : (first areas now : BTreeMap ℕ (Vec Area)) (pinned all rest less : BTreeSet ℕ) (work more : List ℕ) (waiting next : BTreeMap ℕ (Vec ℕ)) (cell : ℕ) → Loses rest less cell → more ≡ work ++ waiting_for waiting cell →
    ((d : ℕ) → waiting_for next d ≡ cond (cell == d) [] (waiting_for waiting d)) → IsFree areas pinned rest cell → KeepsReads rest first areas → KeepsReads rest areas now → IsTracking now pinned rest work waiting (Some cell) → IsWithin rest all →
    AreStripped first pinned all rest → IsStripping first now pinned all less more next
strip_step first areas now pinned all rest less work more waiting next cell l m n f k j t w s = record {
  kept = λ c d h. let i = (loses_others rest less cell l d h).0 in j c d i ∙ k c d i;
  tracking = track_strip now pinned rest less work more waiting next cell l m n t;
  within = loses_within rest less all cell l w;
  stripped = strip_gone first pinned all rest less cell l (first_free first areas pinned rest cell k f) s;
}

-- ---- the end

pub strip_end : (first areas now : BTreeMap ℕ (Vec Area)) (pinned rest : BTreeSet ℕ) (work : List ℕ) (waiting : BTreeMap ℕ (Vec ℕ)) → KeepsReads rest first areas → KeepsReads rest areas now → IsTracking now pinned rest work waiting None → work ≡ [] →
    EachReadsOne first pinned rest
strip_end first areas now pinned rest work waiting k j t e c h u = at (t.each c h u)
  where
    at : (None ≡ Some c) ⊎ ((is_one_of work c ≡ true) ⊎ Waits now rest waiting c) → ReadsOne first rest c
    at (inl i) = cc
    at (inr (inl i)) = let z : is_one_of [] c ≡ true = ap (λ (xs : List ℕ). is_one_of xs c) (sym e) ∙ i in cc
    at (inr (inr i)) = record { cell = i.cell; read = sym (j c i.cell i.there ∙ k c i.cell i.there) ∙ i.read; there = i.there }

-- ---- the first to wait for a cell

new_one : (waiting next : BTreeMap ℕ (Vec ℕ)) (read cell : ℕ) (v : Vec ℕ) → get nat_cmp waiting read ≡ None → v.items ≡ cell ∷ [] → ((q : ℕ) → get nat_cmp next q ≡ cond (is_at (nat_cmp read) q) (Some v) (get nat_cmp waiting q)) →
    (d : ℕ) → waiting_for next d ≡ cond (read == d) (waiting_for waiting d ++ cell ∷ []) (waiting_for waiting d)
new_one waiting next read cell v n e u d = ap items_there (u d) ∙ ap (λ (b : Bool). items_there (cond b (Some v) (get nat_cmp waiting d))) (is_at-eq read d) ∙ at (read == d) refl
  where
    at : (b : Bool) → (read == d) ≡ b → items_there (cond b (Some v) (get nat_cmp waiting d)) ≡ cond b (waiting_for waiting d ++ cell ∷ []) (waiting_for waiting d)
    at true f =
        let none : get nat_cmp waiting d ≡ None = ap (λ (x : ℕ). get nat_cmp waiting x) (sym (same_cell d read f)) ∙ n in
        e ∙ ap (λ (o : Option (Vec ℕ)). items_there o ++ cell ∷ []) (sym none)
    at false f = refl

pub park_new : (waiting same next : BTreeMap ℕ (Vec ℕ)) (read cell : ℕ) (v : Vec ℕ) → same ≡ waiting → get nat_cmp waiting read ≡ None → v.items ≡ cell ∷ [] → ((q : ℕ) → get nat_cmp next q ≡ cond (is_at (nat_cmp read) q) (Some v) (get nat_cmp same q)) →
    (d : ℕ) → waiting_for next d ≡ cond (read == d) (waiting_for waiting d ++ cell ∷ []) (waiting_for waiting d)
park_new waiting same next read cell v s n e u = new_one waiting next read cell v n e (λ q. u q ∙ ap (λ (m : BTreeMap ℕ (Vec ℕ)). cond (is_at (nat_cmp read) q) (Some v) (get nat_cmp m q)) s)

-- ---- what a cell reads of the set

-- the rectangles have the same cells of the set
abbrev pub KeepsCells : BTreeSet ℕ → List Area → List Area → Type 0
KeepsCells rest old new = (d : ℕ) → contains nat_cmp rest d ≡ true → is_within_one new d ≡ is_within_one old d

last_area : (areas : List Area) (area : Area) (d : ℕ) → is_within_one (areas ++ area ∷ []) d ≡ (is_within_one areas d || is_within area d)
last_area areas area d = list_any-append (λ r. is_within r d) areas (area ∷ []) ∙ ap (λ (b : Bool). is_within_one areas d || b) (or-false (is_within area d))

-- the last has none of the set
pub cells_dropped : (rest : BTreeSet ℕ) (first old new : List Area) (area : Area) → old ≡ new ++ area ∷ [] → ((c : ℕ) → IsAhead rest area area.first c → IsAtOrBefore None c) → KeepsCells rest first old → KeepsCells rest first new
cells_dropped rest first old new area e n k d h = sym (ap (λ (rs : List Area). is_within_one rs d) e ∙ last_area new area d ∙ ap (λ (b : Bool). is_within_one new d || b) beside ∙ or-false (is_within_one new d)) ∙ k d h
  where
    beside : is_within area d ≡ false
    beside = false_from_ne_true (is_within area d) (λ w. n d ((within_between area d w).0, w, h))

-- or it is cut, from the row of the first that it has
pub cells_cut : (rest : BTreeSet ℕ) (first old less new : List Area) (area cut : Area) (read : ℕ) → old ≡ less ++ area ∷ [] → new ≡ less ++ cut ∷ [] → ((a : ℕ) → is_within cut a ≡ (is_within area a && nat_le (row_of read) (row_of a))) →
    ((c : ℕ) → IsAhead rest area area.first c → IsAtOrBefore (Some read) c) → KeepsCells rest first old → KeepsCells rest first new
cells_cut rest first old less new area cut read e f w n k d h =
    ap (λ (rs : List Area). is_within_one rs d) f ∙ last_area less cut d ∙ ap (λ (b : Bool). is_within_one less d || b) (w d ∙ at (is_within area d) refl)
    ∙ sym (ap (λ (rs : List Area). is_within_one rs d) e ∙ last_area less area d) ∙ k d h
  where
    below : (a b : ℕ) → a ≤ b → nat_le (row_of a) (row_of b) ≡ true
    below a b l = le-leb (row_of a) (row_of b) (omega (arith, l))

    at : (b : Bool) → is_within area d ≡ b → (is_within area d && nat_le (row_of read) (row_of d)) ≡ is_within area d
    at true i = ap (λ (x : Bool). x && nat_le (row_of read) (row_of d)) i ∙ below read d (n d ((within_between area d i).0, i, h)) ∙ sym i
    at false i = ap (λ (x : Bool). x && nat_le (row_of read) (row_of d)) i ∙ sym i

pub cells_read : (rest : BTreeSet ℕ) (first old less : List Area) (area : Area) (read : ℕ) → old ≡ less ++ area ∷ [] → IsAhead rest area area.first read → KeepsCells rest first old → is_within_one first read ≡ true
cells_read rest first old less area read e a k =
    sym (k read a.2) ∙ ap (λ (rs : List Area). is_within_one rs read) e ∙ last_area less area read ∙ or_right (is_within_one less read) _ a.1

-- what one cell reads, among all
pub kept_at : (rest : BTreeSet ℕ) (old new : BTreeMap ℕ (Vec Area)) (cell : ℕ) (v w : Vec Area) → get nat_cmp old cell ≡ Some v → ((q : ℕ) → get nat_cmp new q ≡ cond (is_at (nat_cmp cell) q) (Some w) (get nat_cmp old q)) → KeepsCells rest v.items w.items → KeepsReads rest old new
kept_at rest old new cell v w e u k c d h = ap (λ (o : Option (Vec Area)). is_within_one (items_there o) d) (u c ∙ ap (λ (b : Bool). cond b (Some w) (get nat_cmp old c)) (is_at-eq cell c)) ∙ at (cell == c) refl
  where
    at : (b : Bool) → (cell == c) ≡ b → is_within_one (items_there (cond b (Some w) (get nat_cmp old c))) d ≡ is_within_one (items_there (get nat_cmp old c)) d
    at true s = k d h ∙ ap (λ (o : Option (Vec Area)). is_within_one (items_there o) d) (sym e ∙ ap (get nat_cmp old) (same_cell c cell s))
    at false s = refl
