-- A run of frames while there is room for all that it finds.
use Rattle.wi_engine.proofs.Words.{◌≡◌, ◌≤◌, ◌+◌, ◌⊎◌, inl, inr, ◌||◌, ℕ, Bool, true, false, List, [], ◌∷◌, ◌++◌, Contains, Option, Some, is_some, Result, Ok, Err, IfOk, IsErr, OnOk, is_ok, IfOk-weaker, on_ok_weaker, refl, ap, sym, ◌∙◌, subst, arith, or_cases, or_from, or_left, or_right, true≢false, AllocError, Value, Replacement, Sheet, put_all, Counts, Key, cell_value, Case, case_of, reaching, same_case, Table, IsClosed, HasCase, SpentOn, IsSettled, RestsOnKept, same_case-refl, reaching_suffices, one_less_left, MemoState, IsComplete, IsMemoOf, case_at, IsFormulaKey, IsUnvaluedKey, IsUnvalued, IsNext, not_kept, KeepsFound, WhereSpace, NeedsNoEvaluation, IsValuedAnew, Saved, Spends, ValuesCell, IsShownNow, FrameTakes, Keeps, Frame}
use Rattle.wi_engine.proofs.Places.{none_went}
use Rattle.wi_engine.proofs.Ledger.{spends_none, spends_weaken}
use Rattle.wi_engine.proofs.engine.NextCases.{unvalued_case}
use Rattle.wi_engine.proofs.engine.NextValues.{one_more_at_most}
use Rattle.wi_engine.proofs.engine.SettledFindings.{settled_now}
use Rattle.wi_engine.proofs.engine.SettledStacks.{IsSettling, settling_start, settling_push, settling_pop, rests_after}
use Rattle.wi_engine.proofs.engine.Stacks.{same_frame}
use Rattle.wi_engine.proofs.engine.FrameRuns.{IsRunning, IsNew, Finds, GoesDeeper, ComesBack, run_start, run_deeper, run_back, run_take, run_ends}

-- a memory, seen as if what is kept were what was found
abbrev pub by_kept : MemoState → MemoState
by_kept m = record { sheet = m.sheet; covers = m.covers; generation = m.generation; known = m.known; found = m.kept; kept = m.kept; stands = m.stands; space = m.space; capacity = m.capacity; latest = m.latest }

once : (a b c : Bool) → a ≡ (b || c) → (b ≡ true → c ≡ true) → a ≡ (c || c)
once a true true e h = e
once a true false e h = let z = h refl in cc
once a false true e h = e
once a false false e h = e

kept_complete : (m : MemoState) → IsComplete m → KeepsFound m → IsComplete (by_kept m)
kept_complete m t h c w = once (is_some (m.known c w)) (m.found c w) (m.kept c w) (t c w) (h c w)

kept_memory_of : (s : Sheet) (m : MemoState) → IsMemoOf s m → KeepsFound m → IsMemoOf s (by_kept m)
kept_memory_of s m h w = record {
  sheet = h.sheet;
  right = h.right;
  closed = h.closed;
  complete = kept_complete m h.complete w;
}

kept_to_value : (s : Sheet) (m : MemoState) (k : Key) → IsFormulaKey s m k → IsFormulaKey s (by_kept m) k
kept_to_value s m k h = record { formula = h.formula; open_cell = h.open_cell; covered = h.covered; own = h.own; generation = h.generation }

kept_next : (s : Sheet) (m : MemoState) (below k : Key) → IsNext s m below k → IsNext s (by_kept m) below k
kept_next s m below k h = record { rests = h.rests; to_find = record { key = kept_to_value s m k h.to_find.key; unfound = h.to_find.unkept; unkept = h.to_find.unkept } }

kept_keeps : (m n : MemoState) (k : Key) (v : Value) → KeepsFound n → Keeps m n k v → Keeps (by_kept m) (by_kept n) k v
kept_keeps m n k v w h = record {
  sheet = h.sheet;
  same = record { covers = h.same.covers; generation = h.same.generation; capacity = h.same.capacity; latest = h.same.latest };
  known = h.known;
  complete = kept_complete n h.complete w;
  places = h.places;
  gives_up = record { space = h.gives_up.space; stays = h.gives_up.stays };
}

-- a turn, seen so
kept_deeper : {s : Sheet} {m : MemoState} {now next : Counts} {f h g : Frame} {k : Key} → KeepsFound m → GoesDeeper s m now next f h g k → GoesDeeper s (by_kept m) now next f h g k
kept_deeper {s} {m} {now} {next} {f} {h} {g} {k} whole t = record {
  steps = record {
    same = refl;
    key = t.steps.key;
    frame = λ d. same_frame s m (by_kept m) h refl refl (t.steps.frame d);
    settled = λ d there. t.steps.settled d whole;
    fewer = t.steps.fewer;
  };
  rises = t.rises;
  evaluations = t.evaluations;
  key = kept_next s m f.key k t.key;
  awaited = t.awaited;
  new = t.new;
}

-- what is so of the frames where there is room for these cases
pub record IsSaving (s : Sheet) (old m : MemoState) (root : Case) (start now : Counts) (fs : List Frame) (f : Frame) (ks : List Case) : Type 0 where
  pub running : IsRunning s (by_kept old) (by_kept m) root start now fs f
  pub whole : KeepsFound m
  pub added : now.evaluations + m.space ≤ start.evaluations + old.space
  pub space : not_kept m ks ≤ m.space
  pub stays : (c : ℕ) (w : List Replacement) → old.kept c w ≡ true → m.kept c w ≡ true
  pub stand : (k : Key) → old.stands k ≡ true → m.stands k ≡ true
  pub settling : IsSettling s old m fs f

pub saving_start : (s : Sheet) (m : MemoState) (k : Key) (f : Frame) (now : Counts) (ks : List Case) → IsMemoOf s m → IsUnvaluedKey s m k → IsNew s f k → KeepsFound m → not_kept m ks ≤ m.space → IsSaving s m m (case_at k) now now [] f ks
saving_start s m k f now ks h key n whole space = record {
  running = run_start s (by_kept m) k f now (kept_memory_of s m h whole) (kept_to_value s m k key.key) key.unkept n;
  whole = whole;
  added = omega arith;
  space = space;
  stays = λ c v i. i;
  stand = λ j i. i;
  settling = settling_start s m f k n;
}

pub saving_deeper : {s : Sheet} {old m : MemoState} {root : Case} {start now next : Counts} {fs : List Frame} {f h g : Frame} {k : Key} {ks : List Case} → GoesDeeper s m now next f h g k → IsSaving s old m root start now fs f ks → IsSaving s old m root start next (fs ++ h ∷ []) g ks
saving_deeper {s} {old} {m} {root} {start} {now} {next} {fs} {f} {h} {g} {k} {ks} t i = record {
  running = run_deeper i.running (kept_deeper i.whole t);
  whole = i.whole;
  added = let a = i.added in let e = t.evaluations in omega (arith, a, e);
  space = i.space;
  stays = i.stays;
  stand = i.stand;
  settling = settling_push s old m fs f h g k i.settling (t.steps.settled refl i.whole i.settling.top) t.new;
}

pub saving_take : {s : Sheet} {old m : MemoState} {root : Case} {start now : Counts} {fs : List Frame} {f g : Frame} {ks : List Case} {k : Key} → FrameTakes s k f g true → m.kept k.cell k.world ≡ true → IsSaving s old m root start now fs f ks → IsSaving s old m root start now fs g ks
saving_take {s} {old} {m} {root} {start} {now} {fs} {f} {g} {ks} {k} t there i = record {
  running = run_take i.running t.key (t.frame refl (by_kept m) i.running.begun.frame) (t.fewer refl);
  whole = i.whole;
  added = i.added;
  space = i.space;
  stays = i.stays;
  stand = i.stand;
  settling = record { top = t.settled refl m.kept there i.settling.top; below = i.settling.below; rests = i.settling.rests };
}

whole_after : (m n : MemoState) (k : Key) → Finds m n k → ((c : ℕ) (w : List Replacement) → n.kept c w ≡ (m.kept c w || same_case (case_at k) (c, w))) → KeepsFound m → KeepsFound n
whole_after m n k f g h c w i = g c w ∙ at (or_cases (m.found c w) (same_case (case_at k) (c, w)) (sym (f c w) ∙ i))
  where
    at : (m.found c w ≡ true) ⊎ (same_case (case_at k) (c, w) ≡ true) → (m.kept c w || same_case (case_at k) (c, w)) ≡ true
    at (inl j) = or_left (m.kept c w) _ (h c w j)
    at (inr j) = or_right (m.kept c w) _ j

module _ {s : Sheet} {old m n : MemoState} {root : Case} {start now next : Counts} {fs : List Frame} {f : Frame} {v : Value} {ks : List Case} (t : ComesBack s m n now next f v) (closed : IsClosed s ks) (top : Contains ks root) (i : IsSaving s old m root start now fs f ks) where
  demanded : Contains ks (case_at f.key)
  demanded = i.running.begun.demanded ks closed top

  -- there is a place for the value
  place : 1 ≤ m.space
  place =
      let some = one_less_left m.kept (λ c w. m.kept c w || same_case (case_at f.key) (c, w)) (case_at f.key) ks (λ c w. refl) i.running.begun.unfound demanded in
      let r = i.space in
      omega (arith, some, r)

  kept : (c : ℕ) (w : List Replacement) → n.kept c w ≡ (m.kept c w || same_case (case_at f.key) (c, w))
  kept = t.found.kept place

  -- which it takes
  takes : n.space + 1 ≡ m.space
  takes = t.found.space i.running.begun.unfound place

  still : not_kept n ks ≤ n.space
  still =
      let less = one_less_left m.kept n.kept (case_at f.key) ks kept i.running.begun.unfound demanded in
      let r = i.space in
      let taken = takes in
      omega (arith, less, r, taken)

  whole_then : KeepsFound n
  whole_then = whole_after m n f.key t.found.found kept i.whole

  added_then : next.evaluations + n.space ≤ start.evaluations + old.space
  added_then =
      let added = i.added in
      let taken = takes in
      let more = one_more_at_most now.evaluations next.evaluations t.evaluations in
      omega (arith, added, taken, more)

  stand_then : (k : Key) → old.stands k ≡ true → n.stands k ≡ true
  stand_then k h =
      let taken = takes in
      none_went m n 0 1 k t.keeps.places (omega (arith, taken)) (i.stand k h)

  stays_then : (c : ℕ) (w : List Replacement) → old.kept c w ≡ true → n.kept c w ≡ true
  stays_then c w h = kept c w ∙ or_left (m.kept c w) _ (i.stays c w h)

  rests_then : RestsOnKept s m.kept (case_at f.key)
  rests_then = t.value.rests i.whole i.settling.top

  -- the value of a frame that is done is kept
  pub saving_kept : n.kept f.key.cell f.key.world ≡ true
  saving_kept = kept f.key.cell f.key.world ∙ or_right (m.kept f.key.cell f.key.world) _ (same_case-refl (case_at f.key))

  pub saving_saved : Saved s old n start next ks
  saving_saved = record {
    added = added_then;
    space = still;
    stays = stays_then;
    stand = stand_then;
    found = whole_then;
    rests = rests_after s m n (case_at f.key) kept old rests_then i.settling.rests;
  }

pub saving_back : {s : Sheet} {old m n : MemoState} {root : Case} {start now next : Counts} {fs : List Frame} {f b : Frame} {v : Value} {ks : List Case} → ComesBack s m n now next f v → IsClosed s ks → Contains ks root → IsSaving s old m root start now (fs ++ b ∷ []) f ks →
    IsSaving s old n root start next fs b ks
saving_back {s} {old} {m} {n} {root} {start} {now} {next} {fs} {f} {b} {v} {ks} t closed top i = record {
  running = run_back (kept t closed top i) t.counts i.running (kept_keeps m n f.key v (whole_then t closed top i) t.keeps) t.value.value;
  whole = whole_then t closed top i;
  added = added_then t closed top i;
  space = still t closed top i;
  stays = stays_then t closed top i;
  stand = stand_then t closed top i;
  settling = settling_pop s m n (case_at f.key) (kept t closed top i) old fs f b i.settling (rests_then t closed top i);
}

pub saving_ends : {s : Sheet} {old m n : MemoState} {root : Case} {start now next : Counts} {f : Frame} {v : Value} {ks : List Case} → ComesBack s m n now next f v → IsClosed s ks → Contains ks root → IsSaving s old m root start now [] f ks → SpentOn s old.kept n.kept start next true ks
saving_ends {s} {old} {m} {n} t closed top i = run_ends (by_kept n) (kept t closed top i) t.counts i.running _ closed top

-- ---- a cell under any replacements, where no formula has to be evaluated for it

-- what needs no evaluation, and was not found, is kept
kept_before : {s : Sheet} {m : MemoState} {w : List Replacement} {a : ℕ} (n : MemoState) → IsMemoOf s m → n ≡ m → NeedsNoEvaluation s m w a → IsValuedAnew s m w a → n.kept a (reaching s a w) ≡ true
kept_before n h e (inl k) v = let z = v.formula in cc
kept_before {s} {m} {w} {a} n h e (inr k) v = rw e (sym (h.complete a (reaching s a w) ∙ ap (λ (b : Bool). b || m.kept a (reaching s a w)) v.unfound) ∙ k)

-- a value looked up needs no evaluation
pub found_easy : (s : Sheet) (m n : MemoState) (w : List Replacement) (a : ℕ) (k : Key) (v : Value) → IsMemoOf s m → n ≡ m → k.cell ≡ a → k.world ≡ reaching m.sheet a w → Some v ≡ n.known k.cell k.world → NeedsNoEvaluation s m w a
found_easy s m n w a k v h en ec ew e =
    let world : k.world ≡ reaching s a w = ew ∙ ap (λ (t : Sheet). reaching t a w) h.sheet in
    let there : Some v ≡ m.known k.cell k.world = e ∙ ap (λ (x : MemoState). x.known k.cell k.world) en in
    inr (ap (λ (u : List Replacement). is_some (m.known a u)) (sym world) ∙ ap (λ (c : ℕ). is_some (m.known c k.world)) (sym ec) ∙ ap (λ (o : Option Value). is_some o) (sym there))

-- what needs no evaluation is settled where all that was found is kept
settled_before : {s : Sheet} {m : MemoState} (n : MemoState) (w : List Replacement) (a : ℕ) (Has : List Case → Type 0) → IsMemoOf s m → n ≡ m → NeedsNoEvaluation s m w a → WhereSpace s Has m (λ ks. IsSettled s n.kept w a)
settled_before {s} {m} n w a Has h e easy = λ ks closed top whole space. subst (λ (x : MemoState). IsSettled s x.kept w a) (sym e) (settled_now s m m w a h refl whole easy)

-- so a question finds it there, and spends nothing
pub values_known : {s : Sheet} {m n : MemoState} {w : List Replacement} {a : ℕ} {c : Counts} {v : Value} → IsMemoOf s m → n ≡ m → IsShownNow s m w a v → ValuesCell s m n w a c c (Ok v)
values_known {s} {m} {n} {w} {a} h e shown = record {
  value = shown.value;
  spends = spends_none h e;
  uncounted = λ easy. refl;
  kept = λ anew space. kept_before n h e shown.easy anew;
  settled = settled_before n w a (HasCase s w a) h e shown.easy;
}

-- and nothing was spent either where memory runs out before
pub values_none : {s : Sheet} {m n : MemoState} {w : List Replacement} {a : ℕ} {c : Counts} (r : Result Value AllocError) → IsErr r → IsMemoOf s m → n ≡ m → ValuesCell s m n w a c c r
values_none (Ok v) i h e = cc
values_none (Err x) i h e = record { value = tt; spends = spends_none h e; uncounted = λ easy. refl; kept = tt; settled = tt }

-- ---- and where its formula has to be valued

module _ {s : Sheet} {m : MemoState} {w : List Replacement} {a : ℕ} {k : Key} (u : IsUnvalued s m w a k) where
  here : case_of s w a ≡ case_at k
  here = unvalued_case s m w a k u

  -- a value under the key of a cell is the cell's
  unvalued_value : (v : Value) → v ≡ cell_value (put_all s k.world) k.cell → v ≡ cell_value (put_all s w) a
  unvalued_value v is = is ∙ ap (λ (j : Case). cell_value (put_all s j.1) j.0) (sym here) ∙ reaching_suffices s w a

  unvalued_in : (ks : List Case) → HasCase s w a ks → Contains ks (case_at k)
  unvalued_in ks h = subst (λ (j : Case). Contains ks j) here (h u.formula)

  pub not_easy : IsMemoOf s m → NeedsNoEvaluation s m w a → ⊥
  not_easy h (inl j) = let z = u.formula in cc
  not_easy h (inr j) =
      let at : (f : Table) → f k.cell k.world ≡ false → f a (reaching s a w) ≡ false = λ f e. ap (λ (i : Case). f i.0 i.1) here ∙ e in
      true≢false (sym j ∙ h.complete a (reaching s a w) ∙ or_from (m.found a (reaching s a w)) (m.kept a (reaching s a w)) (at m.found u.to_find.unfound) (at m.kept u.to_find.unkept))

  unvalued_settled : (n l : MemoState) → n ≡ m → WhereSpace s (λ ks. Contains ks (case_at k)) n (λ ks. l.kept k.cell k.world ≡ true) → WhereSpace s (HasCase s w a) m (λ ks. IsSettled s l.kept w a)
  unvalued_settled n l e h = λ ks closed top whole space.
      let before : WhereSpace s (λ ks. Contains ks (case_at k)) m (λ ks. l.kept k.cell k.world ≡ true) = rw e at h in
      inr (ap (λ (j : Case). l.kept j.0 j.1) here ∙ before ks closed (unvalued_in ks top) whole space)

  pub unvalued_kept : (n l : MemoState) → n ≡ m → (1 ≤ n.capacity → l.kept k.cell k.world ≡ true) → 1 ≤ m.capacity → l.kept a (reaching s a w) ≡ true
  unvalued_kept n l e h r = ap (λ (j : Case). l.kept j.0 j.1) here ∙ h (let z = ap (λ (x : MemoState). x.capacity) e in omega (arith, r, z))

  -- so a run for the key is a question for the cell
  pub values_then : {n l : MemoState} {b c : Counts} (r : Result Value AllocError) → IsMemoOf s m → n ≡ m → IfOk r (λ v. v ≡ cell_value (put_all s k.world) k.cell) → Spends s (λ ks. Contains ks (case_at k)) n l b c (is_ok r) →
      OnOk r (1 ≤ n.capacity → l.kept k.cell k.world ≡ true) → OnOk r (WhereSpace s (λ ks. Contains ks (case_at k)) n (λ ks. l.kept k.cell k.world ≡ true)) → ValuesCell s m l w a b c r
  values_then {n} {l} r h e is spent there whole = record {
    value = IfOk-weaker r _ _ unvalued_value is;
    spends = spends_weaken e unvalued_in (λ d. d) spent;
    uncounted = λ easy. absurd (not_easy h easy);
    kept = on_ok_weaker r (λ j anew space. unvalued_kept n l e j space) there;
    settled = on_ok_weaker r (unvalued_settled n l e) whole;
  }
