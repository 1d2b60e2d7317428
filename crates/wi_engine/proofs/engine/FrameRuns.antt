-- A run of frames: what is so of it all the way, and what its turns do to that.
use Rattle.wi_engine.proofs.Words.{◌≡◌, ◌<◌, ◌≤◌, ◌+◌, ◌-◌, ◌*◌, ◌||◌, ℕ, true, false, List, [], ◌∷◌, ◌++◌, length, Contains, None, refl, ap, sym, subst, ◌∙◌, true≢false, Value, Replacement, Sheet, content_of, put_all, has_formula, cells_with_formula, Counts, one_more, Key, circular, cell_value, what_if_value, Case, same_case, demand, IsClosed, NeverFall, SpentOn, cost, left, plus, one_less_left, spent_all, demand_closed, demand_has_itself, reach_rank, MemoState, IsMemoOf, found_value, found_what_ifs, case_at, IsAwaited, IsFormulaKey, StandsAt, IsFrame, IsNext, IsWaitedFor, IsBegun, IsStack, BottomIs, at_most, spare, Keeps, HasFound, FrameSteps, FrameCounts, IsFrameValue, Frame, Unvalued, Nothing, rests_rank, measure_falls_at_keep, measure_falls_at_push}
use Rattle.wi_engine.proofs.findings.FoundValues.{right_none}
use Rattle.wi_engine.proofs.engine.Stacks.{push_stack, pop_stack, push_bottom, pop_bottom, same_bottom, found_stack, run_keeps, begun_next, same_begun}
use Rattle.wi_engine.proofs.engine.Steps.{restarts_after}
use Rattle.wi_engine.proofs.engine.Budgets.{budget_start, budget_push, budget_pop, budget_same, budget_end, budget_kept, not_taken, spare_new}

-- what is so of the frames, the one at the top apart
pub record IsRunning (s : Sheet) (old m : MemoState) (root : Case) (start now : Counts) (fs : List Frame) (f : Frame) : Type 0 where
  pub memo : IsMemoOf s m
  pub begun : IsBegun s m root f
  pub stack : IsStack s m root fs (reach_rank s f.key.cell)
  pub bottom : BottomIs root fs f
  pub within : (ks : List Case) → IsClosed s ks → Contains ks root → NeverFall (at_most s m.found (f ∷ fs) now ks) (plus start (cost s old.found ks))

-- a key is found from then on
abbrev pub Finds : MemoState → MemoState → Key → Type 0
Finds m n k = (c : ℕ) (w : List Replacement) → n.found c w ≡ (m.found c w || same_case (case_at k) (c, w))

-- a frame with no values yet, and the formula of its key
pub record IsNew (s : Sheet) (f : Frame) (k : Key) : Type 0 where
  pub key : f.key ≡ k
  pub formula : StandsAt s k f.formula.now
  pub cells : (c : ℕ) → found_value f.found c ≡ None
  pub what_ifs : found_what_ifs f.found ≡ []
  pub waiting : f.waiting ≡ Nothing

-- a turn in which the frame on top comes to wait, as h, for a key whose frame is on top from then on
pub record GoesDeeper (s : Sheet) (m : MemoState) (now next : Counts) (f h g : Frame) (k : Key) : Type 0 where
  pub steps : FrameSteps s m m f h (next.restarts - now.restarts) true
  pub rises : NeverFall now next
  pub evaluations : next.evaluations ≡ now.evaluations
  pub key : IsNext s m f.key k
  pub awaited : IsAwaited s h.key.world h.waiting k
  pub new : IsNew s g k

-- what a frame waits for is next for its key
pub next_before : {s : Sheet} {m : MemoState} {h : Frame} {k : Key} {u : Unvalued} → h.key ≡ k → IsWaitedFor s m h u → IsNext s m k u.key
next_before {s} {m} {h} {k} {u} e w = subst (λ (x : Key). IsNext s m x u.key) e w.next.next

-- a turn in which the frame on top comes to its value, which is remembered
pub record ComesBack (s : Sheet) (m n : MemoState) (now next : Counts) (f : Frame) (v : Value) : Type 0 where
  pub keeps : Keeps m n f.key v
  pub found : HasFound m n f.key
  pub value : IsFrameValue s m f v
  pub counts : FrameCounts s f now next true
  pub evaluations : next.evaluations ≡ one_more now.evaluations

new_frame : (s : Sheet) (m : MemoState) (f : Frame) (k : Key) → IsNew s f k → IsFormulaKey s m k → IsFrame s m f
new_frame s m f k n h = record {
  key = rw n.key h;
  formula = rw n.key n.formula;
  found = right_none (cell_value (put_all s f.key.world)) (what_if_value (put_all s f.key.world)) f.found n.cells n.what_ifs;
  waiting = rw n.waiting tt;
}

pub run_start : (s : Sheet) (m : MemoState) (k : Key) (f : Frame) (now : Counts) → IsMemoOf s m → IsFormulaKey s m k → m.found k.cell k.world ≡ false → IsNew s f k → IsRunning s m m (case_at k) now now [] f
run_start s m k f now h key u n = record {
  memo = h;
  begun = record { frame = new_frame s m f k n key; unfound = rw n.key u; demanded = λ ks closed top. rw n.key top };
  stack = tt;
  bottom = ap case_at n.key;
  within = λ ks closed top. budget_start s m.found ks f (case_at k) now (ap case_at n.key) (spare_new s k f n.key n.waiting) u top;
}

module _ {s : Sheet} {old m : MemoState} {root : Case} {start now : Counts} {fs : List Frame} {f : Frame} (i : IsRunning s old m root start now fs f) where
  -- ---- a frame more

  pub run_deeper : {next : Counts} {h g : Frame} {k : Key} → GoesDeeper s m now next f h g k → IsRunning s old m root start next (fs ++ h ∷ []) g
  run_deeper {next} {h} {g} {k} t =
      let e = t.steps.key in
      let n = t.key in
      let lower = rests_rank s (case_at f.key) (case_at k) n.rests i.begun.frame.key.open_cell in
      let begun = same_begun s m root f h e (t.steps.frame refl) i.begun in
      let at_h : IsStack s m root fs (reach_rank s h.key.cell) = rw e i.stack in
      let below : reach_rank s g.key.cell < reach_rank s h.key.cell = rw (e, t.new.key) lower in
      let apart = not_taken s m root f fs k i.stack lower n.to_find.unfound in
      record {
        memo = i.memo;
        begun = begun_next s m root f k g i.begun.demanded n t.new.key (new_frame s m g k t.new n.to_find.key);
        stack = push_stack s m root fs h (reach_rank s g.key.cell) at_h begun below;
        bottom = push_bottom root fs h g (same_bottom root fs f h e i.bottom);
        within = λ ks closed top.
            budget_push s m.found ks fs f now _ (i.within ks closed top) h g (case_at k) next e (ap case_at t.new.key) t.evaluations (restarts_after now next t.steps t.rises) (spare_new s k g t.new.key t.new.waiting) apart
            (closed (case_at f.key) (case_at k) (i.begun.demanded ks closed top) n.rests);
      }

  pub deeper_smaller : (n : MemoState) (g : Frame) {k : Key} → n ≡ m → IsNext s m f.key k → g.key ≡ k →
      left (λ j. 1) n.found (demand s root) * (length (cells_with_formula s) + 2) + reach_rank s g.key.cell < left (λ j. 1) m.found (demand s root) * (length (cells_with_formula s) + 2) + reach_rank s f.key.cell
  deeper_smaller n g {k} en x e =
      let lower = rests_rank s (case_at f.key) (case_at k) x.rests i.begun.frame.key.open_cell in
      rw (en, e) (measure_falls_at_push s f.key.cell k.cell (left (λ j. 1) m.found (demand s root)) lower)

  pub back_smaller : (n : MemoState) (b : Frame) → Finds m n f.key → circular s root.0 ≡ false → has_formula (content_of (put_all s root.1) root.0) ≡ true →
      left (λ j. 1) n.found (demand s root) * (length (cells_with_formula s) + 2) + reach_rank s b.key.cell < left (λ j. 1) m.found (demand s root) * (length (cells_with_formula s) + 2) + reach_rank s f.key.cell
  back_smaller n b finds o form =
      let top = i.begun.demanded (demand s root) (demand_closed s root) (demand_has_itself s root o form) in
      measure_falls_at_keep s f.key.cell b.key.cell (left (λ j. 1) m.found (demand s root)) (left (λ j. 1) n.found (demand s root)) (one_less_left m.found n.found (case_at f.key) (demand s root) finds i.begun.unfound top)

  -- ---- the frame on top with a value more, which may count no more

  pub run_take : {g : Frame} → g.key ≡ f.key → IsFrame s m g → spare s g ≤ spare s f → IsRunning s old m root start now fs g
  run_take {g} e frame less = record {
    memo = i.memo;
    begun = same_begun s m root f g e frame i.begun;
    stack = rw e i.stack;
    bottom = same_bottom root fs f g e i.bottom;
    within = λ ks closed top. budget_same s m.found ks fs f now _ (i.within ks closed top) g e less;
  }

  -- ---- the end

  -- where memory runs out
  pub run_stops : (n : MemoState) {next : Counts} → FrameCounts s f now next true → (ks : List Case) → IsClosed s ks → Contains ks root → SpentOn s old.found n.found start next false ks
  run_stops n {next} t ks closed top = record { within = budget_kept s m.found ks fs f now _ (i.within ks closed top) next t.within; paid = λ d. absurd (true≢false (sym d)) }

module _ {s : Sheet} {old m n : MemoState} {root : Case} {start now next : Counts} {f : Frame} (finds : Finds m n f.key) (counts : FrameCounts s f now next true) where
  -- the value of the frame on top is found, and the one below it is on top
  pub run_back : {fs : List Frame} {b : Frame} {v : Value} → IsRunning s old m root start now (fs ++ b ∷ []) f → Keeps m n f.key v → v ≡ cell_value (put_all s f.key.world) f.key.cell → IsRunning s old n root start next fs b
  run_back {fs} {b} {v} i keeps is =
      let stack = found_stack s m n f.key root (fs ++ b ∷ []) keeps.same.covers keeps.same.generation finds i.stack in
      let below = pop_stack s n root fs b (reach_rank s f.key.cell) stack in
      record {
        memo = run_keeps s m n f.key v i.memo keeps is;
        begun = below.0;
        stack = below.1;
        bottom = pop_bottom root fs f b i.bottom;
        within = λ ks closed top. budget_pop s m.found n.found ks f now next _ finds counts.within fs b (i.within ks closed top);
      }

-- or it was the last
pub run_ends : {s : Sheet} {old m : MemoState} {root : Case} {start now next : Counts} {f : Frame} (n : MemoState) → Finds m n f.key → FrameCounts s f now next true → IsRunning s old m root start now [] f → (ks : List Case) → IsClosed s ks → Contains ks root → SpentOn s old.found n.found start next true ks
run_ends {s} {old} {m} {root} {start} {now} {next} {f} n finds counts i ks closed top = spent_all s old.found n.found start next true ks (budget_end s m.found n.found ks f now next _ finds counts.within (i.within ks closed top))

-- what is so of the frame below
pub run_below : {s : Sheet} {old m : MemoState} {root : Case} {start now : Counts} {f b : Frame} (fs : List Frame) → IsRunning s old m root start now (fs ++ b ∷ []) f → IsFrame s m b
run_below {s} {old} {m} {root} {start} {now} {f} {b} fs i = (pop_stack s m root fs b (reach_rank s f.key.cell) i.stack).0.frame

-- the value of the lowest frame is the root's
pub run_value : {s : Sheet} {old m : MemoState} {start now : Counts} {f : Frame} {v : Value} (k : Key) → IsRunning s old m (case_at k) start now [] f → v ≡ cell_value (put_all s f.key.world) f.key.cell → v ≡ cell_value (put_all s k.world) k.cell
run_value {s} {old} {m} {start} {now} {f} {v} k i is = is ∙ ap (λ (j : Case). cell_value (put_all s j.1) j.0) i.bottom
