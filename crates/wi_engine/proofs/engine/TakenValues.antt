-- A frame takes in the value for which it waits.
use Rattle.wi_engine.proofs.Words.{◌≡◌, ◌≤◌, inr, ℕ, Bool, true, List, Result, Ok, Err, IsErr, is_ok, refl, ap, sym, ◌∙◌, subst, arith, true≢false, Vec, Value, Replacement, Sheet, put_all, Key, cell_value, what_if_value, reaching, reaching_suffices, IsSettled, Table, MemoState, IsWithCell, case_at, Awaits, IsAwaited, IsFrame, lacks, spare, waits, IsFrameSettled, FrameTakes, Findings, Frame, Waiting, Cells}
use Rattle.wi_engine.proofs.engine.Waits.{cell_falls, frame_with}
use Rattle.wi_engine.proofs.engine.SettledFindings.{IsSettledFor, frame_cell}
use Rattle.wi_engine.proofs.findings.FoundValues.{right_cell}

pub takes_none : {s : Sheet} {k : Key} {f : Frame} {done : Bool} → FrameTakes s k f f done
takes_none = record { key = refl; frame = λ d m h. h; fewer = λ d. omega arith; settled = λ d kept there h. h }

pub takes_err : {X E : Type 0} {s : Sheet} {k : Key} {f g : Frame} (r : Result X E) → IsErr r → g.key ≡ f.key → FrameTakes s k f g (is_ok r)
takes_err (Ok x) e key = cc
takes_err (Err x) e key = record { key = key; frame = λ d. absurd (true≢false (sym d)); fewer = λ d. absurd (true≢false (sym d)); settled = λ d. absurd (true≢false (sym d)) }

-- the frame f waits for the key's cell, and g has its value
module _ (s : Sheet) (f g : Frame) (k : Key) (found : Findings) (a : ℕ) (others : Vec ℕ) (v : Value) (awaited : IsAwaited s f.key.world f.waiting k) (waiting : f.waiting ≡ Cells a others) (more : IsWithCell f.found found a v)
    (key : g.key ≡ f.key) (has : g.found ≡ found) where
  here : (k.cell ≡ a) × (k.world ≡ reaching s a f.key.world)
  here = subst (λ (x : Waiting). IsAwaited s f.key.world x k) waiting awaited

  with_it : IsWithCell f.found g.found a v
  with_it = subst (λ (x : Findings). IsWithCell f.found x a v) (sym has) more

  taken_frame : g.formula.now ≡ f.formula.now → v ≡ cell_value (put_all s k.world) k.cell → Awaits s (case_at f.key) found g.waiting → (m : MemoState) → IsFrame s m f → IsFrame s m g
  taken_frame formula right awaits m h =
      let is : v ≡ cell_value (put_all s f.key.world) a = right ∙ ap (λ (c : ℕ). cell_value (put_all s k.world) c) here.0 ∙ ap (λ (w : List Replacement). cell_value (put_all s w) a) here.1 ∙ reaching_suffices s f.key.world a in
      frame_with s m f g h key formula (right_cell (cell_value (put_all s f.key.world)) (what_if_value (put_all s f.key.world)) f.found g.found a v with_it is h.found)
      (subst (λ (x : Findings). Awaits s (case_at f.key) x g.waiting) (sym has) awaits)

  taken_spare : Awaits s (case_at f.key) f.found f.waiting → spare s g ≤ spare s f
  taken_spare awaits =
      let there : Awaits s (case_at f.key) f.found (Cells a others) = subst (λ (x : Waiting). Awaits s (case_at f.key) f.found x) waiting awaits in
      let less = cell_falls s f.key f.found g.found a v with_it there.0.1 there.1 there.2 in
      let one = ap waits waiting in
      let same = ap (λ (x : Key). lacks s x g.found) key in
      omega (arith, less, one, same)

  taken_settled : (kept : Table) → kept k.cell k.world ≡ true → IsFrameSettled s kept f → IsFrameSettled s kept g
  taken_settled kept there h =
      let cell_kept : kept a (reaching s a f.key.world) ≡ true = ap (λ (c : ℕ). kept c (reaching s a f.key.world)) (sym here.0) ∙ ap (kept k.cell) (sym here.1) ∙ there in
      let settled : IsSettled s kept f.key.world a = inr cell_kept in
      subst (λ (x : Key). IsSettledFor s kept x g.found) (sym key) (frame_cell s kept f g.found a v with_it settled h)

  pub takes_value : g.formula.now ≡ f.formula.now → Awaits s (case_at f.key) found g.waiting → v ≡ cell_value (put_all s k.world) k.cell → Awaits s (case_at f.key) f.found f.waiting → FrameTakes s k f g true
  takes_value formula next right awaits = record { key = key; frame = λ d. taken_frame formula right next; fewer = λ d. taken_spare awaits; settled = λ d. taken_settled }
