-- What the steps of a frame leave and count, one after another.
use Rattle.wi_engine.proofs.Words.{◌≡◌, ◌+◌, ◌-◌, ◌≤◌, ℕ, Bool, true, false, List, None, Result, Ok, Err, IsErr, is_ok, refl, ap, sym, ◌∙◌, subst, arith, true≢false, Value, Replacement, IsInOrder, Pair, Sheet, content_of, put_all, has_formula, Counts, one_more, Want, Key, NeverFall, never_fall-same, never_fall-then, MemoState, IsMemoOf, found_value, IsWithCell, IsWithWhatIf, AsksAt, IsLacking, content_reads_here, IsFrame, lacks, spare, waits, FrameSteps, FrameCounts, FrameWaits, IsShownNow, IsWorldWith, FoundWhatIf, Frame, Waiting, Nothing, Cells}
use Rattle.wi_functions.specs.declared.evaluation.Want.TheVariants as wanted
use Rattle.wi_engine.specs.declared.frame.Waiting.TheVariants.{WhatIf}
use Rattle.wi_engine.proofs.engine.Waits.{cell_falls, frame_with, what_if_falls}
use Rattle.wi_engine.proofs.engine.SettledFindings.{IsSettledFor, frame_cell, frame_what_if, settled_again, settled_now}
use Rattle.wi_engine.proofs.engine.NextValues.{cell_found_frame, frame_waits, one_more_at_most, spare_falls, want_lacks, what_if_found_frame, what_if_right}

-- ---- none, and one after another

pub steps_none : {s : Sheet} {m n : MemoState} {f : Frame} {done : Bool} → IsFrame s m f → n ≡ m → FrameSteps s m n f f 0 done
steps_none h e = record { same = e; key = refl; frame = λ d. h; settled = λ d whole k. k; fewer = λ d. omega arith }

-- where memory runs out
pub steps_err : {X E : Type 0} {s : Sheet} {m n : MemoState} {f g : Frame} {i : ℕ} (r : Result X E) → IsErr r → n ≡ m → g.key ≡ f.key → FrameSteps s m n f g i (is_ok r)
steps_err (Ok x) e same key = cc
steps_err (Err x) e same key = record {
  same = same;
  key = key;
  frame = λ d. absurd (true≢false (sym d));
  settled = λ d. absurd (true≢false (sym d));
  fewer = λ d. absurd (true≢false (sym d));
}

pub steps_then : {s : Sheet} {m n l : MemoState} {f g h : Frame} {i j k : ℕ} {done : Bool} → k ≤ i + j → FrameSteps s m n f g i true → FrameSteps s n l g h j done → FrameSteps s m l f h k done
steps_then {s} {m} {n} {l} {f} {g} {h} {i} {j} {k} {done} less a b =
    let there : FrameSteps s m l g h j done = subst (λ (x : MemoState). FrameSteps s x l g h j done) a.same b in
    record {
      same = b.same ∙ a.same;
      key = b.key ∙ a.key;
      frame = there.frame;
      settled = λ d whole e. there.settled d whole (a.settled refl whole e);
      fewer = λ d. omega (arith, less, a.fewer refl, b.fewer d);
    }

pub steps_less : {s : Sheet} {m n : MemoState} {f g : Frame} {i j : ℕ} {done : Bool} → j ≤ i → FrameSteps s m n f g i done → FrameSteps s m n f g j done
steps_less less a = record {
  same = a.same;
  key = a.key;
  frame = a.frame;
  settled = a.settled;
  fewer = λ d. omega (arith, less, a.fewer d);
}

waits_once : (w : Waiting) → waits w ≤ 1
waits_once Nothing = omega arith
waits_once (Cells a others) = omega arith
waits_once (WhatIf a pairs) = omega arith

-- from a frame from which it was taken for what it waits
pub steps_replaced : {s : Sheet} {m n : MemoState} {e f g : Frame} {done : Bool} → e.key ≡ f.key → e.found ≡ f.found → e.waiting ≡ Nothing → FrameSteps s m n e g 1 done → FrameSteps s m n f g 0 done
steps_replaced {s} {m} {n} {e} {f} {g} {done} key found nothing a = record {
  same = a.same;
  key = a.key ∙ key;
  frame = a.frame;
  settled = λ d whole k. a.settled d whole (settled_again s m.kept f e key found k);
  fewer = λ d.
      let same : lacks s e.key e.found ≡ lacks s f.key f.found = ap (λ (k : Key). lacks s k e.found) key ∙ ap (lacks s f.key) found in
      omega (arith, a.fewer d, ap waits nothing, waits_once f.waiting, same);
}

-- one that waits for nothing
pub steps_emptied : {s : Sheet} {m n : MemoState} {f g : Frame} {done : Bool} → IsFrame s m f → n ≡ m → g.key ≡ f.key → g.formula.now ≡ f.formula.now → g.found ≡ f.found → g.waiting ≡ Nothing → f.waiting ≡ Nothing → FrameSteps s m n f g 0 done
steps_emptied {s} {m} {n} {f} {g} {done} h e key formula found nothing before = record {
  same = e;
  key = key;
  frame = λ d. frame_with s m f g h key formula (rw found h.found) (rw nothing tt);
  settled = λ d whole k. settled_again s m.kept f g key found k;
  fewer = λ d.
      let same : lacks s g.key g.found ≡ lacks s f.key f.found = ap (λ (k : Key). lacks s k g.found) key ∙ ap (lacks s f.key) found in
      omega (arith, ap waits nothing, ap waits before, same);
}

-- ---- what is waited for, and values that are found

module _ {s : Sheet} {m n l : MemoState} {f g h : Frame} {i : ℕ} (a : FrameSteps s m n f g i true) (e : l ≡ n) (nothing : g.waiting ≡ Nothing) where
  pub steps_wait : FrameWaits s g h true → waits h.waiting ≡ 1 → FrameSteps s m l f h (i + 1) true
  steps_wait w one = record {
    same = e ∙ a.same;
    key = w.key ∙ a.key;
    frame = λ d. frame_waits s g h w m (a.frame refl);
    settled = λ d whole k. settled_again s m.kept g h w.key w.found (a.settled refl whole k);
    fewer = λ d. omega (arith, spare_falls s g h w one nothing, a.fewer refl);
  }

  -- a cell's value more
  pub steps_cell : {c : ℕ} {v : Value} → IsMemoOf s m → h.key ≡ g.key → h.formula.now ≡ g.formula.now → h.waiting ≡ Nothing → IsWithCell g.found h.found c v → found_value g.found c ≡ None →
      content_reads_here (content_of (put_all s g.key.world) g.key.cell) c ≡ true → has_formula (content_of s c) ≡ true → IsShownNow s n g.key.world c v → FrameSteps s m l f h (i + 1) true
  steps_cell {c} {v} memo key formula waiting more lacking read stands shown = record {
    same = e ∙ a.same;
    key = key ∙ a.key;
    frame = λ d. cell_found_frame s m g h c v (a.frame refl) key formula waiting more shown.value;
    settled = λ d whole k.
        let now = settled_now s m n g.key.world c memo a.same whole shown.easy in
        subst (λ (x : Key). IsSettledFor s m.kept x h.found) (sym key) (frame_cell s m.kept g h.found c v more now (a.settled refl whole k));
    fewer = λ d.
        let less = cell_falls s g.key g.found h.found c v more lacking read stands in
        omega (arith, less, ap (λ (x : Key). lacks s x h.found) key, ap waits nothing, ap waits waiting, a.fewer refl);
  }

-- a what-if's value more
pub steps_what_if : {s : Sheet} {m n l : MemoState} {f h : Frame} {x : FoundWhatIf} {ps : List Pair} {world : List Replacement} → IsMemoOf s m → n ≡ m → l ≡ n → IsFrame s m f → f.waiting ≡ Nothing → h.key ≡ f.key → h.formula.now ≡ f.formula.now → h.waiting ≡ Nothing → IsWithWhatIf f.found h.found x →
    IsLacking s f.key.world f.found (wanted.WhatIf x.at x.pairs) → AsksAt s f.key.world f.key.cell (wanted.WhatIf x.at x.pairs) → ps ≡ x.pairs.items → IsWorldWith s m f.key.world ps world → IsInOrder f.key.world → IsShownNow s n world x.at x.value →
    FrameSteps s m l f h 1 true
steps_what_if {s} {m} {n} {l} {f} {h} {x} {ps} {world} memo e el is nothing key formula waiting more lacking asks pairs put order shown = record {
  same = el ∙ e;
  key = key;
  frame = λ d. what_if_found_frame s m f h x is key formula waiting more (what_if_right s world f.key.world x.at x.pairs.items ps x.value order pairs put.world shown.value);
  settled = λ d whole k.
      let now = settled_now s m n world x.at memo e whole shown.easy in
      subst (λ (j : Key). IsSettledFor s m.kept j h.found) (sym key) (frame_what_if s m.kept f h.found x world ps more asks pairs put.world (put.settled whole) now k);
  fewer = λ d.
      let less = what_if_falls s f.key f.found h.found x more asks lacking in
      omega (arith, less, ap (λ (j : Key). lacks s j h.found) key, ap waits nothing, ap waits waiting);
}

-- ---- what is counted

pub counts_none : {s : Sheet} {f : Frame} {a : Counts} {done : Bool} → FrameCounts s f a a done
counts_none {s} {f} {a} {done} = record { rises = never_fall-same a; within = (omega arith, omega arith) }

pub counts_less : {s : Sheet} {f : Frame} {a b : Counts} {done : Bool} → FrameCounts s f a b false → FrameCounts s f a b done
counts_less {s} {f} {a} {b} {done} h =
    let x : b.evaluations ≤ a.evaluations + 0 = h.within.0 in
    record { rises = h.rises; within = (omega (arith, x), h.within.1) }

-- a formula that lacks a value
pub counts_want : {s : Sheet} {f : Frame} {a b : Counts} {done : Bool} (want : Want) → AsksAt s f.key.world f.key.cell want → IsLacking s f.key.world f.found want → f.waiting ≡ Nothing → NeverFall a b → b.evaluations ≡ a.evaluations → b.restarts ≡ one_more a.restarts →
    FrameCounts s f a b done
counts_want {s} {f} {a} {b} {done} want asks lacking nothing rises same counted =
    record { rises = rises; within = (omega (arith, same), omega (arith, want_lacks s f.key f.found want asks lacking, ap waits nothing, one_more_at_most a.restarts b.restarts counted)) }

-- one that is done
pub counts_done : {s : Sheet} {f : Frame} {a b : Counts} → NeverFall a b → b.evaluations ≡ one_more a.evaluations → b.restarts ≡ a.restarts → FrameCounts s f a b true
counts_done {s} {f} {a} {b} rises counted same = record { rises = rises; within = (omega (arith, one_more_at_most a.evaluations b.evaluations counted), omega (arith, same)) }

-- after steps that counted restarts alone
pub counts_then : {s : Sheet} {m n : MemoState} {f g : Frame} {a b c : Counts} {done : Bool} → FrameSteps s m n f g (b.restarts - a.restarts) true → NeverFall a b → b.evaluations ≡ a.evaluations → FrameCounts s g b c done → FrameCounts s f a c done
counts_then {s} {m} {n} {f} {g} {a} {b} {c} {done} steps up same one =
    record { rises = never_fall-then a b c up one.rises; within = (omega (arith, one.within.0, same), omega (arith, steps.fewer refl, one.within.1, up.1)) }

pub restarts_after : {s : Sheet} {m n : MemoState} {f g : Frame} (a b : Counts) → FrameSteps s m n f g (b.restarts - a.restarts) true → NeverFall a b → b.restarts + spare s g ≤ a.restarts + spare s f
restarts_after a b steps up = omega (arith, steps.fewer refl, up.1)
