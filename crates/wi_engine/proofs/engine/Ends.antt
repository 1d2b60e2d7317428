-- A question in progress: what is so all the way, and what it has spent where it ends.
use Rattle.wi_engine.proofs.Words.{◌≡◌, ◌<◌, ◌≤◌, ◌+◌, ◌-◌, ◌^◌, ◌⊎◌, inl, inr, ℕ, true, false, List, [], ◌∷◌, ◌++◌, Contains, Result, is_ok, IsErr, refl, sym, subst, arith, cases_lt, true≢false, Value, Sheet, Counts, one_more, Key, Case, NeverFall, never_fall-same, never_fall-then, MemoState, IsMemoOf, case_at, AreLinked, IsAwaited, IsUnvaluedKey, WhereSpace, TakesPlaces, TakesNoMore, GivesUpWhenFull, Keeps, HasFound, IsSameBeside, Spends, FrameCounts, FrameTakes, IsFrameValue, Frame}
use Rattle.wi_engine.proofs.Places.{takes_then, gives_up_none, gives_up_then}
use Rattle.wi_engine.proofs.Ledger.{same_itself, same_then, spends_err}
use Rattle.wi_engine.proofs.engine.Stacks.{pop_linked, push_linked, run_keeps}
use Rattle.wi_engine.proofs.engine.FrameRuns.{IsRunning, IsNew, GoesDeeper, ComesBack, run_start, run_deeper, run_back, run_take, run_stops, run_ends}
use Rattle.wi_engine.proofs.engine.RunsWithSpace.{IsSaving, by_kept, saving_start, saving_deeper, saving_back, saving_take, saving_kept, saving_saved, saving_ends}

-- what is so all the way
pub record IsGoing (s : Sheet) (old m : MemoState) (root : Case) (start now : Counts) (fs : List Frame) (f : Frame) : Type 0 where
  pub running : IsRunning s old m root start now fs f
  pub linked : AreLinked s fs f.key
  pub same : IsSameBeside old m
  pub counts : NeverFall start now
  pub places : TakesNoMore old m start.evaluations now.evaluations
  pub gives_up : GivesUpWhenFull old m
  pub saving : WhereSpace s (λ ks. Contains ks root) old (λ ks. IsSaving s old m root start now fs f ks)

takes_one : (m n : MemoState) (now next : ℕ) → TakesPlaces m n 0 1 → next ≡ one_more now → TakesNoMore m n now next
takes_one m n now next l e = at (cases_lt now (2 ^ 64 - 1))
  where
    at : (now < 2 ^ 64 - 1) ⊎ (2 ^ 64 - 1 ≤ now) → TakesNoMore m n now next
    at (inl f) = inl (λ ks d. let b = l ks d in omega (arith, b, f, e))
    at (inr f) = inr (omega (arith, f, e))

-- ---- a turn, and what it leaves

pub record IsTurn (s : Sheet) (m n : MemoState) (f : Frame) (now next : Counts) : Type 0 where
  pub right : IsMemoOf s n
  pub same : IsSameBeside m n
  pub counts : FrameCounts s f now next true
  pub places : TakesNoMore m n now.evaluations next.evaluations
  pub gives_up : GivesUpWhenFull m n

-- one that keeps nothing
pub turn_same : {s : Sheet} {m n : MemoState} {f : Frame} {now next : Counts} → IsMemoOf s m → n ≡ m → FrameCounts s f now next true → IsTurn s m n f now next
turn_same {s} {m} {n} {f} {now} {next} h e counts =
    let more = counts.rises.0 in
    let alone : IsTurn s m m f now next = record { right = h; same = same_itself m; counts = counts; places = inl (λ ks d. omega (arith, more)); gives_up = gives_up_none m m refl } in
    rw e alone

-- one that keeps the frame's value
pub turn_kept : {s : Sheet} {m a n : MemoState} {f : Frame} {k : Key} {v : Value} {now next : Counts} → IsMemoOf s m → a ≡ m → k ≡ f.key → IsFrameValue s m f v × (next.evaluations ≡ one_more now.evaluations) → Keeps a n k v → FrameCounts s f now next true → IsTurn s m n f now next
turn_kept {s} {m} {a} {n} {f} {k} {v} {now} {next} h e ek gives there counts =
    let keeps : Keeps m n f.key v = rw (e, ek) at there in
    record {
      right = run_keeps s m n f.key v h keeps gives.0.value;
      same = keeps.same;
      counts = counts;
      places = takes_one m n now.evaluations next.evaluations keeps.places gives.1;
      gives_up = keeps.gives_up;
    }

-- and by which the frame comes to its end
pub comes_back : {s : Sheet} {m a n : MemoState} {f : Frame} {k : Key} {v : Value} {now next : Counts} → a ≡ m → k ≡ f.key → Keeps a n k v → HasFound a n k → IsFrameValue s m f v × (next.evaluations ≡ one_more now.evaluations) → FrameCounts s f now next true → ComesBack s m n now next f v
comes_back e ek keeps found gives counts = record { keeps = rw (e, ek) at keeps; found = rw (e, ek) at found; value = gives.0; counts = counts; evaluations = gives.1 }

-- ---- all the way

pub going_start : {s : Sheet} {m : MemoState} {k : Key} {f : Frame} (now : Counts) → IsMemoOf s m → IsUnvaluedKey s m k → IsNew s f k → IsGoing s m m (case_at k) now now [] f
going_start {s} {m} {k} {f} now h key new = record {
  running = run_start s m k f now h key.key key.unfound new;
  linked = tt;
  same = same_itself m;
  counts = never_fall-same now;
  places = inl (λ ks d. omega arith);
  gives_up = gives_up_none m m refl;
  saving = λ ks closed top whole space. saving_start s m k f now ks h key new whole space;
}

pub going_deeper : {s : Sheet} {old m : MemoState} {root : Case} {start now next : Counts} {fs : List Frame} {f h g : Frame} {k : Key} → IsGoing s old m root start now fs f → GoesDeeper s m now next f h g k → IsGoing s old m root start next (fs ++ h ∷ []) g
going_deeper {s} {old} {m} {root} {start} {now} {next} {fs} {f} {h} {g} {k} i t = record {
  running = run_deeper i.running t;
  linked = subst (AreLinked s (fs ++ h ∷ [])) (sym t.new.key) (push_linked s fs h k (subst (AreLinked s fs) (sym t.steps.key) i.linked) t.awaited);
  same = i.same;
  counts = never_fall-then start now next i.counts t.rises;
  places = rw t.evaluations i.places;
  gives_up = i.gives_up;
  saving = λ ks closed top whole space. saving_deeper t (i.saving ks closed top whole space);
}

-- back to the frame below, which takes in the value
pub going_back : {s : Sheet} {old m n : MemoState} {root : Case} {start now next : Counts} {fs : List Frame} {f b g : Frame} {v : Value} → IsGoing s old m root start now (fs ++ b ∷ []) f → ComesBack s m n now next f v → FrameTakes s f.key b g true → IsGoing s old n root start next fs g
going_back {s} {old} {m} {n} {root} {start} {now} {next} {fs} {f} {b} {g} {v} i t takes =
    let running = run_back t.found.found t.counts i.running t.keeps t.value.value in
    record {
      running = run_take running takes.key (takes.frame refl n running.begun.frame) (takes.fewer refl);
      linked = subst (AreLinked s fs) (sym takes.key) (pop_linked s fs b f.key i.linked).0;
      same = same_then i.same t.keeps.same;
      counts = never_fall-then start now next i.counts t.counts.rises;
      places = takes_then old m n start.evaluations now.evaluations next.evaluations i.places (takes_one m n now.evaluations next.evaluations t.keeps.places t.evaluations) t.counts.rises.0;
      gives_up = gives_up_then old m n i.gives_up t.keeps.gives_up;
      saving = λ ks closed top whole space.
          let saving = i.saving ks closed top whole space in
          saving_take takes (saving_kept t closed top saving) (saving_back t closed top saving);
    }

-- the frame below waits for the one on top
pub going_awaited : {s : Sheet} {old m : MemoState} {root : Case} {start now : Counts} {f : Frame} (fs : List Frame) (b : Frame) → IsGoing s old m root start now (fs ++ b ∷ []) f → IsAwaited s b.key.world b.waiting f.key
going_awaited {s} {old} {m} {root} {start} {now} {f} fs b i = (pop_linked s fs b f.key i.linked).1

-- ---- the end

-- where memory runs out
pub going_stops : {X E : Type 0} {s : Sheet} {old m n : MemoState} {root : Case} {start now next : Counts} {fs : List Frame} {f : Frame} → IsGoing s old m root start now fs f → IsTurn s m n f now next → (r : Result X E) → IsErr r → Spends s (λ ks. Contains ks root) old n start next (is_ok r)
going_stops {X} {E} {s} {old} {m} {n} {root} {start} {now} {next} {fs} {f} i t r e =
    let stops : Spends s (λ ks. Contains ks root) old n start next false = record {
      right = t.right;
      same = same_then i.same t.same;
      counts = never_fall-then start now next i.counts t.counts.rises;
      places = takes_then old m n start.evaluations now.evaluations next.evaluations i.places t.places t.counts.rises.0;
      gives_up = gives_up_then old m n i.gives_up t.gives_up;
      on_found = run_stops i.running n t.counts;
      on_kept = λ ks closed top whole space. run_stops (i.saving ks closed top whole space).running (by_kept n) t.counts ks closed top;
      saved = λ d. absurd (true≢false (sym d));
    } in
    spends_err r e stops

-- where the root's value is kept
module _ {s : Sheet} {old m n : MemoState} {root : Case} {start now next : Counts} {f : Frame} {v : Value} (i : IsGoing s old m root start now [] f) (t : ComesBack s m n now next f v) where
  pub going_ends : Spends s (λ ks. Contains ks root) old n start next true
  going_ends = record {
    right = run_keeps s m n f.key v i.running.memo t.keeps t.value.value;
    same = same_then i.same t.keeps.same;
    counts = never_fall-then start now next i.counts t.counts.rises;
    places = takes_then old m n start.evaluations now.evaluations next.evaluations i.places (takes_one m n now.evaluations next.evaluations t.keeps.places t.evaluations) t.counts.rises.0;
    gives_up = gives_up_then old m n i.gives_up t.keeps.gives_up;
    on_found = run_ends n t.found.found t.counts i.running;
    on_kept = λ ks closed top whole space. saving_ends t closed top (i.saving ks closed top whole space);
    saved = λ d ks closed top whole space. saving_saved t closed top (i.saving ks closed top whole space);
  }

  -- it is kept where there is room for all, and where any value is
  pub root_kept : WhereSpace s (λ ks. Contains ks root) old (λ ks. n.kept root.0 root.1 ≡ true)
  root_kept = λ ks closed top whole space. subst (λ (j : Case). n.kept j.0 j.1 ≡ true) i.running.bottom (saving_kept t closed top (i.saving ks closed top whole space))

  pub root_there : (1 ≤ m.capacity → n.kept f.key.cell f.key.world ≡ true) → 1 ≤ old.capacity → n.kept root.0 root.1 ≡ true
  root_there there some = subst (λ (j : Case). n.kept j.0 j.1 ≡ true) i.running.bottom (there (rw i.same.capacity some))
