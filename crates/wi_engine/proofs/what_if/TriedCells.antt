-- A question that ends with a cell whose formula is a what-if, where no place is free.
use Rattle.wi_engine.proofs.Words.{◌≡◌, ◌∙◌, ◌≤◌, ℕ, true, List, Option, Some, None, Result, Ok, Err, IsErr, ap, sym, AllocError, Value, Replacement, Sheet, put_all, Counts, Key, cell_value, HasCase, NeverFall, never_fall-same, spent_nothing, MemoState, IsMemoOf, IsUnvalued, IsShownNow, Keeps}
use Rattle.wi_engine.specs.Inner.Plans.{FindsRoot, Follows, TriesCell}
use Rattle.wi_engine.proofs.engine.RunsWithSpace.{not_easy, unvalued_kept}
use Rattle.wi_engine.proofs.plan.FullLists.{full_stopped, full_kept}

-- ---- the root's value

pub finds_shown : {s : Sheet} {m : MemoState} {w : List Replacement} {root : ℕ} {v : Value} (a : Counts) → IsShownNow s m w root v → FindsRoot s w root a a (Ok (Some v))
finds_shown a shown = record { value = shown.value; none = λ e. let z = e in cc; counts = never_fall-same a; at_most = λ ks closed has. spent_nothing a _ }

pub finds_none : {s : Sheet} {w : List Replacement} {root : ℕ} (a : Counts) (r : Result (Option Value) AllocError) → IsErr r → FindsRoot s w root a a r
finds_none a (Ok o) e = cc
finds_none a (Err x) e = record { value = tt; none = λ i. let z = i in cc; counts = never_fall-same a; at_most = λ ks closed has. spent_nothing a _ }

pub finds_followed : {s : Sheet} {m : MemoState} {w : List Replacement} {root : ℕ} {k : Key} {a b : Counts} {r : Result (Option Value) AllocError} → IsUnvalued s m w root k → Follows s w root a b r → FindsRoot s w root a b r
finds_followed u f = record { value = f.value; none = f.none; counts = f.counts; at_most = λ ks closed has. f.at_most ks closed (has u.formula) }

-- ---- the cell's

module _ {s : Sheet} {m : MemoState} {w : List Replacement} {c : ℕ} {k : Key} (u : IsUnvalued s m w c k) (full : m.space ≡ 0) (h : IsMemoOf s m) where
  -- where memory ran out before its value was kept
  pub tries_stopped : {n : MemoState} {a b : Counts} {q : Result (Option Value) AllocError} (r : Result (Option Value) AllocError) → IsErr r → Follows s w c a b q → n ≡ m → TriesCell s m n w c a b r
  tries_stopped (Ok o) i f e = cc
  tries_stopped (Err x) i f e = record { value = tt; none = λ j. let z = j in cc; spends = full_stopped u full h f e; uncounted = λ easy. absurd (not_easy u h easy); kept = tt }

  -- or while it was
  pub tries_lost : {l n : MemoState} {a b : Counts} {v : Value} (r : Result (Option Value) AllocError) → IsErr r → Follows s w c a b (Ok (Some v)) → l ≡ m → Keeps l n k v → TriesCell s m n w c a b r
  tries_lost (Ok o) i f e keeps = cc
  tries_lost (Err x) i f e keeps = record { value = tt; none = λ j. let z = j in cc; spends = full_kept u full h f e keeps f.value f.one; uncounted = λ easy. absurd (not_easy u h easy); kept = tt }

  -- and where it is
  pub tries_kept : {l n : MemoState} {a b : Counts} {v shown : Value} → Follows s w c a b (Ok (Some v)) → l ≡ m → Keeps l n k v → (1 ≤ l.capacity → n.kept k.cell k.world ≡ true) → shown ≡ v → TriesCell s m n w c a b (Ok (Some shown))
  tries_kept {l} {n} f e keeps there same = record {
    value = same ∙ f.value;
    none = λ j. let z = j in cc;
    spends = full_kept u full h f e keeps f.value f.one;
    uncounted = λ easy. absurd (not_easy u h easy);
    kept = unvalued_kept u l n e there;
  }
