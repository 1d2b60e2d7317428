-- What one question after another spends.
use Rattle.wi_engine.proofs.Words.{◌≡◌, ℕ, Bool, true, false, List, Option, Some, Result, Ok, Err, IsErr, is_ok, refl, sym, ◌∙◌, subst, arith, true≢false, AllocError, Value, Replacement, Sheet, Counts, Case, RestsOnKept, SpentOn, never_fall-same, never_fall-then, spent_none, spent_price, spent_then, spent_weaken, MemoState, IsMemoOf, WhereSpace, IsSameBeside, Saved, Spends, SpendsAtMost, ValuesCell, rests_more}
use Rattle.wi_engine.specs.Inner.Plans.{TriesCell}
use Rattle.wi_engine.specs.Inner.Spends.{ValuesAtMost}
use Rattle.wi_engine.proofs.Places.{takes_none, takes_then, gives_up_none, gives_up_then}

-- ---- of what is kept

saved_then : (s : Sheet) (old mid new : MemoState) (a b c : Counts) (ks : List Case) → Saved s old mid a b ks → Saved s mid new b c ks → Saved s old new a c ks
saved_then s old mid new a b c ks h k =
    let u = h.added in
    let v = k.added in
    record {
      added = omega (arith, u, v);
      space = k.space;
      stays = λ d w i. k.stays d w (h.stays d w i);
      stand = λ j i. k.stand j (h.stand j i);
      found = k.found;
      rests = λ d w i o. before d w i o (mid.kept d w) refl;
    }
  where
    before : (d : ℕ) (w : List Replacement) → new.kept d w ≡ true → old.kept d w ≡ false → (t : Bool) → mid.kept d w ≡ t → RestsOnKept s new.kept (d, w)
    before d w i o true e = rests_more s mid.kept new.kept k.stays (d, w) (h.rests d w e o)
    before d w i o false e = k.rests d w i e

-- ---- of both

pub same_itself : (m : MemoState) → IsSameBeside m m
same_itself m = record { covers = refl; generation = refl; capacity = refl; latest = refl }

pub same_then : {old mid new : MemoState} → IsSameBeside old mid → IsSameBeside mid new → IsSameBeside old new
same_then h k = record { covers = k.covers ∙ h.covers; generation = k.generation ∙ h.generation; capacity = k.capacity ∙ h.capacity; latest = k.latest ∙ h.latest }

none_alone : (s : Sheet) (Has : List Case → Type 0) (m : MemoState) (a : Counts) (done : Bool) → IsMemoOf s m → Spends s Has m m a a done
none_alone s Has m a done h = record {
  right = h;
  same = same_itself m;
  counts = never_fall-same a;
  places = takes_none m m a.evaluations refl;
  gives_up = gives_up_none m m refl;
  on_found = λ ks closed top. spent_none s m.found a done ks;
  on_kept = λ ks closed top whole space. spent_none s m.kept a done ks;
  saved = λ d ks closed top whole space. record { added = omega arith; space = space; stays = λ c v i. i; stand = λ j i. i; found = whole; rests = λ c v i o. absurd (true≢false (sym i ∙ o)) };
}

-- where nothing is done nothing is spent
pub spends_none : {s : Sheet} {Has : List Case → Type 0} {m n : MemoState} {a : Counts} {done : Bool} → IsMemoOf s m → n ≡ m → Spends s Has m n a a done
spends_none {s} {Has} {m} {n} {a} {done} h e = subst (λ (x : MemoState). Spends s Has m x a a done) (sym e) (none_alone s Has m a done h)

module _ {s : Sheet} {First Second Both : List Case → Type 0} {old mid : MemoState} {a b : Counts} (first : (ks : List Case) → Both ks → First ks) (second : (ks : List Case) → Both ks → Second ks) (h : Spends s First old mid a b true) where
  -- what is so where there is room after a question is so where there was room before it
  pub where_then : {P : List Case → Type 0} → WhereSpace s Second mid P → WhereSpace s Both old P
  where_then k = λ ks closed top whole space.
      let one = h.saved refl ks closed (first ks top) whole space in
      k ks closed (second ks top) one.found one.space

  -- one question after another
  pub spends_then : {new : MemoState} {c : Counts} {done : Bool} → Spends s Second mid new b c done → Spends s Both old new a c done
  spends_then {new} {c} {done} k = record {
    right = k.right;
    same = same_then h.same k.same;
    counts = never_fall-then a b c h.counts k.counts;
    places = takes_then old mid new a.evaluations b.evaluations c.evaluations h.places k.places k.counts.0;
    gives_up = gives_up_then old mid new h.gives_up k.gives_up;
    on_found = λ ks closed top. spent_then (h.on_found ks closed (first ks top)) (k.on_found ks closed (second ks top));
    on_kept = λ ks closed top whole space.
        spent_then (h.on_kept ks closed (first ks top) whole space) (where_then {P = λ qs. SpentOn s mid.kept new.kept b c done qs} k.on_kept ks closed top whole space);
    saved = λ d ks closed top whole space.
        saved_then s old mid new a b c ks (h.saved refl ks closed (first ks top) whole space) (where_then {P = λ qs. Saved s mid new b c qs} (k.saved d) ks closed top whole space);
  }

-- of fewer lists, from the same beginning, and where less is done
pub spends_weaken : {s : Sheet} {Has Less : List Case → Type 0} {m old new : MemoState} {a b : Counts} {done less : Bool} → m ≡ old → ((ks : List Case) → Less ks → Has ks) → (less ≡ true → done ≡ true) → Spends s Has m new a b done → Spends s Less old new a b less
spends_weaken {s} {Has} {Less} {m} {old} {new} {a} {b} {done} {less} e has d g =
    let h : Spends s Has old new a b done = subst (λ (x : MemoState). Spends s Has x new a b done) e g in
    record {
      right = h.right;
      same = h.same;
      counts = h.counts;
      places = h.places;
      gives_up = h.gives_up;
      on_found = λ ks closed top. spent_weaken d (h.on_found ks closed (has ks top));
      on_kept = λ ks closed top whole space. spent_weaken d (h.on_kept ks closed (has ks top) whole space);
      saved = λ i ks closed top whole space. h.saved (d i) ks closed (has ks top) whole space;
    }

-- whatever was done, where memory runs out
pub spends_err : {X E : Type 0} {s : Sheet} {Has : List Case → Type 0} {old new : MemoState} {a b : Counts} {done : Bool} (r : Result X E) → IsErr r → Spends s Has old new a b done → Spends s Has old new a b (is_ok r)
spends_err (Ok x) e h = cc
spends_err (Err x) e h = spends_weaken refl (λ ks top. top) (λ d. absurd (true≢false (sym d))) h

-- what a question spends is at most what its cases cost
pub spends_at_most : {s : Sheet} {Has : List Case → Type 0} {old new : MemoState} {a b : Counts} {done : Bool} → Spends s Has old new a b done → SpendsAtMost s Has old new a b done
spends_at_most h = record {
  right = h.right;
  same = h.same;
  counts = h.counts;
  places = h.places;
  gives_up = h.gives_up;
  at_most = λ ks closed top. spent_price (h.on_found ks closed top);
  on_kept = h.on_kept;
  saved = h.saved;
}

-- the same of fewer lists, from the same beginning
pub at_most_weaken : {s : Sheet} {Has Less : List Case → Type 0} {m old new : MemoState} {a b : Counts} {done : Bool} → m ≡ old → ((ks : List Case) → Less ks → Has ks) → SpendsAtMost s Has m new a b done → SpendsAtMost s Less old new a b done
at_most_weaken {s} {Has} {Less} {m} {old} {new} {a} {b} {done} e has g =
    let h : SpendsAtMost s Has old new a b done = subst (λ (x : MemoState). SpendsAtMost s Has x new a b done) e g in
    record {
      right = h.right;
      same = h.same;
      counts = h.counts;
      places = h.places;
      gives_up = h.gives_up;
      at_most = λ ks closed top. h.at_most ks closed (has ks top);
      on_kept = λ ks closed top whole space. h.on_kept ks closed (has ks top) whole space;
      saved = λ d ks closed top whole space. h.saved d ks closed (has ks top) whole space;
    }

-- whatever was done, where memory runs out
pub at_most_err : {X E : Type 0} {s : Sheet} {Has : List Case → Type 0} {old new : MemoState} {a b : Counts} {done : Bool} (r : Result X E) → IsErr r → SpendsAtMost s Has old new a b done → SpendsAtMost s Has old new a b (is_ok r)
at_most_err (Ok x) e h = cc
at_most_err (Err x) e h = record {
  right = h.right;
  same = h.same;
  counts = h.counts;
  places = h.places;
  gives_up = h.gives_up;
  at_most = h.at_most;
  on_kept = λ ks closed top whole space. spent_weaken (λ d. absurd (true≢false (sym d))) (h.on_kept ks closed top whole space);
  saved = λ d. absurd (true≢false (sym d));
}

-- ---- a cell that a question ends with

-- valued as any cell is, from the same beginning
pub values_from : {s : Sheet} {m old new : MemoState} {w : List Replacement} {c : ℕ} {a b e : Counts} {r : Result Value AllocError} → m ≡ old → a ≡ b → ValuesCell s m new w c a e r → ValuesAtMost s old new w c b e r
values_from {s} {m} {old} {new} {w} {c} {a} {b} {e} {r} em ea h = subst (λ (x : MemoState). ValuesAtMost s x new w c b e r) em (subst (λ (x : Counts). ValuesAtMost s m new w c x e r) ea here)
  where
    here : ValuesAtMost s m new w c a e r
    here = record { value = h.value; spends = spends_at_most h.spends; uncounted = h.uncounted; kept = h.kept }

-- by a plan
pub values_tried : {s : Sheet} {old new : MemoState} {w : List Replacement} {c : ℕ} {a b : Counts} {v : Value} → TriesCell s old new w c a b (Ok (Some v)) → ValuesAtMost s old new w c a b (Ok v)
values_tried h = record { value = h.value; spends = h.spends; uncounted = h.uncounted; kept = λ anew. h.kept }

-- and where memory ran out while it was tried
pub values_lost : {s : Sheet} {old new : MemoState} {w : List Replacement} {c : ℕ} {a b : Counts} {q : Result (Option Value) AllocError} (r : Result Value AllocError) → IsErr r → TriesCell s old new w c a b q → ValuesAtMost s old new w c a b r
values_lost (Ok v) i h = cc
values_lost (Err x) i h = record { value = tt; spends = at_most_err {X = Value} (Err x) i h.spends; uncounted = h.uncounted; kept = tt }
