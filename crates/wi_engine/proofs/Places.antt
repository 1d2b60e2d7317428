-- What is kept for longer where one question follows another over the same memory.
use Rattle.wi_engine.proofs.Words.{◌≡◌, ◌≤◌, ◌+◌, ◌||◌, inl, inr, ℕ, Bool, true, false, not, cond, List, [], ◌∷◌, length, Option, Some, None, IfSome, Result, Ok, Err, OnOk, ◌⊎◌, refl, ap, sym, subst, arith, true≢false, IsDistinct-cons, Value, Replacement, Key, same_key, same_key_Decides, same_case, MemoState, HasFound, TakesPlaces, TakesNoMore, GivesUpWhenFull}
use Rattle.std.specs.List.{IsDistinct}

pub takes_then : (old mid new : MemoState) (a b c : ℕ) → TakesNoMore old mid a b → TakesNoMore mid new b c → b ≤ c → TakesNoMore old new a c
takes_then old mid new a b c (inl h) (inl k) l = inl (λ ks d. let x = h ks d in let y = k ks d in omega (arith, x, y))
takes_then old mid new a b c (inl h) (inr k) l = inr k
takes_then old mid new a b c (inr h) k l = inr (omega (arith, h, l))

pub takes_none : (m n : MemoState) (a : ℕ) → n ≡ m → TakesNoMore m n a a
takes_none m n a e = subst (λ (x : MemoState). TakesNoMore m x a a) (sym e) (inl (λ ks d. omega arith))

pub gives_up_none : (m n : MemoState) → n ≡ m → GivesUpWhenFull m n
gives_up_none m n e = subst (GivesUpWhenFull m) (sym e) (record { space = omega arith; stays = λ r k i. i })

-- where no room was left half way, none is left at the end
pub gives_up_then : (old mid new : MemoState) → GivesUpWhenFull old mid → GivesUpWhenFull mid new → GivesUpWhenFull old new
gives_up_then old mid new h k =
    let x = h.space in
    let y = k.space in
    record {
      space = omega (arith, x, y);
      stays = λ r j i. k.stays r j (h.stays (omega (arith, y, r)) j i);
    }

none_differ : IsDistinct same_key []
unfolding IsDistinct
none_differ = tt

one_differs : (k : Key) → IsDistinct same_key (k ∷ [])
one_differs k = IsDistinct-cons same_key k [] tt none_differ

-- where all that was counted took free places, each value that stood stands
pub none_went : (old new : MemoState) (a b : ℕ) (k : Key) → TakesPlaces old new a b → b + new.space ≤ a + old.space → old.stands k ≡ true → new.stands k ≡ true
none_went old new a b k t l = at (old.stands k) (new.stands k) (t (k ∷ []) (one_differs k))
  where
    at : (x y : Bool) → length (cond (not y) (k ∷ []) []) + (old.space + a) ≤ length (cond (not x) (k ∷ []) []) + (new.space + b) → x ≡ true → y ≡ true
    at true true c h = refl
    at true false c h = absurd (omega (arith, c, l))
    at false y c h = absurd (true≢false (sym h))

-- ---- what is so where a value was remembered, from what is so of each of its parts

pub has_found : {X E : Type 0} (r : Result X E) (old new : MemoState) (k : Key) → OnOk r ((c : ℕ) (w : List Replacement) → new.found c w ≡ (old.found c w || same_case (k.cell, k.world) (c, w))) →
    OnOk r (1 ≤ old.space → (c : ℕ) (w : List Replacement) → new.kept c w ≡ (old.kept c w || same_case (k.cell, k.world) (c, w))) → OnOk r (old.kept k.cell k.world ≡ false → 1 ≤ old.space → new.space + 1 ≡ old.space) → OnOk r (HasFound old new k)
has_found (Ok x) old new k found kept space = record { found = found; kept = kept; space = space }
has_found (Err x) old new k found kept space = tt

-- under a key is then what was there before, or the value that came
pub known_still : (old new : Option Value) (k q : Key) (v : Value) → new ≡ old → IfSome new (λ u. (old ≡ Some u) ⊎ ((q.cell ≡ k.cell) × (q.world ≡ k.world) × (u ≡ v)))
known_still None new k q v e = rw e tt
known_still (Some u) new k q v e = rw e (inl refl)

pub known_then : (old new : Option Value) (k q : Key) (v : Value) (b : Bool) → same_key k q ≡ b → new ≡ cond b (Some v) old → IfSome new (λ u. (old ≡ Some u) ⊎ ((q.cell ≡ k.cell) × (q.world ≡ k.world) × (u ≡ v)))
known_then old new k q v true e h = let same = (same_key_Decides k q).0 e in rw h (inr (ap (λ (y : Key). y.cell) (sym same), ap (λ (y : Key). y.world) (sym same), refl))
known_then old new k q v false e h = known_still old new k q v h
