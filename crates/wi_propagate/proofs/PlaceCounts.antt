-- Each value that is kept takes one place: of the entries one goes at most.
use Rattle.wi_propagate.proofs.Words.{◌≡◌, ◌≤◌, ◌+◌, inl, inr, ℕ, Bool, true, false, not, cond, min, List, [], ◌∷◌, filter, length, Option, Some, None, IsSome, is_some, refl, ap, sym, ◌∙◌, subst, arith, if◌then◌else◌, AllByRecursion, IsDistinct, keys_of, cases_lt, true≢false, IsDistinct-head, IsDistinct-tail, Value, Key, Entries, KeptValues, PutsForOne, same_key, value_for, key_itself, same_key_means, Sheet, IsIn, TakesPlaces, Generations, keeping, state_in}
use Rattle.wi_propagate.proofs.KeepSteps.{KeepsIn, stays_put}

-- ---- where one key alone may go

one_more : (n : ℕ) (a b : Bool) (k : Key) (us vs : List Key) → (a ≡ true → b ≡ true) → length us ≤ length vs + n → length (cond (not b) (k ∷ us) us) ≤ length (cond (not a) (k ∷ vs) vs) + n
one_more n true true k us vs h l = l
one_more n true false k us vs h l = absurd (true≢false (sym (h refl)))
one_more n false true k us vs h l = omega (arith, l)
one_more n false false k us vs h l = omega (arith, l)

one_may : (a b : Bool) (k : Key) (us vs : List Key) → length us ≤ length vs → length (cond (not b) (k ∷ us) us) ≤ length (cond (not a) (k ∷ vs) vs) + 1
one_may true true k us vs l = omega (arith, l)
one_may true false k us vs l = omega (arith, l)
one_may false true k us vs l = omega (arith, l)
one_may false false k us vs l = omega (arith, l)

module _ (old new : Key → Bool) where
  abbrev was : List Key → List Key
  was ks = filter (λ k. not (old k)) ks

  abbrev is : List Key → List Key
  is ks = filter (λ k. not (new k)) ks

  -- where all that stood stands, none goes
  none_goes : ((k : Key) → old k ≡ true → new k ≡ true) → (ks : List Key) → length (is ks) ≤ length (was ks)
  none_goes all [] = omega arith
  none_goes all (k ∷ ks) =
      let rest = none_goes all ks in
      let l = one_more 0 (old k) (new k) k (is ks) (was ks) (all k) (omega (arith, rest)) in
      omega (arith, l)

  module _ (j : Key) (others : (k : Key) → same_key j k ≡ false → old k ≡ true → new k ≡ true) where
    -- of keys that aren't this one none goes
    spared : (ks : List Key) → AllByRecursion (λ k. same_key j k ≡ false) ks → length (is ks) ≤ length (was ks)
    spared [] d = omega arith
    spared (k ∷ ks) d =
        let rest = spared ks d.1 in
        let l = one_more 0 (old k) (new k) k (is ks) (was ks) (others k d.0) (omega (arith, rest)) in
        omega (arith, l)

    -- of keys that all differ one goes at most
    one_goes : (ks : List Key) → IsDistinct same_key ks → length (is ks) ≤ length (was ks) + 1
    one_goes [] d = omega arith
    one_goes (k ∷ ks) d = at (same_key j k) refl (one_goes ks (IsDistinct-tail same_key k ks d))
      where
        at : (b : Bool) → same_key j k ≡ b → length (is ks) ≤ length (was ks) + 1 → length (is (k ∷ ks)) ≤ length (was (k ∷ ks)) + 1
        at true e rest =
            let apart = subst (λ (x : Key). AllByRecursion (λ y. same_key x y ≡ false) ks) (sym (same_key_means j k e)) (IsDistinct-head same_key k ks d) in
            one_may (old k) (new k) k (is ks) (was ks) (spared ks apart)
        at false e rest = one_more 1 (old k) (new k) k (is ks) (was ks) (others k e) rest

-- ---- under each key of entries a value stands

is_there : (es : Entries) (e : Key × Value) → IsIn es e → is_some (value_for es e.0) ≡ true
is_there [] e h = absurd h
is_there (x ∷ es) e (inl i) = ap (λ (b : Bool). is_some (cond b (Some x.1) (value_for es e.0))) (key_itself e.0 x.0 (ap (λ (y : Key × Value). y.0) (sym i)))
is_there (x ∷ es) e (inr i) = at (same_key e.0 x.0) (is_there es e i)
  where
    at : (b : Bool) → is_some (value_for es e.0) ≡ true → is_some (cond b (Some x.1) (value_for es e.0)) ≡ true
    at true ih = refl
    at false ih = ih

stand_in : (all es : Entries) → ((e : Key × Value) → IsIn es e → IsIn all e) → length (filter (λ k. not (is_some (value_for all k))) (keys_of es)) ≡ 0
stand_in all [] within = refl
stand_in all (e ∷ es) within = at (is_some (value_for all e.0)) (is_there all e (within e (inl refl))) (stand_in all es (λ x i. within x (inr i)))
  where
    rest : List Key
    rest = filter (λ k. not (is_some (value_for all k))) (keys_of es)

    at : (b : Bool) → b ≡ true → length rest ≡ 0 → length (cond (not b) (e.0 ∷ rest) rest) ≡ 0
    at true h ih = ih
    at false h ih = absurd (true≢false (sym h))

pub all_stand : (es : Entries) → length (filter (λ k. not (is_some (value_for es k))) (keys_of es)) ≡ 0
all_stand es = stand_in es es (λ e i. i)

-- ---- a value is kept

-- all stay but the one in whose place a new one comes
stays_but : (es fs : Entries) (k : Key) (v : Value) (p : PutsForOne es fs k v) (q : Key) → same_key p.gone q ≡ false → is_some (value_for es q) ≡ true → is_some (value_for fs q) ≡ true
stays_but es fs k v p q e h = at (same_key k q) (p.others q)
  where
    at : (b : Bool) → value_for fs q ≡ cond b (Some v) (cond (same_key p.gone q) None (value_for es q)) → is_some (value_for fs q) ≡ true
    at true i = ap (λ (o : Option Value). is_some o) i
    at false i = ap (λ (o : Option Value). is_some o) (i ∙ ap (λ (b : Bool). cond b None (value_for es q)) e) ∙ h

pub one_place_after : (s : Sheet) (edits : ℕ) (g : Generations) (es fs : Entries) (m n : KeptValues) (k : Key) (v : Value) → KeepsIn m n k v → TakesPlaces (state_in (keeping s edits g es m)) (state_in (keeping s edits g fs n)) 0 1
one_place_after s edits g es fs m n k v h = by_old (value_for m.entries k) refl
  where
    old : Key → Bool
    old q = is_some (value_for m.entries q)

    new : Key → Bool
    new q = is_some (value_for n.entries q)

    Lens : Option Value → Type 0
    Lens o = length n.entries ≡ (if is_some o then length m.entries else min (length m.entries + 1) m.capacity)

    by_old : (o : Option Value) → value_for m.entries k ≡ o → TakesPlaces (state_in (keeping s edits g es m)) (state_in (keeping s edits g fs n)) 0 1
    by_old (Some u) e = λ ks d.
        let len : length n.entries ≡ length m.entries = subst Lens e h.len in
        let cap = h.capacity in
        let puts = h.stays (inl (subst (λ (y : Option Value). IsSome y) (sym e) refl)) in
        let l = none_goes old new (λ q i. stays_put m.entries n.entries k q v puts i) ks in
        omega (arith, len, cap, l)
    by_old None e = elim (cases_lt (length m.entries) m.capacity) [
      | inl few ↦ λ ks d. (
          let len : length n.entries ≡ min (length m.entries + 1) m.capacity = subst Lens e h.len in
          let cap = h.capacity in
          let l = none_goes old new (λ q i. stays_put m.entries n.entries k q v (h.stays (inr few)) i) ks in
          omega (arith, len, cap, few, l))
      | inr full ↦ λ ks d. (
          let len : length n.entries ≡ min (length m.entries + 1) m.capacity = subst Lens e h.len in
          let cap = h.capacity in
          let puts = h.goes e full in
          let l = one_goes old new puts.gone (stays_but m.entries n.entries k v puts) ks d in
          omega (arith, len, cap, full, l))
    ]
