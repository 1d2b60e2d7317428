-- Numbers in order: their comparison, the test for a key, and entries whose keys ascend.
use Rattle.wi_values.proofs.Words.{◌≡◌, ◌==◌, ◌<◌, ℕ, Bool, true, false, cond, List, [], ◌∷◌, filter, Option, Some, None, refl, sym, ap, ◌∙◌, subst, ◌⊎◌, inl, inr, cases_order, arith, nat_tests, sorted_head, sorted_tail, AllByRecursion, nat_cmp, match_ordering, Ordering, Less, Equal, Greater, lookup, keys_of, is_at, insert_entry}
use Rattle.std.specs.List.Sorted.{IsStrictlySortedBy}

-- ---- how two numbers compare

pub cmp_before : (a b : ℕ) → a < b → nat_cmp a b ≡ Less
cmp_before a b h = grind (arith, nat_tests)

pub cmp_equal : (a b : ℕ) → a ≡ b → nat_cmp a b ≡ Equal
cmp_equal a b h = grind (arith, nat_tests)

pub cmp_after : (a b : ℕ) → b < a → nat_cmp a b ≡ Greater
cmp_after a b h = grind (arith, nat_tests)

pub below_from_Less : (a b : ℕ) → nat_cmp a b ≡ Less → a < b
below_from_Less a b h = grind (arith, nat_tests)

pub same_from_Equal : (a b : ℕ) → nat_cmp a b ≡ Equal → a ≡ b
same_from_Equal a b h = grind (arith, nat_tests)

pub above_from_Greater : (a b : ℕ) → nat_cmp a b ≡ Greater → b < a
above_from_Greater a b h = grind (arith, nat_tests)

pub less_from_both : (a b c : ℕ) → nat_cmp a b ≡ Less → nat_cmp b c ≡ Less → nat_cmp a c ≡ Less
less_from_both a b c g h = grind (arith, nat_tests)

-- ---- tests for a number

pub is_itself : (a : ℕ) → (a == a) ≡ true
is_itself a = grind (arith, nat_tests)

pub turn_test : (x y : ℕ) → (x == y) ≡ (y == x)
turn_test x y = grind (arith, nat_tests)

pub is_at-eq : (q c : ℕ) → is_at (nat_cmp q) c ≡ (q == c)
is_at-eq q c = grind (arith, nat_tests)

pub at_same : (a x : ℕ) → is_at (nat_cmp a) x ≡ true → x ≡ a
at_same a x h = grind (arith, nat_tests)

pub at_itself : (a : ℕ) → is_at (nat_cmp a) a ≡ true
at_itself a = grind (arith, nat_tests)

pub at_other : (a x : ℕ) → (x ≡ a → ⊥) → is_at (nat_cmp a) x ≡ false
at_other a x h = grind (arith, nat_tests)

pub at_later : (a b : ℕ) → a < b → is_at (nat_cmp a) b ≡ false
at_later a b h = grind (arith, nat_tests)

pub at_earlier : (a b : ℕ) → b < a → is_at (nat_cmp a) b ≡ false
at_earlier a b h = grind (arith, nat_tests)

-- ---- entries whose keys ascend

module _ {X : Type 0} where
  -- each key comes after a
  abbrev pub ComeAfter : ℕ → List (ℕ × X) → Type 0
  ComeAfter a [] = Unit {0}
  ComeAfter a (e ∷ es) = (a < e.0) × ComeAfter a es

  abbrev pub Ascends : List (ℕ × X) → Type 0
  Ascends [] = Unit {0}
  Ascends (e ∷ es) = ComeAfter e.0 es × Ascends es

  ComeAfter-from_keys : (a : ℕ) (es : List (ℕ × X)) → AllByRecursion (λ b. nat_cmp a b ≡ Less) (keys_of es) → ComeAfter a es
  ComeAfter-from_keys a [] h = tt
  ComeAfter-from_keys a (e ∷ es) h = (below_from_Less a e.0 h.0, ComeAfter-from_keys a es h.1)

  pub Ascends-from_order : (es : List (ℕ × X)) → IsStrictlySortedBy nat_cmp (keys_of es) → Ascends es
  Ascends-from_order [] h = tt
  Ascends-from_order (e ∷ es) h =
      (ComeAfter-from_keys e.0 es (sorted_head nat_cmp e.0 (keys_of es) h), Ascends-from_order es (sorted_tail nat_cmp e.0 (keys_of es) h))

  keys-from_ComeAfter : (a : ℕ) (es : List (ℕ × X)) → ComeAfter a es → AllByRecursion (λ b. nat_cmp a b ≡ Less) (keys_of es)
  keys-from_ComeAfter a [] h = tt
  keys-from_ComeAfter a (e ∷ es) h = (cmp_before a e.0 h.0, keys-from_ComeAfter a es h.1)

  pub order-from_Ascends : (es : List (ℕ × X)) → Ascends es → IsStrictlySortedBy nat_cmp (keys_of es)
  unfolding IsStrictlySortedBy
  order-from_Ascends [] h = tt
  order-from_Ascends (e ∷ es) h = (keys-from_ComeAfter e.0 es h.0, order-from_Ascends es h.1)

  pub come_after_earlier : (a b : ℕ) (es : List (ℕ × X)) → a < b → ComeAfter b es → ComeAfter a es
  come_after_earlier a b [] l h = tt
  come_after_earlier a b (e ∷ es) l h = (omega (arith, h.0), come_after_earlier a b es l h.1)

  -- before the first key nothing is found
  pub lookup_after : (a : ℕ) (es : List (ℕ × X)) → ComeAfter a es → lookup (is_at (nat_cmp a)) es ≡ None
  lookup_after a [] h = refl
  lookup_after a (e ∷ es) h = rw (at_later a e.0 h.0) (lookup_after a es h.1)

  -- ---- lists whose keys ascend, and in which the same is found, are one

  abbrev pub found : List (ℕ × X) → ℕ → Option X
  found es a = lookup (is_at (nat_cmp a)) es

  tails : (k : ℕ) (x y : X) (es fs : List (ℕ × X)) → ComeAfter k es → ComeAfter k fs → ((q : ℕ) → found ((k, x) ∷ es) q ≡ found ((k, y) ∷ fs) q)
      → (q : ℕ) → found es q ≡ found fs q
  tails k x y es fs a b h q = by (is_at (nat_cmp q) k) refl (h q)
    where
      by : (d : Bool) → is_at (nat_cmp q) k ≡ d → cond d (Some x) (found es q) ≡ cond d (Some y) (found fs q) → found es q ≡ found fs q
      by true t g =
          let e = at_same q k t in
          lookup_after q es (subst (λ (z : ℕ). ComeAfter z es) e a) ∙ sym (lookup_after q fs (subst (λ (z : ℕ). ComeAfter z fs) e b))
      by false t g = g

  pub first_there : (e : ℕ × X) (es : List (ℕ × X)) → found (e ∷ es) e.0 ≡ Some e.1
  first_there e es = rw (at_itself e.0)

  not_there : (a : ℕ) (x : X) (es fs : List (ℕ × X)) → found es a ≡ Some x → ComeAfter a fs → ((q : ℕ) → found es q ≡ found fs q) → ⊥
  not_there a x es fs h b k = let z = sym h ∙ k a ∙ lookup_after a fs b in cc

  pub same_entries : (es fs : List (ℕ × X)) → Ascends es → Ascends fs → ((q : ℕ) → found es q ≡ found fs q) → es ≡ fs
  same_entries [] [] a b h = refl
  same_entries [] (f ∷ fs) a b h = absurd (not_there f.0 f.1 (f ∷ fs) [] (first_there f fs) tt (λ q. sym (h q)))
  same_entries (e ∷ es) [] a b h = absurd (not_there e.0 e.1 (e ∷ es) [] (first_there e es) tt h)
  same_entries (e ∷ es) (f ∷ fs) a b h = by (cases_order e.0 f.0) (same_entries es fs a.1 b.1)
    where
      alike : (k l : ℕ) (x y : X) → k ≡ l → ComeAfter k es → ComeAfter l fs → ((q : ℕ) → found ((k, x) ∷ es) q ≡ found ((l, y) ∷ fs) q) → (((q : ℕ) → found es q ≡ found fs q) → es ≡ fs) →
          ◌≡◌ {A = List (ℕ × X)} ((k, x) ∷ es) ((l, y) ∷ fs)
      alike k l x y s c d g ih =
          let d' = subst (λ (z : ℕ). ComeAfter z fs) (sym s) d in
          let g' = subst (λ (z : ℕ). (q : ℕ) → found ((k, x) ∷ es) q ≡ found ((z, y) ∷ fs) q) (sym s) g in
          let t = ih (tails k x y es fs c d' g') in
          let u : Some x ≡ Some y = sym (first_there (k, x) es) ∙ g' k ∙ first_there (k, y) fs in
          let v : x ≡ y = cc in
          ap (λ (z : ℕ). (z, x) ∷ es) s ∙ ap (λ (z : X). (l, z) ∷ es) v ∙ ap (λ (zs : List (ℕ × X)). (l, y) ∷ zs) t

      by : (e.0 ≡ f.0) ⊎ ((e.0 < f.0) ⊎ (f.0 < e.0)) → (((q : ℕ) → found es q ≡ found fs q) → es ≡ fs) → e ∷ es ≡ f ∷ fs
      by (inl s) ih = alike e.0 f.0 e.1 f.1 s a.0 b.0 h ih
      by (inr (inl l)) ih = absurd (not_there e.0 e.1 (e ∷ es) (f ∷ fs) (first_there e es) (l, come_after_earlier e.0 f.0 fs l b.0) h)
      by (inr (inr l)) ih = absurd (not_there f.0 f.1 (f ∷ fs) (e ∷ es) (first_there f fs) (l, come_after_earlier f.0 e.0 es l a.0) (λ q. sym (h q)))

  -- ---- what stays in order

  pub ComeAfter-filter : (p : ℕ × X → Bool) (a : ℕ) (es : List (ℕ × X)) → ComeAfter a es → ComeAfter a (filter p es)
  ComeAfter-filter p a [] h = tt
  ComeAfter-filter p a (e ∷ es) h = at (p e) (ComeAfter-filter p a es h.1)
    where
      at : (b : Bool) → ComeAfter a (filter p es) → ComeAfter a (cond b (e ∷ filter p es) (filter p es))
      at true ih = (h.0, ih)
      at false ih = ih

  pub Ascends-filter : (p : ℕ × X → Bool) (es : List (ℕ × X)) → Ascends es → Ascends (filter p es)
  Ascends-filter p [] h = tt
  Ascends-filter p (e ∷ es) h = at (p e) (Ascends-filter p es h.1)
    where
      at : (b : Bool) → Ascends (filter p es) → Ascends (cond b (e ∷ filter p es) (filter p es))
      at true ih = (ComeAfter-filter p e.0 es h.0, ih)
      at false ih = ih

  pub ComeAfter-insert : (a c : ℕ) (x : X) (es : List (ℕ × X)) → a < c → ComeAfter a es → ComeAfter a (insert_entry nat_cmp es c x)
  ComeAfter-insert a c x [] l h = (l, tt)
  ComeAfter-insert a c x (e ∷ es) l h = at (nat_cmp c e.0) (ComeAfter-insert a c x es l h.1)
    where
      at : (o : Ordering) → ComeAfter a (insert_entry nat_cmp es c x) → ComeAfter a (match_ordering o ((c, x) ∷ e ∷ es) ((e.0, x) ∷ es) (e ∷ insert_entry nat_cmp es c x))
      at Less ih = (l, h)
      at Equal ih = h
      at Greater ih = (h.0, ih)

  pub Ascends-insert : (c : ℕ) (x : X) (es : List (ℕ × X)) → Ascends es → Ascends (insert_entry nat_cmp es c x)
  Ascends-insert c x [] h = (tt, tt)
  Ascends-insert c x (e ∷ es) h = at (nat_cmp c e.0) refl (Ascends-insert c x es h.1)
    where
      at : (o : Ordering) → nat_cmp c e.0 ≡ o → Ascends (insert_entry nat_cmp es c x) → Ascends (match_ordering o ((c, x) ∷ e ∷ es) ((e.0, x) ∷ es) (e ∷ insert_entry nat_cmp es c x))
      at Less k ih = let l = below_from_Less c e.0 k in ((l, come_after_earlier c e.0 es l h.0), h)
      at Equal k ih = h
      at Greater k ih = (ComeAfter-insert e.0 c x es (above_from_Greater c e.0 k) h.0, ih)
