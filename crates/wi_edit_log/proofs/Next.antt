-- The cells of a rectangle one after another, in row-major order.
use Rattle.wi_edit_log.proofs.Words.{◌≡◌, ◌∙◌, ℕ, ◌==◌, ◌≤◌, ◌<◌, ◌⊎◌, inl, inr, Bool, true, false, ◌||◌, ◌&&◌, Option, Some, None, IfSome, refl, ap, sym, subst, arith, nat_lt, and_from, and_parts, both_ways, cases_eq, cases_lt, eq-eqb, eqb-true, le-ltb, lt-ltb, or_cases, or_left, or_right, one_truth, Area, is_within, within_between, within_from, IsAtOrBefore, IsFirst}
use Rattle.std.proofs.lemmas.Bool.{ltb-true}
use Rattle.wi_values.specs.Address.{height, width}

-- ---- the first

within_itself : (r : Area) → 0 < height r → 0 < width r → is_within r r.first ≡ true
within_itself r tall wide = within_from r r.first (omega arith) (omega (arith, tall)) (omega arith) (omega (arith, wide))

first_of : (r : Area) → 0 < height r → 0 < width r → IsFirst (is_within r) (Some r.first)
first_of r tall wide = record { passes = within_itself r tall wide; least = λ a k. (within_between r a k).0 }

pub first_is : (r : Area) (at h w : ℕ) → at ≡ r.first → h ≡ height r → 0 < h → w ≡ width r → 0 < w → IsFirst (is_within r) (Some at)
first_is r at h w e tall some wide more =
    subst (λ a. IsFirst (is_within r) (Some a)) (sym e) (first_of r (subst (λ n. 0 < n) tall some) (subst (λ n. 0 < n) wide more))

-- ---- those after another

-- the cell a is in the rectangle and comes after another, in row-major order
abbrev pub is_after : Area → ℕ → ℕ → Bool
is_after r at a = is_within r a && nat_lt at a

pub next_is : (r : Area) (at : ℕ) (next : Option ℕ) → IfSome next (λ a. (at < a) × (a ≤ r.last)) → IfSome next (λ a. is_within r a ≡ true)
    → ((a : ℕ) → is_within r a ≡ true → at < a → IsAtOrBefore next a) → IsFirst (is_after r at) next
next_is r at next after within first = record {
  passes = passes next after within;
  least = λ a k. (let p = and_parts (is_within r a) (nat_lt at a) k in first a p.0 (ltb-true at a p.1));
}
  where
    passes : (o : Option ℕ) → IfSome o (λ a. (at < a) × (a ≤ r.last)) → IfSome o (λ a. is_within r a ≡ true) → IfSome o (λ a. is_after r at a ≡ true)
    passes None h k = tt
    passes (Some b) h k = and_from (is_within r b) (nat_lt at b) k (lt-ltb at b h.0)

-- ---- those before the one ahead

-- the cell a comes before the one ahead; where there is none, each does
abbrev pub is_before : Option ℕ → ℕ → Bool
is_before None a = true
is_before (Some b) a = nat_lt a b

not_before : (o : Option ℕ) (a : ℕ) → IsAtOrBefore o a → is_before o a ≡ false
not_before None a h = absurd h
not_before (Some b) a h = le-ltb a b h

pub none_before : (test : ℕ → Bool) (o : Option ℕ) → IsFirst test o → (a : ℕ) → (test a && is_before o a) ≡ false
none_before test o h a = by (test a) refl
  where
    by : (b : Bool) → test a ≡ b → (test a && is_before o a) ≡ false
    by true t = ap (λ c. c && is_before o a) t ∙ not_before o a (h.least a t)
    by false t = ap (λ c. c && is_before o a) t

before_beyond : (r : Area) (at : ℕ) (next : Option ℕ) (a : ℕ) → IfSome next (λ b. is_after r at b ≡ true) → a ≤ at → is_before next a ≡ true
before_beyond r at None a h l = refl
before_beyond r at (Some b) a h l =
    let behind = ltb-true at b (and_parts (is_within r b) (nat_lt at b) h).1 in
    lt-ltb a b (omega (arith, behind, l))

-- those before the next are those before this one, and this one
module _ (r : Area) (at : ℕ) (next : Option ℕ) (w : is_within r at ≡ true) (h : IsFirst (is_after r at) next) where
  at_or_before : (a : ℕ) → (is_within r a && is_before next a) ≡ true → ((is_within r a && nat_lt a at) || (at == a)) ≡ true
  at_or_before a t = elim (cases_lt a at) [
    | inl l ↦ or_left (is_within r a && nat_lt a at) (at == a) (and_from (is_within r a) (nat_lt a at) p.0 (lt-ltb a at l))
    | inr l ↦ by l (cases_eq at a)
  ]
    where
      p : (is_within r a ≡ true) × (is_before next a ≡ true)
      p = and_parts (is_within r a) (is_before next a) t

      by : at ≤ a → (at ≡ a) ⊎ (at ≡ a → Prim.⊥) → ((is_within r a && nat_lt a at) || (at == a)) ≡ true
      by l (inl e) = or_right (is_within r a && nat_lt a at) (at == a) (eq-eqb at a e)
      by l (inr f) =
          let late = not_before next a (h.least a (and_from (is_within r a) (nat_lt at a) p.0 (lt-ltb at a (beyond at a l f)))) in
          absurd (both_ways (is_before next a) late p.1)
        where
          beyond : (c d : ℕ) → c ≤ d → (c ≡ d → Prim.⊥) → c < d
          beyond c d g n = omega (arith, g, n)

  before : (a : ℕ) → ((is_within r a && nat_lt a at) || (at == a)) ≡ true → (is_within r a && is_before next a) ≡ true
  before a t = elim (or_cases (is_within r a && nat_lt a at) (at == a) t) [
    | inl k ↦
        let p = and_parts (is_within r a) (nat_lt a at) k in
        let l = ltb-true a at p.1 in
        and_from (is_within r a) (is_before next a) p.0 (before_beyond r at next a h.passes (omega (arith, l)))
    | inr k ↦
        let e = eqb-true at a k in
        and_from (is_within r a) (is_before next a) (subst (λ n. is_within r n ≡ true) e w) (before_beyond r at next a h.passes (omega (arith, e)))
  ]

  pub one_more_before : (a : ℕ) → (is_within r a && is_before next a) ≡ ((is_within r a && nat_lt a at) || (at == a))
  one_more_before a = one_truth (is_within r a && is_before next a) ((is_within r a && nat_lt a at) || (at == a)) (at_or_before a) (before a)

  next_within : (o : Option ℕ) → IfSome o (λ a. is_after r at a ≡ true) → IfSome o (λ a. is_within r a ≡ true)
  next_within None k = tt
  next_within (Some b) k = (and_parts (is_within r b) (nat_lt at b) k).0

  pub all_within : IfSome next (λ a. is_within r a ≡ true)
  all_within = next_within next h.passes

-- ---- a search for the first cell that is told

pub record IsSearched (r : Area) (by_notes : ℕ → Bool) (ahead : Option ℕ) : Type 0 where
  pub within : IfSome ahead (λ a. is_within r a ≡ true)
  pub none : (a : ℕ) → (is_within r a && is_before ahead a) ≡ true → by_notes a ≡ false

pub searched_start : (r : Area) (by_notes : ℕ → Bool) (ahead : Option ℕ) → IsFirst (is_within r) ahead → IsSearched r by_notes ahead
searched_start r by_notes ahead h = record {
  within = h.passes;
  none = λ a t. absurd (both_ways (is_within r a && is_before ahead a) (none_before (is_within r) ahead h a) t);
}

pub searched_on : (r : Area) (by_notes : ℕ → Bool) (at : ℕ) (next : Option ℕ) → IsSearched r by_notes (Some at) → by_notes at ≡ false → IsFirst (is_after r at) next → IsSearched r by_notes next
searched_on r by_notes at next h f n = record {
  within = all_within r at next h.within n;
  none = λ a t. elim (or_cases (is_within r a && nat_lt a at) (at == a) (sym (one_more_before r at next h.within n a) ∙ t)) [
    | inl k ↦ h.none a k
    | inr k ↦ subst (λ b. by_notes b ≡ false) (eqb-true at a k) f
  ];
}

pub searched_found : (r : Area) (by_notes : ℕ → Bool) (at : ℕ) → IsSearched r by_notes (Some at) → by_notes at ≡ true → IsFirst (λ a. is_within r a && by_notes a) (Some at)
searched_found r by_notes at h t = record {
  passes = and_from (is_within r at) (by_notes at) h.within t;
  least = λ a k. (let p = and_parts (is_within r a) (by_notes a) k in elim (cases_lt a at) [
    | inl l ↦ absurd (both_ways (by_notes a) (h.none a (and_from (is_within r a) (nat_lt a at) p.0 (lt-ltb a at l))) p.1)
    | inr l ↦ l
  ]);
}

pub searched_none : (r : Area) (by_notes : ℕ → Bool) → IsSearched r by_notes None → IsFirst (λ a. is_within r a && by_notes a) None
searched_none r by_notes h = record {
  passes = tt;
  least = λ a k.
      let p = and_parts (is_within r a) (by_notes a) k in
      both_ways (by_notes a) (h.none a (and_from (is_within r a) true p.0 refl)) p.1;
}
