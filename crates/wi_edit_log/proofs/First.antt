-- The first cell that passes a test: there is one at most, and the sooner of two is the first that passes either test.
use Rattle.wi_edit_log.proofs.Words.{◌≡◌, ◌∙◌, ℕ, ◌≤◌, ◌⊎◌, inl, inr, Bool, true, false, ◌||◌, Option, Some, None, IfSome, min, refl, ap, sym, arith, both_ways, cases_lt, or_cases, or_left, or_right, IsAtOrBefore, IsFirst, sooner}

-- ---- there is one at most

same_cell : (a b : ℕ) → a ≤ b → b ≤ a → Some a ≡ Some b
same_cell a b h k = ap Some (omega arith)

pub only_first : (test : ℕ → Bool) (o p : Option ℕ) → IsFirst test o → IsFirst test p → o ≡ p
only_first test None None h k = refl
only_first test None (Some b) h k = absurd (h.least b k.passes)
only_first test (Some a) None h k = absurd (k.least a h.passes)
only_first test (Some a) (Some b) h k = same_cell a b (h.least b k.passes) (k.least a h.passes)

-- ---- tests that say the same

passes_same : (test other : ℕ → Bool) → ((a : ℕ) → test a ≡ other a) → (o : Option ℕ) → IfSome o (λ a. test a ≡ true) → IfSome o (λ a. other a ≡ true)
passes_same test other e None h = h
passes_same test other e (Some a) h = sym (e a) ∙ h

pub same_first : (test other : ℕ → Bool) (o : Option ℕ) → ((a : ℕ) → test a ≡ other a) → IsFirst test o → IsFirst other o
same_first test other o e h = record {
  passes = passes_same test other e o h.passes;
  least = λ a p. h.least a (e a ∙ p);
}

-- ---- none passes

pub no_first : (test : ℕ → Bool) → ((a : ℕ) → test a ≡ false) → IsFirst test None
no_first test none = record { passes = tt; least = λ a p. absurd (both_ways (test a) (none a) p) }

-- ---- the sooner of two

at_sooner : (o p : Option ℕ) (a : ℕ) → IsAtOrBefore o a ⊎ IsAtOrBefore p a → IsAtOrBefore (sooner o p) a
at_sooner None p a (inl h) = absurd h
at_sooner None p a (inr k) = k
at_sooner (Some b) None a (inl h) = h
at_sooner (Some b) None a (inr k) = absurd k
at_sooner (Some b) (Some d) a (inl h) = omega (arith, h)
at_sooner (Some b) (Some d) a (inr k) = omega (arith, k)

-- what holds of both numbers holds of the smaller
of_smaller : (P : ℕ → Type 0) (a b : ℕ) → P a → P b → P (min a b)
of_smaller P a b h k = elim (cases_lt a b) [
  | inl l ↦ let e : min a b ≡ a = omega arith in rw e h
  | inr l ↦ let e : min a b ≡ b = omega arith in rw e k
]

sooner_passes : (test other : ℕ → Bool) (o p : Option ℕ) → IfSome o (λ a. test a ≡ true) → IfSome p (λ a. other a ≡ true) → IfSome (sooner o p) (λ a. (test a || other a) ≡ true)
sooner_passes test other None None h k = tt
sooner_passes test other None (Some b) h k = or_right (test b) (other b) k
sooner_passes test other (Some a) None h k = or_left (test a) (other a) h
sooner_passes test other (Some a) (Some b) h k =
    of_smaller (λ c. (test c || other c) ≡ true) a b (or_left (test a) (other a) h) (or_right (test b) (other b) k)

at_either : (test other : ℕ → Bool) (o p : Option ℕ) → IsFirst test o → IsFirst other p → (a : ℕ) → (test a ≡ true) ⊎ (other a ≡ true) → IsAtOrBefore (sooner o p) a
at_either test other o p h k a (inl t) = at_sooner o p a (inl (h.least a t))
at_either test other o p h k a (inr t) = at_sooner o p a (inr (k.least a t))

pub sooner_first : (test other both : ℕ → Bool) (o p : Option ℕ) → ((a : ℕ) → both a ≡ (test a || other a)) → IsFirst test o → IsFirst other p → IsFirst both (sooner o p)
sooner_first test other both o p e h k =
    same_first (λ a. test a || other a) both (sooner o p) (λ a. sym (e a)) (record {
      passes = sooner_passes test other o p h.passes k.passes;
      least = λ a t. at_either test other o p h k a (or_cases (test a) (other a) t);
    })
