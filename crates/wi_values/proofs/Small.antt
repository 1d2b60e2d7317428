-- Small laws of numbers and of truth values.
use Rattle.wi_values.proofs.Words.{◌≡◌, ◌+◌, ◌<◌, ◌≤◌, ◌&&◌, ◌||◌, ◌∙◌, ℕ, zero, suc, Bool, true, false, not, max, if◌then◌else◌, refl, sym, ap, inl, inr, arith, cases_eq, or_left, or_right}

-- what is below a bound with both of two numbers
pub max_below : (m a b n : ℕ) → m ≡ max a b → a < n → b < n → m < n
max_below m a b n e h k = omega (arith, e, h, k)

-- and what is at most it
pub max_at_most : (m a b n : ℕ) → m ≡ max a b → a ≤ n → b ≤ n → m ≤ n
max_at_most m a b n e h k = omega (arith, e, h, k)

-- a truth value counts one at most
pub one_at_most : (b : Bool) → (if b then 1 else 0) ≤ 1
one_at_most true = omega arith
one_at_most false = omega arith

-- what is new of q beside p, and p
pub or_new : (p q : Bool) → (p || (q && not p)) ≡ (p || q)
or_new true q = refl
or_new false true = refl
or_new false false = refl

-- a search through the numbers of a range, one of which passes
pub any_in_range : (passes : ℕ → Bool) (any : ℕ → ℕ → Bool) → ((a n : ℕ) → any a (suc n) ≡ (passes a || any (a + 1) n)) → (a n c : ℕ) → a ≤ c → c < a + n → passes c ≡ true → any a n ≡ true
any_in_range passes any next a zero c l m h = absurd (omega (arith, l, m))
any_in_range passes any next a (suc n) c l m h =
    next a n
    ∙ elim (cases_eq c a) [
      | inl e ↦ or_left (passes a) (any (a + 1) n) (ap passes (sym e) ∙ h)
      | inr f ↦ or_right (passes a) (any (a + 1) n) (any_in_range passes any next (a + 1) n c (omega (arith, l, f)) (omega (arith, m)) h)
    ]
