-- A walk over the cells of a rectangle that passes over those that are known to be Empty.
use Rattle.std.proofs.Common.{◌≡◌, ℕ, ◌<◌, ◌≤◌, ◌+◌, Bool, true, false, Option, Some, None, IfSome, IfNone, refl, sym, subst, arith}
use Rattle.std.specs.Prelude.{nat_lt, nat_le}
use Rattle.std.proofs.lemmas.Bool.{leb-true}
use Rattle.std.proofs.lemmas.Bool.Decides.{nat_tests}
use Rattle.wi_values.specs.Address.{Area, is_within}
use Rattle.wi_values.specs.declared.value.Value.{Value}
use Rattle.wi_values.proofs.Within.{within_between}
use Rattle.wi_arguments.specs.Filled.{ComesBefore, is_known_empty}

-- what is passed over so far is known to be Empty, and the walk goes on no earlier than it began
abbrev pub Passed : (ℕ → Option Value) → Area → ℕ → Option ℕ → Type 0
Passed known r from o = IfSome o (λ c. from ≤ c) × ((a : ℕ) → is_within r a ≡ true → from ≤ a → ComesBefore a o → is_known_empty (known a) ≡ true)

-- on from one cell, which is Empty or beside the rectangle
pub passed_one : (known : ℕ → Option Value) (r : Area) (from c last : ℕ) (ahead next : Option ℕ) → Passed known r from ahead → ahead ≡ Some c → last ≡ r.last → (is_within r c ≡ true → is_known_empty (known c) ≡ true) →
    IfSome next (λ d. (d ≡ c + 1) × (d ≤ last)) → IfNone next (last ≤ c) → Passed known r from next
passed_one known r from c last ahead next h e g n some none = (begins next some, λ a w l b. at a w l (nat_lt a c) refl (before a w next some none b))
  where
    here : Passed known r from (Some c)
    here = subst (Passed known r from) e h

    begins : (o : Option ℕ) → IfSome o (λ d. (d ≡ c + 1) × (d ≤ last)) → IfSome o (λ d. from ≤ d)
    begins None s = tt
    begins (Some d) s = omega (arith, here.0, s.0)

    before : (a : ℕ) → is_within r a ≡ true → (o : Option ℕ) → IfSome o (λ d. (d ≡ c + 1) × (d ≤ last)) → IfNone o (last ≤ c) → ComesBefore a o → a ≤ c
    before a w None s m b = let l : a ≤ r.last = (within_between r a w).1 in omega (arith, l, g, m)
    before a w (Some d) s m b = omega (arith, s.0, b)

    at : (a : ℕ) → is_within r a ≡ true → from ≤ a → (b : Bool) → nat_lt a c ≡ b → a ≤ c → is_known_empty (known a) ≡ true
    at a w l true m t = here.1 a w l (grind (arith, nat_tests))
    at a w l false m t = let same : a ≡ c = grind (arith, nat_tests) in subst (λ (d : ℕ). is_within r d ≡ true → is_known_empty (known d) ≡ true) (sym same) n w

-- on past a cell that was found, of which it is known that it is Empty
pub passed_on : (known : ℕ → Option Value) (r : Area) (from start c last : ℕ) (ahead next : Option ℕ) → Passed known r from ahead → ahead ≡ Some start → last ≡ r.last → start ≤ c →
    ((a : ℕ) → is_within r a ≡ true → start ≤ a → a < c → is_known_empty (known a) ≡ true) → is_known_empty (known c) ≡ true →
    IfSome next (λ d. (d ≡ c + 1) × (d ≤ last)) → IfNone next (last ≤ c) → Passed known r from next
passed_on known r from start c last ahead next h e g m k n some none = passed_one known r from c last (Some c) next (omega (arith, here.0, m), to) refl g (λ i. n) some none
  where
    here : Passed known r from (Some start)
    here = subst (Passed known r from) e h

    to : (a : ℕ) → is_within r a ≡ true → from ≤ a → a < c → is_known_empty (known a) ≡ true
    to a i l b = at (nat_le start a) refl
      where
        at : (d : Bool) → nat_le start a ≡ d → is_known_empty (known a) ≡ true
        at true m = k a i (leb-true start a m) b
        at false m = here.1 a i l (grind (arith, nat_tests))
