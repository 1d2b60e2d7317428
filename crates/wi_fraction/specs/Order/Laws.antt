-- The order of fractions is one, and fractions are equal where they compare so.
use Rattle.std.specs.Prelude.{◌≡◌, ◌*◌, pos, ◌*ℤ◌, ◌<ℤ◌, true, refl, unsigned_abs, Decides, nat_eq, ◌&&◌}
use Rattle.std.specs.declared.cmp.Ordering.{Ordering}
use Rattle.std.specs.declared.cmp.Ordering.TheVariants.{Less, Equal, Greater}
use Rattle.std.specs.Ordering.{int_cmp, MatchOrdering, is_eq, int_eq}
use Rattle.std.specs.Cmp.{int_ranks, IsTotalOrder, IsEquivalence, IsPartialEquivalence, decided, partial_equiv_from_equiv, int_chain, strict, both_ways, signed_Decides, unsigned_Decides}
use Rattle.std.proofs.Common.{sym, ap, ◌∙◌, subst}
use Rattle.std.proofs.lemmas.Bool.{and_parts}
use Rattle.std.proofs.lemmas.Int.{unsigned_abs-mul}
use Rattle.wi_fraction.specs.Number.{Number}
use Rattle.wi_fraction.specs.Number.Laws.{same_number}
use Rattle.wi_fraction.specs.Gcd.Laws.{same_lowest}
use Rattle.wi_fraction.specs.Order.Integers.{mul_below, int_irrefl, by_rank, below_from_mul, turn}
use Rattle.wi_fraction.specs.Order.{cross_cmp, same_parts}

-- x is below y
abbrev Below : Number → Number → Type 0
Below x y = (x.num *ℤ pos y.den) <ℤ (y.num *ℤ pos x.den)

Below_chain : (x y z : Number) → Below x y → Below y z → Below x z
Below_chain x y z h k =
    let first = mul_below _ _ z.den z.is_number.above_zero h in
    let second = mul_below _ _ x.den x.is_number.above_zero k in
    let middle : (y.num *ℤ pos x.den *ℤ pos z.den) ≡ (y.num *ℤ pos z.den *ℤ pos x.den) = turn y.num x.den z.den in
    let joined : (x.num *ℤ pos y.den *ℤ pos z.den) <ℤ (z.num *ℤ pos y.den *ℤ pos x.den) = int_chain _ _ _ first (subst (λ v. v <ℤ (z.num *ℤ pos y.den *ℤ pos x.den)) (sym middle) second) in
    below_from_mul _ _ y.den y.is_number.above_zero (subst (λ v. v <ℤ (z.num *ℤ pos x.den *ℤ pos y.den)) (turn x.num y.den z.den) (subst (λ v. (x.num *ℤ pos y.den *ℤ pos z.den) <ℤ v) (turn z.num y.den x.den) joined))

Below_irrefl : (x : Number) → ¬ (Below x x)
Below_irrefl x = int_irrefl _

-- two numbers of one value are one number
same_from_cross : (x y : Number) → x.num *ℤ pos y.den ≡ y.num *ℤ pos x.den → x ≡ y
same_from_cross x y e =
    let p = x.is_number in
    let q = y.is_number in
    let sizes : unsigned_abs x.num * y.den ≡ unsigned_abs y.num * x.den = sym (unsigned_abs-mul x.num (pos y.den)) ∙ ap unsigned_abs e ∙ unsigned_abs-mul y.num (pos x.den) in
    let both = same_lowest (unsigned_abs x.num) x.den (unsigned_abs y.num) y.den p.above_zero q.above_zero p.lowest q.lowest sizes in
    let again : x.num *ℤ pos y.den ≡ y.num *ℤ pos y.den = e ∙ ap (λ n. y.num *ℤ pos n) both.1 in
    let num_is : x.num ≡ y.num =
    by_rank x.num y.num (x.num ≡ y.num) (int_cmp x.num y.num) (int_ranks x.num y.num)
    (λ l. absurd (int_irrefl (y.num *ℤ pos y.den) (subst (λ v. v <ℤ (y.num *ℤ pos y.den)) again (mul_below x.num y.num y.den q.above_zero l))))
    (λ s. s)
    (λ l. absurd (int_irrefl (y.num *ℤ pos y.den) (subst (λ v. (y.num *ℤ pos y.den) <ℤ v) again (mul_below y.num x.num y.den q.above_zero l)))) in
    same_number x y num_is both.1

cross_ranks : (x y : Number) → MatchOrdering (cross_cmp x y) (Below x y) (x ≡ y) (Below y x)
cross_ranks x y = by_case (cross_cmp x y) (int_ranks (x.num *ℤ pos y.den) (y.num *ℤ pos x.den))
  where
    by_case : (o : Ordering) → MatchOrdering o (Below x y) (x.num *ℤ pos y.den ≡ y.num *ℤ pos x.den) (Below y x) → MatchOrdering o (Below x y) (x ≡ y) (Below y x)
    by_case Less m = m
    by_case Equal m = same_from_cross x y m
    by_case Greater m = m

pub cross_total : IsTotalOrder cross_cmp
cross_total = strict Below Below_irrefl Below_chain cross_cmp cross_ranks

-- fractions compare equal where they are one
pub cross_Equal : (x y : Number) → Decides (is_eq (cross_cmp x y)) (x ≡ y)
cross_Equal x y = by_case (cross_cmp x y) (cross_ranks x y)
  where
    by_case : (o : Ordering) → MatchOrdering o (Below x y) (x ≡ y) (Below y x) → Decides (is_eq o) (x ≡ y)
    by_case Less m = (λ t. cc, λ e. absurd (Below_irrefl y (subst (λ z. Below z y) e m)))
    by_case Equal m = (λ t. m, λ e. refl)
    by_case Greater m = (λ t. cc, λ e. absurd (Below_irrefl y (subst (λ z. Below y z) e m)))

-- what a derived `==` answers
pub cross_ties : (x y : Number) → (int_eq x.num y.num && nat_eq x.den y.den) ≡ is_eq (cross_cmp x y)
cross_ties x y =
    both_ways _ _
    (λ e. let p = and_parts (int_eq x.num y.num) (nat_eq x.den y.den) e in (cross_Equal x y).1 (same_number x y ((signed_Decides x.num y.num).0 p.0) ((unsigned_Decides x.den y.den).0 p.1)))
    (λ e.
    let same = (cross_Equal x y).0 e in
    let n : int_eq x.num y.num ≡ true = (signed_Decides x.num y.num).1 (ap (λ (z : Number). z.num) same) in
    let d : nat_eq x.den y.den ≡ true = (unsigned_Decides x.den y.den).1 (ap (λ (z : Number). z.den) same) in
    rw (n, d))

-- `==` answers whether two numbers are one
pub eq_Decides : (x y : Number) → Decides (int_eq x.num y.num && nat_eq x.den y.den) (x ≡ y)
eq_Decides x y = rw (cross_ties x y) (cross_Equal x y)

pub same_parts_Decides : (x y : Number) → Decides (same_parts x y) (x ≡ y)
unfolding same_parts
same_parts_Decides x y = eq_Decides x y

pub same_from_parts : (x y : Number) → same_parts x y ≡ true → x ≡ y
same_from_parts x y e = (same_parts_Decides x y).0 e

pub same_parts_itself : (x : Number) → same_parts x x ≡ true
same_parts_itself x = (same_parts_Decides x x).1 refl

pub same_parts_equiv : IsEquivalence same_parts
same_parts_equiv = decided same_parts same_parts_Decides

pub same_parts_partial : IsPartialEquivalence same_parts
same_parts_partial = partial_equiv_from_equiv same_parts_equiv

pub cross_same_parts : (x y : Number) → same_parts x y ≡ is_eq (cross_cmp x y)
unfolding same_parts
cross_same_parts x y = cross_ties x y

-- for `grind`: the first part shows it the test to match
pub same_parts_means : (x y : Number) → same_parts x y ≡ true → (same_parts x y ≡ true) × (x ≡ y)
same_parts_means x y e = (e, same_from_parts x y e)

pub ruleset numbers = (same_parts_means, same_parts_itself)
