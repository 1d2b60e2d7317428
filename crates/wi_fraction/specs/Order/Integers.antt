-- Whole numbers with a sign: products, and their order.
use Rattle.std.specs.Prelude.{◌≡◌, ℕ, zero, suc, ◌*◌, ◌<◌, ℤ, pos, negsuc, ◌*ℤ◌, neg_ℤ, ◌<ℤ◌, refl}
use Rattle.std.specs.declared.cmp.Ordering.{Ordering}
use Rattle.std.specs.declared.cmp.Ordering.TheVariants.{Less, Equal, Greater}
use Rattle.std.specs.Ordering.{int_cmp, MatchOrdering}
use Rattle.std.specs.Cmp.{int_ranks}
use Rattle.std.proofs.Common.{sym, ap, ◌∙◌, subst, arith}
use Rattle.std.proofs.Math.Nat.{mul_assoc, mul_comm, mul-lt-mul_of_pos_right, mul-pos, zero-mul}
use Rattle.std.specs.Cmp.{int_chain}
use Rattle.std.proofs.lemmas.Int.{ints}

pub neg-pos-mul : (k n : ℕ) → neg_ℤ (pos k) *ℤ pos n ≡ neg_ℤ (pos (k * n))
neg-pos-mul zero n = rw zero-mul refl
neg-pos-mul (suc k) n = refl

pub mul-mul : (z : ℤ) (m n : ℕ) → z *ℤ pos m *ℤ pos n ≡ z *ℤ pos (m * n)
mul-mul (pos a) m n = ap pos (mul_assoc a m n)
mul-mul (negsuc a) m n = neg-pos-mul (suc a * m) n ∙ ap (λ k. neg_ℤ (pos k)) (mul_assoc (suc a) m n)

pub mul_below : (p q : ℤ) (k : ℕ) → 0 < k → p <ℤ q → (p *ℤ pos k) <ℤ (q *ℤ pos k)
mul_below (pos a) (pos b) k some h = let l : a * k < b * k = mul-lt-mul_of_pos_right (omega (arith, ints)) some in omega (arith, ints)
mul_below (pos a) (negsuc b) k some h = absurd (omega (arith, ints))
mul_below (negsuc a) (pos b) k some h = let l : 0 < suc a * k = mul-pos (omega arith) some in omega (arith, ints)
mul_below (negsuc a) (negsuc b) k some h = let l : suc b * k < suc a * k = mul-lt-mul_of_pos_right (omega (arith, ints)) some in omega (arith, ints)

pub int_irrefl : (z : ℤ) → ¬ (z <ℤ z)
int_irrefl z l = absurd (omega (arith, ints))

pub by_rank : (x y : ℤ) (P : Type 0) (o : Ordering) → MatchOrdering o (x <ℤ y) (x ≡ y) (y <ℤ x) → (x <ℤ y → P) → (x ≡ y → P) → (y <ℤ x → P) → P
by_rank x y P Less m f g k = f m
by_rank x y P Equal m f g k = g m
by_rank x y P Greater m f g k = k m

pub below_from_mul : (p q : ℤ) (k : ℕ) → 0 < k → (p *ℤ pos k) <ℤ (q *ℤ pos k) → p <ℤ q
below_from_mul p q k some h =
    by_rank p q (p <ℤ q) (int_cmp p q) (int_ranks p q) (λ l. l)
    (λ e. absurd (int_irrefl (q *ℤ pos k) (subst (λ z. (z *ℤ pos k) <ℤ (q *ℤ pos k)) e h)))
    (λ l. absurd (int_irrefl (p *ℤ pos k) (int_chain _ _ _ h (mul_below q p k some l))))

pub turn : (z : ℤ) (m n : ℕ) → z *ℤ pos m *ℤ pos n ≡ z *ℤ pos n *ℤ pos m
turn z m n = mul-mul z m n ∙ ap (λ k. z *ℤ pos k) (mul_comm m n) ∙ sym (mul-mul z n m)
