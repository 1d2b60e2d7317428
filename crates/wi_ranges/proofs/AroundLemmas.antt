-- The rectangle around what is read, as pairs come and go.
use Rattle.wi_ranges.proofs.Words.{◌≡◌, ℕ, ◌+◌, ◌-◌, ◌<◌, Bool, true, false, Option, if◌then◌else◌, refl, sym, subst, arith, Area, is_within, RangePair, Bag, count_of, is_same, pair_area, HasOneMore, HasOneLess, has_cell, IsAround}
use Rattle.wi_ranges.proofs.Exact.{same_is}

pub around_more : (p : RangePair) (bag new : Bag) (old next : Option Area) → HasOneMore p bag new → IsAround old bag
    → ((a : ℕ) → is_within (pair_area p) a ≡ true → has_cell next a ≡ true) → ((a : ℕ) → has_cell old a ≡ true → has_cell next a ≡ true) → IsAround next new
around_more p bag new old next more around own others q a n w = by (is_same p q) refl (more q)
  where
    by : (b : Bool) → is_same p q ≡ b → count_of new q ≡ (if b then count_of bag q + 1 else count_of bag q) → has_cell next a ≡ true
    by true s e = own a (subst (λ (x : RangePair). is_within (pair_area x) a ≡ true) (sym (same_is p q s)) w)
    by false s e = others a (around q a (omega (arith, e, n)) w)

pub around_less : (p : RangePair) (bag new : Bag) (old : Option Area) → HasOneLess p bag new → IsAround old bag → IsAround old new
around_less p bag new old less around q a n w = around q a (by (is_same p q) (less q)) w
  where
    by : (b : Bool) → count_of new q ≡ (if b then count_of bag q - 1 else count_of bag q) → 0 < count_of bag q
    by true e = omega (arith, e, n)
    by false e = omega (arith, e, n)
