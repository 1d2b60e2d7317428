-- Laws of the cut of some rows into blocks.
use Rattle.wi_ranges.proofs.Words.{◌≡◌, ◌==◌, ℕ, zero, suc, ◌+◌, ◌-◌, ◌*◌, ◌^◌, ◌<◌, ◌≤◌, Bool, true, false, cond, List, [], ◌∷◌, ◌++◌, length, refl, ap, sym, ◌∙◌, arith, ⊎_elim, ◌⊎◌, inl, inr, nat_lt, nat_le, length-append, if◌then◌else◌, pow-succ', nil_from_length, pow_pos, and_parts, and_from, and_left, and_right, cases_Bool, cases_lt, lt-ltb, le-leb, le-ltb, lt-leb, leb-true, eqb-true, rows, row_of, RangePair, Block, block, lies_within, meets, blocks_within, blocks_in, blocks_of, first_row, last_row, times_held, RowsAreHeldOnce, BlocksAreFew}
use Rattle.wi_ranges.proofs.BlockLemmas.{blocks_within-here, blocks_within-apart}
use Rattle.wi_ranges.proofs.Found.{halves}

-- ---- cases of a cut

abbrev bounds : ℕ → ℕ → ℕ → ℕ → Type 0
bounds a b k f = (a ≤ f) × (f + 2 ^ k ≤ b + 1)

within_bounds : (a b k f : ℕ) → lies_within a b (block k f) ≡ true → bounds a b k f
within_bounds a b k f h = let p = and_parts (nat_le a f) (nat_le (f + 2 ^ k) (b + 1)) h in (leb-true a f p.0, leb-true (f + 2 ^ k) (b + 1) p.1)

bounds_within : (a b k f : ℕ) → a ≤ f → f + 2 ^ k ≤ b + 1 → lies_within a b (block k f) ≡ true
bounds_within a b k f h i = and_from _ _ (le-leb a f h) (le-leb (f + 2 ^ k) (b + 1) i)

single_row : (a b f : ℕ) → lies_within a b (block 0 f) ≡ false → blocks_within a b 0 f ≡ []
unfolding blocks_within
single_row a b f h = rw h

-- what a cut is: the block, nothing, or what its halves are
abbrev Cut : ℕ → ℕ → ℕ → ℕ → Type 0
Cut a b k f = (bounds a b (suc k) f × (blocks_within a b (suc k) f ≡ block (suc k) f ∷ []))
    ⊎ ((blocks_within a b (suc k) f ≡ []) ⊎ (blocks_within a b (suc k) f ≡ blocks_within a b k f ++ blocks_within a b k (f + 2 ^ k)))

cut : (a b k f : ℕ) → Cut a b k f
cut a b k f =
    ⊎_elim (λ t. inl (within_bounds a b (suc k) f t, blocks_within-here a b (suc k) f t))
    (λ t. inr (⊎_elim (λ m. inr (halves a b k f t m)) (λ m. inl (blocks_within-apart a b (suc k) f t m)) (cases_Bool (meets a b (block (suc k) f)))))
    (cases_Bool (lies_within a b (block (suc k) f)))

-- ---- how often a row is held

repr : (r k f : ℕ) → f ≤ r → r < f + 2 ^ k → times_held r (block k f ∷ []) ≡ 1
repr r k f h l = ap (λ (b : Bool). cond b 1 0 + 0) (and_from _ _ (le-leb f r h) (lt-ltb r (f + 2 ^ k) l))

not_held : (r k f : ℕ) → (r < f) ⊎ (f + 2 ^ k ≤ r) → times_held r (block k f ∷ []) ≡ 0
not_held r k f (inl h) = ap (λ (b : Bool). cond b 1 0 + 0) (and_left (nat_le f r) _ (lt-leb f r h))
not_held r k f (inr h) = ap (λ (b : Bool). cond b 1 0 + 0) (and_right (nat_le f r) _ (le-ltb r (f + 2 ^ k) h))

held_in_both : (r : ℕ) (xs ys : List Block) → times_held r (xs ++ ys) ≡ times_held r xs + times_held r ys
held_in_both r [] ys = omega arith
held_in_both r (x ∷ xs) ys = omega (arith, held_in_both r xs ys)

-- the row is none of the block's, or none of the rows
abbrev Outside : ℕ → ℕ → ℕ → ℕ → ℕ → Type 0
Outside a b r k f = ((r < f) ⊎ (f + 2 ^ k ≤ r)) ⊎ ((r < a) ⊎ (b < r))

outside_upper : (a b r k f : ℕ) → Outside a b r (suc k) f → Outside a b r k f
outside_upper a b r k f (inl (inl h)) = inl (inl h)
outside_upper a b r k f (inl (inr h)) = inl (inr (omega (arith, h, pow-succ' 2 k)))
outside_upper a b r k f (inr h) = inr h

outside_lower : (a b r k f : ℕ) → Outside a b r (suc k) f → Outside a b r k (f + 2 ^ k)
outside_lower a b r k f (inl (inl h)) = inl (inl (omega (arith, h)))
outside_lower a b r k f (inl (inr h)) = inl (inr (omega (arith, h, pow-succ' 2 k)))
outside_lower a b r k f (inr h) = inr h

outside_block : (a b r k f : ℕ) → bounds a b k f → Outside a b r k f → times_held r (block k f ∷ []) ≡ 0
outside_block a b r k f w (inl h) = not_held r k f h
outside_block a b r k f w (inr (inl h)) = not_held r k f (inl (omega (arith, h, w.0)))
outside_block a b r k f w (inr (inr h)) = not_held r k f (inr (omega (arith, h, w.1)))

none_held : (a b r k f : ℕ) → Outside a b r k f → times_held r (blocks_within a b k f) ≡ 0
none_held a b r zero f o =
    ⊎_elim (λ t. ap (times_held r) (blocks_within-here a b 0 f t) ∙ outside_block a b r 0 f (within_bounds a b 0 f t) o)
    (λ t. ap (times_held r) (single_row a b f t))
    (cases_Bool (lies_within a b (block 0 f)))
none_held a b r (suc k) f o =
    let upper = none_held a b r k f (outside_upper a b r k f o) in
    let lower = none_held a b r k (f + 2 ^ k) (outside_lower a b r k f o) in
    ⊎_elim (λ t. ap (times_held r) t.1 ∙ outside_block a b r (suc k) f t.0 o)
    (λ t. ⊎_elim (λ e. ap (times_held r) e) (λ e. let both = ap (times_held r) e ∙ held_in_both r (blocks_within a b k f) (blocks_within a b k (f + 2 ^ k)) in omega (arith, both, upper, lower)) t)
    (cut a b k f)

once_held : (a b r k f : ℕ) → a ≤ r → r ≤ b → f ≤ r → r < f + 2 ^ k → times_held r (blocks_within a b k f) ≡ 1
once_held a b r zero f h i j l =
    ap (times_held r) (blocks_within-here a b 0 f (bounds_within a b 0 f (omega (arith, h, l)) (omega (arith, i, j)))) ∙ repr r 0 f j l
once_held a b r (suc k) f h i j l =
    let twice = pow-succ' 2 k in
    let m : meets a b (block (suc k) f) ≡ true = and_from _ _ (lt-ltb a (f + 2 ^ suc k) (omega (arith, h, l))) (le-leb f b (omega (arith, i, j))) in
    ⊎_elim (λ t. ap (times_held r) (blocks_within-here a b (suc k) f t) ∙ repr r (suc k) f j l)
    (λ t. let both = ap (times_held r) (halves a b k f t m) ∙ held_in_both r (blocks_within a b k f) (blocks_within a b k (f + 2 ^ k)) in
    ⊎_elim (λ u. let one = once_held a b r k f h i j u in let none = none_held a b r k (f + 2 ^ k) (inl (inl u)) in omega (arith, both, one, none))
    (λ u. let none = none_held a b r k f (inl (inr u)) in let one = once_held a b r k (f + 2 ^ k) h i u (omega (arith, l, twice)) in omega (arith, both, one, none))
    (cases_lt r (f + 2 ^ k)))
    (cases_Bool (lies_within a b (block (suc k) f)))

pub rows_are_held_once : RowsAreHeldOnce
rows_are_held_once p r l = (
  λ h i. once_held (first_row p) (last_row p) r 20 0 h i (omega arith) (omega (arith, l)),
  λ h. none_held (first_row p) (last_row p) r 20 0 (inr h),
)

-- ---- how many blocks

-- rows none of which is in the block
no_blocks : (a b k f : ℕ) → (f + 2 ^ k ≤ a) ⊎ (b < f) → length (blocks_within a b k f) ≡ 0
no_blocks a b zero f o =
    ⊎_elim (λ t. let w = within_bounds a b 0 f t in absurd (⊎_elim (λ h. omega (arith, h, w.0, w.1)) (λ h. omega (arith, h, w.0, w.1)) o))
    (λ t. ap (λ (xs : List Block). length xs) (single_row a b f t)) (cases_Bool (lies_within a b (block 0 f)))
no_blocks a b (suc k) f o =
    let twice = pow-succ' 2 k in
    let pos = pow_pos k in
    let upper : length (blocks_within a b k f) ≡ 0 = no_blocks a b k f (⊎_elim (λ h. inl (omega (arith, h, twice))) (λ h. inr h) o) in
    let lower : length (blocks_within a b k (f + 2 ^ k)) ≡ 0 = no_blocks a b k (f + 2 ^ k) (⊎_elim (λ h. inl (omega (arith, h, twice))) (λ h. inr (omega (arith, h))) o) in
    ⊎_elim (λ t. absurd (⊎_elim (λ h. omega (arith, h, t.0.0, twice, pos)) (λ h. omega (arith, h, t.0.1, twice, pos)) o))
    (λ t. ⊎_elim (λ e. ap (λ (xs : List Block). length xs) e) (λ e. let both = ap (λ (xs : List Block). length xs) e ∙ length-append (blocks_within a b k f) (blocks_within a b k (f + 2 ^ k)) in omega (arith, both, upper, lower)) t)
    (cut a b k f)

one_block : (a b k f : ℕ) → a ≤ f → f + 2 ^ k ≤ b + 1 → length (blocks_within a b k f) ≡ 1
one_block a b k f h i = ap (λ (xs : List Block). length xs) (blocks_within-here a b k f (bounds_within a b k f h i))

-- a cut that is not the block has no more blocks than its halves
no_more : (a b k f : ℕ) → (bounds a b (suc k) f → ⊥) → length (blocks_within a b (suc k) f) ≤ length (blocks_within a b k f) + length (blocks_within a b k (f + 2 ^ k))
no_more a b k f n =
    ⊎_elim (λ t. absurd (n t.0))
    (λ t. ⊎_elim (λ e. let none = ap (λ (xs : List Block). length xs) e in omega (arith, none))
    (λ e. let both = ap (λ (xs : List Block). length xs) e ∙ length-append (blocks_within a b k f) (blocks_within a b k (f + 2 ^ k)) in omega (arith, both)) t)
    (cut a b k f)

-- the rows begin in the block and go to its end or on
to_the_end : (a b k f : ℕ) → f < a → f + 2 ^ k ≤ b + 1 → length (blocks_within a b k f) ≤ k
to_the_end a b zero f h i = let none = no_blocks a b 0 f (inl (omega (arith, h))) in omega (arith, none)
to_the_end a b (suc k) f h i =
    let twice = pow-succ' 2 k in
    let more = no_more a b k f (λ w. omega (arith, w.0, h)) in
    ⊎_elim
    (λ l. let upper = no_blocks a b k f (inl (omega (arith, l))) in let lower = to_the_end a b k (f + 2 ^ k) l (omega (arith, i, twice)) in omega (arith, more, upper, lower))
    (λ l. let upper = to_the_end a b k f h (omega (arith, i, twice)) in let lower = one_block a b k (f + 2 ^ k) l (omega (arith, i, twice)) in omega (arith, more, upper, lower))
    (cases_lt (f + 2 ^ k) a)

-- the rows begin at the block or before it and end in it
from_the_front : (a b k f : ℕ) → a ≤ f → b + 1 < f + 2 ^ k → length (blocks_within a b k f) ≤ k
from_the_front a b zero f h i = let none = no_blocks a b 0 f (inr (omega (arith, i))) in omega (arith, none)
from_the_front a b (suc k) f h i =
    let twice = pow-succ' 2 k in
    let more = no_more a b k f (λ w. omega (arith, w.1, i)) in
    ⊎_elim
    (λ l. let upper = from_the_front a b k f h l in let lower = no_blocks a b k (f + 2 ^ k) (inr (omega (arith, l))) in omega (arith, more, upper, lower))
    (λ l. let upper = one_block a b k f h l in let lower = from_the_front a b k (f + 2 ^ k) (omega (arith, h)) (omega (arith, i, twice)) in omega (arith, more, upper, lower))
    (cases_lt (b + 1) (f + 2 ^ k))

-- the rows begin and end in the block
in_the_midst : (a b k f : ℕ) → f < a → b + 1 < f + 2 ^ k → length (blocks_within a b k f) ≤ 2 * k - 2
in_the_midst a b zero f h i = let none = no_blocks a b 0 f (inl (omega (arith, h))) in omega (arith, none)
in_the_midst a b (suc k) f h i =
    let twice = pow-succ' 2 k in
    let more = no_more a b k f (λ w. omega (arith, w.0, h)) in
    ⊎_elim
    (λ l. let upper = no_blocks a b k f (inl (omega (arith, l))) in let lower = in_the_midst a b k (f + 2 ^ k) l (omega (arith, i, twice)) in omega (arith, more, upper, lower))
    (λ l. ⊎_elim
    (λ m. let upper = in_the_midst a b k f h m in let lower = no_blocks a b k (f + 2 ^ k) (inr (omega (arith, m))) in omega (arith, more, upper, lower))
    (λ m. let upper = to_the_end a b k f h m in let lower = from_the_front a b k (f + 2 ^ k) l (omega (arith, i, twice)) in omega (arith, more, upper, lower))
    (cases_lt (b + 1) (f + 2 ^ k)))
    (cases_lt (f + 2 ^ k) a)

pub blocks_are_few : BlocksAreFew
blocks_are_few p =
    let a = first_row p in
    let b = last_row p in
    ⊎_elim
    (λ h. ⊎_elim (λ i. let few = in_the_midst a b 20 0 h i in omega (arith, few)) (λ i. let few = to_the_end a b 20 0 h i in omega (arith, few)) (cases_lt (b + 1) (0 + 2 ^ 20)))
    (λ h. ⊎_elim (λ i. let few = from_the_front a b 20 0 h i in omega (arith, few)) (λ i. let few = one_block a b 20 0 h i in omega (arith, few)) (cases_lt (b + 1) (0 + 2 ^ 20)))
    (cases_lt 0 a)

-- ---- the blocks of one row

one_row : (a k f : ℕ) → f ≤ a → a < f + 2 ^ k → blocks_within a a k f ≡ block 0 a ∷ []
one_row a zero f h l =
    let e : f ≡ a = omega (arith, h, l) in
    blocks_within-here a a 0 f (bounds_within a a 0 f (omega (arith, e)) (omega (arith, e))) ∙ ap (λ (g : ℕ). block 0 g ∷ []) e
one_row a (suc k) f h l =
    let twice = pow-succ' 2 k in
    let pos = pow_pos k in
    let m : meets a a (block (suc k) f) ≡ true = and_from _ _ (lt-ltb a (f + 2 ^ suc k) l) (le-leb f a h) in
    ⊎_elim (λ t. let w = within_bounds a a (suc k) f t in absurd (omega (arith, w.0, w.1, twice, pos)))
    (λ t. ⊎_elim
    (λ u. let none = nil_from_length (blocks_within a a k (f + 2 ^ k)) (no_blocks a a k (f + 2 ^ k) (inr u)) in
    halves a a k f t m ∙ ap (λ (xs : List Block). blocks_within a a k f ++ xs) none ∙ ap (λ (xs : List Block). xs ++ []) (one_row a k f h u))
    (λ u. let none = nil_from_length (blocks_within a a k f) (no_blocks a a k f (inl u)) in
    halves a a k f t m ∙ ap (λ (xs : List Block). xs ++ blocks_within a a k (f + 2 ^ k)) none ∙ one_row a k (f + 2 ^ k) u (omega (arith, l, twice)))
    (cases_lt a (f + 2 ^ k)))
    (cases_Bool (lies_within a a (block (suc k) f)))

-- so its block has all of them
pub row_around : (p : RangePair) → last_row p ≡ first_row p → first_row p < rows → blocks_in p (block 0 (first_row p)) ≡ blocks_of p
row_around p e l =
    ap (λ (b : ℕ). blocks_within (first_row p) b 0 (first_row p)) e ∙ one_row (first_row p) 0 (first_row p) (omega arith) (omega arith)
    ∙ sym (ap (λ (b : ℕ). blocks_within (first_row p) b 20 0) e ∙ one_row (first_row p) 20 0 (omega arith) (omega (arith, l)))

-- which is its only one
pub lone_block : (p : RangePair) → (p.first == p.last) ≡ true → first_row p < rows → length (blocks_of p) ≡ 1
lone_block p e l =
    let one : last_row p ≡ first_row p = one_last (nat_lt (row_of p.last) (row_of p.first)) in
    let within = bounds_within (first_row p) (last_row p) 0 (first_row p) (omega arith) (omega (arith, one)) in
    ap length (sym (row_around p one l) ∙ blocks_within-here (first_row p) (last_row p) 0 (first_row p) within)
  where
    one_last : (b : Bool) → (if b then row_of p.first else row_of p.last) ≡ row_of p.first
    one_last true = refl
    one_last false = ap row_of (sym (eqb-true p.first p.last e))
