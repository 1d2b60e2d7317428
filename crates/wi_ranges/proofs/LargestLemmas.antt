-- The blocks of a cut are the largest.
use Rattle.wi_ranges.proofs.Words.{◌≡◌, ℕ, zero, suc, ◌+◌, ◌-◌, ◌*◌, ◌^◌, ◌<◌, ◌≤◌, true, false, ◌&&◌, List, [], ◌∷◌, refl, sym, ap, subst, ◌∙◌, arith, ⊎_elim, ◌⊎◌, inl, inr, nat_le, is_at, or-false, pow-succ', mul_assoc, add-mul, pow_pos, true≢false, or_cases, cases_Bool, cases_lt, cases_order, list_any-append, tells_apart, Block, block, lies_within, meets, blocks_within, first_row, last_row, block_cmp, is_among, IsAligned, IsPartOf, BlocksAreLargest}
use Rattle.wi_ranges.proofs.BlockLemmas.{blocks_within-here, blocks_within-apart, blocks_within-row}
use Rattle.wi_ranges.proofs.Exact.{exact_block}
use Rattle.wi_ranges.proofs.Found.{halves}

among_one : (x y : Block) → is_among x (y ∷ []) ≡ true → y ≡ x
among_one x y h = tells_apart exact_block y x (sym (or-false (is_at (block_cmp y) x)) ∙ h)

-- where a block of a cut comes from
abbrev pub Whole : ℕ → ℕ → ℕ → ℕ → Block → Type 0
Whole a b k f x = (lies_within a b (block k f) ≡ true) × (block k f ≡ x)

abbrev pub OfHalves : ℕ → ℕ → ℕ → ℕ → Block → Type 0
OfHalves a b k f x = (lies_within a b (block (suc k) f) ≡ false)
    × ((is_among x (blocks_within a b k f) ≡ true) ⊎ (is_among x (blocks_within a b k (f + 2 ^ k)) ≡ true))

whole : (a b k f : ℕ) (x : Block) → lies_within a b (block k f) ≡ true → is_among x (blocks_within a b k f) ≡ true → Whole a b k f x
whole a b k f x t h = (t, among_one x (block k f) (sym (ap (λ (xs : List Block). is_among x xs) (blocks_within-here a b k f t)) ∙ h))

not_empty : (x : Block) (xs : List Block) → is_among x xs ≡ true → xs ≡ [] → ⊥
not_empty x xs h e = true≢false (sym h ∙ ap (λ (ys : List Block). is_among x ys) e)

pub of_row : (a b f : ℕ) (x : Block) → is_among x (blocks_within a b 0 f) ≡ true → Whole a b 0 f x
of_row a b f x h =
    ⊎_elim (λ t. whole a b 0 f x t h) (λ t. absurd (not_empty x _ h (blocks_within-row a b 0 f t refl))) (cases_Bool (lies_within a b (block 0 f)))

pub which : (a b k f : ℕ) (x : Block) → is_among x (blocks_within a b (suc k) f) ≡ true → Whole a b (suc k) f x ⊎ OfHalves a b k f x
which a b k f x h =
    ⊎_elim (λ t. inl (whole a b (suc k) f x t h))
    (λ t. inr (
      t,
      ⊎_elim
          (λ m. or_cases (is_among x (blocks_within a b k f)) (is_among x (blocks_within a b k (f + 2 ^ k)))
          (sym (list_any-append (λ y. is_at (block_cmp y) x) (blocks_within a b k f) (blocks_within a b k (f + 2 ^ k)))
          ∙ sym (ap (λ (xs : List Block). is_among x xs) (halves a b k f t m)) ∙ h))
          (λ m. absurd (not_empty x _ h (blocks_within-apart a b (suc k) f t m)))
          (cases_Bool (meets a b (block (suc k) f))),
    ))
    (cases_Bool (lies_within a b (block (suc k) f)))

-- ---- blocks begin at multiples, and lie in the block that is cut

upper_first : (k f n : ℕ) → f ≡ n * 2 ^ suc k → f ≡ (n * 2) * 2 ^ k
upper_first k f n e = e ∙ ap (λ t. n * t) (pow-succ' 2 k) ∙ sym (mul_assoc n 2 (2 ^ k))

lower_first : (k f n : ℕ) → f ≡ n * 2 ^ suc k → f + 2 ^ k ≡ (n * 2 + 1) * 2 ^ k
lower_first k f n e = let upper = upper_first k f n e in let more = add-mul (n * 2) 1 (2 ^ k) in omega (arith, upper, more)

abbrev Stands : ℕ → ℕ → ℕ → ℕ → Block → Type 0
Stands a b k f x = IsAligned x × (lies_within a b x ≡ true) × (f ≤ x.first) × (x.first + 2 ^ x.level ≤ f + 2 ^ k)

stands_whole : (a b k f n : ℕ) (x : Block) → f ≡ n * 2 ^ k → Whole a b k f x → Stands a b k f x
stands_whole a b k f n x e w = subst (λ (y : Block). Stands a b k f y) w.1 ((n, e), w.0, omega arith, omega arith)

stands : (a b k f n : ℕ) (x : Block) → f ≡ n * 2 ^ k → is_among x (blocks_within a b k f) ≡ true → Stands a b k f x
stands a b zero f n x e h = stands_whole a b 0 f n x e (of_row a b f x h)
stands a b (suc k) f n x e h =
    let twice = pow-succ' 2 k in
    ⊎_elim (λ w. stands_whole a b (suc k) f n x e w)
    (λ w. ⊎_elim
    (λ u. let s = stands a b k f (n * 2) x (upper_first k f n e) u in (s.0, s.1, s.2, omega (arith, s.3, twice)))
    (λ u. let s = stands a b k (f + 2 ^ k) (n * 2 + 1) x (lower_first k f n e) u in (s.0, s.1, omega (arith, s.2), omega (arith, s.3, twice))) w.1)
    (which a b k f x h)

-- ---- no larger block does

not_before : (m n s t : ℕ) → m < n → t < m * s + s → n * s ≤ t → ⊥
not_before m n s t l h i =
    let sum : n ≡ (m + 1) + (n - (m + 1)) = omega (arith, l) in
    let times = ap (λ u. u * s) sum ∙ add-mul (m + 1) (n - (m + 1)) s in
    let one = add-mul m 1 s in
    omega (arith, h, i, times, one)

-- two blocks of one size that share a row
same_first : (m n s t : ℕ) → m * s ≤ t → t < m * s + s → n * s ≤ t → t < n * s + s → m * s ≡ n * s
same_first m n s t h i j l =
    ⊎_elim (λ e. ap (λ u. u * s) e) (λ o. ⊎_elim (λ b. absurd (not_before m n s t b i j)) (λ b. absurd (not_before n m s t b l h)) o) (cases_order m n)

largest : (a b k f n : ℕ) (x y : Block) → f ≡ n * 2 ^ k → is_among x (blocks_within a b k f) ≡ true
    → IsAligned y → y.level ≤ k → x.level < y.level → IsPartOf x y → lies_within a b y ≡ false
largest a b zero f n x y e h al i l o = absurd (omega (arith, i, l))
largest a b (suc k) f n x y e h al i l o =
    ⊎_elim (λ w. let same : suc k ≡ x.level = ap (λ (z : Block). z.level) w.1 in absurd (omega (arith, same, i, l)))
    (λ w. ⊎_elim
    (λ j.
    let level : y.level ≡ suc k = omega (arith, i, j) in
    let s = stands a b (suc k) f n x e h in
    let m = al.0 in
    let size : 2 ^ y.level ≡ 2 ^ suc k = ap (λ t. 2 ^ t) level in
    let begins : y.first ≡ m * 2 ^ suc k = al.1 ∙ ap (λ t. m * t) size in
    let pos = pow_pos x.level in
    let first : y.first ≡ f = begins ∙ same_first m n (2 ^ suc k) x.first (omega (arith, begins, o.0)) (omega (arith, begins, o.1, size, pos)) (omega (arith, e, s.2)) (omega (arith, e, s.3, pos)) ∙ sym e in
    ap (λ t. nat_le a t && nat_le (t + 2 ^ y.level) (b + 1)) first ∙ ap (λ t. nat_le a f && nat_le (f + 2 ^ t) (b + 1)) level ∙ w.0)
    (λ j. ⊎_elim (λ u. largest a b k f (n * 2) x y (upper_first k f n e) u al j l o) (λ u. largest a b k (f + 2 ^ k) (n * 2 + 1) x y (lower_first k f n e) u al j l o) w.1)
    (cases_lt k y.level))
    (which a b k f x h)

pub blocks_are_largest : BlocksAreLargest
blocks_are_largest p x h =
    let s = stands (first_row p) (last_row p) 20 0 0 x (omega arith) h in
    (s.0, s.1, λ y al i l o. largest (first_row p) (last_row p) 20 0 0 x y (omega arith) h al i l o)
