-- Each cell has a path of its own.
use Rattle.wi_tiles.proofs.Words.{◌≡◌, ℕ, ◌+◌, ◌*◌, ◌/◌, ◌%◌, ◌<◌, sym, ap, arith, ◌∙◌, Option, cond, ⊎_elim, ◌==◌, if◌then◌else◌, cases_eq, eq-eqb, ne_eqb, path_of}

abbrev pub Digits : ℕ → ℕ → ℕ → Type 0
Digits p r k = (p % 256 ≡ r / 4096) × (p / 256 % 256 ≡ r / 16 % 256) × (p / 256 / 256 % 4096 ≡ k / 4) × (p / 256 / 256 / 4096 ≡ r % 16 * 4 + k % 4)

pub digits : (r k : ℕ) → r < 1048576 → k < 16384 → Digits (r / 4096 + 256 * (r / 16 % 256 + 256 * (k / 4 + 4096 * (r % 16 * 4 + k % 4)))) r k
digits r k h l =
    let bit : ℕ = r % 16 * 4 + k % 4 in
    let group : ℕ = k / 4 + 4096 * bit in
    let band : ℕ = r / 16 % 256 + 256 * group in
    let page : ℕ = r / 4096 + 256 * band in
    let one : (page % 256 ≡ r / 4096) × (page / 256 ≡ band) = omega arith in
    let two : (band % 256 ≡ r / 16 % 256) × (band / 256 ≡ group) = omega arith in
    let three : (group % 4096 ≡ k / 4) × (group / 4096 ≡ bit) = omega arith in
    (one.0, ap (λ q. q % 256) one.1 ∙ two.0, ap (λ q. q / 256 % 4096) one.1 ∙ ap (λ q. q % 4096) two.1 ∙ three.0, ap (λ q. q / 256 / 4096) one.1 ∙ ap (λ q. q / 4096) two.1 ∙ three.1)

same_digits : (r k s j : ℕ) → r / 4096 ≡ s / 4096 → r / 16 % 256 ≡ s / 16 % 256 → k / 4 ≡ j / 4 → r % 16 * 4 + k % 4 ≡ s % 16 * 4 + j % 4 → (r ≡ s) × (k ≡ j)
same_digits r k s j a b c d =
    let low : (r % 16 ≡ s % 16) × (k % 4 ≡ j % 4) = omega (arith, d) in
    let band : r / 16 ≡ s / 16 = omega (arith, a, b) in
    (omega (arith, low, band), omega (arith, low, c))

pub path_apart : (c d : ℕ) → c < 17179869184 → d < 17179869184 → path_of c ≡ path_of d → c ≡ d
path_apart c d h l e =
    let one : Digits (path_of c) (c / 16384) (c % 16384) = digits (c / 16384) (c % 16384) (omega arith) (omega arith) in
    let other : Digits (path_of d) (d / 16384) (d % 16384) = digits (d / 16384) (d % 16384) (omega arith) (omega arith) in
    let same : (c / 16384 ≡ d / 16384) × (c % 16384 ≡ d % 16384) = same_digits (c / 16384) (c % 16384) (d / 16384) (d % 16384)
    (sym one.0 ∙ ap (λ p. p % 256) e ∙ other.0)
    (sym one.1 ∙ ap (λ p. p / 256 % 256) e ∙ other.1)
    (sym one.2 ∙ ap (λ p. p / 256 / 256 % 4096) e ∙ other.2)
    (sym one.3 ∙ ap (λ p. p / 256 / 256 / 4096) e ∙ other.3) in
    omega (arith, same)

-- so what changes one path changes one cell
pub one_cell : {V : Type 0} (now old : ℕ → Option V) (cell : ℕ) (o : Option V) → cell < 17179869184 → ((p : ℕ) → now p ≡ (if p == path_of cell then o else old p)) → (c : ℕ) → c < 17179869184 → now (path_of c) ≡ (if c == cell then o else old (path_of c))
one_cell now old cell o h changed c l = changed (path_of c) ∙ ⊎_elim
    (λ e. ap (λ b. cond b o (old (path_of c))) (eq-eqb (path_of c) (path_of cell) (ap path_of e)) ∙ sym (ap (λ b. cond b o (old (path_of c))) (eq-eqb c cell e)))
    (λ ne. ap (λ b. cond b o (old (path_of c))) (ne_eqb (path_of c) (path_of cell) (λ z. ne (path_apart c cell l h z))) ∙ sym (ap (λ b. cond b o (old (path_of c))) (ne_eqb c cell ne)))
    (cases_eq c cell)
