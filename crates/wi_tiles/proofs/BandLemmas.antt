-- A part of a band's list of tiles.
use Rattle.wi_tiles.proofs.Words.{◌≡◌, ℕ, ◌+◌, ◌-◌, ◌*◌, ◌/◌, ◌%◌, ◌<◌, ◌≤◌, List, [], ◌∷◌, length, Some, None, sym, ap, arith, ◌∙◌, ⊎_elim, zero, suc, refl, cond, eqb, subst, true, false, Bool, IsSome, ◌==◌, cases_lt, ne_eqb, eqb-true, Band, cell, slot, at_part, key, Rises, find as find_part}
use lib.ListN.{take, drop}
use Rattle.wi_tiles.proofs.Keys.{find_none}
use Rattle.wi_tiles.proofs.Outcomes.{nothing_some}

find_dropped : {S : Type 0} (ts : List (ℕ × S)) (n g : ℕ) → ((i : ℕ) → i < n → key ts i < g) → find_part g (drop n ts) ≡ find_part g ts
find_dropped ts zero g below = refl
find_dropped [] (suc n) g below = refl
find_dropped (t ∷ ts) (suc n) g below = find_dropped ts n g (λ i l. below (suc i) (omega arith)) ∙ sym (ap (λ b. cond b (Some t.1) (find_part g ts)) (ne_eqb t.0 g (λ z. omega (arith, below zero (omega arith), z))))

find_taken : {S : Type 0} (ts : List (ℕ × S)) (n g : ℕ) → ((i : ℕ) → n ≤ i → i < length ts → g < key ts i) → find_part g (take n ts) ≡ find_part g ts
find_taken ts zero g above = sym (find_none ts g (λ j q z. omega (arith, above j (omega arith) q, z)))
find_taken [] (suc n) g above = refl
find_taken (t ∷ ts) (suc n) g above = ap (λ o. cond (eqb t.0 g) (Some t.1) o) (find_taken ts n g (λ i l q. above (suc i) (omega arith) (omega arith)))

key_dropped : {S : Type 0} (ts : List (ℕ × S)) (n i : ℕ) → key (drop n ts) i ≡ key ts (n + i)
key_dropped ts zero i = ap (λ k. key ts k) (let e : i ≡ 0 + i = omega arith in e)
key_dropped [] (suc n) i = refl
key_dropped (t ∷ ts) (suc n) i = key_dropped ts n i ∙ ap (λ k. key (t ∷ ts) k) (let e : suc (n + i) ≡ suc n + i = omega arith in e)

key_taken : {S : Type 0} (ts : List (ℕ × S)) (n i : ℕ) → i < n → key (take n ts) i ≡ key ts i
key_taken ts zero i l = absurd (omega arith)
key_taken [] (suc n) i l = refl
key_taken (t ∷ ts) (suc n) zero l = refl
key_taken (t ∷ ts) (suc n) (suc i) l = key_taken ts n i (omega arith)

length_dropped : {S : Type 0} (ts : List (ℕ × S)) (n : ℕ) → length (drop n ts) ≡ length ts - n
length_dropped ts zero = omega arith
length_dropped [] (suc n) = omega arith
length_dropped (t ∷ ts) (suc n) = length_dropped ts n ∙ (let e : length ts - n ≡ suc (length ts) - suc n = omega arith in e)

length_taken : {S : Type 0} (ts : List (ℕ × S)) (n : ℕ) → (length (take n ts) ≤ n) × (length (take n ts) ≤ length ts)
length_taken ts zero = (omega arith, omega arith)
length_taken [] (suc n) = (omega arith, omega arith)
length_taken (t ∷ ts) (suc n) = let h = length_taken ts n in (omega (arith, h.0), omega (arith, h.1))

module _ {S : Type 0} (ts : List (ℕ × S)) (low high : ℕ) where
  part_key : (i : ℕ) → i < length (take (high - low) (drop low ts)) → (key (take (high - low) (drop low ts)) i ≡ key ts (low + i)) × (low + i < length ts) × (low + i < high)
  part_key i l =
      let h = length_taken (drop low ts) (high - low) in
      (key_taken (drop low ts) (high - low) i (omega (arith, l, h.0)) ∙ key_dropped ts low i, omega (arith, l, h.1, length_dropped ts low), omega (arith, l, h.0))

  pub part_rises : Rises ts → Rises (take (high - low) (drop low ts))
  part_rises rises i j l q =
      let a = part_key i (omega (arith, l, q)) in
      let b = part_key j q in
      omega (arith, a.0, b.0, rises (low + i) (low + j) (omega arith) b.1)

  pub part_low : (g : ℕ) → ((i : ℕ) → low ≤ i → i < length ts → g ≤ key ts i) → (i : ℕ) → i < length (take (high - low) (drop low ts)) → g ≤ key (take (high - low) (drop low ts)) i
  part_low g above i l = let a = part_key i l in omega (arith, a.0, above (low + i) (omega arith) a.1)

  pub part_high : (g : ℕ) → ((i : ℕ) → i < high → key ts i < g + 1) → (i : ℕ) → i < length (take (high - low) (drop low ts)) → key (take (high - low) (drop low ts)) i ≤ g
  part_high g below i l = let a = part_key i l in omega (arith, a.0, below (low + i) a.2)

  pub part_same : (g : ℕ) → low ≤ high → ((i : ℕ) → i < low → key ts i < g) → ((i : ℕ) → high ≤ i → i < length ts → g < key ts i) → find_part g (take (high - low) (drop low ts)) ≡ find_part g ts
  part_same g h below above =
      find_taken (drop low ts) (high - low) g (λ i l q.
      let k : low + i < length ts = omega (arith, q, length_dropped ts low) in
      omega (arith, key_dropped ts low i, above (low + i) (omega arith) k))
      ∙ find_dropped ts low g below

pub low_high : {S : Type 0} (ts : List (ℕ × S)) (low high g h : ℕ) → g < h → low ≤ length ts → ((i : ℕ) → i < low → key ts i < g) → ((i : ℕ) → high ≤ i → i < length ts → h ≤ key ts i) → low ≤ high
low_high ts low high g h less bound below above = ⊎_elim (λ q. absurd (omega (arith, below high q, above high (omega arith) (omega (arith, q, bound)), less))) (λ q. q) (cases_lt high low)

-- where there is one tile, all stands in it
pub one_key : {V : Type 0} (ts : Band V) (line k : ℕ) → length ts ≡ 1 → IsSome (cell ts line k) → k / 4 ≡ key ts 0
one_key [] line k h some = absurd (omega (arith, h))
one_key {V} (t ∷ []) line k h some = by (t.0 == k / 4) refl
  where
    by : (b : Bool) → (t.0 == k / 4) ≡ b → k / 4 ≡ t.0
    by true e = sym (eqb-true t.0 (k / 4) e)
    by false e = absurd (nothing_some V (subst (λ q. IsSome (at_part slot (cond q (Some t.1) None) (4 * line + k % 4))) e some))
one_key (t ∷ u ∷ ts) line k h some = absurd (omega (arith, h))
