-- Ranks fall along reads.
use Rattle.wi_sheet.proofs.Words.{◌≡◌, ◌<◌, ◌≤◌, ◌+◌, ◌*◌, ℕ, zero, suc, Bool, true, false, length, refl, sym, ◌∙◌, arith, if◌then◌else◌, Sheet, content_of, has_formula, cells_with_formula, content_reads, circular, has_walk, step, reader_formula, circular_is, Case, precedent_cases, RestsOn, lengths_below, reach_rank, one_at_most}
use Rattle.wi_sheet.proofs.Bounds.{put_formula}
use Rattle.wi_sheet.proofs.Members.{in_contained}
use Rattle.wi_sheet.proofs.Demands.{rests_reads}

one_if : (b c : Bool) → (b ≡ true → c ≡ true) → (if b then 1 else 0) ≤ (if c then 1 else 0)
one_if true true f = omega arith
one_if true false f = let z = f refl in cc
one_if false true f = omega arith
one_if false false f = omega arith

-- each length of a walk from what is read, and one more
longer : (n : ℕ) (s : Sheet) (c d : ℕ) → content_reads (content_of s c) d ≡ true → lengths_below n s d + 1 ≤ lengths_below (suc n) s c
longer zero s c d r = rw (reader_formula (content_of s c) d r) (omega arith)
longer (suc n) s c d r =
    let one = one_if (has_walk n s d) (has_walk (suc n) s c) (step n s c d r) in
    let rest = longer n s c d r in
    omega (arith, one, rest)

-- a length that no walk has counts nothing
no_more : (n : ℕ) (s : Sheet) (c : ℕ) → has_walk n s c ≡ false → lengths_below (suc n) s c ≡ lengths_below n s c
no_more n s c h = rw h (omega arith)

-- ranks fall from a cell that is not circular to each formula that it reads
pub rank_falls : (s : Sheet) (c d : ℕ) → content_reads (content_of s c) d ≡ true → circular s c ≡ false → has_formula (content_of s d) ≡ true → reach_rank s d < reach_rank s c
unfolding reach_rank
rank_falls s c d r o f =
    let more = longer (length (cells_with_formula s)) s c d r in
    let same = no_more (length (cells_with_formula s)) s c (sym (circular_is s c) ∙ o) in
    omega (arith, more, same)

few_lengths : (n : ℕ) (s : Sheet) (c : ℕ) → lengths_below n s c ≤ n
few_lengths zero s c = omega arith
few_lengths (suc n) s c =
    let one = one_at_most (has_walk n s c) in
    let rest = few_lengths n s c in
    omega (arith, one, rest)

-- no rank is greater than the number of formulas
pub rank_small : (s : Sheet) (c : ℕ) → reach_rank s c ≤ length (cells_with_formula s)
unfolding reach_rank
rank_small s c = few_lengths (length (cells_with_formula s)) s c

-- and so they do from a case to those on which it rests
pub rests_rank : (s : Sheet) (k j : Case) → RestsOn s k j → circular s k.0 ≡ false → reach_rank s j.0 < reach_rank s k.0
rests_rank s k j r o = rank_falls s k.0 j.0 (rests_reads s k j r.tree r.is (in_contained (precedent_cases s k.1 r.tree) j r.asks)) o (put_formula s j.1 j.0 r.formula)

-- ---- how a calculation ends

-- with one less to find, the work that is left falls to that of any cell
pub measure_falls_at_keep : (s : Sheet) (c d before after : ℕ) → after + 1 ≤ before →
    after * (length (cells_with_formula s) + 2) + reach_rank s d < before * (length (cells_with_formula s) + 2) + reach_rank s c
measure_falls_at_keep s c d before after h =
    let small = rank_small s d in
    let less : (after + 1) * (length (cells_with_formula s) + 2) ≤ before * (length (cells_with_formula s) + 2) = grind (arith, h) in
    omega (arith, small, less)

-- with as much to find, it falls to that of a cell of lower rank
pub measure_falls_at_push : (s : Sheet) (c d unfound : ℕ) → reach_rank s d < reach_rank s c →
    unfound * (length (cells_with_formula s) + 2) + reach_rank s d < unfound * (length (cells_with_formula s) + 2) + reach_rank s c
measure_falls_at_push s c d unfound h = omega (arith, h)
