-- What is left to find falls with each case that is found.
use Rattle.wi_sheet.proofs.Words.{◌≡◌, ◌≤◌, ◌+◌, ◌||◌, inl, inr, ℕ, Bool, true, false, cond, not, filter, List, [], ◌∷◌, Contains, refl, ap, sym, ◌∙◌, arith, sum_by, if◌then◌else◌, or_left, or_right, true≢false, sum_by-cons, Replacement, sum_ones, Sheet, Case, same_case, wants, Counts, NeverFall, SpentOn, Table, cost, left, plus, price}
use Rattle.wi_sheet.proofs.Members.{IsIn, in_contained}
use Rattle.wi_sheet.proofs.Cases.{same_case-refl}

bit_falls : (n : ℕ) (a b : Bool) → (a ≡ true → b ≡ true) → (if b then 0 else n) ≤ (if a then 0 else n)
bit_falls n true true h = omega arith
bit_falls n true false h = let z = h refl in cc
bit_falls n false true h = omega arith
bit_falls n false false h = omega arith

-- where all that was found is found, no more is left
pub left_falls : (weight : Case → ℕ) (found after : Table) (ks : List Case) → ((c : ℕ) (w : List Replacement) → found c w ≡ true → after c w ≡ true) → left weight after ks ≤ left weight found ks
left_falls weight found after [] h = omega arith
left_falls weight found after (k ∷ ks) h =
    let one = bit_falls (weight k) (found k.0 k.1) (after k.0 k.1) (h k.0 k.1) in
    let rest = left_falls weight found after ks h in
    omega (arith, one, rest)

stays : (a b c : Bool) → c ≡ (a || b) → a ≡ true → c ≡ true
stays a b c e h = e ∙ or_left a b h

bits : (n : ℕ) (a b : Bool) → a ≡ false → b ≡ true → (if b then 0 else n) + n ≤ (if a then 0 else n)
bits n a b e f = rw (e, f) (omega arith)

found_in : (weight : Case → ℕ) (found after : Table) (k : Case) (ks : List Case) → ((c : ℕ) (w : List Replacement) → found c w ≡ true → after c w ≡ true) →
    found k.0 k.1 ≡ false → after k.0 k.1 ≡ true → IsIn ks k → left weight after ks + weight k ≤ left weight found ks
found_in weight found after k [] h u v i = absurd i
found_in weight found after k (j ∷ ks) h u v (inl e) =
    let same = ap weight e in
    let here = bits (weight j) (found j.0 j.1) (after j.0 j.1) (ap (λ (i : Case). found i.0 i.1) e ∙ u) (ap (λ (i : Case). after i.0 i.1) e ∙ v) in
    let rest = left_falls weight found after ks h in
    omega (arith, same, here, rest)
found_in weight found after k (j ∷ ks) h u v (inr i) =
    let one = bit_falls (weight j) (found j.0 j.1) (after j.0 j.1) (h j.0 j.1) in
    let rest = found_in weight found after k ks h u v i in
    omega (arith, one, rest)

-- where one case more is found, its weight less is left
pub left_at_keep : (weight : Case → ℕ) (found after : Table) (k : Case) (ks : List Case) → ((c : ℕ) (w : List Replacement) → after c w ≡ (found c w || same_case k (c, w))) →
    found k.0 k.1 ≡ false → Contains ks k → left weight after ks + weight k ≤ left weight found ks
left_at_keep weight found after k ks h u i =
    found_in weight found after k ks (λ c w. stays (found c w) (same_case k (c, w)) (after c w) (h c w)) u
    (h k.0 k.1 ∙ or_right (found k.0 k.1) (same_case k (k.0, k.1)) (same_case-refl k)) (in_contained ks k i)

-- where nothing is found, all is left
pub left_of_nothing : (weight : Case → ℕ) (ks : List Case) → left weight (λ c w. false) ks ≡ sum_by weight ks
left_of_nothing weight [] = refl
left_of_nothing weight (k ∷ ks) = ap (λ (n : ℕ). weight k + n) (left_of_nothing weight ks) ∙ sym (sum_by-cons weight k ks)

-- the cases that are not found weigh no more than all
left_at_most : (weight : Case → ℕ) (found : Table) (ks : List Case) → left weight found ks ≤ sum_by weight ks
left_at_most weight found ks = omega (arith, left_falls weight (λ c w. false) found ks (λ c w h. absurd (true≢false (sym h))), left_of_nothing weight ks)

-- what is left are those that are not found
pub left_is_unkept : (weight : Case → ℕ) (found : Table) (ks : List Case) → left weight found ks ≡ sum_by weight (filter (λ x. not (found x.0 x.1)) ks)
left_is_unkept weight found [] = refl
left_is_unkept weight found (k ∷ ks) = at (found k.0 k.1) (left_is_unkept weight found ks)
  where
    rest : List Case
    rest = filter (λ x. not (found x.0 x.1)) ks

    at : (b : Bool) → left weight found ks ≡ sum_by weight rest → cond b 0 (weight k) + left weight found ks ≡ sum_by weight (cond (not b) (k ∷ rest) rest)
    at true h = omega (arith, h)
    at false h = omega (arith, h, sum_by-cons weight k rest)

-- where one case more is found, one less is left
pub one_less_left : (found after : Table) (k : Case) (ks : List Case) → ((c : ℕ) (w : List Replacement) → after c w ≡ (found c w || same_case k (c, w))) →
    found k.0 k.1 ≡ false → Contains ks k → left (λ j. 1) after ks + 1 ≤ left (λ j. 1) found ks
one_less_left found after k ks h u i = left_at_keep (λ j. 1) found after k ks h u i

-- ---- counts that never fall

pub never_fall-same : (a : Counts) → NeverFall a a
never_fall-same a = (omega arith, omega arith)

pub never_fall-then : (a b c : Counts) → NeverFall a b → NeverFall b c → NeverFall a c
never_fall-then a b c h k = let x = h.0 in let y = h.1 in let z = k.0 in let w = k.1 in (omega (arith, x, z), omega (arith, y, w))

-- ---- what is spent on cases

pub spent_none : (s : Sheet) (t : Table) (a : Counts) (done : Bool) (ks : List Case) → SpentOn s t t a a done ks
spent_none s t a done ks = record { within = (omega arith, omega arith); paid = λ d. (omega arith, omega arith) }

pub spent_then : {s : Sheet} {old mid new : Table} {a b c : Counts} {done : Bool} {ks : List Case} → SpentOn s old mid a b true ks → SpentOn s mid new b c done ks → SpentOn s old new a c done ks
spent_then h k = record {
  within = (omega (arith, (h.paid refl).0, k.within.0), omega (arith, (h.paid refl).1, k.within.1));
  paid = λ d. (omega (arith, (h.paid refl).0, (k.paid d).0), omega (arith, (h.paid refl).1, (k.paid d).1));
}

pub spent_weaken : {s : Sheet} {old new : Table} {a b : Counts} {done less : Bool} {ks : List Case} → (less ≡ true → done ≡ true) → SpentOn s old new a b done ks → SpentOn s old new a b less ks
spent_weaken d h = record { within = h.within; paid = λ e. h.paid (d e) }

pub spent_all : (s : Sheet) (old new : Table) (a b : Counts) (done : Bool) (ks : List Case) → NeverFall (plus b (cost s new ks)) (plus a (cost s old ks)) → SpentOn s old new a b done ks
spent_all s old new a b done ks h = record { within = (omega (arith, h.0), omega (arith, h.1)); paid = λ d. h }

-- no more than all cost
pub spent_price : {s : Sheet} {old new : Table} {a b : Counts} {done : Bool} {ks : List Case} → SpentOn s old new a b done ks → NeverFall b (plus a (price s ks))
spent_price {s} {old} {new} {a} {b} {done} {ks} h = (omega (arith, h.within.0, left_at_most (λ k. 1) old ks, sum_ones ks), omega (arith, h.within.1, left_at_most (wants s) old ks))

pub spent_nothing : (a b : Counts) → NeverFall a (plus a b)
spent_nothing a b = (omega arith, omega arith)

-- and no more than those that were not found
pub spent_unkept : {s : Sheet} {old new : Table} {a b : Counts} {done : Bool} {ks : List Case} → SpentOn s old new a b done ks → NeverFall b (plus a (price s (filter (λ x. not (old x.0 x.1)) ks)))
spent_unkept {s} {old} {new} {a} {b} {done} {ks} h =
    (omega (arith, h.within.0, left_is_unkept (λ k. 1) old ks, sum_ones (filter (λ x. not (old x.0 x.1)) ks)), omega (arith, h.within.1, left_is_unkept (wants s) old ks))
