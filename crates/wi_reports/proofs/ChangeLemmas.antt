-- What has changed, as a walk through cells collects it.
use Rattle.wi_reports.proofs.Words.{◌≡◌, ℕ, ◌+◌, ◌<◌, Bool, true, false, not, cond, List, [], ◌∷◌, ◌++◌, map, filter, length, drop, get_or, refl, sym, ap, ◌∙◌, subst, append_assoc, arith, Value, left_more, same_value, value_in, changes_among}

-- where there is a cell there is no end
pub not_none : {X Y : Type 0} (cells : List Y) (i : ℕ) → i < length cells → cells ≡ [] → X
not_none {Y = Y} cells i l e = absurd (let none : i < 0 = subst (λ (xs : List Y). i < length xs) e l in omega (arith, none))

-- ---- what is found

chosen : (f : ℕ → ℕ × Value) (b : Bool) (a : ℕ) (xs : List ℕ) → map f (cond (not b) (a ∷ xs) xs) ≡ cond b (map f xs) (f a ∷ map f xs)
chosen f true a xs = refl
chosen f false a xs = refl

joined : (b : Bool) (found : List (ℕ × Value)) (e : ℕ × Value) (rest : List (ℕ × Value)) → cond b found (found ++ e ∷ []) ++ rest ≡ found ++ cond b rest (e ∷ rest)
joined true found e rest = refl
joined false found e rest = append_assoc found (e ∷ []) rest

-- one more cell is looked at
pub one_looked : (cells : List ℕ) (picture : List (ℕ × Value)) (shown : ℕ → Value) (i a : ℕ) (v : Value) (found next whole : List (ℕ × Value)) → i < length cells → a ≡ get_or cells i a → v ≡ shown a
    → next ≡ cond (same_value (value_in picture a) v) found (found ++ (a, v) ∷ []) → found ++ changes_among (drop i cells) picture shown ≡ whole
    → next ++ changes_among (drop (i + 1) cells) picture shown ≡ whole
one_looked cells picture shown i a v found next whole l e is k h =
    let rest = changes_among (drop (i + 1) cells) picture shown in
    let same = same_value (value_in picture a) (shown a) in
    let after = filter (λ x. not (same_value (value_in picture x) (shown x))) (drop (i + 1) cells) in
    ap (λ (xs : List (ℕ × Value)). xs ++ rest) (k ∙ ap (λ (w : Value). cond (same_value (value_in picture a) w) found (found ++ (a, w) ∷ [])) is)
    ∙ joined same found (a, shown a) rest
    ∙ ap (λ (xs : List (ℕ × Value)). found ++ xs) (sym (ap (λ (xs : List ℕ). changes_among xs picture shown) (left_more cells i a l e) ∙ chosen (λ x. (x, shown x)) same a after)) ∙ h
