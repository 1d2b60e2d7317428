-- Some of the replacements, by their count.
use Rattle.wi_worlds.proofs.Words.{◌≡◌, ◌∙◌, ◌==◌, ◌&&◌, ℕ, suc, refl, subst, arith, Bool, true, false, cond, List, [], ◌∷◌, None, Result, Ok, Err, IfOk, if◌then◌else◌, filter, map, length, ap, or_left, or_right, nil_from_length, Replacement, replaced, replaced-filter, keeps_few, is_itself, is_one_of, has-filter, is_of}

-- where as many are kept as there are, all are, and where none are counted, none is
whole : (p : Replacement → Bool) (rs : List Replacement) → length (filter p rs) ≡ length rs → filter p rs ≡ rs
whole p [] h = refl
whole p (r ∷ rs) h = by (p r) (whole p rs) h
  where
    by : (b : Bool) → (length (filter p rs) ≡ length rs → filter p rs ≡ rs)
        → length (cond b (r ∷ filter p rs) (filter p rs)) ≡ suc (length rs) → cond b (r ∷ filter p rs) (filter p rs) ≡ r ∷ rs
    by true more e = ap (λ (xs : List Replacement). r ∷ xs) (more (omega (arith, e)))
    by false more e = absurd (omega (arith, e, keeps_few p rs))

pub filter_whole : (p : Replacement → Bool) (seen rs : List Replacement) → seen ≡ rs → length (filter p seen) ≡ length seen → filter p rs ≡ rs
filter_whole p seen rs same h = whole p rs (subst (λ (xs : List Replacement). length (filter p xs) ≡ length xs) same h)

pub filter_nothing : (p : Replacement → Bool) (seen rs : List Replacement) → seen ≡ rs → length (filter p seen) ≡ 0 → filter p rs ≡ []
filter_nothing p seen rs same h = nil_from_length (filter p rs) (subst (λ (xs : List Replacement). length (filter p xs) ≡ 0) same h)

-- what is made of them
pub made_of : {E : Type 0} (p : Replacement → Bool) (rs kept : List Replacement) (r : Result (List Replacement) E)
    → IfOk r (λ w. w ≡ kept) → kept ≡ filter p rs → IfOk r (λ w. w ≡ filter p rs)
made_of p rs kept (Ok w) h e = h ∙ e
made_of p rs kept (Err x) h e = tt

-- what each address has among them
pub each_of : {E : Type 0} (q : ℕ → Bool) (rs : List Replacement) (r : Result (List Replacement) E)
    → IfOk r (λ w. w ≡ filter (λ x. q x.at) rs) → IfOk r (λ w. (a : ℕ) → replaced w a ≡ (if q a then replaced rs a else None))
each_of q rs (Ok w) h = λ a. ap (λ (v : List Replacement). replaced v a) h ∙ replaced-filter q a rs
each_of q rs (Err e) h = tt

-- ---- by their cells

cells_kept : (q : ℕ → Bool) (rs : List Replacement) → map (λ r. r.at) (filter (λ r. q r.at) rs) ≡ filter q (map (λ r. r.at) rs)
cells_kept q [] = refl
cells_kept q (r ∷ rs) = by (q r.at) (cells_kept q rs)
  where
    by : (b : Bool) → map (λ x. x.at) (filter (λ x. q x.at) rs) ≡ filter q (map (λ x. x.at) rs)
        → map (λ x. x.at) (cond b (r ∷ filter (λ x. q x.at) rs) (filter (λ x. q x.at) rs)) ≡ cond b (r.at ∷ filter q (map (λ x. x.at) rs)) (filter q (map (λ x. x.at) rs))
    by true h = ap (λ (xs : List ℕ). r.at ∷ xs) h
    by false h = h

-- the test of each is whether its cell is one of these
tested : (q : ℕ → Bool) (cells : List ℕ) (rs : List Replacement) → ((a : ℕ) → is_one_of (map (λ r. r.at) rs) a ≡ true → is_one_of cells a ≡ q a)
    → filter (is_of cells) rs ≡ filter (λ r. q r.at) rs
tested q cells [] h = refl
tested q cells (r ∷ rs) h =
    ap (λ (b : Bool). cond b (r ∷ filter (is_of cells) rs) (filter (is_of cells) rs)) (h r.at (or_left (r.at == r.at) (is_one_of (map (λ x. x.at) rs) r.at) (is_itself r.at)))
    ∙ ap (λ (xs : List Replacement). cond (q r.at) (r ∷ xs) xs) (tested q cells rs (λ a k. h a (or_right (r.at == a) (is_one_of (map (λ x. x.at) rs) a) k)))

-- those of the cells of the kept ones are the kept ones
pub those_of : (q : ℕ → Bool) (rs : List Replacement) (cells : List ℕ) → cells ≡ map (λ r. r.at) (filter (λ r. q r.at) rs)
    → filter (is_of cells) rs ≡ filter (λ r. q r.at) rs
those_of q rs cells e =
    tested q cells rs (λ a k. ap (λ (xs : List ℕ). is_one_of xs a) (e ∙ cells_kept q rs) ∙ has-filter q (map (λ r. r.at) rs) a ∙ ap (λ (b : Bool). b && q a) k)
