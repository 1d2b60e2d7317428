-- Walks between formulas: one that is as long as there are formulas has no end.
use Rattle.wi_graph.proofs.Words.{◌≡◌, ◌==◌, ℕ, zero, suc, ◌+◌, ◌<◌, ◌≤◌, Bool, true, false, ◌&&◌, ◌||◌, ◌↔◌, cond, List, [], ◌∷◌, filter, map, get_or, Option, Some, None, length, refl, ap, sym, ◌∙◌, arith, inl, inr, ◌⊎◌, eq-eqb, and_parts, and_from, or_cases, or_left, or_right, eqb-true, nil_from_length, Any-from_list_any, list_any_at, list_any-append, AllPass-from_list_all, list_all-from_AllPass, list_any, list_all, one_truth, Content, Constant, Formula, Sheet, content_of, has_formula, cells_with_formula, content_reads, sublists, circular, Walks, has_walk}
use Rattle.wi_graph.specs.Precedents.{formula_reads}
use Rattle.wi_graph.proofs.Precedents.{reads_as_leaves}
use Rattle.wi_graph.proofs.Layers.{is_one_of, layer, layer_zero, in_layer, has_walk_more, walker_has_formula}

pub same_cell : (a k : ℕ) → (k == a) ≡ true → k ≡ a
same_cell a k h = eqb-true k a h

-- a test that one element of a list passes
pub found : (p : ℕ → Bool) (xs : List ℕ) (a : ℕ) → is_one_of xs a ≡ true → p a ≡ true → list_any p xs ≡ true
found p [] a m h = m
found p (x ∷ xs) a m h = at (x == a) refl m (found p xs a)
  where
    at : (b : Bool) → (x == a) ≡ b → (b || is_one_of xs a) ≡ true → (is_one_of xs a ≡ true → p a ≡ true → list_any p xs ≡ true) → (p x || list_any p xs) ≡ true
    at true e m ih = ap (λ (b : Bool). b || list_any p xs) (ap p (same_cell a x e) ∙ h)
    at false e m ih = either (p x) (ih m h)
      where
        either : (b : Bool) → list_any p xs ≡ true → (b || list_any p xs) ≡ true
        either true k = refl
        either false k = k

-- the element that passes
pub finds : (p : ℕ → Bool) (xs : List ℕ) → list_any p xs ≡ true → (a : ℕ) × (p a ≡ true)
finds p [] h = cc
finds p (x ∷ xs) h = at (p x) refl h (finds p xs)
  where
    at : (b : Bool) → p x ≡ b → (b || list_any p xs) ≡ true → (list_any p xs ≡ true → (a : ℕ) × (p a ≡ true)) → (a : ℕ) × (p a ≡ true)
    at true e h ih = (x, e)
    at false e h ih = ih h

-- a cell with a formula is among those that have one
pub formula_cell : (s : Sheet) (a : ℕ) → has_formula (content_of s a) ≡ true → is_one_of (cells_with_formula s) a ≡ true
formula_cell s a h = ap (λ (xs : List ℕ). is_one_of xs a) (sym (layer_zero s)) ∙ in_layer 0 s a ∙ h

pub step : (n : ℕ) (s : Sheet) (c d : ℕ) → content_reads (content_of s c) d ≡ true → has_walk n s d ≡ true → has_walk (suc n) s c ≡ true
step n s c d r h =
    found (λ e. content_reads (content_of s c) e && has_walk n s e) (cells_with_formula s) d (formula_cell s d (walker_has_formula n s d h)) (and_from _ _ r h)

pub first_step : (n : ℕ) (s : Sheet) (c : ℕ) → has_walk (suc n) s c ≡ true → (d : ℕ) × (content_reads (content_of s c) d ≡ true) × (has_walk n s d ≡ true)
first_step n s c h =
    let f = finds (λ e. content_reads (content_of s c) e && has_walk n s e) (cells_with_formula s) h in
    let x = and_parts (content_reads (content_of s c) f.0) (has_walk n s f.0) f.1 in
    (f.0, x.0, x.1)

pub one_less : (n : ℕ) (s : Sheet) (c : ℕ) → has_walk (suc n) s c ≡ true → has_walk n s c ≡ true
one_less zero s c h = walker_has_formula 1 s c h
one_less (suc n) s c h =
    let f = first_step (suc n) s c h in
    step n s c f.0 f.1 (one_less n s f.0 f.2)

-- what reads a cell has a formula
pub reader_formula : (o : Option Content) (d : ℕ) → content_reads o d ≡ true → has_formula o ≡ true
reader_formula None d h = cc
reader_formula (Some (Constant v)) d h = cc
reader_formula (Some (Formula t)) d h = refl

-- n steps lead on by one more wherever they lead
abbrev pub Leads : ℕ → Sheet → Type 0
Leads n s = (c : ℕ) → has_walk n s c ≡ true → has_walk (suc n) s c ≡ true

pub leads_on : (n : ℕ) (s : Sheet) → Leads n s → Leads (suc n) s
leads_on n s l c h =
    let f = first_step n s c h in
    step (suc n) s c f.0 f.1 (l f.0 f.2)

-- ---- of two filters of one list, one of which keeps no more: it keeps fewer, or the same

abbrev pub Same : (ℕ → Bool) → (ℕ → Bool) → List ℕ → Type 0
Same p q xs = (length (filter q xs) ≡ length (filter p xs)) × ((a : ℕ) → is_one_of xs a ≡ true → p a ≡ true → q a ≡ true)

pub shrinks : (p q : ℕ → Bool) → ((x : ℕ) → q x ≡ true → p x ≡ true) → (xs : List ℕ) → (length (filter q xs) < length (filter p xs)) ⊎ Same p q xs
shrinks p q le [] = inr (refl, λ a m h. cc)
shrinks p q le (x ∷ xs) = at (p x) (q x) refl refl (shrinks p q le xs)
  where
    at : (b d : Bool) → p x ≡ b → q x ≡ d → (length (filter q xs) < length (filter p xs)) ⊎ Same p q xs →
        (length (cond d (x ∷ filter q xs) (filter q xs)) < length (cond b (x ∷ filter p xs) (filter p xs)))
        ⊎ ((length (cond d (x ∷ filter q xs) (filter q xs)) ≡ length (cond b (x ∷ filter p xs) (filter p xs))) × ((a : ℕ) → ((x == a) || is_one_of xs a) ≡ true → p a ≡ true → q a ≡ true))
    at true true e f (inl l) = inl (omega arith)
    at true true e f (inr k) = inr (omega (arith, k.0), λ a m h. here a m h (q a) refl)
      where
        here : (a : ℕ) → ((x == a) || is_one_of xs a) ≡ true → p a ≡ true → (b : Bool) → q a ≡ b → b ≡ true
        here a m h true g = refl
        here a m h false g = absurd (no (or_cases (x == a) _ m))
          where
            no : ((x == a) ≡ true) ⊎ (is_one_of xs a ≡ true) → ⊥
            no (inl y) = let z = ap q (same_cell a x y) in cc
            no (inr y) = let z = k.1 a y h in cc
    at true false e f (inl l) = inl (omega arith)
    at true false e f (inr k) = inl (omega (arith, k.0))
    at false true e f i = let z = le x f in cc
    at false false e f (inl l) = inl l
    at false false e f (inr k) = inr (k.0, λ a m h. there a h (or_cases (x == a) _ m))
      where
        there : (a : ℕ) → p a ≡ true → ((x == a) ≡ true) ⊎ (is_one_of xs a ≡ true) → q a ≡ true
        there a h (inl y) = let z = ap p (same_cell a x y) in cc
        there a h (inr y) = k.1 a y h

-- n steps lead on, or fewer cells than formulas by n have them
thins : (n : ℕ) (s : Sheet) → Leads n s ⊎ (length (layer n s) + n ≤ length (cells_with_formula s))
thins zero s = inr (let e = ap (λ (xs : List ℕ). length xs) (layer_zero s) in omega arith)
thins (suc n) s = at (thins n s)
  where
    at_less : length (layer n s) + n ≤ length (cells_with_formula s) → (length (layer (suc n) s) < length (layer n s)) ⊎ Same (has_walk n s) (has_walk (suc n) s) (cells_with_formula s) →
        Leads (suc n) s ⊎ (length (layer (suc n) s) + suc n ≤ length (cells_with_formula s))
    at_less l (inl k) = inr (omega arith)
    at_less l (inr k) = inl (leads_on n s (λ c h. k.1 c (formula_cell s c (walker_has_formula n s c h)) h))

    at : Leads n s ⊎ (length (layer n s) + n ≤ length (cells_with_formula s)) → Leads (suc n) s ⊎ (length (layer (suc n) s) + suc n ≤ length (cells_with_formula s))
    at (inl l) = inl (leads_on n s l)
    at (inr l) = at_less l (shrinks (has_walk n s) (has_walk (suc n) s) (λ c h. one_less n s c h) (cells_with_formula s))

-- the pigeonhole: as many steps as there are formulas lead on by one more
pub all_lead : (s : Sheet) → Leads (length (cells_with_formula s)) s
all_lead s = at (thins (length (cells_with_formula s)) s)
  where
    at : Leads (length (cells_with_formula s)) s ⊎ (length (layer (length (cells_with_formula s)) s) + length (cells_with_formula s) ≤ length (cells_with_formula s)) → Leads (length (cells_with_formula s)) s
    at (inl l) = l
    at (inr l) = λ c h.
        let z : length (layer (length (cells_with_formula s)) s) ≡ 0 = omega arith in
        let e = nil_from_length (layer (length (cells_with_formula s)) s) z in
        let m = in_layer (length (cells_with_formula s)) s c in
        let i = ap (λ (xs : List ℕ). is_one_of xs c) e in
        cc

-- ---- circular cells

any_added : (p : List ℕ → Bool) (x : ℕ) (lists : List (List ℕ)) → list_any p (map (λ ys. x ∷ ys) lists) ≡ list_any (λ ys. p (x ∷ ys)) lists
any_added p x [] = refl
any_added p x (ys ∷ lists) = ap (λ (b : Bool). p (x ∷ ys) || b) (any_added p x lists)

-- the sublists without the first element, and those with it
any_sublist : (p : List ℕ → Bool) (x : ℕ) (xs : List ℕ) → list_any p (sublists (x ∷ xs)) ≡ (list_any p (sublists xs) || list_any (λ ys. p (x ∷ ys)) (sublists xs))
any_sublist p x xs = list_any-append p (sublists xs) (map (λ ys. x ∷ ys) (sublists xs)) ∙ ap (λ (b : Bool). list_any p (sublists xs) || b) (any_added p x (sublists xs))

-- what a filter keeps is one of the sublists
filter_passes : (p : List ℕ → Bool) (q : ℕ → Bool) (xs : List ℕ) → p (filter q xs) ≡ true → list_any p (sublists xs) ≡ true
filter_passes p q [] h = or_left (p []) false h
filter_passes p q (x ∷ xs) h = any_sublist p x xs ∙ by (q x) h (filter_passes p q xs) (filter_passes (λ ys. p (x ∷ ys)) q xs)
  where
    by : (b : Bool) → p (cond b (x ∷ filter q xs) (filter q xs)) ≡ true → (p (filter q xs) ≡ true → list_any p (sublists xs) ≡ true)
        → (p (x ∷ filter q xs) ≡ true → list_any (λ ys. p (x ∷ ys)) (sublists xs) ≡ true) → (list_any p (sublists xs) || list_any (λ ys. p (x ∷ ys)) (sublists xs)) ≡ true
    by true h left added = or_right (list_any p (sublists xs)) _ (added h)
    by false h left added = or_left (list_any p (sublists xs)) _ (left h)

-- each of the cells reads one of them
abbrev all_read : Sheet → List ℕ → Bool
all_read s cs = list_all (λ d. list_any (content_reads (content_of s d)) cs) cs

all_cells_read : (s : Sheet) (cs : List ℕ) → list_all (λ d. list_any (formula_reads (content_of s d)) cs) cs ≡ all_read s cs
all_cells_read s cs = λ i. list_all (λ d. list_any (λ a. reads_as_leaves (content_of s d) a i) cs) cs

reads_one : (s : Sheet) (cs : List ℕ) → all_read s cs ≡ true → (c : ℕ) → is_one_of cs c ≡ true → (d : ℕ) × (content_reads (content_of s c) d ≡ true) × (is_one_of cs d ≡ true)
reads_one s cs all c m =
    let i = Any-from_list_any (λ x. x == c) cs m in
    let same : get_or cs i.0 i.1 ≡ c = i.3 ∙ same_cell c i.1 i.4 in
    let here = AllPass-from_list_all (λ d. list_any (content_reads (content_of s d)) cs) cs all i.0 i.1 i.2 in
    let reads : list_any (content_reads (content_of s c)) cs ≡ true = ap (λ d. list_any (content_reads (content_of s d)) cs) (sym same) ∙ here in
    let j = Any-from_list_any (content_reads (content_of s c)) cs reads in
    (j.1, j.4, list_any_at (λ x. x == j.1) cs j.0 j.1 j.2 (eq-eqb (get_or cs j.0 j.1) j.1 j.3))

all_walk : (s : Sheet) (cs : List ℕ) → all_read s cs ≡ true → (n c : ℕ) → is_one_of cs c ≡ true → has_walk n s c ≡ true
all_walk s cs all zero c m = let x = reads_one s cs all c m in reader_formula (content_of s c) x.0 x.1
all_walk s cs all (suc n) c m = let x = reads_one s cs all c m in step n s c x.0 x.1 (all_walk s cs all n x.0 x.2)

-- the cells from which as many steps lead as there are formulas
layer_read : (s : Sheet) → all_read s (layer (length (cells_with_formula s)) s) ≡ true
layer_read s =
    let n = length (cells_with_formula s) in
    list_all-from_AllPass (λ d. list_any (content_reads (content_of s d)) (layer n s)) (layer n s) (λ k d l.
    let c = get_or (layer n s) k d in
    let walk : has_walk n s c ≡ true = sym (in_layer n s c) ∙ list_any_at (λ x. x == c) (layer n s) k d l (eq-eqb c c refl) in
    sym (has_walk_more n s c) ∙ all_lead s c walk)

-- from a circular cell lead walks of every length
pub circular_walks : (s : Sheet) (c : ℕ) → circular s c ≡ true → (n : ℕ) → has_walk n s c ≡ true
unfolding circular
circular_walks s c h n =
    let whole : list_any (λ cs. is_one_of cs c && all_read s cs) (sublists (cells_with_formula s)) ≡ true = (λ i. list_any (λ cs. is_one_of cs c && sym (all_cells_read s cs) i) (sublists (cells_with_formula s))) ∙ h in
    let f = Any-from_list_any (λ cs. is_one_of cs c && all_read s cs) (sublists (cells_with_formula s)) whole in
    let x = and_parts (is_one_of f.1 c) (all_read s f.1) f.4 in
    all_walk s f.1 x.1 n c x.0

long_walk : (s : Sheet) (c : ℕ) → has_walk (length (cells_with_formula s)) s c ≡ true → circular s c ≡ true
unfolding circular
long_walk s c h =
    let n = length (cells_with_formula s) in
    (λ i. list_any (λ cs. is_one_of cs c && all_cells_read s cs i) (sublists (cells_with_formula s)))
    ∙ filter_passes (λ cs. is_one_of cs c && all_read s cs) (has_walk n s) (cells_with_formula s) (and_from _ _ (in_layer n s c ∙ h) (layer_read s))

-- a cell is circular exactly where as many steps lead from it as there are formulas
pub circular_is : (s : Sheet) (c : ℕ) → circular s c ≡ has_walk (length (cells_with_formula s)) s c
circular_is s c = one_truth (circular s c) (has_walk (length (cells_with_formula s)) s c) (λ h. circular_walks s c h (length (cells_with_formula s))) (long_walk s c)

-- and so exactly where walks of every length do
pub walks_circular : (s : Sheet) (c : ℕ) → ((n : ℕ) → has_walk n s c ≡ true) → circular s c ≡ true
walks_circular s c h = long_walk s c (h (length (cells_with_formula s)))

-- ---- walks of references

-- steps that lead to a formula lead from formula to formula
walked : (n : ℕ) (s : Sheet) (c d : ℕ) → Walks n s c d → has_formula (content_of s d) ≡ true → has_walk n s c ≡ true
walked zero s c d w f = ap (λ (a : ℕ). has_formula (content_of s a)) w ∙ f
walked (suc n) s c d w f = step n s c w.0 w.1 (walked n s w.0 d w.2 f)

walks : (n : ℕ) (s : Sheet) (c : ℕ) → has_walk n s c ≡ true → (d : ℕ) × Walks n s c d × (has_formula (content_of s d) ≡ true)
walks zero s c h = (c, refl, h)
walks (suc n) s c h =
    let f = first_step n s c h in
    let w = walks n s f.0 f.2 in
    (w.0, (f.0, f.1, w.1), w.2)

-- what is one step short of leading to a cell leads to a formula
one_short : (n : ℕ) (s : Sheet) (c d : ℕ) → Walks (suc n) s c d → has_walk n s c ≡ true
one_short zero s c d w = reader_formula (content_of s c) w.0 w.1
one_short (suc n) s c d w = step n s c w.0 w.1 (one_short n s w.0 d w.2)

-- a cell is circular exactly where steps of every number lead from it
pub every_length : (s : Sheet) (c : ℕ) → (circular s c ≡ true) ↔ ((n : ℕ) → (d : ℕ) × Walks n s c d)
every_length s c = (λ h n. let w = walks n s c (circular_walks s c h n) in (w.0, w.1), λ h. walks_circular s c (λ n. let w = h (suc n) in one_short n s c w.0 w.1))

-- and exactly where as many as there are formulas lead to one
pub longest : (s : Sheet) (c : ℕ) → (circular s c ≡ true) ↔ ((d : ℕ) × Walks (length (cells_with_formula s)) s c d × (has_formula (content_of s d) ≡ true))
longest s c =
    let n = length (cells_with_formula s) in
    (λ h. walks n s c (sym (circular_is s c) ∙ h), λ w. circular_is s c ∙ walked n s c w.0 w.1 w.2)
