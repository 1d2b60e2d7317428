-- The cells from which so many steps lead, layer by layer.
use Rattle.wi_graph.proofs.Words.{◌≡◌, ◌==◌, ℕ, zero, suc, Bool, true, false, ◌&&◌, ◌||◌, cond, List, [], ◌∷◌, filter, Option, Some, None, refl, ap, sym, ◌∙◌, any-filter_same, and-true, and-false, eqb-true, list_any, nat_cmp, keys_of, is_at, Content, Constant, Formula, Sheet, content_of, has_formula, cells_with_formula, content_reads, has_walk}
pub use Rattle.wi_values.specs.Address.{is_one_of}
use Rattle.wi_graph.proofs.Tests.{turn_test, is_at-eq}

-- to find an element with two properties is to find one with the first among those with the second
pub list_any-both : (p q : ℕ → Bool) (xs : List ℕ) → list_any (λ x. p x && q x) xs ≡ list_any p (filter q xs)
list_any-both p q [] = refl
list_any-both p q (x ∷ xs) = at (q x) (list_any-both p q xs)
  where
    at : (b : Bool) → list_any (λ x. p x && q x) xs ≡ list_any p (filter q xs) → ((p x && b) || list_any (λ x. p x && q x) xs) ≡ list_any p (cond b (x ∷ filter q xs) (filter q xs))
    at true ih = ap (λ (c : Bool). c || list_any (λ x. p x && q x) xs) (and-true (p x)) ∙ ap (λ (c : Bool). p x || c) ih
    at false ih = ap (λ (c : Bool). c || list_any (λ x. p x && q x) xs) (and-false (p x)) ∙ ih

-- the cells with a formula from which n steps lead
abbrev pub layer : ℕ → Sheet → List ℕ
layer n s = filter (has_walk n s) (cells_with_formula s)

-- one step more leads from a cell that reads one of them
pub has_walk_more : (n : ℕ) (s : Sheet) (c : ℕ) → has_walk (suc n) s c ≡ list_any (content_reads (content_of s c)) (layer n s)
has_walk_more n s c = list_any-both (content_reads (content_of s c)) (has_walk n s) (cells_with_formula s)

filter_twice : (p : ℕ → Bool) (xs : List ℕ) → filter p (filter p xs) ≡ filter p xs
filter_twice p [] = refl
filter_twice p (x ∷ xs) = at (p x) refl (filter_twice p xs)
  where
    at : (b : Bool) → p x ≡ b → filter p (filter p xs) ≡ filter p xs → filter p (cond b (x ∷ filter p xs) (filter p xs)) ≡ cond b (x ∷ filter p xs) (filter p xs)
    at true h ih = ap (λ (c : Bool). cond c (x ∷ filter p (filter p xs)) (filter p (filter p xs))) h ∙ ap (λ (ys : List ℕ). x ∷ ys) ih
    at false h ih = ih

-- no step leads from each cell with a formula
pub layer_zero : (s : Sheet) → layer 0 s ≡ cells_with_formula s
layer_zero s = filter_twice (λ c. has_formula (content_of s c)) (keys_of s)

none_reads : (w : ℕ → Bool) (xs : List ℕ) → list_any (λ d. false && w d) xs ≡ false
none_reads w [] = refl
none_reads w (x ∷ xs) = none_reads w xs

reader_has_formula : (o : Option Content) (w : ℕ → Bool) (xs : List ℕ) → list_any (λ d. content_reads o d && w d) xs ≡ true → has_formula o ≡ true
reader_has_formula None w xs h = sym (none_reads w xs) ∙ h
reader_has_formula (Some (Constant v)) w xs h = sym (none_reads w xs) ∙ h
reader_has_formula (Some (Formula t)) w xs h = refl

pub walker_has_formula : (n : ℕ) (s : Sheet) (c : ℕ) → has_walk n s c ≡ true → has_formula (content_of s c) ≡ true
walker_has_formula zero s c h = h
walker_has_formula (suc n) s c h = reader_has_formula (content_of s c) (has_walk n s) (cells_with_formula s) h

pub is_key : (s : Sheet) (a : ℕ) → has_formula (content_of s a) ≡ true → is_one_of (keys_of s) a ≡ true
is_key [] a h = h
is_key (e ∷ es) a h = at (is_at (nat_cmp a) e.0) (is_at-eq a e.0) h (is_key es a)
  where
    at : (b : Bool) → b ≡ (a == e.0) → has_formula (cond b (Some e.1) (content_of es a)) ≡ true → (has_formula (content_of es a) ≡ true → is_one_of (keys_of es) a ≡ true) →
        ((e.0 == a) || is_one_of (keys_of es) a) ≡ true
    at true t h ih = ap (λ (c : Bool). c || is_one_of (keys_of es) a) (turn_test e.0 a ∙ sym t)
    at false t h ih = ap (λ (c : Bool). c || is_one_of (keys_of es) a) (turn_test e.0 a ∙ sym t) ∙ ih h

-- a cell is found among those that pass a test exactly where it is one and passes
among : (p : ℕ → Bool) (xs : List ℕ) (a : ℕ) → is_one_of (filter p xs) a ≡ (p a && is_one_of xs a)
among p xs a = any-filter_same (λ x. x == a) p (p a) (λ k h. ap p (eqb-true k a h)) xs

implied : (b c : Bool) → (b ≡ true → c ≡ true) → (b && c) ≡ b
implied true c h = h refl
implied false c h = refl

-- a cell is in a layer exactly where so many steps lead from it
pub in_layer : (n : ℕ) (s : Sheet) (a : ℕ) → is_one_of (layer n s) a ≡ has_walk n s a
in_layer n s a = among (has_walk n s) (cells_with_formula s) a ∙ implied (has_walk n s a) _ (λ h.
    let f = walker_has_formula n s a h in
    among (λ c. has_formula (content_of s c)) (keys_of s) a ∙ ap (λ (b : Bool). b && is_one_of (keys_of s) a) f ∙ is_key s a f)
