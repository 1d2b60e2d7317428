-- Orders in which cells with a formula are read.
use Rattle.wi_sheet.proofs.Words.{◌≡◌, ◌==◌, ℕ, Bool, true, false, List, [], ◌∷◌, ◌++◌, refl, ap, sym, ◌∙◌, subst, append_assoc, inl, inr, ◌⊎◌, or_cases, list_any-append, Sheet, content_of, has_formula, content_reads, circular, is_one_of, same_cell, stripped, ends_open, IsReadOrder, MayFollow}

-- a list with one cell more, cut before a cell: before the last, or before another
last_cut : (xs : List ℕ) (x : ℕ) (front back : List ℕ) (c : ℕ) → xs ++ x ∷ [] ≡ front ++ c ∷ back → ((xs ≡ front) × (x ≡ c)) ⊎ ((rest : List ℕ) × (xs ≡ front ++ c ∷ rest))
last_cut [] x [] back c e = inl (refl, cc)
last_cut [] x (f ∷ []) back c e = cc
last_cut [] x (f ∷ g ∷ fs) back c e = cc
last_cut (y ∷ ys) x [] back c e = let h : y ≡ c = cc in inr (ys, ap (λ (z : ℕ). z ∷ ys) h)
last_cut (y ∷ ys) x (f ∷ fs) back c e =
    let h : y ≡ f = cc in
    let k : ys ++ x ∷ [] ≡ fs ++ c ∷ back = cc in
    at h (last_cut ys x fs back c k)
  where
    at : y ≡ f → ((ys ≡ fs) × (x ≡ c)) ⊎ ((rest : List ℕ) × (ys ≡ fs ++ c ∷ rest)) → ((y ∷ ys ≡ f ∷ fs) × (x ≡ c)) ⊎ ((rest : List ℕ) × (y ∷ ys ≡ f ∷ fs ++ c ∷ rest))
    at h (inl w) = let u = w.0 in inl (cc, w.1)
    at h (inr w) = let u = w.1 in inr (w.0, cc)

pub no_order : (s : Sheet) → IsReadOrder s []
no_order s = record { each = none }
  where
    none : (front back : List ℕ) (c : ℕ) → [] ≡ front ++ c ∷ back → MayFollow s front c
    none [] back c e = cc
    none (f ∷ fs) back c e = cc

-- a cell that may follow is put at the end
pub order-push : (s : Sheet) (order : List ℕ) (c : ℕ) → IsReadOrder s order → MayFollow s order c → IsReadOrder s (order ++ c ∷ [])
order-push s order c o m = record { each = λ front back d e. at front back d (last_cut order c front back d e) }
  where
    at : (front back : List ℕ) (d : ℕ) → ((order ≡ front) × (c ≡ d)) ⊎ ((rest : List ℕ) × (order ≡ front ++ d ∷ rest)) → MayFollow s front d
    at front back d (inl w) = subst (λ (xs : List ℕ). MayFollow s xs d) w.0 (subst (MayFollow s order) w.1 m)
    at front back d (inr w) = o.each front w.0 d w.1

-- ---- no cell of such an order is circular

abbrev AllClear : Sheet → List ℕ → Type 0
AllClear s cells = (c : ℕ) → is_one_of cells c ≡ true → circular s c ≡ false

follower_clear : (s : Sheet) (cells : List ℕ) (c : ℕ) → AllClear s cells → MayFollow s cells c → circular s c ≡ false
follower_clear s cells c h m = stripped s c (λ d r. at d r (has_formula (content_of s d)) refl)
  where
    at : (d : ℕ) → content_reads (content_of s c) d ≡ true → (b : Bool) → has_formula (content_of s d) ≡ b → circular s d ≡ false
    at d r true f = h d (m.reads d r f)
    at d r false f = ends_open 0 s d f

all_clear : (s : Sheet) (order front back : List ℕ) → IsReadOrder s order → order ≡ front ++ back → AllClear s front → AllClear s back
all_clear s order front [] o e h c m = cc
all_clear s order front (x ∷ xs) o e h c m =
    let here = follower_clear s front x h (o.each front xs x e) in
    at (or_cases (x == c) _ m) here (λ k. all_clear s order (front ++ x ∷ []) xs o (e ∙ sym (append_assoc front (x ∷ []) xs)) (longer here) c k)
  where
    at : ((x == c) ≡ true) ⊎ (is_one_of xs c ≡ true) → circular s x ≡ false → (is_one_of xs c ≡ true → circular s c ≡ false) → circular s c ≡ false
    at (inl k) here ih = ap (circular s) (sym (same_cell c x k)) ∙ here
    at (inr k) here ih = ih k

    longer : circular s x ≡ false → AllClear s (front ++ x ∷ [])
    longer here d k = in_either (or_cases (is_one_of front d) _ (sym (list_any-append (λ (y : ℕ). y == d) front (x ∷ [])) ∙ k))
      where
        at_last : ((x == d) ≡ true) ⊎ (false ≡ true) → circular s d ≡ false
        at_last (inl y) = ap (circular s) (sym (same_cell d x y)) ∙ here
        at_last (inr y) = cc

        in_either : (is_one_of front d ≡ true) ⊎ (is_one_of (x ∷ []) d ≡ true) → circular s d ≡ false
        in_either (inl y) = h d y
        in_either (inr y) = at_last (or_cases (x == d) false y)

pub order_clear : (s : Sheet) (order : List ℕ) → IsReadOrder s order → (c : ℕ) → is_one_of order c ≡ true → circular s c ≡ false
order_clear s order o = all_clear s order [] order o refl (λ c h. cc)
