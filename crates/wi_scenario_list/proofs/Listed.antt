-- Entries of a map, seen as a list of things of which a test tells which key they have.
use Rattle.wi_scenario_list.proofs.Words.{◌≡◌, Bool, true, false, cond, not, ◌||◌, List, [], ◌∷◌, map, filter, Some, None, is_some, refl, sym, ap, ◌∙◌, list_any, lookup, remove_entry}

module _ {K X Y : Type 0} (f : K × X → Y) (t : K → Bool) (p : Y → Bool) (same : (e : K × X) → p (f e) ≡ t e.0) where
  pub found-any : (es : List (K × X)) → is_some (lookup t es) ≡ list_any p (map f es)
  found-any [] = refl
  found-any (e ∷ es) = by (t e.0) (p (f e)) (same e) (found-any es)
    where
      by : (b c : Bool) → c ≡ b → is_some (lookup t es) ≡ list_any p (map f es) → is_some (cond b (Some e.1) (lookup t es)) ≡ (c || list_any p (map f es))
      by true true s h = refl
      by true false s h = cc
      by false true s h = cc
      by false false s h = h

  -- where no key passes, all are kept
  kept-all : (es : List (K × X)) → lookup t es ≡ None → map f es ≡ filter (λ y. not (p y)) (map f es)
  kept-all [] h = refl
  kept-all (e ∷ es) h = by (t e.0) (p (f e)) (same e) (kept-all es) h
    where
      by : (b c : Bool) → c ≡ b → (lookup t es ≡ None → map f es ≡ filter (λ y. not (p y)) (map f es)) → cond b (Some e.1) (lookup t es) ≡ None
          → f e ∷ map f es ≡ cond (not c) (f e ∷ filter (λ y. not (p y)) (map f es)) (filter (λ y. not (p y)) (map f es))
      by true c s rest h = cc
      by false true s rest h = cc
      by false false s rest h = ap (λ (ys : List Y). f e ∷ ys) (rest h)

  -- where only one key passes, the entry without it is what is left of all
  pub removed-filter : (es : List (K × X)) → lookup t (remove_entry t es) ≡ None → map f (remove_entry t es) ≡ filter (λ y. not (p y)) (map f es)
  removed-filter [] h = refl
  removed-filter (e ∷ es) h = by (t e.0) refl (p (f e)) (same e) (removed-filter es) h
    where
      by : (b : Bool) → t e.0 ≡ b → (c : Bool) → c ≡ t e.0
          → (lookup t (remove_entry t es) ≡ None → map f (remove_entry t es) ≡ filter (λ y. not (p y)) (map f es))
          → lookup t (cond b es (e ∷ remove_entry t es)) ≡ None
          → map f (cond b es (e ∷ remove_entry t es)) ≡ cond (not c) (f e ∷ filter (λ y. not (p y)) (map f es)) (filter (λ y. not (p y)) (map f es))
      by true told true s rest h = kept-all es h
      by true told false s rest h = cc
      by false told true s rest h = cc
      by false told false s rest h = ap (λ (ys : List Y). f e ∷ ys) (rest (sym (ap (λ (b : Bool). cond b (Some e.1) (lookup t (remove_entry t es))) told) ∙ h))
