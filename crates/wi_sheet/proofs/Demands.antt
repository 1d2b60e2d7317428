-- What a value demands, with no bound in sight.
use Rattle.wi_sheet.proofs.Words.{◌≡◌, ◌==◌, ◌≤◌, ◌<◌, ◌⊎◌, inl, inr, ℕ, zero, suc, Bool, true, false, cond, List, [], ◌∷◌, map, length, Option, Some, None, Contains, refl, ap, sym, ◌∙◌, subst, arith, eq-eqb, or_left, or_right, cases_Bool, false_from_ne_true, flat_map, Replacement, Tree, Leaf, what_if_leaf, leaves, Content, Constant, Formula, Sheet, content_of, put_all, has_formula, cells_with_formula, leaf_reads, reads, content_reads, circular, has_walk, ends_open, Case, case_of, with_what_if, leaf_what_ifs, what_ifs_of, leaf_reads_here, reads_here, formulas_read_here, precedent_cases, of_formula, demand_within, demand, RestsOn, IsClosed}
use Rattle.wi_sheet.proofs.Bounds.{read_walk, tree_reads, put_formula, put_reads}
use Rattle.wi_sheet.proofs.Steps.{some_formula, no_walk}
use Rattle.wi_sheet.proofs.Members.{IsIn, in_contained, contains_in, in_either, of_map, in_flat, of_flat, of_filter, flat_same, found_in, more_pass}

-- what a leaf reads as the sheet stands, it reads
leaf_here_reads : (a : ℕ) (l : Leaf) → leaf_reads_here l a ≡ true → leaf_reads l a ≡ true
leaf_here_reads a (what_if_leaf f ps) h = or_right (f.at == a) _ h
leaf_here_reads a l h = h

pub here_reads : (t : Tree) (a : ℕ) → reads_here t a ≡ true → reads t a ≡ true
here_reads t a h = more_pass (λ l. leaf_reads_here l a) (λ l. leaf_reads l a) (leaf_here_reads a) (leaves t) h

leaf_formula_cell : (l : Leaf) (x : ℕ × List (ℕ × ℕ)) → IsIn (leaf_what_ifs l) x → leaf_reads l x.0 ≡ true
leaf_formula_cell (what_if_leaf f ps) x (inl e) = or_left (f.at == x.0) _ (eq-eqb f.at x.0 (ap (λ (y : ℕ × List (ℕ × ℕ)). y.0) e))
leaf_formula_cell (what_if_leaf f ps) x (inr h) = absurd h
leaf_formula_cell l x h = absurd h

formula_cell_in : (t : Tree) (x : ℕ × List (ℕ × ℕ)) → IsIn (what_ifs_of t) x → reads t x.0 ≡ true
formula_cell_in t x h =
    let l = of_flat leaf_what_ifs (leaves t) x h in
    found_in (λ k. leaf_reads k x.0) (leaves t) l.0 l.1 (leaf_formula_cell l.0 x l.2)

-- the formula cell of each what-if is read
pub what_if_reads : (t : Tree) (x : ℕ × List (ℕ × ℕ)) → Contains (what_ifs_of t) x → reads t x.0 ≡ true
what_if_reads t x h = formula_cell_in t x (in_contained (what_ifs_of t) x h)

-- the cell of each case on which a tree's value rests is read
below_reads : (s : Sheet) (w : List Replacement) (t : Tree) (j : Case) → IsIn (precedent_cases s w t) j → reads t j.0 ≡ true
below_reads s w t j h = elim (in_either (map (case_of s w) (formulas_read_here s t)) _ j h) [
  | inl i ↦
      (let x = of_map (case_of s w) (formulas_read_here s t) j i in
      ap (reads t) (sym (ap (λ (k : Case). k.0) x.2)) ∙ here_reads t x.0 (of_filter (reads_here t) (cells_with_formula s) x.0 x.1).1)
  | inr i ↦
      (let x = of_map (λ (y : ℕ × List (ℕ × ℕ)). case_of s (with_what_if s w y.1) y.0) (what_ifs_of t) j i in
      ap (reads t) (sym (ap (λ (k : Case). k.0) x.2)) ∙ formula_cell_in t x.0 x.1)
]

-- and it is read in the sheet by the case's cell
pub rests_reads : (s : Sheet) (k j : Case) (t : Tree) → content_of (put_all s k.1) k.0 ≡ Some (Formula t) → IsIn (precedent_cases s k.1 t) j → content_reads (content_of s k.0) j.0 ≡ true
rests_reads s k j t e h = put_reads s k.1 k.0 j.0 (tree_reads (put_all s k.1) k.0 t j.0 e (below_reads s k.1 t j h))

-- ---- the bound is not felt

same_of_formula : {A : Type 0} (o : Option Content) (x : A) (f g : Tree → A) → ((t : Tree) → o ≡ Some (Formula t) → f t ≡ g t) → of_formula o x f ≡ of_formula o x g
same_of_formula None x f g h = refl
same_of_formula (Some (Constant v)) x f g h = refl
same_of_formula (Some (Formula t)) x f g h = h t refl

no_formula : {A : Type 0} (o : Option Content) (x : A) (f : Tree → A) → has_formula o ≡ false → of_formula o x f ≡ x
no_formula None x f h = refl
no_formula (Some (Constant v)) x f h = refl
no_formula (Some (Formula t)) x f h = cc

nothing_both : (b : Bool) (ks : List Case) → ks ≡ [] → cond b [] ks ≡ []
nothing_both true ks h = refl
nothing_both false ks h = h

plain_within : (n : ℕ) (s : Sheet) (k : Case) → has_formula (content_of (put_all s k.1) k.0) ≡ false → demand_within n s k ≡ []
unfolding demand_within
plain_within zero s k h = refl
plain_within (suc n) s k h = nothing_both (circular s k.0) _ (no_formula (content_of (put_all s k.1) k.0) [] _ h)

circular_within : (n : ℕ) (s : Sheet) (k : Case) → circular s k.0 ≡ true → demand_within n s k ≡ []
unfolding demand_within
circular_within zero s k h = refl
circular_within (suc n) s k h = rw h refl

-- from the cell of each case below leads one step less
below_walk : (n : ℕ) (s : Sheet) (k j : Case) (t : Tree) → has_walk (suc n) s k.0 ≡ false → content_of (put_all s k.1) k.0 ≡ Some (Formula t) → IsIn (precedent_cases s k.1 t) j → has_walk n s j.0 ≡ false
below_walk n s k j t w e i = read_walk n s k.0 j.0 w (rests_reads s k j t e i)

demand_same : (n i j : ℕ) (s : Sheet) (k : Case) → has_walk n s k.0 ≡ false → n ≤ i → n ≤ j → demand_within i s k ≡ demand_within j s k
unfolding demand_within
demand_same zero i j s k w a b =
    let p = false_from_ne_true (has_formula (content_of (put_all s k.1) k.0)) (λ f. let z = put_formula s k.1 k.0 f in cc) in
    plain_within i s k p ∙ sym (plain_within j s k p)
demand_same (suc n) zero j s k w a b = absurd (omega arith)
demand_same (suc n) (suc i) zero s k w a b = absurd (omega arith)
demand_same (suc n) (suc i) (suc j) s k w a b =
    ap (λ (ks : List Case). cond (circular s k.0) [] ks) (same_of_formula (content_of (put_all s k.1) k.0) [] _ _ (λ t e.
    ap (λ (ks : List Case). k ∷ ks) (flat_same (demand_within i s) (demand_within j s) (precedent_cases s k.1 t) (λ x m.
    demand_same n i j s x (below_walk n s k x t w e m) (omega arith) (omega arith)))))

-- every bound from the number of formulas on gives what a case demands
demand_not_felt : (n : ℕ) (s : Sheet) (k : Case) → length (cells_with_formula s) ≤ n → demand_within n s k ≡ demand s k
unfolding demand
demand_not_felt n s k l = at (cases_Bool (circular s k.0))
  where
    at : (circular s k.0 ≡ true) ⊎ (circular s k.0 ≡ false) → demand_within n s k ≡ demand_within (length (cells_with_formula s)) s k
    at (inl h) = circular_within n s k h ∙ sym (circular_within (length (cells_with_formula s)) s k h)
    at (inr h) = demand_same (length (cells_with_formula s)) n (length (cells_with_formula s)) s k (no_walk (length (cells_with_formula s)) s k.0 refl h) l (omega arith)

by_formula : (n : ℕ) (s : Sheet) (k : Case) (t : Tree) → circular s k.0 ≡ false → content_of (put_all s k.1) k.0 ≡ Some (Formula t) → demand_within (suc n) s k ≡ k ∷ flat_map (demand_within n s) (precedent_cases s k.1 t)
unfolding demand_within
by_formula n s k t h e = rw h (rw e refl)

near_demand : (n : ℕ) (s : Sheet) (j : Case) → length (cells_with_formula s) ≡ suc n → has_walk n s j.0 ≡ false → demand_within n s j ≡ demand s j
near_demand n s j l w =
    demand_same n n (length (cells_with_formula s)) s j w (omega arith) (omega arith) ∙ demand_not_felt (length (cells_with_formula s)) s j (omega arith)

-- a case demands itself, and what those demand on which its formula's value rests
pub demand_by_step : (s : Sheet) (k : Case) (t : Tree) → circular s k.0 ≡ false → content_of (put_all s k.1) k.0 ≡ Some (Formula t) → demand s k ≡ k ∷ flat_map (demand s) (precedent_cases s k.1 t)
demand_by_step s k t h e = at (length (cells_with_formula s)) refl (some_formula s k.0 (length (cells_with_formula s)) refl (put_formula s k.1 k.0 (ap has_formula e)))
  where
    at : (n : ℕ) → length (cells_with_formula s) ≡ n → 0 < n → demand s k ≡ k ∷ flat_map (demand s) (precedent_cases s k.1 t)
    at zero l z = absurd (omega arith)
    at (suc n) l z =
        sym (demand_not_felt (suc n) s k (omega arith)) ∙ by_formula n s k t h e
        ∙ ap (λ (ks : List Case). k ∷ ks) (flat_same (demand_within n s) (demand s) (precedent_cases s k.1 t) (λ x m.
        near_demand n s x l (below_walk n s k x t (no_walk (suc n) s k.0 l h) e m)))

-- a circular cell demands nothing
pub demand_circular : (s : Sheet) (k : Case) → circular s k.0 ≡ true → demand s k ≡ []
unfolding demand
demand_circular s k h = circular_within (length (cells_with_formula s)) s k h

-- nor does one with no formula under its replacements
pub demand_plain : (s : Sheet) (k : Case) → has_formula (content_of (put_all s k.1) k.0) ≡ false → demand s k ≡ []
unfolding demand
demand_plain s k h = plain_within (length (cells_with_formula s)) s k h

-- ---- the demand is closed

-- a list, told by recursion, that has all on which its cases rest
abbrev IsClosedIn : Sheet → List Case → Type 0
IsClosedIn s ks = (x j : Case) → IsIn ks x → RestsOn s x j → IsIn ks j

nothing_closed : (s : Sheet) (ks : List Case) → ks ≡ [] → IsClosedIn s ks
nothing_closed s ks e = λ x j i r. absurd (subst (λ (ys : List Case). IsIn ys x) e i)

itself_within : (n : ℕ) (s : Sheet) (k : Case) → has_walk n s k.0 ≡ false → has_formula (content_of (put_all s k.1) k.0) ≡ true → IsIn (demand_within n s k) k
unfolding demand_within
itself_within zero s k w f = let z = put_formula s k.1 k.0 f in cc
itself_within (suc n) s k w f = rw (ends_open (suc n) s k.0 w) (at (content_of (put_all s k.1) k.0) f)
  where
    at : (o : Option Content) → has_formula o ≡ true → IsIn (of_formula o [] (λ t. k ∷ flat_map (demand_within n s) (precedent_cases s k.1 t))) k
    at None e = cc
    at (Some (Constant v)) e = cc
    at (Some (Formula t)) e = inl refl

pub same_tree : (a b : Tree) (o : Option Content) → o ≡ Some (Formula a) → o ≡ Some (Formula b) → a ≡ b
same_tree a b o e f = cc

-- what a formula's value rests on is in the list of it
below_has : (s : Sheet) (k j : Case) (t : Tree) → content_of (put_all s k.1) k.0 ≡ Some (Formula t) → RestsOn s k j → IsIn (precedent_cases s k.1 t) j
below_has s k j t e r =
    let same = same_tree r.tree t (content_of (put_all s k.1) k.0) r.is e in
    subst (λ (u : Tree). IsIn (precedent_cases s k.1 u) j) same (in_contained (precedent_cases s k.1 r.tree) j r.asks)

closed_at : (n : ℕ) (s : Sheet) (k : Case) (t : Tree) → content_of (put_all s k.1) k.0 ≡ Some (Formula t) → has_walk (suc n) s k.0 ≡ false →
    ((j : Case) → has_walk n s j.0 ≡ false → IsClosedIn s (demand_within n s j)) → IsClosedIn s (k ∷ flat_map (demand_within n s) (precedent_cases s k.1 t))
closed_at n s k t e w ih = λ x j i r. at x j r i
  where
    at : (x j : Case) → RestsOn s x j → IsIn (k ∷ flat_map (demand_within n s) (precedent_cases s k.1 t)) x → IsIn (k ∷ flat_map (demand_within n s) (precedent_cases s k.1 t)) j
    at x j r (inl same) =
        let m = below_has s k j t e (subst (λ (y : Case). RestsOn s y j) (sym same) r) in
        inr (in_flat (demand_within n s) (precedent_cases s k.1 t) j j m (itself_within n s j (below_walk n s k j t w e m) r.formula))
    at x j r (inr i) =
        let y = of_flat (demand_within n s) (precedent_cases s k.1 t) x i in
        inr (in_flat (demand_within n s) (precedent_cases s k.1 t) y.0 j y.1 (ih y.0 (below_walk n s k y.0 t w e y.1) x j y.2 r))

closed_within : (n : ℕ) (s : Sheet) (k : Case) → has_walk n s k.0 ≡ false → IsClosedIn s (demand_within n s k)
unfolding demand_within
closed_within zero s k w = nothing_closed s [] refl
closed_within (suc n) s k w = rw (ends_open (suc n) s k.0 w) (at (content_of (put_all s k.1) k.0) refl (closed_within n s))
  where
    at : (o : Option Content) → content_of (put_all s k.1) k.0 ≡ o → ((j : Case) → has_walk n s j.0 ≡ false → IsClosedIn s (demand_within n s j)) →
        IsClosedIn s (of_formula o [] (λ t. k ∷ flat_map (demand_within n s) (precedent_cases s k.1 t)))
    at None e ih = nothing_closed s [] refl
    at (Some (Constant v)) e ih = nothing_closed s [] refl
    at (Some (Formula t)) e ih = closed_at n s k t e w ih

closed : (s : Sheet) (k : Case) → IsClosedIn s (demand s k)
unfolding demand
closed s k = at (cases_Bool (circular s k.0))
  where
    at : (circular s k.0 ≡ true) ⊎ (circular s k.0 ≡ false) → IsClosedIn s (demand_within (length (cells_with_formula s)) s k)
    at (inl h) = nothing_closed s _ (circular_within (length (cells_with_formula s)) s k h)
    at (inr h) = closed_within (length (cells_with_formula s)) s k (no_walk (length (cells_with_formula s)) s k.0 refl h)

-- what a case demands has all on which its cases rest
pub demand_closed : (s : Sheet) (k : Case) → IsClosed s (demand s k)
demand_closed s k = λ x j h r. contains_in (demand s k) j (closed s k x j (in_contained (demand s k) x h) r)

-- a case that is not circular and has a formula demands itself
pub demand_has_itself : (s : Sheet) (k : Case) → circular s k.0 ≡ false → has_formula (content_of (put_all s k.1) k.0) ≡ true → Contains (demand s k) k
unfolding demand
demand_has_itself s k h f =
    contains_in _ k (itself_within (length (cells_with_formula s)) s k (no_walk (length (cells_with_formula s)) s k.0 refl h) f)
