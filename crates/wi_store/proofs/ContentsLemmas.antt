-- The contents of rooms one after another, and of a rectangle's.
use Rattle.wi_store.proofs.Words.{◌≡◌, ℕ, Bool, true, false, ◌&&◌, cond, List, [], ◌∷◌, filter, Option, Some, None, refl, sym, ap, ◌∙◌, subst, nat_le, keys_of, and-false, le-leb, filter_agree, Area, is_within, within_between, Sheet, cells_with_formula, has_formula, Content, is_ahead, Rooms, sheet_in, formula_cells, RoomsAreInOrder, AreBetweenEdits, HaveContents}
use Rattle.wi_store.proofs.RoomLemmas.{Ascends, Ascends-from_order, Ascends-sheet_in, all_occupied, formula_cells-all}

-- ---- some of the rooms

pub sheet_in-filter : (t : ℕ → Bool) (rooms : Rooms) → sheet_in (filter (λ e. t e.0) rooms) ≡ filter (λ e. t e.0) (sheet_in rooms)
sheet_in-filter t [] = refl
sheet_in-filter t (e ∷ es) = by e.1 (sheet_in-filter t es)
  where
    vacant : (b : Bool) → sheet_in (filter (λ e. t e.0) es) ≡ filter (λ e. t e.0) (sheet_in es)
        → sheet_in (cond b ((e.0, None) ∷ filter (λ e. t e.0) es) (filter (λ e. t e.0) es)) ≡ filter (λ e. t e.0) (sheet_in es)
    vacant true ih = ih
    vacant false ih = ih

    boxed : (b : Bool) (x : Content) → sheet_in (filter (λ e. t e.0) es) ≡ filter (λ e. t e.0) (sheet_in es)
        → sheet_in (cond b ((e.0, Some x) ∷ filter (λ e. t e.0) es) (filter (λ e. t e.0) es)) ≡ cond b ((e.0, x) ∷ filter (λ e. t e.0) (sheet_in es)) (filter (λ e. t e.0) (sheet_in es))
    boxed true x ih = ap (λ (s : Sheet). (e.0, x) ∷ s) ih
    boxed false x ih = ih

    by : (o : Option Content) → sheet_in (filter (λ e. t e.0) es) ≡ filter (λ e. t e.0) (sheet_in es)
        → sheet_in (filter (λ e. t e.0) ((e.0, o) ∷ es)) ≡ filter (λ e. t e.0) (sheet_in ((e.0, o) ∷ es))
    by None ih = vacant (t e.0) ih
    by (Some x) ih = boxed (t e.0) x ih

have_filter : (t : ℕ → Bool) (rooms : Rooms) → HaveContents rooms → HaveContents (filter (λ e. t e.0) rooms)
have_filter t [] h = tt
have_filter t (e ∷ es) h = at (t e.0) (have_filter t es h.1)
  where
    at : (b : Bool) → HaveContents (filter (λ e. t e.0) es) → HaveContents (cond b (e ∷ filter (λ e. t e.0) es) (filter (λ e. t e.0) es))
    at true ih = (h.0, ih)
    at false ih = ih

pub all_have : (rooms es : Rooms) → AreBetweenEdits None rooms → es ≡ rooms → HaveContents es
all_have rooms es b e = subst HaveContents (sym e) (all_occupied rooms (Ascends-from_order rooms b.order) b.full)

pub those_have : (t : ℕ → Bool) (rooms es : Rooms) → AreBetweenEdits None rooms → es ≡ filter (λ e. t e.0) rooms → HaveContents es
those_have t rooms es b e = subst HaveContents (sym e) (have_filter t rooms (all_occupied rooms (Ascends-from_order rooms b.order) b.full))

-- ---- those that are formulas

pub formula_cells-filter : (t : ℕ → Bool) (s : Sheet) → formula_cells (filter (λ e. t e.0) s) ≡ filter t (formula_cells s)
formula_cells-filter t [] = refl
formula_cells-filter t (e ∷ es) = at (t e.0) (has_formula (Some e.1)) refl refl (formula_cells-filter t es)
  where
    at : (b f : Bool) → t e.0 ≡ b → has_formula (Some e.1) ≡ f → formula_cells (filter (λ e. t e.0) es) ≡ filter t (formula_cells es)
        → formula_cells (cond b (e ∷ filter (λ e. t e.0) es) (filter (λ e. t e.0) es)) ≡ filter t (keys_of (cond f (e ∷ filter (λ e. has_formula (Some e.1)) es) (filter (λ e. has_formula (Some e.1)) es)))
    at true true h k ih = rw (h, k) (ap (λ (cs : List ℕ). e.0 ∷ cs) ih)
    at true false h k ih = rw k ih
    at false true h k ih = rw h ih
    at false false h k ih = ih

-- from its first cell on all of a rectangle is ahead
all_ahead : (r : Area) (cs : List ℕ) → filter (is_ahead r (Some r.first)) cs ≡ filter (is_within r) cs
all_ahead r cs = filter_agree _ _ (λ c. at c (is_within r c) refl) cs
  where
    at : (c : ℕ) (b : Bool) → is_within r c ≡ b → (nat_le r.first c && is_within r c) ≡ is_within r c
    at c true h = ap (λ (x : Bool). x && is_within r c) (le-leb r.first c (within_between r c h).0)
    at c false h = ap (λ (x : Bool). nat_le r.first c && x) h ∙ and-false (nat_le r.first c) ∙ sym h

pub formulas_of : (rooms : Rooms) (s : Sheet) → RoomsAreInOrder rooms → sheet_in rooms ≡ s → formula_cells s ≡ cells_with_formula s
formulas_of rooms s order e = sym (formula_cells-all s (subst Ascends e (Ascends-sheet_in rooms (Ascends-from_order rooms order))))

pub formulas_within : (r : Area) (first : ℕ) (rooms : Rooms) (s : Sheet) → RoomsAreInOrder rooms → sheet_in rooms ≡ s → first ≡ r.first
    → formula_cells (filter (λ e. is_ahead r (Some first) e.0) s) ≡ filter (is_within r) (cells_with_formula s)
formulas_within r first rooms s order e f =
    ap (λ (a : ℕ). formula_cells (filter (λ e. is_ahead r (Some a) e.0) s)) f
    ∙ formula_cells-filter (is_ahead r (Some r.first)) s ∙ all_ahead r (formula_cells s) ∙ ap (filter (is_within r)) (formulas_of rooms s order e)
