-- What a graph says of each sheet that has its edges.
use Rattle.wi_graph.proofs.Words.{◌≡◌, ◌+◌, ◌<◌, ◌↔◌, ℕ, zero, suc, ◌⊎◌, inl, inr, Bool, true, false, ◌||◌, cond, List, [], ◌∷◌, Option, Some, None, refl, ap, sym, ◌∙◌, subst, arith, or_cases, or_left, or_right, nat_cmp, BTreeSet, contains, one_truth, Area, is_within, is_within_one, IsOrdered, Content, Constant, Formula, Sheet, content_of, has_formula, content_reads, reads_within, RangePair, Bag, IsReader, pair_for, pair_area, is_same, same_is, same_self, circular, has_walk, Walks, reaches, areas_in, AreEdgesOf, Rooms, room_at, edges_in, areas_of, times, HasPairs, IsGraph, Ascends-from_order}
use Rattle.wi_graph.proofs.ReachTest.{reaches_true, true_reaches}
use Rattle.wi_graph.proofs.Walks.{step, first_step, circular_walks, walks_circular}
use Rattle.wi_graph.proofs.EdgeLemmas.{areas_rooms}

-- ---- sheets that have the same edges

pub reads_areas : (o : Option Content) (d : ℕ) → content_reads o d ≡ is_within_one (areas_of (areas_in o)) d
reads_areas None d = refl
reads_areas (Some (Constant v)) d = refl
reads_areas (Some (Formula t)) d = reads_within t d

formula_areas : (o p : Option Content) → areas_in o ≡ areas_in p → has_formula o ≡ true → has_formula p ≡ true
formula_areas None p e h = cc
formula_areas (Some (Constant v)) p e h = cc
formula_areas (Some (Formula t)) None e h = cc
formula_areas (Some (Formula t)) (Some (Constant v)) e h = cc
formula_areas (Some (Formula t)) (Some (Formula u)) e h = refl

abbrev pub HaveSameEdges : Sheet → Sheet → Type 0
HaveSameEdges s t = (c : ℕ) → areas_in (content_of s c) ≡ areas_in (content_of t c)

pub same_reads : (s t : Sheet) → HaveSameEdges s t → (c d : ℕ) → content_reads (content_of s c) d ≡ content_reads (content_of t c) d
same_reads s t e c d = reads_areas (content_of s c) d ∙ ap (λ (o : Option (List Area)). is_within_one (areas_of o) d) (e c) ∙ sym (reads_areas (content_of t c) d)

walks_there : (n : ℕ) (s t : Sheet) → HaveSameEdges s t → (c : ℕ) → has_walk n s c ≡ true → has_walk n t c ≡ true
walks_there zero s t e c h = formula_areas (content_of s c) (content_of t c) (e c) h
walks_there (suc n) s t e c h =
    let f = first_step n s c h in
    step n t c f.0 (sym (same_reads s t e c f.0) ∙ f.1) (walks_there n s t e f.0 f.2)

pub same_circular : (s t : Sheet) → HaveSameEdges s t → (c : ℕ) → circular s c ≡ circular t c
same_circular s t e c = one_truth (circular s c) (circular t c) (λ h. walks_circular t c (λ n. walks_there n s t e c (circular_walks s c h n))) (λ h. walks_circular s c (λ n. walks_there n t s (λ d. sym (e d)) c (circular_walks t c h n)))

walks_same : (n : ℕ) (s t : Sheet) → HaveSameEdges s t → (c a : ℕ) → Walks n s c a → Walks n t c a
walks_same zero s t e c a w = w
walks_same (suc n) s t e c a w = (w.0, sym (same_reads s t e c w.0) ∙ w.1, walks_same n s t e w.0 a w.2)

pub same_reaches : (s t : Sheet) → HaveSameEdges s t → (c a : ℕ) → reaches s c a ≡ reaches t c a
same_reaches s t e c a = one_truth (reaches s c a) (reaches t c a)
    (λ h. let w = reaches_true s c a h in true_reaches t c a (w.0, walks_same w.0 s t e c a w.1))
    (λ h. let w = reaches_true t c a h in true_reaches s c a (w.0, walks_same w.0 t s (λ d. sym (e d)) c a w.1))

-- ---- what the rooms say of a sheet

pub rooms_areas : (rooms : Rooms) (s : Sheet) → IsOrdered nat_cmp rooms → AreEdgesOf (edges_in rooms.entries) s → (c : ℕ) → room_at rooms c ≡ areas_in (content_of s c)
rooms_areas rooms s o e c = sym (areas_rooms rooms.entries (Ascends-from_order rooms.entries o) c) ∙ e c

pub graph_circular : (rooms : Rooms) (readers : Bag) (cyclic : BTreeSet ℕ) → IsGraph rooms readers cyclic → (s : Sheet) → AreEdgesOf (edges_in rooms.entries) s → (c : ℕ) → contains nat_cmp cyclic c ≡ circular s c
graph_circular rooms readers cyclic g s e c =
    g.circular.cyclic c ∙ same_circular g.circular.sheet s (λ d. sym (g.circular.are d) ∙ rooms_areas rooms s g.ordered e d) c

-- ---- who reads a cell

times_reads : (k : ℕ) (rs : List Area) (p : RangePair) (d : ℕ) → 0 < times k rs p → is_within (pair_area p) d ≡ true → is_within_one rs d ≡ true
times_reads k [] p d h w = absurd (omega arith)
times_reads k (r ∷ rs) p d h w = at (is_same (pair_for r k) p) refl h (times_reads k rs p d)
  where
    at : (b : Bool) → is_same (pair_for r k) p ≡ b → 0 < cond b 1 0 + times k rs p → (0 < times k rs p → is_within (pair_area p) d ≡ true → is_within_one rs d ≡ true) → (is_within r d || is_within_one rs d) ≡ true
    at true e l ih = or_left (is_within r d) _ (ap (λ (q : RangePair). is_within (pair_area q) d) (same_is (pair_for r k) p e) ∙ w)
    at false e l ih = or_right (is_within r d) _ (ih (omega (arith, l)) w)

-- a rectangle of the list that has the cell
reads_times : (k : ℕ) (rs : List Area) (d : ℕ) → is_within_one rs d ≡ true → (r : Area) × (0 < times k rs (pair_for r k)) × (is_within r d ≡ true)
reads_times k [] d h = cc
reads_times k (r ∷ rs) d h = at (or_cases (is_within r d) _ h) (reads_times k rs d)
  where
    here : 0 < cond (is_same (pair_for r k) (pair_for r k)) 1 0 + times k rs (pair_for r k)
    here = let e : cond {A = ℕ} (is_same (pair_for r k) (pair_for r k)) 1 0 ≡ 1 = ap {B = ℕ} (λ (b : Bool). cond b 1 0) (same_self (pair_for r k)) in omega (arith, e)

    at : (is_within r d ≡ true) ⊎ (is_within_one rs d ≡ true) → (is_within_one rs d ≡ true → (q : Area) × (0 < times k rs (pair_for q k)) × (is_within q d ≡ true)) → (q : Area) × (0 < times k (r ∷ rs) (pair_for q k)) × (is_within q d ≡ true)
    at (inl w) ih = (r, here, w)
    at (inr w) ih = let i = ih w in (i.0, omega (arith, i.1), i.2)

pub graph_readers : (rooms : Rooms) (readers : Bag) → IsOrdered nat_cmp rooms → HasPairs readers rooms → (s : Sheet) → AreEdgesOf (edges_in rooms.entries) s → (a r : ℕ) → (content_reads (content_of s r) a ≡ true) ↔ IsReader readers a r
graph_readers rooms readers o h s e a r = (there, back)
  where
    here : content_reads (content_of s r) a ≡ is_within_one (areas_of (room_at rooms r)) a
    here = reads_areas (content_of s r) a ∙ ap (λ (x : Option (List Area)). is_within_one (areas_of x) a) (sym (rooms_areas rooms s o e r))

    there : content_reads (content_of s r) a ≡ true → IsReader readers a r
    there k =
        let f = reads_times r (areas_of (room_at rooms r)) a (sym here ∙ k) in
        (pair_for f.0 r, refl, subst (λ (n : ℕ). 0 < n) (sym (h (pair_for f.0 r))) f.1, f.2)

    back : IsReader readers a r → content_reads (content_of s r) a ≡ true
    back i =
        let l : 0 < times r (areas_of (room_at rooms r)) i.0 = subst (λ (x : ℕ). 0 < times x (areas_of (room_at rooms x)) i.0) i.1 (subst (λ (n : ℕ). 0 < n) (h i.0) i.2) in
        here ∙ times_reads r (areas_of (room_at rooms r)) i.0 a l i.3
