-- The cells of a plan are placed one after another.
use Rattle.wi_engine.proofs.Words.{◌≡◌, ℕ, ◌+◌, ◌<◌, ◌≤◌, List, [], ◌∷◌, ◌++◌, map, take, get_or, length, slice_get, Some, ap, sym, ◌∙◌, subst, append_assoc, map-append, take_all, Sheet}
use Rattle.wi_engine.specs.declared.placing.Numbering.{Numbering}
use Rattle.wi_engine.specs.declared.placing.PlacedCell.{PlacedCell}
use Rattle.wi_engine.specs.declared.placing.PlacedPlan.{PlacedPlan}
use Rattle.wi_engine.specs.declared.plan.Planned.{Planned}
use Rattle.wi_engine.specs.Inner.Placing.{AreNumbered, ArePlacedFor, IsNumberedMore, IsPlacedFormula, IsPlacedPlan, cells_placed}
use Rattle.wi_engine.proofs.placing.Numbered.{each_more, taken_more}

-- each of these cells is placed, over the inputs and the cells before it
abbrev pub AreAllPlaced : Sheet → List ℕ → List PlacedCell → Type 0
AreAllPlaced s inputs cs = (i : ℕ) (c : PlacedCell) → slice_get cs i ≡ Some c → ArePlacedFor s (inputs ++ cells_placed (take i cs)) c.planned c

-- the first i cells of a plan are placed, and have places behind the inputs
pub record ArePlacedTo (s : Sheet) (inputs : List ℕ) (ps : List Planned) (i : ℕ) (cs : List PlacedCell) (places : Numbering) : Type 0 where
  pub same : map (λ c. c.planned) cs ≡ take i ps
  pub numbered : AreNumbered (inputs ++ cells_placed cs) places
  pub placed : AreAllPlaced s inputs cs

-- and one more
pub one_more_cell : (s : Sheet) (inputs : List ℕ) (ps : List Planned) (i : ℕ) (q : Planned) (cs new : List PlacedCell) (c : PlacedCell) (old more : Numbering) → i < length ps → q ≡ get_or ps i q → new ≡ cs ++ c ∷ [] →
    ((before : List ℕ) → AreNumbered before old → ArePlacedFor s before q c) → IsNumberedMore old more q.at → ArePlacedTo s inputs ps i cs old → ArePlacedTo s inputs ps (i + 1) new more
one_more_cell s inputs ps i q cs new c old more l is made one up h =
    let here = one (inputs ++ cells_placed cs) h.numbered in
    let planned : c.planned ≡ q = here.planned in
    let placed : AreAllPlaced s inputs (cs ++ c ∷ []) = each_more (λ (front : List PlacedCell) (x : PlacedCell). ArePlacedFor s (inputs ++ cells_placed front) x.planned x) cs c h.placed
    (subst (λ (x : Planned). ArePlacedFor s (inputs ++ cells_placed cs) x c) (sym planned) here) in
    let cells : cells_placed new ≡ cells_placed cs ++ q.at ∷ [] =
    ap cells_placed made
    ∙ map-append (λ (x : PlacedCell). x.planned.at) cs (c ∷ [])
    ∙ ap (λ (x : Planned). cells_placed cs ++ x.at ∷ []) planned in
    record {
      same = ap (map (λ (x : PlacedCell). x.planned)) made ∙ map-append (λ (x : PlacedCell). x.planned) cs (c ∷ []) ∙ ap (λ (xs : List Planned). xs ++ c.planned ∷ []) h.same ∙ ap (λ (x : Planned). take i ps ++ x ∷ []) planned ∙ sym (taken_more ps i q l is);
      numbered = subst (λ (xs : List ℕ). AreNumbered xs more) (append_assoc inputs (cells_placed cs) (q.at ∷ []) ∙ ap (λ (xs : List ℕ). inputs ++ xs) (sym cells)) (up (inputs ++ cells_placed cs) h.numbered);
      placed = subst (AreAllPlaced s inputs) (sym made) placed;
    }

-- all of them, and the root
pub all_placed_plan : (s : Sheet) (inputs : List ℕ) (root : ℕ) (ps : List Planned) (i : ℕ) (p : PlacedPlan) (places : Numbering) → length ps ≤ i → ArePlacedTo s inputs ps i p.cells.items places →
    ((before : List ℕ) → AreNumbered before places → IsPlacedFormula s before root p.root) → IsPlacedPlan s inputs root ps p
all_placed_plan s inputs root ps i p places l h formula = record {
  same = h.same ∙ take_all i ps l;
  cells = h.placed;
  formula = formula (inputs ++ cells_placed p.cells.items) h.numbered;
}
