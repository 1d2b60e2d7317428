-- The values of a plan's placed formulas are those of its cells.
use Rattle.wi_engine.proofs.Words.{◌≡◌, ◌==◌, ℕ, zero, suc, ◌+◌, ◌<◌, true, false, true≢false, List, [], ◌∷◌, ◌++◌, map, take, get_or, length, slice_get, Option, Some, None, IfSome, is_none, refl, ap, sym, ◌∙◌, subst, append_assoc, or_parts, length-map, get_or-map, map-append, list_any-append, Value, Empty, Replacement, Content, Constant, Formula, Sheet, constant, content_of, put_all, has_formula, is_one_of, circular, put_not_circular, value_step, value_of, cell_value, what_if_value, known_in, plain_cell, MemoState, NeedsNoEvaluation}
use Rattle.std.proofs.lemmas.Option.{slice_get_read}
use Rattle.wi_functions.specs.Meaning.{zero_for_empty}
use Rattle.wi_functions.specs.Placed.{placed_value, value_at_place}
use Rattle.wi_functions.specs.declared.placed.Placed.{Placed}
use Rattle.wi_sheet.proofs.PlainCells.{put_cell}
use Rattle.wi_engine.specs.declared.placing.PlacedCell.{PlacedCell}
use Rattle.wi_engine.specs.declared.plan.Planned.{Planned}
use Rattle.wi_engine.specs.Inner.Placing.{ArePlacedFor, Fits, IsPlacedFormula, cells_placed}
use Rattle.wi_engine.proofs.placing.Numbered.{same_some, taken_more}
use Rattle.wi_engine.proofs.plan.Orders.{stays_there}

-- ---- values that fit

value_found : (value : ℕ → Value) (cells : List ℕ) (c i : ℕ) → slice_get cells i ≡ Some c → value_at_place (map value cells) i ≡ value c
value_found value [] c i h = cc
value_found value (x ∷ xs) c zero h = ap value (same_some x c h)
value_found value (x ∷ xs) c (suc i) h = value_found value xs c i h

shows_plain : (o : Option Content) → has_formula o ≡ false → known_in o None ≡ Some (value_of o (λ t. Empty))
shows_plain None h = refl
shows_plain (Some (Constant v)) h = refl
shows_plain (Some (Formula t)) h = absurd (true≢false h)

-- those of the inputs and of any cells behind them
pub all_fit : (s : Sheet) (w : List Replacement) (inputs front : List ℕ) (vs : List Value) → map (λ r. r.at) w ≡ inputs → map (cell_value (put_all s w)) (inputs ++ front) ≡ vs → Fits s (inputs ++ front) vs (cell_value (put_all s w))
all_fit s w inputs front vs put are = record {
  there = λ c i h. ap (λ (xs : List Value). value_at_place xs i) (sym are) ∙ value_found (cell_value (put_all s w)) (inputs ++ front) c i h;
  others = λ c apart plain.
      let none = or_parts (is_one_of inputs c) (is_one_of front c) (sym (list_any-append (λ x. x == c) inputs front) ∙ apart) in
      let stays : content_of (put_all s w) c ≡ content_of s c = stays_there s w c (ap (λ (xs : List ℕ). is_one_of xs c) put ∙ none.0) in
      shows_plain (content_of s c) plain ∙ ap (λ (v : Value). Some v) (sym (plain_cell (put_all s w) c (content_of s c) stays plain));
}

-- a placed formula's value is its cell's
pub formula_gives : (s : Sheet) (w : List Replacement) (cells : List ℕ) (vs : List Value) (c : ℕ) (p : Placed) → Fits s cells vs (cell_value (put_all s w)) → circular s c ≡ false → content_of (put_all s w) c ≡ content_of s c → IsPlacedFormula s cells c p →
    zero_for_empty (placed_value p vs) ≡ cell_value (put_all s w) c
formula_gives s w cells vs c p fits clear stays f =
    ap zero_for_empty (f.means vs (cell_value (put_all s w)) (what_if_value (put_all s w)) fits)
    ∙ sym (value_step (put_all s w) c f.tree (put_not_circular s w c clear) (stays ∙ f.is))

-- ---- one cell of a placed plan

module _ {cs items : List PlacedCell} {ps : List Planned} (seen : items ≡ cs) (same : map (λ c. c.planned) cs ≡ ps) (i : ℕ) (x : PlacedCell) (less : i < length items) (is : x ≡ get_or items i x) where
  pub planned_same : map (λ (c : PlacedCell). c.planned) items ≡ ps
  planned_same = ap (map (λ (c : PlacedCell). c.planned)) seen ∙ same

  pub planned_less : i < length (map (λ (c : PlacedCell). c.planned) items)
  planned_less = rw (length-map items (λ (c : PlacedCell). c.planned)) less

  pub planned_is : x.planned ≡ get_or (map (λ (c : PlacedCell). c.planned) items) i x.planned
  planned_is = ap (λ (c : PlacedCell). c.planned) is ∙ sym (get_or-map (λ (c : PlacedCell). c.planned) items i x x.planned less)

  pub placed_there : (s : Sheet) (inputs : List ℕ) → ((j : ℕ) (c : PlacedCell) → slice_get cs j ≡ Some c → ArePlacedFor s (inputs ++ cells_placed (take j cs)) c.planned c) → ArePlacedFor s (inputs ++ cells_placed (take i items)) x.planned x
  placed_there s inputs h = subst (λ (l : List PlacedCell). ArePlacedFor s (inputs ++ cells_placed (take i l)) x.planned x) (sym seen)
      (h i x (ap (λ (l : List PlacedCell). slice_get l i) (sym seen) ∙ slice_get_read items (length items) i x refl less is))

  -- with its value there are the values of one more
  pub one_more_value : (value : ℕ → Value) (inputs : List ℕ) (vs new : List Value) (v : Value) → map value (inputs ++ cells_placed (take i items)) ≡ vs → new ≡ vs ++ v ∷ [] → v ≡ value x.planned.at → map value (inputs ++ cells_placed (take (i + 1) items)) ≡ new
  one_more_value value inputs vs new v before made right =
      let cells : cells_placed (take (i + 1) items) ≡ cells_placed (take i items) ++ x.planned.at ∷ [] = ap cells_placed (taken_more items i x less is) ∙ map-append (λ (c : PlacedCell). c.planned.at) (take i items) (x ∷ []) in
      ap (λ (l : List ℕ). map value (inputs ++ l)) cells
      ∙ ap (map value) (sym (append_assoc inputs (cells_placed (take i items)) (x.planned.at ∷ [])))
      ∙ map-append value (inputs ++ cells_placed (take i items)) (x.planned.at ∷ [])
      ∙ ap (λ (l : List Value). l ++ value x.planned.at ∷ []) before
      ∙ ap (λ (y : Value). vs ++ y ∷ []) (sym right)
      ∙ sym made

-- a cell whose value is given has no formula
pub given_there : (s : Sheet) (m : MemoState) (w : List Replacement) (cells : List ℕ) (c : PlacedCell) → ArePlacedFor s cells c.planned c → (c.planned.is_given ≡ true → NeedsNoEvaluation s m w c.planned.at) → c.formula ≡ None → NeedsNoEvaluation s m w c.planned.at
given_there s m w cells c h given none = given (sym h.given ∙ ap (λ (o : Option Placed). is_none o) none)

-- and any other's gives its value
pub formula_ready : (s : Sheet) (w : List Replacement) (cells : List ℕ) (vs : List Value) (c : PlacedCell) → ArePlacedFor s cells c.planned c → Fits s cells vs (cell_value (put_all s w)) → circular s c.planned.at ≡ false → content_of (put_all s w) c.planned.at ≡ content_of s c.planned.at →
    IfSome c.formula (λ p. zero_for_empty (placed_value p vs) ≡ cell_value (put_all s w) c.planned.at)
formula_ready s w cells vs c h fits clear stays = at c.formula h.placed
  where
    at : (o : Option Placed) → IfSome o (IsPlacedFormula s cells c.planned.at) → IfSome o (λ p. zero_for_empty (placed_value p vs) ≡ cell_value (put_all s w) c.planned.at)
    at None k = tt
    at (Some p) k = formula_gives s w cells vs c.planned.at p fits clear stays k

-- ---- what is put into the inputs

pub one_more_put : (w : List Replacement) (inputs : List ℕ) (i x : ℕ) (v u : Value) (vs new : List Value) → i < length inputs → x ≡ get_or inputs i x → ((s : Sheet) → content_of (put_all s w) x ≡ constant v) → u ≡ v → new ≡ vs ++ u ∷ [] →
    ((s : Sheet) → map (cell_value (put_all s w)) (take i inputs) ≡ vs) → (s : Sheet) → map (cell_value (put_all s w)) (take (i + 1) inputs) ≡ new
one_more_put w inputs i x v u vs new l is put same made before s =
    let value = cell_value (put_all s w) in
    ap (map value) (taken_more inputs i x l is)
    ∙ map-append value (take i inputs) (x ∷ [])
    ∙ ap (λ (xs : List Value). xs ++ value x ∷ []) (before s)
    ∙ ap (λ (y : Value). vs ++ y ∷ []) (put_cell (put_all s w) x v (put s) ∙ sym same)
    ∙ sym made
