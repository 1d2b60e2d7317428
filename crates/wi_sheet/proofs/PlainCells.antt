-- Cells without a formula, and cells that are replaced.
use Rattle.wi_sheet.proofs.Words.{◌≡◌, ℕ, false, Option, refl, ap, ◌∙◌, false_from_ne_true, Value, Empty, Number, Text, Logical, Fault, Content, Sheet, constant, content_of, has_formula, circular, circular_walks, value_of, cell_value}
use Rattle.wi_sheet.proofs.Puts.{plain}
use Rattle.wi_sheet.proofs.Steps.{value_plain}

-- a cell without a formula shows what stands there
pub plain_cell : (s : Sheet) (c : ℕ) (o : Option Content) → content_of s c ≡ o → has_formula o ≡ false → cell_value s c ≡ value_of o (λ t. Empty)
plain_cell s c o e h =
    value_plain s c (false_from_ne_true (circular s c) (λ w. let z = circular_walks s c w 0 in let y = ap has_formula e in cc)) (ap has_formula e ∙ h)
    ∙ ap (λ (x : Option Content). value_of x (λ t. Empty)) e

-- a cell that is replaced shows what is put into it
pub put_cell : (s : Sheet) (c : ℕ) (v : Value) → content_of s c ≡ constant v → cell_value s c ≡ v
put_cell s c v e = plain_cell s c (constant v) e (plain v) ∙ shown v
  where
    shown : (x : Value) → value_of (constant x) (λ t. Empty) ≡ x
    shown Empty = refl
    shown (Number n) = refl
    shown (Text t) = refl
    shown (Logical b) = refl
    shown (Fault f) = refl
