-- Cells without a content.
use Rattle.wi_sheet.proofs.Words.{◌≡◌, ℕ, Bool, true, false, Option, Some, None, [], length, refl, sym, ap, ◌∙◌, is_one_of, keys_of, is_at, nat_cmp, is_some-lookup, Empty, Content, Sheet, content_of, has_formula, cells_with_formula, circular, has_walk, walker_has_formula, has_key, circular_is, value_of, shown}
use Rattle.std.specs.Prelude.{is_some}
use Rattle.wi_sheet.proofs.Steps.{value_plain, shown_open}

-- such a cell is on no cycle and above none
open_at : (s : Sheet) (a : ℕ) → content_of s a ≡ None → circular s a ≡ false
open_at s a e = circular_is s a ∙ by (has_walk (length (cells_with_formula s)) s a) refl
  where
    by : (b : Bool) → has_walk (length (cells_with_formula s)) s a ≡ b → b ≡ false
    by false h = refl
    by true h = absurd (let k = sym (walker_has_formula (length (cells_with_formula s)) s a h) ∙ ap has_formula e in cc)

-- it shows nothing
pub shows_nothing : (s : Sheet) (a : ℕ) → content_of s a ≡ None → shown s [] a ≡ Empty
shows_nothing s a e =
    let h = open_at s a e in
    shown_open s [] a h ∙ value_plain s a h (ap has_formula e) ∙ ap (λ o. value_of o (λ t. Empty)) e

-- a cell that isn't among those of the sheet has none
pub has_none : (s : Sheet) (a : ℕ) → is_one_of (keys_of s) a ≡ false → content_of s a ≡ None
has_none s a there = none (content_of s a) (is_some-lookup (is_at (nat_cmp a)) s ∙ has_key (keys_of s) a ∙ there)
  where
    none : (o : Option Content) → is_some o ≡ false → o ≡ None
    none None e = refl
    none (Some x) e = absurd (let k = e in cc)
