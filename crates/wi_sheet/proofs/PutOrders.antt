-- What replacements put into a cell.
use Rattle.wi_sheet.proofs.Words.{◌≡◌, ℕ, List, Option, Some, None, IfSome, IfNone, Bor, ap, sym, ◌∙◌, option_copied, Value, Replacement, IsInOrder, replaced, Sheet, constant, content_of, put_all}
use Rattle.wi_sheet.proofs.Last.{over}
use Rattle.wi_sheet.proofs.Overrides.{content_in_order}

-- a cell's replacement stands there
pub put_there : (w : List Replacement) (a : ℕ) (r : Option (Bor Value)) → IsInOrder w → option_copied r ≡ replaced w a → IfSome r (λ v. (s : Sheet) → content_of (put_all s w) a ≡ constant v.now)
put_there w a None h e = tt
put_there w a (Some v) h e = λ s. content_in_order s w a h ∙ ap (λ (o : Option Value). over o (content_of s a)) (sym e)

-- a cell without one stays as it is
pub left_there : (w : List Replacement) (a : ℕ) (r : Option (Bor Value)) → IsInOrder w → option_copied r ≡ replaced w a → IfNone r ((s : Sheet) → content_of (put_all s w) a ≡ content_of s a)
left_there w a None h e = λ s. content_in_order s w a h ∙ ap (λ (o : Option Value). over o (content_of s a)) (sym e)
left_there w a (Some v) h e = tt
