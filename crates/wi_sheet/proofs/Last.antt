-- The last replacement for a cell, and what the sheet then has there.
use Rattle.wi_sheet.proofs.Words.{◌≡◌, ◌==◌, ℕ, Bool, true, false, cond, List, [], ◌∷◌, Option, Some, None, refl, ap, sym, ◌∙◌, option_or, Value, Replacement, last_for, turn_test, Content, Sheet, constant, content_of, put_all}
use Rattle.wi_sheet.proofs.Puts.{overlaid, content_of-put_all}

-- a content, over which a constant may be put
abbrev pub over : Option Value → Option Content → Option Content
over None o = o
over (Some v) o = constant v

chosen : (b : Bool) (v : Value) (o : Option Content) → cond b (constant v) o ≡ over (cond b (Some v) None) o
chosen true v o = refl
chosen false v o = refl

-- one value over another
pub over_both : (v w : Option Value) (o : Option Content) → over (option_or v w) o ≡ over v (over w o)
over_both None w o = refl
over_both (Some x) w o = refl

overlaid_last : (p : List Replacement) (q : ℕ) (o : Option Content) → overlaid p q o ≡ over (last_for p q) o
overlaid_last [] q o = refl
overlaid_last (r ∷ rs) q o =
    overlaid_last rs q (cond (q == r.at) (constant r.value) o)
    ∙ ap (over (last_for rs q)) (ap (λ (b : Bool). cond b (constant r.value) o) (turn_test q r.at) ∙ chosen (r.at == q) r.value o)
    ∙ sym (over_both (last_for rs q) (cond (r.at == q) (Some r.value) None) o)

-- what a sheet has in a cell under replacements
pub content_by_last : (s : Sheet) (p : List Replacement) (q : ℕ) → content_of (put_all s p) q ≡ over (last_for p q) (content_of s q)
content_by_last s p q = content_of-put_all s p q ∙ overlaid_last p q (content_of s q)
