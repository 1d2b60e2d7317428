-- Sheets that agree on all that a cell reaches, under replacements.
use Rattle.wi_sheet.proofs.Words.{◌≡◌, ℕ, zero, suc, List, ap, sym, ◌∙◌, Replacement, Sheet, content_of, put_all, Walks, Reaches, AgreeFrom}
use Rattle.wi_sheet.proofs.Puts.{overlaid, content_of-put_all}
use Rattle.wi_sheet.proofs.Bounds.{put_reads}

put_walks : (n : ℕ) (s : Sheet) (p : List Replacement) (c d : ℕ) → Walks n (put_all s p) c d → Walks n s c d
put_walks zero s p c d w = w
put_walks (suc n) s p c d w = (w.0, put_reads s p c w.0 w.1, put_walks n s p w.0 d w.2)

-- what a cell reaches under replacements, it reaches without them
pub put_reaches : (s : Sheet) (p : List Replacement) (c d : ℕ) → Reaches (put_all s p) c d → Reaches s c d
put_reaches s p c d w = (w.0, put_walks w.0 s p c d w.1)

-- so agreement on what it reaches without them is enough
pub agree_put_both : (s t : Sheet) (p q : List Replacement) (c : ℕ) → ((d : ℕ) → Reaches s c d → content_of (put_all s p) d ≡ content_of (put_all t q) d) → AgreeFrom (put_all s p) (put_all t q) c
agree_put_both s t p q c a d w = a d (put_reaches s p c d w)

pub agree_put : (s t : Sheet) (p : List Replacement) (c : ℕ) → AgreeFrom s t c → AgreeFrom (put_all s p) (put_all t p) c
agree_put s t p c a = agree_put_both s t p p c (λ d w. content_of-put_all s p d ∙ ap (overlaid p d) (a d w) ∙ sym (content_of-put_all t p d))
