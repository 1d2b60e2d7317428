-- What is left of replacements where those of cells that a cell does not reach are left out.
use Rattle.wi_sheet.proofs.Words.{◌≡◌, ◌==◌, ℕ, Bool, true, false, cond, List, [], ◌∷◌, filter, Option, None, refl, ap, sym, ◌∙◌, list_any, option_or, Value, Replacement, IsInOrder, replaced, last_for, same_from_replaced, replaced-filter, Sheet, content_of, put_all, reaches, true_reaches, reaches_here, reaches_on, replacements, cell_value, reaching, with_what_if}
use Rattle.wi_sheet.proofs.Puts.{content_of-put_all}
use Rattle.wi_sheet.proofs.Meanings.{replacements_same}
use Rattle.wi_sheet.proofs.Locality.{keeps_those, others_do_not_count}
use Rattle.wi_sheet.proofs.Overrides.{what_if_in_order, reaching_in_order, last_in_order, override_last}

filter_through : (f g : ℕ → Bool) → ((a : ℕ) → f a ≡ true → g a ≡ true) → (w : List Replacement) → filter (λ r. f r.at) (filter (λ r. g r.at) w) ≡ filter (λ r. f r.at) w
filter_through f g h [] = refl
filter_through f g h (r ∷ rs) = by (f r.at) (g r.at) refl refl (filter_through f g h rs)
  where
    by : (b d : Bool) → f r.at ≡ b → g r.at ≡ d → filter (λ x. f x.at) (filter (λ x. g x.at) rs) ≡ filter (λ x. f x.at) rs →
        filter (λ x. f x.at) (cond d (r ∷ filter (λ x. g x.at) rs) (filter (λ x. g x.at) rs)) ≡ cond b (r ∷ filter (λ x. f x.at) rs) (filter (λ x. f x.at) rs)
    by true true e k ih = rw e (ap (λ (xs : List Replacement). r ∷ xs) ih)
    by true false e k ih = let z = h r.at e in cc
    by false true e k ih = rw e ih
    by false false e k ih = ih

-- those of cells that a precedent reaches are still there
pub reaching_below : (s : Sheet) (c d : ℕ) (w : List Replacement) → reaches s c d ≡ true → reaching s d (reaching s c w) ≡ reaching s d w
reaching_below s c d w r = filter_through (reaches s d) (reaches s c) (λ a h. reaches_on s c d a r h) w

-- so it has the same value
pub value_below : (s : Sheet) (c d : ℕ) (w : List Replacement) → reaches s c d ≡ true → cell_value (put_all s (reaching s c w)) d ≡ cell_value (put_all s w) d
value_below s c d w r = others_do_not_count s w d (reaches s c) (λ a h. reaches_on s c d a r (true_reaches s d a h))

-- and the cell itself the same content
pub content_below : (s : Sheet) (c : ℕ) (w : List Replacement) → content_of (put_all s (reaching s c w)) c ≡ content_of (put_all s w) c
content_below s c w =
    content_of-put_all s (reaching s c w) c ∙ keeps_those (reaches s c) w c (content_of s c) (reaches_here s c) ∙ sym (content_of-put_all s w c)

-- ---- what-ifs below

either_list : (b : Bool) (x y : Option Value) → (b ≡ true → x ≡ y) → cond b x None ≡ cond b y None
either_list true x y h = h refl
either_list false x y h = refl

what_if_replaced : (s : Sheet) (w : List Replacement) (pairs : List (ℕ × ℕ)) → IsInOrder w → (a : ℕ) →
    replaced (with_what_if s w pairs) a ≡ option_or (last_for (replacements (cell_value (put_all s w)) pairs) a) (replaced w a)
what_if_replaced s w pairs h a =
    sym (last_in_order (with_what_if s w pairs) (what_if_in_order s w pairs h) a)
    ∙ override_last w (replacements (cell_value (put_all s w)) pairs) h a
    ∙ ap (option_or (last_for (replacements (cell_value (put_all s w)) pairs) a)) (last_in_order w h a)

reaching_replaced : (s : Sheet) (c a : ℕ) (w : List Replacement) → reaches s c a ≡ true → replaced (reaching s c w) a ≡ replaced w a
reaching_replaced s c a w r = replaced-filter (reaches s c) a w ∙ ap (λ (b : Bool). cond b (replaced w a) None) r

-- a what-if that reads precedents has the same replacements of cells that its formula cell reaches
pub what_if_below : (s : Sheet) (c f : ℕ) (w : List Replacement) (pairs : List (ℕ × ℕ)) → IsInOrder w → reaches s c f ≡ true →
    ((a : ℕ) → list_any (λ p. p.1 == a) pairs ≡ true → reaches s c a ≡ true) → reaching s f (with_what_if s (reaching s c w) pairs) ≡ reaching s f (with_what_if s w pairs)
what_if_below s c f w pairs h r k =
    let g = reaching_in_order s c w h in
    same_from_replaced (reaching s f (with_what_if s (reaching s c w) pairs)) (reaching s f (with_what_if s w pairs))
    (reaching_in_order s f (with_what_if s (reaching s c w) pairs) (what_if_in_order s (reaching s c w) pairs g))
    (reaching_in_order s f (with_what_if s w pairs) (what_if_in_order s w pairs h))
    (λ a. replaced-filter (reaches s f) a (with_what_if s (reaching s c w) pairs)
    ∙ either_list (reaches s f a) (replaced (with_what_if s (reaching s c w) pairs) a) (replaced (with_what_if s w pairs) a)
    (λ m. what_if_replaced s (reaching s c w) pairs g a
    ∙ ap (λ (rs : List Replacement). option_or (last_for rs a) (replaced (reaching s c w) a))
    (replacements_same pairs (cell_value (put_all s (reaching s c w))) (cell_value (put_all s w)) (λ d i. value_below s c d w (k d i)))
    ∙ ap (option_or (last_for (replacements (cell_value (put_all s w)) pairs) a)) (reaching_replaced s c a w (reaches_on s c f a r m))
    ∙ sym (what_if_replaced s w pairs h a))
    ∙ sym (replaced-filter (reaches s f) a (with_what_if s w pairs)))
