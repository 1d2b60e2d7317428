-- What replacements do to a sheet.
use Rattle.wi_sheet.proofs.Words.{◌≡◌, ◌==◌, ℕ, Bool, true, false, not, cond, List, [], ◌∷◌, filter, Option, Some, None, refl, ap, sym, ◌∙◌, arith, nat_tests, eqb-true, filter_agree, nat_cmp, match_ordering, Ordering, Less, Equal, Greater, keys_of, insert_entry, Value, Empty, Number, Text, Logical, Fault, Replacement, Content, Sheet, constant, content_of, without, with_content, put, put_all, has_formula, cells_with_formula, content_of-with}

-- a content under replacements, of which the last for a cell stands
abbrev pub overlaid : List Replacement → ℕ → Option Content → Option Content
overlaid [] q o = o
overlaid (r ∷ rs) q o = overlaid rs q (cond (q == r.at) (constant r.value) o)

pub content_of-put : (s : Sheet) (c : ℕ) (v : Value) (q : ℕ) → content_of (put s c v) q ≡ cond (q == c) (constant v) (content_of s q)
content_of-put s c v q = content_of-with s c (constant v) q

pub content_of-put_all : (s : Sheet) (p : List Replacement) (q : ℕ) → content_of (put_all s p) q ≡ overlaid p q (content_of s q)
content_of-put_all s [] q = refl
content_of-put_all s (r ∷ rs) q = content_of-put_all (put s r.at r.value) rs q ∙ ap (overlaid rs q) (content_of-put s r.at r.value q)

-- ---- the formulas that are left

pub plain : (v : Value) → has_formula (constant v) ≡ false
plain Empty = refl
plain (Number n) = refl
plain (Text t) = refl
plain (Logical b) = refl
plain (Fault e) = refl

-- what has no formula has none under replacements
stays_plain : (p : List Replacement) (q : ℕ) (o : Option Content) → has_formula o ≡ false → has_formula (overlaid p q o) ≡ false
stays_plain [] q o h = h
stays_plain (r ∷ rs) q o h = stays_plain rs q (cond (q == r.at) (constant r.value) o) (either (q == r.at))
  where
    either : (b : Bool) → has_formula (cond b (constant r.value) o) ≡ false
    either true = plain r.value
    either false = h

-- a test fails at each replaced cell
abbrev FailsAt : (ℕ → Bool) → List Replacement → Type 0
FailsAt P [] = Unit {0}
FailsAt P (r ∷ rs) = (P r.at ≡ false) × FailsAt P rs

itself : (a : ℕ) (x y : Option Content) → cond (a == a) x y ≡ x
itself a x y = grind (arith, nat_tests)

fails_at_replaced : (p : List Replacement) (o : ℕ → Option Content) → FailsAt (λ c. has_formula (overlaid p c (o c))) p
fails_at_replaced [] o = tt
fails_at_replaced (r ∷ rs) o =
    (stays_plain rs r.at _ (ap has_formula (itself r.at (constant r.value) (o r.at)) ∙ plain r.value), fails_at_replaced rs (λ c. cond (c == r.at) (constant r.value) (o c)))

filter-insert : (P : ℕ → Bool) (s : Sheet) (c : ℕ) (x : Content) → P c ≡ false → filter P (keys_of (insert_entry nat_cmp s c x)) ≡ filter P (keys_of s)
filter-insert P [] c x h = ap (λ (b : Bool). cond b (c ∷ []) []) h
filter-insert P (e ∷ es) c x h = at_entry (nat_cmp c e.0) (filter-insert P es c x h)
  where
    at_entry : (o : Ordering) → filter P (keys_of (insert_entry nat_cmp es c x)) ≡ filter P (keys_of es) →
        filter P (keys_of (match_ordering o ((c, x) ∷ e ∷ es) ((e.0, x) ∷ es) (e ∷ insert_entry nat_cmp es c x))) ≡ filter P (keys_of (e ∷ es))
    at_entry Less ih = ap (λ (b : Bool). cond b (c ∷ filter P (keys_of (e ∷ es))) (filter P (keys_of (e ∷ es)))) h
    at_entry Equal ih = refl
    at_entry Greater ih = ap (λ (ks : List ℕ). cond (P e.0) (e.0 ∷ ks) ks) ih

filter-remove : (P : ℕ → Bool) (s : Sheet) (c : ℕ) → P c ≡ false → filter P (keys_of (without s c)) ≡ filter P (keys_of s)
filter-remove P [] c h = refl
filter-remove P (e ∷ es) c h = at_entry (e.0 == c) refl (filter-remove P es c h)
  where
    at_entry : (b : Bool) → (e.0 == c) ≡ b → filter P (keys_of (without es c)) ≡ filter P (keys_of es) →
        filter P (keys_of (cond (not b) (e ∷ without es c) (without es c))) ≡ filter P (keys_of (e ∷ es))
    at_entry true k ih = ih ∙ sym (ap (λ (b : Bool). cond b (e.0 ∷ filter P (keys_of es)) (filter P (keys_of es))) (ap P (eqb-true e.0 c k) ∙ h))
    at_entry false k ih = ap (λ (ks : List ℕ). cond (P e.0) (e.0 ∷ ks) ks) ih

filter-with : (P : ℕ → Bool) (s : Sheet) (c : ℕ) (o : Option Content) → P c ≡ false → filter P (keys_of (with_content s c o)) ≡ filter P (keys_of s)
filter-with P s c None h = filter-remove P s c h
filter-with P s c (Some x) h = filter-insert P s c x h

filter-put_all : (P : ℕ → Bool) (p : List Replacement) (s : Sheet) → FailsAt P p → filter P (keys_of (put_all s p)) ≡ filter P (keys_of s)
filter-put_all P [] s h = refl
filter-put_all P (r ∷ rs) s h = filter-put_all P rs (put s r.at r.value) h.1 ∙ filter-with P s r.at (constant r.value) h.0

-- the formulas under replacements are those of the sheet's cells that still have one
pub formula_cells_put_all : (s : Sheet) (p : List Replacement) → cells_with_formula (put_all s p) ≡ filter (λ c. has_formula (content_of (put_all s p) c)) (keys_of s)
formula_cells_put_all s p =
    let P : ℕ → Bool = λ c. has_formula (content_of (put_all s p) c) in
    let Q : ℕ → Bool = λ c. has_formula (overlaid p c (content_of s c)) in
    let same : (c : ℕ) → P c ≡ Q c = λ c. ap has_formula (content_of-put_all s p c) in
    filter_agree P Q same (keys_of (put_all s p)) ∙ filter-put_all Q p s (fails_at_replaced p (content_of s)) ∙ sym (filter_agree P Q same (keys_of s))
