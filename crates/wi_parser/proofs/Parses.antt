-- What the tree of a text is, and why there is none.
use Rattle.wi_parser.proofs.Words.{◌≡◌, ℕ, ◌+◌, ◌<◌, ◌≤◌, Bool, true, false, ◌||◌, nat_lt, List, [], ◌∷◌, ◌++◌, length, Option, Some, None, Result, Ok, Err, ok_or, if◌then◌else◌, IfOk, ◌↔◌, refl, sym, ap, ap₂, ◌∙◌, subst, arith, or_parts, lt-ltb, le-ltb, ltb-false, list_any-append, list_any, ParseFault, TooLong, OutOfSheet, NumberRange, TooDeep, Syntax, Memory, Tree, Trees, Symbol, close_parenthesis, infix_mark, percent_mark, bad_token, is_refused, is_out_of_sheet, is_unfit, loosest, Spells, a_number, a_cell, a_rectangle, in_parentheses, one_input, two_inputs, with_sign, with_percent, tighter, joined, SpellsAll, SpellsMore, a_text, a_call, no_parameter, parameters, last_parameter, another_parameter, max_depth, is_too_deep, whole, Fails, Front, IsFrontOf, symbols_by, symbols_with, formula_symbols, max_formula, refusal_of, unless_refused, judged, parsed, IsWithinLimits, is_too_long, ReadsAs}
use Rattle.wi_parser.proofs.Sound.{whole_sound}
use Rattle.wi_parser.proofs.Complete.{whole_complete}
use Rattle.wi_parser.proofs.Depth.{depth-deepest}
use Rattle.wi_parser.proofs.TooDeep.{few_open}

-- ---- symbols that spell a tree are not refused

none_in_both : (xs ys : List Symbol) → list_any is_refused xs ≡ false → list_any is_refused ys ≡ false → list_any is_refused (xs ++ ys) ≡ false
none_in_both xs ys h e = list_any-append is_refused xs ys ∙ ap₂ (λ a b. a || b) h e

mutual
  none_is_refused : {k : ℕ} {t : Tree} {ts : List Symbol} → Spells k t ts → list_any is_refused ts ≡ false
  none_is_refused (a_number x) = refl
  none_is_refused (a_text s) = refl
  none_is_refused (a_cell r) = refl
  none_is_refused (a_rectangle c) = refl
  none_is_refused (one_input f p) = refl
  none_is_refused (two_inputs f p q) = refl
  none_is_refused (in_parentheses t ts s) = none_in_both ts (close_parenthesis ∷ []) (none_is_refused s) refl
  none_is_refused (a_call f all ts s) = none_in_all s
  none_is_refused (with_sign s t ts o) = none_is_refused o
  none_is_refused (with_percent t ts s) = none_in_both ts (percent_mark ∷ []) (none_is_refused s) refl
  none_is_refused (tighter k t ts s) = none_is_refused s
  none_is_refused (joined k op l r ls rs e s u) = none_in_both ls (infix_mark op ∷ rs) (none_is_refused s) (none_is_refused u)

  none_in_all : {all : Trees} {ts : List Symbol} → SpellsAll all ts → list_any is_refused ts ≡ false
  none_in_all no_parameter = refl
  none_in_all (parameters t all ts us s u) = none_in_both ts us (none_is_refused s) (none_in_more u)

  none_in_more : {all : Trees} {ts : List Symbol} → SpellsMore all ts → list_any is_refused ts ≡ false
  none_in_more last_parameter = refl
  none_in_more (another_parameter t all ts us s u) = none_in_both ts us (none_is_refused s) (none_in_more u)

-- no tree is spelled by symbols of which the first is refused
pub no_refused_first : (e : ParseFault) (ts : List Symbol) (t : Tree) → Spells loosest t (bad_token e ∷ ts) → ⊥
no_refused_first e ts t s = let h : true ≡ false = none_is_refused s in cc

-- a test that no symbol passes but a refused one
none_passes : (p : Symbol → Bool) → ((s : Symbol) → is_refused s ≡ false → p s ≡ false) → (ts : List Symbol) → list_any is_refused ts ≡ false → list_any p ts ≡ false
none_passes p h [] e = refl
none_passes p h (s ∷ ts) e =
    let i = or_parts (is_refused s) (list_any is_refused ts) e in
    ap₂ (λ a b. a || b) (h s i.0) (none_passes p h ts i.1)

outside_is_refused : (s : Symbol) → is_refused s ≡ false → is_out_of_sheet s ≡ false
outside_is_refused (bad_token e) h = cc
outside_is_refused s h = refl

unfit_is_refused : (s : Symbol) → is_refused s ≡ false → is_unfit s ≡ false
unfit_is_refused (bad_token e) h = cc
unfit_is_refused s h = refl

-- symbols that are refused for none of the causes before it may nest too deep
pub by_depth : (ts : List Symbol) → list_any is_out_of_sheet ts ≡ false → list_any is_unfit ts ≡ false → refusal_of ts ≡ (if is_too_deep ts then Some TooDeep else None)
by_depth ts o u =
    ap (λ b. if b then Some OutOfSheet else (if list_any is_unfit ts then Some NumberRange else (if is_too_deep ts then Some TooDeep else None))) o
    ∙ ap (λ b. if b then Some NumberRange else (if is_too_deep ts then Some TooDeep else None)) u

-- and so may those of which none is bad
pub by_depth_alone : (ts : List Symbol) → list_any is_refused ts ≡ false → refusal_of ts ≡ (if is_too_deep ts then Some TooDeep else None)
by_depth_alone ts h = by_depth ts (none_passes is_out_of_sheet outside_is_refused ts h) (none_passes is_unfit unfit_is_refused ts h)

-- what is spelled and does not nest too deep is judged to be the tree
judged_spelled : (ts : List Symbol) (t : Tree) → Spells loosest t ts → is_too_deep ts ≡ false → judged ts ≡ Ok t
judged_spelled ts t s h =
    ap (λ o. unless_refused o (whole (max_depth + 1) ts)) (by_depth_alone ts (none_is_refused s) ∙ ap (λ b. if b then Some TooDeep else None) h)
    ∙ ap (λ found. ok_or found Syntax) (whole_complete max_depth ts t s (omega (arith, depth-deepest t ts s, few_open ts h)))

-- ---- a text

-- the symbols of a text by its front
pub by_front : (text : List ℕ) (front : Front) → IsFrontOf text front → symbols_with front ≡ formula_symbols text
unfolding formula_symbols
by_front text front is = ap₂ symbols_by is.plain is.body

pub parsed_long : (text : List ℕ) → max_formula < length text → parsed text ≡ Err TooLong
unfolding parsed
parsed_long text h = ap (λ b. if b then Err TooLong else judged (formula_symbols text)) (lt-ltb _ _ h)

pub parsed_short : (text : List ℕ) → length text ≤ max_formula → parsed text ≡ judged (formula_symbols text)
unfolding parsed
parsed_short text h = ap (λ b. if b then Err TooLong else judged (formula_symbols text)) (le-ltb _ _ h)

pub parsed_refused : (text : List ℕ) (ts : List Symbol) (e : ParseFault) → length text ≤ max_formula → ts ≡ formula_symbols text → refusal_of ts ≡ Some e → parsed text ≡ Err e
parsed_refused text ts e h is r = parsed_short text h ∙ ap judged (sym is) ∙ ap (λ o. unless_refused o (whole (max_depth + 1) ts)) r

pub parsed_whole : (text : List ℕ) (ts : List Symbol) → length text ≤ max_formula → ts ≡ formula_symbols text → refusal_of ts ≡ None → parsed text ≡ ok_or (whole (max_depth + 1) ts) Syntax
parsed_whole text ts h is r = parsed_short text h ∙ ap judged (sym is) ∙ ap (λ o. unless_refused o (whole (max_depth + 1) ts)) r

judged_ok : (ts : List Symbol) (t : Tree) (o : Option ParseFault) (found : Option Tree) → unless_refused o found ≡ Ok t → found ≡ Some t
judged_ok ts t (Some e) found h = cc
judged_ok ts t None None h = cc
judged_ok ts t None (Some u) h = cc

length_or : (b : Bool) (r : Result Tree ParseFault) (t : Tree) → (if b then Err TooLong else r) ≡ Ok t → r ≡ Ok t
length_or true r t h = cc
length_or false r t h = h

parsed_spells : (text : List ℕ) (t : Tree) → parsed text ≡ Ok t → Spells loosest t (formula_symbols text)
unfolding parsed
parsed_spells text t h =
    let ts = formula_symbols text in
    let inside : judged ts ≡ Ok t = length_or (nat_lt max_formula (length text)) (judged ts) t h in
    whole_sound (max_depth + 1) ts t (judged_ok ts t (refusal_of ts) (whole (max_depth + 1) ts) inside)

pub spelled_parsed : (text : List ℕ) (t : Tree) → IsWithinLimits text → Spells loosest t (formula_symbols text) → parsed text ≡ Ok t
spelled_parsed text t w s = parsed_short text w.short ∙ judged_spelled (formula_symbols text) t s w.shallow

-- what is judged to be a tree is not refused
none_refused : (o : Option ParseFault) (found : Option Tree) (t : Tree) → unless_refused o found ≡ Ok t → o ≡ None
none_refused None found t h = refl
none_refused (Some e) found t h = cc

-- a choice that is nothing was not made
not_chosen : (b : Bool) (e : ParseFault) (o : Option ParseFault) → (if b then Some e else o) ≡ None → (b ≡ false) × (o ≡ None)
not_chosen true e o h = cc
not_chosen false e o h = (refl, h)

pub shallow : (ts : List Symbol) → refusal_of ts ≡ None → is_too_deep ts ≡ false
shallow ts h =
    let a = not_chosen (list_any is_out_of_sheet ts) OutOfSheet _ h in
    let b = not_chosen (list_any is_unfit ts) NumberRange _ a.1 in
    (not_chosen (is_too_deep ts) TooDeep None b.1).0

not_long : (b : Bool) (r : Result Tree ParseFault) (t : Tree) → (if b then Err TooLong else r) ≡ Ok t → b ≡ false
not_long true r t h = cc
not_long false r t h = refl

within : (text : List ℕ) (t : Tree) → parsed text ≡ Ok t → IsWithinLimits text
unfolding parsed
within text t h =
    let ts = formula_symbols text in
    let long = nat_lt max_formula (length text) in
    let inside : judged ts ≡ Ok t = length_or long (judged ts) t h in
    record { short = ltb-false max_formula (length text) (not_long long (judged ts) t h); shallow = shallow ts (none_refused (refusal_of ts) (whole (max_depth + 1) ts) t inside) }

pub parsed_exactly : (text : List ℕ) (t : Tree) → (parsed text ≡ Ok t) ↔ (IsWithinLimits text × Spells loosest t (formula_symbols text))
parsed_exactly text t = (λ h. (within text t h, parsed_spells text t h), λ p. spelled_parsed text t p.0 p.1)

-- ---- what is answered

never_too_long : (outside unfit deep : Bool) (o : Option Tree)
    → is_too_long (unless_refused (if outside then Some OutOfSheet else (if unfit then Some NumberRange else (if deep then Some TooDeep else None))) o) ≡ false
never_too_long true unfit deep o = refl
never_too_long false true deep o = refl
never_too_long false false true o = refl
never_too_long false false false (Some t) = refl
never_too_long false false false None = refl

-- of a text within the limit "out of memory" may be answered
pub short_lacks : (text : List ℕ) (r : Result Tree ParseFault) → length text ≤ max_formula → r ≡ Err Memory → ReadsAs (parsed text) r
short_lacks text r h e =
    let ts = formula_symbols text in
    let short : is_too_long (parsed text) ≡ false =
    ap is_too_long (parsed_short text h) ∙ never_too_long (list_any is_out_of_sheet ts) (list_any is_unfit ts) (is_too_deep ts) (whole (max_depth + 1) ts) in
    subst (ReadsAs (parsed text)) (sym e) short

pub reads_as : {A : Type 0} (found : Result A ParseFault) (e : ParseFault) → found ≡ Err e → ReadsAs found (Err e)
reads_as found TooLong h = h
reads_as found OutOfSheet h = h
reads_as found NumberRange h = h
reads_as found TooDeep h = h
reads_as found Syntax h = h
reads_as found Memory h = ap is_too_long h

syntax_at_most : (o : Option Tree) → is_too_long (ok_or o Syntax) ≡ false
syntax_at_most (Some t) = refl
syntax_at_most None = refl

-- a whole that could not be read
pub reads_fault : (found : Result Tree ParseFault) (o : Option Tree) (e : ParseFault) → found ≡ ok_or o Syntax → Fails e o → ReadsAs found (Err e)
reads_fault found o TooLong h f = absurd f
reads_fault found o OutOfSheet h f = absurd f
reads_fault found o NumberRange h f = absurd f
reads_fault found o TooDeep h f = absurd f
reads_fault found o Syntax h f = h ∙ ap (λ o. ok_or o Syntax) f
reads_fault found o Memory h f = ap is_too_long h ∙ syntax_at_most o

pub reads_spelled : (text : List ℕ) (r : Result Tree ParseFault) → ReadsAs (parsed text) r → IfOk r (λ t. Spells loosest t (formula_symbols text))
reads_spelled text (Ok t) h = parsed_spells text t h
reads_spelled text (Err e) h = tt

pub reads_only : (text : List ℕ) (r : Result Tree ParseFault) → ReadsAs (parsed text) r → (t : Tree) → Spells loosest t (formula_symbols text) → IsWithinLimits text → ReadsAs (Ok t) r
reads_only text r h t s w = subst (λ found. ReadsAs found r) (spelled_parsed text t w s) h
