-- Edits of narrow rectangles, and those that name a wider one: a search from the last edit to earlier ones passes over the first.
use Rattle.wi_edit_log.proofs.Words.{◌≡◌, ◌∙◌, ℕ, zero, suc, ◌+◌, ◌-◌, ◌==◌, ◌≤◌, ◌<◌, ◌⊎◌, inl, inr, Bool, true, false, not, ◌||◌, ◌&&◌, List, [], ◌∷◌, ◌++◌, length, take, drop, get_or, max, min, Option, None, refl, ap, sym, arith, list_any, and-false, drop_more, drop_all, drop-append-le, length-take-le, take-append-drop, list_any-append, cases_lt, eq-eqb, ne_eqb, Area, is_within_one, IsFirst, in_each, sooner, AreInRuns, IsCount, is_named_by_others, are_narrow, names_narrowly, names_for, names_widely, is_named_narrowly, is_named_widely, is_wanted_widely, Edit}
use Rattle.wi_edit_log.proofs.First.{no_first, same_first, sooner_first}
use Rattle.wi_edit_log.proofs.Runs.{reordered, run_before}

-- ---- what names nothing widely

narrow_names_none : (e : Edit) (s a : ℕ) → are_narrow e.named ≡ true → names_widely s a e ≡ false
narrow_names_none e s a h = ap (λ b. not b && names_for s a e) h

own_names_none : (e : Edit) (s a : ℕ) → e.session ≡ s → names_widely s a e ≡ false
own_names_none e s a h =
    ap (λ b. not (are_narrow e.named) && (not b && is_within_one e.named a)) (eq-eqb e.session s h) ∙ and-false (not (are_narrow e.named))

-- those between two places pass no test
passed_over : (test : Edit → Bool) (es : List Edit) (d : Edit) (n j i : ℕ) → j + n ≡ i → i ≤ length es → ((k : ℕ) (d : Edit) → j ≤ k → k < i → test (get_or es k d) ≡ false)
    → list_any test (drop j es) ≡ list_any test (drop i es)
passed_over test es d zero j i e l h = let same : j ≡ i = omega (arith, e) in ap (λ k. list_any test (drop k es)) same
passed_over test es d (suc n) j i e l h =
    let low : j < i = omega (arith, e) in
    let within : j < length es = omega (arith, low, l) in
    ap (list_any test) (drop_more es j d within)
    ∙ ap (λ b. b || list_any test (drop (j + 1) es)) (h j d (omega arith) low)
    ∙ passed_over test es d n (j + 1) i (omega (arith, e)) l (λ k c m o. h k c (omega (arith, m)) o)

-- ---- steps of the search

stepped : (es : List Edit) (d : Edit) (s next place : ℕ) (wanted : List Area) (o : Option ℕ) → next < place → place ≤ length es
    → ((a k : ℕ) (d : Edit) → next ≤ k → k < place → names_widely s a (get_or es k d) ≡ false)
    → IsFirst (is_wanted_widely (drop place es) s wanted) o → IsFirst (is_wanted_widely (drop next es) s wanted) o
stepped es d s next place wanted o l m h =
    same_first (is_wanted_widely (drop place es) s wanted) (is_wanted_widely (drop next es) s wanted) o
    (λ a. ap (λ b. is_within_one wanted a && b) (sym (passed_over (names_widely s a) es d (place - next) next place (omega (arith, l)) m (h a))))

pub narrow_stepped_over : (es : List Edit) (x : Edit) (s from place n next : ℕ) (wanted : List Area) (o : Option ℕ) → IsCount es (place - 1) n → from < place → place ≤ length es
    → 0 < n → next ≡ max (place - n) from
    → IsFirst (is_wanted_widely (drop place es) s wanted) o → (next < place) × IsFirst (is_wanted_widely (drop next es) s wanted) o
narrow_stepped_over es x s from place n next wanted o count l m some e h =
    let low : next < place = omega (arith, e, l, some) in (
      low,
      stepped es x s next place wanted o low m
          (λ a k d p q. narrow_names_none (get_or es k d) s a (count.narrow k d (omega (arith, e, p, l)) (omega (arith, q, l))))
          h,
    )

pub run_stepped_over : (es : List Edit) (x : Edit) (s from place next : ℕ) (wanted : List Area) (o : Option ℕ) → AreInRuns es → from < place → place ≤ length es
    → x ≡ get_or es (place - 1) x → x.session ≡ s → next ≡ max (place - x.run) from
    → IsFirst (is_wanted_widely (drop place es) s wanted) o → (next < place) × IsFirst (is_wanted_widely (drop next es) s wanted) o
run_stepped_over es x s from place next wanted o runs l m at own e h =
    let r = run_before es x s (place - 1) runs (omega (arith, l, m)) at own in
    let low : next < place = omega (arith, e, r.0, l) in (
      low,
      stepped es x s next place wanted o low m (λ a k d p q. own_names_none (get_or es k d) s a (r.1 k d (omega (arith, e, p, l)) (omega (arith, q, l)))) h,
    )

pub wide_looked_at : (es : List Edit) (x : Edit) (s place next n : ℕ) (wanted : List Area) (o p q : Option ℕ) → IsCount es next n → n ≤ 0 → 0 < place → place ≤ length es
    → x ≡ get_or es next x → next + 1 ≡ place → (x.session ≡ s → Prim.⊥) → q ≡ sooner o p
    → IsFirst (is_wanted_widely (drop place es) s wanted) o → IsFirst (in_each x.named wanted) p → IsFirst (is_wanted_widely (drop next es) s wanted) q
wide_looked_at es x s place next n wanted o p q count none l m at before other e h k =
    let wide : are_narrow x.named ≡ false = ap (λ (y : Edit). are_narrow y.named) at ∙ count.wide x (omega (arith, none)) in
    let here : drop next es ≡ x ∷ drop place es = drop_more es next x (omega (arith, m, before)) ∙ ap (λ y. y ∷ drop (next + 1) es) (sym at) ∙ ap (λ i. x ∷ drop i es) before in
    let more : (a : ℕ) → is_wanted_widely (drop next es) s wanted a ≡ (is_wanted_widely (drop place es) s wanted a || in_each x.named wanted a) =
    λ a. ap (λ ys. is_wanted_widely ys s wanted a) here
    ∙ ap (λ b. is_within_one wanted a && ((not b && names_for s a x) || is_named_widely (drop place es) s a)) wide
    ∙ reordered (is_within_one wanted a) (x.session == s) (is_within_one x.named a) (is_named_widely (drop place es) s a) (ne_eqb x.session s other) in
    rw e (sooner_first (is_wanted_widely (drop place es) s wanted) (in_each x.named wanted) (is_wanted_widely (drop next es) s wanted) o p more h k)

pub none_wide_after_all : (es : List Edit) (s place : ℕ) (wanted : List Area) → length es ≤ place → IsFirst (is_wanted_widely (drop place es) s wanted) None
none_wide_after_all es s place wanted l =
    no_first (is_wanted_widely (drop place es) s wanted) (λ a. ap (λ ys. is_wanted_widely ys s wanted a) (drop_all place es l) ∙ and-false (is_within_one wanted a))

-- ---- all edits are those of narrow rectangles and the others

both_kinds : (l n a w : Bool) → (n || (a || w)) ≡ (((l && n) || a) || ((not l && n) || w))
both_kinds true true a w = refl
both_kinds true false a w = refl
both_kinds false true true w = refl
both_kinds false true false w = refl
both_kinds false false a w = refl

named_narrowly_or_widely : (es : List Edit) (s a : ℕ) → is_named_by_others es s a ≡ (is_named_narrowly es s a || is_named_widely es s a)
named_narrowly_or_widely [] s a = refl
named_narrowly_or_widely (e ∷ es) s a =
    ap (λ b. names_for s a e || b) (named_narrowly_or_widely es s a) ∙ both_kinds (are_narrow e.named) (names_for s a e) (is_named_narrowly es s a) (is_named_widely es s a)

both_parts : (a b v w : Bool) → ((a || b) || (v || w)) ≡ ((a || v) || (b || w))
both_parts true b v w = refl
both_parts false true true w = refl
both_parts false true false w = refl
both_parts false false v w = refl

-- three searches find all: those of narrow rectangles among the first edits, the others there, and all after them
pub named_in_parts : (es : List Edit) (known from s a : ℕ) → known ≤ length es
    → is_named_by_others (drop from es) s a ≡ ((is_named_narrowly (drop from (take known es)) s a || is_named_widely (drop (min from known) (take known es)) s a) || is_named_by_others (drop (max from known) es) s a)
named_in_parts es known from s a l = in_order (cases_lt known from)
  where
    first : length (take known es) ≡ known
    first = length-take-le known es l

    in_order : (known < from) ⊎ (from ≤ known) → is_named_by_others (drop from es) s a ≡ ((is_named_narrowly (drop from (take known es)) s a || is_named_widely (drop (min from known) (take known es)) s a) || is_named_by_others (drop (max from known) es) s a)
    in_order (inl m) =
        let none : drop from (take known es) ≡ [] = drop_all from (take known es) (omega (arith, first, m)) in
        let none_wide : drop (min from known) (take known es) ≡ [] = drop_all (min from known) (take known es) (omega (arith, first, m)) in
        let later : max from known ≡ from = omega (arith, m) in
        sym (ap (λ ys. (is_named_narrowly ys s a || is_named_widely (drop (min from known) (take known es)) s a) || is_named_by_others (drop (max from known) es) s a) none
        ∙ ap (λ ys. is_named_widely ys s a || is_named_by_others (drop (max from known) es) s a) none_wide
        ∙ ap (λ k. is_named_by_others (drop k es) s a) later)
    in_order (inr m) =
        let later : max from known ≡ known = omega (arith, m) in
        let sooner : min from known ≡ from = omega (arith, m) in
        let early = drop from (take known es) in
        let late = drop known es in
        let whole : drop from es ≡ drop from (take known es) ++ drop known es =
        ap (drop from) (sym (take-append-drop known es)) ∙ drop-append-le from (take known es) (drop known es) (omega (arith, first, m)) in
        named_narrowly_or_widely (drop from es) s a
        ∙ ap (λ ys. is_named_narrowly ys s a || is_named_widely ys s a) whole
        ∙ ap (λ b. b || is_named_widely (early ++ late) s a) (list_any-append (names_narrowly s a) early late)
        ∙ ap (λ b. (is_named_narrowly early s a || is_named_narrowly late s a) || b) (list_any-append (names_widely s a) early late)
        ∙ both_parts (is_named_narrowly early s a) (is_named_narrowly late s a) (is_named_widely early s a) (is_named_widely late s a)
        ∙ sym (ap (λ k. (is_named_narrowly early s a || is_named_widely (drop k (take known es)) s a) || is_named_by_others (drop (max from known) es) s a) sooner
        ∙ ap (λ k. (is_named_narrowly early s a || is_named_widely early s a) || is_named_by_others (drop k es) s a) later
        ∙ ap (λ b. (is_named_narrowly early s a || is_named_widely early s a) || b) (named_narrowly_or_widely late s a))
