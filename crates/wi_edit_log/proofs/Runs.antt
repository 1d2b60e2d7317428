-- Runs of edits of one session, and what a step of the search from the last edit to earlier ones does.
use Rattle.wi_edit_log.proofs.Words.{◌≡◌, ◌∙◌, ℕ, zero, suc, ◌+◌, ◌-◌, ◌==◌, ◌≤◌, ◌<◌, ◌⊎◌, inl, inr, Bool, true, false, not, ◌||◌, ◌&&◌, List, [], ◌∷◌, ◌++◌, length, take, drop, get_or, max, Option, None, refl, ap, sym, subst, arith, and-false, drop_more, drop_all, get_or_append_left, get_or_default, get_or_push, get_or-take, length-take, length_push, cases_eq, cases_lt, eq-eqb, ne_eqb, Area, is_within_one, IsFirst, in_each, sooner, AreInRuns, IsInRun, is_named_by_others, is_wanted_of_others, Edit}
use Rattle.wi_edit_log.proofs.First.{no_first, same_first, sooner_first}

not_last : (i n : ℕ) → i < n + 1 → (i ≡ n → Prim.⊥) → i < n
not_last i n l f = omega (arith, l, f)

-- ---- a log with one edit more, or with fewer

module _ (es ys : List Edit) (i : ℕ) (e : Edit) (r : IsInRun es i e) (same : (k : ℕ) (d : Edit) → k < i → get_or ys k d ≡ get_or es k d) where
  in_run_of : IsInRun ys i e
  in_run_of = record {
    itself = r.itself;
    within = r.within;
    one_session = λ k d l m. ap (λ (y : Edit). y.session) (same k d m) ∙ r.one_session k d l m;
  }

pub runs_of_more : (es : List Edit) (x : Edit) → AreInRuns es → IsInRun es (length es) x → AreInRuns (es ++ x ∷ [])
runs_of_more es x runs last i d l = by (cases_eq i (length es))
  where
    same : (j : ℕ) → j ≤ length es → (k : ℕ) (d : Edit) → k < j → get_or (es ++ x ∷ []) k d ≡ get_or es k d
    same j m k d o = get_or_append_left es (x ∷ []) d k (omega (arith, m, o))

    within : (i ≡ length es → Prim.⊥) → i < length es
    within f = not_last i (length es) (subst (λ n. i < n) (length_push es x) l) f

    by : (i ≡ length es) ⊎ (i ≡ length es → Prim.⊥) → IsInRun (es ++ x ∷ []) i (get_or (es ++ x ∷ []) i d)
    by (inl e) =
        subst (IsInRun (es ++ x ∷ []) i) (sym (get_or_push es x d i (sym e)))
        (subst (λ j. IsInRun (es ++ x ∷ []) j x) (sym e) (in_run_of es (es ++ x ∷ []) (length es) x last (same (length es) (omega arith))))
    by (inr f) =
        let m = within f in
        subst (IsInRun (es ++ x ∷ []) i) (sym (get_or_append_left es (x ∷ []) d i m))
        (in_run_of es (es ++ x ∷ []) i (get_or es i d) (runs i d m) (same i (omega (arith, m))))

pub runs_of_fewer : (es : List Edit) (n : ℕ) → AreInRuns es → AreInRuns (take n es)
runs_of_fewer es n runs i d l =
    let short = length-take n es in
    let low : i < n = omega (arith, l, short) in
    let within : i < length es = omega (arith, l, short) in
    subst (IsInRun (take n es) i) (sym (get_or-take n es i d low))
    (in_run_of es (take n es) i (get_or es i d) (runs i d within) (λ k c m. get_or-take n es k c (omega (arith, m, low))))

-- ---- the session's own edits

-- an edit of the session names nothing for others
own_names_none : (e : Edit) (es : List Edit) (s a : ℕ) → e.session ≡ s → is_named_by_others (e ∷ es) s a ≡ is_named_by_others es s a
own_names_none e es s a h = ap (λ b. (not b && is_within_one e.named a) || is_named_by_others es s a) (eq-eqb e.session s h)

stepped_over : (es : List Edit) (d : Edit) (s a n j i : ℕ) → j + n ≡ i → i ≤ length es → ((k : ℕ) (d : Edit) → j ≤ k → k < i → (get_or es k d).session ≡ s)
    → is_named_by_others (drop j es) s a ≡ is_named_by_others (drop i es) s a
stepped_over es d s a zero j i e l h = let same : j ≡ i = omega (arith, e) in ap (λ k. is_named_by_others (drop k es) s a) same
stepped_over es d s a (suc n) j i e l h =
    let low : j < i = omega (arith, e) in
    let within : j < length es = omega (arith, low, l) in
    ap (λ ys. is_named_by_others ys s a) (drop_more es j d within)
    ∙ own_names_none (get_or es j d) (drop (j + 1) es) s a (h j d (omega arith) low)
    ∙ stepped_over es d s a n (j + 1) i (omega (arith, e)) l (λ k c m o. h k c (omega (arith, m)) o)

-- the run of the edit before the place i
pub run_before : (es : List Edit) (x : Edit) (s i : ℕ) → AreInRuns es → i < length es → x ≡ get_or es i x → x.session ≡ s → (0 < x.run) × ((k : ℕ) (d : Edit) → i + 1 ≤ k + x.run → k < i + 1 → (get_or es k d).session ≡ s)
run_before es x s i runs l at own =
    let r : IsInRun es i x = subst (IsInRun es i) (sym at) (runs i x l) in
    (r.itself, λ k d m o. in_run r k d m o (cases_eq k i))
  where
    in_run : IsInRun es i x → (k : ℕ) (d : Edit) → i + 1 ≤ k + x.run → k < i + 1 → (k ≡ i) ⊎ (k ≡ i → Prim.⊥) → (get_or es k d).session ≡ s
    in_run r k d m o (inl e) =
        ap (λ n. (get_or es n d).session) e ∙ ap (λ (y : Edit). y.session) (get_or_default es i d x l ∙ sym at) ∙ own
    in_run r k d m o (inr f) = r.one_session k d m (not_last k i o f) ∙ own

pub own_stepped_over : (es : List Edit) (x : Edit) (s from place next : ℕ) (wanted : List Area) (o : Option ℕ) → AreInRuns es → from < place → place ≤ length es
    → x ≡ get_or es (place - 1) x → x.session ≡ s → next ≡ max (place - x.run) from
    → IsFirst (is_wanted_of_others (drop place es) s wanted) o → (next < place) × IsFirst (is_wanted_of_others (drop next es) s wanted) o
own_stepped_over es x s from place next wanted o runs l m at own e h =
    let r = run_before es x s (place - 1) runs (omega (arith, l, m)) at own in
    let low : next < place = omega (arith, e, r.0, l) in (
      low,
      same_first (is_wanted_of_others (drop place es) s wanted) (is_wanted_of_others (drop next es) s wanted) o
          (λ a. ap (λ b. is_within_one wanted a && b) (sym (stepped_over es x s a (place - next) next place (omega (arith, low)) m (λ k d p q. r.1 k d (omega (arith, e, p, l)) (omega (arith, q, l))))))
          h,
    )

-- all from a place on are the session's own
pub none_of_own : (es : List Edit) (s run from : ℕ) (wanted : List Area) → run ≤ from → ((k : ℕ) (d : Edit) → run ≤ k → k < length es → (get_or es k d).session ≡ s)
    → IsFirst (is_wanted_of_others (drop from es) s wanted) None
none_of_own es s run from wanted l own =
    no_first (is_wanted_of_others (drop from es) s wanted) (λ a. ap (λ b. is_within_one wanted a && b) (none es own a (cases_lt from (length es))) ∙ and-false (is_within_one wanted a))
  where
    none : (xs : List Edit) → ((k : ℕ) (d : Edit) → run ≤ k → k < length xs → (get_or xs k d).session ≡ s) → (a : ℕ) → (from < length xs) ⊎ (length xs ≤ from)
        → is_named_by_others (drop from xs) s a ≡ false
    none [] own a m = ap (λ ys. is_named_by_others ys s a) (drop_all from [] (omega arith))
    none (x ∷ xs) own a (inl m) =
        stepped_over (x ∷ xs) x s a (length (x ∷ xs) - from) from (length (x ∷ xs)) (omega (arith, m)) (omega arith) (λ k d p q. own k d (omega (arith, p, l)) q)
        ∙ ap (λ ys. is_named_by_others ys s a) (drop_all (length (x ∷ xs)) (x ∷ xs) (omega arith))
    none (x ∷ xs) own a (inr m) = ap (λ ys. is_named_by_others ys s a) (drop_all from (x ∷ xs) m)

-- ---- an edit of another session

pub reordered : (w t n o : Bool) → t ≡ false → (w && ((not t && n) || o)) ≡ ((w && o) || (n && w))
reordered true t true true h = rw h
reordered true t true false h = rw h
reordered true t false true h = rw h
reordered true t false false h = rw h
reordered false t true true h = refl
reordered false t true false h = refl
reordered false t false true h = refl
reordered false t false false h = refl

pub other_looked_at : (es : List Edit) (x : Edit) (s place next : ℕ) (wanted : List Area) (o p q : Option ℕ) → 0 < place → place ≤ length es
    → x ≡ get_or es next x → next + 1 ≡ place → (x.session ≡ s → Prim.⊥) → q ≡ sooner o p
    → IsFirst (is_wanted_of_others (drop place es) s wanted) o → IsFirst (in_each x.named wanted) p → IsFirst (is_wanted_of_others (drop next es) s wanted) q
other_looked_at es x s place next wanted o p q l m at n other e h k =
    let here : drop next es ≡ x ∷ drop place es = drop_more es next x (omega (arith, m, n)) ∙ ap (λ y. y ∷ drop (next + 1) es) (sym at) ∙ ap (λ i. x ∷ drop i es) n in
    let more : (a : ℕ) → is_wanted_of_others (drop next es) s wanted a ≡ (is_wanted_of_others (drop place es) s wanted a || in_each x.named wanted a) =
    λ a. ap (λ ys. is_wanted_of_others ys s wanted a) here
    ∙ reordered (is_within_one wanted a) (x.session == s) (is_within_one x.named a) (is_named_by_others (drop place es) s a) (ne_eqb x.session s other) in
    rw e (sooner_first (is_wanted_of_others (drop place es) s wanted) (in_each x.named wanted) (is_wanted_of_others (drop next es) s wanted) o p more h k)

-- ---- the start of the search

pub none_after_all : (es : List Edit) (s place : ℕ) (wanted : List Area) → length es ≤ place → IsFirst (is_wanted_of_others (drop place es) s wanted) None
none_after_all es s place wanted l =
    no_first (is_wanted_of_others (drop place es) s wanted) (λ a. ap (λ ys. is_wanted_of_others ys s wanted a) (drop_all place es l) ∙ and-false (is_within_one wanted a))
