-- How many tasks of a walk are left.
use Rattle.wi_engine.proofs.Words.{◌≡◌, ◌==◌, ℕ, ◌+◌, ◌≤◌, ◌<◌, Bool, true, false, cond, List, [], ◌∷◌, ◌++◌, length, length-append, Option, Some, None, is_some, refl, ap, arith, inl, inr, ◌⊎◌, sum_by, if◌then◌else◌, or_cases, nat_tests, sum_by-cons, sum_by-le-sum_by, nat_cmp, BTreeMap, get, is_at, Updates, Sheet, content_of, has_formula, cells_with_formula, is_one_of, same_cell, formula_cell, Task, Enter, Leave, enters, tasks_of, tasks_left, rectangles_in, occupied_within, Open, Progress}

-- one of them that comes to nothing
sums_less : (f g : ℕ → ℕ) → ((x : ℕ) → g x ≤ f x) → (a : ℕ) → g a ≡ 0 → (xs : List ℕ) → is_one_of xs a ≡ true → sum_by g xs + f a ≤ sum_by f xs
sums_less f g l a z [] m = cc
sums_less f g l a z (x ∷ xs) m = at (or_cases (x == a) _ m) (sums_less f g l a z xs) (sum_by-cons f x xs) (sum_by-cons g x xs)
  where
    at : ((x == a) ≡ true) ⊎ (is_one_of xs a ≡ true) → (is_one_of xs a ≡ true → sum_by g xs + f a ≤ sum_by f xs) → sum_by f (x ∷ xs) ≡ f x + sum_by f xs → sum_by g (x ∷ xs) ≡ g x + sum_by g xs → sum_by g (x ∷ xs) + f a ≤ sum_by f (x ∷ xs)
    at (inl k) ih u v =
        let e = ap f (same_cell a x k) in
        let d = ap g (same_cell a x k) in
        omega (arith, sum_by-le-sum_by g f xs l)
    at (inr k) ih u v = omega (arith, l x, ih k)

module _ (s : Sheet) (old new : BTreeMap ℕ Progress) (c : ℕ) (state : Progress) (u : (q : ℕ) → get nat_cmp new q ≡ cond (is_at (nat_cmp c) q) (Some state) (get nat_cmp old q)) where
  fewer_tasks : (q : ℕ) → tasks_of s new q ≤ tasks_of s old q
  fewer_tasks q = at (is_at (nat_cmp c) q) (get nat_cmp old q) (get nat_cmp new q) (u q)
    where
      at : (b : Bool) (o n : Option Progress) → n ≡ cond b (Some state) o → (if is_some n then 0 else length (occupied_within s (rectangles_in (content_of s q))) + 1) ≤ (if is_some o then 0 else length (occupied_within s (rectangles_in (content_of s q))) + 1)
      at true o n e = rw e (omega arith)
      at false o n e = rw e (omega arith)

  pub less-left : (ts : List Task) → tasks_left s new ts ≤ tasks_left s old ts
  less-left ts = omega (arith, sum_by-le-sum_by (tasks_of s new) (tasks_of s old) (cells_with_formula s) fewer_tasks)

  pub less-gone : (ts : List Task) (t : Task) → tasks_left s new ts < tasks_left s old (ts ++ t ∷ [])
  less-gone ts t = omega (arith, less-left ts, length-append ts (t ∷ []))

  no_tasks : tasks_of s new c ≡ 0
  no_tasks = at (is_at (nat_cmp c) c) (get nat_cmp old c) (get nat_cmp new c) (grind (arith, nat_tests)) (u c)
    where
      at : (b : Bool) (o n : Option Progress) → b ≡ true → n ≡ cond b (Some state) o → (if is_some n then 0 else length (occupied_within s (rectangles_in (content_of s c))) + 1) ≡ 0
      at true o n t e = rw e refl
      at false o n t e = cc

  pub less-entered : (ts : List Task) → has_formula (content_of s c) ≡ true → get nat_cmp old c ≡ None → tasks_left s new (ts ++ Leave c ∷ enters (occupied_within s (rectangles_in (content_of s c)))) ≤ tasks_left s old ts
  less-entered ts f n =
      let cells = occupied_within s (rectangles_in (content_of s c)) in
      let less = sums_less (tasks_of s old) (tasks_of s new) fewer_tasks c no_tasks (cells_with_formula s) (formula_cell s c f) in
      let brought : tasks_of s old c ≡ length cells + 1 = ap (λ (o : Option Progress). if is_some o then 0 else length cells + 1) n in
      let long = length-append ts (Leave c ∷ enters cells) in
      let same = entered_length cells in
      omega arith
    where
      entered_length : (xs : List ℕ) → length (enters xs) ≡ length xs
      entered_length [] = refl
      entered_length (x ∷ xs) = omega (arith, length-append (enters xs) (Enter x ∷ []), entered_length xs)

-- a cell that is looked at for the first time: it has a formula or none
pub less-taken : (s : Sheet) (old new : BTreeMap ℕ Progress) (c : ℕ) (ts more : List Task) → get nat_cmp old c ≡ None → (has_formula (content_of s c) ≡ false → (more ≡ ts) × (new ≡ old)) →
    (has_formula (content_of s c) ≡ true → more ≡ ts ++ Leave c ∷ enters (occupied_within s (rectangles_in (content_of s c)))) → (has_formula (content_of s c) ≡ true → Updates nat_cmp old new c (Some Open)) → tasks_left s new more ≤ tasks_left s old ts
less-taken s old new c ts more n plain tasks progress = at (has_formula (content_of s c)) refl
  where
    at : (b : Bool) → has_formula (content_of s c) ≡ b → tasks_left s new more ≤ tasks_left s old ts
    at true f = rw (tasks f) (less-entered s old new c Open (progress f).0 ts f n)
    at false f = rw ((plain f).0, (plain f).1) (omega arith)
