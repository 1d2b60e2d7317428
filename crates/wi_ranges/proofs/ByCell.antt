-- The pairs that readers by cell are: what is added up over them, and whether one of them passes a test.
use Rattle.wi_ranges.proofs.Words.{◌≡◌, ◌==◌, ℕ, ◌+◌, Bool, true, false, ◌&&◌, ◌||◌, cond, List, [], ◌∷◌, ◌++◌, Option, Some, None, refl, sym, ap, subst, ◌∙◌, arith, nat_le, unwrap_or, list_any, sum_by, IsDistinct, AllByRecursion, IsPermutation, keys_of, lookup, set_value, remove_entry, insert_entry, match_ordering, is_eq, Ordering, Less, Equal, Greater, nat_cmp, is_at, is_at-eq, at_same, IsStrictlySortedBy, IsDistinct-from_sorted, true≢false, or_from, le-leb, eqb-true, eq-eqb, nat_tests, map-append, same_Some, list_any-append, sum_by-cons, sum_by-append, sum_by_push, IsPermutation-map, sum_by-IsPermutation, IsDistinct-head, IsDistinct-tail, set_value_same, not, is_some, if◌then◌else◌, or-false, Area, row_of, column_of, is_within, within_between, RangePair, is_same, pair_reads, is_one_of, single_pair, pairs_at, pairs_of, HasPairMore}
use Rattle.wi_tiles.proofs.MapSteps.{nothing_put, nothing_there, replaced_nowhere, something_there}

abbrev pub Entries : Type 0
Entries = List (ℕ × List ℕ)

-- whether a key is the cell a
abbrev pub same : ℕ → ℕ → Bool
same a k = is_at (nat_cmp a) k

-- the cells ascend, so that none stands twice
pub distinct : (es : Entries) → IsStrictlySortedBy nat_cmp (keys_of es) → IsDistinct same (keys_of es)
distinct es s = IsDistinct-from_sorted nat_cmp (keys_of es) s

-- ---- what is added up over them

-- what the readers of one cell add
abbrev weight : (RangePair → ℕ) → ℕ × List ℕ → ℕ
weight f e = sum_by f (pairs_at e.0 e.1)

sum_pairs : (f : RangePair → ℕ) (es : Entries) → sum_by f (pairs_of es) ≡ sum_by (weight f) es
sum_pairs f [] = refl
sum_pairs f (e ∷ es) = sum_by-append f (pairs_at e.0 e.1) (pairs_of es) ∙ ap (λ n. weight f e + n) (sum_pairs f es) ∙ sym (sum_by-cons (weight f) e es)

no_value : {X : Type 0} {v : List ℕ} → None ≡ Some v → X
no_value h = absurd (let k = h in cc)

module _ (g : ℕ × List ℕ → ℕ) (a : ℕ) (v : List ℕ) where
  set_sum : (w : List ℕ) (es : Entries) → lookup (same a) es ≡ Some v → sum_by g (set_value (same a) es w) + g (a, v) ≡ sum_by g es + g (a, w)
  set_sum w [] h = no_value h
  set_sum w (e ∷ es) h = by (same a e.0) refl h (set_sum w es)
    where
      by : (b : Bool) → same a e.0 ≡ b → cond b (Some e.1) (lookup (same a) es) ≡ Some v
          → (lookup (same a) es ≡ Some v → sum_by g (set_value (same a) es w) + g (a, v) ≡ sum_by g es + g (a, w))
          → sum_by g (cond b ((e.0, w) ∷ es) (e ∷ set_value (same a) es w)) + g (a, v) ≡ sum_by g (e ∷ es) + g (a, w)
      by true s k r =
          let here : e.0 ≡ a = at_same a e.0 s in
          let old : g e ≡ g (a, v) = ap (λ (n : ℕ). g (n, e.1)) here ∙ ap (λ (us : List ℕ). g (a, us)) (same_Some _ _ k) in
          let new : g (e.0, w) ≡ g (a, w) = ap (λ (n : ℕ). g (n, w)) here in
          let x = sum_by-cons g (e.0, w) es in
          let y = sum_by-cons g e es in
          omega (arith, old, new, x, y)
      by false s k r =
          let x = sum_by-cons g e (set_value (same a) es w) in
          let y = sum_by-cons g e es in
          omega (arith, r k, x, y)

  removed_sum : (es : Entries) → lookup (same a) es ≡ Some v → sum_by g es ≡ sum_by g (remove_entry (same a) es) + g (a, v)
  removed_sum [] h = no_value h
  removed_sum (e ∷ es) h = sum_by-cons g e es ∙ by (same a e.0) refl h (removed_sum es)
    where
      by : (b : Bool) → same a e.0 ≡ b → cond b (Some e.1) (lookup (same a) es) ≡ Some v
          → (lookup (same a) es ≡ Some v → sum_by g es ≡ sum_by g (remove_entry (same a) es) + g (a, v))
          → g e + sum_by g es ≡ sum_by g (cond b es (e ∷ remove_entry (same a) es)) + g (a, v)
      by true s k r =
          let old : g e ≡ g (a, v) = ap (λ (n : ℕ). g (n, e.1)) (at_same a e.0 s) ∙ ap (λ (us : List ℕ). g (a, us)) (same_Some _ _ k) in
          omega (arith, old)
      by false s k r = let x = sum_by-cons g e (remove_entry (same a) es) in omega (arith, r k, x)

  inserted_sum : (es : Entries) → lookup (same a) es ≡ None → sum_by g (insert_entry nat_cmp es a v) ≡ sum_by g es + g (a, v)
  inserted_sum [] h = let x = sum_by-cons g (a, v) [] in omega (arith, x)
  inserted_sum (e ∷ es) h = by (nat_cmp a e.0) refl h (inserted_sum es)
    where
      by : (o : Ordering) → nat_cmp a e.0 ≡ o → cond (is_eq o) (Some e.1) (lookup (same a) es) ≡ None
          → (lookup (same a) es ≡ None → sum_by g (insert_entry nat_cmp es a v) ≡ sum_by g es + g (a, v))
          → sum_by g (match_ordering o ((a, v) ∷ e ∷ es) ((e.0, v) ∷ es) (e ∷ insert_entry nat_cmp es a v)) ≡ sum_by g (e ∷ es) + g (a, v)
      by Less s k r = let x = sum_by-cons g (a, v) (e ∷ es) in omega (arith, x)
      by Equal s k r = no_value (sym k)
      by Greater s k r =
          let x = sum_by-cons g e (insert_entry nat_cmp es a v) in
          let y = sum_by-cons g e es in
          omega (arith, x, y, r k)

-- a value put in the place of one that was put there
set_twice : (t : ℕ → Bool) (es : Entries) (u w : List ℕ) → set_value t (set_value t es u) w ≡ set_value t es w
set_twice t [] u w = refl
set_twice t (e ∷ es) u w = by (t e.0) refl (set_twice t es u w)
  where
    by : (b : Bool) → t e.0 ≡ b → set_value t (set_value t es u) w ≡ set_value t es w → set_value t (cond b ((e.0, u) ∷ es) (e ∷ set_value t es u)) w ≡ cond b ((e.0, w) ∷ es) (e ∷ set_value t es w)
    by true s r = ap (λ b. cond b ((e.0, w) ∷ es) ((e.0, u) ∷ set_value t es w)) s
    by false s r = ap (λ b. cond b ((e.0, w) ∷ set_value t es u) (e ∷ set_value t (set_value t es u) w)) s ∙ ap (λ (l : Entries). e ∷ l) r

-- ---- one more, or less

-- of a pair p of one cell
module _ (p : RangePair) (one : single_pair p.first p.reader ≡ p) where
  weight_one : (f : RangePair → ℕ) → weight f (p.first, p.reader ∷ []) ≡ f p
  weight_one f = sum_by-cons f (single_pair p.first p.reader) [] ∙ ap (λ n. n + 0) (ap f one) ∙ omega arith

  -- a first reader
  pub more_of_new : (v : List ℕ) (es fs : Entries) → lookup (same p.first) es ≡ None → v ≡ p.reader ∷ [] → fs ≡ insert_entry nat_cmp es p.first v → HasPairMore p (pairs_of es) (pairs_of fs)
  more_of_new v es fs none first put f =
      let x = inserted_sum (weight f) p.first v es none in
      let y : weight f (p.first, v) ≡ f p = ap (λ (us : List ℕ). weight f (p.first, us)) first ∙ weight_one f in
      let s = sum_pairs f es in
      let t : sum_by f (pairs_of fs) ≡ sum_by (weight f) (insert_entry nat_cmp es p.first v) = sum_pairs f fs ∙ ap (sum_by (weight f)) put in
      omega (arith, x, y, s, t)

  -- one more reader
  pub more_of_few : (v w : List ℕ) (es fs : Entries) → lookup (same p.first) es ≡ Some v → w ≡ v ++ p.reader ∷ [] → fs ≡ set_value (same p.first) es w → HasPairMore p (pairs_of es) (pairs_of fs)
  more_of_few v w es fs h e put f =
      let x = set_sum (weight f) p.first v w es h in
      let y : weight f (p.first, w) ≡ weight f (p.first, v) + f p =
      ap (λ (us : List ℕ). weight f (p.first, us)) e ∙ ap (sum_by f) (map-append (single_pair p.first) v (p.reader ∷ []))
      ∙ sum_by_push f (pairs_at p.first v) (single_pair p.first p.reader) ∙ ap (λ n. weight f (p.first, v) + n) (ap f one) in
      let s = sum_pairs f es in
      let t : sum_by f (pairs_of fs) ≡ sum_by (weight f) (set_value (same p.first) es w) = sum_pairs f fs ∙ ap (sum_by (weight f)) put in
      omega (arith, x, y, s, t)

  -- one of some readers
  pub less_of_few : (v w : List ℕ) (es fs : Entries) → lookup (same p.first) es ≡ Some v → IsPermutation v (p.reader ∷ w) → fs ≡ set_value (same p.first) es w → HasPairMore p (pairs_of fs) (pairs_of es)
  less_of_few v w es fs h e put f =
      let x = set_sum (weight f) p.first v w es h in
      let y : weight f (p.first, v) ≡ f p + weight f (p.first, w) =
      sym (sum_by-IsPermutation f (pairs_at p.first v) (pairs_at p.first (p.reader ∷ w)) (IsPermutation-map (single_pair p.first) v (p.reader ∷ w) e))
      ∙ sum_by-cons f (single_pair p.first p.reader) (pairs_at p.first w) ∙ ap (λ n. n + weight f (p.first, w)) (ap f one) in
      let s = sum_pairs f es in
      let t : sum_by f (pairs_of fs) ≡ sum_by (weight f) (set_value (same p.first) es w) = sum_pairs f fs ∙ ap (sum_by (weight f)) put in
      omega (arith, x, y, s, t)

  -- the last reader
  pub less_of_one : (es fs : Entries) → lookup (same p.first) es ≡ Some (p.reader ∷ []) → fs ≡ remove_entry (same p.first) es → HasPairMore p (pairs_of fs) (pairs_of es)
  less_of_one es fs h gone f =
      let x = removed_sum (weight f) p.first (p.reader ∷ []) es h in
      let s = sum_pairs f es in
      let t : sum_by f (pairs_of fs) ≡ sum_by (weight f) (remove_entry (same p.first) es) = sum_pairs f fs ∙ ap (sum_by (weight f)) gone in
      omega (arith, x, s, t, weight_one f)

-- what was put where nothing stood, and what was put where something stands already
pub put_new : (a : ℕ) (v : List ℕ) (es : Entries) {b : Bool} {fs : Entries} → b ≡ not (is_some (lookup (same a) es)) → b ≡ true → fs ≡ (if is_some (lookup (same a) es) then es else insert_entry nat_cmp es a v) → (lookup (same a) es ≡ None) × (fs ≡ insert_entry nat_cmp es a v)
put_new a v es {b} {fs} told new put =
    let none = nothing_there (lookup (same a) es) b told new in (
      none,
      put ∙ ap (λ (o : Option (List ℕ)). if is_some o then es else insert_entry nat_cmp es a v) none,
    )

pub put_none : (a : ℕ) (v : List ℕ) (es : Entries) {b : Bool} {fs : Entries} → b ≡ not (is_some (lookup (same a) es)) → b ≡ false → fs ≡ (if is_some (lookup (same a) es) then es else insert_entry nat_cmp es a v) → fs ≡ es
put_none a v es {b} {fs} told new put = nothing_put es fs a v put (something_there (lookup (same a) es) b told new)

-- what stands at a cell, taken out for a while and put back as w
pub put_back : (a : ℕ) (u w : List ℕ) (es fs gs : Entries) → fs ≡ set_value (same a) es u → gs ≡ set_value (same a) fs w → gs ≡ set_value (same a) es w
put_back a u w es fs gs out back = back ∙ ap (λ (l : Entries). set_value (same a) l w) out ∙ set_twice (same a) es u w

-- the same readers
pub same_few : (a : ℕ) (v w : List ℕ) (es fs : Entries) → lookup (same a) es ≡ Some v → w ≡ v → fs ≡ set_value (same a) es w → pairs_of fs ≡ pairs_of es
same_few a v w es fs h e put = ap pairs_of (put ∙ ap (set_value (same a) es) e ∙ set_value_same (same a) es v h)

-- where the cell has none there is nothing in whose place a value could be put
pub same_without : (a : ℕ) (w : List ℕ) (es fs : Entries) → lookup (same a) es ≡ None → fs ≡ set_value (same a) es w → pairs_of fs ≡ pairs_of es
same_without a w es fs none put = ap pairs_of (put ∙ replaced_nowhere es a w none)

-- ---- whether one of them passes a test

-- the readers of a cell
abbrev readers_at : Entries → ℕ → List ℕ
readers_at es a = unwrap_or (lookup (same a) es) []

any_at : (t : RangePair → Bool) (b : Bool) (k r : ℕ) → ((x : ℕ) → t (single_pair k x) ≡ (b && (x == r))) → (rs : List ℕ) → list_any t (pairs_at k rs) ≡ (b && is_one_of rs r)
any_at t true k r h [] = refl
any_at t false k r h [] = refl
any_at t true k r h (x ∷ xs) = rw (h x, any_at t true k r h xs) refl
any_at t false k r h (x ∷ xs) = rw (h x, any_at t false k r h xs) refl

-- a test that only the pair of the cell a and the reader r passes
module _ (t : RangePair → Bool) (a r : ℕ) (one : (k x : ℕ) → t (single_pair k x) ≡ (same a k && (x == r))) where
  at_key : (b : Bool) (e : ℕ × List ℕ) → same a e.0 ≡ b → list_any t (pairs_at e.0 e.1) ≡ (b && is_one_of e.1 r)
  at_key b e s = any_at t b e.0 r (λ x. one e.0 x ∙ ap (λ c. c && (x == r)) s) e.1

  none_at_others : (es : Entries) → AllByRecursion (λ k. same a k ≡ false) (keys_of es) → list_any t (pairs_of es) ≡ false
  none_at_others [] l = refl
  none_at_others (e ∷ es) l = list_any-append t (pairs_at e.0 e.1) (pairs_of es) ∙ or_from _ _ (at_key false e l.0) (none_at_others es l.1)

  any_of_pairs : (es : Entries) → IsDistinct same (keys_of es) → list_any t (pairs_of es) ≡ is_one_of (readers_at es a) r
  any_of_pairs [] d = refl
  any_of_pairs (e ∷ es) d =
      list_any-append t (pairs_at e.0 e.1) (pairs_of es) ∙ by (same a e.0) refl (any_of_pairs es (IsDistinct-tail same e.0 (keys_of es) d))
    where
      by : (b : Bool) → same a e.0 ≡ b → list_any t (pairs_of es) ≡ is_one_of (readers_at es a) r
          → (list_any t (pairs_at e.0 e.1) || list_any t (pairs_of es)) ≡ is_one_of (unwrap_or (cond b (Some e.1) (lookup (same a) es)) []) r
      by true s i =
          let others = subst (λ (k : ℕ). AllByRecursion (λ y. same k y ≡ false) (keys_of es)) (at_same a e.0 s) (IsDistinct-head same e.0 (keys_of es) d) in
          ap (λ c. c || list_any t (pairs_of es)) (at_key true e s) ∙ ap (λ c. is_one_of e.1 r || c) (none_at_others es others) ∙ or-false (is_one_of e.1 r)
      by false s i = ap (λ c. c || list_any t (pairs_of es)) (at_key false e s) ∙ i

same_one : (a r k x : ℕ) → is_same (single_pair a r) (single_pair k x) ≡ (same a k && (x == r))
same_one a r k x = grind (arith, nat_tests)

abbrev cell_alone : ℕ → Area
cell_alone k = record { first = k; last = k }

in_itself : (k : ℕ) → is_within (cell_alone k) k ≡ true
in_itself k =
    let itself : (n : ℕ) → nat_le n n ≡ true = λ n. le-leb n n (omega arith) in
    let row = itself (row_of k) in
    let column = itself (column_of k) in
    rw (row, column) refl

alone : (k a : ℕ) → is_within (cell_alone k) a ≡ (a == k)
alone k a = by (is_within (cell_alone k) a) (a == k) refl refl
  where
    by : (b c : Bool) → is_within (cell_alone k) a ≡ b → (a == k) ≡ c → b ≡ c
    by true true h e = refl
    by false false h e = refl
    by true false h e =
        let between = within_between (cell_alone k) a h in
        absurd (true≢false (sym (eq-eqb a k (omega (arith, between.0, between.1))) ∙ e))
    by false true h e = absurd (true≢false (sym (ap (λ (n : ℕ). is_within (cell_alone k) n) (eqb-true a k e) ∙ in_itself k) ∙ h))

reads_one : (a r k x : ℕ) → pair_reads a r (single_pair k x) ≡ (same a k && (x == r))
reads_one a r k x = ap (λ b. b && (x == r)) (alone k a ∙ sym (is_at-eq a k))

same_of_pairs : (p : RangePair) → single_pair p.first p.reader ≡ p → (es : Entries) → IsDistinct same (keys_of es) → list_any (is_same p) (pairs_of es) ≡ is_one_of (readers_at es p.first) p.reader
same_of_pairs p one es d =
    ap (λ (q : RangePair). list_any (is_same q) (pairs_of es)) (sym one) ∙ any_of_pairs (is_same (single_pair p.first p.reader)) p.first p.reader (same_one p.first p.reader) es d

-- the pair is not there
pub none_in_few : (p : RangePair) → single_pair p.first p.reader ≡ p → (v : List ℕ) (es : Entries) → IsDistinct same (keys_of es) → lookup (same p.first) es ≡ Some v → is_one_of v p.reader ≡ false → list_any (is_same p) (pairs_of es) ≡ false
none_in_few p one v es d h none = same_of_pairs p one es d ∙ ap (λ (o : Option (List ℕ)). is_one_of (unwrap_or o []) p.reader) h ∙ none

pub none_without : (p : RangePair) → single_pair p.first p.reader ≡ p → (es : Entries) → IsDistinct same (keys_of es) → lookup (same p.first) es ≡ None → list_any (is_same p) (pairs_of es) ≡ false
none_without p one es d h = same_of_pairs p one es d ∙ ap (λ (o : Option (List ℕ)). is_one_of (unwrap_or o []) p.reader) h

pub reads_of_few : (a r : ℕ) (v : List ℕ) (es : Entries) → IsDistinct same (keys_of es) → lookup (same a) es ≡ Some v → list_any (pair_reads a r) (pairs_of es) ≡ is_one_of v r
reads_of_few a r v es d h = any_of_pairs (pair_reads a r) a r (reads_one a r) es d ∙ ap (λ (o : Option (List ℕ)). is_one_of (unwrap_or o []) r) h

pub reads_without : (a r : ℕ) (es : Entries) → IsDistinct same (keys_of es) → lookup (same a) es ≡ None → list_any (pair_reads a r) (pairs_of es) ≡ false
reads_without a r es d h = any_of_pairs (pair_reads a r) a r (reads_one a r) es d ∙ ap (λ (o : Option (List ℕ)). is_one_of (unwrap_or o []) r) h

-- ---- pairs of one cell, and others

apart : (p : RangePair) (k x : ℕ) → (p.first == p.last) ≡ false → is_same p (single_pair k x) ≡ false
apart p k x n = grind (arith, nat_tests)

pub no_single : (p : RangePair) → (p.first == p.last) ≡ false → (es : Entries) → list_any (is_same p) (pairs_of es) ≡ false
no_single p n [] = refl
no_single p n (e ∷ es) = list_any-append (is_same p) (pairs_at e.0 e.1) (pairs_of es) ∙ or_from _ _ (any_at (is_same p) false e.0 0 (λ x. apart p e.0 x n) e.1) (no_single p n es)

pub single_is : (p : RangePair) → (p.first == p.last) ≡ true → single_pair p.first p.reader ≡ p
single_is p e = ap (λ (l : ℕ). record { first = p.first; last = l; reader = p.reader }) (eqb-true p.first p.last e)
