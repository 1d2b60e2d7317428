-- The entries of cells: what a look-up finds in them, and what one cell's change makes of them.
use Rattle.wi_tiles.proofs.Words.{◌≡◌, ℕ, ◌+◌, ◌-◌, ◌<◌, ◌≤◌, List, [], ◌∷◌, ◌++◌, length, Option, Some, None, sym, ap, arith, ◌∙◌, zero, suc, refl, cond, ◌==◌, if◌then◌else◌, option_map, Less, nat_cmp, is_eq, match_ordering, is_at, insert_entry, All, AllByRecursion, All-nil, All-cons, keys_of, lookup, remove_entry, set_value, eq-eqb, ne_eqb, ◌≢◌, with_entry, entries_from, cmp_after, cmp_before, cmp_equal}
use Rattle.std.specs.List.Sorted.{IsStrictlySortedBy}

-- the first of some that ascend
rise_nil : IsStrictlySortedBy nat_cmp []
unfolding IsStrictlySortedBy
rise_nil = tt

rise_cons : (k : ℕ) (ks : List ℕ) → AllByRecursion (λ y. nat_cmp k y ≡ Less) ks → IsStrictlySortedBy nat_cmp ks → IsStrictlySortedBy nat_cmp (k ∷ ks)
unfolding IsStrictlySortedBy
rise_cons k ks after rest = (after, rest)

module _ {V : Type 0} where
  -- cells with the same have the same entries
  pub entries_same : (f g : ℕ → Option V) (s n : ℕ) → ((c : ℕ) → s ≤ c → c < s + n → g c ≡ f c) → entries_from g s n ≡ entries_from f s n
  entries_same f g s zero same = refl
  entries_same f g s (suc n) same =
      ap (λ o. with_entry s o (entries_from g (suc s) n)) (same s (omega arith) (omega arith))
      ∙ ap (λ es. with_entry s (f s) es) (entries_same f g (suc s) n (λ c l u. same c (omega arith) (omega arith)))

  with_entry-append : (s : ℕ) (o : Option V) (es ds : List (ℕ × V)) → with_entry s o (es ++ ds) ≡ with_entry s o es ++ ds
  with_entry-append s None es ds = refl
  with_entry-append s (Some v) es ds = refl

  -- some cells, and those after them
  pub entries_append : (f : ℕ → Option V) (s a b : ℕ) → entries_from f s (a + b) ≡ entries_from f s a ++ entries_from f (s + a) b
  entries_append f s zero b = ap (λ n. entries_from f s n) (let z : 0 + b ≡ b = omega arith in z) ∙ ap (λ t. entries_from f t b) (let z : s ≡ s + 0 = omega arith in z)
  entries_append f s (suc a) b =
      ap (λ n. entries_from f s n) (let z : suc a + b ≡ suc (a + b) = omega arith in z)
      ∙ ap (λ es. with_entry s (f s) es) (entries_append f (suc s) a b)
      ∙ with_entry-append s (f s) (entries_from f (suc s) a) (entries_from f (suc s + a) b)
      ∙ ap (λ t. entries_from f s (suc a) ++ entries_from f t b) (let z : suc s + a ≡ s + suc a = omega arith in z)

  -- those before a cell, its own entry, and those after it
  pub opened : (f : ℕ → Option V) (k n : ℕ) → k < n → entries_from f 0 n ≡ entries_from f 0 k ++ with_entry k (f k) (entries_from f (suc k) (n - suc k))
  opened f k n h =
      ap (λ m. entries_from f 0 m) (let z : n ≡ k + suc (n - suc k) = omega arith in z)
      ∙ entries_append f 0 k (suc (n - suc k))
      ∙ ap (λ t. entries_from f 0 k ++ entries_from f t (suc (n - suc k))) (let z : 0 + k ≡ k = omega arith in z)

  -- entries before a cell are passed
  module _ (f : ℕ → Option V) (k : ℕ) where
    pass_lookup : (s a : ℕ) (es : List (ℕ × V)) → s + a ≤ k → lookup (is_at (nat_cmp k)) (entries_from f s a ++ es) ≡ lookup (is_at (nat_cmp k)) es
    pass_lookup s zero es h = refl
    pass_lookup s (suc a) es h = at (f s) (pass_lookup (suc s) a es (omega arith))
      where
        at : (o : Option V) → (lookup (is_at (nat_cmp k)) (entries_from f (suc s) a ++ es) ≡ lookup (is_at (nat_cmp k)) es) → lookup (is_at (nat_cmp k)) (with_entry s o (entries_from f (suc s) a) ++ es) ≡ lookup (is_at (nat_cmp k)) es
        at None rest = rest
        at (Some v) rest = ap (λ r. cond (is_eq r) (Some v) (lookup (is_at (nat_cmp k)) (entries_from f (suc s) a ++ es))) (cmp_after k s (omega arith)) ∙ rest

    pass_insert : (w : V) (s a : ℕ) (es : List (ℕ × V)) → s + a ≤ k → insert_entry nat_cmp (entries_from f s a ++ es) k w ≡ entries_from f s a ++ insert_entry nat_cmp es k w
    pass_insert w s zero es h = refl
    pass_insert w s (suc a) es h = at (f s) (pass_insert w (suc s) a es (omega arith))
      where
        at : (o : Option V) → (insert_entry nat_cmp (entries_from f (suc s) a ++ es) k w ≡ entries_from f (suc s) a ++ insert_entry nat_cmp es k w) → insert_entry nat_cmp (with_entry s o (entries_from f (suc s) a) ++ es) k w ≡ with_entry s o (entries_from f (suc s) a) ++ insert_entry nat_cmp es k w
        at None rest = rest
        at (Some v) rest = ap (λ r. match_ordering r ((k, w) ∷ (s, v) ∷ (entries_from f (suc s) a ++ es)) ((s, w) ∷ (entries_from f (suc s) a ++ es)) ((s, v) ∷ insert_entry nat_cmp (entries_from f (suc s) a ++ es) k w)) (cmp_after k s (omega arith)) ∙ ap (λ ds. (s, v) ∷ ds) rest

    pass_remove : (s a : ℕ) (es : List (ℕ × V)) → s + a ≤ k → remove_entry (is_at (nat_cmp k)) (entries_from f s a ++ es) ≡ entries_from f s a ++ remove_entry (is_at (nat_cmp k)) es
    pass_remove s zero es h = refl
    pass_remove s (suc a) es h = at (f s) (pass_remove (suc s) a es (omega arith))
      where
        at : (o : Option V) → (remove_entry (is_at (nat_cmp k)) (entries_from f (suc s) a ++ es) ≡ entries_from f (suc s) a ++ remove_entry (is_at (nat_cmp k)) es) → remove_entry (is_at (nat_cmp k)) (with_entry s o (entries_from f (suc s) a) ++ es) ≡ with_entry s o (entries_from f (suc s) a) ++ remove_entry (is_at (nat_cmp k)) es
        at None rest = rest
        at (Some v) rest = ap (λ r. cond (is_eq r) (entries_from f (suc s) a ++ es) ((s, v) ∷ remove_entry (is_at (nat_cmp k)) (entries_from f (suc s) a ++ es))) (cmp_after k s (omega arith)) ∙ ap (λ ds. (s, v) ∷ ds) rest

    pass_set : (w : V) (s a : ℕ) (es : List (ℕ × V)) → s + a ≤ k → set_value (is_at (nat_cmp k)) (entries_from f s a ++ es) w ≡ entries_from f s a ++ set_value (is_at (nat_cmp k)) es w
    pass_set w s zero es h = refl
    pass_set w s (suc a) es h = at (f s) (pass_set w (suc s) a es (omega arith))
      where
        at : (o : Option V) → (set_value (is_at (nat_cmp k)) (entries_from f (suc s) a ++ es) w ≡ entries_from f (suc s) a ++ set_value (is_at (nat_cmp k)) es w) → set_value (is_at (nat_cmp k)) (with_entry s o (entries_from f (suc s) a) ++ es) w ≡ with_entry s o (entries_from f (suc s) a) ++ set_value (is_at (nat_cmp k)) es w
        at None rest = rest
        at (Some v) rest = ap (λ r. cond (is_eq r) ((s, w) ∷ (entries_from f (suc s) a ++ es)) ((s, v) ∷ set_value (is_at (nat_cmp k)) (entries_from f (suc s) a ++ es) w)) (cmp_after k s (omega arith)) ∙ ap (λ ds. (s, v) ∷ ds) rest

    -- a cell isn't among the entries after it
    past_lookup : (s n : ℕ) → k < s → lookup (is_at (nat_cmp k)) (entries_from f s n) ≡ None
    past_lookup s zero l = refl
    past_lookup s (suc n) l = at (f s) (past_lookup (suc s) n (omega arith))
      where
        at : (o : Option V) → (lookup (is_at (nat_cmp k)) (entries_from f (suc s) n) ≡ None) → lookup (is_at (nat_cmp k)) (with_entry s o (entries_from f (suc s) n)) ≡ None
        at None rest = rest
        at (Some v) rest = ap (λ r. cond (is_eq r) (Some v) (lookup (is_at (nat_cmp k)) (entries_from f (suc s) n))) (cmp_before k s l) ∙ rest

    past_insert : (w : V) (s n : ℕ) → k < s → insert_entry nat_cmp (entries_from f s n) k w ≡ (k, w) ∷ entries_from f s n
    past_insert w s zero l = refl
    past_insert w s (suc n) l = at (f s) (past_insert w (suc s) n (omega arith))
      where
        at : (o : Option V) → (insert_entry nat_cmp (entries_from f (suc s) n) k w ≡ (k, w) ∷ entries_from f (suc s) n) → insert_entry nat_cmp (with_entry s o (entries_from f (suc s) n)) k w ≡ (k, w) ∷ with_entry s o (entries_from f (suc s) n)
        at None rest = rest
        at (Some v) rest = ap (λ r. match_ordering r ((k, w) ∷ (s, v) ∷ entries_from f (suc s) n) ((s, w) ∷ entries_from f (suc s) n) ((s, v) ∷ insert_entry nat_cmp (entries_from f (suc s) n) k w)) (cmp_before k s l)

    past_remove : (s n : ℕ) → k < s → remove_entry (is_at (nat_cmp k)) (entries_from f s n) ≡ entries_from f s n
    past_remove s zero l = refl
    past_remove s (suc n) l = at (f s) (past_remove (suc s) n (omega arith))
      where
        at : (o : Option V) → (remove_entry (is_at (nat_cmp k)) (entries_from f (suc s) n) ≡ entries_from f (suc s) n) → remove_entry (is_at (nat_cmp k)) (with_entry s o (entries_from f (suc s) n)) ≡ with_entry s o (entries_from f (suc s) n)
        at None rest = rest
        at (Some v) rest = ap (λ r. cond (is_eq r) (entries_from f (suc s) n) ((s, v) ∷ remove_entry (is_at (nat_cmp k)) (entries_from f (suc s) n))) (cmp_before k s l) ∙ ap (λ ds. (s, v) ∷ ds) rest

    past_set : (w : V) (s n : ℕ) → k < s → set_value (is_at (nat_cmp k)) (entries_from f s n) w ≡ entries_from f s n
    past_set w s zero l = refl
    past_set w s (suc n) l = at (f s) (past_set w (suc s) n (omega arith))
      where
        at : (o : Option V) → (set_value (is_at (nat_cmp k)) (entries_from f (suc s) n) w ≡ entries_from f (suc s) n) → set_value (is_at (nat_cmp k)) (with_entry s o (entries_from f (suc s) n)) w ≡ with_entry s o (entries_from f (suc s) n)
        at None rest = rest
        at (Some v) rest = ap (λ r. cond (is_eq r) ((s, w) ∷ entries_from f (suc s) n) ((s, v) ∷ set_value (is_at (nat_cmp k)) (entries_from f (suc s) n) w)) (cmp_before k s l) ∙ ap (λ ds. (s, v) ∷ ds) rest

  module _ (f : ℕ → Option V) (k n : ℕ) (h : k < n) where
    -- the entries before and after it
    abbrev pub front : List (ℕ × V)
    front = entries_from f 0 k

    abbrev pub back : List (ℕ × V)
    back = entries_from f (suc k) (n - suc k)

    low : 0 + k ≤ k
    low = omega arith

    high : k < suc k
    high = omega arith

    pub lookup_entries : lookup (is_at (nat_cmp k)) (entries_from f 0 n) ≡ f k
    lookup_entries = ap (λ es. lookup (is_at (nat_cmp k)) es) (opened f k n h) ∙ pass_lookup f k 0 k (with_entry k (f k) back) low ∙ at (f k)
      where
        at : (o : Option V) → lookup (is_at (nat_cmp k)) (with_entry k o back) ≡ o
        at None = past_lookup f k (suc k) (n - suc k) high
        at (Some v) = ap (λ r. cond (is_eq r) (Some v) (lookup (is_at (nat_cmp k)) back)) (cmp_equal k k refl)

    module _ (g : ℕ → Option V) (o : Option V) (changed : (c : ℕ) → c < n → g c ≡ (if c == k then o else f c)) where
      same_at : (c : ℕ) → c < n → c ≢ k → g c ≡ f c
      same_at c l ne = changed c l ∙ ap (λ b. cond b o (f c)) (ne_eqb c k ne)

      -- the same before and after it, and its own entry
      pub reopened : entries_from g 0 n ≡ front ++ with_entry k o back
      reopened = opened g k n h
          ∙ ap (λ es. es ++ with_entry k (g k) (entries_from g (suc k) (n - suc k))) (entries_same f g 0 k (λ c l u. same_at c (omega arith) (λ z. omega (arith, z, u))))
          ∙ ap (λ p. front ++ with_entry k p (entries_from g (suc k) (n - suc k))) (changed k h ∙ ap (λ b. cond b o (f k)) (eq-eqb k k refl))
          ∙ ap (λ es. front ++ with_entry k o es) (entries_same f g (suc k) (n - suc k) (λ c l u. same_at c (omega arith) (λ z. omega (arith, z, l))))

    pub entries_put : (g : ℕ → Option V) (w : V) → f k ≡ None → ((c : ℕ) → c < n → g c ≡ (if c == k then Some w else f c)) → entries_from g 0 n ≡ insert_entry nat_cmp (entries_from f 0 n) k w
    entries_put g w none changed = reopened g (Some w) changed
        ∙ ap (λ es. front ++ es) (sym (past_insert f k w (suc k) (n - suc k) high) ∙ ap (λ o. insert_entry nat_cmp (with_entry k o back) k w) (sym none))
        ∙ sym (ap (λ es. insert_entry nat_cmp es k w) (opened f k n h) ∙ pass_insert f k w 0 k (with_entry k (f k) back) low)

    pub length_put : (g : ℕ → Option V) (w : V) → f k ≡ None → ((c : ℕ) → c < n → g c ≡ (if c == k then Some w else f c)) → length (entries_from g 0 n) ≡ length (entries_from f 0 n) + 1
    length_put g w none changed = ap length (reopened g (Some w) changed) ∙ longer front ∙ sym (ap (λ es. length es + 1) (opened f k n h ∙ ap (λ o. front ++ with_entry k o back) none))
      where
        longer : (es : List (ℕ × V)) → length (es ++ (k, w) ∷ back) ≡ length (es ++ back) + 1
        longer [] = omega arith
        longer (e ∷ es) = omega (arith, longer es)

    pub entries_cut : (g : ℕ → Option V) → ((c : ℕ) → c < n → g c ≡ (if c == k then None else f c)) → entries_from g 0 n ≡ remove_entry (is_at (nat_cmp k)) (entries_from f 0 n)
    entries_cut g changed = reopened g None changed ∙ ap (λ es. front ++ es) (at (f k)) ∙ sym (ap (λ es. remove_entry (is_at (nat_cmp k)) es) (opened f k n h) ∙ pass_remove f k 0 k (with_entry k (f k) back) low)
      where
        at : (o : Option V) → back ≡ remove_entry (is_at (nat_cmp k)) (with_entry k o back)
        at None = sym (past_remove f k (suc k) (n - suc k) high)
        at (Some v) = sym (ap (λ r. cond (is_eq r) back ((k, v) ∷ remove_entry (is_at (nat_cmp k)) back)) (cmp_equal k k refl))

    pub length_cut : (g : ℕ → Option V) (w : V) → f k ≡ Some w → ((c : ℕ) → c < n → g c ≡ (if c == k then None else f c)) → length (entries_from g 0 n) + 1 ≡ length (entries_from f 0 n)
    length_cut g w some changed = ap (λ es. length es + 1) (reopened g None changed) ∙ sym (ap length (opened f k n h ∙ ap (λ o. front ++ with_entry k o back) some) ∙ longer front)
      where
        longer : (es : List (ℕ × V)) → length (es ++ (k, w) ∷ back) ≡ length (es ++ back) + 1
        longer [] = omega arith
        longer (e ∷ es) = omega (arith, longer es)

    pub entries_set : (g : ℕ → Option V) (w : V) → ((c : ℕ) → c < n → g c ≡ (if c == k then option_map (λ _. w) (f k) else f c)) → entries_from g 0 n ≡ set_value (is_at (nat_cmp k)) (entries_from f 0 n) w
    entries_set g w changed = reopened g (option_map (λ _. w) (f k)) changed ∙ ap (λ es. front ++ es) (at (f k)) ∙ sym (ap (λ es. set_value (is_at (nat_cmp k)) es w) (opened f k n h) ∙ pass_set f k w 0 k (with_entry k (f k) back) low)
      where
        at : (o : Option V) → with_entry k (option_map (λ _. w) o) back ≡ set_value (is_at (nat_cmp k)) (with_entry k o back) w
        at None = sym (past_set f k w (suc k) (n - suc k) high)
        at (Some v) = sym (ap (λ r. cond (is_eq r) ((k, w) ∷ back) ((k, v) ∷ set_value (is_at (nat_cmp k)) back w)) (cmp_equal k k refl))

    pub length_set : (g : ℕ → Option V) (w : V) → ((c : ℕ) → c < n → g c ≡ (if c == k then option_map (λ _. w) (f k) else f c)) → length (entries_from g 0 n) ≡ length (entries_from f 0 n)
    length_set g w changed = ap length (reopened g (option_map (λ _. w) (f k)) changed) ∙ as_long front (f k) ∙ sym (ap length (opened f k n h))
      where
        as_long : (es : List (ℕ × V)) (o : Option V) → length (es ++ with_entry k (option_map (λ _. w) o) back) ≡ length (es ++ with_entry k o back)
        as_long [] None = refl
        as_long [] (Some v) = refl
        as_long (e ∷ es) o = omega (arith, as_long es o)

  -- there are no more entries than cells
  pub length_entries : (f : ℕ → Option V) (s n : ℕ) → length (entries_from f s n) ≤ n
  length_entries f s zero = omega arith
  length_entries f s (suc n) = at (f s) (length_entries f (suc s) n)
    where
      at : (o : Option V) → (length (entries_from f (suc s) n) ≤ n) → length (with_entry s o (entries_from f (suc s) n)) ≤ suc n
      at None rest = omega (arith, rest)
      at (Some v) rest = omega (arith, rest)

  -- cells that have nothing have no entries
  pub entries_none : (f : ℕ → Option V) (s n : ℕ) → ((c : ℕ) → f c ≡ None) → entries_from f s n ≡ []
  entries_none f s zero nothing = refl
  entries_none f s (suc n) nothing = ap (λ o. with_entry s o (entries_from f (suc s) n)) (nothing s) ∙ entries_none f (suc s) n nothing

  -- they stand in order
  all_after : (f : ℕ → Option V) (k s n : ℕ) → k < s → AllByRecursion (λ y. nat_cmp k y ≡ Less) (keys_of (entries_from f s n))
  all_after f k s zero l = tt
  all_after f k s (suc n) l = at (f s) (all_after f k (suc s) n (omega arith))
    where
      at : (o : Option V) → (AllByRecursion (λ y. nat_cmp k y ≡ Less) (keys_of (entries_from f (suc s) n))) → AllByRecursion (λ y. nat_cmp k y ≡ Less) (keys_of (with_entry s o (entries_from f (suc s) n)))
      at None rest = rest
      at (Some v) rest = (cmp_before k s l, rest)

  pub entries_rise : (f : ℕ → Option V) (s n : ℕ) → IsStrictlySortedBy nat_cmp (keys_of (entries_from f s n))
  entries_rise f s zero = rise_nil
  entries_rise f s (suc n) = at (f s) (entries_rise f (suc s) n)
    where
      at : (o : Option V) → (IsStrictlySortedBy nat_cmp (keys_of (entries_from f (suc s) n))) → IsStrictlySortedBy nat_cmp (keys_of (with_entry s o (entries_from f (suc s) n)))
      at None rest = rest
      at (Some v) rest = rise_cons s (keys_of (entries_from f (suc s) n)) (all_after f s (suc s) n (omega arith)) rest

  -- they are entries of these cells alone
  pub entries_below : (f : ℕ → Option V) (s n k : ℕ) → s + n ≤ k → All (λ e. e.0 < k) (entries_from f s n)
  entries_below f s zero k h = All-nil (λ e. e.0 < k)
  entries_below f s (suc n) k h = at (f s) (entries_below f (suc s) n k (omega arith))
    where
      at : (o : Option V) → All (λ e. e.0 < k) (entries_from f (suc s) n) → All (λ e. e.0 < k) (with_entry s o (entries_from f (suc s) n))
      at None rest = rest
      at (Some v) rest = All-cons (λ e. e.0 < k) (s, v) (entries_from f (suc s) n) (omega arith) rest
