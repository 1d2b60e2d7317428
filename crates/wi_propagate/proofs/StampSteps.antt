-- Generations that the numbers of edits tell, and that are stamped late.
use Rattle.wi_propagate.proofs.Words.{◌≡◌, ◌==◌, ◌||◌, ◌⊎◌, inl, inr, ◌≤◌, ◌+◌, ◌++◌, max, ℕ, zero, suc, Bool, true, false, cond, List, [], ◌∷◌, map, Option, Some, None, IsSome, refl, ap, sym, ◌∙◌, subst, arith, or_cases, or_left, or_right, or_parts, false_from_ne_true, unwrap_or, nat_cmp, keys_of, lookup, is_at, is_at-eq, turn_test, Sheet, content_of, cells_with_formula, Walks, Reaches, is_one_of, SameOff, in_cone, numbered, IsLatest, IsDirty, AreDirty, IsUnread, latest_among, clash, same_cell, formula_cell, reader_formula, in_front, in_back, latest_of_cone, one_is_latest, latest_is_among, edit_owes, none_is_dirty, Generations, generation_in, HasGeneration, Stamps, stamped_in, flushed, AreAllStamped, AreKeptUp, AreStamped, IsHeadOf}

-- ---- what is told

-- a look-up among cells, each with what a function gives
looked_up : (f : ℕ → ℕ) (ks : List ℕ) (c : ℕ) → lookup (is_at (nat_cmp c)) (map (λ k. (k, f k)) ks) ≡ cond (is_one_of ks c) (Some (f c)) None
looked_up f [] c = refl
looked_up f (k ∷ ks) c = at (is_at (nat_cmp c) k) (is_at-eq c k) (looked_up f ks c)
  where
    at : (b : Bool) → b ≡ (c == k) → lookup (is_at (nat_cmp c)) (map (λ x. (x, f x)) ks) ≡ cond (is_one_of ks c) (Some (f c)) None →
        cond b (Some (f k)) (lookup (is_at (nat_cmp c)) (map (λ x. (x, f x)) ks)) ≡ cond ((k == c) || is_one_of ks c) (Some (f c)) None
    at true t ih = sym (ap (λ (x : ℕ). Some (f x)) (same_cell k c (sym t))) ∙ ap (λ (b : Bool). cond (b || is_one_of ks c) (Some (f c)) None) (sym (turn_test k c ∙ sym t))
    at false t ih = ih ∙ ap (λ (b : Bool). cond (b || is_one_of ks c) (Some (f c)) None) (t ∙ turn_test c k)

-- a cell that no edit named has 0
unnamed : (ns : Generations) (c : ℕ) → is_one_of (keys_of ns) c ≡ false → generation_in ns c ≡ 0
unnamed [] c h = refl
unnamed (e ∷ es) c h = at (is_at (nat_cmp c) e.0) (is_at-eq c e.0) (or_parts (e.0 == c) _ h) (unnamed es c)
  where
    at : (b : Bool) → b ≡ (c == e.0) → ((e.0 == c) ≡ false) × (is_one_of (keys_of es) c ≡ false) → (is_one_of (keys_of es) c ≡ false → generation_in es c ≡ 0) → unwrap_or (cond b (Some e.1) (lookup (is_at (nat_cmp c)) es)) 0 ≡ 0
    at true t p ih = clash (e.0 == c) (turn_test e.0 c ∙ sym t) p.0
    at false t p ih = ih p.1

-- a cell without a formula that no edit named rests on none
none_reached : (s : Sheet) (ns : Generations) (c : ℕ) → is_one_of (keys_of ns ++ cells_with_formula s) c ≡ false → latest_among s (generation_in ns) (keys_of ns) c ≡ 0
none_reached s ns c h = at (latest_is_among s (generation_in ns) (keys_of ns) c (unnamed ns)).reached
  where
    alone : (n d : ℕ) → Walks n s c d → c ≡ d
    alone zero d w = w
    alone (suc n) d w = clash (is_one_of (keys_of ns ++ cells_with_formula s) c) (in_back (keys_of ns) (cells_with_formula s) c (formula_cell s c (reader_formula (content_of s c) w.0 w.1))) h

    zero_here : generation_in ns c ≡ 0
    zero_here = unnamed ns c (false_from_ne_true (is_one_of (keys_of ns) c) (λ m. clash (is_one_of (keys_of ns ++ cells_with_formula s) c) (in_front (keys_of ns) (cells_with_formula s) c m) h))

    at : (latest_among s (generation_in ns) (keys_of ns) c ≡ 0) ⊎ ((d : ℕ) × Reaches s c d × (generation_in ns d ≡ latest_among s (generation_in ns) (keys_of ns) c)) → latest_among s (generation_in ns) (keys_of ns) c ≡ 0
    at (inl z) = z
    at (inr x) = sym x.2 ∙ ap (generation_in ns) (sym (alone x.1.0 x.0 x.1.1)) ∙ zero_here

pub flushed_is : (s : Sheet) (ns : Generations) (c : ℕ) → generation_in (flushed s ns) c ≡ latest_among s (generation_in ns) (keys_of ns) c
unfolding flushed
flushed_is s ns c = ap (λ (o : Option ℕ). unwrap_or o 0) (looked_up (latest_among s (generation_in ns) (keys_of ns)) (keys_of ns ++ cells_with_formula s) c) ∙ at (is_one_of (keys_of ns ++ cells_with_formula s) c) refl
  where
    at : (b : Bool) → is_one_of (keys_of ns ++ cells_with_formula s) c ≡ b → unwrap_or (cond b (Some (latest_among s (generation_in ns) (keys_of ns) c)) None) 0 ≡ latest_among s (generation_in ns) (keys_of ns) c
    at true e = refl
    at false e = sym (none_reached s ns c e)

-- it is the latest
pub flushed_latest : (s : Sheet) (ns : Generations) (c : ℕ) → IsLatest s (generation_in ns) c (generation_in (flushed s ns) c)
flushed_latest s ns c = subst (IsLatest s (generation_in ns) c) (sym (flushed_is s ns c)) (latest_is_among s (generation_in ns) (keys_of ns) c (unnamed ns))

same_numbers : (s : Sheet) (f g : ℕ → ℕ) (c n : ℕ) → ((d : ℕ) → f d ≡ g d) → IsLatest s f c n → IsLatest s g c n
same_numbers s f g c n e l = record { most = λ d w. subst (λ (m : ℕ). m ≤ n) (e d) (l.most d w); reached = at l.reached }
  where
    at : (n ≡ 0) ⊎ ((d : ℕ) × Reaches s c d × (f d ≡ n)) → (n ≡ 0) ⊎ ((d : ℕ) × Reaches s c d × (g d ≡ n))
    at (inl z) = inl z
    at (inr x) = inr (x.0, x.1, sym (e x.0) ∙ x.2)

-- room for numbers tells nothing new
pub flushed_same : (s : Sheet) (old new : Generations) → ((c : ℕ) → generation_in new c ≡ generation_in old c) → (c : ℕ) → generation_in (flushed s new) c ≡ generation_in (flushed s old) c
flushed_same s old new e c = one_is_latest s (generation_in old) c _ _ (same_numbers s (generation_in new) (generation_in old) c _ e (flushed_latest s new c)) (flushed_latest s old c)

-- an edit is told of its cone
pub flushed_after : (s t : Sheet) (xs : List ℕ) (old new : Generations) (k : ℕ) → SameOff s t xs → ((d : ℕ) → generation_in old d ≤ k) → ((c : ℕ) → generation_in new c ≡ numbered xs k (generation_in old) c) →
    (c : ℕ) → generation_in (flushed t new) c ≡ cond (in_cone s xs c) k (generation_in (flushed s old) c)
flushed_after s t xs old new k same l e c = at (in_cone s xs c) refl
  where
    laws : (in_cone s xs c ≡ true → IsLatest t (numbered xs k (generation_in old)) c k) × (in_cone s xs c ≡ false → (n : ℕ) → IsLatest s (generation_in old) c n → IsLatest t (numbered xs k (generation_in old)) c n)
    laws = latest_of_cone s t xs (generation_in old) k c same l

    now : IsLatest t (numbered xs k (generation_in old)) c (generation_in (flushed t new) c)
    now = same_numbers t (generation_in new) (numbered xs k (generation_in old)) c _ e (flushed_latest t new c)

    at : (b : Bool) → in_cone s xs c ≡ b → generation_in (flushed t new) c ≡ cond b k (generation_in (flushed s old) c)
    at true i = one_is_latest t (numbered xs k (generation_in old)) c _ _ now (laws.0 i)
    at false i = one_is_latest t (numbered xs k (generation_in old)) c _ _ now (laws.1 i _ (flushed_latest s old c))

-- ---- what is stamped late

-- where none is dirty, what a cell is stamped with is its generation
pub stamped_is_flushed : (s : Sheet) (edits : ℕ) (g : Stamps) → AreKeptUp s edits g → g.dirty ≡ [] → (c : ℕ) → stamped_in g.edited_at g.valid_since c ≡ generation_in (flushed s g.edited_at) c
stamped_is_flushed s edits g k e c = none_is_dirty s (generation_in g.edited_at) (stamped_in g.edited_at g.valid_since) g.dirty c _ (λ x. ap (λ (xs : List ℕ). is_one_of xs x) e) k.stamped.dirty (flushed_latest s g.edited_at c)

-- over an edit
pub kept_up_after : (s t : Sheet) (xs : List ℕ) (old mid new : Stamps) (edits n : ℕ) → SameOff s t xs → n ≡ edits + 1 →
    ((c : ℕ) → generation_in mid.edited_at c ≡ generation_in old.edited_at c) → ((x : ℕ) → is_one_of old.dirty x ≡ true → is_one_of mid.dirty x ≡ true) → ((x : ℕ) → is_one_of xs x ≡ true → (is_one_of mid.dirty x ≡ true) ⊎ IsUnread s x) →
    ((c : ℕ) → generation_in new.edited_at c ≡ numbered xs n (generation_in mid.edited_at) c) → ((c : ℕ) → generation_in new.valid_since c ≡ generation_in old.valid_since c) → new.dirty ≡ mid.dirty → IsHeadOf t new.head new.cone → AreKeptUp s edits old → AreKeptUp t n new
kept_up_after s t xs old mid new edits n same e edited_at stays dirty renamed valid_since still head k = record {
  past = λ c. past c (is_one_of xs c) (numbers c);
  stamped = record { dirty = λ c m l. after c m (edit_owes s t xs old.dirty mid.dirty (generation_in old.edited_at) (stamped_in old.edited_at old.valid_since) n same below dirty stays (λ d. (generation_in (flushed s old.edited_at) d, flushed_latest s old.edited_at d)) k.stamped.dirty c m (same_numbers t (generation_in new.edited_at) (numbered xs n (generation_in old.edited_at)) c m numbers l)); head = head };
}
  where
    numbers : (c : ℕ) → generation_in new.edited_at c ≡ numbered xs n (generation_in old.edited_at) c
    numbers c = renamed c ∙ ap (λ (m : ℕ). cond (is_one_of xs c) n m) (edited_at c)

    below : (d : ℕ) → generation_in old.edited_at d ≤ n
    below d = let b = k.past d in omega (arith, b, e)

    past : (c : ℕ) (b : Bool) → generation_in new.edited_at c ≡ cond b n (generation_in old.edited_at c) → generation_in new.edited_at c ≤ n
    past c true h = omega (arith, h)
    past c false h = let b = below c in omega (arith, h, b)

    stamped_below : (c : ℕ) → generation_in old.valid_since c ≤ n
    stamped_below c =
        let l = flushed_latest s old.edited_at c in
        let o = (k.stamped.dirty c _ l).no_later in
        at (generation_in (flushed s old.edited_at) c) o l.reached
      where
        at : (m : ℕ) → stamped_in old.edited_at old.valid_since c ≤ m → (m ≡ 0) ⊎ ((d : ℕ) × Reaches s c d × (generation_in old.edited_at d ≡ m)) → generation_in old.valid_since c ≤ n
        at m o (inl z) = omega (arith, o, z)
        at m o (inr x) = let b = below x.0 in omega (arith, o, b, x.2)

    -- what a cell is stamped with then
    stamped_then : (c : ℕ) → stamped_in new.edited_at new.valid_since c ≡ numbered xs n (stamped_in old.edited_at old.valid_since) c
    stamped_then c =
        ap (λ (m : ℕ). max m (generation_in new.valid_since c)) (numbers c) ∙ ap (max (numbered xs n (generation_in old.edited_at) c)) (valid_since c) ∙ at (is_one_of xs c)
      where
        at : (b : Bool) → max (cond b n (generation_in old.edited_at c)) (generation_in old.valid_since c) ≡ cond b n (stamped_in old.edited_at old.valid_since c)
        at true = let b = stamped_below c in omega (arith, b)
        at false = refl

    after : (c m : ℕ) → IsDirty t (numbered xs n (generation_in old.edited_at)) mid.dirty (numbered xs n (stamped_in old.edited_at old.valid_since)) c m → IsDirty t (generation_in new.edited_at) new.dirty (stamped_in new.edited_at new.valid_since) c m
    after c m o = record { no_later = subst (λ (x : ℕ). x ≤ m) (sym (stamped_then c)) o.no_later; stamped_or_dirty = at o.stamped_or_dirty }
      where
        at : (numbered xs n (stamped_in old.edited_at old.valid_since) c ≡ m) ⊎ ((x : ℕ) × (is_one_of mid.dirty x ≡ true) × Reaches t c x × (numbered xs n (generation_in old.edited_at) x ≡ m)) → (stamped_in new.edited_at new.valid_since c ≡ m) ⊎ ((x : ℕ) × (is_one_of new.dirty x ≡ true) × Reaches t c x × (generation_in new.edited_at x ≡ m))
        at (inl h) = inl (stamped_then c ∙ h)
        at (inr x) = inr (x.0, ap (λ (ys : List ℕ). is_one_of ys x.0) still ∙ x.1, x.2, numbers x.0 ∙ x.3)

-- and where an edit was refused, or room was made alone
pub kept_up_more : (s : Sheet) (old new : Stamps) (edits : ℕ) → ((c : ℕ) → generation_in new.edited_at c ≡ generation_in old.edited_at c) → new.valid_since ≡ old.valid_since → (new.head ≡ old.head) × (new.cone ≡ old.cone) → ((x : ℕ) → is_one_of old.dirty x ≡ true → is_one_of new.dirty x ≡ true) → AreKeptUp s edits old → AreKeptUp s edits new
kept_up_more s old new edits edited_at valid_since head stays k = record {
  past = λ c. subst (λ (m : ℕ). m ≤ edits) (sym (edited_at c)) (k.past c);
  stamped = record {
    dirty = λ c n l. dirty c n (k.stamped.dirty c n (same_numbers s (generation_in new.edited_at) (generation_in old.edited_at) c n edited_at l));
    head = subst (λ (o : Option ℕ). IsHeadOf s o new.cone) (sym head.0) (subst (IsHeadOf s old.head) (sym head.1) k.stamped.head);
  };
}
  where
    stamped_then : (c : ℕ) → stamped_in new.edited_at new.valid_since c ≡ stamped_in old.edited_at old.valid_since c
    stamped_then c = ap (λ (m : ℕ). max m (generation_in new.valid_since c)) (edited_at c) ∙ ap (λ (ns : Generations). max (generation_in old.edited_at c) (generation_in ns c)) valid_since

    dirty : (c n : ℕ) → IsDirty s (generation_in old.edited_at) old.dirty (stamped_in old.edited_at old.valid_since) c n → IsDirty s (generation_in new.edited_at) new.dirty (stamped_in new.edited_at new.valid_since) c n
    dirty c n o = record { no_later = subst (λ (x : ℕ). x ≤ n) (sym (stamped_then c)) o.no_later; stamped_or_dirty = at o.stamped_or_dirty }
      where
        at : (stamped_in old.edited_at old.valid_since c ≡ n) ⊎ ((x : ℕ) × (is_one_of old.dirty x ≡ true) × Reaches s c x × (generation_in old.edited_at x ≡ n)) → (stamped_in new.edited_at new.valid_since c ≡ n) ⊎ ((x : ℕ) × (is_one_of new.dirty x ≡ true) × Reaches s c x × (generation_in new.edited_at x ≡ n))
        at (inl h) = inl (stamped_then c ∙ h)
        at (inr x) = inr (x.0, stays x.0 x.1, x.2, edited_at x.0 ∙ x.3)

-- and where it was flushed
pub flushed_up : (s : Sheet) (edits : ℕ) (old new : Stamps) → new.edited_at ≡ old.edited_at → AreStamped s new → AreKeptUp s edits old → AreKeptUp s edits new
flushed_up s edits old new e o k = record { past = λ c. subst (λ (ns : Generations). generation_in ns c ≤ edits) (sym e) (k.past c); stamped = o }

pub all_stamped : (s : Sheet) (edits : ℕ) (old new : Stamps) → new.edited_at ≡ old.edited_at → AreStamped s new → new.dirty ≡ [] → AreKeptUp s edits old → AreAllStamped s edits new
all_stamped s edits old new e o none k = record { kept_up = flushed_up s edits old new e o k; none_dirty = none }

-- ---- a cell of a map of numbers is one of its keys, and the other way round

pub key_there : (gs : Generations) (c : ℕ) → HasGeneration gs c → is_one_of (keys_of gs) c ≡ true
key_there [] c h = cc
key_there (e ∷ es) c h = at (is_at (nat_cmp c) e.0) (is_at-eq c e.0) h (key_there es c)
  where
    at : (b : Bool) → b ≡ (c == e.0) → IsSome (cond b (Some e.1) (lookup (is_at (nat_cmp c)) es)) → (HasGeneration es c → is_one_of (keys_of es) c ≡ true) → ((e.0 == c) || is_one_of (keys_of es) c) ≡ true
    at true t k ih = or_left (e.0 == c) _ (turn_test e.0 c ∙ sym t)
    at false t k ih = or_right (e.0 == c) _ (ih k)

pub there_key : (gs : Generations) (c : ℕ) → is_one_of (keys_of gs) c ≡ true → HasGeneration gs c
there_key [] c h = cc
there_key (e ∷ es) c h = at (is_at (nat_cmp c) e.0) (is_at-eq c e.0) (or_cases (e.0 == c) _ h) (there_key es c)
  where
    at : (b : Bool) → b ≡ (c == e.0) → ((e.0 == c) ≡ true) ⊎ (is_one_of (keys_of es) c ≡ true) → (is_one_of (keys_of es) c ≡ true → HasGeneration es c) → IsSome (cond b (Some e.1) (lookup (is_at (nat_cmp c)) es))
    at true t k ih = refl
    at false t (inl k) ih = clash (e.0 == c) k (turn_test e.0 c ∙ sym t)
    at false t (inr k) ih = ih k

-- ---- where nothing was edited

abbrev pub no_numbers : Stamps
no_numbers = record { edited_at = []; valid_since = []; head = None; cone = []; dirty = [] }

pub flushed_none : (s : Sheet) (g : Stamps) (c : ℕ) → g ≡ no_numbers → generation_in (flushed s g.edited_at) c ≡ 0
flushed_none s g c e = ap (λ (x : Stamps). generation_in (flushed s x.edited_at) c) e ∙ flushed_is s [] c

pub none_kept_up : (s : Sheet) (n : ℕ) (g : Stamps) → g ≡ no_numbers → AreKeptUp s n g
none_kept_up s n g e = subst (AreKeptUp s n) (sym e) (record {
  past = λ c. omega arith;
  stamped = record { dirty = λ c m l. at c m l.reached; head = tt {0} };
})
  where
    owes : (m : ℕ) → m ≡ 0 → (c : ℕ) → IsDirty s (generation_in []) [] (stamped_in no_numbers.edited_at no_numbers.valid_since) c m
    owes m z c = record { no_later = omega arith; stamped_or_dirty = inl (sym z) }

    at : (c m : ℕ) → (m ≡ 0) ⊎ ((d : ℕ) × Reaches s c d × (generation_in [] d ≡ m)) → IsDirty s (generation_in []) [] (stamped_in no_numbers.edited_at no_numbers.valid_since) c m
    at c m (inl z) = owes m z c
    at c m (inr x) = owes m (sym x.2) c

-- ---- what is owed by a call

pub dirty_key : {U : Type 0} (gs : Generations) (x : ℕ) → HasGeneration gs x ⊎ U → (is_one_of (keys_of gs) x ≡ true) ⊎ U
dirty_key gs x (inl h) = inl (key_there gs x h)
dirty_key gs x (inr u) = inr u
