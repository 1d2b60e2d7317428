-- Laws of the latest edit that a cell's value may rest on.
use Rattle.wi_graph.proofs.Words.{◌≡◌, ◌⊎◌, inl, inr, ◌<◌, ◌≤◌, ◌==◌, ◌&&◌, ◌||◌, not, max, ℕ, zero, suc, Bool, true, false, cond, List, [], ◌∷◌, Option, ap, sym, ◌∙◌, refl, subst, arith, Content, Sheet, content_of, content_reads, Walks, Reaches, is_one_of, SameOff, reaches, in_cone, numbered, IsLatest, LatestOfCone, OneIsLatest, LatestRises, LatestByStep, IsDirty, IsUnread, EditDirties, NoneIsDirty, FlushesOne, FlushingBegins, DirtyStays, latest_among, LatestIsAmong, false_from_ne_true, cases_Bool, cases_lt, or_cases, or_left, or_right, or-false}
use Rattle.wi_graph.proofs.Tests.{clash, is_itself}
use Rattle.wi_graph.proofs.Walks.{same_cell}
use Rattle.wi_graph.proofs.ReachTest.{reaches_true, true_reaches, in_cone_true, true_in_cone, not_in_cone}
use Rattle.wi_graph.proofs.Cones.{cone_stays, cone_closed, outside_reaches}

-- ---- numbers

at_named : (xs : List ℕ) (k : ℕ) (number : ℕ → ℕ) (d : ℕ) → is_one_of xs d ≡ true → numbered xs k number d ≡ k
at_named xs k number d h = ap (λ (b : Bool). cond b k (number d)) h

at_other : (xs : List ℕ) (k : ℕ) (number : ℕ → ℕ) (d : ℕ) → is_one_of xs d ≡ false → numbered xs k number d ≡ number d
at_other xs k number d h = ap (λ (b : Bool). cond b k (number d)) h

no_later_than : (xs : List ℕ) (k : ℕ) (number : ℕ → ℕ) (d : ℕ) → number d ≤ k → numbered xs k number d ≤ k
no_later_than xs k number d l = at (is_one_of xs d)
  where
    at : (b : Bool) → cond b k (number d) ≤ k
    at true = omega arith
    at false = l

-- ---- an edit

in_its_cone : (s t : Sheet) (xs : List ℕ) (number : ℕ → ℕ) (k c : ℕ) → SameOff s t xs → ((d : ℕ) → number d ≤ k) → in_cone s xs c ≡ true → IsLatest t (numbered xs k number) c k
in_its_cone s t xs number k c same l i =
    let j = (cone_stays s t xs c same).0 (in_cone_true s xs c i) in
    record {
      most = λ d w. no_later_than xs k number d (l d);
      reached = inr (j.0, j.2, at_named xs k number j.0 j.1);
    }

module _ (s t : Sheet) (xs : List ℕ) (c : ℕ) (same : SameOff s t xs) (out : in_cone s xs c ≡ false) where
  reached_before : (d : ℕ) → Reaches t c d → Reaches s c d
  reached_before d w = reaches_true s c d (outside_reaches s t xs c d same (not_in_cone s xs c out) ∙ true_reaches t c d w)

  reached_after : (d : ℕ) → Reaches s c d → Reaches t c d
  reached_after d w = reaches_true t c d (sym (outside_reaches s t xs c d same (not_in_cone s xs c out)) ∙ true_reaches s c d w)

  not_named : (d : ℕ) → Reaches s c d → is_one_of xs d ≡ false
  not_named d w = false_from_ne_true (is_one_of xs d) (λ m. not_in_cone s xs c out (d, m, w))

outside_its_cone : (s t : Sheet) (xs : List ℕ) (number : ℕ → ℕ) (k c n : ℕ) → SameOff s t xs → in_cone s xs c ≡ false → IsLatest s number c n → IsLatest t (numbered xs k number) c n
outside_its_cone s t xs number k c n same out l = record {
  most = λ d w.
      let v = reached_before s t xs c same out d w in
      subst (λ (m : ℕ). m ≤ n) (sym (at_other xs k number d (not_named s t xs c same out d v))) (l.most d v);
  reached = at l.reached;
}
  where
    at : (n ≡ 0) ⊎ ((d : ℕ) × Reaches s c d × (number d ≡ n)) → (n ≡ 0) ⊎ ((d : ℕ) × Reaches t c d × (numbered xs k number d ≡ n))
    at (inl z) = inl z
    at (inr x) = inr (x.0, reached_after s t xs c same out x.0 x.1, at_other xs k number x.0 (not_named s t xs c same out x.0 x.1) ∙ x.2)

pub latest_of_cone : LatestOfCone
latest_of_cone s t xs number k c same l = (in_its_cone s t xs number k c same l, λ i n h. outside_its_cone s t xs number k c n same i h)

-- ---- there is one

no_more : (s : Sheet) (number : ℕ → ℕ) (c m n : ℕ) → IsLatest s number c m → IsLatest s number c n → m ≤ n
no_more s number c m n k l = at k.reached
  where
    at : (m ≡ 0) ⊎ ((d : ℕ) × Reaches s c d × (number d ≡ m)) → m ≤ n
    at (inl z) = omega (arith, z)
    at (inr x) = let b = l.most x.0 x.1 in omega (arith, b, x.2)

pub one_is_latest : OneIsLatest
one_is_latest s number c m n k l =
    let a = no_more s number c m n k l in
    let b = no_more s number c n m l k in
    omega (arith, a, b)

-- ---- it rises

by_read : (s : Sheet) (c d e : ℕ) → content_reads (content_of s c) d ≡ true → Reaches s d e → Reaches s c e
by_read s c d e r w = (suc w.0, (d, r, w.1))

pub latest_rises : LatestRises
latest_rises s number c d m n r k l = at k.reached
  where
    at : (m ≡ 0) ⊎ ((e : ℕ) × Reaches s d e × (number e ≡ m)) → m ≤ n
    at (inl z) = omega (arith, z)
    at (inr x) = let b = l.most x.0 (by_read s c d x.0 r x.1) in omega (arith, b, x.2)

pub latest_by_step : LatestByStep
latest_by_step s number latest c n k own read found = record { most = λ d w. most d w.0 w.1; reached = at found }
  where
    most : (d m : ℕ) → Walks m s c d → number d ≤ n
    most d zero w = subst (λ (e : ℕ). number e ≤ n) w own
    most d (suc m) w =
        let a = (k w.0 w.1).most d (m, w.2) in
        let b = read w.0 w.1 in
        omega (arith, a, b)

    by : (d : ℕ) → content_reads (content_of s c) d ≡ true → latest d ≡ n → (latest d ≡ 0) ⊎ ((e : ℕ) × Reaches s d e × (number e ≡ latest d)) → (n ≡ 0) ⊎ ((e : ℕ) × Reaches s c e × (number e ≡ n))
    by d r e (inl z) = inl (sym e ∙ z)
    by d r e (inr x) = inr (x.0, by_read s c d x.0 r x.1, x.2 ∙ e)

    at : (number c ≡ n) ⊎ ((d : ℕ) × (content_reads (content_of s c) d ≡ true) × (latest d ≡ n)) → (n ≡ 0) ⊎ ((e : ℕ) × Reaches s c e × (number e ≡ n))
    at (inl e) = inr (c, (0, refl), e)
    at (inr x) = by x.0 x.1 x.2 (k x.0 x.1).reached

-- ---- what is dirty

dirty_outside : (s t : Sheet) (xs dirty more : List ℕ) (number stamped : ℕ → ℕ) (k c n : ℕ) → SameOff s t xs → ((x : ℕ) → is_one_of dirty x ≡ true → is_one_of more x ≡ true) → in_cone s xs c ≡ false → IsDirty s number dirty stamped c n →
    IsDirty t (numbered xs k number) more (numbered xs k stamped) c n
dirty_outside s t xs dirty more number stamped k c n same g out o =
    let e = at_other xs k stamped c (not_named s t xs c same out c (0, refl)) in
    let b = o.no_later in
    record { no_later = omega (arith, e, b); stamped_or_dirty = at o.stamped_or_dirty }
  where
    at : (stamped c ≡ n) ⊎ ((x : ℕ) × (is_one_of dirty x ≡ true) × Reaches s c x × (number x ≡ n)) → (numbered xs k stamped c ≡ n) ⊎ ((x : ℕ) × (is_one_of more x ≡ true) × Reaches t c x × (numbered xs k number x ≡ n))
    at (inl e) = inl (at_other xs k stamped c (not_named s t xs c same out c (0, refl)) ∙ e)
    at (inr x) = inr (x.0, g x.0 x.1, reached_after s t xs c same out x.0 x.2, at_other xs k number x.0 (not_named s t xs c same out x.0 x.2) ∙ x.3)

-- a cell of the cone reaches an edited cell before the edit and after it
first_edited : (n : ℕ) (s t : Sheet) (xs : List ℕ) (c a : ℕ) → SameOff s t xs → is_one_of xs a ≡ true → Walks n s c a → (b : ℕ) × (is_one_of xs b ≡ true) × Reaches s c b × Reaches t c b
first_edited zero s t xs c a same m w = (a, m, (0, w), (0, w))
first_edited (suc n) s t xs c a same m w = at (is_one_of xs c) refl (first_edited n s t xs w.0 a same m w.2)
  where
    at : (b : Bool) → is_one_of xs c ≡ b → (e : ℕ) × (is_one_of xs e ≡ true) × Reaches s w.0 e × Reaches t w.0 e → (e : ℕ) × (is_one_of xs e ≡ true) × Reaches s c e × Reaches t c e
    at true h i = (c, h, (0, refl), (0, refl))
    at false h i = (i.0, i.1, (suc i.2.0, (w.0, w.1, i.2.1)), (suc i.3.0, (w.0, ap (λ (o : Option Content). content_reads o w.0) (sym (same c h)) ∙ w.1, i.3.1)))

-- what nothing reads is reached by itself alone
unread_alone : (n : ℕ) (s : Sheet) (c a : ℕ) → IsUnread s a → Walks n s c a → c ≡ a
unread_alone zero s c a u w = w
unread_alone (suc n) s c a u w =
    let e = unread_alone n s w.0 a u w.2 in
    clash (content_reads (content_of s c) a) (subst (λ (d : ℕ). content_reads (content_of s c) d ≡ true) e w.1) (u c)

pub edit_owes : EditDirties
edit_owes s t xs dirty more number stamped k same l f g there o c n h = at (in_cone s xs c) refl
  where
    inside : k ≡ n → (b : ℕ) → is_one_of xs b ≡ true → Reaches s c b → Reaches t c b → (is_one_of more b ≡ true) ⊎ IsUnread s b → (numbered xs k stamped c ≡ n) ⊎ ((x : ℕ) × (is_one_of more x ≡ true) × Reaches t c x × (numbered xs k number x ≡ n))
    inside e b m w v (inl r) = inr (b, r, v, at_named xs k number b m ∙ e)
    inside e b m w v (inr u) = inl (at_named xs k stamped c (ap (is_one_of xs) (unread_alone w.0 s c b u w.1) ∙ m) ∙ e)

    before : (m : ℕ) → IsLatest s number c m → stamped c ≤ k
    before m i = at_most m (o c m i).no_later i.reached
      where
        at_most : (m : ℕ) → stamped c ≤ m → (m ≡ 0) ⊎ ((d : ℕ) × Reaches s c d × (number d ≡ m)) → stamped c ≤ k
        at_most m b (inl z) = omega (arith, b, z)
        at_most m b (inr x) = let y = l x.0 in omega (arith, b, y, x.2)

    at : (b : Bool) → in_cone s xs c ≡ b → IsDirty t (numbered xs k number) more (numbered xs k stamped) c n
    at true i =
        let e = one_is_latest t (numbered xs k number) c k n (in_its_cone s t xs number k c same l i) h in
        let j = in_cone_true s xs c i in
        let w = first_edited j.2.0 s t xs c j.0 same j.1 j.2.1 in
        let b = no_later_than xs k stamped c (before (there c).0 (there c).1) in
        record { no_later = omega (arith, b, e); stamped_or_dirty = inside e w.0 w.1 w.2 w.3 (f w.0 w.1) }
    at false i =
        let b = there c in
        let e = one_is_latest t (numbered xs k number) c b.0 n (outside_its_cone s t xs number k c b.0 same i b.1) h in
        subst (IsDirty t (numbered xs k number) more (numbered xs k stamped) c) e (dirty_outside s t xs dirty more number stamped k c b.0 same g i (o c b.0 b.1))

pub none_is_dirty : NoneIsDirty
none_is_dirty s number stamped dirty c n none o l = at (o c n l).stamped_or_dirty
  where
    at : (stamped c ≡ n) ⊎ ((x : ℕ) × (is_one_of dirty x ≡ true) × Reaches s c x × (number x ≡ n)) → stamped c ≡ n
    at (inl e) = e
    at (inr x) = clash (is_one_of dirty x.0) x.1 (none x.0)

-- ---- one after another

-- a cell in the cone of one cell reaches it
reaches_one : (s : Sheet) (x c : ℕ) → in_cone s (x ∷ []) c ≡ true → Reaches s c x
reaches_one s x c i =
    let j = in_cone_true s (x ∷ []) c i in
    subst (Reaches s c) (sym (same_cell j.0 x (sym (or-false (x == j.0)) ∙ j.1))) j.2

one_reached : (s : Sheet) (x c : ℕ) → Reaches s c x → in_cone s (x ∷ []) c ≡ true
one_reached s x c w = true_in_cone s (x ∷ []) c (x, or_left (x == x) false (is_itself x), w)

pub flushes_one : FlushesOne
flushes_one s number stamped after rest less x last visited now part falls shown raised k = record {
  dirty = λ c n l. dirty c n l;
  closed = λ c d r h. shown c ∙ up c d r (or_cases (visited d) (in_cone s (x ∷ []) d) (sym (shown d) ∙ h));
  high = λ c h. high c (or_cases (visited c) (in_cone s (x ∷ []) c) (sym (shown c) ∙ h));
}
  where
    up : (c d : ℕ) → content_reads (content_of s c) d ≡ true → (visited d ≡ true) ⊎ (in_cone s (x ∷ []) d ≡ true) → (visited c || in_cone s (x ∷ []) c) ≡ true
    up c d r (inl h) = or_left (visited c) _ (k.closed c d r h)
    up c d r (inr h) = or_right (visited c) _ (cone_closed s (x ∷ []) c d r h)

    no_less : (c : ℕ) → stamped c ≤ after c
    no_less c = at (in_cone s (x ∷ []) c && not (visited c)) (raised c)
      where
        at : (b : Bool) → after c ≡ cond b (max (stamped c) (number x)) (stamped c) → stamped c ≤ after c
        at true e = omega (arith, e)
        at false e = omega (arith, e)

    in_it : (c : ℕ) → in_cone s (x ∷ []) c ≡ true → (visited c ≡ true) ⊎ (visited c ≡ false) → number x ≤ after c
    in_it c i (inl u) = let a = k.high c u in let b = no_less c in omega (arith, a, b, falls)
    in_it c i (inr u) =
        let e : after c ≡ max (stamped c) (number x) = raised c ∙ ap (λ (b : Bool). cond (b && not (visited c)) (max (stamped c) (number x)) (stamped c)) i ∙ ap (λ (b : Bool). cond (true && not b) (max (stamped c) (number x)) (stamped c)) u in
        omega (arith, e)

    high : (c : ℕ) → (visited c ≡ true) ⊎ (in_cone s (x ∷ []) c ≡ true) → number x ≤ after c
    high c (inl u) = let a = k.high c u in let b = no_less c in omega (arith, a, b, falls)
    high c (inr i) = in_it c i (cases_Bool (visited c))

    no_more : (c n : ℕ) → IsLatest s number c n → after c ≤ n
    no_more c n l = at (cases_Bool (in_cone s (x ∷ []) c))
      where
        before : stamped c ≤ n
        before = (k.dirty c n l).no_later

        there : number x ≤ n → (b : Bool) → after c ≡ cond b (max (stamped c) (number x)) (stamped c) → after c ≤ n
        there m true e = let b = before in omega (arith, e, m, b)
        there m false e = let b = before in omega (arith, e, b)

        at : (in_cone s (x ∷ []) c ≡ true) ⊎ (in_cone s (x ∷ []) c ≡ false) → after c ≤ n
        at (inl i) = there (l.most x (reaches_one s x c i)) (in_cone s (x ∷ []) c && not (visited c)) (raised c)
        at (inr i) = let e = raised c ∙ ap (λ (b : Bool). cond (b && not (visited c)) (max (stamped c) (number x)) (stamped c)) i in let b = before in omega (arith, e, b)

    dirty : (c n : ℕ) → IsLatest s number c n → IsDirty s number less after c n
    dirty c n l = record { no_later = no_more c n l; stamped_or_dirty = at (k.dirty c n l).stamped_or_dirty }
      where
        of_it : (y : ℕ) → Reaches s c y → number y ≡ n → x ≡ y → after c ≡ n
        of_it y w e q =
            let a = in_it c (one_reached s x c (subst (Reaches s c) (sym q) w)) (cases_Bool (visited c)) in
            let b = no_more c n l in
            let f = ap number q in
            omega (arith, a, b, e, f)

        by : (y : ℕ) → Reaches s c y → number y ≡ n → (x ≡ y) ⊎ (is_one_of less y ≡ true) → (after c ≡ n) ⊎ ((z : ℕ) × (is_one_of less z ≡ true) × Reaches s c z × (number z ≡ n))
        by y w e (inl q) = inl (of_it y w e q)
        by y w e (inr m) = inr (y, m, w, e)

        at : (stamped c ≡ n) ⊎ ((y : ℕ) × (is_one_of rest y ≡ true) × Reaches s c y × (number y ≡ n)) → (after c ≡ n) ⊎ ((z : ℕ) × (is_one_of less z ≡ true) × Reaches s c z × (number z ≡ n))
        at (inl e) = let a = no_less c in let b = no_more c n l in inl (omega (arith, a, b, e))
        at (inr y) = by y.0 y.2 y.3 (part y.0 y.1)

pub flushing_begins : FlushingBegins
flushing_begins s number stamped rest visited last none o = record {
  dirty = o;
  closed = λ c d r h. clash (visited d) h (none d);
  high = λ c h. clash (visited c) h (none c);
}

pub dirty_stays : DirtyStays
dirty_stays s number stamped after dirty more g b o c n l = record { no_later = (b c n l).1; stamped_or_dirty = at (o c n l).stamped_or_dirty }
  where
    at : (stamped c ≡ n) ⊎ ((x : ℕ) × (is_one_of dirty x ≡ true) × Reaches s c x × (number x ≡ n)) → (after c ≡ n) ⊎ ((x : ℕ) × (is_one_of more x ≡ true) × Reaches s c x × (number x ≡ n))
    at (inl e) = let p = (b c n l).0 in let q = (b c n l).1 in inl (omega (arith, e, p, q))
    at (inr x) = inr (x.0, g x.0 x.1, x.2, x.3)

-- ---- a list of numbers

among_most : (s : Sheet) (number : ℕ → ℕ) (ks : List ℕ) (c d : ℕ) → is_one_of ks d ≡ true → Reaches s c d → number d ≤ latest_among s number ks c
among_most s number [] c d h w = cc
among_most s number (k ∷ ks) c d h w = at (or_cases (k == d) _ h) (among_most s number ks c d)
  where
    first : k ≡ d → number d ≤ latest_among s number (k ∷ ks) c
    first e =
        let r : reaches s c k ≡ true = true_reaches s c k (subst (Reaches s c) (sym e) w) in
        let f : cond (reaches s c k) (number k) 0 ≡ number k = ap (λ (b : Bool). cond b (number k) 0) r in
        let g = ap number e in
        omega (arith, f, g)

    at : ((k == d) ≡ true) ⊎ (is_one_of ks d ≡ true) → (is_one_of ks d ≡ true → Reaches s c d → number d ≤ latest_among s number ks c) → number d ≤ latest_among s number (k ∷ ks) c
    at (inl e) ih = first (same_cell d k e)
    at (inr m) ih = let b = ih m w in omega (arith, b)

among_reached : (s : Sheet) (number : ℕ → ℕ) (ks : List ℕ) (c : ℕ) → (latest_among s number ks c ≡ 0) ⊎ ((d : ℕ) × Reaches s c d × (number d ≡ latest_among s number ks c))
among_reached s number [] c = inl refl
among_reached s number (k ∷ ks) c = at (reaches s c k) refl (among_reached s number ks c)
  where
    greater : (a b : ℕ) → (max a b ≡ a) ⊎ (max a b ≡ b)
    greater a b = cases (cases_lt a b)
      where
        cases : (a < b) ⊎ (b ≤ a) → (max a b ≡ a) ⊎ (max a b ≡ b)
        cases (inl h) = inr (omega (arith, h))
        cases (inr h) = inl (omega (arith, h))

    by_rest : (m : ℕ) → max m (latest_among s number ks c) ≡ latest_among s number ks c → (latest_among s number ks c ≡ 0) ⊎ ((d : ℕ) × Reaches s c d × (number d ≡ latest_among s number ks c)) → (max m (latest_among s number ks c) ≡ 0) ⊎ ((d : ℕ) × Reaches s c d × (number d ≡ max m (latest_among s number ks c)))
    by_rest m e (inl z) = inl (e ∙ z)
    by_rest m e (inr y) = inr (y.0, y.1, y.2 ∙ sym e)

    at : (b : Bool) → reaches s c k ≡ b → (latest_among s number ks c ≡ 0) ⊎ ((d : ℕ) × Reaches s c d × (number d ≡ latest_among s number ks c)) →
        (max (cond b (number k) 0) (latest_among s number ks c) ≡ 0) ⊎ ((d : ℕ) × Reaches s c d × (number d ≡ max (cond b (number k) 0) (latest_among s number ks c)))
    at false r o = by_rest 0 (omega arith) o
    at true r o = two (greater (number k) (latest_among s number ks c))
      where
        two : (max (number k) (latest_among s number ks c) ≡ number k) ⊎ (max (number k) (latest_among s number ks c) ≡ latest_among s number ks c) → (max (number k) (latest_among s number ks c) ≡ 0) ⊎ ((d : ℕ) × Reaches s c d × (number d ≡ max (number k) (latest_among s number ks c)))
        two (inl e) = inr (k, reaches_true s c k r, sym e)
        two (inr e) = by_rest (number k) e o

pub latest_is_among : LatestIsAmong
latest_is_among s number ks c none = record { most = λ d w. most d w (cases_Bool (is_one_of ks d)); reached = among_reached s number ks c }
  where
    most : (d : ℕ) → Reaches s c d → (is_one_of ks d ≡ true) ⊎ (is_one_of ks d ≡ false) → number d ≤ latest_among s number ks c
    most d w (inl m) = among_most s number ks c d m w
    most d w (inr m) = let z = none d m in omega (arith, z)
