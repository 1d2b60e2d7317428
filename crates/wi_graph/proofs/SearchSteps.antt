-- Steps of a search over readers.
use Rattle.wi_graph.proofs.Words.{◌≡◌, ◌==◌, ◌||◌, ◌⊎◌, inl, inr, not, ℕ, ◌+◌, ◌<◌, ◌↔◌, Bool, true, false, cond, List, [], ◌∷◌, ◌++◌, map, length, take, get_or, Some, Result, Ok, Err, IfOk, refl, ap, sym, ◌∙◌, subst, arith, or-false, or_assoc, list_any-append, or_cases, or_left, or_right, cases_Bool, not-true, not_from_false, length-append, Vec, Contains, lookup, unwrap_or, nat_cmp, BTreeSet, contains, IsStrictlyIncreasing, Sheet, content_of, content_reads, RangePair, Bag, IsReader, IsRead, is_same, count_of, same_is, is_one_of, in_cone, HasAll, HasReaders, IsLeast, IsConeOf, IsConeSet, as_set, missing, AreEnqueued, one_truth, taken_more, has_key, has-from_Contains, Contains-from_has}
use Rattle.wi_graph.proofs.Tests.{is_itself, clash}
use Rattle.wi_graph.proofs.Walks.{same_cell, shrinks, Same}
use Rattle.wi_graph.proofs.SetSteps.{in_last, in_front, in_back, Gains, gains, gains_stays, gains_one, gains_cases, taken}
use Rattle.wi_graph.proofs.Cones.{cone_has, cone_closed, cone_least}

-- ---- cells are enqueued

pub enqueued_none : (s : BTreeSet ℕ) (work : List ℕ) → AreEnqueued [] s s work work
enqueued_none s work = record {
  found = λ c. sym (or-false (contains nat_cmp s c));
  stays = λ c h. h;
  fresh = λ c h n. clash (contains nat_cmp s c) h n;
  within = λ c h. inl h;
  fewer = λ all h. omega arith;
}

pub was_new : (b d : Bool) → b ≡ not d → b ≡ true → d ≡ false
was_new b true e h = cc
was_new b false e h = refl

pub was_old : (b d : Bool) → b ≡ not d → b ≡ false → d ≡ true
was_old b true e h = refl
was_old b false e h = cc

has_more : (old new : BTreeSet ℕ) (x : ℕ) → Gains old new x → (c : ℕ) → contains nat_cmp new c ≡ (contains nat_cmp old c || is_one_of (x ∷ []) c)
has_more old new x g c = gains old new x g c ∙ by (x == c) (contains nat_cmp old c)
  where
    by : (b o : Bool) → cond b true o ≡ (o || (b || false))
    by true true = refl
    by true false = refl
    by false true = refl
    by false false = refl

its_own : (x : ℕ) → is_one_of (x ∷ []) x ≡ true
its_own x = or_left (x == x) false (is_itself x)

fewer_missing : (all : List ℕ) (mid new : BTreeSet ℕ) (x : ℕ) → Gains mid new x → contains nat_cmp mid x ≡ false → is_one_of all x ≡ true → length (missing new all) < length (missing mid all)
fewer_missing all mid new x g n m = at (shrinks (λ c. not (contains nat_cmp mid c)) (λ c. not (contains nat_cmp new c)) (λ c h. lacks c (contains nat_cmp mid c) refl (not-true (contains nat_cmp new c) h)) all)
  where
    lacks : (c : ℕ) (b : Bool) → contains nat_cmp mid c ≡ b → contains nat_cmp new c ≡ false → not b ≡ true
    lacks c true e h = clash (contains nat_cmp new c) (gains_stays mid new x g c e) h
    lacks c false e h = refl

    at : (length (missing new all) < length (missing mid all)) ⊎ Same (λ c. not (contains nat_cmp mid c)) (λ c. not (contains nat_cmp new c)) all → length (missing new all) < length (missing mid all)
    at (inl l) = l
    at (inr s) = clash (contains nat_cmp new x) (gains_one mid new x g) (not-true (contains nat_cmp new x) (s.1 x m (not_from_false (contains nat_cmp mid x) n)))

-- one that is new
pub enqueued_new : (x : ℕ) (old new : BTreeSet ℕ) (work more : List ℕ) → contains nat_cmp old x ≡ false → Gains old new x → more ≡ work ++ x ∷ [] → AreEnqueued (x ∷ []) old new work more
enqueued_new x old new work more h g w = record {
  found = has_more old new x g;
  stays = λ c k. ap (λ (xs : List ℕ). is_one_of xs c) w ∙ in_front work (x ∷ []) c k;
  fresh = λ c k u. ap (λ (xs : List ℕ). is_one_of xs c) w ∙ new_one c u (gains_cases old new x g c k);
  within = λ c k. at c (in_last work x c (ap (λ (xs : List ℕ). is_one_of xs c) (sym w) ∙ k));
  fewer = λ all k.
      let s = fewer_missing all old new x g h (k x (its_own x)) in
      let t : length more ≡ length work + 1 = ap (λ (xs : List ℕ). length xs) w ∙ length-append work (x ∷ []) in
      omega (arith, s, t);
}
  where
    new_one : (c : ℕ) → contains nat_cmp old c ≡ false → (x ≡ c) ⊎ (contains nat_cmp old c ≡ true) → is_one_of (work ++ x ∷ []) c ≡ true
    new_one c u (inl k) = in_back work (x ∷ []) c (or_left (x == c) false (ap (λ (y : ℕ). x == y) (sym k) ∙ is_itself x))
    new_one c u (inr k) = clash (contains nat_cmp old c) k u

    at : (c : ℕ) → (is_one_of work c ≡ true) ⊎ (x ≡ c) → (is_one_of work c ≡ true) ⊎ (contains nat_cmp new c ≡ true)
    at c (inl k) = inl k
    at c (inr k) = inr (ap (λ (y : ℕ). contains nat_cmp new y) (sym k) ∙ gains_one old new x g)

-- some, and then others
pub enqueued_both : (xs ys : List ℕ) (old mid new : BTreeSet ℕ) (before between after : List ℕ) → AreEnqueued xs old mid before between → AreEnqueued ys mid new between after → AreEnqueued (xs ++ ys) old new before after
enqueued_both xs ys old mid new before between after m n = record {
  found = λ c.
      n.found c ∙ ap (λ (b : Bool). b || is_one_of ys c) (m.found c) ∙ or_assoc (contains nat_cmp old c) (is_one_of xs c) (is_one_of ys c)
      ∙ ap (λ (b : Bool). contains nat_cmp old c || b) (sym (list_any-append (λ (y : ℕ). y == c) xs ys));
  stays = λ c h. n.stays c (m.stays c h);
  fresh = λ c h k. fresh c h k (cases_Bool (contains nat_cmp mid c));
  within = λ c h. last c (n.within c h);
  fewer = λ all h.
      let f = m.fewer all (λ c k. h c (in_front xs ys c k)) in
      let g = n.fewer all (λ c k. h c (in_back xs ys c k)) in
      omega (arith, f, g);
}
  where
    fresh : (c : ℕ) → contains nat_cmp new c ≡ true → contains nat_cmp old c ≡ false → (contains nat_cmp mid c ≡ true) ⊎ (contains nat_cmp mid c ≡ false) → is_one_of after c ≡ true
    fresh c h k (inl i) = n.stays c (m.fresh c i k)
    fresh c h k (inr i) = n.fresh c h i

    first : (c : ℕ) → (is_one_of before c ≡ true) ⊎ (contains nat_cmp mid c ≡ true) → (is_one_of before c ≡ true) ⊎ (contains nat_cmp new c ≡ true)
    first c (inl h) = inl h
    first c (inr h) = inr (n.found c ∙ or_left (contains nat_cmp mid c) _ h)

    last : (c : ℕ) → (is_one_of between c ≡ true) ⊎ (contains nat_cmp new c ≡ true) → (is_one_of before c ≡ true) ⊎ (contains nat_cmp new c ≡ true)
    last c (inl h) = first c (m.within c h)
    last c (inr h) = inr h

-- one more of some cells
pub enqueued_more : (cells : List ℕ) (i x : ℕ) (old mid new : BTreeSet ℕ) (before work more : List ℕ) → i < length cells → x ≡ get_or cells i x → AreEnqueued (take i cells) old mid before work → AreEnqueued (x ∷ []) mid new work more →
    AreEnqueued (take (i + 1) cells) old new before more
enqueued_more cells i x old mid new before work more l e m n = subst (λ (xs : List ℕ). AreEnqueued xs old new before more) (sym (taken_more cells i x l e)) (enqueued_both (take i cells) (x ∷ []) old mid new before work more m n)

-- ---- those that read a cell

abbrev pub AreReaders : Bag → ℕ → List ℕ → Type 0
AreReaders readers a next = (r : ℕ) → Contains next r ↔ IsReader readers a r

abbrev pub all_readers : Bag → List ℕ
all_readers bag = map (λ e. e.0.reader) bag

pub reader_there : (bag : Bag) (p : RangePair) → 0 < count_of bag p → is_one_of (all_readers bag) p.reader ≡ true
reader_there [] p h = absurd (omega arith)
reader_there (e ∷ es) p h = at (is_same p e.0) refl h (reader_there es p)
  where
    at : (b : Bool) → is_same p e.0 ≡ b → 0 < unwrap_or (cond b (Some e.1) (lookup (is_same p) es)) 0 → (0 < count_of es p → is_one_of (all_readers es) p.reader ≡ true) → (e.0.reader == p.reader || is_one_of (all_readers es) p.reader) ≡ true
    at true f k ih = or_left (e.0.reader == p.reader) _ (ap (λ (q : RangePair). q.reader == p.reader) (sym (same_is p e.0 f)) ∙ is_itself p.reader)
    at false f k ih = or_right (e.0.reader == p.reader) _ (ih k)

pub readers_there : (bag : Bag) (a r : ℕ) → IsReader bag a r → is_one_of (all_readers bag) r ≡ true
readers_there bag a r i = ap (λ (x : ℕ). is_one_of (all_readers bag) x) (sym i.1) ∙ reader_there bag i.0 i.2

-- ---- what a search finds is the cone

pub found_cone : (s : Sheet) (readers : Bag) (cells : List ℕ) (found : BTreeSet ℕ) → ((a r : ℕ) → (content_reads (content_of s r) a ≡ true) ↔ IsReader readers a r) → HasAll cells found → HasReaders readers found →
    IsLeast readers cells found →
    (c : ℕ) → is_one_of found.keys c ≡ in_cone s cells c
found_cone s readers cells found i h k l c = sym (has_key found.keys c) ∙ one_truth (contains nat_cmp found c) (in_cone s cells c)
    (l (in_cone s cells) (cone_has s cells) (λ a r m u. cone_closed s cells r a ((i a r).1 u) m) c)
    (cone_least s cells (contains nat_cmp found) h (λ d a r m. k a d m ((i a d).0 r)) c)

-- ---- the cone as a list

-- cells in order that nothing reads are their own cone
pub own_cone : (readers : Bag) (cells list : List ℕ) → IsStrictlyIncreasing cells → ((a r : ℕ) → is_one_of cells a ≡ true → IsReader readers a r → ⊥) → list ≡ cells → IsConeOf readers cells list
own_cone readers cells list o n e = subst (IsConeOf readers cells) (sym e) (record {
  order = o;
  all = λ c h. has_key cells c ∙ h;
  closed = λ a r h k. absurd (n a r (sym (has_key cells a) ∙ h) k);
  least = λ p h g c k. h c (sym (has_key cells c) ∙ k);
})

-- one cell that no cell reads
pub lone_cone : (readers : Bag) (cell : ℕ) → (IsRead readers cell → ⊥) → IsConeOf readers (cell ∷ []) (cell ∷ [])
lone_cone readers cell n = own_cone readers (cell ∷ []) (cell ∷ []) (λ i l. absurd (omega (arith, l))) (λ a r h k. n (r, subst (λ (y : ℕ). IsReader readers y r) (sym (same_cell a cell (sym (or-false (cell == a)) ∙ h))) k)) refl

-- a set that was found
pub found_list : (readers : Bag) (cells list : List ℕ) (found : BTreeSet ℕ) → IsStrictlyIncreasing list → ((c : ℕ) → Contains list c ↔ (contains nat_cmp found c ≡ true)) → HasAll cells found → HasReaders readers found →
    IsLeast readers cells found → IsConeOf readers cells list
found_list readers cells list found o e a k l = record {
  order = o;
  all = λ c h. same c ∙ a c h;
  closed = λ d r h i. same r ∙ k d r (sym (same d) ∙ h) i;
  least = λ p h g c m. l p h g c (sym (same c) ∙ m);
}
  where
    same : (c : ℕ) → contains nat_cmp (as_set list) c ≡ contains nat_cmp found c
    same c = has_key list c ∙ one_truth (is_one_of list c) (contains nat_cmp found c) (λ h. (e c).0 (Contains-from_has list c h)) (λ h. has-from_Contains list c ((e c).1 h))

pub found_listed : {E : Type 0} (readers : Bag) (cells : List ℕ) (found : BTreeSet ℕ) (r : Result (Vec ℕ) E) → IsConeSet readers cells found →
    IfOk r (λ list. IsStrictlyIncreasing list.items) → IfOk r (λ list. (c : ℕ) → Contains list.items c ↔ (contains nat_cmp found c ≡ true)) → IfOk r (λ list. IsConeOf readers cells list.items)
found_listed readers cells found (Ok list) k o e = found_list readers cells list.items found o e k.0 k.1 k.2
found_listed readers cells found (Err error) k o e = tt

-- nothing reads one more
pub none_more : (readers : Bag) (cells : List ℕ) (i x : ℕ) (read : Bool) → i < length cells → x ≡ get_or cells i x → ((read ≡ true) ↔ IsRead readers x) → read ≡ false → ((a r : ℕ) → is_one_of (take i cells) a ≡ true → IsReader readers a r → ⊥) →
    (a r : ℕ) → is_one_of (take (i + 1) cells) a ≡ true → IsReader readers a r → ⊥
none_more readers cells i x read l e f z n a r h k = at (or_cases (is_one_of (take i cells) a) _ (sym (taken cells i x a l e) ∙ h))
  where
    at : (is_one_of (take i cells) a ≡ true) ⊎ (((x == a) || false) ≡ true) → ⊥
    at (inl w) = n a r w k
    at (inr w) = clash read (f.1 (r, subst (λ (y : ℕ). IsReader readers y r) (sym (same_cell a x (sym (or-false (x == a)) ∙ w))) k)) z
