-- Dirty cells are flushed, one edit after another.
use Rattle.wi_propagate.proofs.Words.{◌≡◌, ◌==◌, ◌||◌, ◌&&◌, ◌⊎◌, inl, inr, not, ◌≤◌, ◌<◌, ◌+◌, max, ℕ, Bool, true, false, cond, List, [], ◌∷◌, length, take, get_or, ◌++◌, nat_lt, Option, Some, is_some, refl, ap, sym, ◌∙◌, subst, arith, eqb-true, or-false, map-append, list_any-IsPermutation, IsPermutation-map, IsPermutation, unwrap_or, nat_cmp, keys_of, lookup, is_at, insert_entry, CellEntries, get, Sheet, Reaches, is_one_of, reaches, in_cone, Edges, AreEdgesOf, IsLatest, IsDirty, AreDirty, IsFlushing, reaches_true, true_reaches, same_reaches, in_last, in_front, flushes_one, flushing_begins, dirty_stays, Generations, generation_in, stamped_in, second_cells, has_visited, ltb-false, visited_one, has_one_more, or_assoc, or_new}
use Rattle.wi_propagate.proofs.GenerationSteps.{IsGiven}

-- ---- one cell more is visited

pub visited_more : {X : Type 0} (first old new : CellEntries X) (xs : List ℕ) (i a : ℕ) (v : X) → i < length xs → a ≡ get_or xs i a → new.entries ≡ cond (is_some (get nat_cmp old a)) old.entries (insert_entry nat_cmp old.entries a v) →
    ((c : ℕ) → has_visited old c ≡ (has_visited first c || is_one_of (take i xs) c)) → (c : ℕ) → has_visited new c ≡ (has_visited first c || is_one_of (take (i + 1) xs) c)
visited_more first old new xs i a v l e k h c =
    visited_one old new a v k c ∙ ap (λ (b : Bool). b || (a == c)) (h c) ∙ or_assoc (has_visited first c) (is_one_of (take i xs) c) (a == c) ∙ ap (λ (b : Bool). has_visited first c || b) (sym (has_one_more xs i a c l e))

-- ---- one number more is lifted

pub lifted_more : (old new first : Generations) (xs : List ℕ) (i a number lifted : ℕ) → i < length xs → a ≡ get_or xs i a → lifted ≡ max (generation_in old a) number → IsGiven old new a lifted →
    ((c : ℕ) → generation_in old c ≡ cond (is_one_of (take i xs) c) (max (generation_in first c) number) (generation_in first c)) → (c : ℕ) → generation_in new c ≡ cond (is_one_of (take (i + 1) xs) c) (max (generation_in first c) number) (generation_in first c)
lifted_more old new first xs i a number lifted l e w u h c =
    ap (λ (o : Option ℕ). unwrap_or o 0) (u c) ∙ at (is_one_of (take i xs) c) (a == c) refl (h c)
    ∙ ap (λ (b : Bool). cond b (max (generation_in first c) number) (generation_in first c)) (sym (has_one_more xs i a c l e))
  where
    here : (b : Bool) → (a == c) ≡ true → generation_in old c ≡ cond b (max (generation_in first c) number) (generation_in first c) → lifted ≡ max (generation_in first c) number
    here true t k = let f = ap (generation_in old) (eqb-true a c t) in omega (arith, w, f, k)
    here false t k = let f = ap (generation_in old) (eqb-true a c t) in omega (arith, w, f, k)

    at : (b d : Bool) → (a == c) ≡ d → generation_in old c ≡ cond b (max (generation_in first c) number) (generation_in first c) →
        unwrap_or (cond d (Some lifted) (lookup (is_at (nat_cmp c)) old)) 0 ≡ cond (b || d) (max (generation_in first c) number) (generation_in first c)
    at true true t k = here true t k
    at true false t k = k
    at false true t k = here false t k
    at false false t k = k

-- ---- one edit more is flushed

-- of each sheet with these edges
abbrev pub IsFlushingOver : Edges → Generations → Generations → List ℕ → (ℕ → Bool) → ℕ → Type 0
IsFlushingOver es edited_at valid_since rest visited last = (s : Sheet) → AreEdgesOf es s → IsFlushing s (generation_in edited_at) (stamped_in edited_at valid_since) rest visited last

pub flushing_more : (es : Edges) (edited_at old new : Generations) (rest less : List ℕ) (x number last : ℕ) (visited now : ℕ → Bool) → ((y : ℕ) → is_one_of rest y ≡ true → (x ≡ y) ⊎ (is_one_of less y ≡ true)) → number ≡ generation_in edited_at x → number ≤ last →
    ((s : Sheet) → AreEdgesOf es s → (c : ℕ) → generation_in new c ≡ cond (in_cone s (x ∷ []) c && not (visited c)) (max (generation_in old c) number) (generation_in old c)) →
    ((s : Sheet) → AreEdgesOf es s → (c : ℕ) → now c ≡ (visited c || (in_cone s (x ∷ []) c && not (visited c)))) → IsFlushingOver es edited_at old rest visited last → IsFlushingOver es edited_at new less now number
flushing_more es edited_at old new rest less x number last visited now part e falls raised shown k s a =
    subst (IsFlushing s (generation_in edited_at) (stamped_in edited_at new) less now) (sym e) (flushes_one s (generation_in edited_at) (stamped_in edited_at old) (stamped_in edited_at new) rest less x last visited now part (subst (λ (m : ℕ). m ≤ last) e falls)
    (λ c. shown s a c ∙ or_new (visited c) (in_cone s (x ∷ []) c)) (λ c. ap (λ (m : ℕ). max (generation_in edited_at c) m) (raised s a c) ∙ over c (in_cone s (x ∷ []) c && not (visited c))) (k s a))
  where
    over : (c : ℕ) (b : Bool) → max (generation_in edited_at c) (cond b (max (generation_in old c) number) (generation_in old c)) ≡ cond b (max (stamped_in edited_at old c) (generation_in edited_at x)) (stamped_in edited_at old c)
    over c true = omega (arith, e)
    over c false = refl

-- cells that come back into view where a later edit comes behind an earlier one
pub flushing_again : (es : Edges) (edited_at valid_since : Generations) (rest : List ℕ) (last number : ℕ) (visited now : ℕ → Bool) → ((c : ℕ) → now c ≡ cond (nat_lt last number) false (visited c)) → IsFlushingOver es edited_at valid_since rest visited last → IsFlushingOver es edited_at valid_since rest now (max last number)
flushing_again es edited_at valid_since rest last number visited now e k s a = at (nat_lt last number) refl
  where
    at : (b : Bool) → nat_lt last number ≡ b → IsFlushing s (generation_in edited_at) (stamped_in edited_at valid_since) rest now (max last number)
    at true t = flushing_begins s (generation_in edited_at) (stamped_in edited_at valid_since) rest now (max last number) (λ c. e c ∙ ap (λ (b : Bool). cond b false (visited c)) t) (k s a).dirty
    at false t =
        let l : number ≤ last = ltb-false last number t in
        let m : max last number ≡ last = omega (arith, l) in
        record {
          dirty = (k s a).dirty;
          closed = λ c d r h. same c ∙ (k s a).closed c d r (sym (same d) ∙ h);
          high = λ c h. let z = (k s a).high c (sym (same c) ∙ h) in omega (arith, z, m);
        }
      where
        same : (c : ℕ) → now c ≡ visited c
        same c = e c ∙ ap (λ (b : Bool). cond b false (visited c)) t

-- ---- the dirty cells, as a list

pub lists_all : {X : Type 0} (order : List (ℕ × ℕ)) (rest all : List (ℕ × X)) → rest ≡ [] → ((x : ℕ) → (is_one_of (second_cells order) x || is_one_of (keys_of rest) x) ≡ is_one_of (keys_of all) x) → (x : ℕ) → is_one_of (keys_of all) x ≡ is_one_of (second_cells order) x
lists_all {X} order rest all e h x = sym (h x) ∙ ap (λ (ys : List (ℕ × X)). is_one_of (second_cells order) x || is_one_of (keys_of ys) x) e ∙ or-false (is_one_of (second_cells order) x)

pub sorted_same : (xs ys : List (ℕ × ℕ)) → IsPermutation xs ys → (x : ℕ) → is_one_of (second_cells xs) x ≡ is_one_of (second_cells ys) x
sorted_same xs ys k x = list_any-IsPermutation (λ y. y == x) (second_cells xs) (second_cells ys) (IsPermutation-map (λ (y : ℕ × ℕ). y.1) xs ys k)

pub last_part : (rest less : List (ℕ × ℕ)) (e : ℕ × ℕ) → rest ≡ less ++ e ∷ [] → (y : ℕ) → is_one_of (second_cells rest) y ≡ true → (e.1 ≡ y) ⊎ (is_one_of (second_cells less) y ≡ true)
last_part rest less e i y h = turned (in_last (second_cells less) e.1 y (ap (λ (ys : List ℕ). is_one_of ys y) (sym (ap second_cells i ∙ map-append (λ (z : ℕ × ℕ). z.1) less (e ∷ []))) ∙ h))
  where
    turned : (is_one_of (second_cells less) y ≡ true) ⊎ (e.1 ≡ y) → (e.1 ≡ y) ⊎ (is_one_of (second_cells less) y ≡ true)
    turned (inl m) = inr m
    turned (inr m) = inl m

pub part_within : (rest less : List (ℕ × ℕ)) (e : ℕ × ℕ) → rest ≡ less ++ e ∷ [] → (y : ℕ) → is_one_of (second_cells less) y ≡ true → is_one_of (second_cells rest) y ≡ true
part_within rest less e i y h = ap (λ (ys : List ℕ). is_one_of ys y) (ap second_cells i ∙ map-append (λ (z : ℕ × ℕ). z.1) less (e ∷ [])) ∙ in_front (second_cells less) (e.1 ∷ []) y h

-- at first all dirty cells are listed, and none was visited
pub flushing_first : {X : Type 0} (es : Edges) (edited_at valid_since : Generations) (dirty : List ℕ) (order : List (ℕ × ℕ)) (visited : CellEntries X) (last : ℕ) → ((x : ℕ) → is_one_of dirty x ≡ is_one_of (second_cells order) x) → visited.entries ≡ [] →
    ((s : Sheet) → AreEdgesOf es s → AreDirty s (generation_in edited_at) dirty (stamped_in edited_at valid_since)) → IsFlushingOver es edited_at valid_since (second_cells order) (has_visited visited) last
flushing_first {X} es edited_at valid_since dirty order visited last same empty o s a =
    flushing_begins s (generation_in edited_at) (stamped_in edited_at valid_since) (second_cells order) (has_visited visited) last (λ c. ap (λ (xs : List (ℕ × X)). is_some (lookup (is_at (nat_cmp c)) xs)) empty)
    (dirty_stays s (generation_in edited_at) (stamped_in edited_at valid_since) (stamped_in edited_at valid_since) dirty (second_cells order) (λ x h. sym (same x) ∙ h) (λ c n l. (omega arith, (o s a c n l).no_later)) (o s a))

-- What the rest leaves dirty all leave, also where memory ran out, and the stamps are as before.
pub flushing_stays : (es : Edges) (edited_at old new : Generations) (dirty rest : List ℕ) (visited : ℕ → Bool) (last : ℕ) → ((c : ℕ) → generation_in new c ≡ generation_in old c) → ((x : ℕ) → is_one_of rest x ≡ true → is_one_of dirty x ≡ true) → IsFlushingOver es edited_at old rest visited last →
    (s : Sheet) → AreEdgesOf es s → AreDirty s (generation_in edited_at) dirty (stamped_in edited_at new)
flushing_stays es edited_at old new dirty rest visited last same g k s a =
    dirty_stays s (generation_in edited_at) (stamped_in edited_at old) (stamped_in edited_at new) rest dirty g (λ c n l. let e = same c in let b = ((k s a).dirty c n l).no_later in (omega (arith, e), omega (arith, e, b))) (k s a).dirty

-- and where the numbers are as before
pub dirty_renumbered : (es : Edges) (edited_at old new : Generations) (dirty : List ℕ) → ((c : ℕ) → generation_in new c ≡ generation_in old c) → ((s : Sheet) → AreEdgesOf es s → AreDirty s (generation_in edited_at) dirty (stamped_in edited_at old)) →
    (s : Sheet) → AreEdgesOf es s → AreDirty s (generation_in edited_at) dirty (stamped_in edited_at new)
dirty_renumbered es edited_at old new dirty same k s a =
    dirty_stays s (generation_in edited_at) (stamped_in edited_at old) (stamped_in edited_at new) dirty dirty (λ x h. h) (λ c n l. let e = same c in let b = (k s a c n l).no_later in (omega (arith, e), omega (arith, e, b))) (k s a)

-- and where none is left, none is dirty
pub flushing_ends : (es : Edges) (edited_at valid_since : Generations) (order : List (ℕ × ℕ)) (visited : ℕ → Bool) (last : ℕ) → order ≡ [] → IsFlushingOver es edited_at valid_since (second_cells order) visited last →
    (s : Sheet) → AreEdgesOf es s → AreDirty s (generation_in edited_at) [] (stamped_in edited_at valid_since)
flushing_ends es edited_at valid_since order visited last e k s a = subst (λ (ys : List (ℕ × ℕ)). AreDirty s (generation_in edited_at) (second_cells ys) (stamped_in edited_at valid_since)) e (k s a).dirty

-- ---- sheets with the same edges

latest_over : (s t : Sheet) (f : ℕ → ℕ) (c n : ℕ) → ((x : ℕ) → reaches s c x ≡ reaches t c x) → IsLatest s f c n → IsLatest t f c n
latest_over s t f c n e l = record { most = λ d w. l.most d (reaches_true s c d (e d ∙ true_reaches t c d w)); reached = at l.reached }
  where
    at : (n ≡ 0) ⊎ ((d : ℕ) × Reaches s c d × (f d ≡ n)) → (n ≡ 0) ⊎ ((d : ℕ) × Reaches t c d × (f d ≡ n))
    at (inl z) = inl z
    at (inr x) = inr (x.0, reaches_true t c x.0 (sym (e x.0) ∙ true_reaches s c x.0 x.1), x.2)

pub dirty_over : (es : Edges) (s t : Sheet) (f : ℕ → ℕ) (dirty : List ℕ) (valid_since : ℕ → ℕ) → AreEdgesOf es s → AreEdgesOf es t → AreDirty s f dirty valid_since → AreDirty t f dirty valid_since
dirty_over es s t f dirty valid_since a b o c n l = record { no_later = before.no_later; stamped_or_dirty = at before.stamped_or_dirty }
  where
    same : (x : ℕ) → reaches s c x ≡ reaches t c x
    same x = same_reaches s t (λ d. sym (a d) ∙ b d) c x

    before : IsDirty s f dirty valid_since c n
    before = o c n (latest_over t s f c n (λ x. sym (same x)) l)

    at : (valid_since c ≡ n) ⊎ ((x : ℕ) × (is_one_of dirty x ≡ true) × Reaches s c x × (f x ≡ n)) → (valid_since c ≡ n) ⊎ ((x : ℕ) × (is_one_of dirty x ≡ true) × Reaches t c x × (f x ≡ n))
    at (inl h) = inl h
    at (inr x) = inr (x.0, x.1, reaches_true t c x.0 (sym (same x.0) ∙ true_reaches s c x.0 x.2), x.3)
