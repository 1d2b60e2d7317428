-- Cells of a rectangle that are looked at one after another, and edits apart from watched cells.
use Rattle.wi_graph.proofs.Words.{◌≡◌, ◌+◌, ◌<◌, ◌≤◌, ◌⊎◌, inl, inr, ℕ, zero, suc, Bool, true, false, true≢false, ◌||◌, cond, List, [], ◌∷◌, Option, Some, None, IfSome, refl, ap, sym, ◌∙◌, subst, arith, cases_lt, false_from_ne_true, or_cases, nat_cmp, is_at, at_same, lookup, IsOrdered, Area, is_within, is_within_one, within_between, Content, Sheet, content_of, content_reads, Walks, reaches, one_truth, Edges, AreEdgesOf, Staged, Staging, areas_at, areas_in, Rooms, Coming, SmallVec, areas_of, brought_to, items_of, put_over, room_at, edges_in, edges_over}
use Rattle.std.proofs.Common.{All}
use Rattle.wi_values.specs.Address.{height, width}
use Rattle.wi_values.specs.Inner.Cells.{IsAtOrBefore}
use Rattle.wi_graph.specs.Watched.{AreReadAlike}
use Rattle.wi_graph.specs.Inner.Apart.{AreLookedAt, ComesBefore, HasNone, HaveNone, IsApart}
use Rattle.wi_graph.proofs.EdgeLemmas.{areas_over}
use Rattle.wi_graph.proofs.GraphEnds.{view_of}
use Rattle.wi_graph.proofs.ReachTest.{reaches_true, true_reaches}
use Rattle.wi_graph.proofs.GraphSteps.{reads_areas, rooms_areas}

-- ---- the cells of a rectangle

first_last : (r : Area) (h w : ℕ) → h ≡ height r → 0 < h → w ≡ width r → 0 < w → r.first ≤ r.last
first_last r h w e tall f wide = omega (arith, e, tall, f, wide)

pub looked_at_none : (p : ℕ → Bool) (r : Area) (at h w : ℕ) → at ≡ r.first → h ≡ height r → 0 < h → w ≡ width r → 0 < w → AreLookedAt p r (Some at)
looked_at_none p r at h w same e tall f wide = subst (λ (a : ℕ). AreLookedAt p r (Some a)) (sym same) (record {
  within = first_last r h w e tall f wide;
  none = λ d i l. (let b = (within_between r d i).0 in absurd (omega (arith, b, l)));
})

next_within : (r : Area) (at : ℕ) (next : Option ℕ) → IfSome next (λ a. (at < a) × (a ≤ r.last)) → IfSome next (λ a. a ≤ r.last)
next_within r at None h = tt
next_within r at (Some a) h = h.1

-- a cell of the rectangle before the next is the one just looked at, or comes before it
not_between : (next : Option ℕ) (d : ℕ) → IsAtOrBefore next d → ComesBefore next d → ⊥
not_between None d h l = h
not_between (Some a) d h l = omega (arith, h, l)

pub one_more_looked_at : (p : ℕ → Bool) (r : Area) (at : ℕ) (next : Option ℕ) → AreLookedAt p r (Some at) → p at ≡ false → IfSome next (λ a. (at < a) × (a ≤ r.last))
    → ((a : ℕ) → is_within r a ≡ true → at < a → IsAtOrBefore next a) → AreLookedAt p r next
one_more_looked_at p r at next h not after first = record {
  within = next_within r at next after;
  none = λ d i l. by d i l (cases_lt d at);
}
  where
    at_or_behind : (d : ℕ) → is_within r d ≡ true → ComesBefore next d → (at < d) ⊎ (d ≤ at) → at ≤ d → p d ≡ false
    at_or_behind d i l (inl m) n = absurd (not_between next d (first d i m) l)
    at_or_behind d i l (inr m) n = let same : at ≡ d = omega (arith, m, n) in subst (λ x. p x ≡ false) same not

    by : (d : ℕ) → is_within r d ≡ true → ComesBefore next d → (d < at) ⊎ (at ≤ d) → p d ≡ false
    by d i l (inl m) = h.none d i m
    by d i l (inr n) = at_or_behind d i l (cases_lt at d) n

-- ---- rectangles

all_head : {X : Type 0} (P : X → Type 0) (x : X) (xs : List X) → All P (x ∷ xs) → P x
all_head P x xs h = h 0 x (omega arith)

all_tail : {X : Type 0} (P : X → Type 0) (x : X) (xs : List X) → All P (x ∷ xs) → All P xs
all_tail P x xs h = λ k d l. h (suc k) d (omega (arith, l))

pub none_of_all : (p : ℕ → Bool) (rs : List Area) → All (HasNone p) rs → HaveNone p rs
none_of_all p [] h d i = cc
none_of_all p (r ∷ rs) h d i = by (none_of_all p rs (all_tail (HasNone p) r rs h) d) (or_cases (is_within r d) (is_within_one rs d) i)
  where
    by : (is_within_one rs d ≡ true → p d ≡ false) → (is_within r d ≡ true) ⊎ (is_within_one rs d ≡ true) → p d ≡ false
    by rest (inl w) = all_head (HasNone p) r rs h d w
    by rest (inr w) = rest w

-- ---- an edit

brought_apart : (p : ℕ → Bool) (rooms : Rooms) (next : Coming) (c : ℕ) (o : Option (SmallVec Area)) → All (IsApart p rooms) next → brought_to next c ≡ Some o → IsApart p rooms (c, o)
brought_apart p rooms [] c o h e = cc
brought_apart p rooms (x ∷ xs) c o h e = by (brought_apart p rooms xs c o (all_tail (IsApart p rooms) x xs h)) (is_at (nat_cmp c) x.0) refl e
  where
    by : (brought_to xs c ≡ Some o → IsApart p rooms (c, o)) → (b : Bool) → is_at (nat_cmp c) x.0 ≡ b → cond b (Some x.1) (brought_to xs c) ≡ Some o → IsApart p rooms (c, o)
    by rest true i k =
        let same : x.0 ≡ c = at_same c x.0 i in
        let brings : x.1 ≡ o = cc in
        subst (λ (a : ℕ). IsApart p rooms (a, o)) same (subst (λ (y : Option (SmallVec Area)). IsApart p rooms (x.0, y)) brings (all_head (IsApart p rooms) x xs h))
    by rest false i k = rest k

none_read : (p : ℕ → Bool) (rs : List Area) → HaveNone p rs → (d : ℕ) → p d ≡ true → is_within_one rs d ≡ false
none_read p rs h d w = false_from_ne_true (is_within_one rs d) (λ i. true≢false (sym w ∙ h d i))

alike_at : (p : ℕ → Bool) (rooms : Rooms) (next : Coming) (c : ℕ) → All (IsApart p rooms) next → (o : Option (Option (SmallVec Area))) → brought_to next c ≡ o → (d : ℕ) → p d ≡ true
    → is_within_one (areas_of (room_at rooms c)) d ≡ is_within_one (areas_of (put_over o (room_at rooms c))) d
alike_at p rooms next c h None e d w = refl
alike_at p rooms next c h (Some o) e d w =
    let apart = brought_apart p rooms next c o h e in
    none_read p (areas_of (room_at rooms c)) apart.before d w ∙ sym (none_read p (areas_of (items_of o)) apart.after d w)

pub read_alike : (p : ℕ → Bool) (rooms : Rooms) (next : Coming) (s t : Sheet) → IsOrdered nat_cmp rooms → All (IsApart p rooms) next
    → AreEdgesOf (edges_in rooms.entries) s → AreEdgesOf (edges_over (edges_in rooms.entries) next) t → AreReadAlike p s t
read_alike p rooms next s t order h a b c d w =
    reads_areas (content_of s c) d
    ∙ ap reads (sym (rooms_areas rooms s order a c))
    ∙ alike_at p rooms next c h (brought_to next c) refl d w
    ∙ ap (λ (o : Option (List Area)). reads (put_over (brought_to next c) o)) (rooms_areas rooms s order a c ∙ sym (a c))
    ∙ ap reads (sym (areas_over (edges_in rooms.entries) next c) ∙ b c)
    ∙ sym (reads_areas (content_of t c) d)
  where
    reads : Option (List Area) → Bool
    reads o = is_within_one (areas_of o) d

-- the edit is the one that is staged
pub staged_alike : (p : ℕ → Bool) (rooms : Rooms) (o : Option Staged) (now : Staging) (x : Staged) (next : Coming) → o ≡ Some x → view_of rooms o ≡ now → IsOrdered nat_cmp rooms → next ≡ x.next.items → All (IsApart p rooms) next
    → (s t : Sheet) → AreEdgesOf now.now s → IfSome now.staged (λ es. AreEdgesOf es t) → AreReadAlike p s t
staged_alike p rooms None now x next e v order same h s t a b = cc
staged_alike p rooms (Some y) now x next e v order same h s t a b =
    let z : y ≡ x = cc in
    let brings : y.next.items ≡ next = ap (λ (w : Staged). w.next.items) z ∙ sym same in
    read_alike p rooms y.next.items s t order (subst (λ (xs : Coming). All (IsApart p rooms) xs) (sym brings) h)
    (subst (λ (n : Staging). AreEdgesOf n.now s) (sym v) a)
    (subst (λ (n : Staging). IfSome n.staged (λ es. AreEdgesOf es t)) (sym v) b)

-- ---- what reaches a cell

module _ (p : ℕ → Bool) (s t : Sheet) (alike : AreReadAlike p s t) (a : ℕ) (watched : (c : ℕ) → reaches s c a ≡ true → p c ≡ true) where
  watched_walk : (n e : ℕ) → Walks n s e a → p e ≡ true
  watched_walk n e w = watched e (true_reaches s e a (n, w))

  walks_then : (n c : ℕ) → Walks n s c a → Walks n t c a
  walks_then zero c w = w
  walks_then (suc n) c w = (w.0, sym (alike c w.0 (watched_walk n w.0 w.2)) ∙ w.1, walks_then n w.0 w.2)

  walks_before : (n c : ℕ) → Walks n t c a → Walks n s c a
  walks_before zero c w = w
  walks_before (suc n) c w =
      let rest = walks_before n w.0 w.2 in
      (w.0, alike c w.0 (watched_walk n w.0 rest) ∙ w.1, rest)

  -- where all that reach the cell are watched, the same cells reach it
  pub reaches_alike : (c : ℕ) → reaches s c a ≡ reaches t c a
  reaches_alike c = one_truth (reaches s c a) (reaches t c a)
      (λ h. let w = reaches_true s c a h in true_reaches t c a (w.0, walks_then w.0 c w.1))
      (λ h. let w = reaches_true t c a h in true_reaches s c a (w.0, walks_before w.0 c w.1))
