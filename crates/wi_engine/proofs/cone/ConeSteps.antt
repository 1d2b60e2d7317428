-- One pass over an order of reading finds the cells that reach a cell.
use Rattle.wi_engine.proofs.Words.{◌≡◌, ◌==◌, ℕ, suc, ◌+◌, ◌<◌, Bool, true, false, ◌&&◌, ◌||◌, cond, List, [], ◌∷◌, ◌++◌, filter, take, drop, length, get_or, Option, Some, None, IsSome, IfSome, All, refl, ap, sym, ◌∙◌, subst, inl, inr, ◌⊎◌, eq-eqb, drop-cons, and_parts, and_from, or_cases, or_left, or_right, take-append-drop, All-head, All-more, All-tail, list_any, nat_cmp, BTreeMap, get, is_at, BTreeSet, contains, is_within_one, Replacement, Formula, Tree, Sheet, content_of, has_formula, content_reads, rectangles_of, reads_within, is_one_of, reaches, same_cell, one_truth, found, finds_in, reaches_here, reaches_read, reaches_step, reaches_by_step, is_at-eq, at_same, reaching, rectangles_in, occupied_within, IsReadOrder, AreCones, occupied_read, read_occupied, has_one_more}
use Rattle.wi_worlds.specs.Reaching as cones

-- a formula reads what lies in one of its rectangles
pub reads_rectangles : (s : Sheet) (c : ℕ) (t : Tree) (a : ℕ) → content_of s c ≡ Some (Formula t) → content_reads (content_of s c) a ≡ is_within_one (rectangles_of t) a
reads_rectangles s c t a e = ap (λ o. content_reads o a) e ∙ reads_within t a

-- a cell is another, reads it, or reads an occupied one of these
abbrev pub steps_in : Sheet → (ℕ → Bool) → ℕ → ℕ → Bool
steps_in s among c a = c == a || content_reads (content_of s c) a || list_any among (occupied_within s (rectangles_in (content_of s c)))

pub only_last : (a b c : Bool) → a ≡ false → b ≡ false → (a || b || c) ≡ c
only_last a b c e f = rw (e, f) refl

-- an order, cut before a cell
cut : (order : List ℕ) (i x : ℕ) → i < length order → x ≡ get_or order i x → order ≡ take i order ++ x ∷ drop (suc i) order
cut order i x l e =
    sym (take-append-drop i order) ∙ ap (λ (xs : List ℕ). take i order ++ xs) (drop-cons order i x l) ∙ ap (λ (y : ℕ). take i order ++ y ∷ drop (suc i) order) (sym e)

-- a cell reaches another exactly where it is that, reads it, or reads one of the earlier cells that reach it
pub step_reaches : (s : Sheet) (order : List ℕ) (i x a : ℕ) (among : ℕ → Bool) → IsReadOrder s order → i < length order → x ≡ get_or order i x →
    ((c : ℕ) → among c ≡ (is_one_of (take i order) c && reaches s c a)) → steps_in s among x a ≡ reaches s x a
step_reaches s order i x a among o l e h = one_truth (steps_in s among x a) (reaches s x a) (λ k. forward (or_cases (x == a || content_reads (content_of s x) a) _ k)) (λ k. backward (reaches_by_step s x a k))
  where
    at_once : ((x == a) ≡ true) ⊎ (content_reads (content_of s x) a ≡ true) → reaches s x a ≡ true
    at_once (inl k) = subst (λ (b : ℕ). reaches s x b ≡ true) (same_cell a x k) (reaches_here s x)
    at_once (inr k) = reaches_read s x a k

    forward : ((x == a || content_reads (content_of s x) a) ≡ true) ⊎ (list_any among (occupied_within s (rectangles_in (content_of s x))) ≡ true) → reaches s x a ≡ true
    forward (inl k) = at_once (or_cases (x == a) _ k)
    forward (inr k) =
        let f = finds_in among (occupied_within s (rectangles_in (content_of s x))) k in
        reaches_step s x f.0 a (occupied_read s (content_of s x) f.0 f.1) (and_parts (is_one_of (take i order) f.0) (reaches s f.0 a) (sym (h f.0) ∙ f.2)).1

    backward : (x ≡ a) ⊎ ((content_reads (content_of s x) a ≡ true) ⊎ ((d : ℕ) × (content_reads (content_of s x) d ≡ true) × (has_formula (content_of s d) ≡ true) × (reaches s d a ≡ true))) → steps_in s among x a ≡ true
    backward (inl k) = or_left (x == a || content_reads (content_of s x) a) _ (or_left (x == a) _ (eq-eqb x a k))
    backward (inr (inl k)) = or_left (x == a || content_reads (content_of s x) a) _ (or_right (x == a) _ k)
    backward (inr (inr k)) =
        let earlier = (o.each (take i order) (drop (suc i) order) x (cut order i x l e)).reads k.0 k.1 k.2 in
        or_right (x == a || content_reads (content_of s x) a) _ (found among (occupied_within s (rectangles_in (content_of s x))) k.0 (read_occupied s (content_of s x) k.0 k.1 k.2) (h k.0 ∙ and_from _ _ earlier k.3))

-- the cells passed that reach a cell, and one cell more
pub cone_more : (s : Sheet) (order : List ℕ) (i x a : ℕ) (old new : ℕ → Bool) → i < length order → x ≡ get_or order i x → ((c : ℕ) → old c ≡ (is_one_of (take i order) c && reaches s c a)) →
    reaches s x a ≡ true → ((q : ℕ) → new q ≡ cond (is_at (nat_cmp x) q) true (old q)) → (c : ℕ) → new c ≡ (is_one_of (take (i + 1) order) c && reaches s c a)
cone_more s order i x a old new l e h r u c = u c ∙ by (is_at (nat_cmp x) c) (x == c) (old c) (is_one_of (take i order) c) (is_one_of (take (i + 1) order) c) (is_at-eq x c) (h c) (has_one_more order i x c l e) (λ k. ap (λ (y : ℕ). reaches s y a) (sym (same_cell c x k)) ∙ r)
  where
    by : (t b o f g : Bool) → t ≡ b → o ≡ (f && reaches s c a) → g ≡ (f || b) → (b ≡ true → reaches s c a ≡ true) → cond t true o ≡ (g && reaches s c a)
    by t true o true g d m n k = rw (d, n) (sym (k refl))
    by t true o false g d m n k = rw (d, n) (sym (k refl))
    by t false o true g d m n k = rw (d, m, n) refl
    by t false o false g d m n k = rw (d, m, n) refl

and_none : (f g r : Bool) → g ≡ (f || false) → (f && r) ≡ (g && r)
and_none true g r e = rw e refl
and_none false g r e = rw e refl

-- and one that does not
pub cone_same : (s : Sheet) (order : List ℕ) (i x a : ℕ) (old : ℕ → Bool) → i < length order → x ≡ get_or order i x → ((c : ℕ) → old c ≡ (is_one_of (take i order) c && reaches s c a)) →
    reaches s x a ≡ false → (c : ℕ) → old c ≡ (is_one_of (take (i + 1) order) c && reaches s c a)
cone_same s order i x a old l e h r c = h c ∙ by (x == c) (is_one_of (take i order) c) (is_one_of (take (i + 1) order) c) (has_one_more order i x c l e) (λ k. ap (λ (y : ℕ). reaches s y a) (sym (same_cell c x k)) ∙ r)
  where
    by : (b f g : Bool) → g ≡ (f || b) → (b ≡ true → reaches s c a ≡ false) → (f && reaches s c a) ≡ (g && reaches s c a)
    by true true g n k = rw n refl
    by true false g n k = rw (n, k refl) refl
    by false f g n k = and_none f g (reaches s c a) n

-- ---- cones by their cells

-- no cone goes
pub cones_stay : (a : ℕ) (cone : BTreeSet ℕ) (old new : BTreeMap ℕ (BTreeSet ℕ)) → ((q : ℕ) → get nat_cmp new q ≡ cond (is_at (nat_cmp a) q) (Some cone) (get nat_cmp old q)) → (b : ℕ) → IsSome (get nat_cmp old b) → IsSome (get nat_cmp new b)
cones_stay a cone old new u b h = subst (λ (o : Option (BTreeSet ℕ)). IsSome o) (sym (u b)) (at (is_at (nat_cmp a) b))
  where
    at : (t : Bool) → IsSome (cond t (Some cone) (get nat_cmp old b))
    at true = refl
    at false = h

abbrev pub HaveCones : BTreeMap ℕ (BTreeSet ℕ) → List Replacement → Type 0
HaveCones cs w = All (λ r. IsSome (get nat_cmp cs r.at)) w

-- the replacements passed have cones, and one more
pub have_more : (old new : BTreeMap ℕ (BTreeSet ℕ)) (w : List Replacement) (i : ℕ) (r : Replacement) → i < length w → r ≡ get_or w i r → HaveCones old (take i w) →
    ((b : ℕ) → IsSome (get nat_cmp old b) → IsSome (get nat_cmp new b)) → IsSome (get nat_cmp new r.at) → HaveCones new (take (i + 1) w)
have_more old new w i r l e h stay there =
    All-more (λ (x : Replacement). IsSome (get nat_cmp new x.at)) w i r l (λ k d g. stay (get_or (take i w) k d).at (h k d g)) (subst (λ (x : Replacement). IsSome (get nat_cmp new x.at)) e there)

-- a cone more
pub cones_more : (s : Sheet) (cells : List ℕ) (a : ℕ) (cone : BTreeSet ℕ) (old new : BTreeMap ℕ (BTreeSet ℕ)) → AreCones s cells old → ((c : ℕ) → contains nat_cmp cone c ≡ (is_one_of cells c && reaches s c a)) →
    ((q : ℕ) → get nat_cmp new q ≡ cond (is_at (nat_cmp a) q) (Some cone) (get nat_cmp old q)) → (b c : ℕ) → is_one_of cells c ≡ true → IfSome (get nat_cmp new b) (λ d. contains nat_cmp d c ≡ reaches s c b)
cones_more s cells a cone old new h k u b c m = subst (λ (o : Option (BTreeSet ℕ)). IfSome o (λ d. contains nat_cmp d c ≡ reaches s c b)) (sym (u b)) (at (is_at (nat_cmp a) b) refl)
  where
    at : (t : Bool) → is_at (nat_cmp a) b ≡ t → IfSome (cond t (Some cone) (get nat_cmp old b)) (λ d. contains nat_cmp d c ≡ reaches s c b)
    at true e = k c ∙ ap (λ (t : Bool). t && reaches s c a) m ∙ ap (reaches s c) (sym (at_same a b e))
    at false e = h b c m

-- replacements whose cones have a cell are those that it reaches
pub worlds_same : (s : Sheet) (cells : List ℕ) (cs : BTreeMap ℕ (BTreeSet ℕ)) (c : ℕ) → AreCones s cells cs → is_one_of cells c ≡ true → (w : List Replacement) → All (λ r. IsSome (get nat_cmp cs r.at)) w → filter (cones.is_reached cs c) w ≡ reaching s c w
worlds_same s cells cs c h m [] k = refl
worlds_same s cells cs c h m (r ∷ rs) k =
    filters (here (get nat_cmp cs r.at) (All-head (λ (x : Replacement). IsSome (get nat_cmp cs x.at)) r rs k) (h r.at c m)) (worlds_same s cells cs c h m rs (All-tail (λ (x : Replacement). IsSome (get nat_cmp cs x.at)) r rs k))
  where
    here : (o : Option (BTreeSet ℕ)) → IsSome o → IfSome o (λ cone. contains nat_cmp cone c ≡ reaches s c r.at) → cones.has_cell o c ≡ reaches s c r.at
    here None t i = cc
    here (Some cone) t i = i

    filters : cones.is_reached cs c r ≡ reaches s c r.at → filter (cones.is_reached cs c) rs ≡ reaching s c rs → cond (cones.is_reached cs c r) (r ∷ filter (cones.is_reached cs c) rs) (filter (cones.is_reached cs c) rs) ≡ cond (reaches s c r.at) (r ∷ reaching s c rs) (reaching s c rs)
    filters e f = ap (λ (b : Bool). cond b (r ∷ filter (cones.is_reached cs c) rs) (filter (cones.is_reached cs c) rs)) e ∙ ap (λ (v : List Replacement). cond (reaches s c r.at) (r ∷ v) v) f
