-- Steps of a search over readers: one that stops at watched cells, and one that stops nowhere.
use Rattle.wi_graph.proofs.Words.{◌≡◌, ◌==◌, ◌&&◌, ◌||◌, ◌⊎◌, inl, inr, not, ℕ, ◌+◌, ◌<◌, ◌↔◌, Bool, true, false, List, [], ◌∷◌, ◌++◌, length, take, get_or, ap, sym, ◌∙◌, subst, arith, or_cases, or_left, or_right, and_parts, and_from, cases_Bool, not-true, not_from_false, false_from_ne_true, length-append, any-filter_same, filter-append, list_any, Contains, nat_cmp, is_at, BTreeSet, contains, IsStrictlyIncreasing, one_truth, Sheet, content_of, content_reads, Bag, IsReader, IsRead, Telling, telling, Answers, taken_more, is_one_of, in_cone, IsClosedUp, IsUnread, AreEdgesOf, Rooms, edges_in, IsGraph, HasAll, GoesToReaders, IsLeast, IsConeBeyond, IsListBeyond, beyond, as_set, missing, AreEnqueued, has_key, has-from_Contains, Contains-from_has, refl, IsConeSet}
use Rattle.wi_values.proofs.Lists.{filter_all}
use Rattle.wi_graph.proofs.Tests.{is_itself, clash}
use Rattle.wi_graph.proofs.Walks.{same_cell}
use Rattle.wi_graph.proofs.SetSteps.{in_last, in_front, in_back}
use Rattle.wi_graph.proofs.SearchSteps.{AreReaders, all_readers, readers_there, enqueued_both}
use Rattle.wi_graph.proofs.Cones.{cone_has, cone_closed, cone_least}
use Rattle.wi_graph.proofs.GraphSteps.{graph_readers}

-- ---- cells that aren't watched

among : (w : ℕ → Bool) (xs : List ℕ) (c : ℕ) → is_one_of (beyond w xs) c ≡ (not (w c) && is_one_of xs c)
among w xs c = any-filter_same (λ x. x == c) (λ d. not (w d)) (not (w c)) (λ k h. ap (λ (d : ℕ). not (w d)) (same_cell c k h)) xs

in_beyond : (w : ℕ → Bool) (xs : List ℕ) (c : ℕ) → is_one_of (beyond w xs) c ≡ true → (is_one_of xs c ≡ true) × (w c ≡ false)
in_beyond w xs c h =
    let x = and_parts (not (w c)) (is_one_of xs c) (sym (among w xs c) ∙ h) in
    (x.1, not-true (w c) x.0)

beyond_in : (w : ℕ → Bool) (xs : List ℕ) (c : ℕ) → is_one_of xs c ≡ true → w c ≡ false → is_one_of (beyond w xs) c ≡ true
beyond_in w xs c h n = among w xs c ∙ and_from (not (w c)) (is_one_of xs c) (not_from_false (w c) n) h

-- one more of some cells is enqueued
pub beyond_more : (w : ℕ → Bool) (cells : List ℕ) (i x : ℕ) (old mid new : BTreeSet ℕ) (before work more : List ℕ) → i < length cells → x ≡ get_or cells i x → AreEnqueued (beyond w (take i cells)) old mid before work → AreEnqueued (beyond w (x ∷ [])) mid new work more →
    AreEnqueued (beyond w (take (i + 1) cells)) old new before more
beyond_more w cells i x old mid new before work more l e m n =
    subst (λ (xs : List ℕ). AreEnqueued xs old new before more) (sym (ap (beyond w) (taken_more cells i x l e) ∙ filter-append (λ c. not (w c)) (take i cells) (x ∷ []))) (enqueued_both (beyond w (take i cells)) (beyond w (x ∷ [])) old mid new before work more m n)

-- ---- the search

pub record IsSearchingBeyond (readers : Bag) (w : ℕ → Bool) (cells : List ℕ) (found : BTreeSet ℕ) (work : List ℕ) : Type 0 where
  pub all : HasAll (beyond w cells) found
  pub opened : (a r : ℕ) → contains nat_cmp found a ≡ true → IsReader readers a r → w r ≡ false → (is_one_of work a ≡ true) ⊎ (contains nat_cmp found r ≡ true)
  pub within : (c : ℕ) → is_one_of work c ≡ true → contains nat_cmp found c ≡ true
  pub unwatched : (c : ℕ) → contains nat_cmp found c ≡ true → w c ≡ false
  pub least : IsLeast readers cells found

pub beyond_start : (readers : Bag) (w : ℕ → Bool) (cells : List ℕ) (none found : BTreeSet ℕ) (empty work : List ℕ) → none.keys ≡ [] → empty ≡ [] → ((c : ℕ) → is_one_of cells c ≡ true → w c ≡ false) → AreEnqueued cells none found empty work →
    IsSearchingBeyond readers w cells found work
beyond_start readers w cells none found empty work e f k n = record {
  all = λ c i. n.found c ∙ or_right (contains nat_cmp none c) _ (in_beyond w cells c i).0;
  opened = λ a r i j u. inl (n.fresh a i (nothing a));
  within = λ c i. at c (n.within c i);
  unwatched = λ c i. k c (first c i);
  least = λ p i g c j. i c (first c j);
}
  where
    nothing : (c : ℕ) → contains nat_cmp none c ≡ false
    nothing c = ap (λ (xs : List ℕ). list_any (is_at (nat_cmp c)) xs) e

    at : (c : ℕ) → (is_one_of empty c ≡ true) ⊎ (contains nat_cmp found c ≡ true) → contains nat_cmp found c ≡ true
    at c (inl i) = clash (is_one_of empty c) i (ap (λ (xs : List ℕ). is_one_of xs c) f)
    at c (inr i) = i

    is_first : (c : ℕ) → (contains nat_cmp none c ≡ true) ⊎ (is_one_of cells c ≡ true) → is_one_of cells c ≡ true
    is_first c (inl i) = clash (contains nat_cmp none c) i (nothing c)
    is_first c (inr i) = i

    first : (c : ℕ) → contains nat_cmp found c ≡ true → is_one_of cells c ≡ true
    first c i = is_first c (or_cases (contains nat_cmp none c) _ (sym (n.found c) ∙ i))

-- what was told is found or watched
abbrev pub AreFound : (ℕ → Bool) → BTreeSet ℕ → List ℕ → Type 0
AreFound w found told = (r : ℕ) → is_one_of told r ≡ true → w r ≡ false → contains nat_cmp found r ≡ true

-- a cell is taken, and its readers but for some that were told before
told_step : (readers : Bag) (w : ℕ → Bool) (cells : List ℕ) (found more : BTreeSet ℕ) (work less after next enqueued : List ℕ) (cell : ℕ) (told : List ℕ) → work ≡ less ++ cell ∷ [] →
    ((d : ℕ) → is_one_of next d ≡ true → IsReader readers cell d) → ((d : ℕ) → IsReader readers cell d → (is_one_of next d ≡ true) ⊎ (is_one_of told d ≡ true)) → AreFound w found told → enqueued ≡ next →
    AreEnqueued (beyond w enqueued) found more less after → IsSearchingBeyond readers w cells found work → IsSearchingBeyond readers w cells more after
told_step readers w cells found more work less after next enqueued cell told e only each t q m s = record {
  all = λ c i. still c (s.all c i);
  opened = λ a d i j u. opened a d i j u (cases_Bool (contains nat_cmp found a));
  within = λ c i. within c (n.within c i);
  unwatched = λ c i. unwatched c (or_cases (contains nat_cmp found c) _ (sym (n.found c) ∙ i));
  least = λ p i g c j. first p i g c (or_cases (contains nat_cmp found c) _ (sym (n.found c) ∙ j));
}
  where
    n : AreEnqueued (beyond w next) found more less after
    n = subst (λ (xs : List ℕ). AreEnqueued xs found more less after) (ap (beyond w) q) m

    still : (c : ℕ) → contains nat_cmp found c ≡ true → contains nat_cmp more c ≡ true
    still c i = n.found c ∙ or_left (contains nat_cmp found c) _ i

    reads : (d : ℕ) → w d ≡ false → (is_one_of next d ≡ true) ⊎ (is_one_of told d ≡ true) → contains nat_cmp more d ≡ true
    reads d u (inl j) = n.found d ∙ or_right (contains nat_cmp found d) _ (beyond_in w next d j u)
    reads d u (inr j) = still d (t d j u)

    gone : (a d : ℕ) → IsReader readers a d → w d ≡ false → (is_one_of less a ≡ true) ⊎ (cell ≡ a) → (is_one_of after a ≡ true) ⊎ (contains nat_cmp more d ≡ true)
    gone a d i u (inl j) = inl (n.stays a j)
    gone a d i u (inr j) = inr (reads d u (each d (subst (λ (x : ℕ). IsReader readers x d) (sym j) i)))

    known : (a d : ℕ) → IsReader readers a d → w d ≡ false → (is_one_of work a ≡ true) ⊎ (contains nat_cmp found d ≡ true) → (is_one_of after a ≡ true) ⊎ (contains nat_cmp more d ≡ true)
    known a d i u (inl j) = gone a d i u (in_last less cell a (ap (λ (xs : List ℕ). is_one_of xs a) (sym e) ∙ j))
    known a d i u (inr j) = inr (still d j)

    opened : (a d : ℕ) → contains nat_cmp more a ≡ true → IsReader readers a d → w d ≡ false → (contains nat_cmp found a ≡ true) ⊎ (contains nat_cmp found a ≡ false) → (is_one_of after a ≡ true) ⊎ (contains nat_cmp more d ≡ true)
    opened a d i j u (inl v) = known a d j u (s.opened a d v j u)
    opened a d i j u (inr v) = inl (n.fresh a i v)

    within : (c : ℕ) → (is_one_of less c ≡ true) ⊎ (contains nat_cmp more c ≡ true) → contains nat_cmp more c ≡ true
    within c (inl i) = still c (s.within c (ap (λ (xs : List ℕ). is_one_of xs c) e ∙ in_front less (cell ∷ []) c i))
    within c (inr i) = i

    unwatched : (c : ℕ) → (contains nat_cmp found c ≡ true) ⊎ (is_one_of (beyond w next) c ≡ true) → w c ≡ false
    unwatched c (inl i) = s.unwatched c i
    unwatched c (inr i) = (in_beyond w next c i).1

    here : contains nat_cmp found cell ≡ true
    here = s.within cell (ap (λ (xs : List ℕ). is_one_of xs cell) e ∙ in_back less (cell ∷ []) cell (or_left (cell == cell) false (is_itself cell)))

    first : (p : ℕ → Bool) → ((c : ℕ) → is_one_of cells c ≡ true → p c ≡ true) → GoesToReaders readers p → (c : ℕ) → (contains nat_cmp found c ≡ true) ⊎ (is_one_of (beyond w next) c ≡ true) → p c ≡ true
    first p i g c (inl j) = s.least p i g c j
    first p i g c (inr j) = g cell c (s.least p i g cell here) (only c (in_beyond w next c j).0)

pub beyond_step : (readers : Bag) (w : ℕ → Bool) (cells : List ℕ) (found more : BTreeSet ℕ) (work less after next enqueued : List ℕ) (cell : ℕ) → work ≡ less ++ cell ∷ [] → AreReaders readers cell next → enqueued ≡ next →
    AreEnqueued (beyond w enqueued) found more less after → IsSearchingBeyond readers w cells found work → IsSearchingBeyond readers w cells more after
beyond_step readers w cells found more work less after next enqueued cell e r q m s =
    told_step readers w cells found more work less after next enqueued cell [] e (λ d i. (r d).0 (Contains-from_has next d i)) (λ d i. inl (has-from_Contains next d ((r d).1 i))) (λ d i u. clash false i refl) q m s

-- ---- the search, by what was told before

abbrev pub IsAsking : Bag → (ℕ → Bool) → List ℕ → BTreeSet ℕ → List ℕ → Telling → Type 0
IsAsking readers w cells found work s = IsSearchingBeyond readers w cells found work × (s.bag ≡ readers) × AreFound w found s.told

pub asking_start : (readers : Bag) (w : ℕ → Bool) (cells : List ℕ) (none found : BTreeSet ℕ) (empty work : List ℕ) (s : Telling) → s ≡ telling readers [] → none.keys ≡ [] → empty ≡ [] → ((c : ℕ) → is_one_of cells c ≡ true → w c ≡ false) →
    AreEnqueued cells none found empty work → IsAsking readers w cells found work s
asking_start readers w cells none found empty work s k e f u n = (
  beyond_start readers w cells none found empty work e f u n,
  ap (λ (t : Telling). t.bag) k,
  λ r h v. clash false (ap (λ (t : Telling). is_one_of t.told r) (sym k) ∙ h) refl,
)

only_readers : (readers : Bag) (old new : Telling) (cell : ℕ) (next : List ℕ) → Answers old new cell next → old.bag ≡ readers → (d : ℕ) → is_one_of next d ≡ true → IsReader readers cell d
only_readers readers old new cell next a b d h = subst (λ (x : Bag). IsReader x cell d) b (a.only d h)

pub asking_step : (readers : Bag) (w : ℕ → Bool) (cells : List ℕ) (found more : BTreeSet ℕ) (work less after next enqueued : List ℕ) (cell : ℕ) (old new : Telling) → work ≡ less ++ cell ∷ [] → Answers old new cell next → enqueued ≡ next →
    AreEnqueued (beyond w enqueued) found more less after → IsAsking readers w cells found work old → IsAsking readers w cells more after new
asking_step readers w cells found more work less after next enqueued cell old new e a q m s = (
  told_step readers w cells found more work less after next enqueued cell old.told e (only_readers readers old new cell next a s.1)
      (λ d i. a.all d (subst (λ (x : Bag). IsReader x cell d) (sym s.1) i)) s.2 q m s.0,
  a.bag ∙ s.1,
  λ r h u. are_found r u (a.told r h),
)
  where
    n : AreEnqueued (beyond w next) found more less after
    n = subst (λ (xs : List ℕ). AreEnqueued xs found more less after) (ap (beyond w) q) m

    are_found : (r : ℕ) → w r ≡ false → (is_one_of old.told r ≡ true) ⊎ (is_one_of next r ≡ true) → contains nat_cmp more r ≡ true
    are_found r u (inl h) = n.found r ∙ or_left (contains nat_cmp found r) _ (s.2 r h u)
    are_found r u (inr h) = n.found r ∙ or_right (contains nat_cmp found r) _ (beyond_in w next r h u)

pub beyond_end : (readers : Bag) (w : ℕ → Bool) (cells : List ℕ) (found : BTreeSet ℕ) (work : List ℕ) → work ≡ [] → IsSearchingBeyond readers w cells found work → IsConeBeyond readers w cells found
beyond_end readers w cells found work e s = record {
  all = s.all;
  closed = λ a r i j u. at a r (s.opened a r i j u);
  unwatched = s.unwatched;
  least = s.least;
}
  where
    at : (a r : ℕ) → (is_one_of work a ≡ true) ⊎ (contains nat_cmp found r ≡ true) → contains nat_cmp found r ≡ true
    at a r (inl k) = clash (is_one_of work a) k (ap (λ (xs : List ℕ). is_one_of xs a) e)
    at a r (inr k) = k

-- it ends
pub told_ends : (readers : Bag) (w : ℕ → Bool) (found more : BTreeSet ℕ) (work less after next enqueued : List ℕ) (cell : ℕ) → work ≡ less ++ cell ∷ [] → ((d : ℕ) → is_one_of next d ≡ true → IsReader readers cell d) → enqueued ≡ next →
    AreEnqueued (beyond w enqueued) found more less after → length (missing more (all_readers readers)) + length after < length (missing found (all_readers readers)) + length work
told_ends readers w found more work less after next enqueued cell e only q m =
    let n = subst (λ (xs : List ℕ). AreEnqueued xs found more less after) (ap (beyond w) q) m in
    let f = n.fewer (all_readers readers) (λ c i. readers_there readers cell c (only c (in_beyond w next c i).0)) in
    let t : length work ≡ length less + 1 = ap (λ (xs : List ℕ). length xs) e ∙ length-append less (cell ∷ []) in
    omega (arith, f, t)

pub asking_ends : (readers : Bag) (w : ℕ → Bool) (found more : BTreeSet ℕ) (work less after next enqueued : List ℕ) (cell : ℕ) (old new : Telling) → work ≡ less ++ cell ∷ [] → Answers old new cell next → old.bag ≡ readers → enqueued ≡ next →
    AreEnqueued (beyond w enqueued) found more less after → length (missing more (all_readers readers)) + length after < length (missing found (all_readers readers)) + length work
asking_ends readers w found more work less after next enqueued cell old new e a b q m = told_ends readers w found more work less after next enqueued cell e (only_readers readers old new cell next a b) q m

pub beyond_ends : (readers : Bag) (w : ℕ → Bool) (found more : BTreeSet ℕ) (work less after next enqueued : List ℕ) (cell : ℕ) → work ≡ less ++ cell ∷ [] → AreReaders readers cell next → enqueued ≡ next → AreEnqueued (beyond w enqueued) found more less after →
    length (missing more (all_readers readers)) + length after < length (missing found (all_readers readers)) + length work
beyond_ends readers w found more work less after next enqueued cell e r q m = told_ends readers w found more work less after next enqueued cell e (λ d i. (r d).0 (Contains-from_has next d i)) q m

-- ---- a search that stops nowhere is one where no cell is watched

abbrev pub no_watch : ℕ → Bool
no_watch c = false

abbrev pub IsSearching : Bag → List ℕ → BTreeSet ℕ → List ℕ → Type 0
IsSearching readers cells found work = IsSearchingBeyond readers no_watch cells found work

all_beyond : (enqueued : List ℕ) (found more : BTreeSet ℕ) (less after : List ℕ) → AreEnqueued enqueued found more less after → AreEnqueued (beyond no_watch enqueued) found more less after
all_beyond enqueued found more less after n = subst (λ (xs : List ℕ). AreEnqueued xs found more less after) (sym (filter_all enqueued)) n

pub search_start : (readers : Bag) (cells : List ℕ) (none found : BTreeSet ℕ) (empty work : List ℕ) → none.keys ≡ [] → empty ≡ [] → AreEnqueued cells none found empty work → IsSearching readers cells found work
search_start readers cells none found empty work e f n = beyond_start readers no_watch cells none found empty work e f (λ c i. refl) n

pub search_step : (readers : Bag) (cells : List ℕ) (found more : BTreeSet ℕ) (work less after next enqueued : List ℕ) (cell : ℕ) → work ≡ less ++ cell ∷ [] → AreReaders readers cell next → enqueued ≡ next → AreEnqueued enqueued found more less after →
    IsSearching readers cells found work → IsSearching readers cells more after
search_step readers cells found more work less after next enqueued cell e r q m s = beyond_step readers no_watch cells found more work less after next enqueued cell e r q (all_beyond enqueued found more less after m) s

pub search_ends : (readers : Bag) (found more : BTreeSet ℕ) (work less after next enqueued : List ℕ) (cell : ℕ) → work ≡ less ++ cell ∷ [] → AreReaders readers cell next → enqueued ≡ next → AreEnqueued enqueued found more less after →
    length (missing more (all_readers readers)) + length after < length (missing found (all_readers readers)) + length work
search_ends readers found more work less after next enqueued cell e r q m = beyond_ends readers no_watch found more work less after next enqueued cell e r q (all_beyond enqueued found more less after m)

-- what is found so is the cone
pub whole_cone : (readers : Bag) (cells : List ℕ) (found : BTreeSet ℕ) → IsConeBeyond readers no_watch cells found → IsConeSet readers cells found
whole_cone readers cells found k = (λ c h. k.all c (beyond_in no_watch cells c h refl), λ a r h i. k.closed a r h i refl, k.least)

pub search_end : (readers : Bag) (cells : List ℕ) (found : BTreeSet ℕ) (work : List ℕ) → work ≡ [] → IsSearching readers cells found work → IsConeSet readers cells found
search_end readers cells found work e s = whole_cone readers cells found (beyond_end readers no_watch cells found work e s)

-- ---- what it finds

-- the cone but for the watched cells, where with each of them each that reads it is watched
pub found_beyond : (s : Sheet) (readers : Bag) (w : ℕ → Bool) (cells : List ℕ) (found : BTreeSet ℕ) → ((a r : ℕ) → (content_reads (content_of s r) a ≡ true) ↔ IsReader readers a r) → IsClosedUp s w → IsConeBeyond readers w cells found →
    (c : ℕ) → is_one_of found.keys c ≡ (in_cone s cells c && not (w c))
found_beyond s readers w cells found i g k c = sym (has_key found.keys c) ∙ one_truth (contains nat_cmp found c) (in_cone s cells c && not (w c)) to from
  where
    to : contains nat_cmp found c ≡ true → (in_cone s cells c && not (w c)) ≡ true
    to h = and_from (in_cone s cells c) (not (w c)) (k.least (in_cone s cells) (cone_has s cells) (λ a r m u. cone_closed s cells r a ((i a r).1 u) m) c h) (not_from_false (w c) (k.unwatched c h))

    has : (a : ℕ) → is_one_of cells a ≡ true → (w a ≡ true) ⊎ (w a ≡ false) → (contains nat_cmp found a || w a) ≡ true
    has a m (inl u) = or_right (contains nat_cmp found a) (w a) u
    has a m (inr u) = or_left (contains nat_cmp found a) (w a) (k.all a (beyond_in w cells a m u))

    read : (d a : ℕ) → content_reads (content_of s d) a ≡ true → contains nat_cmp found a ≡ true → (w d ≡ true) ⊎ (w d ≡ false) → (contains nat_cmp found d || w d) ≡ true
    read d a r m (inl u) = or_right (contains nat_cmp found d) (w d) u
    read d a r m (inr u) = or_left (contains nat_cmp found d) (w d) (k.closed a d m ((i a d).0 r) u)

    up : (d a : ℕ) → content_reads (content_of s d) a ≡ true → (contains nat_cmp found a ≡ true) ⊎ (w a ≡ true) → (contains nat_cmp found d || w d) ≡ true
    up d a r (inl m) = read d a r m (cases_Bool (w d))
    up d a r (inr m) = or_right (contains nat_cmp found d) (w d) (g d a r m)

    is_found : w c ≡ false → (contains nat_cmp found c ≡ true) ⊎ (w c ≡ true) → contains nat_cmp found c ≡ true
    is_found n (inl m) = m
    is_found n (inr m) = clash (w c) m n

    from : (in_cone s cells c && not (w c)) ≡ true → contains nat_cmp found c ≡ true
    from h =
        let x = and_parts (in_cone s cells c) (not (w c)) h in
        let y = cone_least s cells (λ d. contains nat_cmp found d || w d) (λ a m. has a m (cases_Bool (w a))) (λ d a r m. up d a r (or_cases (contains nat_cmp found a) (w a) m)) c x.0 in
        is_found (not-true (w c) x.1) (or_cases (contains nat_cmp found c) (w c) y)

-- ---- as a list

pub beyond_list : (readers : Bag) (w : ℕ → Bool) (cells list : List ℕ) (found : BTreeSet ℕ) → IsStrictlyIncreasing list → ((c : ℕ) → Contains list c ↔ (contains nat_cmp found c ≡ true)) → IsConeBeyond readers w cells found → IsListBeyond readers w cells list
beyond_list readers w cells list found o e k = record {
  order = o;
  cone = record {
    all = λ c h. same c ∙ k.all c h;
    closed = λ a r h i u. same r ∙ k.closed a r (sym (same a) ∙ h) i u;
    unwatched = λ c h. k.unwatched c (sym (same c) ∙ h);
    least = λ p h g c m. k.least p h g c (sym (same c) ∙ m);
  };
}
  where
    same : (c : ℕ) → contains nat_cmp (as_set list) c ≡ contains nat_cmp found c
    same c = has_key list c ∙ one_truth (is_one_of list c) (contains nat_cmp found c) (λ h. (e c).0 (Contains-from_has list c h)) (λ h. has-from_Contains list c ((e c).1 h))

-- those that aren't watched, where they stand in order and nothing reads them
pub own_beyond : (readers : Bag) (w : ℕ → Bool) (cells list looked : List ℕ) → list ≡ beyond w cells → looked ≡ list → IsStrictlyIncreasing looked → ((a r : ℕ) → is_one_of looked a ≡ true → IsReader readers a r → ⊥) → IsListBeyond readers w cells list
own_beyond readers w cells list looked e q o n = record {
  order = subst IsStrictlyIncreasing q o;
  cone = record {
    all = λ c h. has_key list c ∙ ap (λ (xs : List ℕ). is_one_of xs c) e ∙ h;
    closed = λ a r h i u. absurd (n a r (ap (λ (xs : List ℕ). is_one_of xs a) q ∙ sym (has_key list a) ∙ h) i);
    unwatched = λ c h. (own c h).1;
    least = λ p h g c m. h c (own c m).0;
  };
}
  where
    own : (c : ℕ) → contains nat_cmp (as_set list) c ≡ true → (is_one_of cells c ≡ true) × (w c ≡ false)
    own c h = in_beyond w cells c (ap (λ (xs : List ℕ). is_one_of xs c) (sym e) ∙ sym (has_key list c) ∙ h)

-- none of them is watched
pub none_watched : (w : ℕ → Bool) (cells list looked : List ℕ) → list ≡ beyond w cells → looked ≡ list → (c : ℕ) → is_one_of looked c ≡ true → w c ≡ false
none_watched w cells list looked e q c h = (in_beyond w cells c (ap (λ (xs : List ℕ). is_one_of xs c) (sym (q ∙ e)) ∙ h)).1

-- and what is found by them is found by all
pub beyond_all : (readers : Bag) (w : ℕ → Bool) (cells list looked : List ℕ) (found : BTreeSet ℕ) → list ≡ beyond w cells → looked ≡ list → IsConeBeyond readers w looked found → IsConeBeyond readers w cells found
beyond_all readers w cells list looked found e q k = record {
  all = λ c h. k.all c (beyond_in w looked c (ap (λ (xs : List ℕ). is_one_of xs c) (q ∙ e) ∙ h) (in_beyond w cells c h).1);
  closed = k.closed;
  unwatched = k.unwatched;
  least = λ p h g c m. k.least p (λ d i. h d (in_beyond w cells d (ap (λ (xs : List ℕ). is_one_of xs d) (sym (q ∙ e)) ∙ i)).0) g c m;
}

-- by the edges
pub edge_beyond : (rooms : Rooms) (readers : Bag) (cyclic : BTreeSet ℕ) (w : ℕ → Bool) (cells list : List ℕ) → IsGraph rooms readers cyclic → ((s : Sheet) → AreEdgesOf (edges_in rooms.entries) s → IsClosedUp s w) → IsListBeyond readers w cells list →
    (s : Sheet) → AreEdgesOf (edges_in rooms.entries) s → (c : ℕ) → is_one_of list c ≡ (in_cone s cells c && not (w c))
edge_beyond rooms readers cyclic w cells list g k m s h = found_beyond s readers w cells (as_set list) (graph_readers rooms readers g.ordered g.pairs s h) (k s h) m.cone

-- ---- cells that nothing reads

pub unread_cells : (rooms : Rooms) (readers : Bag) (cyclic : BTreeSet ℕ) (cells : List ℕ) → IsGraph rooms readers cyclic → ((a r : ℕ) → is_one_of cells a ≡ true → IsReader readers a r → ⊥) →
    (s : Sheet) → AreEdgesOf (edges_in rooms.entries) s → (x : ℕ) → is_one_of cells x ≡ true → IsUnread s x
unread_cells rooms readers cyclic cells g n s h x m c = false_from_ne_true (content_reads (content_of s c) x) (λ r. n x c m ((graph_readers rooms readers g.ordered g.pairs s h x c).0 r))

pub read_cell : (rooms : Rooms) (readers : Bag) (cyclic : BTreeSet ℕ) (cells : List ℕ) → IsGraph rooms readers cyclic → (a : ℕ) × (is_one_of cells a ≡ true) × IsRead readers a →
    (s : Sheet) → AreEdgesOf (edges_in rooms.entries) s → (x : ℕ) × (is_one_of cells x ≡ true) × (c : ℕ) × (content_reads (content_of s c) x ≡ true)
read_cell rooms readers cyclic cells g f s h = (f.0, f.1, f.2.0, (graph_readers rooms readers g.ordered g.pairs s h f.0 f.2.0).1 f.2.1)
