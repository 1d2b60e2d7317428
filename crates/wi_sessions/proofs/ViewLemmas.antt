-- Laws of the lists of pending cells, and of those with room only, of all sessions.
use Rattle.wi_sessions.proofs.Words.{◌≡◌, ◌≢◌, ◌<◌, ◌≤◌, ◌+◌, ◌||◌, ◌&&◌, ◌∙◌, ℕ, zero, suc, Bool, true, false, not, List, [], ◌∷◌, ◌++◌, map, length, get_or, set, filter, refl, sym, ap, subst, arith, ⊎_elim, and-true, or-false, or-true, list_all, range_with_len, IsStrictlySortedBy, nat_cmp, keys_of, cases_eq, get_or_past, get_or-set_same, get_or-set_other, length-set, fill_by_all, get_or-map-range_with_len, length-map-range_with_len, map-range_with_len_more, is_one_of, list_at, is_in, is_staged, cells_with, cells_in, vacant_in, SamePending, HasMade, HasCleared, has-filter}
use Rattle.wi_sessions.proofs.CellLemmas.{Ascend, ascend_filter, same_listed}
use Rattle.wi_sessions.proofs.WordLemmas.{Words, listed_with, ascend_with}

-- ---- a list for each session

module _ (f : ℕ → List ℕ) (n : ℕ) where
  abbrev pub lists : List (List ℕ)
  lists = map f (range_with_len 0 n)

  pub list_there : (i : ℕ) → i < n → list_at lists i ≡ f i
  list_there i l = get_or-map-range_with_len f 0 n i i [] l (omega arith)

  pub so_many : length lists ≡ n
  so_many = length-map-range_with_len f 0 n

  pub list_beyond : (i : ℕ) → n ≤ i → list_at lists i ≡ []
  list_beyond i l = get_or_past lists i [] (subst (λ (m : ℕ). m ≤ i) (sym so_many) l)

  -- one list more
  pub one_list_more : map f (range_with_len 0 (n + 1)) ≡ lists ++ f n ∷ []
  one_list_more = map-range_with_len_more f 0 n n (omega arith)

  -- the same lists
  pub same_as : (g : ℕ → List ℕ) → ((i : ℕ) → i < n → g i ≡ f i) → map g (range_with_len 0 n) ≡ lists
  same_as g h = fill_by_all f (map g (range_with_len 0 n)) n [] (length-map-range_with_len g 0 n) (λ k l. get_or-map-range_with_len g 0 n k k [] l (omega arith) ∙ h k l)

  -- the same but for one
  pub one_set : (g : ℕ → List ℕ) (i : ℕ) (xs : List ℕ) → i < n → g i ≡ xs → ((j : ℕ) → j ≢ i → g j ≡ f j) → map g (range_with_len 0 n) ≡ set lists i xs
  one_set g i xs l here others =
      sym (fill_by_all g (set lists i xs) n [] (length-set lists i xs ∙ so_many) each)
    where
      each : (k : ℕ) → k < n → get_or (set lists i xs) k [] ≡ g k
      each k m = ⊎_elim
          (λ e. ap (λ (j : ℕ). get_or (set lists i xs) j []) e
          ∙ get_or-set_same lists i xs [] (subst (λ (c : ℕ). i < c) (sym so_many) l) ∙ sym here ∙ ap g (sym e))
          (λ apart. get_or-set_other lists i k xs [] apart ∙ list_there k m ∙ sym (others k apart))
          (cases_eq k i)

-- ---- what is listed

module _ (words staged : Words) (i : ℕ) (order : IsStrictlySortedBy nat_cmp (keys_of words)) where
  pub listed_in : (q : ℕ) → is_one_of (cells_in words staged i) q ≡ (is_in words i q && not (is_staged staged i q))
  listed_in q =
      has-filter (λ c. not (is_staged staged i c)) (cells_with words i) q ∙ ap (λ b. b && not (is_staged staged i q)) (listed_with words i order q)

  pub listed_vacant : (q : ℕ) → is_one_of (vacant_in words staged i) q ≡ (is_in words i q && is_staged staged i q)
  listed_vacant q =
      has-filter (λ c. is_staged staged i c) (cells_with words i) q ∙ ap (λ b. b && is_staged staged i q) (listed_with words i order q)

  pub ascend_in : Ascend (cells_in words staged i)
  ascend_in = ascend_filter (λ c. not (is_staged staged i c)) (cells_with words i) (ascend_with words i order)

  pub ascend_vacant : Ascend (vacant_in words staged i)
  ascend_vacant = ascend_filter (λ c. is_staged staged i c) (cells_with words i) (ascend_with words i order)

  split : (s v : Bool) → s ≡ ((s && not v) || (s && v))
  split true true = refl
  split true false = refl
  split false v = refl

  -- pending or with room only
  pub listed_either : (q : ℕ) → (is_one_of (cells_in words staged i) q || is_one_of (vacant_in words staged i) q) ≡ is_in words i q
  listed_either q =
      ap (λ b. b || is_one_of (vacant_in words staged i) q) (listed_in q) ∙ ap (λ b. (is_in words i q && not (is_staged staged i q)) || b) (listed_vacant q)
      ∙ sym (split (is_in words i q) (is_staged staged i q))

  -- where no cell has the bit
  pub none_in : ((c : ℕ) → is_in words i c ≡ false) → cells_in words staged i ≡ []
  none_in h = same_listed (cells_in words staged i) [] ascend_in tt (λ q. listed_in q ∙ ap (λ b. b && not (is_staged staged i q)) (h q))

  pub no_vacant : ((c : ℕ) → is_in words i c ≡ false) → vacant_in words staged i ≡ []
  no_vacant h = same_listed (vacant_in words staged i) [] ascend_vacant tt (λ q. listed_vacant q ∙ ap (λ b. b && is_staged staged i q) (h q))

none_kept : (xs : List ℕ) → filter (λ c. false) xs ≡ []
none_kept [] = refl
none_kept (x ∷ xs) = none_kept xs

-- where no room is listed
pub none_vacant : (words none : Words) (i : ℕ) → none ≡ [] → vacant_in words none i ≡ []
none_vacant words none i e = ap (λ (rs : Words). vacant_in words rs i) e ∙ none_kept (cells_with words i)

-- ---- the same cells

module _ (words staged more rooms : Words) (a : IsStrictlySortedBy nat_cmp (keys_of words)) (b : IsStrictlySortedBy nat_cmp (keys_of more)) where
  pub same_in : SamePending words staged more rooms → (i : ℕ) → cells_in more rooms i ≡ cells_in words staged i
  same_in h i =
      same_listed (cells_in more rooms i) (cells_in words staged i) (ascend_in more rooms i b) (ascend_in words staged i a)
      (λ q. listed_in more rooms i b q ∙ h i q ∙ sym (listed_in words staged i a q))

  pub same_vacant : (i : ℕ) → ((c : ℕ) → is_in more i c ≡ is_in words i c) → ((c : ℕ) → is_staged rooms i c ≡ is_staged staged i c) → vacant_in more rooms i ≡ vacant_in words staged i
  same_vacant i h k =
      same_listed (vacant_in more rooms i) (vacant_in words staged i) (ascend_vacant more rooms i b) (ascend_vacant words staged i a)
      (λ q. listed_vacant more rooms i b q ∙ ap (λ t. t && is_staged rooms i q) (h q) ∙ ap (λ t. is_in words i q && t) (k q) ∙ sym (listed_vacant words staged i a q))

  room_made : (s v t m r : Bool) → m ≡ (s || t) → r ≡ (v || (t && not s)) → (m && r) ≡ ((s && v) || (t && not (s && not v)))
  room_made s v t m r e f = ap (λ x. x && r) e ∙ ap (λ x. (s || t) && x) f ∙ by s v t
    where
      by : (s v t : Bool) → ((s || t) && (v || (t && not s))) ≡ ((s && v) || (t && not (s && not v)))
      by true true t = refl
      by true false true = refl
      by true false false = refl
      by false v true = or-true v
      by false v false = refl

  -- for which cells there is room
  pub vacant_made : (test : ℕ → ℕ → Bool) → HasMade test words staged more rooms
      → (i q : ℕ) → is_one_of (vacant_in more rooms i) q ≡ (is_one_of (vacant_in words staged i) q || (test i q && not (is_one_of (cells_in words staged i) q)))
  vacant_made test h i q =
      listed_vacant more rooms i b q
      ∙ room_made (is_in words i q) (is_staged staged i q) (test i q) (is_in more i q) (is_staged rooms i q) (h.put i q) (h.made i q)
      ∙ ap (λ x. x || (test i q && not (is_in words i q && not (is_staged staged i q)))) (sym (listed_vacant words staged i a q))
      ∙ ap (λ x. is_one_of (vacant_in words staged i) q || (test i q && not x)) (sym (listed_in words staged i a q))

  -- and for which sessions there is as before
  pub vacant_stays : (test : ℕ → ℕ → Bool) → HasMade test words staged more rooms → (i : ℕ) → ((c : ℕ) → test i c ≡ false) → vacant_in more rooms i ≡ vacant_in words staged i
  vacant_stays test h i none =
      same_vacant i (λ c. h.put i c ∙ ap (λ x. is_in words i c || x) (none c) ∙ or-false (is_in words i c))
      (λ c. h.made i c ∙ ap (λ x. is_staged staged i c || (x && not (is_in words i c))) (none c) ∙ or-false (is_staged staged i c))

-- once those with room only are pending
pub pending_taken : (words staged none : Words) (i : ℕ) → IsStrictlySortedBy nat_cmp (keys_of words) → none ≡ []
    → (q : ℕ) → is_one_of (cells_in words none i) q ≡ (is_one_of (cells_in words staged i) q || is_one_of (vacant_in words staged i) q)
pending_taken words staged none i order e q =
    listed_in words none i order q ∙ ap (λ (rs : Words). is_in words i q && not (is_staged rs i q)) e ∙ and-true (is_in words i q) ∙ sym (listed_either words staged i order q)

-- ---- a session's bits taken away

pub cleared : (s t : Bool) → t ≡ s → (s && not t) ≡ false
cleared s t e = ap (λ x. s && not x) e ∙ by s
  where
    by : (s : Bool) → (s && not s) ≡ false
    by true = refl
    by false = refl

module _ (words less staged : Words) (i n : ℕ) (test : ℕ → ℕ → Bool) (a : IsStrictlySortedBy nat_cmp (keys_of words)) (b : IsStrictlySortedBy nat_cmp (keys_of less))
    (h : HasCleared test words less) (l : i < n) (all : (c : ℕ) → test i c ≡ is_in words i c) (others : (j c : ℕ) → j ≢ i → test j c ≡ false) where
  here : (c : ℕ) → is_in less i c ≡ false
  here c = h i c ∙ cleared (is_in words i c) (test i c) (all c)

  there : (j c : ℕ) → j ≢ i → is_in less j c ≡ is_in words j c
  there j c apart = h j c ∙ ap (λ x. is_in words j c && not x) (others j c apart) ∙ and-true (is_in words j c)

  pub pending_cleared : map (cells_in less staged) (range_with_len 0 n) ≡ set (map (cells_in words staged) (range_with_len 0 n)) i []
  pending_cleared =
      one_set (cells_in words staged) n (cells_in less staged) i [] l (none_in less staged i b here)
      (λ j apart. same_listed (cells_in less staged j) (cells_in words staged j) (ascend_in less staged j b) (ascend_in words staged j a)
      (λ q. listed_in less staged j b q ∙ ap (λ x. x && not (is_staged staged j q)) (there j q apart) ∙ sym (listed_in words staged j a q)))

  pub vacant_cleared : map (vacant_in less staged) (range_with_len 0 n) ≡ set (map (vacant_in words staged) (range_with_len 0 n)) i []
  vacant_cleared =
      one_set (vacant_in words staged) n (vacant_in less staged) i [] l (no_vacant less staged i b here)
      (λ j apart. same_vacant words staged less staged a b j (λ c. there j c apart) (λ c. refl))

-- ---- what each has

all_from : (p : List ℕ → Bool) (f : ℕ → List ℕ) (from count : ℕ) → ((i : ℕ) → from ≤ i → i < from + count → p (f i) ≡ true) → list_all p (map f (range_with_len from count)) ≡ true
all_from p f from zero g = refl
all_from p f from (suc count) g =
    ap (λ (b : Bool). b && list_all p (map f (range_with_len (from + 1) count))) (g from (omega arith) (omega arith))
    ∙ all_from p f (from + 1) count (λ i l m. g i (omega (arith, l)) (omega (arith, m)))

-- each of the first n passes
pub all_pass : (p : List ℕ → Bool) (f : ℕ → List ℕ) (n : ℕ) → ((i : ℕ) → i < n → p (f i) ≡ true) → list_all p (map f (range_with_len 0 n)) ≡ true
all_pass p f n h = all_from p f 0 n (λ i l m. h i (omega (arith, m)))
