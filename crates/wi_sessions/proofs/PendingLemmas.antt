-- Laws of what is pending for all sessions, for each call.
use Rattle.wi_sessions.proofs.Words.{◌⊎◌, ◌≡◌, ◌≢◌, ◌==◌, ◌<◌, ◌≤◌, ◌+◌, ◌||◌, ◌&&◌, ◌∙◌, ℕ, Bool, true, false, not, List, [], ◌∷◌, ◌++◌, map, length, get_or, set, drop, filter, Result, Ok, Err, ◌*◌, refl, sym, ap, subst, arith, ⊎_elim, zero, suc, inl, inr, Option, None, and-false, and-true, or-false, nat_lt, unwrap_or, IfOk, All, list_all, range_with_len, IsStrictlySortedBy, nat_cmp, keys_of, lookup, is_at, and_parts, both_ways, cases_eq, cases_lt, eq-eqb, ne_eqb, le-ltb, lt-ltb, get_or-set_same, length-append, length-set, All-filter, All-map, list_any-append, one_truth, rows, columns, filter_all, sheet_size, is_one_of, Rises, AllPending, list_at, SameCells, Unread, has_bit, is_in, is_staged, cells_with, cells_in, vacant_in, pending_in, at_cells, SamePending, HasMade, HasCleared, is_unread, HasPlace, AreKept, AreLookedAt, has-filter, AllocError, GetsRoom}
use Rattle.wi_sessions.proofs.BitLemmas.{none_in_zero}
use Rattle.wi_sessions.proofs.CellLemmas.{rises, same_listed}
use Rattle.wi_sessions.proofs.WordLemmas.{Words, OthersStay}
use Rattle.wi_sessions.proofs.ViewLemmas.{all_pass, ascend_in, ascend_vacant, list_beyond, list_there, listed_either, listed_in, listed_vacant, none_vacant, one_list_more, pending_cleared, pending_taken, same_as, same_in, same_vacant, so_many, vacant_cleared, vacant_made, vacant_stays, cleared}
use Rattle.wi_sessions.proofs.PlaceLemmas.{kept_at, kept_cleared, kept_fewer, kept_made, places_pushed, places_set}
use Rattle.wi_sessions.proofs.RosterLemmas.{one_of_all_has}

abbrev pub Ordered : Words → Type 0
Ordered words = IsStrictlySortedBy nat_cmp (keys_of words)

abbrev as_pending : List (List ℕ) → List (List ℕ) → AllPending
as_pending pending vacant = record { pending = pending; vacant = vacant }

-- ---- what stays the same

module _ (words staged more rooms : Words) (n : ℕ) (a : Ordered words) (b : Ordered more) where
  pub pending_same : SamePending words staged more rooms → map (cells_in more rooms) (range_with_len 0 n) ≡ map (cells_in words staged) (range_with_len 0 n)
  pending_same h = same_as (cells_in words staged) n (cells_in more rooms) (λ i l. same_in words staged more rooms a b h i)

-- how many lists there are
pub within_unread : (words staged : Words) (n i : ℕ) (p : AllPending) → pending_in words staged n ≡ p → i < length p.pending → i < n
within_unread words staged n i p v l = subst (λ (m : ℕ). i < m) (ap (λ (q : AllPending). length q.pending) (sym v) ∙ so_many (cells_in words staged) n) l

-- no list of rooms has a cell
pub rooms_gone : (words none : Words) (n j : ℕ) → none ≡ [] → list_at (map (vacant_in words none) (range_with_len 0 n)) j ≡ []
rooms_gone words none n j e = ⊎_elim (λ l. list_there (vacant_in words none) n j l ∙ none_vacant words none j e) (list_beyond (vacant_in words none) n j) (cases_lt j n)

-- the same list of a session before and after
pub list_same : (f g : ℕ → List ℕ) (n j : ℕ) → (j < n → g j ≡ f j) → list_at (map g (range_with_len 0 n)) j ≡ list_at (map f (range_with_len 0 n)) j
list_same f g n j h =
    ⊎_elim (λ l. list_there g n j l ∙ h l ∙ sym (list_there f n j l)) (λ l. list_beyond g n j l ∙ sym (list_beyond f n j l)) (cases_lt j n)

-- once the rooms are taken
pub taken_at : (words staged none : Words) (n i q : ℕ) → Ordered words → none ≡ []
    → is_one_of (list_at (map (cells_in words none) (range_with_len 0 n)) i) q
    ≡ (is_one_of (list_at (map (cells_in words staged) (range_with_len 0 n)) i) q || is_one_of (list_at (map (vacant_in words staged) (range_with_len 0 n)) i) q)
taken_at words staged none n i q order e = ⊎_elim
    (λ l. ap (λ (xs : List ℕ). is_one_of xs q) (list_there (cells_in words none) n i l) ∙ pending_taken words staged none i order e q
    ∙ ap (λ (xs : List ℕ). is_one_of xs q || is_one_of (vacant_in words staged i) q) (sym (list_there (cells_in words staged) n i l))
    ∙ ap (λ (xs : List ℕ). is_one_of (list_at (map (cells_in words staged) (range_with_len 0 n)) i) q || is_one_of xs q) (sym (list_there (vacant_in words staged) n i l)))
    (λ l. ap (λ (xs : List ℕ). is_one_of xs q) (list_beyond (cells_in words none) n i l)
    ∙ sym (ap (λ (xs : List ℕ). is_one_of xs q || is_one_of (list_at (map (vacant_in words staged) (range_with_len 0 n)) i) q) (list_beyond (cells_in words staged) n i l)
    ∙ ap (λ (xs : List ℕ). is_one_of xs q) (list_beyond (vacant_in words staged) n i l)))
    (cases_lt i n)

-- ---- one session alone

module _ (words staged more rooms : Words) (i n bit : ℕ) (cells : List ℕ) (a : Ordered words) (b : Ordered more) (l : i < n)
    (alone : (j : ℕ) → has_bit j bit ≡ (j == i)) (h : HasMade (at_cells cells bit) words staged more rooms) where
  here : has_bit i bit ≡ true
  here = alone i ∙ eq-eqb i i refl

  elsewhere : (j : ℕ) → j ≢ i → has_bit j bit ≡ false
  elsewhere j apart = alone j ∙ ne_eqb j i apart

  not_elsewhere : (j c : ℕ) → j ≢ i → at_cells cells bit j c ≡ false
  not_elsewhere j c apart = ap (λ t. is_one_of cells c && t) (elsewhere j apart) ∙ and-false (is_one_of cells c)

  room_here : (q : ℕ) → is_one_of (list_at (map (vacant_in more rooms) (range_with_len 0 n)) i) q
      ≡ (is_one_of (list_at (map (vacant_in words staged) (range_with_len 0 n)) i) q
      || (is_one_of cells q && not (is_one_of (list_at (map (cells_in words staged) (range_with_len 0 n)) i) q)))
  room_here q =
      ap (λ (xs : List ℕ). is_one_of xs q) (list_there (vacant_in more rooms) n i l) ∙ vacant_made words staged more rooms a b (at_cells cells bit) h i q
      ∙ ap (λ t. is_one_of (vacant_in words staged i) q || (t && not (is_one_of (cells_in words staged i) q))) (ap (λ t. is_one_of cells q && t) here ∙ and-true (is_one_of cells q))
      ∙ ap (λ (xs : List ℕ). is_one_of xs q || (is_one_of cells q && not (is_one_of (cells_in words staged i) q))) (sym (list_there (vacant_in words staged) n i l))
      ∙ ap (λ (xs : List ℕ). is_one_of (list_at (map (vacant_in words staged) (range_with_len 0 n)) i) q || (is_one_of cells q && not (is_one_of xs q))) (sym (list_there (cells_in words staged) n i l))

  room_elsewhere : (j : ℕ) → j ≢ i → list_at (map (vacant_in more rooms) (range_with_len 0 n)) j ≡ list_at (map (vacant_in words staged) (range_with_len 0 n)) j
  room_elsewhere j apart =
      list_same (vacant_in words staged) (vacant_in more rooms) n j
      (λ m. vacant_stays words staged more rooms a b (at_cells cells bit) h j (λ c. not_elsewhere j c apart))

  pub more_room : {u : Unit {0}} (p : AllPending) (m : ℕ) → pending_in words staged n ≡ p → m ≡ n → SamePending words staged more rooms → GetsRoom cells i (Ok u) p (pending_in more rooms m)
  more_room {u} p m view e same =
      subst (λ (k : ℕ). GetsRoom cells i (Ok u) p (pending_in more rooms k)) (sym e)
      (subst (λ (r : AllPending). GetsRoom cells i (Ok u) r (pending_in more rooms n)) view (record { lists = pending_same words staged more rooms n a b same; room = room_here; refused = tt; others = room_elsewhere }))

  -- where its cells are looked at
  pub kept_here : (changed : List ℕ) (unread : List Unread) (u : Unread) → length unread ≡ n → AreKept words staged changed unread → HasPlace words changed i u
      → ((c : ℕ) → is_one_of cells c ≡ true → is_unread changed u c ≡ true) → AreKept more rooms changed (set unread i u)
  kept_here changed unread u e k p own =
      kept_made words staged changed (set unread i u)
      (kept_at words staged changed unread k changed (set unread i u) (length-set unread i u) (places_set words changed unread i u within k.places p))
      (at_cells cells bit) more rooms b h
      (λ j c m. not_elsewhere j c (λ (s : j ≡ i). let n' : n ≤ j = subst (λ (c : ℕ). c ≤ j) (length-set unread i u ∙ e) m in let none : Prim.⊥ = omega (arith, l, n', s) in none))
      (λ j c d m t. ⊎_elim
      (λ s. subst (λ (v : Unread). is_unread changed v c ≡ true) (sym (at_i j d s)) (own c (and_parts (is_one_of cells c) (has_bit j bit) t).0))
      (λ apart. absurd (both_ways (has_bit j bit) (elsewhere j apart) (and_parts (is_one_of cells c) (has_bit j bit) t).1))
      (cases_eq j i))
    where
      within : i < length unread
      within = subst (λ (m : ℕ). i < m) (sym e) l

      at_i : (j : ℕ) (d : Unread) → j ≡ i → get_or (set unread i u) j d ≡ u
      at_i j d s = ap (λ (m : ℕ). get_or (set unread i u) m d) s ∙ get_or-set_same unread i u d within

-- its rooms dropped
module _ (words staged more rooms less : Words) (i n bit : ℕ) (a : Ordered words) (b : Ordered less) (l : i < n)
    (alone : (j : ℕ) → has_bit j bit ≡ (j == i)) (same : SamePending words staged more rooms) (stay : OthersStay bit words staged more rooms)
    (h : HasCleared (λ j c. is_staged rooms j c && has_bit j bit) more less) where
  bit_here : has_bit i bit ≡ true
  bit_here = alone i ∙ eq-eqb i i refl

  left_here : (c : ℕ) → is_in less i c ≡ (is_in more i c && not (is_staged rooms i c))
  left_here c = h i c ∙ ap (λ t. is_in more i c && not (is_staged rooms i c && t)) bit_here ∙ ap (λ t. is_in more i c && not t) (and-true (is_staged rooms i c))

  left_elsewhere : (j c : ℕ) → j ≢ i → is_in less j c ≡ is_in words j c
  left_elsewhere j c apart =
      let none : has_bit j bit ≡ false = alone j ∙ ne_eqb j i apart in
      h j c ∙ ap (λ t. is_in more j c && not (is_staged rooms j c && t)) none ∙ ap (λ t. is_in more j c && not t) (and-false (is_staged rooms j c))
      ∙ and-true (is_in more j c) ∙ (stay j c none).0

  twice : (m r : Bool) → ((m && not r) && not r) ≡ (m && not r)
  twice true true = refl
  twice true false = refl
  twice false r = refl

  never : (m r : Bool) → ((m && not r) && r) ≡ false
  never true true = refl
  never true false = refl
  never false r = refl

  rooms_elsewhere : (j c : ℕ) → j ≢ i → is_staged rooms j c ≡ is_staged staged j c
  rooms_elsewhere j c apart = (stay j c (alone j ∙ ne_eqb j i apart)).1

  dropped_pending : SamePending words staged less rooms
  dropped_pending = λ j c. ⊎_elim (at_i j c) (λ apart. ap (λ t. t && not (is_staged rooms j c)) (left_elsewhere j c apart) ∙ ap (λ t. is_in words j c && not t) (rooms_elsewhere j c apart)) (cases_eq j i)
    where
      at_i : (j c : ℕ) → j ≡ i → (is_in less j c && not (is_staged rooms j c)) ≡ (is_in words j c && not (is_staged staged j c))
      at_i j c e =
          subst (λ (k : ℕ). (is_in less k c && not (is_staged rooms k c)) ≡ (is_in words k c && not (is_staged staged k c))) (sym e)
          (ap (λ t. t && not (is_staged rooms i c)) (left_here c) ∙ twice (is_in more i c) (is_staged rooms i c) ∙ same i c)

  dropped_here : list_at (map (vacant_in less rooms) (range_with_len 0 n)) i ≡ []
  dropped_here =
      list_there (vacant_in less rooms) n i l
      ∙ same_listed (vacant_in less rooms i) [] (ascend_vacant less rooms i b) tt
      (λ q. listed_vacant less rooms i b q ∙ ap (λ t. t && is_staged rooms i q) (left_here q) ∙ never (is_in more i q) (is_staged rooms i q))

  dropped_elsewhere : (j : ℕ) → j ≢ i → list_at (map (vacant_in less rooms) (range_with_len 0 n)) j ≡ list_at (map (vacant_in words staged) (range_with_len 0 n)) j
  dropped_elsewhere j apart =
      list_same (vacant_in words staged) (vacant_in less rooms) n j
      (λ m. same_vacant words staged less rooms a b j (λ c. left_elsewhere j c apart) (λ c. rooms_elsewhere j c apart))

  pub no_room : {x : AllocError} (cells : List ℕ) (p : AllPending) (m : ℕ) → pending_in words staged n ≡ p → m ≡ n → GetsRoom cells i (Err x) p (pending_in less rooms m)
  no_room {x} cells p m view e =
      subst (λ (k : ℕ). GetsRoom cells i (Err x) p (pending_in less rooms k)) (sym e)
      (subst (λ (r : AllPending). GetsRoom cells i (Err x) r (pending_in less rooms n)) view (record { lists = pending_same words staged less rooms n a b dropped_pending; room = tt; refused = dropped_here; others = dropped_elsewhere }))

  pub dropped_kept : (changed : List ℕ) (unread : List Unread) → length unread ≡ n → AreKept words staged changed unread → AreKept less rooms changed unread
  dropped_kept changed unread e k =
      kept_fewer words staged changed unread k less rooms b
      (λ j c t. ⊎_elim
      (λ s. subst (λ (m : ℕ). is_in words m c ≡ true) (sym s)
      (and_parts (is_in words i c) (not (is_staged staged i c)) (sym (same i c) ∙ sym (left_here c) ∙ subst (λ (m : ℕ). is_in less m c ≡ true) s t)).0)
      (λ apart. sym (left_elsewhere j c apart) ∙ t) (cases_eq j i))
      (λ j c m. rooms_elsewhere j c (λ (s : j ≡ i). let n' : n ≤ j = subst (λ (z : ℕ). z ≤ j) e m in let none : Prim.⊥ = omega (arith, l, n', s) in none) ∙ k.bare j c m)

-- ---- each session

module _ (words staged more rooms : Words) (n : ℕ) (cells : List ℕ) (a : Ordered words) (b : Ordered more)
    (h : HasMade (λ i c. is_one_of cells c && nat_lt i n) words staged more rooms) where
  pub room_each : (i q : ℕ) → i < n → is_one_of (list_at (map (vacant_in more rooms) (range_with_len 0 n)) i) q
      ≡ (is_one_of (list_at (map (vacant_in words staged) (range_with_len 0 n)) i) q
      || (is_one_of cells q && not (is_one_of (list_at (map (cells_in words staged) (range_with_len 0 n)) i) q)))
  room_each i q l =
      ap (λ (xs : List ℕ). is_one_of xs q) (list_there (vacant_in more rooms) n i l) ∙ vacant_made words staged more rooms a b (λ j c. is_one_of cells c && nat_lt j n) h i q
      ∙ ap (λ t. is_one_of (vacant_in words staged i) q || (t && not (is_one_of (cells_in words staged i) q)))
      (ap (λ t. is_one_of cells q && t) (lt-ltb i n l) ∙ and-true (is_one_of cells q))
      ∙ ap (λ (xs : List ℕ). is_one_of xs q || (is_one_of cells q && not (is_one_of (cells_in words staged i) q))) (sym (list_there (vacant_in words staged) n i l))
      ∙ ap (λ (xs : List ℕ). is_one_of (list_at (map (vacant_in words staged) (range_with_len 0 n)) i) q || (is_one_of cells q && not (is_one_of xs q))) (sym (list_there (cells_in words staged) n i l))

  pub kept_each : (changed : List ℕ) (unread : List Unread) → length unread ≡ n → AreKept words staged changed unread → AreLookedAt cells changed unread → AreKept more rooms changed unread
  kept_each changed unread e k look =
      kept_made words staged changed unread k (λ i c. is_one_of cells c && nat_lt i n) more rooms b h
      (λ i c m. ap (λ t. is_one_of cells c && t) (le-ltb i n (subst (λ (z : ℕ). z ≤ i) e m)) ∙ and-false (is_one_of cells c))
      (λ i c d m t. look i c d m (and_parts (is_one_of cells c) (nat_lt i n) t).0)

-- ---- one session more

-- where it comes last
pub record HasOneMore (p : AllPending) (more staged : Words) (changed : List ℕ) (read : List Unread) (new cells : List ℕ) : Type 0 where
  pub pending : map (cells_in more staged) (range_with_len 0 (length read)) ≡ p.pending ++ new ∷ []
  pub vacant : map (vacant_in more staged) (range_with_len 0 (length read)) ≡ p.vacant ++ [] ∷ []
  pub same : SameCells new cells
  pub kept : AreKept more staged changed read

module _ (words staged more : Words) (changed : List ℕ) (unread : List Unread) (u : Unread) (n bit : ℕ) (cells : List ℕ) (e : length unread ≡ n) (k : AreKept words staged changed unread) (b : Ordered more)
    (few : n < 64) (alone : (j : ℕ) → has_bit j bit ≡ (j == n)) (put : (j c : ℕ) → is_in more j c ≡ (is_in words j c || at_cells cells bit j c)) where
  as_before : (j c : ℕ) → j ≢ n → is_in more j c ≡ is_in words j c
  as_before j c apart =
      put j c ∙ ap (λ t. is_in words j c || (is_one_of cells c && t)) (alone j ∙ ne_eqb j n apart) ∙ ap (λ t. is_in words j c || t) (and-false (is_one_of cells c))
      ∙ or-false (is_in words j c)

  none_before : (c : ℕ) → is_in words n c ≡ false
  none_before c = k.none n c (omega (arith, e))

  new_has : (c : ℕ) → is_in more n c ≡ is_one_of cells c
  new_has c =
      put n c ∙ ap (λ t. t || (is_one_of cells c && has_bit n bit)) (none_before c) ∙ ap (λ t. is_one_of cells c && t) (alone n ∙ eq-eqb n n refl) ∙ and-true (is_one_of cells c)

  apart_below : (i : ℕ) → i < n → i ≡ n → Prim.⊥
  apart_below i l s = let none : Prim.⊥ = omega (arith, l, s) in none

  pushed_pending : map (cells_in more staged) (range_with_len 0 (n + 1)) ≡ map (cells_in words staged) (range_with_len 0 n) ++ cells_in more staged n ∷ []
  pushed_pending =
      one_list_more (cells_in more staged) n
      ∙ ap (λ (xss : List (List ℕ)). xss ++ cells_in more staged n ∷ []) (same_as (cells_in words staged) n (cells_in more staged) (λ i l.
      same_listed (cells_in more staged i) (cells_in words staged i) (ascend_in more staged i b) (ascend_in words staged i k.order)
      (λ q. listed_in more staged i b q ∙ ap (λ t. t && not (is_staged staged i q)) (as_before i q (apart_below i l)) ∙ sym (listed_in words staged i k.order q))))

  pushed_cells : SameCells (cells_in more staged n) cells
  pushed_cells = λ q.
      listed_in more staged n b q ∙ ap (λ t. is_in more n q && not t) (k.bare n q (omega (arith, e))) ∙ and-true (is_in more n q) ∙ new_has q

  pushed_vacant : map (vacant_in more staged) (range_with_len 0 (n + 1)) ≡ map (vacant_in words staged) (range_with_len 0 n) ++ [] ∷ []
  pushed_vacant =
      one_list_more (vacant_in more staged) n
      ∙ ap (λ (xss : List (List ℕ)). xss ++ vacant_in more staged n ∷ []) (same_as (vacant_in words staged) n (vacant_in more staged) (λ i l.
      same_vacant words staged more staged k.order b i (λ c. as_before i c (apart_below i l)) (λ c. refl)))
      ∙ ap (λ (xs : List ℕ). map (vacant_in words staged) (range_with_len 0 n) ++ xs ∷ []) empty
    where
      empty : vacant_in more staged n ≡ []
      empty =
          same_listed (vacant_in more staged n) [] (ascend_vacant more staged n b) tt
          (λ q. listed_vacant more staged n b q ∙ ap (λ t. is_in more n q && t) (k.bare n q (omega (arith, e))) ∙ and-false (is_in more n q))

  pushed_kept : u.from ≤ length changed → ((c : ℕ) → is_one_of cells c ≡ true → is_unread changed u c ≡ true) → AreKept more staged changed (unread ++ u ∷ [])
  pushed_kept within own = record {
    order = b;
    few = subst (λ (m : ℕ). m ≤ 64) (sym (length-append unread (u ∷ []))) (omega (arith, e, few));
    none = λ i c l. let m : n < i = beyond i l in as_before i c (λ (s : i ≡ n). let none : Prim.⊥ = omega (arith, m, s) in none) ∙ k.none i c (omega (arith, m, e));
    bare = λ i c l. let m : n < i = beyond i l in k.bare i c (omega (arith, m, e));
    places = places_pushed more changed unread u (λ i d l. let p : HasPlace words changed i (get_or unread i d) = k.places i d l in record { within = p.within; found = λ c t. p.found c (sym (as_before i c (apart_below i (subst (λ (m : ℕ). i < m) e l))) ∙ t) })
        (subst (λ (m : ℕ). HasPlace more changed m u) (sym e) (record { within = within; found = λ c t. own c (sym (new_has c) ∙ t) }));
  }
    where
      beyond : (i : ℕ) → length (unread ++ u ∷ []) ≤ i → n < i
      beyond i l = let l' = subst (λ (m : ℕ). m ≤ i) (length-append unread (u ∷ [])) l in omega (arith, l', e)

  pub one_more : (p : AllPending) (read : List Unread) → pending_in words staged n ≡ p → read ≡ unread ++ u ∷ [] → u.from ≤ length changed → ((c : ℕ) → is_one_of cells c ≡ true → is_unread changed u c ≡ true)
      → HasOneMore p more staged changed read (cells_in more staged n) cells
  one_more p read view pushed within own =
      let long : length (unread ++ u ∷ []) ≡ n + 1 = length-append unread (u ∷ []) ∙ ap (λ (m : ℕ). m + 1) e in
      subst (λ (us : List Unread). HasOneMore p more staged changed us (cells_in more staged n) cells) (sym pushed)
      (subst (λ (r : AllPending). HasOneMore r more staged changed (unread ++ u ∷ []) (cells_in more staged n) cells) view (record {
        pending = ap (λ (m : ℕ). map (cells_in more staged) (range_with_len 0 m)) long ∙ pushed_pending;
        vacant = ap (λ (m : ℕ). map (vacant_in more staged) (range_with_len 0 m)) long ∙ pushed_vacant;
        same = pushed_cells;
        kept = pushed_kept within own;
      }))

-- where memory ran out all is as it was
module _ (words staged more : Words) (a : Ordered words) (b : Ordered more) (bits_same : (i c : ℕ) → is_in more i c ≡ is_in words i c) where
  pub refused_same : (n : ℕ) → pending_in more staged n ≡ pending_in words staged n
  refused_same n =
      ap (λ (xss : List (List ℕ)). as_pending xss (map (vacant_in more staged) (range_with_len 0 n)))
      (same_as (cells_in words staged) n (cells_in more staged) (λ i l. same_listed (cells_in more staged i) (cells_in words staged i) (ascend_in more staged i b) (ascend_in words staged i a)
      (λ q. listed_in more staged i b q ∙ ap (λ t. t && not (is_staged staged i q)) (bits_same i q) ∙ sym (listed_in words staged i a q))))
      ∙ ap (λ (xss : List (List ℕ)). as_pending (map (cells_in words staged) (range_with_len 0 n)) xss)
      (same_as (vacant_in words staged) n (vacant_in more staged) (λ i l. same_vacant words staged more staged a b i (bits_same i) (λ c. refl)))

  pub refused_kept : (changed : List ℕ) (unread : List Unread) → AreKept words staged changed unread → AreKept more staged changed unread
  refused_kept changed unread k = kept_fewer words staged changed unread k more staged b (λ i c t. sym (bits_same i c) ∙ t) k.bare

-- ---- whether a cell is pending for each session

pub each_has : (words staged : Words) (changed : List ℕ) (unread : List Unread) (at word bits n : ℕ) (answer : Bool) → length unread ≡ n → AreKept words staged changed unread
    → ((j : ℕ) → has_bit j word ≡ (is_in words j at && not (is_staged staged j at))) → ((j : ℕ) → has_bit j bits ≡ nat_lt j n)
    → (answer ≡ true → (j : ℕ) → has_bit j word ≡ has_bit j bits) → (((j : ℕ) → has_bit j word ≡ has_bit j bits) → answer ≡ true)
    → answer ≡ list_all (λ cells. is_one_of cells at) (map (cells_in words staged) (range_with_len 0 n))
each_has words staged changed unread at word bits n answer e k is all alike unlike =
    one_truth answer (list_all (λ cells. is_one_of cells at) lists)
    (λ t. all_pass (λ cells. is_one_of cells at) (cells_in words staged) n (λ i l. listed i ∙ sym (is i) ∙ alike t i ∙ all i ∙ lt-ltb i n l))
    (λ t. unlike (λ j. ⊎_elim
    (λ l. is j ∙ sym (listed j) ∙ ap (λ (xs : List ℕ). is_one_of xs at) (sym (list_there (cells_in words staged) n j l))
    ∙ one_of_all_has (λ cells. is_one_of cells at) lists j t (subst (λ (m : ℕ). j < m) (sym (so_many (cells_in words staged) n)) l) ∙ sym (all j ∙ lt-ltb j n l))
    (λ l. is j ∙ ap (λ b. b && not (is_staged staged j at)) (k.none j at (subst (λ (m : ℕ). m ≤ j) (sym e) l)) ∙ sym (all j ∙ le-ltb j n l))
    (cases_lt j n)))
  where
    lists : List (List ℕ)
    lists = map (cells_in words staged) (range_with_len 0 n)

    listed : (i : ℕ) → is_one_of (cells_in words staged i) at ≡ (is_in words i at && not (is_staged staged i at))
    listed i = listed_in words staged i k.order at

zero_or_more : (n : ℕ) → (n ≡ 0) ⊎ (0 < n)
zero_or_more zero = inl refl
zero_or_more (suc n) = inr (omega arith)

-- where the cell has no bits, it is pending for each of no sessions alone
pub none_has : (words staged : Words) (at n : ℕ) (answer : Bool) → Ordered words → lookup (is_at (nat_cmp at)) words ≡ None → (answer ≡ true → n ≡ 0) → (n ≡ 0 → answer ≡ true)
    → answer ≡ list_all (λ cells. is_one_of cells at) (map (cells_in words staged) (range_with_len 0 n))
none_has words staged at n answer order none few all =
    one_truth answer (list_all (λ cells. is_one_of cells at) (lists n))
    (λ t. ap (λ (m : ℕ). list_all (λ cells. is_one_of cells at) (lists m)) (few t))
    (λ t. ⊎_elim all (λ some. absurd (both_ways (is_one_of (cells_in words staged 0) at) unlisted (listed some t))) (zero_or_more n))
  where
    lists : ℕ → List (List ℕ)
    lists m = map (cells_in words staged) (range_with_len 0 m)

    unlisted : is_one_of (cells_in words staged 0) at ≡ false
    unlisted =
        listed_in words staged 0 order at
        ∙ ap (λ (o : Option ℕ). has_bit 0 (unwrap_or o 0) && not (is_staged staged 0 at)) none ∙ ap (λ b. b && not (is_staged staged 0 at)) (none_in_zero 0)

    listed : 0 < n → list_all (λ cells. is_one_of cells at) (lists n) ≡ true → is_one_of (cells_in words staged 0) at ≡ true
    listed some t =
        ap (λ (xs : List ℕ). is_one_of xs at) (sym (list_there (cells_in words staged) n 0 some))
        ∙ one_of_all_has (λ cells. is_one_of cells at) (lists n) 0 t (subst (λ (m : ℕ). 0 < m) (sym (so_many (cells_in words staged) n)) some)

-- ---- the cells of a session, found where they stand

pub found_cells : (words : Words) (changed : List ℕ) (i : ℕ) (u : Unread) (found sorted : List ℕ) → HasPlace words changed i u → u.anywhere ≡ false
    → found ≡ filter (is_in words i) (drop u.from changed) ++ filter (is_in words i) u.own.items → ((c : ℕ) → is_one_of sorted c ≡ is_one_of found c)
    → (c : ℕ) → is_one_of sorted c ≡ is_in words i c
found_cells words changed i u found sorted p n e same c =
    same c ∙ ap (λ (xs : List ℕ). is_one_of xs c) e
    ∙ list_any-append (λ d. d == c) (filter (is_in words i) (drop u.from changed)) (filter (is_in words i) u.own.items)
    ∙ ap (λ b. b || is_one_of (filter (is_in words i) u.own.items) c) (has-filter (is_in words i) (drop u.from changed) c)
    ∙ ap (λ b. (is_one_of (drop u.from changed) c && is_in words i c) || b) (has-filter (is_in words i) u.own.items c)
    ∙ by (is_one_of (drop u.from changed) c) (is_one_of u.own.items c) (is_in words i c)
    (λ t. sym (ap (λ b. b || (is_one_of (drop u.from changed) c || is_one_of u.own.items c)) n) ∙ p.found c t)
  where
    by : (b o s : Bool) → (s ≡ true → (b || o) ≡ true) → ((b && s) || (o && s)) ≡ s
    by true o true h = refl
    by true o false h = and-false o
    by false o true h = and-true o ∙ h refl
    by false o false h = and-false o

pub if_ok_both : {V E : Type 0} {P Q R : List ℕ → Type 0} (r : Result V E) (items : V → List ℕ) → IfOk r (λ v. P (items v)) → IfOk r (λ v. Q (items v))
    → ((xs : List ℕ) → P xs → Q xs → R xs) → IfOk r (λ v. R (items v))
if_ok_both (Ok v) items p q f = f (items v) p q
if_ok_both (Err e) items p q f = tt

-- ---- a session's bit taken from all its cells

pub all_forgotten : (words less : Words) (all : List ℕ) (i count : ℕ) → less ≡ [] → count ≡ 1 → i < count → ((c : ℕ) → is_one_of all c ≡ is_in words i c)
    → ((j c : ℕ) → count ≤ j → is_in words j c ≡ false) → HasCleared (λ j c. is_one_of all c && (j == i)) words less
all_forgotten words less all i count e one l is none = λ j c.
    ap (λ (es : Words). is_in es j c) e ∙ none_in_zero j
    ∙ sym (⊎_elim
    (λ (s : j ≡ i). subst (λ (k : ℕ). (is_in words k c && not (is_one_of all c && (k == i))) ≡ false) (sym s)
    (cleared (is_in words i c) (is_one_of all c && (i == i)) (ap (λ t. is_one_of all c && t) (eq-eqb i i refl) ∙ and-true (is_one_of all c) ∙ is c)))
    (λ (apart : j ≡ i → Prim.⊥). ap (λ t. t && not (is_one_of all c && (j == i))) (none j c (beyond j apart)))
    (cases_eq j i))
  where
    beyond : (j : ℕ) → (j ≡ i → Prim.⊥) → count ≤ j
    beyond j apart = omega (arith, one, l, apart)

pub cleared_same : (all : List ℕ) (bit i : ℕ) (words less : Words) → ((j : ℕ) → has_bit j bit ≡ (j == i)) → HasCleared (at_cells all bit) words less → HasCleared (λ j c. is_one_of all c && (j == i)) words less
cleared_same all bit i words less e h = λ j c. h j c ∙ ap (λ t. is_in words j c && not (is_one_of all c && t)) (e j)

-- its lists are empty then
pub record HasForgotten (p : AllPending) (less staged : Words) (changed : List ℕ) (read : List Unread) (i : ℕ) : Type 0 where
  pub pending : map (cells_in less staged) (range_with_len 0 (length read)) ≡ set p.pending i []
  pub vacant : map (vacant_in less staged) (range_with_len 0 (length read)) ≡ set p.vacant i []
  pub kept : AreKept less staged changed read

-- what is left of it
module _ (words less staged : Words) (changed : List ℕ) (unread : List Unread) (u : Unread) (all : List ℕ) (i : ℕ) (k : AreKept words staged changed unread) (b : Ordered less)
    (l : i < length unread) (is : (c : ℕ) → is_one_of all c ≡ is_in words i c) (h : HasCleared (λ j c. is_one_of all c && (j == i)) words less) where
  test_here : (c : ℕ) → (is_one_of all c && (i == i)) ≡ is_in words i c
  test_here c = ap (λ t. is_one_of all c && t) (eq-eqb i i refl) ∙ and-true (is_one_of all c) ∙ is c

  test_elsewhere : (j c : ℕ) → j ≢ i → (is_one_of all c && (j == i)) ≡ false
  test_elsewhere j c apart = ap (λ t. is_one_of all c && t) (ne_eqb j i apart) ∙ and-false (is_one_of all c)

  bit_gone : (c : ℕ) → is_in less i c ≡ false
  bit_gone c = h i c ∙ cleared (is_in words i c) (is_one_of all c && (i == i)) (test_here c)

  forgotten_pending : map (cells_in less staged) (range_with_len 0 (length unread)) ≡ set (map (cells_in words staged) (range_with_len 0 (length unread))) i []
  forgotten_pending = pending_cleared words less staged i (length unread) (λ j c. is_one_of all c && (j == i)) k.order b h l test_here test_elsewhere

  forgotten_vacant : map (vacant_in less staged) (range_with_len 0 (length unread)) ≡ set (map (vacant_in words staged) (range_with_len 0 (length unread))) i []
  forgotten_vacant = vacant_cleared words less staged i (length unread) (λ j c. is_one_of all c && (j == i)) k.order b h l test_here test_elsewhere

  forgotten_kept : u.from ≡ length changed → AreKept less staged changed (set unread i u)
  forgotten_kept e =
      let less_kept : AreKept less staged changed unread = kept_cleared words staged changed unread k (λ j c. is_one_of all c && (j == i)) less b h in
      kept_at less staged changed unread less_kept changed (set unread i u) (length-set unread i u)
      (places_set less changed unread i u l less_kept.places (record { within = omega (arith, e); found = λ c t. absurd (both_ways (is_in less i c) (bit_gone c) t) }))

  pub forgotten : (p : AllPending) → pending_in words staged (length unread) ≡ p → u.from ≡ length changed → HasForgotten p less staged changed (set unread i u) i
  forgotten p view e = subst (λ (r : AllPending). HasForgotten r less staged changed (set unread i u) i) view (record {
    pending = ap (λ (m : ℕ). map (cells_in less staged) (range_with_len 0 m)) (length-set unread i u) ∙ forgotten_pending;
    vacant = ap (λ (m : ℕ). map (vacant_in less staged) (range_with_len 0 m)) (length-set unread i u) ∙ forgotten_vacant;
    kept = forgotten_kept e;
  })

-- all cells of a session, as its lists tell them
pub listed_told : (words staged : Words) (n i : ℕ) (p : AllPending) → Ordered words → pending_in words staged n ≡ p → i < n
    → (q : ℕ) → (is_one_of (list_at p.pending i) q || is_one_of (list_at p.vacant i) q) ≡ is_in words i q
listed_told words staged n i p order v l q =
    ap (λ (r : AllPending). is_one_of (list_at r.pending i) q || is_one_of (list_at r.vacant i) q) (sym v)
    ∙ ap (λ (xs : List ℕ). is_one_of xs q || is_one_of (list_at (map (vacant_in words staged) (range_with_len 0 n)) i) q) (list_there (cells_in words staged) n i l)
    ∙ ap (λ (xs : List ℕ). is_one_of (cells_in words staged i) q || is_one_of xs q) (list_there (vacant_in words staged) n i l) ∙ listed_either words staged i order q

-- its pending cells rise
pub cells_rise : (words staged : Words) (n i : ℕ) (p : AllPending) → Ordered words → All (λ e. e.0 < rows * columns) words → pending_in words staged n ≡ p → i < n → Rises 0 sheet_size (list_at p.pending i)
cells_rise words staged n i p order sheet v l =
    subst (λ (xs : List ℕ). Rises 0 sheet_size xs) (sym (list_there (cells_in words staged) n i l) ∙ ap (λ (r : AllPending). list_at r.pending i) v)
    (rises (cells_in words staged i) (ascend_in words staged i order)
    (All-filter (λ c. not (is_staged staged i c)) (λ a. a < rows * columns) (cells_with words i)
    (All-map (λ a. a < rows * columns) (λ e. e.0) (filter (λ e. has_bit i e.1) words) (All-filter (λ e. has_bit i e.1) (λ e. e.0 < rows * columns) words sheet))))

-- where no room is listed, all are pending
none_staged : (words staged : Words) (i : ℕ) → length staged ≡ 0 → cells_with words i ≡ cells_in words staged i
none_staged words [] i e = sym (filter_all (cells_with words i))
none_staged words (r ∷ staged) i e = absurd (omega (arith, e))

-- the pending cells of a session, told by those with its bit
pub all_told : (words staged : Words) (n i : ℕ) (p : AllPending) (all : List ℕ) → pending_in words staged n ≡ p → i < n → all ≡ cells_with words i → length staged ≡ 0 → all ≡ list_at p.pending i
all_told words staged n i p all v l e none =
    e ∙ none_staged words staged i none ∙ sym (list_there (cells_in words staged) n i l) ∙ ap (λ (r : AllPending). list_at r.pending i) v

pub cells_told : (words staged rooms : Words) (n i : ℕ) (p : AllPending) (all lent found : List ℕ) → pending_in words staged n ≡ p → i < n → all ≡ cells_with words i → lent ≡ all → rooms ≡ staged
    → found ≡ filter (λ c. not (is_staged rooms i c)) lent → found ≡ list_at p.pending i
cells_told words staged rooms n i p all lent found v l e f g h =
    h ∙ ap (λ (xs : List ℕ). filter (λ c. not (is_staged rooms i c)) xs) (f ∙ e) ∙ ap (λ (rs : Words). filter (λ c. not (is_staged rs i c)) (cells_with words i)) g
    ∙ sym (list_there (cells_in words staged) n i l) ∙ ap (λ (r : AllPending). list_at r.pending i) v

-- bits put in, as rooms that are taken at once
pub same_bits : (words more none : Words) → SamePending words [] more none → none ≡ [] → (i c : ℕ) → is_in more i c ≡ is_in words i c
same_bits words more none h e i c = sym (ap (λ (rs : Words). is_in more i c && not (is_staged rs i c)) e ∙ and-true (is_in more i c)) ∙ h i c ∙ and-true (is_in words i c)
