-- That a desk is sound with a session more.
use Rattle.wi_scenarios.proofs.Words.{◌≡◌, ℕ, ◌+◌, ◌-◌, ◌*◌, ◌/◌, ◌%◌, ◌<◌, ◌≤◌, Bool, true, false, ◌||◌, ◌==◌, List, [], ◌∷◌, ◌++◌, length, None, refl, sym, ap, ◌∙◌, subst, arith, ◌⊎◌, inl, inr, codes, All, Any-from_list_any, each_fails, list_any, slice_index_or, position_or_len, position_or_len_is, keys_of, div-lt_iff_lt-mul, mod-lt, eqb-true, le-leb, cases_lt, false≢true, or_cases, get_or_append_left, length-append, get_or-append_seam, any-filter_same, Area, is_within, row_of, column_of, rect_of, rows, columns, Sheet, content_of, has_formula, shown, IsMarking, shows_nothing, has_none, Stored, sheet_size, value_in, is_one_of, Replacement, Kept, effective, chain, Session, new_session, max_sessions, Roster, vacant_of, SameCells, Desk, State, state_over, occupied_cells, IsClosed, IsSound, state_of, and_from}

-- ---- cells of the sheet

-- the last cell of the sheet
last_row : (sheet_size - 1) / 16384 ≡ 1048575
unfolding sheet_size
last_row = refl

last_column : (sheet_size - 1) % 16384 ≡ 16383
unfolding sheet_size
last_column = refl

size_is : sheet_size ≡ 1048576 * 16384
unfolding sheet_size
size_is = refl

-- each cell of the sheet is in the whole of it
whole_has : (a : ℕ) → a < sheet_size → is_within (record { first = 0; last = sheet_size - 1 }) a ≡ true
whole_has a l =
    let up : row_of a < 1048576 = (div-lt_iff_lt-mul {k = 16384} {x = a} {y = 1048576} (omega arith)).1 (subst (λ n. a < n) size_is l) in
    let right : column_of a < 16384 = mod-lt a (omega arith) in
    let low : row_of a ≤ row_of (sheet_size - 1) = subst (λ n. row_of a ≤ n) (sym last_row) (omega (arith, up)) in
    let near : column_of a ≤ column_of (sheet_size - 1) = subst (λ n. column_of a ≤ n) (sym last_column) (omega (arith, right)) in
    and_from _ _ (and_from _ _ (le-leb 0 (row_of a) (omega arith)) (le-leb (row_of a) (row_of (sheet_size - 1)) low))
    (and_from _ _ (le-leb 0 (column_of a) (omega arith)) (le-leb (column_of a) (column_of (sheet_size - 1)) near))

-- a cell that isn't among the occupied ones has no content
pub unoccupied : (s : Sheet) (a : ℕ) → a < sheet_size → is_one_of (occupied_cells s) a ≡ false → content_of s a ≡ None
unoccupied s a l h =
    let whole : Area = record { first = 0; last = sheet_size - 1 } in
    let there : is_one_of (keys_of s) a ≡ false =
    sym (any-filter_same (λ c. c == a) (is_within whole) true (λ k e. subst (λ x. is_within whole x ≡ true) (sym (eqb-true k a e)) (whole_has a l)) (keys_of s)) ∙ h in
    has_none s a there

-- a cell of a list lies below its bound
below_all : (n : ℕ) (xs : List ℕ) (c : ℕ) → All (λ a. a < n) xs → is_one_of xs c ≡ true → c < n
below_all n xs c h e =
    let k = Any-from_list_any (λ a. a == c) xs e in
    subst (λ a. a < n) (k.3 ∙ eqb-true k.1 c k.4) (h k.0 k.1 k.2)

-- a cell with a formula is occupied
formula_occupied : (s : Sheet) (c : ℕ) → All (λ a. a < rows * columns) (keys_of s) → has_formula (content_of s c) ≡ true → is_one_of (occupied_cells s) c ≡ true
unfolding sheet_size
formula_occupied s c within f = at (is_one_of (occupied_cells s) c) refl
  where
    no_content : content_of s c ≡ None → ⊥
    no_content e = false≢true (sym (ap has_formula e) ∙ f)

    key : (b : Bool) → is_one_of (keys_of s) c ≡ b → c < rows * columns
    key true e = below_all (rows * columns) (keys_of s) c within e
    key false e = absurd (no_content (has_none s c e))

    at : (b : Bool) → is_one_of (occupied_cells s) c ≡ b → b ≡ true
    at true e = refl
    at false e = absurd (no_content (unoccupied s c (key (is_one_of (keys_of s) c) refl) e))

-- so with the occupied cells those are occupied that they mark
pub occupied_closed : (marked : Sheet → List ℕ → ℕ → Bool) → IsMarking marked → (s : Sheet) → All (λ a. a < rows * columns) (keys_of s) → IsClosed marked s (is_one_of (occupied_cells s))
occupied_closed marked law s within a c h m = at (or_cases (has_formula (content_of s c)) (is_one_of (a ∷ []) c) (law.formulas s (a ∷ []) c m))
  where
    itself : (b : Bool) → (a == c) ≡ b → (b || false) ≡ true → is_one_of (occupied_cells s) c ≡ true
    itself true e k = subst (λ x. is_one_of (occupied_cells s) x ≡ true) (eqb-true a c e) h
    itself false e k = absurd (false≢true k)

    at : (has_formula (content_of s c) ≡ true) ⊎ (is_one_of (a ∷ []) c ≡ true) → is_one_of (occupied_cells s) c ≡ true
    at (inl f) = formula_occupied s c within f
    at (inr e) = itself (a == c) refl e

-- a session that is none has the place behind all
pub no_place : (p : Session → Bool) (xs : List Session) → list_any p xs ≡ false → position_or_len p xs ≡ length xs
no_place p xs h =
    let x = new_session [] in
    position_or_len_is p xs (length xs) x (omega arith) (λ k l. each_fails p xs h k x l) (λ l. absurd (omega (arith, l)))

-- ---- what holds of the desk

-- a list with the same cells has those that they mark too
closed_as : (marked : Sheet → List ℕ → ℕ → Bool) (s : Sheet) (xs ys : List ℕ) → SameCells xs ys → IsClosed marked s (is_one_of ys) → IsClosed marked s (is_one_of xs)
closed_as marked s xs ys e h a c p m = e c ∙ h a c (sym (e a) ∙ p) m

-- what a scenario that is none puts in
none_put : (xs : List Kept) → effective xs None ≡ []
unfolding chain
none_put xs = refl

-- a new session, for which the occupied cells are pending, has the right picture of all others
begins : (stored : Stored) (scenarios : List Kept) (x : Session) (name pending cells : List ℕ) (a : ℕ) → x ≡ new_session name → SameCells pending cells → cells ≡ occupied_cells stored.sheet
    → a < sheet_size → is_one_of pending a ≡ false → value_in x.picture a ≡ shown stored.sheet (effective scenarios x.scenario) a
begins stored scenarios x name pending cells a here same are m k =
    ap (λ (x : Session). value_in x.picture a) here ∙ sym (shows_nothing stored.sheet a (unoccupied stored.sheet a m (sym (ap (λ xs. is_one_of xs a) are) ∙ sym (same a) ∙ k)))
    ∙ ap (λ (p : List Replacement). shown stored.sheet p a) (sym (none_put scenarios))
    ∙ ap (λ (x : Session). shown stored.sheet (effective scenarios x.scenario) a) (sym here)

pub sound_new : {marked : Sheet → List ℕ → ℕ → Bool} (stored : Stored) (d : Desk) (r : Roster) (place : ℕ) (name cells new : List ℕ) → length d.sessions.sessions < max_sessions → place ≡ length d.sessions.sessions
    → r.sessions ≡ d.sessions.sessions ++ new_session name ∷ [] → r.pending ≡ d.sessions.pending ++ new ∷ [] → SameCells new cells → cells ≡ occupied_cells stored.sheet
    → IsClosed marked stored.sheet (is_one_of (occupied_cells stored.sheet)) → ((i : ℕ) → vacant_of r i ≡ vacant_of d.sessions i) → IsSound marked stored d
    → IsSound marked stored (record d { sessions = r; current = place })
sound_new {marked} stored d r place name cells new few at grown more same are marks vacant h =
    let count : length r.sessions ≡ length d.sessions.sessions + 1 = ap length grown ∙ length-append d.sessions.sessions (new_session name ∷ []) in
    record {
      within = subst (λ n. place < n) (sym count) (omega (arith, at));
      few = subst (λ n. n ≤ max_sessions) (sym count) (omega (arith, few));
      each = ap length more ∙ length-append d.sessions.pending (new ∷ []) ∙ ap (λ n. n + 1) h.each ∙ sym count;
      full = λ i. vacant i ∙ h.full i;
      closed = λ i l. closed_by i (cases_lt i (length d.sessions.sessions)) (subst (λ n. i < n) count l);
      covered = λ i l a m k. by i a m (cases_lt i (length d.sessions.sessions)) (subst (λ n. i < n) count l) k;
    }
  where
    listed_before : (i : ℕ) → i < length d.sessions.sessions → slice_index_or r.pending i [] ≡ slice_index_or d.sessions.pending i []
    listed_before i l = ap (λ xs. slice_index_or xs i []) more ∙ get_or_append_left d.sessions.pending (new ∷ []) [] i (subst (λ n. i < n) (sym h.each) l)

    listed_last : (i : ℕ) → i ≡ length d.sessions.sessions → slice_index_or r.pending i [] ≡ new
    listed_last i e =
        ap (λ xs. slice_index_or xs i []) more ∙ ap (λ n. slice_index_or (d.sessions.pending ++ new ∷ []) n []) (e ∙ sym h.each) ∙ get_or-append_seam d.sessions.pending new [] []

    closed_by : (i : ℕ) → (i < length d.sessions.sessions) ⊎ (length d.sessions.sessions ≤ i) → i < length d.sessions.sessions + 1 → IsClosed marked stored.sheet (is_one_of (slice_index_or r.pending i []))
    closed_by i (inl l) n =
        closed_as marked stored.sheet (slice_index_or r.pending i []) (slice_index_or d.sessions.pending i []) (λ a. ap (λ xs. is_one_of xs a) (listed_before i l)) (h.closed i l)
    closed_by i (inr g) n =
        closed_as marked stored.sheet (slice_index_or r.pending i []) (occupied_cells stored.sheet)
        (λ a. ap (λ xs. is_one_of xs a) (listed_last i (omega (arith, g, n))) ∙ same a ∙ ap (λ xs. is_one_of xs a) are) marks

    before : (i a : ℕ) → a < sheet_size → i < length d.sessions.sessions → is_one_of (slice_index_or r.pending i []) a ≡ false
        → value_in (slice_index_or r.sessions i (new_session [])).picture a ≡ shown stored.sheet (effective d.scenarios (slice_index_or r.sessions i (new_session [])).scenario) a
    before i a m l k =
        let here : slice_index_or r.sessions i (new_session []) ≡ slice_index_or d.sessions.sessions i (new_session []) =
        ap (λ xs. slice_index_or xs i (new_session [])) grown ∙ get_or_append_left d.sessions.sessions (new_session name ∷ []) (new_session []) i l in
        let listed : slice_index_or r.pending i [] ≡ slice_index_or d.sessions.pending i [] = listed_before i l in
        ap (λ (x : Session). value_in x.picture a) here
        ∙ h.covered i l a m (sym (ap (λ xs. is_one_of xs a) listed) ∙ k)
        ∙ ap (λ (x : Session). shown stored.sheet (effective d.scenarios x.scenario) a) (sym here)

    last : (i a : ℕ) → a < sheet_size → i ≡ length d.sessions.sessions → is_one_of (slice_index_or r.pending i []) a ≡ false
        → value_in (slice_index_or r.sessions i (new_session [])).picture a ≡ shown stored.sheet (effective d.scenarios (slice_index_or r.sessions i (new_session [])).scenario) a
    last i a m e k =
        let here : slice_index_or r.sessions i (new_session []) ≡ new_session name =
        ap (λ xs. slice_index_or xs i (new_session [])) grown ∙ ap (λ n. slice_index_or (d.sessions.sessions ++ new_session name ∷ []) n (new_session [])) e
        ∙ get_or-append_seam d.sessions.sessions (new_session name) [] (new_session []) in
        begins stored d.scenarios (slice_index_or r.sessions i (new_session [])) name new cells a here same are m (sym (ap (λ xs. is_one_of xs a) (listed_last i e)) ∙ k)

    by : (i a : ℕ) → a < sheet_size → (i < length d.sessions.sessions) ⊎ (length d.sessions.sessions ≤ i) → i < length d.sessions.sessions + 1 → is_one_of (slice_index_or r.pending i []) a ≡ false
        → value_in (slice_index_or r.sessions i (new_session [])).picture a ≡ shown stored.sheet (effective d.scenarios (slice_index_or r.sessions i (new_session [])).scenario) a
    by i a m (inl l) n k = before i a m l k
    by i a m (inr g) n k = last i a m (omega (arith, g, n)) k

-- the whole sheet as a rectangle
pub whole_area : (first last : ℕ) (r : Area) → first ≡ 0 → last ≡ 17179869183 → r ≡ rect_of first last → r ≡ record { first = 0; last = sheet_size - 1 }
unfolding sheet_size
whole_area first last r f l e = e ∙ ap (λ x. rect_of x last) f ∙ ap (rect_of 0) l

-- the pending cells of one session
pub one_list : (ps : List (List ℕ)) → length ps ≡ 1 → ps ≡ slice_index_or ps 0 [] ∷ []
one_list [] h = absurd (omega (arith, h))
one_list (p ∷ []) h = refl
one_list (p ∷ q ∷ ps) h = absurd (omega (arith, h))

-- a desk that begins
pub first_state : (stored : Stored) (d : Desk) → d.scenarios ≡ [] → d.current ≡ 0 → d.sessions.sessions ≡ new_session (codes "main") ∷ [] → d.log ≡ [] → state_of stored d ≡ state_over stored
first_state stored d none zeroth is empty = cc

-- one session more, which is the current one
pub grown_state : (s : State) (name : List ℕ) (after : List Session) (place : ℕ) → after ≡ s.sessions ++ new_session name ∷ [] → place ≡ length s.sessions
    → record s { sessions = after; current = place } ≡ record s { sessions = s.sessions ++ new_session name ∷ []; current = length s.sessions }
grown_state s name after place more at = cc

-- the first session
pub sound_first : {marked : Sheet → List ℕ → ℕ → Bool} (stored : Stored) (d : Desk) (name cells : List ℕ) → d.scenarios ≡ [] → d.current ≡ 0 → d.sessions.sessions ≡ new_session name ∷ [] → length d.sessions.pending ≡ length d.sessions.sessions
    → SameCells (slice_index_or d.sessions.pending 0 []) cells → cells ≡ occupied_cells stored.sheet → IsClosed marked stored.sheet (is_one_of (occupied_cells stored.sheet))
    → ((i : ℕ) → vacant_of d.sessions i ≡ []) → IsSound marked stored d
sound_first {marked} stored d name cells none zeroth is each same are marks vacant =
    let one : length d.sessions.sessions ≡ 1 = ap length is in
    record {
      within = subst (λ n. d.current < n) (sym one) (omega (arith, zeroth));
      few = subst (λ n. n ≤ max_sessions) (sym one) (omega arith);
      each = each;
      full = vacant;
      closed = λ i l.
          closed_as marked stored.sheet (slice_index_or d.sessions.pending i []) (occupied_cells stored.sheet)
          (λ a. ap (λ n. is_one_of (slice_index_or d.sessions.pending n []) a) (let e : i ≡ 0 = omega (arith, subst (λ n. i < n) one l) in e) ∙ same a ∙ ap (λ xs. is_one_of xs a) are) marks;
      covered = λ i l a m k. by i a m (omega (arith, subst (λ n. i < n) one l)) k;
    }
  where
    by : (i a : ℕ) → a < sheet_size → i ≡ 0 → is_one_of (slice_index_or d.sessions.pending i []) a ≡ false
        → value_in (slice_index_or d.sessions.sessions i (new_session [])).picture a ≡ shown stored.sheet (effective d.scenarios (slice_index_or d.sessions.sessions i (new_session [])).scenario) a
    by i a m e k =
        let here : slice_index_or d.sessions.sessions i (new_session []) ≡ new_session name =
        ap (λ xs. slice_index_or xs i (new_session [])) is ∙ ap (λ n. slice_index_or (new_session name ∷ []) n (new_session [])) e in
        begins stored d.scenarios (slice_index_or d.sessions.sessions i (new_session [])) name (slice_index_or d.sessions.pending 0 []) cells a here same are m
        (sym (ap (λ n. is_one_of (slice_index_or d.sessions.pending n []) a) e) ∙ k)
