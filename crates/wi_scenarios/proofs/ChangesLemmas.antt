-- What `changes` answers, and that pictures are right after it.
use Rattle.wi_scenarios.proofs.Words.{◌≡◌, ◌≢◌, ◌<◌, ◌≤◌, ℕ, zero, suc, Bool, true, false, List, [], ◌∷◌, length, get_or, set, refl, sym, ap, subst, ◌∙◌, ⊎_elim, cases_eq, false≢true, get_or-set_same, get_or-set_other, length-set, nil_from_length, Value, Replacement, Sheet, Stored, shown, effective, value_in, sheet_size, is_one_of, Rises, changes_among, Session, new_session, told, session_at, pending_of, any_cells, picture_is_shown, Kept, shown_to, change_list, Desk, state_of, pending_in, IsUpToDate, AreCovered, AreClosed, IsSound, IsTold}

-- what has changed is found among the pending cells
pub changes_found : {marked : Sheet → List ℕ → ℕ → Bool} (stored : Stored) (d : Desk) (own cells : List ℕ) (put : List Replacement) (picture found : List (ℕ × Value)) → IsSound marked stored d → Rises 0 sheet_size own
    → own ≡ pending_of d.sessions d.current → cells ≡ own → put ≡ effective d.scenarios (session_at d.sessions d.current).scenario → picture ≡ (session_at d.sessions d.current).picture
    → found ≡ changes_among cells picture (shown stored.sheet put) → found ≡ change_list (state_of stored d)
changes_found stored d own cells put picture found sound rises own_is cells_is put_is picture_is is =
    let x = session_at d.sessions d.current in
    let s = state_of stored d in
    let risen : Rises 0 sheet_size (pending_of d.sessions d.current) = subst (Rises 0 sheet_size) own_is rises in
    is
    ∙ ap (λ (cs : List ℕ). changes_among cs picture (shown stored.sheet put)) (cells_is ∙ own_is)
    ∙ ap (λ (p : List (ℕ × Value)). changes_among (pending_of d.sessions d.current) p (shown stored.sheet put)) picture_is
    ∙ ap (λ (rs : List Replacement). changes_among (pending_of d.sessions d.current) x.picture (shown stored.sheet rs)) put_is
    ∙ sym (any_cells (pending_of d.sessions d.current) x.picture (shown_to s x) (risen, sound.covered d.current sound.within))

-- where no cell is pending, nothing has changed
pub nothing_found : {marked : Sheet → List ℕ → ℕ → Bool} (stored : Stored) (d : Desk) (own cells : List ℕ) (found : List (ℕ × Value)) → IsSound marked stored d → Rises 0 sheet_size own
    → own ≡ pending_of d.sessions d.current → cells ≡ own → length cells ≡ 0 → found ≡ [] → found ≡ change_list (state_of stored d)
nothing_found stored d own cells found sound rises own_is cells_is none is =
    let x = session_at d.sessions d.current in
    let no_own : [] ≡ own = sym (nil_from_length cells none) ∙ cells_is in
    changes_found stored d own [] (effective d.scenarios x.scenario) x.picture found sound rises own_is no_own refl refl is

-- ---- lists with another element

set_nothing : (xs : List (List ℕ)) (i j : ℕ) → get_or xs j [] ≡ [] → get_or (set xs i []) j [] ≡ []
set_nothing [] i j h = h
set_nothing (x ∷ xs) zero zero h = refl
set_nothing (x ∷ xs) zero (suc j) h = h
set_nothing (x ∷ xs) (suc i) zero h = h
set_nothing (x ∷ xs) (suc i) (suc j) h = set_nothing xs i j h

-- ---- after a change list was told

-- the current session's picture has what it is shown
current_up_to_date : (stored : Stored) (d d' : Desk) (changes : List (ℕ × Value)) → changes ≡ change_list (state_of stored d) → d.current < length d.sessions.sessions → IsTold d changes d'
    → IsUpToDate (state_of stored d') (pending_in d') d.current
current_up_to_date stored d d' changes is within h a l none =
    let s = state_of stored d in
    let x = session_at d.sessions d.current in
    let y = told x changes (length d.log) in
    let here : session_at d'.sessions d.current ≡ y =
    ap (λ xs. get_or xs d.current (new_session [])) h.sessions ∙ get_or-set_same d.sessions.sessions d.current y (new_session []) within in
    let now : value_in y.picture a ≡ shown_to s x a = ap (λ cs. value_in (told x cs (length d.log)).picture a) is ∙ picture_is_shown x.picture (shown_to s x) a l in
    ap (λ (z : Session). value_in z.picture a) here ∙ now
    ∙ ap (λ (xs : List Kept). shown stored.sheet (effective xs x.scenario) a) (sym h.scenarios)
    ∙ ap (λ (z : Session). shown stored.sheet (effective d'.scenarios z.scenario) a) (sym here)

-- of another session nothing has changed
other_up_to_date : (stored : Stored) (d d' : Desk) (changes : List (ℕ × Value)) (i : ℕ) → i ≢ d.current → IsTold d changes d' → IsUpToDate (state_of stored d) (pending_in d) i
    → IsUpToDate (state_of stored d') (pending_in d') i
other_up_to_date stored d d' changes i other h before a l none =
    let y = told (session_at d.sessions d.current) changes (length d.log) in
    let x = session_at d.sessions i in
    let here : session_at d'.sessions i ≡ x =
    ap (λ xs. get_or xs i (new_session [])) h.sessions ∙ get_or-set_other d.sessions.sessions d.current i y (new_session []) other in
    let cells : get_or d'.sessions.pending i [] ≡ get_or d.sessions.pending i [] =
    ap (λ xs. get_or xs i []) h.pending ∙ get_or-set_other d.sessions.pending d.current i [] [] other in
    ap (λ (z : Session). value_in z.picture a) here
    ∙ before a l (ap (λ cs. is_one_of cs a) (sym cells) ∙ none)
    ∙ ap (λ (xs : List Kept). shown stored.sheet (effective xs x.scenario) a) (sym h.scenarios)
    ∙ ap (λ (z : Session). shown stored.sheet (effective d'.scenarios z.scenario) a) (sym here)

covered_after : {marked : Sheet → List ℕ → ℕ → Bool} (stored : Stored) (d d' : Desk) (changes : List (ℕ × Value)) → changes ≡ change_list (state_of stored d) → IsSound marked stored d → IsTold d changes d'
    → AreCovered (state_of stored d') (pending_in d')
covered_after stored d d' changes is sound h i l =
    let below : i < length d.sessions.sessions =
    subst (λ (n : ℕ). i < n) (ap length h.sessions ∙ length-set d.sessions.sessions d.current (told (session_at d.sessions d.current) changes (length d.log))) l in
    ⊎_elim (λ same. subst (IsUpToDate (state_of stored d') (pending_in d')) (sym same) (current_up_to_date stored d d' changes is sound.within h))
    (λ other. other_up_to_date stored d d' changes i other h (sound.covered i below)) (cases_eq i d.current)

-- the current session has no pending cell, and the others have those that they had
closed_after : {marked : Sheet → List ℕ → ℕ → Bool} (stored : Stored) (d d' : Desk) (changes : List (ℕ × Value)) → IsSound marked stored d → IsTold d changes d' → AreClosed marked (state_of stored d') (pending_in d')
closed_after {marked} stored d d' changes sound h i l a c p m = ⊎_elim (λ same. absurd (false≢true (sym (none same) ∙ p))) (λ other. had other) (cases_eq i d.current)
  where
    below : i < length d.sessions.sessions
    below = subst (λ (n : ℕ). i < n) (ap length h.sessions ∙ length-set d.sessions.sessions d.current (told (session_at d.sessions d.current) changes (length d.log))) l

    here : d.current < length d.sessions.pending
    here = subst (λ (n : ℕ). d.current < n) (sym sound.each) sound.within

    none : i ≡ d.current → is_one_of (get_or d'.sessions.pending i []) a ≡ false
    none same =
        ap (λ (xs : List (List ℕ)). is_one_of (get_or xs i []) a) h.pending ∙ ap (λ (j : ℕ). is_one_of (get_or (set d.sessions.pending d.current []) j []) a) same
        ∙ ap (λ (cs : List ℕ). is_one_of cs a) (get_or-set_same d.sessions.pending d.current [] [] here)

    had : i ≢ d.current → is_one_of (get_or d'.sessions.pending i []) c ≡ true
    had other =
        let cells : get_or d'.sessions.pending i [] ≡ get_or d.sessions.pending i [] =
        ap (λ xs. get_or xs i []) h.pending ∙ get_or-set_other d.sessions.pending d.current i [] [] other in
        ap (λ cs. is_one_of cs c) cells ∙ sound.closed i below a c (ap (λ cs. is_one_of cs a) (sym cells) ∙ p) m

pub sound_after : {marked : Sheet → List ℕ → ℕ → Bool} (stored stored' : Stored) (d d' : Desk) (changes : List (ℕ × Value)) → stored' ≡ stored → changes ≡ change_list (state_of stored d) → IsSound marked stored d → IsTold d changes d' → IsSound marked stored' d'
sound_after {marked} stored stored' d d' changes same is sound h =
    let y = told (session_at d.sessions d.current) changes (length d.log) in
    let sessions : length d'.sessions.sessions ≡ length d.sessions.sessions = ap length h.sessions ∙ length-set d.sessions.sessions d.current y in
    let lists : length d'.sessions.pending ≡ length d.sessions.pending = ap length h.pending ∙ length-set d.sessions.pending d.current [] in
    subst (λ x. IsSound marked x d') (sym same) (record {
      within = subst (λ (n : ℕ). d'.current < n) (sym sessions) (subst (λ (i : ℕ). i < length d.sessions.sessions) (sym h.current) sound.within);
      few = subst (λ (n : ℕ). n ≤ 64) (sym sessions) sound.few;
      each = lists ∙ sound.each ∙ sym sessions;
      full = λ i. ap (λ xs. get_or xs i []) h.vacant ∙ set_nothing d.sessions.vacant d.current i (sound.full i);
      closed = closed_after stored d d' changes sound h;
      covered = covered_after stored d d' changes is sound h;
    })
