-- The end of the step of an edit, and what it leaves: stale cells, the limits of the sheet, the edit.
use Rattle.wi_scenarios.proofs.Words.{◌≡◌, ◌<◌, ◌≤◌, ℕ, Bool, true, false, nat_lt, nat_le, List, [], ◌∷◌, length, ◌⊎◌, inl, inr, Option, Some, None, Ok, Err, refl, sym, subst, arith, leb-true, ltb-true, Area, State, Answer, edit_answer, stale_in, Command, Put, Puts, is_forced, named, sheet_with, after_edit, Cause, BadLine, BadCommand, CutShort, Outside, Stale, Loop, Full, EditLimit, Holds, stale_cell, Does, IsStep, causes, IsFirstOf, accepted, not, ◌&&◌, ◌||◌, ◌++◌, map, ⊎_elim, Result, ap, ◌∙◌, slice_index_or, IfOk, IsErrAnd, keys_of, cases_lt, and_parts, nil_from_length, false_from_ne_true, false≢true, or_left, or_right, or_parts, or_cases, length-keys_of, Replacement, Content, Sheet, StoreFault, Stored, edited, change_without_empty, applied, shown, IsMarking, same_off_edited, accepted_is, Entry, Kept, effective, value_in, sheet_size, is_one_of, Session, new_session, Roster, pending_of, vacant_of, is_pending_for_all, all_have_so, one_of_all_has, Refusal, Memory, Desk, may_grow, MayRefuse, Serves, Edit, limit_of, is_pending, AddsOnly, state_of, AreCovered, IsClosed, AreClosed, IsSound, AreMarked, HasRooms, SameBeside, MayFail, Commits, answer_by, none-some, both_ways, lt-ltb, le-leb, has_at, TooLarge, NoScenario, InUse, TooMany, BadField, TooLong, OutOfSheet, NumberRange, TooDeep, Syntax, LeavesSheet, Operand, WORD, may_force, list_any, cells_asked, codes, max_area}
use Rattle.wi_scenarios.specs.declared.refusal.Refusal.TheVariants as refusal
use Rattle.wi_store.specs.declared.fault.StoreFault.TheVariants as store
use Rattle.wi_scenarios.proofs.CallLemmas.{serves_as, lacked}
use Rattle.wi_scenarios.proofs.CauseTests.{NoneHolds, behind_none, both_none, no_cause}

-- an operand lies outside, and no cause holds that is answered before
pub outside_first : (s : State) (c : Command) → (Holds s BadLine c → ⊥) → (Holds s BadCommand c → ⊥) → (Holds s CutShort c → ⊥) → Holds s Outside c → IsStep s c (Err refusal.OutOfSheet)
outside_first s c line command come outside = (Outside, inr (line, inr (command, inr (come, inl (outside, refl)))), refl)

-- an edit may be forced: its form has a word more, which is no operand
pub any_forced : (p : Operand → Bool) (force : Bool) (os : List Operand) → p (WORD (codes "force")) ≡ false → list_any p (may_force force os) ≡ list_any p os
any_forced p true os e = ap (λ (b : Bool). b || list_any p os) e
any_forced p false os e = refl

pub none_forced : (p : Operand → Bool) (force : Bool) (os : List Operand) → p (WORD (codes "force")) ≡ false → list_any p os ≡ false → list_any p (may_force force os) ≡ true → ⊥
none_forced p force os e f h = both_ways _ (any_forced p force os e ∙ f) h

pub few_forced : (force : Bool) (os : List Operand) → cells_asked os ≡ 1 → max_area < cells_asked (may_force force os) → ⊥
few_forced true os e h = omega (arith, e, h)
few_forced false os e h = omega (arith, e, h)

-- the causes of the order in front of that of a stale cell, and from it on
abbrev pub front : List Cause
front =
    BadLine ∷ BadCommand ∷ CutShort ∷ Outside ∷ TooLarge ∷ NoScenario ∷ InUse ∷ TooMany ∷ BadField ∷ TooLong ∷ OutOfSheet ∷ NumberRange ∷ TooDeep ∷ Syntax ∷ LeavesSheet ∷ []

abbrev pub last : List Cause
last = Stale ∷ Loop ∷ Full ∷ EditLimit ∷ []

-- what an edit does that is accepted; with one list of contents it does one thing
abbrev pub DoesEdit : State → Command → State × List ℕ → Type 0
DoesEdit s c done = (puts : List Put) × Puts s c puts × (done ≡ (after_edit s c puts, []))

pub one_edit : (s : State) (c : Command) → ((p q : List Put) → Puts s c p → Puts s c q → p ≡ q) → (x y : State × List ℕ) → DoesEdit s c x → DoesEdit s c y → x ≡ y
one_edit s c one x y h k =
    h.2 ∙ ap (λ (q : List Put). let d : State × List ℕ = (after_edit s c q, []) in d) (one h.0 k.0 h.1 k.1) ∙ sym k.2

module _ (s : State) (c : Command) (force : Bool) (areas : List Area) (puts : List Put) (is : Puts s c puts) (one : (p q : List Put) → Puts s c p → Puts s c q → p ≡ q)
    (forced : is_forced c ≡ force) (names : named c ≡ areas) (no_loop : Holds s Loop c → ⊥) (no_other : NoneHolds s c front)
    (does : (done : State × List ℕ) → DoesEdit s c done → Does s c done) where
  stale_some : (at : ℕ) → stale_in s force areas ≡ Some at → Holds s Stale c × (stale_cell s c ≡ Some at)
  stale_some at h = by force forced h
    where
      by : (b : Bool) → is_forced c ≡ b → stale_in s b areas ≡ Some at → Holds s Stale c × (stale_cell s c ≡ Some at)
      by true e h = cc
      by false e h =
          let found : stale_cell s c ≡ Some at = rw names h in
          ((e, λ k. none-some at (sym k ∙ found)), found)

  fresh : stale_in s force areas ≡ None → Holds s Stale c → ⊥
  fresh h k = by force forced h
    where
      by : (b : Bool) → is_forced c ≡ b → stale_in s b areas ≡ None → ⊥
      by true e h = both_ways _ k.0 e
      by false e h = k.1 (rw names h)

  not_full : nat_lt s.stored.limits.cells (length (sheet_with s puts)) ≡ false → Holds s Full c → ⊥
  not_full e h = both_ways _ e (lt-ltb _ _ (subst (λ (q : List Put). s.stored.limits.cells < length (sheet_with s q)) (one h.0 puts h.1 is) h.2))

  not_limited : nat_le s.stored.limits.edits s.stored.edits ≡ false → Holds s EditLimit c → ⊥
  not_limited e h = both_ways _ e (le-leb _ _ h.2)

  abbrev answer_of : Option ℕ → Bool → Bool → Answer
  answer_of (Some at) full limit = Err (refusal.Stale at)
  answer_of None true limit = Err refusal.Full
  answer_of None false true = Err refusal.EditLimit
  answer_of None false false = Ok (after_edit s c puts, [])

  in_front : (x : Cause) → IsFirstOf s c last x → IsFirstOf s c causes x
  in_front x h = behind_none s c front last x no_other h

  now : (o : Option ℕ) (f l : Bool) → stale_in s force areas ≡ o → nat_lt s.stored.limits.cells (length (sheet_with s puts)) ≡ f
      → nat_le s.stored.limits.edits s.stored.edits ≡ l → IsStep s c (answer_of o f l)
  now (Some at) f l eo ef el =
      let h = stale_some at eo in
      (Stale, in_front Stale (inl (h.0, refl)), (at, h.1, refl))
  now None true l eo ef el = (Full, in_front Full (inr (fresh eo, inr (no_loop, inl ((puts, is, ltb-true _ _ ef), refl)))), refl)
  now None false true eo ef el = (EditLimit, in_front EditLimit (inr (fresh eo, inr (no_loop, inr (not_full ef, inl ((puts, is, leb-true _ _ el), refl))))), refl)
  now None false false eo ef el =
      (no_cause s c (both_none s c front last no_other (fresh eo, (no_loop, (not_full ef, (not_limited el, tt))))), does _ (puts, is, refl))

  before : (o : Option ℕ) (f l : Bool) → stale_in s force areas ≡ o → nat_lt s.stored.limits.cells (length (sheet_with s puts)) ≡ f
      → nat_le s.stored.limits.edits s.stored.edits ≡ l → edit_answer s force (record { named = areas; contents = puts }) ≡ answer_of o f l
  unfolding accepted
  before (Some at) f l eo ef el = rw eo refl
  before None true l eo ef el = rw (eo, ef) refl
  before None false true eo ef el = rw (eo, ef, el) refl
  before None false false eo ef el = rw (eo, ef, el, names) refl

  pub edit_step : IsStep s c (edit_answer s force (record { named = areas; contents = puts }))
  edit_step =
      let o = stale_in s force areas in
      let f = nat_lt s.stored.limits.cells (length (sheet_with s puts)) in
      let l = nat_le s.stored.limits.edits s.stored.edits in
      subst (IsStep s c) (sym (before o f l refl refl refl)) (now o f l refl refl refl)

-- ---- what an edit is answered, and what is pending after it

-- an edit of these
pub same_edit : (named areas : List Area) (contents changes : List (ℕ × Option Content)) → named ≡ areas → contents ≡ changes →
    ◌≡◌ {A = Edit} (record { named = named; contents = contents }) (record { named = areas; contents = changes })
same_edit named areas contents changes n c = cc

-- ---- the answer

-- a call that did as the answer to an edit says, which is one of a command's step
pub edit_serves : (s : State) (c : Command) (force : Bool) (e f : Edit) → e ≡ f → IsStep s c (edit_answer s force f) → (r : Result (Unit {0}) Refusal) (t : State)
    → Serves (λ a. edit_answer s force e ≡ a) r s t [] → Serves (IsStep s c) r s t []
edit_serves s c force e f same is r t =
    serves_as (λ a. edit_answer s force e ≡ a) (IsStep s c) (λ a k. subst (IsStep s c) (ap (edit_answer s force) (sym same) ∙ k) is) r s t []

-- where no cell is stale
edit_fresh : (s : State) (force : Bool) (e : Edit) → stale_in s force e.named ≡ None → edit_answer s force e ≡ answer_by s None e.named (applied s.stored e.contents)
edit_fresh s force e h = ap (λ (o : Option ℕ). answer_by s o e.named (applied s.stored e.contents)) h

fresh_grows : (s : State) (named : List Area) (r : Result Stored StoreFault) → may_grow (answer_by s None named r) ≡ true
fresh_grows s named (Err store.Full) = refl
fresh_grows s named r = refl

pub edit_grows : (s : State) (force : Bool) (e : Edit) → may_grow (edit_answer s force e) ≡ true
edit_grows s force e = by (stale_in s force e.named)
  where
    by : (o : Option ℕ) → may_grow (answer_by s o e.named (applied s.stored e.contents)) ≡ true
    by (Some at) = refl
    by None = fresh_grows s e.named (applied s.stored e.contents)

fresh_limit : (s : State) (named : List Area) (r : Result Stored StoreFault) (e : Refusal) → limit_of r ≡ Some e → answer_by s None named r ≡ Err e
fresh_limit s named (Ok stored) e h = cc
fresh_limit s named (Err f) e h = cc

may_fail : (s : State) (force : Bool) (e : Edit) (refusal : Refusal) → stale_in s force e.named ≡ None → MayFail refusal (applied s.stored e.contents) → MayRefuse refusal (λ a. edit_answer s force e ≡ a)
may_fail s force e Memory fresh h =
    record { answer = edit_answer s force e; is_answer = refl; grows = edit_grows s force e }
may_fail s force e refusal fresh h = edit_fresh s force e fresh ∙ fresh_limit s e.named (applied s.stored e.contents) refusal h

-- memory ran out on the way
pub edit_lacks : (r : Result (Unit {0}) Refusal) (s : State) (force : Bool) (e : Edit) → IsErrAnd r (λ x. x ≡ Memory) → Serves (λ a. edit_answer s force e ≡ a) r s s []
edit_lacks r s force e k =
    lacked (λ a. edit_answer s force e ≡ a) (edit_answer s force e) r s s refl (edit_grows s force e) k refl

made : (s : State) (stored : Stored) (named : List Area) (scenarios : List Kept) (sessions : List Session) (current : ℕ) (log : List Entry) →
    scenarios ≡ s.scenarios → sessions ≡ s.sessions → current ≡ s.current → log ≡ s.log ++ record { session = s.current; areas = named } ∷ [] →
    ◌≡◌ {A = State} (record s { stored = stored; log = s.log ++ record { session = s.current; areas = named } ∷ [] })
    (record { stored = stored; scenarios = scenarios; sessions = sessions; current = current; log = log })
made s stored named scenarios sessions current log a b c d = cc

kept : (s : State) (stored : Stored) (scenarios : List Kept) (sessions : List Session) (current : ℕ) (log : List Entry) →
    stored ≡ s.stored → scenarios ≡ s.scenarios → sessions ≡ s.sessions → current ≡ s.current → log ≡ s.log →
    ◌≡◌ {A = State} (record { stored = stored; scenarios = scenarios; sessions = sessions; current = current; log = log })
    (record { stored = s.stored; scenarios = s.scenarios; sessions = s.sessions; current = s.current; log = s.log })
kept s stored scenarios sessions current log a b c d e = cc

-- an edit that was made, or that left sheet and log as they were
pub edit_served : (r : Result (Unit {0}) Refusal) (s t : State) (force : Bool) (e : Edit) → stale_in s force e.named ≡ None →
    t.scenarios ≡ s.scenarios → t.sessions ≡ s.sessions → t.current ≡ s.current →
    Commits (applied s.stored e.contents) (record { session = s.current; areas = e.named }) r s.stored t.stored s.log t.log →
    Serves (λ a. edit_answer s force e ≡ a) r s t []
edit_served (Ok u) s t force e fresh a b c h =
    edit_fresh s force e fresh ∙ ap (answer_by s None e.named) h.0
    ∙ ap (λ (x : State). let a : Answer = Ok (x, []) in a) (made s t.stored e.named t.scenarios t.sessions t.current t.log a b c h.1)
edit_served (Err refusal) s t force e fresh a b c h =
    (may_fail s force e refusal fresh h.0, kept s t.stored t.scenarios t.sessions t.current t.log h.1 a b c h.2, refl)

-- ---- the log

-- a log that caught up is the same
pub same_log : (d : Desk) (log : List Entry) → log ≡ d.log → ◌≡◌ {A = Desk} (record d { log = log }) d
same_log d log e = ap (λ (es : List Entry). let held : Desk = record d { log = es } in held) e

-- ---- which cells are marked

-- with no cell none is
pub none_marked : (marked : Sheet → List ℕ → ℕ → Bool) (sheet : Sheet) (test : ℕ → Bool) (contents : List (ℕ × Option Content)) (found : List ℕ) → length contents ≡ 0 → found ≡ [] → AreMarked marked sheet test contents found
none_marked marked sheet test contents found none empty = record {
  only = λ a h. absurd (false≢true (sym (ap (λ (xs : List ℕ). is_one_of xs a) empty) ∙ h));
  others = λ l a h. absurd (omega (arith, none, l));
}

pub if_ok_both : {X E : Type 0} (A B C : X → Type 0) (r : Result X E) → ((x : X) → A x → B x → C x) → IfOk r A → IfOk r B → IfOk r C
if_ok_both A B C (Ok x) f a b = f x a b
if_ok_both A B C (Err e) f a b = tt

pub some_marked : (marked : Sheet → List ℕ → ℕ → Bool) (sheet : Sheet) (test : ℕ → Bool) (contents : List (ℕ × Option Content)) (cells found : List ℕ) → 0 < length contents → cells ≡ keys_of contents →
    ((a : ℕ) → is_one_of found a ≡ true → marked sheet cells a ≡ true) → ((a : ℕ) → marked sheet cells a ≡ true → (is_one_of found a ≡ true) ⊎ (test a ≡ true)) → AreMarked marked sheet test contents found
some_marked marked sheet test contents cells found l e m o = record {
  only = λ a h. (l, sym (same a) ∙ m a h);
  others = λ k a h. o a (same a ∙ h);
}
  where
    same : (a : ℕ) → marked sheet cells a ≡ marked sheet (keys_of contents) a
    same a = ap (λ (xs : List ℕ). marked sheet xs a) e

pub marked_as : (marked : Sheet → List ℕ → ℕ → Bool) (sheet : Sheet) (test : ℕ → Bool) (contents changes : List (ℕ × Option Content)) (found cells : List ℕ) → changes ≡ contents → cells ≡ found →
    AreMarked marked sheet test changes found → AreMarked marked sheet test contents cells
marked_as marked sheet test contents changes found cells c f h =
    subst (λ (xs : List ℕ). AreMarked marked sheet test contents xs) (sym f) (subst (λ (es : List (ℕ × Option Content)). AreMarked marked sheet test es found) c h)

-- ---- what is pending for all

module _ (marked : Sheet → List ℕ → ℕ → Bool) (s : Stored) (d : Desk) (sound : IsSound marked s d) where
  -- is so for each
  pub pending_for_each : (i a : ℕ) → i < length d.sessions.sessions → is_pending_for_all d.sessions a ≡ true → is_one_of (pending_of d.sessions i) a ≡ true
  pending_for_each i a l h =
      one_of_all_has (λ cells. is_one_of cells a) d.sessions.pending i h (subst (λ (n : ℕ). i < n) (sym sound.each) l)

  -- and so is what it marks
  pub closed_for_all : IsClosed marked s.sheet (is_pending_for_all d.sessions)
  closed_for_all a c h m =
      all_have_so (λ cells. is_one_of cells c) d.sessions.pending
      (λ i l. let k : i < length d.sessions.sessions = subst (λ (n : ℕ). i < n) sound.each l in sound.closed i k a c (pending_for_each i a k h) m)

-- ---- rooms for them

-- each session has room for those that aren't pending for it, where none had any
pub rooms_made : (cells : List ℕ) (r q : Roster) → ((i : ℕ) → vacant_of r i ≡ []) → q.sessions ≡ r.sessions → q.pending ≡ r.pending
    → ((i a : ℕ) → i < length r.sessions → is_one_of (vacant_of q i) a ≡ (is_one_of (vacant_of r i) a || (is_one_of cells a && not (is_one_of (pending_of r i) a)))) → HasRooms cells q
rooms_made cells r q none sessions pending room = λ i a l.
    room i a (subst (λ (xs : List Session). i < length xs) sessions l)
    ∙ ap (λ (xs : List ℕ). is_one_of xs a || (is_one_of cells a && not (is_one_of (pending_of r i) a))) (none i)
    ∙ ap (λ (xss : List (List ℕ)). is_one_of cells a && not (is_one_of (slice_index_or xss i []) a)) (sym pending)

-- ---- what is pending after it

-- rooms were taken or given back
pub record AreTaken (old new : Roster) : Type 0 where
  pub sessions : new.sessions ≡ old.sessions
  pub lists : length new.pending ≡ length old.pending
  pub pending : (i a : ℕ) → is_one_of (pending_of new i) a ≡ (is_one_of (pending_of old i) a || is_one_of (vacant_of old i) a)
  pub vacant : (i : ℕ) → vacant_of new i ≡ []

-- what gets no room is not found
pub not_found : (v f p : Bool) → v ≡ (f && not p) → p ≡ false → v ≡ false → f ≡ false
not_found v true true e k h = cc
not_found v true false e k h = sym e ∙ h
not_found v false p e k h = refl

-- an edit of no cell leaves the sheet as it is
stays : (s : Sheet) (contents : List (ℕ × Option Content)) → length contents ≡ 0 → edited s (map change_without_empty contents) ≡ s
stays s contents e = ap (λ (xs : List (ℕ × Option Content)). edited s (map change_without_empty xs)) (nil_from_length contents e)

-- what is found is pending then, whether it was or got room
pub covers : (p q v f : Bool) → q ≡ p → v ≡ (f && not p) → f ≡ true → (q || v) ≡ true
covers true q v f e w h = ap (λ (b : Bool). b || v) e
covers false q v f e w h = or_right q v (w ∙ ap (λ (b : Bool). b && true) h)

module _ (marked : Sheet → List ℕ → ℕ → Bool) (law : IsMarking marked) (s t : Stored) (d n : Desk) (r : Roster) (contents : List (ℕ × Option Content)) (found : List ℕ)
    (sound : IsSound marked s d) (beside : SameBeside d n) (are : AreMarked marked s.sheet (is_pending_for_all d.sessions) contents found) where
  pending_then : (i a : ℕ) → is_one_of (pending_of n.sessions i) a ≡ is_one_of (pending_of d.sessions i) a
  pending_then i a = ap (λ (xss : List (List ℕ)). is_one_of (slice_index_or xss i []) a) beside.pending

  abbrev then_sheet : Sheet
  then_sheet = edited s.sheet (map change_without_empty contents)

  -- a cell that was neither found nor is pending for all shows the same
  unmoved : (a : ℕ) (p : List Replacement) → is_one_of found a ≡ false → is_pending_for_all d.sessions a ≡ false → shown then_sheet p a ≡ shown s.sheet p a
  unmoved a p f k = at (cases_lt 0 (length contents))
    where
      neither_is : (is_one_of found a ≡ true) ⊎ (is_pending_for_all d.sessions a ≡ true) → ⊥
      neither_is (inl e) = false≢true (sym f ∙ e)
      neither_is (inr e) = false≢true (sym k ∙ e)

      at : (0 < length contents) ⊎ (length contents ≤ 0) → shown then_sheet p a ≡ shown s.sheet p a
      at (inl l) =
          law.unmoved s.sheet (keys_of contents) a (false_from_ne_true (marked s.sheet (keys_of contents) a) (λ m. neither_is (are.others l a m)))
          then_sheet s.sheet p p (same_off_edited s.sheet contents) (λ c o. refl) (λ c o. refl)
      at (inr g) = ap (λ (x : Sheet). shown x p a) (stays s.sheet contents (omega (arith, g)))

  module _ (rooms : HasRooms found n.sessions) (taken : AreTaken n.sessions r) where
    room_at : (i a : ℕ) → i < length d.sessions.sessions → is_one_of (vacant_of n.sessions i) a ≡ (is_one_of found a && not (is_one_of (pending_of d.sessions i) a))
    room_at i a l =
        rooms i a (subst (λ (xs : List Session). i < length xs) (sym beside.sessions) l) ∙ ap (λ (b : Bool). is_one_of found a && not b) (pending_then i a)

    -- a cell that isn't pending then was neither pending nor marked
    quiet : (i a : ℕ) → i < length d.sessions.sessions → is_one_of (pending_of r i) a ≡ false → (is_one_of (pending_of d.sessions i) a ≡ false) × (is_one_of found a ≡ false)
    quiet i a l h =
        let both = or_parts (is_one_of (pending_of n.sessions i) a) (is_one_of (vacant_of n.sessions i) a) (sym (taken.pending i a) ∙ h) in
        let before : is_one_of (pending_of d.sessions i) a ≡ false = sym (pending_then i a) ∙ both.0 in
        (before, not_found _ _ _ (room_at i a l) before both.1)

    not_for_all : (i a : ℕ) → i < length d.sessions.sessions → is_one_of (pending_of d.sessions i) a ≡ false → is_pending_for_all d.sessions a ≡ false
    not_for_all i a l h = false_from_ne_true (is_pending_for_all d.sessions a) (λ k. false≢true (sym h ∙ pending_for_each marked s d sound i a l k))

    -- the picture of a session, of the old sheet and of the new one
    abbrev RightAt : List Session → List Kept → Type 0
    RightAt xs scenarios =
        (i : ℕ) → i < length xs → (a : ℕ) → a < sheet_size → is_pending r.pending i a ≡ false → value_in (slice_index_or xs i (new_session [])).picture a ≡ shown t.sheet (effective scenarios (slice_index_or xs i (new_session [])).scenario) a

    covered_taken : applied s contents ≡ Ok t → AreCovered (state_of t (record n { sessions = r })) r.pending
    covered_taken made =
        subst (λ (scenarios : List Kept). RightAt r.sessions scenarios) (sym beside.scenarios)
        (subst (λ (xs : List Session). RightAt xs d.scenarios) (sym (taken.sessions ∙ beside.sessions))
        (λ i l a w h. let both = quiet i a l h in
        let put : List Replacement = effective d.scenarios (slice_index_or d.sessions.sessions i (new_session [])).scenario in
        sound.covered i l a w both.0 ∙ sym (unmoved a put both.1 (not_for_all i a l both.0))
        ∙ ap (λ (x : Sheet). shown x put a) (sym ((accepted_is s t (map change_without_empty contents) made).0))))

    -- ---- and with each cell those that it marks

    still_pending : (i a : ℕ) → is_one_of (pending_of d.sessions i) a ≡ true → is_one_of (pending_of r i) a ≡ true
    still_pending i a h = taken.pending i a ∙ or_left (is_one_of (pending_of n.sessions i) a) (is_one_of (vacant_of n.sessions i) a) (pending_then i a ∙ h)

    marked_pending : (i a : ℕ) → i < length d.sessions.sessions → 0 < length contents → marked s.sheet (keys_of contents) a ≡ true → is_one_of (pending_of r i) a ≡ true
    marked_pending i a l g m = at (are.others g a m)
      where
        at : (is_one_of found a ≡ true) ⊎ (is_pending_for_all d.sessions a ≡ true) → is_one_of (pending_of r i) a ≡ true
        at (inl f) =
            taken.pending i a
            ∙ covers (is_one_of (pending_of d.sessions i) a) (is_one_of (pending_of n.sessions i) a) (is_one_of (vacant_of n.sessions i) a) (is_one_of found a) (pending_then i a) (room_at i a l) f
        at (inr k) = still_pending i a (pending_for_each marked s d sound i a l k)

    was_or_found : (i a : ℕ) → i < length d.sessions.sessions → is_one_of (pending_of r i) a ≡ true → (is_one_of (pending_of d.sessions i) a ≡ true) ⊎ (is_one_of found a ≡ true)
    was_or_found i a l h =
        ⊎_elim (λ (p : is_one_of (pending_of n.sessions i) a ≡ true). inl (sym (pending_then i a) ∙ p))
        (λ (v : is_one_of (vacant_of n.sessions i) a ≡ true). inr (and_parts (is_one_of found a) _ (sym (room_at i a l) ∙ v)).0)
        (or_cases _ _ (sym (taken.pending i a) ∙ h))

    -- what a cell marks in the new sheet it marked in the old one, or the edited cells did
    marked_before : applied s contents ≡ Ok t → (a c : ℕ) → marked t.sheet (a ∷ []) c ≡ true → (marked s.sheet (a ∷ []) c ≡ true) ⊎ ((0 < length contents) × (marked s.sheet (keys_of contents) c ≡ true))
    marked_before made a c m = at (cases_lt 0 (length contents))
      where
        here : marked then_sheet (a ∷ []) c ≡ true
        here = ap (λ (x : Sheet). marked x (a ∷ []) c) (sym ((accepted_is s t (map change_without_empty contents) made).0)) ∙ m

        at : (0 < length contents) ⊎ (length contents ≤ 0) → (marked s.sheet (a ∷ []) c ≡ true) ⊎ ((0 < length contents) × (marked s.sheet (keys_of contents) c ≡ true))
        at (inl l) =
            ⊎_elim (λ (b : marked s.sheet (a ∷ []) c ≡ true). inl b) (λ (b : marked s.sheet (keys_of contents) c ≡ true). inr (l, b))
            (law.edited s.sheet then_sheet (keys_of contents) a c (same_off_edited s.sheet contents) here)
        at (inr g) = inl (ap (λ (x : Sheet). marked x (a ∷ []) c) (sym (stays s.sheet contents (omega (arith, g)))) ∙ here)

    closed_taken : applied s contents ≡ Ok t → AreClosed marked (state_of t (record n { sessions = r })) r.pending
    closed_taken made i l a c h m = at (marked_before made a c m)
      where
        old : i < length d.sessions.sessions
        old = subst (λ (xs : List Session). i < length xs) (taken.sessions ∙ beside.sessions) l

        by : marked s.sheet (a ∷ []) c ≡ true → (is_one_of (pending_of d.sessions i) a ≡ true) ⊎ (is_one_of found a ≡ true) → is_one_of (pending_of r i) c ≡ true
        by b (inl p) = still_pending i c (sound.closed i old a c p b)
        by b (inr f) = let o = are.only a f in marked_pending i c old o.0 (law.further s.sheet (keys_of contents) a c o.1 b)

        at : (marked s.sheet (a ∷ []) c ≡ true) ⊎ ((0 < length contents) × (marked s.sheet (keys_of contents) c ≡ true)) → is_one_of (pending_of r i) c ≡ true
        at (inl b) = by b (was_or_found i a old h)
        at (inr b) = marked_pending i c old b.0 b.1

    pub sound_taken : applied s contents ≡ Ok t → IsSound marked t (record n { sessions = r })
    sound_taken made =
        let same : r.sessions ≡ d.sessions.sessions = taken.sessions ∙ beside.sessions in
        let lists : length r.pending ≡ length d.sessions.pending = taken.lists ∙ ap (λ (xss : List (List ℕ)). length xss) beside.pending in
        let many : length r.sessions ≡ length d.sessions.sessions = ap (λ (xs : List Session). length xs) same in
        let at : n.current ≡ d.current = beside.current in
        record {
          within = omega (arith, many, at, sound.within);
          few = omega (arith, many, sound.few);
          each = lists ∙ sound.each ∙ sym many;
          full = taken.vacant;
          closed = closed_taken made;
          covered = covered_taken made;
        }

    pub adds_taken : AddsOnly marked (keys_of contents) (state_of s d) (state_of t (record n { sessions = r })) d.sessions.pending r.pending
    adds_taken i a l h =
        ⊎_elim (λ (p : is_one_of (pending_of d.sessions i) a ≡ true). inl p)
        (λ (f : is_one_of found a ≡ true). let o = are.only a f in
        inr (record { cells = keys_of contents; some = omega (arith, o.0, length-keys_of contents); touched = λ k e m. inl (has_at (keys_of contents) k _ e m refl); has = o.1 }))
        (was_or_found i a l h)
