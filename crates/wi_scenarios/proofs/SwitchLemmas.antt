-- That a switch to other scenarios keeps what sessions are shown.
use Rattle.wi_scenarios.proofs.Words.{◌≡◌, ◌==◌, ℕ, ◌<◌, Bool, true, false, not, ◌||◌, ◌&&◌, List, [], length, get_or, refl, sym, ap, ◌∙◌, subst, arith, false≢true, and_parts, nil_from_length, nat_tests, Replacement, IsInOrder, replaced, Sheet, shown, IsMarking, outside_unmoved, last_in_order, is_one_of, Differs, AreDiffering, HasRoom, ◌≢◌, ◌⊎◌, inl, inr, ◌≤◌, Option, slice_index_or, slice_set, or-false, or_left, or_parts, or_cases, get_or-set_same, get_or-set_other, length-set, Value, Stored, Kept, effective, value_in, Session, new_session, max_sessions, using_scenario, Roster, session_at, pending_of, vacant_of, State, IsMarked, IsTouched, AddsOnly, SameForOthers, Desk, state_of, pending_in, AreCovered, AreClosed, IsSound, HasRoomFor, Ok, Err, AllocError, MakesSound, has_at}
use Rattle.wi_scenarios.proofs.EditLemmas.{not_found, covers}

-- ---- no replacement is another

-- replacements that are in order and the same of each cell show the same
pub shown_alike : (s : Sheet) (p q : List Replacement) (c : ℕ) → IsInOrder p → IsInOrder q → ((a : ℕ) → replaced p a ≡ replaced q a) → shown s p c ≡ shown s q c
shown_alike s p q c h k e =
    outside_unmoved s [] c refl s s p q (λ d n. refl) (λ d n. refl) (λ d n. last_in_order p h d ∙ e d ∙ sym (last_in_order q k d))

-- where a list shows what another one shows, no room is wanted
bare : (marked : Sheet → List ℕ → ℕ → Bool) (sheet : Sheet) (before after : List Replacement) (pending vacant : List ℕ)
    → vacant ≡ [] → ((a : ℕ) → shown sheet before a ≡ shown sheet after a) → HasRoom marked sheet before after pending vacant
bare marked sheet before after pending vacant empty same = record {
  marks = λ a h. absurd (false≢true (sym (ap (λ (xs : List ℕ). is_one_of xs a) empty) ∙ h));
  further = λ a c h m. absurd (false≢true (sym (ap (λ (xs : List ℕ). is_one_of xs a) empty) ∙ h));
  others = λ a h k. same a;
}

pub none_differs : (marked : Sheet → List ℕ → ℕ → Bool) (sheet : Sheet) (before after : List Replacement) (cells pending vacant : List ℕ)
    → IsInOrder before → IsInOrder after → AreDiffering before after cells → length cells ≡ 0 → vacant ≡ [] → HasRoom marked sheet before after pending vacant
none_differs marked sheet before after cells pending vacant first second found none empty =
    bare marked sheet before after pending vacant empty (λ a. shown_alike sheet before after a first second (λ d. found.others d (ap (λ (xs : List ℕ). is_one_of xs d) (nil_from_length cells none))))

-- ---- some are

pub some_differ : (marked : Sheet → List ℕ → ℕ → Bool) (law : IsMarking marked) (sheet : Sheet) (before after : List Replacement) (cells told pending vacant vacant' : List ℕ)
    → IsInOrder before → IsInOrder after → AreDiffering before after cells → 0 < length cells → vacant ≡ []
    → ((c : ℕ) → is_one_of told c ≡ marked sheet cells c)
    → ((a : ℕ) → is_one_of vacant' a ≡ (is_one_of vacant a || (is_one_of told a && not (is_one_of pending a))))
    → HasRoom marked sheet before after pending vacant'
some_differ marked law sheet before after cells told pending vacant vacant' first second found some empty marks room = record {
  marks = λ a h. record {
    cells = cells;
    some = some;
    touched = λ k d l. found.each (get_or cells k d) (has_at cells k (get_or cells k d) d l refl);
    has = it_is a h;
  };
  further = λ a c h m. covers (is_one_of pending c) (is_one_of pending c) (is_one_of vacant' c) (is_one_of told c) refl (now c) (marks c ∙ law.further sheet cells a c (it_is a h) m);
  others = λ a h k.
      law.unmoved sheet cells a (sym (marks a) ∙ not_found (is_one_of vacant' a) (is_one_of told a) (is_one_of pending a) (now a) h k) sheet sheet before after (λ d n. refl) (λ d n. refl)
      (λ d n. last_in_order before first d ∙ found.others d n ∙ sym (last_in_order after second d));
}
  where
    now : (a : ℕ) → is_one_of vacant' a ≡ (is_one_of told a && not (is_one_of pending a))
    now a = room a ∙ ap (λ (xs : List ℕ). is_one_of xs a || (is_one_of told a && not (is_one_of pending a))) empty

    it_is : (a : ℕ) → is_one_of vacant' a ≡ true → marked sheet cells a ≡ true
    it_is a h = sym (marks a) ∙ (and_parts (is_one_of told a) (not (is_one_of pending a)) (sym (now a) ∙ h)).0

-- the same of lists as they are lent
pub room_marked : (marked : Sheet → List ℕ → ℕ → Bool) (law : IsMarking marked) (sheet : Sheet) (before after : List Replacement) (cells lent found told pending vacant vacant' : List ℕ)
    → IsInOrder before → IsInOrder after → AreDiffering before after cells → lent ≡ cells → 0 < length cells → vacant ≡ []
    → ((c : ℕ) → is_one_of found c ≡ marked sheet lent c) → told ≡ found
    → ((a : ℕ) → is_one_of vacant' a ≡ (is_one_of vacant a || (is_one_of told a && not (is_one_of pending a))))
    → HasRoom marked sheet before after pending vacant'
room_marked marked law sheet before after cells lent found told pending vacant vacant' first second differ e some empty marks t room =
    some_differ marked law sheet before after lent told pending vacant vacant' first second
    (subst (AreDiffering before after) (sym e) differ) (subst (λ (xs : List ℕ). 0 < length xs) (sym e) some) empty
    (λ c. ap (λ (xs : List ℕ). is_one_of xs c) t ∙ marks c) room

-- ---- nothing is switched

-- a desk that is the same but for vacant rooms, of which it has none
pub sound_again : {marked : Sheet → List ℕ → ℕ → Bool} (stored : Stored) (d e : Desk) → IsSound marked stored d → state_of stored e ≡ state_of stored d → e.sessions.pending ≡ d.sessions.pending
    → ((i : ℕ) → vacant_of e.sessions i ≡ []) → IsSound marked stored e
sound_again {marked} stored d e h same pending none = record {
  within = subst (λ (s : State). s.current < length s.sessions) (sym same) h.within;
  few = subst (λ (s : State). length s.sessions ≤ max_sessions) (sym same) h.few;
  each = ap length pending ∙ h.each ∙ sym (ap (λ (s : State). length s.sessions) same);
  full = none;
  closed =
      subst (λ (s : State). AreClosed marked s (pending_in e)) (sym same)
      (subst (λ (cs : List (List ℕ)). AreClosed marked (state_of stored d) cs) (sym pending) h.closed);
  covered =
      subst (λ (s : State). AreCovered s (pending_in e)) (sym same)
      (subst (λ (cs : List (List ℕ)). AreCovered (state_of stored d) cs) (sym pending) h.covered);
}

pub adds_none : (marked : Sheet → List ℕ → ℕ → Bool) (s t : State) (before after : List (List ℕ)) → after ≡ before → AddsOnly marked [] s t before after
adds_none marked s t before after same = λ i a l h. inl (sym (ap (λ (cs : List (List ℕ)). is_one_of (slice_index_or cs i []) a) same) ∙ h)

-- ---- sessions that put in something else

-- The second desk is the first where sessions put in something else, once the cells for which there is room are pending.
pub record IsSwitch (marked : Sheet → List ℕ → ℕ → Bool) (stored : Stored) (d e : Desk) (vacant : ℕ → List ℕ) : Type 0 where
  pub count : length e.sessions.sessions ≡ length d.sessions.sessions
  pub lists : length e.sessions.pending ≡ length d.sessions.pending
  pub current : e.current ≡ d.current
  pub pictures : (i : ℕ) → (session_at e.sessions i).picture ≡ (session_at d.sessions i).picture
  pub room : (i : ℕ) → i < length d.sessions.sessions
      → HasRoom marked stored.sheet (effective d.scenarios (session_at d.sessions i).scenario) (effective e.scenarios (session_at e.sessions i).scenario) (pending_of d.sessions i) (vacant i)
  pub pending : (i a : ℕ) → is_one_of (pending_of e.sessions i) a ≡ (is_one_of (pending_of d.sessions i) a || is_one_of (vacant i) a)
  pub empty : (i : ℕ) → vacant_of e.sessions i ≡ []

module _ (marked : Sheet → List ℕ → ℕ → Bool) (stored : Stored) (d e : Desk) (vacant : ℕ → List ℕ) (w : IsSwitch marked stored d e vacant) where
  -- with what was pending or gets room what it marks is pending then
  switched_closed : IsSound marked stored d → AreClosed marked (state_of stored e) (pending_in e)
  switched_closed h i l a c p m = w.pending i c ∙ at (or_cases (is_one_of (pending_of d.sessions i) a) (is_one_of (vacant i) a) (sym (w.pending i a) ∙ p))
    where
      old : i < length d.sessions.sessions
      old = subst (λ (k : ℕ). i < k) w.count l

      at : (is_one_of (pending_of d.sessions i) a ≡ true) ⊎ (is_one_of (vacant i) a ≡ true) → (is_one_of (pending_of d.sessions i) c || is_one_of (vacant i) c) ≡ true
      at (inl there) = or_left (is_one_of (pending_of d.sessions i) c) (is_one_of (vacant i) c) (h.closed i old a c there m)
      at (inr new) = (w.room i old).further a c new m

  pub switched_sound : IsSound marked stored d → IsSound marked stored e
  switched_sound h = record {
    within = subst (λ (n : ℕ). n < length e.sessions.sessions) (sym w.current) (subst (λ (n : ℕ). d.current < n) (sym w.count) h.within);
    few = subst (λ (n : ℕ). n ≤ max_sessions) (sym w.count) h.few;
    each = w.lists ∙ h.each ∙ sym w.count;
    full = w.empty;
    closed = switched_closed h;
    covered = λ i l a m n.
        let old : i < length d.sessions.sessions = subst (λ (k : ℕ). i < k) w.count l in
        let both : (is_one_of (pending_of d.sessions i) a || is_one_of (vacant i) a) ≡ false = sym (w.pending i a) ∙ n in
        let before = (or_parts (is_one_of (pending_of d.sessions i) a) (is_one_of (vacant i) a) both).0 in
        ap (λ (picture : List (ℕ × Value)). value_in picture a) (w.pictures i) ∙ h.covered i old a m before
        ∙ (w.room i old).others a before (or_parts (is_one_of (pending_of d.sessions i) a) (is_one_of (vacant i) a) both).1;
  }

  marked_there : (i a : ℕ) → IsMarked marked stored.sheet (Differs (effective d.scenarios (session_at d.sessions i).scenario) (effective e.scenarios (session_at e.sessions i).scenario)) a
      → IsMarked marked stored.sheet (IsTouched [] (state_of stored d) (state_of stored e) i) a
  marked_there i a m = record { cells = m.cells; some = m.some; touched = λ k c l. inr (m.touched k c l); has = m.has }

  pub switched_adds : AddsOnly marked [] (state_of stored d) (state_of stored e) (pending_in d) (pending_in e)
  switched_adds = λ i a l t.
      elim (or_cases (is_one_of (pending_of d.sessions i) a) (is_one_of (vacant i) a) (sym (w.pending i a) ∙ t)) [
        | inl there ↦ inl there
        | inr new ↦ inr (marked_there i a ((w.room i l).marks a new))
      ]

-- what a call leaves that made a switch, and one that made nothing
pub made_switched : {marked : Sheet → List ℕ → ℕ → Bool} {u : Unit {0}} {stored : Stored} {d e : Desk} {vacant : ℕ → List ℕ} (made : State) → IsSwitch marked stored d e vacant → state_of stored e ≡ made
    → IsSound marked stored d → MakesSound marked (Ok u) stored made d e
made_switched {marked} {u} {stored} {d} {e} {vacant} made w is h =
    record { state = is; kept = tt; adds = switched_adds marked stored d e vacant w; refused = tt; sound = switched_sound marked stored d e vacant w h }

pub made_nothing : {marked : Sheet → List ℕ → ℕ → Bool} {x : AllocError} {stored : Stored} {d : Desk} (made : State) (e : Desk) → IsSound marked stored d → state_of stored e ≡ state_of stored d
    → e.sessions.pending ≡ d.sessions.pending → ((i : ℕ) → vacant_of e.sessions i ≡ []) → MakesSound marked (Err x) stored made d e
made_nothing {marked} {x} {stored} {d} made e h same pending none =
    record { state = tt; kept = same; adds = adds_none marked (state_of stored d) (state_of stored e) (pending_in d) (pending_in e) pending; refused = pending; sound = sound_again stored d e h same pending none }

-- where there is room for one session alone
pub switched_others : (marked : Sheet → List ℕ → ℕ → Bool) (stored : Stored) (d e : Desk) (vacant : ℕ → List ℕ) → IsSwitch marked stored d e vacant
    → ((j : ℕ) → j ≢ d.current → vacant j ≡ []) → SameForOthers d.current (pending_in d) (pending_in e)
switched_others marked stored d e vacant w none = λ j a n.
    w.pending j a
    ∙ ap (λ (xs : List ℕ). is_one_of (pending_of d.sessions j) a || is_one_of xs a) (none j n)
    ∙ or-false (is_one_of (pending_of d.sessions j) a)

pub others_none : (i : ℕ) (before after : List (List ℕ)) → after ≡ before → SameForOthers i before after
others_none i before after same = λ j a n. ap (λ (cs : List (List ℕ)). is_one_of (slice_index_or cs j []) a) same

-- ---- other scenarios take the place of all

-- with room for each session beside what is pending
pub scenarios_switched : (marked : Sheet → List ℕ → ℕ → Bool) (stored : Stored) (d e : Desk) (mid : Roster)
    → mid.sessions ≡ d.sessions.sessions → mid.pending ≡ d.sessions.pending
    → ((i : ℕ) → i < length d.sessions.sessions → HasRoomFor marked stored.sheet d.scenarios e.scenarios mid i)
    → e.sessions.sessions ≡ mid.sessions → length e.sessions.pending ≡ length mid.pending
    → ((i a : ℕ) → is_one_of (pending_of e.sessions i) a ≡ (is_one_of (pending_of mid i) a || is_one_of (vacant_of mid i) a))
    → ((i : ℕ) → vacant_of e.sessions i ≡ []) → e.current ≡ d.current → IsSwitch marked stored d e (vacant_of mid)
scenarios_switched marked stored d e mid sessions pending room after lists took empty current =
    let same : e.sessions.sessions ≡ d.sessions.sessions = after ∙ sessions in
    let its = λ (i : ℕ) (xs : List Session). slice_index_or xs i (new_session []) in
    record {
      count = ap length same;
      lists = lists ∙ ap length pending;
      current = current;
      pictures = λ i. ap (λ (xs : List Session). (its i xs).picture) same;
      room = λ i l.
          subst (λ (xs : List Session). HasRoom marked stored.sheet (effective d.scenarios (session_at d.sessions i).scenario) (effective e.scenarios (its i xs).scenario) (pending_of d.sessions i) (vacant_of mid i)) (sym same)
          (subst (λ (xs : List Session). HasRoom marked stored.sheet (effective d.scenarios (its i xs).scenario) (effective e.scenarios (its i xs).scenario) (pending_of d.sessions i) (vacant_of mid i)) sessions
          (subst (λ (cs : List (List ℕ)). HasRoom marked stored.sheet (effective d.scenarios (session_at mid i).scenario) (effective e.scenarios (session_at mid i).scenario) (slice_index_or cs i []) (vacant_of mid i)) pending (room i l)));
      pending = λ i a. took i a ∙ ap (λ (cs : List (List ℕ)). is_one_of (slice_index_or cs i []) a || is_one_of (vacant_of mid i) a) pending;
      empty = empty;
    }

-- ---- the current session uses another scenario

module _ (marked : Sheet → List ℕ → ℕ → Bool) (stored : Stored) (d e : Desk) (mid : Roster) (name : Option (List ℕ)) (h : IsSound marked stored d)
    (room : HasRoom marked stored.sheet (effective d.scenarios (session_at d.sessions d.current).scenario) (effective d.scenarios name) (pending_of d.sessions d.current) (vacant_of mid d.current))
    (others : (j : ℕ) → j ≢ d.current → vacant_of mid j ≡ vacant_of d.sessions j)
    (scenarios : e.scenarios ≡ d.scenarios)
    (sessions : e.sessions.sessions ≡ slice_set d.sessions.sessions d.current (using_scenario (session_at d.sessions d.current) name)) where
  abbrev it : Session
  it = using_scenario (session_at d.sessions d.current) name

  here : session_at e.sessions d.current ≡ it
  here =
      ap (λ (xs : List Session). slice_index_or xs d.current (new_session [])) sessions
      ∙ get_or-set_same d.sessions.sessions d.current it (new_session []) h.within

  elsewhere : (j : ℕ) → j ≢ d.current → session_at e.sessions j ≡ session_at d.sessions j
  elsewhere j n =
      ap (λ (xs : List Session). slice_index_or xs j (new_session [])) sessions
      ∙ get_or-set_other d.sessions.sessions d.current j it (new_session []) n

  picture_stays : (j : ℕ) (b : Bool) → (j == d.current) ≡ b → (session_at e.sessions j).picture ≡ (session_at d.sessions j).picture
  picture_stays j true t =
      let same : j ≡ d.current = grind (arith, nat_tests, t) in
      subst (λ (k : ℕ). (session_at e.sessions k).picture ≡ (session_at d.sessions k).picture) (sym same) (ap (λ (x : Session). x.picture) here)
  picture_stays j false t =
      let other : j ≢ d.current = grind (arith, nat_tests, t) in ap (λ (x : Session). x.picture) (elsewhere j other)

  room_there : (j : ℕ) (b : Bool) → (j == d.current) ≡ b → HasRoom marked stored.sheet (effective d.scenarios (session_at d.sessions j).scenario) (effective e.scenarios (session_at e.sessions j).scenario) (pending_of d.sessions j) (vacant_of mid j)
  room_there j true t =
      let same : j ≡ d.current = grind (arith, nat_tests, t) in
      subst (λ (k : ℕ). HasRoom marked stored.sheet (effective d.scenarios (session_at d.sessions k).scenario) (effective e.scenarios (session_at e.sessions k).scenario) (pending_of d.sessions k) (vacant_of mid k)) (sym same)
      (subst (λ (rs : List Replacement). HasRoom marked stored.sheet (effective d.scenarios (session_at d.sessions d.current).scenario) rs (pending_of d.sessions d.current) (vacant_of mid d.current))
      (sym (ap (λ (xs : List Kept). effective xs (session_at e.sessions d.current).scenario) scenarios ∙ ap (λ (x : Session). effective d.scenarios x.scenario) here)) room)
  room_there j false t =
      let other : j ≢ d.current = grind (arith, nat_tests, t) in
      subst (λ (rs : List Replacement). HasRoom marked stored.sheet (effective d.scenarios (session_at d.sessions j).scenario) rs (pending_of d.sessions j) (vacant_of mid j))
      (sym (ap (λ (xs : List Kept). effective xs (session_at e.sessions j).scenario) scenarios ∙ ap (λ (x : Session). effective d.scenarios x.scenario) (elsewhere j other)))
      (let own = effective d.scenarios (session_at d.sessions j).scenario in bare marked stored.sheet own own (pending_of d.sessions j) (vacant_of mid j) (others j other ∙ h.full j) (λ a. refl))

  pub current_switched : length e.sessions.pending ≡ length d.sessions.pending
      → ((i a : ℕ) → is_one_of (pending_of e.sessions i) a ≡ (is_one_of (pending_of d.sessions i) a || is_one_of (vacant_of mid i) a))
      → ((i : ℕ) → vacant_of e.sessions i ≡ []) → e.current ≡ d.current → IsSwitch marked stored d e (vacant_of mid)
  current_switched lists took empty current = record {
    count = ap length sessions ∙ length-set d.sessions.sessions d.current it;
    lists = lists;
    current = current;
    pictures = λ j. picture_stays j (j == d.current) refl;
    room = λ j l. room_there j (j == d.current) refl;
    pending = took;
    empty = empty;
  }

-- what the sessions are once the current one of a desk that is the same but for vacant rooms uses a scenario
pub used_sessions : (stored : Stored) (d r : Desk) (used after : List Session) (n name : Option (List ℕ)) → state_of stored r ≡ state_of stored d
    → used ≡ slice_set r.sessions.sessions r.current (using_scenario (session_at r.sessions r.current) n) → n ≡ name → after ≡ used
    → after ≡ slice_set d.sessions.sessions d.current (using_scenario (session_at d.sessions d.current) name)
used_sessions stored d r used after n name same turned named e =
    e ∙ turned
    ∙ ap (λ (s : State). slice_set s.sessions s.current (using_scenario (slice_index_or s.sessions s.current (new_session [])) n)) same
    ∙ ap (λ (m : Option (List ℕ)). slice_set d.sessions.sessions d.current (using_scenario (session_at d.sessions d.current) m)) named

pub use_switched : (marked : Sheet → List ℕ → ℕ → Bool) (stored : Stored) (d r : Desk) (u t : Roster) (n name : Option (List ℕ)) → IsSound marked stored d
    → state_of stored r ≡ state_of stored d → r.sessions.pending ≡ d.sessions.pending → ((j : ℕ) → j ≢ d.current → vacant_of r.sessions j ≡ vacant_of d.sessions j)
    → HasRoom marked stored.sheet (effective d.scenarios (session_at d.sessions d.current).scenario) (effective d.scenarios name) (pending_of d.sessions d.current) (vacant_of r.sessions d.current)
    → u.sessions ≡ slice_set r.sessions.sessions r.current (using_scenario (session_at r.sessions r.current) n) → n ≡ name
    → u.pending ≡ r.sessions.pending → u.vacant ≡ r.sessions.vacant
    → t.sessions ≡ u.sessions → length t.pending ≡ length u.pending
    → ((i a : ℕ) → is_one_of (pending_of t i) a ≡ (is_one_of (pending_of u i) a || is_one_of (vacant_of u i) a)) → ((i : ℕ) → vacant_of t i ≡ [])
    → IsSwitch marked stored d (record r { sessions = t }) (vacant_of r.sessions)
use_switched marked stored d r u t n name h same pending others room turned named kept rooms after lists took empty =
    current_switched marked stored d (record r { sessions = t }) r.sessions name h room others
    (ap (λ (s : State). s.scenarios) same) (used_sessions stored d r u.sessions t.sessions n name same turned named after)
    (lists ∙ ap length (kept ∙ pending))
    (λ i a. took i a ∙ ap (λ (cs : List (List ℕ)). is_one_of (slice_index_or cs i []) a || is_one_of (vacant_of u i) a) (kept ∙ pending)
    ∙ ap (λ (cs : List (List ℕ)). is_one_of (pending_of d.sessions i) a || is_one_of (slice_index_or cs i []) a) rooms)
    empty (ap (λ (s : State). s.current) same)
