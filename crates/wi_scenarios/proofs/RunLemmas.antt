-- What each command leaves, and what it does to the sessions and to the log.
use Rattle.wi_scenarios.proofs.Words.{◌≡◌, ◌∙◌, ℕ, inl, inr, Bool, true, false, cond, List, [], ◌∷◌, Some, Ok, Err, refl, sym, ap, subst, find, bytes_eq, bytes_eq-Decides, is_named, scenario_for, with_scenario, without_scenario, with_own, without_own, scenario_or_new, found_with, found_without, State, Answer, Event, MayHappen, IsEdited, HasScenarioChanged, Leaves, Command, Set, Clear, Fill, Csv, Scenario, Drop, Base, Unknown, Unreadable, address, named, Put, after_edit, Does, state_with, IsStep, ◌≢◌, zero, suc, ◌+◌, ◌<◌, ◌≤◌, ◌==◌, ◌⊎◌, not, ◌&&◌, ◌||◌, ◌++◌, length, get_or, arith, list_any, cond_both, Option, position_or_len, eqb-true, eqb-false, ne_eqb, false≢true, length-set, length-append, get_or-set_same, get_or-set_other, Stored, with_changes, Session, new_session, has_session, with_session, index_of, using_scenario, told, state_over, current_session, with_current, change_list, left_by, MayFollow, IsCoherent, StaysCoherent, KeepsApart, is_changes, is_accepted_changes, with_lists, ListsAddUp, named_by, logged, LogGrows, Use, As, Changes, append-nil, prefix_len-le-length}
use Rattle.wi_scenarios.specs.Views.{session_at}
use Rattle.wi_scenario_list.specs.Scenarios as list
use Rattle.wi_scenarios.proofs.EventLemmas as events
use Rattle.wi_scenarios.proofs.EventLemmas.{TellsAndLogs}

-- what an answer says of the state that it leaves
abbrev pub Outcome : State → Command → Answer → Type 0
Outcome s c (Ok done) = Leaves c s done.0
Outcome s c (Err e) = Unit {0}

-- ---- scenarios

-- the scenario that is found by a name, or made for it, has that name
name_found : (name : List ℕ) (ys : List list.Scenario) → (scenario_or_new name (find (is_named name) ys)).name ≡ name
name_found name [] = refl
name_found name (y ∷ ys) =
    cond_both (bytes_eq name y.name) (Some y) (find (is_named name) ys) (λ (o : Option list.Scenario). (scenario_or_new name o).name ≡ name)
    (λ h. sym ((bytes_eq-Decides name y.name).0 h)) (λ h. name_found name ys)

-- a scenario of the name is put in, or the one of the name is taken out
put_in : (s : State) (name : List ℕ) (x : list.Scenario) → x.name ≡ name → HasScenarioChanged name s (record s { scenarios = with_scenario s.scenarios x })
put_in s name x e = record {
  stored = refl;
  others = λ other n. found_with other x s.scenarios (λ m. n (m ∙ e));
  sessions = refl;
  current = refl;
  log = refl;
}

taken_out : (s : State) (name : List ℕ) → HasScenarioChanged name s (record s { scenarios = without_scenario s.scenarios name })
taken_out s name = record {
  stored = refl;
  others = λ other n. found_without other name s.scenarios n;
  sessions = refl;
  current = refl;
  log = refl;
}

-- ---- each command

module _ (s : State) where
  edited : (c : Command) (puts : List Put) (done : State × List ℕ) → done ≡ (after_edit s c puts, []) → IsEdited (named c) s done.0
  edited c puts done h =
      subst (λ (d : State × List ℕ). IsEdited (named c) s d.0) (sym h) (record { scenarios = refl; sessions = refl; current = refl; log = refl })

  changed : (name : List ℕ) (x : list.Scenario) (done : State × List ℕ) → x.name ≡ name → done ≡ (state_with s x, []) → HasScenarioChanged name s done.0
  changed name x done e h = subst (λ (d : State × List ℕ). HasScenarioChanged name s d.0) (sym h) (put_in s name x e)

  abbrev left_in : State × List ℕ → State
  left_in done = done.0

  does_leave : (c : Command) (done : State × List ℕ) → Does s c done → Leaves c s done.0
  does_leave (Set force at text) done h = edited (Set force at text) h.0 done h.2
  does_leave (Clear force rect) done h = edited (Clear force rect) h.0 done h.2
  does_leave (Fill force at rect) done h = edited (Fill force at rect) h.0 done h.2
  does_leave (Csv force at n lines) done h = edited (Csv force at n lines) h.0 done h.2
  does_leave (Scenario name at []) done h =
      changed name (without_own (scenario_for s.scenarios name) (address at)) done (name_found name s.scenarios) h
  does_leave (Scenario name at (b ∷ bs)) done h =
      changed name (with_own (scenario_for s.scenarios name) (record { at = address at; value = h.0 } ∷ [])) done (name_found name s.scenarios) h.2
  does_leave (Drop name) done h = subst (λ (d : State × List ℕ). HasScenarioChanged name s d.0) (sym h) (taken_out s name)
  does_leave (Base name other) done h = changed name (record (scenario_for s.scenarios name) { base = other }) done (name_found name s.scenarios) h
  does_leave Unknown done h = absurd h.1
  does_leave Unreadable done h = absurd h.1
  does_leave c done h = ap left_in h

outcome : (s : State) (c : Command) (a : Answer) → IsStep s c a → Outcome s c a
outcome s c (Ok done) h = does_leave s c done h.1
outcome s c (Err e) h = tt

pub what_happens : (s : State) (e : Event Command) → MayHappen IsStep s e → Outcome s e.command e.answer
what_happens s e (inl h) = outcome s e.command e.answer h
what_happens s e (inr h) = subst (Outcome s e.command) (sym h) tt

pub leaves : (s t : State) (c : Command) (records : List ℕ) → IsStep s c (Ok (t, records)) → Leaves c s t
leaves s t c records h = does_leave s c (t, records) h.1

-- ---- the log after a command

pub log_then : (s : State) (c : Command) (a : Answer) → Outcome s c a → (left_by s a).log ≡ s.log ++ logged s.current a (named_by c)
log_then s c (Err e) h = sym (append-nil s.log)
log_then s (Set force at text) (Ok done) h = h.log
log_then s (Clear force rect) (Ok done) h = h.log
log_then s (Fill force at rect) (Ok done) h = h.log
log_then s (Csv force at n lines) (Ok done) h = h.log
log_then s (Scenario name at text) (Ok done) h = h.log ∙ sym (append-nil s.log)
log_then s (Drop name) (Ok done) h = h.log ∙ sym (append-nil s.log)
log_then s (Base name other) (Ok done) h = h.log ∙ sym (append-nil s.log)
log_then s c (Ok done) h = ap (λ (t : State). t.log) h ∙ sym (append-nil s.log)

-- ---- the sessions after a command

-- what a session was before, or what a command makes of the current one
abbrev pub session_then : ℕ → State → Command → Answer → Session
session_then i s c (Err e) = session_at s i
session_then i s (Use name) (Ok done) = cond (s.current == i) (using_scenario (current_session s) name) (session_at s i)
session_then i s Changes (Ok done) = cond (s.current == i) (told (current_session s) (change_list s) (length s.log)) (session_at s i)
session_then i s c (Ok done) = session_at s i

put_there : (s : State) (x : Session) (i : ℕ) → s.current < length s.sessions → session_at (with_current s x) i ≡ cond (s.current == i) x (session_at s i)
put_there s x i w =
    cond_both (s.current == i) x (session_at s i) (λ (y : Session). session_at (with_current s x) i ≡ y)
    (λ h. subst (λ (k : ℕ). session_at (with_current s x) k ≡ x) (eqb-true s.current i h) (get_or-set_same s.sessions s.current x (new_session []) w))
    (λ h. get_or-set_other s.sessions s.current i x (new_session []) (λ e. eqb-false s.current i h (sym e)))

module _ {X : Type 0} (f : Session → X) where
  -- of a session that is there, or of what is one in all new sessions
  abbrev pub IsKept : State → ℕ → Type 0
  IsKept s i = (i < length s.sessions) ⊎ ((name : List ℕ) → f (new_session name) ≡ f (new_session []))

  put_behind : (xs : List Session) (name : List ℕ) (i : ℕ) → (i < length xs) ⊎ ((n : List ℕ) → f (new_session n) ≡ f (new_session []))
      → f (get_or (xs ++ new_session name ∷ []) i (new_session [])) ≡ f (get_or xs i (new_session []))
  put_behind [] name zero (inl l) = absurd (omega (arith, l))
  put_behind [] name zero (inr e) = e name
  put_behind [] name (suc i) k = refl
  put_behind (x ∷ xs) name zero k = refl
  put_behind (x ∷ xs) name (suc i) (inl l) = put_behind xs name i (inl (omega (arith, l)))
  put_behind (x ∷ xs) name (suc i) (inr e) = put_behind xs name i (inr e)

  with_new : (s : State) (name : List ℕ) (i : ℕ) → IsKept s i → f (get_or (with_session s.sessions name) i (new_session [])) ≡ f (session_at s i)
  with_new s name i k =
      cond_both (has_session s.sessions name) s.sessions (s.sessions ++ new_session name ∷ []) (λ (xs : List Session). f (get_or xs i (new_session [])) ≡ f (session_at s i))
      (λ h. refl) (λ h. put_behind s.sessions name i k)

  pub part_then : (s : State) (c : Command) (a : Answer) (i : ℕ) → s.current < length s.sessions → IsKept s i → Outcome s c a
      → f (session_at (left_by s a) i) ≡ f (session_then i s c a)
  part_then s c (Err e) i w k h = refl
  part_then s (Set force at text) (Ok done) i w k h = ap (λ (xs : List Session). f (get_or xs i (new_session []))) h.sessions
  part_then s (Clear force rect) (Ok done) i w k h = ap (λ (xs : List Session). f (get_or xs i (new_session []))) h.sessions
  part_then s (Fill force at rect) (Ok done) i w k h = ap (λ (xs : List Session). f (get_or xs i (new_session []))) h.sessions
  part_then s (Csv force at n lines) (Ok done) i w k h = ap (λ (xs : List Session). f (get_or xs i (new_session []))) h.sessions
  part_then s (Scenario name at text) (Ok done) i w k h = ap (λ (xs : List Session). f (get_or xs i (new_session []))) h.sessions
  part_then s (Drop name) (Ok done) i w k h = ap (λ (xs : List Session). f (get_or xs i (new_session []))) h.sessions
  part_then s (Base name other) (Ok done) i w k h = ap (λ (xs : List Session). f (get_or xs i (new_session []))) h.sessions
  part_then s (Use name) (Ok done) i w k h =
      ap (λ (t : State). f (session_at t i)) h ∙ ap f (put_there s (using_scenario (current_session s) name) i w)
  part_then s Changes (Ok done) i w k h =
      ap (λ (t : State). f (session_at t i)) h ∙ ap f (put_there s (told (current_session s) (change_list s) (length s.log)) i w)
  part_then s (As name) (Ok done) i w k h = ap (λ (t : State). f (session_at t i)) h ∙ with_new s name i k
  part_then s c (Ok done) i w k h = ap (λ (t : State). f (session_at t i)) h

-- ---- a session that isn't current

other_then : (s : State) (c : Command) (a : Answer) (i : ℕ) → i ≢ s.current → session_then i s c a ≡ session_at s i
other_then s c (Err e) i n = refl
other_then s (Use name) (Ok done) i n =
    ap (λ (b : Bool). cond b (using_scenario (current_session s) name) (session_at s i)) (ne_eqb s.current i (λ e. n (sym e)))
other_then s Changes (Ok done) i n =
    ap (λ (b : Bool). cond b (told (current_session s) (change_list s) (length s.log)) (session_at s i)) (ne_eqb s.current i (λ e. n (sym e)))
other_then s c (Ok done) i n = refl

pub keeps_apart : (s : State) (e : Event Command) (i : ℕ) → IsCoherent s → MayHappen IsStep s e → KeepsApart s e i
keeps_apart s e i settled h l n =
    part_then (λ (x : Session). x) s e.command e.answer i settled.within (inl l) (what_happens s e h) ∙ other_then s e.command e.answer i n

-- ---- the current session is one of the sessions

first_before : (p : Session → Bool) (xs : List Session) → list_any p xs ≡ true → position_or_len p xs < length xs
first_before p [] h = absurd (false≢true h)
first_before p (x ∷ xs) h = by (p x) refl (first_before p xs)
  where
    by : (b : Bool) → p x ≡ b → (list_any p xs ≡ true → position_or_len p xs < length xs) → cond (not b) (1 + position_or_len p xs) 0 < suc (length xs)
    by true e k = omega arith
    by false e k = let l = k (ap (λ (c : Bool). c || list_any p xs) (sym e) ∙ h) in omega (arith, l)

place_within : (xs : List Session) (name : List ℕ) → index_of xs name < length (with_session xs name)
place_within xs name =
    let k : index_of xs name ≤ length xs = prefix_len-le-length (λ (x : Session). not (bytes_eq name x.name)) xs in
    cond_both (has_session xs name) xs (xs ++ new_session name ∷ []) (λ (ys : List Session). index_of xs name < length ys)
    (λ h. first_before (λ x. bytes_eq name x.name) xs h) (λ h. omega (arith, k, length-append xs (new_session name ∷ [])))

-- of states with the same sessions and current place
same_within : (s t : State) → t.sessions ≡ s.sessions → t.current ≡ s.current → s.current < length s.sessions → t.current < length t.sessions
same_within s t e f w = let l : length t.sessions ≡ length s.sessions = ap length e in omega (arith, l, f, w)

put_within : (s : State) (x : Session) → s.current < length s.sessions → (with_current s x).current < length (with_current s x).sessions
put_within s x w = let l = length-set s.sessions s.current x in omega (arith, l, w)

abbrev IsWithin : State → Type 0
IsWithin s = s.current < length s.sessions

within_then : (s : State) (c : Command) (a : Answer) → IsWithin s → Outcome s c a → IsWithin (left_by s a)
within_then s c (Err e) w h = w
within_then s (Set force at text) (Ok done) w h = same_within s done.0 h.sessions h.current w
within_then s (Clear force rect) (Ok done) w h = same_within s done.0 h.sessions h.current w
within_then s (Fill force at rect) (Ok done) w h = same_within s done.0 h.sessions h.current w
within_then s (Csv force at n lines) (Ok done) w h = same_within s done.0 h.sessions h.current w
within_then s (Scenario name at text) (Ok done) w h = same_within s done.0 h.sessions h.current w
within_then s (Drop name) (Ok done) w h = same_within s done.0 h.sessions h.current w
within_then s (Base name other) (Ok done) w h = same_within s done.0 h.sessions h.current w
within_then s (Use name) (Ok done) w h = subst IsWithin (sym h) (put_within s (using_scenario (current_session s) name) w)
within_then s Changes (Ok done) w h = subst IsWithin (sym h) (put_within s (told (current_session s) (change_list s) (length s.log)) w)
within_then s (As name) (Ok done) w h = subst IsWithin (sym h) (place_within s.sessions name)
within_then s c (Ok done) w h = subst IsWithin (sym h) w

-- ---- what `changes` alone does

-- how much of the log a session has seen
seen_then : (i : ℕ) (s : State) (c : Command) (a : Answer) → (session_then i s c a).seen ≡ cond (is_accepted_changes is_changes a c && (s.current == i)) (length s.log) (session_at s i).seen
seen_then i s c (Err e) = refl
seen_then i s (Use name) (Ok done) =
    cond_both (s.current == i) (using_scenario (current_session s) name) (session_at s i) (λ (x : Session). x.seen ≡ (session_at s i).seen)
    (λ h. ap (λ (k : ℕ). (session_at s k).seen) (eqb-true s.current i h)) (λ h. refl)
seen_then i s Changes (Ok done) = by (s.current == i)
  where
    by : (b : Bool) → (cond b (told (current_session s) (change_list s) (length s.log)) (session_at s i)).seen ≡ cond b (length s.log) (session_at s i).seen
    by true = refl
    by false = refl
seen_then i s c (Ok done) = refl

-- its picture
picture_then : (i : ℕ) (s : State) (c : Command) (a : Answer)
    → (session_then i s c a).picture ≡ with_lists (session_at s i).picture (cond (is_accepted_changes is_changes a c && (s.current == i)) (change_list s ∷ []) [])
picture_then i s c (Err e) = refl
picture_then i s (Use name) (Ok done) =
    cond_both (s.current == i) (using_scenario (current_session s) name) (session_at s i) (λ (x : Session). x.picture ≡ (session_at s i).picture)
    (λ h. ap (λ (k : ℕ). (session_at s k).picture) (eqb-true s.current i h)) (λ h. refl)
picture_then i s Changes (Ok done) = by (s.current == i) refl
  where
    by : (b : Bool) → (s.current == i) ≡ b
        → (cond b (told (current_session s) (change_list s) (length s.log)) (session_at s i)).picture ≡ with_lists (session_at s i).picture (cond b (change_list s ∷ []) [])
    by true h = ap (λ (k : ℕ). with_changes (session_at s k).picture (change_list s)) (eqb-true s.current i h)
    by false h = refl
picture_then i s c (Ok done) = refl

-- `changes` adds nothing to the log
told_adds_nothing : (n : ℕ) (a : Answer) (c : Command) → is_accepted_changes is_changes a c ≡ true → logged n a (named_by c) ≡ []
told_adds_nothing n (Err e) c h = refl
told_adds_nothing n (Ok done) Changes h = refl
told_adds_nothing n (Ok done) c h = absurd (false≢true h)

-- ---- commands one after another

pub new_is_coherent : (stored : Stored) → IsCoherent (state_over stored)
new_is_coherent stored = record { within = omega arith; seen = by }
  where
    by : (i : ℕ) → (session_at (state_over stored) i).seen ≤ 0
    by zero = omega arith
    by (suc i) = omega arith

pub tells_and_logs : (s : State) (e : Event Command) → IsCoherent s → MayHappen IsStep s e → TellsAndLogs is_changes named_by s e
tells_and_logs s e settled h =
    let o = what_happens s e h in
    record {
      within = within_then s e.command e.answer settled.within o;
      place = λ i. part_then (λ (x : Session). x.seen) s e.command e.answer i settled.within (inr (λ name. refl)) o ∙ seen_then i s e.command e.answer;
      picture = λ i. part_then (λ (x : Session). x.picture) s e.command e.answer i settled.within (inr (λ name. refl)) o ∙ picture_then i s e.command e.answer;
      log = log_then s e.command e.answer o;
      told_alone = told_adds_nothing s.current e.answer e.command;
    }

pub stays_coherent : (s : State) (es : List (Event Command)) → StaysCoherent IsStep s es
stays_coherent s es = events.stays_coherent IsStep is_changes named_by tells_and_logs s es

pub lists_add_up : (s : State) (es : List (Event Command)) (i : ℕ) → IsCoherent s → MayFollow IsStep s es → ListsAddUp is_changes s es i
lists_add_up = events.lists_add_up IsStep is_changes named_by tells_and_logs

pub log_grows : (s : State) (es : List (Event Command)) (i : ℕ) → IsCoherent s → MayFollow IsStep s es → LogGrows is_changes named_by s es i
log_grows = events.log_grows IsStep is_changes named_by tells_and_logs
