-- The steps of the commands of scenarios, by what their bodies find, and what they leave.
use Rattle.wi_scenarios.proofs.Words.{◌≡◌, ◌≢◌, ◌∙◌, ◌<◌, ◌≤◌, ℕ, Bool, true, false, not, ◌||◌, List, [], ◌∷◌, ◌++◌, length, Option, Some, None, Ok, Err, if◌then◌else◌, refl, sym, ap, le-leb, list_any, or-false, both_ways, bytes_eq, Value, IsImported, imported_exactly, has_scenario, scenario_for, with_scenario, without_scenario, with_own, without_own, is_full, is_name_of, is_base, lacks, based_on, would_loop, Session, new_session, max_sessions, has_session, index_of, using_scenario, State, current_session, with_current, Answer, Kept, Scenario, Drop, Base, Use, As, form, Cell, is_missing, is_outside, address, cell, Cause, NoScenario, InUse, TooMany, TooLong, Loop, Does, state_with, IsStep, IsPlaced, ◌↔◌, Result, subst, IsErrOf, IsErrAnd, FieldFault, imported, Refusal, Memory, Serves, field_refusal, on_err, Sheet, Stored, Desk, book_of, state_of, IsSound, ServesSound, MakesSound, AllocError, Command, zero, suc, slice_index_or, list_any_at, Replacement, shown, scenario_of, layered, max_scenarios, effective, chain, chain_within, scenario_without, not_based, same_Some, Book, IsDrop, not-false, or_parts, false_from_ne_true}
use Rattle.wi_scenarios.specs.declared.refusal.Refusal.TheVariants as refusal
use Rattle.wi_values.specs.declared.import.FieldFault.TheVariants as field
use Rattle.wi_scenarios.proofs.SessionLemmas.{no_place}
use Rattle.wi_scenarios.proofs.OperandLemmas.{not_above}
use Rattle.wi_scenarios.proofs.CauseTests.{is_in_use, first_found, refused_for, accepted}
use Rattle.wi_scenarios.proofs.CallLemmas.{lacked, unchanged, ends_so}

-- ---- drop

module _ (s : State) (name : List ℕ) where
  pub drop_unknown : has_scenario s.scenarios name ≡ false → IsStep s (Drop name) (Err refusal.NoScenario)
  drop_unknown e = refused_for s (Drop name) tt NoScenario refl (rw e refl)

  pub drop_used : has_scenario s.scenarios name ≡ true → is_in_use s name ≡ true → IsStep s (Drop name) (Err refusal.InUse)
  drop_used e f = refused_for s (Drop name) tt InUse refl (rw (e, f) refl)

  pub drop_done : (next : List Kept) → next ≡ without_scenario s.scenarios name → has_scenario s.scenarios name ≡ true → list_any (λ x. is_name_of name x.scenario) s.sessions ≡ false
      → is_base s.scenarios name ≡ false → IsStep s (Drop name) (Ok (record s { scenarios = next }, []))
  drop_done next e there unused free =
      accepted s (Drop name) tt (rw (there, unused, free) refl) (record s { scenarios = next }, [])
      (ap (λ (xs : List Kept). let d : State × List ℕ = (record s { scenarios = xs }, []) in d) e)

-- a call that changed nothing
pub not_dropped : {name : List ℕ} {b : Book} (e : Refusal) → Serves (IsStep b.state (Drop name)) (Err e) b.state b.state [] → (◌≡◌ {A = Result (Unit {0}) Refusal} (Err e) (Err Memory) → ⊥) → IsDrop name (Err e) b b
not_dropped e step other = record { step = step; pending = refl; counts = (refl, refl); no_memory = other }

-- ---- use

abbrev pub used : State → Option (List ℕ) → State
used s name = with_current s (using_scenario (current_session s) name)

module _ (s : State) where
  pub use_unknown : (name : Option (List ℕ)) → lacks s.scenarios name ≡ true → IsStep s (Use name) (Err refusal.NoScenario)
  use_unknown None e = absurd (both_ways false refl e)
  use_unknown (Some name) e = refused_for s (Use (Some name)) tt NoScenario refl (rw e refl)

  pub use_done : (name : Option (List ℕ)) → lacks s.scenarios name ≡ false → IsStep s (Use name) (Ok (used s name, []))
  use_done None e = accepted s (Use None) tt refl (used s None, []) refl
  use_done (Some name) e = accepted s (Use (Some name)) tt (rw e refl) (used s (Some name), []) refl

-- ---- base

abbrev pub rebased : State → List ℕ → Option (List ℕ) → State
rebased s name other = record s { scenarios = with_scenario s.scenarios (based_on (scenario_for s.scenarios name) other) }

-- one of both isn't there
abbrev pub lacks_one : State → List ℕ → Option (List ℕ) → Bool
lacks_one s name other = not (has_scenario s.scenarios name) || lacks s.scenarios other

-- the first cause, where one of both isn't there, and there would be a loop
abbrev base_cause : Bool → Bool → Option Cause
base_cause missing loop = if missing then Some NoScenario else (if loop then Some Loop else None)

module _ (s : State) (name : List ℕ) where
  pub missing_base : (other : Option (List ℕ)) → list_any (is_missing s) (form (Base name other)) ≡ lacks_one s name other
  missing_base None = refl
  missing_base (Some other) = ap (λ (b : Bool). not (has_scenario s.scenarios name) || b) (or-false (not (has_scenario s.scenarios other)))

  base_first : (other : Option (List ℕ)) → first_found s (Base name other) ≡ base_cause (lacks_one s name other) (would_loop s.scenarios name other)
  base_first None = refl
  base_first (Some other) =
      ap (λ (b : Bool). base_cause b (would_loop s.scenarios name (Some other))) (missing_base (Some other))

  module _ (other : Option (List ℕ)) where
    pub base_unknown : lacks_one s name other ≡ true → IsStep s (Base name other) (Err refusal.NoScenario)
    base_unknown e = refused_for s (Base name other) tt NoScenario refl (base_first other ∙ rw e refl)

    pub base_loop : lacks_one s name other ≡ false → would_loop s.scenarios name other ≡ true → IsStep s (Base name other) (Err refusal.Loop)
    base_loop e f = refused_for s (Base name other) tt Loop refl (base_first other ∙ rw (e, f) refl)

    pub base_done : lacks_one s name other ≡ false → would_loop s.scenarios name other ≡ false → IsStep s (Base name other) (Ok (rebased s name other, []))
    base_done e f = accepted s (Base name other) tt (base_first other ∙ rw (e, f) refl) (rebased s name other, []) refl

-- ---- as

module _ (s : State) (name : List ℕ) where
  -- with so many sessions, and none of the name
  pub as_full : has_session s.sessions name ≡ false → max_sessions ≤ length s.sessions → IsStep s (As name) (Err refusal.TooMany)
  as_full h l = let m = le-leb max_sessions (length s.sessions) l in refused_for s (As name) tt TooMany refl (rw (h, m) refl)

  abbrev as_left : List Session → ℕ → State × List ℕ
  as_left sessions current = (record s { sessions = sessions; current = current }, [])

  abbrev with_one : Bool → List Session
  with_one there = if there then s.sessions else s.sessions ++ new_session name ∷ []

  -- with the session, which is found there
  pub as_there : (place : ℕ) → has_session s.sessions name ≡ true → place ≡ index_of s.sessions name → IsStep s (As name) (Ok (record s { current = place }, []))
  as_there place h e =
      accepted s (As name) tt (rw h refl) (as_left s.sessions place)
      (sym (ap (λ (b : Bool). as_left (with_one b) (index_of s.sessions name)) h ∙ ap (as_left s.sessions) (sym e)))

  -- with a new one behind the others
  abbrev pub grown : State
  grown = record s { sessions = s.sessions ++ new_session name ∷ []; current = length s.sessions }

  pub as_new : (t : State) → has_session s.sessions name ≡ false → length s.sessions < max_sessions → t ≡ grown → IsStep s (As name) (Ok (t, []))
  as_new t h l e =
      let few = not_above max_sessions (length s.sessions) l in
      accepted s (As name) tt (rw (h, few) refl) (t, [])
      (ap (λ (u : State). let d : State × List ℕ = (u, []) in d) e
      ∙ sym (ap (λ (b : Bool). as_left (with_one b) (index_of s.sessions name)) h ∙ ap (as_left (with_one false)) (no_place (λ x. bytes_eq name x.name) s.sessions h)))

-- ---- scenario

-- what is left, where a replacement is taken away, and where one is put in
abbrev pub taken_from : State → List ℕ → ℕ → State × List ℕ
taken_from s name a = (state_with s (without_own (scenario_for s.scenarios name) a), [])

abbrev pub put_state : State → List ℕ → ℕ → Value → State × List ℕ
put_state s name a v = (state_with s (with_own (scenario_for s.scenarios name) (record { at = a; value = v } ∷ [])), [])

-- the answer, where the text stands for this value, or is too long
abbrev pub put_answer : State → List ℕ → ℕ → Bool → Option Value → Answer
put_answer s name a true value = Err refusal.TooMany
put_answer s name a false None = Err refusal.TooLong
put_answer s name a false (Some v) = Ok (put_state s name a v)

module _ (s : State) (name : List ℕ) (a : ℕ) (placed : IsPlaced a) where
  inside : is_outside (cell a) ≡ false
  inside = placed.inside

  pub away_unknown : has_scenario s.scenarios name ≡ false → IsStep s (Scenario name (cell a) []) (Err refusal.NoScenario)
  away_unknown e = refused_for s (Scenario name (cell a) []) tt NoScenario refl (rw (inside, e) refl)

  pub away_done : has_scenario s.scenarios name ≡ true → IsStep s (Scenario name (cell a) []) (Ok (taken_from s name a))
  away_done e = accepted s (Scenario name (cell a) []) tt (rw (inside, e) refl) (taken_from s name a) (ap (taken_from s name) (sym placed.again))

  pub put_of : (text : List ℕ) → text ≢ [] → (value : Option Value) → IsImported text value → (full : Bool) → is_full s.scenarios name a ≡ full → IsStep s (Scenario name (cell a) text) (put_answer s name a full value)
  put_of [] some value is full e = absurd (some refl)
  put_of (b ∷ bs) some value is true e = refused_for s (Scenario name (cell a) (b ∷ bs)) tt TooMany refl (rw (inside, placed.again, e) refl)
  put_of (b ∷ bs) some None is false e =
      let long = (imported_exactly (b ∷ bs) None).0 is in
      refused_for s (Scenario name (cell a) (b ∷ bs)) tt TooLong refl (rw (inside, placed.again, e, long) refl)
  put_of (b ∷ bs) some (Some v) is false e =
      let same = (imported_exactly (b ∷ bs) (Some v)).0 is in
      accepted s (Scenario name (cell a) (b ∷ bs)) tt (rw (inside, placed.again, e, same) refl) (put_state s name a v)
      (v, is, ap (λ (x : ℕ). put_state s name x v) (sym placed.again))

pub one_put : (s : State) (name : List ℕ) (at : Cell) (b : ℕ) (bs : List ℕ) (x y : State × List ℕ) → Does s (Scenario name at (b ∷ bs)) x → Does s (Scenario name at (b ∷ bs)) y → x ≡ y
one_put s name at b bs x y h k =
    h.2 ∙ ap (λ (v : Value). put_state s name (address at) v) (same_Some h.0 k.0 (sym ((imported_exactly (b ∷ bs) (Some h.0)).0 h.1) ∙ (imported_exactly (b ∷ bs) (Some k.0)).0 k.1)) ∙ sym k.2

-- ---- what a command leaves

module _ {marked : Sheet → List ℕ → ℕ → Bool} {c : Command} {stored : Stored} where
  -- a call that changed nothing
  pub nothing_done : {d : Desk} (r : Result (Unit {0}) Refusal) → IsSound marked stored d → Serves (IsStep (state_of stored d) c) r (state_of stored d) (state_of stored d) [] → ServesSound marked c r stored d d
  nothing_done {d} r h e = record { edit = λ evaluated restarted. unchanged r (book_of stored evaluated restarted d) e; sound = h }

  -- a call that ran out of memory before it changed anything, and one that did so in the call that makes the change
  pub lacked_first : {d : Desk} (done : State × List ℕ) (r : Result (Unit {0}) Refusal) → IsSound marked stored d → IsStep (state_of stored d) c (Ok done) → IsErrAnd r (λ e. e ≡ Memory)
      → ServesSound marked c r stored d d
  lacked_first {d} done r h e k = nothing_done r h (lacked (IsStep (state_of stored d) c) (Ok done) r (state_of stored d) (state_of stored d) e refl k refl)

  pub lacked_last : {x : AllocError} {made : State} {old new : Desk} (done : State × List ℕ) (r : Result (Unit {0}) Refusal) → IsStep (state_of stored old) c (Ok done) → IsErrAnd r (λ e. e ≡ Memory)
      → MakesSound marked (Err x) stored made old new → ServesSound marked c r stored old new
  lacked_last {old = old} {new = new} done r e k w = record {
    edit = λ evaluated restarted. record {
      step = lacked (IsStep (state_of stored old) c) (Ok done) r (state_of stored old) (state_of stored new) e refl k w.kept;
      adds = w.adds;
      refused = on_err r w.refused;
      counts = (refl, refl);
    };
    sound = w.sound;
  }

  -- a call that made the change
  pub done_with : {u : Unit {0}} {made : State} {old new : Desk} (next : State) → IsStep (state_of stored old) c (Ok (next, [])) → made ≡ next → MakesSound marked (Ok u) stored made old new
      → ServesSound marked c (Ok tt) stored old new
  done_with {old = old} next e same w = record {
    edit = λ evaluated restarted. record {
      step = subst (λ (t : State). IsStep (state_of stored old) c (Ok (t, []))) (sym (w.state ∙ same)) e;
      adds = w.adds;
      refused = tt;
      counts = (refl, refl);
    };
    sound = w.sound;
  }

-- ---- a text that isn't read

pub unread : (s : State) (name : List ℕ) (at : ℕ) (text : List ℕ) → IsPlaced at → text ≢ [] → (got : Result Value FieldFault) (fault : FieldFault) (r : Result (Unit {0}) Refusal)
    → is_full s.scenarios name at ≡ false → got ≡ Err fault → (IsErrOf got field.TooLong ↔ (imported text ≡ None)) → IsErrAnd r (λ e. e ≡ field_refusal fault)
    → Serves (IsStep s (Scenario name (cell at) text)) r s s []
unread s name at text placed some got fault r e was long k =
    ends_so (λ (x : Result (Unit {0}) Refusal). Serves (IsStep s (Scenario name (cell at) text)) x s s []) (field_refusal fault) r k (by fault was (imported text) refl)
  where
    put : (o : Option Value) → imported text ≡ o → IsStep s (Scenario name (cell at) text) (put_answer s name at false o)
    put o f = put_of s name at placed text some o ((imported_exactly text o).1 f) false e

    by : (fault : FieldFault) → got ≡ Err fault → (o : Option Value) → imported text ≡ o → Serves (IsStep s (Scenario name (cell at) text)) (Err (field_refusal fault)) s s []
    by field.TooLong h o f = (put None (long.0 h), refl, refl)
    by field.Memory h None f = let other : got ≡ Err field.TooLong = long.1 f in cc
    by field.Memory h (Some v) f = (record { answer = Ok (put_state s name at v); is_answer = put (Some v) f; grows = refl }, refl, refl)

-- ---- bases

pub is_there : (s : State) (name : List ℕ) (other : Option (List ℕ)) → (not (has_scenario s.scenarios name) || lacks s.scenarios other) ≡ false → has_scenario s.scenarios name ≡ true
is_there s name other e = not-false (has_scenario s.scenarios name) (or_parts (not (has_scenario s.scenarios name)) (lacks s.scenarios other) e).0

-- ---- what the others put in

chain_stays : (k : ℕ) (xs : List Kept) (name : List ℕ) (o : Option (List ℕ)) → is_base xs name ≡ false → is_name_of name o ≡ false
    → chain_within k (without_scenario xs name) (scenario_of (without_scenario xs name) o) ≡ chain_within k xs (scenario_of xs o)
chain_stays zero xs name o h n = refl
chain_stays (suc k) xs name o h n = ap (chain_within (suc k) (without_scenario xs name)) (scenario_without xs name o n) ∙ by (scenario_of xs o) refl (λ x e. chain_stays k xs name x.base h (not_based xs name o x h e))
  where
    by : (found : Option Kept) → scenario_of xs o ≡ found
        → ((x : Kept) → scenario_of xs o ≡ Some x → chain_within k (without_scenario xs name) (scenario_of (without_scenario xs name) x.base) ≡ chain_within k xs (scenario_of xs x.base))
        → chain_within (suc k) (without_scenario xs name) found ≡ chain_within (suc k) xs found
    by None e rest = refl
    by (Some x) e rest = ap (λ ys. x ∷ ys) (rest x e)

effective_stays : (xs : List Kept) (name : List ℕ) (o : Option (List ℕ)) → is_base xs name ≡ false → is_name_of name o ≡ false → effective (without_scenario xs name) o ≡ effective xs o
unfolding chain
effective_stays xs name o h n = ap layered (chain_stays max_scenarios xs name o h n)

-- no session uses it
unused_at : (xs : List Session) (name : List ℕ) (i : ℕ) → list_any (λ x. is_name_of name x.scenario) xs ≡ false → i < length xs → is_name_of name (slice_index_or xs i (new_session [])).scenario ≡ false
unused_at xs name i h l =
    false_from_ne_true (is_name_of name (slice_index_or xs i (new_session [])).scenario)
    (λ e. both_ways _ h (list_any_at (λ x. is_name_of name x.scenario) xs i (new_session []) l e))

pub sound_without : {marked : Sheet → List ℕ → ℕ → Bool} (stored : Stored) (d : Desk) (next : List Kept) (name : List ℕ) → next ≡ without_scenario d.scenarios name → list_any (λ x. is_name_of name x.scenario) d.sessions.sessions ≡ false
    → is_base d.scenarios name ≡ false → IsSound marked stored d → IsSound marked stored (record d { scenarios = next })
sound_without stored d next name e unused free h = record {
  within = h.within;
  few = h.few;
  each = h.each;
  full = h.full;
  closed = h.closed;
  covered = λ i l a m k.
      h.covered i l a m k
      ∙ ap (λ (p : List Replacement). shown stored.sheet p a) (sym (effective_stays d.scenarios name (slice_index_or d.sessions.sessions i (new_session [])).scenario free (unused_at d.sessions.sessions name i unused l)))
      ∙ ap (λ xs. shown stored.sheet (effective xs (slice_index_or d.sessions.sessions i (new_session [])).scenario) a) (sym e);
}
