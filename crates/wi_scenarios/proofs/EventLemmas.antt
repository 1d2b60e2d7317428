-- What holds of commands one after another, whatever they are, by what each does to the sessions and to the log.
use Rattle.wi_scenarios.proofs.Words.{◌≡◌, ◌∙◌, ℕ, ◌<◌, ◌≤◌, ◌==◌, Bool, true, false, ◌&&◌, cond, List, [], ◌∷◌, ◌++◌, length, drop, Option, refl, sym, ap, subst, append_assoc, arith, and_parts, eqb-true, length-append, drop-append-le, drop_all, Area, Value, Entry, value_in, with_changes, sheet_size, picture_is_shown, State, current_session, shown_to, Answer, change_list, Event, MayHappen, left_by, MayFollow, state_after, IsCoherent, StaysCoherent, is_accepted_changes, is_told, lists_told, with_lists, last_shown, ListsAddUp, logged_by, edits_in, edits_since, unseen, LogGrows, append-nil}
use Rattle.wi_scenarios.specs.Views.{session_at}

-- ---- what one command does

module _ {C : Type 0} (is_changes : C → Bool) (named_by : C → Option (List Area)) where
  -- An accepted `changes` tells the current session a list, and adds nothing to the log. What else is done leaves each session's
  -- picture and its place in the log, and an edit that is accepted is added to the log.
  pub record TellsAndLogs (s : State) (e : Event C) : Type 0 where
    pub within : (left_by s e.answer).current < length (left_by s e.answer).sessions
    pub place : (i : ℕ) → (session_at (left_by s e.answer) i).seen ≡ cond (is_told is_changes i s e) (length s.log) (session_at s i).seen
    pub picture : (i : ℕ) → (session_at (left_by s e.answer) i).picture ≡ with_lists (session_at s i).picture (cond (is_told is_changes i s e) (change_list s ∷ []) [])
    pub log : (left_by s e.answer).log ≡ s.log ++ logged_by named_by s e
    pub told_alone : is_accepted_changes is_changes e.answer e.command ≡ true → logged_by named_by s e ≡ []

at_most : (b : Bool) (n k m l : ℕ) → n ≡ cond b k m → m ≤ k → k ≤ l → n ≤ l
at_most true n k m l e h g = omega (arith, e, g)
at_most false n k m l e h g = omega (arith, e, h, g)

lists_in_turn : (picture : List (ℕ × Value)) (ls ms : List (List (ℕ × Value))) → with_lists picture (ls ++ ms) ≡ with_lists (with_lists picture ls) ms
lists_in_turn picture [] ms = refl
lists_in_turn picture (l ∷ ls) ms = lists_in_turn (with_changes picture l) ls ms

shown_then : (s : State) (i a : ℕ) (v : Value) (b : Bool) → (b ≡ true → s.current ≡ i) → a < sheet_size → value_in (session_at s i).picture a ≡ v
    → value_in (with_lists (session_at s i).picture (cond b (change_list s ∷ []) [])) a ≡ cond b (shown_to s (session_at s i) a) v
shown_then s i a v true same l h =
    subst (λ (k : ℕ). value_in (with_changes (session_at s k).picture (change_list s)) a ≡ shown_to s (session_at s k) a) (same refl)
    (picture_is_shown (current_session s).picture (shown_to s (current_session s)) a l)
shown_then s i a v false same l h = h

-- ---- what they do one after another

module _ {C : Type 0} (IsStep : State → C → Answer → Type 0) (is_changes : C → Bool) (named_by : C → Option (List Area))
    (does : (s : State) (e : Event C) → IsCoherent s → MayHappen IsStep s e → TellsAndLogs is_changes named_by s e) where
  settled_then : (s : State) (e : Event C) → IsCoherent s → MayHappen IsStep s e → IsCoherent (left_by s e.answer)
  settled_then s e settled h = record {
    within = (does s e settled h).within;
    seen = λ i.
        let grown = ap length (does s e settled h).log ∙ length-append s.log (logged_by named_by s e) in
        at_most (is_told is_changes i s e) (session_at (left_by s e.answer) i).seen (length s.log) (session_at s i).seen (length (left_by s e.answer).log)
        ((does s e settled h).place i) (settled.seen i) (omega (arith, grown));
  }

  pub stays_coherent : (s : State) (es : List (Event C)) → StaysCoherent IsStep s es
  stays_coherent s [] settled run = settled
  stays_coherent s (e ∷ es) settled run = stays_coherent (left_by s e.answer) es (settled_then s e settled run.0) run.1

  -- ---- change lists

  pictures_add_up : (s : State) (es : List (Event C)) (i : ℕ) → IsCoherent s → MayFollow IsStep s es
      → (session_at (state_after s es) i).picture ≡ with_lists (session_at s i).picture (lists_told is_changes i s es)
  pictures_add_up s [] i settled run = refl
  pictures_add_up s (e ∷ es) i settled run =
      let t = left_by s e.answer in
      let here = cond (is_told is_changes i s e) (change_list s ∷ []) [] in
      pictures_add_up t es i (settled_then s e settled run.0) run.1
      ∙ ap (λ (p : List (ℕ × Value)). with_lists p (lists_told is_changes i t es)) ((does s e settled run.0).picture i)
      ∙ sym (lists_in_turn (session_at s i).picture here (lists_told is_changes i t es))

  told_to_current : (i : ℕ) (s : State) (e : Event C) → is_told is_changes i s e ≡ true → s.current ≡ i
  told_to_current i s e h = eqb-true s.current i (and_parts (is_accepted_changes is_changes e.answer e.command) (s.current == i) h).1

  shown_at_last : (s : State) (es : List (Event C)) (i a : ℕ) (v : Value) → IsCoherent s → MayFollow IsStep s es → a < sheet_size → value_in (session_at s i).picture a ≡ v
      → value_in (session_at (state_after s es) i).picture a ≡ last_shown is_changes i a v s es
  shown_at_last s [] i a v settled run l h = h
  shown_at_last s (e ∷ es) i a v settled run l h =
      shown_at_last (left_by s e.answer) es i a (cond (is_told is_changes i s e) (shown_to s (session_at s i) a) v) (settled_then s e settled run.0) run.1 l
      (ap (λ (p : List (ℕ × Value)). value_in p a) ((does s e settled run.0).picture i)
      ∙ shown_then s i a v (is_told is_changes i s e) (told_to_current i s e) l h)

  pub lists_add_up : (s : State) (es : List (Event C)) (i : ℕ) → IsCoherent s → MayFollow IsStep s es → ListsAddUp is_changes s es i
  lists_add_up s es i settled run = record {
    picture = pictures_add_up s es i settled run;
    shown = λ a l.
        ap (λ (p : List (ℕ × Value)). value_in p a) (sym (pictures_add_up s es i settled run))
        ∙ shown_at_last s es i a (value_in (session_at s i).picture a) settled run l refl;
  }

  -- ---- the log

  logs_add_up : (s : State) (es : List (Event C)) → IsCoherent s → MayFollow IsStep s es → (state_after s es).log ≡ s.log ++ edits_in named_by s es
  logs_add_up s [] settled run = sym (append-nil s.log)
  logs_add_up s (e ∷ es) settled run =
      let t = left_by s e.answer in
      logs_add_up t es (settled_then s e settled run.0) run.1
      ∙ ap (λ (log : List Entry). log ++ edits_in named_by t es) (does s e settled run.0).log
      ∙ append_assoc s.log (logged_by named_by s e) (edits_in named_by t es)

  unseen_then : (s : State) (e : Event C) (i : ℕ) → IsCoherent s → MayHappen IsStep s e
      → unseen (left_by s e.answer) i ≡ cond (is_told is_changes i s e) [] (unseen s i ++ logged_by named_by s e)
  unseen_then s e i settled h =
      ap (λ (log : List Entry). drop (session_at (left_by s e.answer) i).seen log) (does s e settled h).log
      ∙ ap (λ (n : ℕ). drop n (s.log ++ logged_by named_by s e)) ((does s e settled h).place i)
      ∙ by (is_accepted_changes is_changes e.answer e.command) (s.current == i) refl
    where
      by : (b c : Bool) → is_accepted_changes is_changes e.answer e.command ≡ b
          → drop (cond (b && c) (length s.log) (session_at s i).seen) (s.log ++ logged_by named_by s e) ≡ cond (b && c) [] (unseen s i ++ logged_by named_by s e)
      by true true t =
          ap (λ (es : List Entry). drop (length s.log) (s.log ++ es)) ((does s e settled h).told_alone t)
          ∙ ap (λ (es : List Entry). drop (length s.log) es) (append-nil s.log)
          ∙ drop_all (length s.log) s.log (let l : length s.log ≤ length s.log = omega arith in l)
      by true false t = drop-append-le (session_at s i).seen s.log (logged_by named_by s e) (settled.seen i)
      by false c t = drop-append-le (session_at s i).seen s.log (logged_by named_by s e) (settled.seen i)

  unseen_is_since : (s : State) (es : List (Event C)) (i : ℕ) → IsCoherent s → MayFollow IsStep s es
      → unseen (state_after s es) i ≡ edits_since is_changes named_by i (unseen s i) s es
  unseen_is_since s [] i settled run = refl
  unseen_is_since s (e ∷ es) i settled run =
      let t = left_by s e.answer in
      unseen_is_since t es i (settled_then s e settled run.0) run.1
      ∙ ap (λ (earlier : List Entry). edits_since is_changes named_by i earlier t es) (unseen_then s e i settled run.0)

  pub log_grows : (s : State) (es : List (Event C)) (i : ℕ) → IsCoherent s → MayFollow IsStep s es → LogGrows is_changes named_by s es i
  log_grows s es i settled run = record { log = logs_add_up s es settled run; behind = unseen_is_since s es i settled run }
