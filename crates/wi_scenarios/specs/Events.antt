-- Commands one after another, each with its answer, and what holds of them: of the calls of a workbook as of the
-- commands of a script. What differs between these are the parameters: which answers a command has, which one asks for
-- the change list, and what an edit names.
use Rattle.std.specs.Prelude.{◌≡◌, ◌≢◌, ◌↔◌, ◌⊎◌, ◌==◌, ◌&&◌, ◌<◌, ◌≤◌, if◌then◌else◌, ◌∷◌, ◌++◌}
use Rattle.wi_scenarios.specs.Words.{ℕ, Bool, true, false, not, List, [], length, drop, map, Option, Some, None, Ok, Err, list_any, address_text, Area, is_within_one, Value, recs, Entry, sheet_size, value_in, with_changes, kind_text, Refusal, State, session_at, shown_to, change_list}
use Rattle.wi_values.specs.Value.{shown_text}
use Rattle.wi_scenarios.specs.declared.refusal.Refusal.TheVariants.{Memory, Full, EditLimit, Stale, Loop}
use Rattle.wi_scenarios.specs.Answer.{Answer}

-- ---- events

-- a command, and what it was answered
pub record Event (C : Type 0) : Type 0 where
  pub command : C
  pub answer : Answer

-- the state that an answer leaves; a refusal leaves the one that was there
abbrev pub left_by : State → Answer → State
left_by s (Ok done) = done.0
left_by s (Err e) = s

-- The current session is one of the sessions, and none has seen more of the log than there is.
pub record IsCoherent (s : State) : Type 0 where
  pub within : s.current < length s.sessions
  pub seen : (i : ℕ) → (session_at s i).seen ≤ length s.log

module _ {C : Type 0} where
  -- the state at the end
  abbrev pub state_after : State → List (Event C) → State
  state_after s [] = s
  state_after s (e ∷ es) = state_after (left_by s e.answer) es

  -- the i-th session is as it was, name, scenario, picture and place in the log, if it isn't the current one
  abbrev pub KeepsApart : State → Event C → ℕ → Type 0
  KeepsApart s e i = i < length s.sessions → i ≢ s.current → session_at (left_by s e.answer) i ≡ session_at s i

module _ {C : Type 0} (IsStep : State → C → Answer → Type 0) where
  -- the command has this answer, or is refused as out of memory
  abbrev pub MayHappen : State → Event C → Type 0
  MayHappen s e = IsStep s e.command e.answer ⊎ (e.answer ≡ Err Memory)

  -- The events may happen one after another from this state. Whose they are is up to them: `as` makes another session
  -- current.
  abbrev pub MayFollow : State → List (Event C) → Type 0
  MayFollow s [] = Unit {0}
  MayFollow s (e ∷ es) = MayHappen s e × MayFollow (left_by s e.answer) es

  -- a coherent state is left coherent
  abbrev pub StaysCoherent : State → List (Event C) → Type 0
  StaysCoherent s es = IsCoherent s → MayFollow s es → IsCoherent (state_after s es)

-- ---- change lists

-- a picture with change lists put in, one after another
abbrev pub with_lists : List (ℕ × Value) → List (List (ℕ × Value)) → List (ℕ × Value)
with_lists picture [] = picture
with_lists picture (l ∷ ls) = with_lists (with_changes picture l) ls

-- a change's address, and the kind and the text of its value
abbrev pub change_fields : ℕ × Value → List (List ℕ)
change_fields e = address_text e.0 ∷ kind_text e.1 ∷ shown_text e.1 ∷ []

module _ {C : Type 0} (is_changes : C → Bool) where
  -- whether this is `changes`, and accepted
  abbrev pub is_accepted_changes : Answer → C → Bool
  is_accepted_changes (Err e) c = false
  is_accepted_changes (Ok done) c = is_changes c

  -- whether the i-th session is told a change list: it is current, and its `changes` is accepted
  abbrev pub is_told : ℕ → State → Event C → Bool
  is_told i s e = is_accepted_changes e.answer e.command && (s.current == i)

  -- the change lists that the i-th session is told
  abbrev pub lists_told : ℕ → State → List (Event C) → List (List (ℕ × Value))
  lists_told i s [] = []
  lists_told i s (e ∷ es) = (if is_told i s e then change_list s ∷ [] else []) ++ lists_told i (left_by s e.answer) es

  -- the value that the i-th session was shown at a cell when it was last told a list, and v where it was told none
  abbrev pub last_shown : ℕ → ℕ → Value → State → List (Event C) → Value
  last_shown i a v s [] = v
  last_shown i a v s (e ∷ es) = last_shown i a (if is_told i s e then shown_to s (session_at s i) a else v) (left_by s e.answer) es

  -- Put into the picture that a session has at the start, the lists that it is told make the picture that it has at the
  -- end, and that has in each cell of the sheet the value that the session was shown at the last of them. A session
  -- that is made on the way begins with an empty picture.
  pub record ListsAddUp (s : State) (es : List (Event C)) (i : ℕ) : Type 0 where
    pub picture : (session_at (state_after s es) i).picture ≡ with_lists (session_at s i).picture (lists_told i s es)
    pub shown : (a : ℕ) → a < sheet_size
        → value_in (with_lists (session_at s i).picture (lists_told i s es)) a ≡ last_shown i a (value_in (session_at s i).picture a) s es

module _ {C : Type 0} (IsStep : State → C → Answer → Type 0) (changes : C) where
  -- The records that an accepted `changes` writes are read as its list's addresses, kinds and texts, and no other list
  -- has the same.
  pub record RecordsTellList (s : State) (records : List ℕ) : Type 0 where
    pub read : recs records ≡ map change_fields (change_list s)
    pub one : (t u : State) → IsStep t changes (Ok (u, records)) → change_list t ≡ change_list s

-- ---- the log

-- what a session's command adds to the log, if it is an edit, which names these rectangles, and accepted
abbrev pub logged : ℕ → Answer → Option (List Area) → List Entry
logged session (Err e) named = []
logged session (Ok done) None = []
logged session (Ok done) (Some named) = record { session = session; areas = named } ∷ []

-- the edits that the i-th session hasn't seen: those behind its place in the log; one that isn't made yet has seen none
abbrev pub unseen : State → ℕ → List Entry
unseen s i = drop (session_at s i).seen s.log

module _ {C : Type 0} (named_by : C → Option (List Area)) where
  -- what a command adds
  abbrev pub logged_by : State → Event C → List Entry
  logged_by s e = logged s.current e.answer (named_by e.command)

  -- the accepted edits
  abbrev pub edits_in : State → List (Event C) → List Entry
  edits_in s [] = []
  edits_in s (e ∷ es) = logged_by s e ++ edits_in (left_by s e.answer) es

module _ {C : Type 0} (is_changes : C → Bool) (named_by : C → Option (List Area)) where
  -- the edits accepted since the i-th session was last told a list; before the first they come after the earlier ones
  abbrev pub edits_since : ℕ → List Entry → State → List (Event C) → List Entry
  edits_since i earlier s [] = earlier
  edits_since i earlier s (e ∷ es) = edits_since i (if is_told is_changes i s e then [] else earlier ++ logged_by named_by s e) (left_by s e.answer) es

  -- The log has grown by the accepted edits, and what a session hasn't seen of it are those since it was last told a
  -- list.
  pub record LogGrows (s : State) (es : List (Event C)) (i : ℕ) : Type 0 where
    pub log : (state_after s es).log ≡ s.log ++ edits_in named_by s es
    pub behind : unseen (state_after s es) i ≡ edits_since i (unseen s i) s es

-- ---- stale cells

-- an edit of another session than the i-th names the cell
abbrev pub is_newer : List Entry → ℕ → ℕ → Bool
is_newer edits i a = list_any (λ e. not (e.session == i) && is_within_one e.areas a) edits

-- Of the cells in the rectangles, this is the first in row-major order that an edit of another session names.
pub record IsFirstNewer (edits : List Entry) (i : ℕ) (named : List Area) (a : ℕ) : Type 0 where
  pub is_named : is_within_one named a ≡ true
  pub by_others : is_newer edits i a ≡ true
  pub none_before : (b : ℕ) → is_within_one named b ≡ true → is_newer edits i b ≡ true → a ≤ b

-- whether a refusal counts before that of a stale cell; "out of memory" says nothing of one either
abbrev pub counts_before : Refusal → Bool
counts_before (Stale a) = false
counts_before Loop = false
counts_before Full = false
counts_before EditLimit = false
counts_before e = true

abbrev pub is_refused_before : Answer → Bool
is_refused_before (Ok done) = false
is_refused_before (Err e) = counts_before e

module _ {C : Type 0} (IsStep : State → C → Answer → Type 0) (is_changes : C → Bool) (named_by : C → Option (List Area)) (is_forced : C → Bool) where
  -- What a command that names these rectangles is answered after these events, if it isn't forced, and isn't refused
  -- for a cause that counts before or as out of memory: it is refused for a stale cell exactly where this is the first
  -- of the cells it names that other sessions' edits name, of those accepted since its session was last told a list.
  abbrev pub StaleIsNewer : State → List (Event C) → Event C → List Area → Type 0
  StaleIsNewer s es e named =
      let t = state_after s es in
      MayHappen IsStep t e → is_forced e.command ≡ false → is_refused_before e.answer ≡ false → (a : ℕ)
      → (e.answer ≡ Err (Stale a)) ↔ IsFirstNewer (edits_since is_changes named_by t.current (unseen s t.current) s es) t.current named a

module _ {C : Type 0} (IsStep : State → C → Answer → Type 0) (is_forced : C → Bool) where
  -- an edit that is forced is never refused so
  abbrev pub ForcedIsNotStale : State → Event C → Type 0
  ForcedIsNotStale s e = MayHappen IsStep s e → is_forced e.command ≡ true → (a : ℕ) → e.answer ≢ Err (Stale a)
