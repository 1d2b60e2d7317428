-- What an edit is answered where no cause of its own command holds, what it finds on its way, what a change list that
-- is told changes, and copies of a content.
use Rattle.std.specs.Prelude.{◌-ℤ◌, if◌then◌else◌, ◌∷◌, ◌++◌, ◌≡◌, ◌<◌, ◌⊎◌, ◌&&◌}
use Rattle.wi_scenarios.specs.Words.{ℕ, pos, row_of, column_of, Bool, List, [], Option, Some, None, Result, Ok, Err, true, not, length, Area, is_one_of, Content, first_stale, Entry, StoreFault, Stored, applied, keys_of, Sheet, slice_set, Value, told, Refusal, State, current_session, false, map, is_some, list_any, ShiftFault}
use Rattle.wi_sessions.specs.Roster.{Roster, session_at, pending_of, vacant_of}
use Rattle.wi_scenarios.specs.declared.refusal.Refusal.TheVariants.{Stale, Memory}
use Rattle.wi_scenarios.specs.Answer.{Answer, edit_refusal}
use Rattle.wi_scenarios.specs.Commands.Edits.{copied}
use Rattle.wi_parser.specs.declared.shift.ShiftFault.TheVariants as shift
use Rattle.wi_scenarios.specs.declared.desk.Desk.{Desk}

-- an edit: the rectangles that it names, and what each of some cells gets: a content, or none
pub record Edit : Type 0 where
  pub named : List Area
  pub contents : List (ℕ × Option Content)

-- the first limit that an edit would pass, if it passes one
abbrev pub limit_of : Result Stored StoreFault → Option Refusal
limit_of (Ok stored) = None
limit_of (Err e) = Some (edit_refusal e)

-- the first cell named that is stale for the current session; an edit that is forced has none
abbrev pub stale_in : State → Bool → List Area → Option ℕ
stale_in s force named = if force then None else first_stale s.log s.current (current_session s).seen named

-- a stale cell counts before the sheet's limits
abbrev pub answer_by : State → Option ℕ → List Area → Result Stored StoreFault → Answer
answer_by s (Some at) named r = Err (Stale at)
answer_by s None named (Ok stored) =
    Ok (record s { stored = stored; log = s.log ++ record { session = s.current; areas = named } ∷ [] }, [])
answer_by s None named (Err e) = Err (edit_refusal e)

abbrev pub edit_answer : State → Bool → Edit → Answer
edit_answer s force e = answer_by s (stale_in s force e.named) e.named (applied s.stored e.contents)

-- the first cell named that is stale for the current session; an edit that is forced has none
abbrev pub stale_on : Desk → Bool → List Area → Option ℕ
stale_on d force named = if force then None else first_stale d.log d.current (session_at d.sessions d.current).seen named

-- Cells that are marked for the edited ones, of which there is one at least then, and among them all those that don't
-- pass the test.
pub record AreMarked (marked : Sheet → List ℕ → ℕ → Bool) (sheet : Sheet) (test : ℕ → Bool) (contents : List (ℕ × Option Content)) (found : List ℕ) : Type 0 where
  pub only : (a : ℕ) → is_one_of found a ≡ true → (0 < length contents) × (marked sheet (keys_of contents) a ≡ true)
  pub others : 0 < length contents → (a : ℕ) → marked sheet (keys_of contents) a ≡ true → (is_one_of found a ≡ true) ⊎ (test a ≡ true)

-- in the list of each session there is room for those of the cells that aren't pending for it, and for no other
abbrev pub HasRooms : List ℕ → Roster → Type 0
HasRooms cells r =
    (i a : ℕ) → i < length r.sessions → is_one_of (vacant_of r i) a ≡ (is_one_of cells a && not (is_one_of (pending_of r i) a))

-- all but the log and the rooms is as it was
pub record SameBeside (old new : Desk) : Type 0 where
  pub scenarios : new.scenarios ≡ old.scenarios
  pub current : new.current ≡ old.current
  pub sessions : new.sessions.sessions ≡ old.sessions.sessions
  pub pending : new.sessions.pending ≡ old.sessions.pending

-- an edit that comes to this may be refused so: for the limit that it would pass, or as out of memory
abbrev pub MayFail : Refusal → Result Stored StoreFault → Type 0
MayFail Memory answer = Unit {0}
MayFail e answer = limit_of answer ≡ Some e

-- the edit that comes to this was made and stands in the log, or the sheet and the log are as they were
abbrev pub Commits : Result Stored StoreFault → Entry → Result (Unit {0}) Refusal → Stored → Stored → List Entry → List Entry → Type 0
Commits answer entry (Ok _) old new before after = (answer ≡ Ok new) × (after ≡ before ++ entry ∷ [])
Commits answer entry (Err e) old new before after = MayFail e answer × (new ≡ old) × (after ≡ before)

-- The current session was told these changes when the log had its length, and no cell is pending for it; all else is as
-- it was.
pub record IsTold (old : Desk) (changes : List (ℕ × Value)) (new : Desk) : Type 0 where
  pub sessions : new.sessions.sessions
      ≡ slice_set old.sessions.sessions old.current (told (session_at old.sessions old.current) changes (length old.log))
  pub pending : new.sessions.pending ≡ slice_set old.sessions.pending old.current []
  pub vacant : new.sessions.vacant ≡ slice_set old.sessions.vacant old.current []
  pub scenarios : new.scenarios ≡ old.scenarios
  pub current : new.current ≡ old.current
  pub log : new.log ≡ old.log

-- ---- copies of a content, made one after another

abbrev pub copy_to : Option Content → ℕ → ℕ → Option (Option Content)
copy_to content from to = copied (pos (row_of to) -ℤ pos (row_of from)) (pos (column_of to) -ℤ pos (column_of from)) content

abbrev pub has_no_copy : Option Content → ℕ → ℕ → Bool
has_no_copy content from to = not (is_some (copy_to content from to))

abbrev pub or_nothing : Option (Option Content) → Option Content
or_nothing None = None
or_nothing (Some o) = o

-- what is found is answered, and LeavesSheet where nothing is; or Memory, which says nothing of it
abbrev pub CopiesAs : Option (Option Content) → Result (Option Content) ShiftFault → Type 0
CopiesAs found (Ok copy) = found ≡ Some copy
CopiesAs found (Err shift.LeavesSheet) = found ≡ None
CopiesAs found (Err shift.Memory) = Unit {0}

-- each of some cells has a copy, and gets it
pub record AreCopies (content : Option Content) (from : ℕ) (cells : List ℕ) (changes : List (ℕ × Option Content)) : Type 0 where
  pub all : list_any (has_no_copy content from) cells ≡ false
  pub each : changes ≡ map (λ to. (to, or_nothing (copy_to content from to))) cells

-- a cell has no copy; or Memory, which says nothing of it
abbrev pub HasNoCopies : Option Content → ℕ → List ℕ → ShiftFault → Type 0
HasNoCopies content from cells shift.LeavesSheet = list_any (has_no_copy content from) cells ≡ true
HasNoCopies content from cells shift.Memory = Unit {0}
