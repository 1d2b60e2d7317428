-- What is noted of edits that named narrow rectangles alone, and what the others named.
use Rattle.std.specs.Prelude.{◌≡◌, ℕ, ◌≤◌, Bool, ◌==◌, ◌&&◌, not, nat_lt, if◌then◌else◌, List, take, drop, length, Option, Some, None}
use Rattle.std.specs.List.{list_any}
use Rattle.std.specs.Map.{lookup}
use Rattle.wi_values.specs.Address.{Area, is_within, is_within_one}
use Rattle.wi_edit_log.specs.Inner.Edits.{AreCounted, AreInRuns}
use Rattle.wi_edit_log.specs.Inner.Narrow.{are_narrow}
use Rattle.wi_edit_log.specs.declared.edit.Edit.{Edit}
use Rattle.wi_edit_log.specs.declared.noted.Last.{Last}

-- the edit is of another session, and names the cell a
abbrev pub names_for : ℕ → ℕ → Edit → Bool
names_for session a e = not (e.session == session) && is_within_one e.named a

-- its rectangles are narrow
abbrev pub names_narrowly : ℕ → ℕ → Edit → Bool
names_narrowly session a e = are_narrow e.named && names_for session a e

-- one of them is wider
abbrev pub names_widely : ℕ → ℕ → Edit → Bool
names_widely session a e = not (are_narrow e.named) && names_for session a e

abbrev pub is_named_narrowly : List Edit → ℕ → ℕ → Bool
is_named_narrowly es session a = list_any (names_narrowly session a) es

abbrev pub is_named_widely : List Edit → ℕ → ℕ → Bool
is_named_widely es session a = list_any (names_widely session a) es

-- and the cell a is one of the wanted
abbrev pub is_wanted_narrowly : List Edit → ℕ → List Area → ℕ → Bool
is_wanted_narrowly es session wanted a = is_within_one wanted a && is_named_narrowly es session a

abbrev pub is_wanted_widely : List Edit → ℕ → List Area → ℕ → Bool
is_wanted_widely es session wanted a = is_within_one wanted a && is_named_widely es session a

-- what is noted of the cell a
abbrev pub last_of : List (ℕ × Last) → ℕ → Option Last
last_of notes a = lookup (λ b. a == b) notes

-- the length of the log after the last edit by another session, 0 where there is none
abbrev pub after_others : Last → ℕ → ℕ
after_others l session = if l.session == session then l.before else l.length

abbrev pub before_of : Option Last → ℕ → ℕ
before_of None session = 0
before_of (Some l) session = after_others l session

-- what is noted after one edit more
abbrev pub last_after : Option Last → ℕ → ℕ → Last
last_after old session n = record { length = n; session = session; before = before_of old session }

-- an edit by another session that isn't among the first ones, so many, is noted
abbrev pub is_noted_stale : Option Last → ℕ → ℕ → Bool
is_noted_stale old session since = nat_lt since (before_of old session)

-- that is so of the cell a
abbrev pub is_noted_stale_of : List (ℕ × Last) → ℕ → ℕ → ℕ → Bool
is_noted_stale_of notes session since a = is_noted_stale (last_of notes a) session since

-- and it is in the rectangle
abbrev pub is_noted_stale_in : Area → List (ℕ × Last) → ℕ → ℕ → ℕ → Bool
is_noted_stale_in r notes session since a = is_within r a && is_noted_stale_of notes session since a

-- and it is one of the wanted
abbrev pub is_wanted_noted_stale : List Area → List (ℕ × Last) → ℕ → ℕ → ℕ → Bool
is_wanted_noted_stale wanted notes session since a = is_within_one wanted a && is_noted_stale_of notes session since a

-- one edit more is noted of the cells that pass the test
abbrev pub NotesMore : (ℕ → Bool) → ℕ → ℕ → List (ℕ × Last) → List (ℕ × Last) → Type 0
NotesMore test session n old new = (a : ℕ) → last_of new a ≡ (if test a then Some (last_after (last_of old a) session n) else last_of old a)

-- the edit e is noted, after which the log is n long: of each cell that it names if all its rectangles are narrow, else
-- of none
abbrev pub NotesEdit : Edit → ℕ → List (ℕ × Last) → List (ℕ × Last) → Type 0
NotesEdit e n old new = NotesMore (λ a. are_narrow e.named && is_within_one e.named a) e.session n old new

-- The notes tell of the first edits, as many as are counted, which cells those of narrow rectangles by others than a
-- session named. The counts are those of these edits.
pub record AreNoted (es : List Edit) (counts : List ℕ) (notes : List (ℕ × Last)) : Type 0 where
  pub within : length counts ≤ length es
  pub by_notes : (a session since : ℕ) → is_named_narrowly (drop since (take (length counts) es)) session a ≡ is_noted_stale (last_of notes a) session since
  pub counted : AreCounted (take (length counts) es) counts

-- what holds of a log between calls
pub record IsKept (es : List Edit) (counts : List ℕ) (notes : List (ℕ × Last)) : Type 0 where
  pub runs : AreInRuns es
  pub noted : AreNoted es counts notes
