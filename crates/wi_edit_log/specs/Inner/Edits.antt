-- What the code keeps of an edit.
use Rattle.std.specs.Prelude.{◌≡◌, ℕ, ◌+◌, ◌≤◌, ◌<◌, Bool, true, false, ◌==◌, ◌&&◌, not, List, length, map, slice_index_or}
use Rattle.std.specs.List.{list_any}
use Rattle.wi_values.specs.Address.{Area, is_within_one}
use Rattle.wi_edit_log.specs.EditLog.{Entry}
use Rattle.wi_edit_log.specs.Inner.Narrow.{are_narrow}
use Rattle.wi_edit_log.specs.declared.edit.Edit.{Edit}

-- the entry that is kept so
abbrev pub entry_in : Edit → Entry
entry_in e = record { session = e.session; areas = e.named }

abbrev pub entries_in : List Edit → List Entry
entries_in es = map entry_in es

-- an edit of another session names the cell a
abbrev pub is_named_by_others : List Edit → ℕ → ℕ → Bool
is_named_by_others es session a = list_any (λ e. not (e.session == session) && is_within_one e.areas a) (entries_in es)

-- and the cell a is one of the wanted
abbrev pub is_wanted_of_others : List Edit → ℕ → List Area → ℕ → Bool
is_wanted_of_others es session wanted a = is_within_one wanted a && is_named_by_others es session a

-- The last edits up to the place i, as many as its run tells, e there among them, are of the session of e.
pub record IsInRun (es : List Edit) (i : ℕ) (e : Edit) : Type 0 where
  pub itself : 0 < e.run
  pub within : e.run ≤ i + 1
  pub one_session : (k : ℕ) (d : Edit) → i + 1 ≤ k + e.run → k < i → (slice_index_or es k d).session ≡ e.session

-- each edit is in its run
abbrev pub AreInRuns : List Edit → Type 0
AreInRuns es = (i : ℕ) (d : Edit) → i < length es → IsInRun es i (slice_index_or es i d)

-- The last n edits up to the place i, the one there among them, named narrow rectangles alone. If n is 0, the one there
-- named a wider one.
pub record IsCount (es : List Edit) (i n : ℕ) : Type 0 where
  pub narrow : (k : ℕ) (d : Edit) → i + 1 ≤ k + n → k < i + 1 → are_narrow (slice_index_or es k d).named ≡ true
  pub wide : (d : Edit) → n ≡ 0 → are_narrow (slice_index_or es i d).named ≡ false

-- each edit has such a count, and there are no more counts
pub record AreCounted (es : List Edit) (counts : List ℕ) : Type 0 where
  pub each : (i c : ℕ) → i < length es → IsCount es i (slice_index_or counts i c)
  pub whole : length counts ≡ length es
