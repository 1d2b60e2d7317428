-- The first cell that passes a test.
use Rattle.std.specs.Prelude.{◌≡◌, ℕ, Bool, true, ◌==◌, ◌&&◌, not, List, drop, Option, IfSome}
use Rattle.std.specs.List.{list_any}
use Rattle.wi_values.specs.Address.{Area, is_within, is_within_one}
use Rattle.wi_values.specs.Inner.Cells.{IsAtOrBefore}
use Rattle.wi_edit_log.specs.EditLog.{Entry}

-- an edit of another session after the first `since` names the cell
abbrev pub is_stale : List Entry → ℕ → ℕ → ℕ → Bool
is_stale log session since a = list_any (λ e. not (e.session == session) && is_within_one e.areas a) (drop since log)

-- the cell passes the test, and none before it does; where there is none, none does
pub record IsFirst (test : ℕ → Bool) (cell : Option ℕ) : Type 0 where
  pub passes : IfSome cell (λ a. test a ≡ true)
  pub least : (a : ℕ) → test a ≡ true → IsAtOrBefore cell a

-- the cell a is in both rectangles
abbrev pub in_both : Area → Area → ℕ → Bool
in_both r s a = is_within r a && is_within s a

-- the cell a is in the rectangle and in one of the others
abbrev pub in_one : Area → List Area → ℕ → Bool
in_one r areas a = is_within r a && is_within_one areas a

-- the cell a is in one rectangle of each list
abbrev pub in_each : List Area → List Area → ℕ → Bool
in_each areas others a = is_within_one areas a && is_within_one others a
