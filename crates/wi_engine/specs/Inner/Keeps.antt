-- What is so where a value is remembered.
use Rattle.std.specs.Prelude.{◌≡◌, ◌≤◌, ◌+◌, ◌⊎◌, ◌||◌, ℕ, false, List, Some, IfSome}
use Rattle.wi_values.specs.declared.value.Value.{Value}
use Rattle.wi_values.specs.declared.replacement.Replacement.{Replacement}
use Rattle.wi_cache.specs.declared.key.Key.{Key}
use Rattle.wi_sheet.specs.Demand.{same_case}
use Rattle.wi_engine.specs.Inner.MemoState.{MemoState, IsComplete}
use Rattle.wi_engine.specs.Inner.Saving.{TakesPlaces, GivesUpWhenFull}
use Rattle.wi_engine.specs.Inner.Spends.{IsSameBeside}

-- A value is remembered for a key, or memory ran out: what is remembered then was before, or is that value; it takes
-- one place at most, and nothing is evicted while there is room.
pub record Keeps (old new : MemoState) (k : Key) (v : Value) : Type 0 where
  pub sheet : new.sheet ≡ old.sheet
  pub same : IsSameBeside old new
  pub known : (c : ℕ) (w : List Replacement) → IfSome (new.known c w) (λ x. (old.known c w ≡ Some x) ⊎ ((c ≡ k.cell) × (w ≡ k.world) × (x ≡ v)))
  pub complete : IsComplete new
  pub places : TakesPlaces old new 0 1
  pub gives_up : GivesUpWhenFull old new

-- It is remembered: it is found. Where a place was free, it is kept for longer too, all that was kept still is, and it
-- takes one place unless it was kept already.
pub record HasFound (old new : MemoState) (k : Key) : Type 0 where
  pub found : (c : ℕ) (w : List Replacement) → new.found c w ≡ (old.found c w || same_case (k.cell, k.world) (c, w))
  pub kept : 1 ≤ old.space → (c : ℕ) (w : List Replacement) → new.kept c w ≡ (old.kept c w || same_case (k.cell, k.world) (c, w))
  pub space : old.kept k.cell k.world ≡ false → 1 ≤ old.space → new.space + 1 ≡ old.space
