-- What places have after a change, beside what they had before.
use Rattle.std.specs.Prelude.{◌≡◌, ℕ, ◌==◌, if◌then◌else◌, Option}

-- each place has what it had
abbrev pub IsKept : {W V : Type 0} → (W → ℕ → Option V) → W → W → Type 0
IsKept at old new = (p : ℕ) → at new p ≡ at old p

-- one place has this, and each other what it had
abbrev pub IsChanged : {W V : Type 0} → (W → ℕ → Option V) → W → W → ℕ → Option V → Type 0
IsChanged at old new place has = (p : ℕ) → at new p ≡ (if p == place then has else at old p)
