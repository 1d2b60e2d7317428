-- Parts in order of their keys.
use Rattle.std.specs.Prelude.{ℕ, zero, suc, ◌<◌, ◌≤◌, ◌/◌, ◌%◌, ◌==◌, if◌then◌else◌, List, [], ◌∷◌, length, Option, Some, None}
use Rattle.wi_tiles.specs.Inner.Parts.{at_part, HasSome}

-- the part with a key
abbrev pub find : {S : Type 0} → ℕ → List (ℕ × S) → Option S
find g [] = None
find g (t ∷ ts) = (if t.0 == g then Some t.1 else find g ts)

-- the key at an index
abbrev pub key : {S : Type 0} → List (ℕ × S) → ℕ → ℕ
key [] i = 0
key (t ∷ ts) zero = t.0
key (t ∷ ts) (suc i) = key ts i

-- the keys rise
abbrev pub Rises : {S : Type 0} → List (ℕ × S) → Type 0
Rises ts = (i j : ℕ) → i < j → j < length ts → key ts i < key ts j

-- a key that no part has comes at a place
pub record IsGap {S : Type 0} (ts : List (ℕ × S)) (place g : ℕ) : Type 0 where
  pub bound : place ≤ length ts
  pub below : (i : ℕ) → i < place → key ts i < g
  pub above : (i : ℕ) → place ≤ i → i < length ts → g < key ts i

-- how many keys there may be
abbrev pub groups : ℕ
groups = 4096

-- what the parts have at a path, whose first digit is the key
abbrev pub at_sorted : {S V : Type 0} → (S → ℕ → Option V) → List (ℕ × S) → ℕ → Option V
at_sorted at ts p = at_part at (find (p % groups) ts) (p / groups)

-- a part that has something, under a key
abbrev pub IsFilled : {S V : Type 0} → (S → ℕ → Option V) → ℕ × S → Type 0
IsFilled at t = (t.0 < groups) × HasSome at (Some t.1)
