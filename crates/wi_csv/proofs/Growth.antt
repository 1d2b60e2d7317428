-- Bytes that grow at their end.
use Rattle.std.proofs.Common.{ℕ, List, Bool, true, false, cond, ◌≡◌, ◌++◌, length, ◌∙◌, refl, sym, subst}
use Rattle.std.specs.Io.{StartsWith}
use Rattle.std.proofs.Transfers.{starts_with_length, starts_with_of_eq}
use Rattle.std.proofs.lemmas.List.{take-append-le}

pub starts_itself : (xs : List ℕ) → StartsWith xs xs
starts_itself xs = starts_with_of_eq xs xs refl

-- bytes that begin with others still do when more are appended
pub starts_more : (xs more front : List ℕ) → StartsWith xs front → StartsWith (xs ++ more) front
starts_more xs more front h = take-append-le (length front) xs more (starts_with_length xs front h) ∙ h

pub starts_after : (ys xs more front : List ℕ) → ys ≡ xs ++ more → StartsWith xs front → StartsWith ys front
starts_after ys xs more front e h = subst (λ zs. StartsWith zs front) (sym e) (starts_more xs more front h)

pub starts_same : (ys xs front : List ℕ) → ys ≡ xs → StartsWith xs front → StartsWith ys front
starts_same ys xs front e h = subst (λ zs. StartsWith zs front) (sym e) h

-- more may have been appended, or nothing
pub starts_either : (b : Bool) (ys xs more front : List ℕ) → ys ≡ cond b (xs ++ more) xs → StartsWith xs front → StartsWith ys front
starts_either true ys xs more front e h = starts_after ys xs more front e h
starts_either false ys xs more front e h = starts_same ys xs front e h
