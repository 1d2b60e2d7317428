use Rattle.wi_propagate.proofs.Words.{◌≡◌, ℕ, take, if◌then◌else◌, is_one_of, generation_in, HasGeneration}
use Rattle.wi_propagate.proofs.generations.raise.Given as goal

abbrev pub invariant-loop-cell : goal.invariant-loop-cell
invariant-loop-cell l = record {
  raised : (c : ℕ) → generation_in l.generations.entries c ≡ (if is_one_of (take l.cell-index l.cells) c then l.edit else generation_in l.initial.generations.entries c);
  there : (c : ℕ) → HasGeneration l.initial.generations.entries c → HasGeneration l.generations.entries c;
}
