use Rattle.wi_propagate.proofs.Words.{◌≡◌, ℕ, true, take, is_one_of, generation_in, HasGeneration}
use Rattle.wi_propagate.proofs.generations.reserve.Given as goal

abbrev pub invariant-loop-cell : goal.invariant-loop-cell
invariant-loop-cell l = record {
  same : (c : ℕ) → generation_in l.generations.entries c ≡ generation_in l.initial.generations.entries c;
  stay : (c : ℕ) → HasGeneration l.initial.generations.entries c → HasGeneration l.generations.entries c;
  there : (c : ℕ) → is_one_of (take l.cell-index l.cells) c ≡ true → HasGeneration l.generations.entries c;
}
