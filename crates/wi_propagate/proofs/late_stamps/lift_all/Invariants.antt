use Rattle.wi_propagate.proofs.Words.{◌≡◌, ℕ, max, take, if◌then◌else◌, is_one_of, generation_in, HasGeneration}
use Rattle.wi_propagate.proofs.late_stamps.lift_all.Given as goal

abbrev pub invariant-loop-cell : goal.invariant-loop-cell
invariant-loop-cell l = record {
  lifted : (c : ℕ) → generation_in l.numbers.entries c ≡ (if is_one_of (take l.cell-index l.cells) c then max (generation_in l.initial.numbers.entries c) l.number else generation_in l.initial.numbers.entries c);
  there : (c : ℕ) → HasGeneration l.initial.numbers.entries c → HasGeneration l.numbers.entries c;
}
