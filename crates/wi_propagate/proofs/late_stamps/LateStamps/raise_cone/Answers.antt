use Rattle.wi_propagate.proofs.Words.{◌≡◌, ℕ, Some, max, cond, subst, is_one_of, HeadedNumbers, generation_in, renewed_all, rules}
use Rattle.wi_propagate.proofs.HeadSteps.{raised_headed, raised_numbers}
use Rattle.wi_propagate.proofs.late_stamps.LateStamps.raise_cone.Goals as goal

pub returns-clause-numbers : goal.returns-clause-numbers
returns-clause-numbers c = λ t.
    let i = c.self.inside in
    let is : i.head ≡ Some c.args.cell = search rules in
    subst (λ (v : HeadedNumbers). (d : ℕ) → generation_in (renewed_all i.greatest c.args.number i.numbers.entries) d ≡ cond (is_one_of v.cone d) (max (generation_in v.numbers d) c.args.number) (generation_in v.numbers d)) c.self.view_is
    (raised_numbers i.numbers.entries i.head i.cone.items i.greatest i.counts_as c.self.invariant c.args.cell c.args.number is c.if-number-self.false)
