use Rattle.wi_propagate.proofs.Words.{◌≡◌, ◌∙◌, ℕ, max, ap, cond, sym, is_one_of, HeadedNumbers, generation_in, on_err, renewed_all, refl}
use Rattle.wi_propagate.proofs.HeadSteps.{seen_as_held}
use Rattle.wi_propagate.proofs.late_stamps.LateStamps.lift.Goals as goal

pub returns-in_err-reserve-clause-err : goal.returns-in_err-reserve-clause-err
returns-in_err-reserve-clause-err c =
    let i = c.self.inside in
    let alike : i.greatest ≡ i.counts_as = c.self.invariant.none (ap (λ (v : HeadedNumbers). v.head) c.self.view_is ∙ c.forget_head.ensures.head) in
    let new = c.reserve.new.generations.entries in
    let same : (d : ℕ) → generation_in (renewed_all i.greatest i.counts_as new) d ≡ generation_in c.args.self.now.numbers d = λ d.
    seen_as_held i.greatest i.counts_as new d alike ∙ c.reserve.ensures.same d ∙ sym (seen_as_held i.greatest i.counts_as i.numbers.entries d alike) ∙ ap (λ (v : HeadedNumbers). generation_in v.numbers d) c.self.view_is
    ∙ c.forget_head.ensures.numbers d in
    on_err c.from_residual.result same

pub returns-clause-numbers : goal.returns-clause-numbers
returns-clause-numbers c = λ d.
    let i = c.self.inside in
    let alike : i.greatest ≡ i.counts_as = c.self.invariant.none (ap (λ (v : HeadedNumbers). v.head) c.self.view_is ∙ c.forget_head.ensures.head) in
    let n = c.greater-self-inside.result in
    let before : generation_in c.reserve.new.generations.entries d ≡ generation_in c.args.self.now.numbers d =
    c.reserve.ensures.same d ∙ sym (seen_as_held i.greatest i.counts_as i.numbers.entries d alike) ∙ ap (λ (v : HeadedNumbers). generation_in v.numbers d) c.self.view_is ∙ c.forget_head.ensures.numbers d in
    seen_as_held n n c.lift_all.new.numbers.entries d refl ∙ c.lift_all.ensures d ∙ ap (λ (m : ℕ). cond (is_one_of c.args.cells.now d) (max m c.args.number) m) before
