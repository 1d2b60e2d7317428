use Rattle.wi_scenarios.proofs.Words.{◌∙◌, ap}
use Rattle.wi_scenarios.proofs.DifferingLemmas.{pushed, passed, walked}
use Rattle.wi_scenarios.proofs.differing.push_differing.Goals.{then-not-has_same+in_ok-push, else-not-has_same}
use Rattle.wi_scenarios.proofs.differing.push_differing.Goals as goal

pub loop-replacement-preserved : goal.loop-replacement-preserved
loop-replacement-preserved c =
    let cells = c.loop-replacement.cells.items in
    let replacement = c.replacement-item.result in
    elim c.if-not-has_same.branch [
      | then-not-has_same+in_ok-push w ↦
          pushed c.args.before.now c.args.after.now cells _ _ c.args.among.now c.loop-replacement.replacement-index replacement c.has_same.result
          c.loop-replacement-test.true c.replacement-item.is c.has_same.ensures w.if-not-has_same.true
          (ap (λ v. v.items) w.cells-is ∙ w.in_ok-push.ensures.items) c.loop-replacement.invariant
      | else-not-has_same w ↦
          passed c.args.before.now c.args.after.now cells _ _ c.args.among.now c.loop-replacement.replacement-index replacement c.has_same.result
          c.loop-replacement-test.true c.replacement-item.is c.has_same.ensures w.if-not-has_same.false
          (ap (λ v. v.items) w.cells-is) c.loop-replacement.invariant
    ]

pub returns : goal.returns
returns c =
    walked c.args.before.now c.args.after.now c.loop-replacement.cells.items c.args.among.now c.loop-replacement.replacement-index _
    c.loop-replacement-test.false c.loop-replacement.invariant
