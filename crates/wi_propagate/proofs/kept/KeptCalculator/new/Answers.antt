use Rattle.wi_propagate.proofs.Words.{[], refl, ap, sym, subst, Sheet, AreEdgesOf, Staging}
use Rattle.wi_propagate.proofs.StampSteps.{flushed_none, none_kept_up}
use Rattle.wi_propagate.proofs.Editing.{begins_right}
use Rattle.wi_propagate.proofs.kept.KeptCalculator.new.Goals as goal

pub returns-clause-values : goal.returns-clause-values
returns-clause-values c = c.in_ok-carried.ensures.values

pub returns-clause-generations : goal.returns-clause-generations
returns-clause-generations c = λ d. flushed_none c.new-2.result.sheet c.new-4.result d c.new-4.ensures

pub invariant_of-result : goal.invariant_of-result
invariant_of-result c =
    let s = c.new-2.result in (
      refl,
      subst (λ (x : Staging). AreEdgesOf x.now s.sheet) (sym c.new-3.ensures) (subst (λ (t : Sheet). AreEdgesOf [] t) (sym c.new-2.ensures.sheet) (λ d. refl)),
      ap (λ (x : Staging). x.staged) c.new-3.ensures,
      begins_right s c.new-4.result c.in_ok-carried.carried _ c.args.keep c.new-4.ensures c.in_ok-carried.ensures.values c.requires,
      c.in_ok-carried.ensures.cones s.sheet,
      none_kept_up s.sheet s.edits c.new-4.result c.new-4.ensures,
      c.new-7.ensures s.sheet,
    )
