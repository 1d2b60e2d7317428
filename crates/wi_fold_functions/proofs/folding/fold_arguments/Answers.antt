use Rattle.wi_fold_functions.proofs.Words.{◌+◌, drop, refl, sym, ◌∙◌, drop_all, IfOk-from_err}
use Rattle.wi_fold_functions.proofs.Arguments.{next, stops, ends, one_missing}
use Rattle.wi_fold_functions.proofs.folding.fold_arguments.Goals as goal

pub loop-argument-init : goal.loop-argument-init
loop-argument-init g c = λ cells agrees. refl

pub returns-in_err-take_argument-clause-done : goal.returns-in_err-take_argument-clause-done
returns-in_err-take_argument-clause-done g c = IfOk-from_err c.from_residual.result _ c.from_residual.ensures.0

pub returns-in_err-take_argument-clause-missing : goal.returns-in_err-take_argument-clause-missing
returns-in_err-take_argument-clause-missing g c =
    one_missing (g.L.Lookup.known_cell c.args.lookup.now) c.args.arguments.now c.loop-argument.argument-index c.argument-item.result c.in_err-take_argument.field-0.0 c.from_residual.result c.from_residual.ensures.1
    c.loop-argument-test.true c.argument-item.is c.in_err-take_argument.ensures.missing c.in_err-take_argument.ensures.referred

pub returns-then-is_err-clause-missing : goal.returns-then-is_err-clause-missing
returns-then-is_err-clause-missing g c = tt

pub returns-clause-missing : goal.returns-clause-missing
returns-clause-missing g c = tt

pub returns-then-is_err-clause-done : goal.returns-then-is_err-clause-done
returns-then-is_err-clause-done g c =
    let known = g.L.Lookup.known_cell c.args.lookup.now in
    let l = c.loop-argument in
    let rest =
    next g.F.Fold.step known c.args.arguments.now c.args.start l.folding.so_far c.take_argument.new.self.so_far l.argument-index c.argument-item.result c.loop-argument-test.true c.argument-item.is l.invariant c.in_ok-take_argument.ensures.taken in
    λ cells agrees. c.value.ensures ∙ stops g.F.Fold.step g.F.Fold.value known c.args.arguments.now c.args.start c.take_argument.new.self.so_far (drop (l.argument-index + 1) c.args.arguments.now) rest (sym c.is_err.ensures.value ∙ c.if-is_err.true) cells agrees

pub loop-argument-preserved : goal.loop-argument-preserved
loop-argument-preserved g c =
    let l = c.loop-argument in
    next g.F.Fold.step (g.L.Lookup.known_cell c.args.lookup.now) c.args.arguments.now c.args.start l.folding.so_far c.take_argument.new.self.so_far l.argument-index c.argument-item.result c.loop-argument-test.true c.argument-item.is l.invariant c.in_ok-take_argument.ensures.taken

pub returns-clause-done : goal.returns-clause-done
returns-clause-done g c =
    let l = c.loop-argument in
    λ cells agrees. c.value-2.ensures ∙ ends g.F.Fold.step g.F.Fold.value (g.L.Lookup.known_cell c.args.lookup.now) c.args.arguments.now c.args.start l.folding.so_far (drop l.argument-index c.args.arguments.now) l.invariant (drop_all l.argument-index c.args.arguments.now c.loop-argument-test.false) cells agrees
