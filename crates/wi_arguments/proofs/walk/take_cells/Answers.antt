use Rattle.std.proofs.Common.{ℕ, Some, refl, ap, arith}
use Rattle.wi_arguments.specs.Walk.{after_cells, to_come}
use Rattle.wi_arguments.proofs.Walking.{whole}
use Rattle.wi_arguments.proofs.walk.take_cells.Goals as goal

pub loop-ahead-init : goal.loop-ahead-init
loop-ahead-init g c = λ cells agrees.
    ap (λ (from : ℕ). after_cells g.T.TakesCells.after cells c.args.taker.now (to_come c.args.area (Some from))) (omega arith)

pub returns-clause-taken : goal.returns-clause-taken
returns-clause-taken g c =
    whole g.T.TakesCells.after (g.L.Lookup.known_cell c.args.lookup.now) c.args.area c.args.taker.now c.loop-ahead.taker c.args.area.first c.loop-ahead.ahead refl c.in_default.is c.loop-ahead.invariant
