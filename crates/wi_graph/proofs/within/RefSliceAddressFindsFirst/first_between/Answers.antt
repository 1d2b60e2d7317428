use Rattle.wi_graph.proofs.Words.{◌<◌, length, arith, nat_tests}
use Rattle.wi_graph.proofs.WithinSteps.{listed_later, listed_first}
use Rattle.wi_graph.proofs.within.RefSliceAddressFindsFirst.first_between.Goals as goal

pub returns-then-before-cells-clause-first : goal.returns-then-before-cells-clause-first
returns-then-before-cells-clause-first c d h =
    let x = c.count_before-before in
    let g = (listed_later c.args.self.now.now c.args.from x.result d c.requires x.ensures.point h.0 h.2).0 in
    omega (arith, g, c.if-before-cells.true)

pub returns-then-lt-clause-first : goal.returns-then-lt-clause-first
returns-then-lt-clause-first c d h =
    let x = c.count_before-before in
    let l : x.result < length c.args.self.now.now = omega (arith, x.ensures.within, c.if-before-cells.false) in
    let g = listed_first c.args.self.now.now c.args.from c.args.to x.result c.index-cells-before.result c.requires x.ensures.point l c.index-cells-before.is d h in
    let beyond : c.args.to < c.index-cells-before.result = grind (arith, nat_tests) in
    omega (arith, g, beyond, h.1)

pub returns-clause-first : goal.returns-clause-first
returns-clause-first c =
    let x = c.count_before-before in
    let l : x.result < length c.args.self.now.now = omega (arith, x.ensures.within, c.if-before-cells.false) in
    listed_first c.args.self.now.now c.args.from c.args.to x.result c.index-cells-before.result c.requires x.ensures.point l c.index-cells-before.is
