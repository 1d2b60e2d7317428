use Rattle.wi_engine.proofs.Words.{refl, in_one_of}
use Rattle.wi_engine.proofs.beside.SureCells.{sure_are_read}
use Rattle.wi_engine.proofs.together.Scans.{among_them, they_are_read, of_rectangle}
use Rattle.wi_engine.proofs.together.together.Goals as goal

pub smallest_with-rectangle-requires : goal.smallest_with-rectangle-requires
smallest_with-rectangle-requires c = in_one_of c.args.frame.now.formula.now c.rectangles.result.now c.args.at c.rectangles.ensures c.requires.read

pub returns-then-size-le1-clause-read : goal.returns-then-size-le1-clause-read
returns-then-size-le1-clause-read c =
    sure_are_read c.args.store.now.sheet c.args.frame.now c.args.frame.now.formula.now c.args.at c.in_ok-sure.sure.items c.in_ok-sure.ensures c.requires.read c.requires.formula

pub returns-clause-read : goal.returns-clause-read
returns-clause-read c =
    they_are_read c.args.store.now.sheet c.args.frame.now.key.world c.args.frame.now.found c.args.frame.now.formula.now c.rectangles.result.now c.smallest_with-rectangle.result c.part-area.result c.scan_to-scan.result.way
    c.in_ok-cells.cells.items c.args.at _ c.rectangles.ensures c.smallest_with-rectangle.ensures c.part-area.ensures c.in_ok-cells.ensures c.requires.read c.requires.formula

pub returns-clause-wanted : goal.returns-clause-wanted
returns-clause-wanted c = among_them c.in_ok-cells.cells.items _ c.args.at c.in_ok-cells.ensures

pub returns-clause-following : goal.returns-clause-following
returns-clause-following c =
    of_rectangle c.args.store.now.sheet c.args.frame.now c.args.frame.now.formula.now c.rectangles.result.now c.smallest_with-rectangle.result c.part-area.result c.in_ok-cells.cells.items c.args.at _ c.scan_to-scan.result
    c.rectangles.ensures c.smallest_with-rectangle.ensures c.scan_to-scan.ensures.rectangle c.part-area.ensures c.in_ok-cells.ensures c.scan_to-scan.ensures.count refl refl refl
