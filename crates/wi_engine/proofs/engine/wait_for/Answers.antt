use Rattle.wi_engine.proofs.Words.{refl, put_formula}
use Rattle.wi_engine.proofs.engine.Waits.{cell_here, awaits_cells, waits_err}
use Rattle.wi_engine.proofs.engine.wait_for.Goals as goal

pub together-requires-clause-read : goal.together-requires-clause-read
together-requires-clause-read c = cell_here c.args.store.now.sheet c.args.frame.now.key c.args.want c.args.frame.now.formula.now c.in-Cell.at c.requires.asks c.in-Cell.is c.requires.formula

pub together-requires-clause-formula : goal.together-requires-clause-formula
together-requires-clause-formula c =
    let lacking = rw c.in-Cell.is at c.requires.lacking in
    put_formula c.args.store.now.sheet c.args.frame.now.key.world c.in-Cell.at lacking.0

pub returns-in-WhatIf-clause-awaits : goal.returns-in-WhatIf-clause-awaits
returns-in-WhatIf-clause-awaits c =
    let lacking = rw c.in-WhatIf.is at c.requires.lacking in
    let asks = rw c.in-WhatIf.is at c.requires.asks in
    record { key = refl; formula = refl; found = refl; awaits = λ d. (lacking, asks) }

pub returns-in_err-cells-in-Cell-clause-awaits : goal.returns-in_err-cells-in-Cell-clause-awaits
returns-in_err-cells-in-Cell-clause-awaits c = waits_err c.from_residual.result c.from_residual.ensures.0 refl refl refl

pub returns-in_err-keep_scan-in-Cell-clause-awaits : goal.returns-in_err-keep_scan-in-Cell-clause-awaits
returns-in_err-keep_scan-in-Cell-clause-awaits c =
    let kept = c.keep_scan.ensures in
    waits_err c.from_residual-in_err-keep_scan-in-Cell.result c.from_residual-in_err-keep_scan-in-Cell.ensures.0 kept.key kept.formula kept.found
