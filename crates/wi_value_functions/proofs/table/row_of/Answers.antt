use Rattle.wi_value_functions.proofs.Words.{◌+◌, ◌/◌, sym, ◌∙◌, arith, function_of}
use Rattle.wi_value_functions.proofs.Searching.{before, behind}
use Rattle.wi_value_functions.proofs.Names.{rows_ascend, row_found, none_found}
use Rattle.wi_value_functions.proofs.table.row_of.Goals as goal

pub loop-from-preserved-in-Less : goal.loop-from-preserved-in-Less
loop-from-preserved-in-Less c =
    let rows = c.rows-rows.result.now in
    let l = c.loop-from in
    let test = c.loop-from-test.true in
    let ascend = rows_ascend function_of rows c.rows-rows.ensures in
    let below = sym c.compare.ensures ∙ c.in-Less.is in
    (l.invariant.0, behind (λ row. row.name.now) c.args.name.now rows l.from l.to l.invariant.1 ((l.from + l.to) / 2) _ ascend (omega arith) below)

pub loop-from-preserved : goal.loop-from-preserved
loop-from-preserved c =
    let rows = c.rows-rows.result.now in
    let l = c.loop-from in
    let test = c.loop-from-test.true in
    let ascend = rows_ascend function_of rows c.rows-rows.ensures in
    let above = sym c.compare.ensures ∙ c.in-Greater.is in
    (omega arith, before (λ row. row.name.now) c.args.name.now rows l.from l.to l.invariant.1 ((l.from + l.to) / 2) _ ascend (omega arith) above)

pub returns-in-Equal-clause-some : goal.returns-in-Equal-clause-some
returns-in-Equal-clause-some c =
    let l = c.loop-from in
    let test = c.loop-from-test.true in
    let equal = sym c.compare.ensures ∙ c.in-Equal.is in
    row_found function_of c.rows-rows.result.now c.rows-rows.ensures c.args.name.now ((l.from + l.to) / 2) _ (omega arith) equal

pub returns-clause-none : goal.returns-clause-none
returns-clause-none c =
    let l = c.loop-from in
    let test = c.loop-from-test.false in
    none_found function_of c.rows-rows.result.now c.rows-rows.ensures c.args.name.now l.from l.to l.invariant.1 (omega arith)
