use Rattle.wi_value_functions.proofs.Words.{sym, ◌∙◌, rules, arith}
use Rattle.wi_value_functions.proofs.Comparing.{apart, alike, ended}
use Rattle.wi_value_functions.proofs.table.compare.Goals as goal

pub loop-i-preserved : goal.loop-i-preserved
loop-i-preserved c =
    let m = c.min-both.ensures in
    let t = c.loop-i-test.true in
    alike c.loop-i.i c.as_bytes-xs.result.now c.as_bytes-ys.result.now (omega arith) (omega arith) c.cmp-order.result (search rules) (sym c.is_ne.ensures ∙ c.if-is_ne.false) ∙ c.loop-i.invariant

pub returns-then-is_ne : goal.returns-then-is_ne
returns-then-is_ne c =
    let m = c.min-both.ensures in
    let t = c.loop-i-test.true in
    apart c.loop-i.i c.as_bytes-xs.result.now c.as_bytes-ys.result.now (omega arith) (omega arith) c.cmp-order.result (search rules) (sym c.is_ne.ensures ∙ c.if-is_ne.true) ∙ c.loop-i.invariant

pub returns : goal.returns
returns c =
    let m = c.min-both.ensures in
    let e = c.loop-i.auto.i-end in
    let t = c.loop-i-test.false in
    (search rules) ∙ ended c.loop-i.i c.as_bytes-xs.result.now c.as_bytes-ys.result.now (omega arith) ∙ c.loop-i.invariant
