use Rattle.std.proofs.Common.{◌≡◌, ◌∙◌, ◌<◌, ◌≤◌, sym, ap, take, length, arith}
use Rattle.wi_cache.specs.Entries.{all_put, value_for}
use Rattle.wi_cache.proofs.Went.{is_before, is_here}
use Rattle.wi_cache.proofs.given_up.look_among.Goals as goal

pub loop-i-preserved : goal.loop-i-preserved
loop-i-preserved c =
    let some : 0 < c.loop-i.i = omega arith in
    let within : c.loop-i.i ≤ length c.args.list.now = omega arith in
    is_before c.args.table.now.entries c.args.list.now c.loop-i.i c.index-list-i.result c.args.key.now some within c.index-list-i.is c.is_of.result c.is_of.ensures c.if-is_of.false ∙ c.loop-i.invariant

pub returns-then-is_of : goal.returns-then-is_of
returns-then-is_of c =
    let some : 0 < c.loop-i.i = omega arith in
    let within : c.loop-i.i ≤ length c.args.list.now = omega arith in
    is_here c.args.table.now.entries c.args.list.now c.loop-i.i c.index-list-i.result c.args.key.now some within c.index-list-i.is c.is_of.result c.is_of.ensures c.if-is_of.true ∙ c.loop-i.invariant

pub returns : goal.returns
returns c =
    let none : c.loop-i.i ≡ 0 = omega arith in
    let left : value_for c.args.table.now.entries c.args.key.now ≡ value_for (all_put c.args.table.now.entries c.args.list.now) c.args.key.now =
    ap (λ n. value_for (all_put c.args.table.now.entries (take n c.args.list.now)) c.args.key.now) (sym none) ∙ c.loop-i.invariant in
    c.look_up.ensures ∙ left
