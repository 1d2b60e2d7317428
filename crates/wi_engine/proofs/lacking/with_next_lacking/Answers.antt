use Rattle.wi_engine.proofs.Words.{◌∷◌, ◌-◌, take, rules, lacks_cell, lacking_after, listed_first, listed_on, listed_all, listed_enough}
use Rattle.wi_engine.proofs.lacking.with_next_lacking.Goals as goal

pub loop-init : goal.loop-init
loop-init c =
    let f = c.args.frame.now in
    let s = c.args.store.now.sheet in
    listed_first (lacks_cell s f.key.world f.found) s c.args.area _ c.push.new.self.items c.args.at (c.args.count - 1) (search rules) c.in_ok-push.ensures.items

pub loop-preserved : goal.loop-preserved
loop-preserved c =
    let f = c.args.frame.now in
    let s = c.args.store.now.sheet in
    listed_on (lacks_cell s f.key.world f.found) s c.args.area (c.args.at ∷ take (c.args.count - 1) (lacking_after s f.key.world f.found c.args.area c.args.at))
    c.loop.listed.items c.push-in-loop.new.self.items c.loop.last c.in-Some.next c.args.count c.loop.counter c.loop-test.true c.in_ok-push-2.ensures.items c.in-Some.ensures.some c.loop.invariant

pub returns-in_default : goal.returns-in_default
returns-in_default c =
    let f = c.args.frame.now in
    let s = c.args.store.now.sheet in
    listed_all (lacks_cell s f.key.world f.found) s c.args.area (c.args.at ∷ take (c.args.count - 1) (lacking_after s f.key.world f.found c.args.area c.args.at)) c.loop.listed.items c.loop.last _
    c.in_default.ensures.none c.loop.invariant

pub returns : goal.returns
returns c =
    let f = c.args.frame.now in
    let s = c.args.store.now.sheet in
    listed_enough (lacks_cell s f.key.world f.found) s c.args.area (c.args.at ∷ take (c.args.count - 1) (lacking_after s f.key.world f.found c.args.area c.args.at)) c.loop.listed.items c.loop.last
    c.args.count c.loop.counter c.loop-test.false c.loop.invariant
