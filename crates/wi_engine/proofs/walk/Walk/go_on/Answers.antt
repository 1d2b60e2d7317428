use Rattle.wi_engine.proofs.Words.{tasks_in, Done}
use Rattle.wi_engine.proofs.walk.Cursors.{path-on, path-done}
use Rattle.wi_engine.proofs.walk.PathSteps.{path-left}
use Rattle.wi_engine.proofs.walk.WalkLengths.{less-gone}
use Rattle.wi_engine.proofs.walk.Walk.go_on.Goals as goal

pub returns-in_ok-push-in-Some-clause-cycle : goal.returns-in_ok-push-in-Some-clause-cycle
returns-in_ok-push-in-Some-clause-cycle c =
    let tasks = path-on c.args.store.now.sheet c.args.self.now.path.items c.push.new.self.items c.args.visit _ _ c.in-Some.ensures.some c.in-Some.ensures.same c.in_ok-push-in-Some.ensures.items in
    rw tasks c.enter.ensures.cycle

pub returns-in_ok-push-in-Some-clause-walk : goal.returns-in_ok-push-in-Some-clause-walk
returns-in_ok-push-in-Some-clause-walk c =
    let tasks = path-on c.args.store.now.sheet c.args.self.now.path.items c.push.new.self.items c.args.visit _ _ c.in-Some.ensures.some c.in-Some.ensures.same c.in_ok-push-in-Some.ensures.items in
    rw tasks c.enter.ensures.walk

pub returns-in_ok-leave-in-None-clause-walk : goal.returns-in_ok-leave-in-None-clause-walk
returns-in_ok-leave-in-None-clause-walk c =
    let s = c.args.store.now.sheet in
    let path = c.args.self.now.path.items in
    let e = c.in_ok-leave-in-None.ensures in
    rw (e.path, e.order, path-done s path c.args.visit c.in-None.ensures.none) (path-left s c.args.visit.cell (tasks_in s path) c.args.self.now.progress c.leave.new.self.progress c.args.self.now.order.items e.progress.0)

pub returns-in_ok-leave-in-None-clause-less : goal.returns-in_ok-leave-in-None-clause-less
returns-in_ok-leave-in-None-clause-less c =
    let s = c.args.store.now.sheet in
    let path = c.args.self.now.path.items in
    let e = c.in_ok-leave-in-None.ensures in
    rw (e.path, path-done s path c.args.visit c.in-None.ensures.none) (less-gone s c.args.self.now.progress c.leave.new.self.progress c.args.visit.cell Done e.progress.0 (tasks_in s path) _)
