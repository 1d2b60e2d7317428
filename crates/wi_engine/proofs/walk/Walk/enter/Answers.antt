use Rattle.wi_engine.proofs.Words.{◌≡◌, Some, sym, ap, ◌∙◌, nat_cmp, get, tasks_in, Open, Done, Progress}
use Rattle.wi_engine.proofs.walk.Cursors.{path-begun}
use Rattle.wi_engine.proofs.walk.PathSteps.{path-cycle, path-passed, path-taken}
use Rattle.wi_engine.proofs.walk.WalkLengths.{less-taken}
use Rattle.wi_engine.proofs.walk.Walk.enter.Goals as goal

pub returns-in-Some-Open-clause-cycle : goal.returns-in-Some-Open-clause-cycle
returns-in-Some-Open-clause-cycle c =
    let state : get nat_cmp c.args.self.now.progress c.args.cell ≡ Some Open = sym c.in-Some-Open.ensures.value ∙ ap (λ (m : Progress). Some m) c.in-Some-Open.field-0-is in
    path-cycle c.args.store.now.sheet c.args.cell (tasks_in c.args.store.now.sheet c.args.self.now.path.items) c.args.self.now.progress c.args.self.now.order.items state

pub returns-in-Some-Done-clause-walk : goal.returns-in-Some-Done-clause-walk
returns-in-Some-Done-clause-walk c =
    let state : get nat_cmp c.args.self.now.progress c.args.cell ≡ Some Done = sym c.in-Some-Done.ensures.value ∙ ap (λ (m : Progress). Some m) c.in-Some-Done.field-0-is in
    path-passed c.args.store.now.sheet c.args.cell (tasks_in c.args.store.now.sheet c.args.self.now.path.items) c.args.self.now.progress c.args.self.now.order.items state

pub returns-in_ok-visit-in-None-clause-walk : goal.returns-in_ok-visit-in-None-clause-walk
returns-in_ok-visit-in-None-clause-walk c =
    let s = c.args.store.now.sheet in
    let e = c.in_ok-visit-in-None.ensures in
    let path = c.args.self.now.path.items in
    rw e.order
    (path-taken s c.args.cell (tasks_in s path) (tasks_in s c.visit.new.self.path.items) c.args.self.now.progress c.visit.new.self.progress c.args.self.now.order.items (sym c.in-None.ensures.value)
    (λ f. (ap (tasks_in s) (e.plain f).0, (e.plain f).1)) (λ f. ap (tasks_in s) (e.path f) ∙ path-begun s path c.args.cell) e.progress)

pub returns-in_ok-visit-in-None-clause-less : goal.returns-in_ok-visit-in-None-clause-less
returns-in_ok-visit-in-None-clause-less c =
    let s = c.args.store.now.sheet in
    let e = c.in_ok-visit-in-None.ensures in
    let path = c.args.self.now.path.items in
    less-taken s c.args.self.now.progress c.visit.new.self.progress c.args.cell (tasks_in s path) (tasks_in s c.visit.new.self.path.items) (sym c.in-None.ensures.value)
    (λ f. (ap (tasks_in s) (e.plain f).0, (e.plain f).1)) (λ f. ap (tasks_in s) (e.path f) ∙ path-begun s path c.args.cell) e.progress
