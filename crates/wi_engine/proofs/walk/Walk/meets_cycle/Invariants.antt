use Rattle.wi_engine.proofs.Words.{[], ◌∷◌, Enter, GoesOn, tasks_in, tasks_left}
use Rattle.wi_engine.proofs.walk.Walk.meets_cycle.Given as goal

abbrev pub invariant-loop-visit : goal.invariant-loop-visit
invariant-loop-visit l = GoesOn l.store.sheet (Enter l.fn.root ∷ []) l.fn.self.progress l.fn.self.order.items (tasks_in l.store.sheet l.self.path.items) l.self.progress l.self.order.items

abbrev pub decreases-loop-visit : goal.decreases-loop-visit
decreases-loop-visit l = tasks_left l.store.sheet l.self.progress (tasks_in l.store.sheet l.self.path.items)
