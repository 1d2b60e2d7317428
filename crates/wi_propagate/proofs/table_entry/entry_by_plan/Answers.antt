use Rattle.wi_propagate.proofs.Words.{subst, sym, rules, MemoState, IsMemoOf}
use Rattle.wi_propagate.proofs.EntryQuestions.{entry_spends}
use Rattle.wi_propagate.proofs.table_entry.entry_by_plan.Goals as goal

pub planned_value-requires-clause-plan : goal.planned_value-requires-clause-plan
planned_value-requires-clause-plan g c =
    let s = c.args.store.now.sheet in
    let p = c.in-Some-find.ensures in
    let same = c.in_ok-inside.ensures.same in
    record {
      memo = subst (λ (x : MemoState). IsMemoOf s x) (sym same) c.requires.entry.memo;
      read = rw (p.root, same) c.requires.entry.formula_cell;
      plan = (p.plan s c.requires.plans).whole;
      inputs = p.inputs;
      placed = (p.plan s c.requires.plans).placed;
    }

pub returns-in-Some-find-clause-spends : goal.returns-in-Some-find-clause-spends
returns-in-Some-find-clause-spends g c =
    entry_spends c.args.store.now.sheet c.args.world.now c.args.formula_cell c.args.pairs.now (rw c.in-Some.is at c.in_ok-inside.ensures.world) c.in-Some-find.ensures.root c.in_ok-inside.ensures.same c.in_ok-inside.ensures.counts c.planned_value.ensures.spends

pub planned_value-requires-clause-full : goal.planned_value-requires-clause-full
planned_value-requires-clause-full g c = search rules
