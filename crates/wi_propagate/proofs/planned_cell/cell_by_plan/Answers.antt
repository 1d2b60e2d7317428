use Rattle.wi_propagate.proofs.Words.{◌∙◌, map, sym, subst, rules, MemoState, IsMemoOf, MayBeRead}
use Rattle.wi_parser.specs.View.{pair_of}
use Rattle.wi_engine.proofs.WhatIfs.{formula_cell_readable, replacing_readable, tries_from, tries_none, tries_err}
use Rattle.wi_propagate.proofs.planned_cell.cell_by_plan.Goals as goal

-- ---- what is asked of the question

pub world_at_hand-requires-clause-read : goal.world_at_hand-requires-clause-read
world_at_hand-requires-clause-read g c = replacing_readable c.args.store.now.sheet (g.M.Memo.state c.args.question.now.memo) c.args.world.now c.args.at c.args.what_if.now.formula_cell c.args.what_if.now.pairs c.requires.what_if c.requires.memo c.requires.read

pub what_if_value-requires-clause-what_if : goal.what_if_value-requires-clause-what_if
what_if_value-requires-clause-what_if g c = record {
  order = c.in_ok-inside.ensures.order;
  cell = c.args.what_if.now.formula_cell;
  pairs = map pair_of c.args.what_if.now.pairs.items;
  stands = c.requires.what_if;
  is_root = sym c.in-Some-find.ensures.root;
  is_inside = rw c.in-Some.is at c.in_ok-inside.ensures.world;
}

pub what_if_value-requires-clause-plan : goal.what_if_value-requires-clause-plan
what_if_value-requires-clause-plan g c =
    let s = c.args.store.now.sheet in
    let p = c.in-Some-find.ensures in
    let same = c.in_ok-inside.ensures.same in
    let root = formula_cell_readable c.args.store.now.sheet (g.M.Memo.state c.args.question.now.memo) c.args.world.now c.args.at c.args.what_if.now.formula_cell c.args.what_if.now.pairs c.requires.what_if c.requires.memo c.requires.read in
    record {
      memo = subst (λ (x : MemoState). IsMemoOf s x) (sym same) c.requires.memo;
      read = rw (p.root, same) root;
      plan = (p.plan s c.requires.plans).whole;
      inputs = p.inputs;
      placed = (p.plan s c.requires.plans).placed;
    }

pub what_if_value-requires-clause-read : goal.what_if_value-requires-clause-read
what_if_value-requires-clause-read g c = subst (λ (x : MemoState). MayBeRead c.args.store.now.sheet x c.args.at) (sym c.in_ok-inside.ensures.same) c.requires.read

pub what_if_value-requires-clause-full : goal.what_if_value-requires-clause-full
what_if_value-requires-clause-full g c = search rules

pub sighting-requires-clause-memo : goal.sighting-requires-clause-memo
sighting-requires-clause-memo g c = subst (λ (x : MemoState). IsMemoOf c.args.store.now.sheet x) (sym c.in_ok-inside.ensures.same) c.requires.memo

pub sighting-requires-clause-read : goal.sighting-requires-clause-read
sighting-requires-clause-read g c =
    let root = formula_cell_readable c.args.store.now.sheet (g.M.Memo.state c.args.question.now.memo) c.args.world.now c.args.at c.args.what_if.now.formula_cell c.args.what_if.now.pairs c.requires.what_if c.requires.memo c.requires.read in
    subst (λ (x : MemoState). MayBeRead c.args.store.now.sheet x c.args.what_if.now.formula_cell.at) (sym c.in_ok-inside.ensures.same) root

-- ---- what it spends

pub returns-in-Some-find-clause-tries : goal.returns-in-Some-find-clause-tries
returns-in-Some-find-clause-tries g c = tries_from c.in_ok-inside.ensures.same c.in_ok-inside.ensures.counts c.what_if_value.ensures
