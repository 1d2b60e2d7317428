use Rattle.wi_engine.proofs.Words.{rules, ◌≡◌, ◌∙◌, ◌++◌, ℕ, true, List, map, take, ap, refl, subst, sym, arith, common_steps, append-nil, is_one_of, put_all, cell_value, MemoState, NeedsNoEvaluation, Sheet}
use Rattle.wi_engine.specs.declared.placing.PlacedCell.{PlacedCell}
use Rattle.wi_engine.specs.declared.plan.Planned.{Planned}
use Rattle.wi_engine.specs.Inner.Placing.{IsPlacedFormula, cells_placed}
use Rattle.wi_engine.specs.Inner.Plans.{IsNeeded, MayBeValued}
use Rattle.wi_engine.proofs.plan.Orders.{followed_needed, stays_formula, stays_there}
use Rattle.wi_engine.proofs.plan.Following.{IsCounted, item_of, item_planned, one_more_item, counted_at_most, counted_more, counted_none, follows_err, follows_root, root_apart}
use Rattle.wi_engine.proofs.plan.PlacedCells.{all_fit, formula_gives, formula_ready, given_there, one_more_value, placed_there, planned_is, planned_less, planned_same}
use Rattle.wi_engine.proofs.question.Question.follow_placed.Goals as goal

-- ---- before a cell

pub loop-cell-init : goal.loop-cell-init
loop-cell-init g c =
    let put : (s : Sheet) → map (cell_value (put_all s c.args.world.now)) c.args.plan.now.inputs.items ≡ c.push_inputs.new.found.items = search rules in
    record {
      same = refl;
      counted = counted_none c.args.self.now.meter;
      values = ap (map (cell_value (put_all c.args.store.now.sheet c.args.world.now))) (append-nil c.args.plan.now.inputs.items) ∙ put c.args.store.now.sheet ∙ sym c.reserve.ensures.items;
      room = grind (arith, common_steps);
    }

pub push_cell-requires-clause-cell : goal.push_cell-requires-clause-cell
push_cell-requires-clause-cell g c =
    let s = c.args.store.now.sheet in
    let m = g.M.Memo.state c.args.self.now.memo in
    let w = c.args.world.now in
    let seen = c.deref-cell-items.ensures.value in
    let same = c.requires.placed.same in
    let i = c.loop-cell.cell-index in
    let x = c.cell-item.result in
    let less = c.loop-cell-test.true in
    let is = c.cell-item.is in
    let all = followed_needed c.requires.plan c.requires.formula in
    let need = item_of (planned_same seen same i x less is) i x.planned (planned_less seen same i x less is) (planned_is seen same i x less is) (λ p. IsNeeded s m w c.args.plan.now.root p.at) all in
    let may : MayBeValued s m w x.planned.at = record { memo = c.requires.plan.memo; read = need.readable; formula = need.formula } in
    subst (λ (n : MemoState). MayBeValued s n w x.planned.at) (sym c.loop-cell.invariant.same) may

pub push_cell-requires-clause-given : goal.push_cell-requires-clause-given
push_cell-requires-clause-given g c =
    let s = c.args.store.now.sheet in
    let m = g.M.Memo.state c.args.self.now.memo in
    let w = c.args.world.now in
    let seen = c.deref-cell-items.ensures.value in
    let same = c.requires.placed.same in
    let i = c.loop-cell.cell-index in
    let x = c.cell-item.result in
    let less = c.loop-cell-test.true in
    let is = c.cell-item.is in
    let one = item_of (planned_same seen same i x less is) i x.planned (planned_less seen same i x less is) (planned_is seen same i x less is) (λ p. p.is_given ≡ true → NeedsNoEvaluation s m w p.at) c.requires.given in
    let placed = placed_there seen same i x less is s c.args.plan.now.inputs.items c.requires.placed.cells in
    λ none. subst (λ (n : MemoState). NeedsNoEvaluation s n w x.planned.at) (sym c.loop-cell.invariant.same) (given_there s m w (c.args.plan.now.inputs.items ++ cells_placed (take i c.deref-cell-items.result.now)) x placed one none)

pub push_cell-requires-clause-ready : goal.push_cell-requires-clause-ready
push_cell-requires-clause-ready g c =
    let s = c.args.store.now.sheet in
    let m = g.M.Memo.state c.args.self.now.memo in
    let w = c.args.world.now in
    let seen = c.deref-cell-items.ensures.value in
    let same = c.requires.placed.same in
    let i = c.loop-cell.cell-index in
    let x = c.cell-item.result in
    let less = c.loop-cell-test.true in
    let is = c.cell-item.is in
    let whole = planned_same seen same i x less is in
    let fewer = planned_less seen same i x less is in
    let there = planned_is seen same i x less is in
    let all = followed_needed c.requires.plan c.requires.formula in
    let need = item_of whole i x.planned fewer there (λ p. IsNeeded s m w c.args.plan.now.root p.at) all in
    let may = item_planned whole i x.planned fewer there c.requires.plan.plan.cells in
    let stays = stays_there s w x.planned.at (ap (λ (xs : List ℕ). is_one_of xs x.planned.at) c.requires.plan.inputs ∙ may.kept) in
    let fits = all_fit s w c.args.plan.now.inputs.items (cells_placed (take i c.deref-cell-items.result.now)) c.loop-cell.found.items c.requires.plan.inputs c.loop-cell.invariant.values in
    let ready = formula_ready s w (c.args.plan.now.inputs.items ++ cells_placed (take i c.deref-cell-items.result.now)) c.loop-cell.found.items x (placed_there seen same i x less is s c.args.plan.now.inputs.items c.requires.placed.cells) fits need.readable.open_cell stays in
    ready

-- ---- with a cell more

pub loop-cell-preserved : goal.loop-cell-preserved
loop-cell-preserved g c =
    let s = c.args.store.now.sheet in
    let m = g.M.Memo.state c.args.self.now.memo in
    let w = c.args.world.now in
    let seen = c.deref-cell-items.ensures.value in
    let same = c.requires.placed.same in
    let i = c.loop-cell.cell-index in
    let x = c.cell-item.result in
    let less = c.loop-cell-test.true in
    let is = c.cell-item.is in
    let whole = planned_same seen same i x less is in
    let fewer = planned_less seen same i x less is in
    let there = planned_is seen same i x less is in
    let all = followed_needed c.requires.plan c.requires.formula in
    let need = item_of whole i x.planned fewer there (λ p. IsNeeded s m w c.args.plan.now.root p.at) all in
    let may = item_planned whole i x.planned fewer there c.requires.plan.plan.cells in
    let more = one_more_item whole i x.planned fewer there in
    let placed = placed_there seen same i x less is s c.args.plan.now.inputs.items c.requires.placed.cells in
    record {
      same = c.push_cell.ensures.same ∙ c.loop-cell.invariant.same;
      counted = subst (λ (ps : List Planned). IsCounted s w c.args.plan.now.root ps c.args.self.now.meter c.push_cell.new.self.meter) (sym more)
          (counted_more c.loop-cell.invariant.counted may need (rw placed.given at c.in_ok-push_cell.ensures.counts));
      values = one_more_value seen same i x less is (cell_value (put_all s w)) c.args.plan.now.inputs.items c.loop-cell.found.items c.push_cell.new.found.items _ c.loop-cell.invariant.values c.in_ok-push_cell.ensures.value refl;
      room = grind (arith, common_steps);
    }

-- ---- the root

pub returns-clause-follows : goal.returns-clause-follows
returns-clause-follows g c =
    let s = c.args.store.now.sheet in
    let w = c.args.world.now in
    let root = c.args.plan.now.root in
    let items = c.deref-cell-items.result.now in
    let cells = c.args.placed.now.cells.items in
    let same : map (λ (x : PlacedCell). x.planned) items ≡ c.args.plan.now.cells.items = ap (map (λ (x : PlacedCell). x.planned)) c.deref-cell-items.ensures.value ∙ c.requires.placed.same in
    let planned : take c.loop-cell.cell-index (map (λ (x : PlacedCell). x.planned) items) ≡ map (λ (x : PlacedCell). x.planned) items = grind (arith, common_steps) in
    let before : take c.loop-cell.cell-index items ≡ items = grind (arith, common_steps) in
    let i = subst (λ (ps : List Planned). IsCounted s w root ps c.args.self.now.meter c.loop-cell.self.meter) (planned ∙ same) c.loop-cell.invariant.counted in
    let fits = all_fit s w c.args.plan.now.inputs.items (cells_placed (take c.loop-cell.cell-index items)) c.loop-cell.found.items c.requires.plan.inputs c.loop-cell.invariant.values in
    let formula = subst (λ (cs : List PlacedCell). IsPlacedFormula s (c.args.plan.now.inputs.items ++ cells_placed cs) root c.args.placed.now.root) (sym (before ∙ c.deref-cell-items.ensures.value)) c.requires.placed.formula in
    let value = formula_gives s w (c.args.plan.now.inputs.items ++ cells_placed (take c.loop-cell.cell-index items)) c.loop-cell.found.items root c.args.placed.now.root fits c.requires.plan.read.open_cell (stays_formula s w root c.requires.formula) formula in
    follows_root i (root_apart c.requires.plan.plan.cells) c.in_ok-value.ensures.counts (rw c.deref.ensures.value at c.in_ok-value.ensures.value ∙ value)

-- ---- where memory runs out

pub returns-in_err-push_cell-clause-follows : goal.returns-in_err-push_cell-clause-follows
returns-in_err-push_cell-clause-follows g c =
    let i = c.loop-cell.invariant.counted in
    let e = c.in_err-push_cell.ensures.err in
    follows_err c.from_residual-in_err-push_cell.result c.from_residual-in_err-push_cell.ensures.0 (rw e i.counts) (λ ks closed top. rw e (counted_at_most i ks closed top))

pub returns-in_err-value-clause-follows : goal.returns-in_err-value-clause-follows
returns-in_err-value-clause-follows g c =
    let i = c.loop-cell.invariant.counted in
    let e = c.in_err-value.ensures.err in
    follows_err c.from_residual-in_err-value.result c.from_residual-in_err-value.ensures.0 (rw e i.counts) (λ ks closed top. rw e (counted_at_most i ks closed top))
