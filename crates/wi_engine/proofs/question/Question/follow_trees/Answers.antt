use Rattle.wi_engine.proofs.Words.{◌≡◌, ◌∙◌, ℕ, true, false, take, Option, Some, None, ap, refl, subst, sym, arith, common_steps, List, is_one_of, is_some, Value, MemoState, NeedsNoEvaluation, found_value}
use Rattle.wi_engine.specs.declared.plan.Planned.{Planned}
use Rattle.wi_engine.specs.Inner.Plans.{AreFound, IsNeeded, MayBeValued, planned_cells}
use Rattle.wi_engine.proofs.plan.Orders.{followed_needed, stays_formula, stays_there}
use Rattle.wi_engine.proofs.plan.Following.{IsFollowing, item_of, item_planned, one_more_item, is_ready, cell_at_most, counted_at_most, following_more, following_none, follows_err, follows_root, root_apart}
use Rattle.wi_engine.proofs.question.Question.follow_trees.Goals as goal

pub loop-planned-init : goal.loop-planned-init
loop-planned-init g c = record {
  same = refl;
  following = following_none c.args.self.now.meter c.new-found.ensures.cells c.new-found.ensures.what_ifs;
}

pub planned_cell-requires-clause-cell : goal.planned_cell-requires-clause-cell
planned_cell-requires-clause-cell g c =
    let s = c.args.store.now.sheet in
    let m = g.M.Memo.state c.args.self.now.memo in
    let w = c.args.world.now in
    let all = followed_needed c.requires.plan c.requires.formula in
    let need = item_of c.deref-planned-items.ensures.value c.loop-planned.planned-index c.planned-item.result c.loop-planned-test.true c.planned-item.is (λ p. IsNeeded s m w c.args.plan.now.root p.at) all in
    let may : MayBeValued s m w c.planned-item.result.at = record { memo = c.requires.plan.memo; read = need.readable; formula = need.formula } in
    subst (λ (x : MemoState). MayBeValued s x w c.planned-item.result.at) (sym c.loop-planned.invariant.same) may

pub planned_cell-requires-clause-given : goal.planned_cell-requires-clause-given
planned_cell-requires-clause-given g c =
    let s = c.args.store.now.sheet in
    let m = g.M.Memo.state c.args.self.now.memo in
    let w = c.args.world.now in
    let one = item_of c.deref-planned-items.ensures.value c.loop-planned.planned-index c.planned-item.result c.loop-planned-test.true c.planned-item.is (λ p. p.is_given ≡ true → NeedsNoEvaluation s m w p.at) c.requires.given in
    λ e. subst (λ (x : MemoState). NeedsNoEvaluation s x w c.planned-item.result.at) (sym c.loop-planned.invariant.same) (one e)

pub planned_cell-requires-clause-ready : goal.planned_cell-requires-clause-ready
planned_cell-requires-clause-ready g c =
    let s = c.args.store.now.sheet in
    let w = c.args.world.now in
    let may = item_planned c.deref-planned-items.ensures.value c.loop-planned.planned-index c.planned-item.result c.loop-planned-test.true c.planned-item.is c.requires.plan.plan.cells in
    let stays = stays_there s w c.planned-item.result.at (ap (λ (xs : List ℕ). is_one_of xs c.planned-item.result.at) c.requires.plan.inputs ∙ may.kept) in
    λ e. is_ready c.requires.plan.inputs (may.rests e) stays c.loop-planned.invariant.following.found

pub add_cell-requires : goal.add_cell-requires
add_cell-requires g c =
    let may = item_planned c.deref-planned-items.ensures.value c.loop-planned.planned-index c.planned-item.result c.loop-planned-test.true c.planned-item.is c.requires.plan.plan.cells in
    none (found_value c.loop-planned.found c.planned-item.result.at) (c.loop-planned.invariant.following.found.known c.planned-item.result.at ∙ may.once)
  where
    none : (o : Option Value) → is_some o ≡ false → o ≡ None
    none None e = refl
    none (Some v) e = cc

pub loop-planned-preserved : goal.loop-planned-preserved
loop-planned-preserved g c =
    let s = c.args.store.now.sheet in
    let w = c.args.world.now in
    let m = g.M.Memo.state c.args.self.now.memo in
    let all = followed_needed c.requires.plan c.requires.formula in
    let need = item_of c.deref-planned-items.ensures.value c.loop-planned.planned-index c.planned-item.result c.loop-planned-test.true c.planned-item.is (λ p. IsNeeded s m w c.args.plan.now.root p.at) all in
    let may = item_planned c.deref-planned-items.ensures.value c.loop-planned.planned-index c.planned-item.result c.loop-planned-test.true c.planned-item.is c.requires.plan.plan.cells in
    let more = one_more_item c.deref-planned-items.ensures.value c.loop-planned.planned-index c.planned-item.result c.loop-planned-test.true c.planned-item.is in
    record {
      same = c.in_ok-value.ensures.same ∙ c.loop-planned.invariant.same;
      following = subst (λ (ps : List Planned). IsFollowing s w c.args.plan.now.root ps c.add_cell.new.self c.args.self.now.meter c.planned_cell.new.self.meter) (sym more)
          (following_more c.loop-planned.invariant.following may need c.in_ok-add_cell.ensures c.in_ok-value.ensures.value c.in_ok-value.ensures.counts);
    }

pub ready_value-requires-clause-ready : goal.ready_value-requires-clause-ready
ready_value-requires-clause-ready g c =
    let s = c.args.store.now.sheet in
    let w = c.args.world.now in
    let whole : take c.loop-planned.planned-index c.deref-planned-items.result.now ≡ c.deref-planned-items.result.now = grind (arith, common_steps) in
    let found = subst (λ (ps : List Planned). AreFound s w (planned_cells ps) c.loop-planned.found) (whole ∙ c.deref-planned-items.ensures.value) c.loop-planned.invariant.following.found in
    is_ready c.requires.plan.inputs c.requires.plan.plan.rests (stays_formula s w c.args.plan.now.root c.requires.formula) found

pub returns-in_err-value-clause-follows : goal.returns-in_err-value-clause-follows
returns-in_err-value-clause-follows g c =
    let i = c.loop-planned.invariant.following.counted in
    let e = c.in_err-value.ensures.err in
    follows_err c.from_residual.result c.from_residual.ensures.0 (rw e i.counts) (λ ks closed top. rw e (counted_at_most i ks closed top))

pub returns-in_err-add_cell-clause-follows : goal.returns-in_err-add_cell-clause-follows
returns-in_err-add_cell-clause-follows g c =
    let s = c.args.store.now.sheet in
    let w = c.args.world.now in
    let m = g.M.Memo.state c.args.self.now.memo in
    let all = followed_needed c.requires.plan c.requires.formula in
    let need = item_of c.deref-planned-items.ensures.value c.loop-planned.planned-index c.planned-item.result c.loop-planned-test.true c.planned-item.is (λ p. IsNeeded s m w c.args.plan.now.root p.at) all in
    let may = item_planned c.deref-planned-items.ensures.value c.loop-planned.planned-index c.planned-item.result c.loop-planned-test.true c.planned-item.is c.requires.plan.plan.cells in
    let most = cell_at_most c.loop-planned.invariant.following.counted may need c.in_ok-value.ensures.counts in
    follows_err c.from_residual-in_err-add_cell.result c.from_residual-in_err-add_cell.ensures.0 most.0 most.1

pub returns-in_err-value-2-clause-follows : goal.returns-in_err-value-2-clause-follows
returns-in_err-value-2-clause-follows g c =
    let i = c.loop-planned.invariant.following.counted in
    let e = c.in_err-value-2.ensures.err in
    follows_err c.from_residual-in_err-value-2.result c.from_residual-in_err-value-2.ensures.0 (rw e i.counts) (λ ks closed top. rw e (counted_at_most i ks closed top))

pub returns-clause-follows : goal.returns-clause-follows
returns-clause-follows g c =
    let s = c.args.store.now.sheet in
    let w = c.args.world.now in
    let whole : take c.loop-planned.planned-index c.deref-planned-items.result.now ≡ c.deref-planned-items.result.now = grind (arith, common_steps) in
    let i = subst (λ (ps : List Planned). IsFollowing s w c.args.plan.now.root ps c.loop-planned.found c.args.self.now.meter c.loop-planned.self.meter) (whole ∙ c.deref-planned-items.ensures.value) c.loop-planned.invariant.following in
    follows_root i.counted (root_apart c.requires.plan.plan.cells) c.in_ok-value-2.ensures.counts c.in_ok-value-2.ensures.value
