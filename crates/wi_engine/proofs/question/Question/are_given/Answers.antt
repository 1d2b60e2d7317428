use Rattle.wi_engine.proofs.Words.{◌≡◌, ◌+◌, ◌∙◌, true, rules, take, All, All-more, subst, sym, arith, common_steps, MemoState, MayBeRead, NeedsNoEvaluation}
use Rattle.wi_engine.specs.declared.plan.Planned.{Planned}
use Rattle.wi_engine.specs.Inner.Plans.{AreGiven, IsNeeded}
use Rattle.wi_engine.proofs.plan.Orders.{followed_needed}
use Rattle.wi_engine.proofs.plan.Following.{item_of}
use Rattle.wi_engine.proofs.question.Question.are_given.Goals as goal

pub is_there-requires-clause-read : goal.is_there-requires-clause-read
is_there-requires-clause-read g c =
    let s = c.args.store.now.sheet in
    let m = g.M.Memo.state c.args.self.now.memo in
    let w = c.args.world.now in
    let root = c.args.plan.now.root in
    let all = followed_needed c.requires.plan c.requires.formula in
    let need = item_of c.deref-planned-items.ensures.value c.loop-planned.planned-index c.planned-item.result c.loop-planned-test.true c.planned-item.is (λ p. IsNeeded s m w root p.at) all in
    subst (λ (x : MemoState). MayBeRead s x c.planned-item.result.at) (sym c.loop-planned.invariant.same) need.readable

pub loop-planned-preserved : goal.loop-planned-preserved
loop-planned-preserved g c =
    let s = c.args.store.now.sheet in
    let m = g.M.Memo.state c.args.self.now.memo in
    let w = c.args.world.now in
    let P : Planned → Type 0 = λ p. p.is_given ≡ true → NeedsNoEvaluation s m w p.at in
    let one : P c.planned-item.result = search rules in
    record {
      same = c.in_ok-is_there.ensures.same ∙ c.loop-planned.invariant.same;
      meter = c.in_ok-is_there.ensures.counts ∙ c.loop-planned.invariant.meter;
      given = All-more P c.deref-planned-items.result.now c.loop-planned.planned-index c.planned-item.result c.loop-planned-test.true c.loop-planned.invariant.given (subst P c.planned-item.is one);
    }

pub returns-clause-given : goal.returns-clause-given
returns-clause-given g c =
    let whole : take c.loop-planned.planned-index c.deref-planned-items.result.now ≡ c.deref-planned-items.result.now = grind (arith, common_steps) in
    subst (AreGiven c.args.store.now.sheet (g.M.Memo.state c.args.self.now.memo) c.args.world.now) (whole ∙ c.deref-planned-items.ensures.value) c.loop-planned.invariant.given
