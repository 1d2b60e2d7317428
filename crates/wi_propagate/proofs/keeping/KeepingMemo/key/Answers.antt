use Rattle.wi_propagate.proofs.Words.{◌∙◌, ap, sym, subst, filter, reaching, is_reached_by, ReachTable, AreAllCones, Entries, Carried, Keeping, generation_in, keeping, state_in, flushed}
use Rattle.wi_propagate.proofs.ReplacedCones.{worlds_all}
use Rattle.wi_propagate.proofs.StampSteps.{stamped_is_flushed}
use Rattle.wi_propagate.proofs.keeping.KeepingMemo.key.Goals as goal

pub returns-clause-world : goal.returns-clause-world
returns-clause-world c =
    let s = c.self.inside.store.now.sheet in
    let h = c.self.invariant in
    let part = c.in_ok-world.ensures.list ∙ ap (λ (t : ReachTable). filter (is_reached_by t c.args.at) c.args.world.now) c.reaches.ensures ∙ worlds_all s c.add_cones.new.cones c.args.at (c.in_ok-add_cones.ensures.cones s h.0 (subst (λ (x : Carried). AreAllCones s x.cones) (sym c.deref_mut-carried.ensures.value) h.2)) c.args.world.now c.in_ok-add_cones.ensures.all
    ∙ ap (λ (q : Keeping). reaching q.sheet c.args.at c.args.world.now) c.self.view_is in
    search part

pub returns-clause-generation : goal.returns-clause-generation
returns-clause-generation c =
    let i = c.self.inside in
    c.generation_of.ensures ∙ stamped_is_flushed i.store.now.sheet i.store.now.edits i.generations.now c.self.invariant.4.kept_up c.self.invariant.4.none_dirty c.args.at ∙ ap (λ (q : Keeping). generation_in q.generations c.args.at) c.self.view_is

pub returns-clause-same : goal.returns-clause-same
returns-clause-same c =
    let i = c.self.inside in
    let gs = flushed i.store.now.sheet i.generations.now.edited_at in
    let view = ap (λ (x : Carried). keeping i.store.now.sheet i.store.now.edits gs x.given_up.entries x.kept) c.deref_mut-carried.ensures.value ∙ c.self.view_is in
    ap state_in (ap (λ (es : Entries). keeping i.store.now.sheet i.store.now.edits gs es c.deref_mut-carried.result.now.kept) c.catch_up.ensures ∙ view)

pub returns-in_err-catch_up-clause-same : goal.returns-in_err-catch_up-clause-same
returns-in_err-catch_up-clause-same c =
    let i = c.self.inside in
    let gs = flushed i.store.now.sheet i.generations.now.edited_at in
    let view = ap (λ (x : Carried). keeping i.store.now.sheet i.store.now.edits gs x.given_up.entries x.kept) c.deref_mut-carried.ensures.value ∙ c.self.view_is in
    ap state_in (ap (λ (es : Entries). keeping i.store.now.sheet i.store.now.edits gs es c.deref_mut-carried.result.now.kept) c.catch_up.ensures ∙ view)
