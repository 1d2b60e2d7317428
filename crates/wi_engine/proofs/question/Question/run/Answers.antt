use Rattle.wi_engine.proofs.Words.{◌≡◌, ◌∙◌, List, [], ◌∷◌, ◌++◌, refl, ap, Frame, StackedFrame, stacked}
use Rattle.wi_engine.proofs.engine.FrameRuns.{IsNew, GoesDeeper, deeper_smaller, back_smaller, next_before, run_value}
use Rattle.wi_engine.proofs.engine.Ends.{turn_same, turn_kept, comes_back, going_stops, going_ends, root_kept, root_there}
use Rattle.wi_engine.proofs.engine.StackedRuns.{over_start, over_deeper, over_below, below_awaits, below_awaited, over_back, over_root}
use Rattle.wi_engine.proofs.engine.Steps.{counts_less}
use Rattle.wi_engine.proofs.question.Question.run.Goals as goal

-- ---- the turns

pub frames-init : goal.frames-init
frames-init g c =
    let n = c.new-frame.ensures in
    let new : IsNew c.args.store.now.sheet c.new-frame.result c.args.key = record { key = n.key; formula = rw n.formula c.requires.formula; cells = n.cells; what_ifs = n.what_ifs; waiting = n.waiting } in
    over_start c.args.self.now.meter c.requires.memo c.requires.key new c.new-stack.ensures

pub advance-requires-clause-memo : goal.advance-requires-clause-memo
advance-requires-clause-memo g c = c.frames.invariant.going.running.memo

pub advance-requires-clause-frame : goal.advance-requires-clause-frame
advance-requires-clause-frame g c = c.frames.invariant.going.running.begun.frame

pub frames-smaller-in-First : goal.frames-smaller-in-First
frames-smaller-in-First g c =
    let a = c.in_ok-next.ensures in
    deeper_smaller c.frames.invariant.going.running (g.M.Memo.state c.advance.new.memo) c.push_reserved.new.frame a.steps.same (next_before a.steps.key (rw c.in-First.is at a.gives).0) c.push_reserved.ensures.begins.key

pub frames-preserved-in-First : goal.frames-preserved-in-First
frames-preserved-in-First g c =
    let s = c.args.store.now.sheet in
    let n = c.push_reserved.ensures.begins in
    let a = c.in_ok-next.ensures in
    let u = rw c.in-First.is at a.gives in
    let turn : GoesDeeper s (g.M.Memo.state c.frames.self.memo) c.frames.self.meter c.advance.new.meter c.frames.frame c.advance.new.frame c.push_reserved.new.frame c.in-First.next.key = record {
      steps = rw a.steps.same at a.steps;
      rises = a.counts.rises;
      evaluations = u.1;
      key = next_before a.steps.key u.0;
      awaited = u.0.awaited;
      new = record { key = n.key; formula = rw n.formula u.0.next.stands; cells = n.cells; what_ifs = n.what_ifs; waiting = n.waiting };
    } in
    let more = c.push_reserved.ensures.frames ∙ ap (λ (l : List StackedFrame). l ++ stacked c.advance.new.frame ∷ []) c.reserve.ensures.frames in
    rw a.steps.same (over_deeper c.frames.invariant turn more)

pub push_reserved-requires : goal.push_reserved-requires
push_reserved-requires g c = c.in_ok-reserve-in-First.ensures.space

pub take_in-requires-clause-awaits : goal.take_in-requires-clause-awaits
take_in-requires-clause-awaits g c = below_awaits (over_below c.pop.new.frame c.frames.invariant c.in-Some.ensures.frames)

pub take_in-requires-clause-awaited : goal.take_in-requires-clause-awaited
take_in-requires-clause-awaited g c = rw (c.in-Some.ensures.key, c.in_ok-next.ensures.steps.key) (below_awaited (over_below c.pop.new.frame c.frames.invariant c.in-Some.ensures.frames))

pub take_in-requires-clause-right : goal.take_in-requires-clause-right
take_in-requires-clause-right g c =
    rw (c.in-Some.ensures.key, c.in_ok-next.ensures.steps.key) (rw c.in-Ready.is at c.in_ok-next.ensures.gives).0.value

pub frames-smaller : goal.frames-smaller
frames-smaller g c =
    let a = c.in_ok-next.ensures in
    let k = c.in_ok-remember-in-Some.ensures in
    let turn = comes_back a.steps.same (c.in-Some.ensures.key ∙ a.steps.key) k.keeps k.found (rw c.in-Ready.is at a.gives) a.counts in
    back_smaller c.frames.invariant.going.running (g.M.Memo.state c.remember.new.self) c.take_in.new.frame turn.found.found c.requires.key.key.open_cell c.requires.key.key.formula

pub frames-preserved : goal.frames-preserved
frames-preserved g c =
    let a = c.in_ok-next.ensures in
    let k = c.in_ok-remember-in-Some.ensures in
    let key = c.in-Some.ensures.key ∙ a.steps.key in
    let turn = comes_back a.steps.same key k.keeps k.found (rw c.in-Ready.is at a.gives) a.counts in
    over_back (over_below c.pop.new.frame c.frames.invariant c.in-Some.ensures.frames) turn (rw key at c.in_ok-take_in-in-Some.ensures)

-- ---- what is asked of the memory

pub keep-requires-clause-generation : goal.keep-requires-clause-generation
keep-requires-clause-generation g c =
    rw (c.retire-root.ensures, c.in-None.ensures.key, c.in_ok-next.ensures.steps.same) (c.in_ok-next.ensures.steps.frame refl).key.generation

pub keep-requires-clause-open_cell : goal.keep-requires-clause-open_cell
keep-requires-clause-open_cell g c =
    rw (c.retire-root.ensures, c.in-None.ensures.key, c.in_ok-next.ensures.steps.same, c.frames.invariant.going.running.memo.sheet) (c.in_ok-next.ensures.steps.frame refl).key.open_cell

pub keep-requires-clause-right : goal.keep-requires-clause-right
keep-requires-clause-right g c =
    rw (c.retire-root.ensures, c.in-None.ensures.key, c.in_ok-next.ensures.steps.key, c.in_ok-next.ensures.steps.same, c.frames.invariant.going.running.memo.sheet) (rw c.in-Ready.is at c.in_ok-next.ensures.gives).0.value

pub remember-requires-clause-generation : goal.remember-requires-clause-generation
remember-requires-clause-generation g c =
    rw (c.in-Some.ensures.key, c.in_ok-next.ensures.steps.same) (c.in_ok-next.ensures.steps.frame refl).key.generation

pub remember-requires-clause-open_cell : goal.remember-requires-clause-open_cell
remember-requires-clause-open_cell g c =
    rw (c.in-Some.ensures.key, c.in_ok-next.ensures.steps.same, c.frames.invariant.going.running.memo.sheet) (c.in_ok-next.ensures.steps.frame refl).key.open_cell

pub remember-requires-clause-right : goal.remember-requires-clause-right
remember-requires-clause-right g c =
    rw (c.in-Some.ensures.key, c.in_ok-next.ensures.steps.key, c.in_ok-next.ensures.steps.same, c.frames.invariant.going.running.memo.sheet) (rw c.in-Ready.is at c.in_ok-next.ensures.gives).0.value

-- ---- the end, where the root's value is kept

pub returns-in-None-clause-value : goal.returns-in-None-clause-value
returns-in-None-clause-value g c =
    let going = over_root c.frames.invariant c.in-None.ensures.frames in
    run_value c.args.key going.running (c.in_ok-shown-in-None.ensures ∙ (rw c.in-Ready.is at c.in_ok-next.ensures.gives).0.value)

pub returns-in-None-clause-spends : goal.returns-in-None-clause-spends
returns-in-None-clause-spends g c =
    let a = c.in_ok-next.ensures in
    let k = c.in_ok-keep-in-None.ensures in
    let turn = comes_back a.steps.same (c.retire-root.ensures ∙ ap (λ (f : Frame). f.key) c.in-None.ensures.key ∙ a.steps.key) k.keeps k.found (rw c.in-Ready.is at a.gives) a.counts in
    going_ends (over_root c.frames.invariant c.in-None.ensures.frames) turn

pub returns-in-None-clause-kept : goal.returns-in-None-clause-kept
returns-in-None-clause-kept g c =
    let a = c.in_ok-next.ensures in
    let k = c.in_ok-keep-in-None.ensures in
    let turn = comes_back a.steps.same (c.retire-root.ensures ∙ ap (λ (f : Frame). f.key) c.in-None.ensures.key ∙ a.steps.key) k.keeps k.found (rw c.in-Ready.is at a.gives) a.counts in
    let key = c.retire-root.ensures ∙ ap (λ (f : Frame). f.key) c.in-None.ensures.key ∙ a.steps.key in
    root_there (over_root c.frames.invariant c.in-None.ensures.frames) turn (rw (a.steps.same, key) at k.there)

pub returns-in-None-clause-settled : goal.returns-in-None-clause-settled
returns-in-None-clause-settled g c =
    let a = c.in_ok-next.ensures in
    let k = c.in_ok-keep-in-None.ensures in
    let turn = comes_back a.steps.same (c.retire-root.ensures ∙ ap (λ (f : Frame). f.key) c.in-None.ensures.key ∙ a.steps.key) k.keeps k.found (rw c.in-Ready.is at a.gives) a.counts in
    root_kept (over_root c.frames.invariant c.in-None.ensures.frames) turn

-- ---- where memory runs out

pub returns-in_err-next-clause-spends : goal.returns-in_err-next-clause-spends
returns-in_err-next-clause-spends g c =
    going_stops c.frames.invariant.going (turn_same c.frames.invariant.going.running.memo c.in_err-next.ensures.steps.same (counts_less c.in_err-next.ensures.counts)) c.from_residual.result c.from_residual.ensures.0

pub returns-in_err-reserve-in-First-clause-spends : goal.returns-in_err-reserve-in-First-clause-spends
returns-in_err-reserve-in-First-clause-spends g c =
    going_stops c.frames.invariant.going (turn_same c.frames.invariant.going.running.memo c.in_ok-next.ensures.steps.same c.in_ok-next.ensures.counts) c.from_residual-in_err-reserve-in-First.result c.from_residual-in_err-reserve-in-First.ensures.0

pub returns-in_err-shown-in-None-clause-spends : goal.returns-in_err-shown-in-None-clause-spends
returns-in_err-shown-in-None-clause-spends g c =
    going_stops c.frames.invariant.going (turn_same c.frames.invariant.going.running.memo c.in_ok-next.ensures.steps.same c.in_ok-next.ensures.counts) c.from_residual-in_err-shown-in-None.result c.from_residual-in_err-shown-in-None.ensures.0

pub returns-in_err-take_in-in-Some-clause-spends : goal.returns-in_err-take_in-in-Some-clause-spends
returns-in_err-take_in-in-Some-clause-spends g c =
    going_stops c.frames.invariant.going (turn_same c.frames.invariant.going.running.memo c.in_ok-next.ensures.steps.same c.in_ok-next.ensures.counts) c.from_residual-in_err-take_in-in-Some.result c.from_residual-in_err-take_in-in-Some.ensures.0

pub returns-in_err-remember-in-Some-clause-spends : goal.returns-in_err-remember-in-Some-clause-spends
returns-in_err-remember-in-Some-clause-spends g c =
    let a = c.in_ok-next.ensures in
    let i = c.frames.invariant.going in
    let turn = turn_kept i.running.memo a.steps.same (c.in-Some.ensures.key ∙ a.steps.key) (rw c.in-Ready.is at a.gives) c.in_err-remember-in-Some.ensures.keeps a.counts in
    going_stops i turn c.from_residual-in_err-remember-in-Some.result c.from_residual-in_err-remember-in-Some.ensures.0

pub returns-in_err-keep-in-None-clause-spends : goal.returns-in_err-keep-in-None-clause-spends
returns-in_err-keep-in-None-clause-spends g c =
    let a = c.in_ok-next.ensures in
    let i = c.frames.invariant.going in
    let turn = turn_kept i.running.memo a.steps.same (c.retire-root.ensures ∙ ap (λ (f : Frame). f.key) c.in-None.ensures.key ∙ a.steps.key) (rw c.in-Ready.is at a.gives) c.in_err-keep-in-None.ensures.keeps a.counts in
    going_stops i turn c.from_residual-in_err-keep-in-None.result c.from_residual-in_err-keep-in-None.ensures.0
