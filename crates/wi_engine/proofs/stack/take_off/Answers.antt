use Rattle.wi_engine.proofs.Words.{◌∙◌, refl, sym, ap, Frame}
use Rattle.wi_engine.proofs.stack.FramesOnTop.{count_one, no_frames, none_off, none_there, on_one_cell, on_rest, rests_popped, some_rest}
use Rattle.wi_engine.proofs.stack.take_off.Goals as goal

pub with_last-below-requires : goal.with_last-below-requires
with_last-below-requires c = some_rest c.pop.new.self.items c.in_ok-key.field-0 c.in_ok-key.ensures.items c.in-More.is c.args.rests.now c.requires

-- ---- the second list has what stands for the entries that are left

pub returns-in_err-key-clause-rests : goal.returns-in_err-key-clause-rests
returns-in_err-key-clause-rests c = none_off c.args.entries.now.items c.pop.new.self.items c.args.rests.now.items c.in_err-key.ensures.items c.requires

pub returns-in-OneCell-clause-rests : goal.returns-in-OneCell-clause-rests
returns-in-OneCell-clause-rests c = sym (count_one c.pop.new.self.items c.in_ok-key.field-0 c.in_ok-key.ensures.items c.in-OneCell.is) ∙ c.requires

pub returns-in-More-clause-rests : goal.returns-in-More-clause-rests
returns-in-More-clause-rests c =
    let last = c.with_last-below.ensures in
    rests_popped c.pop.new.self.items c.in_ok-key.field-0 c.with_last-below.new.rests.items last.rest c.in_ok-key.ensures.items last.items c.in-More.is c.requires

-- ---- the key of the frame that is done

pub returns-in_err-key-clause-key : goal.returns-in_err-key-clause-key
returns-in_err-key-clause-key c = rw c.from_residual.ensures refl

pub returns-in-More-clause-key : goal.returns-in-More-clause-key
returns-in-More-clause-key c = c.retire.ensures ∙ ap (λ (f : Frame). f.key) c.replace.ensures.value

-- ---- the frame that stood on top

pub returns-in_err-key-clause-frames : goal.returns-in_err-key-clause-frames
returns-in_err-key-clause-frames c = rw c.from_residual.ensures (no_frames c.args.entries.now.items c.args.rests.now.items (none_there c.args.entries.now c.in_err-key.ensures.cases.0))

pub returns-in-OneCell-clause-frames : goal.returns-in-OneCell-clause-frames
returns-in-OneCell-clause-frames c =
    on_one_cell c.pop.new.self.items c.in_ok-key.field-0 c.in_ok-key.ensures.items c.in-OneCell.is c.take_one_cell.new.frame (sym c.take_one_cell.ensures.frame) c.args.rests.now.items

pub returns-in-More-clause-frames : goal.returns-in-More-clause-frames
returns-in-More-clause-frames c =
    let last = c.with_last-below.ensures in
    let rests = rests_popped c.pop.new.self.items c.in_ok-key.field-0 c.with_last-below.new.rests.items last.rest c.in_ok-key.ensures.items last.items c.in-More.is c.requires in
    rw c.replace.ensures.after (on_rest c.pop.new.self.items c.in_ok-key.field-0 c.with_last-below.new.rests.items last.rest c.in_ok-key.ensures.items last.items c.in-More.is c.with_last-below.result last.frame rests)
