use Rattle.wi_engine.proofs.Words.{refl, sym, ap, Findings, StackedFrame, found_value, found_what_ifs}
use Rattle.wi_engine.proofs.stack.FramesOnTop.{count_one, on_one_cell}
use Rattle.wi_engine.proofs.stack.put_one_cell.Goals as goal

pub returns-clause-rests : goal.returns-clause-rests
returns-clause-rests c = count_one c.args.entries.now.items _ c.push_reserved.ensures.items refl

pub returns-clause-frames : goal.returns-clause-frames
returns-clause-frames c = on_one_cell c.args.entries.now.items _ c.push_reserved.ensures.items refl c.args.frame.now (rw c.replace.ensures.value (sym c.requires.alone))

pub returns-clause-begins : goal.returns-clause-begins
returns-clause-begins c =
    let none = ap (λ (h : StackedFrame). h.found) c.requires.alone in
    record {
      key = c.replace.ensures.after;
      formula = refl;
      cells = λ a. ap (λ (f : Findings). found_value f a) none;
      what_ifs = ap found_what_ifs none;
      waiting = refl;
    }
