use Rattle.wi_engine.proofs.Words.{refl, ap, ◌∙◌, has_formula, put_formula}
use Rattle.wi_engine.proofs.engine.NextCases.{known_value, unvalued, stands_below}
use Rattle.wi_engine.proofs.engine.RunsWithSpace.{found_easy}
use Rattle.wi_engine.proofs.asked.remembered_value.Goals as goal

pub key-requires : goal.key-requires
key-requires g c = record { covered = c.requires.read.covered (put_formula (g.M.Memo.state c.args.memo.now).sheet c.args.world.now c.args.at (ap has_formula c.requires.formula)) }

pub returns-in-Some-clause-asked : goal.returns-in-Some-clause-asked
returns-in-Some-clause-asked g c =
    let k = c.in_ok-key.ensures in
    let m = g.M.Memo.state c.args.memo.now in
    let known = known_value m.sheet m (g.M.Memo.state c.key.new.self) c.args.world.now c.args.at c.in_ok-key.key c.in-Some.value.now c.requires.memo k.same k.cell k.world c.in-Some.ensures.value in
    record {
      value = c.in_ok-copy-in-Some.ensures ∙ known;
      easy = found_easy m.sheet m (g.M.Memo.state c.key.new.self) c.args.world.now c.args.at c.in_ok-key.key c.in-Some.value.now c.requires.memo k.same k.cell k.world c.in-Some.ensures.value;
    }

pub returns-clause-asked : goal.returns-clause-asked
returns-clause-asked g c =
    let k = c.in_ok-key.ensures in
    let m = g.M.Memo.state c.args.memo.now in
    record {
      unvalued = unvalued m.sheet m (g.M.Memo.state c.key.new.self) c.args.world.now c.args.at c.in_ok-key.key c.requires.memo c.requires.read
          (ap has_formula c.requires.formula) k.same k.cell k.world k.generation (c.in-None.ensures.unfound refl) (c.in-None.ensures.unkept refl);
      stands = stands_below m.sheet m c.args.world.now c.args.at c.in_ok-key.key c.args.formula.now c.requires.memo k.cell k.world c.requires.formula;
    }
