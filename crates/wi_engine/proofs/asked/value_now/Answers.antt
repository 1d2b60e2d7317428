use Rattle.wi_engine.proofs.Words.{None, Some, inl, refl, ap, sym, ◌∙◌, Constant, has_formula, put_all, plain, plain_cell, put_cell}
use Rattle.wi_engine.proofs.asked.value_now.Goals as goal

pub returns-in-Some-clause-asked : goal.returns-in-Some-clause-asked
returns-in-Some-clause-asked g c =
    let there = c.in-Some.ensures.some c.args.store.now.sheet in
    record { value = c.in_ok-copy.ensures ∙ sym (put_cell (put_all c.args.store.now.sheet c.args.world.now) c.args.at c.in-Some.value.now there); easy = inl (ap has_formula there ∙ plain c.in-Some.value.now) }

pub returns-in-Nothing-clause-asked : goal.returns-in-Nothing-clause-asked
returns-in-Nothing-clause-asked g c =
    let there = c.in_default.ensures.none c.args.store.now.sheet ∙ sym c.in-Nothing.ensures in
    record { value = sym (plain_cell (put_all c.args.store.now.sheet c.args.world.now) c.args.at None there refl); easy = inl (ap has_formula there) }

pub returns-in_ok-copy-in-Constant-clause-asked : goal.returns-in_ok-copy-in-Constant-clause-asked
returns-in_ok-copy-in-Constant-clause-asked g c =
    let there = c.in_default.ensures.none c.args.store.now.sheet ∙ sym c.in-Constant.ensures in
    let shown = sym (plain_cell (put_all c.args.store.now.sheet c.args.world.now) c.args.at (Some (Constant c.in-Constant.value.now)) there refl) in
    record { value = c.in_ok-copy-in-Constant.ensures ∙ shown; easy = inl (ap has_formula there) }
