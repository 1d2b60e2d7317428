use Rattle.wi_engine.proofs.Words.{rules}
use Rattle.wi_engine.proofs.placing.PlacedTrees.{empty_as, place_as, stored_as}
use Rattle.wi_engine.proofs.placing.placed_cell.Goals as goal

pub returns-in-Some : goal.returns-in-Some
returns-in-Some c = place_as c.args.store.now.sheet c.args.places.now c.args.at _ (search rules)

pub returns-in-Nothing : goal.returns-in-Nothing
returns-in-Nothing c = empty_as c.args.store.now.sheet c.args.places.now c.args.at (search rules) (search rules)

pub returns-in_ok-copy-in-Constant : goal.returns-in_ok-copy-in-Constant
returns-in_ok-copy-in-Constant c = stored_as c.args.store.now.sheet c.args.places.now c.args.at c.in-Constant.value.now c.in_ok-copy-in-Constant.field-0 (search rules) (search rules) (search rules)
