use Rattle.wi_engine.proofs.together.Scans.{led_to}
use Rattle.wi_engine.proofs.together.scan_to.Goals as goal

pub returns-in-Some-way_on-clause-count : goal.returns-in-Some-way_on-clause-count
returns-in-Some-way_on-clause-count c =
    led_to c.args.store.now.sheet c.args.frame.now c.args.at c.in-Some.scan c.led_on.result c.in-Some-way_on.way c.in-Some.ensures.0 c.led_on.ensures.rectangle c.led_on.ensures.way c.led_on.ensures.count c.in-Some-way_on.ensures
