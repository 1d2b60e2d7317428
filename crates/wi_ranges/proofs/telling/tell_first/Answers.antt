use Rattle.wi_ranges.specs.Inner.Telling.{is_gone}
use Rattle.wi_ranges.proofs.TellLemmas.{tells_first}
use Rattle.wi_ranges.proofs.telling.tell_first.Goals as goal

pub returns : goal.returns
returns c =
    let x = c.args.block.now in
    tells_first c.args.pieces.now.keys x _ c.args.at c.in_ok-areas.areas.items (is_gone x c.tell_left.new.left.items) c.args.readers.now c.tell_left.new.readers c.in_ok-areas.ensures c.in_ok-tell_left.ensures
