use Rattle.wi_ranges.proofs.Words.{rules, ◌≡◌, ap, pieces_of, bag_of, with_pairs}
use Rattle.wi_ranges.proofs.Joined.{pieces_with}
use Rattle.wi_ranges.proofs.index.RangeIndex.pieces.Goals as goal

pub returns : goal.returns
returns c =
    let singles = c.self.inside.singles in
    let bag = bag_of c.self.inside.pieces.keys in
    let both = pieces_with singles bag in
    let seen : pieces_of (with_pairs singles bag) ≡ pieces_of c.args.self.now = ap pieces_of c.self.view_is in
    search (rules, both, seen)
