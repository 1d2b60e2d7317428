use Rattle.wi_engine.proofs.Words.{refl, nat_cmp, get}
use Rattle.wi_engine.proofs.lists.FoundCells.{listed_more}
use Rattle.wi_engine.proofs.lists.Lists.add_cell.Goals as goal

pub returns-then-len-lt-MAX_LISTED-clause-ok : goal.returns-then-len-lt-MAX_LISTED-clause-ok
returns-then-len-lt-MAX_LISTED-clause-ok c =
    let f = c.args.self.now in
    record {
      cells = listed_more f.first.items f.rising (get nat_cmp f.others) c.args.at c.args.value c.requires c.push.new.self.items c.in_ok-push.ensures.items;
      what_ifs = refl;
    }
