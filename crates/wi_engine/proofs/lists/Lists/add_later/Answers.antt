use Rattle.wi_engine.proofs.Words.{refl, nat_cmp, get}
use Rattle.wi_engine.proofs.lists.FoundCells.{risen_more, put_more}
use Rattle.wi_engine.proofs.lists.Lists.add_later.Goals as goal

pub returns-then-ends_before-clause-ok : goal.returns-then-ends_before-clause-ok
returns-then-ends_before-clause-ok c =
    let f = c.args.self.now in
    record {
      cells = risen_more f.first.items f.rising (get nat_cmp f.others) c.args.at c.args.value c.requires c.push.new.self c.in_ok-push.ensures.ok;
      what_ifs = refl;
    }

pub returns-clause-ok : goal.returns-clause-ok
returns-clause-ok c =
    let f = c.args.self.now in
    record {
      cells = put_more f.first.items f.rising (get nat_cmp f.others) c.args.at c.args.value c.requires (get nat_cmp c.insert.new.self) c.in_ok-insert.ensures.updates.0;
      what_ifs = refl;
    }
