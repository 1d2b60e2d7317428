use Rattle.wi_ranges.proofs.Words.{◌∙◌, ap, length, nat_lt, subst, sym, AreWhole, bag_of}
use Rattle.wi_ranges.proofs.BagLemmas.{put, refused}
use Rattle.wi_ranges.proofs.bag.add_numbered.Goals as goal

pub returns-in-Ok : goal.returns-in-Ok
returns-in-Ok c =
    let ks = c.args.pieces.now.keys in
    let done = put c.args.numbered.now c.args.around.now ks c.add_pieces.new.pieces.keys c.requires c.in-Ok.ensures in
    let longer = ap (λ n. nat_lt n c.len.result) c.len-before.ensures.len ∙ ap (λ n. nat_lt (length ks) n) c.len.ensures.len in
    record {
      added = longer ∙ done.longer;
      more = λ h. done.more (sym longer ∙ h);
      same = λ h. done.same (sym longer ∙ h);
      whole = done.whole;
      err = tt;
    }

pub returns-in-Err : goal.returns-in-Err
returns-in-Err c =
    let back = refused c.args.numbered.now c.args.around.now c.args.pieces.now.keys c.add_pieces.new.pieces.keys c.take_out.new.pieces.keys c.requires c.in-Err.ensures c.take_out.ensures in
    record { added = tt; more = tt; same = tt; whole = subst AreWhole (sym back) c.requires.whole; err = ap bag_of back }
