use Rattle.wi_sessions.proofs.Words.{ap, rules, keys_of, Empty, no_rooms}
use Rattle.wi_sessions.proofs.CellLemmas.{none_in_order}
use Rattle.wi_sessions.proofs.picture.Picture.new.Goals as goal

pub returns : goal.returns
returns c = search rules

pub invariant_of-result : goal.invariant_of-result
invariant_of-result c = record {
  order = none_in_order (keys_of c.new.result.entries) (ap (λ es. keys_of es) c.new.ensures);
  full = no_rooms Empty c.new.result.entries c.new.ensures;
}
