use Rattle.wi_tiles.proofs.Words.{Some, ◌≡◌, ap, ◌∙◌, subst, nat_le, filter, IfSome, nat_cmp, keys_of, is_within, get}
use Rattle.std.specs.List.{find}
use Rattle.wi_tiles.proofs.MapLemmas.{first_is, first_has}
use Rattle.wi_tiles.proofs.cell_map.CellMap.first_in.Goals as goal

pub returns-clause-cell : goal.returns-clause-cell
returns-clause-cell g c = first_is c.self.inside.pages c.args.area c.args.from c.found_from.result c.found_from.ensures.some c.found_from.ensures.sheet c.found_from.ensures.none ∙ ap (λ m. find (λ a. nat_le c.args.from a) (filter (is_within c.args.area) (keys_of m.entries))) c.self.view_is

pub returns-clause-value : goal.returns-clause-value
returns-clause-value g c = subst (λ m. IfSome c.found_from.result (λ x. get nat_cmp m x.0 ≡ Some x.1.now)) c.self.view_is (first_has c.self.inside.pages c.args.area c.args.from c.found_from.result c.found_from.ensures.some c.found_from.ensures.sheet)
