use Rattle.wi_tiles.proofs.Words.{rules, sym, ap, ◌∙◌, nat_cmp, set_value, is_at, get}
use Rattle.wi_tiles.proofs.MapLemmas.{found, set_is, set_len}
use Rattle.wi_tiles.proofs.cell_map.CellMap.replace.Goals as goal

pub invariant_of-self : goal.invariant_of-self
invariant_of-self g c =
    (c.self.invariant.0 ∙ sym (set_len c.self.inside.pages c.replace.new.self c.args.cell c.path_of.result (search rules) (search rules) c.args.value c.replace.ensures.put), c.replace.ensures.trimmed c.self.invariant.1)

pub returns-clause-stood : goal.returns-clause-stood
returns-clause-stood g c =
    c.replace.ensures.value ∙ found c.self.inside.pages c.args.cell c.path_of.result (search rules) (search rules) ∙ ap (λ m. get nat_cmp m c.args.cell) c.self.view_is

pub returns-clause-entries : goal.returns-clause-entries
returns-clause-entries g c =
    set_is c.self.inside.pages c.replace.new.self c.args.cell c.path_of.result (search rules) (search rules) c.args.value c.replace.ensures.put ∙ ap (λ m. set_value (is_at (nat_cmp c.args.cell)) m.entries c.args.value) c.self.view_is
