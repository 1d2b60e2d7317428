use Rattle.wi_tiles.proofs.Words.{rules, sym, ap, ◌∙◌, arith, nat_cmp, remove_entry, is_at, get}
use Rattle.wi_tiles.proofs.MapLemmas.{found, cut_is, cut_len, cut_none}
use Rattle.wi_tiles.proofs.cell_map.CellMap.remove.Goals as goal

pub overflow_sub-self : goal.overflow_sub-self
overflow_sub-self g c =
    let less = cut_len c.self.inside.pages c.remove.new.self c.args.cell c.path_of.result (search rules) (search rules) c.in-Some.value (sym c.remove.ensures.value ∙ c.in-Some.is) c.remove.ensures.left in
    omega (arith, c.self.invariant.0, less)

pub invariant_of-self : goal.invariant_of-self
invariant_of-self g c =
    let less = cut_len c.self.inside.pages c.remove.new.self c.args.cell c.path_of.result (search rules) (search rules) c.in-Some.value (sym c.remove.ensures.value ∙ c.in-Some.is) c.remove.ensures.left in
    (omega (arith, c.self.invariant.0, less), c.remove.ensures.trimmed c.self.invariant.1)

pub returns-in-Some-clause-stood : goal.returns-in-Some-clause-stood
returns-in-Some-clause-stood g c =
    sym c.in-Some.is ∙ c.remove.ensures.value ∙ found c.self.inside.pages c.args.cell c.path_of.result (search rules) (search rules) ∙ ap (λ m. get nat_cmp m c.args.cell) c.self.view_is

pub returns-in-Some-clause-entries : goal.returns-in-Some-clause-entries
returns-in-Some-clause-entries g c =
    cut_is c.self.inside.pages c.remove.new.self c.args.cell c.path_of.result (search rules) (search rules) c.remove.ensures.left ∙ ap (λ m. remove_entry (is_at (nat_cmp c.args.cell)) m.entries) c.self.view_is

pub invariant_of-self-in-None : goal.invariant_of-self-in-None
invariant_of-self-in-None g c =
    (c.self.invariant.0 ∙ sym (cut_none c.self.inside.pages c.remove.new.self c.args.cell c.path_of.result (search rules) (search rules) (sym c.remove.ensures.value ∙ c.in-None.is) c.remove.ensures.left), c.remove.ensures.trimmed c.self.invariant.1)

pub returns-in-None-clause-stood : goal.returns-in-None-clause-stood
returns-in-None-clause-stood g c =
    sym c.in-None.is ∙ c.remove.ensures.value ∙ found c.self.inside.pages c.args.cell c.path_of.result (search rules) (search rules) ∙ ap (λ m. get nat_cmp m c.args.cell) c.self.view_is

pub returns-in-None-clause-entries : goal.returns-in-None-clause-entries
returns-in-None-clause-entries g c =
    cut_is c.self.inside.pages c.remove.new.self c.args.cell c.path_of.result (search rules) (search rules) c.remove.ensures.left ∙ ap (λ m. remove_entry (is_at (nat_cmp c.args.cell)) m.entries) c.self.view_is
