use Rattle.wi_tiles.proofs.Words.{rules, ap, ◌∙◌, ◌≡◌, arith, cond, is_some, not, nat_cmp, from_bool, insert_entry, get, entries_of}
use Rattle.wi_tiles.proofs.MapLemmas.{at_path, found, put_made, length_within, one_at_most}
use Rattle.wi_tiles.proofs.cell_map.CellMap.put_new.Goals as goal

pub overflow_add-self : goal.overflow_add-self
overflow_add-self g c =
    let one : c.from.result ≡ from_bool c.in_ok-new.new = search rules in
    omega (arith, c.self.invariant.0, length_within c.self.inside.pages, one, one_at_most c.in_ok-new.new)

pub invariant_of-self-2 : goal.invariant_of-self-2
invariant_of-self-2 g c =
    let made = put_made c.self.inside.pages c.put_new.new.self c.args.cell c.path_of.result (search rules) (search rules) c.args.value c.in_ok-new.new c.in_ok-new.ensures.new c.in_ok-new.ensures.ok in
    let one : c.from.result ≡ from_bool c.in_ok-new.new = search rules in
    (omega (arith, c.self.invariant.0, made.1, one), c.put_new.ensures.trimmed c.self.invariant.1)

pub returns-clause-new : goal.returns-clause-new
returns-clause-new g c =
    let stood : at_path c.self.inside.pages c.path_of.result ≡ get nat_cmp c.args.self.now c.args.cell = found c.self.inside.pages c.args.cell c.path_of.result (search rules) (search rules) ∙ ap (λ m. get nat_cmp m c.args.cell) c.self.view_is in
    c.in_ok-new.ensures.new ∙ ap (λ o. not (is_some o)) stood

pub returns-clause-entries : goal.returns-clause-entries
returns-clause-entries g c =
    let made = put_made c.self.inside.pages c.put_new.new.self c.args.cell c.path_of.result (search rules) (search rules) c.args.value c.in_ok-new.new c.in_ok-new.ensures.new c.in_ok-new.ensures.ok in
    let stood : at_path c.self.inside.pages c.path_of.result ≡ get nat_cmp c.args.self.now c.args.cell = found c.self.inside.pages c.args.cell c.path_of.result (search rules) (search rules) ∙ ap (λ m. get nat_cmp m c.args.cell) c.self.view_is in
    made.0
    ∙ ap (λ o. cond (is_some o) (entries_of c.self.inside.pages) (insert_entry nat_cmp (entries_of c.self.inside.pages) c.args.cell c.args.value)) stood
    ∙ ap (λ m. cond (is_some (get nat_cmp c.args.self.now c.args.cell)) m.entries (insert_entry nat_cmp m.entries c.args.cell c.args.value)) c.self.view_is
