use Rattle.wi_ranges.proofs.Words.{rules, ◌≡◌, false, subst, sym, IfOk-weaker, Bag, has_cell}
use Rattle.wi_ranges.specs.Inner.Telling.{Telling, telling, readers_told, Answers}
use Rattle.wi_ranges.proofs.TellLemmas.{answers_told, answers_apart}
use Rattle.wi_ranges.proofs.search.ReaderSearch.untold_readers.Goals as goal

pub returns-then-not-has_cell : goal.returns-then-not-has_cell
returns-then-not-has_cell c =
    let ks = c.self.inside.pieces.now.keys in
    let singles = c.self.inside.singles.now in
    let told = readers_told c.self.inside.left ks in
    let a = c.args.at in
    let apart : has_cell c.self.inside.around a ≡ false = search rules in
    IfOk-weaker c.into_list.result _ (λ list. Answers c.args.self.now c.args.self.now a list.items)
    (λ list h. subst (λ (s : Telling). Answers s s a list.items) c.self.view_is
    (subst (λ (b : Bag). Answers (telling b told) (telling b told) a list.items) (sym c.self.invariant.0)
    (answers_apart singles ks c.self.inside.around a told c.new-readers.result c.add_readers.new.set list.items c.new-readers.ensures c.in_ok-add_readers.ensures c.self.invariant.2 apart h)))
    c.into_list.ensures.cells

pub returns : goal.returns
returns c =
    let ks = c.self.inside.pieces.now.keys in
    let singles = c.self.inside.singles.now in
    let old = c.self.inside.left in
    let new = c.tell_readers.new.left in
    let a = c.args.at in
    IfOk-weaker c.into_list-2.result _ (λ list. Answers c.args.self.now (telling c.self.inside.index.now (readers_told new ks)) a list.items)
    (λ list h. subst (λ (s : Telling). Answers s (telling c.self.inside.index.now (readers_told new ks)) a list.items) c.self.view_is
    (subst (λ (b : Bag). Answers (telling b (readers_told old ks)) (telling b (readers_told new ks)) a list.items) (sym c.self.invariant.0)
    (answers_told singles ks a old new c.new-readers.result c.add_readers.new.set c.tell_readers.new.readers list.items c.new-readers.ensures c.in_ok-add_readers.ensures c.self.invariant.1 c.tell_readers.ensures.row c.in_ok-tell_readers.ensures.told h)))
    c.into_list-2.ensures.cells
