use Rattle.wi_propagate.proofs.Words.{◌≡◌, true, false, sym, ◌∙◌, IfOk-weaker, list_any, circular, entry_demanded, never_fall-same, spent_nothing, spent_price, put_alone, test_of_cells, table_closed, entry_circular, entry_has, entry_shown}
use Rattle.wi_propagate.proofs.EntryQuestions.{open_cells_of, readable_entry}
use Rattle.wi_propagate.proofs.table_entry.table_entry.Goals as goal

pub returns-in_default-clause-value : goal.returns-in_default-clause-value
returns-in_default-clause-value c =
    let s = c.args.store.now.sheet in
    let test = test_of_cells s c.args.formula_cell c.args.pairs.now c.deref.result.now (c.deref.ensures.value ∙ c.in_ok-cells.ensures) in
    let cyclic : list_any (circular s) c.deref.result.now ≡ true = sym (rw c.in_default.is at c.in_ok-order.ensures.circular) in
    sym (entry_circular s c.args.replacements.now c.args.formula_cell c.args.pairs.now (test ∙ cyclic))

pub open_entry-result-requires : goal.open_entry-result-requires
open_entry-result-requires c =
    let s = c.args.store.now.sheet in
    let clear : list_any (circular s) c.deref.result.now ≡ false = sym (rw c.in-Some.is at c.in_ok-order.ensures.circular) in
    let roots = rw c.in-Some.is at c.in_ok-order.ensures.roots in
    record { entry = readable_entry s c.args.formula_cell c.args.pairs.now c.deref.result.now (c.deref.ensures.value ∙ c.in_ok-cells.ensures) clear c.in-Some.order.items c.new-memo.result c.new-memo.ensures.value roots c.new-memo.ensures.right }

pub returns-clause-value : goal.returns-clause-value
returns-clause-value c =
    let s = c.args.store.now.sheet in
    let clear : list_any (circular s) c.deref.result.now ≡ false = sym (rw c.in-Some.is at c.in_ok-order.ensures.circular) in
    let same = put_alone c.in_ok-world.world c.new.result c.args.replacements.now c.requires c.new.ensures c.in_ok-world.ensures.list in
    let open_cells = open_cells_of s c.args.formula_cell c.args.pairs.now c.deref.result.now (c.deref.ensures.value ∙ c.in_ok-cells.ensures) clear in
    IfOk-weaker c.open_entry-result.result _ _ (λ v h. entry_shown s c.in_ok-world.world c.args.replacements.now c.args.formula_cell c.args.pairs.now v open_cells same c.requires h) c.open_entry-result.ensures.value

pub returns-clause-spends : goal.returns-clause-spends
returns-clause-spends c =
    let s = c.args.store.now.sheet in
    let clear : list_any (circular s) c.deref.result.now ≡ false = sym (rw c.in-Some.is at c.in_ok-order.ensures.circular) in
    let same = put_alone c.in_ok-world.world c.new.result c.args.replacements.now c.requires c.new.ensures c.in_ok-world.ensures.list in
    let open_cells = open_cells_of s c.args.formula_cell c.args.pairs.now c.deref.result.now (c.deref.ensures.value ∙ c.in_ok-cells.ensures) clear in
    let has = entry_has s c.in_ok-world.world c.args.replacements.now c.args.formula_cell c.args.pairs.now open_cells same in
    let spends = c.open_entry-result.ensures.spends in
    (spends.counts, spent_price (spends.on_found (entry_demanded s c.args.replacements.now c.args.formula_cell c.args.pairs.now) (table_closed s c.args.replacements.now c.args.formula_cell c.args.pairs.now) has))

pub returns-in_err-cells-clause-spends : goal.returns-in_err-cells-clause-spends
returns-in_err-cells-clause-spends c = (never_fall-same c.args.meter.now, spent_nothing _ _)

pub returns-in_err-order-clause-spends : goal.returns-in_err-order-clause-spends
returns-in_err-order-clause-spends c = (never_fall-same c.args.meter.now, spent_nothing _ _)

pub returns-in_default-clause-spends : goal.returns-in_default-clause-spends
returns-in_default-clause-spends c = (never_fall-same c.args.meter.now, spent_nothing _ _)

pub returns-in_err-world-clause-spends : goal.returns-in_err-world-clause-spends
returns-in_err-world-clause-spends c = (never_fall-same c.args.meter.now, spent_nothing _ _)

pub new-memo-requires : goal.new-memo-requires
new-memo-requires c = record { order = rw c.in-Some.is at c.in_ok-order.ensures.order }
