use Rattle.wi_store.proofs.Words.{◌∙◌, Option, ℕ, ap, subst, sym, is_some}
use Rattle.wi_values.specs.declared.value.Value.{Value}
use Rattle.wi_store.specs.Inner.Indexes.{TakesIn}
use Rattle.wi_store.proofs.IndexLemmas.{none_lent, one_lent, taken_before, taken_now}
use Rattle.wi_store.proofs.indexes.take_in.Goals as goal

pub returns-in_ok-insert : goal.returns-in_ok-insert
returns-in_ok-insert c =
    subst (λ (v : Value). TakesIn c.args.at v c.args.cells.now c.insert.new.self) (sym c.in-Number.is)
    (taken_now c.args.at c.in-Number.number c.args.cells.now c.insert.new.self (sym c.get.ensures.value ∙ none_lent c.get.result c.is_none.result c.is_none.ensures c.if-is_none.true) c.in_ok-insert.ensures.updates.0)

pub returns-else-is_none : goal.returns-else-is_none
returns-else-is_none c =
    subst (λ (v : Value). TakesIn c.args.at v c.args.cells.now c.args.cells.now) (sym c.in-Number.is)
    (taken_before c.args.at c.in-Number.number c.args.cells.now (ap (λ (o : Option ℕ). is_some o) (sym c.get.ensures.value) ∙ one_lent c.get.result c.is_none.result c.is_none.ensures c.if-is_none.false))
