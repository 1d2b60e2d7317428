use Rattle.wi_propagate.proofs.Words.{◌≡◌, true, false, sym, IfOk-weaker, circular, case_of, demanded, demands_itself, different_closed, spent_nothing, spent_price, put_alone, shown_circular, shown_value}
use Rattle.wi_propagate.proofs.value.shown.Goals as goal

pub returns-in_default-clause-value : goal.returns-in_default-clause-value
returns-in_default-clause-value c =
    let cyclic : circular c.args.store.now.sheet c.args.at ≡ true = sym (rw c.in_default.is at c.in_ok-order.ensures.circular) in
    sym (shown_circular c.args.store.now.sheet c.args.replacements.now c.args.at cyclic)

pub returns-clause-value : goal.returns-clause-value
returns-clause-value c =
    let leaf : circular c.args.store.now.sheet c.args.at ≡ false = sym (rw c.in-Some.is at c.in_ok-order.ensures.circular) in
    let same = put_alone c.in_ok-world.world c.new.result c.args.replacements.now c.requires c.new.ensures c.in_ok-world.ensures.list in
    IfOk-weaker c.value-result.result _ _ (λ v h. shown_value c.args.store.now.sheet c.in_ok-world.world c.args.replacements.now c.args.at v leaf same h) c.value-result.ensures.value

pub returns-clause-within : goal.returns-clause-within
returns-clause-within c =
    let s = c.args.store.now.sheet in
    let leaf : circular s c.args.at ≡ false = sym (rw c.in-Some.is at c.in_ok-order.ensures.circular) in
    let same = put_alone c.in_ok-world.world c.new.result c.args.replacements.now c.requires c.new.ensures c.in_ok-world.ensures.list in
    spent_price (c.value-result.ensures.spends.on_found (demanded s c.args.replacements.now c.args.at) (different_closed s (case_of s c.args.replacements.now c.args.at)) (demands_itself s c.in_ok-world.world c.args.replacements.now c.args.at leaf same))

pub returns-clause-counts : goal.returns-clause-counts
returns-clause-counts c = c.value-result.ensures.spends.counts

pub returns-in_default-clause-within : goal.returns-in_default-clause-within
returns-in_default-clause-within c = spent_nothing _ _

pub returns-in_err-order-clause-within : goal.returns-in_err-order-clause-within
returns-in_err-order-clause-within c = spent_nothing _ _

pub returns-in_err-world-clause-within : goal.returns-in_err-world-clause-within
returns-in_err-world-clause-within c = spent_nothing _ _
