use Rattle.wi_worlds.proofs.Words.{◌∙◌, ℕ, List, [], Option, refl, sym, ap, subst, unwrap_or, on_ok_weaker, on_err_weaker, err_from_is_err_and}
use Rattle.std.proofs.Common.{IsSome}
use Rattle.wi_worlds.proofs.TellSteps.{told_more, told_same, told_first, told_as_before}
use Rattle.wi_worlds.proofs.reaches.put.Goals as goal

pub returns-in-Some-clause-ok : goal.returns-in-Some-clause-ok
returns-in-Some-clause-ok c =
    let w = c.insert.new.self in
    let es = c.args.reached.now.entries in
    let there : IsSome _ = subst (λ (o : Option (List ℕ)). IsSome o) c.in-Some.ensures.value refl in
    on_ok_weaker c.insert.result
    (told_more c.args.cell c.in-Some.cells.now w es (c.get_mut.follows.lender w).entries (ap (λ (o : Option (List ℕ)). unwrap_or o []) (sym c.in-Some.ensures.value)) ((c.get_mut.follows.holds w).3 there).0 c.args.at)
    c.insert.ensures.has

pub returns-in-Some-clause-err : goal.returns-in-Some-clause-err
returns-in-Some-clause-err c =
    let w = c.insert.new.self in
    let es = c.args.reached.now.entries in
    let there : IsSome _ = subst (λ (o : Option (List ℕ)). IsSome o) c.in-Some.ensures.value refl in
    on_err_weaker c.insert.result
    (told_same c.args.cell c.in-Some.cells.now w es (c.get_mut.follows.lender w).entries (ap (λ (o : Option (List ℕ)). unwrap_or o []) (sym c.in-Some.ensures.value)) ((c.get_mut.follows.holds w).3 there).0)
    c.insert.ensures.err

pub returns-clause-ok : goal.returns-clause-ok
returns-clause-ok c =
    told_first c.args.cell c.args.at c.in_ok-cells.cells c.args.reached.now.entries c.get_mut.follows.lender-at-none.entries c.insert-2.new.self.entries
    (ap (λ o. o.entries) c.get_mut.follows.holds-at-none) (sym c.in_default.ensures.value) c.in_ok-cells.ensures c.in_ok-insert.ensures.updates.0

pub returns-in_err-cells-clause-err : goal.returns-in_err-cells-clause-err
returns-in_err-cells-clause-err c =
    let p = err_from_is_err_and c.from_residual.result c.from_residual.ensures.1 in
    rw p.1 (told_as_before c.args.reached.now.entries c.get_mut.follows.lender-at-none.entries (ap (λ o. o.entries) c.get_mut.follows.holds-at-none))

pub returns-in_err-insert-clause-err : goal.returns-in_err-insert-clause-err
returns-in_err-insert-clause-err c =
    let m = c.get_mut.follows.lender-at-none in
    let p = err_from_is_err_and c.from_residual-in_err-insert.result c.from_residual-in_err-insert.ensures.1 in
    rw p.1 (told_as_before c.args.reached.now.entries c.insert-2.new.self.entries (c.in_err-insert.ensures.err ∙ ap (λ o. o.entries) c.get_mut.follows.holds-at-none))
