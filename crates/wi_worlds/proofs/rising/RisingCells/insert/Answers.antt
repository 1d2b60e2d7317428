use Rattle.wi_values.proofs.Listed.{Searched, has_at, searched_in}
use Rattle.wi_worlds.proofs.Words.{◌≡◌, ◌∙◌, ◌==◌, ◌||◌, ℕ, true, List, Ok, Err, sym, ap, subst, IsStrictlyIncreasing, is_one_of}
use Rattle.wi_worlds.proofs.RisingSteps.{has_still, has_more, rise_more}
use Rattle.wi_worlds.proofs.rising.RisingCells.insert.Goals as goal

pub invariant_of-self-in-Err : goal.invariant_of-self-in-Err
invariant_of-self-in-Err c =
    let xs = c.self.inside.cells.items in
    let place = c.in-Err.place in
    let order = c.self.invariant in
    let found : Searched c.deref.result.now c.args.cell (Err place) =
    searched_in c.deref.result.now c.args.cell (Err place) (subst IsStrictlyIncreasing (sym c.deref.ensures.value) order) c.in-Err.ensures.position in
    let here : Searched xs c.args.cell (Err place) = subst (λ (ys : List ℕ). Searched ys c.args.cell (Err place)) c.deref.ensures.value found in
    subst IsStrictlyIncreasing (sym c.in_ok-insert-in-Err.ensures.items) (rise_more xs place c.args.cell order here.0 here.1 here.2)

pub returns-in-Ok-clause-has : goal.returns-in-Ok-clause-has
returns-in-Ok-clause-has c =
    let place = c.in-Ok.field-0 in
    let found : Searched c.deref.result.now c.args.cell (Ok place) =
    searched_in c.deref.result.now c.args.cell (Ok place) (subst IsStrictlyIncreasing (sym c.deref.ensures.value) c.self.invariant) c.in-Ok.ensures.position in
    let there = subst (λ (ys : List ℕ). is_one_of ys c.args.cell ≡ true) (c.deref.ensures.value ∙ c.self.view_is) (has_at c.deref.result.now place c.args.cell 0 found.0 found.1) in
    λ q. has_still c.args.self.now c.args.cell q there

pub returns-in_ok-insert-in-Err-clause-has : goal.returns-in_ok-insert-in-Err-clause-has
returns-in_ok-insert-in-Err-clause-has c =
    λ q. ap (λ (ys : List ℕ). is_one_of ys q) c.in_ok-insert-in-Err.ensures.items
    ∙ has_more c.self.inside.cells.items c.in-Err.place c.args.cell q
    ∙ ap (λ (ys : List ℕ). (c.args.cell == q) || is_one_of ys q) c.self.view_is
