use Rattle.wi_propagate.proofs.Words.{◌≡◌, ◌∙◌, ℕ, length, arith, nil_from_length, keys_of, is_one_of, second_cells}
use Rattle.wi_propagate.proofs.FlushingSteps.{lists_all, sorted_same}
use Rattle.wi_propagate.proofs.flushing.by_number.Goals as goal

pub returns : goal.returns
returns c =
    let none : length c.loop.rest ≡ 0 = omega (arith, c.loop.invariant.left) in
    let sorted = c.sort_unstable_by_key.new.self.items in
    let whole : (x : ℕ) → is_one_of (keys_of c.args.dirty.now.entries) x ≡ is_one_of (second_cells sorted) x = λ x.
    lists_all c.loop.order.items c.loop.rest c.args.dirty.now.entries (nil_from_length c.loop.rest none) c.loop.invariant.cells x
    ∙ sorted_same c.loop.order.items sorted c.sort_unstable_by_key.ensures.permutation x in
    search whole
