use Rattle.wi_propagate.proofs.Words.{◌∙◌, ap, sym, subst, rules, arith, keys_of, Sheet, AreEdgesOf, AreDirty, Generations, generation_in, stamped_in, second_cells, has_visited}
use Rattle.wi_propagate.proofs.FlushingSteps.{dirty_renumbered, flushing_first, flushing_again, flushing_more, flushing_stays, flushing_ends, last_part, part_within}
use Rattle.wi_propagate.proofs.flushing.flush_all.Goals as goal

pub cells-init : goal.cells-init
cells-init c =
    record {
      flushing = flushing_first c.args.graph.now.now c.args.edited_at.now.entries c.forget_head.new.self.numbers (keys_of c.args.dirty.now.entries) c.in_ok-order.order.items c.new-visited.result 0 c.in_ok-order.ensures c.new-visited.ensures
          (dirty_renumbered c.args.graph.now.now c.args.edited_at.now.entries c.args.valid_since.now.numbers c.forget_head.new.self.numbers (keys_of c.args.dirty.now.entries) c.forget_head.ensures.numbers c.requires.dirty);
      head = c.forget_head.ensures.head;
      within = λ x h. c.in_ok-order.ensures x ∙ h;
    }

pub flush_one-requires-clause-closed : goal.flush_one-requires-clause-closed
flush_one-requires-clause-closed c = λ s a.
    (flushing_again c.args.graph.now.now c.args.edited_at.now.entries c.cells.valid_since.numbers (second_cells c.cells.order.items) c.cells.last c.number_at-number.result (has_visited c.cells.visited) (has_visited c.forget.new.visited) c.forget.ensures c.cells.invariant.flushing s a).closed

pub cells-preserved : goal.cells-preserved
cells-preserved c =
    let es = c.args.graph.now.now in
    let edited_at = c.args.edited_at.now.entries in
    let rest = second_cells c.cells.order.items in
    let less = second_cells c.pop.new.self.items in
    let number = c.number_at-number.result in
    let again = flushing_again es edited_at c.cells.valid_since.numbers rest c.cells.last number (has_visited c.cells.visited) (has_visited c.forget.new.visited) c.forget.ensures c.cells.invariant.flushing in
    record {
      flushing = flushing_more es edited_at c.cells.valid_since.numbers c.flush_one.new.valid_since.numbers rest less c.in-Some.entry.1 number _ (has_visited c.forget.new.visited) (has_visited c.flush_one.new.visited) (last_part c.cells.order.items c.pop.new.self.items c.in-Some.entry c.in-Some.ensures.items)
          c.number_at-number.ensures (omega arith) c.in_ok-flush_one.ensures.valid_since c.in_ok-flush_one.ensures.visited again;
      head = c.in_ok-flush_one.ensures.head c.cells.invariant.head;
      within = λ x h. c.cells.invariant.within x (part_within c.cells.order.items c.pop.new.self.items c.in-Some.entry c.in-Some.ensures.items x h);
    }

pub returns-in_err-flush_one-clause-dirty : goal.returns-in_err-flush_one-clause-dirty
returns-in_err-flush_one-clause-dirty c =
    let edited_at = c.args.edited_at.now.entries in
    let whole : (s : Sheet) → AreEdgesOf c.args.graph.now.now s → AreDirty s (generation_in edited_at) (keys_of c.args.dirty.now.entries) (stamped_in edited_at c.flush_one.new.valid_since.numbers) =
    flushing_stays c.args.graph.now.now edited_at c.cells.valid_since.numbers c.flush_one.new.valid_since.numbers (keys_of c.args.dirty.now.entries) (second_cells c.cells.order.items) (has_visited c.cells.visited) c.cells.last c.in_err-flush_one.ensures.err c.cells.invariant.within
    c.cells.invariant.flushing in
    search whole

pub returns-clause-dirty : goal.returns-clause-dirty
returns-clause-dirty c = λ s a.
    subst (λ (es : Generations). AreDirty s (generation_in c.args.edited_at.now.entries) (keys_of es) (stamped_in c.args.edited_at.now.entries c.cells.valid_since.numbers)) (sym c.clear.ensures)
    (flushing_ends c.args.graph.now.now c.args.edited_at.now.entries c.cells.valid_since.numbers c.cells.order.items (has_visited c.cells.visited) c.cells.last (search rules) c.cells.invariant.flushing s a)

pub returns-clause-clean : goal.returns-clause-clean
returns-clause-clean c = ap keys_of c.clear.ensures

pub returns-in_err-order-clause-dirty : goal.returns-in_err-order-clause-dirty
returns-in_err-order-clause-dirty c = dirty_renumbered c.args.graph.now.now c.args.edited_at.now.entries c.args.valid_since.now.numbers c.forget_head.new.self.numbers (keys_of c.args.dirty.now.entries) c.forget_head.ensures.numbers c.requires.dirty
