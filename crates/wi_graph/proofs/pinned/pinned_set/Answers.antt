use Rattle.wi_graph.proofs.Words.{◌≡◌, ◌∙◌, ℕ, List, filter, ap, IfOk-weaker, nat_cmp, contains, is_one_of, reads_outside}
use Rattle.wi_graph.proofs.pinned.pinned_set.Goals as goal

pub returns : goal.returns
returns c =
    let keys = filter (reads_outside c.args.reads.now c.args.cyclic.now c.args.cells.now) c.args.cells.now.keys in
    IfOk-weaker c.set_of.result (λ set. (d : ℕ) → contains nat_cmp set d ≡ is_one_of c.deref.result.now d) (λ set. (d : ℕ) → contains nat_cmp set d ≡ is_one_of keys d)
    (λ set h d. h d ∙ ap (λ (xs : List ℕ). is_one_of xs d) (c.deref.ensures.value ∙ c.in_ok-pinned.ensures)) c.set_of.ensures
