use Rattle.wi_propagate.proofs.Words.{◌∙◌, ◌&&◌, ◌||◌, not, [], ◌∷◌, ℕ, Bool, List, max, ap, if◌then◌else◌, is_one_of, in_cone, generation_in, has_visited}
use Rattle.wi_propagate.proofs.flushing.flush_one.Goals as goal

pub returns-clause-valid_since : goal.returns-clause-valid_since
returns-clause-valid_since c = λ s a d.
    let old = c.args.valid_since.now.numbers in
    c.in_ok-lift.ensures.numbers d ∙ ap (λ (xs : List ℕ). if is_one_of xs d then max (generation_in old d) c.args.number else generation_in old d) c.deref-2.ensures
    ∙ ap (λ (b : Bool). if b then max (generation_in old d) c.args.number else generation_in old d) (c.in_ok-cone.ensures s a d)

pub returns-clause-visited : goal.returns-clause-visited
returns-clause-visited c = λ s a d.
    c.in_ok-visit.ensures d ∙ ap (λ (xs : List ℕ). has_visited c.args.visited.now d || is_one_of xs d) c.deref.ensures ∙ ap (λ (b : Bool). has_visited c.args.visited.now d || b) (c.in_ok-cone.ensures s a d)
