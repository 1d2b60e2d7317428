use Rattle.wi_parser.proofs.Words.{◌++◌, ap, ◌∙◌, Lists, tree_of, inputs_of, rectangles_of}
use Rattle.wi_parser.proofs.formula.Formula.new.Goals as goal

pub invariant_of-result : goal.invariant_of-result
invariant_of-result c =
    let made = c.in_ok-lists.ensures.ok in
    let inputs = c.in_ok-push_leaves.ensures.inputs ∙ ap (λ xs. xs ++ inputs_of (tree_of c.args.expr)) c.new-inputs.ensures.items in
    let rectangles = c.in_ok-push_leaves.ensures.rectangles ∙ ap (λ xs. xs ++ rectangles_of (tree_of c.args.expr)) c.new-rectangles.ensures.items in
    record {
      tree = c.requires;
      inputs = ap (λ (l : Lists). l.inputs.items) made ∙ inputs;
      rectangles = ap (λ (l : Lists). l.rectangles.items) made ∙ rectangles;
    }
