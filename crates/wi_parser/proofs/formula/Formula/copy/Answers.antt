use Rattle.wi_parser.proofs.Words.{ap, sym, subst, ◌∙◌, Lists, inputs_of, rectangles_of, IsFormulaTree}
use Rattle.wi_parser.proofs.formula.Formula.copy.Goals as goal

pub invariant_of-result : goal.invariant_of-result
invariant_of-result c =
    let tree = c.in_ok-expr.ensures in
    let made = c.in_ok-lists.ensures.ok in
    let own = c.deref.ensures in
    let inputs = ap (λ (l : Lists). l.inputs.items) made ∙ c.in_ok-copied.ensures.inputs ∙ ap (λ (l : Lists). l.inputs.items) own in
    let rectangles = ap (λ (l : Lists). l.rectangles.items) made ∙ c.in_ok-copied.ensures.rectangles ∙ ap (λ (l : Lists). l.rectangles.items) own in
    record {
      tree = subst IsFormulaTree (sym tree) c.self.invariant.tree;
      inputs = inputs ∙ c.self.invariant.inputs ∙ ap inputs_of (sym tree);
      rectangles = rectangles ∙ c.self.invariant.rectangles ∙ ap rectangles_of (sym tree);
    }

pub returns : goal.returns
returns c = c.in_ok-expr.ensures ∙ c.self.view_is
