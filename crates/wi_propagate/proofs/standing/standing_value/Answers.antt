use Rattle.wi_propagate.proofs.Words.{◌≡◌, ◌∙◌, None, Some, refl, ap, sym, Content, Constant, content_of, has_formula, put_all, plain, plain_cell, put_cell, put_there, left_there}
use Rattle.wi_propagate.proofs.standing.standing_value.Goals as goal

pub returns-in-Some : goal.returns-in-Some
returns-in-Some c =
    let there = put_there c.args.replacements.now c.args.at (Some c.in-Some.value) c.requires c.in-Some.ensures c.args.store.now.sheet in
    (c.in_ok-copy.ensures ∙ sym (put_cell (put_all c.args.store.now.sheet c.args.replacements.now) c.args.at c.in-Some.value.now there), ap has_formula there ∙ plain c.in-Some.value.now)

pub returns-in-None : goal.returns-in-None
returns-in-None c =
    let there = left_there c.args.replacements.now c.args.at None c.requires c.in_default.ensures c.args.store.now.sheet ∙ sym c.in-None.ensures in
    (sym (plain_cell (put_all c.args.store.now.sheet c.args.replacements.now) c.args.at None there refl), ap has_formula there)

pub returns-in_ok-copy-in-Some-Constant : goal.returns-in_ok-copy-in-Some-Constant
returns-in_ok-copy-in-Some-Constant c =
    let s = put_all c.args.store.now.sheet c.args.replacements.now in
    let v = c.in-Some-Constant.value in
    let there : content_of s c.args.at ≡ Some (Constant v) =
    left_there c.args.replacements.now c.args.at None c.requires c.in_default.ensures c.args.store.now.sheet ∙ sym c.in-Some-Constant.ensures ∙ ap (λ (x : Content). Some x) c.in-Some-Constant.field-0-is in
    (c.in_ok-copy-in-Some-Constant.ensures ∙ sym (plain_cell s c.args.at (Some (Constant v)) there refl), ap has_formula there)

pub returns-in-Some-Formula : goal.returns-in-Some-Formula
returns-in-Some-Formula c =
    left_there c.args.replacements.now c.args.at None c.requires c.in_default.ensures c.args.store.now.sheet ∙ sym c.in-Some-Formula.ensures ∙ ap (λ (x : Content). Some x) c.in-Some-Formula.field-0-is
