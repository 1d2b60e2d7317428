use Rattle.wi_lexer.proofs.Words.{Some, length, ◌-◌, ◌≤◌, take, drop, ap, ap₂, sym, subst, ◌∙◌, cut, before_colon_len, both_cells}
use Rattle.wi_lexer.proofs.BracketLemmas.{inside_slice}
use Rattle.wi_lexer.proofs.RectangleLemmas.{rectangle_cut, second_long}
use Rattle.wi_lexer.proofs.rectangle.cells_in.Goals as goal

pub split_at-requires-2 : goal.split_at-requires-2
split_at-requires-2 c =
    let text = c.args.text.now in
    let whole = take (length text - 1 - 2) (drop 2 text) in
    let rest = c.split_at.ensures.back ∙ ap (λ i. drop i whole) c.before_colon_len.ensures.value ∙ ap (λ w. drop (before_colon_len w) w) (inside_slice text) in
    subst (λ bs. 2 ≤ length bs) (sym rest) (second_long text c.requires)

pub returns : goal.returns
returns c =
    let text = c.args.text.now in
    let whole = take (length text - 1 - 2) (drop 2 text) in
    let n = c.before_colon_len.ensures.value in
    let first = c.split_at.ensures.front ∙ ap (λ i. take i whole) n ∙ ap (λ w. take (before_colon_len w) w) (inside_slice text) in
    let rest = c.split_at.ensures.back ∙ ap (λ i. drop i whole) n ∙ ap (λ w. drop (before_colon_len w) w) (inside_slice text) in
    let second = c.split_at-2.ensures.back ∙ ap (λ bs. drop 2 bs) rest in
    rectangle_cut text c.requires ∙ ap₂ (λ x y. both_cells (Some x) (Some y)) (sym (c.cut.ensures ∙ ap cut first)) (sym (c.cut-2.ensures ∙ ap cut second))
