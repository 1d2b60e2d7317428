use Rattle.wi_store.proofs.Words.{◌∙◌, ◌∷◌, ap, subst, Content, Sheet}
use Rattle.wi_store.specs.Inner.Indexes.{IsIndexOf}
use Rattle.wi_store.proofs.IndexLemmas.{all_taken_in, none_yet, one_more}
use Rattle.wi_store.proofs.indexes.first_cells.Goals as goal

pub loop-at-init : goal.loop-at-init
loop-at-init c = none_yet _ c.new-cells.result c.new-cells.ensures.empty

pub loop-at-preserved : goal.loop-at-preserved
loop-at-preserved c =
    one_more _ c.loop-at.at-iterator c.next.new.self c.in-Some.at c.in-Constant.value c.loop-at.cells c.take_in.new.cells c.loop-at.invariant
    (c.in-Some.ensures.steps ∙ ap (λ (x : Content). (c.in-Some.at, x) ∷ c.next.new.self) c.in-Constant.is) c.in_ok-take_in-in-Constant.ensures

pub returns : goal.returns
returns c =
    subst (λ (s : Sheet). IsIndexOf s c.loop-at.cells) c.into_iter-at-iterator.ensures.into_iter_gives
    (all_taken_in _ c.loop-at.at-iterator c.loop-at.cells c.loop-at.invariant c.in-None.ensures.steps.0)
