use Rattle.wi_engine.proofs.Words.{ℕ, rules, answers_always, Value}
use Rattle.wi_engine.proofs.rising.BinarySearch.{searched_of}
use Rattle.wi_engine.proofs.rising.Rising.searched_value.Goals as goal

pub returns-in-Ok : goal.returns-in-Ok
returns-in-Ok c =
    let facts = c.binary_search_by_key.ensures in
    searched_of c.args.self.now c.cells-all.result.now c.args.at _ _ c.cells-all.ensures.order c.cells-all.ensures.value c.in-Ok.is facts.bound
    (facts.position (λ (e : ℕ × Value). e.0) (answers_always _ _ _ (λ f a r g called. search rules))) _

pub returns-in-Err : goal.returns-in-Err
returns-in-Err c =
    let facts = c.binary_search_by_key.ensures in
    searched_of c.args.self.now c.cells-all.result.now c.args.at _ _ c.cells-all.ensures.order c.cells-all.ensures.value c.in-Err.is facts.bound
    (facts.position (λ (e : ℕ × Value). e.0) (answers_always _ _ _ (λ f a r g called. search rules)))
