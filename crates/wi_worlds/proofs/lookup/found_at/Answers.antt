use Rattle.wi_worlds.proofs.Words.{◌∙◌, Some, ap, rules, answers_always}
use Rattle.wi_worlds.proofs.Searching.{found_of}
use Rattle.wi_worlds.proofs.lookup.found_at.Goals as goal

pub returns-in-Ok : goal.returns-in-Ok
returns-in-Ok c =
    let facts = c.binary_search_by_key.ensures in
    ap Some c.index-replacements-place.is
    ∙ found_of c.args.replacements.now c.args.cell _ _ c.requires c.in-Ok.is facts.bound
    (facts.position (λ r. r.at) (answers_always _ _ _ (λ f a r g called. search rules))) c.index-replacements-place.result

pub returns-in-Err : goal.returns-in-Err
returns-in-Err c =
    let facts = c.binary_search_by_key.ensures in
    found_of c.args.replacements.now c.args.cell _ _ c.requires c.in-Err.is facts.bound
    (facts.position (λ r. r.at) (answers_always _ _ _ (λ f a r g called. search rules)))
