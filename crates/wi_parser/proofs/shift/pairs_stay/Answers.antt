use Rattle.wi_parser.proofs.Words.{rules, tests, ◌&&◌, map, sym, ◌∙◌, YieldsList-from_slice, all_from_yields_List, list_all-map, Pair, Reference, pair_of, stays}
use Rattle.wi_parser.proofs.Shifts.{pairs_pass}
use Rattle.wi_parser.proofs.shift.pairs_stay.Goals as goal

pub returns : goal.returns
returns c =
    let p = λ (r : Reference). stays c.args.rows c.args.columns r in
    all_from_yields_List (λ (x : Pair). p x.input && p x.replacement) _ _ c.all.result c.all.ensures.ran (YieldsList-from_slice c.args.pairs.now (cc)) (λ x b q k. search (rules, tests))
    ∙ sym (list_all-map (λ (q : Reference × Reference). p q.0 && p q.1) pair_of c.args.pairs.now)
    ∙ pairs_pass p (map pair_of c.args.pairs.now)
