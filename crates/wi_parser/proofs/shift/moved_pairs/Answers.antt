use Rattle.wi_parser.proofs.Words.{List, [], ◌∷◌, ◌++◌, map, take, sym, ap, ap₂, ◌∙◌, arith, w64, to_z, of_z, to_z-of_z, take_all, take_more, Pair, Reference, moved, pair_of}
use Rattle.wi_parser.proofs.Shifts.{pairs_more}
use Rattle.wi_parser.proofs.shift.moved_pairs.Goals as goal

pub loop-pair-preserved : goal.loop-pair-preserved
loop-pair-preserved c =
    let i = c.loop-pair.pair-index in
    let pairs = c.args.pairs.now in
    let item = c.pair-item.result in
    let next = take_more pairs i item c.loop-pair-test.true ∙ ap (λ (p : Pair). take i pairs ++ p ∷ []) (sym c.pair-item.is) in
    let g = moved (to_z w64 (of_z w64 c.args.rows)) (to_z w64 (of_z w64 c.args.columns)) in
    pairs_more g c.loop-pair.all.items _ (take i pairs) _ item _ _ c.in_ok-push.ensures.items c.moved.ensures c.moved-in-loop-pair.ensures next c.loop-pair.invariant

pub returns : goal.returns
returns c =
    let l = c.loop-pair in
    let pairs = c.args.pairs.now in
    let same = ap₂ moved (to_z-of_z w64 c.args.rows c.ranges.rows) (to_z-of_z w64 c.args.columns c.ranges.columns) in
    let f = moved c.args.rows c.args.columns in
    let whole = take_all l.pair-index pairs (omega arith) in
    l.invariant
    ∙ ap (λ (g : Reference → Reference). map (λ (q : Reference × Reference). (g q.0, g q.1)) (map pair_of (take l.pair-index pairs))) same
    ∙ ap (λ (ps : List Pair). map (λ (q : Reference × Reference). (f q.0, f q.1)) (map pair_of ps)) whole
