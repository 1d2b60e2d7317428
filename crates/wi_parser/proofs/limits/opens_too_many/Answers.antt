use Rattle.wi_parser.proofs.Words.{rules, arith, ◌≡◌, suc, ◌∷◌, drop, drop-cons, refl, ap, sym, ◌∙◌, common_steps, all_meant, deepest}
use Rattle.wi_parser.proofs.Depth.{least}
use Rattle.wi_parser.proofs.limits.opens_too_many.Goals as goal

pub loop-symbol-init : goal.loop-symbol-init
loop-symbol-init c = search rules

pub returns-then-open-eq-MAX_DEPTH : goal.returns-then-open-eq-MAX_DEPTH
returns-then-open-eq-MAX_DEPTH c =
    let l = c.loop-symbol in
    let symbols = c.args.symbols.now in
    let after = drop (suc l.symbol-index) symbols in
    let next = drop-cons symbols l.symbol-index c.symbol-item.result c.loop-symbol-test.true ∙ ap (λ w. w ∷ after) (sym c.symbol-item.is ∙ c.in-Open.is) in
    let step : deepest l.open (all_meant (drop l.symbol-index symbols)) ≡ deepest (suc l.open) (all_meant after) = ap (λ ws. deepest l.open (all_meant ws)) next in
    (λ _. l.invariant.1.1 (omega (arith, step, least (suc l.open) (all_meant after))), λ _. refl)

pub returns : goal.returns
returns c = grind (arith, common_steps)
