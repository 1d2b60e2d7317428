use Rattle.wi_parser.proofs.Words.{arith, ◌≡◌, suc, ◌∷◌, max, drop, drop-cons, refl, ap, sym, ◌∙◌, if◌then◌else◌, common_steps, all_meant, most_signs}
use Rattle.wi_parser.proofs.Refusals.{least_signs}
use Rattle.wi_parser.proofs.limits.repeats_signs.Goals as goal

pub returns-then-signs-eq-MAX_DEPTH : goal.returns-then-signs-eq-MAX_DEPTH
returns-then-signs-eq-MAX_DEPTH c =
    let l = c.loop-symbol in
    let symbols = c.args.symbols.now in
    let after = drop (suc l.symbol-index) symbols in
    let next = drop-cons symbols l.symbol-index c.symbol-item.result c.loop-symbol-test.true ∙ ap (λ w. w ∷ after) (sym c.symbol-item.is) in
    let is = sym c.is_sign.ensures ∙ c.if-is_sign.true in
    let step : most_signs l.signs (all_meant (drop l.symbol-index symbols)) ≡ most_signs (suc l.signs) (all_meant after) =
    ap (λ ws. most_signs l.signs (all_meant ws)) next
    ∙ ap (λ b. if b then most_signs (suc l.signs) (all_meant after) else max l.signs (most_signs 0 (all_meant after))) is in
    (λ _. l.invariant.1.1 (omega (arith, step, least_signs (suc l.signs) (all_meant after))), λ _. refl)

pub returns : goal.returns
returns c = grind (arith, common_steps)
