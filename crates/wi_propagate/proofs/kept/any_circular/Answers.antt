use Rattle.wi_propagate.proofs.Words.{◌≡◌, ◌||◌, ◌+◌, ◌∙◌, ℕ, Bool, true, false, take, get_or, refl, sym, subst, list_any, list_any_at, list_any_more, circular}
use Rattle.wi_propagate.proofs.kept.any_circular.Goals as goal

pub returns-then-is_circular : goal.returns-then-is_circular
returns-then-is_circular c = λ s e.
    let x = c.pair-item.result in
    let says : c.is_circular.result ≡ circular s x.1 = search (c.is_circular.ensures s e) in
    sym (list_any_at (λ (p : ℕ × ℕ). circular s p.1) c.args.pairs.now c.loop-pair.pair-index x c.loop-pair-test.true
    (subst (λ (p : ℕ × ℕ). circular s p.1 ≡ true) c.pair-item.is (sym says ∙ c.if-is_circular.true)))

pub loop-pair-preserved : goal.loop-pair-preserved
loop-pair-preserved c = λ s e.
    let x = c.pair-item.result in
    let i = c.loop-pair.pair-index in
    let pairs = c.args.pairs.now in
    let P : ℕ × ℕ → Bool = λ p. circular s p.1 in
    let says : c.is_circular.result ≡ circular s x.1 = search (c.is_circular.ensures s e) in
    let more : list_any P (take (i + 1) pairs) ≡ (list_any P (take i pairs) || P (get_or pairs i x)) = list_any_more P pairs i x c.loop-pair-test.true in
    let front : list_any P (take i pairs) ≡ false = c.loop-pair.invariant s e in
    let last : P (get_or pairs i x) ≡ false = subst (λ (p : ℕ × ℕ). circular s p.1 ≡ false) c.pair-item.is (sym says ∙ c.if-is_circular.false) in
    rw (more, front, last) refl
