use Rattle.wi_values.proofs.Words.{◌≡◌, ◌+◌, ◌-◌, ◌∙◌, get_or, min, ap, arith, to_ascii_uppercase, columns}
use Rattle.wi_values.proofs.Spelling.{letters_step, letters_from_none}
use Rattle.wi_values.proofs.address.column_number.Goals as goal

pub loop-letter-init : goal.loop-letter-init
loop-letter-init c = (omega arith, ap (λ n. min n (columns + 1)) (letters_from_none c.args.letters.now))

pub loop-letter-preserved : goal.loop-letter-preserved
loop-letter-preserved c =
    let d : c.from-digit.result ≡ to_ascii_uppercase (get_or c.args.letters.now c.loop-letter.letter-index 0) - 64 = c.from-digit.ensures ∙ c.saturating_sub.ensures ∙ ap (λ k. k - 64) c.to_ascii_uppercase.ensures.value in
    (omega arith, letters_step _ c.loop-letter.number c.from-digit.result _ c.loop-letter.letter-index c.args.letters.now c.loop-letter-test.true d c.min-number.ensures ∙ c.loop-letter.invariant.1)
