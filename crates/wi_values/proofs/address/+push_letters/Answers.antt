use Rattle.wi_values.proofs.Words.{◌<◌, inl, inr, arith}
use Rattle.wi_values.proofs.Letters.{append_no_letters, append_letter}
use Rattle.wi_values.proofs.address.+push_letters.Goals as goal
use Rattle.wi_values.proofs.address.+push_letters.Goals.{then-most-eq0-via-then-most-eq0, then-most-eq0-via-else-most-eq0+then-number-eq0}

pub returns-then-most-eq0-clause-bytes : goal.returns-then-most-eq0-clause-bytes
returns-then-most-eq0-clause-bytes t c =
    elim c.then-most-eq0.branch [
      | then-most-eq0-via-then-most-eq0 w ↦ append_no_letters _ _ _ (inl w.if-most-eq0.true)
      | then-most-eq0-via-else-most-eq0+then-number-eq0 w ↦ append_no_letters _ _ _ (inr w.if-number-eq0.true)
    ]

pub returns-clause-bytes : goal.returns-clause-bytes
returns-clause-bytes t c =
    let low : c.from.result < 128 = omega arith in
    let one = c.push.ensures.ascii low in
    append_letter _ _ _ c.args.most c.args.number (omega arith) (omega arith) c.push_letters.ensures.bytes (rw (c.push.ensures.bytes, c.unwrap.ensures, one, c.from.ensures))
