use Rattle.wi_lexer.proofs.Words.{subst, arith}
use Rattle.wi_lexer.proofs.QuoteLemmas.{IsReached, reached_close, reached_open, reached_more, reached_end, reached_all}
use Rattle.wi_lexer.proofs.text.text_len.Goals as goal
use Rattle.wi_lexer.proofs.text.text_len.Goals.{then-b-eq34+then-not-inside, then-b-eq34+else-not-inside, else-b-eq34+else-not-inside-2}

pub returns-then-not-inside-2 : goal.returns-then-not-inside-2
returns-then-not-inside-2 c =
    let l = c.loop-i in
    reached_end l.len l.i c.args.text.now c.loop-i-test.true c.if-b-eq34.false (subst (λ t. IsReached t l.len l.i c.args.text.now) c.if-not-inside-2.true l.invariant)

pub loop-i-preserved : goal.loop-i-preserved
loop-i-preserved c =
    let l = c.loop-i in
    elim c.if-b-eq34.branch [
      | then-b-eq34+then-not-inside w ↦
          rw (w.inside-is, w.len-is, w.if-not-inside.true)
          (reached_close l.len l.i c.args.text.now c.loop-i-test.true w.if-b-eq34.true (subst (λ t. IsReached t l.len l.i c.args.text.now) w.if-not-inside.true l.invariant))
      | then-b-eq34+else-not-inside w ↦
          rw (w.inside-is, w.len-is, w.if-not-inside.false)
          (reached_open l.len l.i c.args.text.now c.loop-i-test.true w.if-b-eq34.true (subst (λ t. IsReached t l.len l.i c.args.text.now) w.if-not-inside.false l.invariant))
      | else-b-eq34+else-not-inside-2 w ↦
          rw (w.inside-is, w.len-is, w.if-not-inside-2.false)
          (reached_more l.len l.i c.args.text.now c.loop-i-test.true w.if-b-eq34.false (subst (λ t. IsReached t l.len l.i c.args.text.now) w.if-not-inside-2.false l.invariant))
    ]

pub returns : goal.returns
returns c =
    let l = c.loop-i in
    reached_all l.inside l.len l.i c.args.text.now (omega arith) l.invariant
