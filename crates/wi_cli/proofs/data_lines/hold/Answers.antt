use Rattle.wi_cli.proofs.Vocabulary.{ℕ, List, ◌++◌, ◌∙◌, ap, arith, raw}
use Rattle.wi_cli.proofs.DataLemmas.{added_long, added_short, added_bytes}
use Rattle.wi_cli.proofs.data_lines.hold.Goals as goal

pub returns-then-line-gt-MAX_LINE-clause-held : goal.returns-then-line-gt-MAX_LINE-clause-held
returns-then-line-gt-MAX_LINE-clause-held g c = λ content no_lf e before h.
    added_long c.args.whole c.args.line.now content before no_lf e (omega arith)

pub returns-then-not-wanted-clause-held : goal.returns-then-not-wanted-clause-held
returns-then-not-wanted-clause-held g c = λ content no_lf e before h.
    (added_short c.args.whole c.args.line.now content before no_lf e (omega arith) h.0, λ w. let f = c.if-not-wanted.true in absurd cc)

pub returns-in-Ok-clause-held : goal.returns-in-Ok-clause-held
returns-in-Ok-clause-held g c = λ content no_lf e before h. (
  added_short c.args.whole c.args.line.now content before no_lf e (omega arith) h.0,
  λ w. added_bytes c.args.whole c.args.line.now content c.args.bytes.now.items c.append.new.bytes.items before e (omega arith) (c.in-Ok.ensures ∙ ap (λ (xs : List ℕ). xs ++ raw c.args.whole c.args.line.now) c.reserve_bytes.ensures.items) (h.1 w),
)
