use Rattle.wi_parser.proofs.Words.{arith, ◌-◌, Some, ap, ◌∙◌, sym, err_from_is_err_and, expression, more_parameters, after_separator, put_before, tree_of, lt_trans, lt_of_lt_of_le}
use Rattle.wi_parser.proofs.Marks.{close-length, separator-length}
use Rattle.wi_parser.proofs.Turns.{fails_as}
use Rattle.wi_parser.proofs.Parameters.{more_last, more_fail, more_bad, more_again, before-none, put_before-first}
use Rattle.wi_parser.proofs.Shorter.{past_close, past_separator}
use Rattle.wi_parser.proofs.grammar.Grammar.more_parameters.Goals as goal

pub returns-then-not-take_separator-clause-finds : goal.returns-then-not-take_separator-clause-finds
returns-then-not-take_separator-clause-finds g c =
    let l = c.loop-symbols in
    let open_still = c.loop-symbols-test.ensures.no in
    l.invariant.2 ∙ ap (put_before l.found.items)
    (more_fail (expression c.args.self.now.depth) l.invariant.0 l.symbols open_still.0 (ap after_separator (sym open_still.1) ∙ c.if-not-take_separator.ensures.no.0))

pub returns-in_err-inner-clause-finds : goal.returns-in_err-inner-clause-finds
returns-in_err-inner-clause-finds g c =
    let l = c.loop-symbols in
    let p = err_from_is_err_and c.from_residual.result c.from_residual.ensures.1 in
    let open_still = c.loop-symbols-test.ensures.no in
    let taken = ap after_separator (sym open_still.1) ∙ c.if-not-take_separator.ensures.yes in
    rw (p.1, p.2) (fails_as c.in_err-inner.field-0.0 _ _
    (λ none. l.invariant.2 ∙ ap (put_before l.found.items) (more_bad (expression c.args.self.now.depth) l.invariant.0 l.symbols _ open_still.0 taken none))
    c.in_err-inner.ensures.finds)

pub loop-symbols-preserved : goal.loop-symbols-preserved
loop-symbols-preserved g c =
    let l = c.loop-symbols in
    let n = l.invariant.0 in
    let e = c.in_ok-inner.field-0 in
    let open_still = c.loop-symbols-test.ensures.no in
    let taken = ap after_separator (sym open_still.1) ∙ c.if-not-take_separator.ensures.yes in
    let one_less = separator-length l.symbols _ taken in
    let short = c.in_ok-inner.ensures.shorter in
    let again = more_again (expression c.args.self.now.depth) n (tree_of e) l.symbols _ _ (omega arith) open_still.0 taken c.in_ok-inner.ensures.finds in (
      n - 1,
      omega arith,
      l.invariant.2 ∙ ap (put_before l.found.items) again ∙ put_before-first l.found.items e _
          ∙ ap (λ es. put_before es (more_parameters (expression c.args.self.now.depth) (n - 1) c.inner.new.symbols)) (sym c.in_ok-push.ensures.items),
      omega arith,
    )

pub returns-clause-finds : goal.returns-clause-finds
returns-clause-finds g c =
    let l = c.loop-symbols in
    let closed = c.loop-symbols-test.ensures.yes in
    let one_less = close-length l.symbols _ closed in
    l.invariant.2 ∙ ap (put_before l.found.items) (more_last (expression c.args.self.now.depth) l.invariant.0 l.symbols _ (omega arith) closed)
    ∙ ap (λ all. Some (all, c.take_close.new.self)) (before-none l.found.items)

pub loop-symbols-smaller : goal.loop-symbols-smaller
loop-symbols-smaller g c =
    let taken = ap after_separator (sym c.loop-symbols-test.ensures.no.1) ∙ c.if-not-take_separator.ensures.yes in
    lt_trans c.in_ok-inner.ensures.shorter (past_separator _ _ taken)

pub returns-clause-shorter : goal.returns-clause-shorter
returns-clause-shorter g c = lt_of_lt_of_le (past_close _ _ c.loop-symbols-test.ensures.yes) c.loop-symbols.invariant.3
