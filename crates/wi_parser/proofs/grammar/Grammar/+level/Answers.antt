use Rattle.wi_parser.proofs.Words.{arith, ◌<◌, ◌-◌, length, Some, ap, ◌∙◌, sym, subst, err_from_is_err_and, lt_trans, read_then, level, expression, operator_within, tree_of}
use Rattle.wi_parser.proofs.Marks.{within_is, from_powers}
use Rattle.wi_parser.proofs.Turns.{fails_as}
use Rattle.wi_parser.proofs.Climbing.{loops, line_loops, loops_stop, loops_fail, loops_more}
use Rattle.wi_parser.proofs.Shorter.{past_operator}
use Rattle.wi_parser.proofs.grammar.Grammar.+level.Goals as goal

pub returns-in_err-left-clause-finds : goal.returns-in_err-left-clause-finds
returns-in_err-left-clause-finds g t c =
    let i = expression c.args.self.now.depth in
    let l = c.args.level in
    let p = err_from_is_err_and c.from_residual.result c.from_residual.ensures.1 in
    rw (p.1, p.2) (fails_as c.in_err-left.field-0.0 _ _
    (λ none. line_loops i l c.args.symbols.now c.requires.from_percents ∙ ap (read_then (loops i l)) none)
    c.in_err-left.ensures.finds)

pub loop-op-init : goal.loop-op-init
loop-op-init g t c =
    let i = expression c.args.self.now.depth in
    let l = c.args.level in
    (line_loops i l c.args.symbols.now c.requires.from_percents ∙ ap (read_then (loops i l)) c.in_ok-left.ensures.finds, c.in_ok-left.ensures.shorter)

pub returns-in_err-right-clause-finds : goal.returns-in_err-right-clause-finds
returns-in_err-right-clause-finds g t c =
    let d = c.args.self.now.depth in
    let l = c.args.level in
    let s = c.loop-op in
    let us = c.take_operator.new.self in
    let next = within_is l s.symbols us _ c.in-Some.ensures in
    let p = err_from_is_err_and c.from_residual-in_err-right.result c.from_residual-in_err-right.ensures.1 in
    rw (p.1, p.2) (fails_as c.in_err-right.field-0.0 _ _
    (λ none.
    s.invariant.0 ∙ ap (loops (expression d) l (tree_of s.left)) next.1
    ∙ loops_fail d c.in-Some.op (tree_of s.left) us l next.0 (ap (λ k. level (expression d) (k - 1) us) (sym c.level_of.ensures) ∙ none))
    c.in_err-right.ensures.finds)

pub loop-op-preserved : goal.loop-op-preserved
loop-op-preserved g t c =
    let d = c.args.self.now.depth in
    let l = c.args.level in
    let s = c.loop-op in
    let us = c.take_operator.new.self in
    let rest = c.level.new.symbols in
    let next = within_is l s.symbols us _ c.in-Some.ensures in
    let more = c.in_ok-right.ensures in
    let own = c.level_of.ensures in (
      s.invariant.0 ∙ ap (loops (expression d) l (tree_of s.left)) next.1
          ∙ loops_more d c.in-Some.op (tree_of s.left) us l (tree_of c.in_ok-right.right) rest next.0 (ap (λ k. level (expression d) (k - 1) us) (sym own) ∙ more.finds)
          (ap (λ k. operator_within (k - 1) rest) (sym own) ∙ more.ended)
          ∙ ap (λ t. loops (expression d) l t rest) (sym c.in_ok-left-2.ensures),
      lt_trans (lt_trans more.shorter (past_operator _ _ _ _ c.in-Some.ensures)) s.invariant.1,
    )

pub returns-clause-finds : goal.returns-clause-finds
returns-clause-finds g t c =
    let s = c.loop-op in
    s.invariant.0 ∙ loops_stop (expression c.args.self.now.depth) c.args.level c.args.level (tree_of s.left) s.symbols (omega arith) c.in_default.ensures.0
    ∙ ap (λ ws. Some (tree_of s.left, ws)) (sym c.in_default.ensures.1)

pub returns-clause-shorter : goal.returns-clause-shorter
returns-clause-shorter g t c =
    subst (λ ws. length ws < length c.args.symbols.now) (sym c.in_default.ensures.1) c.loop-op.invariant.1

pub returns-clause-ended : goal.returns-clause-ended
returns-clause-ended g t c = ap (operator_within c.args.level) c.in_default.ensures.1 ∙ c.in_default.ensures.0

pub loop-op-smaller : goal.loop-op-smaller
loop-op-smaller g t c = lt_trans c.in_ok-right.ensures.shorter (past_operator _ _ _ _ c.in-Some.ensures)

pub level-requires : goal.level-requires
level-requires g t c =
    let next = within_is c.args.level c.loop-op.symbols c.take_operator.new.self _ c.in-Some.ensures in
    let own = c.level_of.ensures in
    let least = from_powers c.in-Some.op in
    λ κs within. (omega (arith, next.0), (within, (c.requires.nests, omega arith)))
