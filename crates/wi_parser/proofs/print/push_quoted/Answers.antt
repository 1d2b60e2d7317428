use Rattle.wi_parser.proofs.Words.{rules, ap, sym, subst, ◌∙◌, ◌++◌, ◌∷◌, [], string_bytes, arith, starts_with_of_eq, common_steps, IfOk-from_err, StartsWith, flat_map, doubled}
use Rattle.wi_parser.proofs.PrintLemmas.{starts_same, starts_more, starts_pushed}
use Rattle.wi_parser.proofs.Quotes.{piece_doubled, rest_doubled, piece_written, last_written}
use Rattle.wi_parser.proofs.print.push_quoted.Goals as goal

pub loop-piece-preserved : goal.loop-piece-preserved
loop-piece-preserved c =
    let l = c.loop-piece in
    let out = string_bytes l.out in
    let old = string_bytes c.args.out.now in
    let piece = c.in-Some.piece.now in
    let after = c.in-Some.after.now in
    let cut = piece_doubled l.rest.now c.split_once.result _ c.split_once.ensures.cases c.in-Some.is in
    let written = c.in_ok-push_str-3.ensures.bytes ∙ ap (λ x. x ++ 34 ∷ 34 ∷ []) c.in_ok-push_str-2.ensures.bytes in
    record {
      utf8 = search rules;
      written = ap (λ x. x ++ flat_map doubled after) written ∙ piece_written out _ l.rest.now piece after l.invariant.written cut;
      kept = subst (λ x. StartsWith x old) (sym written) (starts_more (out ++ piece) (34 ∷ 34 ∷ []) old (starts_more out piece old l.invariant.kept));
    }

pub returns : goal.returns
returns c =
    let l = c.loop-piece in
    let plain = rest_doubled l.rest.now c.split_once.result c.split_once.ensures.cases c.in_default.is in
    record {
      ok = last_written c.push_str-3.result (string_bytes c.args.out.now) c.args.content.now l.rest.now _ _ _ l.invariant.written plain c.in_ok-push_str-4.ensures.bytes c.push_str-3.ensures.bytes;
      kept = starts_pushed c.push_str-3.result _ _ _ _ c.push_str-3.ensures.bytes (starts_same _ _ _ c.in_ok-push_str-4.ensures.bytes (starts_more _ _ _ c.loop-piece.invariant.kept));
    }

pub returns-in_err-push_str : goal.returns-in_err-push_str
returns-in_err-push_str c = record { ok = IfOk-from_err _ _ c.from_residual.ensures.0; kept = starts_with_of_eq _ _ c.in_err-push_str.ensures.bytes }

pub returns-in_err-push_str-3 : goal.returns-in_err-push_str-3
returns-in_err-push_str-3 c =
    record { ok = IfOk-from_err _ _ c.from_residual-in_err-push_str-3.ensures.0; kept = starts_same _ _ _ c.in_err-push_str-3.ensures.bytes (starts_same _ _ _ c.in_ok-push_str-2.ensures.bytes (starts_more _ _ _ c.loop-piece.invariant.kept)) }

pub loop-piece-init : goal.loop-piece-init
loop-piece-init c = grind (arith, common_steps)

pub returns-in_err-push_str-2 : goal.returns-in_err-push_str-2
returns-in_err-push_str-2 c =
    record { ok = IfOk-from_err _ _ c.from_residual-in_err-push_str-2.ensures.0; kept = starts_same _ _ _ c.in_err-push_str-2.ensures.bytes c.loop-piece.invariant.kept }

pub returns-in_err-push_str-4 : goal.returns-in_err-push_str-4
returns-in_err-push_str-4 c =
    record { ok = IfOk-from_err _ _ c.from_residual-in_err-push_str-4.ensures.0; kept = starts_same _ _ _ c.in_err-push_str-4.ensures.bytes c.loop-piece.invariant.kept }
