use Rattle.wi_lexer.proofs.Words.{string_bytes, rules, refl, arith, ap, sym, ◌∙◌, ◌++◌, ◌∷◌, [], strip_prefix_char}
use Rattle.wi_lexer.proofs.QuoteLemmas.{piece_is, rest_is, read_first, read_more, read_last}
use Rattle.wi_lexer.proofs.text.text_content.Goals as goal

pub loop-piece-init : goal.loop-piece-init
loop-piece-init c =
    let stripped = strip_prefix_char 34 c.args.text.now c.strip_prefix.result c.strip_prefix.ensures.cases (omega arith) in
    (c.unwrap_or-rest.utf8, rw (c.new-content.ensures.bytes, c.unwrap_or-rest.ensures) (read_first c.args.text.now c.strip_prefix.result _ stripped refl))

pub returns-in_default-strip_prefix : goal.returns-in_default-strip_prefix
returns-in_default-strip_prefix c =
    let l = c.loop-piece in
    let cut = piece_is l.rest.now c.split_once.result _ c.split_once.ensures.cases c.in-Some.is in
    let none = rw c.in_default-strip_prefix.is at (strip_prefix_char 34 c.in-Some.after.now c.strip_prefix-in-Some.result c.strip_prefix-in-Some.ensures.cases (omega arith)) in
    c.in_ok-push_str.ensures.bytes ∙ read_last (string_bytes l.content) l.rest.now c.args.text.now c.in-Some.piece.now c.in-Some.after.now l.invariant.1 cut none

pub loop-piece-preserved : goal.loop-piece-preserved
loop-piece-preserved c =
    let l = c.loop-piece in
    let cut = piece_is l.rest.now c.split_once.result _ c.split_once.ensures.cases c.in-Some.is in
    let quote = rw c.in-Some-strip_prefix.is at (strip_prefix_char 34 c.in-Some.after.now c.strip_prefix-in-Some.result c.strip_prefix-in-Some.ensures.cases (omega arith)) in
    let one = c.push.ensures.ascii (omega arith) in
    let written = c.in_ok-push.ensures.bytes ∙ ap (λ x. string_bytes c.push_str.new.self ++ x) one ∙ ap (λ x. x ++ 34 ∷ []) c.in_ok-push_str.ensures.bytes in
    (search rules, rw written (read_more (string_bytes l.content) l.rest.now c.args.text.now c.in-Some.piece.now c.in-Some.after.now c.in-Some-strip_prefix.next.now l.invariant.1 cut quote))

pub returns : goal.returns
returns c =
    let l = c.loop-piece in
    let rest = rest_is l.rest.now c.split_once.result c.split_once.ensures.cases c.in_default.is in
    c.in_ok-push_str-2.ensures.bytes ∙ ap (λ x. string_bytes l.content ++ x) (sym rest) ∙ l.invariant.1
