use Rattle.wi_lexer.proofs.Words.{◌-◌, length, sym, ap, ◌∙◌, subst, arith, IsCharBoundary, IsCharBoundary-end}
use Rattle.wi_lexer.proofs.CutLemmas.{blanks_cut, token_cut}
use Rattle.wi_lexer.proofs.TokenLemmas.{token_sound}
use Rattle.wi_lexer.proofs.ScanLemmas.{later_end, nothing_is, within_front, no_bytes, ahead_is, longest_is, front_is, none_is, tail_is, some_bytes, span_is, slice_is}
use Rattle.wi_lexer.proofs.lexer.Lexer.next_token.Goals as goal

pub split_at-requires : goal.split_at-requires
split_at-requires c =
    let cut = blanks_cut c.as_bytes.result.now c.as_bytes.ensures.utf8 in
    rw (← c.as_bytes.ensures.value, c.blanks_len-blanks.ensures.value) cut

pub returns-in_default : goal.returns-in_default
returns-in_default c =
    let here = ahead_is c.args.self.now c.self.inside.source.now c.self.inside.rest.now c.as_bytes.result.now c.split_at.result.1.now c.blanks_len-blanks.result c.self.view_is c.as_bytes.ensures.value c.blanks_len-blanks.ensures.value c.split_at.ensures.back in
    let none = none_is c.args.self.now c.split_at.result.1.now c.as_bytes-2.result.now (sym c.token_at.ensures ∙ c.in_default.is) c.as_bytes-2.ensures.value here in
    (some_bytes c.args.self.now c.split_at.result.1.now c.is_empty.result c.is_empty.ensures c.if-is_empty.false here, none, record { rest = nothing_is c.split_at.result.1.now c.split_at-2.result.1.now c.split_at-2.ensures.back; source = ap (λ s. s.source) c.self.view_is })

pub split_at-requires-3 : goal.split_at-requires-3
split_at-requires-3 c =
    let longest = token_sound c.as_bytes-2.result.now c.in-Some.kind c.in-Some.len (sym c.token_at.ensures ∙ c.in-Some.is) in
    subst (λ bs. IsCharBoundary bs c.in-Some.len) c.as_bytes-2.ensures.value
    (token_cut c.as_bytes-2.result.now c.in-Some.kind c.in-Some.len c.as_bytes-2.ensures.utf8 longest)

pub returns : goal.returns
returns c =
    let here = ahead_is c.args.self.now c.self.inside.source.now c.self.inside.rest.now c.as_bytes.result.now c.split_at.result.1.now c.blanks_len-blanks.result c.self.view_is c.as_bytes.ensures.value c.blanks_len-blanks.ensures.value c.split_at.ensures.back in
    let source = ap (λ s. s.source) c.self.view_is in
    let tail = tail_is c.self.inside.source.now c.self.inside.rest.now c.split_at.result.1.now c.blanks_len-blanks.result c.self.invariant.0 c.self.invariant.1 c.split_at.ensures.back (rw c.as_bytes.ensures.value at c.blanks_len-blanks.ensures.within) in
    record {
      longest = longest_is c.args.self.now c.split_at.result.1.now c.as_bytes-2.result.now c.in-Some.kind c.in-Some.len (length c.split_at-3.result.0.now) (sym c.token_at.ensures ∙ c.in-Some.is) c.as_bytes-2.ensures.value here c.split_at-3.ensures.front_len;
      front = front_is c.args.self.now c.split_at.result.1.now c.split_at-3.result.0.now c.split_at-3.result.1.now c.in-Some.len here c.split_at-3.ensures.front c.split_at-3.ensures.back;
      source = source;
      span = span_is c.args.self.now c.self.inside.source.now c.split_at.result.1.now (omega arith) here source;
      slice = slice_is c.args.self.now c.self.inside.source.now c.split_at.result.1.now c.split_at-3.result.0.now (length c.self.inside.source.now - length c.split_at.result.1.now) c.in-Some.len tail source c.split_at-3.ensures.front c.split_at-3.ensures.front_len;
    }

pub split_at-requires-2 : goal.split_at-requires-2
split_at-requires-2 c = IsCharBoundary-end c.split_at.result.1.now

pub invariant_of-self : goal.invariant_of-self
invariant_of-self c =
    let p = later_end c.self.inside.source.now c.self.inside.rest.now c.split_at.result.1.now c.blanks_len-blanks.result c.self.invariant.0 c.self.invariant.1 c.split_at.ensures.back
    (rw c.as_bytes.ensures.value at c.blanks_len-blanks.ensures.within) in
    later_end c.self.inside.source.now c.split_at.result.1.now c.split_at-2.result.1.now (length c.split_at.result.1.now) p.0 p.1 c.split_at-2.ensures.back (omega arith)

pub invariant_of-self-in_default : goal.invariant_of-self-in_default
invariant_of-self-in_default c =
    let p = later_end c.self.inside.source.now c.self.inside.rest.now c.split_at.result.1.now c.blanks_len-blanks.result c.self.invariant.0 c.self.invariant.1 c.split_at.ensures.back
    (rw c.as_bytes.ensures.value at c.blanks_len-blanks.ensures.within) in
    later_end c.self.inside.source.now c.split_at.result.1.now c.split_at-2.result.1.now (length c.split_at.result.1.now) p.0 p.1 c.split_at-2.ensures.back (omega arith)

pub returns-then-is_empty : goal.returns-then-is_empty
returns-then-is_empty c =
    let here = ahead_is c.args.self.now c.self.inside.source.now c.self.inside.rest.now c.as_bytes.result.now c.split_at.result.1.now c.blanks_len-blanks.result c.self.view_is c.as_bytes.ensures.value c.blanks_len-blanks.ensures.value c.split_at.ensures.back in (
      sym here ∙ no_bytes c.split_at.result.1.now c.is_empty.result c.is_empty.ensures c.if-is_empty.true,
      record {
        rest = nothing_is c.split_at.result.1.now c.split_at-2.result.1.now c.split_at-2.ensures.back;
        source = ap (λ s. s.source) c.self.view_is;
      },
    )

pub overflow_sub-start : goal.overflow_sub-start
overflow_sub-start c =
    let p = later_end c.self.inside.source.now c.self.inside.rest.now c.split_at.result.1.now c.blanks_len-blanks.result c.self.invariant.0 c.self.invariant.1 c.split_at.ensures.back
    (rw c.as_bytes.ensures.value at c.blanks_len-blanks.ensures.within) in
    p.0

pub invariant_of-self-2 : goal.invariant_of-self-2
invariant_of-self-2 c =
    let p = later_end c.self.inside.source.now c.self.inside.rest.now c.split_at.result.1.now c.blanks_len-blanks.result c.self.invariant.0 c.self.invariant.1 c.split_at.ensures.back
    (rw c.as_bytes.ensures.value at c.blanks_len-blanks.ensures.within) in
    later_end c.self.inside.source.now c.split_at.result.1.now c.split_at-3.result.1.now c.in-Some.len p.0 p.1 c.split_at-3.ensures.back
    (within_front c.split_at.result.1.now c.split_at-3.result.0.now c.in-Some.len c.split_at-3.ensures.front c.split_at-3.ensures.front_len)
