use Rattle.wi_fraction.proofs.Vocabulary.{arith, string_bytes, starts_with_of_append, decimal, IfOk-from_err, mod-lt}
use Rattle.std.proofs.Common.{◌≡◌, ◌<◌, ◌++◌}
use Rattle.wi_fraction.proofs.Decimals.{starts_pushed, digits_none, digits_next, rest_none, rest_next}
use Rattle.wi_fraction.proofs.decimal.push_digits.Goals as goal

pub loop-i-init : goal.loop-i-init
loop-i-init c = record { written = digits_none c.args.n c.args.d (string_bytes c.args.text.now); left = rest_none c.args.n c.args.d c.requires.below_one; below = c.requires.below_one }

pub loop-i-preserved : goal.loop-i-preserved
loop-i-preserved c =
    let some : 0 < c.args.d = omega (arith, c.requires.below_one) in
    let pushed : string_bytes c.push_str.new.self ≡ string_bytes c.loop-i.text ++ decimal c.tenfold-step.result.digit = rw c.format.ensures.text at c.in_ok-push_str.ensures.bytes in
    record {
      written = digits_next c.args.n c.loop-i.i c.args.d c.loop-i.rest c.tenfold-step.result.digit (string_bytes c.args.text.now) (string_bytes c.loop-i.text) (string_bytes c.push_str.new.self) c.loop-i.invariant.below c.loop-i.invariant.written c.loop-i.invariant.left c.tenfold-step.ensures.digit pushed;
      left = rest_next c.args.n c.loop-i.i c.args.d c.loop-i.rest c.tenfold-step.result.rest c.loop-i.invariant.left c.tenfold-step.ensures.rest;
      below = rw c.tenfold-step.ensures.rest (mod-lt _ some);
    }

pub returns-in_err-push_str-clause-ok : goal.returns-in_err-push_str-clause-ok
returns-in_err-push_str-clause-ok c = IfOk-from_err c.from_residual.result _ c.from_residual.ensures.0

pub returns-in_err-push_str-clause-kept : goal.returns-in_err-push_str-clause-kept
returns-in_err-push_str-clause-kept c =
    starts_pushed c.push_str.result (string_bytes c.push_str.new.self) (string_bytes c.loop-i.text) c.format.result.now (string_bytes c.args.text.now) c.push_str.ensures.bytes
    (starts_with_of_append (string_bytes c.loop-i.text) (string_bytes c.args.text.now) _ c.loop-i.invariant.written)

pub returns-clause-ok : goal.returns-clause-ok
returns-clause-ok c = let all : c.loop-i.i ≡ c.args.places = omega (arith, c.loop-i.auto.i-end, c.loop-i-test.false) in rw all at c.loop-i.invariant.written

pub returns-clause-kept : goal.returns-clause-kept
returns-clause-kept c = starts_with_of_append (string_bytes c.loop-i.text) (string_bytes c.args.text.now) _ c.loop-i.invariant.written
