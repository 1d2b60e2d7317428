use Rattle.wi_fraction.proofs.Vocabulary.{◌∙◌, sym, ap, subst, arith, rules, string_bytes, OnOk, starts_with_trans, ◌^◌, decimal, IfOk-from_err, mod-lt, append-nil, sign_text, size_text, padded, places}
use Rattle.std.proofs.Common.{◌≡◌, ◌++◌, ◌∷◌, [], ◌*◌, ◌/◌, ◌%◌, Some}
use Rattle.wi_fraction.proofs.Decimals.{starts_joined, exact_none, exact_whole, exact_point, exact_written}
use Rattle.wi_fraction.proofs.decimal.push_exact.Goals as goal

pub returns-in-None-clause-ok : goal.returns-in-None-clause-ok
returns-in-None-clause-ok c = rw (exact_none c.args.n c.args.d c.in-None.ensures, ← c.format.ensures.text, ← c.format-in-None.ensures.text) c.push_joined.ensures.ok

pub returns-in-Some-eq0-clause-ok : goal.returns-in-Some-eq0-clause-ok
returns-in-Some-eq0-clause-ok c =
    let none : Some 0 ≡ places 126 c.args.d = first_of (grind (arith, c.in-Some-eq0.ensures, c.in-Some-eq0.field-0-is), search (rules, c.in-Some-eq0.ensures)) in
    rw (exact_whole c.args.n c.args.d none, sym (append-nil (decimal c.args.n)), ← c.format-in-Some-eq0.ensures.text) c.push_joined-in-Some-eq0.ensures.ok

pub returns-in_ok-push_joined-in-Some-clause-ok : goal.returns-in_ok-push_joined-in-Some-clause-ok
returns-in_ok-push_joined-in-Some-clause-ok c =
    let n = c.args.n in
    let d = c.args.d in
    let k = c.in-Some.k in
    let old = string_bytes c.args.text.now in
    let mid = string_bytes c.push_joined-in-Some.new.text in
    let digits = padded k (n % d * 10 ^ k / d) in
    let front : mid ≡ old ++ (sign_text c.args.negative ++ (decimal (n / d) ++ (46 ∷ []))) = rw (c.format-in-Some.ensures.text, c.divide.ensures) at c.in_ok-push_joined-in-Some.ensures.ok in
    let text : size_text (places 126 d) n d ≡ decimal (n / d) ++ 46 ∷ digits = exact_point n d k c.in-Some.ensures (omega (arith, c.in-Some.k-test)) c.requires.above_zero in
    let whole : mid ++ digits ≡ old ++ (sign_text c.args.negative ++ size_text (places 126 d) n d) = exact_written old (sign_text c.args.negative) (decimal (n / d)) digits mid front ∙ ap (λ x. old ++ (sign_text c.args.negative ++ x)) (sym text) in
    subst (λ x. OnOk c.push_digits.result (string_bytes c.push_digits.new.text ≡ x)) whole (rw c.remainder.ensures at c.push_digits.ensures.ok)

pub push_joined-requires : goal.push_joined-requires
push_joined-requires c = omega (arith, c.format.ensures.short, c.format-in-None.ensures.short)

pub push_joined-requires-in-Some-eq0 : goal.push_joined-requires-in-Some-eq0
push_joined-requires-in-Some-eq0 c = omega (arith, c.format-in-Some-eq0.ensures.short)

pub push_joined-requires-in-Some : goal.push_joined-requires-in-Some
push_joined-requires-in-Some c = omega (arith, c.format-in-Some.ensures.short)

pub returns-in_err-push_joined-in-Some-clause-ok : goal.returns-in_err-push_joined-in-Some-clause-ok
returns-in_err-push_joined-in-Some-clause-ok c = IfOk-from_err c.from_residual.result _ c.from_residual.ensures.0

pub returns-in_err-push_joined-in-Some-clause-kept : goal.returns-in_err-push_joined-in-Some-clause-kept
returns-in_err-push_joined-in-Some-clause-kept c = starts_joined c.push_joined-in-Some.result _ _ _ c.push_joined-in-Some.ensures.ok c.push_joined-in-Some.ensures.err

pub push_digits-requires-clause-below_one : goal.push_digits-requires-clause-below_one
push_digits-requires-clause-below_one c = rw c.remainder.ensures (mod-lt c.args.n c.requires.above_zero)

pub returns-in-None-clause-kept : goal.returns-in-None-clause-kept
returns-in-None-clause-kept c = starts_joined c.push_joined.result _ _ _ c.push_joined.ensures.ok c.push_joined.ensures.err

pub returns-in-Some-eq0-clause-kept : goal.returns-in-Some-eq0-clause-kept
returns-in-Some-eq0-clause-kept c = starts_joined c.push_joined-in-Some-eq0.result _ _ _ c.push_joined-in-Some-eq0.ensures.ok c.push_joined-in-Some-eq0.ensures.err

pub returns-in_ok-push_joined-in-Some-clause-kept : goal.returns-in_ok-push_joined-in-Some-clause-kept
returns-in_ok-push_joined-in-Some-clause-kept c =
    starts_with_trans (string_bytes c.push_digits.new.text) (string_bytes c.push_joined-in-Some.new.text) (string_bytes c.args.text.now) c.push_digits.ensures.kept
    (starts_joined c.push_joined-in-Some.result _ _ _ c.push_joined-in-Some.ensures.ok c.push_joined-in-Some.ensures.err)
