use Rattle.wi_fraction.proofs.Vocabulary.{rules, ap, sym, subst, string_bytes, IsUtf8-string_bytes, IsCharBoundary, decimal_text}
use Rattle.std.proofs.Common.{length}
use Rattle.wi_fraction.proofs.Decimals.{cut_place}
use Rattle.wi_fraction.proofs.Fraction.push_decimal.Goals as goal

pub truncate-requires : goal.truncate-requires
truncate-requires c =
    let new = c.push_exact-pushed.new.text in
    let whole = cut_place new (string_bytes c.args.text.now) (IsUtf8-string_bytes c.args.text.now) c.push_exact-pushed.ensures.kept in
    let cut = subst (IsCharBoundary (string_bytes new)) (sym (ap length c.as_str-before.ensures.value)) whole in
    λ _. (cut.0, λ _. cut.1)

pub returns-else-is_err-clause-ok : goal.returns-else-is_err-clause-ok
unfolding decimal_text
returns-else-is_err-clause-ok c = search rules

pub returns-else-is_err-clause-err : goal.returns-else-is_err-clause-err
returns-else-is_err-clause-err c = search rules
