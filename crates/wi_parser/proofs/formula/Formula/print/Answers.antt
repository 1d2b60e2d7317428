use Rattle.wi_parser.proofs.Words.{rules, ap, sym, subst, length, string_bytes, IsUtf8-string_bytes, IsCharBoundary}
use Rattle.wi_parser.proofs.PrintLemmas.{cut_place}
use Rattle.wi_parser.proofs.FormulaTrees.{printed_spells, printed_again}
use Rattle.wi_parser.proofs.formula.Formula.print.Goals as goal

pub truncate-requires : goal.truncate-requires
truncate-requires c =
    let new = c.push_formula-pushed.new.out in
    let whole = cut_place new (string_bytes c.args.out.now) (IsUtf8-string_bytes c.args.out.now) c.push_formula-pushed.ensures.kept in
    let cut = subst (IsCharBoundary (string_bytes new)) (sym (ap length c.as_str-before.ensures.value)) whole in
    λ _. (cut.0, λ _. cut.1)

pub returns-then-is_err-clause-err : goal.returns-then-is_err-clause-err
returns-then-is_err-clause-err c = search rules

pub returns-then-is_err-clause-spells : goal.returns-then-is_err-clause-spells
returns-then-is_err-clause-spells c = printed_spells c.self.inside.expr _ c.self.view_is c.self.invariant.tree

pub returns-then-is_err-clause-again : goal.returns-then-is_err-clause-again
returns-then-is_err-clause-again c = printed_again c.self.inside.expr _ c.self.view_is c.self.invariant.tree

pub returns-else-is_err-clause-spells : goal.returns-else-is_err-clause-spells
returns-else-is_err-clause-spells c = printed_spells c.self.inside.expr _ c.self.view_is c.self.invariant.tree

pub returns-else-is_err-clause-again : goal.returns-else-is_err-clause-again
returns-else-is_err-clause-again c = printed_again c.self.inside.expr _ c.self.view_is c.self.invariant.tree
