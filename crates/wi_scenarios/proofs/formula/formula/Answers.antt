use Rattle.wi_scenarios.proofs.Words.{Ok, refl, state_of, Desk, Formula, cell, IsStep}
use Rattle.wi_scenarios.proofs.CallLemmas.{into_lacked, into_done}
use Rattle.wi_scenarios.proofs.LookSteps.{formula_of, told_of}
use Rattle.wi_scenarios.proofs.formula.formula.Goals as goal

pub returns-in_err-push_content : goal.returns-in_err-push_content
returns-in_err-push_content g c =
    λ (desk : Desk). let s = state_of (g.C.Calculator.stored c.args.calculator.now) desk in
    into_lacked (IsStep s (Formula (cell c.args.at))) (Ok (told_of s c.args.at)) c.from_residual.result s s c.args.out.now.items c.push_content.new.out.items (formula_of s c.args.at c.is_placed.ensures) refl c.from_residual.ensures.1 refl c.in_err-push_content.ensures.err

pub returns : goal.returns
returns g c =
    λ (desk : Desk). let s = state_of (g.C.Calculator.stored c.args.calculator.now) desk in
    into_done (IsStep s (Formula (cell c.args.at))) s s c.args.out.now.items c.push_content.new.out.items _ (formula_of s c.args.at c.is_placed.ensures) c.in_ok-push_content.ensures.ok refl
