use Rattle.wi_parser.proofs.Words.{Some, ap, ◌∙◌, sym, subst, one_less, atom, expression, Finds}
use Rattle.wi_parser.proofs.Shorter.{still_less}
use Rattle.wi_parser.proofs.grammar.Grammar.atom.Goals as goal

pub returns-in-Open-clause-finds : goal.returns-in-Open-clause-finds
unfolding atom
returns-in-Open-clause-finds g c =
    let is = rw c.in-Open.is at c.in-Some.ensures in
    subst (λ found. Finds found c.enclosed.result c.enclosed.new.symbols) (sym (ap (atom (expression c.args.self.now.depth)) is)) c.enclosed.ensures.finds

pub returns-in-Name-clause-finds : goal.returns-in-Name-clause-finds
unfolding atom
returns-in-Name-clause-finds g c =
    let is = rw c.in-Name.is at c.in-Some.ensures in
    subst (λ found. Finds found c.called.result c.called.new.symbols) (sym (ap (atom (expression c.args.self.now.depth)) is)) c.called.ensures.finds

pub returns-in-Number-clause-finds : goal.returns-in-Number-clause-finds
unfolding atom
returns-in-Number-clause-finds g c =
    let is = rw c.in-Number.is at c.in-Some.ensures in
    ap (atom (expression c.args.self.now.depth)) is ∙ ap (λ t. Some (t, c.next.new.self)) (sym c.number.ensures)

pub returns-in-Cell-clause-finds : goal.returns-in-Cell-clause-finds
unfolding atom
returns-in-Cell-clause-finds g c =
    let is = rw c.in-Cell.is at c.in-Some.ensures in
    ap (atom (expression c.args.self.now.depth)) is ∙ ap (λ t. Some (t, c.next.new.self)) (sym c.cell.ensures)

pub returns-in_ok-text-in-Text-clause-finds : goal.returns-in_ok-text-in-Text-clause-finds
unfolding atom
returns-in_ok-text-in-Text-clause-finds g c =
    let is = rw c.in-Text.is at c.in-Some.ensures in
    ap (atom (expression c.args.self.now.depth)) is ∙ ap (λ t. Some (t, c.next.new.self)) (sym c.in_ok-text-in-Text.ensures)

pub returns-in-Rectangle-clause-finds : goal.returns-in-Rectangle-clause-finds
unfolding atom
returns-in-Rectangle-clause-finds g c =
    let is = rw c.in-Rectangle.is at c.in-Some.ensures in
    ap (atom (expression c.args.self.now.depth)) is ∙ ap (λ t. Some (t, c.next.new.self)) (sym c.rectangle.ensures)

pub returns-in-Close-clause-finds : goal.returns-in-Close-clause-finds
unfolding atom
returns-in-Close-clause-finds g c = ap (atom (expression c.args.self.now.depth)) (rw c.in-Close.is at c.in-Some.ensures)

pub returns-in-Separator-clause-finds : goal.returns-in-Separator-clause-finds
unfolding atom
returns-in-Separator-clause-finds g c = ap (atom (expression c.args.self.now.depth)) (rw c.in-Separator.is at c.in-Some.ensures)

pub returns-in-Infix-clause-finds : goal.returns-in-Infix-clause-finds
unfolding atom
returns-in-Infix-clause-finds g c = ap (atom (expression c.args.self.now.depth)) (rw c.in-Infix.is at c.in-Some.ensures)

pub returns-in-Percent-clause-finds : goal.returns-in-Percent-clause-finds
unfolding atom
returns-in-Percent-clause-finds g c = ap (atom (expression c.args.self.now.depth)) (rw c.in-Percent.is at c.in-Some.ensures)

pub returns-in-Refused-clause-finds : goal.returns-in-Refused-clause-finds
unfolding atom
returns-in-Refused-clause-finds g c = ap (atom (expression c.args.self.now.depth)) (rw c.in-Refused.is at c.in-Some.ensures)

pub returns-in-Number-clause-shorter : goal.returns-in-Number-clause-shorter
returns-in-Number-clause-shorter g c = one_less _ _ _ c.in-Some.ensures

pub returns-in-Cell-clause-shorter : goal.returns-in-Cell-clause-shorter
returns-in-Cell-clause-shorter g c = one_less _ _ _ c.in-Some.ensures

pub returns-in-Rectangle-clause-shorter : goal.returns-in-Rectangle-clause-shorter
returns-in-Rectangle-clause-shorter g c = one_less _ _ _ c.in-Some.ensures

pub returns-in_ok-text-in-Text-clause-shorter : goal.returns-in_ok-text-in-Text-clause-shorter
returns-in_ok-text-in-Text-clause-shorter g c = one_less _ _ _ c.in-Some.ensures

pub returns-in-Open-clause-shorter : goal.returns-in-Open-clause-shorter
returns-in-Open-clause-shorter g c = still_less _ _ _ _ (one_less _ _ _ c.in-Some.ensures) c.enclosed.ensures.shorter

pub returns-in-WhatIf-clause-shorter : goal.returns-in-WhatIf-clause-shorter
returns-in-WhatIf-clause-shorter g c = still_less _ _ _ _ (one_less _ _ _ c.in-Some.ensures) c.what_if.ensures.shorter

pub returns-in-Name-clause-shorter : goal.returns-in-Name-clause-shorter
returns-in-Name-clause-shorter g c = still_less _ _ _ _ (one_less _ _ _ c.in-Some.ensures) c.called.ensures.shorter

pub returns-in-WhatIf-clause-finds : goal.returns-in-WhatIf-clause-finds
unfolding atom
returns-in-WhatIf-clause-finds g c =
    let is = rw c.in-WhatIf.is at c.in-Some.ensures in
    subst (λ found. Finds found c.what_if.result c.what_if.new.symbols) (sym (ap (atom (expression c.args.self.now.depth)) is)) c.what_if.ensures.finds

pub returns-in_default-clause-finds : goal.returns-in_default-clause-finds
unfolding atom
returns-in_default-clause-finds g c = ap (atom (expression c.args.self.now.depth)) c.in_default.ensures.0
