use Rattle.wi_parser.proofs.Words.{arith, length, Some, ap, sym, ◌∙◌, ◌∷◌, [], option_and_then, option_map, what_if, then_close, pair_of}
use Rattle.wi_parser.proofs.Marks.{close-length}
use Rattle.wi_parser.proofs.WhatIfs.{no_cell, no_pair, one_pair, second_pair}
use Rattle.wi_parser.proofs.what_if.what_if.Goals as goal

pub returns-in_default-clause-finds : goal.returns-in_default-clause-finds
returns-in_default-clause-finds c = no_cell _ c.in_default.ensures.finds

pub returns-in_default-pair-clause-finds : goal.returns-in_default-pair-clause-finds
returns-in_default-pair-clause-finds c = no_pair _ _ _ c.in-Some.ensures.finds c.in_default-pair.ensures.finds

pub returns-then-take_close-clause-finds : goal.returns-then-take_close-clause-finds
returns-then-take_close-clause-finds c =
    one_pair _ _ _ _ _ _ c.in-Some.ensures.finds c.in-Some-pair.ensures.finds c.if-take_close.ensures.yes
    ∙ ap (λ t. Some (t, c.take_close.new.self)) (sym c.in_ok-what_if.ensures)

pub returns-then-take_close-clause-shorter : goal.returns-then-take_close-clause-shorter
returns-then-take_close-clause-shorter c =
    let closed = close-length _ _ c.if-take_close.ensures.yes in
    let first = c.in-Some-pair.ensures.shorter in
    let formula = c.in-Some.ensures.shorter in
    omega arith

pub returns-in_default-pair-2-clause-finds : goal.returns-in_default-pair-2-clause-finds
returns-in_default-pair-2-clause-finds c =
    let p = pair_of c.in-Some-pair.first in
    second_pair _ _ _ _ _ _ c.in-Some.ensures.finds c.in-Some-pair.ensures.finds c.if-take_close.ensures.no
    ∙ ap (option_and_then (λ q. then_close (what_if c.in-Some.formula_cell (p ∷ q.0 ∷ [])) q.1)) c.in_default-pair-2.ensures.finds

pub returns-then-not-take_close-clause-finds : goal.returns-then-not-take_close-clause-finds
returns-then-not-take_close-clause-finds c =
    let f = c.in-Some.formula_cell in
    let p = pair_of c.in-Some-pair.first in
    let q = pair_of c.in-Some-pair-2.second in
    second_pair _ _ _ _ _ _ c.in-Some.ensures.finds c.in-Some-pair.ensures.finds c.if-take_close.ensures.no
    ∙ ap (option_and_then (λ q. then_close (what_if f (p ∷ q.0 ∷ [])) q.1)) c.in-Some-pair-2.ensures.finds
    ∙ ap (option_map (λ rest. (what_if f (p ∷ q ∷ []), rest))) c.if-not-take_close.ensures.no.0

pub returns-clause-finds : goal.returns-clause-finds
returns-clause-finds c =
    let f = c.in-Some.formula_cell in
    let p = pair_of c.in-Some-pair.first in
    let q = pair_of c.in-Some-pair-2.second in
    second_pair _ _ _ _ _ _ c.in-Some.ensures.finds c.in-Some-pair.ensures.finds c.if-take_close.ensures.no
    ∙ ap (option_and_then (λ q. then_close (what_if f (p ∷ q.0 ∷ [])) q.1)) c.in-Some-pair-2.ensures.finds
    ∙ ap (option_map (λ rest. (what_if f (p ∷ q ∷ []), rest))) c.if-not-take_close.ensures.yes
    ∙ ap (λ t. Some (t, c.take_close-2.new.self)) (sym c.in_ok-what_if-2.ensures)

pub returns-clause-shorter : goal.returns-clause-shorter
returns-clause-shorter c =
    let closed = close-length _ _ c.if-not-take_close.ensures.yes in
    let rest = ap length c.if-take_close.ensures.no.1 in
    let second = c.in-Some-pair-2.ensures.shorter in
    let first = c.in-Some-pair.ensures.shorter in
    let formula = c.in-Some.ensures.shorter in
    omega arith
