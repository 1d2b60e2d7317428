use Rattle.wi_sessions.proofs.Words.{◌∙◌, ◌++◌, ℕ, List, ap, is_one_of, is_in, on_err}
use Rattle.std.specs.Prelude.{filter}
use Rattle.wi_sessions.proofs.NoneLemmas.{nil_front, nil_end}
use Rattle.wi_sessions.proofs.pending.looked_up.Goals as goal

pub returns-clause-same : goal.returns-clause-same
returns-clause-same c =
    λ q. c.put_in_order.ensures.same q
    ∙ ap (λ (xs : List ℕ). is_one_of xs q) (c.in_ok-push_those-2.ensures ∙ ap (λ (xs : List ℕ). xs ++ filter (is_in c.args.words.now.entries c.args.i) c.args.own.now)
    (c.in_ok-push_those.ensures ∙ ap (λ (xs : List ℕ). xs ++ filter (is_in c.args.words.now.entries c.args.i) c.args.behind.now) c.new-found.ensures.items))

pub returns-in_err-push_those-clause-some : goal.returns-in_err-push_those-clause-some
returns-in_err-push_those-clause-some c =
    let words = c.args.words.now.entries in
    on_err c.from_residual.result (λ none. c.in_err-push_those.ensures (nil_front (filter (is_in words c.args.i) c.args.behind.now) (filter (is_in words c.args.i) c.args.own.now) none))

pub returns-in_err-push_those-2-clause-some : goal.returns-in_err-push_those-2-clause-some
returns-in_err-push_those-2-clause-some c =
    let words = c.args.words.now.entries in
    on_err c.from_residual-in_err-push_those-2.result (λ none. c.in_err-push_those-2.ensures (nil_end (filter (is_in words c.args.i) c.args.behind.now) (filter (is_in words c.args.i) c.args.own.now) none))
