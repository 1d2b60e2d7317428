use Rattle.wi_sessions.proofs.Words.{◌∙◌, ◌&&◌, ℕ, Option, ap, length, not, refl, sym, nat_lt, unwrap_or, list_all, AllPending, is_one_of, has_bit, is_in, is_staged}
use Rattle.std.proofs.Common.{eq-eqb, eqb-true}
use Rattle.wi_sessions.proofs.WordLemmas.{Words}
use Rattle.wi_sessions.proofs.PendingLemmas.{each_has, none_has}
use Rattle.wi_sessions.proofs.pending.Pending.all_have.Goals as goal

pub returns-in-Some : goal.returns-in-Some
returns-in-Some c =
    let words = c.self.inside.words.entries in
    each_has words c.self.inside.staged.items c.self.inside.changed.items c.self.inside.unread.items c.args.at c.without-word.result c.bits_of.result (length c.self.inside.unread.items) c.are_alike.result
    refl c.self.invariant
    (λ j. c.without-word.ensures j ∙ ap (λ b. b && not (has_bit j c.staged_of.result)) (ap (λ (o : Option ℕ). has_bit j (unwrap_or o 0)) (sym c.in-Some.is ∙ c.found.ensures))
    ∙ ap (λ b. is_in words j c.args.at && not b) (c.staged_of.ensures j)
    ∙ ap (λ (rs : Words). is_in words j c.args.at && not (is_staged rs j c.args.at)) c.deref.ensures.value)
    (λ j. c.bits_of.ensures j ∙ ap (λ m. nat_lt j m) (c.len.ensures ∙ c.self.inside.unread.ok.0)) c.are_alike.ensures.alike c.are_alike.ensures.unlike
    ∙ ap (λ (p : AllPending). list_all (λ cells. is_one_of cells c.args.at) p.pending) c.self.view_is

pub returns-in-None : goal.returns-in-None
returns-in-None c =
    none_has c.self.inside.words.entries c.self.inside.staged.items c.args.at (length c.self.inside.unread.items) c.is_empty.result c.self.invariant.order (sym c.found.ensures ∙ c.in-None.is)
    (λ t. sym c.self.inside.unread.ok.0 ∙ eqb-true c.self.inside.unread.len 0 (sym c.is_empty.ensures ∙ t)) (λ e. c.is_empty.ensures ∙ eq-eqb c.self.inside.unread.len 0 (c.self.inside.unread.ok.0 ∙ e))
    ∙ ap (λ (p : AllPending). list_all (λ cells. is_one_of cells c.args.at) p.pending) c.self.view_is
