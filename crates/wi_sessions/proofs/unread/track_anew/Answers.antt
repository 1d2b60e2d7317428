use Rattle.wi_sessions.proofs.Words.{◌∙◌, ◌++◌, ℕ, List, [], ap, sym, subst, AreLookedAt, HavePlaces}
use Rattle.wi_sessions.proofs.PlaceLemmas.{places_longer, places_looked}
use Rattle.wi_sessions.proofs.unread.track_anew.Goals as goal

pub returns-in_err-extend_from_slice-clause-places : goal.returns-in_err-extend_from_slice-clause-places
returns-in_err-extend_from_slice-clause-places c =
    λ words h. subst (λ (xs : List ℕ). HavePlaces words xs c.begin_anew.new.unread.items) (sym (c.in_err-extend_from_slice.ensures.items ∙ c.clear.ensures.items))
    (c.begin_anew.ensures.places words c.args.changed.now.items (sym (c.len.ensures ∙ c.args.changed.now.ok.0)) h)

pub returns-clause-places : goal.returns-clause-places
returns-clause-places c =
    λ words h. subst (λ (xs : List ℕ). HavePlaces words xs c.begin_anew.new.unread.items)
    (sym (c.in_ok-extend_from_slice.ensures.items ∙ ap (λ (xs : List ℕ). xs ++ c.args.cells.now) c.clear.ensures.items))
    (places_longer words [] c.begin_anew.new.unread.items c.args.cells.now (c.begin_anew.ensures.places words c.args.changed.now.items (sym (c.len.ensures ∙ c.args.changed.now.ok.0)) h))

pub returns-clause-looked : goal.returns-clause-looked
returns-clause-looked c =
    λ words h. subst (λ (xs : List ℕ). AreLookedAt c.args.cells.now xs c.begin_anew.new.unread.items)
    (sym (c.in_ok-extend_from_slice.ensures.items ∙ ap (λ (xs : List ℕ). xs ++ c.args.cells.now) c.clear.ensures.items))
    (places_looked words [] c.begin_anew.new.unread.items c.args.cells.now (c.begin_anew.ensures.places words c.args.changed.now.items (sym (c.len.ensures ∙ c.args.changed.now.ok.0)) h))
