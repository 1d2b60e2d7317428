use Rattle.wi_lookup_functions.proofs.Words.{ℕ, Ok, sym, ap, ◌∙◌, subst, ◌<◌, length, cells_of}
use Rattle.wi_lookup_functions.proofs.Finding.{place_found, place_none, place_within}
use Rattle.wi_lookup_functions.proofs.search.place_along.Goals as goal

pub returns-in-Ok-Some-clause-within : goal.returns-in-Ok-Some-clause-within
returns-in-Ok-Some-clause-within g c =
    subst (λ (i : ℕ). i < length (cells_of c.args.line)) (sym c.steps.ensures)
    (place_within (g.L.Lookup.known_cell c.args.lookup.now) c.args.line c.args.rule c.args.sought.now _ c.in-Ok-Some.cell c.requires c.in-Ok-Some.ensures.found c.in-Ok-Some.field-0-is)

pub returns-in-Ok-Some-clause-place : goal.returns-in-Ok-Some-clause-place
returns-in-Ok-Some-clause-place g c = λ cells a.
    place_found (g.L.Lookup.known_cell c.args.lookup.now) c.args.line c.args.rule c.args.sought.now _ c.in-Ok-Some.cell c.requires c.in-Ok-Some.ensures.found c.in-Ok-Some.field-0-is cells a
    ∙ ap Ok (sym c.steps.ensures)

pub returns-in-Ok-None-clause-place : goal.returns-in-Ok-None-clause-place
returns-in-Ok-None-clause-place g c =
    place_none (g.L.Lookup.known_cell c.args.lookup.now) c.args.line c.args.rule c.args.sought.now _ c.requires c.in-Ok-None.ensures.found c.in-Ok-None.field-0-is
