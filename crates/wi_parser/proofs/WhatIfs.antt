-- What a reader finds after the name of a what-if, step by step.
use Rattle.wi_parser.proofs.Words.{◌≡◌, List, ◌∷◌, [], Some, None, option_and_then, ap, sym, ◌∙◌, Reference, what_if, Symbol, after_open, after_close, reference_at, pair_at, one_or_two, inputs_at, then_close, what_if_at}

pub no_cell : (ts : List Symbol) → option_and_then reference_at (after_open ts) ≡ None → what_if_at ts ≡ None
unfolding what_if_at
no_cell ts h = ap (option_and_then (λ f. inputs_at f.0 f.1)) h

pub after_cell : (ts us : List Symbol) (f : Reference) → option_and_then reference_at (after_open ts) ≡ Some (f, us) → what_if_at ts ≡ inputs_at f us
unfolding what_if_at
after_cell ts us f h = ap (option_and_then (λ f. inputs_at f.0 f.1)) h

pub no_pair : (ts us : List Symbol) (f : Reference) → option_and_then reference_at (after_open ts) ≡ Some (f, us) → pair_at us ≡ None → what_if_at ts ≡ None
no_pair ts us f h none = after_cell ts us f h ∙ ap (option_and_then (λ p. one_or_two f p.0 p.1 (after_close p.1))) none

pub after_pair : (ts us vs : List Symbol) (f : Reference) (p : Reference × Reference) → option_and_then reference_at (after_open ts) ≡ Some (f, us) → pair_at us ≡ Some (p, vs)
    → what_if_at ts ≡ one_or_two f p vs (after_close vs)
after_pair ts us vs f p h first = after_cell ts us f h ∙ ap (option_and_then (λ p. one_or_two f p.0 p.1 (after_close p.1))) first

pub one_pair : (ts us vs ws : List Symbol) (f : Reference) (p : Reference × Reference) → option_and_then reference_at (after_open ts) ≡ Some (f, us) → pair_at us ≡ Some (p, vs)
    → after_close vs ≡ Some ws → what_if_at ts ≡ Some (what_if f (p ∷ []), ws)
one_pair ts us vs ws f p h first closed = after_pair ts us vs f p h first ∙ ap (one_or_two f p vs) closed

pub second_pair : (ts us vs ws : List Symbol) (f : Reference) (p : Reference × Reference) → option_and_then reference_at (after_open ts) ≡ Some (f, us) → pair_at us ≡ Some (p, vs)
    → (after_close vs ≡ None) × (ws ≡ vs) → what_if_at ts ≡ option_and_then (λ q. then_close (what_if f (p ∷ q.0 ∷ [])) q.1) (pair_at ws)
second_pair ts us vs ws f p h first more =
    after_pair ts us vs f p h first ∙ ap (one_or_two f p vs) more.0 ∙ ap (λ xs. option_and_then (λ q. then_close (what_if f (p ∷ q.0 ∷ [])) q.1) (pair_at xs)) (sym more.1)
