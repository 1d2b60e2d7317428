use Rattle.wi_lookup_functions.proofs.Words.{◌≡◌, ℕ, List, [], ◌∷◌, fold, refl, ap, ◌∙◌, cells_of, Value, Search, steps, found_after}
use Rattle.wi_lookup_functions.proofs.Searches.{found_in}
use Rattle.wi_lookup_functions.proofs.search.found_along.Goals as goal

abbrev after : Search → ℕ → Value → Search
after s c v = record s { found = found_after s.rule s.sought.now s.found c v }

found_is : (cells : ℕ → Value) (number : ℕ → ℕ) (s : Search) (xs : List ℕ) → (fold (λ t c. after t c (cells c)) s xs).found ≡ found_in s.sought.now cells number s.rule s.found xs
found_is cells number s [] = refl
found_is cells number s (x ∷ xs) = found_is cells number (after s x (cells x)) xs

pub returns-clause-found : goal.returns-clause-found
returns-clause-found g c = λ cells a. ap (λ (s : Search). s.found) (c.in_ok-take_cells.ensures.taken cells a) ∙ found_is cells (steps c.args.line) _ (cells_of c.args.line)
