-- A tree has one spelling.
use Rattle.wi_parser.proofs.Words.{◌≡◌, ℕ, List, [], ◌∷◌, ◌++◌, refl, ap, ap₂, subst, Tree, Trees, Symbol, open_parenthesis, close_parenthesis, separator, infix_mark, sign_mark, percent_mark, name, loosest, Spells, SpellsAll, SpellsMore, a_number, a_text, a_cell, a_rectangle, in_parentheses, one_input, two_inputs, a_call, with_sign, with_percent, tighter, joined, no_parameter, parameters, last_parameter, another_parameter, spelling, spelling_of_all, spelling_of_more, HasSpelling}

mutual
  pub spelled : {k : ℕ} {t : Tree} {ts : List Symbol} → Spells k t ts → ts ≡ spelling t
  spelled (a_number x) = refl
  spelled (a_text s) = refl
  spelled (a_cell r) = refl
  spelled (a_rectangle c) = refl
  spelled (in_parentheses t ts s) = ap (λ l. open_parenthesis ∷ l ++ close_parenthesis ∷ []) (spelled s)
  spelled (one_input f p) = refl
  spelled (two_inputs f p q) = refl
  spelled (a_call f all ts s) = ap (λ l. name f ∷ open_parenthesis ∷ l) (all_spelled s)
  spelled (with_sign s t ts o) = ap (λ l. sign_mark s ∷ l) (spelled o)
  spelled (with_percent t ts s) = ap (λ l. l ++ percent_mark ∷ []) (spelled s)
  spelled (tighter k t ts s) = spelled s
  spelled (joined k op l r ls rs e s u) = ap₂ (λ a b. a ++ infix_mark op ∷ b) (spelled s) (spelled u)

  all_spelled : {all : Trees} {ts : List Symbol} → SpellsAll all ts → ts ≡ spelling_of_all all
  all_spelled no_parameter = refl
  all_spelled (parameters t all ts us s u) = ap₂ (λ a b. a ++ b) (spelled s) (more_spelled u)

  more_spelled : {all : Trees} {ts : List Symbol} → SpellsMore all ts → ts ≡ spelling_of_more all
  more_spelled last_parameter = refl
  more_spelled (another_parameter t all ts us s u) = ap₂ (λ a b. separator ∷ a ++ b) (spelled s) (more_spelled u)

pub has_spelling : (t : Tree) (ts : List Symbol) → Spells loosest t ts → HasSpelling t
has_spelling t ts s = subst (Spells loosest t) (spelled s) s
