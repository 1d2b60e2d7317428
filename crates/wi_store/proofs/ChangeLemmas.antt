-- The rooms that changes bring.
use Rattle.wi_store.proofs.Words.{◌≡◌, ℕ, ◌+◌, ◌<◌, List, [], ◌∷◌, ◌++◌, length, get_or, set, drop, map, Option, sym, ap, ◌∙◌, arith, append_assoc, drop-set-lt, drop_more, Content, change_without_empty}

abbrev pub Changes : Type 0
Changes = List (ℕ × Option Content)

-- after that of the i-th change was made
pub brought_more : (made made' all cs : Changes) (i : ℕ) (d v : ℕ × Option Content) → i < length cs
    → made' ≡ made ++ change_without_empty (get_or cs i d) ∷ []
    → made ++ map change_without_empty (drop i cs) ≡ all → made' ++ map change_without_empty (drop (i + 1) (set cs i v)) ≡ all
brought_more made made' all cs i d v l e h =
    let x : ℕ × Option Content = change_without_empty (get_or cs i d) in
    ap (λ (xs : Changes). xs ++ map change_without_empty (drop (i + 1) (set cs i v))) e
    ∙ append_assoc made (x ∷ []) (map change_without_empty (drop (i + 1) (set cs i v)))
    ∙ ap (λ (xs : Changes). made ++ x ∷ map change_without_empty xs) (drop-set-lt (i + 1) cs i v (omega arith))
    ∙ ap (λ (xs : Changes). made ++ map change_without_empty xs) (sym (drop_more cs i d l)) ∙ h

-- that of a lone change
pub brought_alone : (cs : Changes) (d made : ℕ × Option Content) → length cs ≡ 1 → made ≡ change_without_empty (get_or cs 0 d) → made ∷ [] ≡ map change_without_empty cs
brought_alone [] d made l e = absurd (omega (arith, l))
brought_alone (x ∷ []) d made l e = ap (λ (y : ℕ × Option Content). y ∷ []) e
brought_alone (x ∷ y ∷ cs) d made l e = absurd (omega (arith, l))
