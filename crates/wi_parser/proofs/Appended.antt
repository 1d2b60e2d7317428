-- What the leaves of a tree append to a list.
use Rattle.wi_parser.proofs.Words.{◌≡◌, ℕ, ◌++◌, [], ◌∷◌, List, map, Result, Ok, Err, IfOk, ap, sym, subst, ◌∙◌, flat_map, flat_map-append, Area, Reference, Leaf, what_if_leaf, cell_area, leaf_inputs, leaf_rectangles}
use Rattle.std.proofs.lemmas.List.{append-nil, append_assoc}

-- what some leaves appended, and where that went well, others to the list so made
pub both_appended : {L X E : Type 0} (f : L → List X) (r : Result (Unit {0}) E) (front once twice : List X) (ls ks : List L)
    → once ≡ front ++ flat_map f ls → IfOk r (λ _. twice ≡ once ++ flat_map f ks) → IfOk r (λ _. twice ≡ front ++ flat_map f (ls ++ ks))
both_appended f (Ok u) front once twice ls ks h k =
    k ∙ ap (λ xs. xs ++ flat_map f ks) h ∙ append_assoc front (flat_map f ls) (flat_map f ks) ∙ ap (λ xs. front ++ xs) (sym (flat_map-append f ls ks))
both_appended f (Err e) front once twice ls ks h k = tt

-- the same for leaves that are equal
pub same_appended : {L X E : Type 0} (f : L → List X) (r : Result (Unit {0}) E) (front back : List X) (ls ks : List L)
    → ls ≡ ks → IfOk r (λ _. back ≡ front ++ flat_map f ls) → IfOk r (λ _. back ≡ front ++ flat_map f ks)
same_appended f r front back ls ks same h = subst (λ ms. IfOk r (λ _. back ≡ front ++ flat_map f ms)) same h

-- leaves with nothing to append
pub none_appended : {L X : Type 0} (f : L → List X) (front : List X) (ls : List L) → flat_map f ls ≡ [] → front ≡ front ++ flat_map f ls
none_appended f front ls none = sym (append-nil front) ∙ ap (λ xs. front ++ xs) (sym none)

-- leaves with one element to append
pub one_appended : {L X : Type 0} (f : L → List X) (front back : List X) (x : X) (ls : List L) → flat_map f ls ≡ x ∷ [] → back ≡ front ++ x ∷ [] → back ≡ front ++ flat_map f ls
one_appended f front back x ls one h = h ∙ ap (λ xs. front ++ xs) (sym one)

-- the formula cell of a what-if, and where that went well, its replacement cells
pub what_if_rectangles : {E : Type 0} (r : Result (Unit {0}) E) (front once twice : List Area) (f : Reference) (ps : List (Reference × Reference)) (ls : List Leaf)
    → ls ≡ what_if_leaf f ps ∷ [] → once ≡ front ++ cell_area f.at ∷ [] → IfOk r (λ _. twice ≡ once ++ map (λ p. cell_area p.1.at) ps)
    → IfOk r (λ _. twice ≡ front ++ flat_map leaf_rectangles ls)
what_if_rectangles (Ok u) front once twice f ps ls is h k =
    let cells = map (λ (p : Reference × Reference). cell_area p.1.at) ps in
    k ∙ ap (λ xs. xs ++ cells) h ∙ append_assoc front (cell_area f.at ∷ []) cells
    ∙ ap (λ xs. front ++ cell_area f.at ∷ xs) (sym (append-nil cells)) ∙ ap (λ ms. front ++ flat_map leaf_rectangles ms) (sym is)
what_if_rectangles (Err e) front once twice f ps ls is h k = tt

-- the inputs of a what-if
pub what_if_inputs : {E : Type 0} (r : Result (Unit {0}) E) (front back : List ℕ) (f : Reference) (ps : List (Reference × Reference)) (ls : List Leaf)
    → ls ≡ what_if_leaf f ps ∷ [] → IfOk r (λ _. back ≡ front ++ map (λ p. p.0.at) ps) → IfOk r (λ _. back ≡ front ++ flat_map leaf_inputs ls)
what_if_inputs (Ok u) front back f ps ls is h =
    h ∙ ap (λ xs. front ++ xs) (sym (append-nil (map (λ (p : Reference × Reference). p.0.at) ps))) ∙ ap (λ ms. front ++ flat_map leaf_inputs ms) (sym is)
what_if_inputs (Err e) front back f ps ls is h = tt
