-- Replacements in order, their entries, and what their entries tell.
use Rattle.wi_values.proofs.Words.{◌≡◌, ℕ, List, [], ◌∷◌, ◌++◌, map, refl, sym, ap, ◌∙◌, subst, append-nil, append_assoc, nat_cmp, IsStrictlySortedBy, IsStrictlyIncreasing, keys_of, map-append, sorted_from_strictly_increasing, IsStrictlyIncreasing-from_sorted, Value, Replacement, IsInOrder, as_map, as_replacements, replaced}
use Rattle.wi_values.proofs.Order.{Ascends, Ascends-from_order, same_entries}

pub as_map-as_replacements : (es : List (ℕ × Value)) → as_map (as_replacements es) ≡ es
as_map-as_replacements [] = refl
as_map-as_replacements (e ∷ es) = ap (λ (rest : List (ℕ × Value)). e ∷ rest) (as_map-as_replacements es)

pub as_replacements-as_map : (rs : List Replacement) → as_replacements (as_map rs) ≡ rs
as_replacements-as_map [] = refl
as_replacements-as_map (r ∷ rs) = ap (λ (rest : List Replacement). r ∷ rest) (as_replacements-as_map rs)

keys_of-as_map : (rs : List Replacement) → keys_of (as_map rs) ≡ map (λ r. r.at) rs
keys_of-as_map [] = refl
keys_of-as_map (r ∷ rs) = ap (λ (ks : List ℕ). r.at ∷ ks) (keys_of-as_map rs)

pub sorted_from_order : (rs : List Replacement) → IsInOrder rs → IsStrictlySortedBy nat_cmp (keys_of (as_map rs))
sorted_from_order rs h = subst (IsStrictlySortedBy nat_cmp) (sym (keys_of-as_map rs)) (sorted_from_strictly_increasing _ h)

pub order_from_sorted : (rs : List Replacement) → IsStrictlySortedBy nat_cmp (keys_of (as_map rs)) → IsInOrder rs
order_from_sorted rs h = subst IsStrictlyIncreasing (keys_of-as_map rs) (IsStrictlyIncreasing-from_sorted _ h)

-- the entries of a map in order are those of replacements in order
pub order_from_entries : (rs : List Replacement) (es : List (ℕ × Value)) → as_map rs ≡ es → IsStrictlySortedBy nat_cmp (keys_of es) → IsInOrder rs
order_from_entries rs es e h = order_from_sorted rs (subst (λ (xs : List (ℕ × Value)). IsStrictlySortedBy nat_cmp (keys_of xs)) (sym e) h)

-- ---- worlds that have the same for each address

pub ascends_from_order : (rs : List Replacement) → IsInOrder rs → Ascends (as_map rs)
ascends_from_order rs h = Ascends-from_order (as_map rs) (sorted_from_order rs h)

-- two worlds that have the same for each address are one
pub same_from_replaced : (v w : List Replacement) → IsInOrder v → IsInOrder w → ((a : ℕ) → replaced v a ≡ replaced w a) → v ≡ w
same_from_replaced v w p q h =
    let same = same_entries (as_map v) (as_map w) (ascends_from_order v p) (ascends_from_order w q) h in
    sym (as_replacements-as_map v) ∙ ap as_replacements same ∙ as_replacements-as_map w

-- ---- entries taken one after another

-- one more is taken, and fewer are left
pub one_more_taken : (rs new : List Replacement) (r : Replacement) (left rest whole : List (ℕ × Value)) → new ≡ rs ++ r ∷ [] → left ≡ (r.at, r.value) ∷ rest
    → as_map rs ++ left ≡ whole → as_map new ++ rest ≡ whole
one_more_taken rs new r left rest whole e l h =
    ap (λ (xs : List Replacement). as_map xs ++ rest) e
    ∙ ap (λ (xs : List (ℕ × Value)). xs ++ rest) (map-append (λ (x : Replacement). (x.at, x.value)) rs (r ∷ []))
    ∙ append_assoc (as_map rs) ((r.at, r.value) ∷ []) rest
    ∙ ap (λ (xs : List (ℕ × Value)). as_map rs ++ xs) (sym l) ∙ h

-- at the end nothing is left
pub all_taken : (es rest whole : List (ℕ × Value)) → rest ≡ [] → es ++ rest ≡ whole → es ≡ whole
all_taken es rest whole e h = sym (append-nil es) ∙ ap (λ (r : List (ℕ × Value)). es ++ r) (sym e) ∙ h
