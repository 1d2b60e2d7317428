-- What a binary search among replacements in order finds.
use Rattle.wi_worlds.proofs.Words.{◌≡◌, ◌∙◌, ℕ, List, Option, Some, None, Result, Ok, Err, MatchResult, length, get_or, sym, ap, option_map, nat_cmp, IsSearchInRange, IsBinarySearchResult, ranked, sorted_from_strictly_increasing, found_by_key, Replacement, Value, IsInOrder, replaced, replacement_at, subst, refl}

one_replacement : (r : Replacement) (a : ℕ) → r.at ≡ a → Some (record { at = a; value = r.value }) ≡ Some r
one_replacement r a e = λ i. Some (record { at = sym e i; value = r.value })

pub found_of : (rs : List Replacement) (a : ℕ) (r s : Result ℕ ℕ) → IsInOrder rs → r ≡ s
    → IsSearchInRange r (length rs) → IsBinarySearchResult (λ x. nat_cmp x.at a) rs r
    → MatchResult s (λ i. (x : Replacement) → Some (get_or rs i x) ≡ replacement_at rs a) (λ i. None ≡ replacement_at rs a)
found_of rs a r s order is within position =
    subst (λ (t : Result ℕ ℕ). MatchResult t (λ i. (x : Replacement) → Some (get_or rs i x) ≡ replacement_at rs a) (λ i. None ≡ replacement_at rs a)) is
    (by r (found_by_key (λ (x : Replacement). x.at) (λ (x : Replacement). x.value) rs (sorted_from_strictly_increasing _ order) a r r refl within position) position)
  where
    by : (t : Result ℕ ℕ) → MatchResult t (λ i. (d : Replacement) → Some (get_or rs i d).value ≡ replaced rs a) (λ i. None ≡ replaced rs a)
        → IsBinarySearchResult (λ x. nat_cmp x.at a) rs t
        → MatchResult t (λ i. (x : Replacement) → Some (get_or rs i x) ≡ replacement_at rs a) (λ i. None ≡ replacement_at rs a)
    by (Ok i) h at = λ x. sym (one_replacement (get_or rs i x) a (ranked _ a _ (sym (at x)))) ∙ ap (option_map (λ (v : Value). record { at = a; value = v })) (h x)
    by (Err i) h at = ap (option_map (λ (v : Value). record { at = a; value = v })) h

-- the value of the replacement that is found
pub value_of_found : (rs : List Replacement) (a : ℕ) (o : Option Replacement) → o ≡ replacement_at rs a → option_map (λ (r : Replacement). r.value) o ≡ replaced rs a
value_of_found rs a o h = ap (option_map (λ (r : Replacement). r.value)) h ∙ by (replaced rs a)
  where
    by : (v : Option Value) → option_map (λ (r : Replacement). r.value) (option_map (λ (w : Value). record { at = a; value = w }) v) ≡ v
    by None = refl
    by (Some w) = refl
