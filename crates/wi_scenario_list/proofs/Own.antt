-- A scenario's own replacements, held as entries of a map.
use Rattle.wi_scenario_list.proofs.Words.{◌≡◌, ◌==◌, ◌&&◌, ℕ, Bool, false, not, nat_le, List, [], ◌∷◌, length, None, is_some, sym, ap, ◌∙◌, IsStrictlySortedBy, nat_cmp, lookup, keys_of, remove_entry, is_at, insert_entry, length-map, Value, Replacement, IsInOrder, overridden, is_at-eq, turn_test, as_map-as_replacements, order_from_entries, overridden-nothing, with_replacements, max_replacements, is_replaced, as_replacements, without_replacement}
use Rattle.wi_scenario_list.proofs.Listed.{found-any, removed-filter}

pub order_of_entries : (es : List (ℕ × Value)) → IsStrictlySortedBy nat_cmp (keys_of es) → IsInOrder (as_replacements es)
order_of_entries es h = order_from_entries (as_replacements es) es (as_map-as_replacements es) h

-- put into nothing, entries in order are themselves
pub put_into_nothing : (es : List (ℕ × Value)) → IsInOrder (as_replacements es) → overridden [] (as_replacements es) ≡ es
put_into_nothing es h = overridden-nothing (as_replacements es) h ∙ as_map-as_replacements es

-- one more entry is one more replacement put in
pub with_one : (es : List (ℕ × Value)) (a : ℕ) (v : Value)
    → as_replacements (insert_entry nat_cmp es a v) ≡ with_replacements (as_replacements es) (record { at = a; value = v } ∷ [])
with_one es a v = ap (λ (xs : List (ℕ × Value)). as_replacements (insert_entry nat_cmp xs a v)) (sym (as_map-as_replacements es))

same_address : (a : ℕ) (e : ℕ × Value) → (e.0 == a) ≡ is_at (nat_cmp a) e.0
same_address a e = turn_test e.0 a ∙ sym (is_at-eq a e.0)

-- an entry less is a replacement less
pub without_one : (es : List (ℕ × Value)) (a : ℕ) → lookup (is_at (nat_cmp a)) (remove_entry (is_at (nat_cmp a)) es) ≡ None
    → as_replacements (remove_entry (is_at (nat_cmp a)) es) ≡ without_replacement (as_replacements es) a
without_one es a h = removed-filter (λ (e : ℕ × Value). record { at = e.0; value = e.1 }) (is_at (nat_cmp a)) (λ (r : Replacement). r.at == a) (same_address a) es h

pub found-replaced : (es : List (ℕ × Value)) (a : ℕ) → is_some (lookup (is_at (nat_cmp a)) es) ≡ is_replaced (as_replacements es) a
found-replaced es a = found-any (λ (e : ℕ × Value). record { at = e.0; value = e.1 }) (is_at (nat_cmp a)) (λ (r : Replacement). r.at == a) (same_address a) es

pub length-as_replacements : (es : List (ℕ × Value)) → length (as_replacements es) ≡ length es
length-as_replacements es = length-map es (λ (e : ℕ × Value). record { at = e.0; value = e.1 })

-- ---- whether one more would be too many

pub full_where_new : (es : List (ℕ × Value)) (a n : ℕ) → is_some (lookup (is_at (nat_cmp a)) es) ≡ false → n ≡ length es
    → nat_le 256 n ≡ (not (is_replaced (as_replacements es) a) && nat_le max_replacements (length (as_replacements es)))
full_where_new es a n f e =
    ap (λ (k : ℕ). nat_le 256 k) (e ∙ sym (length-as_replacements es))
    ∙ ap (λ (b : Bool). not b && nat_le 256 (length (as_replacements es))) (sym f ∙ found-replaced es a)

pub full_where_replaced : (es : List (ℕ × Value)) (a : ℕ) (b : Bool) → b ≡ is_some (lookup (is_at (nat_cmp a)) es) → not b ≡ false
    → not b ≡ (not (is_replaced (as_replacements es) a) && nat_le max_replacements (length (as_replacements es)))
full_where_replaced es a b e f =
    f ∙ sym (
    ap (λ (c : Bool). not c && nat_le 256 (length (as_replacements es))) (sym (found-replaced es a) ∙ sym e)
    ∙ ap (λ (c : Bool). c && nat_le 256 (length (as_replacements es))) f)
