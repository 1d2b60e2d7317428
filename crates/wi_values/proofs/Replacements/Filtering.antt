-- Some of the replacements.
use Rattle.wi_values.proofs.Words.{◌≡◌, ℕ, Bool, true, false, cond, List, [], ◌∷◌, None, filter, refl, ap, ◌∙◌, nat_cmp, lookup, is_at, lookup-filter-keys, Value, Replacement, IsInOrder, as_map, replaced}
use Rattle.wi_values.proofs.Order.{Ascends-filter, at_same, order-from_Ascends}
use Rattle.wi_values.proofs.Replacements.InOrder.{ascends_from_order, order_from_entries}

-- the entries of those that are left
abbrev left : (Replacement → Bool) → List (ℕ × Value) → List (ℕ × Value)
left p es = filter (λ (e : ℕ × Value). p (record { at = e.0; value = e.1 })) es

as_map-filter : (p : Replacement → Bool) (rs : List Replacement) → as_map (filter p rs) ≡ left p (as_map rs)
as_map-filter p [] = refl
as_map-filter p (r ∷ rs) = by (p r) (as_map-filter p rs)
  where
    by : (b : Bool) → as_map (filter p rs) ≡ left p (as_map rs) → as_map (cond b (r ∷ filter p rs) (filter p rs)) ≡ cond b ((r.at, r.value) ∷ left p (as_map rs)) (left p (as_map rs))
    by true h = ap (λ (es : List (ℕ × Value)). (r.at, r.value) ∷ es) h
    by false h = h

pub order_of_filter : (p : Replacement → Bool) (rs : List Replacement) → IsInOrder rs → IsInOrder (filter p rs)
order_of_filter p rs h =
    order_from_entries (filter p rs) (left p (as_map rs)) (as_map-filter p rs)
    (order-from_Ascends (left p (as_map rs)) (Ascends-filter (λ (e : ℕ × Value). p (record { at = e.0; value = e.1 })) (as_map rs) (ascends_from_order rs h)))

-- what an address has among those that are left
pub replaced-filter : (p : ℕ → Bool) (a : ℕ) (rs : List Replacement) → replaced (filter (λ r. p r.at) rs) a ≡ cond (p a) (replaced rs a) None
replaced-filter p a rs =
    ap (λ (es : List (ℕ × Value)). lookup (is_at (nat_cmp a)) es) (as_map-filter (λ r. p r.at) rs)
    ∙ lookup-filter-keys (is_at (nat_cmp a)) p (p a) (λ k t. ap p (at_same a k t)) (as_map rs)
