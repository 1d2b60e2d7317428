-- Replacements that others override.
use Rattle.wi_sheet.proofs.Words.{◌≡◌, ℕ, List, [], ◌∷◌, Option, Some, None, refl, ap, sym, ◌∙◌, option_or, nat_cmp, lookup, is_at, insert_entry, Value, Replacement, IsInOrder, as_map, replaced, overridden, last_for, Ascends, Ascends-insert, Ascends-from_order, order-from_Ascends, as_map-as_replacements, as_replacements-as_map, sorted_from_order, order_from_entries, order_of_filter, overridden-nothing, lookup-overridden, Sheet, content_of, put_all, Reaches, reaches, true_reaches, replacements, cell_value, what_if_value, reaching, as_replacements, with_what_if}
use Rattle.wi_sheet.proofs.Last.{over, over_both, content_by_last}
use Rattle.wi_sheet.proofs.Agreement.{agree_put_both}
use Rattle.wi_sheet.proofs.Locality.{value_same, others_do_not_count}

-- ---- in order, the first replacement for a cell is the last

pub or_none : (o : Option Value) → option_or o None ≡ o
or_none None = refl
or_none (Some v) = refl

-- where replacements are in order, the last for a cell is the one
pub last_in_order : (p : List Replacement) → IsInOrder p → (a : ℕ) → last_for p a ≡ replaced p a
last_in_order p h a =
    sym (or_none (last_for p a)) ∙ sym (lookup-overridden a [] p)
    ∙ ap (λ (es : List (ℕ × Value)). lookup (is_at (nat_cmp a)) es) (overridden-nothing p h)

pub content_in_order : (s : Sheet) (w : List Replacement) (a : ℕ) → IsInOrder w → content_of (put_all s w) a ≡ over (replaced w a) (content_of s a)
content_in_order s w a h = content_by_last s w a ∙ ap (λ (o : Option Value). over o (content_of s a)) (last_in_order w h a)

-- ---- replacements put in keep the order

ascends_overridden : (es : List (ℕ × Value)) (rs : List Replacement) → Ascends es → Ascends (overridden es rs)
ascends_overridden es [] h = h
ascends_overridden es (r ∷ rs) h = ascends_overridden (insert_entry nat_cmp es r.at r.value) rs (Ascends-insert r.at r.value es h)

-- replacements in order, put in where there are none
pub put_alone : (w base put : List Replacement) → IsInOrder put → base ≡ [] → as_map w ≡ overridden (as_map base) put → w ≡ put
put_alone w base put o b e =
    let none = ap (λ (x : List Replacement). overridden (as_map x) put) b in
    sym (as_replacements-as_map w) ∙ ap as_replacements (e ∙ none ∙ overridden-nothing put o) ∙ as_replacements-as_map put

pub override_in_order : (w rs : List Replacement) → IsInOrder w → IsInOrder (as_replacements (overridden (as_map w) rs))
override_in_order w rs h =
    order_from_entries (as_replacements (overridden (as_map w) rs)) (overridden (as_map w) rs) (as_map-as_replacements (overridden (as_map w) rs))
    (order-from_Ascends (overridden (as_map w) rs) (ascends_overridden (as_map w) rs (Ascends-from_order (as_map w) (sorted_from_order w h))))

pub what_if_in_order : (s : Sheet) (w : List Replacement) (pairs : List (ℕ × ℕ)) → IsInOrder w → IsInOrder (with_what_if s w pairs)
what_if_in_order s w pairs h = override_in_order w (replacements (cell_value (put_all s w)) pairs) h

pub reaching_in_order : (s : Sheet) (c : ℕ) (w : List Replacement) → IsInOrder w → IsInOrder (reaching s c w)
reaching_in_order s c w h = order_of_filter (λ r. reaches s c r.at) w h

-- ---- what overrides, stands over what was there

pub override_last : (w rs : List Replacement) → IsInOrder w → (a : ℕ) → last_for (as_replacements (overridden (as_map w) rs)) a ≡ option_or (last_for rs a) (last_for w a)
override_last w rs h a =
    last_in_order (as_replacements (overridden (as_map w) rs)) (override_in_order w rs h) a
    ∙ ap (λ (es : List (ℕ × Value)). lookup (is_at (nat_cmp a)) es) (as_map-as_replacements (overridden (as_map w) rs))
    ∙ lookup-overridden a (as_map w) rs ∙ ap (option_or (last_for rs a)) (sym (last_in_order w h a))

pub override_content : (s : Sheet) (w rs : List Replacement) → IsInOrder w → (a : ℕ) → content_of (put_all s (as_replacements (overridden (as_map w) rs))) a ≡ content_of (put_all (put_all s w) rs) a
override_content s w rs h a =
    content_by_last s (as_replacements (overridden (as_map w) rs)) a
    ∙ ap (λ (v : Option Value). over v (content_of s a)) (override_last w rs h a)
    ∙ over_both (last_for rs a) (last_for w a) (content_of s a)
    ∙ ap (over (last_for rs a)) (sym (content_by_last s w a)) ∙ sym (content_by_last (put_all s w) rs a)

-- replacements whose entries are those of a what-if put in are those with the what-if
pub replaced_world : (s : Sheet) (w v inputs : List Replacement) (pairs : List (ℕ × ℕ)) → inputs ≡ replacements (cell_value (put_all s w)) pairs → as_map v ≡ overridden (as_map w) inputs → v ≡ with_what_if s w pairs
replaced_world s w v inputs pairs e k = sym (as_replacements-as_map v) ∙ ap as_replacements (k ∙ ap (overridden (as_map w)) e)

-- a what-if under replacements is its formula cell under those of its world
pub with_what_if_value : (s : Sheet) (w : List Replacement) (f : ℕ) (pairs : List (ℕ × ℕ)) → IsInOrder w → cell_value (put_all s (with_what_if s w pairs)) f ≡ what_if_value (put_all s w) f pairs
with_what_if_value s w f pairs h =
    let rs = replacements (cell_value (put_all s w)) pairs in
    value_same (put_all s (as_replacements (overridden (as_map w) rs))) (put_all (put_all s w) rs) f (λ d r. override_content s w rs h d)

-- a cell's value under replacements is the one under those alone of cells that it reaches
pub reaching_suffices : (s : Sheet) (w : List Replacement) (c : ℕ) → cell_value (put_all s (reaching s c w)) c ≡ cell_value (put_all s w) c
reaching_suffices s w c = others_do_not_count s w c (reaches s c) (true_reaches s c)

-- lists that say the same of each cell that c reaches give it one value
pub same_for_reached : (s : Sheet) (p q : List Replacement) (c : ℕ) → ((d : ℕ) → Reaches s c d → last_for p d ≡ last_for q d) → cell_value (put_all s p) c ≡ cell_value (put_all s q) c
same_for_reached s p q c h =
    value_same (put_all s p) (put_all s q) c
    (agree_put_both s s p q c (λ d r. content_by_last s p d ∙ ap (λ (o : Option Value). over o (content_of s d)) (h d r) ∙ sym (content_by_last s q d)))
