-- What an entry of a data table demands.
use Rattle.wi_sheet.proofs.Words.{◌≡◌, inl, inr, ℕ, zero, suc, arith, All, Bool, true, false, ◌<◌, ◌||◌, cond, List, [], ◌∷◌, ◌++◌, get_or, length, map, Contains, refl, ap, sym, subst, ◌∙◌, or_parts, list_any, flat_map, list_any_none, Value, IsInOrder, Fault, Circular, Replacement, each_fails, Sheet, content_of, put_all, has_formula, zero_for_empty, circular, cell_value, what_if_value, Case, case_of, with_what_if, demand, different, HasEntry, IsClosed, asks_circular, table_entry, open_demand, table_demand, entry_demanded}
use Rattle.wi_sheet.proofs.Members.{IsIn, in_contained, contains_in, in_left, in_right, in_either, in_flat, of_flat}
use Rattle.wi_sheet.proofs.SmallerWorlds.{content_below}
use Rattle.wi_sheet.proofs.Demands.{demand_closed, demand_has_itself}
use Rattle.wi_sheet.proofs.Overrides.{with_what_if_value}
use Rattle.wi_sheet.proofs.Cases.{closed_different, contains_different}

-- ---- the demand is closed

closed_both : (s : Sheet) (ks js : List Case) → IsClosed s ks → IsClosed s js → IsClosed s (ks ++ js)
closed_both s ks js c d = λ k j h r. contains_in (ks ++ js) j (elim (in_either ks js k (in_contained (ks ++ js) k h)) [
  | inl i ↦ in_left ks js j (in_contained ks j (c k j (contains_in ks k i) r))
  | inr i ↦ in_right ks js j (in_contained js j (d k j (contains_in js k i) r))
])

closed_flat : {X : Type 0} (s : Sheet) (f : X → List Case) (xs : List X) → ((x : X) → IsClosed s (f x)) → IsClosed s (flat_map f xs)
closed_flat s f xs c = λ k j h r.
    let y = of_flat f xs k (in_contained (flat_map f xs) k h) in
    contains_in (flat_map f xs) j (in_flat f xs y.0 j y.1 (in_contained (f y.0) j (c y.0 k j (contains_in (f y.0) k y.2) r)))

closed_open : (s : Sheet) (w : List Replacement) (f : ℕ) (pairs : List (ℕ × ℕ)) → IsClosed s (different (open_demand s w f pairs))
closed_open s w f pairs =
    closed_different s (open_demand s w f pairs)
    (closed_both s (flat_map (λ x. demand s (case_of s w x.1)) pairs) (demand s (case_of s (with_what_if s w pairs) f))
    (closed_flat s (λ x. demand s (case_of s w x.1)) pairs (λ x. demand_closed s (case_of s w x.1)))
    (demand_closed s (case_of s (with_what_if s w pairs) f)))

closed_nothing : (s : Sheet) → IsClosed s []
closed_nothing s = λ k j h r. absurd (in_contained [] k h)

-- what an entry demands, each case once, has all on which its cases rest
pub table_closed : (s : Sheet) (w : List Replacement) (f : ℕ) (pairs : List (ℕ × ℕ)) → IsClosed s (different (table_demand s w f pairs))
table_closed s w f pairs = at (asks_circular s f pairs)
  where
    at : (b : Bool) → IsClosed s (different (cond b [] (open_demand s w f pairs)))
    at true = closed_nothing s
    at false = closed_open s w f pairs

-- where it isn't circular, it demands what it would
demand_open : (s : Sheet) (w : List Replacement) (f : ℕ) (pairs : List (ℕ × ℕ)) → asks_circular s f pairs ≡ false → different (table_demand s w f pairs) ≡ different (open_demand s w f pairs)
demand_open s w f pairs h = ap (λ (b : Bool). different (cond b [] (open_demand s w f pairs))) h

-- ---- it has its roots

-- a cell that is not circular demands its own case where it has a formula under the replacements
case_itself : (s : Sheet) (w : List Replacement) (c : ℕ) → circular s c ≡ false → has_formula (content_of (put_all s w) c) ≡ true → IsIn (demand s (case_of s w c)) (case_of s w c)
case_itself s w c h f = in_contained (demand s (case_of s w c)) (case_of s w c) (demand_has_itself s (case_of s w c) h (ap has_formula (content_below s c w) ∙ f))

pub table_has_replacing : (s : Sheet) (w : List Replacement) (f : ℕ) (pairs : List (ℕ × ℕ)) (x : ℕ × ℕ) → asks_circular s f pairs ≡ false → Contains pairs x → circular s x.1 ≡ false →
    has_formula (content_of (put_all s w) x.1) ≡ true → Contains (different (table_demand s w f pairs)) (case_of s w x.1)
table_has_replacing s w f pairs x o i h g =
    let replacing = flat_map (λ (y : ℕ × ℕ). demand s (case_of s w y.1)) pairs in
    subst (λ (ks : List Case). Contains ks (case_of s w x.1)) (sym (demand_open s w f pairs o))
    (contains_different (open_demand s w f pairs) (case_of s w x.1) (contains_in (open_demand s w f pairs) (case_of s w x.1)
    (in_left replacing (demand s (case_of s (with_what_if s w pairs) f)) (case_of s w x.1)
    (in_flat (λ (y : ℕ × ℕ). demand s (case_of s w y.1)) pairs x (case_of s w x.1) (in_contained pairs x i) (case_itself s w x.1 h g)))))

pub table_has_formula_cell : (s : Sheet) (w : List Replacement) (f : ℕ) (pairs : List (ℕ × ℕ)) → asks_circular s f pairs ≡ false → circular s f ≡ false →
    has_formula (content_of (put_all s (with_what_if s w pairs)) f) ≡ true → Contains (different (table_demand s w f pairs)) (case_of s (with_what_if s w pairs) f)
table_has_formula_cell s w f pairs o h g =
    let last = case_of s (with_what_if s w pairs) f in
    subst (λ (ks : List Case). Contains ks last) (sym (demand_open s w f pairs o))
    (contains_different (open_demand s w f pairs) last (contains_in (open_demand s w f pairs) last
    (in_right (flat_map (λ (y : ℕ × ℕ). demand s (case_of s w y.1)) pairs) (demand s last) last (case_itself s (with_what_if s w pairs) f h g))))

-- ---- its value

-- the test for circular cells is one over all the cells whose values are asked for
pub test_of_cells : (s : Sheet) (f : ℕ) (pairs : List (ℕ × ℕ)) (cells : List ℕ) → cells ≡ f ∷ map (λ x. x.1) pairs → (circular s f || list_any (λ x. circular s x.1) pairs) ≡ list_any (circular s) cells
test_of_cells s f pairs cells e = ap (λ (b : Bool). circular s f || b) (of_pairs pairs) ∙ ap (λ (xs : List ℕ). list_any (circular s) xs) (sym e)
  where
    of_pairs : (xs : List (ℕ × ℕ)) → list_any (λ x. circular s x.1) xs ≡ list_any (circular s) (map (λ x. x.1) xs)
    of_pairs [] = refl
    of_pairs (x ∷ xs) = ap (λ (b : Bool). circular s x.1 || b) (of_pairs xs)

-- so none of these cells is circular where the test says that none is
pub cells_open : (s : Sheet) (f : ℕ) (pairs : List (ℕ × ℕ)) → (circular s f || list_any (λ x. circular s x.1) pairs) ≡ false → (circular s f ≡ false) × All (λ x. circular s x.1 ≡ false) pairs
cells_open s f pairs h =
    let parts = or_parts (circular s f) (list_any (λ x. circular s x.1) pairs) h in
    (parts.0, each_fails (λ (x : ℕ × ℕ). circular s x.1) pairs parts.1)

pub entry_circular : (s : Sheet) (p : List Replacement) (f : ℕ) (pairs : List (ℕ × ℕ)) → (circular s f || list_any (λ x. circular s x.1) pairs) ≡ true → table_entry s p f pairs ≡ Fault Circular
unfolding table_entry
entry_circular s p f pairs h = ap (λ (b : Bool). cond b (Fault Circular) (zero_for_empty (what_if_value (put_all s p) f pairs))) h

pub entry_open : (s : Sheet) (p : List Replacement) (f : ℕ) (pairs : List (ℕ × ℕ)) → (circular s f || list_any (λ x. circular s x.1) pairs) ≡ false → table_entry s p f pairs ≡ zero_for_empty (what_if_value (put_all s p) f pairs)
unfolding table_entry
entry_open s p f pairs h = ap (λ (b : Bool). cond b (Fault Circular) (zero_for_empty (what_if_value (put_all s p) f pairs))) h

-- ---- an entry of which no cell is circular whose value is asked for

pub pair_in : (pairs : List (ℕ × ℕ)) (i : ℕ) (x : ℕ × ℕ) → i < length pairs → IsIn pairs (get_or pairs i x)
pair_in [] i x less = absurd (omega arith)
pair_in (p ∷ ps) zero x less = inl refl
pair_in (p ∷ ps) (suc i) x less = inr (pair_in ps i x (omega arith))

pub none_circular : (s : Sheet) (f : ℕ) (pairs : List (ℕ × ℕ)) → (circular s f ≡ false) × All (λ x. circular s x.1 ≡ false) pairs → asks_circular s f pairs ≡ false
none_circular s f pairs o = ap (λ (b : Bool). b || list_any (λ x. circular s x.1) pairs) o.0 ∙ list_any_none (λ x. circular s x.1) pairs o.1

pub entry_has : (s : Sheet) (w put : List Replacement) (f : ℕ) (pairs : List (ℕ × ℕ)) → (circular s f ≡ false) × All (λ x. circular s x.1 ≡ false) pairs → w ≡ put → HasEntry s w f pairs (entry_demanded s put f pairs)
entry_has s w put f pairs o same = subst (λ (p : List Replacement). HasEntry s p f pairs (entry_demanded s put f pairs)) (sym same)
    (λ i x less. table_has_replacing s put f pairs (get_or pairs i x) (none_circular s f pairs o) (contains_in pairs (get_or pairs i x) (pair_in pairs i x less)) (o.1 i x less), table_has_formula_cell s put f pairs (none_circular s f pairs o) o.0)

pub entry_shown : (s : Sheet) (w put : List Replacement) (f : ℕ) (pairs : List (ℕ × ℕ)) (v : Value) → (circular s f ≡ false) × All (λ x. circular s x.1 ≡ false) pairs → w ≡ put → IsInOrder put →
    v ≡ zero_for_empty (cell_value (put_all s (with_what_if s w pairs)) f) → v ≡ table_entry s put f pairs
entry_shown s w put f pairs v o same order is =
    is ∙ ap (λ (p : List Replacement). zero_for_empty (cell_value (put_all s (with_what_if s p pairs)) f)) same ∙ ap (λ (x : Value). zero_for_empty x) (with_what_if_value s put f pairs order)
    ∙ sym (entry_open s put f pairs (none_circular s f pairs o))
