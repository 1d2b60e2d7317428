-- Scenarios that stand as entries of a map by their names.
use Rattle.wi_scenario_list.proofs.Words.{◌≡◌, ℕ, nat_eq, Bool, true, false, cond, ◌||◌, if◌then◌else◌, List, [], ◌∷◌, not, Option, Some, None, is_some, refl, sym, ap, ◌∙◌, true≢false, Bor, length, nat_le, ◌&&◌, AllZip, find, list_any, lookup, remove_entry, values_of, option_copied, option_map, pointwise, rc_str_bytes, bytes_eq, RcStr, or-false, bytes_eq-Decides, Scenario, is_named, has_scenario, is_full, max_replacements, scenario_of, scenario_for, with_scenario, without_scenario, is_replaced, scenario_or_new, is_name_of, is_base, IsSame, base_of, stored, scenario_in, with_name, Layer}
use Rattle.indexmap.specs.IndexMap.{insert_entry}
use Rattle.wi_scenario_list.proofs.Listed.{found-any, removed-filter}

same_bytes : (xs ys : List ℕ) → bytes_eq xs ys ≡ true → ys ≡ xs
same_bytes xs ys t = sym ((bytes_eq-Decides xs ys).0 t)

module _ {Z : Type 0} where
  abbrev pub key_is : List ℕ → RcStr Z → Bool
  key_is bs k = bytes_eq bs (rc_str_bytes k)

  pub none_stored : (es : List (RcStr Z × Layer)) → es ≡ [] → stored es ≡ []
  none_stored es e = ap stored e

  pub found-scenario : (bs : List ℕ) (es : List (RcStr Z × Layer)) → option_map (with_name bs) (lookup (key_is bs) es) ≡ find (is_named bs) (stored es)
  found-scenario bs [] = refl
  found-scenario bs (e ∷ es) = by (key_is bs e.0) refl (found-scenario bs es)
    where
      by : (b : Bool) → key_is bs e.0 ≡ b → option_map (with_name bs) (lookup (key_is bs) es) ≡ find (is_named bs) (stored es)
          → option_map (with_name bs) (cond b (Some e.1) (lookup (key_is bs) es)) ≡ cond b (Some (scenario_in e)) (find (is_named bs) (stored es))
      by true t h = ap (λ (n : List ℕ). Some (with_name n e.1)) (sym (same_bytes bs (rc_str_bytes e.0) t))
      by false t h = h

  pub found-has : (bs : List ℕ) (es : List (RcStr Z × Layer)) (xs : List Scenario) (b : Bool) → b ≡ is_some (lookup (key_is bs) es) → stored es ≡ xs
      → b ≡ has_scenario xs bs
  found-has bs es xs b e v = e ∙ found-any scenario_in (key_is bs) (is_named bs) (λ e. refl) es ∙ ap (λ (ys : List Scenario). has_scenario ys bs) v

  pub inserted : (k : RcStr Z) (l : Layer) (es : List (RcStr Z × Layer))
      → stored (insert_entry (λ x y. pointwise nat_eq (rc_str_bytes x) (rc_str_bytes y)) es k l) ≡ with_scenario (stored es) (with_name (rc_str_bytes k) l)
  inserted k l [] = refl
  inserted k l (e ∷ es) = by (key_is (rc_str_bytes k) e.0) refl (inserted k l es)
    where
      rest : List (RcStr Z × Layer)
      rest = insert_entry (λ x y. pointwise nat_eq (rc_str_bytes x) (rc_str_bytes y)) es k l

      by : (b : Bool) → key_is (rc_str_bytes k) e.0 ≡ b → stored rest ≡ with_scenario (stored es) (with_name (rc_str_bytes k) l)
          → stored (if b then (e.0, l) ∷ es else e ∷ rest) ≡ (if b then with_name (rc_str_bytes k) l ∷ stored es else scenario_in e ∷ with_scenario (stored es) (with_name (rc_str_bytes k) l))
      by true t h = ap (λ (n : List ℕ). with_name n l ∷ stored es) (same_bytes (rc_str_bytes k) (rc_str_bytes e.0) t)
      by false t h = ap (λ (xs : List Scenario). scenario_in e ∷ xs) h

  pub removed : (bs : List ℕ) (es fs : List (RcStr Z × Layer)) (xs : List Scenario) → fs ≡ remove_entry (key_is bs) es → lookup (key_is bs) fs ≡ None
      → stored es ≡ xs → stored fs ≡ without_scenario xs bs
  removed bs es fs xs e h v =
      ap (λ (gs : List (RcStr Z × Layer)). stored gs) e
      ∙ removed-filter scenario_in (key_is bs) (is_named bs) (λ e. refl) es (sym (ap (λ (gs : List (RcStr Z × Layer)). lookup (key_is bs) gs) e) ∙ h)
      ∙ ap (λ (ys : List Scenario). without_scenario ys bs) v

  pub cloned : (es fs : List (RcStr Z × Layer))
      → AllZip (λ p q. (rc_str_bytes q.0 ≡ rc_str_bytes p.0) × IsSame p.1 q.1) es fs → stored fs ≡ stored es
  cloned [] [] h = refl
  cloned [] (f ∷ fs) h = absurd h
  cloned (e ∷ es) [] h = absurd h
  cloned (e ∷ es) (f ∷ fs) h =
      let rest = cloned es fs h.1 in
      λ i. (record { name = h.0.0 i; own = h.0.1.0 i; base = h.0.1.1 i }) ∷ rest i

  any_of_stored : (bs : List ℕ) (es : List (RcStr Z × Layer)) → list_any (λ l. is_name_of bs (base_of l)) (values_of es) ≡ is_base (stored es) bs
  any_of_stored bs [] = refl
  any_of_stored bs (e ∷ es) = ap (λ (b : Bool). is_name_of bs (base_of e.1) || b) (any_of_stored bs es)

  pub any_based : (bs : List ℕ) (es : List (RcStr Z × Layer)) (xs : List Scenario) (b : Bool) → b ≡ list_any (λ l. is_name_of bs (base_of l)) (values_of es)
      → stored es ≡ xs → b ≡ is_base xs bs
  any_based bs es xs b e v = e ∙ any_of_stored bs es ∙ ap (λ (ys : List Scenario). is_base ys bs) v

-- whether there is a scenario, and which one is meant
pub has-found : (bs : List ℕ) (xs : List Scenario) → has_scenario xs bs ≡ is_some (scenario_of xs (Some bs))
has-found bs [] = refl
has-found bs (x ∷ xs) = by (is_named bs x) (has-found bs xs)
  where
    by : (b : Bool) → list_any (is_named bs) xs ≡ is_some (find (is_named bs) xs) → (b || list_any (is_named bs) xs) ≡ is_some (cond b (Some x) (find (is_named bs) xs))
    by true h = refl
    by false h = h

pub not_found : (bs : List ℕ) (xs : List Scenario) → scenario_of xs (Some bs) ≡ None → has_scenario xs bs ≡ true → ⊥
not_found bs xs e t = true≢false (sym t ∙ has-found bs xs ∙ ap is_some e)

pub found_there : (bs : List ℕ) (xs : List Scenario) (x : Scenario) → scenario_of xs (Some bs) ≡ Some x → has_scenario xs bs ≡ false → ⊥
found_there bs xs x e t = true≢false (sym (has-found bs xs ∙ ap is_some e) ∙ t)

-- what is behind the references
pub behind : (f : Layer → Scenario) (r : Option (Bor Layer)) → option_map (λ l. f l.now) r ≡ option_map f (option_copied r)
behind f None = refl
behind f (Some l) = refl

-- ---- whether there would be too many

pub full_where_there : (xs : List Scenario) (bs : List ℕ) (a : ℕ) (x : Scenario) (b : Bool) → scenario_of xs (Some bs) ≡ Some x
    → b ≡ (not (is_replaced x.own a) && nat_le max_replacements (length x.own)) → b ≡ is_full xs bs a
full_where_there xs bs a x b e h =
    let full = λ (y : Scenario). not (is_replaced y.own a) && nat_le 256 (length y.own) in
    h ∙ sym (
    ap (λ (t : Bool). (not t && nat_le 64 (length xs)) || full (scenario_for xs bs)) (has-found bs xs ∙ ap is_some e)
    ∙ ap (λ (o : Option Scenario). full (scenario_or_new bs o)) e)

pub full_where_none : (xs : List Scenario) (bs : List ℕ) (a n : ℕ) (b : Bool) → scenario_of xs (Some bs) ≡ None → b ≡ nat_le 64 n → n ≡ length xs → b ≡ is_full xs bs a
full_where_none xs bs a n b e g l =
    let full = λ (y : Scenario). not (is_replaced y.own a) && nat_le 256 (length y.own) in
    g ∙ ap (λ (k : ℕ). nat_le 64 k) l ∙ sym (or-false (nat_le 64 (length xs)))
    ∙ sym (
    ap (λ (t : Bool). (not t && nat_le 64 (length xs)) || full (scenario_for xs bs)) (has-found bs xs ∙ ap is_some e)
    ∙ ap (λ (o : Option Scenario). nat_le 64 (length xs) || full (scenario_or_new bs o)) e)
