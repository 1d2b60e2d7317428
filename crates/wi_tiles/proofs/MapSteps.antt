-- What a map by cell has once something is put in, replaced or taken away.
use Rattle.wi_tiles.proofs.Words.{◌≡◌, ◌==◌, ℕ, Bool, true, false, cond, not, List, [], ◌∷◌, filter, Option, Some, None, refl, sym, ap, subst, ◌∙◌, arith, unwrap_or, is_some, nat_cmp, keys_of, lookup, remove_entry, set_value, insert_entry, is_at, eqb-true, ne_eqb, true≢false, eq_by_cmp_equiv, nat_cmp_total, keys-set_value, lookup-set_value, found-insert, found-without, Ascends, Ascends-filter, Ascends-from_order, Ascends-insert, ComeAfter, at_same, at_other, is_at-eq, order-from_Ascends, turn_test}
use Rattle.std.specs.List.Sorted.{IsStrictlySortedBy}
use Rattle.std.specs.Option.{IsSome}

module _ {X : Type 0} where
  -- ---- something put where nothing stands

  abbrev pub with_new : List (ℕ × X) → ℕ → X → List (ℕ × X)
  with_new es at x = cond (is_some (lookup (is_at (nat_cmp at)) es)) es (insert_entry nat_cmp es at x)

  pub order-with_new : (es new : List (ℕ × X)) (at : ℕ) (x : X) → new ≡ with_new es at x → IsStrictlySortedBy nat_cmp (keys_of es) → IsStrictlySortedBy nat_cmp (keys_of new)
  order-with_new es new at x e h = by (is_some (lookup (is_at (nat_cmp at)) es)) e
    where
      by : (b : Bool) → new ≡ cond b es (insert_entry nat_cmp es at x) → IsStrictlySortedBy nat_cmp (keys_of new)
      by true f = subst (λ (ds : List (ℕ × X)). IsStrictlySortedBy nat_cmp (keys_of ds)) (sym f) h
      by false f = subst (λ (ds : List (ℕ × X)). IsStrictlySortedBy nat_cmp (keys_of ds)) (sym f) (order-from_Ascends _ (Ascends-insert at x es (Ascends-from_order es h)))

  -- it has what it had, or else what was put
  pub found-with_new : (es new : List (ℕ × X)) (at : ℕ) (x : X) → new ≡ with_new es at x → (q : ℕ)
      → lookup (is_at (nat_cmp q)) new ≡ cond (is_at (nat_cmp at) q) (Some (unwrap_or (lookup (is_at (nat_cmp at)) es) x)) (lookup (is_at (nat_cmp q)) es)
  found-with_new es new at x e q = by (lookup (is_at (nat_cmp at)) es) refl e
    where
      itself : (v : X) (b : Bool) → is_at (nat_cmp at) q ≡ b → lookup (is_at (nat_cmp at)) es ≡ Some v → lookup (is_at (nat_cmp q)) es ≡ cond b (Some v) (lookup (is_at (nat_cmp q)) es)
      itself v true t f = ap (λ (a : ℕ). lookup (is_at (nat_cmp a)) es) (at_same at q t) ∙ f
      itself v false t f = refl

      by : (o : Option X) → lookup (is_at (nat_cmp at)) es ≡ o → new ≡ cond (is_some o) es (insert_entry nat_cmp es at x)
          → lookup (is_at (nat_cmp q)) new ≡ cond (is_at (nat_cmp at) q) (Some (unwrap_or o x)) (lookup (is_at (nat_cmp q)) es)
      by (Some v) f g = ap (λ (ds : List (ℕ × X)). lookup (is_at (nat_cmp q)) ds) g ∙ itself v (is_at (nat_cmp at) q) refl f
      by None f g =
          ap (λ (ds : List (ℕ × X)). lookup (is_at (nat_cmp q)) ds) g ∙ found-insert es at x q
          ∙ ap (λ (b : Bool). cond b (Some x) (lookup (is_at (nat_cmp q)) es)) (turn_test q at ∙ sym (is_at-eq at q))

  -- whether something stood there
  pub nothing_there : (o : Option X) (new : Bool) → new ≡ not (is_some o) → new ≡ true → o ≡ None
  nothing_there None new e t = refl
  nothing_there (Some x) new e t = absurd (true≢false (sym t ∙ e))

  pub something_there : (o : Option X) (new : Bool) → new ≡ not (is_some o) → new ≡ false → is_some o ≡ true
  something_there None new e t = absurd (true≢false (sym e ∙ t))
  something_there (Some x) new e t = refl

  pub nothing_put : (es new : List (ℕ × X)) (at : ℕ) (x : X) → new ≡ with_new es at x → is_some (lookup (is_at (nat_cmp at)) es) ≡ true → new ≡ es
  nothing_put es new at x e t = e ∙ ap (λ (b : Bool). cond b es (insert_entry nat_cmp es at x)) t

  -- ---- something put in the place of what stands

  pub keys-replaced : (es new : List (ℕ × X)) (at : ℕ) (w : X) → new ≡ set_value (is_at (nat_cmp at)) es w → keys_of new ≡ keys_of es
  keys-replaced es new at w e = ap (λ (ds : List (ℕ × X)). keys_of ds) e ∙ keys-set_value (is_at (nat_cmp at)) es w

  pub found-replaced : (es new : List (ℕ × X)) (at : ℕ) (w : X) → new ≡ set_value (is_at (nat_cmp at)) es w → IsSome (lookup (is_at (nat_cmp at)) es)
      → (q : ℕ) → lookup (is_at (nat_cmp q)) new ≡ cond (is_at (nat_cmp at) q) (Some w) (lookup (is_at (nat_cmp q)) es)
  found-replaced es new at w e there q =
      ap (λ (ds : List (ℕ × X)). lookup (is_at (nat_cmp q)) ds) e
      ∙ lookup-set_value (eq_by_cmp_equiv nat_cmp_total) (is_at (nat_cmp at)) (λ x y t. (eq_by_cmp_equiv nat_cmp_total).congr at x y t) q w es there

  -- where nothing stands nothing is put
  pub replaced_nowhere : (es : List (ℕ × X)) (at : ℕ) (w : X) → lookup (is_at (nat_cmp at)) es ≡ None → set_value (is_at (nat_cmp at)) es w ≡ es
  replaced_nowhere [] at w n = refl
  replaced_nowhere (e ∷ es) at w n = by (is_at (nat_cmp at) e.0) n (replaced_nowhere es at w)
    where
      by : (b : Bool) → cond b (Some e.1) (lookup (is_at (nat_cmp at)) es) ≡ None → (lookup (is_at (nat_cmp at)) es ≡ None → set_value (is_at (nat_cmp at)) es w ≡ es)
          → cond b ((e.0, w) ∷ es) (e ∷ set_value (is_at (nat_cmp at)) es w) ≡ e ∷ es
      by true n ih = cc
      by false n ih = ap (λ (ds : List (ℕ × X)). e ∷ ds) (ih n)

  -- each other cell has what it had
  pub found-others : (es new : List (ℕ × X)) (at : ℕ) (w : X) → new ≡ set_value (is_at (nat_cmp at)) es w → (q : ℕ) → (q ≡ at → ⊥) → lookup (is_at (nat_cmp q)) new ≡ lookup (is_at (nat_cmp q)) es
  found-others es new at w e q apart = by (lookup (is_at (nat_cmp at)) es) refl
    where
      by : (o : Option X) → lookup (is_at (nat_cmp at)) es ≡ o → lookup (is_at (nat_cmp q)) new ≡ lookup (is_at (nat_cmp q)) es
      by None n = ap (λ (ds : List (ℕ × X)). lookup (is_at (nat_cmp q)) ds) (e ∙ replaced_nowhere es at w n)
      by (Some x) some =
          found-replaced es new at w e (ap is_some some) q ∙ ap (λ (b : Bool). cond b (Some w) (lookup (is_at (nat_cmp q)) es)) (at_other at q apart)

  -- ---- something taken away

  none_named : (c : ℕ) (es : List (ℕ × X)) → ComeAfter c es → filter (λ e. not (e.0 == c)) es ≡ es
  none_named c [] h = refl
  none_named c (e ∷ es) h =
      ap (λ (b : Bool). cond (not b) (e ∷ filter (λ e. not (e.0 == c)) es) (filter (λ e. not (e.0 == c)) es)) (ne_eqb e.0 c (λ p. omega (arith, h.0, p)))
      ∙ ap (λ (ds : List (ℕ × X)). e ∷ ds) (none_named c es h.1)

  -- in order a cell has one entry at most
  without_one : (c : ℕ) (es : List (ℕ × X)) → Ascends es → remove_entry (is_at (nat_cmp c)) es ≡ filter (λ e. not (e.0 == c)) es
  without_one c [] h = refl
  without_one c (e ∷ es) h = by (is_at (nat_cmp c) e.0) (is_at-eq c e.0 ∙ turn_test c e.0) (without_one c es h.1)
    where
      by : (b : Bool) → b ≡ (e.0 == c) → remove_entry (is_at (nat_cmp c)) es ≡ filter (λ e. not (e.0 == c)) es
          → cond b es (e ∷ remove_entry (is_at (nat_cmp c)) es) ≡ cond (not (e.0 == c)) (e ∷ filter (λ e. not (e.0 == c)) es) (filter (λ e. not (e.0 == c)) es)
      by true t ih =
          sym (none_named c es (subst (λ (a : ℕ). ComeAfter a es) (eqb-true e.0 c (sym t)) h.0))
          ∙ ap (λ (b : Bool). cond (not b) (e ∷ filter (λ e. not (e.0 == c)) es) (filter (λ e. not (e.0 == c)) es)) t
      by false t ih =
          ap (λ (ds : List (ℕ × X)). e ∷ ds) ih
          ∙ ap (λ (b : Bool). cond (not b) (e ∷ filter (λ e. not (e.0 == c)) es) (filter (λ e. not (e.0 == c)) es)) t

  pub found-removed : (es new : List (ℕ × X)) (at : ℕ) → new ≡ remove_entry (is_at (nat_cmp at)) es → IsStrictlySortedBy nat_cmp (keys_of es)
      → (q : ℕ) → lookup (is_at (nat_cmp q)) new ≡ cond (is_at (nat_cmp at) q) None (lookup (is_at (nat_cmp q)) es)
  found-removed es new at e h q =
      ap (λ (ds : List (ℕ × X)). lookup (is_at (nat_cmp q)) ds) (e ∙ without_one at es (Ascends-from_order es h)) ∙ found-without es at q
      ∙ ap (λ (b : Bool). cond b None (lookup (is_at (nat_cmp q)) es)) (turn_test q at ∙ sym (is_at-eq at q))

  pub order-removed : (es new : List (ℕ × X)) (at : ℕ) → new ≡ remove_entry (is_at (nat_cmp at)) es → IsStrictlySortedBy nat_cmp (keys_of es) → IsStrictlySortedBy nat_cmp (keys_of new)
  order-removed es new at e h =
      let up = Ascends-from_order es h in
      subst (λ (ds : List (ℕ × X)). IsStrictlySortedBy nat_cmp (keys_of ds)) (sym (e ∙ without_one at es up)) (order-from_Ascends _ (Ascends-filter (λ e. not (e.0 == at)) es up))
