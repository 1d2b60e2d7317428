-- What is found under a number after an entry is put in or taken away.
use Rattle.wi_values.proofs.Words.{◌≡◌, ◌==◌, ℕ, Bool, true, false, cond, not, List, [], ◌∷◌, filter, Option, Some, None, refl, ap, sym, ◌∙◌, arith, nat_tests, lookup-filter-keys, nat_cmp, match_ordering, Ordering, Less, Equal, Greater, lookup, is_at, insert_entry}
use Rattle.wi_values.proofs.Order.{same_from_Equal, is_at-eq, at_same}

apart : (q c k : ℕ) → nat_cmp c k ≡ Greater → (q == c) ≡ true → is_at (nat_cmp q) k ≡ true → ⊥
apart q c k h a b = grind (arith, nat_tests)

module _ {X : Type 0} where
  -- two tests that say the same, and two that don't both hold
  cond_again : (b d : Bool) (x y z : Option X) → d ≡ b → cond d x z ≡ cond b x (cond d y z)
  cond_again true true x y z h = refl
  cond_again false false x y z h = refl
  cond_again true false x y z h = cc
  cond_again false true x y z h = cc

  pub cond_apart : (b d : Bool) (x y z r : Option X) → (b ≡ true → d ≡ true → ⊥) → r ≡ cond b x z → cond d y r ≡ cond b x (cond d y z)
  cond_apart true true x y z r h e = absurd (h refl refl)
  cond_apart true false x y z r h e = e
  cond_apart false true x y z r h e = refl
  cond_apart false false x y z r h e = e

  -- an insertion at one place of the order
  insert_at : (q c : ℕ) (x : X) (e : ℕ × X) (es : List (ℕ × X)) (o : Ordering) → nat_cmp c e.0 ≡ o →
      lookup (is_at (nat_cmp q)) (insert_entry nat_cmp es c x) ≡ cond (q == c) (Some x) (lookup (is_at (nat_cmp q)) es) →
      lookup (is_at (nat_cmp q)) (match_ordering o ((c, x) ∷ e ∷ es) ((e.0, x) ∷ es) (e ∷ insert_entry nat_cmp es c x)) ≡ cond (q == c) (Some x) (lookup (is_at (nat_cmp q)) (e ∷ es))
  insert_at q c x e es Less h ih = ap (λ (b : Bool). cond b (Some x) (lookup (is_at (nat_cmp q)) (e ∷ es))) (is_at-eq q c)
  insert_at q c x e es Equal h ih =
      cond_again (q == c) (is_at (nat_cmp q) e.0) (Some x) (Some e.1) (lookup (is_at (nat_cmp q)) es) (is_at-eq q e.0 ∙ ap (λ (k : ℕ). q == k) (sym (same_from_Equal c e.0 h)))
  insert_at q c x e es Greater h ih =
      cond_apart (q == c) (is_at (nat_cmp q) e.0) (Some x) (Some e.1) (lookup (is_at (nat_cmp q)) es) _ (apart q c e.0 h) ih

  pub found-insert : (es : List (ℕ × X)) (c : ℕ) (x : X) (q : ℕ) → lookup (is_at (nat_cmp q)) (insert_entry nat_cmp es c x) ≡ cond (q == c) (Some x) (lookup (is_at (nat_cmp q)) es)
  found-insert [] c x q = ap (λ (b : Bool). cond b (Some x) None) (is_at-eq q c)
  found-insert (e ∷ es) c x q = insert_at q c x e es (nat_cmp c e.0) refl (found-insert es c x q)

  turned : (b : Bool) (o : Option X) → cond (not b) o None ≡ cond b None o
  turned true o = refl
  turned false o = refl

  pub found-without : (es : List (ℕ × X)) (c q : ℕ) → lookup (is_at (nat_cmp q)) (filter (λ e. not (e.0 == c)) es) ≡ cond (q == c) None (lookup (is_at (nat_cmp q)) es)
  found-without es c q =
      lookup-filter-keys (is_at (nat_cmp q)) (λ k. not (k == c)) (not (q == c)) (λ k t. ap (λ (z : ℕ). not (z == c)) (at_same q k t)) es
      ∙ turned (q == c) (lookup (is_at (nat_cmp q)) es)
