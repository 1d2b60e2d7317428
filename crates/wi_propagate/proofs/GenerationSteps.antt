-- Generations are given and raised, one cell after another.
use Rattle.wi_propagate.proofs.Words.{◌≡◌, ◌==◌, ◌||◌, ◌⊎◌, inl, inr, ◌<◌, ◌+◌, ℕ, Bool, true, false, cond, List, length, take, get_or, Option, Some, None, IsSome, is_some, refl, ap, sym, ◌∙◌, subst, eqb-true, or_cases, eq_by_cmp_equiv, nat_cmp_total, lookup-set_value, unwrap_or, nat_cmp, eq_by_cmp, lookup, set_value, is_at, insert_entry, found-insert, is_at-eq, is_itself, turn_test, is_one_of, Generations, generation_in, HasGeneration, has_one_more}

-- a cell is given a generation, and no other cell
abbrev pub IsGiven : Generations → Generations → ℕ → ℕ → Type 0
IsGiven old new a w = (c : ℕ) → lookup (is_at (nat_cmp c)) new ≡ cond (a == c) (Some w) (lookup (is_at (nat_cmp c)) old)

-- each cell that had a generation has one then
pub still_there : (old new : Generations) (a w : ℕ) → IsGiven old new a w → (c : ℕ) → HasGeneration old c → HasGeneration new c
still_there old new a w u c h = subst (λ (o : Option ℕ). IsSome o) (sym (u c)) (at (a == c))
  where
    at : (b : Bool) → IsSome (cond b (Some w) (lookup (is_at (nat_cmp c)) old))
    at true = refl
    at false = h

-- ---- room is made

-- for the generation of a cell
pub record MakesSpace (old new : Generations) (a : ℕ) : Type 0 where
  pub same : (c : ℕ) → generation_in new c ≡ generation_in old c
  pub stay : (c : ℕ) → HasGeneration old c → HasGeneration new c
  pub there : HasGeneration new a

-- by 0, where the cell had none
space_given : (old new : Generations) (a : ℕ) → generation_in old a ≡ 0 → IsGiven old new a 0 → MakesSpace old new a
space_given old new a none u = record {
  same = λ c. ap (λ (o : Option ℕ). unwrap_or o 0) (u c) ∙ at c (a == c) refl;
  stay = still_there old new a 0 u;
  there = subst (λ (o : Option ℕ). IsSome o) (sym (u a ∙ ap (λ (b : Bool). cond b (Some 0) (lookup (is_at (nat_cmp a)) old)) (is_itself a))) refl;
}
  where
    at : (c : ℕ) (b : Bool) → (a == c) ≡ b → unwrap_or (cond b (Some 0) (lookup (is_at (nat_cmp c)) old)) 0 ≡ generation_in old c
    at c true t = sym none ∙ ap (generation_in old) (eqb-true a c t)
    at c false t = refl

pub space_made : (old new : Generations) (a : ℕ) → new ≡ cond (is_some (lookup (is_at (nat_cmp a)) old)) old (insert_entry nat_cmp old a 0) → MakesSpace old new a
space_made old new a e = at (lookup (is_at (nat_cmp a)) old) refl e
  where
    at : (o : Option ℕ) → lookup (is_at (nat_cmp a)) old ≡ o → new ≡ cond (is_some o) old (insert_entry nat_cmp old a 0) → MakesSpace old new a
    at (Some w) h k = subst (λ (x : Generations). MakesSpace old x a) (sym k) (record { same = λ c. refl; stay = λ c g. g; there = subst (λ (o : Option ℕ). IsSome o) (sym h) refl })
    at None h k =
        space_given old new a (ap (λ (o : Option ℕ). unwrap_or o 0) h)
        (λ c. ap (lookup (is_at (nat_cmp c))) k ∙ found-insert old a 0 c ∙ ap (λ (b : Bool). cond b (Some 0) (lookup (is_at (nat_cmp c)) old)) (turn_test c a))

pub there_more : (old new : Generations) (xs : List ℕ) (i a : ℕ) → i < length xs → a ≡ get_or xs i a → MakesSpace old new a → ((c : ℕ) → is_one_of (take i xs) c ≡ true → HasGeneration old c) → (c : ℕ) → is_one_of (take (i + 1) xs) c ≡ true → HasGeneration new c
there_more old new xs i a l e made k c m = at (or_cases (is_one_of (take i xs) c) (a == c) (sym (has_one_more xs i a c l e) ∙ m))
  where
    at : (is_one_of (take i xs) c ≡ true) ⊎ ((a == c) ≡ true) → HasGeneration new c
    at (inl f) = made.stay c (k c f)
    at (inr f) = subst (HasGeneration new) (eqb-true a c f) made.there

-- ---- raised

pub replaced : (old new : Generations) (a w : ℕ) → HasGeneration old a → new ≡ set_value (is_at (nat_cmp a)) old w → IsGiven old new a w
replaced old new a w h e c =
    let same = eq_by_cmp_equiv nat_cmp_total in
    ap (lookup (is_at (nat_cmp c))) e ∙ lookup-set_value {eq = eq_by_cmp nat_cmp} same (is_at (nat_cmp a)) (same.congr a) c w old h ∙ ap (λ (b : Bool). cond b (Some w) (lookup (is_at (nat_cmp c)) old)) (is_at-eq a c)

pub raised_more : (old new first : Generations) (xs : List ℕ) (i a edit : ℕ) → i < length xs → a ≡ get_or xs i a → IsGiven old new a edit → ((c : ℕ) → generation_in old c ≡ cond (is_one_of (take i xs) c) edit (generation_in first c)) →
    (c : ℕ) → generation_in new c ≡ cond (is_one_of (take (i + 1) xs) c) edit (generation_in first c)
raised_more old new first xs i a edit l e u h c =
    ap (λ (o : Option ℕ). unwrap_or o 0) (u c) ∙ at (is_one_of (take i xs) c) (a == c) (h c)
    ∙ ap (λ (b : Bool). cond b edit (generation_in first c)) (sym (has_one_more xs i a c l e))
  where
    at : (b d : Bool) → generation_in old c ≡ cond b edit (generation_in first c) → unwrap_or (cond d (Some edit) (lookup (is_at (nat_cmp c)) old)) 0 ≡ cond (b || d) edit (generation_in first c)
    at true true k = refl
    at true false k = k
    at false true k = refl
    at false false k = k
