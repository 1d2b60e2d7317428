-- Fields and records copied one after another.
use Rattle.std.proofs.Common.{◌≡◌, ◌+◌, ℕ, zero, suc, List, [], ◌∷◌, ◌++◌, map, take, Some, None, refl, sym, ap, ◌∙◌, arith}
use Rattle.std.specs.Prelude.{IsOkAnd, Result, Ok, Err}
use Rattle.std.proofs.lemmas.List.{map-append}
use Rattle.csv.specs.Records.{field_at}

taken : (fields : List (List ℕ)) (i : ℕ) (f : List ℕ) → Some f ≡ field_at fields i → take (suc i) fields ≡ take i fields ++ f ∷ []
unfolding field_at
taken [] i f h = cc h
taken (x ∷ xs) zero f h = cc h
taken (x ∷ xs) (suc i) f h = ap (λ t. x ∷ t) (taken xs i f h)

-- one more is a copy
pub one_more : {X A : Type 0} (text : X → A) (copies next : List X) (copy : X) (a : A) → next ≡ copies ++ copy ∷ [] → text copy ≡ a
    → map text copies ++ a ∷ [] ≡ map text next
one_more text copies next copy a grown same =
    ap (λ t. map text copies ++ t ∷ []) (sym same) ∙ sym (map-append text copies (copy ∷ [])) ∙ ap (map text) (sym grown)

pub field_more : {X : Type 0} (text : X → List ℕ) (copies next : List X) (copy : X) (fields : List (List ℕ)) (i j : ℕ) (f : List ℕ)
    → map text copies ≡ take i fields → Some f ≡ field_at fields i → j ≡ i + 1 → next ≡ copies ++ copy ∷ [] → text copy ≡ f
    → map text next ≡ take j fields
field_more text copies next copy fields i j f so_far found more grown same =
    let place : suc i ≡ j = omega (arith, more) in
    sym (one_more text copies next copy f grown same) ∙ ap (λ t. t ++ f ∷ []) so_far ∙ sym (taken fields i f found) ∙ ap (λ n. take n fields) place

-- where there is no field more, all are taken
pub no_more : (fields : List (List ℕ)) (i : ℕ) → None ≡ field_at fields i → take i fields ≡ fields
unfolding field_at
no_more [] zero h = refl
no_more [] (suc i) h = refl
no_more (x ∷ xs) zero h = cc h
no_more (x ∷ xs) (suc i) h = ap (λ t. x ∷ t) (no_more xs i h)

-- where a value is read of which something holds, there is that value
pub read_and : {X E : Type 0} (read : Result X E) (P : X → Type 0) → IsOkAnd read P → (x : X) × (read ≡ Ok x) × P x
read_and (Ok x) P h = (x, refl, h)
read_and (Err e) P h = absurd h
