-- Values that are kept are right: over an edit, where one is found, and where a question begins.
use Rattle.wi_propagate.proofs.Words.{◌≡◌, ◌≤◌, ◌<◌, ◌+◌, ◌||◌, ℕ, Bool, true, false, List, [], Option, Some, None, IfSome, is_some, refl, sym, ◌∙◌, subst, arith, true≢false, option_or, Value, Replacement, Sheet, put_all, Key, Entries, KeptValues, value_for, circular, cell_value, IsInCone, SameOff, in_cone, IsRight, IsKeptFor, AreRight, IsMemoOf, IsComplete, Generations, generation_in, key_in, Keeping, keeping, state_in, IsKeepingRight, same_for_reached, outside_circular, outside_reaches, outside_value, reaches_true, true_reaches, true_in_cone, or_none}

-- a value found under the replacements that reach its cell
pub made_right : (s : Sheet) (c : ℕ) (w : List Replacement) (v : Value) → circular s c ≡ false → v ≡ cell_value (put_all s w) c → IsRight s c w v
made_right s c w v o e = record {
  open_cell = o;
  holds = λ p h. same_for_reached s p w c h ∙ sym e;
}

pub found_right : (s : Sheet) (c : ℕ) (w : List Replacement) (v : Value) → IsRight s c w v → v ≡ cell_value (put_all s w) c
found_right s c w v r = sym (r.holds w (λ d h. refl))

-- ---- an edit

pub right_outside : (s t : Sheet) (xs : List ℕ) (c : ℕ) (w : List Replacement) (v : Value) → SameOff s t xs → (IsInCone s xs c → ⊥) → IsRight s c w v → IsRight t c w v
right_outside s t xs c w v same out r = record {
  open_cell = sym (outside_circular s t xs c same out) ∙ r.open_cell;
  holds = λ p h. sym (outside_value s t xs c p same out) ∙ r.holds p (λ d k. h d (reaches_true t c d (sym (outside_reaches s t xs c d same out) ∙ true_reaches s c d k)));
}

-- generations are raised past the last edit in the cone, and stay elsewhere
pub record AreRaised (s : Sheet) (xs : List ℕ) (edits : ℕ) (old new : ℕ → ℕ) : Type 0 where
  pub inside : (c : ℕ) → in_cone s xs c ≡ true → edits < new c
  pub beside : (c : ℕ) → in_cone s xs c ≡ false → new c ≡ old c

pub kept_over_edit : (s t : Sheet) (xs : List ℕ) (edits : ℕ) (old new : ℕ → ℕ) (es : Entries) → SameOff s t xs → AreRaised s xs edits old new → AreRight s edits old es → AreRight t (edits + 1) new es
kept_over_edit s t xs edits old new es same raised h k = at (value_for es k) (h k)
  where
    right : (v : Value) → IsKeptFor s edits old k v → k.generation ≡ new k.cell → (b : Bool) → in_cone s xs k.cell ≡ b → IsRight t k.cell k.world v
    right v i g true e = let z = raised.inside k.cell e in let y = i.past in absurd (omega arith)
    right v i g false e = right_outside s t xs k.cell k.world v same (λ j. true≢false (sym (true_in_cone s xs k.cell j) ∙ e)) (i.right (g ∙ raised.beside k.cell e))

    at : (o : Option Value) → IfSome o (IsKeptFor s edits old k) → IfSome o (IsKeptFor t (edits + 1) new k)
    at None i = tt
    at (Some v) i = let y = i.past in record { past = omega arith; right = λ g. right v i g (in_cone s xs k.cell) refl }

-- ---- what the engine finds is kept

pub found_is_kept : (s : Sheet) (edits : ℕ) (generation : ℕ → ℕ) (k : Key) (v : Value) → ((c : ℕ) → generation c ≤ edits) → circular s k.cell ≡ false → k.generation ≡ generation k.cell → v ≡ cell_value (put_all s k.world) k.cell →
    IsKeptFor s edits generation k v
found_is_kept s edits generation k v past o g e = record {
  past = let z = past k.cell in omega (arith, g);
  right = λ h. made_right s k.cell k.world v o e;
}

-- ---- a question begins

pub complete_in : (q : Keeping) → IsComplete (state_in q)
complete_in q c w = at (value_for q.values.entries (key_in q.generations c w)) (value_for q.given_up (key_in q.generations c w))
  where
    at : (o p : Option Value) → is_some (option_or o p) ≡ (is_some (option_or o p) || is_some o)
    at None None = refl
    at None (Some v) = refl
    at (Some v) p = refl

known_right : (s : Sheet) (n : ℕ) (g : ℕ → ℕ) (c : ℕ) (w : List Replacement) (o : Option Value) → IfSome o (IsKeptFor s n g (record { cell = c; generation = g c; world = w })) → IfSome o (λ v. v ≡ cell_value (put_all s w) c)
known_right s n g c w None h = tt
known_right s n g c w (Some v) h = found_right s c w v (h.right refl)

pub begun_is_memo : (s : Sheet) (n : ℕ) (gs : Generations) (es : Entries) (k : KeptValues) → es ≡ [] → IsKeepingRight (keeping s n gs [] k) → IsMemoOf s (state_in (keeping s n gs es k))
begun_is_memo s n gs es k e h = subst (λ (x : Entries). IsMemoOf s (state_in (keeping s n gs x k))) (sym e) (record {
  sheet = refl;
  right = λ c w. subst (λ (o : Option Value). IfSome o (λ v. v ≡ cell_value (put_all s w) c)) (sym (or_none (value_for k.entries (key_in gs c w)))) (known_right s n (generation_in gs) c w (value_for k.entries (key_in gs c w)) (h.right (key_in gs c w)));
  closed = λ c d i r f. refl;
  complete = complete_in (keeping s n gs [] k);
})
