-- A value is kept in one question, and for longer.
use Rattle.wi_propagate.proofs.Words.{◌≡◌, ◌==◌, ◌<◌, ◌≤◌, ◌-◌, ◌+◌, inl, inr, ◌||◌, ◌&&◌, ℕ, Bool, true, false, cond, min, List, length, Option, Some, None, IsSome, is_some, refl, ap, sym, ◌∙◌, subst, arith, if◌then◌else◌, eqb-true, or_left, update, Value, Replacement, same_replacements, is_itself, Key, Entries, KeptValues, HasSpace, PutsIn, PutsForGoing, PutsForOne, same_key, value_for, len_after, holds_after_keep, Sheet, same_case, GivesUpWhenFull, IsKeptFor, AreRight, Generations, generation_in, key_in, keeping, state_in}

-- what an accepted `keep` of kept values ensures
pub record KeepsIn (m n : KeptValues) (k : Key) (v : Value) : Type 0 where
  pub found : value_for n.entries k ≡ Some v
  pub stays : HasSpace m k → PutsIn m.entries n.entries k v
  pub goes : value_for m.entries k ≡ None → m.capacity ≤ length m.entries → PutsForOne m.entries n.entries k v
  pub len : length n.entries ≡ len_after m k
  pub going : PutsForGoing m n k v
  pub capacity : n.capacity ≡ m.capacity

pub right_after : (s : Sheet) (edits : ℕ) (g : ℕ → ℕ) (m n : KeptValues) (k : Key) (v : Value) → KeepsIn m n k v → IsKeptFor s edits g k v → AreRight s edits g m.entries → AreRight s edits g n.entries
right_after s edits g m n k v h i a = holds_after_keep (IsKeptFor s edits g) k v i m n h.stays h.goes a

-- keys of the present generation are one where their cases are
pub same_here : (g : Generations) (k : Key) (c : ℕ) (w : List Replacement) → k.generation ≡ generation_in g k.cell → same_key k (key_in g c w) ≡ same_case (k.cell, k.world) (c, w)
same_here g k c w e = at (k.cell == c) refl
  where
    at : (b : Bool) → (k.cell == c) ≡ b → (b && ((k.generation == generation_in g c) && same_replacements k.world w)) ≡ (b && same_replacements k.world w)
    at true h = ap (λ (n : ℕ). (n == generation_in g c) && same_replacements k.world w) (e ∙ ap (generation_in g) (eqb-true k.cell c h)) ∙ ap (λ (b : Bool). b && same_replacements k.world w) (is_itself (generation_in g c))
    at false h = refl

is_some_cond : (b : Bool) (v : Value) (o : Option Value) → is_some (cond b (Some v) o) ≡ (is_some o || b)
is_some_cond true v None = refl
is_some_cond true v (Some x) = refl
is_some_cond false v None = refl
is_some_cond false v (Some x) = refl

-- a key that is put in is there from then on, as its case
pub put_is_some : (g : Generations) (old new : Key → Option Value) (k : Key) (v : Value) → k.generation ≡ generation_in g k.cell → ((q : Key) → new q ≡ update same_key old k (Some v) q) → (c : ℕ) (w : List Replacement) →
    is_some (new (key_in g c w)) ≡ (is_some (old (key_in g c w)) || same_case (k.cell, k.world) (c, w))
put_is_some g old new k v e p c w =
    ap (λ (o : Option Value). is_some o) (p (key_in g c w)) ∙ is_some_cond (same_key k (key_in g c w)) v (old (key_in g c w))
    ∙ ap (λ (b : Bool). is_some (old (key_in g c w)) || b) (same_here g k c w e)

has_space : (m : KeptValues) (k : Key) → 1 ≤ m.capacity - length m.entries → HasSpace m k
has_space m k h = inr (omega arith)

pub kept_after : (g : Generations) (m n : KeptValues) (k : Key) (v : Value) → KeepsIn m n k v → k.generation ≡ generation_in g k.cell →
    1 ≤ m.capacity - length m.entries → (c : ℕ) (w : List Replacement) → is_some (value_for n.entries (key_in g c w)) ≡ (is_some (value_for m.entries (key_in g c w)) || same_case (k.cell, k.world) (c, w))
kept_after g m n k v h e l = put_is_some g (value_for m.entries) (value_for n.entries) k v e (h.stays (has_space m k l))

-- the key that is put in is there
pub there_after : (g : Generations) (n : KeptValues) (k : Key) (v : Value) → k.generation ≡ generation_in g k.cell → value_for n.entries k ≡ Some v → is_some (value_for n.entries (key_in g k.cell k.world)) ≡ true
there_after g n k v e h = ap (λ (y : ℕ). is_some (value_for n.entries (record { cell = k.cell; generation = y; world = k.world }))) (sym e) ∙ ap (λ (o : Option Value). is_some o) h

-- and takes one place if it wasn't there
pub space_after : (g : Generations) (m n : KeptValues) (k : Key) (v : Value) → KeepsIn m n k v → k.generation ≡ generation_in g k.cell →
    is_some (value_for m.entries (key_in g k.cell k.world)) ≡ false → 1 ≤ m.capacity - length m.entries → (n.capacity - length n.entries) + 1 ≡ m.capacity - length m.entries
space_after g m n k v h e a l =
    let missing : is_some (value_for m.entries k) ≡ false = ap (λ (y : ℕ). is_some (value_for m.entries (record { cell = k.cell; generation = y; world = k.world }))) e ∙ a in
    let len : length n.entries ≡ min (length m.entries + 1) m.capacity = h.len ∙ ap (λ (b : Bool). if b then length m.entries else min (length m.entries + 1) m.capacity) missing in
    let cap = h.capacity in
    omega (arith, len, cap, l)

-- a key that was there is there
pub stays_put : (es fs : Entries) (k q : Key) (v : Value) → PutsIn es fs k v → is_some (value_for es q) ≡ true → is_some (value_for fs q) ≡ true
stays_put es fs k q v p h = ap (λ (o : Option Value). is_some o) (p q) ∙ is_some_cond (same_key k q) v (value_for es q) ∙ or_left (is_some (value_for es q)) (same_key k q) h

-- none goes but for a key that comes to a full list
pub gives_up_after : (s : Sheet) (edits : ℕ) (g : Generations) (es fs : Entries) (m n : KeptValues) (k : Key) (v : Value) → KeepsIn m n k v → GivesUpWhenFull (state_in (keeping s edits g es m)) (state_in (keeping s edits g fs n))
gives_up_after s edits g es fs m n k v h = by_old (value_for m.entries k) refl
  where
    Lens : Option Value → Type 0
    Lens o = length n.entries ≡ (if is_some o then length m.entries else min (length m.entries + 1) m.capacity)

    by_old : (o : Option Value) → value_for m.entries k ≡ o → GivesUpWhenFull (state_in (keeping s edits g es m)) (state_in (keeping s edits g fs n))
    by_old (Some u) e =
        let len : length n.entries ≡ length m.entries = subst Lens e h.len in
        let cap = h.capacity in
        record {
          space = omega (arith, len, cap);
          stays = λ l q i. stays_put m.entries n.entries k q v (h.stays (inl (subst (λ (y : Option Value). IsSome y) (sym e) refl))) i;
        }
    by_old None e =
        let len : length n.entries ≡ min (length m.entries + 1) m.capacity = subst Lens e h.len in
        let cap = h.capacity in
        record {
          space = omega (arith, len, cap);
          stays = λ l q i. let few : length m.entries < m.capacity = omega (arith, len, cap, l) in stays_put m.entries n.entries k q v (h.stays (inr few)) i;
        }
