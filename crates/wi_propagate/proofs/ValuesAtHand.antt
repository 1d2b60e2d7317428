-- What is kept or was given up in a question: a value comes, and none goes.
use Rattle.wi_propagate.proofs.Words.{◌≡◌, ◌≤◌, ◌-◌, ◌⊎◌, inl, inr, ◌||◌, ℕ, Bool, true, false, cond, nat_lt, List, [], ◌∷◌, length, Option, Some, None, IfSome, IsSome, is_some, refl, ap, sym, ◌∙◌, subst, arith, if◌then◌else◌, nat_tests, lookup_from_place, slice_get_cases, update, option_or, Value, Replacement, Key, Entries, KeptValues, HasOneEach, PutsIn, going, same_key, value_for, last_entry, same_key_means, same_key_equiv, same_case, known_still, known_then, Keeps, Generations, generation_in, key_in, Keeping, TakesOver, state_in, value_in, put_all, circular, cell_value, HasFound, AreRight, Carried, IsKeepingRight, keeping, Sheet}
use Rattle.wi_propagate.proofs.KeepSteps.{KeepsIn, put_is_some, right_after, kept_after, there_after, space_after, gives_up_after}
use Rattle.wi_propagate.proofs.PlaceCounts.{one_place_after}
use Rattle.wi_propagate.proofs.RightValues.{complete_in, found_is_kept}

-- ---- the entry that goes for a new value

none_goes : (e : Key × Value) → ◌≡◌ {A = Option (Key × Value)} None (Some e) → ⊥
none_goes e h = cc

goes_last : (a b : Bool) (o : Option (Key × Value)) (e : Key × Value) → (if a then None else (if b then None else o)) ≡ Some e → o ≡ Some e
goes_last true b o e h = absurd (none_goes e h)
goes_last false true o e h = absurd (none_goes e h)
goes_last false false o e h = h

-- it stands under its key
going_stands : (m : KeptValues) (k : Key) (e : Key × Value) → HasOneEach m.entries → going m k ≡ Some e → value_for m.entries e.0 ≡ Some e.1
going_stands m k e one_each h =
    lookup_from_place same_key_equiv m.entries (length m.entries - 1) e.0 e.1 one_each
    (goes_last (is_some (value_for m.entries k)) (nat_lt (length m.entries) m.capacity) (last_entry m.entries) e h)

no_last : (es : Entries) → last_entry es ≡ None → length es ≡ 0
no_last es h = elim (slice_get_cases es (length es - 1)).1 [
  | inl p ↦ absurd (none_goes p.0 (sym h ∙ p.2))
  | inr p ↦ (let less = p.0 in omega (arith, less))
]

none_stands : (es : Entries) (q : Key) → length es ≡ 0 → IsSome (value_for es q) → ⊥
none_stands [] q l h = let z = h in cc
none_stands (e ∷ es) q l h = absurd (omega (arith, l))

-- where none goes, all that stood stands beside the new one
none_gone : (m n : KeptValues) (k : Key) (v : Value) → KeepsIn m n k v → going m k ≡ None → PutsIn m.entries n.entries k v
none_gone m n k v h none = at (value_for m.entries k) (nat_lt (length m.entries) m.capacity) refl refl
  where
    goes : Option Value → Bool → Option (Key × Value)
    goes o b = if is_some o then None else (if b then None else last_entry m.entries)

    at : (o : Option Value) (b : Bool) → value_for m.entries k ≡ o → nat_lt (length m.entries) m.capacity ≡ b → PutsIn m.entries n.entries k v
    at (Some u) b e f = h.stays (inl (subst (λ (o : Option Value). IsSome o) (sym e) refl))
    at None true e f = h.stays (inr (grind (arith, nat_tests)))
    at None false e f =
        let full : m.capacity ≤ length m.entries = grind (arith, nat_tests) in
        let puts = h.goes e full in
        let empty : last_entry m.entries ≡ None = sym (ap (λ (o : Option Value). goes o (nat_lt (length m.entries) m.capacity)) e ∙ ap (goes None) f) ∙ none in
        absurd (none_stands m.entries puts.gone (no_last m.entries empty) puts.stood)

-- ---- what is at hand under a key: the value that is kept, or one that was given up

came : (b : Bool) (v : Value) (x y : Option Value) → option_or (cond b (Some v) x) y ≡ cond b (Some v) (option_or x y)
came true v x y = refl
came false v x y = refl

came_for : (b d : Bool) (v w : Value) (x y : Option Value) → (d ≡ true → x ≡ Some w) → option_or (cond b (Some v) (cond d None x)) (cond d (Some w) y) ≡ cond b (Some v) (option_or x y)
came_for true d v w x y h = refl
came_for false true v w x y h = sym (ap (λ (o : Option Value). option_or o y) (h refl))
came_for false false v w x y h = refl

module _ (es fs : Entries) (m n : KeptValues) (k : Key) (v : Value) (one_each : HasOneEach m.entries) (takes : TakesOver (going m k) es fs) where
  abbrev before : Key → Option Value
  before q = option_or (value_for m.entries q) (value_for es q)

  abbrev after : Key → Option Value
  after q = option_or (value_for n.entries q) (value_for fs q)

  stood : (e : Key × Value) → going m k ≡ Some e → (q : Key) → same_key e.0 q ≡ true → value_for m.entries q ≡ Some e.1
  stood e h q t = ap (λ (x : Key). value_for m.entries x) (sym (same_key_means e.0 q t)) ∙ going_stands m k e one_each h

  -- the value that came is at hand, and under every other key what was
  accepted : KeepsIn m n k v → (q : Key) → after q ≡ update same_key before k (Some v) q
  accepted h q = at (going m k) refl takes
    where
      at : (o : Option (Key × Value)) → going m k ≡ o → TakesOver o es fs → after q ≡ update same_key before k (Some v) q
      at None e t =
          ap (λ (x : Entries). option_or (value_for n.entries q) (value_for x q)) t ∙ ap (λ (o : Option Value). option_or o (value_for es q)) (none_gone m n k v h e q)
          ∙ came (same_key k q) v (value_for m.entries q) (value_for es q)
      at (Some x) e t =
          ap (option_or (value_for n.entries q)) (t q) ∙ ap (λ (o : Option Value). option_or o (cond (same_key x.0 q) (Some x.1) (value_for es q))) (h.going x e q)
          ∙ came_for (same_key k q) (same_key x.0 q) v x.1 (value_for m.entries q) (value_for es q) (stood x e q)

  -- ---- so for each cell under replacements

  module _ (g : Generations) (h : KeepsIn m n k v) where
    -- what is at hand then was at hand before, or is the value that came
    known_after : (c : ℕ) (w : List Replacement) → IfSome (after (key_in g c w)) (λ x. (before (key_in g c w) ≡ Some x) ⊎ ((c ≡ k.cell) × (w ≡ k.world) × (x ≡ v)))
    known_after c w = known_then (before (key_in g c w)) (after (key_in g c w)) k (key_in g c w) v (same_key k (key_in g c w)) refl (accepted h (key_in g c w))

    stays_some : (b : Bool) (o : Option Value) → is_some o ≡ true → is_some (cond b (Some v) o) ≡ true
    stays_some true o i = refl
    stays_some false o i = i

    -- none is lost
    stays_after : (c : ℕ) (w : List Replacement) → is_some (before (key_in g c w)) ≡ true → is_some (after (key_in g c w)) ≡ true
    stays_after c w i = ap (λ (o : Option Value). is_some o) (accepted h (key_in g c w)) ∙ stays_some (same_key k (key_in g c w)) (before (key_in g c w)) i

    -- and the one that came is found
    found_after : k.generation ≡ generation_in g k.cell → (c : ℕ) (w : List Replacement) → is_some (after (key_in g c w)) ≡ (is_some (before (key_in g c w)) || same_case (k.cell, k.world) (c, w))
    found_after e = put_is_some g before after k v e (accepted h)

-- ---- what went is given up

-- there is room for what goes
pub space_for : (o : Option (Key × Value)) (n : ℕ) → 1 ≤ n → IfSome o (λ _. 1 ≤ n)
space_for None n h = tt
space_for (Some e) n h = h

pub given_over : {o p : Option (Key × Value)} {es fs : Entries} (gs : Entries) → p ≡ o → fs ≡ es → TakesOver p fs gs → TakesOver o es gs
given_over {o} {p} {es} {fs} gs e f h = subst (λ (x : Option (Key × Value)). TakesOver x es gs) e (subst (λ (x : Entries). TakesOver p x gs) f h)

-- ---- what is owed of a value that is remembered

-- it alone may be new, and none that was found is lost
pub record Remembers (old new : Keeping) (k : Key) (v : Value) : Type 0 where
  pub keeps : Keeps (state_in old) (state_in new) k v
  pub stays : (c : ℕ) (w : List Replacement) → is_some (value_in old (key_in old.generations c w)) ≡ true → is_some (value_in new (key_in new.generations c w)) ≡ true

-- where memory runs out nothing is kept
pub keeps_nothing : (q r : Keeping) (k : Key) (v : Value) → r ≡ q → Remembers q r k v
keeps_nothing q r k v e = subst (λ (x : Keeping). Remembers q x k v) (sym e) (record {
  keeps = record {
    sheet = refl;
    same = record { covers = refl; generation = refl; capacity = refl; latest = refl };
    known = λ c w. known_still (value_in q (key_in q.generations c w)) (value_in q (key_in q.generations c w)) k (key_in q.generations c w) v refl;
    complete = complete_in q;
    places = λ ks d. omega arith;
    gives_up = record { space = omega arith; stays = λ r j i. i };
  };
  stays = λ c w i. i;
})

-- what is owed of one that is kept, where the one that went for it is given up
pub record KeptAtHand (old new : Keeping) (k : Key) (v : Value) : Type 0 where
  pub remembers : Remembers old new k v
  pub found : HasFound (state_in old) (state_in new) k
  pub there : is_some (value_for new.values.entries (key_in new.generations k.cell k.world)) ≡ true

-- what is carried into a question, as the code reads it
module _ (s : Sheet) (edits : ℕ) (g : Generations) (carried was : Carried) (q : Keeping) (read : carried ≡ was) (view : keeping s edits g was.given_up.entries was.kept ≡ q) (k : Key) (v : Value) where
  visited : keeping s edits g carried.given_up.entries carried.kept ≡ q
  visited = ap (λ (x : Carried). keeping s edits g x.given_up.entries x.kept) read ∙ view

  -- memory ran out
  pub out_of_memory : (fs : Entries) (n : KeptValues) → fs ≡ carried.given_up.entries → n ≡ carried.kept → Remembers q (keeping s edits g fs n) k v
  out_of_memory fs n e f =
      keeps_nothing q (keeping s edits g fs n) k v (ap (λ (x : KeptValues). keeping s edits g fs x) f ∙ ap (λ (x : Entries). keeping s edits g x carried.kept) e ∙ visited)

  -- the value is kept
  module _ (n : KeptValues) (h : KeepsIn carried.kept n k v) (generation : k.generation ≡ generation_in q.generations k.cell) where
    present : k.generation ≡ generation_in g k.cell
    present = generation ∙ ap (λ (x : Keeping). generation_in x.generations k.cell) (sym visited)

    pub kept_at_hand : (fs : Entries) → HasOneEach carried.kept.entries → TakesOver (going carried.kept k) carried.given_up.entries fs → KeptAtHand q (keeping s edits g fs n) k v
    kept_at_hand fs one_each takes =
        let es = carried.given_up.entries in
        let m = carried.kept in
        subst (λ (x : Keeping). KeptAtHand x (keeping s edits g fs n) k v) visited (record {
          remembers = record {
            keeps = record {
              sheet = refl;
              same = record { covers = refl; generation = refl; capacity = h.capacity; latest = refl };
              known = known_after es fs m n k v one_each takes g h;
              complete = complete_in (keeping s edits g fs n);
              places = one_place_after s edits g es fs m n k v h;
              gives_up = gives_up_after s edits g es fs m n k v h;
            };
            stays = stays_after es fs m n k v one_each takes g h;
          };
          found = record { found = found_after es fs m n k v one_each takes g h present; kept = kept_after g m n k v h present; space = space_after g m n k v h present };
          there = there_after g n k v present h.found;
        })

    pub keeps_right : (fs : Entries) → IsKeepingRight (keeping s edits g was.given_up.entries was.kept) → circular q.sheet k.cell ≡ false → v ≡ cell_value (put_all q.sheet k.world) k.cell → IsKeepingRight (keeping s edits g fs n)
    keeps_right fs r o e =
        let leaf : circular s k.cell ≡ false = ap (λ (x : Keeping). circular x.sheet k.cell) visited ∙ o in
        let is : v ≡ cell_value (put_all s k.world) k.cell = e ∙ ap (λ (x : Keeping). cell_value (put_all x.sheet k.world) k.cell) (sym visited) in
        let right : AreRight s edits (generation_in g) carried.kept.entries = subst (λ (x : Carried). AreRight s edits (generation_in g) x.kept.entries) (sym read) r.right in
        record { past = r.past; right = right_after s edits (generation_in g) carried.kept n k v h (found_is_kept s edits (generation_in g) k v r.past leaf present is) right }
