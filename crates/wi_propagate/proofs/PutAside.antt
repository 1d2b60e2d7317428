-- A value that is found in a question and takes no place in the list: it is put among those that were given up.
use Rattle.wi_propagate.proofs.Words.{◌≡◌, ◌≤◌, ◌⊎◌, inl, ◌||◌, ℕ, Bool, true, false, cond, List, length, Option, Some, None, IfSome, is_some, Result, Ok, Err, OnOk, OnErr, refl, ap, sym, ◌∙◌, subst, arith, or_left, option_or, AllocError, Value, Replacement, Key, Entries, PutsIn, same_key, value_for, known_then, HasFound, generation_in, key_in, Keeping, keeping, state_in, value_in}
use Rattle.wi_propagate.proofs.KeepSteps.{same_here}
use Rattle.wi_propagate.proofs.RightValues.{complete_in}
use Rattle.wi_propagate.proofs.ValuesAtHand.{Remembers, keeps_nothing}

found_in : (b : Bool) (v : Value) (x y : Option Value) → is_some (option_or x (cond b (Some v) y)) ≡ (is_some (option_or x y) || b)
found_in true v None None = refl
found_in true v None (Some y) = refl
found_in true v (Some x) y = refl
found_in false v None None = refl
found_in false v None (Some y) = refl
found_in false v (Some x) y = refl

known_in : (x y z : Option Value) (k q : Key) (v : Value) → z ≡ cond (same_key k q) (Some v) y → IfSome (option_or x z) (λ u. (option_or x y ≡ Some u) ⊎ ((q.cell ≡ k.cell) × (q.world ≡ k.world) × (u ≡ v)))
known_in None y z k q v e = known_then y z k q v (same_key k q) refl e
known_in (Some x) y z k q v e = inl refl

module _ (q : Keeping) (es : Entries) (k : Key) (v : Value) (puts : PutsIn q.given_up es k v) where
  abbrev aside : Keeping
  aside = keeping q.sheet q.edits q.generations es q.values

  abbrev under : ℕ → List Replacement → Key
  under c w = key_in q.generations c w

  found_then : (c : ℕ) (w : List Replacement) → is_some (value_in aside (under c w)) ≡ (is_some (value_in q (under c w)) || same_key k (under c w))
  found_then c w =
      ap (λ (o : Option Value). is_some (option_or (value_for q.values.entries (under c w)) o)) (puts (under c w))
      ∙ found_in (same_key k (under c w)) v (value_for q.values.entries (under c w)) (value_for q.given_up (under c w))

  pub remembers_aside : Remembers q aside k v
  remembers_aside = record {
    keeps = record {
      sheet = refl;
      same = record { covers = refl; generation = refl; capacity = refl; latest = refl };
      known = λ c w. known_in (value_for q.values.entries (under c w)) (value_for q.given_up (under c w)) (value_for es (under c w)) k (under c w) v (puts (under c w));
      complete = complete_in aside;
      places = λ ks d. omega arith;
      gives_up = record { space = omega arith; stays = λ r j i. i };
    };
    stays = λ c w i. found_then c w ∙ or_left (is_some (value_in q (under c w))) (same_key k (under c w)) i;
  }

  -- where the list is full, that is all that is asked
  pub found_aside : k.generation ≡ generation_in q.generations k.cell → q.values.capacity ≤ length q.values.entries → HasFound (state_in q) (state_in aside) k
  found_aside e full = record {
    found = λ c w. found_then c w ∙ ap (λ (b : Bool). is_some (value_in q (under c w)) || b) (same_here q.generations k c w e);
    kept = λ l. absurd (omega (arith, l, full));
    space = λ a l. absurd (omega (arith, l, full));
  }

-- the same of a call that may run out of memory
module _ (r : Result (Unit {0}) AllocError) (q s : Keeping) (k : Key) (v : Value) (puts : OnOk r (PutsIn q.given_up s.given_up k v)) (same : s ≡ keeping q.sheet q.edits q.generations s.given_up q.values) where
  pub remembers_by : OnErr r (s ≡ q) → Remembers q s k v
  remembers_by err = at r puts err
    where
      at : (y : Result (Unit {0}) AllocError) → OnOk y (PutsIn q.given_up s.given_up k v) → OnErr y (s ≡ q) → Remembers q s k v
      at (Ok x) p e = subst (λ (x : Keeping). Remembers q x k v) (sym same) (remembers_aside q s.given_up k v p)
      at (Err x) p e = keeps_nothing q s k v e

  pub found_by : k.generation ≡ generation_in q.generations k.cell → q.values.capacity ≤ length q.values.entries → OnOk r (HasFound (state_in q) (state_in s) k)
  found_by e full = at r puts
    where
      at : (y : Result (Unit {0}) AllocError) → OnOk y (PutsIn q.given_up s.given_up k v) → OnOk y (HasFound (state_in q) (state_in s) k)
      at (Ok x) p = subst (λ (x : Keeping). HasFound (state_in q) (state_in x) k) (sym same) (found_aside q s.given_up k v p e full)
      at (Err x) p = tt
