-- Values that went one after another, in a list that stands before a table.
use Rattle.std.proofs.Common.{◌≡◌, ℕ, ◌+◌, ◌-◌, ◌*◌, ◌%◌, ◌^◌, ◌<◌, ◌≤◌, ◌==◌, Bool, true, false, cond, if◌then◌else◌, [], ◌∷◌, ◌++◌, length, take, reverse, get_or, Option, Some, None, IsSome, refl, sym, ap, ◌∙◌, subst, arith, true≢false, ⊎_elim, length-append}
use Rattle.std.proofs.lemmas.Bool.{cases_eq, eq-eqb}
use Rattle.std.proofs.lemmas.List.{reverse-append, take_more}
use Rattle.std.proofs.lemmas.List.Sums.{fold-append}
use Rattle.std.proofs.lemmas.Nat.Bits.{bit_at_set_other, bit_at_set_same}
use Rattle.std.specs.Int.{bit_at, w64}
use Rattle.std.specs.Prelude.{bit_or}
use Rattle.indexmap.specs.IndexMap.{insert_entry}
use Rattle.wi_values.specs.declared.value.Value.{Value}
use Rattle.wi_cache.specs.declared.key.Key.{Key}
use Rattle.wi_cache.specs.Entries.{Entries, HasBits, PutsIn, all_put, same_key, value_for, world_bit}
use Rattle.wi_cache.specs.Hashed.{same_key_means}
use Rattle.wi_cache.proofs.Keys.{same_key_equiv}

-- ---- one value is put in

-- of two answers to one test the first counts
twice : (b : Bool) (v w : Value) (o : Option Value) → cond b (Some v) o ≡ cond b (Some v) (cond b (Some w) o)
twice true v w o = refl
twice false v w o = refl

-- two answers to tests of which only one holds may stand in either order
turned : (a b : Bool) (v w : Value) (o : Option Value) → (a ≡ true → b ≡ false) → cond a (Some w) (cond b (Some v) o) ≡ cond b (Some v) (cond a (Some w) o)
turned true true v w o h = absurd (true≢false (h refl))
turned true false v w o h = refl
turned false true v w o h = refl
turned false false v w o h = refl

-- what stands for a key is what an update of its table says
pub one_put : (es : Entries) (k : Key) (v : Value) → PutsIn es (insert_entry same_key es k v) k v
one_put [] k v q = ap (λ b. cond b (Some v) None) (same_key_equiv.symm q k)
one_put (e ∷ es) k v q = by (same_key k e.0) refl (one_put es k v q)
  where
    by : (b : Bool) → same_key k e.0 ≡ b → value_for (insert_entry same_key es k v) q ≡ cond (same_key k q) (Some v) (value_for es q) → value_for (if b then (e.0, v) ∷ es else e ∷ insert_entry same_key es k v) q ≡ cond (same_key k q) (Some v) (value_for (e ∷ es) q)
    by true h rest =
        let test : same_key q e.0 ≡ same_key k q = ap (same_key q) (sym (same_key_means k e.0 h)) ∙ same_key_equiv.symm q k in
        ap (λ b. cond b (Some v) (value_for es q)) test ∙ twice (same_key k q) v e.1 (value_for es q)
        ∙ ap (λ b. cond (same_key k q) (Some v) (cond b (Some e.1) (value_for es q))) (sym test)
    by false h rest =
        let apart : same_key q e.0 ≡ true → same_key k q ≡ false = λ t. ap (same_key k) (same_key_means q e.0 t) ∙ h in
        ap (cond (same_key q e.0) (Some e.1)) rest ∙ turned (same_key q e.0) (same_key k q) v e.1 (value_for es q) apart

-- ---- one more comes behind others

pub last_put : (es xs ys : Entries) (k : Key) (v : Value) → ys ≡ xs ++ (k, v) ∷ [] → PutsIn (all_put es xs) (all_put es ys) k v
last_put es xs ys k v is q =
    ap (λ (l : Entries). value_for (all_put es l) q) is
    ∙ ap (λ (l : Entries). value_for l q) (fold-append (λ (done : Entries) (p : Key × Value). insert_entry same_key done p.0 p.1) es xs ((k, v) ∷ [])) ∙ one_put (all_put es xs) k v q

-- the first of a list that is moved into the table, where the list stands the other way round
pub next_moved : (es fs xs ys : Entries) (e : Key × Value) (all : Entries) → xs ≡ ys ++ e ∷ [] → fs ≡ insert_entry same_key es e.0 e.1 → all_put es (reverse xs) ≡ all → all_put fs (reverse ys) ≡ all
next_moved es fs xs ys e all is put from =
    let first : reverse xs ≡ e ∷ reverse ys = ap reverse is ∙ reverse-append ys (e ∷ []) in
    ap (λ (l : Entries). all_put l (reverse ys)) put ∙ sym (ap (all_put es) first) ∙ from

-- there was one more
pub one_popped : (xs ys : Entries) (e : Key × Value) → xs ≡ ys ++ e ∷ [] → length xs ≡ length ys + 1
one_popped xs ys e is = ap (λ (l : Entries). length l) is ∙ length-append ys (e ∷ [])

-- where one more fits there is room for it
pub space_left : (len capacity : ℕ) → len + 1 ≤ capacity → 1 ≤ capacity - len
space_left len capacity fits = omega (arith, fits)

-- ---- a search from the last back

module _ (es xs : Entries) (i : ℕ) (e : Key × Value) (q : Key) (some : 0 < i) (within : i ≤ length xs) (is : e ≡ get_or xs (i - 1) e) where
  taken : take i xs ≡ take (i - 1) xs ++ e ∷ []
  taken =
      let before : i ≡ i - 1 + 1 = omega (arith, some) in
      ap (λ n. take n xs) before ∙ take_more xs (i - 1) e (omega (arith, some, within)) ∙ ap (λ (x : Key × Value). take (i - 1) xs ++ x ∷ []) (sym is)

  here : value_for (all_put es (take i xs)) q ≡ cond (same_key e.0 q) (Some e.1) (value_for (all_put es (take (i - 1) xs)) q)
  here = last_put es (take (i - 1) xs) (take i xs) e.0 e.1 taken q

  -- it is of the key
  pub is_here : (b : Bool) → b ≡ same_key e.0 q → b ≡ true → Some e.1 ≡ value_for (all_put es (take i xs)) q
  is_here b told h = sym (here ∙ ap (λ c. cond c (Some e.1) (value_for (all_put es (take (i - 1) xs)) q)) (sym told ∙ h))

  -- it is of another
  pub is_before : (b : Bool) → b ≡ same_key e.0 q → b ≡ false → value_for (all_put es (take (i - 1) xs)) q ≡ value_for (all_put es (take i xs)) q
  is_before b told h = sym (here ∙ ap (λ c. cond c (Some e.1) (value_for (all_put es (take (i - 1) xs)) q)) (sym told ∙ h))

-- ---- the bits of their replacements

-- where a key's bit isn't set, nothing stands for it
pub nothing_there : (es : Entries) (bits : ℕ) (q : Key) (b : Bool) → HasBits es bits → b ≡ (bit_at bits (world_bit q.world) == 1) → b ≡ false → None ≡ value_for es q
nothing_there es bits q b has told unset = by (value_for es q) refl
  where
    by : (o : Option Value) → value_for es q ≡ o → None ≡ o
    by None h = refl
    by (Some v) h = absurd (true≢false (sym (eq-eqb (bit_at bits (world_bit q.world)) 1 (has q (subst (λ (o : Option Value). IsSome o) (sym h) refl))) ∙ sym told ∙ unset))

-- one bit more, for the key of a value that was put in
pub bits_more : (es fs : Entries) (bits bit : ℕ) (k : Key) (v : Value) → HasBits es bits → PutsIn es fs k v → bit < 64 → bit ≡ world_bit k.world → HasBits fs (bit_or bits (1 * 2 ^ bit % 2 ^ 64))
bits_more es fs bits bit k v has puts small is q some = by (same_key k q) refl
  where
    more : ℕ
    more = bit_or bits (1 * 2 ^ bit % 2 ^ 64)

    own : bit ≡ world_bit q.world → bit_at more (world_bit q.world) ≡ 1
    own e = ap (bit_at more) (sym e) ∙ bit_at_set_same w64 bits bit small

    by : (b : Bool) → same_key k q ≡ b → bit_at more (world_bit q.world) ≡ 1
    by true h = own (is ∙ ap (λ (x : Key). world_bit x.world) (same_key_means k q h))
    by false h =
        let stood : bit_at bits (world_bit q.world) ≡ 1 = has q (subst (λ (o : Option Value). IsSome o) (puts q ∙ ap (λ b. cond b (Some v) (value_for es q)) h) some) in
        ⊎_elim (λ e. own (sym e)) (λ ne. bit_at_set_other w64 bits bit small (world_bit q.world) ne ∙ stood) (cases_eq (world_bit q.world) bit)

-- no value has no bits
pub bits_of_none : (es : Entries) (bits : ℕ) → es ≡ [] → HasBits es bits
bits_of_none es bits none q some = absurd (true≢false (sym (subst (λ (l : Entries). IsSome (value_for l q)) none some)))
