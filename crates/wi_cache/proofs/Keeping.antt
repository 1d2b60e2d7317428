-- What `keep` makes of kept values, clause by clause.
use Rattle.std.proofs.Common.{◌≡◌, ℕ, zero, suc, ◌+◌, ◌-◌, ◌<◌, ◌≤◌, inl, inr, le-ltb, Bool, true, false, cond, if◌then◌else◌, nat_lt, List, [], ◌∷◌, ◌++◌, map, length, take, drop, reverse, get_or, set, slice_get, Option, Some, None, IfSome, IsSome, is_some, min, refl, sym, ap, ◌∙◌, subst, arith, true≢false, length-append, IsPermutation}
use Rattle.std.proofs.lemmas.Bool.{ltb-false, ltb-true}
use Rattle.std.proofs.lemmas.List.{append-nil, append_assoc, drop-map, drop-set-lt, drop_all, length-drop, length-map, length-reverse, length-set, length-take, map-append, reverse-append, set-append_left, take-append-drop, take_all, take_at}
use Rattle.std.proofs.lemmas.Grind.{take-set_at}
use Rattle.std.proofs.Math.Seq.{get_or-append_seam}
use Rattle.std.specs.List.{swap_remove}
use Rattle.indexmap.proofs.CallerLemmas.{keys-insert_entry-present}
use Rattle.indexmap.proofs.ReorderLemmas.{map-reverse}
use Rattle.std.proofs.lemmas.List.Sorted.{IsPermutation-append_comm, IsPermutation-map, IsPermutation-reverse, IsPermutation-trans, length_permutation}
use Rattle.std.proofs.lemmas.Map.Entries.{lookup_from_place}
use Rattle.std.proofs.lemmas.Map.Keys.{IsDistinct-IsPermutation}
use Rattle.std.proofs.lemmas.Option.{none-some, same_Some}
use Rattle.std.specs.Map.{keys_of}
use Rattle.indexmap.specs.IndexMap.{IndexMap, IsUnique, Updates, insert_entry}
use Rattle.indexmap.proofs.MapLemmas.{absent_from_lookup, insert_entry-absent, lookup_permutation}
use Rattle.wi_values.specs.declared.value.Value.{Value}
use Rattle.wi_values.proofs.Lists.{got_in_front}
use Rattle.wi_cache.specs.declared.key.Key.{Key}
use Rattle.wi_cache.specs.Entries.{Entries, HasOneEach, HasSpace, IsLine, KeptValues, PutsIn, PutsFor, PutsForGoing, PutsForOne, going, kept, keys_after, last_entry, latest, len_after, place_after, same_key, value_for}
use Rattle.wi_cache.specs.Hashed.{same_key_means}
use Rattle.wi_cache.proofs.Keys.{same_key_equiv}

none_is_some : (o : Option Value) → o ≡ None → IsSome o → ⊥
none_is_some None e h = true≢false (sym h)
none_is_some (Some x) e h = none-some x (sym e)

-- ---- entries that stand in a circle, told from the last that came to the first

pub latest_permutes : (n : ℕ) (es : Entries) → IsPermutation es (latest n es)
latest_permutes n es =
    let turned = drop n es ++ take n es in
    let is : IsPermutation es turned = subst (λ (l : Entries). IsPermutation l turned) (take-append-drop n es) (IsPermutation-append_comm (take n es) (drop n es)) in
    IsPermutation-trans es turned (reverse turned) is (IsPermutation-reverse turned)

pub latest_each : (n : ℕ) (es : Entries) → HasOneEach es → HasOneEach (latest n es)
latest_each n es d = IsDistinct-IsPermutation same_key same_key_equiv.symm (keys_of es) (keys_of (latest n es)) (IsPermutation-map (λ (e : Key × Value). e.0) es (latest n es) (latest_permutes n es)) d

pub latest_len : (n : ℕ) (es : Entries) → length (latest n es) ≡ length es
latest_len n es = length_permutation es (latest n es) (latest_permutes n es)

pub latest_finds : (n : ℕ) (es : Entries) → HasOneEach es → (q : Key) → value_for (latest n es) q ≡ value_for es q
latest_finds n es d q = lookup_permutation same_key_equiv es (latest n es) (latest_permutes n es) (latest_each n es d) (same_key q) (same_key_equiv.congr q)

module _ {X : Type 0} where
  cut_at : (xs : List X) (i : ℕ) (x : X) → slice_get xs i ≡ Some x → drop i xs ≡ x ∷ drop (suc i) xs
  cut_at [] zero x h = absurd (none-some x h)
  cut_at [] (suc i) x h = absurd (none-some x h)
  cut_at (y ∷ xs) zero x h = ap (λ z. z ∷ xs) (same_Some y x h)
  cut_at (y ∷ xs) (suc i) x h = cut_at xs i x h

  pushed_at : (xs : List X) (x : X) → slice_get (xs ++ x ∷ []) (length xs) ≡ Some x
  pushed_at [] x = refl
  pushed_at (y ∷ xs) x = let more : length (y ∷ xs) ≡ suc (length xs) = omega arith in ap (slice_get (y ∷ xs ++ x ∷ [])) more ∙ pushed_at xs x

  pub stands : (xs : List X) (i : ℕ) → i < length xs → (x : X) × (slice_get xs i ≡ Some x)
  stands [] i h = absurd (omega arith)
  stands (x ∷ xs) zero h = (x, refl)
  stands (x ∷ xs) (suc i) h = stands xs i (omega (arith, h))

last_pushed : (es : Entries) (e : Key × Value) → last_entry (es ++ e ∷ []) ≡ Some e
last_pushed es e =
    let less : length (es ++ e ∷ []) - 1 ≡ length es = omega (arith, length-append es (e ∷ [])) in ap (slice_get (es ++ e ∷ [])) less ∙ pushed_at es e

-- the one at the place came first
pub latest_last : (n : ℕ) (es : Entries) (e : Key × Value) → slice_get es n ≡ Some e → last_entry (latest n es) ≡ Some e
latest_last n es e h =
    let rest = drop (suc n) es ++ take n es in
    ap (λ (l : Entries). last_entry (reverse (l ++ take n es))) (cut_at es n e h) ∙ ap last_entry (reverse-append (e ∷ []) rest) ∙ last_pushed (reverse rest) e

-- ---- the order of the keys, the latest first

module _ {X Y : Type 0} (f : X → Y) where
  map_take : (n : ℕ) (xs : List X) → map f (take n xs) ≡ take n (map f xs)
  map_take zero xs = refl
  map_take (suc n) [] = refl
  map_take (suc n) (x ∷ xs) = ap (λ l. f x ∷ l) (map_take n xs)

  map_latest : (n : ℕ) (xs : List X) → map f (latest n xs) ≡ latest n (map f xs)
  map_latest n xs = map-reverse f (drop n xs ++ take n xs) ∙ ap reverse (map-append f (drop n xs) (take n xs) ∙ (λ i. sym (drop-map f n xs) i ++ map_take n xs i))

module _ {X : Type 0} where
  latest_pushed : (xs : List X) (x : X) → latest 0 (xs ++ x ∷ []) ≡ x ∷ latest 0 xs
  latest_pushed xs x = ap reverse (append-nil (xs ++ x ∷ [])) ∙ reverse-append xs (x ∷ []) ∙ ap (λ l. x ∷ reverse l) (sym (append-nil xs))

  -- the last takes the place of the one that goes
  swapped_in : (xs : List X) (n : ℕ) (x d : X) → n < length xs → swap_remove (xs ++ x ∷ []) n d ≡ set xs n x
  swapped_in xs n x d h =
      let less : length (xs ++ x ∷ []) - 1 ≡ length xs = omega (arith, length-append xs (x ∷ [])) in
      ap (λ i. take i (set (xs ++ x ∷ []) n (get_or (xs ++ x ∷ []) i d))) less
      ∙ ap (λ y. take (length xs) (set (xs ++ x ∷ []) n y)) (get_or-append_seam xs x [] d)
      ∙ ap (take (length xs)) (set-append_left xs (x ∷ []) n x h)
      ∙ take_at (set xs n x) (x ∷ []) (length xs) (length-set xs n x)

  latest_turned : (xs : List X) (n m cap : ℕ) (x d : X) → n < length xs → length xs ≡ cap → slice_get xs n ≡ Some d → m ≡ place_after n cap → latest m (set xs n x) ≡ x ∷ take (cap - 1) (latest n xs)
  latest_turned xs n m cap x d h full at is =
      let rest = drop (n + 1) xs ++ take n xs in
      let next : n + 1 ≡ suc n = omega arith in
      let new : latest (n + 1) (set xs n x) ≡ x ∷ reverse rest =
      ap (λ l. reverse (l ++ take (n + 1) (set xs n x))) (drop-set-lt (n + 1) xs n x (omega arith)) ∙ ap (λ l. reverse (drop (n + 1) xs ++ l)) (take-set_at xs n (n + 1) x refl h)
      ∙ ap reverse (sym (append_assoc (drop (n + 1) xs) (take n xs) (x ∷ []))) ∙ reverse-append rest (x ∷ []) in
      let old : latest n xs ≡ reverse rest ++ d ∷ [] =
      ap (λ l. reverse (l ++ take n xs)) (cut_at xs n d at ∙ ap (λ j. d ∷ drop j xs) (sym next)) ∙ reverse-append (d ∷ []) rest in
      let long : length (reverse rest) ≡ cap - 1 = omega (arith, length-reverse rest, length-append (drop (n + 1) xs) (take n xs), length-drop (n + 1) xs, length-take n xs, h, full) in
      let front : take (cap - 1) (latest n xs) ≡ reverse rest = ap (take (cap - 1)) old ∙ take_at (reverse rest) (d ∷ []) (cap - 1) long in
      let turned : latest m (set xs n x) ≡ latest (n + 1) (set xs n x) = by (nat_lt (n + 1) cap) refl in
      turned ∙ new ∙ ap (λ l. x ∷ l) (sym front)
    where
      by : (b : Bool) → nat_lt (n + 1) cap ≡ b → latest m (set xs n x) ≡ latest (n + 1) (set xs n x)
      by true e = ap (λ j. latest j (set xs n x)) (is ∙ ap (λ b. if b then n + 1 else 0) e)
      by false e =
          let past : length (set xs n x) ≤ n + 1 = omega (arith, length-set xs n x, full, ltb-false (n + 1) cap e) in
          ap (λ j. latest j (set xs n x)) (is ∙ ap (λ b. if b then n + 1 else 0) e) ∙ ap reverse (append-nil (set xs n x))
          ∙ (λ i. reverse (sym (drop_all (n + 1) (set xs n x) past) i ++ sym (take_all (n + 1) (set xs n x) past) i))

-- the next place is one of the circle
pub place_within : (m i n : ℕ) → i < n → m ≡ place_after i n → m < n
place_within m i n l e = by (nat_lt (i + 1) n) refl e
  where
    by : (b : Bool) → nat_lt (i + 1) n ≡ b → m ≡ (if b then i + 1 else 0) → m < n
    by true t h = omega (arith, h, ltb-true (i + 1) n t)
    by false t h = omega (arith, h, l)

-- ---- which entry goes

-- where an entry goes, the key is new, the list is full, and the entry is the last
going_is : {A E : Type 0} (o : Option A) (few : Bool) (last : Option E) (e : E) → (if is_some o then None else (if few then None else last)) ≡ Some e → (o ≡ None) × (few ≡ false) × (last ≡ Some e)
going_is (Some a) few last e h = absurd (none-some e h)
going_is None true last e h = absurd (none-some e h)
going_is None false last e h = (refl, refl, h)

module _ (es : Entries) (n cap : ℕ) (k : Key) where
  module _ (line : IsLine es n cap) where
    -- the one at the place, where the key is new and there are as many as there may be
    pub oldest_goes : is_some (value_for es k) ≡ false → cap ≤ length es → slice_get es n ≡ going (kept (latest n es) cap) k
    oldest_goes new full =
        let more : nat_lt (length (latest n es)) cap ≡ false = ap (λ (y : ℕ). nat_lt y cap) (latest_len n es) ∙ le-ltb (length es) cap full in
        let there = stands es n (omega (arith, line.2, full)) in
        there.1 ∙ sym (latest_last n es there.0 there.1) ∙ ap (λ b. if b then None else last_entry (latest n es)) (sym more)
        ∙ ap (λ b. if b then None else (if nat_lt (length (latest n es)) cap then None else last_entry (latest n es))) (sym (ap (λ (o : Option Value). is_some o) (latest_finds n es line.0 k) ∙ new))

-- ---- what an accepted `keep` makes of them: a value is put in, and where there are too many then, the oldest goes

-- all that `keep` promises of what was kept and what is kept then, and of the entry that went
pub record Keeps (m m' : KeptValues) (k : Key) (v : Value) (out : Option (Key × Value)) : Type 0 where
  pub found : value_for m'.entries k ≡ Some v
  pub stays : HasSpace m k → PutsIn m.entries m'.entries k v
  pub one_goes : value_for m.entries k ≡ None → m.capacity ≤ length m.entries → PutsForOne m.entries m'.entries k v
  pub goes : PutsForGoing m m' k v
  pub is_gone : out ≡ going m k
  pub order : keys_of m'.entries ≡ keys_after m k
  pub len : length m'.entries ≡ len_after m k

-- a value was put in
module _ {S : Type 0} (em fm : IndexMap Key Value S) (k : Key) (v : Value) (put : Updates same_key em fm k (Some v)) (each : IsUnique same_key fm) (n cap : ℕ) (line : IsLine em.entries n cap) where
  abbrev es : Entries
  es = em.entries

  abbrev fs : Entries
  fs = fm.entries

  pub found_put : value_for (latest n fs) k ≡ Some v
  found_put = latest_finds n fs each k ∙ put.1

  pub puts_latest : PutsIn (latest n es) (latest n fs) k v
  puts_latest q = latest_finds n fs each q ∙ put.0 q ∙ ap (cond (same_key k q) (Some v)) (sym (latest_finds n es line.0 q))

  module _ (o : Option Value) (old : o ≡ value_for es k) (len : length fs ≡ length es + (if is_some o then 0 else 1)) where
    one_more : value_for es k ≡ None → length fs ≡ length es + 1
    one_more new = len ∙ ap (λ (y : Option Value). length es + (if is_some y then 0 else 1)) (old ∙ new)

    -- where there aren't too many, none went
    module _ (fits : length fs ≤ cap) where
      pub none_went : {A : Type 0} → value_for (latest n es) k ≡ None → cap ≤ length (latest n es) → A
      none_went new full = absurd (omega (arith, one_more (sym (latest_finds n es line.0 k) ∙ new), latest_len n es, full, fits))

      pub none_goes : PutsForGoing (kept (latest n es) cap) (kept (latest n fs) cap) k v
      none_goes e goes =
          let known = going_is (value_for (latest n es) k) (nat_lt (length (latest n es)) cap) (last_entry (latest n es)) e goes in
          none_went known.0 (ltb-false (length (latest n es)) cap known.1)

      pub none_is_gone : ◌≡◌ {A = Option (Key × Value)} None (going (kept (latest n es) cap) k)
      none_is_gone = by (going (kept (latest n es) cap) k) refl
        where
          by : (g : Option (Key × Value)) → going (kept (latest n es) cap) k ≡ g → None ≡ g
          by None h = refl
          by (Some e) h =
              let known = going_is (value_for (latest n es) k) (nat_lt (length (latest n es)) cap) (last_entry (latest n es)) e h in
              none_went known.0 (ltb-false (length (latest n es)) cap known.1)

      pub len_put : length (latest n fs) ≡ len_after (kept (latest n es) cap) k
      len_put = by (value_for es k) (value_for (latest n es) k) (latest_finds n es line.0 k) refl
        where
          by : (p q : Option Value) → q ≡ p → value_for es k ≡ p → length (latest n fs) ≡ (if is_some q then length (latest n es) else min (length (latest n es) + 1) cap)
          by (Some x) q e h =
              let same : length fs ≡ length es + 0 = len ∙ ap (λ (y : Option Value). length es + (if is_some y then 0 else 1)) (old ∙ h) in
              let long : length (latest n fs) ≡ length (latest n es) = omega (arith, latest_len n fs, latest_len n es, same) in
              long ∙ ap (λ (y : Option Value). if is_some y then length (latest n es) else min (length (latest n es) + 1) cap) (sym e)
          by None q e h =
              let long : length (latest n fs) ≡ min (length (latest n es) + 1) cap = omega (arith, latest_len n fs, latest_len n es, one_more h, fits) in
              long ∙ ap (λ (y : Option Value). if is_some y then length (latest n es) else min (length (latest n es) + 1) cap) (sym e)

      pub order_put : fs ≡ insert_entry same_key es k v → keys_of (latest n fs) ≡ keys_after (kept (latest n es) cap) k
      order_put entries = by (value_for es k) (value_for (latest n es) k) (latest_finds n es line.0 k) refl
        where
          by : (p q : Option Value) → q ≡ p → value_for es k ≡ p → keys_of (latest n fs) ≡ (if is_some q then keys_of (latest n es) else k ∷ take (cap - 1) (keys_of (latest n es)))
          by (Some x) q e h =
              let known : keys_of fs ≡ keys_of es = ap keys_of entries ∙ keys-insert_entry-present same_key em k v (subst (λ (y : Option Value). IsSome y) (sym h) refl) in
              map_latest (λ (x : Key × Value). x.0) n fs ∙ ap (latest n) known ∙ sym (map_latest (λ (x : Key × Value). x.0) n es)
              ∙ ap (λ (y : Option Value). if is_some y then keys_of (latest n es) else k ∷ take (cap - 1) (keys_of (latest n es))) (sym e)
          by None q e h =
              let few : length es < cap = omega (arith, one_more h, fits) in
              let pushed : fs ≡ es ++ (k, v) ∷ [] = entries ∙ insert_entry-absent same_key k v es (absent_from_lookup (same_key k) es h) in
              let rest : take (cap - 1) (keys_of (latest n es)) ≡ keys_of (latest n es) =
              take_all (cap - 1) (keys_of (latest n es)) (omega (arith, length-map (latest n es) (λ (x : Key × Value). x.0), latest_len n es, few)) in
              let first : latest n fs ≡ (k, v) ∷ latest n es =
              ap (λ j. latest j fs) (line.3 few) ∙ ap (latest 0) pushed ∙ latest_pushed es (k, v) ∙ ap (λ j. (k, v) ∷ latest j es) (sym (line.3 few)) in
              ap keys_of first ∙ ap (λ l. k ∷ l) (sym rest)
              ∙ ap (λ (y : Option Value). if is_some y then keys_of (latest n es) else k ∷ take (cap - 1) (keys_of (latest n es))) (sym e)

      pub keeps_put : fs ≡ insert_entry same_key es k v → Keeps (kept (latest n es) cap) (kept (latest n fs) cap) k v None
      keeps_put entries = record { found = found_put; stays = λ space. puts_latest; one_goes = none_went; goes = none_goes; is_gone = none_is_gone; order = order_put entries; len = len_put }

      pub line_put : IsLine fs n cap
      line_put = (each, fits, line.2, λ few. line.3 (omega (arith, few, len)))

    -- and else the oldest, whose place the new one takes
    module _ (gm : IndexMap Key Value S) (entries : fs ≡ insert_entry same_key es k v) (more : cap < length fs) (r : Option (Key × Value)) (entry : r ≡ slice_get fs n)
        (out : IfSome r (λ p. Updates same_key fm gm p.0 None)) (less : length gm.entries + (if is_some r then 1 else 0) ≡ length fs) (left : IsUnique same_key gm) where
      abbrev gs : Entries
      gs = gm.entries

      there : (e : Key × Value) × (slice_get fs n ≡ Some e)
      there = stands fs n (omega (arith, line.2, more))

      abbrev e : Key × Value
      e = there.0

      goes_out : Updates same_key fm gm e.0 None
      goes_out = subst (λ (y : Option (Key × Value)). IfSome y (λ p. Updates same_key fm gm p.0 None)) (entry ∙ there.1) out

      one_less : length gs + 1 ≡ length fs
      one_less = ap (λ (y : Option (Key × Value)). length gs + (if is_some y then 1 else 0)) (sym (entry ∙ there.1)) ∙ less

      new : value_for es k ≡ None
      new = by (value_for es k) refl
        where
          by : (p : Option Value) → value_for es k ≡ p → p ≡ None
          by None h = refl
          by (Some x) h = absurd (omega (arith, line.1, more, len ∙ ap (λ (y : Option Value). length es + (if is_some y then 0 else 1)) (old ∙ h)))

      full : length es ≡ cap
      full = omega (arith, line.1, more, one_more new)

      pushed : fs ≡ es ++ (k, v) ∷ []
      pushed = entries ∙ insert_entry-absent same_key k v es (absent_from_lookup (same_key k) es new)

      at_place : slice_get es n ≡ Some e
      at_place = sym (got_in_front es ((k, v) ∷ []) n (omega (arith, line.2, full))) ∙ ap (λ (l : Entries). slice_get l n) (sym pushed) ∙ there.1

      stood : value_for es e.0 ≡ Some e.1
      stood = lookup_from_place same_key_equiv es n e.0 e.1 line.0 at_place

      apart : same_key k e.0 ≡ false
      apart = by (same_key k e.0) refl
        where
          by : (b : Bool) → same_key k e.0 ≡ b → b ≡ false
          by false h = refl
          by true h = absurd (none-some e.1 (sym new ∙ ap (value_for es) (same_key_means k e.0 h) ∙ stood))

      swapped : (a b : Bool) (y : Option Value) → (a ≡ true → b ≡ false) → cond b (Some v) (cond a None y) ≡ cond a None (cond b (Some v) y)
      swapped true true y h = absurd (true≢false (h refl))
      swapped true false y h = refl
      swapped false true y h = refl
      swapped false false y h = refl

      others : (m : ℕ) → PutsFor (latest n es) (latest m gs) k v e.0
      others m q =
          latest_finds m gs left q ∙ goes_out.0 q ∙ ap (cond (same_key e.0 q) None) (put.0 q)
          ∙ sym (swapped (same_key e.0 q) (same_key k q) (value_for es q) (λ t. subst (λ y. same_key k y ≡ false) (same_key_means e.0 q t) apart))
          ∙ ap (λ (y : Option Value). cond (same_key k q) (Some v) (cond (same_key e.0 q) None y)) (sym (latest_finds n es line.0 q))

      pub found_gone : (m : ℕ) → value_for (latest m gs) k ≡ Some v
      found_gone m = latest_finds m gs left k ∙ goes_out.0 k ∙ ap (λ b. cond b None (value_for fs k)) (same_key_equiv.symm e.0 k ∙ apart) ∙ put.1

      pub one_went : (m : ℕ) → PutsForOne (latest n es) (latest m gs) k v
      one_went m = record { gone = e.0; stood = subst (λ (y : Option Value). IsSome y) (sym (latest_finds n es line.0 e.0 ∙ stood)) refl; others = others m }

      pub no_space : {A : Type 0} → HasSpace (kept (latest n es) cap) k → A
      no_space (inl known) = absurd (none_is_some (value_for (latest n es) k) (latest_finds n es line.0 k ∙ new) known)
      no_space (inr few) = absurd (omega (arith, few, latest_len n es, full))

      pub gone_is : r ≡ going (kept (latest n es) cap) k
      gone_is = entry ∙ there.1 ∙ sym at_place ∙ oldest_goes es n cap k line (ap (λ (o : Option Value). is_some o) new) (omega (arith, full))

      pub oldest_went : (m : ℕ) → PutsForGoing (kept (latest n es) cap) (kept (latest m gs) cap) k v
      oldest_went m g goes =
          let known = going_is (value_for (latest n es) k) (nat_lt (length (latest n es)) cap) (last_entry (latest n es)) g goes in
          subst (λ (x : Key × Value). PutsFor (latest n es) (latest m gs) k v x.0) (same_Some e g (sym (latest_last n es e at_place) ∙ known.2)) (others m)

      pub len_gone : (m : ℕ) → length (latest m gs) ≡ len_after (kept (latest n es) cap) k
      len_gone m =
          let long : length (latest m gs) ≡ min (length (latest n es) + 1) cap = omega (arith, latest_len m gs, one_less, full, one_more new, latest_len n es) in
          long ∙ ap (λ (y : Option Value). if is_some y then length (latest n es) else min (length (latest n es) + 1) cap) (sym (latest_finds n es line.0 k ∙ new))

      pub order_gone : IfSome r (λ p. gs ≡ swap_remove fs n p) → (m : ℕ) → m ≡ place_after n cap → keys_of (latest m gs) ≡ keys_after (kept (latest n es) cap) k
      order_gone is_out m is =
          let removed : gs ≡ swap_remove fs n e = subst (λ (y : Option (Key × Value)). IfSome y (λ p. gs ≡ swap_remove fs n p)) (entry ∙ there.1) is_out in
          let turned : gs ≡ set es n (k, v) = removed ∙ ap (λ (l : Entries). swap_remove l n e) pushed ∙ swapped_in es n (k, v) e (omega (arith, line.2, full)) in
          let first = latest_turned es n m cap (k, v) e (omega (arith, line.2, full)) full at_place is in
          ap (λ (l : Entries). keys_of (latest m l)) turned ∙ ap keys_of first ∙ ap (λ l. k ∷ l) (map_take (λ (x : Key × Value). x.0) (cap - 1) (latest n es))
          ∙ ap (λ (y : Option Value). if is_some y then keys_of (latest n es) else k ∷ take (cap - 1) (keys_of (latest n es))) (sym (latest_finds n es line.0 k ∙ new))

      pub keeps_gone : IfSome r (λ p. gs ≡ swap_remove fs n p) → (m : ℕ) → m ≡ place_after n cap → Keeps (kept (latest n es) cap) (kept (latest m gs) cap) k v r
      keeps_gone is_out m is = record {
        found = found_gone m;
        stays = no_space;
        one_goes = λ new full. one_went m;
        goes = oldest_went m;
        is_gone = gone_is;
        order = order_gone is_out m is;
        len = len_gone m;
      }

      pub line_gone : (m : ℕ) → m < cap → IsLine gs m cap
      line_gone m within = (left, omega (arith, one_less, full, one_more new), within, λ few. absurd (omega (arith, few, one_less, full, one_more new)))
