-- Values by keys.
use Rattle.std.specs.Prelude.{◌≡◌, ℕ, ◌+◌, ◌-◌, ◌/◌, ◌%◌, ◌<◌, ◌≤◌, ◌⊎◌, Bool, List, ◌∷◌, ◌++◌, length, sum_by, take, drop, reverse, slice_get, min, Option, Some, None, IsSome, is_some, nat_le, nat_lt, refl, if◌then◌else◌}
use Rattle.std.specs.List.{IsDistinct}
use Rattle.std.specs.Map.{keys_of, lookup, update}
use Rattle.std.specs.Coded.{Coded, code_by, coded×, coded_list, coded_ℕ}
use Rattle.std.specs.Int.{bit_at}
use Rattle.indexmap.specs.IndexMap.{insert_all}
use Rattle.wi_values.specs.declared.replacement.Replacement.{Replacement}
use Rattle.wi_values.specs.declared.value.Value.{Value}
use Rattle.wi_values.specs.declared.value.Value.TheVariants.{Text}
use Rattle.wi_worlds.specs.Inner.Compared.{digest_of}
use Rattle.wi_cache.specs.declared.key.Key.{Key}
use Rattle.wi_cache.specs.contracts.key.KeyPartialEq.TheImpl as equality

-- whether two keys are equal: they are one key then
abbrev pub same_key : Key → Key → Bool
same_key = equality.ghosts.eq

abbrev pub Entries : Type 0
Entries = List (Key × Value)

-- the value that stands for a key, if one does
abbrev pub value_for : Entries → Key → Option Value
value_for es k = lookup (same_key k) es

-- no key stands twice
abbrev pub HasOneEach : Entries → Type 0
HasOneEach es = IsDistinct same_key (keys_of es)

module _ (es fs : Entries) (k : Key) (v : Value) where
  -- v stands for k, and for every other key what stood before
  abbrev pub PutsIn : Type 0
  PutsIn = (q : Key) → value_for fs q ≡ update same_key (value_for es) k (Some v) q

  -- the key gone goes; v stands for k, and for every other key what stood before
  abbrev pub PutsFor : Key → Type 0
  PutsFor gone = (q : Key) → value_for fs q ≡ update same_key (update same_key (value_for es) gone None) k (Some v) q

  -- one key goes, and it stood; v stands for k, and for every other key what stood before
  pub record PutsForOne : Type 0 where
    pub gone : Key
    pub stood : IsSome (value_for es gone)
    pub others : PutsFor gone

-- the values that are kept, and how many there may be
pub record KeptValues : Type 0 where
  pub entries : Entries
  pub capacity : ℕ

abbrev pub kept : Entries → ℕ → KeptValues
kept es n = record { entries = es; capacity = n }

abbrev pub kept_code : Coded Key → Coded Value → Coded KeptValues
kept_code k v = code_by (Entries × ℕ) (coded× (coded_list (coded× k v)) coded_ℕ) (λ m. (m.entries, m.capacity)) (λ p. kept p.0 p.1) (λ _. refl)

-- how many bytes of text a value has
abbrev pub text_len : Value → ℕ
text_len (Text t) = length t
text_len v = 0

-- and all that are kept
abbrev pub texts_len : Entries → ℕ
texts_len es = sum_by (λ e. text_len e.1) es

-- the values that are kept have as many KiB of text as there may be values
abbrev pub has_long_texts : KeptValues → Bool
has_long_texts m = nat_le m.capacity (texts_len m.entries / 1024)

-- what stands in a circle, of which the one at a place came first, then those behind it, and then those before it: the
-- last that came first
abbrev pub latest : {X : Type 0} → ℕ → List X → List X
latest oldest xs = reverse (drop oldest xs ++ take oldest xs)

-- the place behind another of n, and behind the last of them the first
abbrev pub place_after : ℕ → ℕ → ℕ
place_after i n = if nat_lt (i + 1) n then i + 1 else 0

-- what holds of such entries at any time: until there are as many as there may be, the first came first
abbrev pub IsLine : Entries → ℕ → ℕ → Type 0
IsLine es oldest n = HasOneEach es × (length es ≤ n) × (oldest < n) × (length es < n → oldest ≡ 0)

-- a value for k asks for none to go: k has one, or the list isn't full
abbrev pub HasSpace : KeptValues → Key → Type 0
HasSpace m k = IsSome (value_for m.entries k) ⊎ (length m.entries < m.capacity)

-- the entry that came first
abbrev pub last_entry : Entries → Option (Key × Value)
last_entry es = slice_get es (length es - 1)

-- how many there are after one is kept for k
abbrev pub len_after : KeptValues → Key → ℕ
len_after m k = if is_some (value_for m.entries k) then length m.entries else min (length m.entries + 1) m.capacity

-- the keys after one is kept for k, the latest first: one that was there stays in its place, and a new one comes before
-- as many as there is room for
abbrev pub keys_after : KeptValues → Key → List Key
keys_after m k = if is_some (value_for m.entries k) then keys_of m.entries else k ∷ take (m.capacity - 1) (keys_of m.entries)

-- the entry that goes where a value is kept for k: none where there is room, else the one that was kept longest ago
abbrev pub going : KeptValues → Key → Option (Key × Value)
going m k = if is_some (value_for m.entries k) then None else (if nat_lt (length m.entries) m.capacity then None else last_entry m.entries)

-- the entry that goes is the one that gives its place to v for k
abbrev pub PutsForGoing : KeptValues → KeptValues → Key → Value → Type 0
PutsForGoing m n k v = (e : Key × Value) → going m k ≡ Some e → PutsFor m.entries n.entries k v e.0

-- values, and how many more there is room for
pub record WithSpace : Type 0 where
  pub entries : Entries
  pub space : ℕ

abbrev pub with_space : Entries → ℕ → WithSpace
with_space es n = record { entries = es; space = n }

abbrev pub with_space_code : Coded Key → Coded Value → Coded WithSpace
with_space_code k v = code_by (Entries × ℕ) (coded× (coded_list (coded× k v)) coded_ℕ) (λ m. (m.entries, m.space)) (λ p. with_space p.0 p.1) (λ _. refl)

-- what stands after others were put in one after another, each in the place of an earlier one for its key
abbrev pub all_put : Entries → Entries → Entries
all_put es came = insert_all same_key es came

-- which of 64 bits stands for replacements
abbrev pub world_bit : List Replacement → ℕ
world_bit w = digest_of w % 64

-- of each key that has a value, the bit of its replacements is set
abbrev pub HasBits : Entries → ℕ → Type 0
HasBits es bits = (q : Key) → IsSome (value_for es q) → bit_at bits (world_bit q.world) ≡ 1
