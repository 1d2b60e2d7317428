-- Replacements put into a map, one after another.
use Rattle.wi_values.proofs.Words.{◌≡◌, ◌==◌, ◌<◌, ℕ, Bool, true, false, cond, List, [], ◌∷◌, ◌++◌, Option, Some, None, refl, sym, ap, ◌∙◌, option_or, nat_cmp, Less, AllByRecursion, IsStrictlySortedBy, lookup, keys_of, is_at, insert_entry, sorted_head, sorted_tail, Value, Replacement, IsInOrder, as_map, replaced, overridden, last_for}
use Rattle.std.proofs.lemmas.List.{append-nil, append_assoc}
use Rattle.wi_values.proofs.Order.{cmp_after, below_from_Less, turn_test}
use Rattle.wi_values.proofs.Lookups.{found-insert}
use Rattle.wi_values.proofs.Replacements.InOrder.{sorted_from_order}

abbrev Entries : Type 0
Entries = List (ℕ × Value)

-- ---- put in again, replacements in order give their own entries

-- each key comes before k
abbrev ComeBefore : ℕ → Entries → Type 0
ComeBefore k [] = Unit {0}
ComeBefore k (e ∷ es) = (e.0 < k) × ComeBefore k es

-- each key comes before each replacement
abbrev AllBefore : Entries → List Replacement → Type 0
AllBefore es [] = Unit {0}
AllBefore es (r ∷ rs) = ComeBefore r.at es × AllBefore es rs

insert_last : (es : Entries) (k : ℕ) (v : Value) → ComeBefore k es → insert_entry nat_cmp es k v ≡ es ++ (k, v) ∷ []
insert_last [] k v h = refl
insert_last (e ∷ es) k v h = rw (cmp_after k e.0 h.0) (ap (λ (xs : Entries). e ∷ xs) (insert_last es k v h.1))

before_more : (k a : ℕ) (v : Value) (es : Entries) → a < k → ComeBefore k es → ComeBefore k (es ++ (a, v) ∷ [])
before_more k a v [] l h = (l, tt)
before_more k a v (e ∷ es) l h = (h.0, before_more k a v es l h.1)

all_before_more : (r : Replacement) (es : Entries) (rs : List Replacement) → AllByRecursion (λ b. nat_cmp r.at b ≡ Less) (keys_of (as_map rs))
    → AllBefore es rs → AllBefore (es ++ (r.at, r.value) ∷ []) rs
all_before_more r es [] l h = tt
all_before_more r es (s ∷ rs) l h = (before_more s.at r.at r.value es (below_from_Less r.at s.at l.0) h.0, all_before_more r es rs l.1 h.1)

overridden-after : (es : Entries) (rs : List Replacement) → IsStrictlySortedBy nat_cmp (keys_of (as_map rs)) → AllBefore es rs → overridden es rs ≡ es ++ as_map rs
overridden-after es [] h b = sym (append-nil es)
overridden-after es (r ∷ rs) h b =
    ap (λ (xs : Entries). overridden xs rs) (insert_last es r.at r.value b.0)
    ∙ overridden-after (es ++ (r.at, r.value) ∷ []) rs (sorted_tail nat_cmp r.at (keys_of (as_map rs)) h)
    (all_before_more r es rs (sorted_head nat_cmp r.at (keys_of (as_map rs)) h) b.1)
    ∙ append_assoc es ((r.at, r.value) ∷ []) (as_map rs)

all_before_nothing : (rs : List Replacement) → AllBefore [] rs
all_before_nothing [] = tt
all_before_nothing (r ∷ rs) = (tt, all_before_nothing rs)

pub overridden-nothing : (rs : List Replacement) → IsInOrder rs → overridden [] rs ≡ as_map rs
overridden-nothing rs h = overridden-after [] rs (sorted_from_order rs h) (all_before_nothing rs)

-- ---- the last one counts

or_else : (b : Bool) (p o : Option Value) (v : Value) → option_or p (cond b (Some v) o) ≡ option_or (option_or p (cond b (Some v) None)) o
or_else b (Some x) o v = refl
or_else true None o v = refl
or_else false None o v = refl

-- what an address has after replacements are put in is the last one's value, or else what it had
pub lookup-overridden : (a : ℕ) (es : Entries) (rs : List Replacement) → lookup (is_at (nat_cmp a)) (overridden es rs) ≡ option_or (last_for rs a) (lookup (is_at (nat_cmp a)) es)
lookup-overridden a es [] = refl
lookup-overridden a es (r ∷ rs) =
    lookup-overridden a (insert_entry nat_cmp es r.at r.value) rs
    ∙ ap (λ (o : Option Value). option_or (last_for rs a) o) (found-insert es r.at r.value a)
    ∙ ap (λ (b : Bool). option_or (last_for rs a) (cond b (Some r.value) (lookup (is_at (nat_cmp a)) es))) (turn_test a r.at)
    ∙ or_else (r.at == a) (last_for rs a) (lookup (is_at (nat_cmp a)) es) r.value

pub replaced-overridden : (v w rs : List Replacement) → as_map w ≡ overridden (as_map v) rs → (a : ℕ) → replaced w a ≡ option_or (last_for rs a) (replaced v a)
replaced-overridden v w rs e a = ap (λ (es : Entries). lookup (is_at (nat_cmp a)) es) e ∙ lookup-overridden a (as_map v) rs
