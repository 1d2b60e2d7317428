-- How many bytes of text entries have, where one comes or goes.
use Rattle.std.proofs.Common.{◌≡◌, ℕ, ◌+◌, ◌<◌, Bool, true, false, cond, if◌then◌else◌, [], ◌∷◌, length, slice_get, Option, Some, None, IfSome, sym, ap, ◌∙◌, arith}
use Rattle.std.specs.List.{swap_remove}
use Rattle.std.proofs.lemmas.List.Sums.{sum_by-cons, sum_by-swap_remove}
use Rattle.std.proofs.lemmas.List.Sorted.{sum_by-IsPermutation}
use Rattle.std.proofs.lemmas.Option.{get_or_from_slice_get, none-some}
use Rattle.indexmap.specs.IndexMap.{insert_entry}
use Rattle.wi_values.specs.declared.value.Value.{Value}
use Rattle.wi_cache.specs.declared.key.Key.{Key}
use Rattle.wi_cache.specs.Entries.{Entries, latest, same_key, text_len, texts_len, value_for}
use Rattle.wi_cache.specs.Inner.Texts.{len_of_earlier, len_of_gone}
use Rattle.wi_cache.proofs.Keeping.{latest_permutes, stands}

-- their order makes no difference
pub texts_latest : (n : ℕ) (es : Entries) → texts_len (latest n es) ≡ texts_len es
texts_latest n es = sum_by-IsPermutation (λ (e : Key × Value). text_len e.1) es (latest n es) (latest_permutes n es)

-- a value comes in the place of an earlier one, if there was one
pub texts_put : (es : Entries) (k : Key) (v : Value) → texts_len (insert_entry same_key es k v) + len_of_earlier (value_for es k) ≡ texts_len es + text_len v
texts_put [] k v = omega (arith, sum_by-cons (λ (e : Key × Value). text_len e.1) (k, v) [])
texts_put (e ∷ es) k v = by (same_key k e.0) (texts_put es k v)
  where
    by : (b : Bool) → texts_len (insert_entry same_key es k v) + len_of_earlier (value_for es k) ≡ texts_len es + text_len v → texts_len (if b then (e.0, v) ∷ es else e ∷ insert_entry same_key es k v) + len_of_earlier (cond b (Some e.1) (value_for es k)) ≡ texts_len (e ∷ es) + text_len v
    by true later = omega (arith, sum_by-cons (λ (e : Key × Value). text_len e.1) (e.0, v) es, sum_by-cons (λ (e : Key × Value). text_len e.1) e es)
    by false later = omega (arith, later, sum_by-cons (λ (e : Key × Value). text_len e.1) e es, sum_by-cons (λ (e : Key × Value). text_len e.1) e (insert_entry same_key es k v))

-- the one at a place goes
pub texts_gone : (fs gs : Entries) (n : ℕ) (r : Option (Key × Value)) → n < length fs → r ≡ slice_get fs n → IfSome r (λ p. gs ≡ swap_remove fs n p) → texts_len gs + len_of_gone r ≡ texts_len fs
texts_gone fs gs n None within is out = let there = stands fs n within in absurd (none-some there.0 (is ∙ there.1))
texts_gone fs gs n (Some e) within is out =
    omega (arith, sum_by-swap_remove (λ (e : Key × Value). text_len e.1) fs n e within, ap texts_len out, ap (λ (x : Key × Value). text_len x.1) (get_or_from_slice_get fs n e e (sym is)))

-- ---- how many are told

-- with a value put in
pub told_put : (es fs : Entries) (k : Key) (v : Value) (o : Option Value) (told all less : ℕ) → told ≡ texts_len es → all ≡ told + text_len v → less ≡ len_of_earlier o → o ≡ value_for es k → fs ≡ insert_entry same_key es k v → all ≡ texts_len fs + less
told_put es fs k v o told all less is sum part old put =
    omega (arith, texts_put es k v, is, sum, part, ap len_of_earlier old, ap texts_len put)

-- and with one less
pub told_gone : (fs gs : Entries) (n : ℕ) (r : Option (Key × Value)) (told less : ℕ) → told ≡ texts_len fs → less ≡ len_of_gone r → n < length fs → r ≡ slice_get fs n → IfSome r (λ p. gs ≡ swap_remove fs n p) → told ≡ texts_len gs + less
told_gone fs gs n r told less is part within at out = omega (arith, texts_gone fs gs n r within at out, is, part)
