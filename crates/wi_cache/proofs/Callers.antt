-- What a caller's proof cites of kept values.
use Rattle.std.proofs.Common.{◌≡◌, ◌≤◌, inl, inr, Bool, true, false, cond, if◌then◌else◌, nat_le, nat_lt, length, Option, Some, None, IsSome, IfSome, is_some, refl, ap, sym, subst, arith}
use Rattle.std.specs.Map.{update}
use Rattle.std.proofs.lemmas.Bool.{cases_lt}
use Rattle.std.proofs.lemmas.Bool.Decides.{nat_tests}
use Rattle.wi_values.specs.declared.value.Value.{Value}
use Rattle.wi_cache.specs.declared.key.Key.{Key}
use Rattle.wi_cache.specs.Entries.{Entries, KeptValues, HasSpace, PutsIn, PutsForOne, going, last_entry, same_key, value_for}
use Rattle.wi_cache.proofs.Keys.{same_key_Decides}

module _ (P : Key → Value → Type 0) where
  -- P holds of each key and its value
  abbrev pub HoldsOfEach : Entries → Type 0
  HoldsOfEach es = (q : Key) → IfSome (value_for es q) (P q)

  module _ (k : Key) (v : Value) (new : P k v) where
    put_holds : (f : Key → Option Value) → ((q : Key) → IfSome (f q) (P q)) → (q : Key) → IfSome (update same_key f k (Some v) q) (P q)
    put_holds f old q = (elim (same_key k q) as (λ b. same_key k q ≡ b → IfSome (cond b (Some v) (f q)) (P q)) [
      | true ↦ λ t. subst (λ r. P r v) ((same_key_Decides k q).0 t) new
      | false ↦ λ t. old q
    ]) refl

    gone_holds : (f : Key → Option Value) (gone : Key) → ((q : Key) → IfSome (f q) (P q)) → (q : Key) → IfSome (update same_key f gone None q) (P q)
    gone_holds f gone old q = elim (same_key gone q) as (λ b. IfSome (cond b None (f q)) (P q)) [
      | true ↦ tt
      | false ↦ old q
    ]

    -- what holds of each value, and of the new one, holds of each after it is put in
    pub holds_after_puts : (es fs : Entries) → HoldsOfEach es → PutsIn es fs k v → HoldsOfEach fs
    holds_after_puts es fs old puts q = subst (λ o. IfSome o (P q)) (sym (puts q)) (put_holds (value_for es) old q)

    holds_after_one_goes : (es fs : Entries) → HoldsOfEach es → PutsForOne es fs k v → HoldsOfEach fs
    holds_after_one_goes es fs old puts q = subst (λ o. IfSome o (P q)) (sym (puts.others q)) (put_holds (update same_key (value_for es) puts.gone None) (gone_holds (value_for es) puts.gone old) q)

    module _ (m n : KeptValues) (stays : HasSpace m k → PutsIn m.entries n.entries k v) (one_goes : value_for m.entries k ≡ None → m.capacity ≤ length m.entries → PutsForOne m.entries n.entries k v) where
      -- the same of an accepted `keep`, whose clauses are taken as they stand
      pub holds_after_keep : HoldsOfEach m.entries → HoldsOfEach n.entries
      holds_after_keep old = by_old (value_for m.entries k) refl
        where
          by_old : (o : Option Value) → value_for m.entries k ≡ o → HoldsOfEach n.entries
          by_old (Some w) h = holds_after_puts m.entries n.entries old (stays (inl (subst IsSome (sym h) refl)))
          by_old None h = elim (cases_lt (length m.entries) m.capacity) [
            | inl few ↦ holds_after_puts m.entries n.entries old (stays (inr few))
            | inr full ↦ holds_after_one_goes m.entries n.entries old (one_goes h full)
          ]

-- none goes where the list isn't full
pub none_goes_before : (m : KeptValues) (k : Key) → nat_le m.capacity (length m.entries) ≡ false → going m k ≡ None
none_goes_before m k few = by (value_for m.entries k) (nat_lt (length m.entries) m.capacity) (grind (arith, nat_tests))
  where
    by : (o : Option Value) (b : Bool) → b ≡ true → (if is_some o then None else (if b then None else last_entry m.entries)) ≡ None
    by (Some v) b h = refl
    by None b h = ap (λ c. if c then None else last_entry m.entries) h
