-- A question that ends with a plan where no place is free.
use Rattle.wi_engine.proofs.Words.{◌≡◌, ◌⊎◌, inl, inr, ◌||◌, ◌+◌, ◌-◌, ◌^◌, ◌≤◌, ℕ, Bool, true, false, List, Contains, Option, Some, None, Result, Ok, Err, IsErr, IfOk, is_ok, refl, ap, sym, ◌∙◌, subst, arith, true≢false, AllocError, Value, Replacement, Sheet, content_of, put_all, has_formula, Counts, Key, cell_value, Case, case_of, reaching, same_case, reaching_suffices, HasCase, one_less_left, MemoState, IsMemoOf, case_at, IsUnvalued, KeepsFound, WhereSpace, not_kept, TakesNoMore, TakesPlaces, Keeps, SpendsAtMost}
use Rattle.wi_engine.specs.Inner.Plans.{Follows, IsUnkept}
use Rattle.wi_engine.proofs.Places.{gives_up_none}
use Rattle.wi_engine.proofs.Ledger.{same_itself, spends_none, spends_at_most}
use Rattle.wi_engine.proofs.engine.NextCases.{unvalued_case}
use Rattle.wi_engine.proofs.engine.Stacks.{run_keeps}

-- where nothing was done
pub full_none : {s : Sheet} {Has : List Case → Type 0} {m n : MemoState} {a b : Counts} {done : Bool} → IsMemoOf s m → n ≡ m → b ≡ a → SpendsAtMost s Has m n a b done
full_none {s} {Has} {m} {n} {a} {b} {done} h e g = subst (λ (x : Counts). SpendsAtMost s Has m n a x done) (sym g) (spends_at_most (spends_none h e))

module _ {s : Sheet} {m : MemoState} {w : List Replacement} {root : ℕ} {k : Key} (u : IsUnvalued s m w root k) where
  here : case_of s w root ≡ case_at k
  here = unvalued_case s m w root k u

  -- the root's value is that of its key
  pub root_value : (v : Value) → v ≡ cell_value (put_all s w) root → v ≡ cell_value (put_all s k.world) k.cell
  root_value v is = is ∙ sym (reaching_suffices s w root) ∙ ap (λ (j : Case). cell_value (put_all s j.1) j.0) here

  pub is_unkept : IsUnkept s m w root
  is_unkept = record { formula = u.formula; none = ap (λ (j : Case). m.kept j.0 j.1) here ∙ u.to_find.unkept }

  module _ (full : m.space ≡ 0) where
    -- there is no room for what the root demands, since its value isn't kept
    no_space : (P : List Case → Type 0) → WhereSpace s (HasCase s w root) m P
    no_space P ks closed has whole space =
        let there : Contains ks (case_at k) = subst (λ (j : Case). Contains ks j) here (has u.formula) in
        let less = one_less_left m.kept (λ c v. m.kept c v || same_case (case_at k) (c, v)) (case_at k) ks (λ c v. refl) u.to_find.unkept there in
        absurd (omega (arith, less, space, full))

    module _ (h : IsMemoOf s m) {start next : Counts} {r : Result (Option Value) AllocError} (follows : Follows s w root start next r) where
      -- where memory ran out before the root's value was kept
      pub full_stopped : {n : MemoState} {done : Bool} → n ≡ m → SpendsAtMost s (HasCase s w root) m n start next done
      full_stopped {n} {done} e =
          let up = follows.counts.0 in
          let alone : SpendsAtMost s (HasCase s w root) m m start next done = record {
            right = h;
            same = same_itself m;
            counts = follows.counts;
            places = inl (λ ks d. omega (arith, up));
            gives_up = gives_up_none m m refl;
            at_most = λ ks closed has. follows.at_most ks closed (has u.formula);
            on_kept = no_space _;
            saved = λ d. no_space _;
          } in
          subst (λ (x : MemoState). SpendsAtMost s (HasCase s w root) m x start next done) (sym e) alone

      -- and where it is kept, or memory ran out while it was
      pub full_kept : {a n : MemoState} {v : Value} {done : Bool} → a ≡ m → Keeps a n k v → v ≡ cell_value (put_all s w) root → (start.evaluations + 1 ≤ next.evaluations) ⊎ (2 ^ 64 - 1 ≤ next.evaluations) → SpendsAtMost s (HasCase s w root) m n start next done
      full_kept {a} {n} {v} {done} e keeps is one =
          let there : Keeps m n k v = rw e at keeps in
          record {
            right = run_keeps s m n k v h there (root_value v is);
            same = there.same;
            counts = follows.counts;
            places = places there.places one;
            gives_up = there.gives_up;
            at_most = λ ks closed has. follows.at_most ks closed (has u.formula);
            on_kept = no_space _;
            saved = λ d. no_space _;
          }
        where
          places : TakesPlaces m n 0 1 → (start.evaluations + 1 ≤ next.evaluations) ⊎ (2 ^ 64 - 1 ≤ next.evaluations) → TakesNoMore m n start.evaluations next.evaluations
          places t (inl l) = inl (λ ks d. let b = t ks d in omega (arith, b, l))
          places t (inr l) = inr l
