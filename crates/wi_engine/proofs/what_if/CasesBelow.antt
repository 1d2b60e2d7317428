-- A cell whose formula is a what-if costs no more than an evaluation beside what the what-if's formula cell costs.
use Rattle.wi_engine.proofs.Words.{◌≡◌, ◌∙◌, ◌+◌, ◌≤◌, ◌⊎◌, inl, inr, ℕ, Bool, true, false, cond, List, [], ◌∷◌, map, filter, length, Some, None, Ok, Option, Result, IsErr, Contains, refl, ap, sym, subst, arith, sum_by, sum_by-cons, true≢false, false_from_ne_true, AllocError, Value, Replacement, Tree, Formula, Sheet, content_of, put_all, has_formula, content_reads, addresses, circular, reaches, reaches_here, reaches_on, reaches_read, reaches_by_step, left_circular, Counts, Case, case_of, reaching, wants, what_ifs_of, with_what_if, cell_value, content_below, HasCase, IsClosed, NeverFall, RestsOn, plus, never_fall-then, IsIn, in_contained, contains_in}
use Rattle.wi_parser.specs.Tree.{what_if}
use Rattle.wi_sheet.specs.Demand.{precedent_cases}
use Rattle.wi_sheet.specs.Inner.Spending.{price}
use Rattle.wi_functions.specs.Meaning.{zero_for_empty}
use Rattle.wi_sheet.proofs.Demands.{rests_reads}
use Rattle.wi_sheet.proofs.Members.{in_filter, of_filter}
use Rattle.wi_sheet.proofs.RestsUnder.{rests_stay}
use Rattle.wi_sheet.proofs.Wants.{what_if_is_below}
use Rattle.wi_values.proofs.Lists.{sum_ones}
use Rattle.wi_engine.specs.Inner.Plans.{CountsOne, FindsRoot, Follows, IsWhatIfOf}
use Rattle.wi_engine.proofs.engine.NextValues.{one_more_at_most}
use Rattle.wi_engine.proofs.plan.Following.{follows_err, more_counted}
use Rattle.wi_engine.proofs.WhatIfs.{what_if_shows}

-- ---- some of a list's cases weigh no more than all, and where one is left out, less by that

fewer_weigh : (weight : Case → ℕ) (test : Case → Bool) (ks : List Case) → sum_by weight (filter test ks) ≤ sum_by weight ks
fewer_weigh weight test [] = omega arith
fewer_weigh weight test (k ∷ ks) = at (test k) (fewer_weigh weight test ks)
  where
    rest : List Case
    rest = filter test ks

    at : (b : Bool) → sum_by weight rest ≤ sum_by weight ks → sum_by weight (cond b (k ∷ rest) rest) ≤ sum_by weight (k ∷ ks)
    at true h = omega (arith, h, sum_by-cons weight k rest, sum_by-cons weight k ks)
    at false h = omega (arith, h, sum_by-cons weight k ks)

lighter : (weight : Case → ℕ) (test : Case → Bool) (ks : List Case) (k : Case) → IsIn ks k → test k ≡ false → sum_by weight (filter test ks) + weight k ≤ sum_by weight ks
lighter weight test [] k i out = absurd i
lighter weight test (j ∷ ks) k (inl e) out = rw (ap test e ∙ out) (omega (arith, fewer_weigh weight test ks, ap weight e, sum_by-cons weight j ks))
lighter weight test (j ∷ ks) k (inr i) out = at (test j) (lighter weight test ks k i out)
  where
    rest : List Case
    rest = filter test ks

    at : (b : Bool) → sum_by weight rest + weight k ≤ sum_by weight ks → sum_by weight (cond b (j ∷ rest) rest) + weight k ≤ sum_by weight (j ∷ ks)
    at true h = omega (arith, h, sum_by-cons weight j rest, sum_by-cons weight j ks)
    at false h = omega (arith, h, sum_by-cons weight j ks)

-- ---- the cases of cells that the root reaches

-- a cell that isn't circular isn't reached by one that it reads
apart : (s : Sheet) (c d : ℕ) → content_reads (content_of s c) d ≡ true → circular s c ≡ false → reaches s d c ≡ false
apart s c d r clear = false_from_ne_true (reaches s d c) (λ h. true≢false (sym (left_circular s (λ a. reaches s a c) (λ a k. next h a (reaches_by_step s a c k)) c (reaches_here s c)) ∙ clear))
  where
    next : reaches s d c ≡ true → (a : ℕ) → (a ≡ c) ⊎ ((content_reads (content_of s a) c ≡ true) ⊎ ((b : ℕ) × (content_reads (content_of s a) b ≡ true) × (has_formula (content_of s b) ≡ true) × (reaches s b c ≡ true))) →
        (b : ℕ) × (content_reads (content_of s a) b ≡ true) × (reaches s b c ≡ true)
    next h a (inl e) = (d, ap (λ (x : ℕ). content_reads (content_of s x) d) e ∙ r, h)
    next h a (inr (inl k)) = (c, k, reaches_here s c)
    next h a (inr (inr k)) = (k.0, k.1, k.3)

abbrev below : Sheet → ℕ → List Case → List Case
below s root ks = filter (λ j. reaches s root j.0) ks

-- they are closed where all are
below_closed : (s : Sheet) (root : ℕ) (ks : List Case) → IsClosed s ks → IsClosed s (below s root ks)
below_closed s root ks closed j i there r =
    let test : Case → Bool = λ k. reaches s root k.0 in
    let one = of_filter test ks j (in_contained (below s root ks) j there) in
    let reads = rests_reads s j i r.tree r.is (in_contained (precedent_cases s j.1 r.tree) i r.asks) in
    let next = in_contained ks i (closed j i (contains_in ks j one.0) r) in
    contains_in (below s root ks) i (in_filter test ks i next (reaches_on s root j.0 i.0 one.1 (reaches_read s j.0 i.0 reads)))

-- ---- what is counted

module _ {s : Sheet} {w : List Replacement} {c : ℕ} {inside : List Replacement} {root : ℕ} (x : IsWhatIfOf s w c inside root) (clear : circular s c ≡ false) where
  root_below : Contains (precedent_cases s w (what_if x.cell x.pairs)) (case_of s inside root)
  root_below =
      let t = what_if x.cell x.pairs in
      let pairs = map addresses x.pairs in
      let asks = what_if_is_below s w t (x.cell.at, pairs) (contains_in (what_ifs_of t) (x.cell.at, pairs) (inl refl)) in
      subst (λ (v : List Replacement). Contains (precedent_cases s w t) (case_of s v root)) (sym x.is_inside) (subst (λ (f : ℕ). Contains (precedent_cases s w t) (case_of s (with_what_if s w pairs) f)) x.is_root asks)

  -- the cell rests on the root
  rests_on_root : has_formula (content_of (put_all s inside) root) ≡ true → RestsOn s (case_of s w c) (case_of s inside root)
  rests_on_root form =
      let t = what_if x.cell x.pairs in
      let stay = rests_stay s w c t x.order x.stands in
      record {
        tree = t;
        is = stay.0;
        asks = subst (λ (ks : List Case). Contains ks (case_of s inside root)) (sym stay.1) root_below;
        formula = ap has_formula (content_below s root inside) ∙ form;
      }

  -- which doesn't reach it
  root_apart : reaches s root c ≡ false
  root_apart =
      let t = what_if x.cell x.pairs in
      apart s c root (rests_reads s (c, w) (case_of s inside root) t x.stands (in_contained (precedent_cases s w t) (case_of s inside root) root_below)) clear

  module _ {start now : Counts} {q : Result (Option Value) AllocError} (finds : FindsRoot s inside root start now q) where
    below_at_most : (ks : List Case) → IsClosed s ks → Contains ks (case_of s w c) → NeverFall now (plus start (price s (below s root ks)))
    below_at_most ks closed top = finds.at_most (below s root ks) (below_closed s root ks closed) (λ form.
        let next = in_contained ks (case_of s inside root) (closed (case_of s w c) (case_of s inside root) top (rests_on_root form)) in
        contains_in (below s root ks) (case_of s inside root) (in_filter (λ k. reaches s root k.0) ks (case_of s inside root) next (reaches_here s root)))

    -- where memory ran out before the cell's value was there
    pub follows_stopped : (r : Result (Option Value) AllocError) → IsErr r → Follows s w c start now r
    follows_stopped r e = follows_err r e finds.counts (λ ks closed top.
        let most = below_at_most ks closed top in
        let test : Case → Bool = λ k. reaches s root k.0 in
        let few = fewer_weigh (λ k. 1) test ks in
        (omega (arith, most.0, few, sum_ones (below s root ks), sum_ones ks), omega (arith, most.1, fewer_weigh (wants s) test ks)))

  -- and where it is there
  pub follows_cell : {start now next : Counts} {v u : Value} → FindsRoot s inside root start now (Ok (Some v)) → CountsOne now next → u ≡ zero_for_empty v → Follows s w c start next (Ok (Some u))
  follows_cell {start} {now} {next} {v} {u} finds one shown = record {
    value = what_if_shows x clear finds.value shown;
    none = λ e. let z = e in cc;
    counts = never_fall-then start now next finds.counts one.0;
    one = more_counted start.evaluations now.evaluations next.evaluations finds.counts.0 (ap (λ (y : Counts). y.evaluations) one.1);
    at_most = λ ks closed top.
        let most = below_at_most finds ks closed top in
        let test : Case → Bool = λ k. reaches s root k.0 in
        let there = in_contained ks (case_of s w c) top in
        let up = one_more_at_most now.evaluations next.evaluations (ap (λ (y : Counts). y.evaluations) one.1) in
        let none : next.restarts ≡ now.restarts = ap (λ (y : Counts). y.restarts) one.1 in
        let less = lighter (λ k. 1) test ks (case_of s w c) there root_apart in
        (omega (arith, most.0, up, less, sum_ones (below s root ks), sum_ones ks), omega (arith, most.1, none, fewer_weigh (wants s) test ks));
  }
