-- The cells of a plan are found one after another.
use Rattle.wi_engine.proofs.Words.{◌≡◌, ◌==◌, ◌⊎◌, inl, inr, ◌||◌, ◌+◌, ◌-◌, ◌^◌, ◌<◌, ◌≤◌, ℕ, Bool, true, false, cond, suc, List, [], ◌∷◌, ◌++◌, map, take, drop, get_or, length, All, Contains, Option, Some, None, is_some, Result, Ok, Err, IsErr, refl, ap, sym, ◌∙◌, subst, arith, append_assoc, cases_lt, map-append, list_any-append, or-false, or_cases, or_left, or_right, or_from, and_parts, true≢false, eq-eqb, AllocError, Value, Replacement, Sheet, content_of, put_all, has_formula, constant, plain, put_formula, same_cell, is_one_of, Counts, one_more, cell_value, what_if_value, Case, case_of, reaching, same_case, Table, IsClosed, NeverFall, SpentOn, left_falls, one_less_left, spent_all, spent_none, spent_then, never_fall-same, never_fall-then, plus, wants, MemoState, IsWithCell, found_value, found_what_ifs, Findings}
use Rattle.wi_sheet.specs.Inner.Spending.{price}
use Rattle.wi_sheet.proofs.CaseCosts.{spent_nothing, spent_price}
use Rattle.wi_parser.specs.Inner.Puts.{put}
use Rattle.wi_sheet.proofs.Puts.{content_of-put}
use Rattle.std.proofs.Math.Seq.{split_at, take-suc}
use Rattle.wi_engine.specs.declared.plan.Planned.{Planned}
use Rattle.wi_engine.specs.Inner.Plans.{AreFound, CountsCell, CountsOne, Follows, IsNeeded, IsPlan, IsReady, MayBePlanned, RestsOnEarlier, planned_cells}
use Rattle.wi_engine.proofs.findings.FoundValues.{right_none, right_cell}
use Rattle.wi_engine.proofs.engine.NextValues.{one_more_at_most}
use Rattle.wi_engine.proofs.plan.Orders.{stays_there}

-- ---- what a cell asks for is found

-- a cell that is replaced has no formula
replaced_plain : (s : Sheet) (w : List Replacement) (c : ℕ) → is_one_of (map (λ r. r.at) w) c ≡ true → has_formula (content_of (put_all s w) c) ≡ false
replaced_plain s [] c h = cc
replaced_plain s (r ∷ rs) c h = at (is_one_of (map (λ x. x.at) rs) c) refl (or_cases (r.at == c) _ h) (λ e. replaced_plain (put s r.at r.value) rs c e)
  where
    at : (b : Bool) → is_one_of (map (λ x. x.at) rs) c ≡ b → ((r.at == c) ≡ true) ⊎ (is_one_of (map (λ x. x.at) rs) c ≡ true) → (is_one_of (map (λ x. x.at) rs) c ≡ true → has_formula (content_of (put_all (put s r.at r.value) rs) c) ≡ false) →
        has_formula (content_of (put_all (put s r.at r.value) rs) c) ≡ false
    at true e k ih = ih e
    at false e (inr k) ih = absurd (true≢false (sym k ∙ e))
    at false e (inl k) ih =
        let here : (c == r.at) ≡ true = eq-eqb c r.at (sym (same_cell c r.at k)) in
        ap has_formula (stays_there (put s r.at r.value) rs c e ∙ content_of-put s r.at r.value c ∙ ap (λ (b : Bool). cond b (constant r.value) (content_of s c)) here) ∙ plain r.value

-- what is read of a formula that rests on inputs and on what is found
pub is_ready : {s : Sheet} {w : List Replacement} {inputs front : List ℕ} {c : ℕ} {f : Findings} → map (λ r. r.at) w ≡ inputs → RestsOnEarlier s inputs front c → content_of (put_all s w) c ≡ content_of s c → AreFound s w front f → IsReady s w c f
is_ready {s} {w} {inputs} {front} {c} {f} put rests stays found = record {
  right = found.right;
  cells = λ d r i. found.known d ∙ rests.cells d r (put_formula s w d i) (apart d i (is_one_of inputs d) refl);
  what_ifs = λ t i. rests.what_ifs t (sym stays ∙ i);
}
  where
    apart : (d : ℕ) → has_formula (content_of (put_all s w) d) ≡ true → (b : Bool) → is_one_of inputs d ≡ b → is_one_of inputs d ≡ false
    apart d i true k = absurd (true≢false (sym i ∙ replaced_plain s w d (ap (λ (xs : List ℕ). is_one_of xs d) put ∙ k)))
    apart d i false k = k

-- ---- one cell of a plan

module _ {items ps : List Planned} (same : items ≡ ps) (i : ℕ) (x : Planned) (less : i < length items) (is : x ≡ get_or items i x) where
  pub item_of : (P : Planned → Type 0) → All P ps → P x
  item_of P h = subst P (sym is) (subst (λ (l : List Planned). All P l) (sym same) h i x less)

  pub item_planned : {s : Sheet} {inputs : List ℕ} {root : ℕ} → IsPlan s inputs root ps → MayBePlanned s inputs root (planned_cells (take i items)) x (planned_cells (drop (suc i) items))
  item_planned plan = plan (take i items) (drop (suc i) items) x (sym same ∙ split_at items i x less ∙ ap (λ (y : Planned). take i items ++ y ∷ drop (suc i) items) (sym is))

  pub one_more_item : take (i + 1) items ≡ take i items ++ x ∷ []
  one_more_item =
      let next : i + 1 ≡ suc i = omega arith in
      ap (λ (k : ℕ). take k items) next ∙ take-suc items i x less ∙ ap (λ (y : Planned). take i items ++ y ∷ []) (sym is)

-- ---- what was counted

-- what was counted for these cells of a plan: of the cases that the root demands as many are taken as values were counted
pub record IsCounted (s : Sheet) (w : List Replacement) (root : ℕ) (front : List Planned) (start now : Counts) : Type 0 where
  pub counts : NeverFall start now
  pub taken : Table
  pub only : (c : ℕ) (v : List Replacement) → taken c v ≡ true → is_one_of (planned_cells front) c ≡ true
  pub spent : (ks : List Case) → IsClosed s ks → Contains ks (case_of s w root) → SpentOn s (λ c v. false) taken start now true ks

pub counted_none : {s : Sheet} {w : List Replacement} {root : ℕ} (now : Counts) → IsCounted s w root [] now now
counted_none {s} {w} {root} now = record {
  counts = never_fall-same now;
  taken = λ c v. false;
  only = λ c v i. absurd (true≢false (sym i));
  spent = λ ks closed top. spent_none s (λ c v. false) now true ks;
}

-- one evaluation of a case that wasn't taken
counted_case : {s : Sheet} {taken more : Table} {k : Case} {now next : Counts} (ks : List Case) → CountsOne now next → ((c : ℕ) (v : List Replacement) → more c v ≡ (taken c v || same_case k (c, v))) → taken k.0 k.1 ≡ false → Contains ks k → SpentOn s taken more now next true ks
counted_case {s} {taken} {more} {k} {now} {next} ks one grows free there =
    let up = one_more_at_most now.evaluations next.evaluations (ap (λ (x : Counts). x.evaluations) one.1) in
    let none : next.restarts ≡ now.restarts = ap (λ (x : Counts). x.restarts) one.1 in
    let less = one_less_left taken more k ks grows free there in
    let fewer = left_falls (wants s) taken more ks (λ c v i. grows c v ∙ or_left (taken c v) _ i) in
    spent_all s taken more now next true ks (omega (arith, up, less), omega (arith, none, fewer))

module _ {s : Sheet} {w : List Replacement} {root : ℕ} {front : List Planned} {start now : Counts} (i : IsCounted s w root front start now) where
  -- wherever memory runs out, no more was counted than the cases cost
  pub counted_at_most : (ks : List Case) → IsClosed s ks → Contains ks (case_of s w root) → NeverFall now (plus start (price s ks))
  counted_at_most ks closed top = spent_price (i.spent ks closed top)

  -- a cell that isn't found yet isn't taken
  free_case : (c : ℕ) → is_one_of (planned_cells front) c ≡ false → (b : Bool) → i.taken c (reaching s c w) ≡ b → i.taken c (reaching s c w) ≡ false
  free_case c h true e = absurd (true≢false (sym (i.only c (reaching s c w) e) ∙ h))
  free_case c h false e = e

  -- the last one is the root's
  pub root_at_most : {next : Counts} → is_one_of (planned_cells front) root ≡ false → CountsOne now next → (ks : List Case) → IsClosed s ks → Contains ks (case_of s w root) → NeverFall next (plus start (price s ks))
  root_at_most {next} none one ks closed top =
      spent_price (spent_then (i.spent ks closed top) (counted_case {s = s} {taken = i.taken} {more = λ c v. i.taken c v || same_case (case_of s w root) (c, v)} ks one (λ c v. refl) (free_case root none (i.taken root (reaching s root w)) refl) top))

  -- with one more
  module _ {m : MemoState} {inputs back : List ℕ} {p : Planned} (may : MayBePlanned s inputs root (planned_cells front) p back) (need : IsNeeded s m w root p.at) where
    pub cells_with : (c : ℕ) → is_one_of (planned_cells (front ++ p ∷ [])) c ≡ (is_one_of (planned_cells front) c || (p.at == c))
    cells_with c =
        ap (λ (xs : List ℕ). is_one_of xs c) (map-append (λ (q : Planned). q.at) front (p ∷ []))
        ∙ list_any-append (λ x. x == c) (planned_cells front) (p.at ∷ [])
        ∙ ap (λ (b : Bool). is_one_of (planned_cells front) c || b) (or-false (p.at == c))

    -- where memory runs out once its value is there
    pub cell_at_most : {next : Counts} → CountsCell p.is_given now next → NeverFall start next × ((ks : List Case) → IsClosed s ks → Contains ks (case_of s w root) → NeverFall next (plus start (price s ks)))
    cell_at_most {next} h = at p.is_given h
      where
        at : (b : Bool) → CountsCell b now next → NeverFall start next × ((ks : List Case) → IsClosed s ks → Contains ks (case_of s w root) → NeverFall next (plus start (price s ks)))
        at true e = (rw e i.counts, λ ks closed top. rw e (counted_at_most ks closed top))
        at false one = (
          never_fall-then start now next i.counts one.0,
          λ ks closed top.
              spent_price (spent_then (i.spent ks closed top)
              (counted_case {s = s} {taken = i.taken} {more = λ c u. i.taken c u || same_case (case_of s w p.at) (c, u)} ks one (λ c u. refl) (free_case p.at may.once (i.taken p.at (reaching s p.at w)) refl) (need.demanded ks closed top))),
        )

    pub counted_more : {next : Counts} → CountsCell p.is_given now next → IsCounted s w root (front ++ p ∷ []) start next
    counted_more {next} h = at p.is_given h
      where
        only : (c : ℕ) (u : List Replacement) → (i.taken c u || same_case (case_of s w p.at) (c, u)) ≡ true → is_one_of (planned_cells (front ++ p ∷ [])) c ≡ true
        only c u k = cells_with c ∙ by (or_cases (i.taken c u) (same_case (case_of s w p.at) (c, u)) k)
          where
            by : (i.taken c u ≡ true) ⊎ (same_case (case_of s w p.at) (c, u) ≡ true) → (is_one_of (planned_cells front) c || (p.at == c)) ≡ true
            by (inl j) = or_left (is_one_of (planned_cells front) c) _ (i.only c u j)
            by (inr j) = or_right (is_one_of (planned_cells front) c) _ (and_parts (p.at == c) _ j).0

        at : (b : Bool) → CountsCell b now next → IsCounted s w root (front ++ p ∷ []) start next
        at true e = record {
          counts = rw e i.counts;
          taken = i.taken;
          only = λ c u k. cells_with c ∙ or_left (is_one_of (planned_cells front) c) _ (i.only c u k);
          spent = λ ks closed top. rw e (i.spent ks closed top);
        }
        at false one = record {
          counts = never_fall-then start now next i.counts one.0;
          taken = λ c u. i.taken c u || same_case (case_of s w p.at) (c, u);
          only = only;
          spent = λ ks closed top.
              spent_then (i.spent ks closed top)
              (counted_case {s = s} {taken = i.taken} {more = λ c u. i.taken c u || same_case (case_of s w p.at) (c, u)} ks one (λ c u. refl) (free_case p.at may.once (i.taken p.at (reaching s p.at w)) refl) (need.demanded ks closed top));
        }

-- ---- what was found

-- what is so after these cells of a plan: their values are found, and counted
pub record IsFollowing (s : Sheet) (w : List Replacement) (root : ℕ) (front : List Planned) (f : Findings) (start now : Counts) : Type 0 where
  pub found : AreFound s w (planned_cells front) f
  pub counted : IsCounted s w root front start now

pub following_none : {s : Sheet} {w : List Replacement} {root : ℕ} {f : Findings} (now : Counts) → ((c : ℕ) → found_value f c ≡ None) → found_what_ifs f ≡ [] → IsFollowing s w root [] f now now
following_none {s} {w} {root} {f} now cells what_ifs = record {
  found = record {
    right = right_none (cell_value (put_all s w)) (what_if_value (put_all s w)) f cells what_ifs;
    known = λ c. ap (λ (o : Option Value). is_some o) (cells c);
    what_ifs = what_ifs;
  };
  counted = counted_none now;
}

-- with the value of one more
module _ {s : Sheet} {m : MemoState} {w : List Replacement} {root : ℕ} {front : List Planned} {f g : Findings} {start now : Counts} {inputs back : List ℕ} {p : Planned} {v : Value}
    (i : IsFollowing s w root front f start now) (may : MayBePlanned s inputs root (planned_cells front) p back) (need : IsNeeded s m w root p.at) (more : IsWithCell f g p.at v) (is : v ≡ cell_value (put_all s w) p.at) where
  found_more : AreFound s w (planned_cells (front ++ p ∷ [])) g
  found_more = record {
    right = right_cell (cell_value (put_all s w)) (what_if_value (put_all s w)) f g p.at v more is i.found.right;
    known = λ c. ap (λ (o : Option Value). is_some o) (more.cells c) ∙ known c (p.at == c) ∙ sym (cells_with i.counted may need c);
    what_ifs = more.what_ifs ∙ i.found.what_ifs;
  }
    where
      known : (c : ℕ) (b : Bool) → is_some (cond b (Some v) (found_value f c)) ≡ (is_one_of (planned_cells front) c || b)
      known c true = sym (or_right (is_one_of (planned_cells front) c) true refl)
      known c false = i.found.known c ∙ sym (or-false (is_one_of (planned_cells front) c))

  pub following_more : {next : Counts} → CountsCell p.is_given now next → IsFollowing s w root (front ++ p ∷ []) g start next
  following_more {next} h = record { found = found_more; counted = counted_more i.counted may need h }

-- ---- the end

-- where memory runs out
pub follows_err : {s : Sheet} {w : List Replacement} {root : ℕ} {start now : Counts} (r : Result (Option Value) AllocError) → IsErr r → NeverFall start now → ((ks : List Case) → IsClosed s ks → Contains ks (case_of s w root) → NeverFall now (plus start (price s ks))) → Follows s w root start now r
follows_err (Ok o) e rises most = cc
follows_err (Err x) e rises most = record { value = tt; none = λ i. let z = i in cc; counts = rises; one = tt; at_most = most }

-- where a value that was to be given isn't there
pub follows_nothing : {s : Sheet} {w : List Replacement} {root : ℕ} (now : Counts) → Follows s w root now now (Ok None)
follows_nothing now = record { value = tt; none = λ i. refl; counts = never_fall-same now; one = tt; at_most = λ ks closed top. spent_nothing now _ }

pub more_counted : (a b c : ℕ) → a ≤ b → c ≡ one_more b → (a + 1 ≤ c) ⊎ (2 ^ 64 - 1 ≤ c)
more_counted a b c l e = at (cases_lt b (2 ^ 64 - 1))
  where
    at : (b < 2 ^ 64 - 1) ⊎ (2 ^ 64 - 1 ≤ b) → (a + 1 ≤ c) ⊎ (2 ^ 64 - 1 ≤ c)
    at (inl f) = inl (omega (arith, l, e, f))
    at (inr f) = inr (omega (arith, e, f))

-- once the root's value is there
pub follows_root : {s : Sheet} {w : List Replacement} {root : ℕ} {front : List Planned} {start now next : Counts} {v : Value} → IsCounted s w root front start now → is_one_of (planned_cells front) root ≡ false → CountsOne now next → v ≡ cell_value (put_all s w) root → Follows s w root start next (Ok (Some v))
follows_root {s} {w} {root} {front} {start} {now} {next} i none one is = record {
  value = is;
  none = λ e. let z = e in cc;
  counts = never_fall-then start now next i.counts one.0;
  one = more_counted start.evaluations now.evaluations next.evaluations i.counts.0 (ap (λ (x : Counts). x.evaluations) one.1);
  at_most = root_at_most i none one;
}

-- the root isn't one of the cells
pub root_apart : {s : Sheet} {inputs : List ℕ} {root : ℕ} {ps : List Planned} → IsPlan s inputs root ps → is_one_of (planned_cells ps) root ≡ false
root_apart {s} {inputs} {root} {ps} plan = at [] ps refl
  where
    at : (front back : List Planned) → ps ≡ front ++ back → is_one_of (planned_cells back) root ≡ false
    at front [] e = refl
    at front (p ∷ back) e = or_from (p.at == root) (is_one_of (planned_cells back) root) (plan front back p e).below (at (front ++ p ∷ []) back (e ∙ sym (append_assoc front (p ∷ []) back)))
