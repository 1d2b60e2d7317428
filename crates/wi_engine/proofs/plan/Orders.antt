-- The cells of a plan are demanded by the root, and may be read.
use Rattle.wi_engine.proofs.Words.{◌≡◌, ◌==◌, inl, inr, ◌⊎◌, ◌||◌, ℕ, Bool, true, false, cond, List, [], ◌∷◌, ◌++◌, map, Option, Some, All, All-nil, All-cons, All-head, All-tail, refl, ap, sym, ◌∙◌, subst, append_assoc, list_any, or_parts, or_cases, true≢false, arith, nat_tests, Value, Replacement, Sheet, constant, content_of, put_all, has_formula, content_reads, Content, plain, put_formula, circular, reads_not_circular, reaches, reaches_read, reaching_below, content_below, is_one_of, Case, case_of, reaching, RestsOn, MemoState, IsMemoOf, MayBeRead, IsDemanded, content_reads_here}
use Rattle.wi_parser.specs.Inner.Puts.{put}
use Rattle.wi_sheet.proofs.Puts.{overlaid, content_of-put, content_of-put_all}
use Rattle.wi_engine.specs.declared.plan.Plan.{Plan}
use Rattle.wi_engine.specs.declared.plan.Planned.{Planned}
use Rattle.wi_engine.specs.Inner.Plans.{IsNeeded, IsPlan, MayBeFollowed, MayBePlanned, planned_cells}
use Rattle.wi_engine.proofs.engine.NextCases.{rests_cell, here_in_sheet}

-- ---- what replacements leave alone

-- a formula that is there under replacements isn't replaced
pub stays_formula : (s : Sheet) (w : List Replacement) (c : ℕ) → has_formula (content_of (put_all s w) c) ≡ true → content_of (put_all s w) c ≡ content_of s c
stays_formula s [] c h = refl
stays_formula s (r ∷ rs) c h =
    let first = content_of-put s r.at r.value c in
    stays_formula (put s r.at r.value) rs c h ∙ first ∙ at (c == r.at) (ap has_formula (sym first) ∙ put_formula (put s r.at r.value) rs c h)
  where
    at : (b : Bool) → has_formula (cond b (constant r.value) (content_of s c)) ≡ true → cond b (constant r.value) (content_of s c) ≡ content_of s c
    at true k = absurd (true≢false (sym k ∙ plain r.value))
    at false k = refl

-- a cell that isn't replaced has what stands there
untouched : (w : List Replacement) (c : ℕ) (o : Option Content) → is_one_of (map (λ r. r.at) w) c ≡ false → overlaid w c o ≡ o
untouched [] c o h = refl
untouched (r ∷ rs) c o h = at (c == r.at) refl (or_parts (r.at == c) _ h) (λ k. untouched rs c o k)
  where
    at : (b : Bool) → (c == r.at) ≡ b → ((r.at == c) ≡ false) × (is_one_of (map (λ x. x.at) rs) c ≡ false) → (is_one_of (map (λ x. x.at) rs) c ≡ false → overlaid rs c o ≡ o) → overlaid rs c (cond b (constant r.value) o) ≡ o
    at true e k ih = let z = k.0 in grind (arith, nat_tests)
    at false e k ih = ih k.1

pub stays_there : (s : Sheet) (w : List Replacement) (c : ℕ) → is_one_of (map (λ r. r.at) w) c ≡ false → content_of (put_all s w) c ≡ content_of s c
stays_there s w c h = content_of-put_all s w c ∙ untouched w c (content_of s c) h

-- ---- one cell after another, from the last

-- a cell whose value the root demands, with what stands there under the replacements of cells that it reaches
record IsReader (s : Sheet) (m : MemoState) (w : List Replacement) (root c : ℕ) : Type 0 where
  same : content_of (put_all s (reaching s c w)) c ≡ content_of s c
  needed : IsNeeded s m w root c

-- one of these cells passes a test
among : (P : ℕ → Type 0) (T : ℕ → Bool) (ps : List Planned) → All (λ q. P q.at) ps → list_any T (planned_cells ps) ≡ true → (d : ℕ) × (T d ≡ true) × P d
among P T [] h e = cc
among P T (p ∷ ps) h e = at (T p.at) refl e (among P T ps (All-tail (λ q. P q.at) p ps h))
  where
    at : (b : Bool) → T p.at ≡ b → (b || list_any T (planned_cells ps)) ≡ true → (list_any T (planned_cells ps) ≡ true → (d : ℕ) × (T d ≡ true) × P d) → (d : ℕ) × (T d ≡ true) × P d
    at true k i ih = (p.at, k, All-head (λ q. P q.at) p ps h)
    at false k i ih = ih i

module _ {s : Sheet} {m : MemoState} {w : List Replacement} {root : ℕ} (h : IsMemoOf s m) (read : MayBeRead s m root) (form : has_formula (content_of (put_all s w) root) ≡ true) where
  root_reader : IsReader s m w root root
  root_reader = record {
    same = content_below s root w ∙ stays_formula s w root form;
    needed = record { formula = form; demanded = λ ks closed top. top; readable = read };
  }

  -- what a cell reads that isn't replaced is needed where the cell is
  reader_below : (d c : ℕ) → IsReader s m w root d → content_reads_here (content_of s d) c ≡ true → has_formula (content_of s c) ≡ true → content_of (put_all s w) c ≡ content_of s c → IsReader s m w root c
  reader_below d c i r f e =
      let here : content_reads_here (content_of (put_all s (reaching s d w)) d) c ≡ true = ap (λ (o : Option Content). content_reads_here o c) i.same ∙ r in
      let reads : content_reads (content_of s d) c ≡ true = here_in_sheet s (case_of s w d) c here in
      let same : content_of (put_all s (reaching s c w)) c ≡ content_of s c = content_below s c w ∙ e in
      let worlds : reaching s c (reaching s d w) ≡ reaching s c w = reaching_below s d c w (reaches_read s d c reads) in
      let there : has_formula (content_of (put_all s (reaching s c (reaching s d w))) c) ≡ true = ap (λ (v : List Replacement). has_formula (content_of (put_all s v) c)) worlds ∙ ap has_formula same ∙ f in
      let rests : RestsOn s (case_of s w d) (case_of s w c) = subst (λ (v : List Replacement). RestsOn s (case_of s w d) (c, v)) worlds (rests_cell s (case_of s w d) c here there) in
      record {
        same = same;
        needed = record {
          formula = ap has_formula e ∙ f;
          demanded = λ ks closed top. closed (case_of s w d) (case_of s w c) (i.needed.demanded ks closed top) rests;
          readable = record {
            open_cell = reads_not_circular s d c reads i.needed.readable.open_cell;
            covered = λ k. h.closed d c (i.needed.readable.covered (put_formula s w d i.needed.formula)) reads k;
          };
        };
      }

  module _ {inputs : List ℕ} {ps : List Planned} (plan : IsPlan s inputs root ps) (put : map (λ r. r.at) w ≡ inputs) where
    next_reader : (front back : List Planned) (q : Planned) → ps ≡ front ++ q ∷ back → All (λ x. IsReader s m w root x.at) back → IsReader s m w root q.at
    next_reader front back q e behind = at (or_cases (content_reads_here (content_of s root) q.at) (list_any (λ d. content_reads_here (content_of s d) q.at) (planned_cells back)) p.read)
      where
        p : MayBePlanned s inputs root (planned_cells front) q (planned_cells back)
        p = plan front back q e

        stays : content_of (put_all s w) q.at ≡ content_of s q.at
        stays = stays_there s w q.at (ap (λ (xs : List ℕ). is_one_of xs q.at) put ∙ p.kept)

        at : (content_reads_here (content_of s root) q.at ≡ true) ⊎ (list_any (λ d. content_reads_here (content_of s d) q.at) (planned_cells back) ≡ true) → IsReader s m w root q.at
        at (inl k) = reader_below root q.at root_reader k p.formula stays
        at (inr k) =
            let one = among (λ c. IsReader s m w root c) (λ d. content_reads_here (content_of s d) q.at) back behind k in
            reader_below one.0 q.at one.2 one.1 p.formula stays

    readers : (front back : List Planned) → ps ≡ front ++ back → All (λ x. IsReader s m w root x.at) back
    readers front [] e = All-nil (λ x. IsReader s m w root x.at)
    readers front (q ∷ back) e =
        let behind = readers (front ++ q ∷ []) back (e ∙ sym (append_assoc front (q ∷ []) back)) in
        All-cons (λ x. IsReader s m w root x.at) q back (next_reader front back q e behind) behind

    -- all are needed
    all_needed : All (λ x. IsNeeded s m w root x.at) ps
    all_needed = λ i d l. (readers [] ps refl i d l).needed

-- all cells of a plan that may be followed are needed
pub followed_needed : {s : Sheet} {m : MemoState} {w : List Replacement} {p : Plan} → MayBeFollowed s m w p → has_formula (content_of (put_all s w) p.root) ≡ true → All (λ x. IsNeeded s m w p.root x.at) p.cells.items
followed_needed h form = all_needed h.memo h.read form h.plan.cells h.inputs
