-- What a frame waits for is found, or a key is next.
use Rattle.wi_engine.proofs.Words.{◌≡◌, ◌==◌, ◌+◌, ◌-◌, ◌<◌, ◌≤◌, ℕ, Bool, true, false, ◌&&◌, List, [], ◌∷◌, map, get_or, All, Option, Some, inl, inr, ◌⊎◌, refl, ap, sym, ◌∙◌, subst, arith, eq-eqb, if◌then◌else◌, or_left, list_any, is_none, Vec, Value, Replacement, IsInOrder, Pair, pair_of, Sheet, content_of, put_all, has_formula, addresses, one_more, Want, Key, is_one_of, cell_value, what_if_value, Case, with_what_if, put_formula, with_what_if_value, MemoState, IsMemoOf, AsksAt, IsLacking, lacks_cell, IsWithCell, IsWithWhatIf, pairs_of, found_value, case_at, content_reads_here, MayBeRead, IsFormulaKey, IsUnvaluedFormula, IsNextFormula, IsFrame, AreReadHere, Awaits, lacks, spare, waits, FrameWaits, IsWorldWith, Findings, FoundWhatIf, Frame, Unvalued, Waiting, Nothing, Cells}
use Rattle.wi_functions.specs.declared.evaluation.Want.TheVariants as wanted
use Rattle.wi_engine.proofs.findings.FoundValues.{right_cell, right_what_if}
use Rattle.wi_engine.proofs.engine.NextCases.{may_be_read, here_in_sheet, what_if_in_sheet, replacing_reads, next_cell, next_what_if}
use Rattle.wi_engine.proofs.engine.Waits.{found_at, asked_here, some_cell, some_what_if, some_lacks, cell_falls, frame_with}

-- ---- how often a formula may still be evaluated again

pub spare_waiting : (s : Sheet) (k : Key) (f : Findings) (w : Waiting) (g : Frame) → Awaits s (case_at k) f w → waits w ≡ 1 → lacks s k f ≤ lacks s g.key g.found → g.waiting ≡ Nothing →
    (lacks s k f - waits w) + 1 ≤ spare s g
spare_waiting s k f w g a e l n =
    let some = some_lacks s k f w a in
    let z = ap waits n in
    omega (arith, some, e, l, z)

-- ---- cells

pub may_read_here : (s : Sheet) (m n : MemoState) (k : Key) (a : ℕ) → IsMemoOf s m → n ≡ m → IsFormulaKey s m k → content_reads_here (content_of (put_all s k.world) k.cell) a ≡ true → MayBeRead s n a
may_read_here s m n k a h en key r = rw en (may_be_read s m k.cell a h key.open_cell key.covered (here_in_sheet s (case_at k) a r))

pub next_here : {s : Sheet} {m n : MemoState} {a : ℕ} {u : Unvalued} (k below : Key) → n ≡ m → k ≡ below → IsUnvaluedFormula s n k.world a u → content_reads_here (content_of (put_all s k.world) k.cell) a ≡ true → IsNextFormula s m below u
next_here {s} {m} {n} {a} {u} k below en e h r =
    let same = rw en at h.unvalued in
    subst (λ (b : Key). IsNextFormula s m b u) e (record { next = next_cell s m k u.key a same r; stands = h.stands })

pub cell_found_frame : (s : Sheet) (m : MemoState) (f g : Frame) (a : ℕ) (v : Value) → IsFrame s m f → g.key ≡ f.key → g.formula.now ≡ f.formula.now → g.waiting ≡ Nothing → IsWithCell f.found g.found a v → v ≡ cell_value (put_all s f.key.world) a → IsFrame s m g
cell_found_frame s m f g a v h e t n more is =
    frame_with s m f g h e t (right_cell (cell_value (put_all s f.key.world)) (what_if_value (put_all s f.key.world)) f.found g.found a v more is h.found) (rw n tt)

pub awaits_next : (s : Sheet) (k : Case) (f : Findings) (a : ℕ) (others : Vec ℕ) → IsLacking s k.1 f (wanted.Cell a) × AreReadHere s k (a ∷ []) → AreReadHere s k others.items → Awaits s k f (Cells a others)
awaits_next s k f a others h r =
    let here = h.1 a (or_left (a == a) _ (eq-eqb a a refl)) in
    (h.0, here.0, here.1, r)

pub lacks_less : (s : Sheet) (k : Key) (f g : Findings) (a : ℕ) (v : Value) (others : Vec ℕ) → IsWithCell f g a v → Awaits s (case_at k) f (Cells a others) → lacks s k g < lacks s k f
lacks_less s k f g a v others more h =
    let less = cell_falls s k f g a v more h.0.1 h.1 h.2 in
    omega (arith, less)

-- ---- a what-if

pub may_read_what_if : (s : Sheet) (m n : MemoState) (k : Key) (f : ℕ) (pairs : Vec Pair) → IsMemoOf s m → n ≡ m → IsFormulaKey s m k → AsksAt s k.world k.cell (wanted.WhatIf f pairs) → MayBeRead s n f
may_read_what_if s m n k f pairs h en key asks = rw en (may_be_read s m k.cell f h key.open_cell key.covered (what_if_in_sheet s (case_at k) f pairs asks))

pub may_read_inputs : (s : Sheet) (m : MemoState) (k : Key) (f : ℕ) (pairs : Vec Pair) (ps : List Pair) → IsMemoOf s m → IsFormulaKey s m k → AsksAt s k.world k.cell (wanted.WhatIf f pairs) → ps ≡ pairs.items →
    All (λ p. MayBeRead s m p.replacement.at) ps
may_read_inputs s m k f pairs ps h key asks e = λ i d l.
    let here = replacing_reads s (case_at k) f pairs (get_or ps i d).replacement.at asks (ap (λ (qs : List Pair). list_any (λ p. p.1.at == (get_or ps i d).replacement.at) (map pair_of qs)) (sym e) ∙ found_at ps i d l) in
    may_be_read s m k.cell (get_or ps i d).replacement.at h key.open_cell key.covered (here_in_sheet s (case_at k) (get_or ps i d).replacement.at here)

pub next_input : (s : Sheet) (m : MemoState) (below : Key) (u : Unvalued) (f : ℕ) (pairs : Vec Pair) (ps : List Pair) → AsksAt s below.world below.cell (wanted.WhatIf f pairs) → ps ≡ pairs.items →
    (list_any (λ p. p.1.at == u.key.cell) (map pair_of ps) ≡ true) × IsUnvaluedFormula s m below.world u.key.cell u → IsNextFormula s m below u
next_input s m below u f pairs ps asks e h =
    next_here below below refl refl h.1 (replacing_reads s (case_at below) f pairs u.key.cell asks (ap (λ (qs : List Pair). list_any (λ p. p.1.at == u.key.cell) (map pair_of qs)) (sym e) ∙ h.0))

pub next_inner : (s : Sheet) (m n : MemoState) (below : Key) (u : Unvalued) (f : ℕ) (pairs : Vec Pair) (ps : List Pair) (w : List Replacement) → n ≡ m → AsksAt s below.world below.cell (wanted.WhatIf f pairs) → ps ≡ pairs.items →
    IsWorldWith s m below.world ps w → IsUnvaluedFormula s n w f u → IsNextFormula s m below u
next_inner s m n below u f pairs ps w en asks e put h =
    let same = rw en at h.unvalued in
    record { next = next_what_if s m below u.key f pairs w same asks (put.world ∙ ap (λ (qs : List Pair). with_what_if s below.world (map addresses (map pair_of qs))) e); stands = h.stands }

pub what_if_right : (s : Sheet) (v w : List Replacement) (f : ℕ) (pairs ps : List Pair) (x : Value) → IsInOrder w → ps ≡ pairs → v ≡ with_what_if s w (map addresses (map pair_of ps)) → x ≡ cell_value (put_all s v) f →
    x ≡ what_if_value (put_all s w) f (map addresses (map pair_of pairs))
what_if_right s v w f pairs ps x o e is h =
    h ∙ ap (λ (u : List Replacement). cell_value (put_all s u) f) (is ∙ ap (λ (qs : List Pair). with_what_if s w (map addresses (map pair_of qs))) e) ∙ with_what_if_value s w f (map addresses (map pair_of pairs)) o

pub what_if_found_frame : (s : Sheet) (m : MemoState) (f g : Frame) (x : FoundWhatIf) → IsFrame s m f → g.key ≡ f.key → g.formula.now ≡ f.formula.now → g.waiting ≡ Nothing → IsWithWhatIf f.found g.found x →
    x.value ≡ what_if_value (put_all s f.key.world) x.at (pairs_of x) → IsFrame s m g
what_if_found_frame s m f g x h e t n more is =
    frame_with s m f g h e t (right_what_if (cell_value (put_all s f.key.world)) (what_if_value (put_all s f.key.world)) f.found g.found x more is h.found) (rw n tt)

-- ---- an evaluation that lacks a value

pub one_more_at_most : (n m : ℕ) → m ≡ one_more n → m ≤ n + 1
one_more_at_most n m e = omega (arith, e)

pub want_lacks : (s : Sheet) (k : Key) (f : Findings) (want : Want) → AsksAt s k.world k.cell want → IsLacking s k.world f want → 1 ≤ lacks s k f
want_lacks s k f (wanted.Cell a) h l =
    some_cell s k f a l.1 (asked_here s k a h) (put_formula s k.world a l.0)
want_lacks s k f (wanted.WhatIf a pairs) h l = some_what_if s k f a pairs l h

-- the same frame, which waits for what it lacks
module _ (s : Sheet) (f h : Frame) (w : FrameWaits s f h true) where
  pub frame_waits : (m : MemoState) → IsFrame s m f → IsFrame s m h
  frame_waits m is = frame_with s m f h is w.key w.formula (rw w.found is.found) (rw w.found (w.awaits refl))

  pub spare_falls : waits h.waiting ≡ 1 → f.waiting ≡ Nothing → spare s h + 1 ≤ spare s f
  spare_falls one n =
      let less = spare_waiting s f.key f.found h.waiting f (w.awaits refl) one (omega arith) n in
      let same : lacks s h.key h.found ≡ lacks s f.key f.found = ap (λ (x : Key). lacks s x h.found) w.key ∙ ap (lacks s f.key) w.found in
      omega (arith, less, same)

-- of some cells none is lacked but those that are left and the next one, once the value of the one before was found
pub lacked_next : (s : Sheet) (w : List Replacement) (f g : Findings) (a next : ℕ) (v : Value) (all others rest : List ℕ) → IsWithCell f g a v →
    ((d : ℕ) → is_one_of all d ≡ true → lacks_cell s w f d ≡ true → (is_one_of others d ≡ true) ⊎ (d ≡ a)) →
    ((d : ℕ) → is_one_of others d ≡ true → lacks_cell s w g d ≡ true → (is_one_of rest d ≡ true) ⊎ (d ≡ next)) →
    (d : ℕ) → is_one_of all d ≡ true → lacks_cell s w g d ≡ true → (is_one_of rest d ≡ true) ⊎ (d ≡ next)
lacked_next s w f g a next v all others rest k before passed d i l = at (a == d) refl (k.cells d)
  where
    formula : Bool
    formula = has_formula (content_of (put_all s w) d)

    found : (b : Bool) → (b && is_none (Some v)) ≡ true → ⊥
    found true e = let z = e in cc
    found false e = let z = e in cc

    left : (is_one_of others d ≡ true) ⊎ (d ≡ a) → (a == d) ≡ false → (is_one_of rest d ≡ true) ⊎ (d ≡ next)
    left (inl m) n = passed d m l
    left (inr e) n = absurd (let z = sym (eq-eqb a d (sym e)) ∙ n in cc)

    at : (b : Bool) → (a == d) ≡ b → found_value g d ≡ (if b then Some v else found_value f d) → (is_one_of rest d ≡ true) ⊎ (d ≡ next)
    at true n e = absurd (found formula (sym (ap (λ (o : Option Value). formula && is_none o) e) ∙ l))
    at false n e = left (before d i (sym (ap (λ (o : Option Value). formula && is_none o) e) ∙ l)) n
