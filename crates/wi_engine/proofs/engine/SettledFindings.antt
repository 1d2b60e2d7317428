-- What is found for a formula is settled, and so its value rests on kept ones.
use Rattle.wi_engine.proofs.Words.{◌≡◌, ◌⊎◌, inl, inr, ℕ, Bool, true, false, cond, List, [], Option, Some, None, IfSome, All, Contains, map, is_some, refl, ap, sym, ◌∙◌, subst, or_cases, All-map, Value, Replacement, Tree, reads, Sheet, content_of, put_all, has_formula, pair_of, Content, Constant, Formula, Pair, Assignment, AgreesWith, meaning, addresses, Key, cell_value, what_if_value, reaching, with_what_if, what_ifs_of, IsSettled, IsWhatIfSettled, AgreesWhereSettled, RestsOnKept, contains_in, same_tree, meaning_same, pairs_of, found_value, found_what_ifs, what_if_found, AreAllRight, IsWithCell, IsWithWhatIf, AsksAt, known_in, cell_known, AreFoundSettled, IsFrameSettled, HasOneMeaning, MemoState, IsMemoOf, KeepsFound, NeedsNoEvaluation, case_at, Frame, Findings, FoundWhatIf, settled_more, what_if_more}
use Rattle.wi_functions.specs.declared.evaluation.Want.TheVariants as wanted
use Rattle.wi_engine.proofs.engine.NextCases.{asked_in}
use Rattle.wi_engine.proofs.attempt.KnownValues.{known_agrees, values_in}
use Rattle.wi_engine.proofs.findings.FoundValues.{cells_none, cells_same, cells_more, what_ifs_none, what_ifs_same, what_ifs_more}

-- ---- a value that was found by what is settled rests on it

-- the values of another assignment in what a tree reads, and those of the sheet elsewhere
abbrev mixed : Sheet → Tree → Assignment → Assignment
mixed s t a = record { cells = λ d. cond (reads t d) (a.cells d) (cell_value s d); what_ifs = a.what_ifs }

same_meaning : (s : Sheet) (t : Tree) (a : Assignment) → meaning t (mixed s t a).cells (mixed s t a).what_ifs ≡ meaning t a.cells a.what_ifs
same_meaning s t a = meaning_same t (mixed s t a).cells a.cells a.what_ifs a.what_ifs (λ d r. ap (λ (b : Bool). cond b (a.cells d) (cell_value s d)) r) (λ f ps i. refl)

plain_in : (o : Option Content) (found : Option Value) (v : Value) → known_in o found ≡ Some v → (has_formula o ≡ false) ⊎ (found ≡ Some v)
plain_in None found v h = inl refl
plain_in (Some (Constant x)) found v h = inl refl
plain_in (Some (Formula t)) found v h = inr h

settled_known : (s : Sheet) (kept : ℕ → List Replacement → Bool) (w : List Replacement) (t : Tree) (f : Findings) (d : ℕ) (v : Value) → AreFoundSettled s kept w t f → cell_known s w f d ≡ Some v → IsSettled s kept w d
settled_known s kept w t f d v h e = at (plain_in (content_of (put_all s w) d) (found_value f d) v e)
  where
    at : (has_formula (content_of (put_all s w) d) ≡ false) ⊎ (found_value f d ≡ Some v) → IsSettled s kept w d
    at (inl k) = inl k
    at (inr k) = subst (λ (o : Option Value). IfSome o (λ x. IsSettled s kept w d)) k (h.cells d)

mixed_agrees : (s : Sheet) (kept : ℕ → List Replacement → Bool) (w : List Replacement) (t : Tree) (f : Findings) (a : Assignment) → AreAllRight (cell_value (put_all s w)) (what_if_value (put_all s w)) f → AreFoundSettled s kept w t f →
    AgreesWhereSettled s kept w t a → AgreesWith (cell_known s w f) (what_if_found f) (mixed (put_all s w) t a)
mixed_agrees s kept w t f a r h g = record {
  cells = λ d. cell d (cell_known s w f d) refl ((known_agrees s w f r).cells d);
  what_ifs = λ c ps. what c ps (what_if_found f c ps) (r.what_ifs c ps) (h.what_ifs c ps);
}
  where
    read : (d : ℕ) (v : Value) → cell_known s w f d ≡ Some v → v ≡ cell_value (put_all s w) d → (b : Bool) → reads t d ≡ b → v ≡ cond b (a.cells d) (cell_value (put_all s w) d)
    read d v e is true i = is ∙ sym (g.cells d i (settled_known s kept w t f d v h e))
    read d v e is false i = is

    cell : (d : ℕ) (o : Option Value) → cell_known s w f d ≡ o → IfSome o (λ v. v ≡ cell_value (put_all s w) d) → IfSome o (λ v. v ≡ cond (reads t d) (a.cells d) (cell_value (put_all s w) d))
    cell d None e is = tt
    cell d (Some v) e is = read d v e is (reads t d) refl

    what : (c : ℕ) (ps : List (ℕ × ℕ)) (o : Option Value) → IfSome o (λ v. v ≡ what_if_value (put_all s w) c ps) → IfSome o (λ v. Contains (what_ifs_of t) (c, ps) × IsWhatIfSettled s kept w (c, ps)) → IfSome o (λ v. v ≡ a.what_ifs c ps)
    what c ps None is k = tt
    what c ps (Some v) is k = is ∙ sym (g.what_ifs c ps k.0 k.1)

pub done_rests : (s : Sheet) (kept : ℕ → List Replacement → Bool) (w : List Replacement) (c : ℕ) (t : Tree) (f : Findings) → content_of (put_all s w) c ≡ Some (Formula t) → AreAllRight (cell_value (put_all s w)) (what_if_value (put_all s w)) f → AreFoundSettled s kept w t f →
    HasOneMeaning s w c f → RestsOnKept s kept (c, w)
done_rests s kept w c t f is r h one u a i g =
    let same = same_tree t u (content_of (put_all s w) c) is i in
    let here : AgreesWhereSettled s kept w t a = subst (λ (x : Tree). AgreesWhereSettled s kept w x a) (sym same) g in
    let own = values_in (put_all s w) in
    let meant = sym (same_meaning (put_all s w) t a) ∙ one t (mixed (put_all s w) t a) own is (mixed_agrees s kept w t f a r h here) (known_agrees s w f r) in
    subst (λ (x : Tree). meaning x a.cells a.what_ifs ≡ meaning x own.cells own.what_ifs) same meant

-- ---- with more that is kept, what was found is settled still

module _ (s : Sheet) (kept more : ℕ → List Replacement → Bool) (grows : (c : ℕ) (w : List Replacement) → kept c w ≡ true → more c w ≡ true) where
  pub found_more : (w : List Replacement) (t : Tree) (f : Findings) → AreFoundSettled s kept w t f → AreFoundSettled s more w t f
  found_more w t f h = record { cells = λ d. cell d (found_value f d) (h.cells d); what_ifs = λ c ps. what c ps (what_if_found f c ps) (h.what_ifs c ps) }
    where
      cell : (d : ℕ) (o : Option Value) → IfSome o (λ v. IsSettled s kept w d) → IfSome o (λ v. IsSettled s more w d)
      cell d None k = tt
      cell d (Some v) k = settled_more s kept more grows w d k

      what : (c : ℕ) (ps : List (ℕ × ℕ)) (o : Option Value) → IfSome o (λ v. Contains (what_ifs_of t) (c, ps) × IsWhatIfSettled s kept w (c, ps)) → IfSome o (λ v. Contains (what_ifs_of t) (c, ps) × IsWhatIfSettled s more w (c, ps))
      what c ps None k = tt
      what c ps (Some v) k = (k.0, what_if_more s kept more grows w (c, ps) k.1)

-- ---- with one value more

module _ (s : Sheet) (kept : ℕ → List Replacement → Bool) (w : List Replacement) (t : Tree) where
  abbrev IsCell : ℕ → Value → Type 0
  IsCell c v = IsSettled s kept w c

  abbrev IsWhatIf : ℕ → List (ℕ × ℕ) → Value → Type 0
  IsWhatIf c ps v = Contains (what_ifs_of t) (c, ps) × IsWhatIfSettled s kept w (c, ps)

  pub settled_none : (f : Findings) → ((c : ℕ) → found_value f c ≡ None) → found_what_ifs f ≡ [] → AreFoundSettled s kept w t f
  settled_none f e h = record { cells = cells_none IsCell f e; what_ifs = what_ifs_none IsWhatIf f h }

  pub settled_cell : (f g : Findings) (a : ℕ) (v : Value) → IsWithCell f g a v → IsSettled s kept w a → AreFoundSettled s kept w t f → AreFoundSettled s kept w t g
  settled_cell f g a v more e r = record { cells = cells_more IsCell f g a v more e r.cells; what_ifs = what_ifs_same IsWhatIf f g more.what_ifs r.what_ifs }

  pub settled_what_if : (f g : Findings) (x : FoundWhatIf) → IsWithWhatIf f g x → Contains (what_ifs_of t) (x.at, pairs_of x) → IsWhatIfSettled s kept w (x.at, pairs_of x) → AreFoundSettled s kept w t f → AreFoundSettled s kept w t g
  settled_what_if f g x more i e r = record { cells = cells_same IsCell f g more.cells r.cells; what_ifs = what_ifs_more IsWhatIf f g x more.what_ifs (i, e) r.what_ifs }

-- ---- in a frame

pub settled_now : (s : Sheet) (m n : MemoState) (w : List Replacement) (a : ℕ) → IsMemoOf s m → n ≡ m → KeepsFound m → NeedsNoEvaluation s n w a → IsSettled s m.kept w a
settled_now s m n w a h e whole (inl k) = inl k
settled_now s m n w a h e whole (inr k) = inr (at (or_cases (m.found a (reaching s a w)) (m.kept a (reaching s a w)) (sym (h.complete a (reaching s a w)) ∙ ap (λ (x : MemoState). is_some (x.known a (reaching s a w))) (sym e) ∙ k)))
  where
    at : (m.found a (reaching s a w) ≡ true) ⊎ (m.kept a (reaching s a w) ≡ true) → m.kept a (reaching s a w) ≡ true
    at (inl j) = whole a (reaching s a w) j
    at (inr j) = j

pub frame_cell : (s : Sheet) (kept : ℕ → List Replacement → Bool) (f : Frame) (g : Findings) (a : ℕ) (v : Value) → IsWithCell f.found g a v → IsSettled s kept f.key.world a → IsFrameSettled s kept f →
    (t : Tree) → content_of (put_all s f.key.world) f.key.cell ≡ Some (Formula t) → AreFoundSettled s kept f.key.world t g
frame_cell s kept f g a v more i h t k = settled_cell s kept f.key.world t f.found g a v more i (h t k)

inputs_settled : (s : Sheet) (kept : ℕ → List Replacement → Bool) (w : List Replacement) (ps : List Pair) → All (λ p. IsSettled s kept w p.replacement.at) ps → All (λ p. IsSettled s kept w p.1) (map addresses (map pair_of ps))
inputs_settled s kept w ps h = All-map (λ p. IsSettled s kept w p.1) addresses (map pair_of ps) (All-map (λ p. IsSettled s kept w (addresses p).1) pair_of ps h)

pub frame_what_if : (s : Sheet) (kept : ℕ → List Replacement → Bool) (f : Frame) (g : Findings) (x : FoundWhatIf) (world : List Replacement) (ps : List Pair) → IsWithWhatIf f.found g x → AsksAt s f.key.world f.key.cell (wanted.WhatIf x.at x.pairs) → ps ≡ x.pairs.items →
    world ≡ with_what_if s f.key.world (map addresses (map pair_of ps)) → All (λ p. IsSettled s kept f.key.world p.replacement.at) ps → IsSettled s kept world x.at → IsFrameSettled s kept f →
    (t : Tree) → content_of (put_all s f.key.world) f.key.cell ≡ Some (Formula t) → AreFoundSettled s kept f.key.world t g
frame_what_if s kept f g x world ps more asks ep ew inputs inner h t k =
    let same = same_tree asks.tree t (content_of (put_all s f.key.world) f.key.cell) asks.is k in
    let there : Contains (what_ifs_of t) (x.at, pairs_of x) = subst (λ (u : Tree). Contains (what_ifs_of u) (x.at, pairs_of x)) same (contains_in (what_ifs_of asks.tree) (x.at, pairs_of x) (asked_in asks.tree x.at x.pairs asks.asks)) in
    let all : All (λ p. IsSettled s kept f.key.world p.1) (pairs_of x) = inputs_settled s kept f.key.world x.pairs.items (subst (λ (qs : List Pair). All (λ p. IsSettled s kept f.key.world p.replacement.at) qs) ep inputs) in
    let under : world ≡ with_what_if s f.key.world (pairs_of x) = ew ∙ ap (λ (qs : List Pair). with_what_if s f.key.world (map addresses (map pair_of qs))) ep in
    let cell : IsSettled s kept (with_what_if s f.key.world (pairs_of x)) x.at = subst (λ (v : List Replacement). IsSettled s kept v x.at) under inner in
    settled_what_if s kept f.key.world t f.found g x more there (record { replacing = all; formula_cell = cell }) (h t k)

-- a frame that is done rests on kept values
pub done_settled : (s : Sheet) (m : MemoState) (f h : Frame) → h.key ≡ f.key → AreAllRight (cell_value (put_all s h.key.world)) (what_if_value (put_all s h.key.world)) h.found → HasOneMeaning s h.key.world h.key.cell h.found →
    (KeepsFound m → IsFrameSettled s m.kept f → IsFrameSettled s m.kept h) → KeepsFound m → IsFrameSettled s m.kept f → RestsOnKept s m.kept (case_at f.key)
done_settled s m f h e r one grows whole k =
    subst (λ (x : Key). RestsOnKept s m.kept (case_at x)) e (λ t a i g. done_rests s m.kept h.key.world h.key.cell t h.found i r (grows whole k t i) one t a i g)

-- the same values, found for the same frame
abbrev pub IsSettledFor : Sheet → (ℕ → List Replacement → Bool) → Key → Findings → Type 0
IsSettledFor s kept k f = (t : Tree) → content_of (put_all s k.world) k.cell ≡ Some (Formula t) → AreFoundSettled s kept k.world t f

pub settled_again : (s : Sheet) (kept : ℕ → List Replacement → Bool) (f h : Frame) → h.key ≡ f.key → h.found ≡ f.found → IsFrameSettled s kept f → IsFrameSettled s kept h
settled_again s kept f h k e is =
    subst (λ (x : Key). IsSettledFor s kept x h.found) (sym k) (subst (λ (x : Findings). IsSettledFor s kept f.key x) (sym e) is)
