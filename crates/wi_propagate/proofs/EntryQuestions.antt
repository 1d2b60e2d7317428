-- An entry of a data table that is asked for: which cells may be read, and what is kept for longer.
use Rattle.wi_propagate.proofs.Words.{◌≡◌, ◌==◌, ◌<◌, ◌+◌, ◌||◌, ℕ, zero, suc, Bool, true, false, List, [], ◌∷◌, map, take, get_or, length, All, refl, sym, ap, ◌∙◌, subst, arith, eq-eqb, or_left, or_right, All-more, list_any, Replacement, Sheet, content_of, has_formula, Counts, circular, is_one_of, Case, case_of, same_case, one_less_left, with_what_if, IsSettled, IsWhatIfSettled, HasCase, HasReplacing, HasEntry, all_more, test_of_cells, cells_open, MemoState, IsMemoOf, MayBeAsked, MayBeRead, OneQuestion, remembered, question_state, WhereSpace, IsUnkept, Saved, Spends, SpendsAtMost, at_most_weaken, spends_at_most, where_then}

-- ---- the cells whose values it asks for

replacing_cell_read : (pairs : List (ℕ × ℕ)) (i : ℕ) (x : ℕ × ℕ) → i < length pairs → is_one_of (map (λ p. p.1) pairs) (get_or pairs i x).1 ≡ true
replacing_cell_read [] i x less = absurd (omega arith)
replacing_cell_read (p ∷ ps) zero x less = or_left (p.1 == p.1) (is_one_of (map (λ q. q.1) ps) p.1) (eq-eqb p.1 p.1 refl)
replacing_cell_read (p ∷ ps) (suc i) x less = or_right (p.1 == (get_or ps i x).1) (is_one_of (map (λ q. q.1) ps) (get_or ps i x).1) (replacing_cell_read ps i x (omega arith))

-- the cells whose values an entry asks for, none of which is circular
module _ (s : Sheet) (f : ℕ) (pairs : List (ℕ × ℕ)) (cells : List ℕ) (edited_at : cells ≡ f ∷ map (λ p. p.1) pairs) (clear : list_any (circular s) cells ≡ false) where
  -- none of them is
  pub open_cells_of : (circular s f ≡ false) × All (λ x. circular s x.1 ≡ false) pairs
  open_cells_of = cells_open s f pairs (test_of_cells s f pairs cells edited_at ∙ clear)

  -- its replacement cells may be valued, where keys are made for all cells with a formula among them
  replacing_readable : (order : List ℕ) (q : OneQuestion) → q ≡ remembered s order [] → ((c : ℕ) → is_one_of cells c ≡ true → has_formula (content_of s c) ≡ true → is_one_of order c ≡ true) →
      All (λ x. MayBeRead s (question_state q) x.1) pairs
  replacing_readable order q e roots = λ i x less.
      let c = (get_or pairs i x).1 in
      let read = or_right (f == c) (is_one_of (map (λ p. p.1) pairs) c) (replacing_cell_read pairs i x less) in
      record {
        open_cell = open_cells_of.1 i x less;
        covered = λ h. ap (λ (y : OneQuestion). is_one_of y.cells c) e ∙ roots c (ap (λ (xs : List ℕ). is_one_of xs c) edited_at ∙ read) h;
      }

  -- and so may its formula cell
  formula_cell_readable : (order : List ℕ) (q : OneQuestion) → q ≡ remembered s order [] → ((c : ℕ) → is_one_of cells c ≡ true → has_formula (content_of s c) ≡ true → is_one_of order c ≡ true) → MayBeRead s (question_state q) f
  formula_cell_readable order q e roots =
      let read = or_left (f == f) (is_one_of (map (λ p. p.1) pairs) f) (eq-eqb f f refl) in
      record {
        open_cell = open_cells_of.0;
        covered = λ h. ap (λ (y : OneQuestion). is_one_of y.cells f) e ∙ roots f (ap (λ (xs : List ℕ). is_one_of xs f) edited_at ∙ read) h;
      }

  -- so that the entry may be asked for
  pub readable_entry : (order : List ℕ) (q : OneQuestion) → q ≡ remembered s order [] → ((c : ℕ) → is_one_of cells c ≡ true → has_formula (content_of s c) ≡ true → is_one_of order c ≡ true) → IsMemoOf s (question_state q) → MayBeAsked s (question_state q) f pairs
  readable_entry order q e roots memo = record { memo = memo; formula_cell = formula_cell_readable order q e roots; replacing = replacing_readable order q e roots }

-- ---- one replacement cell more

pub has_pair : (s : Sheet) (w : List Replacement) (pairs : List (ℕ × ℕ)) (i : ℕ) (x : ℕ × ℕ) → i < length pairs → x ≡ get_or pairs i x → (ks : List Case) → HasReplacing s w pairs ks → HasCase s w x.1 ks
has_pair s w pairs i x less is ks h = subst (λ (p : ℕ × ℕ). HasCase s w p.1 ks) (sym is) (h i x less)

module _ (s : Sheet) (w : List Replacement) (pairs : List (ℕ × ℕ)) (i : ℕ) (x : ℕ × ℕ) (less : i < length pairs) (is : x ≡ get_or pairs i x) (old mid new : MemoState) (a b c : Counts)
    (h : Spends s (HasReplacing s w pairs) old mid a b true) (k : Spends s (HasCase s w x.1) mid new b c true) where
  pub more_settled : WhereSpace s (HasReplacing s w pairs) old (λ ks. All (λ p. IsSettled s mid.kept w p.1) (take i pairs)) → WhereSpace s (HasCase s w x.1) mid (λ ks. IsSettled s new.kept w x.1) →
      WhereSpace s (HasReplacing s w pairs) old (λ ks. All (λ p. IsSettled s new.kept w p.1) (take (i + 1) pairs))
  more_settled before there = λ ks closed top whole space.
      let stays = (where_then (λ qs q. q) (has_pair s w pairs i x less is) h {P = λ qs. Saved s mid new b c qs} (k.saved refl) ks closed top whole space).stays in
      let one = where_then (λ qs q. q) (has_pair s w pairs i x less is) h {P = λ qs. IsSettled s new.kept w x.1} there ks closed top whole space in
      let P : ℕ × ℕ → Type 0 = λ p. IsSettled s new.kept w p.1 in
      All-more P pairs i x less (all_more s mid.kept new.kept stays w (take i pairs) (before ks closed top whole space)) (subst P is one)

-- ---- the formula cell

pub has_formula_cell : (s : Sheet) (w : List Replacement) (f : ℕ) (pairs : List (ℕ × ℕ)) (r : List Replacement) → r ≡ with_what_if s w pairs → (ks : List Case) → HasEntry s w f pairs ks → HasCase s r f ks
has_formula_cell s w f pairs r is ks h = subst (λ (v : List Replacement). HasCase s v f ks) (sym is) h.1

module _ (s : Sheet) (w : List Replacement) (f : ℕ) (pairs : List (ℕ × ℕ)) (r : List Replacement) (is : r ≡ with_what_if s w pairs) (old mid new : MemoState) (a b c : Counts)
    (h : Spends s (HasReplacing s w pairs) old mid a b true) (k : Spends s (HasCase s r f) mid new b c true) where
  pub entry_settled : WhereSpace s (HasReplacing s w pairs) old (λ ks. All (λ p. IsSettled s mid.kept w p.1) pairs) → WhereSpace s (HasCase s r f) mid (λ ks. IsSettled s new.kept r f) →
      WhereSpace s (HasEntry s w f pairs) old (λ ks. IsWhatIfSettled s new.kept w (f, pairs))
  entry_settled before there = λ ks closed top whole space.
      let stays = (where_then (λ qs (q : HasEntry s w f pairs qs). q.0) (has_formula_cell s w f pairs r is) h {P = λ qs. Saved s mid new b c qs} (k.saved refl) ks closed top whole space).stays in
      let one = where_then (λ qs (q : HasEntry s w f pairs qs). q.0) (has_formula_cell s w f pairs r is) h {P = λ qs. IsSettled s new.kept r f} there ks closed top whole space in
      record {
        replacing = all_more s mid.kept new.kept stays w pairs (before ks closed top.0 whole space);
        formula_cell = subst (λ (v : List Replacement). IsSettled s new.kept v f) is one;
      }

-- ---- an entry by a plan

-- what a question spends from the same beginning
pub spends_from : {s : Sheet} {Has : List Case → Type 0} {m old new : MemoState} {a b c : Counts} {done : Bool} → m ≡ old → a ≡ b → Spends s Has m new a c done → SpendsAtMost s Has old new b c done
spends_from {s} {Has} {m} {old} {new} {a} {b} {c} {done} em ea h = at_most_weaken em (λ ks top. top) (subst (λ (x : Counts). SpendsAtMost s Has m new x c done) ea (spends_at_most h))

module _ (s : Sheet) (w : List Replacement) (f : ℕ) (pairs : List (ℕ × ℕ)) where
  -- what its formula cell spends, the entry spends
  pub entry_spends : {root : ℕ} {r : List Replacement} {m old new : MemoState} {a b c : Counts} {done : Bool} → r ≡ with_what_if s w pairs → root ≡ f → m ≡ old → a ≡ b → SpendsAtMost s (HasCase s r root) m new a c done → SpendsAtMost s (HasEntry s w f pairs) old new b c done
  entry_spends {root} {r} {m} {old} {new} {a} {b} {c} {done} is er em ea g =
      let here : SpendsAtMost s (HasCase s r f) m new b c done = subst (λ (x : ℕ). SpendsAtMost s (HasCase s r x) m new b c done) er (subst (λ (x : Counts). SpendsAtMost s (HasCase s r root) m new x c done) ea g) in
      at_most_weaken em (has_formula_cell s w f pairs r is) here

  -- there is no room for what it demands where its formula cell isn't kept
  pub entry_no_space : {m : MemoState} (P : List Case → Type 0) → m.space ≡ 0 → IsUnkept s m (with_what_if s w pairs) f → WhereSpace s (HasEntry s w f pairs) m P
  entry_no_space {m} P full none ks closed has whole space =
      let there = has.1 none.formula in
      let less = one_less_left m.kept (λ c v. m.kept c v || same_case (case_of s (with_what_if s w pairs) f) (c, v)) (case_of s (with_what_if s w pairs) f) ks (λ c v. refl) none.none there in
      absurd (omega (arith, less, space, full))
