-- Laws of an edit's answer.
use Rattle.wi_store.proofs.Words.{◌≡◌, ℕ, ◌+◌, Bool, true, false, List, Option, Result, Ok, Err, OnOk, OnErr, length, refl, sym, ap, ◌∙◌, subst, ◌⊎◌, ⊎_elim, if◌then◌else◌, nat_lt, nat_le, result_unwrap_or, Sheet, Content, StoreFault, Full, EditLimit, Memory, Limits, Stored, edited, accepted, Applies, admitted}

-- the sheet, the edits and the limits tell a store
abbrev pub stored : Sheet → ℕ → Limits → Stored
stored sheet edits limits = record { sheet = sheet; edits = edits; limits = limits }

abbrev pub Answer : Type 0
Answer = Result (Unit {0}) StoreFault

abbrev pub refusal : StoreFault → Answer
refusal e = Err e

abbrev pub acceptance : Answer
acceptance = Ok tt

-- how many cells are occupied after an edit, or why it is refused
abbrev pub Outcome : Type 0
Outcome = Result ℕ StoreFault

abbrev pub refused : StoreFault → Outcome
refused e = Err e

abbrev pub done : ℕ → Outcome
done n = Ok n

abbrev outcome_of : Bool → Bool → ℕ → Outcome
outcome_of b c n = if b then Err Full else (if c then Err EditLimit else Ok n)

abbrev stored_of : Bool → Bool → Stored → Result Stored StoreFault
stored_of b c x = if b then Err Full else (if c then Err EditLimit else Ok x)

cause_chosen : (b c : Bool) (n : ℕ) (x : Stored) (e : StoreFault) → refused e ≡ outcome_of b c n → stored_of b c x ≡ Err e
cause_chosen true c n x e h = let f : Full ≡ e = cc in ap (λ (g : StoreFault). Err g) f
cause_chosen false true n x e h = let f : EditLimit ≡ e = cc in ap (λ (g : StoreFault). Err g) f
cause_chosen false false n x e h = cc

answer_chosen : (b c : Bool) (n m : ℕ) (x : Stored) → done m ≡ outcome_of b c n → stored_of b c x ≡ Ok x
answer_chosen true c n m x h = cc
answer_chosen false true n m x h = cc
answer_chosen false false n m x h = refl

count_chosen : (b c : Bool) (n m : ℕ) → done m ≡ outcome_of b c n → m ≡ n
count_chosen true c n m h = cc
count_chosen false true n m h = cc
count_chosen false false n m h = cc

accepted-refused : (s : Stored) (es : List (ℕ × Option Content)) (e : StoreFault) → refused e ≡ admitted s.limits (length (edited s.sheet es)) s.edits → accepted s es ≡ Err e
unfolding accepted
accepted-refused s es e h = cause_chosen (nat_lt s.limits.cells (length (edited s.sheet es))) (nat_le s.limits.edits s.edits) (length (edited s.sheet es)) _ e h

accepted-accepted : (s : Stored) (es : List (ℕ × Option Content)) (n : ℕ) → done n ≡ admitted s.limits (length (edited s.sheet es)) s.edits → accepted s es ≡ Ok (stored (edited s.sheet es) (s.edits + 1) s.limits)
unfolding accepted
accepted-accepted s es n h = answer_chosen (nat_lt s.limits.cells (length (edited s.sheet es))) (nat_le s.limits.edits s.edits) (length (edited s.sheet es)) n _ h

-- a refused edit
applies_refused : (s new : Stored) (es : List (ℕ × Option Content)) (e : StoreFault)
    → (refused e ≡ refused Memory) ⊎ (refused e ≡ admitted s.limits (length (edited s.sheet es)) s.edits)
    → new ≡ s → Applies (accepted s es) (refusal e) s new
applies_refused s new es Memory h same = same
applies_refused s new es Full h same = (⊎_elim (λ p. cc) (λ p. accepted-refused s es Full p) h, same)
applies_refused s new es EditLimit h same = (⊎_elim (λ p. cc) (λ p. accepted-refused s es EditLimit p) h, same)

-- an accepted edit
applies_accepted : (s : Stored) (sheet : Sheet) (es : List (ℕ × Option Content)) (n : ℕ)
    → done n ≡ admitted s.limits (length (edited s.sheet es)) s.edits
    → sheet ≡ edited s.sheet es → Applies (accepted s es) acceptance s (stored sheet (s.edits + 1) s.limits)
applies_accepted s sheet es n h e = accepted-accepted s es n h ∙ ap (λ (t : Sheet). Ok (stored t (s.edits + 1) s.limits)) (sym e)

-- how many cells are occupied after an edit is the count that it answers, or that of before
pub occupied_after : (r : Outcome) (limits : Limits) (edits before n : ℕ) (old new t : Sheet) → before ≡ length old → n ≡ result_unwrap_or r before
    → (r ≡ refused Memory) ⊎ (r ≡ admitted limits (length t) edits) → OnOk r (new ≡ t) → OnErr r (new ≡ old) → n ≡ length new
occupied_after (Ok m) limits edits before n old new t b e cause ok err =
    let a : done m ≡ admitted limits (length t) edits = ⊎_elim (λ p. cc) (λ p. p) cause in
    e ∙ count_chosen (nat_lt limits.cells (length t)) (nat_le limits.edits edits) (length t) m a ∙ ap length (sym ok)
occupied_after (Err f) limits edits before n old new t b e cause ok err = e ∙ b ∙ ap length (sym err)

-- ---- the answer, where the store and the changes are given by their parts

pub applies_after_refusal : (now : Stored) (sheet t : Sheet) (edits : ℕ) (limits : Limits) (es fs : List (ℕ × Option Content)) (r : Answer) (y e : StoreFault)
    → stored sheet edits limits ≡ now → fs ≡ es → r ≡ refusal y → y ≡ e
    → (refused e ≡ refused Memory) ⊎ (refused e ≡ admitted limits (length (edited sheet fs)) edits)
    → t ≡ sheet → Applies (accepted now es) r now (stored t edits limits)
applies_after_refusal now sheet t edits limits es fs r y e v f p q cause w =
    let s : Stored = stored sheet edits limits in
    let new : Stored = stored t edits limits in
    subst (λ (x : Stored). Applies (accepted x es) r x new) v
    (subst (λ (xs : List (ℕ × Option Content)). Applies (accepted s xs) r s new) f
    (subst (λ (a : Answer). Applies (accepted s fs) a s new) (sym (p ∙ ap (λ (z : StoreFault). refusal z) q))
    (applies_refused s new fs e cause (ap (λ (z : Sheet). stored z edits limits) w))))

pub applies_after_acceptance : (now : Stored) (sheet t : Sheet) (edits n : ℕ) (limits : Limits) (es fs : List (ℕ × Option Content))
    → stored sheet edits limits ≡ now → fs ≡ es
    → (done n ≡ refused Memory) ⊎ (done n ≡ admitted limits (length (edited sheet fs)) edits)
    → t ≡ edited sheet fs → accepted now es ≡ Ok (stored t (edits + 1) limits)
applies_after_acceptance now sheet t edits n limits es fs v f cause w =
    let s : Stored = stored sheet edits limits in
    let a : done n ≡ admitted limits (length (edited sheet fs)) edits = ⊎_elim (λ p. cc) (λ p. p) cause in
    ap (λ (x : Stored). accepted x es) (sym v) ∙ ap (λ (xs : List (ℕ × Option Content)). accepted s xs) (sym f) ∙ applies_accepted s t fs n a w
