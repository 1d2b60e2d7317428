-- What is so of a calculator that keeps values stays so over an edit.
use Rattle.wi_propagate.proofs.Words.{◌≡◌, ◌==◌, ◌⊎◌, ◌≤◌, ◌+◌, ℕ, Bool, true, false, cond, nat_lt, nat_le, List, [], ◌∷◌, map, length, get_or, Option, Some, None, IfSome, Result, Ok, Err, refl, ap, sym, ◌∙◌, subst, arith, or_parts, eqb-true, found-without, keys_of, turn_test, Content, Constant, Formula, Sheet, content_of, with_content, Stored, edited, without_empty, change_without_empty, accepted, applied, Applies, StoreFault, Full, EditLimit, Memory, Counts, KeptValues, kept, value_for, is_one_of, SameOff, in_cone, Edges, AreEdgesOf, areas_at, areas_in, with_areas, brought, edges_after, sheet_after, edges_follow, Generations, IsEdit, KeptSheet, generation_in, IsKeptFor, AreKeptRight, content_of-with, Value, Key, numbered, IsUnread, Box, Carried, kept_sheet, Stamps, flushed, AreKeptUp, IsHeadOf}
use Rattle.wi_propagate.proofs.RightValues.{AreRaised, kept_over_edit}
use Rattle.wi_propagate.proofs.StampSteps.{flushed_after, flushed_same, kept_up_after, no_numbers, flushed_none}

-- ---- where nothing was edited, and nothing is kept

pub begins_right : (s : Stored) (g : Stamps) (h : Box Carried) (n : Counts) (keep : ℕ) → g ≡ no_numbers → h.value.kept ≡ kept [] keep → 1 ≤ keep → AreKeptRight (kept_sheet s (flushed s.sheet g.edited_at) (Some h) n)
begins_right s g h n keep e v one = record {
  space = subst (λ (x : KeptValues). 1 ≤ x.capacity) (sym v) one;
  past = λ c. let z = flushed_none s.sheet g c e in omega (arith, z);
  right = λ q. subst (λ (x : KeptValues). IfSome (value_for x.entries q) (IsKeptFor s.sheet s.edits (generation_in (flushed s.sheet g.edited_at)) q)) (sym v) tt;
}

-- ---- the edges are those of the edited sheet

same_settled : (o : Option Content) → without_empty o ≡ brought o
same_settled None = refl
same_settled (Some (Constant v)) = refl
same_settled (Some (Formula t)) = refl

-- the store and the graph say the same of what an edit makes of a sheet
edited_is_after : (s : Sheet) (changes : List (ℕ × Option Content)) → edited s (map change_without_empty changes) ≡ sheet_after s changes
edited_is_after s [] = refl
edited_is_after s (x ∷ xs) = ap (λ (o : Option Content). edited (with_content s x.0 o) (map change_without_empty xs)) (same_settled x.1) ∙ edited_is_after (with_content s x.0 (brought x.1)) xs

-- ---- and the sheet is the same but for the edited cells

kept_content : (s : Sheet) (c : ℕ) (o : Option Content) (d : ℕ) → (c == d) ≡ false → content_of s d ≡ content_of (with_content s c o) d
kept_content s c o d n = sym (content_of-with s c o d ∙ ap (λ (b : Bool). cond b o (content_of s d)) (turn_test d c ∙ n))

pub same_off_edited : (s : Sheet) (changes : List (ℕ × Option Content)) → SameOff s (edited s (map change_without_empty changes)) (keys_of changes)
same_off_edited s [] d h = refl
same_off_edited s (x ∷ xs) d h =
    let n = or_parts (x.0 == d) _ h in
    kept_content s x.0 (without_empty x.1) d n.0 ∙ same_off_edited (with_content s x.0 (without_empty x.1)) xs d n.1

-- ---- an accepted edit

pub accepted_is : (s t : Stored) (es : List (ℕ × Option Content)) → accepted s es ≡ Ok t → (t.sheet ≡ edited s.sheet es) × (t.edits ≡ s.edits + 1)
unfolding accepted
accepted_is s t es h = at (nat_lt s.limits.cells _) (nat_le s.limits.edits s.edits) h
  where
    at : (b d : Bool) → ◌≡◌ {A = Result Stored StoreFault} (cond b (Err Full) (cond d (Err EditLimit) (Ok (record s { sheet = edited s.sheet es; edits = s.edits + 1 })))) (Ok t) → (t.sheet ≡ edited s.sheet es) × (t.edits ≡ s.edits + 1)
    at true d k = cc
    at false true k = cc
    at false false k = let e : ◌≡◌ {A = Stored} (record s { sheet = edited s.sheet es; edits = s.edits + 1 }) t = cc in (ap (λ (x : Stored). x.sheet) (sym e), ap (λ (x : Stored). x.edits) (sym e))

pub same_off_applied : (old new : Stored) (changes : List (ℕ × Option Content)) → applied old changes ≡ Ok new → SameOff old.sheet new.sheet (keys_of changes)
same_off_applied old new changes h = subst (λ (t : Sheet). SameOff old.sheet t (keys_of changes)) (sym (accepted_is old new (map change_without_empty changes) h).0) (same_off_edited old.sheet changes)

pub number_applied : (old new : Stored) (changes : List (ℕ × Option Content)) → applied old changes ≡ Ok new → new.edits ≡ old.edits + 1
number_applied old new changes h = (accepted_is old new (map change_without_empty changes) h).1

-- after a refusal all is as it was
pub refused_same : (answer : Result Stored StoreFault) (fault : StoreFault) (old new : Stored) → Applies answer (Err fault) old new → new ≡ old
refused_same answer Full old new h = h.1
refused_same answer EditLimit old new h = h.1
refused_same answer Memory old new h = h

-- an edit that is refused leaves all as it was
pub refused_edit : (old new : KeptSheet) (cells : List ℕ) (accepted : Bool) → accepted ≡ false → new.counts ≡ old.counts → new.values ≡ old.values
    → ((c : ℕ) → generation_in new.generations c ≡ generation_in old.generations c) → IsEdit old new cells accepted
refused_edit old new cells true refused counts values same = cc
refused_edit old new cells false refused counts values same = record { same_counts = counts; same_values = values; generations = same }

-- ---- generations

-- after an accepted edit the generations of its cone are its number, and the others are as they were
pub right_after_edit : (old new : Stored) (changes : List (ℕ × Option Content)) (n : ℕ) (g r : Generations) (values : KeptValues) (before after : Counts) → applied old changes ≡ Ok new →
    ((c : ℕ) → generation_in r c ≡ cond (in_cone old.sheet (keys_of changes) c) n (generation_in g c)) → n ≡ new.edits →
    AreKeptRight (record { stored = old; values = values; generations = g; counts = before }) → AreKeptRight (record { stored = new; values = values; generations = r; counts = after })
right_after_edit old new changes n g r values before after h up e k =
    let a = accepted_is old new (map change_without_empty changes) h in
    let number : n ≡ old.edits + 1 = e ∙ a.1 in
    let right = kept_over_edit old.sheet (edited old.sheet (map change_without_empty changes)) (keys_of changes) old.edits (generation_in g) (generation_in r) values.entries (same_off_edited old.sheet changes) (raised number) k.right in
    record {
      space = k.space;
      past = λ c. let z = past c number (in_cone old.sheet (keys_of changes) c) (up c) in let y = a.1 in omega (arith, z, y);
      right = rw (a.0, a.1) right;
    }
  where
    raised : n ≡ old.edits + 1 → AreRaised old.sheet (keys_of changes) old.edits (generation_in g) (generation_in r)
    raised m = record {
      inside = λ c i. let z = up c ∙ ap (λ (b : Bool). cond b n (generation_in g c)) i in omega (arith, z, m);
      beside = λ c i. up c ∙ ap (λ (b : Bool). cond b n (generation_in g c)) i;
    }

    past : (c : ℕ) → n ≡ old.edits + 1 → (b : Bool) → generation_in r c ≡ cond b n (generation_in g c) → generation_in r c ≤ old.edits + 1
    past c m true z = omega (arith, z, m)
    past c m false z = let y = k.past c in omega (arith, z, y)

-- and where only the numbers stand in another list, all is right still
pub right_same : (s : Stored) (values : KeptValues) (g r : Generations) (counts : Counts) → ((c : ℕ) → generation_in r c ≡ generation_in g c) → AreKeptRight (record { stored = s; values = values; generations = g; counts = counts }) →
    AreKeptRight (record { stored = s; values = values; generations = r; counts = counts })
right_same s values g r counts e k = record {
  space = k.space;
  past = λ c. subst (λ (m : ℕ). m ≤ s.edits) (sym (e c)) (k.past c);
  right = λ q. at (value_for values.entries q) q (k.right q);
}
  where
    at : (o : Option Value) (q : Key) → IfSome o (IsKeptFor s.sheet s.edits (generation_in g) q) → IfSome o (IsKeptFor s.sheet s.edits (generation_in r) q)
    at None q h = h
    at (Some v) q h = record { past = h.past; right = λ m. h.right (m ∙ e q.cell) }

-- also where room was made for numbers
pub right_unnamed : (s : Stored) (first mid : Stamps) → ((c : ℕ) → generation_in mid.edited_at c ≡ generation_in first.edited_at c) → (values : KeptValues) (counts : Counts) → AreKeptRight (record { stored = s; values = values; generations = flushed s.sheet first.edited_at; counts = counts }) →
    AreKeptRight (record { stored = s; values = values; generations = flushed s.sheet mid.edited_at; counts = counts })
right_unnamed s first mid e values counts k = right_same s values (flushed s.sheet first.edited_at) (flushed s.sheet mid.edited_at) counts (flushed_same s.sheet first.edited_at mid.edited_at e) k

-- what an edit tells, and what it leaves dirty
module _ (old new : Stored) (changes : List (ℕ × Option Content)) (first mid last : Stamps) (cells : List ℕ) (n : ℕ) (h : applied old changes ≡ Ok new) (are : cells ≡ keys_of changes) (number : n ≡ new.edits)
    (space : (c : ℕ) → generation_in mid.edited_at c ≡ generation_in first.edited_at c) (edited_at : (c : ℕ) → generation_in last.edited_at c ≡ cond (is_one_of cells c) n (generation_in mid.edited_at c)) (k : AreKeptUp old.sheet old.edits first) where
  numbers : (c : ℕ) → generation_in last.edited_at c ≡ numbered (keys_of changes) n (generation_in mid.edited_at) c
  numbers c = edited_at c ∙ ap (λ (xs : List ℕ). cond (is_one_of xs c) n (generation_in mid.edited_at c)) are

  pub edit_flushed : (c : ℕ) → generation_in (flushed new.sheet last.edited_at) c ≡ cond (in_cone old.sheet (keys_of changes) c) n (generation_in (flushed old.sheet first.edited_at) c)
  edit_flushed c =
      flushed_after old.sheet new.sheet (keys_of changes) mid.edited_at last.edited_at n (same_off_applied old new changes h) below numbers c
      ∙ ap (λ (m : ℕ). cond (in_cone old.sheet (keys_of changes) c) n m) (flushed_same old.sheet first.edited_at mid.edited_at space c)
    where
      below : (d : ℕ) → generation_in mid.edited_at d ≤ n
      below d = let a = k.past d in let b = space d in let m = number_applied old new changes h in omega (arith, a, b, m, number)

  pub edit_keeps_up : ((x : ℕ) → is_one_of first.dirty x ≡ true → is_one_of mid.dirty x ≡ true) → ((x : ℕ) → is_one_of cells x ≡ true → (is_one_of mid.dirty x ≡ true) ⊎ IsUnread old.sheet x) → ((c : ℕ) → generation_in last.valid_since c ≡ generation_in first.valid_since c) → last.dirty ≡ mid.dirty → IsHeadOf new.sheet last.head last.cone → AreKeptUp new.sheet new.edits last
  edit_keeps_up stays dirty valid_since still head = subst (λ (m : ℕ). AreKeptUp new.sheet m last) number (kept_up_after old.sheet new.sheet (keys_of changes) first mid last old.edits n (same_off_applied old new changes h) (number ∙ number_applied old new changes h) space stays
      (λ x m. dirty x (ap (λ (xs : List ℕ). is_one_of xs x) are ∙ m)) numbers valid_since still head k)

pub edges_stay : (es : Edges) (old new : Stored) (changes : List (ℕ × Option Content)) → AreEdgesOf es (sheet_after old.sheet changes) → applied old changes ≡ Ok new → AreEdgesOf es new.sheet
edges_stay es old new changes h e = subst (AreEdgesOf es) (sym ((accepted_is old new (map change_without_empty changes) e).0 ∙ edited_is_after old.sheet changes)) h

pub edges_applied : (es : Edges) (old new : Stored) (changes : List (ℕ × Option Content)) → AreEdgesOf es old.sheet → applied old changes ≡ Ok new → AreEdgesOf (edges_after es changes) new.sheet
edges_applied es old new changes h e = edges_stay (edges_after es changes) old new changes (edges_follow es old.sheet changes h) e

-- ---- an edit of one cell

only_is : (xs : List (ℕ × Option Content)) (x : ℕ × Option Content) → length xs ≡ 1 → x ≡ get_or xs 0 x → xs ≡ x ∷ []
only_is [] x l h = absurd (omega (arith, l))
only_is (y ∷ []) x l h = ap (λ (z : ℕ × Option Content). z ∷ []) (sym h)
only_is (y ∷ z ∷ zs) x l h = absurd (omega (arith, l))

-- where no formula stood in a cell and none comes, the edges are those of the sheet after it
pub edges_without : (es : Edges) (s : Sheet) (xs : List (ℕ × Option Content)) (x : ℕ × Option Content) → length xs ≡ 1 → x ≡ get_or xs 0 x → areas_in x.1 ≡ None → areas_in (content_of s x.0) ≡ None → AreEdgesOf es s → AreEdgesOf es (sheet_after s xs)
edges_without es s xs x l is comes stood edges = subst (λ ys. AreEdgesOf es (sheet_after s ys)) (sym (only_is xs x l is)) (λ d.
    same d (d == x.0) refl ∙ ap (λ o. areas_at (with_areas es x.0 o) d) (sym comes) ∙ edges_follow es s (x ∷ []) edges d)
  where
    same : (d : ℕ) (b : Bool) → (d == x.0) ≡ b → areas_at es d ≡ areas_at (with_areas es x.0 None) d
    same d true e = ap (areas_at es) (eqb-true d x.0 e) ∙ edges x.0 ∙ stood ∙ sym (found-without es x.0 d ∙ ap (λ b. cond b None (areas_at es d)) e)
    same d false e = sym (found-without es x.0 d ∙ ap (λ b. cond b None (areas_at es d)) e)
