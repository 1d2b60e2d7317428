-- Steps of a walk along references.
use Rattle.wi_engine.proofs.Words.{◌≡◌, ◌==◌, ℕ, Bool, true, false, ◌||◌, cond, List, [], ◌∷◌, ◌++◌, length, Option, Some, None, refl, ap, sym, ◌∙◌, subst, append_assoc, append-nil, arith, inl, inr, ◌⊎◌, eq-eqb, true≢false, if◌then◌else◌, or_cases, or_left, or_right, or_parts, false_from_ne_true, list_any-append, or-false, list_any, nat_cmp, BTreeMap, get, is_at, Updates, IsEmpty, Sheet, content_of, has_formula, content_reads, circular, is_one_of, Reaches, reaches, same_cell, found, ends_open, left_circular, finds_in, reaches_true, true_reaches, reaches_here, reaches_read, reaches_on, reaches_by_step, turn_test, is_at-eq, rectangles_in, occupied_within, MayFollow, Task, Enter, Leave, enters, task_cell, leaves, has_task, has_leave, LeadsTo, IsOpen, EachLeave, progress_of, IsWalk, IsBelow, Progress, Open, Done, occupied_read, read_occupied, order-push, order_clear, no_order}

-- ---- tasks one after another

task_split : (xs ys : List Task) (d : ℕ) → has_task (xs ++ ys) d ≡ true → (has_task xs d ≡ true) ⊎ (has_task ys d ≡ true)
task_split xs ys d h = or_cases (has_task xs d) (has_task ys d) (sym (list_any-append (λ (t : Task). task_cell t == d) xs ys) ∙ h)

task_front : (xs ys : List Task) (d : ℕ) → has_task xs d ≡ true → has_task (xs ++ ys) d ≡ true
task_front xs ys d h = list_any-append (λ (t : Task). task_cell t == d) xs ys ∙ or_left (has_task xs d) (has_task ys d) h

task_back : (xs ys : List Task) (d : ℕ) → has_task ys d ≡ true → has_task (xs ++ ys) d ≡ true
task_back xs ys d h = list_any-append (λ (t : Task). task_cell t == d) xs ys ∙ or_right (has_task xs d) (has_task ys d) h

leave_parts : (xs ys : List Task) (d : ℕ) → has_leave (xs ++ ys) d ≡ (has_leave xs d || has_leave ys d)
leave_parts xs ys d = list_any-append (λ (t : Task). leaves t d) xs ys

-- the one task that is of this cell
of_one : (t : Task) (d : ℕ) → has_task (t ∷ []) d ≡ true → task_cell t ≡ d
of_one t d h = at (or_cases (task_cell t == d) false h)
  where
    at : ((task_cell t == d) ≡ true) ⊎ (false ≡ true) → task_cell t ≡ d
    at (inl k) = same_cell d (task_cell t) k
    at (inr k) = cc

is_of_one : (t : Task) → has_task (t ∷ []) (task_cell t) ≡ true
is_of_one t = or_left (task_cell t == task_cell t) false (eq-eqb (task_cell t) (task_cell t) refl)

-- what holds of the last cell that is to be left
last_leave : (P : ℕ → List Task → Type 0) (c : ℕ) (ts : List Task) → EachLeave P (ts ++ Leave c ∷ []) → P c []
last_leave P c [] e = e.0
last_leave P c (Enter a ∷ ts) e = last_leave P c ts e
last_leave P c (Leave a ∷ ts) e = last_leave P c ts e.1

-- and of one before a last task
some_leave : (P : ℕ → List Task → Type 0) (t : Task) (c : ℕ) (ts : List Task) → EachLeave P (ts ++ t ∷ []) → has_leave ts c ≡ true → (ys : List Task) × P c (ys ++ t ∷ [])
some_leave P t c [] e h = cc
some_leave P t c (Enter a ∷ ts) e h = some_leave P t c ts e h
some_leave P t c (Leave a ∷ ts) e h = at (or_cases (a == c) (has_leave ts c) h) (some_leave P t c ts e.1)
  where
    at : ((a == c) ≡ true) ⊎ (has_leave ts c ≡ true) → (has_leave ts c ≡ true → (ys : List Task) × P c (ys ++ t ∷ [])) → (ys : List Task) × P c (ys ++ t ∷ [])
    at (inl k) ih = (ts, subst (λ (x : ℕ). P x (ts ++ t ∷ [])) (same_cell c a k) e.0)
    at (inr k) ih = ih k

-- what holds of those before a last task, once that is gone
without_last : (P Q : ℕ → List Task → Type 0) (t : Task) → ((a : ℕ) (ys : List Task) → P a (ys ++ t ∷ []) → Q a ys) → (ts : List Task) → EachLeave P (ts ++ t ∷ []) → EachLeave Q ts
without_last P Q t f [] e = tt
without_last P Q t f (Enter a ∷ ts) e = without_last P Q t f ts e
without_last P Q t f (Leave a ∷ ts) e = (f a ts e.0, without_last P Q t f ts e.1)

-- ---- a cycle

-- a cell that reaches one which leads to itself is circular
loop_circular : (s : Sheet) (c d : ℕ) → Reaches s c d → LeadsTo s d d → circular s c ≡ true
loop_circular s c d r l = left_circular s (λ a. reaches s a d) (λ a h. on a (reaches_by_step s a d h)) c (true_reaches s c d r)
  where
    on : (a : ℕ) → (a ≡ d) ⊎ ((content_reads (content_of s a) d ≡ true) ⊎ ((e : ℕ) × (content_reads (content_of s a) e ≡ true) × (has_formula (content_of s e) ≡ true) × (reaches s e d ≡ true))) →
        (e : ℕ) × (content_reads (content_of s a) e ≡ true) × (reaches s e d ≡ true)
    on a (inl k) = (l.0, subst (λ (x : ℕ). content_reads (content_of s x) l.0 ≡ true) (sym k) l.1, true_reaches s l.0 d l.2)
    on a (inr (inl k)) = (d, k, reaches_here s d)
    on a (inr (inr k)) = (k.0, k.1, k.3)

-- what reaches a cell reaches what that reads
reaches_next : (s : Sheet) (a d e : ℕ) → Reaches s a d → content_reads (content_of s d) e ≡ true → Reaches s a e
reaches_next s a d e w r = reaches_true s a e (reaches_on s a d e (true_reaches s a d w) (reaches_read s d e r))

-- a cell that is to be entered and still to be left leads to itself
pub walk-cycle : (s : Sheet) (roots : List ℕ) (c : ℕ) (ts : List Task) (progress : BTreeMap ℕ Progress) (order : List ℕ) → IsWalk s roots (ts ++ Enter c ∷ []) progress order → get nat_cmp progress c ≡ Some Open → list_any (circular s) roots ≡ true
walk-cycle s roots c ts progress order w m =
    let left = some_leave (IsOpen s order) (Enter c) c ts w.waiting (is_open (is_one_of order c) (has_leave (ts ++ Enter c ∷ []) c) (leave_parts ts (Enter c ∷ []) c) (sym (w.progressed c) ∙ m)) in
    let loop = left.1.leads c (task_back left.0 (Enter c ∷ []) c (is_of_one (Enter c))) in
    let from = w.reached c (task_back ts (Enter c ∷ []) c (is_of_one (Enter c))) in
    found (circular s) roots from.0 from.1 (loop_circular s from.0 c from.2 loop)
  where
    is_open : (b d : Bool) → d ≡ (has_leave ts c || false) → (if b then Some Done else (if d then Some Open else None)) ≡ Some Open → has_leave ts c ≡ true
    is_open true d e h = cc
    is_open false true e h = sym (or-false (has_leave ts c)) ∙ sym e
    is_open false false e h = cc

-- ---- a cell that is passed: it stands in the order, or has no formula

-- among the tasks before a last one to enter a cell that is passed
without_passed : (s : Sheet) (c : ℕ) (order : List ℕ) → (has_formula (content_of s c) ≡ true → is_one_of order c ≡ true) → (ys : List Task) (d : ℕ) →
    has_formula (content_of s d) ≡ true → (is_one_of order d || has_task (ys ++ Enter c ∷ []) d) ≡ true → (is_one_of order d || has_task ys d) ≡ true
without_passed s c order p ys d f h = at (or_cases (is_one_of order d) _ h)
  where
    before : (has_task ys d ≡ true) ⊎ (has_task (Enter c ∷ []) d ≡ true) → (is_one_of order d || has_task ys d) ≡ true
    before (inl k) = or_right (is_one_of order d) _ k
    before (inr k) =
        let e = of_one (Enter c) d k in
        or_left (is_one_of order d) _ (subst (λ (x : ℕ). is_one_of order x ≡ true) e (p (ap (λ (x : ℕ). has_formula (content_of s x)) e ∙ f)))

    at : (is_one_of order d ≡ true) ⊎ (has_task (ys ++ Enter c ∷ []) d ≡ true) → (is_one_of order d || has_task ys d) ≡ true
    at (inl k) = or_left (is_one_of order d) _ k
    at (inr k) = before (task_split ys (Enter c ∷ []) d k)

open-passed : (s : Sheet) (c : ℕ) (order : List ℕ) → (has_formula (content_of s c) ≡ true → is_one_of order c ≡ true) → (a : ℕ) (ys : List Task) → IsOpen s order a (ys ++ Enter c ∷ []) → IsOpen s order a ys
open-passed s c order p a ys o = record {
  formula = o.formula;
  reads = λ d r f. without_passed s c order p ys d f (o.reads d r f);
  leads = λ d h. o.leads d (task_front ys (Enter c ∷ []) d h);
  fresh = o.fresh;
  once = sym (leave_parts ys (Enter c ∷ []) a ∙ or-false (has_leave ys a)) ∙ o.once;
}

pub walk-passed : (s : Sheet) (roots : List ℕ) (c : ℕ) (ts : List Task) (progress : BTreeMap ℕ Progress) (order : List ℕ) → IsWalk s roots (ts ++ Enter c ∷ []) progress order → (has_formula (content_of s c) ≡ true → is_one_of order c ≡ true) → IsWalk s roots ts progress order
walk-passed s roots c ts progress order w p = record {
  waiting = without_last (IsOpen s order) (IsOpen s order) (Enter c) (open-passed s c order p) ts w.waiting;
  progressed = λ a. w.progressed a ∙ ap (λ (b : Bool). if is_one_of order a then Some Done else (if b then Some Open else None)) (leave_parts ts (Enter c ∷ []) a ∙ or-false (has_leave ts a));
  ordered = w.ordered;
  reached = λ d h. w.reached d (task_front ts (Enter c ∷ []) d h);
  below = w.below;
  rooted = λ r m f. without_passed s c order p ts r f (w.rooted r m f);
}

-- a cell whose state says so stands in the order
pub done_ordered : (ts : List Task) (order : List ℕ) (c : ℕ) (progress : BTreeMap ℕ Progress) → get nat_cmp progress c ≡ progress_of ts order c → get nat_cmp progress c ≡ Some Done → is_one_of order c ≡ true
done_ordered ts order c progress m h = at (is_one_of order c) (has_leave ts c) refl (sym m ∙ h)
  where
    at : (b d : Bool) → is_one_of order c ≡ b → (if b then Some Done else (if d then Some Open else None)) ≡ Some Done → is_one_of order c ≡ true
    at true d e h = e
    at false true e h = cc
    at false false e h = cc

-- ---- a cell that is left

order_parts : (order : List ℕ) (c a : ℕ) → is_one_of (order ++ c ∷ []) a ≡ (is_one_of order a || (c == a))
order_parts order c a = list_any-append (λ (x : ℕ). x == a) order (c ∷ []) ∙ ap (λ (b : Bool). is_one_of order a || b) (or-false (c == a))

-- the cell counts among the order in the place of its task
moved : (order : List ℕ) (ys : List Task) (c d : ℕ) → (is_one_of order d || has_task (ys ++ Leave c ∷ []) d) ≡ true → (is_one_of (order ++ c ∷ []) d || has_task ys d) ≡ true
moved order ys c d h = at (or_cases (is_one_of order d) _ h)
  where
    ordered : is_one_of order d ≡ true → is_one_of (order ++ c ∷ []) d ≡ true
    ordered k = order_parts order c d ∙ or_left (is_one_of order d) _ k

    here : c ≡ d → is_one_of (order ++ c ∷ []) d ≡ true
    here e = order_parts order c d ∙ or_right (is_one_of order d) _ (eq-eqb c d e)

    before : (has_task ys d ≡ true) ⊎ (has_task (Leave c ∷ []) d ≡ true) → (is_one_of (order ++ c ∷ []) d || has_task ys d) ≡ true
    before (inl k) = or_right (is_one_of (order ++ c ∷ []) d) _ k
    before (inr k) = or_left (is_one_of (order ++ c ∷ []) d) _ (here (of_one (Leave c) d k))

    at : (is_one_of order d ≡ true) ⊎ (has_task (ys ++ Leave c ∷ []) d ≡ true) → (is_one_of (order ++ c ∷ []) d || has_task ys d) ≡ true
    at (inl k) = or_left (is_one_of (order ++ c ∷ []) d) _ (ordered k)
    at (inr k) = before (task_split ys (Leave c ∷ []) d k)

open-left : (s : Sheet) (c : ℕ) (order : List ℕ) (a : ℕ) (ys : List Task) → IsOpen s order a (ys ++ Leave c ∷ []) → IsOpen s (order ++ c ∷ []) a ys
open-left s c order a ys o =
    let parts = or_parts (has_leave ys a) _ (sym (leave_parts ys (Leave c ∷ []) a) ∙ o.once) in
    let other = or_parts (c == a) _ parts.1 in
    record {
      formula = o.formula;
      reads = λ d r f. moved order ys c d (o.reads d r f);
      leads = λ d h. o.leads d (task_front ys (Leave c ∷ []) d h);
      fresh = order_parts order c a ∙ ap (λ (b : Bool). b || (c == a)) o.fresh ∙ other.0;
      once = parts.0;
    }

-- a cell that is left when no task comes before it may follow the order
may_follow : (s : Sheet) (order : List ℕ) (c : ℕ) → IsOpen s order c [] → MayFollow s order c
may_follow s order c o = record { formula = o.formula; reads = λ d r f. sym (or-false (is_one_of order d)) ∙ o.reads d r f; once = o.fresh }

state_left : (i o h b d l : Bool) → i ≡ b → o ≡ (d || b) → h ≡ (l || (b || false)) →
    cond i (Some Done) (if d then Some Done else (if h then Some Open else None)) ≡ (if o then Some Done else (if l then Some Open else None))
state_left i o h true true l e f g = rw (e, f) refl
state_left i o h true false l e f g = rw (e, f) refl
state_left i o h false true l e f g = rw (e, f) refl
state_left i o h false false true e f g = rw (e, f, g) refl
state_left i o h false false false e f g = rw (e, f, g) refl

progress-left : (ts : List Task) (order : List ℕ) (c a : ℕ) → cond (is_at (nat_cmp c) a) (Some Done) (progress_of (ts ++ Leave c ∷ []) order a) ≡ progress_of ts (order ++ c ∷ []) a
progress-left ts order c a =
    state_left (is_at (nat_cmp c) a) (is_one_of (order ++ c ∷ []) a) (has_leave (ts ++ Leave c ∷ []) a) (c == a) (is_one_of order a) (has_leave ts a) (is_at-eq c a) (order_parts order c a) (leave_parts ts (Leave c ∷ []) a)

pub walk-left : (s : Sheet) (roots : List ℕ) (c : ℕ) (ts : List Task) (old new : BTreeMap ℕ Progress) (order : List ℕ) → IsWalk s roots (ts ++ Leave c ∷ []) old order →
    ((q : ℕ) → get nat_cmp new q ≡ cond (is_at (nat_cmp c) q) (Some Done) (get nat_cmp old q)) → IsWalk s roots ts new (order ++ c ∷ [])
walk-left s roots c ts old new order w u = record {
  waiting = without_last (IsOpen s order) (IsOpen s (order ++ c ∷ [])) (Leave c) (open-left s c order) ts w.waiting;
  progressed = λ a. u a ∙ ap (λ (m : Option Progress). cond (is_at (nat_cmp c) a) (Some Done) m) (w.progressed a) ∙ progress-left ts order c a;
  ordered = order-push s order c w.ordered (may_follow s order c (last_leave (IsOpen s order) c ts w.waiting));
  reached = λ d h. w.reached d (task_front ts (Leave c ∷ []) d h);
  below = λ d h. below d (or_cases (is_one_of order d) _ (sym (order_parts order c d) ∙ h));
  rooted = λ r m f. moved order ts c r (w.rooted r m f);
}
  where
    here : IsBelow s roots c
    here = w.reached c (task_back ts (Leave c ∷ []) c (is_of_one (Leave c)))

    below : (d : ℕ) → (is_one_of order d ≡ true) ⊎ ((c == d) ≡ true) → IsBelow s roots d
    below d (inl k) = w.below d k
    below d (inr k) = subst (IsBelow s roots) (same_cell d c k) here

-- ---- a cell that is entered

other_way : (b d : Bool) → (b || (d || false)) ≡ (d || b)
other_way true true = refl
other_way true false = refl
other_way false true = refl
other_way false false = refl

entered_task : (cells : List ℕ) (d : ℕ) → has_task (enters cells) d ≡ is_one_of cells d
entered_task [] d = refl
entered_task (c ∷ cs) d =
    list_any-append (λ (t : Task). task_cell t == d) (enters cs) (Enter c ∷ []) ∙ other_way (has_task (enters cs) d) (c == d) ∙ ap (λ (b : Bool). (c == d) || b) (entered_task cs d)

entered_leave : (cells : List ℕ) (d : ℕ) → has_leave (enters cells) d ≡ false
entered_leave [] d = refl
entered_leave (c ∷ cs) d = leave_parts (enters cs) (Enter c ∷ []) d ∙ or-false (has_leave (enters cs) d) ∙ entered_leave cs d

entered_before : (P : ℕ → List Task → Type 0) (cells : List ℕ) (ts : List Task) → EachLeave P ts → EachLeave P (enters cells ++ ts)
entered_before P [] ts e = e
entered_before P (c ∷ cs) ts e = subst (EachLeave P) (sym (append_assoc (enters cs) (Enter c ∷ []) ts)) (entered_before P cs (Enter c ∷ ts) e)

entered_waiting : (P : ℕ → List Task → Type 0) (cells : List ℕ) → EachLeave P (enters cells)
entered_waiting P cells = subst (EachLeave P) (append-nil (enters cells)) (entered_before P cells [] tt)

-- tasks that end with a cell to be left and what it reads: one before it, its own, or one of what it reads
entered_cases : (ys : List Task) (c : ℕ) (cells : List ℕ) (d : ℕ) → has_task (ys ++ Leave c ∷ enters cells) d ≡ true → (has_task ys d ≡ true) ⊎ (c ≡ d) ⊎ (is_one_of cells d ≡ true)
entered_cases ys c cells d h = at (task_split ys (Leave c ∷ enters cells) d h)
  where
    end : ((c == d) ≡ true) ⊎ (has_task (enters cells) d ≡ true) → (has_task ys d ≡ true) ⊎ (c ≡ d) ⊎ (is_one_of cells d ≡ true)
    end (inl k) = inr (inl (same_cell d c k))
    end (inr k) = inr (inr (sym (entered_task cells d) ∙ k))

    at : (has_task ys d ≡ true) ⊎ (has_task (Leave c ∷ enters cells) d ≡ true) → (has_task ys d ≡ true) ⊎ (c ≡ d) ⊎ (is_one_of cells d ≡ true)
    at (inl k) = inl k
    at (inr k) = end (or_cases (c == d) _ k)

-- no task is lost
kept_task : (ys : List Task) (c : ℕ) (cells : List ℕ) (d : ℕ) → has_task (ys ++ Enter c ∷ []) d ≡ true → has_task (ys ++ Leave c ∷ enters cells) d ≡ true
kept_task ys c cells d h = at (task_split ys (Enter c ∷ []) d h)
  where
    at : (has_task ys d ≡ true) ⊎ (has_task (Enter c ∷ []) d ≡ true) → has_task (ys ++ Leave c ∷ enters cells) d ≡ true
    at (inl k) = task_front ys (Leave c ∷ enters cells) d k
    at (inr k) = task_back ys (Leave c ∷ enters cells) d (or_left (c == d) _ (eq-eqb c d (of_one (Enter c) d k)))

kept_or : (b : Bool) (ys : List Task) (c : ℕ) (cells : List ℕ) (d : ℕ) → (b || has_task (ys ++ Enter c ∷ []) d) ≡ true → (b || has_task (ys ++ Leave c ∷ enters cells) d) ≡ true
kept_or true ys c cells d h = refl
kept_or false ys c cells d h = kept_task ys c cells d h

open-entered : (s : Sheet) (c : ℕ) (order cells : List ℕ) → ((d : ℕ) → is_one_of cells d ≡ true → content_reads (content_of s c) d ≡ true) →
    (a : ℕ) (ys : List Task) → (a == c) ≡ false → IsOpen s order a (ys ++ Enter c ∷ []) → IsOpen s order a (ys ++ Leave c ∷ enters cells)
open-entered s c order cells r a ys n o = record {
  formula = o.formula;
  reads = λ d h f. kept_or (is_one_of order d) ys c cells d (o.reads d h f);
  leads = λ d h. leads d (entered_cases ys c cells d h);
  fresh = o.fresh;
  once = leave_parts ys (Leave c ∷ enters cells) a ∙ ap (λ (b : Bool). b || ((c == a) || has_leave (enters cells) a)) (sym (or-false (has_leave ys a)) ∙ sym (leave_parts ys (Enter c ∷ []) a) ∙ o.once) ∙ ap (λ (b : Bool). b || has_leave (enters cells) a) (turn_test c a ∙ n) ∙ entered_leave cells a;
}
  where
    here : LeadsTo s a c
    here = o.leads c (task_back ys (Enter c ∷ []) c (is_of_one (Enter c)))

    leads : (d : ℕ) → (has_task ys d ≡ true) ⊎ (c ≡ d) ⊎ (is_one_of cells d ≡ true) → LeadsTo s a d
    leads d (inl k) = o.leads d (task_front ys (Enter c ∷ []) d k)
    leads d (inr (inl k)) = subst (LeadsTo s a) k here
    leads d (inr (inr k)) = (here.0, here.1, reaches_next s here.0 c d here.2 (r d k))

waiting-entered : (s : Sheet) (c : ℕ) (order cells : List ℕ) → ((d : ℕ) → is_one_of cells d ≡ true → content_reads (content_of s c) d ≡ true) → IsOpen s order c (enters cells) →
    (ts : List Task) → has_leave ts c ≡ false → EachLeave (IsOpen s order) (ts ++ Enter c ∷ []) → EachLeave (IsOpen s order) (ts ++ Leave c ∷ enters cells)
waiting-entered s c order cells r o [] n e = (o, entered_waiting (IsOpen s order) cells)
waiting-entered s c order cells r o (Enter a ∷ ts) n e = waiting-entered s c order cells r o ts n e
waiting-entered s c order cells r o (Leave a ∷ ts) n e =
    let parts = or_parts (a == c) _ n in
    (open-entered s c order cells r a ts parts.0 e.0, waiting-entered s c order cells r o ts parts.1 e.1)

state_entered : (i h k b d l : Bool) → i ≡ b → (b ≡ true → d ≡ false) → h ≡ (l || false) → k ≡ (l || (b || false)) →
    cond i (Some Open) (if d then Some Done else (if h then Some Open else None)) ≡ (if d then Some Done else (if k then Some Open else None))
state_entered i h k true true l e f g j = let z = f refl in cc
state_entered i h k true false true e f g j = rw (e, j) refl
state_entered i h k true false false e f g j = rw (e, j) refl
state_entered i h k false true l e f g j = rw e refl
state_entered i h k false false true e f g j = rw (e, g, j) refl
state_entered i h k false false false e f g j = rw (e, g, j) refl

progress-entered : (ts : List Task) (order cells : List ℕ) (c a : ℕ) → is_one_of order c ≡ false → cond (is_at (nat_cmp c) a) (Some Open) (progress_of (ts ++ Enter c ∷ []) order a) ≡ progress_of (ts ++ Leave c ∷ enters cells) order a
progress-entered ts order cells c a f =
    state_entered (is_at (nat_cmp c) a) (has_leave (ts ++ Enter c ∷ []) a) (has_leave (ts ++ Leave c ∷ enters cells) a) (c == a) (is_one_of order a) (has_leave ts a)
    (is_at-eq c a)
    (λ k. ap (is_one_of order) (sym (same_cell a c k)) ∙ f)
    (leave_parts ts (Enter c ∷ []) a)
    (leave_parts ts (Leave c ∷ enters cells) a ∙ ap (λ (b : Bool). has_leave ts a || ((c == a) || b)) (entered_leave cells a))

-- a cell without a state is neither in the order nor to be left
unseen : (ts : List Task) (order : List ℕ) (c : ℕ) → progress_of ts order c ≡ None → (is_one_of order c ≡ false) × (has_leave ts c ≡ false)
unseen ts order c h = at (is_one_of order c) (has_leave ts c) refl refl h
  where
    at : (b d : Bool) → is_one_of order c ≡ b → has_leave ts c ≡ d → (if b then Some Done else (if d then Some Open else None)) ≡ None → (is_one_of order c ≡ false) × (has_leave ts c ≡ false)
    at true d e f h = cc
    at false true e f h = cc
    at false false e f h = (e, f)

pub walk-entered : (s : Sheet) (roots : List ℕ) (c : ℕ) (ts : List Task) (old new : BTreeMap ℕ Progress) (order : List ℕ) → IsWalk s roots (ts ++ Enter c ∷ []) old order → has_formula (content_of s c) ≡ true → get nat_cmp old c ≡ None →
    ((q : ℕ) → get nat_cmp new q ≡ cond (is_at (nat_cmp c) q) (Some Open) (get nat_cmp old q)) → IsWalk s roots (ts ++ Leave c ∷ enters (occupied_within s (rectangles_in (content_of s c)))) new order
walk-entered s roots c ts old new order w f n u =
    let cells = occupied_within s (rectangles_in (content_of s c)) in
    let none = unseen (ts ++ Enter c ∷ []) order c (sym (w.progressed c) ∙ n) in
    let unleft = sym (leave_parts ts (Enter c ∷ []) c ∙ or-false (has_leave ts c)) ∙ none.1 in
    let here : IsOpen s order c (enters cells) = record {
      formula = f;
      reads = λ d r g. or_right (is_one_of order d) _ (entered_task cells d ∙ read_occupied s (content_of s c) d r g);
      leads = λ d h. (d, occupied_read s (content_of s c) d (sym (entered_task cells d) ∙ h), (0, refl));
      fresh = none.0;
      once = entered_leave cells c;
    } in
    record {
      waiting = waiting-entered s c order cells (occupied_read s (content_of s c)) here ts unleft w.waiting;
      progressed = λ a. u a ∙ ap (λ (m : Option Progress). cond (is_at (nat_cmp c) a) (Some Open) m) (w.progressed a) ∙ progress-entered ts order cells c a none.0;
      ordered = w.ordered;
      reached = λ d h. reached d (entered_cases ts c cells d h);
      below = w.below;
      rooted = λ r m g. kept_or (is_one_of order r) ts c cells r (w.rooted r m g);
    }
  where
    here : IsBelow s roots c
    here = w.reached c (task_back ts (Enter c ∷ []) c (is_of_one (Enter c)))

    reached : (d : ℕ) → (has_task ts d ≡ true) ⊎ (c ≡ d) ⊎ (is_one_of (occupied_within s (rectangles_in (content_of s c))) d ≡ true) → IsBelow s roots d
    reached d (inl k) = w.reached d (task_front ts (Enter c ∷ []) d k)
    reached d (inr (inl k)) = subst (IsBelow s roots) k here
    reached d (inr (inr k)) = (here.0, here.1, reaches_next s here.0 c d here.2 (occupied_read s (content_of s c) d k))

-- a cell that is looked at for the first time: it has a formula or none
pub walk-taken : (s : Sheet) (roots : List ℕ) (c : ℕ) (ts more : List Task) (old new : BTreeMap ℕ Progress) (order : List ℕ) → IsWalk s roots (ts ++ Enter c ∷ []) old order → get nat_cmp old c ≡ None → (has_formula (content_of s c) ≡ false → (more ≡ ts) × (new ≡ old)) →
    (has_formula (content_of s c) ≡ true → more ≡ ts ++ Leave c ∷ enters (occupied_within s (rectangles_in (content_of s c)))) → (has_formula (content_of s c) ≡ true → Updates nat_cmp old new c (Some Open)) → IsWalk s roots more new order
walk-taken s roots c ts more old new order w n plain tasks progress = at (has_formula (content_of s c)) refl
  where
    at : (b : Bool) → has_formula (content_of s c) ≡ b → IsWalk s roots more new order
    at true f = rw (tasks f) (walk-entered s roots c ts old new order w f n (progress f).0)
    at false f = rw ((plain f).0, (plain f).1) (walk-passed s roots c ts old order w (λ g. let z = f in cc))

-- a walk with nothing before it has each of its roots that has a formula in its order
pub walk-roots : (s : Sheet) (roots : List ℕ) (ts : List Task) (progress : BTreeMap ℕ Progress) (order : List ℕ) → IsWalk s roots ts progress order → length ts ≡ 0 → (c : ℕ) → is_one_of roots c ≡ true → has_formula (content_of s c) ≡ true → is_one_of order c ≡ true
walk-roots s roots [] progress order w z c m f = sym (or-false (is_one_of order c)) ∙ w.rooted c m f
walk-roots s roots (t ∷ ts) progress order w z c m f = absurd (omega arith)

-- and has met no cycle
pub walk-ended : (s : Sheet) (roots : List ℕ) (ts : List Task) (progress : BTreeMap ℕ Progress) (order : List ℕ) → IsWalk s roots ts progress order → length ts ≡ 0 → list_any (circular s) roots ≡ false
walk-ended s roots [] progress order w z = false_from_ne_true _ (λ h. let f = finds_in (circular s) roots h in true≢false (sym f.2 ∙ at f.0 f.1 (has_formula (content_of s f.0)) refl))
  where
    at : (c : ℕ) → is_one_of roots c ≡ true → (b : Bool) → has_formula (content_of s c) ≡ b → circular s c ≡ false
    at c m true f = order_clear s order w.ordered c (walk-roots s roots [] progress order w z c m f)
    at c m false f = ends_open 0 s c f
walk-ended s roots (t ∷ ts) progress order w z = absurd (omega arith)

-- a walk that is to enter each of its roots, with nothing behind it
pub walk-begun : (s : Sheet) (roots : List ℕ) (progress : BTreeMap ℕ Progress) → IsEmpty progress → IsWalk s roots (enters roots) progress []
walk-begun s roots progress n = record {
  waiting = entered_waiting (IsOpen s []) roots;
  progressed = λ c. no_state c ∙ ap (λ (b : Bool). if b then Some Open else None) (sym (entered_leave roots c));
  ordered = no_order s;
  reached = λ d h. (d, sym (entered_task roots d) ∙ h, (0, refl));
  below = λ d h. cc;
  rooted = λ r m f. entered_task roots r ∙ m;
}
  where
    no_state : (c : ℕ) → get nat_cmp progress c ≡ None
    no_state c = rw n refl
