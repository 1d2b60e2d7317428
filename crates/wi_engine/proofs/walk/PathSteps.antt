-- Steps of a walk, as its path takes them.
use Rattle.wi_engine.proofs.Words.{◌≡◌, ◌<◌, ℕ, suc, get_or, drop, drop-cons, true, false, cond, List, [], ◌∷◌, ◌++◌, length, Some, None, sym, ap, ◌∙◌, subst, append_assoc, append-nil, arith, list_any, nat_cmp, BTreeMap, get, is_at, Updates, Sheet, content_of, has_formula, circular, rectangles_in, occupied_within, tasks_in, Task, Enter, Leave, enters, IsWalk, GoesOn, HasCycle, Visit, Progress, Open, Done}
use Rattle.wi_engine.proofs.walk.WalkSteps.{walk-cycle, walk-passed, walk-left, walk-taken, done_ordered}

grouped : (s : Sheet) (roots : List ℕ) (front ts : List Task) (t : Task) (progress : BTreeMap ℕ Progress) (order : List ℕ) → IsWalk s roots (front ++ (ts ++ t ∷ [])) progress order → IsWalk s roots (front ++ ts ++ t ∷ []) progress order
grouped s roots front ts t progress order w = subst (λ (us : List Task). IsWalk s roots us progress order) (sym (append_assoc front ts (t ∷ []))) w

pub path-cycle : (s : Sheet) (c : ℕ) (ts : List Task) (progress : BTreeMap ℕ Progress) (order : List ℕ) → get nat_cmp progress c ≡ Some Open → HasCycle s (ts ++ Enter c ∷ []) progress order
path-cycle s c ts progress order m = λ roots front w. walk-cycle s roots c (front ++ ts) progress order (grouped s roots front ts (Enter c) progress order w) m

pub path-passed : (s : Sheet) (c : ℕ) (ts : List Task) (progress : BTreeMap ℕ Progress) (order : List ℕ) → get nat_cmp progress c ≡ Some Done → GoesOn s (ts ++ Enter c ∷ []) progress order ts progress order
path-passed s c ts progress order m = λ roots front w.
    let here = grouped s roots front ts (Enter c) progress order w in
    walk-passed s roots c (front ++ ts) progress order here (λ f. done_ordered (front ++ ts ++ Enter c ∷ []) order c progress (here.progressed c) m)

pub path-taken : (s : Sheet) (c : ℕ) (ts more : List Task) (old new : BTreeMap ℕ Progress) (order : List ℕ) → get nat_cmp old c ≡ None → (has_formula (content_of s c) ≡ false → (more ≡ ts) × (new ≡ old)) →
    (has_formula (content_of s c) ≡ true → more ≡ ts ++ Leave c ∷ enters (occupied_within s (rectangles_in (content_of s c)))) → (has_formula (content_of s c) ≡ true → Updates nat_cmp old new c (Some Open)) →
    GoesOn s (ts ++ Enter c ∷ []) old order more new order
path-taken s c ts more old new order n plain tasks progress = λ roots front w.
    walk-taken s roots c (front ++ ts) (front ++ more) old new order (grouped s roots front ts (Enter c) old order w) n
    (λ f. (ap (λ (us : List Task). front ++ us) (plain f).0, (plain f).1))
    (λ f. ap (λ (us : List Task). front ++ us) (tasks f) ∙ sym (append_assoc front ts (Leave c ∷ enters (occupied_within s (rectangles_in (content_of s c))))))
    progress

pub path-left : (s : Sheet) (c : ℕ) (ts : List Task) (old new : BTreeMap ℕ Progress) (order : List ℕ) → ((q : ℕ) → get nat_cmp new q ≡ cond (is_at (nat_cmp c) q) (Some Done) (get nat_cmp old q)) →
    GoesOn s (ts ++ Leave c ∷ []) old order ts new (order ++ c ∷ [])
path-left s c ts old new order u = λ roots front w. walk-left s roots c (front ++ ts) old new order (grouped s roots front ts (Leave c) old order w) u

-- the path has come to its end
pub path-ended : (s : Sheet) (ts : List Task) (progress new : BTreeMap ℕ Progress) (order more : List ℕ) (path : List Visit) → length path ≡ 0 → GoesOn s ts progress order (tasks_in s path) new more → GoesOn s ts progress order [] new more
path-ended s ts progress new order more [] z g = g
path-ended s ts progress new order more (v ∷ vs) z g = absurd (omega arith)

-- the next root
next_root : (cells : List ℕ) (i x : ℕ) → i < length cells → x ≡ get_or cells i x → enters (drop i cells) ≡ enters (drop (suc i) cells) ++ Enter x ∷ []
next_root cells i x l e = ap enters (drop-cons cells i x l ∙ ap (λ (y : ℕ). y ∷ drop (suc i) cells) (sym e))

pub root-cycle : (s : Sheet) (cells : List ℕ) (i x : ℕ) (progress : BTreeMap ℕ Progress) (order : List ℕ) → i < length cells → x ≡ get_or cells i x →
    IsWalk s cells (enters (drop i cells)) progress order → HasCycle s (Enter x ∷ []) progress order → list_any (circular s) cells ≡ true
root-cycle s cells i x progress order l e w h = h cells (enters (drop (suc i) cells)) (subst (λ (ts : List Task). IsWalk s cells ts progress order) (next_root cells i x l e) w)

pub root-walked : (s : Sheet) (cells : List ℕ) (i x : ℕ) (progress new : BTreeMap ℕ Progress) (order more : List ℕ) → i < length cells → x ≡ get_or cells i x →
    IsWalk s cells (enters (drop i cells)) progress order → GoesOn s (Enter x ∷ []) progress order [] new more → IsWalk s cells (enters (drop (suc i) cells)) new more
root-walked s cells i x progress new order more l e w h =
    subst (λ (ts : List Task). IsWalk s cells ts new more) (append-nil (enters (drop (suc i) cells))) (h cells (enters (drop (suc i) cells)) (subst (λ (ts : List Task). IsWalk s cells ts progress order) (next_root cells i x l e) w))
