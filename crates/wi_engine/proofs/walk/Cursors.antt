-- What a visit is still to look at.
use Rattle.wi_engine.proofs.Words.{◌≡◌, ℕ, suc, ◌+◌, ◌<◌, List, [], ◌∷◌, ◌++◌, length, get_or, drop, Option, None, refl, sym, ap, ◌∙◌, arith, append_assoc, append-nil, drop-cons, Area, Sheet, content_of, rectangles_in, occupied_within, cells_after, Task, Enter, Leave, cells_ahead, unread, begun, enters, tasks_at, tasks_in, Visit, all_after}

-- ---- rectangles

pub ahead_all : (s : Sheet) (rs : List Area) → cells_ahead s rs None ≡ occupied_within s rs
ahead_all s [] = refl
ahead_all s (r ∷ rs) = ap (λ (xs : List ℕ). xs ++ occupied_within s rs) (all_after s r)

pub ahead_none : (s : Sheet) (rs more : List Area) (r : Area) (o : Option ℕ) → rs ≡ r ∷ more → cells_after s r o ≡ [] → cells_ahead s more None ≡ cells_ahead s rs o
ahead_none s rs more r o e h = rw e (ahead_all s more ∙ sym (ap (λ (xs : List ℕ). xs ++ occupied_within s more) h))

-- on to the next rectangle
pub next_rectangle : (s : Sheet) (rs : List Area) (i : ℕ) (r : Area) (o : Option ℕ) → i < length rs → r ≡ get_or rs i r → cells_after s r o ≡ [] → cells_ahead s (drop (i + 1) rs) None ≡ cells_ahead s (drop i rs) o
next_rectangle s rs i r o l e h =
    let cut : drop i rs ≡ r ∷ drop (suc i) rs = drop-cons rs i r l ∙ ap (λ (x : Area). x ∷ drop (suc i) rs) (sym e) in
    ap (λ (n : ℕ). cells_ahead s (drop n rs) None) one ∙ ahead_none s (drop i rs) (drop (suc i) rs) r o cut h
  where
    one : i + 1 ≡ suc i
    one = omega arith

-- ---- paths

path-push : (s : Sheet) (path : List Visit) (v : Visit) → tasks_in s (path ++ v ∷ []) ≡ tasks_in s path ++ tasks_at s v
path-push s [] v = append-nil (tasks_at s v)
path-push s (u ∷ us) v = ap (λ (ts : List Task). tasks_at s u ++ ts) (path-push s us v) ∙ sym (append_assoc (tasks_at s u) (tasks_in s us) (tasks_at s v))

pub path-begun : (s : Sheet) (path : List Visit) (c : ℕ) → tasks_in s (path ++ begun c ∷ []) ≡ tasks_in s path ++ Leave c ∷ enters (occupied_within s (rectangles_in (content_of s c)))
path-begun s path c = path-push s path (begun c) ∙ ap (λ (xs : List ℕ). tasks_in s path ++ Leave c ∷ enters xs) (ahead_all s (rectangles_in (content_of s c)))

pub path-next : (s : Sheet) (path : List Visit) (v w : Visit) (c : ℕ) → unread s v ≡ c ∷ unread s w → w.cell ≡ v.cell → tasks_in s (path ++ v ∷ []) ≡ tasks_in s (path ++ w ∷ []) ++ Enter c ∷ []
path-next s path v w c h e =
    path-push s path v
    ∙ ap (λ (xs : List ℕ). tasks_in s path ++ Leave v.cell ∷ enters xs) h
    ∙ ap (λ (x : ℕ). tasks_in s path ++ Leave x ∷ enters (c ∷ unread s w)) (sym e)
    ∙ sym (append_assoc (tasks_in s path) (tasks_at s w) (Enter c ∷ []))
    ∙ ap (λ (ts : List Task). ts ++ Enter c ∷ []) (sym (path-push s path w))

pub path-done : (s : Sheet) (path : List Visit) (v : Visit) → unread s v ≡ [] → tasks_in s (path ++ v ∷ []) ≡ tasks_in s path ++ Leave v.cell ∷ []
path-done s path v h = path-push s path v ∙ ap (λ (xs : List ℕ). tasks_in s path ++ Leave v.cell ∷ enters xs) h

pub path-on : (s : Sheet) (path more : List Visit) (v w : Visit) (c : ℕ) → unread s v ≡ c ∷ unread s w → w.cell ≡ v.cell → more ≡ path ++ w ∷ [] → tasks_in s (path ++ v ∷ []) ≡ tasks_in s more ++ Enter c ∷ []
path-on s path more v w c h e m = path-next s path v w c h e ∙ ap (λ (vs : List Visit). tasks_in s vs ++ Enter c ∷ []) (sym m)
