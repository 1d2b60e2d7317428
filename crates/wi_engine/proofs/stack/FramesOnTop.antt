-- The frames that stand in the two lists of the stack, where one is put on top or taken off.
use Rattle.wi_engine.proofs.Words.{◌≡◌, ◌==◌, ◌+◌, ◌-◌, ◌<◌, ◌≤◌, ℕ, Bool, true, List, [], ◌∷◌, ◌++◌, length, Some, None, refl, ap, sym, ◌∙◌, arith, append-nil, length-append, eqb-true, Vec, vec_len, Frame, Nothing, Cells, Beside, More, OneCell, Entry, Rest, StackedFrame, cells_of, other_than_cells, seen_as, stacked, waits_for_one, with_rest, frame_of, rests_behind, frames_in, with_its_rest, count_more, HaveRests, IsWithFrame}

-- ---- a frame that waits for one cell

-- a list of no length
nothing_there : {X : Type 0} (xs : List X) (n : ℕ) → n ≡ length xs → n ≡ 0 → xs ≡ []
nothing_there [] n e z = refl
nothing_there (x ∷ xs) n e z = absurd (omega (arith, e, z))

pub none_there : {X : Type 0} (v : Vec X) → vec_len v ≡ 0 → v.items ≡ []
none_there v z = nothing_there v.items (vec_len v) v.ok.0 z

-- where a list's test tells that it has none
pub none_complete : {X : Type 0} (v : Vec X) (b : Bool) → b ≡ (vec_len v == 0) → b ≡ true → v.items ≡ []
none_complete v b complete t = none_there v (eqb-true (vec_len v) 0 (sym complete ∙ t))

pub only_one : (f : Frame) (a : ℕ) (others : Vec ℕ) → f.found.lists ≡ None → f.waiting ≡ Cells a others → others.items ≡ [] → f.scans.items ≡ [] → stacked f ≡ waits_for_one f.key f.formula.now a
only_one f a others found waits alone scans =
    let cells : cells_of f.waiting ≡ Some (a, []) = ap cells_of waits ∙ ap (λ (xs : List ℕ). Some (a, xs)) alone in
    let otherwise : other_than_cells f.waiting ≡ Nothing = ap other_than_cells waits in
    λ i. seen_as f.key f.formula.now (record { lists = found i }) (cells i) (otherwise i) (scans i)

-- ---- the frames of entries, with other rests behind their own

no_more : (n : ℕ) → n + 1 ≡ 0 → ⊥
no_more n h = omega (arith, h)

some_there : (r : Rest) (rs : List Rest) → 0 ≡ length (r ∷ rs) → ⊥
some_there r rs h = omega (arith, h)

one_fewer : (n : ℕ) (r : Rest) (rs : List Rest) → n + 1 ≡ length (r ∷ rs) → n ≡ length rs
one_fewer n r rs h = omega (arith, h)

frames_more : (es : List Entry) (rs xs : List Rest) → HaveRests es rs → frames_in es (rs ++ xs) ≡ frames_in es rs
frames_more [] rs xs h = refl
frames_more (e ∷ es) rs xs h = by e.beside rs h (λ qs k. frames_more es qs xs k)
  where
    by : (b : Beside) (qs : List Rest) → with_its_rest b (count_more es) ≡ length qs → ((ps : List Rest) → HaveRests es ps → frames_in es (ps ++ xs) ≡ frames_in es ps) →
        frame_of e b (qs ++ xs) ∷ frames_in es (rests_behind b (qs ++ xs)) ≡ frame_of e b qs ∷ frames_in es (rests_behind b qs)
    by (OneCell a) qs k rest = ap (λ (l : List StackedFrame). waits_for_one e.key e.formula.now a ∷ l) (rest qs k)
    by More [] k rest = absurd (no_more (count_more es) k)
    by More (r ∷ qs) k rest = ap (λ (l : List StackedFrame). with_rest e.key e.formula.now r ∷ l) (rest qs (one_fewer (count_more es) r qs k))

-- what of the second list stands for none of these
abbrev rests_left : List Entry → List Rest → List Rest
rests_left [] rs = rs
rests_left (e ∷ es) rs = rests_left es (rests_behind e.beside rs)

left_behind : (es : List Entry) (rs xs : List Rest) → HaveRests es rs → rests_left es (rs ++ xs) ≡ xs
left_behind [] [] xs h = refl
left_behind [] (r ∷ rs) xs h = absurd (some_there r rs h)
left_behind (e ∷ es) rs xs h = by e.beside rs h (λ qs k. left_behind es qs xs k)
  where
    by : (b : Beside) (qs : List Rest) → with_its_rest b (count_more es) ≡ length qs → ((ps : List Rest) → HaveRests es ps → rests_left es (ps ++ xs) ≡ xs) → rests_left es (rests_behind b (qs ++ xs)) ≡ xs
    by (OneCell a) qs k rest = rest qs k
    by More [] k rest = absurd (no_more (count_more es) k)
    by More (r ∷ qs) k rest = rest qs (one_fewer (count_more es) r qs k)

-- ---- an entry on top of others

frames_on_top : (es : List Entry) (e : Entry) (rs : List Rest) → frames_in (es ++ e ∷ []) rs ≡ frames_in es rs ++ frame_of e e.beside (rests_left es rs) ∷ []
frames_on_top [] e rs = refl
frames_on_top (d ∷ es) e rs = ap (λ (l : List StackedFrame). frame_of d d.beside rs ∷ l) (frames_on_top es e (rests_behind d.beside rs))

swapped : (b c : Beside) (n : ℕ) → with_its_rest b (with_its_rest c n) ≡ with_its_rest c (with_its_rest b n)
swapped (OneCell x) (OneCell y) n = refl
swapped (OneCell x) More n = refl
swapped More (OneCell y) n = refl
swapped More More n = refl

count_on_top : (es : List Entry) (e : Entry) → count_more (es ++ e ∷ []) ≡ with_its_rest e.beside (count_more es)
count_on_top [] e = refl
count_on_top (d ∷ es) e = ap (with_its_rest d.beside) (count_on_top es e) ∙ swapped d.beside e.beside (count_more es)

-- ---- one that waits for one cell

module _ (es : List Entry) (e : Entry) {fs : List Entry} {a : ℕ} (is : fs ≡ es ++ e ∷ []) (one : e.beside ≡ OneCell a) where
  pub on_one_cell : (f : Frame) → waits_for_one e.key e.formula.now a ≡ stacked f → IsWithFrame es fs f
  on_one_cell f seen rs =
      let top : frame_of e e.beside (rests_left es rs) ≡ stacked f = ap (λ (b : Beside). frame_of e b (rests_left es rs)) one ∙ seen in
      ap (λ (l : List Entry). frames_in l rs) is ∙ frames_on_top es e rs ∙ ap (λ (x : StackedFrame). frames_in es rs ++ x ∷ []) top

  pub count_one : count_more fs ≡ count_more es
  count_one = ap count_more is ∙ count_on_top es e ∙ ap (λ (b : Beside). with_its_rest b (count_more es)) one

-- ---- one that has more, with what stands for it on top of the second list

module _ (es : List Entry) (e : Entry) {fs : List Entry} (is : fs ≡ es ++ e ∷ []) (one : e.beside ≡ More) where
  count_with : count_more fs ≡ count_more es + 1
  count_with = ap count_more is ∙ count_on_top es e ∙ ap (λ (b : Beside). with_its_rest b (count_more es)) one

  -- there is one
  pub some_rest : (rs : Vec Rest) → HaveRests fs rs.items → 0 < vec_len rs
  some_rest rs h =
      let count : count_more fs ≡ count_more es + 1 = count_with in
      let long : vec_len rs ≡ length rs.items = rs.ok.0 in
      let all : count_more fs ≡ length rs.items = h in
      omega (arith, count, long, all)

module _ (es : List Entry) (e : Entry) (rs : List Rest) (r : Rest) {fs : List Entry} {qs : List Rest} (is : fs ≡ es ++ e ∷ []) (more : qs ≡ rs ++ r ∷ []) (one : e.beside ≡ More) where
  long : length qs ≡ length rs + 1
  long = ap (λ (l : List Rest). length l) more ∙ length-append rs (r ∷ [])

  pub rests_pushed : HaveRests es rs → HaveRests fs qs
  rests_pushed h =
      let count : count_more fs ≡ count_more es + 1 = count_with es e is one in
      let all : count_more es ≡ length rs = h in
      let complete : count_more fs ≡ length qs = omega (arith, count, long, all) in
      complete

  pub rests_popped : HaveRests fs qs → HaveRests es rs
  rests_popped h =
      let count : count_more fs ≡ count_more es + 1 = count_with es e is one in
      let all : count_more fs ≡ length qs = h in
      let complete : count_more es ≡ length rs = omega (arith, count, long, all) in
      complete

  pub on_rest : (f : Frame) → with_rest e.key e.formula.now r ≡ stacked f → HaveRests es rs → frames_in fs qs ≡ frames_in es rs ++ stacked f ∷ []
  on_rest f seen h =
      let others : frames_in es qs ≡ frames_in es rs = ap (frames_in es) more ∙ frames_more es rs (r ∷ []) h in
      let own : rests_left es qs ≡ r ∷ [] = ap (rests_left es) more ∙ left_behind es rs (r ∷ []) h in
      let top : frame_of e e.beside (rests_left es qs) ≡ stacked f = ap (λ (b : Beside). frame_of e b (rests_left es qs)) one ∙ ap (frame_of e More) own ∙ seen in
      ap (λ (l : List Entry). frames_in l qs) is ∙ frames_on_top es e qs ∙ ap (λ (x : StackedFrame). frames_in es qs ++ x ∷ []) top ∙ ap (λ (l : List StackedFrame). l ++ stacked f ∷ []) others

-- ---- none, and the same

pub no_frames : (es : List Entry) (rs : List Rest) → es ≡ [] → frames_in es rs ≡ []
no_frames es rs e = ap (λ (l : List Entry). frames_in l rs) e

pub no_rests : (es : List Entry) (rs : List Rest) → es ≡ [] → rs ≡ [] → HaveRests es rs
no_rests es rs e r = ap count_more e ∙ sym (ap (λ (l : List Rest). length l) r)

pub same_frames : {es fs : List Entry} {rs qs : List Rest} → fs ≡ es → qs ≡ rs → frames_in fs qs ≡ frames_in es rs
same_frames {es} {fs} {rs} {qs} e r = ap (λ (l : List Entry). frames_in l qs) e ∙ ap (frames_in es) r

pub same_rests : {es fs : List Entry} {rs qs : List Rest} → fs ≡ es → qs ≡ rs → HaveRests es rs → HaveRests fs qs
same_rests {es} {fs} {rs} {qs} e r h = ap count_more e ∙ h ∙ sym (ap (λ (l : List Rest). length l) r)

-- where none was there to be taken off
pub none_off : (es fs : List Entry) (rs : List Rest) → es ≡ fs ++ [] → HaveRests es rs → HaveRests fs rs
none_off es fs rs e h = ap count_more (sym (append-nil fs)) ∙ ap count_more (sym e) ∙ h

-- ---- room

pub space_left : (len most others more : ℕ) → (len < most) × (others < more) → (1 ≤ most - len) × (1 ≤ more - others)
space_left len most others more h = (omega (arith, h.0), omega (arith, h.1))

pub space_there : (len most others more : ℕ) → (1 ≤ most - len) × (1 ≤ more - others) → (len < most) × (others < more)
space_there len most others more h = (omega (arith, h.0), omega (arith, h.1))
