-- A text's records are those that are read until there is none.
use Rattle.std.specs.Prelude.{IfSome, if◌then◌else◌}
use Rattle.std.proofs.Common.{◌≡◌, ◌==◌, ◌≤◌, ◌<◌, ◌+◌, ◌∷◌, ◌∙◌, [], ℕ, zero, suc, List, Bool, Option, Some, None, refl, sym, ap, subst, true, false, arith, length}
use Rattle.csv.specs.Machine.{Read, next_record, step, in_field, start_field, start_record, after_end, is_end, ends_with, ends_at_end}
use Rattle.csv.specs.Reading.{AreRecords, Reached, default_config, records_from, records_next, strip_bom}
use Rattle.csv.specs.declared.parser.Action.{Action}
use Rattle.csv.specs.declared.parser.Action.TheVariants as act
use Rattle.csv.specs.declared.parser.Terminator.TheVariants as term
use Rattle.csv.specs.declared.parser.State.{State}
use Rattle.csv.specs.declared.parser.State.TheVariants as st
use Rattle.wi_csv.specs.Records.{recs}

either : {A : Type 0} (P : A → Type 0) (b : Bool) (x y : A) → (b ≡ true → P x) → (b ≡ false → P y) → P (if b then x else y)
either P true x y h k = h refl
either P false x y h k = k refl

-- a byte that ends a record begins none
abbrev Ends : State × Action → Type 0
Ends p = is_end p.1 ≡ true → ends_at_end p.0 ≡ false

after_ends : (c : ℕ) → Ends (after_end term.CRLF c, act.EndRecord)
after_ends c h = either (λ s. ends_at_end s ≡ false) (c == 13) st.AfterCr st.StartRecord (λ e. refl) (λ e. refl)

field_ends : (c : ℕ) → Ends (in_field default_config c)
field_ends c = either Ends (c == 44) _ _ (λ e h. cc h) (λ e. either Ends (ends_with term.CRLF c) _ _ (λ f. after_ends c) (λ f h. cc h))

start_ends : (c : ℕ) → Ends (start_field default_config c)
start_ends c = either Ends (c == 34) _ _ (λ e h. cc h) (λ e. field_ends c)

record_ends : (c : ℕ) → Ends (start_record default_config c)
record_ends c = either Ends (ends_with term.CRLF c) _ _ (λ e h. refl) (λ e. start_ends c)

step_ends : (s : State) (c : ℕ) → Ends (step default_config s c)
step_ends st.StartRecord c = record_ends c
step_ends st.StartField c = start_ends c
step_ends st.InField c = field_ends c
step_ends st.InQuoted c = either Ends (c == 34) _ _ (λ e h. cc h) (λ e h. cc h)
step_ends st.InEscape c = λ h. cc h
step_ends st.AfterQuote c = either Ends (c == 34) _ _ (λ e h. cc h) (λ e. field_ends c)
step_ends st.InComment c = either Ends (c == 10) _ _ (λ e h. refl) (λ e h. cc h)
step_ends st.AfterCr c = either Ends (c == 10) _ _ (λ e h. refl) (λ e. record_ends c)

-- a record that is found ends, and leaves fewer than n bytes
abbrev Leaves : ℕ → Option Read → Type 0
Leaves n o = IfSome o (λ q. (ends_at_end q.1 ≡ false) × (length q.2 < n))

weaken : (n m : ℕ) (o : Option Read) → n ≤ m → Leaves n o → Leaves m o
weaken n m None l h = tt
weaken n m (Some q) l h = (h.0, omega (arith, h.1))

leaves : (xs : List ℕ) (s : State) (fields : List (List ℕ)) (field : List ℕ) → Leaves (length xs + 1) (next_record default_config s fields field xs)
unfolding next_record
leaves [] s fields field = either (Leaves 1) (ends_at_end s) _ _ (λ e. (refl, omega arith)) (λ e. tt)
leaves (c ∷ rest) s fields field =
    either (Leaves (length (c ∷ rest) + 1)) (is_end (step default_config s c).1) _ _ (λ e. (step_ends s c e, omega arith))
    (λ e. weaken (length rest + 1) (length (c ∷ rest) + 1) _ (omega arith) (leaves rest _ _ _))

-- where none is begun, a record takes a byte at least
takes : (s : State) (xs : List ℕ) → ends_at_end s ≡ false → Leaves (length xs) (next_record default_config s [] [] xs)
unfolding next_record
takes s [] none = either (Leaves 0) (ends_at_end s) _ _ (λ e. cc (sym none ∙ e)) (λ e. tt)
takes s (c ∷ rest) none =
    either (Leaves (length (c ∷ rest))) (is_end (step default_config s c).1) _ _ (λ e. (step_ends s c e, omega arith))
    (λ e. weaken (length rest + 1) (length (c ∷ rest)) _ (omega arith) (leaves rest _ _ _))

-- so there are no more records than bytes
counted : (s : State) (xs : List ℕ) (rows : List (List (List ℕ))) (s2 : State) (ys : List ℕ) → ends_at_end s ≡ false
    → Reached default_config s xs rows s2 ys → length rows ≤ length xs
unfolding Reached
counted s xs [] s2 ys none h = omega arith
counted s xs (r ∷ rs) s2 ys none (p, found, same, more) =
    let left = subst (Leaves (length xs)) found (takes s xs none) in
    omega (arith, left.1, counted p.1 p.2 rs s2 ys left.0 more)

listed : (n : ℕ) (s : State) (xs : List ℕ) (rows : List (List (List ℕ))) (s2 : State) (ys : List ℕ)
    → Reached default_config s xs rows s2 ys → next_record default_config s2 [] [] ys ≡ None → length rows ≤ n → records_from default_config n s xs ≡ rows
unfolding Reached records_from
listed zero s xs [] s2 ys h none l = refl
listed (suc n) s xs [] s2 ys h none l =
    let found : next_record default_config s [] [] xs ≡ None = rw (h.0, h.1) none in
    ap (records_next (records_from default_config n)) found
listed zero s xs (r ∷ rs) s2 ys h none l = absurd (omega (arith, l))
listed (suc n) s xs (r ∷ rs) s2 ys (p, found, same, more) none l =
    ap (records_next (records_from default_config n)) found
    ∙ ap (λ t. t ∷ records_from default_config n p.1 p.2) (sym same)
    ∙ ap (λ ts. r ∷ ts) (listed n p.1 p.2 rs s2 ys more none (omega (arith, l)))

-- all that are read are the records of the text
pub all_read : (text : List ℕ) (rows : List (List (List ℕ))) → AreRecords default_config st.StartRecord (strip_bom text) rows → rows ≡ recs text
unfolding recs
all_read text rows (s2, ys, reached, none) =
    let few = counted st.StartRecord (strip_bom text) rows s2 ys refl reached in
    sym (listed (length (strip_bom text) + 1) st.StartRecord (strip_bom text) rows s2 ys reached none (omega (arith, few)))
