-- The text of an address, written part by part.
use Rattle.wi_cli.proofs.Vocabulary.{◌≡◌, ℕ, zero, suc, ◌+◌, ◌-◌, ◌/◌, ◌%◌, ◌==◌, ◌||◌, Bool, true, false, cond, List, [], ◌∷◌, ◌++◌, refl, sym, ap, ◌∙◌, subst, arith, Option, Appends, Appends-nil, Appends-trans, false≢true, ne_eqb, letters_within, AppendsFront}
use Rattle.wi_cli.proofs.TurnLemmas.{AppendsFront-append, AppendsFront-of}

-- where a letter may be written, only the number tells
by_number : (k number : ℕ) (b : Bool) → (suc k == 0 || number == 0) ≡ b → (number == 0) ≡ b
by_number k number b h = sym (ap (λ x. x || number == 0) (ne_eqb (suc k) 0 (λ e. absurd (omega (arith, e))))) ∙ h

none_left : (most number : ℕ) → (most == 0 || number == 0) ≡ true → letters_within most number ≡ []
unfolding letters_within
none_left zero number h = refl
none_left (suc k) number h = ap (λ b. cond b [] (letters_within k ((number - 1) / 26) ++ (65 + (number - 1) % 26) ∷ [])) (by_number k number true h)

one_more : (most number : ℕ) → (most == 0 || number == 0) ≡ false
    → letters_within most number ≡ letters_within (most - 1) ((number - 1) / 26) ++ (65 + (number - 1) % 26) ∷ []
unfolding letters_within
one_more zero number h = absurd (false≢true (sym h))
one_more (suc k) number h =
    let less : k ≡ suc k - 1 = omega arith in
    ap (λ b. cond b [] (letters_within k ((number - 1) / 26) ++ (65 + (number - 1) % 26) ∷ [])) (by_number k number false h)
    ∙ ap (λ j. letters_within j ((number - 1) / 26) ++ (65 + (number - 1) % 26) ∷ []) less

pub letters_none : (a : Option (List ℕ)) (most number : ℕ) → (most == 0 || number == 0) ≡ true → Appends a a (letters_within most number)
letters_none a most number h = subst (λ bs. Appends a a bs) (sym (none_left most number h)) (Appends-nil a)

pub letters_front : (a b : Option (List ℕ)) (most number : ℕ) → (most == 0 || number == 0) ≡ false
    → AppendsFront a b (letters_within (most - 1) ((number - 1) / 26)) → AppendsFront a b (letters_within most number)
letters_front a b most number h k =
    subst (λ bs. AppendsFront a b bs) (sym (one_more most number h)) (AppendsFront-of a b _ ((65 + (number - 1) % 26) ∷ []) k)

pub letters_last : (a b c : Option (List ℕ)) (most number : ℕ) → (most == 0 || number == 0) ≡ false
    → Appends a b (letters_within (most - 1) ((number - 1) / 26)) → Appends b c ((65 + (number - 1) % 26) ∷ []) → Appends a c (letters_within most number)
letters_last a b c most number h k l =
    subst (λ bs. Appends a c bs) (sym (one_more most number h)) (Appends-trans a b c _ _ k l)

pub letters_cut : (a b c : Option (List ℕ)) (most number : ℕ) → (most == 0 || number == 0) ≡ false
    → Appends a b (letters_within (most - 1) ((number - 1) / 26)) → AppendsFront b c ((65 + (number - 1) % 26) ∷ []) → AppendsFront a c (letters_within most number)
letters_cut a b c most number h k l =
    subst (λ bs. AppendsFront a c bs) (sym (one_more most number h)) (AppendsFront-append a b c _ _ k l)
