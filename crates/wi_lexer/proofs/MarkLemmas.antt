-- The mark found at the front stands there.
use Rattle.wi_lexer.proofs.Words.{◌≡◌, ℕ, Bool, true, false, cond, ◌&&◌, ◌==◌, List, [], ◌∷◌, ◌++◌, Option, Some, None, refl, sym, ap, ◌∙◌, option_or, eqb-true, and_parts, same_Some, OpenParenthesis, CloseParenthesis, Plus, Minus, Asterisk, Slash, Caret, Percent, Ampersand, Equal, NotEqual, Less, LessOrEqual, Greater, GreaterOrEqual, Semicolon, mark_text, two_byte_mark, one_byte_mark, mark_at}
use Rattle.wi_lexer.specs.declared.token.Mark.{Mark}

-- A test chooses a mark whose text the bytes are, or leaves the choice to later ones.
choose : (text : List ℕ) (t : Bool) (k m : Mark) (o : Option Mark) → (t ≡ true → text ≡ mark_text k) → (o ≡ Some m → text ≡ mark_text m) → cond t (Some k) o ≡ Some m → text ≡ mark_text m
choose text true k m o here later h = here refl ∙ ap mark_text (same_Some k m h)
choose text false k m o here later h = later h

choose_byte : (b n : ℕ) (k m : Mark) (o : Option Mark) → n ∷ [] ≡ mark_text k → (o ≡ Some m → b ∷ [] ≡ mark_text m) → cond (b == n) (Some k) o ≡ Some m → b ∷ [] ≡ mark_text m
choose_byte b n k m o is = choose (b ∷ []) (b == n) k m o (λ e. ap (λ x. x ∷ []) (eqb-true b n e) ∙ is)

one_byte_is : (b : ℕ) (m : Mark) → one_byte_mark b ≡ Some m → b ∷ [] ≡ mark_text m
unfolding one_byte_mark
one_byte_is b m =
    choose_byte b 40 OpenParenthesis m _ refl
    (choose_byte b 41 CloseParenthesis m _ refl
    (choose_byte b 43 Plus m _ refl
    (choose_byte b 45 Minus m _ refl
    (choose_byte b 42 Asterisk m _ refl
    (choose_byte b 47 Slash m _ refl
    (choose_byte b 94 Caret m _ refl
    (choose_byte b 37 Percent m _ refl
    (choose_byte b 38 Ampersand m _ refl
    (choose_byte b 61 Equal m _ refl
    (choose_byte b 60 Less m _ refl
    (choose_byte b 62 Greater m _ refl
    (choose_byte b 59 Semicolon m _ refl
    (λ h. cc)))))))))))))

choose_bytes : (a b n p : ℕ) (k m : Mark) (o : Option Mark) → n ∷ p ∷ [] ≡ mark_text k → (o ≡ Some m → a ∷ b ∷ [] ≡ mark_text m) → cond ((a == n) && (b == p)) (Some k) o ≡ Some m → a ∷ b ∷ [] ≡ mark_text m
choose_bytes a b n p k m o is = choose (a ∷ b ∷ []) ((a == n) && (b == p)) k m o here
  where
    here : ((a == n) && (b == p)) ≡ true → a ∷ b ∷ [] ≡ mark_text k
    here e = let q = and_parts (a == n) (b == p) e in ap (λ x. x ∷ b ∷ []) (eqb-true a n q.0) ∙ ap (λ x. n ∷ x ∷ []) (eqb-true b p q.1) ∙ is

two_bytes_are : (a b : ℕ) (m : Mark) → two_byte_mark a b ≡ Some m → a ∷ b ∷ [] ≡ mark_text m
unfolding two_byte_mark
two_bytes_are a b m =
    choose_bytes a b 60 62 NotEqual m _ refl
    (choose_bytes a b 60 61 LessOrEqual m _ refl
    (choose_bytes a b 62 61 GreaterOrEqual m _ refl
    (λ h. cc)))

-- one byte is no mark of two
alone : (a : ℕ) → two_byte_mark a 0 ≡ None
unfolding two_byte_mark
alone a = go (a == 60) (a == 62)
  where
    go : (less greater : Bool) → cond (less && false) (Some NotEqual) (cond (less && false) (Some LessOrEqual) (cond (greater && false) (Some GreaterOrEqual) None)) ≡ None
    go true true = refl
    go true false = refl
    go false true = refl
    go false false = refl

no_byte : (m : Mark) → mark_at [] ≡ Some m → ⊥
unfolding mark_at two_byte_mark one_byte_mark
no_byte m h = cc

-- the bytes are the mark and what follows it
pub record BeginsWith (m : Mark) (bs : List ℕ) : Type 0 where
  pub after : List ℕ
  pub is : mark_text m ++ after ≡ bs

begins_one : (b : ℕ) (bs : List ℕ) (m : Mark) → one_byte_mark b ≡ Some m → BeginsWith m (b ∷ bs)
begins_one b bs m h = record { after = bs; is = ap (λ t. t ++ bs) (sym (one_byte_is b m h)) }

begins_two : (a b : ℕ) (bs : List ℕ) (m : Mark) → two_byte_mark a b ≡ Some m → BeginsWith m (a ∷ b ∷ bs)
begins_two a b bs m h = record { after = bs; is = ap (λ t. t ++ bs) (sym (two_bytes_are a b m h)) }

pub mark_sound : (bs : List ℕ) (m : Mark) → mark_at bs ≡ Some m → BeginsWith m bs
unfolding mark_at
mark_sound [] m h = absurd (no_byte m h)
mark_sound (a ∷ []) m h = begins_one a [] m (sym (ap (λ o. option_or o (one_byte_mark a)) (alone a)) ∙ h)
mark_sound (a ∷ b ∷ bs) m h = go (two_byte_mark a b) refl h
  where
    go : (o : Option Mark) → two_byte_mark a b ≡ o → option_or o (one_byte_mark a) ≡ Some m → BeginsWith m (a ∷ b ∷ bs)
    go (Some k) e f = begins_two a b bs m (e ∙ f)
    go None e f = begins_one a (b ∷ bs) m f
