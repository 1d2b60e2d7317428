-- Folds until an error: over the cells of a reference, over the arguments, and of what a struct holds.
use Rattle.wi_fold_functions.proofs.Words.{◌≡◌, List, [], ◌∷◌, refl, sym, ap, ◌∙◌, Result, Ok, Err, ErrorKind, Value, Item, ◌>>=◌, and_then, fold_until_error, go_on_through}

-- after an error no item makes a difference
pub stays : {A : Type 0} (step : A → Item → Result A ErrorKind) (e : ErrorKind) (items : List Item) → go_on_through step (Err e) items ≡ Err e
stays step e [] = refl
stays step e (x ∷ xs) = stays step e xs

-- ---- of what a struct holds

module _ {A B : Type 0} (held : B → A) (holding : A → B) (f : A → Item → Result A ErrorKind) (value : A → Value) (same : (a : A) → held (holding a) ≡ a) (back : (b : B) → holding (held b) ≡ b) where
  -- the step on the struct
  abbrev pub step_held : B → Item → Result B ErrorKind
  step_held b item = and_then (λ a. Ok (holding a)) (f (held b) item)

  through : (r : Result A ErrorKind) (items : List Item) → (go_on_through step_held (and_then (λ a. Ok (holding a)) r) items >>= (λ b. value (held b))) ≡ (go_on_through f r items >>= value)
  through (Err e) items = ap (λ (r : Result B ErrorKind). r >>= (λ b. value (held b))) (stays step_held e items) ∙ sym (ap (λ (r : Result A ErrorKind). r >>= value) (stays f e items))
  through (Ok a) [] = ap value (same a)
  through (Ok a) (x ∷ xs) = ap (λ (c : A). go_on_through step_held (and_then (λ d. Ok (holding d)) (f c x)) xs >>= (λ b. value (held b))) (same a) ∙ through (f a x) xs

  pub fold_held : (b : B) (items : List Item) → (fold_until_error step_held b items >>= (λ c. value (held c))) ≡ (fold_until_error f (held b) items >>= value)
  fold_held b items = ap (λ (c : B). fold_until_error step_held c items >>= (λ d. value (held d))) (sym (back b)) ∙ through (Ok (held b)) items
