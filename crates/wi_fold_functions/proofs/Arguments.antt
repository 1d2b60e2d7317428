-- A fold over the items of arguments, one argument after another.
use Rattle.wi_fold_functions.proofs.Words.{◌≡◌, ℕ, ◌+◌, ◌<◌, true, List, [], ◌∷◌, map, drop, get_or, length, Option, None, refl, sym, ap, ◌∙◌, subst, Result, Ok, Err, IfOk, IfErr, is_err, IsErrAnd, drop_more, list_any_at, fold-append, Area, cells_of, ErrorKind, Value, argument_in, arguments_in, refers_to, KnownAgrees, IsMissing, IsOfArguments, after_cells, Argument, Item, from_cell, sequence_of, fold_until_error, items_of, go_on, go_on_through, shown}
use Rattle.wi_arguments.specs.declared.argument.Argument as given
use Rattle.wi_fold_functions.proofs.Steps.{stays}

-- what takes cells one after another goes on as with the items that they are
through_cells : {A S : Type 0} (step : A → Item → Result A ErrorKind) (so_far : S → Result A ErrorKind) (after : S → ℕ → Value → S) → ((s : S) (c : ℕ) (v : Value) → so_far (after s c v) ≡ go_on step (so_far s) (from_cell v)) →
    (cells : ℕ → Value) (s : S) (xs : List ℕ) → so_far (after_cells after cells s xs) ≡ go_on_through step (so_far s) (map from_cell (map cells xs))
through_cells step so_far after same cells s [] = refl
through_cells {A = A} step so_far after same cells s (x ∷ xs) =
    through_cells step so_far after same cells (after s x (cells x)) xs ∙ ap (λ (r : Result A ErrorKind). go_on_through step r (map from_cell (map cells xs))) (same s x (cells x))

-- so that a reference is taken by its cells
pub reference_taken : {A S : Type 0} (step : A → Item → Result A ErrorKind) (cells : ℕ → Value) (r : Area) (arg : given.Argument) (s t : S) (so_far : S → Result A ErrorKind) (after : S → ℕ → Value → S) → ((s : S) (c : ℕ) (v : Value) → so_far (after s c v) ≡ go_on step (so_far s) (from_cell v)) →
    arg ≡ given.TheVariants.Reference r → t ≡ after_cells after cells s (cells_of r) → so_far t ≡ go_on_through step (so_far s) (items_of (argument_in cells arg))
reference_taken step cells r arg s t so_far after same is e =
    ap so_far e ∙ through_cells step so_far after same cells s (cells_of r) ∙ ap (λ (a : given.Argument). go_on_through step (so_far s) (items_of (argument_in cells a))) (sym is)

module _ {A : Type 0} (step : A → Item → Result A ErrorKind) where
  -- what is left makes of what was made so far what all make of the start
  abbrev pub Rest : (ℕ → Option Value) → List given.Argument → A → Result A ErrorKind → List given.Argument → Type 0
  Rest known args start so_far left = (cells : ℕ → Value) → KnownAgrees known cells → go_on_through step so_far (sequence_of (arguments_in cells left)) ≡ fold_until_error step start (sequence_of (arguments_in cells args))

  -- one more argument is taken
  goes_on : (known : ℕ → Option Value) (args : List given.Argument) (start : A) (before after : Result A ErrorKind) (left : List given.Argument) (arg : given.Argument) (rest : List given.Argument) → Rest known args start before left → left ≡ arg ∷ rest →
      ((cells : ℕ → Value) → KnownAgrees known cells → after ≡ go_on_through step before (items_of (argument_in cells arg))) → Rest known args start after rest
  goes_on known args start before after left arg rest h e taken cells agrees =
      ap (λ (r : Result A ErrorKind). go_on_through step r (sequence_of (arguments_in cells rest))) (taken cells agrees)
      ∙ sym (fold-append (go_on step) before (items_of (argument_in cells arg)) (sequence_of (arguments_in cells rest)))
      ∙ subst (Rest known args start before) e h cells agrees

  pub next : (known : ℕ → Option Value) (args : List given.Argument) (start : A) (before after : Result A ErrorKind) (i : ℕ) (arg : given.Argument) → i < length args → arg ≡ get_or args i arg → Rest known args start before (drop i args) →
      ((cells : ℕ → Value) → KnownAgrees known cells → after ≡ go_on_through step before (items_of (argument_in cells arg))) → Rest known args start after (drop (i + 1) args)
  next known args start before after i arg l is h taken =
      goes_on known args start before after (drop i args) arg (drop (i + 1) args) h (drop_more args i arg l ∙ ap (λ (x : given.Argument). x ∷ drop (i + 1) args) (sym is)) taken

  no_more : (r : Result A ErrorKind) (items : List Item) → is_err r ≡ true → r ≡ go_on_through step r items
  no_more (Ok a) items e = cc
  no_more (Err e) items h = sym (stays step e items)

  -- an error is what all make
  pub stops : (value : A → Value) (known : ℕ → Option Value) (args : List given.Argument) (start : A) (so_far : Result A ErrorKind) (left : List given.Argument) → Rest known args start so_far left → is_err so_far ≡ true →
      (cells : ℕ → Value) → KnownAgrees known cells → shown value so_far ≡ shown value (fold_until_error step start (sequence_of (arguments_in cells args)))
  stops value known args start so_far left h e cells agrees = ap (shown value) (no_more so_far (sequence_of (arguments_in cells left)) e ∙ h cells agrees)

  -- and so is what was made where none is left
  pub ends : (value : A → Value) (known : ℕ → Option Value) (args : List given.Argument) (start : A) (so_far : Result A ErrorKind) (left : List given.Argument) → Rest known args start so_far left → left ≡ [] →
      (cells : ℕ → Value) → KnownAgrees known cells → shown value so_far ≡ shown value (fold_until_error step start (sequence_of (arguments_in cells args)))
  ends value known args start so_far left h e cells agrees = ap (shown value) (subst (Rest known args start so_far) e h cells agrees)

-- a cell to which one of the arguments refers is missing
pub one_missing : {V : Type 0} (known : ℕ → Option Value) (args : List given.Argument) (i : ℕ) (arg : given.Argument) (cell : ℕ) (r : Result V ℕ) → IsErrAnd r (λ c. c ≡ cell) → i < length args → arg ≡ get_or args i arg →
    known cell ≡ None → refers_to cell arg ≡ true → IfErr r (IsMissing known args)
one_missing known args i arg cell (Ok v) h l is none referred = absurd h
one_missing known args i arg cell (Err c) h l is none referred =
    subst (IsMissing known args) (sym h) (none, list_any_at (refers_to cell) args i arg l (ap (refers_to cell) (sym is) ∙ referred))

-- where one function of arguments is another, what the first gives the second does
pub of_arguments : {E : Type 0} (known : ℕ → Option Value) (args : List given.Argument) (f g : List Argument → Value) (r : Result Value E) → ((xs : List Argument) → f xs ≡ g xs) →
    IfOk r (λ v. (cells : ℕ → Value) → KnownAgrees known cells → v ≡ f (arguments_in cells args)) → IfOk r (IsOfArguments known g args)
of_arguments known args f g (Ok v) same h = λ cells agrees. h cells agrees ∙ same (arguments_in cells args)
of_arguments known args f g (Err e) same h = tt
