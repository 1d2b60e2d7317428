-- A code for trees, which the type of formulas needs: a list of steps in postfix order, from which the tree is built
-- again.
use Rattle.std.specs.Prelude.{◌≡◌, ℕ, zero, suc, Bool, false, List, [], ◌∷◌, ◌++◌, refl}
use Rattle.std.proofs.Common.{ap, ◌∙◌}
use Rattle.std.specs.Coded.{Coded, code_by, coded×, coded_ℕ, coded_bool, coded_list}
use Rattle.wi_fraction.specs.Number.{Number}
use Rattle.wi_fraction.specs.Number.Laws.{number_code}
use Rattle.wi_parser.specs.declared.expr.Operator.{Operator}
use Rattle.wi_parser.specs.declared.expr.Operator.TheVariants.{Add, Subtract, Multiply, Divide, Power, Join, Equal, NotEqual, Less, LessOrEqual, Greater, GreaterOrEqual}
use Rattle.wi_parser.specs.declared.expr.Reference.{Reference}
use Rattle.wi_parser.specs.declared.expr.Sign.{Sign}
use Rattle.wi_parser.specs.declared.expr.Sign.TheVariants.{Plus, Minus}
use Rattle.wi_parser.specs.Tree.{Tree, Trees, number, text, cell, rectangle, parenthesized, signed, percent, binary, what_if, call, no_trees, more_trees, trees_of}

-- a step: which form, of which kind, bytes, numbers and references
abbrev pub TreeStep : Type 0
TreeStep = ℕ × (ℕ × (List ℕ × (List Number × List (Reference × Reference))))

abbrev pub reference_code : Coded Reference
reference_code =
    code_by (ℕ × (Bool × Bool)) (coded× coded_ℕ (coded× coded_bool coded_bool))
    (λ r. (r.at, (r.column_is_absolute, r.row_is_absolute)))
    (λ p. record { at = p.0; column_is_absolute = p.1.0; row_is_absolute = p.1.1 }) (λ _. refl)

abbrev operator_code : Operator → ℕ
operator_code Add = 0
operator_code Subtract = 1
operator_code Multiply = 2
operator_code Divide = 3
operator_code Power = 4
operator_code Join = 5
operator_code Equal = 6
operator_code NotEqual = 7
operator_code Less = 8
operator_code LessOrEqual = 9
operator_code Greater = 10
operator_code GreaterOrEqual = 11

abbrev operator_at : ℕ → Operator
operator_at zero = Add
operator_at (suc zero) = Subtract
operator_at (suc (suc zero)) = Multiply
operator_at (suc (suc (suc zero))) = Divide
operator_at (suc (suc (suc (suc zero)))) = Power
operator_at (suc (suc (suc (suc (suc zero))))) = Join
operator_at (suc (suc (suc (suc (suc (suc zero)))))) = Equal
operator_at (suc (suc (suc (suc (suc (suc (suc zero))))))) = NotEqual
operator_at (suc (suc (suc (suc (suc (suc (suc (suc zero)))))))) = Less
operator_at (suc (suc (suc (suc (suc (suc (suc (suc (suc zero))))))))) = LessOrEqual
operator_at (suc (suc (suc (suc (suc (suc (suc (suc (suc (suc zero)))))))))) = Greater
operator_at (suc (suc (suc (suc (suc (suc (suc (suc (suc (suc (suc k))))))))))) = GreaterOrEqual

operator_at-code : (op : Operator) → operator_at (operator_code op) ≡ op
operator_at-code Add = refl
operator_at-code Subtract = refl
operator_at-code Multiply = refl
operator_at-code Divide = refl
operator_at-code Power = refl
operator_at-code Join = refl
operator_at-code Equal = refl
operator_at-code NotEqual = refl
operator_at-code Less = refl
operator_at-code LessOrEqual = refl
operator_at-code Greater = refl
operator_at-code GreaterOrEqual = refl

abbrev sign_code : Sign → ℕ
sign_code Plus = 0
sign_code Minus = 1

abbrev sign_at : ℕ → Sign
sign_at zero = Plus
sign_at (suc k) = Minus

sign_at-code : (s : Sign) → sign_at (sign_code s) ≡ s
sign_at-code Plus = refl
sign_at-code Minus = refl

abbrev mutual
  pub steps : Tree → List TreeStep
  steps (number x) = (0, (0, ([], (x ∷ [], [])))) ∷ []
  steps (cell r) = (1, (0, ([], ([], (r, r) ∷ [])))) ∷ []
  steps (rectangle c) = (1, (1, ([], ([], (c.one, c.other) ∷ [])))) ∷ []
  steps (parenthesized t) = steps t ++ (2, (0, ([], ([], [])))) ∷ []
  steps (signed s t) = steps t ++ (3, (sign_code s, ([], ([], [])))) ∷ []
  steps (percent t) = steps t ++ (4, (0, ([], ([], [])))) ∷ []
  steps (binary op t u) = steps t ++ (steps u ++ (5, (operator_code op, ([], ([], [])))) ∷ [])
  steps (what_if f ps) = (6, (0, ([], ([], (f, f) ∷ ps)))) ∷ []
  steps (text s) = (7, (0, (s, ([], [])))) ∷ []
  steps (call f ts) = (8, (0, ([], ([], [])))) ∷ steps_of_all ts ++ (9, (0, (f, ([], [])))) ∷ []

  -- the last tree comes first
  pub steps_of_all : Trees → List TreeStep
  steps_of_all no_trees = []
  steps_of_all (more_trees t ts) = steps_of_all ts ++ steps t

abbrev add_number : List Number → List Tree → List Tree
add_number [] ts = ts
add_number (x ∷ xs) ts = number x ∷ ts

-- kind 0 is a cell, and 1 a rectangle
abbrev add_reference : ℕ → List (Reference × Reference) → List Tree → List Tree
add_reference k [] ts = ts
add_reference zero (p ∷ ps) ts = cell p.0 ∷ ts
add_reference (suc k) (p ∷ ps) ts = rectangle (record { one = p.0; other = p.1 }) ∷ ts

abbrev enclose : List Tree → List Tree
enclose [] = []
enclose (t ∷ ts) = parenthesized t ∷ ts

abbrev sign : ℕ → List Tree → List Tree
sign k [] = []
sign k (t ∷ ts) = signed (sign_at k) t ∷ ts

abbrev take_percent : List Tree → List Tree
take_percent [] = []
take_percent (t ∷ ts) = percent t ∷ ts

abbrev add_what_if : List (Reference × Reference) → List Tree → List Tree
add_what_if [] ts = ts
add_what_if (p ∷ ps) ts = what_if p.0 ps ∷ ts

abbrev join : ℕ → List Tree → List Tree
join k (u ∷ t ∷ ts) = binary (operator_at k) t u ∷ ts
join k ts = ts

-- the trees built so far, the newest first, and those put aside for the parameters of a call
abbrev pub Built : Type 0
Built = List Tree × List (List Tree)

abbrev on_newest : (List Tree → List Tree) → Built → Built
on_newest f b = (f b.0, b.1)

abbrev put_aside : Built → Built
put_aside b = ([], b.0 ∷ b.1)

abbrev add_call : List ℕ → List Tree → List (List Tree) → Built
add_call f ts [] = (ts, [])
add_call f ts (us ∷ aside) = (call f (trees_of ts) ∷ us, aside)

abbrev build : ℕ → ℕ → List ℕ → List Number → List (Reference × Reference) → Built → Built
build zero k s xs ps b = on_newest (add_number xs) b
build (suc zero) k s xs ps b = on_newest (add_reference k ps) b
build (suc (suc zero)) k s xs ps b = on_newest enclose b
build (suc (suc (suc zero))) k s xs ps b = on_newest (sign k) b
build (suc (suc (suc (suc zero)))) k s xs ps b = on_newest take_percent b
build (suc (suc (suc (suc (suc zero))))) k s xs ps b = on_newest (join k) b
build (suc (suc (suc (suc (suc (suc zero)))))) k s xs ps b = on_newest (add_what_if ps) b
build (suc (suc (suc (suc (suc (suc (suc zero))))))) k s xs ps b = on_newest (λ ts. text s ∷ ts) b
build (suc (suc (suc (suc (suc (suc (suc (suc zero)))))))) k s xs ps b = put_aside b
build (suc (suc (suc (suc (suc (suc (suc (suc (suc form))))))))) k s xs ps b = add_call s b.0 b.1

-- what is built from the steps
abbrev run : List TreeStep → Built → Built
run [] b = b
run (e ∷ es) b = run es (build e.0 e.1.0 e.1.1.0 e.1.1.1.0 e.1.1.1.1 b)

abbrev top : List Tree → Tree
top [] = what_if (record { at = 0; column_is_absolute = false; row_is_absolute = false }) []
top (t ∷ ts) = t

abbrev tree_at_top : List TreeStep → Tree
tree_at_top es = top (run es ([], [])).0

run-append : (xs ys : List TreeStep) (b : Built) → run (xs ++ ys) b ≡ run ys (run xs b)
run-append [] ys b = refl
run-append (x ∷ xs) ys b = run-append xs ys _

abbrev with_tree : Tree → Built → Built
with_tree t b = (t ∷ b.0, b.1)

-- the steps of one tree, and a step on it
after-one : (xs : List TreeStep) (e : TreeStep) (t : Tree) (b : Built) → run xs b ≡ with_tree t b → run (xs ++ e ∷ []) b ≡ run (e ∷ []) (with_tree t b)
after-one xs e t b is = run-append xs (e ∷ []) b ∙ ap (run (e ∷ [])) is

-- the steps of two trees, and a step on both
after-two : (xs ys : List TreeStep) (e : TreeStep) (t u : Tree) (b : Built) →
    run xs b ≡ with_tree t b → run ys (with_tree t b) ≡ with_tree u (with_tree t b) →
    run (xs ++ (ys ++ e ∷ [])) b ≡ run (e ∷ []) (with_tree u (with_tree t b))
after-two xs ys e t u b is both =
    run-append xs (ys ++ e ∷ []) b ∙ ap (run (ys ++ e ∷ [])) is
    ∙ run-append ys (e ∷ []) (with_tree t b) ∙ ap (run (e ∷ [])) both

abbrev list_of : Trees → List Tree
list_of no_trees = []
list_of (more_trees t ts) = t ∷ list_of ts

trees_of-list_of : (ts : Trees) → trees_of (list_of ts) ≡ ts
trees_of-list_of no_trees = refl
trees_of-list_of (more_trees t ts) = ap (more_trees t) (trees_of-list_of ts)

mutual
  run-steps : (t : Tree) (b : Built) → run (steps t) b ≡ with_tree t b
  run-steps (number x) b = refl
  run-steps (cell r) b = refl
  run-steps (rectangle c) b = refl
  run-steps (parenthesized t) b = after-one (steps t) (2, (0, ([], ([], [])))) t b (run-steps t b)
  run-steps (signed s t) b =
      after-one (steps t) (3, (sign_code s, ([], ([], [])))) t b (run-steps t b) ∙ ap (λ s. with_tree (signed s t) b) (sign_at-code s)
  run-steps (percent t) b = after-one (steps t) (4, (0, ([], ([], [])))) t b (run-steps t b)
  run-steps (binary op t u) b =
      after-two (steps t) (steps u) (5, (operator_code op, ([], ([], [])))) t u b (run-steps t b) (run-steps u (with_tree t b))
      ∙ ap (λ op. with_tree (binary op t u) b) (operator_at-code op)
  run-steps (what_if f ps) b = refl
  run-steps (text s) b = refl
  run-steps (call f ts) b =
      run-append (steps_of_all ts) ((9, (0, (f, ([], [])))) ∷ []) (put_aside b)
      ∙ ap (run ((9, (0, (f, ([], [])))) ∷ [])) (run-all ts (b.0 ∷ b.1))
      ∙ ap (λ ts. with_tree (call f ts) b) (trees_of-list_of ts)

  run-all : (ts : Trees) (aside : List (List Tree)) → run (steps_of_all ts) ([], aside) ≡ (list_of ts, aside)
  run-all no_trees aside = refl
  run-all (more_trees t ts) aside =
      run-append (steps_of_all ts) (steps t) ([], aside) ∙ ap (run (steps t)) (run-all ts aside) ∙ run-steps t (list_of ts, aside)

pub tree_at_top-steps : (t : Tree) → tree_at_top (steps t) ≡ t
tree_at_top-steps t = ap (λ b. top b.0) (run-steps t ([], []))

-- a tree is stored as its steps
abbrev pub tree_code : Coded Tree
tree_code =
    code_by (List TreeStep) (coded_list (coded× coded_ℕ (coded× coded_ℕ (coded× (coded_list coded_ℕ) (coded× (coded_list number_code) (coded_list (coded× reference_code reference_code)))))))
    steps tree_at_top tree_at_top-steps
