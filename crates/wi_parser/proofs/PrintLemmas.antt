-- What is appended to a text that must stay at the front.
use Rattle.wi_parser.proofs.Words.{◌≡◌, refl, ℕ, List, ◌++◌, sym, ap, ◌∙◌, [], ◌∷◌, append_assoc, map, codes, cond, Result, Ok, Err, is_ok, OnOk, append-nil, subst, starts_with_of_append, flat_map, StartsWith, reference_text, Expr, Operator, Pair, Reference, pair_symbols, spelling, spelling_of_more, Tree, Trees, parenthesized, percent, binary, what_if, no_trees, more_trees, Symbol, close_parenthesis, infix_mark, percent_mark, tree_of, all_of, pair_of, written_cell, operator_text, symbol_text, symbols_text, tree_text, pairs_text}
pub use Rattle.std.proofs.Transfers.{starts_with_trans}
use Rattle.std.proofs.lemmas.List.Concat.{flat_map-append}
pub use Rattle.wi_fraction.proofs.Decimals.{starts_itself, starts_more, starts_pushed, cut_place}

-- what a text begins with, a text that is the same begins with
pub starts_same : (o d front : List ℕ) → d ≡ o → StartsWith o front → StartsWith d front
starts_same o d front h k = subst (λ x. StartsWith x front) (sym h) k

-- what begins with a longer text begins with that one's front
pub starts_on : (o a d more : List ℕ) → a ≡ o ++ more → StartsWith d a → StartsWith d o
starts_on o a d more h k = starts_with_trans d a o k (starts_with_of_append a o more h)

-- a part, and where that went well what follows it
pub after_written : {E : Type 0} (r : Result (Unit {0}) E) (o a d m t : List ℕ) → a ≡ o ++ m → OnOk r (d ≡ a ++ t) → OnOk r (d ≡ o ++ (m ++ t))
after_written (Ok u) o a d m t h k = k ∙ ap (λ x. x ++ t) h ∙ append_assoc o m t
after_written (Err e) o a d m t h k = tt

-- the text of symbols and of others after them
pub symbols_more : (xs ys : List Symbol) → symbols_text (xs ++ ys) ≡ symbols_text xs ++ symbols_text ys
symbols_more xs ys = flat_map-append symbol_text xs ys

-- a what-if, written part by part
pub what_if_written : {E : Type 0} (r : Result (Unit {0}) E) (f : Reference) (pairs : List Pair) (o a b c d : List ℕ)
    → a ≡ o ++ codes "MULTIPLE.OPERATIONS(" → b ≡ a ++ reference_text (written_cell f) → c ≡ b ++ pairs_text pairs → d ≡ cond (is_ok r) (c ++ codes ")") c
    → OnOk r (d ≡ o ++ tree_text (what_if f (map pair_of pairs)))
what_if_written (Err e) f pairs o a b c d h k l m = tt
what_if_written (Ok u) f pairs o a b c d h k l m =
    let name = codes "MULTIPLE.OPERATIONS(" in
    let cell = reference_text (written_cell f) in
    let inputs = pairs_text pairs in
    m ∙ ap (λ x. x ++ codes ")") (l ∙ ap (λ x. x ++ inputs) (k ∙ ap (λ x. x ++ cell) h))
    ∙ append_assoc ((o ++ name) ++ cell) inputs (codes ")") ∙ append_assoc (o ++ name) cell (inputs ++ codes ")") ∙ append_assoc o name (cell ++ (inputs ++ codes ")"))
    ∙ ap (λ x. o ++ (name ++ (cell ++ x))) (sym (symbols_more (flat_map pair_symbols (map pair_of pairs)) (close_parenthesis ∷ [])))

-- ---- parameters

-- parameters of which the first follows this separator, and the parenthesis that closes
abbrev pub parameters_from : List ℕ → Trees → List ℕ
parameters_from sep no_trees = codes ")"
parameters_from sep (more_trees t ts) = sep ++ (tree_text t ++ symbols_text (spelling_of_more ts))

pub from_other : (ts : Trees) → parameters_from (codes ";") ts ≡ symbols_text (spelling_of_more ts)
from_other no_trees = refl
from_other (more_trees t ts) = ap (λ x. 59 ∷ x) (sym (symbols_more (spelling t) (spelling_of_more ts)))

-- one parameter is written
pub parameter_written : (out sep : List ℕ) (t : Tree) (ts : Trees) → ((out ++ sep) ++ tree_text t) ++ parameters_from (codes ";") ts ≡ out ++ parameters_from sep (more_trees t ts)
parameter_written out sep t ts =
    ap (λ x. ((out ++ sep) ++ tree_text t) ++ x) (from_other ts)
    ∙ append_assoc (out ++ sep) (tree_text t) (symbols_text (spelling_of_more ts)) ∙ append_assoc out sep (tree_text t ++ symbols_text (spelling_of_more ts))

-- the last parenthesis, after all parameters
pub parameters_closed : {E : Type 0} (r : Result (Unit {0}) E) (o w d sep all : List ℕ) (es : List Expr)
    → es ≡ [] → w ++ parameters_from sep (all_of es) ≡ o ++ all → d ≡ cond (is_ok r) (w ++ codes ")") w → OnOk r (d ≡ o ++ all)
parameters_closed (Ok u) o w d sep all es none h k = k ∙ sym (ap (λ xs. w ++ parameters_from sep (all_of xs)) none) ∙ h
parameters_closed (Err e) o w d sep all es none h k = tt

-- ---- one expression

-- the text of the tree that an expression stands for is the expression's
pub tree_written : {E : Type 0} (r : Result (Unit {0}) E) (o d : List ℕ) (e : Expr) (t : Tree) → tree_of e ≡ t → OnOk r (d ≡ o ++ tree_text t) → OnOk r (d ≡ o ++ tree_text (tree_of e))
tree_written r o d e t same h = subst (λ u. OnOk r (d ≡ o ++ tree_text u)) (sym same) h

-- so it is where the tree has one symbol
pub symbol_written : {E : Type 0} (r : Result (Unit {0}) E) (o d word : List ℕ) (e : Expr)
    → OnOk r (d ≡ o ++ word) → tree_text (tree_of e) ≡ word ++ [] → OnOk r (d ≡ o ++ tree_text (tree_of e))
symbol_written r o d word e h same = subst (λ x. OnOk r (d ≡ o ++ x)) (sym (same ∙ append-nil word)) h

pub binary_written : {E : Type 0} (r : Result (Unit {0}) E) (o a d : List ℕ) (e : Expr) (op : Operator) (t u : Tree)
    → tree_of e ≡ binary op t u → a ≡ o ++ tree_text t → OnOk r (d ≡ a ++ (operator_text op ++ tree_text u)) → OnOk r (d ≡ o ++ tree_text (tree_of e))
binary_written (Ok x) o a d e op t u same h k =
    let more = operator_text op ++ tree_text u in
    k ∙ ap (λ x. x ++ more) h ∙ append_assoc o (tree_text t) more ∙ ap (λ x. o ++ x) (sym (symbols_more (spelling t) (infix_mark op ∷ spelling u)))
    ∙ ap (λ v. o ++ tree_text v) (sym same)
binary_written (Err x) o a d e op t u same h k = tt

pub percent_written : {E : Type 0} (r : Result (Unit {0}) E) (o a d : List ℕ) (t : Tree)
    → a ≡ o ++ tree_text t → d ≡ cond (is_ok r) (a ++ codes "%") a → OnOk r (d ≡ o ++ tree_text (percent t))
percent_written (Ok u) o a d t h k =
    k ∙ ap (λ x. x ++ codes "%") h ∙ append_assoc o (tree_text t) (codes "%") ∙ ap (λ x. o ++ x) (sym (symbols_more (spelling t) (percent_mark ∷ [])))
percent_written (Err e) o a d t h k = tt

pub parenthesized_written : {E : Type 0} (r : Result (Unit {0}) E) (o a b d : List ℕ) (t : Tree)
    → a ≡ o ++ codes "(" → b ≡ a ++ tree_text t → d ≡ cond (is_ok r) (b ++ codes ")") b → OnOk r (d ≡ o ++ tree_text (parenthesized t))
parenthesized_written (Ok u) o a b d t h k l =
    l ∙ ap (λ x. x ++ codes ")") (k ∙ ap (λ x. x ++ tree_text t) h) ∙ append_assoc (o ++ codes "(") (tree_text t) (codes ")") ∙ append_assoc o (codes "(") (tree_text t ++ codes ")")
    ∙ ap (λ x. o ++ 40 ∷ x) (sym (symbols_more (spelling t) (close_parenthesis ∷ [])))
parenthesized_written (Err e) o a b d t h k l = tt
