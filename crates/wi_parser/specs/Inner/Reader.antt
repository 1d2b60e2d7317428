-- What a reader from the left finds: a tree and the symbols after it, or nothing.
use Rattle.std.specs.Prelude.{ℕ, zero, suc, List, [], ◌∷◌, length, cond, ◌==◌, nat_le, Option, Some, None, option_map, option_and_then}
use Rattle.wi_parser.specs.declared.expr.Operator.{Operator}
use Rattle.wi_parser.specs.declared.expr.Operator.TheVariants.{Add, Subtract}
use Rattle.wi_parser.specs.declared.expr.Reference.{Reference}
use Rattle.wi_parser.specs.declared.expr.Sign.{Sign}
use Rattle.wi_parser.specs.declared.expr.Sign.TheVariants.{Plus, Minus}
use Rattle.wi_parser.specs.Tree.{Tree, number, cell, rectangle, parenthesized, signed, percent, binary, what_if, Trees, text, call, no_trees, more_trees}
use Rattle.wi_parser.specs.Symbol.{Symbol, numeral, reference, corners, open_parenthesis, close_parenthesis, separator, infix_mark, percent_mark, what_if_name, text_literal, name}
use Rattle.wi_parser.specs.Grammar.{level_of}
use Rattle.wi_parser.specs.Inner.Levels.{loosest}

-- a tree found, and what follows it
abbrev pub Read : Type 0
Read = Option (Tree × List Symbol)

abbrev pub Parse : Type 0
Parse = List Symbol → Read

-- what was found, read on from there
abbrev pub read_then : (Tree → Parse) → Read → Read
read_then f r = option_and_then (λ p. f p.0 p.1) r

-- what follows this mark, where it stands first
abbrev pub after_open : List Symbol → Option (List Symbol)
after_open (open_parenthesis ∷ ts) = Some ts
after_open ts = None

abbrev pub after_close : List Symbol → Option (List Symbol)
after_close (close_parenthesis ∷ ts) = Some ts
after_close ts = None

abbrev pub after_separator : List Symbol → Option (List Symbol)
after_separator (separator ∷ ts) = Some ts
after_separator ts = None

abbrev pub after_percent : List Symbol → Option (List Symbol)
after_percent (percent_mark ∷ ts) = Some ts
after_percent ts = None

-- the reference that stands first, and what follows it
abbrev pub reference_at : List Symbol → Option (Reference × List Symbol)
reference_at (reference r ∷ ts) = Some (r, ts)
reference_at ts = None

-- the sign that is written so
abbrev pub sign_of : Symbol → Option Sign
sign_of (infix_mark Add) = Some Plus
sign_of (infix_mark Subtract) = Some Minus
sign_of s = None

-- the sign that stands first, and what follows it
abbrev pub sign_at : List Symbol → Option (Sign × List Symbol)
sign_at [] = None
sign_at (x ∷ ts) = option_map (λ s. (s, ts)) (sign_of x)

-- the operator of this level that stands first, and what follows it
abbrev pub operator_at : ℕ → List Symbol → Option (Operator × List Symbol)
operator_at k (infix_mark op ∷ ts) = cond (level_of op == k) (Some (op, ts)) None
operator_at k ts = None

-- the operator of this level or a tighter one that stands first, and what follows it
abbrev pub operator_within : ℕ → List Symbol → Option (Operator × List Symbol)
operator_within k (infix_mark op ∷ ts) = cond (nat_le (level_of op) k) (Some (op, ts)) None
operator_within k ts = None

-- the tree, where the mark that closes stands next
abbrev pub then_close : Tree → Parse
then_close t ts = option_map (λ rest. (t, rest)) (after_close ts)

-- ---- what-ifs

-- a reference after a separator, and what follows it
abbrev pub parameter_at : List Symbol → Option (Reference × List Symbol)
parameter_at ts = option_and_then reference_at (after_separator ts)

-- an input and its replacement cell, and what follows them
unfoldable pub pair_at : List Symbol → Option ((Reference × Reference) × List Symbol)
pair_at ts = option_and_then (λ r. option_map (λ x. ((r.0, x.0), x.1)) (parameter_at r.1)) (parameter_at ts)

-- the end, or a second pair and the end
abbrev pub one_or_two : Reference → Reference × Reference → List Symbol → Option (List Symbol) → Read
one_or_two f p ts (Some rest) = Some (what_if f (p ∷ []), rest)
one_or_two f p ts None = option_and_then (λ q. then_close (what_if f (p ∷ q.0 ∷ [])) q.1) (pair_at ts)

-- what stands after the formula cell of a what-if
abbrev pub inputs_at : Reference → Parse
inputs_at f ts = option_and_then (λ p. one_or_two f p.0 p.1 (after_close p.1)) (pair_at ts)

-- what stands after the name of a what-if
unfoldable pub what_if_at : Parse
what_if_at ts = option_and_then (λ f. inputs_at f.0 f.1) (option_and_then reference_at (after_open ts))

-- ---- calls

-- trees found, and what follows them
abbrev pub ReadAll : Type 0
ReadAll = Option (Trees × List Symbol)

abbrev pub ParseAll : Type 0
ParseAll = List Symbol → ReadAll

-- the tree before the trees that were found
abbrev pub put_first : Tree → ReadAll → ReadAll
put_first t r = option_map (λ p. (more_trees t p.0, p.1)) r

-- a tree that was found, and the trees after it
abbrev pub and_then_all : ParseAll → Read → ReadAll
and_then_all others r = option_and_then (λ p. put_first p.0 (others p.1)) r

abbrev pub after_parameter : Parse → ParseAll → Option (List Symbol) → ReadAll
after_parameter inner again None = None
after_parameter inner again (Some us) = and_then_all again (inner us)

abbrev pub unless_closed : Parse → ParseAll → List Symbol → Option (List Symbol) → ReadAll
unless_closed inner again ts (Some rest) = Some (no_trees, rest)
unless_closed inner again ts None = after_parameter inner again (after_separator ts)

-- The parameters after the first, and the parenthesis that closes. The number bounds the turns.
unfoldable pub more_parameters : Parse → ℕ → ParseAll
more_parameters inner zero ts = None
more_parameters inner (suc n) ts = unless_closed inner (more_parameters inner n) ts (after_close ts)

abbrev pub first_parameter : Parse → List Symbol → Option (List Symbol) → ReadAll
first_parameter inner ts (Some rest) = Some (no_trees, rest)
first_parameter inner ts None = and_then_all (λ rest. more_parameters inner (length rest) rest) (inner ts)

-- the parameters and the parenthesis that closes
unfoldable pub parameters_at : Parse → ParseAll
parameters_at inner ts = first_parameter inner ts (after_close ts)

-- the call of a function with the parameters that were found
abbrev pub as_call : List ℕ → ReadAll → Read
as_call f r = option_map (λ p. (call f p.0, p.1)) r

-- what stands after the name of a function
abbrev pub called : Parse → List ℕ → Option (List Symbol) → Read
called inner f None = None
called inner f (Some us) = as_call f (parameters_at inner us)

-- ---- levels

-- a number, a text, a cell, a rectangle, what stands in parentheses, which `inner` reads, a what-if, or a call
unfoldable pub atom : Parse → Parse
atom inner (numeral x ∷ ts) = Some (number x, ts)
atom inner (text_literal s ∷ ts) = Some (text s, ts)
atom inner (reference r ∷ ts) = Some (cell r, ts)
atom inner (corners c ∷ ts) = Some (rectangle c, ts)
atom inner (open_parenthesis ∷ ts) = read_then (λ t. then_close (parenthesized t)) (inner ts)
atom inner (what_if_name ∷ ts) = what_if_at ts
atom inner (name f ∷ ts) = called inner f (after_open ts)
atom inner ts = None

-- what was found, with a sign before it
abbrev pub signed_read : Sign → Read → Read
signed_read s = read_then (λ t rest. Some (signed s t, rest))

-- a sign and what follows it, or what is found without one
abbrev pub prefix_step : Read → Read → Option Sign → Read
prefix_step bare after None = bare
prefix_step bare after (Some s) = signed_read s after

-- any number of signs, and what `next` reads
abbrev pub prefixed : Parse → Parse
prefixed next [] = next []
prefixed next (x ∷ ts) = prefix_step (next (x ∷ ts)) (prefixed next ts) (sign_of x)

-- any number of percent marks after what was read
abbrev pub percents : Tree → Parse
percents t [] = Some (t, [])
percents t (percent_mark ∷ ts) = percents (percent t) ts
percents t (x ∷ ts) = Some (t, x ∷ ts)

-- an operator, where one stands, and its right operand, and so on
abbrev pub chain_step : Parse → (Tree → Parse) → Tree → List Symbol → Option (Operator × List Symbol) → Read
chain_step next again left ts None = Some (left, ts)
chain_step next again left ts (Some p) = read_then (λ r rest. again (binary p.0 left r) rest) (next p.1)

-- Operators of level k after what was read, grouped to the left. The number n bounds the turns.
unfoldable pub chain : Parse → ℕ → ℕ → Tree → Parse
chain next k zero left ts = Some (left, ts)
chain next k (suc n) left ts = chain_step next (chain next k n) left ts (operator_at k ts)

-- one level of the grammar, by its number
unfoldable pub level : Parse → ℕ → Parse
unfolding atom chain
level inner zero ts = atom inner ts
level inner (suc zero) ts = prefixed (atom inner) ts
level inner (suc (suc zero)) ts = read_then percents (prefixed (atom inner) ts)
level inner (suc (suc (suc k))) ts =
    read_then (λ t rest. chain (level inner (suc (suc k))) (suc (suc (suc k))) (length rest) t rest) (level inner (suc (suc k)) ts)

-- an expression in which fewer parenthesized trees than the number stand one inside another
unfoldable pub expression : ℕ → Parse
unfolding level
expression zero ts = None
expression (suc d) ts = level (expression d) loosest ts

abbrev pub if_last : Tree → List Symbol → Option Tree
if_last t [] = Some t
if_last t (x ∷ ts) = None

-- the tree that all of the symbols are read as
abbrev pub whole : ℕ → List Symbol → Option Tree
whole d ts = option_and_then (λ p. if_last p.0 p.1) (expression d ts)
