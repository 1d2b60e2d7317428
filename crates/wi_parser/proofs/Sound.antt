-- What the reader finds is spelled so.
use Rattle.wi_parser.proofs.Words.{◌≡◌, ℕ, zero, suc, List, [], ◌∷◌, ◌++◌, length, Option, Some, None, option_and_then, refl, sym, ap, ◌∙◌, subst, append_assoc, append-nil, same_Some, then_some, Operator, Reference, Sign, Tree, number, cell, rectangle, parenthesized, signed, percent, binary, what_if, Trees, text, call, no_trees, more_trees, Symbol, numeral, reference, corners, open_parenthesis, close_parenthesis, separator, infix_mark, sign_mark, percent_mark, what_if_name, bad_token, text_literal, name, pair_symbols, what_if_symbols, loosest, Spells, a_number, a_cell, a_rectangle, in_parentheses, one_input, two_inputs, with_sign, with_percent, tighter, joined, SpellsAll, SpellsMore, a_text, a_call, no_parameter, parameters, last_parameter, another_parameter, Parse, Read, read_then, then_close, after_open, after_close, reference_at, sign_of, operator_at, pair_at, one_or_two, inputs_at, what_if_at, atom, prefix_step, prefixed, percents, chain, chain_step, level, expression, if_last, whole, ParseAll, after_separator, put_first, and_then_all, after_parameter, unless_closed, more_parameters, first_parameter, parameters_at, called}
use Rattle.wi_parser.proofs.Marks.{open_is, close_is, reference_is, sign_is, operator_is, pair_is, map_ok, separator_is}

-- ---- what an outcome came from

abbrev some_pair : {A B : Type 0} → A → B → Option (A × B)
some_pair a b = Some (a, b)

pub parts : {A B : Type 0} (a c : A) (b d : B) → some_pair a b ≡ some_pair c d → (a ≡ c) × (b ≡ d)
parts {A} {B} a c b d h =
    let p : A × B = (a, b) in
    let q : A × B = (c, d) in
    let e : p ≡ q = same_Some p q h in
    (ap (λ r. r.0) e, ap (λ r. r.1) e)

then_ok : (f : Tree → Parse) (r : Read) (q : Tree × List Symbol) → read_then f r ≡ Some q → (p : Tree × List Symbol) × (r ≡ Some p) × (f p.0 p.1 ≡ Some q)
then_ok f None q h = cc
then_ok f (Some p) q h = (p, refl, h)

-- ---- each level

-- what a parser finds is spelled by level k, and the rest follows
abbrev pub Finds : ℕ → Parse → Type 0
Finds k p = (ts : List Symbol) (t : Tree) (rest : List Symbol) → p ts ≡ Some (t, rest) → (us : List Symbol) × Spells k t us × (ts ≡ us ++ rest)

-- a tree that is closed
closed_sound : (t u : Tree) (ts rest : List Symbol) → then_close t ts ≡ Some (u, rest) → (t ≡ u) × (ts ≡ close_parenthesis ∷ rest)
closed_sound t u ts rest h =
    let a = map_ok (λ l. (t, l)) (after_close ts) (u, rest) h in
    (ap (λ p. p.0) a.2, close_is ts a.0 a.1 ∙ ap (λ p. close_parenthesis ∷ p.1) a.2)

-- what stands after the formula cell and the first pair
inputs_sound : (f : Reference) (p : Reference × Reference) (ts : List Symbol) (t : Tree) (rest : List Symbol) (o : Option (List Symbol)) → after_close ts ≡ o → one_or_two f p ts o ≡ Some (t, rest)
    → (us : List Symbol) × Spells 0 t (what_if_symbols f (pair_symbols p ++ us)) × (ts ≡ us ++ close_parenthesis ∷ rest)
inputs_sound f p ts t rest (Some us) is h =
    let both = parts (what_if f (p ∷ [])) t us rest h in
    ([], subst (λ u. Spells 0 u (what_if_symbols f (pair_symbols p))) both.0 (one_input f p), close_is ts us is ∙ ap (λ l. close_parenthesis ∷ l) both.1)
inputs_sound f p ts t rest None is h =
    let a = then_some (pair_at ts) (λ q. then_close (what_if f (p ∷ q.0 ∷ [])) q.1) (t, rest) h in
    let q = a.0 in
    let shut = closed_sound (what_if f (p ∷ q.0 ∷ [])) t q.1 rest a.2 in (
      pair_symbols q.0,
      subst (λ u. Spells 0 u (what_if_symbols f (pair_symbols p ++ pair_symbols q.0))) shut.0 (two_inputs f p q.0),
      pair_is ts q a.1 ∙ ap (λ l. pair_symbols q.0 ++ l) shut.1,
    )

what_if_sound : (ts : List Symbol) (t : Tree) (rest : List Symbol) → what_if_at ts ≡ Some (t, rest) → (us : List Symbol) × Spells 0 t us × (what_if_name ∷ ts ≡ us ++ rest)
unfolding what_if_at
what_if_sound ts t rest h =
    let a = then_some (option_and_then reference_at (after_open ts)) (λ f. inputs_at f.0 f.1) (t, rest) h in
    let f = a.0 in
    let b = then_some (after_open ts) reference_at f a.1 in
    let c = then_some (pair_at f.1) (λ p. one_or_two f.0 p.0 p.1 (after_close p.1)) (t, rest) a.2 in
    let p = c.0 in
    let d = inputs_sound f.0 p.0 p.1 t rest (after_close p.1) refl c.2 in
    let parameters = pair_symbols p.0 ++ d.0 in (
      what_if_symbols f.0 parameters,
      d.1,
      ap (λ l. what_if_name ∷ l)
          (open_is ts b.0 b.1 ∙ ap (λ l. open_parenthesis ∷ l)
          (reference_is b.0 f b.2 ∙ ap (λ l. reference f.0 ∷ l)
          (pair_is f.1 p c.1 ∙ ap (λ l. pair_symbols p.0 ++ l) d.2 ∙ sym (append_assoc parameters (close_parenthesis ∷ []) rest)))),
    )

prefixed_sound : (next : Parse) → Finds 0 next → Finds 1 (prefixed next)
prefixed_sound next finds [] t rest h = let a = finds [] t rest h in (a.0, tighter 0 t a.0 a.1, a.2)
prefixed_sound next finds (x ∷ ts) t rest h = at_sign (prefixed_sound next finds ts) (sign_of x) refl h
  where
    at_sign : ((u : Tree) (after : List Symbol) → prefixed next ts ≡ Some (u, after) → (us : List Symbol) × Spells 1 u us × (ts ≡ us ++ after)) → (o : Option Sign) → sign_of x ≡ o → prefix_step (next (x ∷ ts)) (prefixed next ts) o ≡ Some (t, rest)
        → (us : List Symbol) × Spells 1 t us × (x ∷ ts ≡ us ++ rest)
    at_sign again None is e = let a = finds (x ∷ ts) t rest e in (a.0, tighter 0 t a.0 a.1, a.2)
    at_sign again (Some s) is e =
        let found = then_ok (λ u after. Some (signed s u, after)) (prefixed next ts) (t, rest) e in
        let both = parts (signed s found.0.0) t found.0.1 rest found.2 in
        let a = again found.0.0 found.0.1 found.1 in (
          sign_mark s ∷ a.0,
          subst (λ u. Spells 1 u (sign_mark s ∷ a.0)) both.0 (with_sign s found.0.0 a.0 a.1),
          ap (λ y. y ∷ ts) (sign_is x s is) ∙ ap (λ l. sign_mark s ∷ l) (a.2 ∙ ap (λ l. a.0 ++ l) both.1),
        )

-- marks on after what was read
percents_sound : (left : Tree) (ls ts : List Symbol) (t : Tree) (rest : List Symbol) → Spells 2 left ls → percents left ts ≡ Some (t, rest) → (us : List Symbol) × Spells 2 t us × (ls ++ ts ≡ us ++ rest)
percents_sound left ls [] t rest s h =
    let both = parts left t [] rest h in
    (ls, subst (λ u. Spells 2 u ls) both.0 s, ap (λ l. ls ++ l) both.1)
percents_sound left ls (percent_mark ∷ ts) t rest s h =
    let b = percents_sound (percent left) (ls ++ percent_mark ∷ []) ts t rest (with_percent left ls s) h in
    (b.0, b.1, sym (append_assoc ls (percent_mark ∷ []) ts) ∙ b.2)
percents_sound left ls (x ∷ ts) t rest s h =
    let both = parts left t (x ∷ ts) rest h in
    (ls, subst (λ u. Spells 2 u ls) both.0 s, ap (λ l. ls ++ l) both.1)

-- a tree that was found, and the trees after it
found_first : (others : ParseAll) (r : Read) (all : Trees) (rest : List Symbol) → and_then_all others r ≡ Some (all, rest)
    → (p : Tree × List Symbol) × (more : Trees) × (r ≡ Some p) × (others p.1 ≡ Some (more, rest)) × (more_trees p.0 more ≡ all)
found_first others r all rest h =
    let a = then_some r (λ p. put_first p.0 (others p.1)) (all, rest) h in
    let b = map_ok (λ q. (more_trees a.0.0 q.0, q.1)) (others a.0.1) (all, rest) a.2 in
    (a.0, b.0.0, a.1, b.1 ∙ ap (λ q. Some (b.0.0, q.1)) b.2, ap (λ q. q.0) b.2)

module _ (inner : Parse) (sound : Finds loosest inner) where
  more_sound : (n : ℕ) (ts : List Symbol) (all : Trees) (rest : List Symbol) → more_parameters inner n ts ≡ Some (all, rest) → (us : List Symbol) × SpellsMore all us × (ts ≡ us ++ rest)
  unfolding more_parameters
  more_sound zero ts all rest h = cc
  more_sound (suc n) ts all rest h = at_close (λ us more w. more_sound n us more rest w) (after_close ts) refl h
    where
      at_separator : ((us : List Symbol) (more : Trees) → more_parameters inner n us ≡ Some (more, rest) → (vs : List Symbol) × SpellsMore more vs × (us ≡ vs ++ rest)) → (o : Option (List Symbol)) → after_separator ts ≡ o → after_parameter inner (more_parameters inner n) o ≡ Some (all, rest)
          → (us : List Symbol) × SpellsMore all us × (ts ≡ us ++ rest)
      at_separator again None is e = cc
      at_separator again (Some us) is e =
          let first = found_first (more_parameters inner n) (inner us) all rest e in
          let a = sound us first.0.0 first.0.1 first.2 in
          let b = again first.0.1 first.1 first.3 in (
            separator ∷ a.0 ++ b.0,
            subst (λ l. SpellsMore l (separator ∷ a.0 ++ b.0)) first.4 (another_parameter first.0.0 first.1 a.0 b.0 a.1 b.1),
            separator_is ts us is ∙ ap (λ l. separator ∷ l) (a.2 ∙ ap (λ l. a.0 ++ l) b.2 ∙ sym (append_assoc a.0 b.0 rest)),
          )

      at_close : ((us : List Symbol) (more : Trees) → more_parameters inner n us ≡ Some (more, rest) → (vs : List Symbol) × SpellsMore more vs × (us ≡ vs ++ rest)) → (o : Option (List Symbol)) → after_close ts ≡ o → unless_closed inner (more_parameters inner n) ts o ≡ Some (all, rest)
          → (us : List Symbol) × SpellsMore all us × (ts ≡ us ++ rest)
      at_close again None is e = at_separator again (after_separator ts) refl e
      at_close again (Some us) is e =
          let both = parts no_trees all us rest e in
          (close_parenthesis ∷ [], subst (λ l. SpellsMore l (close_parenthesis ∷ [])) both.0 last_parameter, close_is ts us is ∙ ap (λ l. close_parenthesis ∷ l) both.1)

  all_sound : (ts : List Symbol) (all : Trees) (rest : List Symbol) → parameters_at inner ts ≡ Some (all, rest) → (us : List Symbol) × SpellsAll all us × (ts ≡ us ++ rest)
  unfolding parameters_at
  all_sound ts all rest h = at_close (after_close ts) refl h
    where
      at_close : (o : Option (List Symbol)) → after_close ts ≡ o → first_parameter inner ts o ≡ Some (all, rest) → (us : List Symbol) × SpellsAll all us × (ts ≡ us ++ rest)
      at_close None is e =
          let first = found_first (λ l. more_parameters inner (length l) l) (inner ts) all rest e in
          let a = sound ts first.0.0 first.0.1 first.2 in
          let b = more_sound (length first.0.1) first.0.1 first.1 rest first.3 in (
            a.0 ++ b.0,
            subst (λ l. SpellsAll l (a.0 ++ b.0)) first.4 (parameters first.0.0 first.1 a.0 b.0 a.1 b.1),
            a.2 ∙ ap (λ l. a.0 ++ l) b.2 ∙ sym (append_assoc a.0 b.0 rest),
          )
      at_close (Some us) is e =
          let both = parts no_trees all us rest e in
          (close_parenthesis ∷ [], subst (λ l. SpellsAll l (close_parenthesis ∷ [])) both.0 no_parameter, close_is ts us is ∙ ap (λ l. close_parenthesis ∷ l) both.1)

  call_sound : (f : List ℕ) (ts : List Symbol) (t : Tree) (rest : List Symbol) (o : Option (List Symbol)) → after_open ts ≡ o → called inner f o ≡ Some (t, rest)
      → (us : List Symbol) × Spells 0 t us × (name f ∷ ts ≡ us ++ rest)
  call_sound f ts t rest None is e = cc
  call_sound f ts t rest (Some us) is e =
      let found = map_ok (λ p. (call f p.0, p.1)) (parameters_at inner us) (t, rest) e in
      let same : call f found.0.0 ≡ t = ap (λ q. q.0) found.2 in
      let a = all_sound us found.0.0 rest (found.1 ∙ ap (λ q. Some (found.0.0, q.1)) found.2) in (
        name f ∷ open_parenthesis ∷ a.0,
        subst (λ u. Spells 0 u (name f ∷ open_parenthesis ∷ a.0)) same (a_call f found.0.0 a.0 a.1),
        ap (λ l. name f ∷ l) (open_is ts us is) ∙ ap (λ l. name f ∷ open_parenthesis ∷ l) a.2,
      )

  atom_sound : Finds 0 (atom inner)
  unfolding atom
  atom_sound [] t rest h = cc
  atom_sound (numeral x ∷ ts) t rest h =
      let both = parts (number x) t ts rest h in
      (numeral x ∷ [], subst (λ u. Spells 0 u (numeral x ∷ [])) both.0 (a_number x), ap (λ l. numeral x ∷ l) both.1)
  atom_sound (text_literal s ∷ ts) t rest h =
      let both = parts (text s) t ts rest h in
      (text_literal s ∷ [], subst (λ u. Spells 0 u (text_literal s ∷ [])) both.0 (a_text s), ap (λ l. text_literal s ∷ l) both.1)
  atom_sound (reference r ∷ ts) t rest h =
      let both = parts (cell r) t ts rest h in
      (reference r ∷ [], subst (λ u. Spells 0 u (reference r ∷ [])) both.0 (a_cell r), ap (λ l. reference r ∷ l) both.1)
  atom_sound (corners c ∷ ts) t rest h =
      let both = parts (rectangle c) t ts rest h in
      (corners c ∷ [], subst (λ u. Spells 0 u (corners c ∷ [])) both.0 (a_rectangle c), ap (λ l. corners c ∷ l) both.1)
  atom_sound (open_parenthesis ∷ ts) t rest h =
      let inside = then_ok (λ u. then_close (parenthesized u)) (inner ts) (t, rest) h in
      let a = sound ts inside.0.0 inside.0.1 inside.1 in
      let shut = closed_sound (parenthesized inside.0.0) t inside.0.1 rest inside.2 in (
        open_parenthesis ∷ a.0 ++ close_parenthesis ∷ [],
        subst (λ u. Spells 0 u (open_parenthesis ∷ a.0 ++ close_parenthesis ∷ [])) shut.0 (in_parentheses inside.0.0 a.0 a.1),
        ap (λ l. open_parenthesis ∷ l) (a.2 ∙ ap (λ l. a.0 ++ l) shut.1 ∙ sym (append_assoc a.0 (close_parenthesis ∷ []) rest)),
      )
  atom_sound (what_if_name ∷ ts) t rest h = what_if_sound ts t rest h
  atom_sound (name f ∷ ts) t rest h = call_sound f ts t rest (after_open ts) refl h
  atom_sound (close_parenthesis ∷ ts) t rest h = cc
  atom_sound (separator ∷ ts) t rest h = cc
  atom_sound (infix_mark op ∷ ts) t rest h = cc
  atom_sound (percent_mark ∷ ts) t rest h = cc
  atom_sound (bad_token e ∷ ts) t rest h = cc

  chain_sound : (next : Parse) (k : ℕ) → Finds k next → (n : ℕ) (left : Tree) (ls ts : List Symbol) (t : Tree) (rest : List Symbol) → Spells (suc k) left ls → chain next (suc k) n left ts ≡ Some (t, rest)
      → (us : List Symbol) × Spells (suc k) t us × (ls ++ ts ≡ us ++ rest)
  unfolding chain
  chain_sound next k finds zero left ls ts t rest s h =
      let both = parts left t ts rest h in
      (ls, subst (λ u. Spells (suc k) u ls) both.0 s, ap (λ l. ls ++ l) both.1)
  chain_sound next k finds (suc n) left ls ts t rest s h = at_operator (λ l us vs w e. chain_sound next k finds n l us vs t rest w e) (operator_at (suc k) ts) refl h
    where
      at_operator : ((l : Tree) (us vs : List Symbol) → Spells (suc k) l us → chain next (suc k) n l vs ≡ Some (t, rest) → (ws : List Symbol) × Spells (suc k) t ws × (us ++ vs ≡ ws ++ rest)) → (o : Option (Operator × List Symbol)) → operator_at (suc k) ts ≡ o → chain_step next (chain next (suc k) n) left ts o ≡ Some (t, rest)
          → (us : List Symbol) × Spells (suc k) t us × (ls ++ ts ≡ us ++ rest)
      at_operator again None is e =
          let both = parts left t ts rest e in
          (ls, subst (λ u. Spells (suc k) u ls) both.0 s, ap (λ l. ls ++ l) both.1)
      at_operator again (Some p) is e =
          let found = then_ok (λ r rest. chain next (suc k) n (binary p.0 left r) rest) (next p.1) (t, rest) e in
          let a = finds p.1 found.0.0 found.0.1 found.1 in
          let op = operator_is (suc k) ts p.1 p.0 is in
          let b = again (binary p.0 left found.0.0) (ls ++ infix_mark p.0 ∷ a.0) found.0.1 (joined k p.0 left found.0.0 ls a.0 op.0 s a.1) found.2 in
          (b.0, b.1, ap (λ l. ls ++ l) (op.1 ∙ ap (λ l. infix_mark p.0 ∷ l) a.2) ∙ sym (append_assoc ls (infix_mark p.0 ∷ a.0) found.0.1) ∙ b.2)

  pub line_sound : (k : ℕ) → Finds k (level inner k)
  unfolding level
  line_sound zero ts t rest h = atom_sound ts t rest h
  line_sound (suc zero) ts t rest h = prefixed_sound (atom inner) atom_sound ts t rest h
  line_sound (suc (suc zero)) ts t rest h =
      let first = then_ok percents (prefixed (atom inner) ts) (t, rest) h in
      let a = prefixed_sound (atom inner) atom_sound ts first.0.0 first.0.1 first.1 in
      let b = percents_sound first.0.0 a.0 first.0.1 t rest (tighter 1 first.0.0 a.0 a.1) first.2 in
      (b.0, b.1, a.2 ∙ b.2)
  line_sound (suc (suc (suc k))) ts t rest h =
      let next = level inner (suc (suc k)) in
      let first = then_ok (λ t rest. chain next (suc (suc (suc k))) (length rest) t rest) (next ts) (t, rest) h in
      let a = line_sound (suc (suc k)) ts first.0.0 first.0.1 first.1 in
      let b = chain_sound next (suc (suc k)) (line_sound (suc (suc k))) _ first.0.0 a.0 first.0.1 t rest (tighter (suc (suc k)) first.0.0 a.0 a.1) first.2 in
      (b.0, b.1, a.2 ∙ b.2)

pub expression_sound : (d : ℕ) → Finds loosest (expression d)
unfolding expression
expression_sound zero ts t rest h = cc
expression_sound (suc d) ts t rest h = line_sound (expression d) (expression_sound d) loosest ts t rest h

last_ok : (t u : Tree) (rest : List Symbol) → if_last t rest ≡ Some u → (t ≡ u) × (rest ≡ [])
last_ok t u [] h = (cc, refl)
last_ok t u (x ∷ rest) h = cc

some_first : (r : Read) (t : Tree) → option_and_then (λ p. if_last p.0 p.1) r ≡ Some t → r ≡ Some (t, [])
some_first None t h = cc
some_first (Some p) t h = let l = last_ok p.0 t p.1 h in ap (λ u. Some (u, p.1)) l.0 ∙ ap (λ r. Some (t, r)) l.1

-- what the symbols are read as is spelled by them
pub whole_sound : (d : ℕ) (ts : List Symbol) (t : Tree) → whole d ts ≡ Some t → Spells loosest t ts
whole_sound d ts t h =
    let a = expression_sound d ts t [] (some_first (expression d ts) t h) in
    subst (λ l. Spells loosest t l) (sym (a.2 ∙ append-nil a.0)) a.1
