-- Steps along a chain of scenarios.
use Rattle.wi_scenario_list.proofs.Words.{◌≡◌, ℕ, ◌-◌, ◌<◌, ◌≤◌, suc, zero, length, List, ◌∷◌, Option, Some, refl, sym, ap, ◌∙◌, arith, Value, Replacement, as_map, as_map-as_replacements, as_replacements-as_map, overridden, Scenario, scenario_of, IsChain, ended, based, IsChainOf, layered, chain, chain_within, effective, as_replacements}

pub chain_some : (k : ℕ) (xs : List Scenario) (o : Option Scenario) (x : Scenario) → 0 < k → o ≡ Some x
    → chain_within k xs o ≡ x ∷ chain_within (k - 1) xs (scenario_of xs x.base)
chain_some zero xs o x l e = absurd (omega (arith, l))
chain_some (suc k) xs o x l e =
    let one_less : k ≡ suc k - 1 = omega arith in
    ap (chain_within (suc k) xs) e ∙ ap (λ (j : ℕ). x ∷ chain_within j xs (scenario_of xs x.base)) one_less

-- what those below put in, overridden by a scenario's own
pub layered_more : (k : ℕ) (xs : List Scenario) (o : Option Scenario) (x : Scenario) (below all : List (ℕ × Value)) → 0 < k → o ≡ Some x
    → below ≡ as_map (layered (chain_within (k - 1) xs (scenario_of xs x.base))) → all ≡ overridden below x.own
    → all ≡ as_map (layered (chain_within k xs o))
layered_more k xs o x below all l e h g =
    let rest = chain_within (k - 1) xs (scenario_of xs x.base) in
    g ∙ ap (λ (es : List (ℕ × Value)). overridden es x.own) h
    ∙ sym (as_map-as_replacements (overridden (as_map (layered rest)) x.own))
    ∙ sym (ap (λ (c : List Scenario). as_map (layered c)) (chain_some k xs o x l e))

pub effective_listed : (xs : List Scenario) (name : Option (List ℕ)) (es : List (ℕ × Value)) (rs : List Replacement)
    → es ≡ as_map (layered (chain_within 64 xs (scenario_of xs name))) → as_map rs ≡ es → rs ≡ effective xs name
unfolding chain
effective_listed xs name es rs h g =
    sym (as_replacements-as_map rs) ∙ ap as_replacements (g ∙ h) ∙ as_replacements-as_map (layered (chain_within 64 xs (scenario_of xs name)))

-- ---- the chain, where it ends within so many steps

pub ends_within : (k : ℕ) (xs : List Scenario) (o : Option Scenario) (ys : List Scenario) → IsChain xs o ys → length ys ≤ k → chain_within k xs o ≡ ys
ends_within zero xs o ys ended h = refl
ends_within zero xs o ys (based x bases c) h = absurd (omega (arith, h))
ends_within (suc k) xs o ys ended h = refl
ends_within (suc k) xs o ys (based x bases c) h = ap (λ zs. x ∷ zs) (ends_within k xs (scenario_of xs x.base) bases c (omega (arith, h)))

pub one_chain : (xs : List Scenario) (name : Option (List ℕ)) → IsChainOf xs name (chain xs name)
unfolding chain
one_chain xs name = λ ys c h. ends_within 64 xs (scenario_of xs name) ys c h
