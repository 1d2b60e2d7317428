-- That each scenario has a chain, whatever is made, changed or removed.
use Rattle.wi_scenario_list.proofs.Words.{◌≡◌, ◌≢◌, ◌∙◌, ℕ, ◌+◌, suc, ◌<◌, ◌≤◌, nat_le, Bool, true, false, not, ◌||◌, ◌&&◌, cond, List, [], ◌∷◌, map, length, ◌==◌, Option, Some, None, is_some, refl, sym, ap, subst, arith, AllByRecursion, list_any, is_member, bytes_eq, both_ways, false≢true, not-false, not_from_true, or_from, or_parts, leb-false, nat_list_eq_equiv, length-map, length-filter, count_by-le-length, length-le_from_is_member, none-some, same_Some, bytes_eq-Decides, is_replaced, Scenario, is_named, scenario_of, has_scenario, scenario_for, with_scenario, without_scenario, is_full, max_scenarios, max_replacements, IsChain, ended, based, HasChains, based_on, is_name_of, is_base, lacks, would_loop, chain, scenario_or_new}
use Rattle.std.specs.List.{IsDistinct}
use Rattle.wi_scenario_list.proofs.Chains.{ends_within, one_chain}
use Rattle.wi_scenario_list.proofs.Stored.{has-found, not_found}
use Rattle.wi_scenario_list.proofs.Named.{name_differs, found_named, found_itself, found_fails, found_put, none_found, found_with, found_without}

-- ---- a chain is no longer than the list

no_other : (xs : List Scenario) (o : Option Scenario) (ys zs : List Scenario) → IsChain xs o ys → IsChain xs o zs → ys ≡ zs
no_other xs o ys zs c d =
    sym (ends_within (length ys + length zs) xs o ys c (omega arith)) ∙ ends_within (length ys + length zs) xs o zs d (omega arith)

-- the scenario of this name is there, with a chain of so many at most
record StandsIn (xs : List Scenario) (name : List ℕ) (n : ℕ) : Type 0 where
  itself : Scenario
  is_found : scenario_of xs (Some name) ≡ Some itself
  rest : List Scenario
  is_chain : IsChain xs (Some itself) rest
  at_most : length rest ≤ n

stands : (xs : List Scenario) (o : Option Scenario) (ys : List Scenario) (name : List ℕ) → ((x : Scenario) → o ≡ Some x → scenario_of xs (Some x.name) ≡ Some x) → IsChain xs o ys
    → list_any (is_named name) ys ≡ true → StandsIn xs name (length ys)
stands xs o ys name f ended h = absurd (false≢true h)
stands xs o ys name f (based x bases c) h = by (is_named name x) refl h (stands xs (scenario_of xs x.base) bases name (found_itself xs x.base) c)
  where
    by : (b : Bool) → is_named name x ≡ b → (b || list_any (is_named name) bases) ≡ true → (list_any (is_named name) bases ≡ true → StandsIn xs name (length bases))
        → StandsIn xs name (length (x ∷ bases))
    by true t h rest = record {
      itself = x;
      is_found = ap (λ (n : List ℕ). scenario_of xs (Some n)) ((bytes_eq-Decides name x.name).0 t) ∙ f x refl;
      rest = x ∷ bases;
      is_chain = based x bases c;
      at_most = omega arith;
    }
    by false t h rest =
        let s : StandsIn xs name (length bases) = rest h in
        record { itself = s.itself; is_found = s.is_found; rest = s.rest; is_chain = s.is_chain; at_most = omega (arith, s.at_most) }

-- a scenario stands in its chain but once
once : (xs : List Scenario) (x : Scenario) (bases : List Scenario) → scenario_of xs (Some x.name) ≡ Some x → IsChain xs (scenario_of xs x.base) bases
    → list_any (is_named x.name) bases ≡ false
once xs x bases e c = by (list_any (is_named x.name) bases) refl
  where
    by : (b : Bool) → list_any (is_named x.name) bases ≡ b → b ≡ false
    by false h = refl
    by true h =
        let s : StandsIn xs x.name (length bases) = stands xs (scenario_of xs x.base) bases x.name (found_itself xs x.base) c h in
        let same : s.itself ≡ x = same_Some s.itself x (sym s.is_found ∙ e) in
        let whole : s.rest ≡ x ∷ bases = no_other xs (Some x) s.rest (x ∷ bases) (subst (λ (y : Scenario). IsChain xs (Some y) s.rest) same s.is_chain) (based x bases c) in
        let longer : length s.rest ≡ suc (length bases) = ap (λ (ys : List Scenario). length ys) whole in
        absurd (omega (arith, longer, s.at_most))

abbrev names : List Scenario → List (List ℕ)
names xs = map (λ x. x.name) xs

among_names : (name : List ℕ) (xs : List Scenario) → list_any (is_named name) xs ≡ is_member bytes_eq (names xs) name
among_names name [] = refl
among_names name (x ∷ xs) = ap (λ (b : Bool). is_named name x || b) (among_names name xs)

each_differs : (name : List ℕ) (xs : List Scenario) → list_any (is_named name) xs ≡ false → AllByRecursion (λ n. bytes_eq name n ≡ false) (names xs)
each_differs name [] h = tt
each_differs name (x ∷ xs) h =
    let apart = or_parts (is_named name x) (list_any (is_named name) xs) h in
    (apart.0, each_differs name xs apart.1)

all_differ : (xs : List Scenario) (o : Option Scenario) (ys : List Scenario) → ((x : Scenario) → o ≡ Some x → scenario_of xs (Some x.name) ≡ Some x) → IsChain xs o ys
    → IsDistinct bytes_eq (names ys)
unfolding IsDistinct
all_differ xs o ys f ended = tt
all_differ xs o ys f (based x bases c) = (each_differs x.name bases (once xs x bases (f x refl) c), all_differ xs (scenario_of xs x.base) bases (found_itself xs x.base) c)

fits : (xs : List Scenario) (name : Option (List ℕ)) (ys : List Scenario) → IsChain xs (scenario_of xs name) ys → length ys ≤ length xs
fits xs name ys c =
    let fewer : length (names ys) ≤ length (names xs) =
    length-le_from_is_member nat_list_eq_equiv (names ys) (names xs) (all_differ xs (scenario_of xs name) ys (found_itself xs name) c) there in
    omega (arith, fewer, length-map ys (λ (x : Scenario). x.name), length-map xs (λ (x : Scenario). x.name))
  where
    there : (q : List ℕ) → is_member bytes_eq (names ys) q ≡ true → is_member bytes_eq (names xs) q ≡ true
    there q h =
        let s : StandsIn xs q (length ys) = stands xs (scenario_of xs name) ys q (found_itself xs name) c (among_names q ys ∙ h) in
        sym (among_names q xs) ∙ has-found q xs ∙ ap is_some s.is_found

-- ---- chains where the scenario of one name is another

abbrev HasOne : List Scenario → Option Scenario → Type 0
HasOne xs o = (ys : List Scenario) × IsChain xs o ys

-- all scenarios have chains, and they aren't too many
all_have : (xs : List Scenario) → length xs ≤ max_scenarios → ((name : Option (List ℕ)) → HasOne xs (scenario_of xs name)) → list_any (λ x. lacks xs x.base) xs ≡ false → HasChains xs
all_have xs few each whole = record {
  few = few;
  chains = λ name. ((each name).0, (each name).1, short name);
  whole = whole;
}
  where
    short : (name : Option (List ℕ)) → length (each name).0 ≤ max_scenarios
    short name =
        let l : length (each name).0 ≤ length xs = fits xs name (each name).0 (each name).1 in
        omega (arith, few, l)

-- a chain that has no scenario of the name doesn't begin with one
begins : (xs : List Scenario) (name : List ℕ) (x : Scenario) (o : Option Scenario) (ys : List Scenario) → o ≡ Some x → name ≡ x.name → IsChain xs o ys
    → list_any (is_named name) ys ≡ true
begins xs name x o ys e n ended = absurd (none-some x e)
begins xs name x o ys e n (based y bases c) =
    ap (λ (b : Bool). b || list_any (is_named name) bases) ((bytes_eq-Decides name y.name).1 (n ∙ ap (λ (z : Scenario). z.name) (sym (same_Some y x e))))

module _ (xs us : List Scenario) (name : List ℕ) (others : (other : List ℕ) → other ≢ name → scenario_of us (Some other) ≡ scenario_of xs (Some other)) where
  one_goes_on : (m : List ℕ) (o : Option Scenario) → scenario_of xs (Some m) ≡ o → HasOne us (scenario_of us (Some name)) → HasOne us o → HasOne us (scenario_of us (Some m))
  one_goes_on m o e own h = by (bytes_eq name m) refl
    where
      by : (b : Bool) → bytes_eq name m ≡ b → HasOne us (scenario_of us (Some m))
      by true t = subst (λ (n : List ℕ). HasOne us (scenario_of us (Some n))) ((bytes_eq-Decides name m).0 t) own
      by false f = subst (λ (p : Option Scenario). HasOne us p) (sym (others m (name_differs name m f) ∙ e)) h

  -- a chain that comes by the name goes on as the other scenario does
  goes_on : HasOne us (scenario_of us (Some name)) → (n : Option (List ℕ)) (o : Option Scenario) (ys : List Scenario) → scenario_of xs n ≡ o → IsChain xs o ys
      → HasOne us (scenario_of us n)
  goes_on own None o ys e c = ([], ended)
  goes_on own (Some m) o ys e ended = one_goes_on m None e own ([], ended)
  goes_on own (Some m) o ys e (based x bases c) =
      let rest = goes_on own x.base (scenario_of xs x.base) bases refl c in
      one_goes_on m (Some x) e own (x ∷ rest.0, based x rest.0 rest.1)

  -- one that doesn't stays
  module _ (x : Scenario) (there : scenario_of xs (Some name) ≡ Some x) where
    begins_apart : (m : List ℕ) (o : Option Scenario) (ys : List Scenario) → scenario_of xs (Some m) ≡ o → IsChain xs o ys → list_any (is_named name) ys ≡ false → m ≢ name
    begins_apart m o ys e c h n =
        let first : o ≡ Some x = sym e ∙ ap (λ (k : List ℕ). scenario_of xs (Some k)) n ∙ there in
        both_ways (list_any (is_named name) ys) h (begins xs name x o ys first (found_named name xs x there) c)

    stays : (n : Option (List ℕ)) (o : Option Scenario) (ys : List Scenario) → scenario_of xs n ≡ o → IsChain xs o ys → list_any (is_named name) ys ≡ false
        → IsChain us (scenario_of us n) ys
    stays None o ys e ended h = ended
    stays None o ys e (based y bases c) h = absurd (none-some y e)
    stays (Some m) o ys e ended h =
        subst (λ (p : Option Scenario). IsChain us p []) (sym (others m (begins_apart m None [] e ended h) ∙ e)) ended
    stays (Some m) o ys e (based y bases c) h =
        let rest = stays y.base (scenario_of xs y.base) bases refl c (or_parts (is_named name y) (list_any (is_named name) bases) h).1 in
        subst (λ (p : Option Scenario). IsChain us p (y ∷ bases)) (sym (others m (begins_apart m (Some y) (y ∷ bases) e (based y bases c) h) ∙ e)) (based y bases rest)

-- ---- how many there are

as_many : (x : Scenario) (xs : List Scenario) → has_scenario xs x.name ≡ true → length (with_scenario xs x) ≡ length xs
as_many x [] h = absurd (false≢true h)
as_many x (y ∷ ys) h = by (is_named x.name y) h (as_many x ys)
  where
    by : (b : Bool) → (b || list_any (is_named x.name) ys) ≡ true → (list_any (is_named x.name) ys ≡ true → length (with_scenario ys x) ≡ length ys)
        → length (cond b (x ∷ ys) (y ∷ with_scenario ys x)) ≡ length (y ∷ ys)
    by true h rest = refl
    by false h rest = ap suc (rest h)

one_more : (x : Scenario) (xs : List Scenario) → length (with_scenario xs x) ≤ suc (length xs)
one_more x [] = omega arith
one_more x (y ∷ ys) = by (bytes_eq x.name y.name) (one_more x ys)
  where
    by : (b : Bool) → length (with_scenario ys x) ≤ suc (length ys) → length (cond b (x ∷ ys) (y ∷ with_scenario ys x)) ≤ suc (length (y ∷ ys))
    by true l = omega arith
    by false l = omega (arith, l)

-- there is room for one that isn't there, where it wouldn't be one too many
pub has_space : (xs : List Scenario) (name : List ℕ) (at : ℕ) → is_full xs name at ≡ false → has_scenario xs name ≡ false → length xs < max_scenarios
has_space xs name at e missing =
    let new : (not (has_scenario xs name) && nat_le max_scenarios (length xs)) ≡ false =
    (or_parts (not (has_scenario xs name) && nat_le max_scenarios (length xs))
    (not (is_replaced (scenario_for xs name).own at) && nat_le max_replacements (length (scenario_for xs name).own)) e).0 in
    leb-false max_scenarios (length xs) (sym (ap (λ (b : Bool). not b && nat_le max_scenarios (length xs)) missing) ∙ new)

-- ---- bases that are there

none_of_both : (p r q : Scenario → Bool) → ((x : Scenario) → p x ≡ false → r x ≡ false → q x ≡ false) → (xs : List Scenario) → list_any p xs ≡ false → list_any r xs ≡ false → list_any q xs ≡ false
none_of_both p r q f [] h k = refl
none_of_both p r q f (x ∷ xs) h k =
    let first = or_parts (p x) (list_any p xs) h in
    let second = or_parts (r x) (list_any r xs) k in
    or_from (q x) (list_any q xs) (f x first.0 second.0) (none_of_both p r q f xs first.1 second.1)

none_with : (q : Scenario → Bool) (y : Scenario) (xs : List Scenario) → q y ≡ false → list_any q xs ≡ false → list_any q (with_scenario xs y) ≡ false
none_with q y [] f h = or_from (q y) false f refl
none_with q y (x ∷ xs) f h =
    let apart = or_parts (q x) (list_any q xs) h in
    by (bytes_eq y.name x.name) apart.0 apart.1 (none_with q y xs f apart.1)
  where
    by : (b : Bool) → q x ≡ false → list_any q xs ≡ false → list_any q (with_scenario xs y) ≡ false → list_any q (cond b (y ∷ xs) (x ∷ with_scenario xs y)) ≡ false
    by true g k rest = or_from (q y) (list_any q xs) f k
    by false g k rest = or_from (q x) (list_any q (with_scenario xs y)) g rest

none_without : (q : Scenario → Bool) (name : List ℕ) (xs : List Scenario) → list_any q xs ≡ false → list_any q (without_scenario xs name) ≡ false
none_without q name [] h = refl
none_without q name (x ∷ xs) h =
    let apart = or_parts (q x) (list_any q xs) h in
    by (is_named name x) apart.0 (none_without q name xs apart.1)
  where
    by : (b : Bool) → q x ≡ false → list_any q (without_scenario xs name) ≡ false → list_any q (cond (not b) (x ∷ without_scenario xs name) (without_scenario xs name)) ≡ false
    by true g rest = rest
    by false g rest = or_from (q x) (list_any q (without_scenario xs name)) g rest

-- those that were there are there still
has_with : (xs : List Scenario) (y : Scenario) (m : List ℕ) → has_scenario xs m ≡ true → has_scenario (with_scenario xs y) m ≡ true
has_with xs y m h = by (bytes_eq y.name m) refl
  where
    us : List Scenario
    us = with_scenario xs y

    by : (b : Bool) → bytes_eq y.name m ≡ b → has_scenario us m ≡ true
    by true t = subst (λ (n : List ℕ). has_scenario us n ≡ true) ((bytes_eq-Decides y.name m).0 t) (has-found y.name us ∙ ap is_some (found_put y xs))
    by false f = has-found m us ∙ ap is_some (found_with m y xs (name_differs y.name m f)) ∙ sym (has-found m xs) ∙ h

there_with : (xs : List Scenario) (y : Scenario) (o : Option (List ℕ)) → lacks xs o ≡ false → lacks (with_scenario xs y) o ≡ false
there_with xs y None h = refl
there_with xs y (Some m) h = not_from_true (has_scenario (with_scenario xs y) m) (has_with xs y m (not-false (has_scenario xs m) h))

there_without : (xs : List Scenario) (name : List ℕ) (o : Option (List ℕ)) → lacks xs o ≡ false → is_name_of name o ≡ false → lacks (without_scenario xs name) o ≡ false
there_without xs name None h f = refl
there_without xs name (Some m) h f =
    let us = without_scenario xs name in
    ap not (has-found m us ∙ ap is_some (found_without m name xs (name_differs name m f)) ∙ sym (has-found m xs)) ∙ h

-- ---- a scenario made, changed or removed

pub no_scenarios : HasChains []
no_scenarios = record { few = omega arith; chains = each; whole = refl }
  where
    each : (name : Option (List ℕ)) → (ys : List Scenario) × IsChain [] (scenario_of [] name) ys × (length ys ≤ max_scenarios)
    each None = ([], ended, omega arith)
    each (Some name) = ([], ended, omega arith)

-- what `chain` gives is the chain
pub is_chain : (xs : List Scenario) (name : Option (List ℕ)) → HasChains xs → IsChain xs (scenario_of xs name) (chain xs name)
is_chain xs name h =
    let c = h.chains name in
    subst (λ (ys : List Scenario). IsChain xs (scenario_of xs name) ys) (sym (one_chain xs name c.0 c.1 c.2)) c.1

put_in : (xs : List Scenario) (y : Scenario) (ys : List Scenario) → HasChains xs → length (with_scenario xs y) ≤ max_scenarios
    → IsChain (with_scenario xs y) (scenario_of (with_scenario xs y) y.base) ys → lacks xs y.base ≡ false → HasChains (with_scenario xs y)
put_in xs y ys h few c there = all_have us few (λ n. goes_on xs us y.name others own n (scenario_of xs n) (h.chains n).0 refl (h.chains n).1) whole
  where
    us : List Scenario
    us = with_scenario xs y

    others : (other : List ℕ) → other ≢ y.name → scenario_of us (Some other) ≡ scenario_of xs (Some other)
    others other n = found_with other y xs n

    own : HasOne us (scenario_of us (Some y.name))
    own = (y ∷ ys, subst (λ (o : Option Scenario). IsChain us o (y ∷ ys)) (sym (found_put y xs)) (based y ys c))

    whole : list_any (λ x. lacks us x.base) us ≡ false
    whole =
        none_with (λ x. lacks us x.base) y xs (there_with xs y y.base there)
        (none_of_both (λ x. lacks xs x.base) (λ x. lacks xs x.base) (λ x. lacks us x.base) (λ x f g. there_with xs y x.base f) xs h.whole h.whole)

-- in the place of one that is there, based on what isn't based on it
put_there : (xs : List Scenario) (y x : Scenario) (ys : List Scenario) → HasChains xs → scenario_of xs (Some y.name) ≡ Some x → IsChain xs (scenario_of xs y.base) ys
    → list_any (is_named y.name) ys ≡ false → lacks xs y.base ≡ false → HasChains (with_scenario xs y)
put_there xs y x ys h e c apart there =
    put_in xs y ys h few
    (stays xs (with_scenario xs y) y.name (λ other n. found_with other y xs n) x e y.base (scenario_of xs y.base) ys refl c apart) there
  where
    few : length (with_scenario xs y) ≤ max_scenarios
    few =
        let same : length (with_scenario xs y) ≡ length xs = as_many y xs (has-found y.name xs ∙ ap is_some e) in
        omega (arith, same, h.few)

put_new : (xs : List Scenario) (y : Scenario) → HasChains xs → length xs < max_scenarios → y.base ≡ None → HasChains (with_scenario xs y)
put_new xs y h space none_given =
    put_in xs y [] h few (subst (λ (o : Option (List ℕ)). IsChain (with_scenario xs y) (scenario_of (with_scenario xs y) o) []) (sym none_given) ended) (ap (lacks xs) none_given)
  where
    few : length (with_scenario xs y) ≤ max_scenarios
    few = let l : length (with_scenario xs y) ≤ suc (length xs) = one_more y xs in omega (arith, l, space)

-- with other replacements, or made where there was none
pub own_kept : (xs : List Scenario) (name : List ℕ) (y : Scenario) → HasChains xs → y.name ≡ (scenario_for xs name).name → y.base ≡ (scenario_for xs name).base
    → (has_scenario xs name ≡ false → length xs < max_scenarios) → HasChains (with_scenario xs y)
own_kept xs name y h n b space = by (scenario_of xs (Some name)) refl n b
  where
    by : (o : Option Scenario) → scenario_of xs (Some name) ≡ o → y.name ≡ (scenario_or_new name o).name → y.base ≡ (scenario_or_new name o).base → HasChains (with_scenario xs y)
    by None e n b = put_new xs y h (space (has-found name xs ∙ ap is_some e)) b
    by (Some x) e n b =
        let there : scenario_of xs (Some x.name) ≡ Some x = found_itself xs (Some name) x e in
        let c = h.chains y.base in
        put_there xs y x c.0 h (ap (λ (m : List ℕ). scenario_of xs (Some m)) n ∙ there) c.1
        (ap (λ (m : List ℕ). list_any (is_named m) c.0) n ∙ once xs x c.0 there (subst (λ (o : Option (List ℕ)). IsChain xs (scenario_of xs o) c.0) b c.1))
        (ap (lacks xs) b ∙ found_fails (is_named name) (λ z. lacks xs z.base) xs x e h.whole)

-- based on another that is there and isn't based on it, or on none
pub based_kept : (xs : List Scenario) (name : List ℕ) (other : Option (List ℕ)) → HasChains xs → has_scenario xs name ≡ true → lacks xs other ≡ false → would_loop xs name other ≡ false
    → HasChains (with_scenario xs (based_on (scenario_for xs name) other))
based_kept xs name other h t there apart = by (scenario_of xs (Some name)) refl
  where
    base_chain : (o : Option (List ℕ)) → would_loop xs name o ≡ false → (ys : List Scenario) × IsChain xs (scenario_of xs o) ys × (list_any (is_named name) ys ≡ false)
    base_chain None f = ([], ended, refl)
    base_chain (Some m) f = (chain xs (Some m), is_chain xs (Some m) h, f)

    by : (o : Option Scenario) → scenario_of xs (Some name) ≡ o → HasChains (with_scenario xs (based_on (scenario_or_new name o) other))
    by None e = absurd (not_found name xs e t)
    by (Some x) e =
        let c = base_chain other apart in
        put_there xs (based_on x other) x c.0 h (found_itself xs (Some name) x e) c.1 (ap (λ (m : List ℕ). list_any (is_named m) c.0) (sym (found_named name xs x e)) ∙ c.2) there

-- removed, where none is based on it
pub dropped_kept : (xs : List Scenario) (name : List ℕ) → HasChains xs → is_base xs name ≡ false → HasChains (without_scenario xs name)
dropped_kept xs name h free = all_have us few (λ n. goes_on xs us name others own n (scenario_of xs n) (h.chains n).0 refl (h.chains n).1) whole
  where
    us : List Scenario
    us = without_scenario xs name

    others : (other : List ℕ) → other ≢ name → scenario_of us (Some other) ≡ scenario_of xs (Some other)
    others other n = found_without other name xs n

    own : HasOne us (scenario_of us (Some name))
    own = ([], subst (λ (o : Option Scenario). IsChain us o []) (sym (none_found name xs)) ended)

    few : length us ≤ max_scenarios
    few =
        let l : length us ≤ length xs =
        subst (λ (n : ℕ). n ≤ length xs) (sym (length-filter (λ x. not (is_named name x)) xs)) (count_by-le-length (λ x. not (is_named name x)) xs) in
        omega (arith, l, h.few)

    whole : list_any (λ x. lacks us x.base) us ≡ false
    whole =
        none_without (λ x. lacks us x.base) name xs
        (none_of_both (λ x. lacks xs x.base) (λ x. is_name_of name x.base) (λ x. lacks us x.base) (λ x f g. there_without xs name x.base f g) xs h.whole free)
