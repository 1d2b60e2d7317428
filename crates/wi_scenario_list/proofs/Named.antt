-- Scenarios that are found by their names.
use Rattle.wi_scenario_list.proofs.Words.{◌≡◌, ◌≢◌, ◌∙◌, ℕ, Bool, true, false, not, cond, List, [], ◌∷◌, Option, Some, None, refl, sym, ap, find, list_any, bytes_eq, both_ways, false_from_ne_true, or_parts, none-some, same_Some, bytes_eq-Decides, same_text_itself, Scenario, is_named, scenario_of, with_scenario, without_scenario, is_name_of, is_base}

-- ---- names

pub other_name : (other name : List ℕ) → other ≢ name → bytes_eq other name ≡ false
other_name other name n = false_from_ne_true (bytes_eq other name) (λ h. n ((bytes_eq-Decides other name).0 h))

pub name_differs : (name other : List ℕ) → bytes_eq name other ≡ false → other ≢ name
name_differs name other f e = both_ways (bytes_eq name other) f ((bytes_eq-Decides name other).1 (sym e))

-- what is found has the name
pub found_named : (name : List ℕ) (xs : List Scenario) (x : Scenario) → find (is_named name) xs ≡ Some x → name ≡ x.name
found_named name [] x e = absurd (none-some x e)
found_named name (y ∷ ys) x e = by (is_named name y) refl e (found_named name ys x)
  where
    by : (b : Bool) → is_named name y ≡ b → cond b (Some y) (find (is_named name) ys) ≡ Some x → (find (is_named name) ys ≡ Some x → name ≡ x.name) → name ≡ x.name
    by true t e rest = (bytes_eq-Decides name y.name).0 t ∙ ap (λ (z : Scenario). z.name) (same_Some y x e)
    by false t e rest = rest e

-- and is found by its name
pub found_itself : (xs : List Scenario) (name : Option (List ℕ)) (x : Scenario) → scenario_of xs name ≡ Some x → scenario_of xs (Some x.name) ≡ Some x
found_itself xs None x e = absurd (none-some x e)
found_itself xs (Some name) x e = ap (λ (n : List ℕ). scenario_of xs (Some n)) (sym (found_named name xs x e)) ∙ e

-- ---- where one is put in or taken away

pub found_put : (x : Scenario) (ys : List Scenario) → find (is_named x.name) (with_scenario ys x) ≡ Some x
found_put x [] = ap (λ (b : Bool). cond b (Some x) None) (same_text_itself x.name)
found_put x (y ∷ ys) = by (bytes_eq x.name y.name) refl (found_put x ys)
  where
    by : (b : Bool) → bytes_eq x.name y.name ≡ b → find (is_named x.name) (with_scenario ys x) ≡ Some x
        → find (is_named x.name) (cond b (x ∷ ys) (y ∷ with_scenario ys x)) ≡ Some x
    by true h rest = ap (λ (b : Bool). cond b (Some x) (find (is_named x.name) ys)) (same_text_itself x.name)
    by false h rest = ap (λ (b : Bool). cond b (Some y) (find (is_named x.name) (with_scenario ys x))) h ∙ rest

pub none_found : (name : List ℕ) (ys : List Scenario) → find (is_named name) (without_scenario ys name) ≡ None
none_found name [] = refl
none_found name (y ∷ ys) = by (is_named name y) refl (none_found name ys)
  where
    by : (b : Bool) → is_named name y ≡ b → find (is_named name) (without_scenario ys name) ≡ None
        → find (is_named name) (cond (not b) (y ∷ without_scenario ys name) (without_scenario ys name)) ≡ None
    by true h rest = rest
    by false h rest = ap (λ (b : Bool). cond b (Some y) (find (is_named name) (without_scenario ys name))) h ∙ rest

-- one of another name is found all the same
pub found_with : (other : List ℕ) (x : Scenario) (ys : List Scenario) → other ≢ x.name → find (is_named other) (with_scenario ys x) ≡ find (is_named other) ys
found_with other x [] n = ap (λ (b : Bool). cond b (Some x) None) (other_name other x.name n)
found_with other x (y ∷ ys) n = by (bytes_eq x.name y.name) refl (found_with other x ys n)
  where
    by : (b : Bool) → bytes_eq x.name y.name ≡ b → find (is_named other) (with_scenario ys x) ≡ find (is_named other) ys
        → find (is_named other) (cond b (x ∷ ys) (y ∷ with_scenario ys x)) ≡ find (is_named other) (y ∷ ys)
    by true h rest =
        ap (λ (c : Bool). cond c (Some x) (find (is_named other) ys)) (other_name other x.name n)
        ∙ sym (ap (λ (c : Bool). cond c (Some y) (find (is_named other) ys)) (ap (bytes_eq other) (sym ((bytes_eq-Decides x.name y.name).0 h)) ∙ other_name other x.name n))
    by false h rest = ap (cond (is_named other y) (Some y)) rest

pub found_without : (other name : List ℕ) (ys : List Scenario) → other ≢ name → find (is_named other) (without_scenario ys name) ≡ find (is_named other) ys
found_without other name [] n = refl
found_without other name (y ∷ ys) n = by (bytes_eq name y.name) refl (found_without other name ys n)
  where
    by : (b : Bool) → bytes_eq name y.name ≡ b → find (is_named other) (without_scenario ys name) ≡ find (is_named other) ys
        → find (is_named other) (cond (not b) (y ∷ without_scenario ys name) (without_scenario ys name)) ≡ find (is_named other) (y ∷ ys)
    by true h rest =
        rest
        ∙ sym (ap (λ (c : Bool). cond c (Some y) (find (is_named other) ys)) (ap (bytes_eq other) (sym ((bytes_eq-Decides name y.name).0 h)) ∙ other_name other name n))
    by false h rest = ap (cond (is_named other y) (Some y)) rest

pub scenario_without : (xs : List Scenario) (name : List ℕ) (o : Option (List ℕ)) → is_name_of name o ≡ false → scenario_of (without_scenario xs name) o ≡ scenario_of xs o
scenario_without xs name None h = refl
scenario_without xs name (Some other) h = found_without other name xs (name_differs name other h)

-- ---- what none is, the one that is found isn't

pub found_fails : (p q : Scenario → Bool) (xs : List Scenario) (x : Scenario) → find p xs ≡ Some x → list_any q xs ≡ false → q x ≡ false
found_fails p q [] x e h = absurd (none-some x e)
found_fails p q (y ∷ ys) x e h =
    let apart = or_parts (q y) (list_any q ys) h in
    by (p y) e apart.0 (λ k. found_fails p q ys x k apart.1)
  where
    by : (b : Bool) → cond b (Some y) (find p ys) ≡ Some x → q y ≡ false → (find p ys ≡ Some x → q x ≡ false) → q x ≡ false
    by true e f rest = ap q (sym (same_Some y x e)) ∙ f
    by false e f rest = rest e

-- it isn't based on a scenario that is nobody's base
pub not_based : (xs : List Scenario) (name : List ℕ) (o : Option (List ℕ)) (x : Scenario) → is_base xs name ≡ false → scenario_of xs o ≡ Some x → is_name_of name x.base ≡ false
not_based xs name None x h e = absurd (none-some x e)
not_based xs name (Some other) x h e = found_fails (is_named other) (λ y. is_name_of name y.base) xs x e h
