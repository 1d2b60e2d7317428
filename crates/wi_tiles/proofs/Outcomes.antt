-- A clause of a part, carried over to the whole, and what can't be.
use Rattle.wi_tiles.proofs.Words.{◌≡◌, Result, Ok, Err, true, false, arith, Bool, IsTrue, OnOk, OnErr, Some, None, IsSome}

pub on_ok : {A E P Q : Type 0} (r : Result A E) → (P → Q) → OnOk r P → OnOk r Q
on_ok (Ok a) f p = f p
on_ok (Err e) f p = p

pub on_err : {A E P Q : Type 0} (r : Result A E) → (P → Q) → OnErr r P → OnErr r Q
on_err (Ok a) f p = p
on_err (Err e) f p = f p

pub either_way : {A E P Q R : Type 0} (r : Result A E) → (P → R) → (Q → R) → OnOk r P → OnErr r Q → R
either_way (Ok a) f g p q = f p
either_way (Err e) f g p q = g q

pub not_both : (b : Bool) → b ≡ false → IsTrue b → ⊥
not_both false e t = grind arith
not_both true e t = grind arith

pub some_none : {X : Type 0} (x : X) → Some x ≡ None → ⊥
some_none x e = grind arith

pub nothing_some : (X : Type 0) → IsSome {T = X} None → ⊥
nothing_some X e = grind arith
