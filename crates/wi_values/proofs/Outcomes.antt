-- What holds in any case holds after success, and after an error.
use Rattle.wi_values.proofs.Words.{Result, Ok, Err, OnOk, OnErr}

pub on_ok : {T E P : Type 0} (r : Result T E) → P → OnOk r P
on_ok (Ok x) h = h
on_ok (Err e) h = tt

pub on_err : {T E P : Type 0} (r : Result T E) → P → OnErr r P
on_err (Ok x) h = tt
on_err (Err e) h = h
