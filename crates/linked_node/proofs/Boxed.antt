-- What holds of a result, from what holds of it.
use Rattle.std.proofs.Common.{IfOk, Ok, Err, Result}

pub of_ok : {V E : Type 0} {P Q : V → Type 0} (r : Result V E) → ((v : V) → P v → Q v) → IfOk r P → IfOk r Q
of_ok (Ok v) f h = f v h
of_ok (Err e) f h = tt
