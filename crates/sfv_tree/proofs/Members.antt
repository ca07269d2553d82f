-- A member after an event is complete or not.
use Rattle.std.proofs.Common.{true, false, rules, Result, Ok, Err, Bool, ◌||◌, IsTrue, OnOk}

pub or_true : (b : Bool) → IsTrue (b || true)
or_true true = search rules
or_true false = search rules

-- what follows from a clause about success
pub on_ok : {T E : Type 0} (r : Result T E) (P Q : Type 0) → OnOk r P → (P → Q) → OnOk r Q
on_ok (Ok x) P Q h f = f h
on_ok (Err e) P Q h f = tt
