-- What is said of the answer of a call that may fail.
use Rattle.std.proofs.Common.{Result, Ok, Err}
use Rattle.std.specs.Prelude.{IfOk}

pub if_ok : {T E : Type 0} (P Q : T → Type 0) → ((value : T) → P value → Q value) → (result : Result T E) → IfOk result P → IfOk result Q
if_ok P Q follows (Ok value) holds = follows value holds
if_ok P Q follows (Err error) holds = tt
