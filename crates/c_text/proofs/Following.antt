-- What follows from what a call gives.
use Rattle.std.proofs.Common.{Option, None, Some, Result, Ok, Err, IfOk, OnOk, IfSome, IfNone}

pub on_ok : {A E : Type 0} (P Q : A → Type 0) (result : Result A E) → ((value : A) → P value → Q value) → IfOk result P → IfOk result Q
on_ok P Q (Ok value) onward is = onward value is
on_ok P Q (Err error) onward is = tt

pub then_ok : {A E : Type 0} (P Q : Type 0) (result : Result A E) → (P → Q) → OnOk result P → OnOk result Q
then_ok P Q (Ok value) onward is = onward is
then_ok P Q (Err error) onward is = tt

pub on_some : {A : Type 0} (P Q : A → Type 0) (found : Option A) → ((value : A) → P value → Q value) → IfSome found P → IfSome found Q
on_some P Q None onward is = tt
on_some P Q (Some value) onward is = onward value is

pub on_none : {A : Type 0} (P Q : Type 0) (found : Option A) → (P → Q) → IfNone found P → IfNone found Q
on_none P Q None onward is = onward is
on_none P Q (Some value) onward is = tt
