-- What is said of a result by parts.
use Rattle.std.proofs.Common.{Option, None, Some, Result, Ok, Err}
use Rattle.std.specs.Prelude.{IfOk, IfSome, IfNone}

pub if_some : {A E : Type 0} (P Q R S : A → Type 0) (r : Result (Option A) E) → ((a : A) → P a → Q a → R a → S a)
    → IfOk r (λ o. IfSome o P) → IfOk r (λ o. IfSome o Q) → IfOk r (λ o. IfSome o R) → IfOk r (λ o. IfSome o S)
if_some P Q R S (Ok (Some a)) go p q r = go a p q r
if_some P Q R S (Ok None) go p q r = tt
if_some P Q R S (Err e) go p q r = tt

pub if_none : {A E : Type 0} (P Q : Type 0) (r : Result (Option A) E) → (P → Q) → IfOk r (λ o. IfNone o P) → IfOk r (λ o. IfNone o Q)
if_none P Q (Ok (Some a)) go p = tt
if_none P Q (Ok None) go p = go p
if_none P Q (Err e) go p = tt
