-- Two options that are equal have equal contents, or none.
use Rattle.std.proofs.Common.{◌≡◌, Option, None, Some}

pub same_some : {A : Type 0} (x y : A) → ◌≡◌ {A = Option A} (Some x) (Some y) → x ≡ y
same_some x y is = cc is

pub no_some : {A B : Type 0} (x : A) → ◌≡◌ {A = Option A} None (Some x) → B
no_some x is = cc is
