-- Of the rows of one token the first one counts.
use Rattle.std.proofs.Common.{◌≡◌, ℕ, zero, suc, ◌+◌, Bool, true, false, ◌&&◌, List, [], ◌∷◌, map, drop, Option, None, Some, option_map, nat_eq, refl, sym, ap, ◌∙◌, if◌then◌else◌}
use Rattle.std.specs.Prelude.{IfSome}
use Rattle.std.specs.Map.{lookup}
use Rattle.std.proofs.lemmas.Bool.{eqb-true}
use Rattle.std.proofs.lemmas.List.{drop-map}
use Rattle.typing.specs.Outcomes.{Handed}
use Rattle.expressions.specs.declared.handed_row.HandedRow.{HandedRow}
use Rattle.expressions.specs.Context.{Context}
use Rattle.expressions.specs.Numbers.{Numbering, handed_at}
use Rattle.c_machine.specs.Program.{Program}
use Rattle.c_text.specs.FirstRows.{or_else, first_in}
use Rattle.c_text.specs.Rows.{is_known, are_known}
use Rattle.c_text.specs.Stands.{StandsFor}

pub or_none : {A : Type 0} (found : Option A) → or_else found None ≡ found
or_none None = refl
or_none (Some first) = refl

pub or_or : {A : Type 0} (one other third : Option A) → or_else (or_else one other) third ≡ or_else one (or_else other third)
or_or None other third = refl
or_or (Some first) other third = refl

pub or_mapped : {A B : Type 0} (f : A → B) (one other : Option A) → or_else (option_map f one) (option_map f other) ≡ option_map f (or_else one other)
or_mapped f None other = refl
or_mapped f (Some first) other = refl

-- a key that has a value keeps it, and one that has none gets it
pub stays_where : {A : Type 0} (before : Option A) (same : Bool) (value there : A) → (same ≡ true → before ≡ Some there) →
    before ≡ or_else before (if same then Some value else None)
stays_where before true value there is = is refl ∙ sym (ap (λ found. or_else found (Some value)) (is refl))
stays_where before false value there is = sym (or_none before)

pub comes_where : {A : Type 0} (before : Option A) (same : Bool) (value : A) → (same ≡ true → before ≡ None) →
    (if same then Some value else before) ≡ or_else before (if same then Some value else None)
comes_where before true value is = sym (ap (λ found. or_else found (Some value)) (is refl))
comes_where before false value is = sym (or_none before)

pub stays : {A : Type 0} (table : List (ℕ × A)) (own token : ℕ) (value there : A) → lookup (nat_eq own) table ≡ Some there →
    lookup (nat_eq token) table ≡ or_else (lookup (nat_eq token) table) (if nat_eq own token then Some value else None)
stays table own token value there is =
    stays_where (lookup (nat_eq token) table) (nat_eq own token) value there
    (λ same. ap (λ (k : ℕ). lookup (nat_eq k) table) (sym (eqb-true own token same)) ∙ is)

pub comes : {A : Type 0} (table : List (ℕ × A)) (own token : ℕ) (value : A) → lookup (nat_eq own) table ≡ None →
    (if nat_eq own token then Some value else lookup (nat_eq token) table)
    ≡ or_else (lookup (nat_eq token) table) (if nat_eq own token then Some value else None)
comes table own token value is =
    comes_where (lookup (nat_eq token) table) (nat_eq own token) value
    (λ same. ap (λ (k : ℕ). lookup (nat_eq k) table) (sym (eqb-true own token same)) ∙ is)

-- what is known of each row is known of the one that is found
pub both : (one other : Bool) → one && other ≡ true → (one ≡ true) × (other ≡ true)
both true true is = (refl, refl)
both true false is = absurd cc
both false other is = absurd cc

or_has : {A : Type 0} (P : A → Type 0) (one other : Option A) → IfSome one P → IfSome other P → IfSome (or_else one other) P
or_has P None other is also = also
or_has P (Some first) other is also = is

pub first_has : {A : Type 0} (here : HandedRow → Option A) (P : A → Type 0) (types signatures : ℕ) →
    ((row : HandedRow) → is_known types signatures row ≡ true → IfSome (here row) P) →
    (handed : List HandedRow) → are_known types signatures handed ≡ true → IfSome (first_in here handed) P
first_has here P types signatures each [] is = tt
first_has here P types signatures each (row ∷ rest) is =
    let parts = both (is_known types signatures row) (are_known types signatures rest) is in
    or_has P (here row) (first_in here rest) (each row parts.0) (first_has here P types signatures each rest parts.1)

-- what is known of all rows is known of the one behind so many
pub known_at : (types signatures : ℕ) (handed : List HandedRow) (at : ℕ) (row : HandedRow) (rest : List HandedRow) → are_known types signatures handed ≡ true →
    drop at handed ≡ row ∷ rest → is_known types signatures row ≡ true
known_at types signatures handed at row rest is front =
    let parts : are_known types signatures (row ∷ rest) ≡ true = ap (are_known types signatures) (sym front) ∙ dropped at handed is in
    (both (is_known types signatures row) (are_known types signatures rest) parts).0
  where
    dropped : (k : ℕ) (rows : List HandedRow) → are_known types signatures rows ≡ true → are_known types signatures (drop k rows) ≡ true
    dropped zero rows is = is
    dropped (suc k) [] is = is
    dropped (suc k) (row ∷ rows) is = dropped k rows (both (is_known types signatures row) (are_known types signatures rows) is).1

-- the same row in the program
pub rows_at : (n : Numbering) (context : Context) (p : Program) (at : ℕ) (row : HandedRow) → StandsFor n context p →
    drop at context.handed ≡ row ∷ drop (at + 1) context.handed → drop at p.handed ≡ handed_at n row ∷ drop (at + 1) p.handed
rows_at n context p at row stands front =
    ap (drop at) stands.handed
    ∙ drop-map (handed_at n) at context.handed
    ∙ ap (map (handed_at n)) front
    ∙ ap (λ (rows : List Handed). handed_at n row ∷ rows) (sym (drop-map (handed_at n) (at + 1) context.handed) ∙ ap (drop (at + 1)) (sym stands.handed))
