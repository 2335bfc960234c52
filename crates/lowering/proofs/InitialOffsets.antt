-- The addresses in initial words lead to offsets of 64 bits with a sign.
use Rattle.std.proofs.Common.{◌≡◌, ℕ, zero, suc, ◌+◌, ◌^◌, pos, negsuc, Bool, true, false, ◌&&◌, List, [], ◌∷◌, ◌++◌, nat_le, refl, subst, All, Option, None, Some, if◌then◌else◌}
use Rattle.std.specs.List.{list_any}
use Rattle.std.proofs.lemmas.Bool.{and_parts, ltb-true}
use Rattle.std.proofs.lemmas.List.Elements.{All-nil, All-cons}
use Rattle.std.proofs.lemmas.Option.{same_Some, none-some}
use Rattle.cbase.specs.declared.place.Place.{Place}
use Rattle.bytes_core.specs.declared.word.Word.{Word}
use Rattle.bytes_core.specs.declared.word.Word.TheVariants.{Plain, To}
use Rattle.c_machine.specs.Text.{Initialiser, Value, Braces, Store, Text}
use Rattle.c_machine.specs.Words.{scalar_bytes}
use Rattle.flow.specs.declared.flow_graph.Initial.{Initial}
use Rattle.flow.specs.Memories.{HasInitialOffset}
use Rattle.simulation.specs.Names.{Name, variable_in}
use Rattle.lowering.specs.Initials.{initial_word, has_offset, bytes_of, scalar_by, set_initial, joined, joined_all, initials_by, initials_within, is_same_scalar, latest, initials_of}
use Rattle.lowering.specs.Known.{known_word, word_as}

abbrev HaveOffsets : List Initial → Type 0
HaveOffsets [] = Unit {0}
HaveOffsets (scalar ∷ scalars) = HasInitialOffset scalar.word × HaveOffsets scalars

of_word : (word : Word) → has_offset word ≡ true → HasInitialOffset (initial_word word)
of_word (Plain number) is = tt
of_word (To variable (pos offset)) is = ltb-true offset (2 ^ 63) is
of_word (To variable (negsuc before)) is = ltb-true before (2 ^ 63) is

offsets_more : (one other : List Initial) → HaveOffsets one → HaveOffsets other → HaveOffsets (one ++ other)
offsets_more [] other have have' = have'
offsets_more (scalar ∷ one) other have have' = (have.0, offsets_more one other have.1 have')

of_scalar : (test : Bool) (at : ℕ) (bytes variable : ℕ) (word : Word) (scalars : List Initial) → (test ≡ true → has_offset word ≡ true) →
    (if test then Some (record { variable = variable; at = at; size = bytes; word = initial_word word } ∷ []) else None) ≡ Some scalars → HaveOffsets scalars
of_scalar true at bytes variable word scalars offset is =
    subst HaveOffsets (same_Some (record { variable = variable; at = at; size = bytes; word = initial_word word } ∷ []) scalars is) (of_word word (offset refl), tt)
of_scalar false at bytes variable word scalars offset is = absurd (none-some scalars is)

of_parts : (t : Text) (variable bytes : Option ℕ) (word : Option Word) (at : ℕ) (scalars : List Initial) → scalar_by t variable at bytes word ≡ Some scalars → HaveOffsets scalars
of_parts t (Some variable) (Some bytes) (Some word) at scalars is =
    of_scalar (nat_le (at + bytes) (bytes_of t variable) && has_offset word) at bytes variable word scalars (λ holds. (and_parts (nat_le (at + bytes) (bytes_of t variable)) (has_offset word) holds).1) is
of_parts t variable bytes word at scalars is = absurd (none-some scalars is)

of_set : (t : Text) (names : List Name) (place : Place) (value : t.Expr) (stored : Option Store) (scalars : List Initial) → set_initial t names place value stored ≡ Some scalars → HaveOffsets scalars
of_set t names place value None scalars is = absurd (none-some scalars is)
of_set t names place value (Some stored) scalars is =
    of_parts t (variable_in names (t.token place)) (scalar_bytes stored.kind) (word_as t (known_word t.enough t names) value stored.kind) stored.offset scalars is

of_joined : (one other : Option (List Initial)) (scalars : List Initial) → ((first : List Initial) → one ≡ Some first → HaveOffsets first) → ((second : List Initial) → other ≡ Some second → HaveOffsets second) →
    joined one other ≡ Some scalars → HaveOffsets scalars
of_joined (Some first) (Some second) scalars have have' is = subst HaveOffsets (same_Some (first ++ second) scalars is) (offsets_more first second (have first refl) (have' second refl))
of_joined (Some first) None scalars have have' is = absurd (none-some scalars is)
of_joined None (Some second) scalars have have' is = absurd (none-some scalars is)
of_joined None None scalars have have' is = absurd (none-some scalars is)

of_all : {A : Type 0} (each : A → Option (List Initial)) → ((one : A) (scalars : List Initial) → each one ≡ Some scalars → HaveOffsets scalars) → (list : List A) (scalars : List Initial) →
    joined_all each list ≡ Some scalars → HaveOffsets scalars
of_all each have [] scalars is = subst HaveOffsets (same_Some [] scalars is) tt
of_all each have (first ∷ rest) scalars is = of_joined (each first) (joined_all each rest) scalars (λ one. have first one) (λ other. of_all each have rest other) is

module _ (t : Text) (names : List Name) where
  of_initialiser : (deeper : t.Init → Option (List Initial)) → ((init : t.Init) (scalars : List Initial) → deeper init ≡ Some scalars → HaveOffsets scalars) → (place : Place) (init : Initialiser t.Expr t.Init)
      (scalars : List Initial) → initials_by t names deeper place init ≡ Some scalars → HaveOffsets scalars
  of_initialiser deeper have place (Value value after) scalars is = of_set t names place value (t.store place value) scalars is
  of_initialiser deeper have place (Braces parts) scalars is = of_all deeper have parts scalars is

  of_levels : (levels : ℕ) (place : Place) (init : t.Init) (scalars : List Initial) → initials_within levels t names place init ≡ Some scalars → HaveOffsets scalars
  of_levels zero place init scalars is = absurd (none-some scalars is)
  of_levels (suc levels) place init scalars is =
      of_initialiser (initials_within levels t names place) (λ init' scalars'. of_levels levels place init' scalars') place (t.initialiser init) scalars is

of_latest : (scalars : List Initial) → HaveOffsets scalars → HaveOffsets (latest scalars)
of_latest [] have = tt
of_latest (first ∷ rest) have = by_same (list_any (is_same_scalar first) rest) (of_latest rest have.1)
  where
    by_same : (same : Bool) → HaveOffsets (latest rest) → HaveOffsets (if same then latest rest else first ∷ latest rest)
    by_same true have' = have'
    by_same false have' = (have.0, have')

as_all : (scalars : List Initial) → HaveOffsets scalars → All (λ scalar. HasInitialOffset scalar.word) scalars
as_all [] have = All-nil (λ scalar. HasInitialOffset scalar.word)
as_all (scalar ∷ scalars) have = All-cons (λ one. HasInitialOffset one.word) scalar scalars have.0 (as_all scalars have.1)

pub offsets_of : (t : Text) (names : List Name) (scalars : List Initial) → initials_of t names ≡ Some scalars → All (λ scalar. HasInitialOffset scalar.word) (latest scalars)
offsets_of t names scalars is =
    as_all (latest scalars)
    (of_latest scalars (of_all (λ set. initials_within t.enough t names set.place set.init) (λ set scalars'. of_levels t names t.enough set.place set.init scalars') t.sets scalars is))
