-- What a context keeps while it grows: each number keeps what it stands for, so a numbering that agrees with a later context agrees with an earlier one.
use Rattle.std.proofs.Common.{◌≡◌, ℕ, zero, suc, ◌<◌, ◌≤◌, refl, ◌∙◌, ap, sym, arith, List, [], ◌∷◌, ◌++◌, length, get_or, slice_get, Some, inl, inr}
use Rattle.std.proofs.lemmas.Option.{slice_get_within, slice_get-get_or, get_or_from_slice_get}
use Rattle.cbase.specs.declared.ctype.CType.{CType}
use Rattle.cbase.specs.declared.ctype.CType.TheVariants.{Void}
use Rattle.typing.specs.ctypes.Table.{type_at, Grows as GrowsBy}
use Rattle.expressions.specs.declared.known.Known.{Known}
use Rattle.expressions.specs.Context.{Context, Agrees, Grows, OnlyTypes}
use Rattle.expressions.specs.Numbers.{Numbering}
use Rattle.expressions.specs.Settled.{HandsOn}

-- what is at a place of a row is there in another
abbrev pub Keeps : {A : Type 0} → List A → List A → Type 0
Keeps {A} old new = (at : ℕ) (item : A) → slice_get old at ≡ Some item → slice_get new at ≡ Some item

pub keeps_behind : {A : Type 0} (items : List A) (last : A) → Keeps items (items ++ last ∷ [])
keeps_behind [] last at item is = cc is
keeps_behind (first ∷ items) last zero item is = is
keeps_behind (first ∷ items) last (suc at) item is = keeps_behind items last at item is

pub keeps_length : {A : Type 0} (old new : List A) → Keeps old new → length old ≤ length new
keeps_length [] new keeps = omega arith
keeps_length {A} (first ∷ old) new keeps =
    let last : length old < length (first ∷ old) = omega arith in
    let there : length old < length new = slice_get_within new (length old) (get_or (first ∷ old) (length old) first) (keeps (length old) (get_or (first ∷ old) (length old) first) (slice_get-get_or (first ∷ old) (length old) first last)) in
    omega (arith, there)

-- a table with one more type, or none, keeps its types
pub grows_keeps : (old : List CType) (t : CType) (new : List CType) → GrowsBy old t new → Keeps old new
grows_keeps old t new (inl same) = λ at item is. rw same is
grows_keeps old t new (inr more) = λ at item is. rw more (keeps_behind old t at item is)

module _ (old new : Context) where
  pub grows_longer : Grows old new → length old.types ≤ length new.types
  grows_longer grows = keeps_length old.types new.types grows.types

  pub only_types_grows : OnlyTypes old new → Grows old new
  only_types_grows only = record {
    types = only.types;
    structs = λ number s is complete. rw only.structs is;
    longer = rw only.structs (omega arith);
    signatures = λ number s is. rw only.environment is;
  }

  pub below_grows : Grows old new → (number : ℕ) → number < length old.types → number < length new.types
  below_grows grows number below = omega (arith, grows_longer grows, below)

  pub below_only_types : OnlyTypes old new → (number : ℕ) → number < length old.types → number < length new.types
  below_only_types only = below_grows (only_types_grows only)

  pub agrees_before : (n : Numbering) → Grows old new → Agrees n new → Agrees n old
  agrees_before n grows agrees = record {
    types = λ number t is. agrees.types number t (grows.types number t is);
    numbers = λ number t is. agrees.numbers number t (grows.types number t is);
    signatures = λ number s is. agrees.signatures number s (grows.signatures number s is);
  }

  pub agrees_before_types : (n : Numbering) → OnlyTypes old new → Agrees n new → Agrees n old
  agrees_before_types n only = agrees_before n (only_types_grows only)

  pub hands_on_grows : (number : ℕ) (known : Known) → HandsOn number old new known → Grows old new
  hands_on_grows number known on = record {
    types = on.types;
    structs = λ at s is complete. rw on.structs is;
    longer = rw on.structs (omega arith);
    signatures = λ at s is. rw on.environment is;
  }

  pub grows_trans : (later : Context) → Grows old new → Grows new later → Grows old later
  grows_trans later first second = record {
    types = λ number t is. second.types number t (first.types number t is);
    structs = λ number s is complete. second.structs number s (first.structs number s is complete) complete;
    longer = omega (arith, first.longer, second.longer);
    signatures = λ number s is. second.signatures number s (first.signatures number s is);
  }

  pub only_types_trans : (later : Context) → OnlyTypes old new → OnlyTypes new later → OnlyTypes old later
  only_types_trans later first second = record {
    types = λ number t is. second.types number t (first.types number t is);
    structs = second.structs ∙ first.structs;
    environment = second.environment ∙ first.environment;
    handed = second.handed ∙ first.handed;
  }

pub grows_same : (context : Context) → Grows context context
grows_same context = record { types = λ number t is. is; structs = λ number s is complete. is; longer = omega arith; signatures = λ number s is. is }

pub only_types_same : (context : Context) → OnlyTypes context context
only_types_same context = record { types = λ number t is. is; structs = refl; environment = refl; handed = refl }

-- a context in which the types and signatures are those of another
pub agrees_as : (n : Numbering) (old new : Context) → new.types ≡ old.types → new.environment.signatures ≡ old.environment.signatures → Agrees n new → Agrees n old
agrees_as n old new types signatures agrees = record {
  types = λ number t is. agrees.types number t (rw types is);
  numbers = λ number t is. agrees.numbers number t (rw types is);
  signatures = λ number s is. agrees.signatures number s (rw signatures is);
}

-- what a number of the table means
pub agrees_at : (n : Numbering) (context : Context) (number : ℕ) → Agrees n context → number < length context.types → n.ctype number ≡ type_at context.types number
agrees_at n context number agrees below = agrees.types number (type_at context.types number) (slice_get-get_or context.types number Void below)

-- the numbers of a context, and nothing more, where types have a way back to their numbers
abbrev numbers_of : Context → (CType → ℕ) → Numbering
numbers_of context number_of = record {
  ctype = type_at context.types;
  number = number_of;
  signature = λ number. get_or context.environment.signatures number (record { result = 0; parameters = [] });
}

pub numbered : (context : Context) (number_of : CType → ℕ) → ((number : ℕ) (t : CType) → slice_get context.types number ≡ Some t → number_of t ≡ number)
    → (n : Numbering) × Agrees n context
numbered context number_of back = (
  numbers_of context number_of,
  record {
    types = λ number t is. get_or_from_slice_get context.types number t Void is;
    numbers = back;
    signatures = λ number s is. get_or_from_slice_get context.environment.signatures number s (record { result = 0; parameters = [] }) is;
  },
)

-- the number that a type has, of a number of the context
pub number_back : (n : Numbering) (context : Context) (number : ℕ) → Agrees n context → number < length context.types → n.number (n.ctype number) ≡ number
number_back n context number agrees below =
    ap n.number (agrees_at n context number agrees below)
    ∙ agrees.numbers number (type_at context.types number) (slice_get-get_or context.types number Void below)

-- numbers with one meaning are one number
pub same_number : (n : Numbering) (context : Context) (first second : ℕ) → Agrees n context → first < length context.types → second < length context.types
    → n.ctype first ≡ n.ctype second → first ≡ second
same_number n context first second agrees below also same =
    sym (number_back n context first agrees below) ∙ (ap n.number same ∙ number_back n context second agrees also)
