-- A numbering that agrees with a context, made one that has a number for every type: behind the numbers of the context all types have their own.
use Rattle.std.proofs.Common.{◌≡◌, ℕ, ◌+◌, ◌-◌, ◌<◌, ◌≤◌, refl, ap, ◌∙◌, arith, length, Some}
use Rattle.std.specs.Prelude.{Bool, true, false, if◌then◌else◌, nat_lt, slice_get}
use Rattle.std.proofs.lemmas.Bool.{ltb-true, lt-ltb, le-ltb}
use Rattle.std.proofs.lemmas.Option.{slice_get_within}
use Rattle.cbase.specs.declared.ctype.CType.{CType}
use Rattle.typing.specs.ctypes.Same.{same_type}
use Rattle.typing.proofs.ctypes.Numbers.{same_type_decides}
use Rattle.expressions.specs.Context.{Context, Agrees}
use Rattle.expressions.specs.Numbers.{Numbering}
use Rattle.items.specs.languages.LeadsBack.{LeadsBack}
use Rattle.items.proofs.languages.Coded.{coded, decoded, decoded_back}

-- the first of two numbers, where both tests are passed
chosen : Bool → Bool → ℕ → ℕ → ℕ
chosen true true first second = first
chosen true false first second = second
chosen false same first second = second

-- below `count` the numbers are those that `n` has; a type that has none of these has its own one behind them
read_at : Numbering → ℕ → ℕ → CType
read_at n count number = if nat_lt number count then n.ctype number else decoded (number - count)

number_for : Numbering → ℕ → CType → ℕ
number_for n count t = chosen (nat_lt (n.number t) count) (same_type (n.ctype (n.number t)) t) (n.number t) (count + coded t)

widened : Numbering → ℕ → Numbering
widened n count = record { ctype = read_at n count; number = number_for n count; signature = n.signature }

module _ (n : Numbering) (count : ℕ) where
  read_below : (number : ℕ) → number < count → read_at n count number ≡ n.ctype number
  unfolding read_at
  read_below number below = ap (λ b. if b then n.ctype number else decoded (number - count)) (lt-ltb number count below)

  read_behind : (number : ℕ) → read_at n count (count + number) ≡ decoded number
  unfolding read_at
  read_behind number =
      let past : count ≤ count + number = omega arith in
      let less : (count + number) - count ≡ number = omega arith in
      ap (λ b. if b then n.ctype (count + number) else decoded ((count + number) - count)) (le-ltb (count + number) count past) ∙ ap decoded less

  read_chosen : (t : CType) (below same : Bool) → nat_lt (n.number t) count ≡ below → same_type (n.ctype (n.number t)) t ≡ same
      → read_at n count (chosen below same (n.number t) (count + coded t)) ≡ t
  unfolding chosen
  read_chosen t true true below same = read_below (n.number t) (ltb-true (n.number t) count below) ∙ (same_type_decides (n.ctype (n.number t)) t).0 same
  read_chosen t true false below same = read_behind (coded t) ∙ decoded_back t
  read_chosen t false other below same = read_behind (coded t) ∙ decoded_back t

  leads : LeadsBack (widened n count)
  unfolding widened number_for
  leads t = read_chosen t (nat_lt (n.number t) count) (same_type (n.ctype (n.number t)) t) refl refl

module _ (n : Numbering) (context : Context) (agrees : Agrees n context) where
  same_number : (number : ℕ) (t : CType) → slice_get context.types number ≡ Some t → number_for n (length context.types) t ≡ number
  unfolding number_for chosen
  same_number number t at =
      let within : number < length context.types = slice_get_within context.types number t at in
      let number_is : n.number t ≡ number = agrees.numbers number t at in
      let type_is : n.ctype (n.number t) ≡ t = ap n.ctype number_is ∙ agrees.types number t at in
      ap (λ b. chosen b (same_type (n.ctype (n.number t)) t) (n.number t) (length context.types + coded t))
      (ap (λ k. nat_lt k (length context.types)) number_is ∙ lt-ltb number (length context.types) within)
      ∙ (ap (λ b. chosen true b (n.number t) (length context.types + coded t)) ((same_type_decides (n.ctype (n.number t)) t).1 type_is) ∙ number_is)

  agrees_still : Agrees (widened n (length context.types)) context
  unfolding widened
  agrees_still = record {
    types = λ number t at. read_below n (length context.types) number (slice_get_within context.types number t at) ∙ agrees.types number t at;
    numbers = same_number;
    signatures = agrees.signatures;
  }

pub leading_back : (context : Context) (n : Numbering) → Agrees n context → (n : Numbering) × Agrees n context × LeadsBack n
leading_back context n agrees = (widened n (length context.types), agrees_still n context agrees, leads n (length context.types))
