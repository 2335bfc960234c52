-- What is settled by the first of what is broken, where types got numbers before.
use Rattle.std.proofs.Common.{◌≡◌, ℕ, List, [], ◌∷◌, ◌++◌, Option, None, Some, refl, sym, ap, ◌∙◌, subst}
use Rattle.std.specs.Prelude.{slice_get}
use Rattle.typing.specs.declared.environment.environment.Environment.{Environment}
use Rattle.typing.specs.declared.fault.Fault.{Fault}
use Rattle.typing.specs.Faults.{IsFirst}
use Rattle.typing.specs.Known.{Known}
use Rattle.expressions.specs.declared.found.Found.{Found}
use Rattle.expressions.specs.declared.found.Found.TheVariants.{Passes, Refused}
use Rattle.expressions.specs.declared.known.Known.{Known as KnownByNumber}
use Rattle.expressions.specs.Context.{Context, Agrees, OnlyTypes}
use Rattle.expressions.specs.Numbers.{Numbering, known_at, row_of}
use Rattle.expressions.specs.Settled.{HandsOn, Settled, SettledToPass, SettledBroken, IsSettledBy, IsFirstOf}

pub only_none : (context : Context) → OnlyTypes context context
only_none context = record { types = λ number t is. is; structs = refl; environment = refl; handed = refl }

-- a numbering that has what is there behind an expression has what was there before it
agrees_before_pass : (n : Numbering) (number : ℕ) (old new : Context) (known : KnownByNumber) → HandsOn number old new known → Agrees n new → Agrees n old
agrees_before_pass n number old new known hands agrees = record {
  types = λ at t is. agrees.types at t (hands.types at t is);
  numbers = λ at t is. agrees.numbers at t (hands.types at t is);
  signatures = λ at s is. agrees.signatures at s (ap (λ (env : Environment). slice_get env.signatures at) hands.environment ∙ is);
}

module _ (faults : Numbering → List Fault) (knows : Numbering → Known) (number : ℕ) (old between new : Context) (only : OnlyTypes old between) where
  passes : (known told : KnownByNumber) → ((n : Numbering) → Agrees n between → faults n ≡ []) → ((n : Numbering) → Agrees n between → known_at n known ≡ knows n)
      → told ≡ known → HandsOn number between new known → SettledToPass faults knows number old new told
  passes known told none means same hands =
      let behind : (n : Numbering) → Agrees n new → Agrees n between = λ n agrees. agrees_before_pass n number between new known hands agrees in
      subst (λ (k : KnownByNumber). SettledToPass faults knows number old new k) (sym same) (record {
        hands_on = record {
          types = λ at t is. hands.types at t (only.types at t is);
          structs = hands.structs ∙ only.structs;
          environment = hands.environment ∙ only.environment;
          handed = hands.handed ∙ ap (λ (rows : _). rows ++ row_of number known ∷ []) only.handed;
          below = hands.below;
        };
        nothing = λ n agrees. none n (behind n agrees);
        meant = λ n agrees. means n (behind n agrees);
      })

  breaks : (broken first : Fault) → ((n : Numbering) → Agrees n between → IsFirst (faults n) broken) → first ≡ broken → new ≡ between
      → SettledBroken faults old new first
  breaks broken first is_first same stays = record {
    stays = record {
      types = λ at t is. rw stays (only.types at t is);
      structs = ap (λ (context : Context). context.structs) stays ∙ only.structs;
      environment = ap (λ (context : Context). context.environment) stays ∙ only.environment;
    };
    is_first = λ n agrees.
        subst (λ (f : Fault). IsFirst (faults n) f) (sym same) (is_first n (subst (λ (context : Context). Agrees n context) stays agrees));
  }

  pub settled_behind : (first : Option Fault) (known : KnownByNumber) → ((n : Numbering) → Agrees n between → IsFirstOf (faults n) first)
      → ((n : Numbering) → Agrees n between → known_at n known ≡ knows n)
      → (found : Found KnownByNumber) → IsSettledBy first known number between new found → Settled faults knows number old new found
  settled_behind None known is means (Passes told) settled = passes known told is means settled.0 settled.1
  settled_behind (Some broken) known is means (Refused first) settled = breaks broken first is settled.0 settled.1
  settled_behind None known is means (Refused first) settled = absurd settled
  settled_behind (Some broken) known is means (Passes told) settled = absurd settled

-- a numbering that has what is there then has what was there before
pub agrees_before_types : (n : Numbering) (old new : Context) → OnlyTypes old new → Agrees n new → Agrees n old
agrees_before_types n old new only agrees = record {
  types = λ at t is. agrees.types at t (only.types at t is);
  numbers = λ at t is. agrees.numbers at t (only.types at t is);
  signatures = λ at s is. agrees.signatures at s (ap (λ (env : Environment). slice_get env.signatures at) only.environment ∙ is);
}

pub agrees_before_settled : (n : Numbering) (first : Option Fault) (known : KnownByNumber) (number : ℕ) (old new : Context) (found : Found KnownByNumber)
    → IsSettledBy first known number old new found → Agrees n new → Agrees n old
agrees_before_settled n None known number old new (Passes told) settled agrees = agrees_before_pass n number old new known settled.1 agrees
agrees_before_settled n (Some broken) known number old new (Refused first) settled agrees = subst (λ (context : Context). Agrees n context) settled.1 agrees
agrees_before_settled n None known number old new (Refused first) settled agrees = absurd settled
agrees_before_settled n (Some broken) known number old new (Passes told) settled agrees = absurd settled
