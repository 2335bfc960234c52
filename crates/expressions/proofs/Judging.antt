-- What is found at an expression itself, of what a context answers and of what is made of that.
use Rattle.std.proofs.Common.{◌≡◌, ℕ, List, [], ◌∷◌, ◌++◌, Option, None, Some, refl, sym, ap, ◌∙◌, subst, Result, Ok, Err, length}
use Rattle.std.specs.Prelude.{IfOk}
use Rattle.std.proofs.lemmas.Result.{IfOk-weaker}
use Rattle.cbase.specs.declared.no_memory.NoMemory.{NoMemory}
use Rattle.cbase.specs.declared.ctype.CType.{CType}
use Rattle.cbase.specs.declared.place.Place.{Place}
use Rattle.typing.specs.declared.ctypes.found.Broken.{Broken}
use Rattle.typing.specs.declared.ctypes.found.Outcome.{Outcome}
use Rattle.typing.specs.declared.ctypes.found.Outcome.TheVariants.{Typed as TypedByNumber, Broken as BrokenHere}
use Rattle.typing.specs.ctypes.Broken.{Judgement, Typed, Breaks}
use Rattle.typing.specs.declared.fault.Fault.{Fault}
use Rattle.typing.specs.Faults.{IsFirst}
use Rattle.typing.specs.Known.{Known}
use Rattle.expressions.specs.declared.found.Found.{Found}
use Rattle.expressions.specs.declared.found.Found.TheVariants.{Passes, Refused}
use Rattle.expressions.specs.declared.handed_row.HandedRow.{HandedRow}
use Rattle.expressions.specs.declared.known.Known.{Known as KnownByNumber}
use Rattle.expressions.specs.Context.{Context, Agrees, OnlyTypes}
use Rattle.expressions.specs.Finished.{FinishedBy}
use Rattle.expressions.specs.Numbers.{Numbering, known_at, row_of, IsTypedBelow}
use Rattle.expressions.specs.Operated.{Operates, Finished}
use Rattle.expressions.specs.Settled.{HandsOn, Stays, Judged, SettledBroken, Settled, IsSettledBy, IsFirstOf}
use Rattle.expressions.proofs.Growth.{agrees_before, agrees_before_types, hands_on_grows}

-- a numbering that agrees with the context behind an expression that passes
agrees_in_front : (number : ℕ) (old new : Context) (known : KnownByNumber) → HandsOn number old new known → (n : Numbering) → Agrees n new → Agrees n old
agrees_in_front number old new known hands n = agrees_before old new n (hands_on_grows old new number known hands)

-- what is handed on where only types got numbers
handed_behind : (number : ℕ) (old mid new : Context) (known : KnownByNumber) → OnlyTypes old mid → HandsOn number mid new known → HandsOn number old new known
handed_behind number old mid new known only hands = record {
  types = λ at t is. hands.types at t (only.types at t is);
  structs = hands.structs ∙ only.structs;
  environment = hands.environment ∙ only.environment;
  handed = hands.handed ∙ ap (λ (rows : List HandedRow). rows ++ row_of number known ∷ []) only.handed;
  below = hands.below;
}

handed_alike : (number : ℕ) (old new : Context) (known told : KnownByNumber) → told ≡ known → HandsOn number old new known → HandsOn number old new told
handed_alike number old new known told is hands = subst (λ (k : KnownByNumber). HandsOn number old new k) (sym is) hands

stays_with : (old mid new : Context) → OnlyTypes old mid → new ≡ mid → Stays old new
stays_with old mid new only is = record {
  types = λ at t found. rw is (only.types at t found);
  structs = ap (λ (c : Context). c.structs) is ∙ only.structs;
  environment = ap (λ (c : Context). c.environment) is ∙ only.environment;
}

agrees_alike : (mid new : Context) → new ≡ mid → (n : Numbering) → Agrees n new → Agrees n mid
agrees_alike mid new is n agrees = subst (λ (c : Context). Agrees n c) is agrees

-- at an operator
pub judged_here : (judge : Numbering → Judgement) (place : Broken → Place) (knows : Numbering → CType → Known) (rest : KnownByNumber) (number : ℕ) (old mid new : Context)
    (outcome : Outcome) (found : Found KnownByNumber) → Operates judge old mid outcome
    → ((n : Numbering) → Agrees n old → (t : CType) → record (known_at n rest) { ctype = t } ≡ knows n t)
    → Finished place rest number mid outcome new found → Judged judge place knows number old new found
judged_here judge place knows rest number old mid new (TypedByNumber ctype) (Passes known) operates meant finished = record {
  hands_on = handed_behind number old mid new known operates.only_types finished.1;
  judged = λ n agrees. sym (operates.judged n (agrees_in_front number mid new known finished.1 n agrees)) ∙ ap (λ (k : ℕ). Typed (n.ctype k)) (sym (ap (λ (k : KnownByNumber). k.ctype) finished.0));
  meant = λ n agrees.
      ap (known_at n) finished.0
      ∙ meant n (agrees_before_types old mid n operates.only_types (agrees_in_front number mid new known finished.1 n agrees)) (n.ctype ctype)
      ∙ ap (λ (k : ℕ). knows n (n.ctype k)) (sym (ap (λ (k : KnownByNumber). k.ctype) finished.0));
}
judged_here judge place knows rest number old mid new (TypedByNumber ctype) (Refused first) operates meant finished = absurd finished
judged_here judge place knows rest number old mid new (BrokenHere broken) (Passes known) operates meant finished = absurd finished
judged_here judge place knows rest number old mid new (BrokenHere broken) (Refused first) operates meant finished = record {
  stays = stays_with old mid new operates.only_types finished.1;
  judged = λ n agrees. sym (operates.judged n (agrees_alike mid new finished.1 n agrees)) ∙ ap (λ (f : Fault). Breaks f.broken) (sym finished.0);
  placed = ap (λ (f : Fault). f.place) finished.0 ∙ ap (λ (f : Fault). place f.broken) (sym finished.0);
}

-- at an operator whose operands are alike
operates_alike : (other judge : Numbering → Judgement) (old mid : Context) (outcome : Outcome) → ((n : Numbering) → other n ≡ judge n) → Operates other old mid outcome
    → Operates judge old mid outcome
operates_alike other judge old mid outcome alike operates =
    record { only_types = operates.only_types; below = operates.below; judged = λ n agrees. operates.judged n agrees ∙ alike n }

pub each_judged : (r : Result (Found KnownByNumber) NoMemory) (other judge : Numbering → Judgement) (place : Broken → Place) (knows : Numbering → CType → Known) (rest : KnownByNumber) (number : ℕ)
    (old mid new : Context) (outcome : Outcome) → Operates other old mid outcome → ((n : Numbering) → other n ≡ judge n)
    → ((n : Numbering) → Agrees n old → (t : CType) → record (known_at n rest) { ctype = t } ≡ knows n t)
    → IfOk r (λ found. Finished place rest number mid outcome new found) → IfOk r (λ found. Judged judge place knows number old new found)
each_judged r other judge place knows rest number old mid new outcome operates alike meant =
    IfOk-weaker r (λ found. Finished place rest number mid outcome new found) (λ found. Judged judge place knows number old new found)
    (λ found. judged_here judge place knows rest number old mid new outcome found (operates_alike other judge old mid outcome alike operates) meant)

-- the same of what a context answers, where memory may have been wanting
pub each_finished : (r : Result (Found KnownByNumber) NoMemory) (other judge : Numbering → Judgement) (place : Broken → Place) (knows : Numbering → CType → Known) (rest : KnownByNumber) (number : ℕ)
    (old mid new : Context) (outcome : Result Outcome NoMemory) → IfOk outcome (λ answer. Operates other old mid answer) → ((n : Numbering) → other n ≡ judge n)
    → ((n : Numbering) → Agrees n old → (t : CType) → record (known_at n rest) { ctype = t } ≡ knows n t)
    → IfOk r (λ found. FinishedBy place rest number mid outcome new found) → IfOk r (λ found. Judged judge place knows number old new found)
each_finished r other judge place knows rest number old mid new (Ok outcome) operates alike meant finished = each_judged r other judge place knows rest number old mid new outcome operates alike meant finished
each_finished (Ok found) other judge place knows rest number old mid new (Err error) operates alike meant finished = absurd finished
each_finished (Err wanting) other judge place knows rest number old mid new (Err error) operates alike meant finished = tt

pub answer_below : (other : Numbering → Judgement) (old mid : Context) (outcome : Result Outcome NoMemory) → IfOk outcome (λ answer. Operates other old mid answer)
    → IfOk outcome (λ answer. IsTypedBelow (length mid.types) answer)
answer_below other old mid (Ok outcome) operates = operates.below
answer_below other old mid (Err error) operates = tt

-- where several things are asked
pub settled_here : (faults : Numbering → List Fault) (knows : Numbering → Known) (first : Option Fault) (known : KnownByNumber) (number : ℕ) (old mid new : Context)
    (found : Found KnownByNumber) → OnlyTypes old mid → ((n : Numbering) → Agrees n mid → IsFirstOf (faults n) first)
    → ((n : Numbering) → Agrees n mid → known_at n known ≡ knows n) → IsSettledBy first known number mid new found → Settled faults knows number old new found
settled_here faults knows None known number old mid new (Passes told) only asked meant settled = record {
  hands_on = handed_behind number old mid new told only (handed_alike number mid new known told settled.0 settled.1);
  nothing = λ n agrees. asked n (agrees_in_front number mid new known settled.1 n agrees);
  meant = λ n agrees. ap (known_at n) settled.0 ∙ meant n (agrees_in_front number mid new known settled.1 n agrees);
}
settled_here faults knows None known number old mid new (Refused first) only asked meant settled = absurd settled
settled_here faults knows (Some broken) known number old mid new (Passes told) only asked meant settled = absurd settled
settled_here faults knows (Some broken) known number old mid new (Refused first) only asked meant settled = record {
  stays = stays_with old mid new only settled.1;
  is_first = λ n agrees. subst (IsFirstOf (faults n)) (ap Some (sym settled.0)) (asked n (agrees_alike mid new settled.1 n agrees));
}

pub each_settled : (r : Result (Found KnownByNumber) NoMemory) (faults : Numbering → List Fault) (knows : Numbering → Known) (first : Option Fault) (known : KnownByNumber) (number : ℕ)
    (old mid new : Context) → OnlyTypes old mid → ((n : Numbering) → Agrees n mid → IsFirstOf (faults n) first)
    → ((n : Numbering) → Agrees n mid → known_at n known ≡ knows n)
    → IfOk r (λ found. IsSettledBy first known number mid new found) → IfOk r (λ found. Settled faults knows number old new found)
each_settled r faults knows first known number old mid new only asked meant =
    IfOk-weaker r (λ found. IsSettledBy first known number mid new found) (λ found. Settled faults knows number old new found)
    (λ found. settled_here faults knows first known number old mid new found only asked meant)

-- what is refused before anything is changed
pub refused_here : (faults : Numbering → List Fault) (old : Context) (first : Fault) → ((n : Numbering) → IsFirst (faults n) first) → SettledBroken faults old old first
refused_here faults old first is = record { stays = record { types = λ at t is. is; structs = refl; environment = refl }; is_first = λ n agrees. is n }
