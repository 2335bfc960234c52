-- What is found at a node is one, and the first of demands in their order.
use Rattle.std.proofs.Common.{◌≡◌, ℕ, ◌<◌, true, false, List, [], ◌∷◌, All, Some, refl, sym, ap, ◌∙◌, arith, if◌then◌else◌}
use Rattle.std.proofs.lemmas.List.Elements.{All-contains, All-nil, All-cons}
use Rattle.std.proofs.lemmas.Option.{slice_get_within, get_or_from_slice_get}
use Rattle.std.specs.Prelude.{slice_get}
use Rattle.cbase.specs.declared.ctype.CType.{CType}
use Rattle.cbase.specs.declared.ctype.CType.TheVariants.{Void as VoidType}
use Rattle.typing.specs.ctypes.Table.{AreApart}
use Rattle.typing.specs.declared.ctypes.binary.Group.{Group}
use Rattle.typing.specs.declared.ctypes.found.Broken.{Broken}
use Rattle.typing.specs.declared.ctypes.found.Broken.TheVariants.{Construct, Rule}
use Rattle.typing.specs.declared.ctypes.found.Outcome.{Outcome}
use Rattle.typing.specs.declared.ctypes.found.Outcome.TheVariants.{Typed as OutcomeTyped, Broken as OutcomeBroken}
use Rattle.typing.specs.ctypes.Assigning.{assignment_demands, update_demands}
use Rattle.typing.specs.ctypes.Broken.{Judgement, Typed, Breaks, ComesBefore, Demand, all_broken, ComesBeforeEach, IsLeast, IsJudged, judged, AreInOrder}
use Rattle.typing.specs.ctypes.Operands.{Operand, Answers}
use Rattle.typing.specs.ctypes.Unary.{count_demands}

-- of two each of which comes before the other there is one
before_antisym : (a b : Broken) → ComesBefore a b → ComesBefore b a → a ≡ b
before_antisym (Construct m) (Construct n) h k = ap Construct (omega arith)
before_antisym (Construct m) (Rule n) h k = absurd k
before_antisym (Rule m) (Construct n) h k = absurd h
before_antisym (Rule m) (Rule n) h k = ap Rule (omega arith)

before_refl : (a : Broken) → ComesBefore a a
before_refl (Construct m) = omega arith
before_refl (Rule m) = omega arith

none_least : (broken : List Broken) (least : Broken) → broken ≡ [] → IsLeast broken least → ⊥
none_least [] least e h = let inside : h.here.0 < 0 = h.here.1 in omega arith
none_least (b ∷ rest) least e h = cc

pub one_judgement : (broken : List Broken) (t : CType) (first second : Judgement) → IsJudged broken t first → IsJudged broken t second → first ≡ second
one_judgement broken t (Typed a) (Typed b) h k = ap Typed (h.1 ∙ sym k.1)
one_judgement broken t (Typed a) (Breaks b) h k = absurd (none_least broken b h.0 k)
one_judgement broken t (Breaks a) (Typed b) h k = absurd (none_least broken a k.0 h)
one_judgement broken t (Breaks a) (Breaks b) h k =
    ap Breaks (before_antisym a b (All-contains (ComesBefore a) broken b h.first k.here) (All-contains (ComesBefore b) broken a k.first h.here))

-- what is broken of demands that come later comes later
broken_later : (own : Broken) (rest : List Demand) → ComesBeforeEach own rest → All (ComesBefore own) (all_broken rest)
broken_later own [] h = All-nil (ComesBefore own)
broken_later own (demand ∷ rest) h =
    let later : All (ComesBefore own) (all_broken rest) = broken_later own rest h.1 in
    elim demand.holds as (λ holds. All (ComesBefore own) (if holds then all_broken rest else demand.broken ∷ all_broken rest)) [
      | true ↦ later
      | false ↦ All-cons (ComesBefore own) demand.broken (all_broken rest) h.0 later
    ]

pub judged_is : (demands : List Demand) (t : CType) → AreInOrder demands → IsJudged (all_broken demands) t (judged demands t)
judged_is [] t h = (refl, refl)
judged_is (demand ∷ rest) t h =
    let behind : IsJudged (all_broken rest) t (judged rest t) = judged_is rest t h.1 in
    let later : All (ComesBefore demand.broken) (all_broken rest) = broken_later demand.broken rest h.0 in
    elim demand.holds as (λ holds. IsJudged (if holds then all_broken rest else demand.broken ∷ all_broken rest) t (if holds then judged rest t else Breaks demand.broken)) [
      | true ↦ behind
      | false ↦ record { here = (0, omega arith, refl); first = All-cons (ComesBefore demand.broken) demand.broken (all_broken rest) (before_refl demand.broken) later }
    ]

pub count_ordered : (operand : Operand) → AreInOrder (count_demands operand)
count_ordered operand = ((omega arith, tt), (tt, tt))

pub assignment_ordered : (left right : Operand) → AreInOrder (assignment_demands left right)
assignment_ordered left right = ((omega arith, (omega arith, tt)), ((omega arith, tt), (tt, tt)))

pub update_ordered : (group : Group) (left right : Operand) → AreInOrder (update_demands group left right)
update_ordered group left right = ((omega arith, tt), (tt, tt))

same_place : (types : List CType) → AreApart types → (m n : ℕ) (t : CType) → slice_get types m ≡ Some t → slice_get types n ≡ Some t → m ≡ n
same_place types apart m n t e f =
    apart m n (slice_get_within types m t e) (slice_get_within types n t f)
    (get_or_from_slice_get types m t VoidType e ∙ sym (get_or_from_slice_get types n t VoidType f))

pub one_answer : (old new : List CType) (judgement : Judgement) (first second : Outcome) → AreApart new
    → Answers old judgement new first → Answers old judgement new second → first ≡ second
one_answer old new (Typed t) (OutcomeTyped m) (OutcomeTyped n) apart h k = ap OutcomeTyped (same_place new apart m n t h.0 k.0)
one_answer old new (Typed t) (OutcomeTyped m) (OutcomeBroken b) apart h k = absurd k
one_answer old new (Typed t) (OutcomeBroken a) second apart h k = absurd h
one_answer old new (Breaks broken) (OutcomeTyped m) second apart h k = absurd h
one_answer old new (Breaks broken) (OutcomeBroken a) (OutcomeTyped n) apart h k = absurd k
one_answer old new (Breaks broken) (OutcomeBroken a) (OutcomeBroken b) apart h k = ap OutcomeBroken (h.0 ∙ sym k.0)
