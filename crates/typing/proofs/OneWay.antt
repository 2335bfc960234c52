-- A way to a member leads to one place, and arguments are read in one way.
use Rattle.std.proofs.Common.{◌≡◌, ℕ, List, ◌∷◌, Option, Some, None, refl, sym, ap, ◌∙◌, subst}
use Rattle.cbase.specs.declared.abi.Abi.{Abi}
use Rattle.cbase.specs.declared.ctype.CType.{CType}
use Rattle.cbase.specs.declared.place.Place.{Place}
use Rattle.cbase.specs.declared.structs.StructDef.{StructDef}
use Rattle.cbase.specs.declared.tree.expr.Expr.{Expr}
use Rattle.typing.specs.declared.ctypes.found.Broken.{Broken}
use Rattle.typing.specs.ctypes.Broken.{Judgement, Typed, Breaks}
use Rattle.typing.specs.Calls.{Argument}
use Rattle.typing.specs.Forms.{Step}
use Rattle.typing.specs.Idiom.{plus, times}
use Rattle.typing.specs.Paths.{Way, Stops, first_fault, Leads, LeadsFrom, Arrives, ToMember, MemberTooFar, NoMember, ToItem, ItemTooLarge, NoItem, NoSteps, ToFirst, FirstTooFar, NoFirst, FromItem}
use Rattle.typing.specs.Rules.{AreArguments, NoArguments, MoreArguments}
use Rattle.typing.specs.Told.{Told}

typed_same : {j : Judgement} (t u : CType) → j ≡ Typed t → j ≡ Typed u → t ≡ u
typed_same t u e f = let same : Typed t ≡ Typed u = sym e ∙ f in cc same

typed_breaks : {A : Type 0} {j : Judgement} (t : CType) (b : Broken) → j ≡ Typed t → j ≡ Breaks b → A
typed_breaks t b e f = let same : Typed t ≡ Breaks b = sym e ∙ f in absurd (cc same)

breaks_same : {j : Judgement} (b c : Broken) → j ≡ Breaks b → j ≡ Breaks c → b ≡ c
breaks_same b c e f = let same : Breaks b ≡ Breaks c = sym e ∙ f in cc same

pub some_same : {A : Type 0} {o : Option A} (a b : A) → o ≡ Some a → o ≡ Some b → a ≡ b
some_same {A} a b e f = let same : Some a ≡ Some b = sym e ∙ f in cc same

pub some_none : {A B : Type 0} {o : Option A} (a : A) → o ≡ Some a → o ≡ None → B
some_none {A} a e f = let same : Some a ≡ None = sym e ∙ f in absurd (cc same)

one_lead : {abi : Abi} {structs : List StructDef} {word : Place} {t : CType} {offset : ℕ} {path : List Step} {indices : List ℕ} {first second : Way}
    → Leads abi structs word t offset path indices first → Leads abi structs word t offset path indices second → first ≡ second
one_lead Arrives Arrives = refl
one_lead {abi} {structs} {word} {t} {offset} {first} {second} (ToMember {next = next} {bytes = bytes} {path = path} {indices = indices} typed at leads) (ToMember {next = other} {bytes = further} also there comes) =
    one_lead leads
    (subst (λ (u : CType). Leads abi structs word u (plus offset bytes) path indices second) (sym (typed_same next other typed also))
    (subst (λ (n : ℕ). Leads abi structs word other (plus offset n) path indices second) (sym (some_same bytes further at there)) comes))
one_lead (ToMember {next = next} typed at leads) (NoMember {broken = broken} breaks) = typed_breaks next broken typed breaks
one_lead (NoMember {broken = broken} breaks) (ToMember {next = next} typed at leads) = typed_breaks next broken typed breaks
one_lead (NoMember breaks) (NoMember also) = refl
one_lead (ToMember {bytes = bytes} typed at leads) (MemberTooFar also none) = some_none bytes at none
one_lead (MemberTooFar also none) (ToMember {bytes = bytes} typed at leads) = some_none bytes at none
one_lead (MemberTooFar {next = next} typed none) (NoMember {broken = broken} breaks) = typed_breaks next broken typed breaks
one_lead (NoMember {broken = broken} breaks) (MemberTooFar {next = next} typed none) = typed_breaks next broken typed breaks
one_lead (MemberTooFar typed none) (MemberTooFar also never) = refl
one_lead {abi} {structs} {word} {t} {offset} {first} {second} (ToItem {item = item} {bytes = bytes} {value = value} {path = path} {indices = indices} of at leads) (ToItem {item = other} {bytes = further} also there comes) =
    one_lead leads
    (subst (λ (u : CType). Leads abi structs word u (plus offset (times value bytes)) path indices second) (sym (some_same item other of also))
    (subst (λ (n : ℕ). Leads abi structs word other (plus offset (times value n)) path indices second) (sym (some_same bytes further at there)) comes))
one_lead (ToItem {item = item} of at leads) (NoItem none) = some_none item of none
one_lead (NoItem none) (ToItem {item = item} of at leads) = some_none item of none
one_lead (NoItem none) (NoItem also) = refl
one_lead (ToItem {bytes = bytes} of at leads) (ItemTooLarge also none) = some_none bytes at none
one_lead (ItemTooLarge also none) (ToItem {bytes = bytes} of at leads) = some_none bytes at none
one_lead (ItemTooLarge {item = item} of large) (NoItem none) = some_none item of none
one_lead (NoItem none) (ItemTooLarge {item = item} of large) = some_none item of none
one_lead (ItemTooLarge of large) (ItemTooLarge also larger) = refl

pub one_way : {abi : Abi} {structs : List StructDef} {word : Place} {t : CType} {path : List Step} {indices : List ℕ} {first second : Way}
    → LeadsFrom abi structs word t path indices first → LeadsFrom abi structs word t path indices second → first ≡ second
one_way {abi} {structs} {word} {t} {first} {second} (ToFirst {next = next} {bytes = bytes} {path = path} {indices = indices} typed at leads) (ToFirst {next = other} {bytes = further} also there comes) =
    one_lead leads
    (subst (λ (u : CType). Leads abi structs word u bytes path indices second) (sym (typed_same next other typed also))
    (subst (λ (n : ℕ). Leads abi structs word other n path indices second) (sym (some_same bytes further at there)) comes))
one_way (ToFirst {next = next} typed at leads) (NoFirst {broken = broken} breaks) = typed_breaks next broken typed breaks
one_way (NoFirst {broken = broken} breaks) (ToFirst {next = next} typed at leads) = typed_breaks next broken typed breaks
one_way {word = word} (NoFirst {broken = broken} {name = name} breaks) (NoFirst {broken = other} also) = ap (λ (b : Broken). Stops (first_fault word name.place b)) (breaks_same broken other breaks also)
one_way NoSteps NoSteps = refl
one_way (ToFirst {bytes = bytes} typed at leads) (FirstTooFar also none) = some_none bytes at none
one_way (FirstTooFar also none) (ToFirst {bytes = bytes} typed at leads) = some_none bytes at none
one_way (FirstTooFar {next = next} typed none) (NoFirst {broken = broken} breaks) = typed_breaks next broken typed breaks
one_way (NoFirst {broken = broken} breaks) (FirstTooFar {next = next} typed none) = typed_breaks next broken typed breaks
one_way (FirstTooFar typed none) (FirstTooFar also never) = refl
one_way (FromItem leads) (FromItem comes) = one_lead leads comes

pub one_arguments : {structs : List StructDef} {exprs : List Expr} {told : List Told} {first second : List Argument}
    → AreArguments structs exprs told first → AreArguments structs exprs told second → first ≡ second
one_arguments NoArguments NoArguments = refl
one_arguments (MoreArguments {expr = expr} {known = known} e others) (MoreArguments f further) =
    λ i. record { place = expr.place; operand = (sym e ∙ f) i; value = known.value } ∷ one_arguments others further i
