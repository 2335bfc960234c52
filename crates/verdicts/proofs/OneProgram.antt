-- The items that main needs are one program at most, or one of them is refused.
use Rattle.std.proofs.Common.{◌≡◌, ℕ, Bool, List, ap, sym, ◌∙◌}
use Rattle.cbase.specs.declared.abi.Abi.{Abi}
use Rattle.cbase.specs.declared.structs.StructDef.{StructDef}
use Rattle.cbase.specs.declared.tree.item.Item.{Item}
use Rattle.cread.specs.InOrder.{at_file}
use Rattle.ctokens.specs.declared.item_span.ItemSpan.{ItemSpan}
use Rattle.ctokens.specs.declared.token.Tokens.{Tokens}
use Rattle.items.specs.languages.CLanguage.{Declarations, c_language, c_file}
use Rattle.typing.specs.Outcomes.{Handed}
use Rattle.ccheck.specs.Checked.{IsRefused, at_beginning}
use Rattle.ccheck.specs.Needed.{spans_of}
use Rattle.ccheck.specs.Walk.{HaveOneAnswer}
use Rattle.ccheck.specs.declared.refusal.Refusal.{Refusal}
use Rattle.c_machine.specs.Program.{Program}
use Rattle.verdicts.specs.Program.{IsProgram}

abbrev program_with : List Item → List Handed → List StructDef → Abi → Bool → Program
program_with items handed structs abi strict = record { items = items; handed = handed; structs = structs; abi = abi; strict = strict }

same_fields : (p q : Program) → p.items ≡ q.items → p.handed ≡ q.handed → p.structs ≡ q.structs → p.abi ≡ q.abi → p.strict ≡ q.strict → p ≡ q
same_fields p q items handed structs abi strict =
    ap (λ (x : List Item). program_with x p.handed p.structs p.abi p.strict) items
    ∙ (ap (λ (x : List Handed). program_with q.items x p.structs p.abi p.strict) handed
    ∙ (ap (λ (x : List StructDef). program_with q.items q.handed x p.abi p.strict) structs
    ∙ (ap (λ (x : Abi). program_with q.items q.handed q.structs x p.strict) abi
    ∙ ap (λ (x : Bool). program_with q.items q.handed q.structs q.abi x) strict)))

module _ (one_answer : (abi : Abi) → HaveOneAnswer (c_language abi) (c_file abi)) (t : Tokens) (items : List ItemSpan) (numbers : List ℕ) (abi : Abi) (strict : Bool) where
  pub pass_or_refused : (reason : Refusal) (p : Program) → IsProgram t items numbers abi strict p → IsRefused t items numbers abi strict reason → ⊥
  pass_or_refused reason p is (behind, first) =
      (one_answer abi).never_both t (spans_of items numbers) at_file is.after (at_beginning t items abi strict) is.behind behind p.items p.handed reason is.passing first

  pub one_refusal : (reason other : Refusal) → IsRefused t items numbers abi strict reason → IsRefused t items numbers abi strict other → reason ≡ other
  one_refusal reason other (behind, is) (outside, also) =
      (one_answer abi).one_refusal t (spans_of items numbers) at_file (at_beginning t items abi strict) behind outside reason other is also

  pub one_program : (p q : Program) → IsProgram t items numbers abi strict p → IsProgram t items numbers abi strict q → p ≡ q
  one_program p q is also =
      let (trees, rows, places) = (one_answer abi).one_program t (spans_of items numbers) at_file is.after also.after (at_beginning t items abi strict) is.behind
      also.behind p.items q.items p.handed q.handed is.passing also.passing in
      same_fields p q trees rows (is.structs_are ∙ (ap (λ (x : Declarations). x.structs) places ∙ sym also.structs_are))
      (is.abi_is ∙ sym also.abi_is) (is.strict_is ∙ sym also.strict_is)
