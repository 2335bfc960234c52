-- What is found of the items of a text from its beginning is what is answered of them.
use Rattle.std.proofs.Common.{◌≡◌, ◌++◌, ℕ, Bool, List, map, refl, sym, ◌∙◌, subst}
use Rattle.cbase.specs.declared.abi.Abi.{Abi}
use Rattle.cbase.specs.declared.tree.item.Item.{Item}
use Rattle.cgrammar.specs.Phrases.{Context as Standing}
use Rattle.cread.specs.InOrder.{at_file}
use Rattle.ctokens.specs.declared.item_span.ItemSpan.{ItemSpan}
use Rattle.ctokens.specs.declared.token.Tokens.{Tokens}
use Rattle.definitions.specs.Defined.{bodied_names, defined_names}
use Rattle.expressions.specs.Context.{Context, declared, Agrees}
use Rattle.expressions.specs.FileScope.{file_scope}
use Rattle.expressions.specs.Language.{language}
use Rattle.expressions.specs.Numbers.{Numbering, handed_at}
use Rattle.expressions.specs.declared.handed_row.HandedRow.{HandedRow}
use Rattle.expressions.proofs.Growth.{agrees_before}
use Rattle.items.specs.languages.AtTypes.{declarations_at, HasSignatures}
use Rattle.items.specs.languages.Begins.{Begins}
use Rattle.items.specs.languages.CLanguage.{Declarations, c_language, c_file}
use Rattle.items.specs.languages.CLaws.{FindsWhatContextsFind}
use Rattle.items.specs.languages.LeadsBack.{LeadsBack}
use Rattle.ccheck.specs.declared.items_checked.ItemsChecked.{ItemsChecked}
use Rattle.ccheck.specs.declared.items_checked.ItemsChecked.TheVariants.{AllPass, FirstRefused}
use Rattle.ccheck.specs.declared.refusal.Refusal.{Refusal}
use Rattle.ccheck.specs.Checked.{IsTyped, IsRefused, at_beginning}
use Rattle.ccheck.specs.Needed.{spans_of}
use Rattle.ccheck.specs.Steps.{AreChecked, PassSoFar, RefusedFirst}
use Rattle.ccheck.specs.Walk.{ArePassing, IsFirstRefused}
use Rattle.ccheck.proofs.Carrying.{passing_carried, refused_carried}

module _ (t : Tokens) (items : List ItemSpan) (numbers : List ℕ) (abi : Abi) (strict : Bool) (carried : FindsWhatContextsFind) (old new : Context)
    (begins : Begins abi strict (bodied_names t items) (defined_names t items) old) where
  -- a context by its signatures
  valid : (n : Numbering) → Agrees n new → HasSignatures n (declared new)
  valid n agrees = agrees.signatures

  passing_in_c : (program : List Item) (after : Standing) (passed : PassSoFar t abi (spans_of items numbers) program after old new) (n : Numbering) → Agrees n new → LeadsBack n
      → ArePassing t (c_language abi) (c_file abi) (spans_of items numbers) at_file (at_beginning t items abi strict) program (map (handed_at n) new.handed) after (declarations_at n (declared new))
  passing_in_c program after passed n agrees back =
      let (passing, before) = passing_carried t (language abi n) (c_language abi) (file_scope abi n) (c_file abi) (declarations_at n) (HasSignatures n) (carried abi n back) (passed.passing n agrees) (valid n agrees) in
      let begun : declarations_at n (declared old) ≡ at_beginning t items abi strict = begins.declares n (agrees_before old new n passed.grows agrees) back in
      let rows : passed.rows ≡ new.handed = sym (passed.handed ∙ (λ i. begins.handed i ++ passed.rows)) in
      subst (λ (env : Declarations). ArePassing t (c_language abi) (c_file abi) (spans_of items numbers) at_file env program (map (handed_at n) new.handed) after (declarations_at n (declared new))) begun
      (subst (λ (handed : List HandedRow). ArePassing t (c_language abi) (c_file abi) (spans_of items numbers) at_file (declarations_at n (declared old)) program (map (handed_at n) handed) after (declarations_at n (declared new))) rows
      passing)

  pub are_typed : (program : List Item) (after : Standing) (read_by : (n : Numbering) × Agrees n new × LeadsBack n) → PassSoFar t abi (spans_of items numbers) program after old new
      → IsTyped t items numbers abi strict (record { program = program; context = new; abi = abi; strict = strict })
  are_typed program after (number, agreeing, backwards) passed = record {
    abi_is = refl;
    strict_is = refl;
    after = after;
    passing = passing_in_c program after passed;
    checked = (program, map (handed_at number) new.handed, after, declarations_at number (declared new), passing_in_c program after passed number agreeing backwards);
  }

  pub is_refused : (refusal : Refusal) (read_by : (n : Numbering) × Agrees n new × LeadsBack n) → RefusedFirst t abi (spans_of items numbers) old new refusal
      → IsRefused t items numbers abi strict refusal
  is_refused refusal (n, agrees, back) refused =
      let (first, before) = refused_carried t (language abi n) (c_language abi) (file_scope abi n) (c_file abi) (declarations_at n) (HasSignatures n) (carried abi n back) (refused.first n agrees) (valid n agrees) in
      let begun : declarations_at n (declared old) ≡ at_beginning t items abi strict = begins.declares n (agrees_before old new n refused.grows agrees) back in (
        declarations_at n (declared new),
        subst (λ (env : Declarations). IsFirstRefused t (c_language abi) (c_file abi) (spans_of items numbers) at_file env refusal (declarations_at n (declared new))) begun first,
      )

module _ (t : Tokens) (items : List ItemSpan) (numbers : List ℕ) (abi : Abi) (strict : Bool) (old new : Context) (spans : List ItemSpan) (bodied defined : List (List ℕ))
    (carried : FindsWhatContextsFind) (are : spans ≡ spans_of items numbers) (bodies : bodied ≡ bodied_names t items) (definitions : defined ≡ defined_names t items)
    (begins : Begins abi strict bodied defined old) (read_by : (n : Numbering) × Agrees n new × LeadsBack n) where
  begins_here : Begins abi strict (bodied_names t items) (defined_names t items) old
  begins_here =
      subst (λ (names : List (List ℕ)). Begins abi strict (bodied_names t items) names old) definitions
      (subst (λ (names : List (List ℕ)). Begins abi strict names defined old) bodies begins)

  -- all of them pass
  pub typed_from : (program : List Item) (checked : ItemsChecked) → checked ≡ AllPass program → AreChecked t abi spans old new checked
      → IsTyped t items numbers abi strict (record { program = program; context = new; abi = abi; strict = strict })
  typed_from program checked is found =
      let (after, passed) = subst (AreChecked t abi spans old new) is found in
      are_typed t items numbers abi strict carried old new begins_here program after read_by (subst (λ (all : List ItemSpan). PassSoFar t abi all program after old new) are passed)

  -- one is the first that is refused
  pub refused_from : (refusal : Refusal) (checked : ItemsChecked) → checked ≡ FirstRefused refusal → AreChecked t abi spans old new checked → IsRefused t items numbers abi strict refusal
  refused_from refusal checked is found =
      is_refused t items numbers abi strict carried old new begins_here refusal read_by
      (subst (λ (all : List ItemSpan). RefusedFirst t abi all old new refusal) are (subst (AreChecked t abi spans old new) is found))
