-- Words that are moved by nothing.
use Rattle.std.proofs.Common.{◌≡◌, ℕ, ◌^◌, ◌%◌, ◌<◌, true, List, nat_lt, ℤ, pos, Option, None, Some, sym, ◌∙◌, ap, subst, eqb-true, ltb-true, arith}
use Rattle.std.specs.Prelude.{◌+ℤ◌, ◌-ℤ◌, FitsSigned}
use Rattle.std.specs.Int.{w64}
use Rattle.std.proofs.lemmas.Bool.{false≢true}
use Rattle.std.proofs.lemmas.Int.{ints}
use Rattle.bytes_core.specs.declared.word.Word.{Word}
use Rattle.bytes_core.specs.declared.word.Word.TheVariants.{Plain, To}
use Rattle.bytes_core.specs.Value.{wrapped, moved}
use Rattle.graph.specs.declared.value.Target.TheVariants.{Region, First, Last, Each}
use Rattle.graph.specs.declared.value.Value.{Value}
use Rattle.graph.specs.declared.value.Value.TheVariants.{Const, Number, Any, Address}
use Rattle.graph.specs.Meaning.{end_word, block_word, first_of, last_of, Ends, HasWord}
use Rattle.graph.specs.Sizes.{is_sized, is_scalar_size}
use Rattle.graph.specs.WellFormed.{is_outward}
use Rattle.graph.proofs.Split.{moved_to}
use Rattle.graph.proofs.Tests.{and_right}
use Rattle.register_steps.proofs.Moved.{moved_twice}
use Rattle.materialise.specs.WithOne.{HasOffset}

module _ (place : ℕ) where
  again : (word : Word) (by : ℤ) → moved (moved word by) (pos place -ℤ pos place) ≡ moved word by
  again word by = moved_twice word by (pos place -ℤ pos place) ∙ ap (moved word) (let e : by +ℤ (pos place -ℤ pos place) ≡ by = omega (arith, ints) in e)

  plain_still : (number : ℕ) → number < 2 ^ 64 → moved (Plain number) (pos place -ℤ pos place) ≡ Plain number
  plain_still number small =
      ap (λ (z : ℤ). Plain (wrapped z)) (let e : pos number +ℤ (pos place -ℤ pos place) ≡ pos number = omega (arith, ints) in e)
      ∙ ap Plain (let e : number % 2 ^ 64 ≡ number = omega arith in e)

  pub to_still : (number : ℕ) (offset : ℤ) → FitsSigned w64 offset → moved (To number offset) (pos place -ℤ pos place) ≡ To number offset
  to_still number offset fits =
      let it = moved_to number place offset fits in
      ap (λ (w : Word). moved w (pos place -ℤ pos place)) (sym it) ∙ again (To number (pos place)) (offset -ℤ pos place) ∙ it

  end_still : (found : Option ℕ) (beyond : Word) (at : ℕ) (offset : ℤ) → FitsSigned w64 offset → moved (end_word found beyond at offset) (pos place -ℤ pos place) ≡ end_word found beyond at offset
  end_still None beyond at offset fits = again beyond (offset -ℤ pos at)
  end_still (Some number) beyond at offset fits = to_still number offset fits

  block_still : (found : Option ℕ) (offset : ℤ) → FitsSigned w64 offset → moved (block_word found offset) (pos place -ℤ pos place) ≡ block_word found offset
  block_still None offset fits = plain_still 0 (omega arith)
  block_still (Some number) offset fits = to_still number offset fits

  -- what lies beyond an end is the same where it is moved by nothing
  pub still : (count : ℕ) (blocks : ℕ → List ℕ) (ends : ℕ → Ends) (value : Value) (word : Word) → is_outward value ≡ true → is_sized value ≡ true → HasOffset value → HasWord count blocks ends value word →
      moved word (pos place -ℤ pos place) ≡ word
  still count blocks ends (Const number size) word outward sized fits has =
      let long : size ≡ 8 = eqb-true _ _ outward in
      let small : number < 256 ^ 8 = subst (λ (n : ℕ). number < 256 ^ n) long (ltb-true _ _ (and_right (is_scalar_size size) (nat_lt number (256 ^ size)) sized)) in
      ap (λ (w : Word). moved w (pos place -ℤ pos place)) has ∙ plain_still number small ∙ sym has
  still count blocks ends (Number size) word outward sized fits has = absurd (false≢true outward)
  still count blocks ends Any word outward sized fits has = absurd (false≢true outward)
  still count blocks ends (Address object offset Region) word outward sized fits has = ap (λ (w : Word). moved w (pos place -ℤ pos place)) has ∙ block_still (first_of (blocks object)) offset fits ∙ sym has
  still count blocks ends (Address object offset First) word outward sized fits has = ap (λ (w : Word). moved w (pos place -ℤ pos place)) has ∙ end_still (first_of (blocks object)) (ends object).after (ends object).head offset fits ∙ sym has
  still count blocks ends (Address object offset Last) word outward sized fits has = ap (λ (w : Word). moved w (pos place -ℤ pos place)) has ∙ end_still (last_of (blocks object)) (ends object).before (ends object).back offset fits ∙ sym has
  still count blocks ends (Address object offset Each) word outward sized fits has = absurd (false≢true outward)
