-- What is said of the bytes of a file that was read is said of the file.
use Rattle.std.proofs.Common.{◌≡◌, ℕ, ◌≤◌, Bool, true, false, ◌&&◌, nat_le, IsTrue, IfOk, ap, ◌∙◌, option_map, option_and_then, Option, None, Some, Result, Ok, Err, List, [], ◌∷◌, length, refl, subst, sym, arith, if◌then◌else◌}
use Rattle.std.proofs.lemmas.Bool.Decides.{nat_tests}
use Rattle.std.proofs.lemmas.Option.{same_Some, none-some}
use Rattle.ctokens.specs.InText.{most_bytes}
use Rattle.command_line.specs.CommandLine.{Seen, command_from, command_of, command_seen, command_with, default_budget, default_int_limit, file_of, is_settled, least_budget, least_int_limit, most_budget, most_digits, most_int_limit, after_words, nothing_seen}
use Rattle.command_line.specs.Numbers.{decimal, is_numeral, is_numeral_in, number_or}
use Rattle.command_line.specs.declared.command.Command.{Command}
use Rattle.report.specs.declared.answer.Answer.{Answer}
use Rattle.report.specs.declared.answer.Answer.TheVariants.{Safe, Warned, Spent, Large, NotRead, Construct, NotYet, TooLong, Usage, ReadFault, OutOfMemory}
use Rattle.report.specs.declared.answer.Shown.{Shown}
use Rattle.report.specs.declared.limits.Limits.{Limits}
use Rattle.verdicts.specs.declared.top.Plan.{Plan}
use Rattle.verdicts.specs.declared.judge.Judged.{Judged}
use Rattle.verdicts.specs.Verdict.{IsExact, IsVerdict, Judges}
use Rattle.verdicts.specs.Answered.{IsAnswered, IsWhole}
use Rattle.verdicts.specs.Shown.{AreNames, limits_in}

module _ (limits : Limits) (tells : Bool) (content : Option (List ℕ)) (left file : List ℕ) where
  answered_whole : (bytes : List ℕ) (names : List (List ℕ)) (answer : Answer) → (IsTrue tells → IsWhole content left bytes) → length bytes ≤ most_bytes → IsVerdict answer
      → Judges limits file bytes answer → AreNames file bytes answer names → IsAnswered tells content left limits file names answer
  answered_whole bytes names Safe whole short verdict judged named = (bytes, whole, judged, named)
  answered_whole bytes names (Warned warnings complete) whole short verdict judged named = (bytes, whole, judged, named)
  answered_whole bytes names Spent whole short verdict judged named = (bytes, whole, judged, named)
  answered_whole bytes names Large whole short verdict judged named = (bytes, whole, judged, named)
  answered_whole bytes names (NotRead why) whole short verdict judged named = (bytes, whole, judged, named)
  answered_whole bytes names (Construct number place) whole short verdict judged named = (bytes, whole, judged, named)
  answered_whole bytes names (NotYet place) whole short verdict judged named = (bytes, whole, judged, named)
  answered_whole bytes names (TooLong taken) whole short verdict (is, inside) named = absurd (omega arith)
  answered_whole bytes names Usage whole short verdict judged named = absurd verdict
  answered_whole bytes names ReadFault whole short verdict judged named = absurd verdict
  answered_whole bytes names OutOfMemory whole short verdict judged named = absurd verdict

  pub answered_result : {E : Type 0} (bytes : List ℕ) (result : Result Judged E) → (IsTrue tells → IsWhole content left bytes) → length bytes ≤ most_bytes
      → IfOk result (λ judged. IsVerdict judged.answer) → IfOk result (λ judged. Judges limits file bytes judged.answer)
      → IfOk result (λ judged. AreNames file bytes judged.answer judged.names) → IfOk result (λ judged. IsAnswered tells content left limits file judged.names judged.answer)
  answered_result bytes (Ok judged) whole short verdict judges named = answered_whole bytes judged.names judged.answer whole short verdict judges named
  answered_result bytes (Err error) whole short verdict judges named = tt

  -- what is said of an answer is said of it with its report
  pub plan_answered : {E : Type 0} (result : Result Plan E) (shown : Shown) → IsAnswered tells content left limits file shown.names shown.answer
      → IfOk result (λ plan. plan.shown ≡ shown) → IfOk result (λ plan. IsAnswered tells content left limits file plan.shown.names plan.shown.answer)
  plan_answered (Ok plan) shown answered is = subst (λ (s : Shown). IsAnswered tells content left limits file s.names s.answer) (sym is) answered
  plan_answered (Err error) shown answered is = tt

-- and that it is exact
pub plan_exact : {E : Type 0} (limits : Limits) (file whole : List ℕ) (result : Result Plan E) (shown : Shown) → ((shown.answer ≡ ReadFault → ⊥) → IsExact limits file whole shown.answer)
    → IfOk result (λ plan. plan.shown ≡ shown) → IfOk result (λ plan. (plan.shown.answer ≡ ReadFault → ⊥) → IsExact limits file whole plan.shown.answer)
plan_exact limits file whole (Ok plan) shown exact is = subst (λ (s : Shown). (s.answer ≡ ReadFault → ⊥) → IsExact limits file whole s.answer) (sym is) exact
plan_exact limits file whole (Err error) shown exact is = tt

-- the answers but these three are verdicts
pub is_verdict : (answer : Answer) → (answer ≡ Usage → ⊥) → (answer ≡ ReadFault → ⊥) → (answer ≡ OutOfMemory → ⊥) → IsVerdict answer
is_verdict Safe usage fault memory = tt
is_verdict (Warned warnings complete) usage fault memory = tt
is_verdict (NotRead why) usage fault memory = tt
is_verdict (Construct number place) usage fault memory = tt
is_verdict (NotYet place) usage fault memory = tt
is_verdict Spent usage fault memory = tt
is_verdict Large usage fault memory = tt
is_verdict (TooLong taken) usage fault memory = tt
is_verdict Usage usage fault memory = usage refl
is_verdict ReadFault usage fault memory = fault refl
is_verdict OutOfMemory usage fault memory = memory refl

-- the words name the file of the command that they ask for
pub file_named : (command : Command) (file : List ℕ) (words : List (List ℕ)) → command_of words ≡ Some command → file_of words ≡ Some file
    → command.file ≡ file
file_named command file words asked told =
    let both : Some command.file ≡ Some file = sym (ap (option_map (λ (c : Command). c.file)) asked) ∙ told in
    cc

-- the limits of a command are those of the words
pub command_limits : (command : Command) (words : List (List ℕ)) → command_of words ≡ Some command → limits_in (Some command) ≡ limits_in (command_of words)
command_limits command words asked = ap limits_in (sym asked)

-- and the budget is at least 1
numeral_least : (digits : Bool) (low high : Bool) (value : ℕ) → nat_le 1 value ≡ low → (digits && (low && high)) ≡ true → 1 ≤ value
numeral_least true true high value is both = grind (arith, nat_tests)
numeral_least true false high value is both = absurd cc
numeral_least false low high value is both = absurd cc

budget_within : (word : Option (List ℕ)) (budget : ℕ) → number_or most_digits default_budget least_budget most_budget word ≡ Some budget → 1 ≤ budget
budget_within None budget is = subst (λ (n : ℕ). 1 ≤ n) (same_Some default_budget budget is) (omega arith)
budget_within (Some word) budget is = by_test (is_numeral_in most_digits least_budget most_budget word) refl is
  where
    by_test : (test : Bool) → is_numeral_in most_digits least_budget most_budget word ≡ test → (if test then Some (decimal word) else None) ≡ Some budget → 1 ≤ budget
    by_test true numeral same =
        subst (λ (n : ℕ). 1 ≤ n) (same_Some (decimal word) budget same)
        (numeral_least (is_numeral most_digits word) (nat_le 1 (decimal word)) (nat_le (decimal word) most_budget) (decimal word) refl numeral)
    by_test false numeral same = absurd (none-some budget same)

budget_with : (file : Option (List ℕ)) (budget int_limit : Option ℕ) (command : Command) → ((n : ℕ) → budget ≡ Some n → 1 ≤ n) → command_with file budget int_limit ≡ Some command
    → 1 ≤ command.budget
budget_with (Some (byte ∷ bytes)) (Some budget) (Some int_limit) command least is =
    subst (λ (c : Command). 1 ≤ c.budget) (same_Some (record { file = byte ∷ bytes; budget = budget; int_limit = int_limit }) command is) (least budget refl)
budget_with (Some (byte ∷ bytes)) (Some budget) None command least is = absurd (none-some command is)
budget_with (Some (byte ∷ bytes)) None int_limit command least is = absurd (none-some command is)
budget_with (Some []) budget int_limit command least is = absurd (none-some command is)
budget_with None budget int_limit command least is = absurd (none-some command is)

budget_from : (settled : Bool) (seen : Seen) (command : Command) → (if settled then command_from seen.file seen.budget seen.int_limit else None) ≡ Some command → 1 ≤ command.budget
budget_from true seen command is =
    budget_with seen.file (number_or most_digits default_budget least_budget most_budget seen.budget)
    (number_or most_digits default_int_limit least_int_limit most_int_limit seen.int_limit) command (budget_within seen.budget) is
budget_from false seen command is = absurd (none-some command is)

budget_seen : (seen : Option Seen) (command : Command) → option_and_then command_seen seen ≡ Some command → 1 ≤ command.budget
budget_seen None command is = absurd (none-some command is)
budget_seen (Some seen) command is = budget_from (is_settled seen.next) seen command is

pub budget_some : (command : Command) (found : Option Command) (words : List (List ℕ)) → found ≡ command_of words → found ≡ Some command → 1 ≤ command.budget
budget_some command found words asked is = budget_seen (after_words nothing_seen words) command (sym asked ∙ is)
