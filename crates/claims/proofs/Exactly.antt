-- What is answered of a plain program of few walks is exact.
use Rattle.std.proofs.Common.{◌≡◌, ℕ, ◌+◌, ◌≤◌, Bool, true, false, Option, Some, List, ◌++◌, length, map, IsTrue, All, refl, sym, ◌∙◌, ap, subst, arith}
use Rattle.std.proofs.lemmas.List.{length-append}
use Rattle.std.proofs.lemmas.Option.{same_Some, none-some}
use Rattle.cbase.specs.declared.abi.Abi.{Abi}
use Rattle.cbase.specs.declared.abi.Abi.TheVariants.{Lp64}
use Rattle.ctokens.specs.InText.{most_bytes}
use Rattle.ctokens.specs.declared.item_span.ItemSpan.{ItemSpan}
use Rattle.ctokens.specs.declared.token.Tokens.{Tokens}
use Rattle.ctokens.proofs.ItemsExact.{answers_unique}
use Rattle.ctokens.proofs.OneList.{one_list, one_place, never_both}
use Rattle.items.specs.languages.CLanguage.{c_language, c_file}
use Rattle.ccheck.specs.Walk.{HaveOneAnswer}
use Rattle.ccheck.proofs.OneAnswer.{one_answer}
use Rattle.c_machine.specs.Program.{Program}
use Rattle.flow.specs.declared.flow_graph.Flow.{Flow}
use Rattle.driver.specs.declared.verdict.Verdict.{Verdict}
use Rattle.driver.specs.declared.verdict.Verdict.TheVariants as analysis
use Rattle.driver.specs.declared.verdict.Warning.{Warning as AnalysisWarning}
use Rattle.judgement.specs.declared.judgement.Judgement.{Judgement}
use Rattle.judgement.specs.declared.judgement.Judgement.TheVariants as judgement
use Rattle.judgement.specs.Judged.{IsJudged, IsJudgement}
use Rattle.plain.specs.Followed.{HasFewWalks}
use Rattle.plain_programs.specs.Programs.{IsExactFor, IsPlainProgram, IsWarnedExactly}
use Rattle.plain_programs.proofs.Judged.{plain_judged}
use Rattle.report.specs.declared.answer.Answer.{Answer}
use Rattle.report.specs.declared.answer.Answer.TheVariants.{Safe, Warned, Spent, Large, NotRead, Construct, NotYet, TooLong, Usage, ReadFault, OutOfMemory}
use Rattle.report.specs.declared.limits.Limits.{Limits}
use Rattle.report.specs.declared.warning.Warning.{Warning}
use Rattle.verdicts.specs.Answered.{IsAnswered, IsJudged as IsJudgedOf}
use Rattle.verdicts.specs.Found.{answer_of_judgement, answer_of_verdict, warning_at, within}
use Rattle.verdicts.specs.Program.{HoldsProgram, IsProgram}
use Rattle.verdicts.specs.Verdict.{HasVerdict, IsAnalysed, IsVerdict, Judges}
use Rattle.verdicts.proofs.OneProgram.{one_program}
use Rattle.verdicts.proofs.OneVerdict.{AtRead, exact_verdict, one_stage}
use Rattle.claims.specs.Plain.{IsExactly, MeansExactly}
use Rattle.claims.specs.Warned.{IsMetAt}
use Rattle.claims.proofs.Warnings.{all_printed, among_told}

-- Of the bytes of a file one program is found.

c_answers : (abi : Abi) → HaveOneAnswer (c_language abi) (c_file abi)
c_answers abi = one_answer (c_language abi) (c_file abi)

pub record AreSame (t other : Tokens) (p q : Program) : Type 0 where
  tokens : t ≡ other
  program : p ≡ q

module _ (file bytes : List ℕ) (t other : Tokens) (p q : Program) (holds : HoldsProgram file bytes Lp64 false t p) (also : HoldsProgram file bytes Lp64 false other q) where
  stages : AtRead t holds.items holds.numbers ≡ AtRead other also.items also.numbers
  stages =
      one_stage one_list one_place never_both answers_unique c_answers file bytes (AtRead t holds.items holds.numbers) (AtRead other also.items also.numbers)
      (holds.is_short, holds.is_read) (also.is_short, also.is_read)

  same_program : AreSame t other p q
  same_program =
      let tokens : t ≡ other = (let s = stages in cc) in
      let items : holds.items ≡ also.items = (let s = stages in cc) in
      let numbers : holds.numbers ≡ also.numbers = (let s = stages in cc) in
      record {
        tokens = tokens;
        program = one_program c_answers other also.items also.numbers Lp64 false p q
            (subst (λ (ns : List ℕ). IsProgram other also.items ns Lp64 false p) numbers
            (subst (λ (spans : List ItemSpan). IsProgram other spans holds.numbers Lp64 false p) items
            (subst (λ (u : Tokens). IsProgram u holds.items holds.numbers Lp64 false p) tokens holds.is_program)))
            also.is_program;
      }

-- What is found of a plain program says what is answered of it.

errors_met : (t : Tokens) (p : Program) (told : List AnalysisWarning) (complete : Bool) → IsWarnedExactly p told complete
    → All (λ (warning : Warning). (warning.error ≡ true) × IsMetAt t p warning.kind warning.place) (map (warning_at t) told)
errors_met t p told complete exact = λ k d within.
    let (warning, among, is) = among_told t told k d within in
    subst (λ (w : Warning). (w.error ≡ true) × IsMetAt t p w.kind w.place) (sym is)
    (exact.errors warning among, let (choices, leads) = exact.met warning among in (choices, warning.place, leads, refl))

answered_exactly : (t : Tokens) (p : Program) (found : Verdict) → IsExactFor p found → IsExactly t p (answer_of_verdict t found)
answered_exactly t p (analysis.Safe trail) exact = exact
answered_exactly t p (analysis.Warned warnings trail complete next) exact = record {
  whole = exact.whole;
  unsound = exact.unsound;
  errors = errors_met t p warnings complete exact;
  printed = all_printed t p warnings exact.tells;
}
answered_exactly t p (analysis.Spent trail next) exact = absurd exact
answered_exactly t p (analysis.Large trail entry) exact = absurd exact
answered_exactly t p (analysis.NotYet place) exact = absurd exact

module _ (limits : Limits) (file bytes : List ℕ) (t : Tokens) (p : Program) (flow : Flow) (holds : HoldsProgram file bytes Lp64 false t p) (plain : IsPlainProgram p flow) (few : HasFewWalks flow limits.budget) where
  by_judgement : (found : Judgement) (answer : Answer) → IsJudgement p (within limits) found → answer_of_judgement t found ≡ Some answer → IsExactly t p answer
  by_judgement judgement.NoGraph answer is answers = absurd (none-some answer answers)
  by_judgement (judgement.Judged other found) answer is answers =
      let same : other ≡ flow = same_Some other flow (sym is.graph ∙ plain.graph) in
      subst (IsExactly t p) (same_Some (answer_of_verdict t found) answer answers)
      (answered_exactly t p found (plain_judged p (within limits) flow found plain few (subst (λ (f : Flow). IsJudged p (within limits) f found) same is)))

  by_verdict : (answer : Answer) → HasVerdict limits file bytes answer → IsExactly t p answer
  by_verdict answer has =
      let same = same_program file bytes has.t t has.p p has.holds holds in
      by_judgement has.judgement answer (subst (λ (q : Program). IsJudgement q (within limits) has.judgement) same.program has.found)
      (subst (λ (u : Tokens). answer_of_judgement u has.judgement ≡ Some answer) same.tokens has.answer_is)

  -- no refusal is true of it
  none_refused : (answer : Answer) → IsVerdict answer → Judges limits file bytes answer → IsAnalysed answer
  none_refused answer verdict judged =
      (exact_verdict one_list one_place never_both answers_unique c_answers file bytes limits answer verdict judged).analysed.1
      (record { t = t; p = p; holds = holds; flow = flow; graph = plain.graph; no_calls = plain.calls })

  by_answer : (answer : Answer) → IsVerdict answer → Judges limits file bytes answer → IsExactly t p answer
  by_answer Safe verdict judged = by_verdict Safe judged
  by_answer (Warned warnings complete) verdict judged = by_verdict (Warned warnings complete) judged
  by_answer Spent verdict judged = by_verdict Spent judged
  by_answer Large verdict judged = by_verdict Large judged
  by_answer (NotRead why) verdict judged = none_refused (NotRead why) verdict judged
  by_answer (Construct number place) verdict judged = none_refused (Construct number place) verdict judged
  by_answer (NotYet place) verdict judged = none_refused (NotYet place) verdict judged
  by_answer (TooLong taken) verdict judged = none_refused (TooLong taken) verdict judged
  by_answer Usage verdict judged = verdict
  by_answer ReadFault verdict judged = verdict
  by_answer OutOfMemory verdict judged = verdict

module _ (tells : Bool) (content : Option (List ℕ)) (left : List ℕ) (limits : Limits) (file bytes : List ℕ) (names : List (List ℕ)) (told : IsTrue tells) (is : content ≡ Some bytes) where
  -- the bytes that were read are the content
  of_content : (answer : Answer) → IsVerdict answer → IsJudgedOf tells content left limits file names answer → MeansExactly limits file bytes answer
  of_content answer verdict (read, whole, judged, named) t p flow holds plain few =
      by_answer limits file bytes t p flow holds plain few answer verdict (subst (λ (bs : List ℕ). Judges limits file bs answer) (same_Some read bytes (sym (whole told).0 ∙ is)) judged)

  too_long : (taken : ℕ) → IsAnswered tells content left limits file names (TooLong taken) → MeansExactly limits file bytes (TooLong taken)
  too_long taken (many, given, none) t p flow holds plain few =
      let (front, long, content_is) = given told in
      let whole : front ++ left ≡ bytes = same_Some (front ++ left) bytes (sym content_is ∙ is) in
      let length_is : length bytes ≡ length front + length left = ap length (sym whole) ∙ length-append front left in
      let short : length bytes ≤ most_bytes = holds.is_short in
      omega (arith, length_is, long, many, short)

  pub exactly : (answer : Answer) → IsVerdict answer → IsAnswered tells content left limits file names answer → MeansExactly limits file bytes answer
  exactly Safe verdict answered = of_content Safe verdict answered
  exactly (Warned warnings complete) verdict answered = of_content (Warned warnings complete) verdict answered
  exactly Spent verdict answered = of_content Spent verdict answered
  exactly Large verdict answered = of_content Large verdict answered
  exactly (NotRead why) verdict answered = of_content (NotRead why) verdict answered
  exactly (Construct number place) verdict answered = of_content (Construct number place) verdict answered
  exactly (NotYet place) verdict answered = of_content (NotYet place) verdict answered
  exactly (TooLong taken) verdict answered = too_long taken answered
  exactly Usage verdict answered = absurd verdict
  exactly ReadFault verdict answered = absurd verdict
  exactly OutOfMemory verdict answered = absurd verdict
