-- What each answer of the top call means follows from its clauses.
use Rattle.std.proofs.Common.{◌≡◌, ℕ, ◌+◌, ◌<◌, Bool, true, false, Option, None, Some, List, ◌++◌, length, map, arith}
use Rattle.std.proofs.lemmas.Option.{same_Some, none-some}
use Rattle.std.proofs.lemmas.List.{length-append}
use Rattle.cbase.specs.declared.place.Place.{Place}
use Rattle.outside.specs.Faults.{Rose}
use Rattle.command_line.specs.CommandLine.{file_of}
use Rattle.ctokens.specs.InText.{most_bytes}
use Rattle.report.specs.declared.answer.Answer.{Answer}
use Rattle.report.specs.declared.answer.Answer.TheVariants.{Safe, Warned, Spent, Large, NotRead, Construct, NotYet, TooLong, Usage, ReadFault}
use Rattle.report.specs.declared.answer.Why.TheVariants as why
use Rattle.report.specs.declared.warning.Warning.{Warning}
use Rattle.verdicts.specs.Answered.{IsAnswered, IsJudged}
use Rattle.ctokens.specs.declared.token.Tokens.{Tokens}
use Rattle.cbase.specs.declared.abi.Abi.TheVariants.{Lp64}
use Rattle.ccheck.specs.Refusals.{place_at}
use Rattle.c_machine.specs.Program.{Program}
use Rattle.driver.specs.declared.verdict.Verdict.TheVariants as analysis
use Rattle.judgement.specs.Judged.{IsJudgement}
use Rattle.judgement.specs.declared.judgement.Judgement.{Judgement}
use Rattle.judgement.specs.declared.judgement.Judgement.TheVariants as judgement
use Rattle.report.specs.declared.limits.Limits.{Limits}
use Rattle.verdicts.specs.Found.{answer_of_judgement, warning_at, within}
use Rattle.verdicts.specs.Program.{HoldsProgram}
use Rattle.verdicts.specs.Verdict.{HasVerdict, Judges}
use Rattle.claims.specs.Limited.{MeansLarge, MeansSpent}
use Rattle.claims.specs.OfFile.{OfFile}
use Rattle.claims.specs.Safe.{MeansSafe}
use Rattle.claims.specs.Warned.{MeansComplete, MeansFound, MeansWarned}
use Rattle.claims.specs.GaveUp.{MeansGaveUp}
use Rattle.claims.specs.NotRead.{MeansNoToken, MeansTooDeep, MeansNoMain, MeansSyntax, MeansRule}
use Rattle.claims.specs.NotYet.{MeansNotYet}
use Rattle.claims.specs.TooLong.{MeansTooLong}
use Rattle.claims.specs.Words.{MeansUsage}
use Rattle.claims.specs.ReadFault.{MeansReadFault}
use Rattle.claims.proofs.Warnings.{complete_of, found_of, warned_of}

-- what an answer that is true of a whole file says of its bytes
of_file : (tells : Bool) (content : Option (List ℕ)) (left : List ℕ) (limits : Limits) (file : List ℕ) (names : List (List ℕ)) (answer : Answer) (Means : List ℕ → Type 0)
    → ((bytes : List ℕ) → Judges limits file bytes answer → Means bytes) → IsJudged tells content left limits file names answer → OfFile tells content Means
of_file tells content left limits file names answer Means means (bytes, whole, judged, named) = (bytes, (λ told. (whole told).0), means bytes judged)

above : (most whole front rest taken : ℕ) → whole ≡ front + rest → front ≡ taken → taken ≡ most + 1 → most < whole
above most whole front rest taken whole_is front_is taken_is = omega arith

-- what was found of a program says what is answered of it
module _ (limits : Limits) (file bytes : List ℕ) where
  safe_found : (t : Tokens) (p : Program) (found : Judgement) → HoldsProgram file bytes Lp64 false t p → IsJudgement p (within limits) found
      → answer_of_judgement t found ≡ Some Safe → MeansSafe file bytes
  safe_found t p judgement.NoGraph holds is answers = absurd (none-some Safe answers)
  safe_found t p (judgement.Judged flow (analysis.Safe trail)) holds is answers = (t, p, holds, is.says)
  safe_found t p (judgement.Judged flow (analysis.Warned warnings trail complete next)) holds is answers =
      absurd (let same = same_Some (Warned (map (warning_at t) warnings) complete) Safe answers in cc)
  safe_found t p (judgement.Judged flow (analysis.Spent trail next)) holds is answers = absurd (let same = same_Some Spent Safe answers in cc)
  safe_found t p (judgement.Judged flow (analysis.NotYet place)) holds is answers = absurd (let same = same_Some (NotYet (place_at t place.at)) Safe answers in cc)
  safe_found t p (judgement.Judged flow (analysis.Large trail entry)) holds is answers = absurd (let same = same_Some Large Safe answers in cc)

  safe_of : HasVerdict limits file bytes Safe → MeansSafe file bytes
  safe_of has = safe_found has.t has.p has.judgement has.holds has.found has.answer_is

  spent_found : (t : Tokens) (p : Program) (found : Judgement) → HoldsProgram file bytes Lp64 false t p → IsJudgement p (within limits) found
      → answer_of_judgement t found ≡ Some Spent → MeansSpent limits file bytes
  spent_found t p judgement.NoGraph holds is answers = absurd (none-some Spent answers)
  spent_found t p (judgement.Judged flow (analysis.Safe trail)) holds is answers = absurd (let same = same_Some Safe Spent answers in cc)
  spent_found t p (judgement.Judged flow (analysis.Warned warnings trail complete next)) holds is answers =
      absurd (let same = same_Some (Warned (map (warning_at t) warnings) complete) Spent answers in cc)
  spent_found t p (judgement.Judged flow (analysis.Spent trail next)) holds is answers = (t, p, flow, holds, is.graph, (trail, next, is.is))
  spent_found t p (judgement.Judged flow (analysis.NotYet place)) holds is answers = absurd (let same = same_Some (NotYet (place_at t place.at)) Spent answers in cc)
  spent_found t p (judgement.Judged flow (analysis.Large trail entry)) holds is answers = absurd (let same = same_Some Large Spent answers in cc)

  spent_of : HasVerdict limits file bytes Spent → MeansSpent limits file bytes
  spent_of has = spent_found has.t has.p has.judgement has.holds has.found has.answer_is

  large_found : (t : Tokens) (p : Program) (found : Judgement) → HoldsProgram file bytes Lp64 false t p → IsJudgement p (within limits) found
      → answer_of_judgement t found ≡ Some Large → MeansLarge limits file bytes
  large_found t p judgement.NoGraph holds is answers = absurd (none-some Large answers)
  large_found t p (judgement.Judged flow (analysis.Safe trail)) holds is answers = absurd (let same = same_Some Safe Large answers in cc)
  large_found t p (judgement.Judged flow (analysis.Warned warnings trail complete next)) holds is answers =
      absurd (let same = same_Some (Warned (map (warning_at t) warnings) complete) Large answers in cc)
  large_found t p (judgement.Judged flow (analysis.Spent trail next)) holds is answers = absurd (let same = same_Some Spent Large answers in cc)
  large_found t p (judgement.Judged flow (analysis.NotYet place)) holds is answers = absurd (let same = same_Some (NotYet (place_at t place.at)) Large answers in cc)
  large_found t p (judgement.Judged flow (analysis.Large trail entry)) holds is answers = (t, p, flow, holds, is.graph, (trail, entry, is.is))

  large_of : HasVerdict limits file bytes Large → MeansLarge limits file bytes
  large_of has = large_found has.t has.p has.judgement has.holds has.found has.answer_is

  not_yet_found : (t : Tokens) (p : Program) (found : Judgement) (place : Place) → HoldsProgram file bytes Lp64 false t p → IsJudgement p (within limits) found
      → answer_of_judgement t found ≡ Some (NotYet place) → MeansNotYet file bytes place
  not_yet_found t p judgement.NoGraph place holds is answers = absurd (none-some (NotYet place) answers)
  not_yet_found t p (judgement.Judged flow (analysis.Safe trail)) place holds is answers = absurd (let same = same_Some Safe (NotYet place) answers in cc)
  not_yet_found t p (judgement.Judged flow (analysis.Warned warnings trail complete next)) place holds is answers =
      absurd (let same = same_Some (Warned (map (warning_at t) warnings) complete) (NotYet place) answers in cc)
  not_yet_found t p (judgement.Judged flow (analysis.Spent trail next)) place holds is answers = absurd (let same = same_Some Spent (NotYet place) answers in cc)
  not_yet_found t p (judgement.Judged flow (analysis.Large trail entry)) place holds is answers = absurd (let same = same_Some Large (NotYet place) answers in cc)
  not_yet_found t p (judgement.Judged flow (analysis.NotYet token)) place holds is answers =
      let same = same_Some (NotYet (place_at t token.at)) (NotYet place) answers in
      let places : place ≡ place_at t token.at = cc in
      (t, p, flow, holds, is.graph, (token, is.is, places))

  not_yet_of : (place : Place) → HasVerdict limits file bytes (NotYet place) → MeansNotYet file bytes place
  not_yet_of place has = not_yet_found has.t has.p has.judgement place has.holds has.found has.answer_is

module _ (tells : Bool) (content : Option (List ℕ)) (left : List ℕ) (limits : Limits) (file : List ℕ) (names : List (List ℕ)) where
  pub safe : IsAnswered tells content left limits file names Safe → OfFile tells content (MeansSafe file)
  safe answered = of_file tells content left limits file names Safe (MeansSafe file) (λ bytes. safe_of limits file bytes) answered

  pub warned : (warnings : List Warning) (complete : Bool) → IsAnswered tells content left limits file names (Warned warnings complete)
      → OfFile tells content (λ bytes. MeansWarned file bytes warnings)
  warned warnings complete answered = of_file tells content left limits file names (Warned warnings complete) (λ bytes. MeansWarned file bytes warnings)
      (λ bytes. warned_of limits file bytes warnings complete) answered

  pub found : (warnings : List Warning) (complete : Bool) → IsAnswered tells content left limits file names (Warned warnings complete)
      → OfFile tells content (λ bytes. MeansFound limits file bytes warnings complete)
  found warnings complete answered = of_file tells content left limits file names (Warned warnings complete) (λ bytes. MeansFound limits file bytes warnings complete)
      (λ bytes. found_of limits file bytes warnings complete) answered

  pub complete : (warnings : List Warning) → IsAnswered tells content left limits file names (Warned warnings true) → OfFile tells content (λ bytes. MeansComplete limits file bytes warnings)
  complete warnings answered = of_file tells content left limits file names (Warned warnings true) (λ bytes. MeansComplete limits file bytes warnings)
      (λ bytes. complete_of limits file bytes warnings) answered

  pub spent : IsAnswered tells content left limits file names Spent → OfFile tells content (MeansSpent limits file)
  spent answered = of_file tells content left limits file names Spent (MeansSpent limits file) (λ bytes. spent_of limits file bytes) answered

  pub large : IsAnswered tells content left limits file names Large → OfFile tells content (MeansLarge limits file)
  large answered = of_file tells content left limits file names Large (MeansLarge limits file) (λ bytes. large_of limits file bytes) answered

  pub gave_up : (number : ℕ) (place : Place) → IsAnswered tells content left limits file names (Construct number place)
      → OfFile tells content (λ bytes. MeansGaveUp file bytes number place)
  gave_up number place answered = of_file tells content left limits file names (Construct number place) (λ bytes. MeansGaveUp file bytes number place) (λ bytes judged. judged.1) answered

  pub no_token : (place : Place) → IsAnswered tells content left limits file names (NotRead (why.Lexical place))
      → OfFile tells content (λ bytes. MeansNoToken file bytes place)
  no_token place answered = of_file tells content left limits file names (NotRead (why.Lexical place)) (λ bytes. MeansNoToken file bytes place) (λ bytes judged. judged.1) answered

  pub too_deep : (place : Place) → IsAnswered tells content left limits file names (NotRead (why.Deep place))
      → OfFile tells content (λ bytes. MeansTooDeep file bytes place)
  too_deep place answered = of_file tells content left limits file names (NotRead (why.Deep place)) (λ bytes. MeansTooDeep file bytes place) (λ bytes judged. judged.1) answered

  pub no_main : IsAnswered tells content left limits file names (NotRead why.NoMain) → OfFile tells content (MeansNoMain file)
  no_main answered = of_file tells content left limits file names (NotRead why.NoMain) (MeansNoMain file) (λ bytes judged. judged.1) answered

  pub syntax : (place : Place) → IsAnswered tells content left limits file names (NotRead (why.Syntax place))
      → OfFile tells content (λ bytes. MeansSyntax file bytes place)
  syntax place answered = of_file tells content left limits file names (NotRead (why.Syntax place)) (λ bytes. MeansSyntax file bytes place) (λ bytes judged. judged.1) answered

  pub rule : (number : ℕ) (place : Place) → IsAnswered tells content left limits file names (NotRead (why.Rule number place))
      → OfFile tells content (λ bytes. MeansRule file bytes number place)
  rule number place answered = of_file tells content left limits file names (NotRead (why.Rule number place)) (λ bytes. MeansRule file bytes number place) (λ bytes judged. judged.1) answered

  pub not_yet : (place : Place) → IsAnswered tells content left limits file names (NotYet place) → OfFile tells content (λ bytes. MeansNotYet file bytes place)
  not_yet place answered = of_file tells content left limits file names (NotYet place) (λ bytes. MeansNotYet file bytes place) (λ bytes. not_yet_of limits file bytes place) answered

  pub too_long : (taken : ℕ) → IsAnswered tells content left limits file names (TooLong taken) → MeansTooLong tells content
  too_long taken (is, given, none) told =
      let (bytes, long, content_is) = given told in
      (bytes ++ left, content_is, above most_bytes (length (bytes ++ left)) (length bytes) (length left) taken (length-append bytes left) long is)

pub usage : (words : List (List ℕ)) (answer : Answer) → (answer ≡ Usage → file_of words ≡ None) → answer ≡ Usage → MeansUsage words
usage words answer clause is = clause is

pub read_fault : (words : List (List ℕ)) (answer : Answer) (before after : ℕ) (failed : Bool) (begun : List ℕ)
    → (answer ≡ ReadFault → Rose before after) → (answer ≡ ReadFault → failed ≡ true) → (answer ≡ ReadFault → file_of words ≡ Some begun)
    → answer ≡ ReadFault → MeansReadFault words before after failed begun
read_fault words answer before after failed begun rose fails opened is = (rose is, fails is, opened is)
