-- Of one file at most one refusal is true, and where one is nothing else is.
use Rattle.std.proofs.Common.{◌≡◌, ℕ, ◌<◌, ◌≤◌, ◌⊎◌, false, inl, inr, Option, None, Some, Result, Ok, Err, List, length, ◌↔◌, refl, ap, sym, ◌∙◌, subst, arith}
use Rattle.std.proofs.lemmas.Option.{same_Some, none-some}
use Rattle.cbase.specs.declared.abi.Abi.{Abi}
use Rattle.cbase.specs.declared.abi.Abi.TheVariants.{Lp64}
use Rattle.cbase.specs.declared.place.Place.{Place}
use Rattle.ctokens.specs.InText.{most_bytes}
use Rattle.ctokens.specs.declared.token.Tokens.{Tokens}
use Rattle.ctokens.specs.declared.token.Lexical.{Lexical}
use Rattle.ctokens.specs.declared.item_span.ItemSpan.{ItemSpan}
use Rattle.ctokens.specs.declared.item_span.Deep.{Deep}
use Rattle.ctokens.specs.TokenList.{AreTokens, IsLexical}
use Rattle.ctokens.specs.Items.{IsItems}
use Rattle.ctokens.specs.Need.{IsNeed}
use Rattle.ctokens.specs.ItemRows.{item_rows}
use Rattle.items.specs.languages.CLanguage.{c_language, c_file}
use Rattle.ccheck.specs.declared.refusal.Refusal.{Refusal}
use Rattle.ccheck.specs.declared.refusal.Refusal.TheVariants as refusal
use Rattle.ccheck.specs.Checked.{IsRefused}
use Rattle.ccheck.specs.Refusals.{place_at}
use Rattle.ccheck.specs.Walk.{HaveOneAnswer}
use Rattle.c_machine.specs.Program.{Program}
use Rattle.flow.specs.declared.flow_graph.Flow.{Flow}
use Rattle.lowering.specs.Lowering.{flow_of}
use Rattle.driver.specs.declared.verdict.Limits.{Limits as AnalysisLimits}
use Rattle.driver.specs.declared.verdict.Verdict.{Verdict}
use Rattle.driver.specs.declared.verdict.Verdict.TheVariants as analysis
use Rattle.driver.specs.Calls.{IsFirstCall}
use Rattle.driver.specs.Verdicts.{IsVerdict as IsVerdictOn}
use Rattle.judgement.specs.declared.judgement.Judgement.{Judgement}
use Rattle.judgement.specs.declared.judgement.Judgement.TheVariants as judgement
use Rattle.trail.specs.Seen.{HasNoCalls}
use Rattle.judgement.specs.Judged.{IsJudgement}
use Rattle.judgement.proofs.FirstCall.{first_same, first_or_none}
use Rattle.report.specs.declared.answer.Why.TheVariants as why
use Rattle.report.specs.declared.answer.Answer.{Answer}
use Rattle.report.specs.declared.answer.Answer.TheVariants.{Safe, Warned, Spent, Large, NotRead, Construct, NotYet, TooLong, Usage, ReadFault, OutOfMemory}
use Rattle.report.specs.declared.limits.Limits.{Limits}
use Rattle.verdicts.specs.Found.{answer_of_judgement, answer_of_verdict, within}
use Rattle.verdicts.specs.Program.{IsProgram, IsRead}
use Rattle.verdicts.specs.Verdict.{CanBeAnalysed, HasNoMain, HasNoToken, HasVerdict, IsAnalysed, IsExact, IsRefusal, IsTooDeep, IsVerdict, Judges, answer_of}
use Rattle.verdicts.proofs.Ascending.{same_need}
use Rattle.verdicts.proofs.OneProgram.{one_program, one_refusal, pass_or_refused}

-- what is found out of the bytes of a file, up to the items that main needs
pub data Stage : Type 0 where
  AtLexical : (place : Place) → Stage
  AtDeep : (place : Place) → Stage
  AtNoMain : Stage
  AtRead : (t : Tokens) (items : List ItemSpan) (numbers : List ℕ) → Stage
  AtLong : Stage

abbrev pub IsStage : List ℕ → List ℕ → Stage → Type 0
IsStage file bytes (AtLexical place) = (length bytes ≤ most_bytes) × HasNoToken file bytes place
IsStage file bytes (AtDeep place) = (length bytes ≤ most_bytes) × IsTooDeep file bytes place
IsStage file bytes AtNoMain = (length bytes ≤ most_bytes) × HasNoMain file bytes
IsStage file bytes (AtRead t items numbers) = (length bytes ≤ most_bytes) × IsRead file bytes t items numbers
IsStage file bytes AtLong = 4194305 ≤ length bytes

abbrev IsRefusedSo : Tokens → List ItemSpan → List ℕ → Answer → Type 0
IsRefusedSo t items numbers answer = (reason : Refusal) × IsRefused t items numbers Lp64 false reason × (answer ≡ answer_of reason)

-- a program is found there, and what is found of it is answered
abbrev IsFoundSo : Limits → Tokens → List ItemSpan → List ℕ → Answer → Type 0
IsFoundSo limits t items numbers answer =
    (p : Program) × (found : Judgement) × IsProgram t items numbers Lp64 false p × IsJudgement p (within limits) found × (answer_of_judgement t found ≡ Some answer)

-- what is answered there
abbrev Fits : Limits → Stage → Answer → Type 0
Fits limits (AtLexical place) answer = answer ≡ NotRead (why.Lexical place)
Fits limits (AtDeep place) answer = answer ≡ NotRead (why.Deep place)
Fits limits AtNoMain answer = answer ≡ NotRead why.NoMain
Fits limits (AtRead t items numbers) answer = IsRefusedSo t items numbers answer ⊎ IsFoundSo limits t items numbers answer
Fits limits AtLong answer = answer ≡ TooLong 4194305

verdict_stage : (limits : Limits) (file bytes : List ℕ) (answer : Answer) → HasVerdict limits file bytes answer → (stage : Stage) × IsStage file bytes stage × Fits limits stage answer
verdict_stage limits file bytes answer has =
    (AtRead has.t has.holds.items has.holds.numbers, (has.holds.is_short, has.holds.is_read), inr (has.p, has.judgement, has.holds.is_program, has.found, has.answer_is))

-- each answer that says something of a file is given at some stage
stage_of : (limits : Limits) (file bytes : List ℕ) (answer : Answer) → IsVerdict answer → Judges limits file bytes answer
    → (stage : Stage) × IsStage file bytes stage × Fits limits stage answer
stage_of limits file bytes Safe verdict has = verdict_stage limits file bytes Safe has
stage_of limits file bytes (Warned warnings complete) verdict has = verdict_stage limits file bytes (Warned warnings complete) has
stage_of limits file bytes Spent verdict has = verdict_stage limits file bytes Spent has
stage_of limits file bytes Large verdict has = verdict_stage limits file bytes Large has
stage_of limits file bytes (NotRead (why.Lexical place)) verdict judged = (AtLexical place, judged, refl)
stage_of limits file bytes (NotRead (why.Deep place)) verdict judged = (AtDeep place, judged, refl)
stage_of limits file bytes (NotRead why.NoMain) verdict judged = (AtNoMain, judged, refl)
stage_of limits file bytes (NotRead (why.Syntax place)) verdict (short, (t, items, numbers, read, first)) =
    (AtRead t items numbers, (short, read), inl (refusal.Syntax place, first, refl))
stage_of limits file bytes (NotRead (why.Rule number place)) verdict (short, (t, items, numbers, read, first)) =
    (AtRead t items numbers, (short, read), inl (refusal.Rule number place, first, refl))
stage_of limits file bytes (Construct number place) verdict (short, (t, items, numbers, read, first)) =
    (AtRead t items numbers, (short, read), inl (refusal.Construct number place, first, refl))
stage_of limits file bytes (NotYet place) verdict has = verdict_stage limits file bytes (NotYet place) has
stage_of limits file bytes (TooLong taken) verdict (is, inside) = (AtLong, omega (arith, is, inside), ap TooLong is)
stage_of limits file bytes Usage verdict judged = absurd verdict
stage_of limits file bytes ReadFault verdict judged = absurd verdict
stage_of limits file bytes OutOfMemory verdict judged = absurd verdict

abbrev place_in : Place → Result (List ItemSpan) Deep → Place
place_in otherwise (Ok spans) = otherwise
place_in otherwise (Err deep) = deep.place

need_or_none : (t : Tokens) (items : List ItemSpan) (numbers : List ℕ) → IsNeed (item_rows t items) (Some numbers) → IsNeed (item_rows t items) None → ⊥
need_or_none t items numbers (defined, are) none = let both = sym defined ∙ none in absurd cc

-- a refusal is a verdict
refusal_verdict : (answer : Answer) → IsRefusal answer → IsVerdict answer
refusal_verdict Safe refuses = absurd refuses
refusal_verdict (Warned warnings complete) refuses = absurd refuses
refusal_verdict Spent refuses = absurd refuses
refusal_verdict Large refuses = absurd refuses
refusal_verdict (NotRead reason) refuses = tt
refusal_verdict (Construct number place) refuses = tt
refusal_verdict (NotYet place) refuses = tt
refusal_verdict (TooLong taken) refuses = tt
refusal_verdict Usage refuses = absurd refuses
refusal_verdict ReadFault refuses = absurd refuses
refusal_verdict OutOfMemory refuses = absurd refuses

-- an answer of an analysis is of a program that can be analysed
abbrev GivesGraph : Program → Type 0
GivesGraph p = (flow : Flow) × (flow_of p ≡ Some flow) × HasNoCalls flow

analysed_verdict : (t : Tokens) (p : Program) (limits : AnalysisLimits) (flow : Flow) (found : Verdict) → IsAnalysed (answer_of_verdict t found) → flow_of p ≡ Some flow
    → IsVerdictOn flow limits found → GivesGraph p
analysed_verdict t p limits flow (analysis.Safe trail) analysed graph is = (flow, graph, is.calls)
analysed_verdict t p limits flow (analysis.Warned warnings trail complete next) analysed graph is = (flow, graph, is.calls)
analysed_verdict t p limits flow (analysis.Spent trail next) analysed graph is = (flow, graph, is.calls)
analysed_verdict t p limits flow (analysis.Large trail entry) analysed graph is = (flow, graph, is.calls)
analysed_verdict t p limits flow (analysis.NotYet place) analysed graph is = absurd analysed

analysed_found : (t : Tokens) (p : Program) (limits : AnalysisLimits) (found : Judgement) (answer : Answer) → IsAnalysed answer → IsJudgement p limits found
    → answer_of_judgement t found ≡ Some answer → GivesGraph p
analysed_found t p limits judgement.NoGraph answer analysed is answers = absurd (none-some answer answers)
analysed_found t p limits (judgement.Judged flow found) answer analysed is answers =
    analysed_verdict t p limits flow found (subst IsAnalysed (sym (same_Some (answer_of_verdict t found) answer answers)) analysed) is.graph is.is

-- a refusal is that of the first call of the graph
abbrev CallsAt : Tokens → Program → Answer → Type 0
CallsAt t p answer = (flow : Flow) × (place : Place) × (flow_of p ≡ Some flow) × IsFirstCall flow place × (answer ≡ NotYet (place_at t place.at))

refused_verdict : (t : Tokens) (p : Program) (limits : AnalysisLimits) (flow : Flow) (found : Verdict) → IsRefusal (answer_of_verdict t found) → flow_of p ≡ Some flow
    → IsVerdictOn flow limits found → CallsAt t p (answer_of_verdict t found)
refused_verdict t p limits flow (analysis.Safe trail) refuses graph is = absurd refuses
refused_verdict t p limits flow (analysis.Warned warnings trail complete next) refuses graph is = absurd refuses
refused_verdict t p limits flow (analysis.Spent trail next) refuses graph is = absurd refuses
refused_verdict t p limits flow (analysis.Large trail entry) refuses graph is = absurd refuses
refused_verdict t p limits flow (analysis.NotYet place) refuses graph is = (flow, place, graph, is, refl)

calls_found : (t : Tokens) (p : Program) (limits : AnalysisLimits) (found : Judgement) (answer : Answer) → IsRefusal answer → IsJudgement p limits found
    → answer_of_judgement t found ≡ Some answer → CallsAt t p answer
calls_found t p limits judgement.NoGraph answer refuses is answers = absurd (none-some answer answers)
calls_found t p limits (judgement.Judged flow found) answer refuses is answers =
    let same : answer_of_verdict t found ≡ answer = same_Some (answer_of_verdict t found) answer answers in
    subst (CallsAt t p) same (refused_verdict t p limits flow found (subst IsRefusal (sym same) refuses) is.graph is.is)

-- a refusal of a program that can be analysed is none
calls_or_graph : (t : Tokens) (p : Program) (answer : Answer) → CallsAt t p answer → GivesGraph p → ⊥
calls_or_graph t p answer (flow, place, graph, first, is) (other, also, none) =
    let same : other ≡ flow = same_Some other flow (sym also ∙ graph) in
    first_or_none flow place first (subst HasNoCalls same none)

-- of a program one first call is answered
same_calls : (t : Tokens) (p : Program) (answer other : Answer) → CallsAt t p answer → CallsAt t p other → answer ≡ other
same_calls t p answer other (flow, place, graph, first, is) (flow2, place2, graph2, first2, is2) =
    let same : flow2 ≡ flow = same_Some flow2 flow (sym graph2 ∙ graph) in
    let at : place.at ≡ place2.at = first_same flow place place2 first (subst (λ (f : Flow). IsFirstCall f place2) same first2) in
    is ∙ (ap (λ (n : ℕ). NotYet (place_at t n)) at ∙ sym is2)

-- an answer beside a refusal is a refusal, as a program cannot both be analysed and call
not_analysed : (t : Tokens) (p : Program) (limits : AnalysisLimits) (found : Judgement) (answer : Answer) → IsVerdict answer → IsJudgement p limits found
    → answer_of_judgement t found ≡ Some answer → (GivesGraph p → ⊥) → IsRefusal answer
not_analysed t p limits found Safe verdict is answers none = absurd (none (analysed_found t p limits found Safe tt is answers))
not_analysed t p limits found (Warned warnings complete) verdict is answers none = absurd (none (analysed_found t p limits found (Warned warnings complete) tt is answers))
not_analysed t p limits found Spent verdict is answers none = absurd (none (analysed_found t p limits found Spent tt is answers))
not_analysed t p limits found Large verdict is answers none = absurd (none (analysed_found t p limits found Large tt is answers))
not_analysed t p limits found (NotRead reason) verdict is answers none = tt
not_analysed t p limits found (Construct number place) verdict is answers none = tt
not_analysed t p limits found (NotYet place) verdict is answers none = tt
not_analysed t p limits found (TooLong taken) verdict is answers none = tt
not_analysed t p limits found Usage verdict is answers none = absurd verdict
not_analysed t p limits found ReadFault verdict is answers none = absurd verdict
not_analysed t p limits found OutOfMemory verdict is answers none = absurd verdict

same_found : (t : Tokens) (p : Program) (limits : AnalysisLimits) (found second : Judgement) (answer other : Answer) → IsVerdict answer → IsRefusal other → IsJudgement p limits found
    → IsJudgement p limits second → answer_of_judgement t found ≡ Some answer → answer_of_judgement t second ≡ Some other → answer ≡ other
same_found t p limits found second answer other verdict refuses is also answers others =
    let calls : CallsAt t p other = calls_found t p limits second other refuses also others in
    let refused : IsRefusal answer = not_analysed t p limits found answer verdict is answers (calls_or_graph t p other calls) in
    same_calls t p answer other (calls_found t p limits found answer refused is answers) calls

module _ (one_list : (file text : List ℕ) (tokens others : Tokens) → AreTokens file text tokens → AreTokens file text others → tokens ≡ others)
    (one_place : (file text : List ℕ) (lexical other : Lexical) → IsLexical file text lexical → IsLexical file text other → lexical ≡ other)
    (never_both : (file text : List ℕ) (tokens : Tokens) (lexical : Lexical) → AreTokens file text tokens → IsLexical file text lexical → ⊥)
    (one_items : (t : Tokens) (answer other : Result (List ItemSpan) Deep) → IsItems t answer → IsItems t other → answer ≡ other)
    (one_answer : (abi : Abi) → HaveOneAnswer (c_language abi) (c_file abi))
    (file bytes : List ℕ) where
  one_fit : (limits : Limits) (stage : Stage) (answer other : Answer) → IsVerdict answer → IsRefusal other → Fits limits stage answer → Fits limits stage other → answer ≡ other
  one_fit limits (AtLexical place) answer other verdict refuses is also = is ∙ sym also
  one_fit limits (AtDeep place) answer other verdict refuses is also = is ∙ sym also
  one_fit limits AtNoMain answer other verdict refuses is also = is ∙ sym also
  one_fit limits AtLong answer other verdict refuses is also = is ∙ sym also
  one_fit limits (AtRead t items numbers) answer other verdict refuses (inl (reason, by, is)) (inl (second, also, is2)) =
      is ∙ (ap answer_of (one_refusal one_answer t items numbers Lp64 false reason second by also) ∙ sym is2)
  one_fit limits (AtRead t items numbers) answer other verdict refuses (inl (reason, by, is)) (inr (p, found, program, found_is, answers)) =
      absurd (pass_or_refused one_answer t items numbers Lp64 false reason p program by)
  one_fit limits (AtRead t items numbers) answer other verdict refuses (inr (p, found, program, found_is, answers)) (inl (reason, by, is)) =
      absurd (pass_or_refused one_answer t items numbers Lp64 false reason p program by)
  one_fit limits (AtRead t items numbers) answer other verdict refuses (inr (p, found, program, found_is, answers)) (inr (q, second, programs, second_is, others)) =
      let same : p ≡ q = one_program one_answer t items numbers Lp64 false p q program programs in
      same_found t q (within limits) found second answer other verdict refuses (subst (λ (x : Program). IsJudgement x (within limits) found) same found_is) second_is answers others

  spans_or_deep : (t : Tokens) (items : List ItemSpan) (deep : Deep) → IsItems t (Ok items) → IsItems t (Err deep) → ⊥
  spans_or_deep t items deep is also = let same = one_items t (Ok items) (Err deep) is also in absurd cc

  same_items : (t : Tokens) (items others : List ItemSpan) → IsItems t (Ok items) → IsItems t (Ok others) → items ≡ others
  same_items t items others is also = let same = one_items t (Ok items) (Ok others) is also in cc

  same_deep : (t : Tokens) (place other : Place) → IsItems t (Err (record { place = place })) → IsItems t (Err (record { place = other })) → place ≡ other
  same_deep t place other is also =
      ap (place_in place) (one_items t (Err (record { place = place })) (Err (record { place = other })) is also)

  items_of : (t other : Tokens) (answer : Result (List ItemSpan) Deep) → AreTokens file bytes t → AreTokens file bytes other → IsItems t answer → IsItems other answer
  items_of t other answer are also is = subst (λ (u : Tokens). IsItems u answer) (one_list file bytes t other are also) is

  -- the items and what main needs are those of the other tokens and items too
  need_of : (t other : Tokens) (items others : List ItemSpan) (need : Option (List ℕ)) → AreTokens file bytes t → AreTokens file bytes other
      → IsItems t (Ok items) → IsItems other (Ok others) → IsNeed (item_rows t items) need → IsNeed (item_rows other others) need
  need_of t other items others need are also is those needs =
      let same : items ≡ others = same_items other items others (items_of t other (Ok items) are also is) those in
      subst (λ (spans : List ItemSpan). IsNeed (item_rows other spans) need) same
      (subst (λ (u : Tokens). IsNeed (item_rows u items) need) (one_list file bytes t other are also) needs)

  no_tokens : (place : Place) (t : Tokens) → HasNoToken file bytes place → AreTokens file bytes t → ⊥
  no_tokens place t (lexical, is, placed) are = never_both file bytes t lexical are is

  deep_or_items : (t other : Tokens) (items : List ItemSpan) (place : Place) → AreTokens file bytes t → AreTokens file bytes other
      → IsItems t (Ok items) → IsItems other (Err (record { place = place })) → ⊥
  deep_or_items t other items place are also is deep = spans_or_deep other items (record { place = place }) (items_of t other (Ok items) are also is) deep

  pub one_stage : (stage other : Stage) → IsStage file bytes stage → IsStage file bytes other → stage ≡ other
  one_stage (AtLexical place) (AtLexical second) (short, (lexical, is, placed)) (low, (also, those, there)) =
      ap AtLexical (sym placed ∙ (ap (λ (l : Lexical). l.place) (one_place file bytes lexical also is those) ∙ there))
  one_stage (AtLexical place) (AtDeep second) (short, none) (low, (t, are, deep)) = absurd (no_tokens place t none are)
  one_stage (AtLexical place) AtNoMain (short, none) (low, (t, items, are, is, needs)) = absurd (no_tokens place t none are)
  one_stage (AtLexical place) (AtRead t items numbers) (short, none) (low, read) = absurd (no_tokens place t none read.are_tokens)
  one_stage (AtLexical place) AtLong (short, none) long = absurd (omega (arith, short, long))
  one_stage (AtDeep place) (AtLexical second) (short, (t, are, deep)) (low, none) = absurd (no_tokens second t none are)
  one_stage (AtDeep place) (AtDeep second) (short, (t, are, deep)) (low, (u, also, there)) =
      ap AtDeep (same_deep u place second (items_of t u (Err (record { place = place })) are also deep) there)
  one_stage (AtDeep place) AtNoMain (short, (t, are, deep)) (low, (u, items, also, is, needs)) = absurd (deep_or_items u t items place also are is deep)
  one_stage (AtDeep place) (AtRead u items numbers) (short, (t, are, deep)) (low, read) =
      absurd (deep_or_items u t items place read.are_tokens are read.are_items deep)
  one_stage (AtDeep place) AtLong (short, deep) long = absurd (omega (arith, short, long))
  one_stage AtNoMain (AtLexical second) (short, (t, items, are, is, needs)) (low, none) = absurd (no_tokens second t none are)
  one_stage AtNoMain (AtDeep second) (short, (t, items, are, is, needs)) (low, (u, also, deep)) = absurd (deep_or_items t u items second are also is deep)
  one_stage AtNoMain AtNoMain none also = refl
  one_stage AtNoMain (AtRead u others numbers) (short, (t, items, are, is, needs)) (low, read) =
      absurd (need_or_none u others numbers read.are_needed (need_of t u items others None are read.are_tokens is read.are_items needs))
  one_stage AtNoMain AtLong (short, none) long = absurd (omega (arith, short, long))
  one_stage (AtRead t items numbers) (AtLexical second) (short, read) (low, none) = absurd (no_tokens second t none read.are_tokens)
  one_stage (AtRead t items numbers) (AtDeep second) (short, read) (low, (u, also, deep)) =
      absurd (deep_or_items t u items second read.are_tokens also read.are_items deep)
  one_stage (AtRead t items numbers) AtNoMain (short, read) (low, (u, others, also, is, none)) =
      absurd (need_or_none t items numbers read.are_needed (need_of u t others items None also read.are_tokens is read.are_items none))
  one_stage (AtRead t items numbers) (AtRead u others needs) (short, read) (low, also) =
      let tokens : t ≡ u = one_list file bytes t u read.are_tokens also.are_tokens in
      let spans : items ≡ others = same_items u items others (items_of t u (Ok items) read.are_tokens also.are_tokens read.are_items) also.are_items in
      let same : numbers ≡ needs =
      same_need u others numbers needs (need_of t u items others (Some numbers) read.are_tokens also.are_tokens read.are_items also.are_items read.are_needed) also.are_needed in
      ap (λ (x : Tokens). AtRead x items numbers) tokens
      ∙ (ap (λ (x : List ItemSpan). AtRead u x numbers) spans ∙ ap (λ (x : List ℕ). AtRead u others x) same)
  one_stage (AtRead t items numbers) AtLong (short, read) long = absurd (omega (arith, short, long))
  one_stage AtLong (AtLexical second) long (short, none) = absurd (omega (arith, short, long))
  one_stage AtLong (AtDeep second) long (short, deep) = absurd (omega (arith, short, long))
  one_stage AtLong AtNoMain long (short, none) = absurd (omega (arith, short, long))
  one_stage AtLong (AtRead t items numbers) long (short, read) = absurd (omega (arith, short, long))
  one_stage AtLong AtLong long also = refl

  -- no other answer is true beside a refusal
  one_true : (limits : Limits) (answer other : Answer) → IsVerdict answer → IsRefusal other → Judges limits file bytes answer → Judges limits file bytes other → answer ≡ other
  one_true limits answer other verdict refuses judged also =
      let (stage, is, fits) = stage_of limits file bytes answer verdict judged in
      let (stage2, is2, fits2) = stage_of limits file bytes other (refusal_verdict other refuses) also in
      let same : stage ≡ stage2 = one_stage stage stage2 is is2 in
      one_fit limits stage2 answer other verdict refuses (subst (λ (s : Stage). Fits limits s answer) same fits) fits2

  -- and none is of a program that can be analysed
  fit_refused : (limits : Limits) (t : Tokens) (items : List ItemSpan) (numbers : List ℕ) (p : Program) (answer : Answer) → IsRefusal answer
      → IsProgram t items numbers Lp64 false p → GivesGraph p → Fits limits (AtRead t items numbers) answer → ⊥
  fit_refused limits t items numbers p answer refuses program gives (inl (reason, by, is)) = pass_or_refused one_answer t items numbers Lp64 false reason p program by
  fit_refused limits t items numbers p answer refuses program gives (inr (q, found, programs, found_is, answers)) =
      let same : p ≡ q = one_program one_answer t items numbers Lp64 false p q program programs in
      calls_or_graph t q answer (calls_found t q (within limits) found answer refuses found_is answers) (subst GivesGraph same gives)

  never_refused : (limits : Limits) (answer : Answer) → IsRefusal answer → Judges limits file bytes answer → CanBeAnalysed file bytes → ⊥
  never_refused limits answer refuses judged can =
      let (stage, is, fits) = stage_of limits file bytes answer (refusal_verdict answer refuses) judged in
      let there : Stage = AtRead can.t can.holds.items can.holds.numbers in
      let same : stage ≡ there = one_stage stage there is (can.holds.is_short, can.holds.is_read) in
      fit_refused limits can.t can.holds.items can.holds.numbers can.p answer refuses can.holds.is_program (can.flow, can.graph, can.no_calls)
      (subst (λ (s : Stage). Fits limits s answer) same fits)

  can_be_analysed : (limits : Limits) (answer : Answer) → IsAnalysed answer → HasVerdict limits file bytes answer → CanBeAnalysed file bytes
  can_be_analysed limits answer analysed has =
      let (flow, graph, none) = analysed_found has.t has.p (within limits) has.judgement answer analysed has.found has.answer_is in
      record { t = has.t; p = has.p; holds = has.holds; flow = flow; graph = graph; no_calls = none }

  -- what an analysis came to is answered exactly of programs that can be analysed
  is_analysed : (limits : Limits) (answer : Answer) → IsVerdict answer → Judges limits file bytes answer → IsAnalysed answer ↔ CanBeAnalysed file bytes
  is_analysed limits Safe verdict has = (λ yes. can_be_analysed limits Safe tt has, λ can. tt)
  is_analysed limits (Warned warnings complete) verdict has = (λ yes. can_be_analysed limits (Warned warnings complete) tt has, λ can. tt)
  is_analysed limits Spent verdict has = (λ yes. can_be_analysed limits Spent tt has, λ can. tt)
  is_analysed limits Large verdict has = (λ yes. can_be_analysed limits Large tt has, λ can. tt)
  is_analysed limits (NotRead reason) verdict judged = (λ no. absurd no, never_refused limits (NotRead reason) tt judged)
  is_analysed limits (Construct number place) verdict judged = (λ no. absurd no, never_refused limits (Construct number place) tt judged)
  is_analysed limits (NotYet place) verdict judged = (λ no. absurd no, never_refused limits (NotYet place) tt judged)
  is_analysed limits (TooLong taken) verdict judged = (λ no. absurd no, never_refused limits (TooLong taken) tt judged)
  is_analysed limits Usage verdict judged = absurd verdict
  is_analysed limits ReadFault verdict judged = absurd verdict
  is_analysed limits OutOfMemory verdict judged = absurd verdict

  pub exact_verdict : (limits : Limits) (answer : Answer) → IsVerdict answer → Judges limits file bytes answer → IsExact limits file bytes answer
  exact_verdict limits answer verdict judged = record {
    only = λ other refuses.
        (λ same. subst (Judges limits file bytes) same judged, λ also. one_true limits answer other verdict refuses judged also);
    analysed = is_analysed limits answer verdict judged;
  }

-- of more than 4,194,304 bytes it is true that they are too many, and nothing else
long_only : (limits : Limits) (file bytes : List ℕ) → most_bytes < length bytes → (other : Answer) → IsRefusal other → (TooLong 4194305 ≡ other) ↔ Judges limits file bytes other
long_only limits file bytes long Safe refuses = absurd refuses
long_only limits file bytes long (Warned warnings complete) refuses = absurd refuses
long_only limits file bytes long Spent refuses = absurd refuses
long_only limits file bytes long Large refuses = absurd refuses
long_only limits file bytes long (NotRead (why.Lexical place)) refuses = (λ same. absurd cc, λ (short, judged). absurd (omega arith))
long_only limits file bytes long (NotRead (why.Deep place)) refuses = (λ same. absurd cc, λ (short, judged). absurd (omega arith))
long_only limits file bytes long (NotRead why.NoMain) refuses = (λ same. absurd cc, λ (short, judged). absurd (omega arith))
long_only limits file bytes long (NotRead (why.Syntax place)) refuses = (λ same. absurd cc, λ (short, judged). absurd (omega arith))
long_only limits file bytes long (NotRead (why.Rule number place)) refuses = (λ same. absurd cc, λ (short, judged). absurd (omega arith))
long_only limits file bytes long (Construct number place) refuses = (λ same. absurd cc, λ (short, judged). absurd (omega arith))
long_only limits file bytes long (NotYet place) refuses = (λ same. absurd cc, λ has. absurd (let short = has.holds.is_short in omega (arith, short, long)))
long_only limits file bytes long (TooLong taken) refuses =
    (λ same. let is : 4194305 ≡ taken = cc in (omega (arith, is), omega (arith, is, long)), λ (is, inside). ap TooLong (sym is))
long_only limits file bytes long Usage refuses = absurd refuses
long_only limits file bytes long ReadFault refuses = absurd refuses
long_only limits file bytes long OutOfMemory refuses = absurd refuses

pub long_exact : (limits : Limits) (file bytes : List ℕ) → most_bytes < length bytes → IsExact limits file bytes (TooLong 4194305)
long_exact limits file bytes long = record {
  only = long_only limits file bytes long;
  analysed = (λ no. absurd no, λ can. absurd (let short = can.holds.is_short in omega (arith, short, long)));
}
