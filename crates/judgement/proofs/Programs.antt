-- A program is as safe as its flow graph, and meets the faults of it.
use Rattle.std.proofs.Common.{◌≡◌, Bool, List, map, Option, Some, IfSome, All, refl, sym, ◌∙◌, ap, subst}
use Rattle.cbase.specs.declared.abi.Abi.{Abi}
use Rattle.cbase.specs.declared.tree.item.Item.{Item}
use Rattle.expressions.specs.Context.{Agrees, Context}
use Rattle.expressions.specs.Numbers.{Numbering, handed_at}
use Rattle.c_machine.specs.Program.{Program}
use Rattle.c_machine.specs.Trees.{text_of}
use Rattle.c_text.specs.Stands.{StandsFor}
use Rattle.flow.specs.declared.flow_graph.Flow.{Flow}
use Rattle.flow.specs.declared.flow_graph.Initial.{Initial}
use Rattle.flow.specs.Memories.{HasInitialOffset}
use Rattle.flow.specs.Valid.{IsFlow}
use Rattle.lowering.specs.Lowering.{flow_of}
use Rattle.lowering.specs.Placing.{named_from}
use Rattle.lowering.proofs.GraphParts.{is_graph_of}
use Rattle.lowering.proofs.InitialOffsets.{offsets_of}
use Rattle.lowering.proofs.Law.{graphs_meet}
use Rattle.trail.specs.Theorems.{HaveOffsets}
use Rattle.driver.specs.declared.verdict.Limits.{Limits}
use Rattle.driver.specs.declared.verdict.Verdict.{Verdict}
use Rattle.driver.specs.declared.verdict.Verdict.TheVariants.{Safe, Warned, Spent, Large, NotYet}
use Rattle.driver.specs.Verdicts.{IsVerdict}
use Rattle.judgement.specs.declared.judgement.Judgement.TheVariants.{Judged}
use Rattle.judgement.specs.Judged.{IsJudgement, Says}
use Rattle.judgement.specs.Laws.{IsSafetyOfPrograms, AreFaultsOfPrograms}

pub safety : IsSafetyOfPrograms
safety p flow is valid safe = λ choices kind place leads.
    let (steps, faults) = (graphs_meet p flow is valid choices kind place).0 leads in
    safe kind place (record { choices = choices; steps = steps; faults = faults })

pub faults : AreFaultsOfPrograms
faults p flow kind place is valid run = (run.choices, (graphs_meet p flow is valid run.choices kind place).1 (run.steps, run.faults))

-- the addresses that the static objects of a program hold at the start have offsets of 64 bits
pub has_offsets : (p : Program) (flow : Flow) → flow_of p ≡ Some flow → HaveOffsets flow
has_offsets p flow is =
    let graph = is_graph_of p.abi (text_of p) flow is in
    subst (λ (scalars : List Initial). All (λ scalar. HasInitialOffset scalar.word) scalars) (ap (λ (f : Flow). f.initial) graph.is)
    (offsets_of (text_of p) (named_from 0 (text_of p).statics) graph.scalars graph.told_scalars)

-- a program that a context stands for by a numbering
abbrev program_by : Numbering → Context → List Item → Abi → Bool → Program
program_by n text items abi strict = record { items = items; handed = map (handed_at n) text.handed; structs = text.structs; abi = abi; strict = strict }

pub text_offsets : (text : Context) (items : List Item) (abi : Abi) (strict : Bool) (flow : Flow) (found : Option Flow) → (n : Numbering) × Agrees n text → found ≡ Some flow
    → ((n : Numbering) (p : Program) → StandsFor n text p → p.items ≡ items → p.abi ≡ abi → p.strict ≡ strict → found ≡ flow_of p) → HaveOffsets flow
text_offsets text items abi strict flow found (n, agrees) is graph =
    has_offsets (program_by n text items abi strict) flow
    (sym (graph n (program_by n text items abi strict) (record { agrees = agrees; structs = refl; handed = refl }) refl refl refl) ∙ is)

-- what reads a context reads the text that is made of it
pub kept_read : (found : Option Context) (text context : Context) → found ≡ Some text → IfSome found (λ kept. kept ≡ context) → (n : Numbering) × Agrees n context
    → (n : Numbering) × Agrees n text
kept_read found text context is kept (n, agrees) =
    let same : text ≡ context = subst (λ (o : Option Context). IfSome o (λ k. k ≡ context)) is kept in
    (n, subst (Agrees n) (sym same) agrees)

-- what a verdict says of the graph it says of the program
verdict_says : (p : Program) (limits : Limits) (flow : Flow) (verdict : Verdict) → flow_of p ≡ Some flow → IsFlow flow → IsVerdict flow limits verdict → Says p flow verdict
verdict_says p limits flow (Safe trail) is valid found = safety p flow is valid found.safe
verdict_says p limits flow (Warned warnings trail complete next) is valid found = record {
  met = λ warning among error. faults p flow warning.kind warning.place is valid (found.met warning among error);
  tells = λ whole tame choices kind place leads.
      let (steps, run) = (graphs_meet p flow is valid choices kind place).0 leads in
      found.tells whole tame kind place (record { choices = choices; steps = steps; faults = run });
}
verdict_says p limits flow (Spent trail next) is valid found = tt
verdict_says p limits flow (Large trail entry) is valid found = tt
verdict_says p limits flow (NotYet place) is valid found = tt

pub graph_judged : (limits : Limits) (flow : Flow) (verdict : Verdict) → IsFlow flow → IsVerdict flow limits verdict
    → (p : Program) → flow_of p ≡ Some flow → IsJudgement p limits (Judged flow verdict)
graph_judged limits flow verdict valid found p is = record { graph = is; valid = valid; is = found; says = verdict_says p limits flow verdict is valid found }
