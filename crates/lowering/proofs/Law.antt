-- A program and its flow graph meet the same faults.
use Rattle.std.proofs.Common.{List, All, refl, ap, subst}
use Rattle.c_machine.specs.Text.{Text}
use Rattle.c_machine.specs.Trees.{text_of}
use Rattle.flow.specs.declared.flow_graph.Flow.{Flow}
use Rattle.flow.specs.declared.flow_graph.Initial.{Initial}
use Rattle.flow.specs.Memories.{HasInitialOffset}
use Rattle.lowering.specs.Laws.{DoGraphsMeet}
use Rattle.lowering.specs.Placing.{named_from}
use Rattle.lowering.proofs.BodiesGo.{bodies_go, statics_fixed}
use Rattle.lowering.proofs.BodiesSpelled.{statics_placing}
use Rattle.lowering.proofs.ExpressionsMore.{expressions_more}
use Rattle.lowering.proofs.GraphParts.{is_graph_of}
use Rattle.lowering.proofs.InitialOffsets.{offsets_of}
use Rattle.lowering.proofs.ProgramsMeet.{gives_of, setting_of, places_locals, meets}

pub graphs_meet : DoGraphsMeet
graphs_meet p flow is valid =
    let t : Text = text_of p in
    let graph = is_graph_of p.abi t flow is in
    meets p flow is valid
    (subst (λ (scalars : List Initial). All (λ scalar. HasInitialOffset scalar.word) scalars) (ap (λ (f : Flow). f.initial) graph.is) (offsets_of t (named_from 0 t.statics) graph.scalars graph.told_scalars))
    (bodies_go t flow valid (statics_fixed p.abi t flow graph (places_locals t (statics_placing t)))
    (λ running. expressions_more t flow (setting_of t) running valid (λ number function there. (refl, ap (gives_of t) there))))
