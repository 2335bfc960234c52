-- An allocation that gives null: sound and exact.
use Rattle.std.proofs.Common.{◌≡◌, ℕ, false, [], length, Option, ◌⊎◌, inl, inr, refl, sym, ap, ◌∙◌, subst}
use Rattle.std.specs.Prelude.{Contains, option_map}
use Rattle.std.specs.Option.{option_map_or}
use Rattle.bytes_core.specs.declared.word.Word.{Word}
use Rattle.bytes_core.specs.declared.word.Word.TheVariants.{Plain}
use Rattle.graph.specs.declared.value.Value.{Value}
use Rattle.graph.specs.declared.value.Value.TheVariants.{Const}
use Rattle.graph.specs.declared.parts.Parts.{Parts}
use Rattle.graph.specs.Maps.{held_by}
use Rattle.graph.specs.State.{State, IsState}
use Rattle.graph.specs.Meaning.{StandsFor, Assignment, Meets, maps_of}
use Rattle.graph.specs.WellFormed.{may_be_held}
use Rattle.graph.specs.Whole.{IsGraph}
use Rattle.graph.proofs.AllThere.{all_blocks_may_be_there}
use Rattle.graph.proofs.Closed.{closed_of}
use Rattle.changes.specs.Following.{Follows}
use Rattle.changes.specs.Parts.{put, with_value, with_register}
use Rattle.changes.specs.Posted.{SomeStandsFor}
use Rattle.changes.proofs.RegisterForm.{graph_with}
use Rattle.changes.proofs.RegistersChanged.{AgreeButRegisters-back, registers_changed, held_with, with_agrees, put-words}
use Rattle.changes.proofs.Value.{with_word, word-here, value_more, value_less}
use Rattle.changes.proofs.ValueForm.{value_new, has_one_more, graph_with_value}
use Rattle.heap_steps.specs.Posts.{refuse_post}
use Rattle.heap_steps.specs.Steps.{Refuses}
use Rattle.changes.proofs.Emptied.{with_held, leaves_agrees, held_state}
use Rattle.heap_steps.proofs.Listed.{Contains-first, Contains-cases, Contains-none}

module _ (into : ℕ) (parts : Parts) (graph : IsGraph parts) where
  abbrev null : Value
  null = Const 0 8

  abbrev key : ℕ
  key = length parts.values

  abbrev valued : Parts
  valued = with_value null parts

  abbrev behind : Parts
  behind = with_register into key valued

  valued_graph : IsGraph valued
  valued_graph = graph_with_value null parts graph (record { sized = refl; leads = refl; held = refl })

  pub behind_graph : IsGraph behind
  behind_graph = graph_with into key valued (ap (λ (o : Option Value). option_map_or may_be_held o false) (value_new null parts graph)) valued_graph

  pub refuse_sound : (state next : State) → StandsFor parts state → Refuses into state next → SomeStandsFor (refuse_post parts into).graphs next
  refuse_sound state next stands refuses = record {
    graph = behind;
    among = Contains-first behind [];
    stands = record {
      given = given;
      meets = registers_changed (maps_of valued) (maps_of behind) state next given (with_agrees into key valued) (leaves_agrees (put into (Plain 0) state.registers) state next refuses.leaves)
          (λ register. refuses.leaves.registers register
          ∙ ap (λ (w : Word). put into w state.registers register) (sym (word-here key (Plain 0) stands.given))
          ∙ put-words given.word into key (held_by parts.registers) state.registers register (meets.registers register)
          ∙ ap (option_map given.word) (sym (held_with into key valued register)))
          meets;
    };
  }
    where
      given : Assignment
      given = with_word key (Plain 0) stands.given

      meets : Meets (maps_of valued) state given
      meets = value_more key null (maps_of parts) (maps_of valued) (has_one_more null parts graph refl) (Plain 0) state stands.given (closed_of parts graph.well_formed) refl stands.meets

  pub refuse_exact : (next : State) → IsState next → SomeStandsFor (refuse_post parts into).graphs next → Follows parts (Refuses into) next
  refuse_exact next is some = by_graph (Contains-cases behind some.graph [] some.among)
    where
      follows : StandsFor behind next → Follows parts (Refuses into) next
      follows stands =
          let all = all_blocks_may_be_there behind next stands.given is stands.meets in
          let before : State = with_held (λ register. option_map all.given.word (held_by parts.registers register)) all.next in
          let meets_valued : Meets (maps_of valued) before all.given =
          registers_changed (maps_of behind) (maps_of valued) all.next before all.given (AgreeButRegisters-back (maps_of valued) (maps_of behind) (with_agrees into key valued))
          (record { memory = refl; variables = λ at. refl; ports = refl; roots = refl }) (λ register. refl) all.meets in
          let meets : Meets (maps_of parts) before all.given = value_less key null (maps_of parts) (maps_of valued) (has_one_more null parts graph refl) before all.given meets_valued in
          let zero : all.given.word key ≡ Plain 0 = all.meets.values key null (value_new null parts graph) in record {
            state = before;
            next' = all.next;
            is = held_state behind all.next all.given behind_graph all.is all.meets all.there (held_by parts.registers)
                (λ register value held. (closed_of valued valued_graph.well_formed).registers register value held);
            stands = record { given = all.given; meets = meets };
            steps = record {
              leaves = record {
                memory = refl;
                registers = λ register. all.meets.registers register ∙ ap (option_map all.given.word) (held_with into key valued register)
                    ∙ sym (put-words all.given.word into key (held_by parts.registers) before.registers register refl)
                    ∙ ap (λ (w : Word). put into w before.registers register) zero;
                variables = λ variable. refl;
                ports = refl;
                roots = refl;
              };
            };
            more = all.more;
          }

      by_graph : (behind ≡ some.graph) ⊎ Contains [] some.graph → Follows parts (Refuses into) next
      by_graph (inl same) = follows (subst (λ (p : Parts). StandsFor p next) (sym same) some.stands)
      by_graph (inr none) = absurd (Contains-none some.graph none)
