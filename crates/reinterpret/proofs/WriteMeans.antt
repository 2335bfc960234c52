-- What the post of a write says, together.
use Rattle.std.proofs.Common.{◌≡◌, ◌≢◌, ℕ, ◌≤◌, true, List, [], ◌∷◌, Some, refl, sym, ◌∙◌, ap, subst}
use Rattle.std.specs.Prelude.{Contains, option_map}
use Rattle.graph.specs.declared.object.Object.{Object}
use Rattle.graph.specs.declared.parts.Parts.{Parts}
use Rattle.graph.specs.declared.post.Post.{Post}
use Rattle.graph.specs.WellFormed.{are_ascending}
use Rattle.graph.specs.Whole.{IsGraph}
use Rattle.changes.specs.Parts.{with_object, without_registers}
use Rattle.changes.specs.Posted.{Posted, IsPost, SomeStandsFor}
use Rattle.changes.specs.Ranges.{written_object}
use Rattle.changes.specs.Reaching.{reach_of, is_address_held}
use Rattle.changes.proofs.Reached.{only_one, IsReached, reach_graph, IsRoomAt, room_at}
use Rattle.changes.proofs.RangeForm.{graph_written}
use Rattle.changes.proofs.RegisterForm.{graph_without}
use Rattle.changes.proofs.RegistersChanged.{held_without}
use Rattle.changes.specs.Following.{holds_size, SomeFaults}
use Rattle.changes.specs.Following.{StepMeans, WriteTail}
use Rattle.reinterpret.specs.States.{Writes, FaultsWriting}
use Rattle.reinterpret.specs.Writing.{edge_at, value_written, write_post}
use Rattle.reinterpret.proofs.WriteSound.{write_sound, write_kinds}
use Rattle.changes.proofs.Accesses.{size_small, lives_replaced, kinds_ascend, kinds_met, all_kinds_met}
use Rattle.changes.specs.AnyWords.{MeetsListed}
use Rattle.changes.proofs.Shown.{IsShown}
use Rattle.reinterpret.proofs.WriteExact.{source, source_held, target, target_value, post, write_follows}

-- The post of a write.

module _ (parts : Parts) (graph : IsGraph parts) (at size from : ℕ) (address : is_address_held parts at ≡ true) (sized : holds_size parts from size ≡ true) (small : size ≤ 8) where
  abbrev onward : ℕ → Object → ℕ → Posted
  onward = value_written parts (at ∷ from ∷ []) size (source parts graph at size from address sized small).key (Some (source parts graph at size from address sized small).value)

  write_faults : (kind : ℕ) → IsShown parts (target parts graph at size from address sized small).0 size kind → SomeFaults parts (FaultsWriting at size from kind)
  write_faults kind shown = record {
    state = shown.state;
    is = shown.is;
    stands = record { given = shown.given; meets = shown.meets };
    faults = record {
      to = shown.given.word (target parts graph at size from address sized small).0;
      word = shown.given.word (source parts graph at size from address sized small).key;
      address = shown.meets.registers at ∙ ap (option_map shown.given.word) (target parts graph at size from address sized small).1;
      value = shown.meets.registers from ∙ ap (option_map shown.given.word) (source parts graph at size from address sized small).held;
      fault = shown.fault;
    };
  }

  write_met : (kind : ℕ) → (write_post parts at size from).loss ≢ Some 4 → Contains (write_post parts at size from).kinds kind → SomeFaults parts (FaultsWriting at size from kind)
  write_met kind precise listed =
      let is = post parts graph at size from address sized small in
      write_faults kind
      (kinds_met parts graph (target parts graph at size from address sized small).0 size (target_value parts graph at size from address sized small) onward (λ key start object. refl) kind
      (λ any. precise (ap (λ (p : Posted). p.loss) is ∙ any)) (subst (λ (p : Posted). Contains p.kinds kind) is listed))

  -- through any word too, where with an object a region lives and the graph may have one object more
  written_listed : (given : Post) → IsPost (write_post parts at size from) given → MeetsListed parts (λ kind. FaultsWriting at size from kind) given
  written_listed given is = record {
    met = λ place kind listed.
        let post_is = post parts graph at size from address sized small in
        write_faults kind
        (all_kinds_met parts graph (target parts graph at size from address sized small).0 size (target_value parts graph at size from address sized small) onward (λ key start object. refl) kind place
        (subst (λ (p : Posted). Contains p.kinds kind) post_is (subst (λ (kinds : List ℕ). Contains kinds kind) is.kinds listed)));
  }

  write_tail : (after : Parts) → Contains (write_post parts at size from).graphs after → WriteTail parts (at ∷ from ∷ []) after
  write_tail after among = subst (WriteTail parts (at ∷ from ∷ [])) same tail
    where
      reached : IsReached parts (reach_of parts (target parts graph at size from address sized small).0 size) onward after
      reached = reach_graph parts (reach_of parts (target parts graph at size from address sized small).0 size) onward after (subst (λ (p : Posted). Contains p.graphs after) (post parts graph at size from address sized small) among)

      room : IsRoomAt parts (target parts graph at size from address sized small).0 size reached.key reached.from reached.object
      room =
          let value = target_value parts graph at size from address sized small in
          room_at parts (target parts graph at size from address sized small).0 size reached.key reached.from reached.object value.value graph.well_formed value.is value.names reached.is reached.stands

      middle : Parts
      middle = with_object reached.key (written_object reached.object (edge_at reached.from size (source parts graph at size from address sized small).key) (source parts graph at size from address sized small).value) parts

      same : without_registers (at ∷ from ∷ []) middle ≡ after
      same = only_one (without_registers (at ∷ from ∷ []) middle) after reached.among

      tail : WriteTail parts (at ∷ from ∷ []) (without_registers (at ∷ from ∷ []) middle)
      tail = record {
        keeps = record {
          graph = graph_without (at ∷ from ∷ []) middle (graph_written parts reached.key reached.object (edge_at reached.from size (source parts graph at size from address sized small).key) (source parts graph at size from address sized small).value graph
              reached.stands room.region room.live room.room (source parts graph at size from address sized small).is (source parts graph at size from address sized small).size_is (source_held parts graph at size from address sized small));
          ports = refl;
          variables = refl;
          unequal = refl;
          lives = lives_replaced reached.key reached.object (written_object reached.object (edge_at reached.from size (source parts graph at size from address sized small).key) (source parts graph at size from address sized small).value) parts reached.stands refl;
          values = λ key some. refl;
        };
        registers = held_without (at ∷ from ∷ []) middle;
      }

pub write_means : (parts : Parts) (at size from : ℕ) (given : Post) → IsGraph parts → is_address_held parts at ≡ true → holds_size parts from size ≡ true → IsPost (write_post parts at size from) given →
    StepMeans parts (Writes at size from) (λ kind. FaultsWriting at size from kind) (WriteTail parts (at ∷ from ∷ [])) given
write_means parts at size from given graph address sized is = record {
  sound = λ state next is_state stands steps precise.
      subst (λ (graphs : List Parts). SomeStandsFor graphs next) (sym is.graphs) (write_sound parts graph.well_formed at size from address small state next stands steps (λ any. precise (is.loss ∙ any)));
  exact = λ after next none among is_state stands.
      write_follows parts graph at size from address sized small after next (sym is.loss ∙ none) (subst (λ (graphs : List Parts). Contains graphs after) is.graphs among) is_state stands;
  kinds = λ state kind stands faults. subst (λ (kinds : List ℕ). Contains kinds kind) (sym is.kinds) (write_kinds parts graph.well_formed at size from address small state kind stands faults);
  met = λ kind precise listed. write_met parts graph at size from address sized small kind (λ any. precise (is.loss ∙ any)) (subst (λ (kinds : List ℕ). Contains kinds kind) is.kinds listed);
  ascending = ap are_ascending (is.kinds ∙ ap (λ (p : Posted). p.kinds) (post parts graph at size from address sized small))
      ∙ kinds_ascend parts (reach_of parts (target parts graph at size from address sized small).0 size) (onward parts graph at size from address sized small) (λ key start object. refl);
  tail = λ after among. write_tail parts graph at size from address sized small after (subst (λ (graphs : List Parts). Contains graphs after) is.graphs among);
}
  where
    small : size ≤ 8
    small = size_small parts from size graph sized

pub write_listed : (parts : Parts) (at size from : ℕ) (given : Post) → IsGraph parts → is_address_held parts at ≡ true → holds_size parts from size ≡ true → IsPost (write_post parts at size from) given →
    MeetsListed parts (λ kind. FaultsWriting at size from kind) given
write_listed parts at size from given graph address sized is = written_listed parts graph at size from address sized (size_small parts from size graph sized) given is
