-- The graph of a read's post stands for each state that follows, but through any word; and each fault that is met is listed.
use Rattle.std.proofs.Common.{◌≡◌, ◌≢◌, ℕ, ◌≤◌, Bool, true, false, ◌^◌, ◌&&◌, not, List, [], ◌∷◌, length, take, drop, set, replicate, pos, nat_eq, nat_lt, Option, None, Some, refl, sym, ◌∙◌, ap, subst, eqb-true, lt-ltb, arith}
use Rattle.std.specs.Prelude.{IsSome, Contains, if◌then◌else◌}
use Rattle.std.specs.List.{list_all}
use Rattle.std.specs.Option.{option_map_or}
use Rattle.std.proofs.lemmas.Bool.{false≢true}
use Rattle.std.proofs.lemmas.Option.{same_Some, none-some}
use Rattle.bytes_core.specs.declared.byte.Byte.{Byte}
use Rattle.bytes_core.specs.declared.byte.Byte.TheVariants.{Num}
use Rattle.bytes_core.specs.declared.block.Block.{Block}
use Rattle.bytes_core.specs.declared.word.Word.{Word}
use Rattle.bytes_core.specs.declared.word.Word.TheVariants.{Plain, To}
use Rattle.bytes_core.specs.Access.{access_fault, loaded}
use Rattle.bytes_core.specs.Value.{word_bytes}
use Rattle.graph.specs.declared.edges.HasValue.{HasValue}
use Rattle.graph.specs.declared.parts.KeyedValue.{KeyedValue}
use Rattle.graph.specs.declared.parts.Parts.{Parts}
use Rattle.graph.specs.declared.value.Value.{Value}
use Rattle.graph.specs.declared.value.Value.TheVariants.{Const, Number, Any}
use Rattle.graph.specs.Maps.{value_at, held_by}
use Rattle.graph.specs.Nodes.{own_node}
use Rattle.graph.specs.Sizes.{value_size, is_scalar_size, is_sized}
use Rattle.graph.specs.State.{State, IsState}
use Rattle.graph.specs.WellFormed.{IsWellFormed, passes_at, edge_has_size}
use Rattle.graph.specs.Whole.{IsGraph}
use Rattle.graph.specs.Meaning.{IsNode, ends_of, HasWord, maps_of, Assignment, Meets, StandsFor}
use Rattle.graph.proofs.Closed.{closed_of, own_edges_there}
use Rattle.graph.proofs.Found.{Holds-some, found-all}
use Rattle.graph.proofs.Frames.{OnEdges-weaker, IsNode-agree}
use Rattle.graph.proofs.Scalars.{small_scalar, power_scalar}
use Rattle.graph.proofs.Sent.{passes-some}
use Rattle.graph.proofs.Tests.{and_both}
use Rattle.changes.specs.Parts.{emptied, put, with_object, with_value}
use Rattle.changes.specs.Posted.{Posted, on_held, on_reach, SomeStandsFor}
use Rattle.changes.specs.Ranges.{spliced, meets_none, written_object, edge_for}
use Rattle.changes.specs.Reaching.{value_reach, reach_of, is_address_held}
use Rattle.changes.proofs.Held.{IsHeldAs, held_as, IsAddress, address_at}
use Rattle.changes.proofs.Meeting.{IsMet, Led, Anywhere, Within, led, kinds_listed}
use Rattle.changes.proofs.Node.{block_with, low_has, low_long, written_holds}
use Rattle.changes.proofs.RangeForm.{fit_now, plane_long}
use Rattle.changes.proofs.Reached.{on_room}
use Rattle.changes.proofs.Region.{region_changed}
use Rattle.changes.proofs.Splice.{spliced-own}
use Rattle.changes.proofs.Value.{with_word, word-here, word-other, value_more}
use Rattle.changes.proofs.ValueForm.{IsFitValue, value_next, has_one_more, graph_with_value}
use Rattle.reinterpret.specs.Reading.{value_of, may_be_read, readable, are_class, unknown, one_graph, with_fresh, read_by, value_read, read_post}
use Rattle.changes.specs.Following.{Leaves}
use Rattle.reinterpret.specs.States.{Reads, FaultsReading}
use Rattle.reinterpret.specs.Writing.{edge_at}
use Rattle.reinterpret.proofs.Into.{into_meets}
use Rattle.reinterpret.proofs.Loaded.{value_of_passes, edge_loaded, zero_loaded, ones_held, number_loaded, unknown_word}
use Rattle.reinterpret.proofs.Words.{IsNumberHeld, set_same}

-- the post where the register holds something
pub read_held : (parts : Parts) (at size : ℕ) (pointer : Bool) (into target : ℕ) → held_by parts.registers at ≡ Some target →
    read_post parts at size pointer into ≡ on_reach parts (reach_of parts target size) (value_read parts (at ∷ []) into size pointer)
read_held parts at size pointer into target held =
    ap (λ (o : Option ℕ). on_held o (λ target. on_reach parts (reach_of parts target size) (value_read parts (at ∷ []) into size pointer))) held

-- the value that an edge of the size holds
pub record IsReadable (parts : Parts) (pointer : Bool) (edges : List HasValue) (from size key : ℕ) : Type 0 where
  pub is : value_of edges from size ≡ Some key
  pub value : Value
  pub stands : value_at parts.values key ≡ Some value
  pub size_is : value_size value ≡ size
  pub read : may_be_read pointer value ≡ true

pub readable_is : (parts : Parts) (pointer : Bool) (edges : List HasValue) (from size key : ℕ) → list_all (edge_has_size parts) edges ≡ true → readable parts pointer (value_of edges from size) ≡ Some key → IsReadable parts pointer edges from size key
readable_is parts pointer edges from size key sizes is = by_found (value_of edges from size) refl is
  where
    by_found : (found : Option ℕ) → value_of edges from size ≡ found → readable parts pointer found ≡ Some key → IsReadable parts pointer edges from size key
    by_found None stands is = absurd (none-some key is)
    by_found (Some other) stands is = by_test (passes_at parts (may_be_read pointer) other) refl is
      where
        by_test : (b : Bool) → passes_at parts (may_be_read pointer) other ≡ b → (if b then Some other else None) ≡ Some key → IsReadable parts pointer edges from size key
        by_test false passes same = absurd (none-some key same)
        by_test true passes same =
            let key_is : other ≡ key = same_Some _ _ same in
            let has = value_of_passes (edge_has_size parts) edges from size other stands sizes in
            let found = Holds-some (value_at parts.values other) (passes-some (may_be_read pointer) (value_at parts.values other) passes) in
            record {
              is = stands ∙ ap Some key_is;
              value = found.item;
              stands = ap (value_at parts.values) (sym key_is) ∙ found.is;
              size_is = eqb-true _ _ (subst (λ (o : Option Value). option_map_or (λ value. nat_eq (value_size value) size) o false ≡ true) found.is has);
              read = subst (λ (o : Option Value). option_map_or (may_be_read pointer) o false ≡ true) found.is passes;
            }

-- values that a read may add
pub fresh_fit : (parts : Parts) (pointer : Bool) (size : ℕ) (range : List ℕ) → is_scalar_size size ≡ true → IsFitValue parts (unknown pointer size range)
fresh_fit parts pointer size range scalar = by_test (pointer && not (list_all (λ class. nat_lt class 2) range))
  where
    by_test : (b : Bool) → IsFitValue parts (if b then Any else Number size)
    by_test true = record { sized = refl; leads = refl; held = refl }
    by_test false = record { sized = scalar; leads = refl; held = refl }

pub zero_fit : (parts : Parts) (size : ℕ) → is_scalar_size size ≡ true → IsFitValue parts (Const 0 size)
zero_fit parts size scalar = record { sized = and_both (is_scalar_size size) (nat_lt 0 (256 ^ size)) scalar (lt-ltb _ _ (power_scalar size scalar).0); leads = refl; held = refl }

module _ (parts : Parts) (graph : IsGraph parts) (at size : ℕ) (pointer : Bool) (into : ℕ) (scalar : is_scalar_size size ≡ true) (whole : pointer ≡ true → size ≡ 8) where
  abbrev form : IsWellFormed parts
  form = graph.well_formed

  abbrev gone : List ℕ
  gone = at ∷ []

  abbrev fresh : ℕ
  fresh = length parts.values

  -- a graph with one value more, which has the word that is read
  more_meets : (value : Value) (word : Word) (state : State) (given : Assignment) → IsFitValue parts value → HasWord (length state.memory) given.blocks (ends_of (maps_of parts).objects given.word) value word → Meets (maps_of parts) state given →
      Meets (maps_of (with_value value parts)) state (with_word fresh word given)
  more_meets value word state given fit has meets =
      value_more fresh value (maps_of parts) (maps_of (with_value value parts)) (has_one_more value parts graph fit.held) word state given (closed_of parts form) has meets

  module _ (state next : State) (given : Assignment) (is : IsState state) (meets : Meets (maps_of parts) state given) (target : ℕ) (met : IsMet parts state given target size)
      (leaves : Leaves state.memory (put into (loaded state.memory (given.word target) size pointer) (emptied gone state.registers)) state next) where
    abbrev word : Word
    word = loaded state.memory (To met.number (pos met.from)) size pointer

    long : length met.object.plane ≡ met.object.size
    long = plane_long parts form met.key met.object met.stands met.region met.live

    leaves_word : (w : Word) → word ≡ w → Leaves state.memory (put into w (emptied gone state.registers)) state next
    leaves_word w same = subst (λ (v : Word). Leaves state.memory (put into v (emptied gone state.registers)) state next) (ap (λ (a : Word). loaded state.memory a size pointer) met.word ∙ same) leaves

    -- a fresh value of this word
    fresh_meets : (value : Value) (w : Word) → IsFitValue parts value → HasWord (length state.memory) given.blocks (ends_of (maps_of parts).objects given.word) value w → word ≡ w →
        StandsFor (with_fresh gone into fresh (with_value value parts)) next
    fresh_meets value w fit has same = record {
      given = with_word fresh w given;
      meets = into_meets gone into fresh (with_value value parts) (with_word fresh w given) state next (more_meets value w state given fit has meets)
          (leaves_word ((with_word fresh w given).word fresh) (same ∙ sym (word-here fresh w given)));
    }

    edge_stands : (key : ℕ) → readable parts pointer (value_of met.object.edges met.from size) ≡ Some key → StandsFor (with_fresh gone into key parts) next
    edge_stands key read =
        let found = readable_is parts pointer met.object.edges met.from size key (fit_now parts form met.key met.object met.stands met.region met.live).sizes read in
        record {
          given = given;
          meets = into_meets gone into key parts given state next meets
              (leaves_word (given.word key) (edge_loaded met.object given.word state.memory met.number met.from size met.block met.there met.node scalar met.room long pointer whole (length state.memory) given.blocks (ends_of (maps_of parts).objects given.word)
              key found.value found.is (found-all (λ (entry : KeyedValue). entry.key) (λ entry. entry.value) is_sized parts.values key found.value form.values_are_sized found.stands) found.size_is found.read (meets.values key found.value found.stands)));
        }

    zeros_stand : are_class 0 met.object.plane met.from size ≡ true → StandsFor (with_fresh gone into fresh (with_value (Const 0 size) parts)) next
    zeros_stand zeros =
        fresh_meets (Const 0 size) (Plain 0) (zero_fit parts size scalar) refl
        (zero_loaded met.object given.word state.memory met.number met.from size met.block met.there met.node scalar met.room long pointer whole zeros)

    unknown_stands : StandsFor (with_fresh gone into fresh (with_value (unknown pointer size (take size (drop met.from met.object.plane))) parts)) next
    unknown_stands =
        fresh_meets (unknown pointer size (take size (drop met.from met.object.plane))) word (fresh_fit parts pointer size (take size (drop met.from met.object.plane)) scalar)
        (unknown_word met.object given.word state.memory met.number met.from size met.block met.there met.node scalar met.room long pointer whole given.blocks (ends_of (maps_of parts).objects given.word) state refl is) refl

    -- bytes that are numbers: a number more, which is written where it stands already
    module _ (held : IsNumberHeld (take size (drop met.from met.block.bytes)) size) where
      abbrev now : Assignment
      now = with_word fresh (Plain held.number) given

      abbrev more : Parts
      more = with_value (Number size) parts

      abbrev after : Parts
      after = with_object met.key (written_object met.object (edge_at met.from size fresh) (Number size)) more

      fit : IsFitValue parts (Number size)
      fit = record { sized = scalar; leads = refl; held = refl }

      small : size ≤ 8
      small = small_scalar size scalar

      more_now : Meets (maps_of more) state now
      more_now = more_meets (Number size) (Plain held.number) state given fit (held.number, refl, held.fit) meets

      word_is : now.word fresh ≡ Plain held.number
      word_is = word-here fresh (Plain held.number) given

      stand : take size (drop met.from met.block.bytes) ≡ take size (word_bytes (now.word fresh))
      stand = held.held ∙ ap (λ (w : Word). take size (word_bytes w)) (sym word_is)

      node_now : IsNode met.object.size met.object.kind (own_node met.object) now.word met.block
      node_now = IsNode-agree met.object.size met.object.kind (own_node met.object) given.word now.word met.block
          (OnEdges-weaker (λ key. IsSome (value_at parts.values key)) (λ key. given.word key ≡ now.word key)
          (λ key some. sym (word-other fresh (Plain held.number) given key (λ same. false≢true (subst (λ (o : Option Value). IsSome o) (ap (value_at parts.values) same ∙ value_next (Number size) parts graph) some))))
          met.object.edges (own_edges_there parts form met.key met.object met.stands)) met.node

      same_memory : set state.memory met.number (block_with met.block (spliced met.block.bytes met.from (take size (word_bytes (now.word fresh))))) ≡ state.memory
      same_memory =
          ap (λ (bytes : List Byte). set state.memory met.number (block_with met.block bytes))
          (spliced-own met.block.bytes met.from (take size (word_bytes (now.word fresh))) (let l = low_long size (now.word fresh) small in let e = met.node.size in let r = met.room in omega arith) (Num 0)
          (ap length (sym stand) ∙ ap (λ (n : ℕ). length (take n (drop met.from met.block.bytes))) (sym (low_long size (now.word fresh) small)))
          (sym stand ∙ ap (λ (n : ℕ). take n (drop met.from met.block.bytes)) (sym (low_long size (now.word fresh) small))))
          ∙ set_same state.memory met.number met.block met.there

      after_meets : Meets (maps_of after) state now
      after_meets =
          subst (λ (memory : List Block). Meets (maps_of after) (record state { memory = memory }) now) same_memory
          (region_changed more (graph_with_value (Number size) parts graph fit).well_formed state now met.key met.from size met.object (edge_for (Number size) (edge_at met.from size fresh)) (replicate size 1) met.stands met.live met.region met.room
          met.number met.block (take size (word_bytes (now.word fresh))) more_now met.blocks met.there node_now (low_long size (now.word fresh) small)
          (low_has (length state.memory) given.blocks (ends_of (maps_of parts).objects given.word) size (Number size) (now.word fresh) small (held.number, word_is, held.fit))
          (written_holds met.block.bytes (edge_at met.from size fresh) (Number size) now.word small (let e = met.node.size in let r = met.room in omega arith)))

      number_stands : StandsFor (with_fresh gone into fresh after) next
      number_stands = record {
        given = now;
        meets = into_meets gone into fresh after now state next after_meets
            (leaves_word (now.word fresh)
            (number_loaded met.object given.word state.memory met.number met.from size met.block met.there met.node scalar met.room long pointer whole held.number held.fit held.held ∙ sym word_is));
      }

    -- the graph of the post
    pub read_stands : SomeStandsFor (value_read parts gone into size pointer met.key met.object met.from).graphs next
    read_stands = by_edge (readable parts pointer (value_of met.object.edges met.from size)) refl
      where
        one_stands : (one : Parts) → StandsFor one next → SomeStandsFor (one ∷ []) next
        one_stands one stands = record { graph = one; among = (0, omega arith, refl); stands = stands }

        by_bytes : (a : Bool) → are_class 0 met.object.plane met.from size ≡ a → (b : Bool) → are_class 1 met.object.plane met.from size ≡ b → (c : Bool) →
            SomeStandsFor (if a then one_graph (with_fresh gone into fresh (with_value (Const 0 size) parts)) None
            else (if b && c then one_graph (with_fresh gone into fresh (with_object met.key (written_object met.object (edge_at met.from size fresh) (Number size)) (with_value (Number size) parts))) None
            else one_graph (with_fresh gone into fresh (with_value (unknown pointer size (take size (drop met.from met.object.plane))) parts)) (Some 3))).graphs next
        by_bytes true zeros b b_is c = one_stands (with_fresh gone into fresh (with_value (Const 0 size) parts)) (zeros_stand zeros)
        by_bytes false a_is true ones true =
            one_stands (with_fresh gone into fresh (with_object met.key (written_object met.object (edge_at met.from size fresh) (Number size)) (with_value (Number size) parts)))
            (number_stands (ones_held met.object given.word state.memory met.number met.from size met.block met.there met.node scalar met.room long pointer whole ones is.bytes))
        by_bytes false a_is true ones false = one_stands (with_fresh gone into fresh (with_value (unknown pointer size (take size (drop met.from met.object.plane))) parts)) unknown_stands
        by_bytes false a_is false b_is c = one_stands (with_fresh gone into fresh (with_value (unknown pointer size (take size (drop met.from met.object.plane))) parts)) unknown_stands

        by_edge : (found : Option ℕ) → readable parts pointer (value_of met.object.edges met.from size) ≡ found → SomeStandsFor (read_by found parts gone into size pointer met.key met.object met.from).graphs next
        by_edge (Some key) read = one_stands (with_fresh gone into key parts) (edge_stands key read)
        by_edge None read = by_bytes (are_class 0 met.object.plane met.from size) refl (are_class 1 met.object.plane met.from size) refl (meets_none met.from size met.object.edges)

  pub read_sound : (address : is_address_held parts at ≡ true) (state next : State) → IsState state → StandsFor parts state → Reads at size pointer into state next → (read_post parts at size pointer into).loss ≢ Some 4 →
      SomeStandsFor (read_post parts at size pointer into).graphs next
  read_sound address state next is stands reads precise = by_led (led parts state stands.given form stands.meets target.key size target_value.value target_value.is target_value.names
      (ap (λ (w : Word). access_fault state.memory w size) target.word_is ∙ reads.room))
    where
      target : IsHeldAs parts stands.given at reads.to
      target = held_as parts state stands.given at reads.to stands.meets reads.address

      target_value : IsAddress parts target.key
      target_value = address_at parts at target.key target.held address

      post : read_post parts at size pointer into ≡ on_reach parts (reach_of parts target.key size) (value_read parts gone into size pointer)
      post = read_held parts at size pointer into target.key target.held

      leaves : Leaves state.memory (put into (loaded state.memory (stands.given.word target.key) size pointer) (emptied gone state.registers)) state next
      leaves = subst (λ (w : Word). Leaves state.memory (put into (loaded state.memory w size pointer) (emptied gone state.registers)) state next) (sym target.word_is) reads.leaves

      by_led : Led parts state stands.given target.key size → SomeStandsFor (read_post parts at size pointer into).graphs next
      by_led (Anywhere any) = absurd (precise (ap (λ (p : Posted). p.loss) post ∙ ap (λ (o : Option Value). (on_reach parts (value_reach parts target.key o size) (value_read parts gone into size pointer)).loss) any))
      by_led (Within met) =
          subst (λ (p : Posted). SomeStandsFor p.graphs next) (sym (post ∙ on_room parts (reach_of parts target.key size) met.key met.from met.object (value_read parts gone into size pointer) met.reach met.stands))
          (read_stands state next stands.given is stands.meets target.key met leaves)

  pub read_kinds : (address : is_address_held parts at ≡ true) (state : State) (kind : ℕ) → StandsFor parts state → FaultsReading at size kind state → Contains (read_post parts at size pointer into).kinds kind
  read_kinds address state kind stands faults =
      subst (λ (p : Posted). Contains p.kinds kind) (sym (read_held parts at size pointer into target.key target.held))
      (kinds_listed parts state stands.given form stands.meets target.key size target_value.value target_value.is target_value.names kind (ap (λ (w : Word). access_fault state.memory w size) target.word_is ∙ faults.fault)
      (value_read parts gone into size pointer))
    where
      target : IsHeldAs parts stands.given at faults.to
      target = held_as parts state stands.given at faults.to stands.meets faults.address

      target_value : IsAddress parts target.key
      target_value = address_at parts at target.key target.held address
