-- Another object at a key, together with a change of memory in its blocks alone: all else that a graph says stays. The lemma is the same in
-- both directions.
use Rattle.std.proofs.Common.{◌≡◌, ◌≢◌, ℕ, Bool, true, false, List, [], ◌∷◌, map, length, nat_eq, Option, Some, refl, sym, ◌∙◌, ap, subst, eqb-true, eq-eqb, ◌⊎◌, inl, inr}
use Rattle.std.specs.Prelude.{IsSome, option_map, slice_get, ℤ}
use Rattle.std.proofs.lemmas.Bool.{false≢true}
use Rattle.bytes_core.specs.declared.block.Block.{Block}
use Rattle.bytes_core.specs.declared.word.Word.{Word}
use Rattle.graph.specs.declared.object.Object.{Object}
use Rattle.graph.specs.declared.object.Shape.{Shape}
use Rattle.graph.specs.declared.object.Shape.TheVariants.{Region as RegionShape, Segment}
use Rattle.graph.specs.declared.template.Node.{Node}
use Rattle.graph.specs.declared.value.Value.{Value}
use Rattle.graph.specs.declared.value.Value.TheVariants.{Const, Number, Any, Address}
use Rattle.graph.specs.declared.parts.Pair.{Pair}
use Rattle.graph.specs.Closed.{OnEnds, OnNamed}
use Rattle.graph.specs.Nodes.{own_node, node_in}
use Rattle.graph.specs.State.{State}
use Rattle.graph.specs.Meaning.{HasBlocks, Ends, ends_of, address_word, HasWord, own_offset, IsRooted, Maps, Assignment, IsOwned, Meets}
use Rattle.graph.proofs.Frames.{OnEdges-all, HasBlocks-agree, HasBlocks-frame}

-- two graphs differ in the object with one key, and in nothing else; what lies beyond its ends stays as well
pub record AgreeBut (key : ℕ) (one other : Maps) : Type 0 where
  pub objects : (at : ℕ) → at ≢ key → other.objects at ≡ one.objects at
  pub here : IsSome (one.objects key)
  pub here' : IsSome (other.objects key)
  pub ends : (word : ℕ → Word) → ends_of other.objects word key ≡ ends_of one.objects word key
  pub values : (at : ℕ) → other.values at ≡ one.values at
  pub variables : (at : ℕ) → other.variables at ≡ one.variables at
  pub registers : (at : ℕ) → other.registers at ≡ one.registers at
  pub ports : other.ports ≡ one.ports
  pub unequal : other.unequal ≡ one.unequal

pub AgreeBut-back : (key : ℕ) (one other : Maps) → AgreeBut key one other → AgreeBut key other one
AgreeBut-back key one other agree = record {
  objects = λ at differ. sym (agree.objects at differ);
  here = agree.here';
  here' = agree.here;
  ends = λ word. sym (agree.ends word);
  values = λ at. sym (agree.values at);
  variables = λ at. sym (agree.variables at);
  registers = λ at. sym (agree.registers at);
  ports = sym agree.ports;
  unequal = sym agree.unequal;
}

-- a number stands in a list
abbrev pub Among : List ℕ → ℕ → Type 0
Among numbers number = (place : ℕ) × (slice_get numbers place ≡ Some number)

-- two states differ in blocks of a list alone
pub record AgreeBeside (numbers : List ℕ) (one other : State) : Type 0 where
  pub count : length other.memory ≡ length one.memory
  pub blocks : (number : ℕ) → Among numbers number ⊎ (slice_get other.memory number ≡ slice_get one.memory number)
  pub variables : (at : ℕ) → other.variables at ≡ one.variables at
  pub registers : (at : ℕ) → other.registers at ≡ one.registers at
  pub ports : other.ports ≡ one.ports
  pub roots : other.roots ≡ one.roots

pub AgreeBeside-back : (numbers : List ℕ) (one other : State) → AgreeBeside numbers one other → AgreeBeside numbers other one
AgreeBeside-back numbers one other agree = record {
  count = sym agree.count;
  blocks = λ number. turned number (agree.blocks number);
  variables = λ at. sym (agree.variables at);
  registers = λ at. sym (agree.registers at);
  ports = sym agree.ports;
  roots = sym agree.roots;
}
  where
    turned : (number : ℕ) → Among numbers number ⊎ (slice_get other.memory number ≡ slice_get one.memory number) → Among numbers number ⊎ (slice_get one.memory number ≡ slice_get other.memory number)
    turned number (inl among) = inl among
    turned number (inr same) = inr (sym same)

-- a state that stays is the same beside whatever blocks
pub same_state : (numbers : List ℕ) (state : State) → AgreeBeside numbers state state
same_state numbers state = record { count = refl; blocks = λ number. inr refl; variables = λ at. refl; registers = λ at. refl; ports = refl; roots = refl }

-- What values and objects mean, where what they look at is the same.

pub IsSome-same : {A : Type 0} (one other : Option A) → other ≡ one → IsSome other → IsSome one
IsSome-same one other same some = subst (λ (o : Option _). IsSome o) same some

pub HasWord-ends : (count : ℕ) (blocks : ℕ → List ℕ) (ends ends' : ℕ → Ends) (value : Value) (word : Word) → ((at : ℕ) → ends' at ≡ ends at) → HasWord count blocks ends value word → HasWord count blocks ends' value word
HasWord-ends count blocks ends ends' (Const number size) word same has = has
HasWord-ends count blocks ends ends' (Number size) word same has = has
HasWord-ends count blocks ends ends' Any word same has = has
HasWord-ends count blocks ends ends' (Address object offset target) word same has = has ∙ ap (λ (e : Ends). address_word target (blocks object) e offset) (sym (same object))

OnEnds-all : (P : ℕ → Type 0) → ((key : ℕ) → P key) → (shape : Shape) → OnEnds P shape
OnEnds-all P each RegionShape = tt
OnEnds-all P each (Segment twofold head next prev back least next_value prev_value node) = (each next_value, each prev_value)

pub OnNamed-all : (P : ℕ → Type 0) → ((key : ℕ) → P key) → (shape : Shape) (own : Node) → OnNamed P shape own
OnNamed-all P each shape own = (OnEdges-all P each (node_in shape own).edges, OnEnds-all P each shape)

-- the same values are nodes' own addresses
pub HasBlocks-own : (memory : List Block) (object : Object) (word : ℕ → Word) (own own' : ℕ → Option ℤ) (blocks : List ℕ) → ((value : ℕ) → own' value ≡ own value) →
    HasBlocks memory object word own blocks → HasBlocks memory object word own' blocks
HasBlocks-own memory object word own own' blocks same has =
    HasBlocks-agree word word own own' object.live memory object blocks (OnNamed-all (λ key. (word key ≡ word key) × (own key ≡ own' key)) (λ key. (refl, sym (same key))) object.shape (own_node object)) has

-- The change.

pub changed : (key : ℕ) (one other : Maps) (state next : State) (given : Assignment) → AgreeBut key one other → AgreeBeside (given.blocks key) state next →
    ((object : Object) → other.objects key ≡ Some object → HasBlocks next.memory object given.word (λ value. own_offset (other.values value)) (given.blocks key)) →
    Meets one state given → Meets other next given
changed key one other state next given graphs states here meets = record {
  values = λ at value stands.
      HasWord-ends (length next.memory) given.blocks (ends_of one.objects given.word) (ends_of other.objects given.word) value (given.word at) ends_same
      (subst (λ (count : ℕ). HasWord count given.blocks (ends_of one.objects given.word) value (given.word at)) (sym states.count) (meets.values at value (sym (graphs.values at) ∙ stands)));
  objects = λ at object stands. object_there at object stands (nat_eq at key) refl;
  owners = λ at place number some stands. meets.owners at place number (was at some) stands;
  places = λ at place number some stands. meets.places at place number (was at some) stands;
  used = λ number block stands live. owned number block stands live (states.blocks number);
  variables = λ variable. ap (option_map (λ number. number ∷ [])) (states.variables variable) ∙ meets.variables variable ∙ ap (option_map given.blocks) (sym (graphs.variables variable));
  registers = λ register. states.registers register ∙ meets.registers register ∙ ap (option_map given.word) (sym (graphs.registers register));
  ports = states.ports ∙ meets.ports ∙ ap (map given.word) (sym graphs.ports);
  rooted = λ place port stands.
      subst (λ (roots : List ℕ). IsRooted roots (other.values port) (given.word port)) (sym states.roots)
      (subst (λ (o : Option Value). IsRooted state.roots o (given.word port)) (sym (graphs.values port))
      (meets.rooted place port (ap (λ (ports : List ℕ). slice_get ports place) (sym graphs.ports) ∙ stands)));
  unequal = λ place pair stands. meets.unequal place pair (ap (λ (pairs : List Pair). slice_get pairs place) (sym graphs.unequal) ∙ stands);
}
  where
    apart : (at : ℕ) → nat_eq at key ≡ false → at ≢ key
    apart at is same = false≢true (sym is ∙ eq-eqb at key same)

    ends_same : (at : ℕ) → ends_of other.objects given.word at ≡ ends_of one.objects given.word at
    ends_same at = by_key (nat_eq at key) refl
      where
        by_key : (b : Bool) → nat_eq at key ≡ b → ends_of other.objects given.word at ≡ ends_of one.objects given.word at
        by_key true is = ap (ends_of other.objects given.word) (eqb-true _ _ is) ∙ graphs.ends given.word ∙ ap (ends_of one.objects given.word) (sym (eqb-true _ _ is))
        by_key false is = ap (λ (o : Option Object). ends_of (λ key. o) given.word at) (graphs.objects at (apart at is))

    was : (at : ℕ) → IsSome (other.objects at) → IsSome (one.objects at)
    was at some = by_key (nat_eq at key) refl
      where
        by_key : (b : Bool) → nat_eq at key ≡ b → IsSome (one.objects at)
        by_key true is = subst (λ (k : ℕ). IsSome (one.objects k)) (sym (eqb-true _ _ is)) graphs.here
        by_key false is = IsSome-same (one.objects at) (other.objects at) (graphs.objects at (apart at is)) some

    is_now : (at : ℕ) → IsSome (one.objects at) → IsSome (other.objects at)
    is_now at some = by_key (nat_eq at key) refl
      where
        by_key : (b : Bool) → nat_eq at key ≡ b → IsSome (other.objects at)
        by_key true is = subst (λ (k : ℕ). IsSome (other.objects k)) (sym (eqb-true _ _ is)) graphs.here'
        by_key false is = IsSome-same (other.objects at) (one.objects at) (sym (graphs.objects at (apart at is))) some

    object_there : (at : ℕ) (object : Object) → other.objects at ≡ Some object → (b : Bool) → nat_eq at key ≡ b → HasBlocks next.memory object given.word (λ value. own_offset (other.values value)) (given.blocks at)
    object_there at object stands true is =
        subst (λ (k : ℕ). HasBlocks next.memory object given.word (λ value. own_offset (other.values value)) (given.blocks k)) (sym (eqb-true _ _ is)) (here object (ap other.objects (sym (eqb-true _ _ is)) ∙ stands))
    object_there at object stands false is =
        HasBlocks-frame state.memory next.memory object given.word (λ value. own_offset (other.values value)) object.live (given.blocks at) (λ place number stands'. beside place number stands' (states.blocks number))
        (HasBlocks-own state.memory object given.word (λ value. own_offset (one.values value)) (λ value. own_offset (other.values value)) (given.blocks at) (λ value. ap own_offset (graphs.values value)) (meets.objects at object stands_was))
      where
        stands_was : one.objects at ≡ Some object
        stands_was = sym (graphs.objects at (apart at is)) ∙ stands

        beside : (place number : ℕ) → slice_get (given.blocks at) place ≡ Some number → Among (given.blocks key) number ⊎ (slice_get next.memory number ≡ slice_get state.memory number) →
            slice_get next.memory number ≡ slice_get state.memory number
        beside place number stands' (inr same) = same
        beside place number stands' (inl among) =
            let mine = meets.owners at place number (subst (λ (o : Option Object). IsSome o) (sym stands_was) refl) stands' in
            let its = meets.owners key among.0 number graphs.here among.1 in
            absurd (apart at is (sym mine ∙ its))

    owned : (number : ℕ) (block : Block) → slice_get next.memory number ≡ Some block → block.live ≡ true → Among (given.blocks key) number ⊎ (slice_get next.memory number ≡ slice_get state.memory number) → IsOwned other given number
    owned number block stands live (inl among) =
        let owner = meets.owners key among.0 number graphs.here among.1 in
        let place = meets.places key among.0 number graphs.here among.1 in record {
          object = subst (λ (k : ℕ). IsSome (other.objects k)) (sym owner) graphs.here';
          block = ap (λ (k : ℕ). slice_get (given.blocks k) (given.place number)) owner ∙ ap (slice_get (given.blocks key)) place ∙ among.1;
        }
    owned number block stands live (inr same) =
        let was_owned = meets.used number block (sym same ∙ stands) live in
        record { object = is_now (given.owner number) was_owned.object; block = was_owned.block }
