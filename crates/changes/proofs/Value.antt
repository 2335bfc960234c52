-- A value more, which nothing holds yet: there, with any word that it may have, and back.
use Rattle.std.proofs.Common.{◌≡◌, ◌≢◌, ℕ, Bool, true, false, List, ◌∷◌, map, length, suc, nat_eq, Option, None, Some, refl, sym, ◌∙◌, ap, subst, eqb-true, eq-eqb, []}
use Rattle.std.specs.Prelude.{IsSome, option_map, slice_get, if◌then◌else◌}
use Rattle.std.proofs.lemmas.Bool.{false≢true}
use Rattle.std.proofs.lemmas.Option.{same_Some}
use Rattle.bytes_core.specs.declared.word.Word.{Word}
use Rattle.graph.specs.declared.object.Object.{Object}
use Rattle.graph.specs.declared.object.Shape.{Shape}
use Rattle.graph.specs.declared.object.Shape.TheVariants.{Region as RegionShape, Segment}
use Rattle.graph.specs.declared.template.Node.{Node}
use Rattle.graph.specs.declared.value.Value.{Value}
use Rattle.graph.specs.declared.parts.Pair.{Pair}
use Rattle.graph.specs.Closed.{OnNamed, IsClosed}
use Rattle.graph.specs.Nodes.{own_node}
use Rattle.graph.specs.State.{State}
use Rattle.graph.specs.Meaning.{Ends, ends_in, ends_of, HasWord, own_offset, IsRooted, Maps, Assignment, Meets}
use Rattle.graph.proofs.Found.{IsSome-holds}
use Rattle.graph.proofs.Frames.{OnNamed-weaker, HasBlocks-agree}
use Rattle.changes.proofs.Change.{HasWord-ends, HasBlocks-own}
use Rattle.changes.proofs.Objects.{eqb-miss}

-- one value more
pub record HasOneMore (key : ℕ) (value : Value) (one other : Maps) : Type 0 where
  pub new : one.values key ≡ None
  pub here : other.values key ≡ Some value
  -- it is no node's own address
  pub own : own_offset (Some value) ≡ None
  pub values : (at : ℕ) → at ≢ key → other.values at ≡ one.values at
  pub objects : (at : ℕ) → other.objects at ≡ one.objects at
  pub variables : (at : ℕ) → other.variables at ≡ one.variables at
  pub registers : (at : ℕ) → other.registers at ≡ one.registers at
  pub ports : other.ports ≡ one.ports
  pub unequal : other.unequal ≡ one.unequal

abbrev pub with_word : ℕ → Word → Assignment → Assignment
with_word key word given = record given { word = λ at. if nat_eq at key then word else given.word at }

-- the new word at the new value, and the same words at all others
pub word-here : (key : ℕ) (word : Word) (given : Assignment) → (with_word key word given).word key ≡ word
word-here key word given = ap (λ (b : Bool). if b then word else given.word key) (eq-eqb key key refl)

pub word-other : (key : ℕ) (word : Word) (given : Assignment) (at : ℕ) → at ≢ key → (with_word key word given).word at ≡ given.word at
word-other key word given at differ = ap (λ (b : Bool). if b then word else given.word at) (eqb-miss at key differ)

-- functions that agree at the items of a list
pub map_same : {X Y : Type 0} (f g : X → Y) (items : List X) → ((place : ℕ) (item : X) → slice_get items place ≡ Some item → f item ≡ g item) → map f items ≡ map g items
map_same f g [] same = refl
map_same f g (item ∷ rest) same = ap (λ y. y ∷ map f rest) (same 0 item refl) ∙ ap (λ ys. g item ∷ ys) (map_same f g rest (λ place other stands. same (suc place) other stands))

-- words that agree at what an object names give its ends
pub ends_agree : (one other : ℕ → Word) (shape : Shape) (own : Node) → OnNamed (λ key. other key ≡ one key) shape own → ends_in shape other ≡ ends_in shape one
ends_agree one other RegionShape own on = refl
ends_agree one other (Segment twofold head next prev back least next_value prev_value node) own (edges, (after, before)) =
    ap (λ (w : Word). Ends-of head back w (other prev_value)) after ∙ ap (λ (w : Word). Ends-of head back (one next_value) w) before
  where
    Ends-of : ℕ → ℕ → Word → Word → Ends
    Ends-of head back after before = record { head = head; back = back; after = after; before = before }

module _ (key : ℕ) (value : Value) (one other : Maps) (more : HasOneMore key value one other) where
  apart : (at : ℕ) → IsSome (one.values at) → at ≢ key
  apart at some same = false≢true (subst (λ (o : Option Value). IsSome o) (ap one.values same ∙ more.new) some)

  pub still : (at : ℕ) → IsSome (one.values at) → other.values at ≡ one.values at
  still at some = more.values at (apart at some)

  own_same : (at : ℕ) → own_offset (other.values at) ≡ own_offset (one.values at)
  own_same at = by_key (nat_eq at key) refl
    where
      by_key : (b : Bool) → nat_eq at key ≡ b → own_offset (other.values at) ≡ own_offset (one.values at)
      by_key true is =
          ap (λ (k : ℕ). own_offset (other.values k)) (eqb-true _ _ is) ∙ ap own_offset more.here ∙ more.own
          ∙ sym (ap (λ (k : ℕ). own_offset (one.values k)) (eqb-true _ _ is) ∙ ap own_offset more.new)
      by_key false is = ap own_offset (more.values at (λ same. false≢true (sym is ∙ eq-eqb at key same)))

  ends_still : (word : ℕ → Word) (at : ℕ) → ends_of other.objects word at ≡ ends_of one.objects word at
  ends_still word at = ap (λ (o : Option Object). ends_of (λ k. o) word at) (more.objects at)

  -- there
  pub value_more : (word : Word) (state : State) (given : Assignment) → IsClosed one → HasWord (length state.memory) given.blocks (ends_of one.objects given.word) value word →
      Meets one state given → Meets other state (with_word key word given)
  value_more word state given closed has meets = record {
    values = λ at found stands.
        HasWord-ends (length state.memory) given.blocks (ends_of one.objects given.word) (ends_of other.objects (with_word key word given).word) found ((with_word key word given).word at) ends_now (by_key at found stands (nat_eq at key) refl);
    objects = λ at object stands.
        let was : one.objects at ≡ Some object = sym (more.objects at) ∙ stands in
        HasBlocks-own state.memory object (with_word key word given).word (λ v. own_offset (one.values v)) (λ v. own_offset (other.values v)) (given.blocks at) own_same
        (HasBlocks-agree given.word (with_word key word given).word (λ v. own_offset (one.values v)) (λ v. own_offset (one.values v)) object.live state.memory object (given.blocks at)
        (OnNamed-weaker (λ v. IsSome (one.values v)) (λ v. (given.word v ≡ (with_word key word given).word v) × (own_offset (one.values v) ≡ own_offset (one.values v))) (λ v some. (sym (same v some), refl)) object.shape (own_node object) (closed.objects at object was))
        (meets.objects at object was));
    owners = λ at place number some stands. meets.owners at place number (subst (λ (o : Option Object). IsSome o) (more.objects at) some) stands;
    places = λ at place number some stands. meets.places at place number (subst (λ (o : Option Object). IsSome o) (more.objects at) some) stands;
    used = λ number block stands live. let owned = meets.used number block stands live in record { object = subst (λ (o : Option Object). IsSome o) (sym (more.objects (given.owner number))) owned.object; block = owned.block };
    variables = λ variable. meets.variables variable ∙ ap (option_map given.blocks) (sym (more.variables variable));
    registers = λ register. meets.registers register ∙ held register (one.registers register) refl ∙ ap (option_map (with_word key word given).word) (sym (more.registers register));
    ports = meets.ports ∙ sym (ports_same one.ports (λ place port stands. closed.ports place port stands)) ∙ ap (map (with_word key word given).word) (sym more.ports);
    rooted = λ place port stands.
        let was = ap (λ (ports : List ℕ). slice_get ports place) (sym more.ports) ∙ stands in
        let some = closed.ports place port was in
        subst (λ (w : Word). IsRooted state.roots (other.values port) w) (sym (same port some)) (subst (λ (o : Option Value). IsRooted state.roots o (given.word port)) (sym (still port some)) (meets.rooted place port was));
    unequal = λ place pair stands equal.
        let was = ap (λ (pairs : List Pair). slice_get pairs place) (sym more.unequal) ∙ stands in
        let some = closed.unequal place pair was in
        meets.unequal place pair was (sym (same pair.left some.0) ∙ equal ∙ same pair.right some.1);
  }
    where
      same : (at : ℕ) → IsSome (one.values at) → (with_word key word given).word at ≡ given.word at
      same at some = word-other key word given at (apart at some)

      ends_words : (at : ℕ) (found : Option Object) → one.objects at ≡ found → ends_of (λ k. found) (with_word key word given).word at ≡ ends_of (λ k. found) given.word at
      ends_words at None is = refl
      ends_words at (Some object) is =
          ends_agree given.word (with_word key word given).word object.shape (own_node object)
          (OnNamed-weaker (λ v. IsSome (one.values v)) (λ v. (with_word key word given).word v ≡ given.word v) same object.shape (own_node object) (closed.objects at object is))

      ends_now : (at : ℕ) → ends_of other.objects (with_word key word given).word at ≡ ends_of one.objects given.word at
      ends_now at = ends_still (with_word key word given).word at ∙ ends_words at (one.objects at) refl

      held : (register : ℕ) (found : Option ℕ) → one.registers register ≡ found → option_map given.word found ≡ option_map (with_word key word given).word found
      held register None is = refl
      held register (Some at) is = ap Some (sym (same at (closed.registers register at is)))

      ports_same : (ports : List ℕ) → ((place port : ℕ) → slice_get ports place ≡ Some port → IsSome (one.values port)) → map (with_word key word given).word ports ≡ map given.word ports
      ports_same ports there = map_same (with_word key word given).word given.word ports (λ place port stands. same port (there place port stands))

      by_key : (at : ℕ) (found : Value) → other.values at ≡ Some found → (b : Bool) → nat_eq at key ≡ b → HasWord (length state.memory) given.blocks (ends_of one.objects given.word) found (if b then word else given.word at)
      by_key at found stands true is =
          subst (λ (v : Value). HasWord (length state.memory) given.blocks (ends_of one.objects given.word) v word) (same_Some _ _ (sym more.here ∙ ap other.values (sym (eqb-true _ _ is)) ∙ stands)) has
      by_key at found stands false is = meets.values at found (sym (more.values at (λ same. false≢true (sym is ∙ eq-eqb at key same))) ∙ stands)

  -- back: the same words, whatever the value's word
  pub value_less : (state : State) (given : Assignment) → Meets other state given → Meets one state given
  value_less state given meets = record {
    values = λ at found stands.
        HasWord-ends (length state.memory) given.blocks (ends_of other.objects given.word) (ends_of one.objects given.word) found (given.word at) (λ k. sym (ends_still given.word k))
        (meets.values at found (still at (IsSome-holds _ _ stands) ∙ stands));
    objects = λ at object stands.
        HasBlocks-own state.memory object given.word (λ v. own_offset (other.values v)) (λ v. own_offset (one.values v)) (given.blocks at) (λ v. sym (own_same v)) (meets.objects at object (more.objects at ∙ stands));
    owners = λ at place number some stands. meets.owners at place number (subst (λ (o : Option Object). IsSome o) (sym (more.objects at)) some) stands;
    places = λ at place number some stands. meets.places at place number (subst (λ (o : Option Object). IsSome o) (sym (more.objects at)) some) stands;
    used = λ number block stands live. let owned = meets.used number block stands live in record { object = subst (λ (o : Option Object). IsSome o) (more.objects (given.owner number)) owned.object; block = owned.block };
    variables = λ variable. meets.variables variable ∙ ap (option_map given.blocks) (more.variables variable);
    registers = λ register. meets.registers register ∙ ap (option_map given.word) (more.registers register);
    ports = meets.ports ∙ ap (map given.word) more.ports;
    rooted = λ place port stands. rooted port (nat_eq port key) refl (meets.rooted place port (ap (λ (ports : List ℕ). slice_get ports place) more.ports ∙ stands));
    unequal = λ place pair stands. meets.unequal place pair (ap (λ (pairs : List Pair). slice_get pairs place) more.unequal ∙ stands);
  }
    where
      rooted : (port : ℕ) (b : Bool) → nat_eq port key ≡ b → IsRooted state.roots (other.values port) (given.word port) → IsRooted state.roots (one.values port) (given.word port)
      rooted port true is held = subst (λ (o : Option Value). IsRooted state.roots o (given.word port)) (sym (ap one.values (eqb-true _ _ is) ∙ more.new)) tt
      rooted port false is held = subst (λ (o : Option Value). IsRooted state.roots o (given.word port)) (more.values port (λ same. false≢true (sym is ∙ eq-eqb port key same))) held
