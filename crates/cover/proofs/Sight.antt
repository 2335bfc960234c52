-- What covers may cover, as far as is seen at once.
use Rattle.std.proofs.Common.{◌≡◌, ℕ, suc, Bool, true, false, ◌&&◌, List, [], ◌∷◌, map, length, get_or, nat_eq, Option, Some, refl, sym, ◌∙◌, ap, subst, eq-eqb, arith}
use Rattle.std.specs.Prelude.{option_map, slice_get, ◌↔◌}
use Rattle.std.specs.List.{All}
use Rattle.std.specs.Option.{option_map_or}
use Rattle.std.proofs.lemmas.Bool.{false≢true}
use Rattle.std.proofs.lemmas.List.Elements.{All-head, All-tail}
use Rattle.std.proofs.lemmas.Option.{same_Some}
use Rattle.planes.specs.Lanes.{are_at_most}
use Rattle.graph.specs.declared.edges.HasValue.{HasValue}
use Rattle.graph.specs.declared.object.Object.{Object}
use Rattle.graph.specs.declared.parts.Held.{Held}
use Rattle.graph.specs.declared.parts.Named.{Named}
use Rattle.graph.specs.declared.parts.Parts.{Parts}
use Rattle.graph.specs.declared.value.Value.{Value}
use Rattle.graph.specs.declared.value.Value.TheVariants.{Const, Number, Any, Address}
use Rattle.graph.specs.Maps.{object_at, storage_of, held_by}
use Rattle.graph.specs.Meaning.{Maps, maps_of}
use Rattle.graph.specs.Nodes.{node_of}
use Rattle.graph.specs.Whole.{IsGraph}
use Rattle.graph.specs.WellFormed.{is_storage}
use Rattle.graph.proofs.Found.{found-all}
use Rattle.graph.proofs.Tests.{and_left, and_both}
use Rattle.cover.specs.declared.content.Content.{Content}
use Rattle.cover.specs.Covers.{content, held_in, Pairing, Fits, HasPartner, IsLiveAs, IsCover, Covers}
use Rattle.cover.specs.Quick.{is_fixed, is_pointer, may_fit, are_met, may_be_paired, agree, variables_agree, registers_agree, may_cover}
use Rattle.cover.proofs.Keyed.{found-place, same-numbers}

-- a test is what it is asked to find
pub same_truth : (one other : Bool) → (one ≡ true) ↔ (other ≡ true) → one ≡ other
same_truth true other (there, back) = sym (there refl)
same_truth false true (there, back) = absurd (false≢true (back refl))
same_truth false false (there, back) = refl

-- entries of the same numbers that pass in pairs agree
agree-all : {Entry : Type 0} (number : Entry → ℕ) (test : Entry → Entry → Bool) (ones others : List Entry) → map number ones ≡ map number others →
    ((place : ℕ) (one other : Entry) → slice_get ones place ≡ Some one → slice_get others place ≡ Some other → number one ≡ number other → test one other ≡ true) → agree number test ones others ≡ true
agree-all number test [] [] same each = refl
agree-all number test [] (other ∷ others) same each = absurd (let long : 0 ≡ suc (length (map number others)) = ap length same in omega arith)
agree-all number test (one ∷ ones) [] same each = absurd (let long : suc (length (map number ones)) ≡ 0 = ap length same in omega arith)
agree-all number test (one ∷ ones) (other ∷ others) same each =
    let here : number one ≡ number other = ap (λ (ns : List ℕ). get_or ns 0 0) same in
    and_both (nat_eq (number one) (number other)) (test one other && agree number test ones others) (eq-eqb _ _ here)
    (and_both (test one other) (agree number test ones others) (each 0 one other refl refl here)
    (agree-all number test ones others (ap rest same) (λ place. each (suc place))))
  where
    rest : List ℕ → List ℕ
    rest [] = []
    rest (n ∷ ns) = ns

module _ (wide narrow : Parts) (wide_is : IsGraph wide) (narrow_is : IsGraph narrow) (p : Pairing) (cover : IsCover (maps_of wide) (maps_of narrow) p) where
  abbrev one : Maps
  one = maps_of wide

  abbrev two : Maps
  two = maps_of narrow

  fits : (value : Value) (held : Content) → Fits two p value held → may_fit (Some value) (Some held) ≡ true
  fits (Const number size) held is = subst (λ (c : Content). is_fixed number size (Some c) ≡ true) (sym is) (and_both (nat_eq number number) (nat_eq size size) (eq-eqb number number refl) (eq-eqb size size refl))
  fits (Number size) held is = refl
  fits Any held is = refl
  fits (Address object offset target) held is = subst (λ (c : Content). is_pointer (Some c) ≡ true) (sym is.is) refl

  value-fits : (key : ℕ) (held : Content) → p.value key ≡ Some held → may_fit (one.values key) (Some held) ≡ true
  value-fits key held paired =
      let at = cover.values key held paired in
      subst (λ (v : Option Value). may_fit v (Some held) ≡ true) (sym at.stands) (fits at.value held at.fits)

  met : (other : Object) (edges : List HasValue) → All (HasPartner two p (node_of other)) edges → are_met one two other edges ≡ true
  met other [] all = refl
  met other (edge ∷ edges) all =
      let partner = All-head (HasPartner two p (node_of other)) edge edges all in
      and_both (may_fit (one.values edge.value) (held_in two (node_of other) edge.at edge.size)) (are_met one two other edges)
      (subst (λ (held : Option Content). may_fit (one.values edge.value) held ≡ true) (sym partner.held) (value-fits edge.value partner.with partner.paired))
      (met other edges (All-tail (HasPartner two p (node_of other)) edge edges all))

  live-paired : (first second : Object) → IsLiveAs two p first second → may_be_paired one two (Some first) (Some second) ≡ true
  live-paired first second alike = and_both (are_at_most (node_of second).plane (node_of first).plane) (are_met one two second (node_of first).edges) alike.classes (met second (node_of first).edges alike.edges)

  -- the object of a variable lives
  lives : (variable key : ℕ) (object : Object) → storage_of wide.variables variable ≡ Some key → object_at wide.objects key ≡ Some object → object.live ≡ true
  lives variable key object named stands =
      and_left object.live _ (sym (ap (λ (o : Option Object). option_map_or is_storage o false) stands)
      ∙ found-all (λ (named : Named). named.variable) (λ named. named.object) (λ key. option_map_or is_storage (object_at wide.objects key) false) wide.variables variable key wide_is.well_formed.variables_have_storage named)

  storage-paired : (variable key with : ℕ) → storage_of wide.variables variable ≡ Some key → storage_of narrow.variables variable ≡ Some with →
      may_be_paired one two (one.objects key) (two.objects with) ≡ true
  storage-paired variable key with named other_named =
      let paired : p.object key ≡ Some with = same_Some _ _ (sym (ap (option_map p.object) named) ∙ cover.variables variable ∙ ap (option_map Some) other_named) in
      let pair = cover.objects key with paired in
      subst (λ (o : Option Object). may_be_paired one two o (two.objects with) ≡ true) (sym pair.one_stands)
      (subst (λ (o : Option Object). may_be_paired one two (Some pair.one) o ≡ true) (sym pair.other_stands)
      (live-paired pair.one pair.other (pair.alike.alike (lives variable key pair.one named pair.one_stands))))

  abbrev variable_of : Named → ℕ
  variable_of named = named.variable

  abbrev register_of : Held → ℕ
  register_of held = held.register

  variables : variables_agree one two wide.variables narrow.variables ≡ true
  variables =
      agree-all variable_of (λ first second. may_be_paired one two (one.objects first.object) (two.objects second.object)) wide.variables narrow.variables
      (same-numbers variable_of (λ named. named.object) variable_of (λ named. named.object) p.object (λ object. object) wide.variables narrow.variables
      wide_is.well_formed.variables_ascend narrow_is.well_formed.variables_ascend cover.variables)
      (λ place first second first_is second_is same.
      storage-paired first.variable first.object second.object
      (found-place variable_of (λ named. named.object) wide.variables wide_is.well_formed.variables_ascend place first first_is)
      (ap (storage_of narrow.variables) same ∙ found-place variable_of (λ named. named.object) narrow.variables narrow_is.well_formed.variables_ascend place second second_is))

  held-paired : (register key with : ℕ) → held_by wide.registers register ≡ Some key → held_by narrow.registers register ≡ Some with → may_fit (one.values key) (Some (content two with)) ≡ true
  held-paired register key with held other_held =
      value-fits key (content two with)
      (same_Some _ _ (sym (ap (option_map p.value) held) ∙ cover.registers register ∙ ap (option_map (λ key. Some (content two key))) other_held))

  registers : registers_agree one two wide.registers narrow.registers ≡ true
  registers =
      agree-all register_of (λ first second. may_fit (one.values first.value) (Some (content two second.value))) wide.registers narrow.registers
      (same-numbers register_of (λ held. held.value) register_of (λ held. held.value) p.value (content two) wide.registers narrow.registers
      wide_is.well_formed.registers_ascend narrow_is.well_formed.registers_ascend cover.registers)
      (λ place first second first_is second_is same.
      held-paired first.register first.value second.value
      (found-place register_of (λ held. held.value) wide.registers wide_is.well_formed.registers_ascend place first first_is)
      (ap (held_by narrow.registers) same ∙ found-place register_of (λ held. held.value) narrow.registers narrow_is.well_formed.registers_ascend place second second_is))

pub covers_agree : (wide narrow : Parts) → IsGraph wide → IsGraph narrow → Covers wide narrow → may_cover wide narrow ≡ true
covers_agree wide narrow wide_is narrow_is covers =
    and_both (registers_agree (maps_of wide) (maps_of narrow) wide.registers narrow.registers) (variables_agree (maps_of wide) (maps_of narrow) wide.variables narrow.variables)
    (registers wide narrow wide_is narrow_is covers.pairing covers.cover) (variables wide narrow wide_is narrow_is covers.pairing covers.cover)

-- the same as the code has it
pub registers_apart : (wide narrow : Parts) (ones others : List Held) (agree : Bool) → ones ≡ wide.registers → others ≡ narrow.registers → agree ≡ registers_agree (maps_of wide) (maps_of narrow) ones others →
    agree ≡ false → false ≡ may_cover wide narrow
registers_apart wide narrow ones others agree same same_others is not =
    let differ : registers_agree (maps_of wide) (maps_of narrow) wide.registers narrow.registers ≡ false =
    subst (λ (xs : List Held). registers_agree (maps_of wide) (maps_of narrow) xs narrow.registers ≡ false) same
    (subst (λ (ys : List Held). registers_agree (maps_of wide) (maps_of narrow) ones ys ≡ false) same_others (sym is ∙ not)) in
    sym (ap (λ (b : Bool). b && variables_agree (maps_of wide) (maps_of narrow) wide.variables narrow.variables) differ)

pub both_agree : (wide narrow : Parts) (ones others : List Held) (firsts seconds : List Named) (agree result : Bool) → ones ≡ wide.registers → others ≡ narrow.registers →
    agree ≡ registers_agree (maps_of wide) (maps_of narrow) ones others → agree ≡ true → firsts ≡ wide.variables → seconds ≡ narrow.variables →
    result ≡ variables_agree (maps_of wide) (maps_of narrow) firsts seconds → result ≡ may_cover wide narrow
both_agree wide narrow ones others firsts seconds agree result same same_others is yes_ same_first same_second result_is =
    let alike : registers_agree (maps_of wide) (maps_of narrow) wide.registers narrow.registers ≡ true =
    subst (λ (xs : List Held). registers_agree (maps_of wide) (maps_of narrow) xs narrow.registers ≡ true) same
    (subst (λ (ys : List Held). registers_agree (maps_of wide) (maps_of narrow) ones ys ≡ true) same_others (sym is ∙ yes_)) in
    let rest : result ≡ variables_agree (maps_of wide) (maps_of narrow) wide.variables narrow.variables =
    subst (λ (xs : List Named). result ≡ variables_agree (maps_of wide) (maps_of narrow) xs narrow.variables) same_first
    (subst (λ (ys : List Named). result ≡ variables_agree (maps_of wide) (maps_of narrow) firsts ys) same_second result_is) in
    rest ∙ sym (ap (λ (b : Bool). b && variables_agree (maps_of wide) (maps_of narrow) wide.variables narrow.variables) alike)

-- in place of covers and the test
pub passes_test : (wide narrow : Parts) (result : Bool) → IsGraph wide → IsGraph narrow → result ≡ may_cover wide narrow → Covers wide narrow → result ≡ true
passes_test wide narrow result wide_is narrow_is is covers = is ∙ covers_agree wide narrow wide_is narrow_is covers
