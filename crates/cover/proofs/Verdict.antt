-- From a finished pairing and its checks to the answer.
use Rattle.std.proofs.Common.{◌≡◌, ℕ, zero, suc, ◌<◌, ◌≤◌, Bool, true, false, List, [], ◌∷◌, map, length, Option, None, Some, refl, sym, ◌∙◌, ap, subst, arith, slice_index_or, replicate}
use Rattle.std.specs.Prelude.{option_map, ◌↔◌, Contains}
use Rattle.std.specs.List.{All}
use Rattle.std.proofs.lemmas.Bool.{false≢true}
use Rattle.std.proofs.lemmas.List.{length-replicate}
use Rattle.std.proofs.lemmas.Option.{same_Some, none-some}
use Rattle.graph.specs.declared.object.Object.{Object}
use Rattle.graph.specs.declared.parts.Parts.{Parts}
use Rattle.graph.specs.Meaning.{Maps, maps_of}
use Rattle.graph.specs.Nodes.{node_of}
use Rattle.graph.specs.Whole.{IsGraph}
use Rattle.cover.specs.declared.content.Content.{Content}
use Rattle.cover.specs.declared.content.Content.TheVariants.{Kept}
use Rattle.cover.specs.declared.found.Found.{Found}
use Rattle.cover.specs.Covers.{content, Pairing, HasPartner, ArePaired, AreLivePaired, IsApart, known, IsCover, IsLeast, Covers, Link, IsReached, Objects, Values, IsIn, AreVariablesPaired, AreRegistersPaired, ArePortsPaired}
use Rattle.cover.specs.Found.{pairing_of, IsSound, Grows, IsNone, IsLinked, Settles, FollowsAll}
use Rattle.cover.specs.Checked.{IsUncovered, IsFinished, Finishes, Settled, AreFitting, AreAlike, AreApartKept, ArePairsApart}
use Rattle.cover.proofs.Alone.{all_alone}
use Rattle.cover.proofs.Living.{object-past, value-past}
use Rattle.cover.proofs.Settling.{in-cover, from-cover}

-- What is paired stays so.

variables-later : (wide narrow : Maps) (before after : Found) → Grows before after → AreVariablesPaired wide narrow (pairing_of before) → AreVariablesPaired wide narrow (pairing_of after)
variables-later wide narrow before after grows are variable = by_both (wide.variables variable) (narrow.variables variable) (are variable)
  where
    by_both : (one other : Option ℕ) → option_map (pairing_of before).object one ≡ option_map Some other → option_map (pairing_of after).object one ≡ option_map Some other
    by_both None other same = same
    by_both (Some one) None same = absurd (none-some _ (sym same))
    by_both (Some one) (Some other) same = ap Some (grows.stays (Objects one other) (same_Some _ _ same))

registers-later : (wide narrow : Maps) (before after : Found) → Grows before after → AreRegistersPaired wide narrow (pairing_of before) → AreRegistersPaired wide narrow (pairing_of after)
registers-later wide narrow before after grows are register = by_both (wide.registers register) (narrow.registers register) (are register)
  where
    by_both : (one other : Option ℕ) → option_map (pairing_of before).value one ≡ option_map (λ key. Some (content narrow key)) other →
        option_map (pairing_of after).value one ≡ option_map (λ key. Some (content narrow key)) other
    by_both None other same = same
    by_both (Some one) None same = absurd (none-some _ (sym same))
    by_both (Some one) (Some other) same = ap Some (grows.stays (Values one (content narrow other)) (same_Some _ _ same))

ports-later : (narrow : Maps) (before after : Found) → Grows before after → (ones others : List ℕ) → map (pairing_of before).value ones ≡ map (λ key. Some (content narrow key)) others →
    map (pairing_of after).value ones ≡ map (λ key. Some (content narrow key)) others
ports-later narrow before after grows [] others same = same
ports-later narrow before after grows (one ∷ ones) [] same = absurd (let long : suc (length (map (pairing_of before).value ones)) ≡ 0 = ap length same in omega arith)
ports-later narrow before after grows (one ∷ ones) (other ∷ others) same =
    ap (λ (c : Option Content). c ∷ map (pairing_of after).value ones) (grows.stays (Values one (content narrow other)) (ap first same))
    ∙ ap (λ (cs : List (Option Content)). Some (content narrow other) ∷ cs) (ports-later narrow before after grows ones others (ap rest same))
  where
    first : List (Option Content) → Option Content
    first [] = None
    first (c ∷ cs) = c

    rest : List (Option Content) → List (Option Content)
    rest [] = []
    rest (c ∷ cs) = cs

-- All that is forced is paired.

none-finishes : (wide narrow : Maps) (found : Found) → IsNone wide narrow → Finishes wide narrow found false
none-finishes wide narrow found none = record { finished = λ e. absurd (false≢true e); clash = λ e. record { none = λ p cover least. none.none p cover } }

pub unsettled-finishes : (wide narrow : Maps) (clause : Pairing → Type 0) (before after : Found) (fine : Bool) → Settles wide narrow clause before after fine → fine ≡ false → Finishes wide narrow after false
unsettled-finishes wide narrow clause before after fine settles not_fine = none-finishes wide narrow after (settles.clash not_fine)

pub all-finishes : (wide narrow : Maps) (start one two three four : Found) (a b c d : Bool) →
    Settles wide narrow (AreVariablesPaired wide narrow) start one a → a ≡ true → Settles wide narrow (AreRegistersPaired wide narrow) one two b → b ≡ true →
    Settles wide narrow (ArePortsPaired wide narrow) two three c → c ≡ true → FollowsAll wide narrow three four d → Finishes wide narrow four d
all-finishes wide narrow start one two three four a b c d variables a_is registers b_is ports c_is links = record {
  finished = λ d_is. record {
    sound = links.sound;
    variables = variables-later wide narrow three four links.grows (variables-later wide narrow two three ports.grows (variables-later wide narrow one two registers.grows (variables.holds a_is)));
    registers = registers-later wide narrow three four links.grows (registers-later wide narrow two three ports.grows (registers.holds b_is));
    ports = ports-later narrow three four links.grows wide.ports narrow.ports (ports.holds c_is);
    linked = links.linked d_is;
  };
  clash = λ d_is. record { none = λ p cover least. (links.clash d_is).none p cover };
}

-- The answer.

module _ (wide narrow : Parts) (found : Found) where
  abbrev one : Maps
  one = maps_of wide

  abbrev two : Maps
  two = maps_of narrow

  pub uncovered-no : IsUncovered one two → (false ≡ true) ↔ Covers wide narrow
  uncovered-no uncovered = (λ e. absurd (false≢true e), λ covers. absurd (uncovered.none covers.pairing covers.cover covers.least))

  pub unfinished-no : (fine : Bool) → Finishes one two found fine → fine ≡ false → (false ≡ true) ↔ Covers wide narrow
  unfinished-no fine finishes not_fine = uncovered-no (finishes.clash not_fine)

  pub finished-yes : (fine : Bool) → Finishes one two found fine → fine ≡ true → IsFinished one two found
  finished-yes fine finishes is = finishes.finished is

  pub unsettled-no : (clause : Type 0) (fine : Bool) → Settled one two clause fine → fine ≡ false → (false ≡ true) ↔ Covers wide narrow
  unsettled-no clause fine settled not_fine = uncovered-no (settled.clash not_fine)

  module _ (finished : IsFinished one two found) where
    pub live-no : (fine : Bool) → ((fine ≡ true) ↔ AreLivePaired one.objects (pairing_of found).object) → fine ≡ false → (false ≡ true) ↔ Covers wide narrow
    live-no fine (forth, back) not_fine = uncovered-no (record {
      none = λ p cover least. false≢true (sym not_fine ∙ back (λ key object is live.
          let with = cover.live key object is live in
          (with.0, from-cover one two found finished p least (Objects key with.0) with.1)));
    })

    pub other-live-no : (fine : Bool) → ((fine ≡ true) ↔ AreLivePaired two.objects (pairing_of found).back) → fine ≡ false → (false ≡ true) ↔ Covers wide narrow
    other-live-no fine (forth, back) not_fine = uncovered-no (record {
      none = λ p cover least. false≢true (sym not_fine ∙ back (λ key object is live.
          let with = cover.other_live key object is live in
          let paired = from-cover one two found finished p least (Objects with.0 key) (cover.back with.0 key with.1) in
          (with.0, finished.sound.both.there with.0 key paired)));
    })

    pub kept-no : (fine : Bool) → ((fine ≡ true) ↔ AreApartKept found) → fine ≡ false → (false ≡ true) ↔ Covers wide narrow
    kept-no fine (forth, back) not_fine = uncovered-no (record {
      none = λ p cover least. false≢true (sym not_fine ∙ back (λ a b key a_is b_is.
          least.apart a b key (in-cover one two found finished p cover (Values a (Kept key)) a_is) (in-cover one two found finished p cover (Values b (Kept key)) b_is)));
    })

    -- with a least pairing the same is known of a value
    same-known : (p : Pairing) → IsCover one two p → IsLeast one two p → (key : ℕ) → p.value key ≡ (pairing_of found).value key
    same-known p cover least key = by_here (slice_index_or found.values.items key None) refl
      where
        by_here : (here : Option Content) → slice_index_or found.values.items key None ≡ here → p.value key ≡ slice_index_or found.values.items key None
        by_here (Some c) is = in-cover one two found finished p cover (Values key c) is ∙ sym is
        by_here None is = by_there (p.value key) refl
          where
            by_there : (there : Option Content) → p.value key ≡ there → p.value key ≡ slice_index_or found.values.items key None
            by_there None there = there ∙ sym is
            by_there (Some c) there = absurd (none-some c (sym is ∙ from-cover one two found finished p least (Values key c) there))

    pub covers-when : AreFitting one two found → AreAlike one two found → AreLivePaired one.objects (pairing_of found).object → AreLivePaired two.objects (pairing_of found).back → AreApartKept found →
        (fine : Bool) → ((fine ≡ true) ↔ ArePairsApart one two (pairing_of found)) → (fine ≡ true) ↔ Covers wide narrow
    covers-when fitting alike live other_live kept fine (forth, back) = (λ is. covers (forth is), λ covers. back (pairs covers))
      where
        pairs : Covers wide narrow → ArePairsApart one two (pairing_of found)
        pairs covers place pair is =
            subst (λ (c : Option Content). IsApart two (known-by pair.left c) (known one (pairing_of found) pair.right)) (same-known covers.pairing covers.cover covers.least pair.left)
            (subst (λ (c : Option Content). IsApart two (known one covers.pairing pair.left) (known-by pair.right c)) (same-known covers.pairing covers.cover covers.least pair.right) (covers.cover.unequal place pair is))
          where
            known-by : ℕ → Option Content → Option Content
            known-by key c = known one (record { object = λ k. None; back = λ k. None; value = λ k. c }) key

        paired : (key with : ℕ) → IsIn (pairing_of found) (Objects key with) → ArePaired one two (pairing_of found) key with
        paired key with is = let at = alike key with is in record {
          one = at.one;
          other = at.other;
          one_stands = at.one_stands;
          other_stands = at.other_stands;
          alike = record {
            live = at.alike.live;
            kind = at.alike.kind;
            links = at.alike.links;
            ends = (finished.linked key with at.one at.other is at.one_stands at.other_stands).ends;
            alike = λ lives. record {
              size = at.alike.size lives;
              classes = at.alike.classes lives;
              edges = edges at.one at.other ((finished.linked key with at.one at.other is at.one_stands at.other_stands).edges lives);
              addresses = at.alike.addresses lives;
            };
          };
        }
          where
            edges : (x y : Object) → All (IsLinked two found (node_of y)) (node_of x).edges → All (HasPartner two (pairing_of found) (node_of y)) (node_of x).edges
            edges x y linked k d within = let link = linked k d within in record { with = link.holds; held = link.held; paired = link.stands }

        covers : ArePairsApart one two (pairing_of found) → Covers wide narrow
        covers apart = record {
          pairing = pairing_of found;
          cover = record {
            variables = finished.variables;
            registers = finished.registers;
            ports = finished.ports;
            objects = paired;
            there = λ key with is. finished.sound.both.there key with is;
            back = λ key with is. finished.sound.both.back key with is;
            live = live;
            other_live = other_live;
            values = fitting;
            unequal = apart;
          };
          least = record { reached = finished.sound.reached; apart = kept };
        }

-- The beginning.

none-paired : {X : Type 0} (count key : ℕ) → slice_index_or {A = Option X} (replicate count None) key None ≡ None
none-paired zero key = refl
none-paired (suc count) zero = refl
none-paired (suc count) (suc key) = none-paired count key

pub nothing-sound : (wide narrow : Parts) (found : Found) → IsGraph wide → IsGraph narrow → length wide.objects < 4294967296 → length wide.values < 4294967296 →
    found.objects.items ≡ replicate (length wide.objects) None → found.back.items ≡ replicate (length narrow.objects) None → found.values.items ≡ replicate (length wide.values) None → found.queue.items ≡ [] →
    IsSound (maps_of wide) (maps_of narrow) found
nothing-sound wide narrow found wide_is narrow_is few few_values objects back values queue = record {
  places = record {
    objects = λ key past. object-past wide wide_is key (subst (λ (n : ℕ). n ≤ key) objects_long past);
    back = λ key past. object-past narrow narrow_is key (subst (λ (n : ℕ). n ≤ key) (ap length back ∙ length-replicate (length narrow.objects) None) past);
    values = λ key past. value-past wide wide_is key (subst (λ (n : ℕ). n ≤ key) values_long past);
    queue =
        let none : length found.queue.items ≡ 0 = ap length queue in
        let all = all_alone (length found.objects.items) found.objects.items refl (λ key below. no_object key) in
        omega arith;
    few_objects = subst (λ (n : ℕ). n < 4294967296) (sym objects_long) few;
    few_values = subst (λ (n : ℕ). n < 4294967296) (sym values_long) few_values;
  };
  both = record {
    there = λ key with is. absurd (none-some with (sym (no_object key) ∙ is));
    back = λ key with is. absurd (none-some key (sym (no_back with) ∙ is));
  };
  reached = reached;
  addresses = λ key x y o o' t t' is stands. absurd (none-some _ (sym (no_value key) ∙ is));
  queued = λ key with is. absurd (none-some with (sym (no_object key) ∙ is));
  paired = λ key among. absurd (empty found.queue.items queue key among);
}
  where
    objects_long : length found.objects.items ≡ length wide.objects
    objects_long = ap length objects ∙ length-replicate (length wide.objects) None

    values_long : length found.values.items ≡ length wide.values
    values_long = ap length values ∙ length-replicate (length wide.values) None

    no_object : (key : ℕ) → slice_index_or found.objects.items key None ≡ None
    no_object key = ap (λ (xs : List (Option ℕ)). slice_index_or xs key None) objects ∙ none-paired (length wide.objects) key

    no_back : (key : ℕ) → slice_index_or found.back.items key None ≡ None
    no_back key = ap (λ (xs : List (Option ℕ)). slice_index_or xs key None) back ∙ none-paired (length narrow.objects) key

    no_value : (key : ℕ) → slice_index_or found.values.items key None ≡ None
    no_value key = ap (λ (xs : List (Option Content)). slice_index_or xs key None) values ∙ none-paired (length wide.values) key

    empty : (ks : List ℕ) → ks ≡ [] → (key : ℕ) → Contains ks key → ⊥
    empty ks none key (place, within, is) = let long : length ks ≡ 0 = ap length none in omega arith

    reached : (link : Link) → IsIn (pairing_of found) link → IsReached (maps_of wide) (maps_of narrow) link
    reached (Objects key with) is = absurd (none-some with (sym (no_object key) ∙ is))
    reached (Values key c) is = absurd (none-some c (sym (no_value key) ∙ is))
