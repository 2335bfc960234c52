-- What a slab holds at a list of its keys.
use Rattle.std.proofs.Common.{◌≡◌, ◌≢◌, ℕ, zero, suc, ◌+◌, ◌<◌, ◌≤◌, List, [], ◌∷◌, ◌++◌, length, drop, get_or, refl, ap, subst, sym, ◌∙◌, arith, Option, Some, None}
use Rattle.std.specs.Prelude.{IsSome, slice_get}
use Rattle.std.specs.List.{All}
use Rattle.std.proofs.lemmas.List.Elements.{All-head, All-tail, All-cons, All-nil, All-append, filter_map-append}
use Rattle.std.proofs.lemmas.List.{drop_more, get_or-drop, get_or_default, length-drop}
use Rattle.std.proofs.lemmas.List.Quantifiers.{all_pairs_push}
use Rattle.std.proofs.lemmas.Option.{slice_get_past}
use Rattle.slab.specs.Slab.{Slab, get, Updates}
use Rattle.graph.specs.Slots.{slot_at, held_at, AreHeld, AreApart}
use Rattle.graph.proofs.Found.{Holds, Holds-some, IsSome-holds}

module _ {T : Type 0} where
  -- what is held at the first key, and at the others
  held_first : (slots : List (Option T)) (key : ℕ) (keys : List ℕ) (item : T) → slot_at slots key ≡ Some item → held_at slots (key ∷ keys) ≡ item ∷ held_at slots keys
  held_first slots key keys item is = rw is refl

  pub length_held : (slots : List (Option T)) (keys : List ℕ) → AreHeld slots keys → length (held_at slots keys) ≡ length keys
  length_held slots [] all = refl
  length_held slots (key ∷ keys) all =
      let first : Holds (slot_at slots key) = Holds-some (slot_at slots key) (All-head (λ k. IsSome (slot_at slots k)) key keys all) in
      ap length (held_first slots key keys first.item first.is)
      ∙ ap suc (length_held slots keys (All-tail (λ k. IsSome (slot_at slots k)) key keys all))

  -- the item at a place
  pub held_get : (slots : List (Option T)) (keys : List ℕ) (place : ℕ) → AreHeld slots keys → place < length keys → slice_get (held_at slots keys) place ≡ slot_at slots (get_or keys place 0)
  held_get slots [] place all inside = absurd (omega arith)
  held_get slots (key ∷ keys) zero all inside =
      let first : Holds (slot_at slots key) = Holds-some (slot_at slots key) (All-head (λ k. IsSome (slot_at slots k)) key keys all) in
      ap (λ (t : List T). slice_get t zero) (held_first slots key keys first.item first.is) ∙ sym first.is
  held_get slots (key ∷ keys) (suc place) all inside =
      let first : Holds (slot_at slots key) = Holds-some (slot_at slots key) (All-head (λ k. IsSome (slot_at slots k)) key keys all) in
      ap (λ (t : List T). slice_get t (suc place)) (held_first slots key keys first.item first.is)
      ∙ held_get slots keys place (All-tail (λ k. IsSome (slot_at slots k)) key keys all) (omega arith)

  pub held_past : (slots : List (Option T)) (keys : List ℕ) (place : ℕ) → AreHeld slots keys → length keys ≤ place → slice_get (held_at slots keys) place ≡ None
  held_past slots keys place all past =
      let many : length (held_at slots keys) ≤ place = omega (arith, length_held slots keys all) in
      slice_get_past (held_at slots keys) place many

  -- a key at which nothing stood is none of these keys
  apart : (slots : List (Option T)) (vacant key : ℕ) → slot_at slots vacant ≡ None → IsSome (slot_at slots key) → key ≢ vacant
  apart slots vacant key none some same =
      let holds : Holds (slot_at slots key) = Holds-some (slot_at slots key) some in
      let clash : Some holds.item ≡ None = sym holds.is ∙ ap (slot_at slots) same ∙ none in
      absurd (cc)

  -- what is held at other keys stays
  held_others : (slots after : List (Option T)) (vacant : ℕ) (keys : List ℕ) → ((other : ℕ) → other ≢ vacant → slot_at after other ≡ slot_at slots other) → slot_at slots vacant ≡ None → AreHeld slots keys → held_at after keys ≡ held_at slots keys
  held_others slots after vacant [] others none all = refl
  held_others slots after vacant (key ∷ keys) others none all =
      let some : IsSome (slot_at slots key) = All-head (λ k. IsSome (slot_at slots k)) key keys all in
      let first : Holds (slot_at slots key) = Holds-some (slot_at slots key) some in
      let same : slot_at after key ≡ Some first.item = others key (apart slots vacant key none some) ∙ first.is in
      held_first after key keys first.item same
      ∙ ap (λ (t : List T). first.item ∷ t) (held_others slots after vacant keys others none (All-tail (λ k. IsSome (slot_at slots k)) key keys all))
      ∙ sym (held_first slots key keys first.item first.is)

  -- one more item
  pub held_put : (before after : Slab T) (keys : List ℕ) (key : ℕ) (item : T) → Updates before after key (Some item) → get before key ≡ None → AreHeld before.slots keys → held_at after.slots (keys ++ key ∷ []) ≡ held_at before.slots keys ++ item ∷ []
  held_put before after keys key item update none all =
      filter_map-append (slot_at after.slots) keys (key ∷ [])
      ∙ ap (λ (t : List T). t ++ held_at after.slots (key ∷ [])) (held_others before.slots after.slots key keys update.others none all)
      ∙ ap (λ (t : List T). held_at before.slots keys ++ t) (held_first after.slots key [] item update.changed)

  pub are_held_put : (before after : Slab T) (keys : List ℕ) (key : ℕ) (item : T) → Updates before after key (Some item) → get before key ≡ None → AreHeld before.slots keys → AreHeld after.slots (keys ++ key ∷ [])
  are_held_put before after keys key item update none all =
      All-append (λ k. IsSome (slot_at after.slots k)) keys (key ∷ [])
      (are_held_others keys all)
      (All-cons (λ k. IsSome (slot_at after.slots k)) key [] (IsSome-holds (slot_at after.slots key) item update.changed) (All-nil (λ k. IsSome (slot_at after.slots k))))
    where
      are_held_others : (others : List ℕ) → AreHeld before.slots others → AreHeld after.slots others
      are_held_others [] held = All-nil (λ k. IsSome (slot_at after.slots k))
      are_held_others (other ∷ others) held =
          let some : IsSome (slot_at before.slots other) = All-head (λ k. IsSome (slot_at before.slots k)) other others held in
          let holds : Holds (slot_at before.slots other) = Holds-some (slot_at before.slots other) some in
          All-cons (λ k. IsSome (slot_at after.slots k)) other others
          (IsSome-holds (slot_at after.slots other) holds.item (update.others other (apart before.slots key other none some) ∙ holds.is))
          (are_held_others others (All-tail (λ k. IsSome (slot_at before.slots k)) other others held))

  -- the new key is none of the others
  pub are_apart_put : (before after : Slab T) (keys : List ℕ) (key : ℕ) (item : T) → Updates before after key (Some item) → get before key ≡ None → AreHeld before.slots keys → AreApart keys → AreApart (keys ++ key ∷ [])
  are_apart_put before after keys key item update none all distinct =
      all_pairs_push (λ one other. one ≢ other) keys key distinct (λ k d below. apart before.slots key (get_or keys k d) none (all k d below))

  -- what is held at keys at which nothing changes stays
  held_same : (slots after : List (Option T)) (keys : List ℕ) → All (λ key. slot_at after key ≡ slot_at slots key) keys → AreHeld slots keys → held_at after keys ≡ held_at slots keys
  held_same slots after [] same all = refl
  held_same slots after (key ∷ keys) same all =
      let first : Holds (slot_at slots key) = Holds-some (slot_at slots key) (All-head (λ k. IsSome (slot_at slots k)) key keys all) in
      let here : slot_at after key ≡ Some first.item = All-head (λ k. slot_at after k ≡ slot_at slots k) key keys same ∙ first.is in
      held_first after key keys first.item here
      ∙ ap (λ (t : List T). first.item ∷ t)
      (held_same slots after keys (All-tail (λ k. slot_at after k ≡ slot_at slots k) key keys same) (All-tail (λ k. IsSome (slot_at slots k)) key keys all))
      ∙ sym (held_first slots key keys first.item first.is)

  are_held_same : (slots after : List (Option T)) (keys : List ℕ) → All (λ key. slot_at after key ≡ slot_at slots key) keys → AreHeld slots keys → AreHeld after keys
  are_held_same slots after keys same all = λ k d below. subst (λ (o : Option T). IsSome o) (sym (same k d below)) (all k d below)

  -- the keys behind a place are others than the one there
  others_same : (before after : Slab T) (keys : List ℕ) (place key : ℕ) → place < length keys → key ≡ get_or keys place 0 → AreApart keys → Updates before after key None →
      All (λ other. slot_at after.slots other ≡ slot_at before.slots other) (drop (place + 1) keys)
  others_same before after keys place key inside is distinct update = λ k d below.
      let more : place + 1 + k < length keys = let long = length-drop (place + 1) keys in omega (arith, long, below, inside) in
      let at : get_or (drop (place + 1) keys) k d ≡ get_or keys (place + 1 + k) d = get_or-drop (place + 1) keys k d in
      let here : key ≡ get_or keys place d = is ∙ get_or_default keys place 0 d inside in
      let differ : get_or keys place d ≢ get_or keys (place + 1 + k) d = distinct place (place + 1 + k) d (omega arith) more in
      update.others (get_or (drop (place + 1) keys) k d) (λ same. differ (sym here ∙ sym same ∙ at))

  -- one item is taken
  pub taken_first : (before after : Slab T) (keys : List ℕ) (place key : ℕ) (item : T) → place < length keys → key ≡ get_or keys place 0 → AreApart keys → Updates before after key None → get before key ≡ Some item →
      AreHeld before.slots (drop place keys) → held_at before.slots (drop place keys) ≡ item ∷ held_at after.slots (drop (place + 1) keys)
  taken_first before after keys place key item inside is distinct update there all =
      let rest : List ℕ = drop (place + 1) keys in
      let split : drop place keys ≡ key ∷ rest = drop_more keys place 0 inside ∙ ap (λ (k : ℕ). k ∷ rest) (sym is) in
      let held : AreHeld before.slots (key ∷ rest) = subst (λ (ks : List ℕ). AreHeld before.slots ks) split all in
      ap (held_at before.slots) split ∙ held_first before.slots key rest item there
      ∙ ap (λ (t : List T). item ∷ t)
      (sym (held_same before.slots after.slots rest (others_same before after keys place key inside is distinct update) (All-tail (λ k. IsSome (slot_at before.slots k)) key rest held)))

  pub taken_rest : (before after : Slab T) (keys : List ℕ) (place key : ℕ) → place < length keys → key ≡ get_or keys place 0 → AreApart keys → Updates before after key None →
      AreHeld before.slots (drop place keys) → AreHeld after.slots (drop (place + 1) keys)
  taken_rest before after keys place key inside is distinct update all =
      let rest : List ℕ = drop (place + 1) keys in
      let split : drop place keys ≡ key ∷ rest = drop_more keys place 0 inside ∙ ap (λ (k : ℕ). k ∷ rest) (sym is) in
      let held : AreHeld before.slots (key ∷ rest) = subst (λ (ks : List ℕ). AreHeld before.slots ks) split all in
      are_held_same before.slots after.slots rest (others_same before after keys place key inside is distinct update) (All-tail (λ k. IsSome (slot_at before.slots k)) key rest held)

  -- something is held at the first of these keys
  pub some_here : (slots : List (Option T)) (keys : List ℕ) (place key : ℕ) → place < length keys → key ≡ get_or keys place 0 → AreHeld slots (drop place keys) → slot_at slots key ≡ None → ⊥
  some_here slots keys place key inside is all none =
      let split : drop place keys ≡ key ∷ drop (place + 1) keys = drop_more keys place 0 inside ∙ ap (λ (k : ℕ). k ∷ drop (place + 1) keys) (sym is) in
      let held : AreHeld slots (key ∷ drop (place + 1) keys) = subst (λ (ks : List ℕ). AreHeld slots ks) split all in
      let holds : Holds (slot_at slots key) = Holds-some (slot_at slots key) (All-head (λ k. IsSome (slot_at slots k)) key (drop (place + 1) keys) held) in
      let clash : Some holds.item ≡ None = sym holds.is ∙ none in
      absurd (cc)
