-- A check of a finished pairing that fails shows that nothing covers.
use Rattle.std.proofs.Common.{◌≡◌, ℕ, zero, suc, ◌+◌, ◌<◌, ◌≤◌, Bool, true, false, List, [], ◌∷◌, length, nat_eq, Option, None, Some, refl, sym, ◌∙◌, ap, subst, eqb-true, arith, slice_index_or}
use Rattle.std.specs.Prelude.{option_map, slice_get, ◌↔◌}
use Rattle.std.proofs.lemmas.Bool.{false≢true}
use Rattle.std.proofs.lemmas.Option.{same_Some, none-some, slice_get-map}
use Rattle.graph.specs.declared.object.Object.{Object}
use Rattle.graph.specs.declared.value.Value.{Value}
use Rattle.graph.specs.declared.value.Value.TheVariants.{Const, Number, Any, Address}
use Rattle.graph.specs.Meaning.{Maps}
use Rattle.cover.specs.declared.content.Content.{Content}
use Rattle.cover.specs.declared.found.Found.{Found}
use Rattle.cover.specs.Covers.{content, Pairing, Fits, FitsAt, Link, Objects, Values, IsReached, IsIn, IsCover, IsLeast, IsAs}
use Rattle.cover.specs.Found.{pairing_of, IsClosed}
use Rattle.cover.specs.Checked.{IsFinished, Settled, AreFitting, AreSomeFitting, LooksAlike, LookAlikeAt, AreAlike, AreSomeAlike}
use Rattle.cover.proofs.Closed.{reached-found}
use Rattle.cover.proofs.Forced.{other-at}
use Rattle.cover.proofs.Least.{reached-in, fits-at-reached, paired-at-reached}

-- where something is paired there is a place for it
pub paired-below : {X : Type 0} (items : List (Option X)) (key : ℕ) (x : X) → slice_index_or items key None ≡ Some x → key < length items
paired-below [] key x is = absurd (none-some x is)
paired-below (first ∷ rest) zero x is = omega arith
paired-below (first ∷ rest) (suc key) x is = let e = paired-below rest key x is in omega arith

module _ (wide narrow : Maps) (found : Found) (finished : IsFinished wide narrow found) where
  -- all that is forced is paired
  closed : IsClosed wide narrow found
  closed = record {
    variables = λ variable one other one_is other_is. same_Some _ _ (sym (ap (option_map (pairing_of found).object) one_is) ∙ finished.variables variable ∙ ap (option_map Some) other_is);
    registers = λ register one other one_is other_is.
        same_Some _ _ (sym (ap (option_map (pairing_of found).value) one_is) ∙ finished.registers register ∙ ap (option_map (λ key. Some (content narrow key))) other_is);
    ports = λ place one other one_is other_is.
        same_Some _ _ (sym (ap (option_map (pairing_of found).value) one_is) ∙ sym (slice_get-map (pairing_of found).value wide.ports place)
        ∙ ap (λ (list : List (Option Content)). slice_get list place) finished.ports ∙ slice_get-map (λ key. Some (content narrow key)) narrow.ports place
        ∙ ap (option_map (λ key. Some (content narrow key))) other_is);
    objects = finished.linked;
  }

  pub is-found : (link : Link) → IsReached wide narrow link → IsIn (pairing_of found) link
  is-found link reached = reached-found wide narrow found finished.sound closed link reached

  -- what is paired here is paired wherever something covers, and there nothing else is
  pub in-cover : (p : Pairing) → IsCover wide narrow p → (link : Link) → IsIn (pairing_of found) link → IsIn p link
  in-cover p cover link is = reached-in wide narrow p cover link (finished.sound.reached link is)

  pub from-cover : (p : Pairing) → IsLeast wide narrow p → (link : Link) → IsIn p link → IsIn (pairing_of found) link
  from-cover p least link is = is-found link (least.reached link is)

  -- Values.

  fits-here : (p : Pairing) → IsCover wide narrow p → (key : ℕ) (content : Content) → IsIn (pairing_of found) (Values key content) → FitsAt wide narrow (pairing_of found) key content
  fits-here p cover key content is =
      let at = fits-at-reached wide narrow p cover key content (finished.sound.reached (Values key content) is) in
      record { value = at.value; stands = at.stands; fits = by_value at.value at.stands at.fits }
    where
      by_value : (value : Value) → wide.values key ≡ Some value → Fits narrow p value content → Fits narrow (pairing_of found) value content
      by_value (Const number size) stands fits = fits
      by_value (Number size) stands fits = fits
      by_value Any stands fits = fits
      by_value (Address object offset target) stands fits = record {
        other = fits.other;
        paired = finished.sound.addresses key object fits.other offset offset target target (subst (λ (c : Content). IsIn (pairing_of found) (Values key c)) fits.is is) stands;
        is = fits.is;
      }

  pub fits-clash : (key : ℕ) (content : Content) (fine : Bool) → slice_index_or found.values.items key None ≡ Some content → ((fine ≡ true) ↔ FitsAt wide narrow (pairing_of found) key content) → fine ≡ false →
      Settled wide narrow (AreFitting wide narrow found) false
  fits-clash key content fine is (forth, back) not_fine = record {
    holds = λ e. absurd (false≢true e);
    clash = λ e. record { none = λ p cover least. false≢true (sym not_fine ∙ back (fits-here p cover key content is)) };
  }

  pub fits-start : AreSomeFitting wide narrow found 0
  fits-start key content below is = absurd (omega arith)

  pub fits-next : (at : ℕ) (content : Content) (fine : Bool) → AreSomeFitting wide narrow found at → slice_index_or found.values.items at None ≡ Some content →
      ((fine ≡ true) ↔ FitsAt wide narrow (pairing_of found) at content) → fine ≡ true → AreSomeFitting wide narrow found (at + 1)
  fits-next at content fine some is (forth, back) is_fine key other below among = by_test (nat_eq key at) refl
    where
      by_test : (b : Bool) → nat_eq key at ≡ b → FitsAt wide narrow (pairing_of found) key other
      by_test true hit =
          let here = eqb-true key at hit in
          let same : content ≡ other = same_Some _ _ (sym is ∙ ap (λ (k : ℕ). slice_index_or found.values.items k None) (sym here) ∙ among) in
          subst (λ (k : ℕ). FitsAt wide narrow (pairing_of found) k other) (sym here) (subst (λ (c : Content). FitsAt wide narrow (pairing_of found) at c) same (forth is_fine))
      by_test false miss = some key other (other-at key at miss below) among

  pub fits-next-alone : (at : ℕ) → AreSomeFitting wide narrow found at → slice_index_or found.values.items at None ≡ None → AreSomeFitting wide narrow found (at + 1)
  fits-next-alone at some none key other below among = by_test (nat_eq key at) refl
    where
      by_test : (b : Bool) → nat_eq key at ≡ b → FitsAt wide narrow (pairing_of found) key other
      by_test true hit = absurd (none-some other (sym none ∙ ap (λ (k : ℕ). slice_index_or found.values.items k None) (sym (eqb-true key at hit)) ∙ among))
      by_test false miss = some key other (other-at key at miss below) among

  pub fits-end : (at : ℕ) → AreSomeFitting wide narrow found at → length found.values.items ≤ at → Settled wide narrow (AreFitting wide narrow found) true
  fits-end at some all = record {
    holds = λ e key content is. some key content (let below = paired-below found.values.items key content is in omega arith) is;
    clash = λ e. absurd (false≢true (sym e));
  }

  -- Objects.

  alike-here : (p : Pairing) → IsCover wide narrow p → (key with : ℕ) → IsIn (pairing_of found) (Objects key with) → LookAlikeAt wide narrow key with
  alike-here p cover key with is =
      let pair = paired-at-reached wide narrow p cover key with (finished.sound.reached (Objects key with) is) in
      record { one = pair.one; other = pair.other; one_stands = pair.one_stands; other_stands = pair.other_stands; alike = looks pair.one pair.other pair.alike }
    where
      looks : (one other : Object) → IsAs narrow p one other → LooksAlike narrow one other
      looks one other is = record {
        live = is.live;
        kind = is.kind;
        links = is.links;
        size = λ live. (is.alike live).size;
        classes = λ live. (is.alike live).classes;
        addresses = λ live. (is.alike live).addresses;
      }

  pub alike-clash : (key with : ℕ) (fine : Bool) → slice_index_or found.objects.items key None ≡ Some with → ((fine ≡ true) ↔ LookAlikeAt wide narrow key with) → fine ≡ false →
      Settled wide narrow (AreAlike wide narrow found) false
  alike-clash key with fine is (forth, back) not_fine = record {
    holds = λ e. absurd (false≢true e);
    clash = λ e. record { none = λ p cover least. false≢true (sym not_fine ∙ back (alike-here p cover key with is)) };
  }

  pub alike-start : AreSomeAlike wide narrow found 0
  alike-start key with below is = absurd (omega arith)

  pub alike-next : (at with : ℕ) (fine : Bool) → AreSomeAlike wide narrow found at → slice_index_or found.objects.items at None ≡ Some with → ((fine ≡ true) ↔ LookAlikeAt wide narrow at with) → fine ≡ true →
      AreSomeAlike wide narrow found (at + 1)
  alike-next at with fine some is (forth, back) is_fine key other below among = by_test (nat_eq key at) refl
    where
      by_test : (b : Bool) → nat_eq key at ≡ b → LookAlikeAt wide narrow key other
      by_test true hit =
          let here = eqb-true key at hit in
          let same : with ≡ other = same_Some _ _ (sym is ∙ ap (λ (k : ℕ). slice_index_or found.objects.items k None) (sym here) ∙ among) in
          subst (λ (k : ℕ). LookAlikeAt wide narrow k other) (sym here) (subst (λ (w : ℕ). LookAlikeAt wide narrow at w) same (forth is_fine))
      by_test false miss = some key other (other-at key at miss below) among

  pub alike-next-alone : (at : ℕ) → AreSomeAlike wide narrow found at → slice_index_or found.objects.items at None ≡ None → AreSomeAlike wide narrow found (at + 1)
  alike-next-alone at some none key other below among = by_test (nat_eq key at) refl
    where
      by_test : (b : Bool) → nat_eq key at ≡ b → LookAlikeAt wide narrow key other
      by_test true hit = absurd (none-some other (sym none ∙ ap (λ (k : ℕ). slice_index_or found.objects.items k None) (sym (eqb-true key at hit)) ∙ among))
      by_test false miss = some key other (other-at key at miss below) among

  pub alike-end : (at : ℕ) → AreSomeAlike wide narrow found at → length found.objects.items ≤ at → Settled wide narrow (AreAlike wide narrow found) true
  alike-end at some all = record {
    holds = λ e key with is. some key with (let below = paired-below found.objects.items key with is in omega arith) is;
    clash = λ e. absurd (false≢true (sym e));
  }
