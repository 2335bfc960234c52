-- Links that are put in.
use Rattle.std.proofs.Common.{◌≡◌, ◌≢◌, ℕ, zero, suc, ◌+◌, ◌<◌, ◌≤◌, Bool, true, false, List, [], ◌∷◌, ◌++◌, length, Option, None, Some, refl, sym, ◌∙◌, ap, subst, arith, ◌⊎◌, inl, inr, slice_index_or}
use Rattle.std.specs.Prelude.{slice_get, Contains, ℤ, ◌↔◌}
use Rattle.std.proofs.lemmas.Bool.{false≢true}
use Rattle.std.proofs.lemmas.Option.{same_Some, none-some}
use Rattle.std.proofs.lemmas.List.Elements.{Contains-append_left, Contains-push, Contains-push_cases}
use Rattle.graph.specs.declared.value.Target.{Target}
use Rattle.graph.specs.declared.value.Value.{Value}
use Rattle.graph.specs.declared.value.Value.TheVariants.{Const, Number, Any, Address}
use Rattle.graph.specs.Meaning.{Maps}
use Rattle.cover.specs.declared.content.Content.{Content}
use Rattle.cover.specs.declared.content.Content.TheVariants.{Fixed, Leads, Kept}
use Rattle.cover.specs.declared.found.Found.{Found}
use Rattle.cover.specs.Covers.{Pairing, Link, Objects, Values, IsReached, ByAddress, IsIn, IsCover}
use Rattle.cover.specs.Found.{led_from, led_to, pairing_of, HasOther, alone, IsCounted, Pairs, AreMutual, Puts, Aims, IsSound, Grows, Goes}
use Rattle.cover.proofs.Least.{reached-in, fits-at-reached, paired-at-reached}

slice_get-push : {X : Type 0} (xs : List X) (x : X) (place : ℕ) (y : X) → slice_get xs place ≡ Some y → slice_get (xs ++ x ∷ []) place ≡ Some y
slice_get-push [] x place y is = absurd (none-some y is)
slice_get-push (first ∷ rest) x zero y is = is
slice_get-push (first ∷ rest) x (suc place) y is = slice_get-push rest x place y is

no_growth : (found : Found) → Grows found found
no_growth found = record { stays = λ link is. is; queue = λ place key is. is; objects = refl }

-- two objects that are reached together are paired, or nothing covers
pub object_goes : (wide narrow : Maps) (before after : Found) (one other : ℕ) (fine : Bool) → IsSound wide narrow before → IsReached wide narrow (Objects one other) →
    AreMutual after → Pairs before after one other fine → IsCounted before after → Goes wide narrow before after (Objects one other) fine
object_goes wide narrow before after one other fine sound reached both pairs counted = record {
  sound = record {
    places = record {
      objects = λ key past. sound.places.objects key (let e = pairs.objects_length in omega arith);
      back = λ key past. sound.places.back key (let e = pairs.back_length in omega arith);
      values = λ key past. sound.places.values key (let e : length after.values.items ≡ length before.values.items = ap length pairs.values in omega arith);
      queue = counted ∙ sound.places.queue ∙ sym pairs.objects_length;
      few_objects = subst (λ (n : ℕ). n < 4294967296) (sym pairs.objects_length) sound.places.few_objects;
      few_values = subst (λ (xs : List (Option Content)). length xs < 4294967296) (sym pairs.values) sound.places.few_values;
    };
    both = both;
    reached = all_reached;
    addresses = λ key one' other' offset offset' target target' is stands.
        pairs.objects one' other' (sound.addresses key one' other' offset offset' target target' (old_value key (Leads other' offset target) is) stands);
    queued = λ key with is. queued key with (pairs.new key with is);
    paired = λ key among. has_partner key pairs.queue among;
  };
  grows = record {
    stays = stays;
    queue = λ place key is. in_queue place key is pairs.queue;
    objects = pairs.objects_length;
  };
  stands = λ is_fine. (pairs.paired is_fine).0;
  clash = λ not_fine. record { none = λ p cover. clashes p cover (pairs.clash not_fine) };
}
  where
    old_value : (key : ℕ) (content : Content) → slice_index_or after.values.items key None ≡ Some content → slice_index_or before.values.items key None ≡ Some content
    old_value key content is = ap (λ (xs : List (Option Content)). slice_index_or xs key None) (sym pairs.values) ∙ is

    all_reached : (link : Link) → IsIn (pairing_of after) link → IsReached wide narrow link
    all_reached (Values key content) is = sound.reached (Values key content) (old_value key content is)
    all_reached (Objects key with) is = by_new (pairs.new key with is)
      where
        by_new : (slice_index_or before.objects.items key None ≡ Some with) ⊎ ((key ≡ one) × (with ≡ other) × (after.queue.items ≡ before.queue.items ++ one ∷ [])) → IsReached wide narrow (Objects key with)
        by_new (inl old) = sound.reached (Objects key with) old
        by_new (inr (key_is, with_is, queue_is)) = subst (λ (k : ℕ). IsReached wide narrow (Objects k with)) (sym key_is) (subst (λ (w : ℕ). IsReached wide narrow (Objects one w)) (sym with_is) reached)

    has_partner : (key : ℕ) → (after.queue.items ≡ before.queue.items) ⊎ ((after.queue.items ≡ before.queue.items ++ one ∷ []) × (slice_index_or after.objects.items one None ≡ Some other)) →
        Contains after.queue.items key → (with : ℕ) × IsIn (pairing_of after) (Objects key with)
    has_partner key (inl same) among = old_partner key (subst (λ (ks : List ℕ). Contains ks key) same among)
      where
        old_partner : (key : ℕ) → Contains before.queue.items key → (with : ℕ) × IsIn (pairing_of after) (Objects key with)
        old_partner key among = let old = sound.paired key among in (old.0, pairs.objects key old.0 old.1)
    has_partner key (inr (more, with_is)) among = by_cases (Contains-push_cases before.queue.items one key (subst (λ (ks : List ℕ). Contains ks key) more among))
      where
        by_cases : Contains before.queue.items key ⊎ (one ≡ key) → (with : ℕ) × IsIn (pairing_of after) (Objects key with)
        by_cases (inl before_is) = let old = sound.paired key before_is in (old.0, pairs.objects key old.0 old.1)
        by_cases (inr same) = (other, subst (λ (k : ℕ). slice_index_or after.objects.items k None ≡ Some other) same with_is)

    longer : (key : ℕ) → (after.queue.items ≡ before.queue.items) ⊎ ((after.queue.items ≡ before.queue.items ++ one ∷ []) × (slice_index_or after.objects.items one None ≡ Some other)) → Contains before.queue.items key → Contains after.queue.items key
    longer key (inl same) has = subst (λ (ks : List ℕ). Contains ks key) (sym same) has
    longer key (inr (more, with_is)) has = subst (λ (ks : List ℕ). Contains ks key) (sym more) (Contains-append_left before.queue.items (one ∷ []) key has)

    queued : (key with : ℕ) → (slice_index_or before.objects.items key None ≡ Some with) ⊎ ((key ≡ one) × (with ≡ other) × (after.queue.items ≡ before.queue.items ++ one ∷ [])) → Contains after.queue.items key
    queued key with (inl old) = longer key pairs.queue (sound.queued key with old)
    queued key with (inr (key_is, with_is, queue_is)) =
        subst (λ (ks : List ℕ). Contains ks key) (sym queue_is) (subst (λ (k : ℕ). Contains (before.queue.items ++ one ∷ []) k) (sym key_is) (Contains-push before.queue.items one))

    stays : (link : Link) → IsIn (pairing_of before) link → IsIn (pairing_of after) link
    stays (Objects key with) is = pairs.objects key with is
    stays (Values key content) is = ap (λ (xs : List (Option Content)). slice_index_or xs key None) pairs.values ∙ is

    in_queue : (place key : ℕ) → slice_get before.queue.items place ≡ Some key →
        (after.queue.items ≡ before.queue.items) ⊎ ((after.queue.items ≡ before.queue.items ++ one ∷ []) × (slice_index_or after.objects.items one None ≡ Some other)) → slice_get after.queue.items place ≡ Some key
    in_queue place key is (inl same) = ap (λ (ks : List ℕ). slice_get ks place) same ∙ is
    in_queue place key is (inr (more, with_is)) = ap (λ (ks : List ℕ). slice_get ks place) more ∙ slice_get-push before.queue.items one place key is

    other_than : (o : Option ℕ) (with known : ℕ) → HasOther o with → o ≡ Some known → known ≢ with
    other_than None with known has is equal = has
    other_than (Some other) with known has is equal = has (same_Some _ _ is ∙ equal)

    has_one : (o : Option ℕ) (with : ℕ) → HasOther o with → (known : ℕ) × (o ≡ Some known)
    has_one None with has = absurd has
    has_one (Some other) with has = (other, refl)

    clashes : (p : Pairing) → IsCover wide narrow p → HasOther (slice_index_or before.objects.items one None) other ⊎ HasOther (slice_index_or before.back.items other None) one → ⊥
    clashes p cover (inl has) =
        let known = has_one (slice_index_or before.objects.items one None) other has in
        let old = reached-in wide narrow p cover (Objects one known.0) (sound.reached (Objects one known.0) known.1) in
        other_than _ other known.0 has known.1 (same_Some _ _ (sym old ∙ reached-in wide narrow p cover (Objects one other) reached))
    clashes p cover (inr has) =
        let known = has_one (slice_index_or before.back.items other None) one has in
        let old = reached-in wide narrow p cover (Objects known.0 other) (sound.reached (Objects known.0 other) (sound.both.back known.0 other known.1)) in
        other_than _ one known.0 has known.1 (same_Some _ _ (sym (cover.there known.0 other old) ∙ cover.there one other (reached-in wide narrow p cover (Objects one other) reached)))

-- an object of which there is none is paired with nothing
pub object_outside : (wide narrow : Maps) (found : Found) (one other : ℕ) → IsSound wide narrow found → IsReached wide narrow (Objects one other) → length found.objects.items ≤ one →
    Goes wide narrow found found (Objects one other) false
object_outside wide narrow found one other sound reached past = record {
  sound = sound;
  grows = no_growth found;
  stands = λ is_fine. absurd (false≢true is_fine);
  clash = λ not_fine. record { none = λ p cover. let pair = paired-at-reached wide narrow p cover one other reached in none-some pair.one (sym (sound.places.objects one past) ∙ pair.one_stands) };
}

pub other_outside : (wide narrow : Maps) (found : Found) (one other : ℕ) → IsSound wide narrow found → IsReached wide narrow (Objects one other) → length found.back.items ≤ other →
    Goes wide narrow found found (Objects one other) false
other_outside wide narrow found one other sound reached past = record {
  sound = sound;
  grows = no_growth found;
  stands = λ is_fine. absurd (false≢true is_fine);
  clash = λ not_fine. record { none = λ p cover. let pair = paired-at-reached wide narrow p cover one other reached in none-some pair.other (sym (sound.places.back other past) ∙ pair.other_stands) };
}

-- else there is nothing to do
target_stays : (wide narrow : Maps) (found : Found) (key : ℕ) (content : Content) → IsSound wide narrow found →
    ((one other : ℕ) (offset offset' : ℤ) (target target' : Target) → content ≡ Leads other offset target → wide.values key ≡ Some (Address one offset' target') → ⊥) →
    Aims wide narrow found found key content true
target_stays wide narrow found key content sound never = record {
  sound = sound;
  grows = no_growth found;
  values = refl;
  aims = λ is_fine one other o o' t t' content_is stands. absurd (never one other o o' t t' content_is stands);
  clash = λ is. absurd (false≢true (sym is));
}

pub target_stays_from : (wide narrow : Maps) (found : Found) (key : ℕ) (content : Content) → IsSound wide narrow found → led_from (wide.values key) ≡ None → Aims wide narrow found found key content true
target_stays_from wide narrow found key content sound none =
    target_stays wide narrow found key content sound (λ one other o o' t t' content_is stands. none-some one (sym none ∙ ap led_from stands))

pub target_stays_to : (wide narrow : Maps) (found : Found) (key : ℕ) (content : Content) → IsSound wide narrow found → led_to content ≡ None → Aims wide narrow found found key content true
target_stays_to wide narrow found key content sound none =
    target_stays wide narrow found key content sound (λ one other o o' t t' content_is stands. none-some other (sym none ∙ ap led_to content_is))

-- a value of which there is none is paired with nothing
pub value_outside : (wide narrow : Maps) (found : Found) (key : ℕ) (content : Content) → IsSound wide narrow found → IsReached wide narrow (Values key content) →
    length found.values.items ≤ key → Goes wide narrow found found (Values key content) false
value_outside wide narrow found key content sound reached past = record {
  sound = sound;
  grows = no_growth found;
  stands = λ is_fine. absurd (false≢true is_fine);
  clash = λ not_fine. record { none = λ p cover. let at = fits-at-reached wide narrow p cover key content reached in none-some at.value (sym (sound.places.values key past) ∙ at.stands) };
}

-- where the value and the content are addresses, their objects are reached
pub by_address : (wide narrow : Maps) (key one other : ℕ) (content : Content) → IsReached wide narrow (Values key content) → led_from (wide.values key) ≡ Some one → led_to content ≡ Some other →
    IsReached wide narrow (Objects one other)
by_address wide narrow key one other content reached from to = by_content content reached to (wide.values key) refl from
  where
    by_content : (content : Content) → IsReached wide narrow (Values key content) → led_to content ≡ Some other → (found : Option Value) → wide.values key ≡ found → led_from found ≡ Some one → IsReached wide narrow (Objects one other)
    by_content (Fixed number size) reached to found is from = absurd (none-some other to)
    by_content (Kept k) reached to found is from = absurd (none-some other to)
    by_content (Leads object offset target) reached to None is from = absurd (none-some one from)
    by_content (Leads object offset target) reached to (Some (Const number size)) is from = absurd (none-some one from)
    by_content (Leads object offset target) reached to (Some (Number size)) is from = absurd (none-some one from)
    by_content (Leads object offset target) reached to (Some Any) is from = absurd (none-some one from)
    by_content (Leads object offset target) reached to (Some (Address object' offset' target')) is from =
        subst (λ (k : ℕ). IsReached wide narrow (Objects k other)) (same_Some _ _ from) (subst (λ (k : ℕ). IsReached wide narrow (Objects object' k)) (same_Some _ _ to)
        (ByAddress key object' object offset offset' target target' reached is))

pub target_goes : (wide narrow : Maps) (before after : Found) (key one other : ℕ) (content : Content) (fine : Bool) →
    led_from (wide.values key) ≡ Some one → led_to content ≡ Some other → after.values.items ≡ before.values.items → Goes wide narrow before after (Objects one other) fine →
    Aims wide narrow before after key content fine
target_goes wide narrow before after key one other content fine from to values goes = record {
  sound = goes.sound;
  grows = goes.grows;
  values = values;
  aims = λ is_fine one' other' o o' t t' content_is stands.
      subst (λ (k : ℕ). IsIn (pairing_of after) (Objects k other')) (same_Some _ _ (sym from ∙ ap led_from stands)) (subst (λ (k : ℕ). IsIn (pairing_of after) (Objects one k)) (same_Some _ _ (sym to ∙ ap led_to content_is)) (goes.stands is_fine));
  clash = goes.clash;
}

-- a value that has a partner has this one, or nothing covers
pub known_goes : (wide narrow : Maps) (found : Found) (key : ℕ) (known content : Content) (fine : Bool) → IsSound wide narrow found → IsReached wide narrow (Values key content) →
    slice_index_or found.values.items key None ≡ Some known → ((fine ≡ true) ↔ (known ≡ content)) → Goes wide narrow found found (Values key content) fine
known_goes wide narrow found key known content fine sound reached is (equal, same) = record {
  sound = sound;
  grows = no_growth found;
  stands = λ is_fine. is ∙ ap Some (equal is_fine);
  clash = λ not_fine. record {
    none = λ p cover. false≢true (sym not_fine ∙ same (same_Some _ _ (sym (reached-in wide narrow p cover (Values key known) (sound.reached (Values key known) is)) ∙ reached-in wide narrow p cover (Values key content) reached)));
  };
}

pub value_clashes : (wide narrow : Maps) (before after : Found) (key : ℕ) (content : Content) → Aims wide narrow before after key content false → Goes wide narrow before after (Values key content) false
value_clashes wide narrow before after key content aims = record { sound = aims.sound; grows = aims.grows; stands = λ is. absurd (false≢true is); clash = aims.clash }

value_goes : (wide narrow : Maps) (before between after : Found) (key : ℕ) (content : Content) → Aims wide narrow before between key content true → IsReached wide narrow (Values key content) →
    Puts between after key content → Goes wide narrow before after (Values key content) true
value_goes wide narrow before between after key content aims reached puts = record {
  sound = record {
    places = record {
      objects = λ k past. aims.sound.places.objects k (let e : length after.objects.items ≡ length between.objects.items = ap length puts.objects in omega arith);
      back = λ k past. aims.sound.places.back k (let e : length after.back.items ≡ length between.back.items = ap length puts.back in omega arith);
      values = λ k past. aims.sound.places.values k (let e = puts.count in omega arith);
      queue = ap (λ (ks : List ℕ). length ks + alone after.objects.items) puts.queue ∙ ap (λ (xs : List (Option ℕ)). length between.queue.items + alone xs) puts.objects
          ∙ aims.sound.places.queue ∙ ap length (sym puts.objects);
      few_objects = subst (λ (xs : List (Option ℕ)). length xs < 4294967296) (sym puts.objects) aims.sound.places.few_objects;
      few_values = subst (λ (n : ℕ). n < 4294967296) (sym puts.count) aims.sound.places.few_values;
    };
    both = record {
      there = λ key' with is. ap (λ (xs : List (Option ℕ)). slice_index_or xs with None) puts.back ∙ aims.sound.both.there key' with (old_object key' with is);
      back = λ key' with is. ap (λ (xs : List (Option ℕ)). slice_index_or xs key' None) puts.objects ∙ aims.sound.both.back key' with (ap (λ (xs : List (Option ℕ)). slice_index_or xs with None) (sym puts.back) ∙ is);
    };
    reached = all_reached;
    addresses = λ k one other o o' t t' is stands. new_object one other (addressed k one other o o' t t' (puts.new k (Leads other o t) is) stands);
    queued = λ one other is. subst (λ (ks : List ℕ). Contains ks one) (sym puts.queue) (aims.sound.queued one other (old_object one other is));
    paired = λ one among. let old = aims.sound.paired one (subst (λ (ks : List ℕ). Contains ks one) puts.queue among) in (old.0, new_object one old.0 old.1);
  };
  grows = record {
    stays = λ link is. stays link (aims.grows.stays link is);
    queue = λ place k is. ap (λ (ks : List ℕ). slice_get ks place) puts.queue ∙ aims.grows.queue place k is;
    objects = ap length puts.objects ∙ aims.grows.objects;
  };
  stands = λ is_fine. puts.paired;
  clash = λ is. absurd (false≢true (sym is));
}
  where
    old_object : (one other : ℕ) → slice_index_or after.objects.items one None ≡ Some other → slice_index_or between.objects.items one None ≡ Some other
    old_object one other is = ap (λ (xs : List (Option ℕ)). slice_index_or xs one None) (sym puts.objects) ∙ is

    new_object : (one other : ℕ) → slice_index_or between.objects.items one None ≡ Some other → slice_index_or after.objects.items one None ≡ Some other
    new_object one other is = ap (λ (xs : List (Option ℕ)). slice_index_or xs one None) puts.objects ∙ is

    stays : (link : Link) → IsIn (pairing_of between) link → IsIn (pairing_of after) link
    stays (Objects one other) is = new_object one other is
    stays (Values k c) is = puts.values k c is

    all_reached : (link : Link) → IsIn (pairing_of after) link → IsReached wide narrow link
    all_reached (Objects one other) is = aims.sound.reached (Objects one other) (old_object one other is)
    all_reached (Values k c) is = by_new (puts.new k c is)
      where
        by_new : (slice_index_or between.values.items k None ≡ Some c) ⊎ ((k ≡ key) × (c ≡ content)) → IsReached wide narrow (Values k c)
        by_new (inl old) = aims.sound.reached (Values k c) old
        by_new (inr (key_is, content_is)) = subst (λ (n : ℕ). IsReached wide narrow (Values n c)) (sym key_is) (subst (λ (d : Content). IsReached wide narrow (Values key d)) (sym content_is) reached)

    addressed : (k one other : ℕ) (o o' : ℤ) (t t' : Target) → (slice_index_or between.values.items k None ≡ Some (Leads other o t)) ⊎ ((k ≡ key) × (Leads other o t ≡ content)) → wide.values k ≡ Some (Address one o' t') →
        slice_index_or between.objects.items one None ≡ Some other
    addressed k one other o o' t t' (inl old) stands = aims.sound.addresses k one other o o' t t' old stands
    addressed k one other o o' t t' (inr (key_is, content_is)) stands = aims.aims refl one other o o' t t' (sym content_is) (ap wide.values (sym key_is) ∙ stands)

-- the same where the answer is fine
pub value_goes_on : (wide narrow : Maps) (before between after : Found) (key : ℕ) (content : Content) (fine : Bool) → fine ≡ true → Aims wide narrow before between key content fine →
    IsReached wide narrow (Values key content) → Puts between after key content → Goes wide narrow before after (Values key content) true
value_goes_on wide narrow before between after key content fine is aims reached puts =
    value_goes wide narrow before between after key content (subst (λ (b : Bool). Aims wide narrow before between key content b) is aims) reached puts
