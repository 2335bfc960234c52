-- The edges of two objects, one after the other.
use Rattle.std.proofs.Common.{◌≡◌, ◌≢◌, ℕ, ◌+◌, ◌<◌, ◌≤◌, nat_eq, eqb-true, eq-eqb, Bool, true, false, List, length, get_or, None, Some, refl, sym, ◌∙◌, ap, subst, arith}
use Rattle.std.proofs.lemmas.Bool.{false≢true}
use Rattle.std.proofs.lemmas.List.{get_or_default}
use Rattle.std.proofs.lemmas.List.Elements.{Contains-get_or}
use Rattle.std.proofs.lemmas.Option.{same_Some, none-some}
use Rattle.graph.specs.declared.edges.HasValue.{HasValue}
use Rattle.graph.specs.declared.object.Object.{Object}
use Rattle.graph.specs.declared.template.Node.{Node}
use Rattle.graph.specs.Meaning.{Maps}
use Rattle.graph.specs.Nodes.{node_of}
use Rattle.cover.specs.declared.content.Content.{Content}
use Rattle.cover.specs.declared.found.Found.{Found}
use Rattle.cover.specs.Covers.{held_in, Pairing, Link, Objects, Values, IsReached, ByEdge, IsAs, IsCover}
use Rattle.cover.specs.Found.{IsSound, Goes, IsLinked, Linking, Links}
use Rattle.cover.proofs.Least.{paired-at-reached}

pub links_start : (wide narrow : Maps) (found : Found) (with : Node) (edges : List HasValue) → IsSound wide narrow found → Linking wide narrow found found with edges 0
links_start wide narrow found with edges sound = record {
  sound = sound;
  grows = record { stays = λ link is. is; queue = λ place key is. is; objects = refl };
  linked = λ k d below within. absurd (omega arith);
}

pub links_next : (wide narrow : Maps) (entry before after : Found) (with : Node) (edges : List HasValue) (at : ℕ) (d : HasValue) (holds : Content) → Linking wide narrow entry before with edges at →
    held_in narrow with (get_or edges at d).at (get_or edges at d).size ≡ Some holds → Goes wide narrow before after (Values (get_or edges at d).value holds) true → Linking wide narrow entry after with edges (at + 1)
links_next wide narrow entry before after with edges at d holds linking held goes = record {
  sound = goes.sound;
  grows = record {
    stays = λ link is. goes.grows.stays link (linking.grows.stays link is);
    queue = λ place key is. goes.grows.queue place key (linking.grows.queue place key is);
    objects = goes.grows.objects ∙ linking.grows.objects;
  };
  linked = λ k e below within. by_test k e within (nat_eq k at) refl below;
}
  where
    by_test : (k : ℕ) (e : HasValue) → k < length edges → (b : Bool) → nat_eq k at ≡ b → k < at + 1 → IsLinked narrow after with (get_or edges k e)
    by_test k e within true is below =
        let place = eqb-true k at is in
        subst (λ (edge : HasValue). IsLinked narrow after with edge) (get_or_default edges at d e (subst (λ (n : ℕ). n < length edges) place within) ∙ ap (λ (n : ℕ). get_or edges n e) (sym place))
        (record { holds = holds; held = held; stands = goes.stands refl })
    by_test k e within false is below =
        let linked = linking.linked k e (smaller k (nat_eq k at) refl is below) within in
        record { holds = linked.holds; held = linked.held; stands = goes.grows.stays (Values (get_or edges k e).value linked.holds) linked.stands }
      where
        smaller : (k : ℕ) (b : Bool) → nat_eq k at ≡ b → nat_eq k at ≡ false → k < at + 1 → k < at
        smaller k b is miss below = let other = ne k at miss in omega arith
          where
            ne : (k at : ℕ) → nat_eq k at ≡ false → k ≢ at
            ne k at miss equal = false≢true (sym miss ∙ eq-eqb k at equal)

pub links_end : (wide narrow : Maps) (entry now : Found) (with : Node) (edges : List HasValue) (at : ℕ) → Linking wide narrow entry now with edges at → length edges ≤ at → Links wide narrow entry now with edges true
links_end wide narrow entry now with edges at linking all = record {
  sound = linking.sound;
  grows = linking.grows;
  linked = λ is k d within. linking.linked k d (omega arith) within;
  clash = λ is. absurd (false≢true (sym is));
}

-- a value of an edge cannot be paired
pub links_clash : (wide narrow : Maps) (entry before after : Found) (with : Node) (edges : List HasValue) (at : ℕ) (link : Link) → Linking wide narrow entry before with edges at →
    Goes wide narrow before after link false → Links wide narrow entry after with edges false
links_clash wide narrow entry before after with edges at link linking goes = record {
  sound = goes.sound;
  grows = record {
    stays = λ link is. goes.grows.stays link (linking.grows.stays link is);
    queue = λ place key is. goes.grows.queue place key (linking.grows.queue place key is);
    objects = goes.grows.objects ∙ linking.grows.objects;
  };
  linked = λ is. absurd (false≢true is);
  clash = λ is. goes.clash refl;
}

-- the other object holds nothing there
pub links_none : (wide narrow : Maps) (entry now : Found) (one other : ℕ) (object with : Object) (at : ℕ) (d : HasValue) → Linking wide narrow entry now (node_of with) (node_of object).edges at → at < length (node_of object).edges →
    IsReached wide narrow (Objects one other) → wide.objects one ≡ Some object → narrow.objects other ≡ Some with → object.live ≡ true → held_in narrow (node_of with) (get_or (node_of object).edges at d).at (get_or (node_of object).edges at d).size ≡ None →
    Links wide narrow entry now (node_of with) (node_of object).edges false
links_none wide narrow entry now one other object with at d linking within reached stands with_stands live held = record {
  sound = linking.sound;
  grows = linking.grows;
  linked = λ is. absurd (false≢true is);
  clash = λ is. record { none = none };
}
  where
    none : (p : Pairing) → IsCover wide narrow p → ⊥
    none p cover =
        let pair = paired-at-reached wide narrow p cover one other reached in
        let like = subst (λ (o : Object). IsAs narrow p o with) (same_Some _ _ (sym pair.one_stands ∙ stands)) (subst (λ (o : Object). IsAs narrow p pair.one o) (same_Some _ _ (sym pair.other_stands ∙ with_stands)) pair.alike) in
        let has = (like.alike live).edges at d within in
        none-some has.with (sym held ∙ has.held)

-- the edge at a place is reached
pub edge_reached : (wide narrow : Maps) (one other : ℕ) (object with : Object) (at : ℕ) (d : HasValue) (holds : Content) → IsReached wide narrow (Objects one other) → wide.objects one ≡ Some object →
    narrow.objects other ≡ Some with → object.live ≡ true → at < length (node_of object).edges → held_in narrow (node_of with) (get_or (node_of object).edges at d).at (get_or (node_of object).edges at d).size ≡ Some holds →
    IsReached wide narrow (Values (get_or (node_of object).edges at d).value holds)
edge_reached wide narrow one other object with at d holds reached stands with_stands live within held =
    ByEdge one other object with (get_or (node_of object).edges at d) holds reached stands with_stands live (Contains-get_or (node_of object).edges at d within) held

-- the same where the edges were read as another list
pub links_next_as : (wide narrow : Maps) (entry before after : Found) (with : Node) (list edges : List HasValue) (at : ℕ) (d : HasValue) (holds : Content) (fine : Bool) → list ≡ edges → Linking wide narrow entry before with edges at →
    held_in narrow with (get_or list at d).at (get_or list at d).size ≡ Some holds → Goes wide narrow before after (Values (get_or list at d).value holds) fine → fine ≡ true → Linking wide narrow entry after with edges (at + 1)
links_next_as wide narrow entry before after with list edges at d holds fine same linking held goes is =
    links_next wide narrow entry before after with edges at d holds linking
    (subst (λ (es : List HasValue). held_in narrow with (get_or es at d).at (get_or es at d).size ≡ Some holds) same held)
    (subst (λ (es : List HasValue). Goes wide narrow before after (Values (get_or es at d).value holds) true) same
    (subst (λ (b : Bool). Goes wide narrow before after (Values (get_or list at d).value holds) b) is goes))

pub links_none_as : (wide narrow : Maps) (entry now : Found) (one other : ℕ) (object with : Object) (list : List HasValue) (at : ℕ) (d : HasValue) → list ≡ (node_of object).edges → Linking wide narrow entry now (node_of with) (node_of object).edges at → at < length (node_of object).edges →
    IsReached wide narrow (Objects one other) → wide.objects one ≡ Some object → narrow.objects other ≡ Some with → object.live ≡ true → held_in narrow (node_of with) (get_or list at d).at (get_or list at d).size ≡ None →
    Links wide narrow entry now (node_of with) (node_of object).edges false
links_none_as wide narrow entry now one other object with list at d same linking within reached stands with_stands live held =
    links_none wide narrow entry now one other object with at d linking within reached stands with_stands live
    (subst (λ (es : List HasValue). held_in narrow (node_of with) (get_or es at d).at (get_or es at d).size ≡ None) same held)
