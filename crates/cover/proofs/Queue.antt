-- The objects of the queue, one after the other.
use Rattle.std.proofs.Common.{◌≡◌, ℕ, suc, ◌+◌, ◌-◌, ◌<◌, ◌≤◌, Bool, true, false, List, length, get_or, nat_eq, None, Some, refl, sym, ◌∙◌, ap, subst, eqb-true, arith, slice_index_or}
use Rattle.std.specs.Prelude.{slice_get, Contains}
use Rattle.std.specs.List.{All}
use Rattle.std.proofs.lemmas.Bool.{false≢true}
use Rattle.std.proofs.lemmas.Option.{same_Some, none-some}
use Rattle.graph.specs.declared.edges.HasValue.{HasValue}
use Rattle.graph.specs.declared.object.Links.{Links}
use Rattle.graph.specs.declared.object.Object.{Object}
use Rattle.graph.specs.declared.template.Node.{Node}
use Rattle.graph.specs.Meaning.{Maps}
use Rattle.graph.specs.Nodes.{links_in, node_of}
use Rattle.cover.specs.declared.found.Found.{Found}
use Rattle.cover.specs.declared.content.Content.{Content}
use Rattle.cover.specs.Covers.{content, AreEndsPaired, Link, Objects, Values, IsReached, ByNext, ByPrev, IsIn}
use Rattle.cover.specs.Found.{pairing_of, IsSound, Grows, Goes, IsLinked, Links as LinksEdges, AreEndsLinked, LinksEnds, LinksContents, IsLinkedWith, IsFollowed, Follows, FollowsSome, FollowsAll}
use Rattle.cover.proofs.Forced.{get-at, other-at}

-- what is linked stays so
linked-later : (narrow : Maps) (before after : Found) (with : Node) (edges : List HasValue) → Grows before after → All (IsLinked narrow before with) edges → All (IsLinked narrow after with) edges
linked-later narrow before after with edges grows all k d within =
    let linked = all k d within in
    record { holds = linked.holds; held = linked.held; stands = grows.stays (Values (get_or edges k d).value linked.holds) linked.stands }

ends-later : (narrow : Maps) (before after : Found) (object with : Object) → Grows before after → AreEndsLinked narrow before object with → AreEndsLinked narrow after object with
ends-later narrow before after object with grows linked links other_links links_is other_links_is =
    let ends = linked links other_links links_is other_links_is in record {
      next = grows.stays (Values links.next_value (content narrow other_links.next_value)) ends.next;
      prev = grows.stays (Values links.prev_value (content narrow other_links.prev_value)) ends.prev;
    }

followed-later : (wide narrow : Maps) (before after : Found) (one : ℕ) → IsSound wide narrow before → Contains before.queue.items one → Grows before after → IsFollowed wide narrow before one → IsFollowed wide narrow after one
followed-later wide narrow before after one sound queued grows are other object with is one_is with_is =
    let old = sound.paired one queued in
    let same : old.0 ≡ other = same_Some _ _ (sym (grows.stays (Objects one old.0) old.1) ∙ is) in
    let linked = are other object with (subst (λ (k : ℕ). IsIn (pairing_of before) (Objects one k)) same old.1) one_is with_is in
    record {
      ends = ends-later narrow before after object with grows linked.ends;
      edges = λ live. linked-later narrow before after (node_of with) (node_of object).edges grows (linked.edges live);
    }

grows-on : (before between after : Found) → Grows before between → Grows between after → Grows before after
grows-on before between after first second = record {
  stays = λ link is. second.stays link (first.stays link is);
  queue = λ place key is. second.queue place key (first.queue place key is);
  objects = second.objects ∙ first.objects;
}

nothing-grows : (found : Found) → Grows found found
nothing-grows found = record { stays = λ link is. is; queue = λ place key is. is; objects = refl }

module _ (wide narrow : Maps) where
  -- an object of which there is nothing to do
  nothing-to-do : (found : Found) (one : ℕ) → IsSound wide narrow found → IsFollowed wide narrow found one → Follows wide narrow found found one true
  nothing-to-do found one sound are = record { sound = sound; grows = nothing-grows found; linked = λ is. are; clash = λ is. absurd (false≢true (sym is)) }

  pub object-alone : (found : Found) (one : ℕ) → IsSound wide narrow found → slice_index_or found.objects.items one None ≡ None → Follows wide narrow found found one true
  object-alone found one sound none = nothing-to-do found one sound (λ other object with is one_is with_is. absurd (none-some other (sym none ∙ is)))

  pub object-absent : (found : Found) (one : ℕ) → IsSound wide narrow found → wide.objects one ≡ None → Follows wide narrow found found one true
  object-absent found one sound none = nothing-to-do found one sound (λ other object with is one_is with_is. absurd (none-some object (sym none ∙ one_is)))

  pub partner-absent : (found : Found) (one other : ℕ) → IsSound wide narrow found → slice_index_or found.objects.items one None ≡ Some other → narrow.objects other ≡ None → Follows wide narrow found found one true
  partner-absent found one other sound paired none =
      nothing-to-do found one sound (λ other' object with is one_is with_is.
      absurd (none-some with (sym none ∙ ap narrow.objects (same_Some _ _ (sym paired ∙ is)) ∙ with_is)))

  -- the ends of two objects of which one is a region are not asked for
  no-ends : (found : Found) (object with : Object) → IsSound wide narrow found → AreEndsLinked narrow found object with → LinksEnds wide narrow found found object with true
  no-ends found object with sound linked = record { sound = sound; grows = nothing-grows found; linked = λ is. linked; clash = λ is. absurd (false≢true (sym is)) }

  pub ends-none : (found : Found) (object with : Object) → IsSound wide narrow found → links_in object.shape ≡ None → LinksEnds wide narrow found found object with true
  ends-none found object with sound none = no-ends found object with sound (λ links other_links is other_is. absurd (none-some links (sym none ∙ is)))

  pub other-ends-none : (found : Found) (object with : Object) → IsSound wide narrow found → links_in with.shape ≡ None → LinksEnds wide narrow found found object with true
  other-ends-none found object with sound none = no-ends found object with sound (λ links other_links is other_is. absurd (none-some other_links (sym none ∙ other_is)))

  pub next-clash : (before after : Found) (object with : Object) (link : Link) → Goes wide narrow before after link false → LinksEnds wide narrow before after object with false
  next-clash before after object with link goes = record { sound = goes.sound; grows = goes.grows; linked = λ is. absurd (false≢true is); clash = λ is. goes.clash refl }

  pub ends-linked : (before between after : Found) (object with : Object) (links other_links : Links) (first fine : Bool) → links_in object.shape ≡ Some links → links_in with.shape ≡ Some other_links → first ≡ true →
      Goes wide narrow before between (Values links.next_value (content narrow other_links.next_value)) first →
      Goes wide narrow between after (Values links.prev_value (content narrow other_links.prev_value)) fine → LinksEnds wide narrow before after object with fine
  ends-linked before between after object with links other_links first fine links_is other_links_is first_is next prev = record {
    sound = prev.sound;
    grows = grows-on before between after next.grows prev.grows;
    linked = λ is some others some_is others_is.
        subst (λ (l : Links). AreEndsPaired narrow (pairing_of after) l others) (same_Some _ _ (sym links_is ∙ some_is))
        (subst (λ (l : Links). AreEndsPaired narrow (pairing_of after) links l) (same_Some _ _ (sym other_links_is ∙ others_is))
        (record { next = prev.grows.stays (Values links.next_value (content narrow other_links.next_value)) (next.stands first_is); prev = prev.stands is }));
    clash = prev.clash;
  }

  -- the same where the contents were read before
  pub ends-linked-as : (before between after : Found) (object with : Object) (links other_links : Links) (next prev : Content) (first fine : Bool) → links_in object.shape ≡ Some links → links_in with.shape ≡ Some other_links →
      next ≡ content narrow other_links.next_value → prev ≡ content narrow other_links.prev_value → first ≡ true →
      Goes wide narrow before between (Values links.next_value next) first → Goes wide narrow between after (Values links.prev_value prev) fine → LinksEnds wide narrow before after object with fine
  ends-linked-as before between after object with links other_links next prev first fine links_is other_links_is next_is prev_is first_is next_goes prev_goes =
      ends-linked before between after object with links other_links first fine links_is other_links_is first_is
      (subst (λ (c : Content). Goes wide narrow before between (Values links.next_value c) first) next_is next_goes)
      (subst (λ (c : Content). Goes wide narrow between after (Values links.prev_value c) fine) prev_is prev_goes)

  pub next-reached : (one other : ℕ) (object with : Object) (links other_links : Links) (next : Content) → IsReached wide narrow (Objects one other) → wide.objects one ≡ Some object → narrow.objects other ≡ Some with →
      links_in object.shape ≡ Some links → links_in with.shape ≡ Some other_links → next ≡ content narrow other_links.next_value → IsReached wide narrow (Values links.next_value next)
  next-reached one other object with links other_links next reached stands with_stands links_is other_links_is next_is =
      subst (λ (c : Content). IsReached wide narrow (Values links.next_value c)) (sym next_is) (ByNext one other object with links other_links reached stands with_stands links_is other_links_is)

  pub prev-reached : (one other : ℕ) (object with : Object) (links other_links : Links) (prev : Content) → IsReached wide narrow (Objects one other) → wide.objects one ≡ Some object → narrow.objects other ≡ Some with →
      links_in object.shape ≡ Some links → links_in with.shape ≡ Some other_links → prev ≡ content narrow other_links.prev_value → IsReached wide narrow (Values links.prev_value prev)
  prev-reached one other object with links other_links prev reached stands with_stands links_is other_links_is prev_is =
      subst (λ (c : Content). IsReached wide narrow (Values links.prev_value c)) (sym prev_is) (ByPrev one other object with links other_links reached stands with_stands links_is other_links_is)

  -- what an object that is dead holds is not asked for
  pub contents-dead : (found : Found) (object with : Object) → IsSound wide narrow found → object.live ≡ false → LinksContents wide narrow found found object with true
  contents-dead found object with sound dead =
      record { sound = sound; grows = nothing-grows found; linked = λ is live. absurd (false≢true (sym dead ∙ live)); clash = λ is. absurd (false≢true (sym is)) }

  pub contents-linked : (before after : Found) (object with : Object) (fine : Bool) → LinksEdges wide narrow before after (node_of with) (node_of object).edges fine → LinksContents wide narrow before after object with fine
  contents-linked before after object with fine links = record { sound = links.sound; grows = links.grows; linked = λ is live. links.linked is; clash = links.clash }

  pub ends-clash : (before after : Found) (one : ℕ) (object with : Object) → LinksEnds wide narrow before after object with false → Follows wide narrow before after one false
  ends-clash before after one object with ends = record { sound = ends.sound; grows = ends.grows; linked = λ is. absurd (false≢true is); clash = λ is. ends.clash refl }

  pub object-linked : (before between after : Found) (one other : ℕ) (object with : Object) (first fine : Bool) → IsIn (pairing_of before) (Objects one other) → wide.objects one ≡ Some object → narrow.objects other ≡ Some with →
      first ≡ true → LinksEnds wide narrow before between object with first → LinksContents wide narrow between after object with fine → Follows wide narrow before after one fine
  object-linked before between after one other object with first fine paired stands with_stands first_is ends contents = record {
    sound = contents.sound;
    grows = grows-on before between after ends.grows contents.grows;
    linked = λ is other' object' with' is_in one_is with_is.
        let same_other : other ≡ other' = same_Some _ _ (sym ((grows-on before between after ends.grows contents.grows).stays (Objects one other) paired) ∙ is_in) in
        let same_object : object ≡ object' = same_Some _ _ (sym stands ∙ one_is) in
        let same_with : with ≡ with' = same_Some _ _ (sym with_stands ∙ ap narrow.objects same_other ∙ with_is) in
        subst (λ (o : Object). IsLinkedWith narrow after o with') same_object (subst (λ (w : Object). IsLinkedWith narrow after object w) same_with
        (record { ends = ends-later narrow between after object with contents.grows (ends.linked first_is); edges = contents.linked is }));
    clash = contents.clash;
  }

  -- the queue

  pub queue-start : (found : Found) → IsSound wide narrow found → FollowsSome wide narrow found found 0
  queue-start found sound = record { sound = sound; grows = nothing-grows found; linked = λ place one below is. absurd (omega arith) }

  pub queue-next : (entry before after : Found) (at d : ℕ) → FollowsSome wide narrow entry before at → at < length before.queue.items → Follows wide narrow before after (get_or before.queue.items at d) true →
      FollowsSome wide narrow entry after (at + 1)
  queue-next entry before after at d some within links = record {
    sound = links.sound;
    grows = record {
      stays = λ link is. links.grows.stays link (some.grows.stays link is);
      queue = λ place key is. links.grows.queue place key (some.grows.queue place key is);
      objects = links.grows.objects ∙ some.grows.objects;
    };
    linked = λ place one below is. by_test place one below is (nat_eq place at) refl;
  }
    where
      here : slice_get before.queue.items at ≡ Some (get_or before.queue.items at d)
      here = get-at before.queue.items at d within

      by_test : (place one : ℕ) → place < at + 1 → slice_get after.queue.items place ≡ Some one → (b : Bool) → nat_eq place at ≡ b → IsFollowed wide narrow after one
      by_test place one below is true hit =
          let same : get_or before.queue.items at d ≡ one = same_Some _ _ (sym (links.grows.queue at (get_or before.queue.items at d) here) ∙ ap (slice_get after.queue.items) (sym (eqb-true place at hit)) ∙ is) in
          subst (IsFollowed wide narrow after) same (links.linked refl)
      by_test place one below is false miss =
          let lower : place < at = other-at place at miss below in
          let inside : place < length before.queue.items = omega arith in
          let old = get-at before.queue.items place d inside in
          let same : get_or before.queue.items place d ≡ one = same_Some _ _ (sym (links.grows.queue place (get_or before.queue.items place d) old) ∙ is) in
          subst (IsFollowed wide narrow after) same
          (followed-later wide narrow before after (get_or before.queue.items place d) some.sound (place, inside, refl-at place inside) links.grows (some.linked place (get_or before.queue.items place d) lower old))
        where
          refl-at : (place : ℕ) → place < length before.queue.items → get_or before.queue.items place (get_or before.queue.items place d) ≡ get_or before.queue.items place d
          refl-at place inside = same_Some _ _ (sym (get-at before.queue.items place (get_or before.queue.items place d) inside) ∙ get-at before.queue.items place d inside)

  pub queue-next-as : (entry before after : Found) (at one d : ℕ) (fine : Bool) → FollowsSome wide narrow entry before at → at < length before.queue.items → one ≡ get_or before.queue.items at d → fine ≡ true →
      Follows wide narrow before after one fine → FollowsSome wide narrow entry after (at + 1)
  queue-next-as entry before after at one d fine some within same is links =
      queue-next entry before after at d some within (subst (λ (k : ℕ). Follows wide narrow before after k true) same (subst (λ (b : Bool). Follows wide narrow before after one b) is links))

  pub queue-clash : (entry before after : Found) (at one : ℕ) → FollowsSome wide narrow entry before at → Follows wide narrow before after one false → FollowsAll wide narrow entry after false
  queue-clash entry before after at one some links = record {
    sound = links.sound;
    grows = record {
      stays = λ link is. links.grows.stays link (some.grows.stays link is);
      queue = λ place key is. links.grows.queue place key (some.grows.queue place key is);
      objects = links.grows.objects ∙ some.grows.objects;
    };
    linked = λ is. absurd (false≢true is);
    clash = links.clash;
  }

  pub queue-end : (entry now : Found) (at : ℕ) → FollowsSome wide narrow entry now at → length now.queue.items ≤ at → FollowsAll wide narrow entry now true
  queue-end entry now at some all = record {
    sound = some.sound;
    grows = some.grows;
    linked = λ is one. every one;
    clash = λ is. absurd (false≢true (sym is));
  }
    where
      every : (one : ℕ) → IsFollowed wide narrow now one
      every one other object with is one_is with_is =
          let queued = some.sound.queued one other is in
          let inside : queued.0 < length now.queue.items = queued.1 in
          some.linked queued.0 one (omega arith) (get-at now.queue.items queued.0 one inside ∙ ap Some queued.2) other object with is one_is with_is

  -- the queue is no longer than the objects are many
  pub queue-short : (found : Found) → IsSound wide narrow found → length found.queue.items ≤ length found.objects.items
  queue-short found sound = let count = sound.places.queue in omega arith

  -- a turn leaves fewer objects to look at
  pub queue-turn : (before after : Found) (at one : ℕ) (fine : Bool) → IsSound wide narrow before → at < length before.queue.items → Follows wide narrow before after one fine →
      suc (length after.objects.items - (at + 1)) ≤ length before.objects.items - at
  queue-turn before after at one fine sound within links =
      let few = queue-short before sound in
      let same = links.grows.objects in
      omega arith
