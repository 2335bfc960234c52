-- All that is reached stands in each pairing that covers: so there is one least pairing, and what stands in its way
-- stands in the way of all.
use Rattle.std.proofs.Common.{◌≡◌, ℕ, zero, suc, List, [], ◌∷◌, map, Option, None, Some, sym, ◌∙◌, ap, subst}
use Rattle.std.specs.Prelude.{option_map, slice_get, Contains}
use Rattle.std.specs.List.{All}
use Rattle.std.proofs.lemmas.Option.{same_Some, none-some}
use Rattle.graph.specs.declared.object.Object.{Object}
use Rattle.graph.specs.declared.value.Value.{Value}
use Rattle.graph.specs.Meaning.{Maps}
use Rattle.graph.specs.Nodes.{node_of}
use Rattle.cover.specs.declared.content.Content.{Content}
use Rattle.cover.specs.declared.content.Content.TheVariants.{Fixed, Leads, Kept}
use Rattle.cover.specs.Covers.{content, Pairing, Fits, FitsAt, HasPartner, IsAs, ArePaired, IsCover, Link, Objects, Values, IsReached, ByVariable, ByRegister, ByPort, ByEdge, ByNext, ByPrev, ByAddress, IsIn}

pub all-at : {X : Type 0} (P : X → Type 0) (xs : List X) (x : X) → Contains xs x → All P xs → P x
all-at P xs x (place, within, is) all = subst P is (all place x within)

abbrev leads_to : Content → ℕ
leads_to (Fixed number size) = 0
leads_to (Leads object offset target) = object
leads_to (Kept key) = 0

module _ (wide narrow : Maps) (p : Pairing) (cover : IsCover wide narrow p) where
  port-in : (ones others : List ℕ) (place one other : ℕ) → map p.value ones ≡ map (λ key. Some (content narrow key)) others → slice_get ones place ≡ Some one → slice_get others place ≡ Some other →
      p.value one ≡ Some (content narrow other)
  port-in [] others place one other equal is other_is = absurd (none-some one is)
  port-in (x ∷ xs) [] place one other equal is other_is = absurd (none-some other other_is)
  port-in (x ∷ xs) (y ∷ ys) zero one other equal is other_is =
      ap p.value (sym (same_Some x one is)) ∙ ap (λ (cs : List (Option Content)). first_of cs) equal ∙ ap (λ (k : ℕ). Some (content narrow k)) (same_Some y other other_is)
    where
      first_of : List (Option Content) → Option Content
      first_of [] = None
      first_of (c ∷ cs) = c
  port-in (x ∷ xs) (y ∷ ys) (suc place) one other equal is other_is = port-in xs ys place one other (ap (λ (cs : List (Option Content)). rest_of cs) equal) is other_is
    where
      rest_of : List (Option Content) → List (Option Content)
      rest_of [] = []
      rest_of (c ∷ cs) = cs

  alike-at : (one other : ℕ) (object with : Object) → ArePaired wide narrow p one other → wide.objects one ≡ Some object → narrow.objects other ≡ Some with → IsAs narrow p object with
  alike-at one other object with pair one_is other_is =
      subst (λ (o : Object). IsAs narrow p o with) (same_Some _ _ (sym pair.one_stands ∙ one_is))
      (subst (λ (o : Object). IsAs narrow p pair.one o) (same_Some _ _ (sym pair.other_stands ∙ other_is)) pair.alike)

  -- all that is reached is paired
  pub reached-in : (link : Link) → IsReached wide narrow link → IsIn p link
  reached-in link (ByVariable variable one other one_is other_is) =
      same_Some _ _ (sym (ap (option_map p.object) one_is) ∙ cover.variables variable ∙ ap (option_map Some) other_is)
  reached-in link (ByRegister register one other one_is other_is) =
      same_Some _ _ (sym (ap (option_map p.value) one_is) ∙ cover.registers register ∙ ap (option_map (λ key. Some (content narrow key))) other_is)
  reached-in link (ByPort place one other one_is other_is) = port-in wide.ports narrow.ports place one other cover.ports one_is other_is
  reached-in link (ByEdge one other object with edge holds before one_is other_is live among held) =
      let like = alike-at one other object with (cover.objects one other (reached-in (Objects one other) before)) one_is other_is in
      let has = all-at (HasPartner narrow p (node_of with)) (node_of object).edges edge among (like.alike live).edges in
      has.paired ∙ sym has.held ∙ held
  reached-in link (ByNext one other object with links other_links before one_is other_is links_is other_links_is) =
      ((alike-at one other object with (cover.objects one other (reached-in (Objects one other) before)) one_is other_is).ends links other_links links_is other_links_is).next
  reached-in link (ByPrev one other object with links other_links before one_is other_is links_is other_links_is) =
      ((alike-at one other object with (cover.objects one other (reached-in (Objects one other) before)) one_is other_is).ends links other_links links_is other_links_is).prev
  reached-in link (ByAddress key one other offset offset' target target' before is) =
      let at = cover.values key (Leads other offset target) (reached-in (Values key (Leads other offset target)) before) in
      let fits = subst (λ (v : Value). Fits narrow p v (Leads other offset target)) (same_Some _ _ (sym at.stands ∙ is)) at.fits in
      fits.paired ∙ ap (λ (c : Content). Some (leads_to c)) (sym fits.is)

  -- so nothing that is reached has two partners
  pub no-two-partners : (one other next : ℕ) → IsReached wide narrow (Objects one other) → IsReached wide narrow (Objects one next) → other ≡ next
  no-two-partners one other next first second = same_Some _ _ (sym (reached-in (Objects one other) first) ∙ reached-in (Objects one next) second)

  pub no-two-owners : (one next other : ℕ) → IsReached wide narrow (Objects one other) → IsReached wide narrow (Objects next other) → one ≡ next
  no-two-owners one next other first second =
      same_Some _ _ (sym (cover.there one other (reached-in (Objects one other) first)) ∙ cover.there next other (reached-in (Objects next other) second))

  pub no-two-contents : (key : ℕ) (one other : Content) → IsReached wide narrow (Values key one) → IsReached wide narrow (Values key other) → one ≡ other
  no-two-contents key one other first second = same_Some _ _ (sym (reached-in (Values key one) first) ∙ reached-in (Values key other) second)

  -- and a pairing of reached links alone lies within each that covers
  pub fits-at-reached : (key : ℕ) (c : Content) → IsReached wide narrow (Values key c) → FitsAt wide narrow p key c
  fits-at-reached key c reached = cover.values key c (reached-in (Values key c) reached)

  pub paired-at-reached : (one other : ℕ) → IsReached wide narrow (Objects one other) → ArePaired wide narrow p one other
  paired-at-reached one other reached = cover.objects one other (reached-in (Objects one other) reached)
