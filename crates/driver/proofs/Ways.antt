-- Each kept entry of a trail has its own walk, where no post has more than one graph.
use Rattle.std.proofs.Common.{◌≡◌, ℕ, zero, suc, ◌+◌, ◌<◌, ◌≤◌, Bool, true, false, cond, filter, not, ◌&&◌, List, [], ◌∷◌, ◌++◌, Option, None, Some, take, length, refl, sym, ◌∙◌, ap, subst, ◌⊎◌, inl, inr, nat_eq, arith}
use Rattle.std.specs.Prelude.{slice_get, Contains}
use Rattle.std.proofs.lemmas.Bool.{false≢true, cases_lt, eq-eqb}
use Rattle.std.proofs.lemmas.Option.{slice_get_within}
use Rattle.graph.specs.declared.post.Post.{Post}
use Rattle.coarse.specs.Coarsened.{is_coarse}
use Rattle.flow.specs.declared.flow_graph.Flow.{Flow}
use Rattle.flow.specs.declared.flow_graph.FlowEdge.{FlowEdge}
use Rattle.flow.specs.declared.instruction.Instr.{Instr}
use Rattle.flow.specs.declared.instruction.Instr.TheVariants.{Number, Address, Move, Read, Write, Shift, ShiftBy, Compute, Convert, IfSame, IfDifferent, Allocate, AllocateNone, Release, Fill, Copy, Enter, Leave, Finish, Input, Call, Return, Close}
use Rattle.flow.specs.InRange.{entry_of}
use Rattle.flow.specs.Walks.{is_return, IsStep, IsWalk, AreDistinct}
use Rattle.trail.specs.declared.trail.Cause.{Cause}
use Rattle.trail.specs.declared.trail.Cause.TheVariants.{Start, Step, Fold, Coarse}
use Rattle.trail.specs.declared.trail.Entry.{Entry}
use Rattle.trail.specs.Seen.{is_ordinary}
use Rattle.trail.specs.Analysis.{IsFold, IsCoarse, IsPost}
use Rattle.trail.specs.Trail.{At, IsMadeOf, Made, IsResult, AreHonest}
use Rattle.trail.proofs.Sound.{same_some}
use Rattle.driver.specs.Chains.{IsFromEarlier, AreFromEarlier}
use Rattle.driver.specs.Driven.{driven, widening}
use Rattle.driver.specs.Growing.{kept_count}

Contains-none : {A : Type 0} (x : List ℕ) → Contains [] x → A
Contains-none x (place, below, is) = absurd (omega arith)

Contains-cases : (x y : List ℕ) (xs : List (List ℕ)) → Contains (x ∷ xs) y → (x ≡ y) ⊎ Contains xs y
Contains-cases x y xs (zero, below, is) = inl is
Contains-cases x y xs (suc place, below, is) = inr (place, omega arith, is)

-- an entry is made of another one
abbrev pub IsMadeFrom : List Entry → ℕ → ℕ → Type 0
IsMadeFrom trail from number = (entry : Entry) × At trail number entry × ((entry.cause ≡ Fold from) ⊎ (entry.cause ≡ Coarse from))

-- one after the other is made of the one before it
pub data Comes (trail : List Entry) : ℕ → ℕ → Type 0 where
  ComesHere : (base number : ℕ) → number ≡ base → Comes trail base number
  ComesMade : (base next number : ℕ) → IsMadeFrom trail base next → Comes trail next number → Comes trail base number

comes_on : (trail : List Entry) (base between number : ℕ) → Comes trail base between → IsMadeFrom trail between number → Comes trail base number
comes_on trail base between number (ComesHere _ _ same) made = ComesMade base number number (subst (λ (n : ℕ). IsMadeFrom trail n number) same made) (ComesHere number number refl)
comes_on trail base between number (ComesMade _ next _ first later) made = ComesMade base next number first (comes_on trail next between number later made)

-- the edges of the steps that lead to an entry, from main's start on
pub data Way (trail : List Entry) : ℕ → List ℕ → Type 0 where
  WayStart : (number : ℕ) (whole : List ℕ) (entry : Entry) → whole ≡ [] → At trail number entry → entry.cause ≡ Start → Way trail number whole
  WayStep : (number : ℕ) (whole : List ℕ) (base from edge result : ℕ) (loss : Option ℕ) (entry : Entry) (way : List ℕ) → whole ≡ way ++ edge ∷ [] → At trail number entry →
      entry.cause ≡ Step from edge result loss → Way trail base way → Comes trail base from → Way trail number whole

pub record HasWay (trail : List Entry) (number : ℕ) : Type 0 where
  pub way : List ℕ
  pub base : ℕ
  pub is : Way trail base way
  pub comes : Comes trail base number

there_within : (trail : List Entry) (number : ℕ) → number < length trail → (entry : Entry) × At trail number entry
there_within [] number less = absurd (omega arith)
there_within (first ∷ rest) zero less = (first, refl)
there_within (first ∷ rest) (suc number) less = there_within rest number (omega arith)

has_way_below : (trail : List Entry) → AreFromEarlier trail → (fuel number : ℕ) → number < fuel → number < length trail → HasWay trail number
has_way_below trail earlier zero number less within = absurd (omega arith)
has_way_below trail earlier (suc fuel) number less within =
    let (entry, there) = there_within trail number within in by_cause entry there entry.cause refl (λ from before. has_way_below trail earlier fuel from (omega arith) (omega arith))
  where
    by_cause : (entry : Entry) → At trail number entry → (cause : Cause) → entry.cause ≡ cause → ((from : ℕ) → from < number → HasWay trail from) → HasWay trail number
    by_cause entry there Start is so_far = record { way = []; base = number; is = WayStart number [] entry refl there is; comes = ComesHere number number refl }
    by_cause entry there (Step from edge result loss) is so_far =
        let before : from < number = subst (λ (c : Cause). IsFromEarlier c number) is (earlier.each number entry there) in
        let so : HasWay trail from = so_far from before in
        record {
          way = so.way ++ edge ∷ [];
          base = number;
          is = WayStep number (so.way ++ edge ∷ []) so.base from edge result loss entry so.way refl there is so.is so.comes;
          comes = ComesHere number number refl;
        }
    by_cause entry there (Fold from) is so_far =
        let before : from < number = subst (λ (c : Cause). IsFromEarlier c number) is (earlier.each number entry there) in
        let so : HasWay trail from = so_far from before in
        record { way = so.way; base = so.base; is = so.is; comes = comes_on trail so.base from number so.comes (entry, there, inl is) }
    by_cause entry there (Coarse from) is so_far =
        let before : from < number = subst (λ (c : Cause). IsFromEarlier c number) is (earlier.each number entry there) in
        let so : HasWay trail from = so_far from before in
        record { way = so.way; base = so.base; is = so.is; comes = comes_on trail so.base from number so.comes (entry, there, inr is) }

pub has_way : (trail : List Entry) → AreFromEarlier trail → (number : ℕ) → number < length trail → HasWay trail number
has_way trail earlier number within = has_way_below trail earlier (suc number) number (omega arith) within

-- it is a walk
goes_on : (edges : List FlowEdge) (from number : ℕ) (walk : List ℕ) (to after : ℕ) → IsWalk edges from walk to → IsStep edges to number after → IsWalk edges from (walk ++ number ∷ []) after
goes_on edges from number [] to after walk step = (after, subst (λ (p : ℕ). IsStep edges p number after) (sym walk) step, refl)
goes_on edges from number (first ∷ rest) to after (middle, first_step, later) step = (middle, first_step, goes_on edges middle number rest to after later step)

no_return : (instr : Instr) → is_ordinary instr ≡ true → is_return instr ≡ false
no_return (Number into number size) is = refl
no_return (Address into variable) is = refl
no_return (Move into from) is = refl
no_return (Read into at size pointer) is = refl
no_return (Write at from size) is = refl
no_return (Shift into at by) is = refl
no_return (ShiftBy into at by scale) is = refl
no_return (Compute into op one other size signed) is = refl
no_return (Convert into from size signed) is = refl
no_return (IfSame one other) is = refl
no_return (IfDifferent one other) is = refl
no_return (Allocate into bytes zeroed) is = refl
no_return (AllocateNone into) is = refl
no_return (Release at) is = refl
no_return (Fill at from length) is = refl
no_return (Copy to from length disjoint) is = refl
no_return (Enter variables) is = refl
no_return (Leave variables) is = refl
no_return (Finish registers) is = refl
no_return (Input into size signed truth) is = refl
no_return (Call function arguments into) is = refl
no_return (Return from) is = absurd cc
no_return Close is = refl

and_both : (a b : Bool) → a ≡ true → b ≡ true → (a && b) ≡ true
and_both a b x y = cc

at_front : (items : List Entry) (count number : ℕ) (item : Entry) → At (take count items) number item → (number < count) × At items number item
at_front items zero number item there = absurd cc
at_front [] (suc count) number item there = absurd cc
at_front (first ∷ rest) (suc count) zero item there = (omega arith, there)
at_front (first ∷ rest) (suc count) (suc number) item there = let (less, there') = at_front rest count number item there in (omega arith, there')

at_take : (items : List Entry) (count number : ℕ) (item : Entry) → number < count → At items number item → At (take count items) number item
at_take items zero number item less there = absurd (omega arith)
at_take [] (suc count) number item less there = absurd cc
at_take (first ∷ rest) (suc count) zero item less there = there
at_take (first ∷ rest) (suc count) (suc number) item less there = at_take rest count number item (omega arith) there

snoc_same : (xs ys : List ℕ) (a b : ℕ) → xs ++ a ∷ [] ≡ ys ++ b ∷ [] → (xs ≡ ys) × (a ≡ b)
snoc_same [] [] a b same = (refl, cc)
snoc_same [] (y ∷ []) a b same = absurd cc
snoc_same [] (y ∷ z ∷ ys) a b same = absurd cc
snoc_same (x ∷ []) [] a b same = absurd cc
snoc_same (x ∷ z ∷ xs) [] a b same = absurd cc
snoc_same (x ∷ xs) (y ∷ ys) a b same =
    let tails : xs ++ a ∷ [] ≡ ys ++ b ∷ [] = cc in
    let heads : x ≡ y = cc in
    let (front, last) = snoc_same xs ys a b tails in (ap (λ (z : ℕ). z ∷ xs) heads ∙ ap (λ (zs : List ℕ). y ∷ zs) front, last)

not_empty : {A : Type 0} (xs : List ℕ) (a : ℕ) → [] ≡ xs ++ a ∷ [] → A
not_empty [] a same = absurd cc
not_empty (x ∷ xs) a same = absurd cc

module _ (flow : Flow) (limit : ℕ) (trail : List Entry) (honest : AreHonest driven (widening limit) flow trail) where
  made_there : (number : ℕ) (entry : Entry) (cause : Cause) → At trail number entry → entry.cause ≡ cause → Made driven (widening limit) flow (take number trail) entry cause
  made_there number entry cause there is = subst (Made driven (widening limit) flow (take number trail) entry) is (honest number entry there).made

  -- what is made of an entry stands at its point, and the entry is not kept
  record IsMadeHere (one after : Entry) : Type 0 where
    unkept : one.kept ≡ false
    stays : after.point ≡ one.point

  made_here : (from number : ℕ) (made : IsMadeFrom trail from number) (one : Entry) → At trail from one → IsMadeHere one made.0
  made_here from number (entry, there, inl is) one at =
      let made : IsMadeOf (IsFold (widening limit)) flow (take number trail) entry from = made_there number entry (Fold from) there is in
      let (less, at') = at_front trail number from made.earlier made.there in
      let same : made.earlier ≡ one = same_some made.earlier one (sym at' ∙ at) in
      record { unkept = ap (λ (e : Entry). e.kept) (sym same) ∙ made.unkept; stays = made.stays ∙ ap (λ (e : Entry). e.point) same }
  made_here from number (entry, there, inr is) one at =
      let made : IsMadeOf (IsCoarse (widening limit)) flow (take number trail) entry from = made_there number entry (Coarse from) there is in
      let (less, at') = at_front trail number from made.earlier made.there in
      let same : made.earlier ≡ one = same_some made.earlier one (sym at' ∙ at) in
      record { unkept = ap (λ (e : Entry). e.kept) (sym same) ∙ made.unkept; stays = made.stays ∙ ap (λ (e : Entry). e.point) same }

  -- where constants are forgotten nothing is folded
  not_both : {A : Type 0} (from one other : ℕ) (entry entry' : Entry) → At trail one entry → At trail other entry' → entry.cause ≡ Fold from → entry'.cause ≡ Coarse from → A
  not_both from one other entry entry' there there' is is' =
      let fold : IsMadeOf (IsFold (widening limit)) flow (take one trail) entry from = made_there one entry (Fold from) there is in
      let coarse : IsMadeOf (IsCoarse (widening limit)) flow (take other trail) entry' from = made_there other entry' (Coarse from) there' is' in
      let (less, at) = at_front trail one from fold.earlier fold.there in
      let (less', at') = at_front trail other from coarse.earlier coarse.there in
      let same : fold.earlier ≡ coarse.earlier = same_some fold.earlier coarse.earlier (sym at ∙ at') in
      let yes : is_coarse limit coarse.earlier.graph ≡ true = subst (λ (e : Entry). is_coarse limit e.graph ≡ true) same fold.is.coarse in
      absurd (false≢true (sym coarse.is.holds ∙ yes))

  comes_point : (base number : ℕ) → Comes trail base number → (one entry : Entry) → At trail base one → At trail number entry → entry.point ≡ one.point
  comes_point base number (ComesHere _ _ same) one entry at there = ap (λ (e : Entry). e.point) (same_some entry one (sym there ∙ (ap (λ (n : ℕ). slice_get trail n) same ∙ at)))
  comes_point base number (ComesMade _ next _ made later) one entry at there =
      comes_point next number later made.0 entry made.1 there ∙ (made_here base next made one at).stays

  not_kept : {A : Type 0} (base next : ℕ) (one : Entry) → IsMadeFrom trail base next → At trail base one → one.kept ≡ true → A
  not_kept base next one made at kept = absurd (false≢true (sym (made_here base next made one at).unkept ∙ kept))

  -- no two entries have one cause
  same_cause : (one other : ℕ) (entry entry' : Entry) → At trail one entry → At trail other entry' → entry.cause ≡ entry'.cause → one ≡ other
  same_cause one other entry entry' there there' same = elim (cases_lt one other) [
    | inl less ↦ absurd ((honest other entry' there').new one entry (at_take trail other one entry less there) same)
    | inr late ↦ elim (cases_lt other one) [
      | inl less ↦ absurd ((honest one entry there).new other entry' (at_take trail one other entry' less there') (sym same))
      | inr late' ↦ omega arith
    ]
  ]

  -- nor are two made of one
  one_made : (from one other : ℕ) → IsMadeFrom trail from one → IsMadeFrom trail from other → one ≡ other
  one_made from one other (entry, there, inl is) (entry', there', inl is') = same_cause one other entry entry' there there' (is ∙ sym is')
  one_made from one other (entry, there, inl is) (entry', there', inr is') = not_both from one other entry entry' there there' is is'
  one_made from one other (entry, there, inr is) (entry', there', inl is') = not_both from other one entry' entry there' there is' is
  one_made from one other (entry, there, inr is) (entry', there', inr is') = same_cause one other entry entry' there there' (is ∙ sym is')

  -- so one kept entry at most comes of an entry
  pub same_end : (base one other : ℕ) → Comes trail base one → Comes trail base other → (entry entry' : Entry) → At trail one entry → At trail other entry' → entry.kept ≡ true → entry'.kept ≡ true → one ≡ other
  same_end base one other (ComesHere _ _ same) (ComesHere _ _ same') entry entry' there there' kept kept' = same ∙ sym same'
  same_end base one other (ComesHere _ _ same) (ComesMade _ next _ made later) entry entry' there there' kept kept' =
      not_kept base next entry made (ap (λ (n : ℕ). slice_get trail n) (sym same) ∙ there) kept
  same_end base one other (ComesMade _ next _ made later) (ComesHere _ _ same) entry entry' there there' kept kept' =
      not_kept base next entry' made (ap (λ (n : ℕ). slice_get trail n) (sym same) ∙ there') kept'
  same_end base one other (ComesMade _ next _ made later) (ComesMade _ next' _ made' later') entry entry' there there' kept kept' =
      let same : next' ≡ next = one_made base next' next made' made in
      same_end next one other later (subst (λ (n : ℕ). Comes trail n other) same later') entry entry' there there' kept kept'

  entry_at : (number : ℕ) (way : List ℕ) → Way trail number way → (entry : Entry) × At trail number entry
  entry_at number way (WayStart _ _ entry empty there is) = (entry, there)
  entry_at number way (WayStep _ _ base from edge result loss entry before is_way there is so comes) = (entry, there)

  pub way_walks : (number : ℕ) (way : List ℕ) → Way trail number way → (entry : Entry) → At trail number entry → IsWalk flow.edges (entry_of flow flow.main) way entry.point
  way_walks number way (WayStart _ _ first empty there is) entry there' =
      let one : first ≡ entry = same_some first entry (sym there ∙ there') in
      let made = made_there number entry Start there' (ap (λ (e : Entry). e.cause) (sym one) ∙ is) in
      subst (λ (w : List ℕ). IsWalk flow.edges (entry_of flow flow.main) w entry.point) (sym empty) (sym made.0)
  way_walks number way (WayStep _ _ base from edge result loss last before is_way there is so comes) entry there' =
      let one : last ≡ entry = same_some last entry (sym there ∙ there') in
      let made : IsResult driven flow (take number trail) entry from edge result loss = made_there number entry (Step from edge result loss) there' (ap (λ (e : Entry). e.cause) (sym one) ∙ is) in
      let (less, at) = at_front trail number from made.earlier made.there in
      let (first, at_base) = entry_at base before so in
      let points : made.earlier.point ≡ first.point = comes_point base from comes first made.earlier at_base at in
      let walk : IsWalk flow.edges (entry_of flow flow.main) before made.earlier.point =
      subst (λ (p : ℕ). IsWalk flow.edges (entry_of flow flow.main) before p) (sym points) (way_walks base before so first at_base) in
      subst (λ (w : List ℕ). IsWalk flow.edges (entry_of flow flow.main) w entry.point) (sym is_way)
      (goes_on flow.edges (entry_of flow flow.main) edge before made.earlier.point entry.point walk (record {
        edge = made.edge;
        stands = made.stands;
        goes = and_both (nat_eq made.edge.from made.earlier.point) (not (is_return made.edge.instr)) (eq-eqb made.edge.from made.earlier.point made.leaves)
            (ap not (no_return made.edge.instr made.ordinary));
        leads = sym made.arrives;
      }))

  -- what leads to an entry is a walk to its point
  pub has_walk : (number : ℕ) (entry : Entry) → At trail number entry → (base : ℕ) (way : List ℕ) → Way trail base way → Comes trail base number → IsWalk flow.edges (entry_of flow flow.main) way entry.point
  has_walk number entry there base way so comes =
      let (first, at_base) = entry_at base way so in
      subst (λ (p : ℕ). IsWalk flow.edges (entry_of flow flow.main) way p) (sym (comes_point base number comes first entry at_base there)) (way_walks base way so first at_base)

  module _ (single : (at number : ℕ) (entry : Entry) (edge : FlowEdge) (post : Post) → at + 1 < length trail → At trail at entry → slice_get flow.edges number ≡ Some edge → edge.from ≡ entry.point →
      IsPost driven flow number entry.graph post → length post.graphs ≤ 1)
      (losses : (number : ℕ) (entry : Entry) (post other : Post) → IsPost driven flow number entry.graph post → IsPost driven flow number entry.graph other → post.loss ≡ other.loss) where
    pub same_way : (one : ℕ) (way : List ℕ) → Way trail one way → (other : ℕ) (way' : List ℕ) → Way trail other way' → way ≡ way' → one ≡ other
    same_way one way (WayStart _ _ entry empty there is) other way' (WayStart _ _ entry' empty' there' is') same = same_cause one other entry entry' there there' (is ∙ sym is')
    same_way one way (WayStart _ _ entry empty there is) other way' (WayStep _ _ base from edge result loss entry' before is_way there' is' so comes) same =
        not_empty before edge (sym empty ∙ (same ∙ is_way))
    same_way one way (WayStep _ _ base from edge result loss entry before is_way there is so comes) other way' (WayStart _ _ entry' empty' there' is') same =
        not_empty before edge (sym empty' ∙ (sym same ∙ is_way))
    same_way one way (WayStep _ _ base from edge result loss entry before is_way there is so comes) other way' (WayStep _ _ base' from' edge' result' loss' entry' before' is_way' there' is' so' comes') same =
        let (fronts, edges) = snoc_same before before' edge edge' (sym is_way ∙ (same ∙ is_way')) in
        let bases : base ≡ base' = same_way base before so base' before' so' fronts in
        let made : IsResult driven flow (take one trail) entry from edge result loss = made_there one entry (Step from edge result loss) there is in
        let made' : IsResult driven flow (take other trail) entry' from' edge' result' loss' = made_there other entry' (Step from' edge' result' loss') there' is' in
        let (less, at) = at_front trail one from made.earlier made.there in
        let (less', at') = at_front trail other from' made'.earlier made'.there in
        let froms : from ≡ from' = same_end base from from' comes (subst (λ (n : ℕ). Comes trail n from') (sym bases) comes') made.earlier made'.earlier at at' made.kept made'.kept in
        let earlier : made'.earlier ≡ made.earlier = same_some made'.earlier made.earlier (sym at' ∙ (ap (λ (n : ℕ). slice_get trail n) (sym froms) ∙ at)) in
        let post' : IsPost driven flow edge made.earlier.graph made'.post =
        subst (λ (n : ℕ). IsPost driven flow n made.earlier.graph made'.post) (sym edges) (subst (λ (e : Entry). IsPost driven flow edge' e.graph made'.post) earlier made'.is) in
        let inside : one < length trail = slice_get_within trail one entry there in
        let first : result < length made.post.graphs = slice_get_within made.post.graphs result entry.graph made.graph in
        let first' : result' < length made'.post.graphs = slice_get_within made'.post.graphs result' entry'.graph made'.graph in
        let few : length made.post.graphs ≤ 1 = single from edge made.earlier made.edge made.post (omega arith) at made.stands made.leaves made.is in
        let few' : length made'.post.graphs ≤ 1 = single from edge made.earlier made.edge made'.post (omega arith) at made.stands made.leaves post' in
        let results : result ≡ result' = omega arith in
        let named : loss ≡ loss' = sym made.loss_is ∙ (losses edge made.earlier made.post made'.post made.is post' ∙ made'.loss_is) in
        same_cause one other entry entry' there there' (is ∙ (causes from from' edge edge' result result' loss loss' froms edges results named ∙ sym is'))
      where
        causes : (a b c d e f : ℕ) (g h : Option ℕ) → a ≡ b → c ≡ d → e ≡ f → g ≡ h → Step a c e g ≡ Step b d f h
        causes a b c d e f g h one two three four = cc

-- the kept ones among the first so many entries
abbrev pub kept_at : Option Entry → ℕ
kept_at None = 0
kept_at (Some entry) = kept_count (entry ∷ [])

abbrev pub kept_below : List Entry → ℕ → ℕ
kept_below trail zero = 0
kept_below trail (suc count) = kept_below trail count + kept_at (slice_get trail count)

kept_first : (first : Entry) (rest : List Entry) → kept_count (first ∷ rest) ≡ kept_count (first ∷ []) + kept_count rest
kept_first first rest = by_kept first.kept
  where
    by_kept : (kept : Bool) → length (cond kept (first ∷ filter (λ entry. entry.kept) rest) (filter (λ entry. entry.kept) rest)) ≡ length (cond kept (first ∷ []) []) + length (filter (λ entry. entry.kept) rest)
    by_kept true = omega arith
    by_kept false = omega arith

below_first : (first : Entry) (rest : List Entry) (count : ℕ) → kept_below (first ∷ rest) (suc count) ≡ kept_count (first ∷ []) + kept_below rest count
below_first first rest zero = omega arith
below_first first rest (suc count) = ap (λ (n : ℕ). n + kept_at (slice_get rest count)) (below_first first rest count) ∙ omega arith

pub kept_all : (trail : List Entry) → kept_below trail (length trail) ≡ kept_count trail
kept_all [] = refl
kept_all (first ∷ rest) = below_first first rest (length rest) ∙ (ap (λ (n : ℕ). kept_count (first ∷ []) + n) (kept_all rest) ∙ sym (kept_first first rest))

-- a kept entry with its way
pub record HasKeptWay (trail : List Entry) (count : ℕ) (way : List ℕ) : Type 0 where
  pub number : ℕ
  pub below : number < count
  pub entry : Entry
  pub there : At trail number entry
  pub kept : entry.kept ≡ true
  pub base : ℕ
  pub is : Way trail base way
  pub comes : Comes trail base number

-- as many walks as kept entries
pub record AreWays (trail : List Entry) (count : ℕ) (ways : List (List ℕ)) : Type 0 where
  pub long : length ways ≡ kept_below trail count
  pub distinct : AreDistinct ways
  pub each : (way : List ℕ) → Contains ways way → HasKeptWay trail count way

still_below : (trail : List Entry) (count : ℕ) (way : List ℕ) → HasKeptWay trail count way → HasKeptWay trail (suc count) way
still_below trail count way has = record {
  number = has.number;
  below = let less : has.number < count = has.below in omega arith;
  entry = has.entry;
  there = has.there;
  kept = has.kept;
  base = has.base;
  is = has.is;
  comes = has.comes;
}

-- the ways of the kept ones among the first so many entries, and of one more
module _ (trail : List Entry) (earlier : AreFromEarlier trail)
    (same : (way : List ℕ) (count other : ℕ) (one : HasKeptWay trail count way) (two : HasKeptWay trail other way) → one.number ≡ two.number) where
  one_kept : (entry : Entry) → entry.kept ≡ true → kept_count (entry ∷ []) ≡ 1
  one_kept entry kept = ap (λ (b : Bool). length (cond b (entry ∷ []) [])) kept

  none_kept : (entry : Entry) → entry.kept ≡ false → kept_count (entry ∷ []) ≡ 0
  none_kept entry kept = ap (λ (b : Bool). length (cond b (entry ∷ []) [])) kept

  one_more : (count : ℕ) → count < length trail → (entry : Entry) → At trail count entry → (kept : Bool) → entry.kept ≡ kept → (ways : List (List ℕ)) → AreWays trail count ways →
      (all : List (List ℕ)) × AreWays trail (suc count) all
  one_more count within entry there false is ways so = (
    ways,
    record {
      long = let none : kept_count (entry ∷ []) ≡ 0 = none_kept entry is in
          let here : kept_at (slice_get trail count) ≡ kept_count (entry ∷ []) = ap kept_at there in
          let long : length ways ≡ kept_below trail count = so.long in omega (arith, none, here, long);
      distinct = so.distinct;
      each = λ way among. still_below trail count way (so.each way among);
    },
  )
  one_more count within entry there true is ways so =
      let has : HasWay trail count = has_way trail earlier count within in
      let here : HasKeptWay trail (suc count) has.way =
      record { number = count; below = omega arith; entry = entry; there = there; kept = is; base = has.base; is = has.is; comes = has.comes } in (
        has.way ∷ ways,
        record {
          long = let one : kept_count (entry ∷ []) ≡ 1 = one_kept entry is in
              let there' : kept_at (slice_get trail count) ≡ kept_count (entry ∷ []) = ap kept_at there in
              let long : length ways ≡ kept_below trail count = so.long in omega (arith, one, there', long);
          distinct = (
            λ among. let old : HasKeptWay trail count has.way = so.each has.way among in
                let equal : old.number ≡ count = same has.way count (suc count) old here in
                let less : old.number < count = old.below in absurd (omega arith),
            so.distinct,
          );
          each = λ way among. elim (Contains-cases has.way way ways among) [
            | inl one ↦ subst (λ (w : List ℕ). HasKeptWay trail (suc count) w) one here
            | inr old ↦ still_below trail count way (so.each way old)
          ];
        },
      )

  pub ways_below : (count : ℕ) → count ≤ length trail → (ways : List (List ℕ)) × AreWays trail count ways
  ways_below zero within = ([], record { long = refl; distinct = tt; each = λ way among. Contains-none way among })
  ways_below (suc count) within =
      let (entry, there) = there_within trail count (omega arith) in
      let (ways, so) = ways_below count (omega arith) in
      one_more count (omega arith) entry there entry.kept refl ways so

-- a list without what stands at a place
abbrev without_at : List (List ℕ) → ℕ → List (List ℕ)
without_at [] place = []
without_at (first ∷ rest) zero = rest
without_at (first ∷ rest) (suc place) = first ∷ without_at rest place

shorter : (items : List (List ℕ)) (place : ℕ) → place < length items → length items ≡ suc (length (without_at items place))
shorter [] place less = absurd (omega arith)
shorter (first ∷ rest) zero less = refl
shorter (first ∷ rest) (suc place) less = ap suc (shorter rest place (omega arith))

record IsIn (items : List (List ℕ)) (item : List ℕ) : Type 0 where
  place : ℕ
  there : slice_get items place ≡ Some item

still : (items : List (List ℕ)) (place : ℕ) (gone item : List ℕ) → slice_get items place ≡ Some gone → (item ≡ gone → ⊥) → IsIn items item → IsIn (without_at items place) item
still [] place gone item is other so = absurd cc
still (first ∷ rest) zero gone item is other so = by_place so.place so.there
  where
    by_place : (at : ℕ) → slice_get (first ∷ rest) at ≡ Some item → IsIn rest item
    by_place zero there = absurd (other (sym (same_some first item there) ∙ same_some first gone is))
    by_place (suc at) there = record { place = at; there = there }
still (first ∷ rest) (suc place) gone item is other so = by_place so.place so.there (λ within. still rest place gone item is other within)
  where
    by_place : (at : ℕ) → slice_get (first ∷ rest) at ≡ Some item → (IsIn rest item → IsIn (without_at rest place) item) → IsIn (first ∷ without_at rest place) item
    by_place zero there onward = record { place = 0; there = there }
    by_place (suc at) there onward = let later = onward (record { place = at; there = there }) in record { place = suc later.place; there = later.there }

-- as many are among others only where these are as many
no_longer : (xs ys : List (List ℕ)) → AreDistinct xs → ((x : List ℕ) → Contains xs x → IsIn ys x) → length xs ≤ length ys
no_longer [] ys distinct each = omega arith
no_longer (x ∷ xs) ys (new, distinct) each =
    let here : IsIn ys x = each x (0, omega arith, refl) in
    let less : length xs ≤ length (without_at ys here.place) = no_longer xs (without_at ys here.place) distinct (λ item among.
    still ys here.place x item here.there (λ same. new (subst (λ (w : List ℕ). Contains xs w) same among)) (each item (later x xs item among))) in
    let one : length ys ≡ suc (length (without_at ys here.place)) = shorter ys here.place (slice_get_within ys here.place x here.there) in
    omega (arith, one)
  where
    later : (x : List ℕ) (xs : List (List ℕ)) (item : List ℕ) → Contains xs item → Contains (x ∷ xs) item
    later x xs item (place, below, is) = (suc place, omega arith, is)

in_of : (items : List (List ℕ)) (item : List ℕ) → Contains items item → IsIn items item
in_of [] item (place, below, is) = absurd (omega arith)
in_of (first ∷ rest) item (zero, below, is) = record { place = 0; there = ap (λ (w : List ℕ). Some w) is }
in_of (first ∷ rest) item (suc place, below, is) = let so = in_of rest item (place, omega arith, is) in record { place = suc so.place; there = so.there }

-- so there are no more kept entries than walks
pub no_more_entries : (flow : Flow) (limit : ℕ) (trail : List Entry) (walks : List (List ℕ)) → AreHonest driven (widening limit) flow trail → AreFromEarlier trail →
    ((at number : ℕ) (entry : Entry) (edge : FlowEdge) (post : Post) → at + 1 < length trail → At trail at entry → slice_get flow.edges number ≡ Some edge → edge.from ≡ entry.point →
    IsPost driven flow number entry.graph post → length post.graphs ≤ 1) →
    ((number : ℕ) (entry : Entry) (post other : Post) → IsPost driven flow number entry.graph post → IsPost driven flow number entry.graph other → post.loss ≡ other.loss) →
    ((walk : List ℕ) (to : ℕ) → IsWalk flow.edges (entry_of flow flow.main) walk to → Contains walks walk) → kept_count trail ≤ length walks
no_more_entries flow limit trail walks honest earlier single losses all =
    let (ways, so) = ways_below trail earlier same (length trail) (omega arith) in
    let few : length ways ≤ length walks = no_longer ways walks so.distinct (λ way among.
    let has : HasKeptWay trail (length trail) way = so.each way among in
    in_of walks way (all way has.entry.point (has_walk flow limit trail honest has.number has.entry has.there has.base way has.is has.comes))) in
    let long : length ways ≡ kept_below trail (length trail) = so.long in
    let count : kept_below trail (length trail) ≡ kept_count trail = kept_all trail in
    omega (arith, long, count)
  where
    same : (way : List ℕ) (count other : ℕ) (one : HasKeptWay trail count way) (two : HasKeptWay trail other way) → one.number ≡ two.number
    same way count other one two =
        let bases : one.base ≡ two.base = same_way flow limit trail honest single losses one.base way one.is two.base way two.is refl in
        same_end flow limit trail honest one.base one.number two.number one.comes (subst (λ (n : ℕ). Comes trail n two.number) (sym bases) two.comes) one.entry two.entry one.there two.there one.kept two.kept
