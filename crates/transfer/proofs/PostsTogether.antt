-- Several posts together: their graphs, their kinds, and what their loss says of each.
use Rattle.std.proofs.Common.{◌≡◌, ℕ, suc, ◌-◌, ◌<◌, ◌≤◌, Bool, true, false, ◌&&◌, ◌||◌, List, [], ◌∷◌, ◌++◌, map, length, take, drop, slice_index_or, nat_eq, Option, None, Some, ◌⊎◌, inl, inr, refl, sym, ◌∙◌, ap, subst, append-nil, append_assoc, eqb-true, lt-ltb, arith}
use Rattle.std.specs.Prelude.{All, Contains, flat_map, nat_lt, if◌then◌else◌}
use Rattle.std.specs.List.{list_any}
use Rattle.std.specs.Option.{option_map_or}
use Rattle.std.proofs.lemmas.Bool.{false≢true, or_right}
use Rattle.std.proofs.lemmas.Option.{none-some}
use Rattle.std.proofs.lemmas.List.Elements.{All-tail, Contains-append_left, Contains-append_right, Contains-append_cases}
use Rattle.graph.specs.declared.parts.Parts.{Parts}
use Rattle.graph.specs.declared.post.Post.{Post}
use Rattle.graph.proofs.Tests.{and_left}
use Rattle.changes.specs.Posted.{Posted, IsPost}
use Rattle.heap_steps.proofs.Listed.{Contains-first, Contains-later, Contains-cases, Contains-none}
use Rattle.flow.specs.declared.flow_graph.Flow.{Flow}
use Rattle.flow.specs.declared.instruction.Instr.{Instr}
use Rattle.transfer.specs.Posts.{edge_post}
use Rattle.transfer.specs.Settling.{IsPostIn, ArePostsIn, IsMore}
use Rattle.transfer.specs.Together.{posted_of, lesser_loss, least_loss, is_through_any, loss_together, together}
use Rattle.transfer.proofs.KindsTogether.{kind_with}

-- Graphs.

pub graph_with : (posts : List Posted) (posted : Posted) (after : Parts) → Contains posts posted → Contains posted.graphs after → Contains (flat_map (λ (p : Posted). p.graphs) posts) after
graph_with [] posted after among there = absurd (Contains-none posted among)
graph_with (first ∷ rest) posted after among there = by_cases (Contains-cases first posted rest among) (λ later. graph_with rest posted after later there)
  where
    by_cases : (first ≡ posted) ⊎ Contains rest posted → (Contains rest posted → Contains (flat_map (λ (p : Posted). p.graphs) rest) after) → Contains (first.graphs ++ flat_map (λ (p : Posted). p.graphs) rest) after
    by_cases (inl same) later = Contains-append_left first.graphs (flat_map (λ (p : Posted). p.graphs) rest) after (subst (λ (p : Posted). Contains p.graphs after) (sym same) there)
    by_cases (inr within) later = Contains-append_right first.graphs (flat_map (λ (p : Posted). p.graphs) rest) after (later within)

-- a post that has a graph
pub record HasGraph (posts : List Posted) (after : Parts) : Type 0 where
  pub posted : Posted
  pub among : Contains posts posted
  pub has : Contains posted.graphs after

pub graph_from : (posts : List Posted) (after : Parts) → Contains (flat_map (λ (p : Posted). p.graphs) posts) after → HasGraph posts after
graph_from [] after there = absurd (Contains-none after there)
graph_from (first ∷ rest) after there = by_cases (Contains-append_cases first.graphs (flat_map (λ (p : Posted). p.graphs) rest) after there) (λ later. graph_from rest after later)
  where
    by_cases : Contains first.graphs after ⊎ Contains (flat_map (λ (p : Posted). p.graphs) rest) after → (Contains (flat_map (λ (p : Posted). p.graphs) rest) after → HasGraph rest after) → HasGraph (first ∷ rest) after
    by_cases (inl here) later = record { posted = first; among = Contains-first first rest; has = here }
    by_cases (inr within) later = let found = later within in record { posted = found.posted; among = Contains-later first found.posted rest found.among; has = found.has }

-- Losses.

lesser_none : (one other : Option ℕ) → lesser_loss one other ≡ None → (one ≡ None) × (other ≡ None)
lesser_none None other none = (refl, none)
lesser_none (Some one) None none = absurd (none-some one (sym none))
lesser_none (Some one) (Some other) none = absurd (none-some _ (sym none))

least_none : (known : Option ℕ) (posts : List Posted) → least_loss known posts ≡ None → known ≡ None
least_none known [] none = none
least_none known (first ∷ rest) none = (lesser_none known first.loss (least_none (lesser_loss known first.loss) rest none)).0

each_none : (known : Option ℕ) (posts : List Posted) (posted : Posted) → least_loss known posts ≡ None → Contains posts posted → posted.loss ≡ None
each_none known [] posted none among = absurd (Contains-none posted among)
each_none known (first ∷ rest) posted none among = by_cases (Contains-cases first posted rest among) (λ later. each_none (lesser_loss known first.loss) rest posted none later)
  where
    by_cases : (first ≡ posted) ⊎ Contains rest posted → (Contains rest posted → posted.loss ≡ None) → posted.loss ≡ None
    by_cases (inl same) later = ap (λ (p : Posted). p.loss) (sym same) ∙ (lesser_none known first.loss (least_none (lesser_loss known first.loss) rest none)).1
    by_cases (inr within) later = later within

some_any : {X : Type 0} (test : X → Bool) (xs : List X) (x : X) → Contains xs x → test x ≡ true → list_any test xs ≡ true
some_any test [] x among passes = absurd (Contains-none x among)
some_any test (first ∷ rest) x among passes = by_cases (Contains-cases first x rest among) (λ later. some_any test rest x later passes)
  where
    here : (b c : Bool) → b ≡ true → (b || c) ≡ true
    here true c is = refl
    here false c is = absurd (false≢true is)

    there : (b c : Bool) → c ≡ true → (b || c) ≡ true
    there true c is = refl
    there false c is = is

    by_cases : (first ≡ x) ⊎ Contains rest x → (Contains rest x → list_any test rest ≡ true) → (test first || list_any test rest) ≡ true
    by_cases (inl same) later = here (test first) (list_any test rest) (ap test same ∙ passes)
    by_cases (inr within) later = there (test first) (list_any test rest) (later within)

-- no loss of all is none of each
pub none_of_each : (posts : List Posted) (posted : Posted) → loss_together posts ≡ None → Contains posts posted → posted.loss ≡ None
none_of_each posts posted none among = by_any (list_any is_through_any posts) none
  where
    by_any : (b : Bool) → (if b then Some 4 else least_loss None posts) ≡ None → posted.loss ≡ None
    by_any true none' = absurd (none-some 4 (sym none'))
    by_any false none' = each_none None posts posted none' among

-- loss 4 of one, beside a kind, is the loss of all
pub four_of_all : (posts : List Posted) (posted : Posted) (kind : ℕ) → Contains posts posted → posted.loss ≡ Some 4 → Contains posted.kinds kind → loss_together posts ≡ Some 4
four_of_all posts posted kind among four has =
    ap (λ (b : Bool). if b then Some 4 else least_loss None posts) (some_any is_through_any posts posted among passes)
  where
    more : (kinds : List ℕ) → Contains kinds kind → nat_lt 0 (length kinds) ≡ true
    more [] there = absurd (Contains-none kind there)
    more (first ∷ rest) there = lt-ltb 0 (suc (length rest)) (omega arith)

    passes : is_through_any posted ≡ true
    passes = ap (λ (o : Option ℕ). option_map_or (nat_eq 4) o false && nat_lt 0 (length posted.kinds)) four ∙ more posted.kinds has

-- so where that stands beside no kind it does so in each
pub excuse_of_each : (posts : List Posted) (posted : Posted) → ((together posts).loss ≡ Some 4 → (together posts).kinds ≡ []) → Contains posts posted → posted.loss ≡ Some 4 → posted.kinds ≡ []
excuse_of_each posts posted excuse among four = by_kinds posted.kinds refl
  where
    by_kinds : (kinds : List ℕ) → posted.kinds ≡ kinds → posted.kinds ≡ []
    by_kinds [] is = is
    by_kinds (kind ∷ rest) is =
        let has : Contains posted.kinds kind = subst (λ (kinds : List ℕ). Contains kinds kind) (sym is) (Contains-first kind rest) in
        absurd (Contains-none kind (subst (λ (kinds : List ℕ). Contains kinds kind) (excuse (four_of_all posts posted kind among four has)) (kind_with [] posts posted kind among has)))

-- One post is the post of all.

pub together_one : (posted : Posted) → together (posted ∷ []) ≡ posted
together_one posted =
    ap (λ (gs : List Parts). record { graphs = gs; kinds = posted.kinds; loss = loss_together (posted ∷ []) }) (append-nil posted.graphs)
    ∙ ap (λ (l : Option ℕ). record { graphs = posted.graphs; kinds = posted.kinds; loss = l }) (by_any (is_through_any posted) refl)
  where
    by_loss : (loss : Option ℕ) (b : Bool) → (option_map_or (nat_eq 4) loss false && b) ≡ true → Some 4 ≡ loss
    by_loss None b is = absurd (false≢true is)
    by_loss (Some found) b is = ap Some (eqb-true 4 found (and_left (nat_eq 4 found) b is))

    by_any : (b : Bool) → is_through_any posted ≡ b → loss_together (posted ∷ []) ≡ posted.loss
    by_any true is = ap (λ (c : Bool). if c || false then Some 4 else least_loss None (posted ∷ [])) is ∙ by_loss posted.loss (nat_lt 0 (length posted.kinds)) is
    by_any false is = ap (λ (c : Bool). if c || false then Some 4 else least_loss None (posted ∷ [])) is

-- Posts and graphs, one for each.

pub post_same : (posted : Posted) (post : Post) → IsPost posted post → posted_of post ≡ posted
post_same posted post is =
    ap (λ (gs : List Parts). record { graphs = gs; kinds = post.kinds; loss = post.loss }) is.graphs
    ∙ (ap (λ (ks : List ℕ). record { graphs = posted.graphs; kinds = ks; loss = post.loss }) is.kinds
    ∙ ap (λ (l : Option ℕ). record { graphs = posted.graphs; kinds = posted.kinds; loss = l }) is.loss)

take_whole : {A : Type 0} (items : List A) → take (length items) items ≡ items
take_whole [] = refl
take_whole (first ∷ rest) = ap (λ (xs : List _). first ∷ xs) (take_whole rest)

rest_is : {A : Type 0} (first : A) (rest : List A) (count : ℕ) → length (first ∷ rest) ≡ count → take (count - 1) rest ≡ rest
rest_is first rest count is = ap (λ (n : ℕ). take n rest) (let all : suc (length rest) ≡ count = is in let same : count - 1 ≡ length rest = omega arith in same) ∙ take_whole rest

module _ (flow : Flow) (point : ℕ) (instr : Instr) where
  -- the post of a graph
  pub record HasPostIn (posts : List Post) (graph : Parts) : Type 0 where
    pub post : Post
    pub among : Contains (map posted_of posts) (posted_of post)
    pub is : IsPostIn flow point instr graph post

  pub post_of_graph : (graphs : List Parts) (posts : List Post) → ArePostsIn flow point instr graphs posts → (graph : Parts) → Contains graphs graph → HasPostIn posts graph
  post_of_graph [] posts are graph among = absurd (Contains-none graph among)
  post_of_graph (first ∷ rest) [] are graph among = absurd are
  post_of_graph (first ∷ rest) (post ∷ posts) are graph among = by_cases (Contains-cases first graph rest among) (λ later. post_of_graph rest posts are.1 graph later)
    where
      by_cases : (first ≡ graph) ⊎ Contains rest graph → (Contains rest graph → HasPostIn posts graph) → HasPostIn (post ∷ posts) graph
      by_cases (inl same) later = record { post = post; among = Contains-first (posted_of post) (map posted_of posts); is = subst (λ (g : Parts). IsPostIn flow point instr g post) same are.0 }
      by_cases (inr within) later = let found = later within in record { post = found.post; among = Contains-later (posted_of post) (posted_of found.post) (map posted_of posts) found.among; is = found.is }

  -- the graph of a post
  pub record HasGraphIn (graphs : List Parts) (posted : Posted) : Type 0 where
    pub graph : Parts
    pub post : Post
    pub same : posted_of post ≡ posted
    pub among : Contains graphs graph
    pub is : IsPostIn flow point instr graph post

  pub graph_of_post : (graphs : List Parts) (posts : List Post) → ArePostsIn flow point instr graphs posts → (posted : Posted) → Contains (map posted_of posts) posted → HasGraphIn graphs posted
  graph_of_post [] [] are posted among = absurd (Contains-none posted among)
  graph_of_post [] (post ∷ posts) are posted among = absurd are
  graph_of_post (first ∷ rest) [] are posted among = absurd are
  graph_of_post (first ∷ rest) (post ∷ posts) are posted among = by_cases (Contains-cases (posted_of post) posted (map posted_of posts) among) (λ later. graph_of_post rest posts are.1 posted later)
    where
      by_cases : (posted_of post ≡ posted) ⊎ Contains (map posted_of posts) posted → (Contains (map posted_of posts) posted → HasGraphIn rest posted) → HasGraphIn (first ∷ rest) posted
      by_cases (inl same) later = record { graph = first; post = post; same = same; among = Contains-first first rest; is = are.0 }
      by_cases (inr within) later = let found = later within in record { graph = found.graph; post = found.post; same = found.same; among = Contains-later first found.graph rest found.among; is = found.is }

  pub posts_same : (graphs : List Parts) (posts : List Post) → ArePostsIn flow point instr graphs posts → map posted_of posts ≡ map (edge_post flow instr) graphs
  posts_same [] [] are = refl
  posts_same [] (post ∷ posts) are = absurd are
  posts_same (first ∷ rest) [] are = absurd are
  posts_same (first ∷ rest) (post ∷ posts) are =
      ap (λ (p : Posted). p ∷ map posted_of posts) (post_same (edge_post flow instr first) post are.0.is) ∙ ap (λ (ps : List Posted). edge_post flow instr first ∷ ps) (posts_same rest posts are.1)

  -- one more
  pub posts_more : (graphs : List Parts) (graph : Parts) (rest : List Parts) (old new : List Post) → ((more : List Post) → ArePostsIn flow point instr (graph ∷ rest) more → ArePostsIn flow point instr graphs (old ++ more)) →
      (post : Post) → IsPostIn flow point instr graph post → new ≡ old ++ post ∷ [] → (more : List Post) → ArePostsIn flow point instr rest more → ArePostsIn flow point instr graphs (new ++ more)
  posts_more graphs graph rest old new known post is behind more are =
      subst (ArePostsIn flow point instr graphs) (sym (ap (λ (ps : List Post). ps ++ more) behind ∙ append_assoc old (post ∷ []) more)) (known (post ∷ more) (is, are))

  pub posts_next : (left all : List Parts) (old new : List Post) (one other : Parts) (count : ℕ) → 1 ≤ length left → length left ≡ count → one ≡ slice_index_or left 0 other →
      ((more : List Post) → ArePostsIn flow point instr left more → ArePostsIn flow point instr all (old ++ more)) → IsMore flow point instr one old new →
      (more : List Post) → ArePostsIn flow point instr (take (count - 1) (drop 1 left)) more → ArePostsIn flow point instr all (new ++ more)
  posts_next [] all old new one other count some is first known one_more more are = absurd (omega arith)
  posts_next (first ∷ rest) all old new one other count some is same known one_more more are =
      posts_more all first rest old new known one_more.post (subst (λ (g : Parts). IsPostIn flow point instr g one_more.post) same one_more.is) one_more.behind more
      (subst (λ (gs : List Parts). ArePostsIn flow point instr gs more) (rest_is first rest count is) are)

  pub all_next : (P : Parts → Type 0) (left : List Parts) (count : ℕ) → 1 ≤ length left → length left ≡ count → All P left → All P (take (count - 1) (drop 1 left))
  all_next P [] count some is all = absurd (omega arith)
  all_next P (first ∷ rest) count some is all = subst (All P) (sym (rest_is first rest count is)) (All-tail P first rest all)

  pub some_next : (test : Parts → Bool) (left : List Parts) (count : ℕ) → 1 ≤ length left → length left ≡ count → list_any test (take (count - 1) (drop 1 left)) ≡ true → list_any test left ≡ true
  some_next test [] count some is found = absurd (omega arith)
  some_next test (first ∷ rest) count some is found = or_right (test first) (list_any test rest) (ap (list_any test) (sym (rest_is first rest count is)) ∙ found)

  -- none is left
  pub posts_done : (left all : List Parts) (old : List Post) → length left < 1 → ((more : List Post) → ArePostsIn flow point instr left more → ArePostsIn flow point instr all (old ++ more)) → ArePostsIn flow point instr all old
  posts_done [] all old none known = subst (ArePostsIn flow point instr all) (append-nil old) (known [] tt)
  posts_done (first ∷ rest) all old none known = absurd (omega arith)
