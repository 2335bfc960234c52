-- Bytes that hold what is said of each of two nodes hold what is said of both.
use Rattle.std.proofs.Common.{◌≡◌, ℕ, zero, suc, ◌+◌, ◌≤◌, max, Bool, true, false, ◌&&◌, cond, List, [], ◌∷◌, ◌++◌, length, take, drop, replicate, nat_eq, ℤ, Some, refl, sym, ◌∙◌, ap, subst, eqb-true, arith}
use Rattle.std.specs.Prelude.{slice_get, if◌then◌else◌}
use Rattle.std.specs.List.{filter, list_all}
use Rattle.std.proofs.lemmas.Option.{none-some, same_Some}
use Rattle.bytes_core.specs.declared.byte.Byte.{Byte}
use Rattle.bytes_core.specs.declared.byte.Byte.TheVariants.{Num, Part}
use Rattle.bytes_core.specs.declared.word.Word.{Word}
use Rattle.bytes_core.specs.declared.word.Word.TheVariants.{Plain, To}
use Rattle.bytes_core.specs.Value.{word_bytes}
use Rattle.planes.specs.Classes.{filled, highest}
use Rattle.fold.specs.declared.fold.Fold.{Fold}
use Rattle.fold.specs.declared.fold.Standing.{Standing}
use Rattle.fold.specs.declared.fold.Standing.TheVariants.{Same, Own, Apart, Barred}
use Rattle.graph.specs.declared.edges.HasValue.{HasValue}
use Rattle.graph.specs.declared.value.Value.TheVariants.{Address}
use Rattle.graph.specs.declared.value.Target.TheVariants.{Each}
use Rattle.graph.specs.Meaning.{HasClass, HaveClasses, HoldsWord, HoldEdges, HoldsAt}
use Rattle.graph.proofs.Tests.{and_left, and_right}
use Rattle.changes.proofs.Node.{HaveClasses-append, HaveClasses-take, HaveClasses-drop, HaveClasses-range}
use Rattle.changes.proofs.NodeBack.{zeros_are}
use Rattle.materialise.proofs.FirstNode.{whole_bytes}
use Rattle.fold.specs.Folded.{joined, joined_edge, fresh_behind, with_own, own_addresses, linked_plane}
use Rattle.fold.specs.Linked.{key_in}

-- Edges.

pub filter_holds : (bytes : List Byte) (word : ℕ → Word) (test : HasValue → Bool) (edges : List HasValue) → HoldEdges bytes word edges → HoldEdges bytes word (filter test edges)
filter_holds bytes word test [] holds = tt
filter_holds bytes word test (edge ∷ rest) holds = by_test (test edge) (filter_holds bytes word test rest holds.1)
  where
    by_test : (b : Bool) → HoldEdges bytes word (filter test rest) → HoldEdges bytes word (cond b (edge ∷ filter test rest) (filter test rest))
    by_test true later = (holds.0, later)
    by_test false later = later

pub edge_holds : (bytes : List Byte) (word : ℕ → Word) (edges : List HasValue) (place : ℕ) (edge : HasValue) → slice_get edges place ≡ Some edge → HoldEdges bytes word edges → HoldsWord bytes edge (word edge.value)
edge_holds bytes word [] place edge is holds = absurd (none-some edge is)
edge_holds bytes word (first ∷ rest) zero edge is holds = subst (λ (e : HasValue). HoldsWord bytes e (word e.value)) (same_Some _ _ is) holds.0
edge_holds bytes word (first ∷ rest) (suc place) edge is holds = edge_holds bytes word rest place edge is holds.1

-- a range of which an edge tells holds its word
pub key_holds : (bytes : List Byte) (word : ℕ → Word) (at size key : ℕ) (edges : List HasValue) → key_in at size edges ≡ Some key → HoldEdges bytes word edges → take size (drop at bytes) ≡ take size (word_bytes (word key))
key_holds bytes word at size key [] is holds = absurd (none-some key is)
key_holds bytes word at size key (edge ∷ rest) is holds = by_test (nat_eq edge.at at && nat_eq edge.size size) refl is (λ later. key_holds bytes word at size key rest later holds.1)
  where
    by_test : (b : Bool) → (nat_eq edge.at at && nat_eq edge.size size) ≡ b → (if b then Some edge.value else key_in at size rest) ≡ Some key → (key_in at size rest ≡ Some key → take size (drop at bytes) ≡ take size (word_bytes (word key))) →
        take size (drop at bytes) ≡ take size (word_bytes (word key))
    by_test true same found later =
        let place = eqb-true _ _ (and_left (nat_eq edge.at at) (nat_eq edge.size size) same) in
        let long = eqb-true _ _ (and_right (nat_eq edge.at at) (nat_eq edge.size size) same) in
        ap (λ (n : ℕ). take size (drop n bytes)) (sym place) ∙ ap (λ (n : ℕ). take n (drop edge.at bytes)) (sym long) ∙ holds.0 ∙ ap (λ (n : ℕ). take n (word_bytes (word edge.value))) long
        ∙ ap (λ (k : ℕ). take size (word_bytes (word k))) (same_Some _ _ found)
    by_test false other found later = later found

pub link_holds : (bytes : List Byte) (word : ℕ → Word) (at key : ℕ) (edges : List HasValue) → key_in at 8 edges ≡ Some key → HoldEdges bytes word edges → HoldsAt bytes at (word key)
link_holds bytes word at key edges is holds = key_holds bytes word at 8 key edges is holds ∙ whole_bytes (word key)

all_zeros : (classes : List ℕ) → list_all (nat_eq 0) classes ≡ true → classes ≡ replicate (length classes) 0
all_zeros [] all = refl
all_zeros (class ∷ rest) all =
    ap (λ (c : ℕ). c ∷ rest) (sym (eqb-true 0 class (and_left (nat_eq 0 class) (list_all (nat_eq 0) rest) all)))
    ∙ ap (λ (cs : List ℕ). 0 ∷ cs) (all_zeros rest (and_right (nat_eq 0 class) (list_all (nat_eq 0) rest) all))

-- bytes of class 0 hold the number 0
pub zeros_hold : (plane : List ℕ) (bytes : List Byte) (at : ℕ) → length (take 8 (drop at plane)) ≡ 8 → list_all (nat_eq 0) (take 8 (drop at plane)) ≡ true → HaveClasses plane bytes → HoldsAt bytes at (Plain 0)
zeros_hold plane bytes at long zeros has =
    zeros_are (take 8 (drop at bytes)) 8
    (subst (λ (classes : List ℕ). HaveClasses classes (take 8 (drop at bytes))) (all_zeros (take 8 (drop at plane)) zeros ∙ ap (λ (n : ℕ). replicate n 0) long) (HaveClasses-range at 8 plane bytes has))

module _ (bytes : List Byte) (word : ℕ → Word) (number key : ℕ) (stands : HasValue → Standing) where
  -- the bytes hold what the edge becomes
  pub record IsHeld (edge : HasValue) : Type 0 where
    pub same : stands edge ≡ Same → HoldsWord bytes edge (word edge.value)
    pub own : (offset : ℤ) → stands edge ≡ Own offset → HoldsWord bytes edge (To number offset)

  -- the values more are the own addresses
  abbrev pub AreOwn : ℕ → List HasValue → Type 0
  AreOwn fresh edges = (place : ℕ) (offset : ℤ) → slice_get (own_addresses key stands edges) place ≡ Some (Address key offset Each) → word (fresh + place) ≡ To number offset

  pub joined_holds : (fresh : ℕ) (edges : List HasValue) → ((place : ℕ) (edge : HasValue) → slice_get edges place ≡ Some edge → IsHeld edge) → AreOwn fresh edges → HoldEdges bytes word (joined stands fresh edges)
  joined_holds fresh [] held own = tt
  joined_holds fresh (edge ∷ rest) held own = by_standing (stands edge) refl own (λ more owns. joined_holds more rest (λ place other is. held (suc place) other is) owns)
    where
      by_standing : (standing : Standing) → stands edge ≡ standing →
          ((place : ℕ) (offset : ℤ) → slice_get (with_own key standing (own_addresses key stands rest)) place ≡ Some (Address key offset Each) → word (fresh + place) ≡ To number offset) →
          ((more : ℕ) → AreOwn more rest → HoldEdges bytes word (joined stands more rest)) → HoldEdges bytes word (joined_edge standing fresh edge (joined stands (fresh_behind standing fresh) rest))
      by_standing Same is owns later = ((held 0 edge refl).same is, later fresh owns)
      by_standing (Own offset) is owns later = (
        subst (λ (w : Word). HoldsWord bytes (record edge { value = fresh }) w) (sym (ap word (let e : fresh ≡ fresh + 0 = omega arith in e) ∙ owns 0 offset refl)) ((held 0 edge refl).own offset is),
        later (fresh + 1) (λ place other there. ap word (let e : fresh + 1 + place ≡ fresh + suc place = omega arith in e) ∙ owns (suc place) other there),
      )
      by_standing Apart is owns later = later fresh owns
      by_standing Barred is owns later = later fresh owns

-- Classes.

class_more : (one other : ℕ) (byte : Byte) → one ≤ other → HasClass one byte → HasClass other byte
class_more zero zero byte less has = has
class_more zero (suc zero) (Num number) less has = tt
class_more zero (suc zero) (Part block offset k) less has = has
class_more zero (suc (suc other)) byte less has = tt
class_more (suc zero) zero byte less has = absurd (omega arith)
class_more (suc zero) (suc zero) byte less has = has
class_more (suc zero) (suc (suc other)) byte less has = tt
class_more (suc (suc one)) zero byte less has = absurd (omega arith)
class_more (suc (suc one)) (suc zero) byte less has = absurd (omega arith)
class_more (suc (suc one)) (suc (suc other)) byte less has = tt

pub highest_left : (one other : List ℕ) (bytes : List Byte) → length one ≡ length other → HaveClasses one bytes → HaveClasses (highest one other) bytes
highest_left [] other [] same has = tt
highest_left [] other (byte ∷ bytes) same has = has
highest_left (class ∷ one) [] bytes same has = absurd (omega arith)
highest_left (class ∷ one) (class' ∷ other) [] same has = has
highest_left (class ∷ one) (class' ∷ other) (byte ∷ bytes) same has = (class_more class (max class class') byte (omega arith) has.0, highest_left one other bytes (omega arith) has.1)

pub highest_right : (one other : List ℕ) (bytes : List Byte) → length one ≡ length other → HaveClasses other bytes → HaveClasses (highest one other) bytes
highest_right [] [] bytes same has = has
highest_right [] (class ∷ other) bytes same has = absurd (omega arith)
highest_right (class ∷ one) [] bytes same has = absurd (omega arith)
highest_right (class ∷ one) (class' ∷ other) [] same has = has
highest_right (class ∷ one) (class' ∷ other) (byte ∷ bytes) same has = (class_more class' (max class class') byte (omega arith) has.0, highest_right one other bytes (omega arith) has.1)

any_bytes : (bytes : List Byte) → HaveClasses (replicate (length bytes) 2) bytes
any_bytes [] = tt
any_bytes (byte ∷ bytes) = (tt, any_bytes bytes)

long_front : {A : Type 0} (n : ℕ) (items : List A) → n ≤ length items → length (take n items) ≡ n
long_front zero items within = refl
long_front (suc n) [] within = absurd (omega arith)
long_front (suc n) (item ∷ items) within = ap suc (long_front n items (omega arith))

long_behind : {A : Type 0} (n : ℕ) (items : List A) → n ≤ length items → length (drop n items) + n ≡ length items
long_behind zero items within = omega arith
long_behind (suc n) [] within = absurd (omega arith)
long_behind (suc n) (item ∷ items) within = let later = long_behind n items (omega arith) in omega arith

pub long_range : {A : Type 0} (items : List A) (from : ℕ) → from + 8 ≤ length items → length (take 8 (drop from items)) ≡ 8
long_range items from within = let later = long_behind from items (omega arith) in long_front 8 (drop from items) (omega arith)

drop_nil : (n : ℕ) → drop {A = Byte} n [] ≡ []
drop_nil zero = refl
drop_nil (suc n) = refl

take_nil : (n : ℕ) → take {A = Byte} n [] ≡ []
take_nil zero = refl
take_nil (suc n) = refl

rejoined : (from count : ℕ) (bytes : List Byte) → take from bytes ++ take count (drop from bytes) ++ drop (from + count) bytes ≡ bytes
rejoined zero count bytes = ap (λ (n : ℕ). take count bytes ++ drop n bytes) (let e : 0 + count ≡ count = omega arith in e) ∙ take_drop count bytes
  where
    take_drop : (n : ℕ) (bytes : List Byte) → take n bytes ++ drop n bytes ≡ bytes
    take_drop zero bytes = refl
    take_drop (suc n) [] = refl
    take_drop (suc n) (byte ∷ bytes) = ap (λ (bs : List Byte). byte ∷ bs) (take_drop n bytes)
rejoined (suc from) count [] = ap (λ (bs : List Byte). bs ++ drop (suc from + count) []) (take_nil count) ∙ drop_nil (suc from + count)
rejoined (suc from) count (byte ∷ bytes) =
    ap (λ (n : ℕ). byte ∷ (take from bytes ++ take count (drop from bytes) ++ drop n (byte ∷ bytes))) (let e : suc from + count ≡ suc (from + count) = omega arith in e)
    ∙ ap (λ (bs : List Byte). byte ∷ bs) (rejoined from count bytes)

-- bytes of which a range may hold anything
pub filled_any : (plane : List ℕ) (bytes : List Byte) (from : ℕ) → from + 8 ≤ length bytes → HaveClasses plane bytes → HaveClasses (filled plane from 8 2) bytes
filled_any plane bytes from within has =
    subst (λ (bs : List Byte). HaveClasses (filled plane from 8 2) bs) (rejoined from 8 bytes)
    (HaveClasses-append (take from plane ++ replicate 8 2) (drop (from + 8) plane) (take from bytes ++ take 8 (drop from bytes)) (drop (from + 8) bytes)
    (HaveClasses-append (take from plane) (replicate 8 2) (take from bytes) (take 8 (drop from bytes)) (HaveClasses-take from plane bytes has)
    (subst (λ (n : ℕ). HaveClasses (replicate n 2) (take 8 (drop from bytes))) long (any_bytes (take 8 (drop from bytes)))))
    (HaveClasses-drop (from + 8) plane bytes has))
  where
    long : length (take 8 (drop from bytes)) ≡ 8
    long = long_range bytes from within

pub linked_has : (fold : Fold) (plane : List ℕ) (bytes : List Byte) → fold.next + 8 ≤ length bytes → (fold.twofold ≡ true → fold.prev + 8 ≤ length bytes) → HaveClasses plane bytes → HaveClasses (linked_plane fold plane) bytes
linked_has fold plane bytes next prev has = by_way fold.twofold refl
  where
    by_way : (b : Bool) → fold.twofold ≡ b → HaveClasses (if b then filled (filled plane fold.next 8 2) fold.prev 8 2 else filled plane fold.next 8 2) bytes
    by_way true twofold = filled_any (filled plane fold.next 8 2) bytes fold.prev (prev twofold) (filled_any plane bytes fold.next next has)
    by_way false single = filled_any plane bytes fold.next next has
