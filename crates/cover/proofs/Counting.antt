-- As many objects live in one graph as in another one that it covers.
use Rattle.std.proofs.Common.{◌≡◌, ◌≢◌, ◌⊎◌, inl, inr, ℕ, zero, suc, ◌+◌, ◌<◌, ◌≤◌, Bool, true, false, List, [], ◌∷◌, length, drop, nat_eq, Option, None, Some, refl, sym, ◌∙◌, ap, subst, eq-eqb, eqb-true, arith}
use Rattle.std.specs.Prelude.{slice_get, filter, if◌then◌else◌}
use Rattle.std.proofs.lemmas.Bool.{false≢true, ne_eqb}
use Rattle.std.proofs.lemmas.List.{drop_all}
use Rattle.std.proofs.lemmas.Option.{same_Some, none-some}
use Rattle.graph.specs.declared.object.Object.{Object}
use Rattle.graph.specs.declared.parts.KeyedObject.{KeyedObject}
use Rattle.graph.specs.declared.parts.Parts.{Parts}
use Rattle.graph.specs.Maps.{object_at}
use Rattle.graph.specs.Meaning.{maps_of}
use Rattle.graph.specs.Whole.{IsGraph}
use Rattle.graph.proofs.AllMarked.{drop_get}
use Rattle.cover.specs.Checked.{LivesAt}
use Rattle.cover.specs.Covers.{Pairing, IsCover, Covers}
use Rattle.cover.specs.Quick.{one_if_live, live_count}

-- Lists of numbers.

abbrev IsIn : ℕ → List ℕ → Type 0
IsIn n [] = ⊥
IsIn n (m ∷ ms) = (m ≡ n) ⊎ IsIn n ms

abbrev AreDistinct : List ℕ → Type 0
AreDistinct [] = Unit {0}
AreDistinct (m ∷ ms) = (IsIn m ms → ⊥) × AreDistinct ms

-- a list without one that is in it
abbrev without : ℕ → List ℕ → List ℕ
without n [] = []
without n (m ∷ ms) = if nat_eq m n then ms else m ∷ without n ms

without-first : (n m : ℕ) (ms : List ℕ) → m ≡ n → without n (m ∷ ms) ≡ ms
without-first n m ms same = ap (λ (b : Bool). if b then ms else m ∷ without n ms) (eq-eqb m n same)

without-later : (n m : ℕ) (ms : List ℕ) → m ≢ n → without n (m ∷ ms) ≡ m ∷ without n ms
without-later n m ms differs = ap (λ (b : Bool). if b then ms else m ∷ without n ms) (ne_eqb m n differs)

same-or-not : (m n : ℕ) → (m ≡ n) ⊎ (m ≢ n)
same-or-not m n = by_test (nat_eq m n) refl
  where
    by_test : (b : Bool) → nat_eq m n ≡ b → (m ≡ n) ⊎ (m ≢ n)
    by_test true is = inl (eqb-true m n is)
    by_test false is = inr (λ same. false≢true (sym is ∙ eq-eqb m n same))

one-less : (n : ℕ) (ns : List ℕ) → IsIn n ns → suc (length (without n ns)) ≡ length ns
one-less n [] is = absurd is
one-less n (m ∷ ms) is = by_first (one-less n ms) (same-or-not m n) is
  where
    by_first : (IsIn n ms → suc (length (without n ms)) ≡ length ms) → (m ≡ n) ⊎ (m ≢ n) → (m ≡ n) ⊎ IsIn n ms → suc (length (without n (m ∷ ms))) ≡ length (m ∷ ms)
    by_first less (inl same) is = ap (λ (ns : List ℕ). suc (length ns)) (without-first n m ms same)
    by_first less (inr differs) (inl same) = absurd (differs same)
    by_first less (inr differs) (inr later) = ap (λ (ns : List ℕ). suc (length ns)) (without-later n m ms differs) ∙ ap suc (less later)

still-in : (n other : ℕ) (ns : List ℕ) → IsIn other ns → other ≢ n → IsIn other (without n ns)
still-in n other [] is apart = absurd is
still-in n other (m ∷ ms) is apart = by_first (λ later. still-in n other ms later apart) (same-or-not m n) is
  where
    by_first : (IsIn other ms → IsIn other (without n ms)) → (m ≡ n) ⊎ (m ≢ n) → (m ≡ other) ⊎ IsIn other ms → IsIn other (without n (m ∷ ms))
    by_first still (inl same) (inl here) = absurd (apart (sym here ∙ same))
    by_first still (inl same) (inr later) = subst (IsIn other) (sym (without-first n m ms same)) later
    by_first still (inr differs) (inl here) = subst (IsIn other) (sym (without-later n m ms differs)) (inl here)
    by_first still (inr differs) (inr later) = subst (IsIn other) (sym (without-later n m ms differs)) (inr (still later))

-- a list whose numbers have partners in another one, each its own, is no longer than that
no-longer : (partner : ℕ → Option ℕ) → ((one other with : ℕ) → partner one ≡ Some with → partner other ≡ Some with → one ≡ other) → (ones others : List ℕ) → AreDistinct ones →
    ((one : ℕ) → IsIn one ones → (with : ℕ) × (partner one ≡ Some with) × IsIn with others) → length ones ≤ length others
no-longer partner own [] others distinct each = omega arith
no-longer partner own (one ∷ ones) others distinct each =
    let here = each one (inl refl) in
    let later : length ones ≤ length (without here.0 others) = no-longer partner own ones (without here.0 others) distinct.1 (λ other is. rest here.0 here.1 other is (each other (inr is))) in
    let less : suc (length (without here.0 others)) ≡ length others = one-less here.0 others here.2 in
    omega (arith, less)
  where
    rest : (with : ℕ) → partner one ≡ Some with → (other : ℕ) → IsIn other ones → (its : ℕ) × (partner other ≡ Some its) × IsIn its others → (its : ℕ) × (partner other ≡ Some its) × IsIn its (without with others)
    rest with paired other is (its, other_paired, among) =
        (its, other_paired, still-in with its others among (λ same. distinct.0 (subst (λ (n : ℕ). IsIn n ones) (own other one with (other_paired ∙ ap Some same) paired) is)))

-- Objects that live.

abbrev live_keys : List KeyedObject → List ℕ
live_keys [] = []
live_keys (entry ∷ entries) = if entry.object.live then entry.key ∷ live_keys entries else live_keys entries

as-many : (entries : List KeyedObject) → length (filter (λ entry. entry.object.live) entries) ≡ length (live_keys entries)
as-many [] = refl
as-many (entry ∷ entries) = by_life (as-many entries) entry.object.live
  where
    by_life : length (filter (λ entry. entry.object.live) entries) ≡ length (live_keys entries) → (b : Bool) → length (if b then entry ∷ filter (λ entry. entry.object.live) entries else filter (λ entry. entry.object.live) entries) ≡ length (if b then entry.key ∷ live_keys entries else live_keys entries)
    by_life later true = ap suc later
    by_life later false = later

-- the keys count on from a number
abbrev AreFrom : ℕ → List KeyedObject → Type 0
AreFrom from entries = (place : ℕ) (entry : KeyedObject) → slice_get entries place ≡ Some entry → entry.key ≡ from + place

from-next : (from : ℕ) (entry : KeyedObject) (entries : List KeyedObject) → AreFrom from (entry ∷ entries) → AreFrom (suc from) entries
from-next from entry entries are place other is = let e = are (suc place) other is in omega (arith, e)

not-below : (from : ℕ) (entries : List KeyedObject) → AreFrom from entries → (key : ℕ) → IsIn key (live_keys entries) → from ≤ key
not-below from [] are key is = absurd is
not-below from (entry ∷ entries) are key is =
    by_life (λ later. let above = not-below (suc from) entries (from-next from entry entries are) key later in omega arith) entry.object.live is
  where
    first : entry.key ≡ from + 0
    first = are 0 entry refl

    by_life : (IsIn key (live_keys entries) → from ≤ key) → (b : Bool) → IsIn key (if b then entry.key ∷ live_keys entries else live_keys entries) → from ≤ key
    by_life later true (inl same) = let e = first in omega (arith, same)
    by_life later true (inr is) = later is
    by_life later false is = later is

are-distinct : (from : ℕ) (entries : List KeyedObject) → AreFrom from entries → AreDistinct (live_keys entries)
are-distinct from [] are = tt
are-distinct from (entry ∷ entries) are = by_life (are-distinct (suc from) entries (from-next from entry entries are)) entry.object.live
  where
    first : entry.key ≡ from + 0
    first = are 0 entry refl

    apart : IsIn entry.key (live_keys entries) → ⊥
    apart is = let e = first in let above = not-below (suc from) entries (from-next from entry entries are) entry.key is in omega (arith, e)

    by_life : AreDistinct (live_keys entries) → (b : Bool) → AreDistinct (if b then entry.key ∷ live_keys entries else live_keys entries)
    by_life later true = (apart, later)
    by_life later false = later

found-here : (entry : KeyedObject) (entries : List KeyedObject) (key : ℕ) → entry.key ≡ key → object_at (entry ∷ entries) key ≡ Some entry.object
found-here entry entries key same = ap (λ (b : Bool). if b then Some entry.object else object_at entries key) (eq-eqb entry.key key same)

found-later : (entry : KeyedObject) (entries : List KeyedObject) (key : ℕ) → entry.key ≢ key → object_at (entry ∷ entries) key ≡ object_at entries key
found-later entry entries key differs = ap (λ (b : Bool). if b then Some entry.object else object_at entries key) (ne_eqb entry.key key differs)

lives-there : (from : ℕ) (entries : List KeyedObject) → AreFrom from entries → (key : ℕ) → IsIn key (live_keys entries) → LivesAt (object_at entries) key
lives-there from [] are key is = absurd is
lives-there from (entry ∷ entries) are key is =
    by_life (λ later. onward later (lives-there (suc from) entries (from-next from entry entries are) key later)) entry.object.live refl is
  where
    first : entry.key ≡ from + 0
    first = are 0 entry refl

    onward : IsIn key (live_keys entries) → LivesAt (object_at entries) key → LivesAt (object_at (entry ∷ entries)) key
    onward later found =
        let e = first in
        let above = not-below (suc from) entries (from-next from entry entries are) key later in
        (found.0, found-later entry entries key (λ same. absurd (omega (arith, e, same))) ∙ found.1, found.2)

    by_life : (IsIn key (live_keys entries) → LivesAt (object_at (entry ∷ entries)) key) → (b : Bool) → entry.object.live ≡ b → IsIn key (if b then entry.key ∷ live_keys entries else live_keys entries) →
        LivesAt (object_at (entry ∷ entries)) key
    by_life later true live (inl same) = (entry.object, found-here entry entries key same, live)
    by_life later true live (inr is) = later is
    by_life later false live is = later is

among-live : (entries : List KeyedObject) (key : ℕ) (object : Object) → object_at entries key ≡ Some object → object.live ≡ true → IsIn key (live_keys entries)
among-live [] key object is live = absurd (none-some object is)
among-live (entry ∷ entries) key object is live = by_key (λ later. among-live entries key object later live) (same-or-not entry.key key)
  where
    either : (b : Bool) → IsIn key (live_keys entries) → IsIn key (if b then entry.key ∷ live_keys entries else live_keys entries)
    either true later = inr later
    either false later = later

    by_key : (object_at entries key ≡ Some object → IsIn key (live_keys entries)) → (entry.key ≡ key) ⊎ (entry.key ≢ key) → IsIn key (live_keys (entry ∷ entries))
    by_key later (inl same) =
        let here : entry.object ≡ object = same_Some _ _ (sym (found-here entry entries key same) ∙ is) in
        subst (λ (b : Bool). IsIn key (if b then entry.key ∷ live_keys entries else live_keys entries)) (sym (ap (λ (o : Object). o.live) here ∙ live)) (inl same)
    by_key later (inr differs) = either entry.object.live (later (sym (found-later entry entries key differs) ∙ is))

from-zero : (parts : Parts) → IsGraph parts → AreFrom 0 parts.objects
from-zero parts graph place entry is = let e = graph.keys.objects place entry is in omega (arith, e)

module _ (wide narrow : Parts) (wide_is : IsGraph wide) (narrow_is : IsGraph narrow) (p : Pairing) (cover : IsCover (maps_of wide) (maps_of narrow) p) where
  there : (key : ℕ) → IsIn key (live_keys wide.objects) → (with : ℕ) × (p.object key ≡ Some with) × IsIn with (live_keys narrow.objects)
  there key is =
      let found = lives-there 0 wide.objects (from-zero wide wide_is) key is in
      let paired = cover.live key found.0 found.1 found.2 in
      let pair = cover.objects key paired.0 paired.1 in
      let same : pair.one ≡ found.0 = same_Some _ _ (sym pair.one_stands ∙ found.1) in
      (paired.0, paired.1, among-live narrow.objects paired.0 pair.other pair.other_stands (pair.alike.live ∙ (ap (λ (o : Object). o.live) same ∙ found.2)))

  back : (key : ℕ) → IsIn key (live_keys narrow.objects) → (with : ℕ) × (p.back key ≡ Some with) × IsIn with (live_keys wide.objects)
  back key is =
      let found = lives-there 0 narrow.objects (from-zero narrow narrow_is) key is in
      let paired = cover.other_live key found.0 found.1 found.2 in
      let pair = cover.objects paired.0 key (cover.back paired.0 key paired.1) in
      let same : pair.other ≡ found.0 = same_Some _ _ (sym pair.other_stands ∙ found.1) in
      (paired.0, paired.1, among-live wide.objects paired.0 pair.one pair.one_stands (sym pair.alike.live ∙ (ap (λ (o : Object). o.live) same ∙ found.2)))

  own : (one other with : ℕ) → p.object one ≡ Some with → p.object other ≡ Some with → one ≡ other
  own one other with one_is other_is = same_Some _ _ (sym (cover.there one with one_is) ∙ cover.there other with other_is)

  own-back : (one other with : ℕ) → p.back one ≡ Some with → p.back other ≡ Some with → one ≡ other
  own-back one other with one_is other_is = same_Some _ _ (sym (cover.back with one one_is) ∙ cover.back with other other_is)

  same-length : length (live_keys wide.objects) ≡ length (live_keys narrow.objects)
  same-length =
      let less : length (live_keys wide.objects) ≤ length (live_keys narrow.objects) = no-longer p.object own (live_keys wide.objects) (live_keys narrow.objects) (are-distinct 0 wide.objects (from-zero wide wide_is)) there in
      let more : length (live_keys narrow.objects) ≤ length (live_keys wide.objects) = no-longer p.back own-back (live_keys narrow.objects) (live_keys wide.objects) (are-distinct 0 narrow.objects (from-zero narrow narrow_is)) back in
      omega arith

pub covers_count : (wide narrow : Parts) → IsGraph wide → IsGraph narrow → Covers wide narrow → live_count wide ≡ live_count narrow
covers_count wide narrow wide_is narrow_is covers = as-many wide.objects ∙ (same-length wide narrow wide_is narrow_is covers.pairing covers.cover ∙ sym (as-many narrow.objects))

-- Counting one after the other.

-- so many live among those before a key
pub record IsCountTo (parts : Parts) (key live : ℕ) : Type 0 where
  pub sum : live + length (filter (λ entry. entry.object.live) (drop key parts.objects)) ≡ live_count parts

pub count_start : (parts : Parts) → IsCountTo parts 0 0
count_start parts = record { sum = nothing (length (filter (λ (entry : KeyedObject). entry.object.live) parts.objects)) }
  where
    nothing : (n : ℕ) → 0 + n ≡ n
    nothing n = omega arith

found-from : (from : ℕ) (entries : List KeyedObject) → AreFrom from entries → (place : ℕ) (entry : KeyedObject) → slice_get entries place ≡ Some entry → object_at entries (from + place) ≡ Some entry.object
found-from from [] are place entry is = absurd (none-some entry is)
found-from from (first ∷ rest) are zero entry is =
    found-here first rest (from + 0) (are 0 first refl) ∙ ap (λ (e : KeyedObject). Some e.object) (same_Some _ _ is)
found-from from (first ∷ rest) are (suc place) entry is =
    let e = are 0 first refl in
    let shift : from + suc place ≡ suc from + place = omega arith in
    found-later first rest (from + suc place) (λ same. absurd (omega (arith, e, same)))
    ∙ (ap (object_at rest) shift ∙ found-from (suc from) rest (from-next from first rest are) place entry is)

pub count_next : (parts : Parts) (key live one : ℕ) → IsGraph parts → IsCountTo parts key live → key < length parts.objects → one ≡ one_if_live (object_at parts.objects key) → IsCountTo parts (key + 1) (live + one)
count_next parts key live one graph counted within is = by_entry (slice_get parts.objects key) refl
  where
    by_entry : (found : Option KeyedObject) → slice_get parts.objects key ≡ found → IsCountTo parts (key + 1) (live + one)
    by_entry None none = absurd (past parts.objects key none within)
      where
        past : (entries : List KeyedObject) (place : ℕ) → slice_get entries place ≡ None → place < length entries → ⊥
        past [] place none within = omega arith
        past (entry ∷ rest) zero none within = none-some entry (sym none)
        past (entry ∷ rest) (suc place) none within = past rest place none (omega arith)
    by_entry (Some entry) some = by_life entry.object.live refl
      where
        one_is : one ≡ (if entry.object.live then 1 else 0)
        one_is =
            let shift : 0 + key ≡ key = omega arith in
            is ∙ ap one_if_live (ap (object_at parts.objects) (sym shift) ∙ found-from 0 parts.objects (from-zero parts graph) key entry some)

        split : length (filter (λ entry. entry.object.live) (drop key parts.objects)) ≡ length (if entry.object.live then entry ∷ filter (λ entry. entry.object.live) (drop (key + 1) parts.objects) else filter (λ entry. entry.object.live) (drop (key + 1) parts.objects))
        split = ap (λ (es : List KeyedObject). length (filter (λ entry. entry.object.live) es)) (drop_get parts.objects key entry some)

        by_life : (b : Bool) → entry.object.live ≡ b → IsCountTo parts (key + 1) (live + one)
        by_life true life =
            let first : one ≡ 1 = one_is ∙ ap (λ (b : Bool). if b then 1 else 0) life in
            let more : length (filter (λ entry. entry.object.live) (drop key parts.objects)) ≡ suc (length (filter (λ entry. entry.object.live) (drop (key + 1) parts.objects))) =
            split ∙ ap (λ (b : Bool). length (if b then entry ∷ filter (λ entry. entry.object.live) (drop (key + 1) parts.objects) else filter (λ entry. entry.object.live) (drop (key + 1) parts.objects))) life in
            let sum = counted.sum in
            record { sum = omega (arith, first, more, sum) }
        by_life false life =
            let first : one ≡ 0 = one_is ∙ ap (λ (b : Bool). if b then 1 else 0) life in
            let more : length (filter (λ entry. entry.object.live) (drop key parts.objects)) ≡ length (filter (λ entry. entry.object.live) (drop (key + 1) parts.objects)) =
            split ∙ ap (λ (b : Bool). length (if b then entry ∷ filter (λ entry. entry.object.live) (drop (key + 1) parts.objects) else filter (λ entry. entry.object.live) (drop (key + 1) parts.objects))) life in
            let sum = counted.sum in
            record { sum = omega (arith, first, more, sum) }

pub count_end : (parts : Parts) (key live : ℕ) → IsCountTo parts key live → length parts.objects ≤ key → live ≡ live_count parts
count_end parts key live counted all =
    let none : length (filter (λ (entry : KeyedObject). entry.object.live) (drop key parts.objects)) ≡ 0 = ap (λ (es : List KeyedObject). length (filter (λ entry. entry.object.live) es)) (drop_all key parts.objects all) in
    let sum = counted.sum in
    omega (arith, none, sum)
