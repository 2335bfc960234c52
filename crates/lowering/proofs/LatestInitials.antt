-- Of scalars that are set twice the later one alone leaves the same memory.
use Rattle.std.proofs.Common.{◌≡◌, ◌≢◌, ℕ, ◌+◌, ◌-◌, ◌<◌, ◌≤◌, min, Bool, true, false, List, [], ◌∷◌, ◌++◌, length, take, drop, set, get_or, refl, sym, ap, subst, ◌∙◌, arith, ⊎_elim, pos, Option, Some, nat_eq, slice_get, if◌then◌else◌, ◌&&◌}
use Rattle.std.specs.List.{list_any}
use Rattle.std.specs.Option.{option_map_or}
use Rattle.std.proofs.lemmas.Bool.{and_parts, or_cases, eqb-true, cases_eq, cases_lt}
use Rattle.std.proofs.lemmas.List.{length-take, length-take-le, length-append, length-drop, set-set, set_comm, get_or-take, get_or-drop, get_or_append_left, get_or-append_right, ext_get_or}
use Rattle.std.proofs.lemmas.Option.{same_Some}
use Rattle.bytes_core.specs.declared.block.Block.{Block}
use Rattle.bytes_core.specs.declared.byte.Byte.{Byte}
use Rattle.bytes_core.specs.declared.byte.Byte.TheVariants.{Num}
use Rattle.bytes_core.specs.declared.word.Word.TheVariants.{To}
use Rattle.bytes_core.specs.Access.{overwritten, with_bytes, stored}
use Rattle.bytes_core.specs.Value.{word_bytes}
use Rattle.bytes_core.proofs.Written.{slice_get-set_same, slice_get-set_other, length-word_bytes}
use Rattle.flow.specs.declared.flow_graph.Initial.{Initial}
use Rattle.flow.specs.Holding.{Owned, block_of}
use Rattle.flow.specs.Runs.{initial_word, with_initial, with_initials}
use Rattle.lowering.specs.Initials.{is_same_scalar, latest}

-- bytes with others written over them, one by one
module _ (bytes : List Byte) (from : ℕ) (written : List Byte) (room : from + length written ≤ length bytes) where
  front : length (take from bytes) ≡ from
  front = length-take-le from bytes (omega arith)

  pub before_written : (place : ℕ) → place < from → get_or (overwritten bytes from written) place (Num 0) ≡ get_or bytes place (Num 0)
  before_written place less =
      get_or_append_left (take from bytes) (written ++ drop (from + length written) bytes) (Num 0) place (rw front less)
      ∙ get_or-take from bytes place (Num 0) less

  pub in_written : (place : ℕ) → from ≤ place → place < from + length written → get_or (overwritten bytes from written) place (Num 0) ≡ get_or written (place - from) (Num 0)
  in_written place least less =
      get_or-append_right (take from bytes) (written ++ drop (from + length written) bytes) from place (Num 0) front least
      ∙ get_or_append_left written (drop (from + length written) bytes) (Num 0) (place - from) (omega arith)

  pub behind_written : (place : ℕ) → from + length written ≤ place → get_or (overwritten bytes from written) place (Num 0) ≡ get_or bytes place (Num 0)
  behind_written place least =
      get_or-append_right (take from bytes) (written ++ drop (from + length written) bytes) from place (Num 0) front (omega arith)
      ∙ (get_or-append_right written (drop (from + length written) bytes) (length written) (place - from) (Num 0) refl (omega arith)
      ∙ (get_or-drop (from + length written) bytes (place - from - length written) (Num 0)
      ∙ ap (λ (n : ℕ). get_or bytes n (Num 0)) (omega arith)))

  pub length_overwritten : length (overwritten bytes from written) ≡ length bytes
  length_overwritten = simp (length-append, length-drop, front) (omega arith)

-- two lists of bytes differ in nothing but `count` bytes from a place on
pub record AreSameBut (from count : ℕ) (one other : List Byte) : Type 0 where
  pub lengths : length one ≡ length other
  pub before : (place : ℕ) → place < from → get_or one place (Num 0) ≡ get_or other place (Num 0)
  pub behind : (place : ℕ) → from + count ≤ place → get_or one place (Num 0) ≡ get_or other place (Num 0)

same_but_written : (bytes : List Byte) (from : ℕ) (written : List Byte) → from + length written ≤ length bytes → AreSameBut from (length written) bytes (overwritten bytes from written)
same_but_written bytes from written room = record {
  lengths = sym (length_overwritten bytes from written room);
  before = λ place less. sym (before_written bytes from written room place less);
  behind = λ place least. sym (behind_written bytes from written room place least);
}

-- the same bytes written over both
by_place : (from count place : ℕ) {P : Type 0} → (place < from → P) → (from ≤ place → place < from + count → P) → (from + count ≤ place → P) → P
by_place from count place before within behind =
    ⊎_elim (λ (less : place < from). before less)
    (λ (least : from ≤ place). ⊎_elim (λ (less : place < from + count). within least less) (λ (more : from + count ≤ place). behind more) (cases_lt place (from + count)))
    (cases_lt place from)

module _ (one other : List Byte) (at : ℕ) (written : List Byte) (room : at + length written ≤ length one) (room' : at + length written ≤ length other) where
  written_alike : (place : ℕ) → (place < at → get_or one place (Num 0) ≡ get_or other place (Num 0)) →
      (at + length written ≤ place → get_or one place (Num 0) ≡ get_or other place (Num 0)) →
      get_or (overwritten one at written) place (Num 0) ≡ get_or (overwritten other at written) place (Num 0)
  written_alike place before behind =
      by_place at (length written) place
      (λ less. before_written one at written room place less ∙ (before less ∙ sym (before_written other at written room' place less)))
      (λ least less. in_written one at written room place least less ∙ sym (in_written other at written room' place least less))
      (λ least. behind_written one at written room place least ∙ (behind least ∙ sym (behind_written other at written room' place least)))

  pub still_same_but : (from count : ℕ) → AreSameBut from count one other → AreSameBut from count (overwritten one at written) (overwritten other at written)
  still_same_but from count same = record {
    lengths = length_overwritten one at written room ∙ (same.lengths ∙ sym (length_overwritten other at written room'));
    before = λ place less. written_alike place (λ _. same.before place less) (λ _. same.before place less);
    behind = λ place least. written_alike place (λ _. same.behind place least) (λ _. same.behind place least);
  }

  -- where they differ is written over
  pub same_at_last : AreSameBut at (length written) one other → overwritten one at written ≡ overwritten other at written
  same_at_last same =
      ext_get_or (Num 0) (overwritten one at written) (overwritten other at written)
      (length_overwritten one at written room ∙ (same.lengths ∙ sym (length_overwritten other at written room')))
      (λ place less. written_alike place (λ before. same.before place before) (λ behind. same.behind place behind))

-- scalars of one place have one size

module _ (statics : List Owned) where
  abbrev bytes_in : Initial → List Byte
  bytes_in scalar = take scalar.size (word_bytes (initial_word statics scalar.word))

  -- a scalar lies in the block of its variable
  pub record HasRoom (memory : List Block) (scalar : Initial) : Type 0 where
    pub number : ℕ
    pub block : Block
    pub owned : block_of statics scalar.variable ≡ Some number
    pub stands : slice_get memory number ≡ Some block
    pub room : scalar.at + length (bytes_in scalar) ≤ length block.bytes

  abbrev pub HaveRoom : List Block → List Initial → Type 0
  HaveRoom memory [] = Unit {0}
  HaveRoom memory (scalar ∷ scalars) = HasRoom memory scalar × HaveRoom memory scalars

  abbrev after : Block → Initial → Block
  after block scalar = record block { bytes = overwritten block.bytes scalar.at (bytes_in scalar) }

  initial_at : (memory : List Block) (scalar : Initial) (number : ℕ) (block : Block) → block_of statics scalar.variable ≡ Some number → slice_get memory number ≡ Some block →
      with_initial statics scalar memory ≡ set memory number (after block scalar)
  initial_at memory scalar number block owned stands =
      ap (λ (found : Option ℕ). option_map_or (λ at. stored memory (To at (pos scalar.at)) scalar.size (initial_word statics scalar.word)) found memory) owned
      ∙ ap (λ (found : Option Block). with_bytes memory number found scalar.at (bytes_in scalar)) stands

  initial_set : (memory : List Block) (scalar : Initial) (has : HasRoom memory scalar) → with_initial statics scalar memory ≡ set memory has.number (after has.block scalar)
  initial_set memory scalar has = initial_at memory scalar has.number has.block has.owned has.stands

  length_in : (scalar : Initial) → length (bytes_in scalar) ≡ min scalar.size 8
  length_in scalar = length-take scalar.size (word_bytes (initial_word statics scalar.word)) ∙ ap (min scalar.size) (length-word_bytes (initial_word statics scalar.word))

  -- a block that is there, behind a change of one
  still_there : (memory : List Block) (number other : ℕ) (block old new : Block) → slice_get memory number ≡ Some old → slice_get memory other ≡ Some block →
      length new.bytes ≡ length old.bytes → (after' : Block) × (slice_get (set memory number new) other ≡ Some after') × (length after'.bytes ≡ length block.bytes)
  still_there memory number other block old new stands stands' lengths =
      ⊎_elim
      (λ (same : other ≡ number). (
        new,
        subst (λ (n : ℕ). slice_get (set memory number new) n ≡ Some new) (sym same) (slice_get-set_same memory number old new stands),
        lengths ∙ ap (λ (b : Block). length b.bytes) (same_Some old block (sym stands ∙ (ap (slice_get memory) (sym same) ∙ stands'))),
      ))
      (λ (differ : other ≢ number). (block, slice_get-set_other memory number other new differ ∙ stands', refl))
      (cases_eq other number)

  room_kept : (memory : List Block) (scalar other : Initial) → HasRoom memory scalar → HasRoom memory other → HasRoom (with_initial statics scalar memory) other
  room_kept memory scalar other has has' =
      let there = still_there memory has.number has'.number has'.block has.block (after has.block scalar) has.stands has'.stands (length_overwritten has.block.bytes scalar.at (bytes_in scalar) has.room) in
      record {
        number = has'.number;
        block = there.0;
        owned = has'.owned;
        stands = ap (λ (m : List Block). slice_get m has'.number) (initial_set memory scalar has) ∙ there.1;
        room = subst (λ (n : ℕ). other.at + length (bytes_in other) ≤ n) (sym there.2) has'.room;
      }

  pub rooms_kept : (memory : List Block) (scalar : Initial) (scalars : List Initial) → HasRoom memory scalar → HaveRoom memory scalars → HaveRoom (with_initial statics scalar memory) scalars
  rooms_kept memory scalar [] has have = tt
  rooms_kept memory scalar (other ∷ scalars) has have = (room_kept memory scalar other has have.0, rooms_kept memory scalar scalars has have.1)

  -- two memories differ in nothing but the bytes of a scalar
  record Differ (scalar : Initial) (memory other : List Block) : Type 0 where
    number : ℕ
    block : Block
    bytes : List Byte
    owned : block_of statics scalar.variable ≡ Some number
    stands : slice_get memory number ≡ Some block
    is : other ≡ set memory number (record block { bytes = bytes })
    same : AreSameBut scalar.at (length (bytes_in scalar)) block.bytes bytes

  differs : (scalar : Initial) (memory : List Block) → HasRoom memory scalar → Differ scalar memory (with_initial statics scalar memory)
  differs scalar memory has = record {
    number = has.number;
    block = has.block;
    bytes = overwritten has.block.bytes scalar.at (bytes_in scalar);
    owned = has.owned;
    stands = has.stands;
    is = initial_set memory scalar has;
    same = same_but_written has.block.bytes scalar.at (bytes_in scalar) has.room;
  }

  -- another scalar in the same block, or in another one
  differ_here : (scalar next : Initial) (memory other : List Block) (differ : Differ scalar memory other) (has : HasRoom memory next) → has.number ≡ differ.number →
      Differ scalar (with_initial statics next memory) (with_initial statics next other)
  differ_here scalar next memory other differ has same =
      let old : Block = differ.block in
      let changed : Block = record differ.block { bytes = differ.bytes } in
      let owned : block_of statics next.variable ≡ Some differ.number = has.owned ∙ ap Some same in
      let is : has.block ≡ old = same_Some has.block old (sym has.stands ∙ (ap (slice_get memory) same ∙ differ.stands)) in
      let room : next.at + length (bytes_in next) ≤ length old.bytes = subst (λ (b : Block). next.at + length (bytes_in next) ≤ length b.bytes) is has.room in
      let first : with_initial statics next memory ≡ set memory differ.number (after old next) = initial_at memory next differ.number old owned differ.stands in
      let there : slice_get other differ.number ≡ Some changed = ap (λ (m : List Block). slice_get m differ.number) differ.is ∙ slice_get-set_same memory differ.number old changed differ.stands in
      let second : with_initial statics next other ≡ set memory differ.number (after changed next) =
      initial_at other next differ.number changed owned there
      ∙ (ap (λ (m : List Block). set m differ.number (after changed next)) differ.is ∙ set-set memory differ.number changed (after changed next)) in
      record {
        number = differ.number;
        block = after old next;
        bytes = overwritten differ.bytes next.at (bytes_in next);
        owned = differ.owned;
        stands = ap (λ (m : List Block). slice_get m differ.number) first ∙ slice_get-set_same memory differ.number old (after old next) differ.stands;
        is = second
            ∙ (sym (set-set memory differ.number (after old next) (after changed next))
            ∙ ap (λ (m : List Block). set m differ.number (after changed next)) (sym first));
        same = still_same_but old.bytes differ.bytes next.at (bytes_in next) room (subst (λ (n : ℕ). next.at + length (bytes_in next) ≤ n) differ.same.lengths room)
            scalar.at (length (bytes_in scalar)) differ.same;
      }

  differ_apart : (scalar next : Initial) (memory other : List Block) (differ : Differ scalar memory other) (has : HasRoom memory next) → has.number ≢ differ.number →
      Differ scalar (with_initial statics next memory) (with_initial statics next other)
  differ_apart scalar next memory other differ has apart =
      let changed : Block = record differ.block { bytes = differ.bytes } in
      let first : with_initial statics next memory ≡ set memory has.number (after has.block next) = initial_at memory next has.number has.block has.owned has.stands in
      let there : slice_get other has.number ≡ Some has.block =
      ap (λ (m : List Block). slice_get m has.number) differ.is ∙ (slice_get-set_other memory differ.number has.number changed apart ∙ has.stands) in
      record {
        number = differ.number;
        block = differ.block;
        bytes = differ.bytes;
        owned = differ.owned;
        stands = ap (λ (m : List Block). slice_get m differ.number) first
            ∙ (slice_get-set_other memory has.number differ.number (after has.block next) (λ is. apart (sym is)) ∙ differ.stands);
        is = initial_at other next has.number has.block has.owned there
            ∙ (ap (λ (m : List Block). set m has.number (after has.block next)) differ.is
            ∙ (set_comm memory differ.number has.number changed (after has.block next) (λ is. apart (sym is))
            ∙ ap (λ (m : List Block). set m differ.number changed) (sym first)));
        same = differ.same;
      }

  still_differ : (scalar next : Initial) (memory other : List Block) (differ : Differ scalar memory other) (has : HasRoom memory next) →
      Differ scalar (with_initial statics next memory) (with_initial statics next other)
  still_differ scalar next memory other differ has =
      ⊎_elim (λ (same : has.number ≡ differ.number). differ_here scalar next memory other differ has same)
      (λ (apart : has.number ≢ differ.number). differ_apart scalar next memory other differ has apart) (cases_eq has.number differ.number)

  -- the scalar itself ends it
  differ_no_more : (scalar last : Initial) (memory other : List Block) (differ : Differ scalar memory other) (has : HasRoom memory last) → scalar.variable ≡ last.variable → scalar.at ≡ last.at →
      scalar.size ≡ last.size → with_initial statics last memory ≡ with_initial statics last other
  differ_no_more scalar last memory other differ has variable at size =
      let old : Block = differ.block in
      let changed : Block = record differ.block { bytes = differ.bytes } in
      let owned : block_of statics last.variable ≡ Some differ.number = subst (λ (x : ℕ). block_of statics x ≡ Some differ.number) variable differ.owned in
      let number : has.number ≡ differ.number = same_Some has.number differ.number (sym has.owned ∙ owned) in
      let is : has.block ≡ old = same_Some has.block old (sym has.stands ∙ (ap (slice_get memory) number ∙ differ.stands)) in
      let room : last.at + length (bytes_in last) ≤ length old.bytes = subst (λ (b : Block). last.at + length (bytes_in last) ≤ length b.bytes) is has.room in
      let there : slice_get other differ.number ≡ Some changed = ap (λ (m : List Block). slice_get m differ.number) differ.is ∙ slice_get-set_same memory differ.number old changed differ.stands in
      let count : length (bytes_in scalar) ≡ length (bytes_in last) = length_in scalar ∙ (ap (λ (n : ℕ). min n 8) size ∙ sym (length_in last)) in
      let same : AreSameBut last.at (length (bytes_in last)) old.bytes differ.bytes =
      subst (λ (n : ℕ). AreSameBut last.at n old.bytes differ.bytes) count (subst (λ (n : ℕ). AreSameBut n (length (bytes_in scalar)) old.bytes differ.bytes) at differ.same) in
      initial_at memory last differ.number old owned differ.stands
      ∙ (ap (λ (bytes : List Byte). set memory differ.number (record old { bytes = bytes }))
      (same_at_last old.bytes differ.bytes last.at (bytes_in last) room (subst (λ (n : ℕ). last.at + length (bytes_in last) ≤ n) differ.same.lengths room) same)
      ∙ (sym (set-set memory differ.number changed (after changed last))
      ∙ (ap (λ (m : List Block). set m differ.number (after changed last)) (sym differ.is)
      ∙ sym (initial_at other last differ.number changed owned there))))

  absorbed : (scalar : Initial) (rest : List Initial) (memory other : List Block) → Differ scalar memory other → HaveRoom memory rest → list_any (is_same_scalar scalar) rest ≡ true → with_initials statics rest memory ≡ with_initials statics rest other
  absorbed scalar [] memory other differ have any = absurd (cc)
  absorbed scalar (last ∷ rest) memory other differ have any =
      ⊎_elim
      (λ (here : is_same_scalar scalar last ≡ true).
      let parts = and_parts (nat_eq scalar.variable last.variable) (nat_eq scalar.at last.at && nat_eq scalar.size last.size) here in
      let more = and_parts (nat_eq scalar.at last.at) (nat_eq scalar.size last.size) parts.1 in
      ap (with_initials statics rest)
      (differ_no_more scalar last memory other differ have.0 (eqb-true scalar.variable last.variable parts.0) (eqb-true scalar.at last.at more.0)
      (eqb-true scalar.size last.size more.1)))
      (λ (behind : list_any (is_same_scalar scalar) rest ≡ true).
      absorbed scalar rest (with_initial statics last memory) (with_initial statics last other) (still_differ scalar last memory other differ have.0) (rooms_kept memory last rest have.0 have.1) behind)
      (or_cases (is_same_scalar scalar last) (list_any (is_same_scalar scalar) rest) any)

  pub latest_writes : (scalars : List Initial) (memory : List Block) → HaveRoom memory scalars →
      with_initials statics (latest scalars) memory ≡ with_initials statics scalars memory
  latest_writes [] memory have = refl
  latest_writes (first ∷ rest) memory have =
      by_test (list_any (is_same_scalar first) rest) refl (latest_writes rest memory have.1)
      (latest_writes rest (with_initial statics first memory) (rooms_kept memory first rest have.0 have.1))
    where
      by_test : (set_again : Bool) → list_any (is_same_scalar first) rest ≡ set_again → with_initials statics (latest rest) memory ≡ with_initials statics rest memory →
          with_initials statics (latest rest) (with_initial statics first memory) ≡ with_initials statics rest (with_initial statics first memory) →
          with_initials statics (if set_again then latest rest else first ∷ latest rest) memory ≡ with_initials statics rest (with_initial statics first memory)
      by_test true is here there = here ∙ absorbed first rest memory (with_initial statics first memory) (differs first memory have.0) have.1 is
      by_test false is here there = there
