-- An item more in a list whose items are linked by their keys.
use Rattle.std.proofs.Common.{◌≡◌, ℕ, zero, suc, ◌<◌, ◌≤◌, ◌+◌, List, [], ◌∷◌, ◌++◌, Option, None, Some, refl, sym, ap, subst, ◌∙◌, ◌⊎◌, inl, inr, length, length-append, get_or, set, replicate, arith}
use Rattle.std.proofs.lemmas.Bool.{cases_eq}
use Rattle.std.proofs.lemmas.Option.{none-some, same_Some}
use Rattle.std.proofs.lemmas.List.{get_or-set_same, get_or-set_other, get_or_append_left}
use Rattle.std.proofs.Math.Seq.{get_or-append_seam}
use Rattle.driver.specs.Linked.{HasKey, SaysLast, AreLinked}

pub key_within : (keys : List (Option ℕ)) (key number : ℕ) → HasKey keys key number → number < length keys
key_within [] key number has = absurd (none-some key has)
key_within (first ∷ rest) key zero has = omega arith
key_within (first ∷ rest) key (suc number) has = let within : number < length rest = key_within rest key number has in omega arith

key_either : (keys : List (Option ℕ)) (new : Option ℕ) (key number : ℕ) → HasKey (keys ++ new ∷ []) key number →
    ((number < length keys) × HasKey keys key number) ⊎ ((number ≡ length keys) × (new ≡ Some key))
key_either [] new key zero has = inr (refl, has)
key_either [] new key (suc number) has = absurd (none-some key has)
key_either (first ∷ rest) new key zero has = inl (omega arith, has)
key_either (first ∷ rest) new key (suc number) has = elim (key_either rest new key number has) [
  | inl (less, old) ↦ inl (omega arith, old)
  | inr (last, is) ↦ inr (ap suc last, is)
]

key_on : (keys : List (Option ℕ)) (new : Option ℕ) (key number : ℕ) → HasKey keys key number → HasKey (keys ++ new ∷ []) key number
key_on [] new key number has = absurd (none-some key has)
key_on (first ∷ rest) new key zero has = has
key_on (first ∷ rest) new key (suc number) has = key_on rest new key number has

key_last : (keys : List (Option ℕ)) (key : ℕ) → HasKey (keys ++ Some key ∷ []) key (length keys)
key_last [] key = refl
key_last (first ∷ rest) key = key_last rest key

longer : {A : Type 0} (items : List A) (item : A) → length (items ++ item ∷ []) ≡ length items + 1
longer items item = length-append items (item ∷ [])

says_on : (keys : List (Option ℕ)) (new : Option ℕ) (key below mark : ℕ) → below ≤ length keys → SaysLast keys key below mark → SaysLast (keys ++ new ∷ []) key below mark
says_on keys new key below mark within says = record {
  all = λ number less has. elim (key_either keys new key number has) [
    | inl (old, has') ↦ says.all number less has'
    | inr (last, is) ↦ absurd (omega (arith, last))
  ];
  there = λ number is. key_on keys new key number (says.there number is);
  within = says.within;
}

says_past : (keys : List (Option ℕ)) (new : Option ℕ) (key mark count : ℕ) → count ≡ length keys + 1 → (new ≡ Some key → ⊥) → SaysLast keys key (length keys) mark →
    SaysLast (keys ++ new ∷ []) key count mark
says_past keys new key mark count long other says = record {
  all = λ number less has. elim (key_either keys new key number has) [
    | inl (old, has') ↦ says.all number old has'
    | inr (last, is) ↦ absurd (other is)
  ];
  there = λ number is. key_on keys new key number (says.there number is);
  within = let within : mark ≤ length keys = says.within in omega (arith, long);
}

item_on : (keys : List (Option ℕ)) (new : Option ℕ) (newest before : List ℕ) (mark key number : ℕ) → AreLinked keys newest before → number < length keys → HasKey keys key number →
    SaysLast (keys ++ new ∷ []) key number (get_or (before ++ mark ∷ []) number 0)
item_on keys new newest before mark key number linked less has = subst (λ (m : ℕ). SaysLast (keys ++ new ∷ []) key number m)
    (sym (get_or_append_left before (mark ∷ []) 0 number (omega (arith, linked.long))))
    (says_on keys new key number (get_or before number 0) (omega arith) (linked.items key number has))

-- one that has a key
pub linked_more : (keys : List (Option ℕ)) (newest before : List ℕ) (key : ℕ) → AreLinked keys newest before → key < length newest →
    AreLinked (keys ++ Some key ∷ []) (set newest key (length keys + 1)) (before ++ get_or newest key 0 ∷ [])
linked_more keys newest before key linked within = record {
  heads = λ other. by_key other (cases_eq other key);
  items = λ other number has. elim (key_either keys (Some key) other number has) [
    | inl (old, has') ↦ item_on keys (Some key) newest before (get_or newest key 0) other number linked old has'
    | inr (last, is) ↦ by_last other number last (same_Some _ _ is)
  ];
  long = longer before (get_or newest key 0) ∙ (ap (λ (n : ℕ). n + 1) linked.long ∙ sym (longer keys (Some key)));
}
  where
    pred_is : (one number : ℕ) → one + 1 ≡ suc number → one ≡ number
    pred_is one number is = omega (arith, is)

    by_key : (other : ℕ) → (other ≡ key) ⊎ (other ≡ key → ⊥) → SaysLast (keys ++ Some key ∷ []) other (length (keys ++ Some key ∷ [])) (get_or (set newest key (length keys + 1)) other 0)
    by_key other (inl same) = subst (λ (k : ℕ). SaysLast (keys ++ Some key ∷ []) k (length (keys ++ Some key ∷ [])) (get_or (set newest key (length keys + 1)) k 0)) (sym same)
        (subst (λ (mark : ℕ). SaysLast (keys ++ Some key ∷ []) key (length (keys ++ Some key ∷ [])) mark) (sym (get_or-set_same newest key (length keys + 1) 0 within)) (record {
          all = λ number less has. omega (arith, longer keys (Some key));
          there = λ number is. subst (λ (n : ℕ). HasKey (keys ++ Some key ∷ []) key n) (pred_is (length keys) number is) (key_last keys key);
          within = omega (arith, longer keys (Some key));
        }))
    by_key other (inr differs) = subst (λ (mark : ℕ). SaysLast (keys ++ Some key ∷ []) other (length (keys ++ Some key ∷ [])) mark)
        (sym (get_or-set_other newest key other (length keys + 1) 0 differs))
        (says_past keys (Some key) other (get_or newest other 0) (length (keys ++ Some key ∷ [])) (longer keys (Some key)) (λ is. differs (sym (same_Some _ _ is))) (linked.heads other))

    by_last : (other number : ℕ) → number ≡ length keys → key ≡ other → SaysLast (keys ++ Some key ∷ []) other number (get_or (before ++ get_or newest key 0 ∷ []) number 0)
    by_last other number last same =
        let mark_is : get_or (before ++ get_or newest key 0 ∷ []) number 0 ≡ get_or newest key 0 =
        ap (λ (n : ℕ). get_or (before ++ get_or newest key 0 ∷ []) n 0) (last ∙ sym linked.long) ∙ get_or-append_seam before (get_or newest key 0) [] 0 in
        subst (λ (mark : ℕ). SaysLast (keys ++ Some key ∷ []) other number mark) (sym mark_is)
        (subst (λ (k : ℕ). SaysLast (keys ++ Some key ∷ []) k number (get_or newest key 0)) same
        (subst (λ (n : ℕ). SaysLast (keys ++ Some key ∷ []) key n (get_or newest key 0)) (sym last)
        (says_on keys (Some key) key (length keys) (get_or newest key 0) (omega arith) (linked.heads key))))

-- one that has none
pub linked_none : (keys : List (Option ℕ)) (newest before : List ℕ) → AreLinked keys newest before → AreLinked (keys ++ None ∷ []) newest (before ++ 0 ∷ [])
linked_none keys newest before linked = record {
  heads = λ other. says_past keys None other (get_or newest other 0) (length (keys ++ None ∷ [])) (longer keys None) (λ is. none-some other is) (linked.heads other);
  items = λ other number has. elim (key_either keys None other number has) [
    | inl (old, has') ↦ item_on keys None newest before 0 other number linked old has'
    | inr (last, is) ↦ absurd (none-some other is)
  ];
  long = longer before 0 ∙ (ap (λ (n : ℕ). n + 1) linked.long ∙ sym (longer keys None));
}

-- nothing at all
abbrev none_yet : ℕ → List ℕ
none_yet count = replicate count 0

zeros : (count key : ℕ) → get_or (none_yet count) key 0 ≡ 0
zeros zero key = refl
zeros (suc count) zero = refl
zeros (suc count) (suc key) = zeros count key

pub linked_nothing : (count : ℕ) → AreLinked [] (replicate count 0) []
linked_nothing count = record {
  heads = λ key. subst (λ (mark : ℕ). SaysLast [] key 0 mark) (sym (zeros count key))
      (record { all = λ number less has. absurd (omega arith); there = λ number is. absurd (omega (arith, is)); within = omega arith });
  items = λ key number has. absurd (none-some key has);
  long = refl;
}
