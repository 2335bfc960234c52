-- What is found of the names of a declaration outside of functions, one behind the other.
use Rattle.std.proofs.Common.{◌≡◌, ◌<◌, ◌≤◌, ◌+◌, ◌∙◌, ℕ, List, [], ◌++◌, map, drop, length, get_or, refl, sym, ap, subst, append-nil}
use Rattle.std.proofs.lemmas.List.{append_assoc, map-append, drop_all}
use Rattle.cbase.specs.declared.abi.Abi.{Abi}
use Rattle.cbase.specs.declared.tree.decl.Declared.{Declared as DeclaredTree}
use Rattle.cbase.specs.declared.tree.decl.Storage.{Storage}
use Rattle.typing.specs.declared.fault.Fault.{Fault}
use Rattle.typing.specs.Items.{FileNameIs, FileNamesAre, NoMoreFileNames, MoreFileNames, FileNameRefused}
use Rattle.typing.specs.Outcomes.{Outcome, Handed, Passes, Refused, with_front}
use Rattle.expressions.specs.declared.found.Found.{Found}
use Rattle.expressions.specs.declared.found.Found.TheVariants.{Passes as FoundToPass, Refused as FoundRefused}
use Rattle.expressions.specs.declared.handed_row.HandedRow.{HandedRow}
use Rattle.expressions.specs.declared.named_type.NamedType.{NamedType as NamedByNumber}
use Rattle.expressions.specs.Context.{Context, Declared, declared, Agrees, Grows}
use Rattle.expressions.specs.Found.{nothing}
use Rattle.expressions.specs.Numbers.{Numbering, handed_at, named_at}
use Rattle.expressions.specs.Walked.{Tells, Passed, Stopped, Walked}
use Rattle.expressions.proofs.Growth.{agrees_before, grows_same, grows_trans}
use Rattle.expressions.proofs.Loops.{next_item}
use Rattle.expressions.proofs.Walking.{handed_behind, passed_of, stopped_of}
use Rattle.items.specs.InFile.{SaysInFileBy}

-- rows in front of what is found
front_of_nothing : (outcome : Outcome (Unit {0})) → with_front [] outcome ≡ outcome
front_of_nothing (Passes told further) = refl
front_of_nothing (Refused first) = refl

front_twice : (handed further : List Handed) (outcome : Outcome (Unit {0})) → with_front handed (with_front further outcome) ≡ with_front (handed ++ further) outcome
front_twice handed further (Passes told rows) = λ i. Passes told (sym (append_assoc handed further rows) i)
front_twice handed further (Refused first) = refl

module _ (abi : Abi) (storage : Storage) (base : NamedByNumber) (names : List DeclaredTree) where
  -- what is said of a name, and of names
  abbrev pub SaysName : DeclaredTree → Tells (Unit {0})
  SaysName name = SaysInFileBy abi (λ n o. FileNameIs storage (named_at n base) name o)

  abbrev pub SaysNames : List DeclaredTree → Tells (Unit {0})
  SaysNames these = SaysInFileBy abi (λ n o. FileNamesAre storage (named_at n base) these o)

  -- names of which so many are walked: what is found of the rest makes what is found of all
  pub record Names (old new : Context) (index : ℕ) : Type 0 where
    pub rows : List HandedRow
    pub handed : new.handed ≡ old.handed ++ rows
    pub grows : Grows old new
    pub goes : (n : Numbering) → Agrees n new → (outcome : Outcome (Unit {0})) (after : Declared)
        → SaysNames (drop index names) n (declared new) outcome after
        → SaysNames names n (declared old) (with_front (map (handed_at n) rows) outcome) after

  pub names_start : (context : Context) → Names context context 0
  names_start context = record {
    rows = [];
    handed = sym (append-nil context.handed);
    grows = grows_same context;
    goes = λ n agrees outcome after found.
        subst (λ (o : Outcome (Unit {0})). SaysNames names n (declared context) o after) (sym (front_of_nothing outcome)) found;
  }

  -- one more name
  pub names_next : (old mid new : Context) (index : ℕ) (name : DeclaredTree) (told : Unit {0}) (found : Found (Unit {0})) → index < length names → name ≡ get_or names index name → found ≡ FoundToPass told
      → Walked (SaysName name) nothing mid new found → Names old mid index → Names old new (index + 1)
  names_next old mid new index name told found within is passes walked walk =
      let passed = passed_of (SaysName name) nothing mid new told found passes walked in
      record {
        rows = walk.rows ++ passed.rows;
        handed = handed_behind old.handed mid.handed new.handed walk.rows passed.rows walk.handed passed.handed;
        grows = grows_trans old mid new walk.grows passed.grows;
        goes = λ n agrees outcome after rest.
            let whole = walk.goes n (agrees_before mid new n passed.grows agrees) (with_front (map (handed_at n) passed.rows) outcome) after
            (subst (λ (these : List DeclaredTree). SaysNames these n (declared mid) (with_front (map (handed_at n) passed.rows) outcome) after) (sym (next_item names index name within is))
            (MoreFileNames (passed.found n agrees) rest)) in
            let twice = front_twice (map (handed_at n) walk.rows) (map (handed_at n) passed.rows) outcome in
            let rows = ap (λ (handed : List Handed). with_front handed outcome) (sym (map-append (handed_at n) walk.rows passed.rows)) in
            subst (λ (o : Outcome (Unit {0})). SaysNames names n (declared old) o after) (twice ∙ rows) whole;
      }

  -- and one that is refused
  pub names_refused : (old mid new : Context) (index : ℕ) (name : DeclaredTree) (first : Fault) (found : Found (Unit {0})) → index < length names → name ≡ get_or names index name → found ≡ FoundRefused first
      → Walked (SaysName name) nothing mid new found → Names old mid index → Stopped (SaysNames names) old new first
  names_refused old mid new index name first found within is refused walked walk =
      let stopped = stopped_of (SaysName name) nothing mid new first found refused walked in
      record {
        grows = grows_trans old mid new walk.grows stopped.grows;
        found = λ n agrees. walk.goes n (agrees_before mid new n stopped.grows agrees) (Refused first) (declared new)
            (subst (λ (these : List DeclaredTree). SaysNames these n (declared mid) (Refused first) (declared new)) (sym (next_item names index name within is))
            (FileNameRefused (stopped.found n agrees)));
      }

  pub names_end : (old new : Context) (index : ℕ) → length names ≤ index → Names old new index → Passed (SaysNames names) nothing old new tt
  names_end old new index past walk = record {
    rows = walk.rows;
    handed = walk.handed;
    grows = walk.grows;
    below = tt;
    found = λ n agrees.
        let whole = walk.goes n agrees (Passes tt []) (declared new)
        (subst (λ (these : List DeclaredTree). SaysNames these n (declared new) (Passes tt []) (declared new)) (sym (drop_all index names past)) NoMoreFileNames) in
        subst (λ (handed : List Handed). SaysNames names n (declared old) (Passes tt handed) (declared new)) (append-nil (map (handed_at n) walk.rows)) whole;
  }
