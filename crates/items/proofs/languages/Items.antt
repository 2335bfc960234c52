-- What is found of an item of a file by a language is found by the one to which it leads.
use Rattle.std.proofs.Common.{length, ◌++◌, false, Some, None, sym, subst}
use Rattle.typing.specs.Declarations.{LinkedGiven, IsAgain, told_type, function_given}
use Rattle.typing.specs.Entities.{ObjectLinked}
use Rattle.typing.specs.FileNames.{link_row}
use Rattle.typing.specs.FileScope.{FileScope}
use Rattle.typing.specs.Heads.{names_in}
use Rattle.typing.specs.Items.{ItemSaying, FileNameIs, FindsInFile, NoItems, MoreItems, ItemRefused, EmptyItem, NamelessItem, ItemWithNames, ItemWordsRefused, FunctionItem, FunctionWordsRefused, NoMoreFileNames, MoreFileNames, FileNameRefused, FileTypedef, FileSizesRefused, FileNameBroken, FileNameGiven, FileFunction, FileNotInitialised, FileInitialised, FileArrayInitialised, FileArrayOfWrongSize, FileArrayPartsRefused, FileArrayByValue, HeadRefused, HeadBroken, HeadGiven, DefinitionHeadRefused, DefinitionWithBody}
use Rattle.typing.specs.Language.{Language}
use Rattle.typing.specs.Outcomes.{with_front}
use Rattle.items.specs.languages.Carries.{Carries}
use Rattle.items.proofs.languages.Changes.{follows_both, in_front, item_in_front, item_at_end, name_follows, object_follows, head_follows}
use Rattle.items.proofs.languages.Parts.{part_carried}
use Rattle.items.proofs.languages.Seen.{seen, seen_file}

module _ {l m : Language} {file : FileScope l} {other : FileScope m} {to : l.Environment → m.Environment} {Valid : l.Environment → Type 0} (c : Carries l m file other to Valid) where
  pub item_carried : {before : l.Environment} {saying : ItemSaying} {after : l.Environment} → FindsInFile (seen l m to) (seen_file l m file other to) before saying after → Valid after
      → FindsInFile m other (to before) saying (to after) × Valid before
  item_carried NoItems valid = (NoItems, valid)
  item_carried (MoreItems first rest) valid =
      let others = item_carried rest valid in
      let front = item_carried first others.1 in
      (MoreItems front.0 others.0, front.1)
  item_carried (ItemRefused found) valid =
      let inner = item_carried found valid in
      (ItemRefused inner.0, inner.1)
  item_carried EmptyItem valid = (EmptyItem, valid)
  item_carried (NamelessItem e g found) valid =
      let inner = part_carried c found valid in
      (NamelessItem e g inner.0, inner.1)
  item_carried (ItemWithNames e g h first rest) valid =
      let others = item_carried rest valid in
      let front = part_carried c first others.1 in
      (ItemWithNames e g h front.0 others.0, front.1)
  item_carried (ItemWordsRefused e g h found) valid =
      let inner = part_carried c found valid in
      (ItemWordsRefused e g h inner.0, inner.1)
  item_carried (FunctionItem {inside = inside} e words found) valid =
      let outside = c.result_set None (l.left inside) valid in
      let left = c.left inside outside.valid in
      let inner = item_carried found left.valid in
      let front = part_carried c words inner.1 in
      (item_at_end (follows_both (other.result_set None) left outside) (FunctionItem e front.0 inner.0), front.1)
  item_carried (FunctionWordsRefused e found) valid =
      let inner = part_carried c found valid in
      (FunctionWordsRefused e inner.0, inner.1)
  item_carried NoMoreFileNames valid = (NoMoreFileNames, valid)
  item_carried (MoreFileNames first rest) valid =
      let others = item_carried rest valid in
      let front = item_carried first others.1 in
      (MoreFileNames front.0 others.0, front.1)
  item_carried (FileNameRefused found) valid =
      let inner = item_carried found valid in
      (FileNameRefused inner.0, inner.1)
  item_carried (FileTypedef e g h found) valid =
      let inner = part_carried c found valid in
      (FileTypedef e g h inner.0, inner.1)
  item_carried (FileSizesRefused e g h found) valid =
      let inner = part_carried c found valid in
      (FileSizesRefused e g h inner.0, inner.1)
  item_carried (FileNameBroken other e g h found again_is k least) valid =
      let inner = part_carried c found valid in
      (FileNameBroken other e g h inner.0 again_is k least, inner.1)
  item_carried (FileNameGiven {before = before} {middle = middle} {after = after} {storage = storage} {base = base} {name = name} {parts = parts} {counts = counts} {handed = handed} {outcome = outcome} again e g h sizes k q initialised) valid =
      let inner = item_carried initialised valid in
      let follows = object_follows c storage base parts counts middle inner.1 in
      let front = part_carried c sizes follows.valid in (
        subst (λ (env : m.Environment). FindsInFile m other (to before) (FileNameIs storage base name (with_front (handed ++ link_row m other parts env) outcome)) (to after)) (sym follows.same)
            (FileNameGiven again e g h front.0 k q (item_in_front follows inner.0)),
        front.1,
      )
  item_carried (FileFunction {inside = inside} e g head) valid =
      let left = c.left inside valid in
      let inner = item_carried head left.valid in
      (item_at_end left (FileFunction e g inner.0), inner.1)
  item_carried FileNotInitialised valid = (FileNotInitialised, valid)
  item_carried (FileInitialised e found) valid =
      let inner = part_carried c found valid in
      (FileInitialised e inner.0, inner.1)
  item_carried (FileArrayInitialised {after = after} {name = name} {item = item} {parts = parts} again e found g h) valid =
      let follows = name_follows c name.name name.place.at (LinkedGiven (ObjectLinked (told_type item (length parts)))) after valid in
      let inner = part_carried c found follows.valid in
      (item_at_end follows (FileArrayInitialised again e inner.0 g h), inner.1)
  item_carried (FileArrayOfWrongSize other e found again_is g least) valid =
      let inner = part_carried c found valid in
      (FileArrayOfWrongSize other e inner.0 again_is g least, inner.1)
  item_carried (FileArrayPartsRefused e found) valid =
      let inner = part_carried c found valid in
      (FileArrayPartsRefused e inner.0, inner.1)
  item_carried (FileArrayByValue e found) valid =
      let inner = part_carried c found valid in
      (FileArrayByValue e inner.0, inner.1)
  item_carried (HeadRefused {before = before} e params) valid =
      let inner = part_carried c params valid in
      let entered = c.entered before inner.1 in
      (HeadRefused e (in_front entered inner.0), entered.valid)
  item_carried (HeadBroken {before = before} {after = after} {base = base} {parts = parts} {told = told} again e params g h first) valid =
      let left = c.left after (c.left_valid after valid) in
      let inner = part_carried c params valid in
      let entered = c.entered before inner.1 in (
        HeadBroken again e (in_front entered inner.0)
            (subst (λ (env : m.Environment). IsAgain (m.name_here parts.name env) (m.linked parts.name (to after)) (LinkedGiven (function_given parts base told)) again) left.same g) h first,
        entered.valid,
      )
  item_carried (HeadGiven {before = before} {after = after} {bodied = bodied} {base = base} {parts = parts} {told = told} again e params g h) valid =
      let follows = head_follows c bodied base parts (names_in parts) told after valid in
      let left = c.left after (c.left_valid after follows.valid) in
      let inner = part_carried c params follows.valid in
      let entered = c.entered before inner.1 in (
        item_at_end follows (HeadGiven again e (in_front entered inner.0)
            (subst (λ (env : m.Environment). IsAgain (m.name_here parts.name env) (m.linked parts.name (to after)) (LinkedGiven (function_given parts base told)) again) left.same g) h),
        entered.valid,
      )
  item_carried (DefinitionHeadRefused found) valid =
      let inner = item_carried found valid in
      (DefinitionHeadRefused inner.0, inner.1)
  item_carried (DefinitionWithBody {middle = middle} {result = result} head body) valid =
      let inner = part_carried c body valid in
      let loop = c.loop_set false (file.result_set (Some result) middle) inner.1 in
      let inside = c.result_set (Some result) middle loop.valid in
      let front = item_carried head inside.valid in
      (DefinitionWithBody front.0 (in_front (follows_both (m.loop_set false) inside loop) inner.0), front.1)
