-- An expansion depends on the files that it used alone.
use Rattle.std.specs.Prelude.{◌≡◌, List, Ok, Contains}
use Rattle.std.specs.FinMap as finite
use Rattle.pl_base.specs.declared.expanded.Argument.{Argument as RunArgument}
use Rattle.pl_base.specs.declared.place.FileKey.{FileKey}
use Rattle.pl_expand.specs.declared.root.RootTree.{RootTree}
use Rattle.pl_expand.specs.Tree.{Set, tree_of}

-- two sets have the same files, or none, at these keys
abbrev pub AgreeOn : List FileKey → Set → Set → Type 0
AgreeOn used files others =
    (key : FileKey) → Contains used key → finite.get others key ≡ finite.get files key

-- Where a root file expands, it expands to the same tree with the same count over every other set
-- of files that agrees on the used ones.
abbrev pub UsedFilesDecide : Type 0
UsedFilesDecide =
    (files others : Set) (root : FileKey) (arguments : List RunArgument) (whole : RootTree) →
    tree_of files root arguments ≡ Ok whole → AgreeOn whole.expanded.used files others →
    tree_of others root arguments ≡ Ok whole
