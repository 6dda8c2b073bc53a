-- The key that the parts of a line name.
use Rattle.pl_base.specs.declared.place.FileKey.{FileKey}
use Rattle.pl_bundle.specs.declared.head.Head.{Head}

abbrev pub key_in : Head → FileKey
key_in head = record { repo = head.repo.now; git_ref = head.git_ref.now; path = head.path.now }
