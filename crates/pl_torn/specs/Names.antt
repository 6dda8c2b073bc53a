-- Names that nobody may have, and digests that two would have.
use Rattle.std.specs.Prelude.{ℕ, Bool, false, ◌||◌, List, codes}
use Rattle.std.specs.List.{list_any}
use Rattle.std.specs.Option.{option_map_or}
use Rattle.std.specs.Ordering.{is_eq}
use Rattle.pl_base.specs.Files.{text_cmp}
use Rattle.pl_base.specs.Texts.{is}
use Rattle.pl_base.specs.declared.digest.Digest.{Digest}
use Rattle.pl_keeper.specs.declared.records.KeptPipeline.{KeptPipeline}
use Rattle.pl_keeper.specs.declared.records.KeptPrincipal.{KeptPrincipal}
use Rattle.pl_torn.specs.Seen.{principal_of}
use Rattle.pl_torn.specs.declared.seen.Seen.{Seen}

abbrev pub same_digest : Digest → Digest → Bool
same_digest one other = is_eq (text_cmp one.bytes other.bytes)

-- whether it is a principal's row with this digest
abbrev pub has_digest : Digest → Seen → Bool
has_digest digest one =
    option_map_or (λ told. same_digest told.digest digest) (principal_of one) false

-- `text` is the pipeline of queued texts
abbrev pub is_reserved_pipeline : KeptPipeline → Bool
is_reserved_pipeline told = is told.name (codes "text")

-- `admin` is built in, and nobody has its digest or that of a principal in front
abbrev pub is_reserved_principal : Digest → List Seen → KeptPrincipal → Bool
is_reserved_principal admin before told = is told.name (codes "admin") ||
    (same_digest told.digest admin || list_any (has_digest told.digest) before)
