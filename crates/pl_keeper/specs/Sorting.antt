-- How kept rows sort: by table, and in a table by the fields of the key, the first of them first.
use Rattle.std.specs.Prelude.{ℕ, List, length}
use Rattle.std.specs.declared.cmp.Ordering.{Ordering}
use Rattle.std.specs.declared.cmp.Ordering.TheVariants.{Equal}
use Rattle.std.specs.Ordering.{nat_cmp, ordering_then}
use Rattle.std.specs.Cmp.Lexicographic.{slice_cmp}
use Rattle.pl_base.specs.declared.place.FileKey.{FileKey}
use Rattle.pl_base.specs.declared.resource.ResourceKey.{ResourceKey}
use Rattle.pl_fields.specs.Kinds.{kind_number}
use Rattle.pl_keeper.specs.Rows.{table}
use Rattle.pl_keeper.specs.declared.records.Record.{Record}
use Rattle.pl_keeper.specs.declared.records.Record.TheVariants.{Meta, File, Pipeline, Resource}
use Rattle.pl_keeper.specs.declared.records.Record.TheVariants.{Principal, Agent, Run, Stage, Job}
use Rattle.pl_keeper.specs.declared.records.Record.TheVariants.{Decision}

-- texts by their lengths, and those of one length byte by byte
abbrev pub shorter_first_cmp : List ℕ → List ℕ → Ordering
shorter_first_cmp left right = ordering_then (nat_cmp (length left) (length right))
    (slice_cmp nat_cmp left right)

-- files by repository, ref and path
abbrev pub file_key_cmp : FileKey → FileKey → Ordering
file_key_cmp left right = ordering_then (shorter_first_cmp left.repo right.repo)
    (ordering_then (shorter_first_cmp left.git_ref right.git_ref)
    (shorter_first_cmp left.path right.path))

-- resources by kind, in the order of the kinds' listing, and by name
abbrev pub resource_key_cmp : ResourceKey → ResourceKey → Ordering
resource_key_cmp left right = ordering_then
    (nat_cmp (kind_number left.kind) (kind_number right.kind))
    (shorter_first_cmp left.name right.name)

-- records by table, and those of one table by their keys
abbrev pub record_cmp : Record → Record → Ordering
record_cmp (Meta left) (Meta right) = Equal
record_cmp (File left) (File right) = file_key_cmp left.key right.key
record_cmp (Pipeline left) (Pipeline right) = shorter_first_cmp left.name right.name
record_cmp (Resource left) (Resource right) = resource_key_cmp left.key right.key
record_cmp (Principal left) (Principal right) = shorter_first_cmp left.name right.name
record_cmp (Agent left) (Agent right) = shorter_first_cmp left.name right.name
record_cmp (Run left) (Run right) = nat_cmp left.run right.run
record_cmp (Stage left) (Stage right) = ordering_then (nat_cmp left.run right.run)
    (nat_cmp left.position right.position)
record_cmp (Job left) (Job right) = ordering_then (nat_cmp left.run right.run)
    (ordering_then (nat_cmp left.stage right.stage) (nat_cmp left.position right.position))
record_cmp (Decision left) (Decision right) = ordering_then (nat_cmp left.run right.run)
    (ordering_then (nat_cmp left.stage right.stage)
    (shorter_first_cmp left.approver right.approver))
record_cmp left right = nat_cmp (table left) (table right)
