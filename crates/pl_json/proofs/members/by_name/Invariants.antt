use Rattle.std.proofs.Common.{◌≡◌, []}
use Rattle.pl_json.specs.Members.{put_all}
use Rattle.pl_json.specs.Entries.{entries_of}
use Rattle.pl_json.proofs.members.by_name.Given as goal

abbrev pub invariant-loop-member : goal.invariant-loop-member
invariant-loop-member g l = l.by_name.entries ≡ entries_of (put_all [] l.yielded)
