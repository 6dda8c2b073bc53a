-- Why four workers ended.
use Rattle.std.specs.Prelude.{Bool, true, false, ◌||◌, if◌then◌else◌, Option, Some, None}
use Rattle.pl_worker.specs.declared.why.End.{End}
use Rattle.pl_worker.specs.declared.why.End.TheVariants as the_end
use Rattle.pl_worker.specs.declared.why.Reasons.{Reasons}
use Rattle.pl_worker.specs.declared.why.Why.{Why}
use Rattle.pl_worker.specs.declared.why.Why.TheVariants as why

abbrev pub was_stopped : Why → Bool
was_stopped why.Stopped = true
was_stopped other = false

abbrev pub has_failed : Why → Bool
has_failed why.Failed = true
has_failed other = false

abbrev pub lacks_memory : Why → Bool
lacks_memory why.Memory = true
lacks_memory other = false

-- whether one of the four ended so
abbrev pub one_of : (Why → Bool) → Reasons → Bool
one_of so all = so all.first || (so all.second || (so all.third || so all.fourth))

-- an accepted shutdown comes first, then a listener that failed, then want of memory
abbrev pub end_of : Reasons → Option End
end_of all =
    if one_of was_stopped all then Some the_end.Stopped
    else (if one_of has_failed all then Some the_end.Failed
    else (if one_of lacks_memory all then Some the_end.Memory else None))
