-- Levels of calls.
use Rattle.std.proofs.Common.{◌≡◌, ℕ, zero, suc, ◌+◌, ◌-◌, ◌<◌, ◌≤◌, List, Result, Ok, refl}
use Rattle.std.proofs.Common.{subst, arith}
use Rattle.pl_base.specs.declared.place.FileKey.{FileKey}
use Rattle.pl_base.specs.declared.value.MarkedNode.{MarkedNode}
use Rattle.pl_frame.specs.declared.frame.Frame.{Frame}
use Rattle.pl_directives.specs.declared.fault.ExpandFault.{ExpandFault}
use Rattle.pl_directives.specs.declared.region.Form.{Form}
use Rattle.pl_directives.specs.declared.fault.ExpandProblem.TheVariants.{NestedTooDeep}
use Rattle.pl_directives.specs.Complaints.{refused}
use Rattle.pl_reading.specs.Steps.{◌>>=◌}
use Rattle.pl_calls.specs.Calls.{call_of}
use Rattle.pl_calls.specs.Gives.{GivesUsed}
use Rattle.pl_calls.specs.Meant.{◌>>>◌}
use Rattle.pl_calls.specs.Reaching.{Opens}
use Rattle.pl_calls.specs.declared.reaching.Opened.{Opened}
use Rattle.pl_recursion.specs.declared.followed.Followed.{Followed}
use Rattle.pl_recursion.specs.Levels.{Calling, call_in, reached, found_in, followed, below}

pub followed_by :
    (levels : ℕ) (opens : Opens) (frame : Frame) (form : Form) (item : MarkedNode) (count : ℕ)
    (used : List FileKey) →
    followed levels opens frame form item count used
    ≡ (call_of item >>= λ call.
    reached (below levels opens) opens (call_in frame form call count) used)
unfolding followed
followed_by zero opens frame form item count used = refl
followed_by (suc left) opens frame form item count used = refl

pub reached_none :
    (levels : ℕ) (opens : Opens) (calling : Calling) (used : List FileKey) → levels < 1 →
    reached (below levels opens) opens calling used ≡ refused NestedTooDeep calling.call.at
reached_none zero opens calling used none = refl
reached_none (suc left) opens calling used none = absurd (omega (arith, none))

pub reached_some :
    (levels left : ℕ) (opens : Opens) (calling : Calling) (used : List FileKey) →
    left + 1 ≡ levels →
    reached (below levels opens) opens calling used
    ≡ (opens calling.call.at calling.call.path used >>> λ opened used.
    found_in opened (followed left opens) calling used)
reached_some zero left opens calling used more = absurd (omega (arith, more))
reached_some (suc levels) left opens calling used more =
    let same : left ≡ levels = omega (arith, more) in rw same refl

-- one level less is left, and the path led to a file
pub descends :
    (levels left : ℕ) (before after : Opens) (calling : Calling) (used later : List FileKey)
    (opened : Opened) (result : Result Followed ExpandFault) (end : List FileKey) →
    1 ≤ levels → left ≡ levels - 1 →
    before calling.call.at calling.call.path used ≡ Ok (opened, later) → after ≡ before →
    GivesUsed result end (found_in opened (followed left after) calling later) →
    GivesUsed result end (reached (below levels before) before calling used)
descends levels left before after calling used later opened result end some less is same found =
    let more : left + 1 ≡ levels = omega (arith, some, less) in
    rw (reached_some levels left before calling used more)
    (rw is
    (subst (λ how. GivesUsed result end (found_in opened (followed left how) calling later)) same
    found))
