-- The limits of what requests bring and what rows keep, beside those of names, refs and paths.
use Rattle.std.specs.Prelude.{ℕ, ◌-◌, nat_eq, nat_le, nat_lt, Bool, true, not, ◌&&◌, ◌==◌, List}
use Rattle.std.specs.Prelude.{[], ◌∷◌, ◌++◌, length, slice_get, Option}
use Rattle.std.specs.Cmp.Lexicographic.{pointwise, slice_cmp}
use Rattle.std.specs.List.{list_all, list_any}
use Rattle.std.specs.Option.{option_map_or}
use Rattle.std.specs.Ordering.{is_lt, nat_cmp, ordering_then}
use Rattle.std.specs.declared.cmp.Ordering.{Ordering}
use Rattle.pl_checks.specs.declared.check.Check.{Check}
use Rattle.pl_checks.specs.declared.check.Check.TheVariants.{RequiredTemplate, Branch, Approval}
use Rattle.pl_checks.specs.declared.check.Check.TheVariants.{Hours}
use Rattle.pl_names.specs.Names.{is_key, is_name}
use Rattle.pl_rules.specs.Days.{day_number}
use Rattle.pl_rules.specs.declared.day.Day.{Day}
use Rattle.pl_rules.specs.declared.rule.Rule.{Rule}
use Rattle.pl_rules.specs.declared.rule.Rule.TheVariants.{ApprovalRejected, LockSuperseded}
use Rattle.pl_rules.specs.declared.rule.Rule.TheVariants.{TemplateArgument}

-- ---- numbers

-- numbers of runs, versions and changes have at most 18 digits
abbrev pub is_counted : ℕ → Bool
is_counted n = nat_le n 999999999999999999

-- runs are counted from 1
abbrev pub is_run : ℕ → Bool
is_run n = nat_le 1 n && is_counted n

-- a year in minutes at most, and one at least
abbrev pub are_minutes : ℕ → Bool
are_minutes minutes = nat_le 1 minutes && nat_le minutes 525600

-- ---- lists

-- each item passes a test against those before it
abbrev pub each_behind : {X : Type 0} → (List X → X → Bool) → List X → List X → Bool
each_behind test before [] = true
each_behind test before (x ∷ xs) = test before x && each_behind test (before ++ x ∷ []) xs

-- no item stands twice
abbrev pub is_new : {X : Type 0} → (X → X → Bool) → List X → X → Bool
is_new same before x = not (list_any (same x) before)

abbrev pub are_distinct : {X : Type 0} → (X → X → Bool) → List X → Bool
are_distinct same xs = each_behind (is_new same) [] xs

abbrev pub same_text : List ℕ → List ℕ → Bool
same_text one other = pointwise nat_eq one other

-- each item comes before the next one
abbrev pub rises : {X : Type 0} → (X → X → Ordering) → X → List X → Bool
rises order last [] = true
rises order last (x ∷ xs) = is_lt (order last x) && rises order x xs

abbrev pub are_rising : {X : Type 0} → (X → X → Ordering) → List X → Bool
are_rising order [] = true
are_rising order (x ∷ xs) = rises order x xs

-- byte by byte; and shorter texts first, those of one length byte by byte
abbrev pub by_bytes : List ℕ → List ℕ → Ordering
by_bytes one other = slice_cmp nat_cmp one other

abbrev pub by_length : List ℕ → List ℕ → Ordering
by_length one other = ordering_then (nat_cmp (length one) (length other)) (by_bytes one other)

abbrev pub same_day : Day → Day → Bool
same_day one other = day_number one == day_number other

-- each name comes behind the one before it, byte by byte, so that none stands twice
abbrev pub follows : List (List ℕ × List ℕ) → List ℕ × List ℕ → Bool
follows before told = option_map_or (λ last. is_lt (slice_cmp nat_cmp last.0 told.0))
    (slice_get before (length before - 1)) true

abbrev pub ascend : List (List ℕ × List ℕ) → Bool
ascend told = each_behind follows [] told

-- ---- what requests bring

-- a file's text has at most 262,144 bytes
abbrev pub is_file_text : List ℕ → Bool
is_file_text text = nat_le (length text) 262144

-- the pipelines that may use a resource, where not all may, have names
abbrev pub may_be_granted : Option (List (List ℕ)) → Bool
may_be_granted pipelines = option_map_or (list_all is_name) pipelines true

-- the capabilities of an agent, by name, in byte order
abbrev pub are_capabilities : List (List ℕ × List ℕ) → Bool
are_capabilities told = list_all (λ one. is_name one.0) told && ascend told

-- an output's name has at most 200 bytes, its value 4,096, and a report has at most 100 outputs
abbrev pub is_output : List ℕ × List ℕ → Bool
is_output told = nat_le (length told.0) 200 && nat_le (length told.1) 4096

abbrev pub are_outputs : List (List ℕ × List ℕ) → Bool
are_outputs told = nat_le (length told) 100 && list_all is_output told

-- what a check needs: a template, a pattern; approvers of whom none stands twice, and from one of
-- them on to all; days of which none stands twice, and minutes of a day in order
abbrev pub is_check : Check → Bool
is_check (RequiredTemplate told) = not (nat_eq (length told.templates) 0) &&
    list_all is_key told.templates
is_check (Branch told) = not (nat_eq (length told.patterns) 0)
is_check (Approval told) = (list_all is_name told.approvers &&
    are_distinct same_text told.approvers) && ((nat_le 1 told.least &&
    nat_le told.least (length told.approvers)) && are_minutes told.minutes)
is_check (Hours told) = (not (nat_eq (length told.days) 0) && are_distinct same_day told.days) &&
    ((nat_lt told.start told.«end» && nat_le told.«end» 1440) && are_minutes told.minutes)

-- ---- what ends a stage or a job

-- who rejected is named, a step is one of at most 2,000, and the run that came before is a run's
-- number; a job and a ref that a rule tells have no limit
abbrev pub is_ending : Rule → Bool
is_ending (ApprovalRejected approver) = is_name approver
is_ending (TemplateArgument job step) = nat_le 1 step && nat_le step 2000
is_ending (LockSuperseded run) = is_run run
is_ending _ = true
