-- Checks that are read from what stands behind their kinds.
use Rattle.std.proofs.Common.{◌≡◌, ℕ, ◌<◌, ◌^◌, Bool, List, [], ◌∷◌, ◌++◌, arith}
use Rattle.pl_base.specs.declared.place.FileKey.{FileKey}
use Rattle.pl_checks.specs.declared.check.Arguments.{Arguments}
use Rattle.pl_checks.specs.declared.check.Check.{Check}
use Rattle.pl_checks.specs.declared.check.Check.TheVariants.{RequiredTemplate, Branch}
use Rattle.pl_checks.specs.declared.check.Check.TheVariants.{Approval as Approvals, Hours}
use Rattle.pl_rules.specs.declared.day.Day.{Day}
use Rattle.pl_fields.specs.declared.fault.DecodeFault.{DecodeFault}
use Rattle.pl_fields.specs.declared.fault.DecodeFault.TheVariants.{Torn, Memory}
use Rattle.pl_fields.specs.Checks.{check_fields, check_number, file_key, IsCheck, IsFileKey, IsZone}
use Rattle.pl_fields.specs.Fields.{number, flag, text, list, IsText, IsListOf}
use Rattle.pl_rules.specs.Days.{day_number}
use Rattle.pl_fields.specs.Kinds.{arguments_number}
use Rattle.pl_fields.specs.Reading.{Begins, BeginsNot, Misses}

-- what a check of a kind is
abbrev pub IsOf : ℕ → Check → Type 0
IsOf n told = IsCheck told × (check_number told ≡ n)

abbrev pub template_fields : List FileKey × Arguments → List ℕ
template_fields p = list file_key p.0 ++ (arguments_number p.1 ∷ [])

abbrev pub AreTemplateFields : List FileKey × Arguments → Type 0
AreTemplateFields p = IsListOf IsFileKey p.0 × Unit {0}

template_not : (bytes : List ℕ) → BeginsNot template_fields AreTemplateFields bytes →
    (told : Check) (rest : List ℕ) → Begins check_fields (IsOf 0) bytes told rest → ⊥
template_not bytes miss (RequiredTemplate told) rest begins =
    miss (told.templates, told.arguments) rest
    (record { does_fit = begins.does_fit.0; parts = begins.parts })
template_not bytes miss (Branch told) rest begins = let kind : ℕ = 0 in let e : 1 ≡ kind =
    begins.does_fit.1 in omega arith
template_not bytes miss (Approvals told) rest begins = let kind : ℕ = 0 in let e : 2 ≡ kind =
    begins.does_fit.1 in omega arith
template_not bytes miss (Hours told) rest begins = let kind : ℕ = 0 in let e : 3 ≡ kind =
    begins.does_fit.1 in omega arith

pub template_misses : (bytes : List ℕ) (fault : DecodeFault) →
    Misses template_fields AreTemplateFields bytes fault → Misses check_fields (IsOf 0) bytes fault
template_misses bytes Torn miss = template_not bytes miss
template_misses bytes Memory miss = tt

abbrev pub approval_fields : List (List ℕ) × (ℕ × (Bool × ℕ)) → List ℕ
approval_fields p = list text p.0 ++ (number p.1.0 ++ (flag p.1.1.0 ++ number p.1.1.1))

abbrev pub AreApprovalFields : List (List ℕ) × (ℕ × (Bool × ℕ)) → Type 0
AreApprovalFields p = IsListOf IsText p.0 × ((p.1.0 < 2 ^ 32) × (Unit {0} × (p.1.1.1 < 2 ^ 32)))

approval_not : (bytes : List ℕ) → BeginsNot approval_fields AreApprovalFields bytes →
    (told : Check) (rest : List ℕ) → Begins check_fields (IsOf 2) bytes told rest → ⊥
approval_not bytes miss (RequiredTemplate told) rest begins = let kind : ℕ = 2 in let e : 0 ≡ kind =
    begins.does_fit.1 in omega arith
approval_not bytes miss (Branch told) rest begins = let kind : ℕ = 2 in let e : 1 ≡ kind =
    begins.does_fit.1 in omega arith
approval_not bytes miss (Approvals told) rest begins =
    miss (told.approvers, (told.least, (told.requester, told.minutes))) rest
    (record { does_fit = begins.does_fit.0; parts = begins.parts })
approval_not bytes miss (Hours told) rest begins = let kind : ℕ = 2 in let e : 3 ≡ kind =
    begins.does_fit.1 in omega arith

pub approval_misses : (bytes : List ℕ) (fault : DecodeFault) →
    Misses approval_fields AreApprovalFields bytes fault → Misses check_fields (IsOf 2) bytes fault
approval_misses bytes Torn miss = approval_not bytes miss
approval_misses bytes Memory miss = tt

abbrev pub hours_fields : List Day × (List ℕ × (ℕ × (ℕ × ℕ))) → List ℕ
hours_fields p = list (λ day. day_number day ∷ []) p.0 ++
    (text p.1.0 ++ (number p.1.1.0 ++ (number p.1.1.1.0 ++ number p.1.1.1.1)))

abbrev pub AreHoursFields : List Day × (List ℕ × (ℕ × (ℕ × ℕ))) → Type 0
AreHoursFields p = IsListOf (λ _. Unit {0}) p.0 ×
    (IsZone p.1.0 × ((p.1.1.0 < 2 ^ 32) × ((p.1.1.1.0 < 2 ^ 32) × (p.1.1.1.1 < 2 ^ 32))))

hours_not : (bytes : List ℕ) → BeginsNot hours_fields AreHoursFields bytes →
    (told : Check) (rest : List ℕ) → Begins check_fields (IsOf 3) bytes told rest → ⊥
hours_not bytes miss (RequiredTemplate told) rest begins = let kind : ℕ = 3 in let e : 0 ≡ kind =
    begins.does_fit.1 in omega arith
hours_not bytes miss (Branch told) rest begins = let kind : ℕ = 3 in let e : 1 ≡ kind =
    begins.does_fit.1 in omega arith
hours_not bytes miss (Approvals told) rest begins = let kind : ℕ = 3 in let e : 2 ≡ kind =
    begins.does_fit.1 in omega arith
hours_not bytes miss (Hours told) rest begins =
    miss (told.days, (told.zone, (told.start, (told.«end», told.minutes)))) rest
    (record { does_fit = begins.does_fit.0; parts = begins.parts })

pub hours_misses : (bytes : List ℕ) (fault : DecodeFault) →
    Misses hours_fields AreHoursFields bytes fault → Misses check_fields (IsOf 3) bytes fault
hours_misses bytes Torn miss = hours_not bytes miss
hours_misses bytes Memory miss = tt
