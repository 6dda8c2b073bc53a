-- No spelling of a check begins another one.
use Rattle.std.proofs.Common.{◌≡◌, ℕ, ◌<◌, ◌^◌, Bool, List, [], ◌∷◌, ◌++◌, length, refl, sym, ap}
use Rattle.std.proofs.Common.{◌∙◌, arith}
use Rattle.pl_base.specs.declared.place.FileKey.{FileKey}
use Rattle.pl_checks.specs.declared.check.Approval.{Approval}
use Rattle.pl_checks.specs.declared.check.Arguments.{Arguments}
use Rattle.pl_checks.specs.declared.check.BranchControl.{BranchControl}
use Rattle.pl_checks.specs.declared.check.BusinessHours.{BusinessHours}
use Rattle.pl_checks.specs.declared.check.Check.{Check}
use Rattle.pl_checks.specs.declared.check.Check.TheVariants.{RequiredTemplate, Branch}
use Rattle.pl_checks.specs.declared.check.Check.TheVariants.{Approval as Approvals, Hours}
use Rattle.pl_checks.specs.declared.check.RequiredTemplate.{RequiredTemplate as Templates}
use Rattle.pl_rules.specs.declared.day.Day.{Day}
use Rattle.pl_fields.specs.Checks.{approval, branch, check, check_fields, file_key, hours}
use Rattle.pl_fields.specs.Checks.{templates, IsCheck, IsFileKey, IsZone}
use Rattle.pl_fields.specs.Fields.{number, flag, text, list, IsText, IsListOf}
use Rattle.pl_rules.specs.Days.{day_number}
use Rattle.pl_fields.specs.Kinds.{arguments_number, argument_rules, days}
use Rattle.pl_fields.specs.Reading.{IsOneWay}
use Rattle.pl_fields.specs.WaysOfCompounds.{list_one_way, pair_one_way}
use Rattle.pl_fields.specs.WaysOfKinds.{arguments_back, day_back, numbered_one_way}
use Rattle.pl_fields.specs.WaysOfFields.{flag_one_way, head_is, small_one_way, tail_is}
use Rattle.pl_fields.specs.WaysOfFields.{text_one_way}
use Rattle.pl_fields.specs.WaysOfKeys.{file_key_one_way, via_one_way, zone_one_way}

abbrev IsAny : {X : Type 0} → X → Type 0
IsAny x = Unit {0}

abbrev IsSmall : ℕ → Type 0
IsSmall n = n < 2 ^ 32

templates_one_way : IsOneWay templates (λ told. IsListOf IsFileKey told.templates × Unit {0})
templates_one_way = via_one_way {X = Templates} {Y = List FileKey × Arguments}
    (λ told. (told.templates, told.arguments))
    (λ p. record { templates = p.0; arguments = p.1 })
    (λ p. list file_key p.0 ++ (arguments_number p.1 ∷ [])) (λ p. IsListOf IsFileKey p.0 × Unit {0})
    (λ told. refl)
    (pair_one_way (list file_key) (IsListOf IsFileKey)
    (list_one_way file_key IsFileKey file_key_one_way)
    (λ (rule : Arguments). arguments_number rule ∷ []) (λ _. Unit {0})
    (numbered_one_way arguments_number argument_rules arguments_back))

branch_one_way : IsOneWay branch (λ told. IsListOf IsText told.patterns)
branch_one_way = via_one_way {X = BranchControl} {Y = List (List ℕ)} (λ told. told.patterns)
    (λ patterns. record { patterns = patterns }) (list text) (IsListOf IsText) (λ told. refl)
    (list_one_way text IsText text_one_way)

approval_one_way : IsOneWay approval (λ told. IsListOf IsText told.approvers ×
    ((told.least < 2 ^ 32) × (Unit {0} × (told.minutes < 2 ^ 32))))
approval_one_way = via_one_way {X = Approval} {Y = List (List ℕ) × (ℕ × (Bool × ℕ))}
    (λ told. (told.approvers, (told.least, (told.requester, told.minutes))))
    (λ p. record { approvers = p.0; least = p.1.0; requester = p.1.1.0; minutes = p.1.1.1 })
    (λ p. list text p.0 ++ (number p.1.0 ++ (flag p.1.1.0 ++ number p.1.1.1)))
    (λ p. IsListOf IsText p.0 × ((p.1.0 < 2 ^ 32) × (Unit {0} × (p.1.1.1 < 2 ^ 32)))) (λ told. refl)
    (pair_one_way (list text) (IsListOf IsText) (list_one_way text IsText text_one_way) _ _
    (pair_one_way number IsSmall small_one_way _ _
    (pair_one_way flag (λ _. Unit {0}) flag_one_way number IsSmall small_one_way)))

hours_one_way : IsOneWay hours (λ told. IsListOf (λ _. Unit {0}) told.days × (IsZone told.zone ×
    ((told.start < 2 ^ 32) × ((told.«end» < 2 ^ 32) × (told.minutes < 2 ^ 32)))))
hours_one_way = via_one_way {X = BusinessHours} {Y = List Day × (List ℕ × (ℕ × (ℕ × ℕ)))}
    (λ told. (told.days, (told.zone, (told.start, (told.«end», told.minutes)))))
    (λ p. record {
      days = p.0;
      zone = p.1.0;
      start = p.1.1.0;
      «end» = p.1.1.1.0;
      minutes =
          p.1.1.1.1;
    })
    (λ p. list (λ day. day_number day ∷ []) p.0 ++
    (text p.1.0 ++ (number p.1.1.0 ++ (number p.1.1.1.0 ++ number p.1.1.1.1))))
    (λ p. IsListOf (λ _. Unit {0}) p.0 ×
    (IsZone p.1.0 × ((p.1.1.0 < 2 ^ 32) × ((p.1.1.1.0 < 2 ^ 32) × (p.1.1.1.1 < 2 ^ 32)))))
    (λ told. refl)
    (pair_one_way (list (λ (day : Day). day_number day ∷ [])) (IsListOf (λ _. Unit {0}))
    (list_one_way (λ (day : Day). day_number day ∷ []) (λ _. Unit {0})
    (numbered_one_way day_number days day_back)) _ _
    (pair_one_way text IsZone zone_one_way _ _ (pair_one_way number IsSmall small_one_way _ _
    (pair_one_way number IsSmall small_one_way number IsSmall small_one_way))))

pub check_one_way : IsOneWay check IsCheck
check_one_way (RequiredTemplate x) (RequiredTemplate y) r s a b e =
    let parts = templates_one_way x y r s a b (tail_is 0 0 (templates x ++ r) (templates y ++ s) e)
    in
    (ap RequiredTemplate parts.0, parts.1)
check_one_way (Branch x) (Branch y) r s a b e =
    let parts = branch_one_way x y r s a b (tail_is 1 1 (branch x ++ r) (branch y ++ s) e) in
    (ap Branch parts.0, parts.1)
check_one_way (Approvals x) (Approvals y) r s a b e =
    let parts = approval_one_way x y r s a b (tail_is 2 2 (approval x ++ r) (approval y ++ s) e) in
    (ap Approvals parts.0, parts.1)
check_one_way (Hours x) (Hours y) r s a b e =
    let parts = hours_one_way x y r s a b (tail_is 3 3 (hours x ++ r) (hours y ++ s) e) in
    (ap Hours parts.0, parts.1)
check_one_way _ _ r s a b e = absurd cc
