-- Rules that are read from what stands behind their numbers.
use Rattle.std.proofs.Common.{◌≡◌, ◌≢◌, ℕ, ◌<◌, ◌≤◌, ◌^◌, List, [], ◌++◌, length, refl, sym, ap}
use Rattle.std.proofs.Common.{subst, ◌∙◌, length-append, arith}
use Rattle.pl_rules.specs.declared.rule.Rule.{Rule}
use Rattle.pl_rules.specs.declared.rule.Rule.TheVariants.{TemplateArgument, BranchRefused}
use Rattle.pl_rules.specs.declared.rule.Rule.TheVariants.{ApprovalRejected, LockSuperseded}
use Rattle.pl_fields.specs.declared.decimal.Decimal.{Decimal}
use Rattle.pl_fields.specs.declared.fault.DecodeFault.{DecodeFault}
use Rattle.pl_fields.specs.declared.fault.DecodeFault.TheVariants.{Torn, Memory}
use Rattle.pl_fields.specs.Fields.{number, text, decimal_text, told_size, IsText}
use Rattle.pl_fields.specs.Reading.{Begins, Misses}
use Rattle.pl_fields.specs.Rules.{rule, rule_number, rule_texts, IsKeptRule}
use Rattle.pl_fields.specs.WaysOfCompounds.{pair_one_way}
use Rattle.pl_fields.specs.WaysOfDecimals.{decimal_one_way}
use Rattle.pl_fields.specs.WaysOfFields.{number_len, text_one_way}
use Rattle.pl_fields.specs.WaysOfRules.{made, made_again, number_in, text_in}

plain_size : (n : ℕ) → 8 ≡ told_size (length (number n ++ []))
plain_size n = omega (arith, length-append (number n) [], number_len n)

-- a rule that tells nothing is as long as its number
pub rule_size : (told : Rule) → ((job : List ℕ) (step : ℕ) → told ≢ TemplateArgument job step) →
    ((git_ref : List ℕ) → told ≢ BranchRefused git_ref)
    → ((approver : List ℕ) → told ≢ ApprovalRejected approver) →
    ((run : ℕ) → told ≢ LockSuperseded run) → 8 ≡ told_size (length (rule told))
rule_size (TemplateArgument job step) a b c d = absurd (a job step refl)
rule_size (BranchRefused git_ref) a b c d = absurd (b git_ref refl)
rule_size (ApprovalRejected approver) a b c d = absurd (c approver refl)
rule_size (LockSuperseded run) a b c d = absurd (d run refl)
rule_size _ a b c d = plain_size _

-- what a rule of a number is
abbrev pub IsOf : ℕ → Rule → Type 0
IsOf n told = IsKeptRule told × (rule_number told ≡ n)

numbered_is : (n : ℕ) (told : Rule) → IsOf n told → told ≡ made n (text_in told) (number_in told)
numbered_is n told fits = sym (made_again told fits.0) ∙
    ap (λ (k : ℕ). made k (text_in told) (number_in told)) fits.1

abbrev pub spelled_decimal : Decimal → List ℕ
spelled_decimal told = decimal_text told.number

abbrev pub IsDecimal : Decimal → Type 0
IsDecimal told = told.number < 2 ^ 64

abbrev pub argument_texts : List ℕ × Decimal → List ℕ
argument_texts p = text p.0 ++ spelled_decimal p.1

abbrev pub AreArgumentTexts : List ℕ × Decimal → Type 0
AreArgumentTexts p = IsText p.0 × IsDecimal p.1

abbrev pub decimal_of : ℕ → Decimal
decimal_of n = record { number = n }

argument_is : (bytes : List ℕ) (told : Rule) (rest : List ℕ) →
    Begins rule_texts (IsOf 5) bytes told rest
    → (IsText (text_in told) × (number_in told < 2 ^ 32)) ×
    (bytes ≡ (text (text_in told) ++ decimal_text (number_in told)) ++ rest)
argument_is bytes told rest begins =
    let there = subst (λ (r : Rule). Begins rule_texts (IsOf 5) bytes r rest)
    (numbered_is 5 told begins.does_fit) begins in
    (there.does_fit.0, there.parts)

pub argument_misses : (bytes : List ℕ) (fault : DecodeFault) →
    Misses argument_texts AreArgumentTexts bytes fault → Misses rule_texts (IsOf 5) bytes fault
argument_misses bytes Torn miss = λ told rest begins.
    let is = argument_is bytes told rest begins in
    miss (text_in told, decimal_of (number_in told)) rest
    (record { does_fit = (is.0.0, omega (arith, is.0.1)); parts = is.1 })
argument_misses bytes Memory miss = tt

-- a step past 32 bits is no rule's
pub argument_not : (bytes job : List ℕ) (step : Decimal) (behind : List ℕ) →
    Begins argument_texts AreArgumentTexts bytes (job, step) behind
    → 2 ^ 32 ≤ step.number → (told : Rule) (rest : List ℕ) →
    ¬ Begins rule_texts (IsOf 5) bytes told rest
argument_not bytes job step behind read large told rest begins =
    let is = argument_is bytes told rest begins in
    let same = pair_one_way text IsText text_one_way spelled_decimal IsDecimal decimal_one_way
    (job, step) (text_in told, decimal_of (number_in told)) behind rest read.does_fit
    (is.0.0, omega (arith, is.0.1)) (sym read.parts ∙ is.1) in
    let number : step.number ≡ number_in told = ap (λ (p : List ℕ × Decimal). p.1.number) same.0 in
    omega (arith, number, is.0.1)

pub superseded_misses : (n : ℕ) (bytes : List ℕ) (fault : DecodeFault) → n ≡ 10 →
    Misses spelled_decimal IsDecimal bytes fault → Misses rule_texts (IsOf n) bytes fault
superseded_misses n bytes Torn ten miss = λ told rest begins.
    let of_ten : Begins rule_texts (IsOf 10) bytes told rest =
    record { does_fit = (begins.does_fit.0, begins.does_fit.1 ∙ ten); parts = begins.parts } in
    let there = subst (λ (r : Rule). Begins rule_texts (IsOf 10) bytes r rest)
    (numbered_is 10 told of_ten.does_fit) of_ten in
    miss (decimal_of (number_in told)) rest
    (record { does_fit = there.does_fit.0; parts = there.parts })
superseded_misses n bytes Memory ten miss = tt
