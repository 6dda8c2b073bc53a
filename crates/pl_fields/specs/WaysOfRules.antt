-- Rules by number and by what they tell.
use Rattle.std.proofs.Common.{◌≡◌, ℕ, zero, suc, ◌<◌, ◌≤◌, ◌^◌, List, [], ◌∷◌, ◌++◌, length, refl}
use Rattle.std.proofs.Common.{sym, ap, subst, ◌∙◌, append_assoc, arith}
use Rattle.pl_rules.specs.declared.rule.Rule.{Rule}
use Rattle.pl_rules.specs.declared.rule.Rule.TheVariants.{ConditionFalse, RunCanceled, JobTimeout}
use Rattle.pl_rules.specs.declared.rule.Rule.TheVariants.{TemplateRequired, TemplateArgument}
use Rattle.pl_rules.specs.declared.rule.Rule.TheVariants.{BranchRefused, ApprovalRejected}
use Rattle.pl_rules.specs.declared.rule.Rule.TheVariants.{ApprovalTimeout, HoursTimeout}
use Rattle.pl_rules.specs.declared.rule.Rule.TheVariants.{LockSuperseded}
use Rattle.pl_fields.specs.Fields.{number, text, decimal_text, IsText}
use Rattle.pl_fields.specs.Reading.{IsOneWay}
use Rattle.pl_fields.specs.Rules.{rule, rule_number, rule_texts, IsKeptRule}
use Rattle.pl_fields.specs.WaysOfFields.{number_one_way, text_one_way}
use Rattle.pl_fields.specs.WaysOfDecimals.{digits_one_way}

-- a rule's number is one of ten
pub kept_number : (told : Rule) → IsKeptRule told → (1 ≤ rule_number told) × (rule_number told ≤ 10)
kept_number ConditionFalse kept = (omega arith, omega arith)
kept_number RunCanceled kept = (omega arith, omega arith)
kept_number JobTimeout kept = (omega arith, omega arith)
kept_number TemplateRequired kept = (omega arith, omega arith)
kept_number (TemplateArgument job step) kept = (omega arith, omega arith)
kept_number (BranchRefused git_ref) kept = (omega arith, omega arith)
kept_number (ApprovalRejected approver) kept = (omega arith, omega arith)
kept_number ApprovalTimeout kept = (omega arith, omega arith)
kept_number HoursTimeout kept = (omega arith, omega arith)
kept_number (LockSuperseded run) kept = (omega arith, omega arith)
kept_number _ kept = absurd kept

-- what a rule tells: a text and a number, empty and 0 where it has none
abbrev pub text_in : Rule → List ℕ
text_in (TemplateArgument job step) = job
text_in (BranchRefused git_ref) = git_ref
text_in (ApprovalRejected approver) = approver
text_in _ = []

abbrev pub number_in : Rule → ℕ
number_in (TemplateArgument job step) = step
number_in (LockSuperseded run) = run
number_in _ = 0

-- the rule of a number that tells this
abbrev pub made : ℕ → List ℕ → ℕ → Rule
made (suc zero) told n = ConditionFalse
made (suc (suc zero)) told n = RunCanceled
made (suc (suc (suc zero))) told n = JobTimeout
made (suc (suc (suc (suc zero)))) told n = TemplateRequired
made (suc (suc (suc (suc (suc zero))))) told n = TemplateArgument told n
made (suc (suc (suc (suc (suc (suc zero)))))) told n = BranchRefused told
made (suc (suc (suc (suc (suc (suc (suc zero))))))) told n = ApprovalRejected told
made (suc (suc (suc (suc (suc (suc (suc (suc zero)))))))) told n = ApprovalTimeout
made (suc (suc (suc (suc (suc (suc (suc (suc (suc zero))))))))) told n = HoursTimeout
made (suc (suc (suc (suc (suc (suc (suc (suc (suc (suc zero)))))))))) told n = LockSuperseded n
made _ told n = ConditionFalse

pub made_again : (told : Rule) → IsKeptRule told →
    made (rule_number told) (text_in told) (number_in told) ≡ told
made_again ConditionFalse kept = refl
made_again RunCanceled kept = refl
made_again JobTimeout kept = refl
made_again TemplateRequired kept = refl
made_again (TemplateArgument job step) kept = refl
made_again (BranchRefused git_ref) kept = refl
made_again (ApprovalRejected approver) kept = refl
made_again ApprovalTimeout kept = refl
made_again HoursTimeout kept = refl
made_again (LockSuperseded run) kept = refl
made_again _ kept = absurd kept

-- what stands behind a number
abbrev behind : ℕ → List ℕ → ℕ → List ℕ
behind (suc (suc (suc (suc (suc zero))))) told n = text told ++ decimal_text n
behind (suc (suc (suc (suc (suc (suc zero)))))) told n = text told
behind (suc (suc (suc (suc (suc (suc (suc zero))))))) told n = text told
behind (suc (suc (suc (suc (suc (suc (suc (suc (suc (suc zero)))))))))) told n = decimal_text n
behind _ told n = []

is_behind : (told : Rule) → rule_texts told ≡
    behind (rule_number told) (text_in told) (number_in told)
is_behind ConditionFalse = refl
is_behind RunCanceled = refl
is_behind JobTimeout = refl
is_behind TemplateRequired = refl
is_behind (TemplateArgument job step) = refl
is_behind (BranchRefused git_ref) = refl
is_behind (ApprovalRejected approver) = refl
is_behind ApprovalTimeout = refl
is_behind HoursTimeout = refl
is_behind (LockSuperseded run) = refl
is_behind _ = refl

-- what a rule of a number can tell
abbrev CanTell : ℕ → List ℕ → ℕ → Type 0
CanTell (suc zero) told n = (told ≡ []) × (n ≡ 0)
CanTell (suc (suc zero)) told n = (told ≡ []) × (n ≡ 0)
CanTell (suc (suc (suc zero))) told n = (told ≡ []) × (n ≡ 0)
CanTell (suc (suc (suc (suc zero)))) told n = (told ≡ []) × (n ≡ 0)
CanTell (suc (suc (suc (suc (suc zero))))) told n = IsText told × (n < 2 ^ 64)
CanTell (suc (suc (suc (suc (suc (suc zero)))))) told n = IsText told × (n ≡ 0)
CanTell (suc (suc (suc (suc (suc (suc (suc zero))))))) told n = IsText told × (n ≡ 0)
CanTell (suc (suc (suc (suc (suc (suc (suc (suc zero)))))))) told n = (told ≡ []) × (n ≡ 0)
CanTell (suc (suc (suc (suc (suc (suc (suc (suc (suc zero))))))))) told n = (told ≡ []) × (n ≡ 0)
CanTell (suc (suc (suc (suc (suc (suc (suc (suc (suc (suc zero)))))))))) told n = (told ≡ []) ×
    (n < 2 ^ 64)
CanTell _ told n = ⊥

can_tell : (told : Rule) → IsKeptRule told →
    CanTell (rule_number told) (text_in told) (number_in told)
can_tell ConditionFalse kept = (refl, refl)
can_tell RunCanceled kept = (refl, refl)
can_tell JobTimeout kept = (refl, refl)
can_tell TemplateRequired kept = (refl, refl)
can_tell (TemplateArgument job step) kept = (kept.0, omega (arith, kept.1))
can_tell (BranchRefused git_ref) kept = (kept, refl)
can_tell (ApprovalRejected approver) kept = (kept, refl)
can_tell ApprovalTimeout kept = (refl, refl)
can_tell HoursTimeout kept = (refl, refl)
can_tell (LockSuperseded run) kept = (refl, kept)
can_tell _ kept = absurd kept

-- of one number, what is told and what stands behind it are seen in the bytes
behind_one_way : (number : ℕ) (told other : List ℕ) (n m : ℕ) (r s : List ℕ) →
    CanTell number told n → CanTell number other m
    → behind number told n ++ r ≡ behind number other m ++ s → (told ≡ other) × (n ≡ m) × (r ≡ s)
behind_one_way (suc zero) told other n m r s a b e = (a.0 ∙ sym b.0, a.1 ∙ sym b.1, e)
behind_one_way (suc (suc zero)) told other n m r s a b e = (a.0 ∙ sym b.0, a.1 ∙ sym b.1, e)
behind_one_way (suc (suc (suc zero))) told other n m r s a b e = (a.0 ∙ sym b.0, a.1 ∙ sym b.1, e)
behind_one_way (suc (suc (suc (suc zero)))) told other n m r s a b e =
    (a.0 ∙ sym b.0, a.1 ∙ sym b.1, e)
behind_one_way (suc (suc (suc (suc (suc zero))))) told other n m r s a b e =
    let regrouped : text told ++ (decimal_text n ++ r) ≡ text other ++ (decimal_text m ++ s) =
    sym (append_assoc (text told) (decimal_text n) r) ∙
    (e ∙ append_assoc (text other) (decimal_text m) s) in
    let parts = text_one_way told other (decimal_text n ++ r) (decimal_text m ++ s) a.0 b.0
    regrouped in
    let digits = digits_one_way n m r s a.1 b.1 parts.1 in
    (parts.0, digits.0, digits.1)
behind_one_way (suc (suc (suc (suc (suc (suc zero)))))) told other n m r s a b e =
    let parts = text_one_way told other r s a.0 b.0 e in
    (parts.0, a.1 ∙ sym b.1, parts.1)
behind_one_way (suc (suc (suc (suc (suc (suc (suc zero))))))) told other n m r s a b e =
    let parts = text_one_way told other r s a.0 b.0 e in
    (parts.0, a.1 ∙ sym b.1, parts.1)
behind_one_way (suc (suc (suc (suc (suc (suc (suc (suc zero)))))))) told other n m r s a b e =
    (a.0 ∙ sym b.0, a.1 ∙ sym b.1, e)
behind_one_way (suc (suc (suc (suc (suc (suc (suc (suc (suc zero))))))))) told other n m r s a b e =
    (a.0 ∙ sym b.0, a.1 ∙ sym b.1, e)
behind_one_way (suc (suc (suc (suc (suc (suc (suc (suc (suc (suc zero)))))))))) told other n m r s a
    b e =
    let parts = digits_one_way n m r s a.1 b.1 e in
    (a.0 ∙ sym b.0, parts.0, parts.1)
behind_one_way _ told other n m r s a b e = absurd a

pub rule_one_way : IsOneWay rule IsKeptRule
rule_one_way x y r s is_x is_y e =
    let small = kept_number x is_x in
    let less = kept_number y is_y in
    let regrouped : number (rule_number x) ++ (rule_texts x ++ r) ≡ number (rule_number y) ++
    (rule_texts y ++ s) =
    sym (append_assoc (number (rule_number x)) (rule_texts x) r) ∙
    (e ∙ append_assoc (number (rule_number y)) (rule_texts y) s) in
    let first = number_one_way (rule_number x) (rule_number y) (rule_texts x ++ r)
    (rule_texts y ++ s) (omega arith) (omega arith) regrouped in
    let of_x : behind (rule_number x) (text_in x) (number_in x) ++ r ≡
    behind (rule_number x) (text_in y) (number_in y) ++ s =
    ap (λ (bytes : List ℕ). bytes ++ r) (sym (is_behind x)) ∙
    (first.1 ∙ (ap (λ (bytes : List ℕ). bytes ++ s) (is_behind y)
    ∙ ap (λ (n : ℕ). behind n (text_in y) (number_in y) ++ s) (sym first.0))) in
    let told = behind_one_way (rule_number x) (text_in x) (text_in y) (number_in x) (number_in y) r
    s (can_tell x is_x)
    (subst (λ (n : ℕ). CanTell n (text_in y) (number_in y)) (sym first.0) (can_tell y is_y)) of_x in
    let same : made (rule_number x) (text_in x) (number_in x) ≡
    made (rule_number y) (text_in y) (number_in y) =
    λ i. made (first.0 i) (told.0 i) (told.1 i) in
    (sym (made_again x is_x) ∙ (same ∙ made_again y is_y), told.2)
