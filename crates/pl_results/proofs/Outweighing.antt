-- One result more.
use Rattle.std.proofs.Common.{◌≡◌, ℕ, ◌+◌, ◌<◌, Bool, true, false, List, [], ◌∷◌, ◌++◌, length}
use Rattle.std.proofs.Common.{take}
use Rattle.std.proofs.Common.{get_or, refl, sym, ap, ◌∙◌}
use Rattle.std.specs.Prelude.{◌||◌, if◌then◌else◌}
use Rattle.std.specs.List.{list_any}
use Rattle.std.proofs.lemmas.List.{get_or_default, take_more}
use Rattle.std.proofs.lemmas.List.Folds.{list_any-append}
use Rattle.pl_base.specs.declared.outcome.Outcome.{Outcome}
use Rattle.pl_base.specs.declared.outcome.Outcome.TheVariants.{Succeeded, SucceededWithIssues}
use Rattle.pl_base.specs.declared.outcome.Outcome.TheVariants.{Failed, Canceled, Skipped}
use Rattle.pl_results.specs.Combining.{combined, worse, is_failed, is_canceled, has_issues}
use Rattle.pl_results.specs.Combining.{is_success}

-- by whether each kind is there
abbrev chosen : Bool → Bool → Bool → Bool → Outcome
chosen f c i s = if f then Failed else if c then Canceled else if i then SucceededWithIssues
    else if s then Succeeded else Skipped

one_more : (f c i s : Bool) (last : Outcome) →
    chosen (f || (is_failed last || false)) (c || (is_canceled last || false))
    (i || (has_issues last || false)) (s || (is_success last || false)) ≡
    worse (chosen f c i s) last
unfolding combined
one_more true c i s Failed = refl
one_more true c i s Canceled = refl
one_more true c i s SucceededWithIssues = refl
one_more true c i s Succeeded = refl
one_more true c i s Skipped = refl
one_more false true i s Failed = refl
one_more false true i s Canceled = refl
one_more false true i s SucceededWithIssues = refl
one_more false true i s Succeeded = refl
one_more false true i s Skipped = refl
one_more false false true s Failed = refl
one_more false false true s Canceled = refl
one_more false false true s SucceededWithIssues = refl
one_more false false true s Succeeded = refl
one_more false false true s Skipped = refl
one_more false false false true Failed = refl
one_more false false false true Canceled = refl
one_more false false false true SucceededWithIssues = refl
one_more false false false true Succeeded = refl
one_more false false false true Skipped = refl
one_more false false false false Failed = refl
one_more false false false false Canceled = refl
one_more false false false false SucceededWithIssues = refl
one_more false false false false Succeeded = refl
one_more false false false false Skipped = refl

pub combined_last : (results : List Outcome) (last : Outcome) →
    combined (results ++ last ∷ []) ≡ worse (combined results) last
unfolding combined
combined_last results last =
    let f = list_any-append is_failed results (last ∷ []) in
    let c = list_any-append is_canceled results (last ∷ []) in
    let i = list_any-append has_issues results (last ∷ []) in
    let s = list_any-append is_success results (last ∷ []) in
    (λ n. chosen (f n) (c n) (i n) (s n))
    ∙ one_more (list_any is_failed results) (list_any is_canceled results)
    (list_any has_issues results) (list_any is_success results) last

pub combined_one : (only : Outcome) → combined (only ∷ []) ≡ only
unfolding combined
combined_one Failed = refl
combined_one Canceled = refl
combined_one SucceededWithIssues = refl
combined_one Succeeded = refl
combined_one Skipped = refl

pub combined_none : combined [] ≡ Skipped
unfolding combined
combined_none = refl

-- a turn of the loop
pub combined_more : (results : List Outcome) (at : ℕ) (all last more : Outcome) →
    at < length results → last ≡ get_or results at last → all ≡ combined (take at results) →
    more ≡ worse all last → more ≡ combined (take (at + 1) results)
combined_more results at all last more within is so_far made =
    made ∙ ap (λ one. worse one last) so_far
    ∙ sym (combined_last (take at results) last)
    ∙ ap (λ one. combined (take at results ++ one ∷ [])) is
    ∙ ap combined (sym (take_more results at last within))

pub combined_at : (results : List Outcome) (at : ℕ) (d all more : Outcome) → at < length results →
    all ≡ combined (take at results) → more ≡ worse all (get_or results at d) →
    more ≡ combined (take (at + 1) results)
combined_at results at d all more within so_far made =
    combined_more results at all (get_or results at d) more within
    (get_or_default results at d (get_or results at d) within) so_far made
