-- Parameters bound one by one, from a list whose order is turned round.
use Rattle.std.proofs.Common.{◌≡◌, ℕ, zero, suc, Some, None, List, [], ◌∷◌, ◌++◌, length, drop}
use Rattle.std.proofs.Common.{reverse, refl, ap, sym, ◌∙◌, arith, append_assoc, append-nil}
use Rattle.std.specs.Prelude.{slice_get}
use Rattle.std.proofs.lemmas.List.{reverse-append, reverse-reverse, length_push}
use Rattle.pl_base.specs.declared.origin.Crossing.{Crossing}
use Rattle.pl_params.specs.declared.given.Bound.{Bound}
use Rattle.pl_params.specs.declared.param.Param.{Param}
use Rattle.pl_frame.specs.declared.frame.Parameter.{Parameter}
use Rattle.pl_frame.specs.Bindings.{parameter_of, parameters_of}

-- what was made, and what is made of the rest
abbrev pub left : List Crossing → List Param → List Parameter → List Bound → List Parameter
left crossings declared made rest =
    made ++ parameters_of crossings (drop (length made) declared) (reverse rest)

pub at_first : (crossings : List Crossing) (declared : List Param) (made : List Parameter)
    (bound rest : List Bound) → made ≡ [] → rest ≡ reverse bound →
    parameters_of crossings declared bound ≡ left crossings declared made rest
at_first crossings declared made bound rest made_is rest_is =
    sym (ap (λ made. left crossings declared made rest) made_is
    ∙ ap (parameters_of crossings declared) (ap reverse rest_is ∙ reverse-reverse bound))

drop_at : (declared : List Param) (at : ℕ) (param : Param) → Some param ≡ slice_get declared at →
    drop at declared ≡ param ∷ drop (suc at) declared
drop_at [] at param e = absurd (cc)
drop_at (first ∷ declared) zero param e = let is : param ≡ first =
    cc in ap (λ param. param ∷ declared) (sym is)
drop_at (first ∷ declared) (suc at) param e = drop_at declared at param e

drop_past : (declared : List Param) (at : ℕ) → None ≡ slice_get declared at → drop at declared ≡ []
drop_past [] zero e = refl
drop_past [] (suc at) e = refl
drop_past (first ∷ declared) zero e = absurd (cc)
drop_past (first ∷ declared) (suc at) e = drop_past declared at e

pub binds : (crossings : List Crossing) (declared : List Param) (made longer whole : List Parameter)
    (rest shorter : List Bound) (one : Bound) (param : Param) (at : ℕ) (made_of : Parameter) →
    rest ≡ shorter ++ one ∷ [] → at ≡ length made → Some param ≡ slice_get declared at →
    made_of ≡ parameter_of crossings param one → longer ≡ made ++ made_of ∷ [] →
    whole ≡ left crossings declared made rest → whole ≡ left crossings declared longer shorter
binds crossings declared made longer whole rest shorter one param at made_of rest_is at_is param_is
    made_is longer_is whole_is =
    let there : drop (length made) declared ≡ param ∷ drop (suc (length made)) declared =
    drop_at declared (length made) param (param_is ∙ ap (slice_get declared) at_is) in
    let order : reverse rest ≡ one ∷ reverse shorter =
    ap reverse rest_is ∙ reverse-append shorter (one ∷ []) in
    let size : length longer ≡ suc (length made) =
    ap length longer_is ∙ (length_push made made_of ∙ omega arith) in
    let after = parameters_of crossings (drop (suc (length made)) declared) (reverse shorter) in
    whole_is
    ∙ (ap (λ order. made ++ parameters_of crossings (drop (length made) declared) order) order
    ∙ (ap (λ params. made ++ parameters_of crossings params (one ∷ reverse shorter)) there
    ∙ (ap (λ first. made ++ first ∷ after) (sym made_is)
    ∙ (sym (append_assoc made (made_of ∷ []) after)
    ∙ (ap (λ front. front ++ after) (sym longer_is)
    ∙ ap (λ n. longer ++ parameters_of crossings (drop n declared) (reverse shorter))
    (sym size))))))

pub no_more_declared : (crossings : List Crossing) (declared : List Param)
    (made whole : List Parameter) (rest : List Bound) (at : ℕ) → at ≡ length made →
    None ≡ slice_get declared at → whole ≡ left crossings declared made rest → made ≡ whole
no_more_declared crossings declared made whole rest at at_is none whole_is =
    sym (whole_is
    ∙ (ap (λ params. made ++ parameters_of crossings params (reverse rest))
    (drop_past declared (length made) (none ∙ ap (slice_get declared) at_is))
    ∙ append-nil made))

nothing_bound : (crossings : List Crossing) (declared : List Param) →
    parameters_of crossings declared [] ≡ []
nothing_bound crossings [] = refl
nothing_bound crossings (param ∷ declared) = refl

pub no_more_bound : (crossings : List Crossing) (declared : List Param)
    (made whole : List Parameter) (rest : List Bound) → rest ≡ [] →
    whole ≡ left crossings declared made rest → made ≡ whole
no_more_bound crossings declared made whole rest rest_is whole_is =
    sym (whole_is
    ∙ (ap (λ rest. made ++ parameters_of crossings (drop (length made) declared) (reverse rest))
    rest_is ∙ (ap (λ more. made ++ more) (nothing_bound crossings (drop (length made) declared))
    ∙ append-nil made)))

pub empty : (bound : List Bound) → length bound ≡ 0 → bound ≡ []
empty [] e = refl
empty (one ∷ bound) e = absurd (omega (arith, e))
