-- What a part says, by its bytes.
use Rattle.std.proofs.Common.{◌≡◌, ℕ, Bool, true, false, cond, List, Ok, Err, refl, sym, ap, ◌∙◌}
use Rattle.std.proofs.Common.{subst, IsUtf8}
use Rattle.std.proofs.lemmas.Str.{IsUtf8-from_is_utf8, is_utf8-from_IsUtf8}
use Rattle.std.specs.Str.{is_utf8}
use Rattle.percent_encoding.specs.Percent.{percent_decode}
use Rattle.pl_routes.specs.declared.fault.RouteFault.TheVariants.{RouteUnknown}
use Rattle.pl_routes.specs.Parts.{said}

pub said_text : (part bytes text : List ℕ) → bytes ≡ percent_decode part → IsUtf8 bytes
    → text ≡ bytes → said part ≡ Ok text
unfolding said
said_text part bytes text is utf8 same =
    ap (λ b. cond b (Ok (percent_decode part)) (Err RouteUnknown))
    (is_utf8-from_IsUtf8 (percent_decode part) (subst IsUtf8 is utf8))
    ∙ ap Ok (sym (same ∙ is))

pub said_none : (part bytes : List ℕ) → bytes ≡ percent_decode part → (IsUtf8 bytes → ⊥)
    → said part ≡ Err RouteUnknown
unfolding said
said_none part bytes is none = go (is_utf8 (percent_decode part)) refl
  where
    go : (b : Bool) → is_utf8 (percent_decode part) ≡ b
        → cond b (Ok (percent_decode part)) (Err RouteUnknown) ≡ Err RouteUnknown
    go false e = refl
    go true e =
        absurd (none (subst IsUtf8 (sym is) (IsUtf8-from_is_utf8 (percent_decode part) e)))
