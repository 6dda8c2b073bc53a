-- A number with a minus is no whole number that isn't negative.
use Rattle.std.proofs.Common.{◌≡◌, ◌^◌, ◌&&◌, Bool, true, false, cond, ℤ, Float, Option, Some, None}
use Rattle.std.proofs.Common.{option_and_then, refl}
use Rattle.std.specs.Float.{binary64, float_is_finite}
use Rattle.std.specs.Prelude.{nat_le, nat_lt}
use Rattle.fast_float.specs.Text.{Parts, digits_of, nearest, with_sign}
use Rattle.serde_json.specs.Data.{Num, float, negative}
use Rattle.serde_json.specs.Find.{as_u64}
use Rattle.serde_json.specs.Read.{float_of, is_integer, number_from}

below_nought :
    (b : Bool) (z : ℤ) (o : Option Num) → option_and_then as_u64 o ≡ None →
    option_and_then as_u64 (cond b (Some (negative z)) o) ≡ None
below_nought true z o e = refl
below_nought false z o e = e

no_whole : (b : Bool) (x : Float) → option_and_then as_u64 (cond b (Some (float x)) None) ≡ None
no_whole true x = refl
no_whole false x = refl

pub minus_none : (p : Parts) → option_and_then as_u64 (number_from true p) ≡ None
minus_none p =
    below_nought (is_integer p && nat_lt 0 (digits_of p) && nat_le (digits_of p) (2 ^ 63))
    (with_sign true (digits_of p)) (float_of true p)
    (no_whole (float_is_finite (nearest binary64 true p)) (nearest binary64 true p))
