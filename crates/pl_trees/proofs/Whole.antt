-- Contents that are UTF-8, and those that aren't.
use Rattle.std.proofs.Common.{◌≡◌, ℕ, Bool, true, false, cond, List, None, refl, ap, IsUtf8}
use Rattle.std.proofs.lemmas.Str.{IsUtf8-from_is_utf8, is_utf8-from_IsUtf8}
use Rattle.std.specs.Str.{is_utf8}
use Rattle.serde_json.specs.Read.{read}
use Rattle.pl_trees.specs.Trees.{data_in}

pub data_is : (content : List ℕ) → IsUtf8 content → data_in content ≡ read content
unfolding data_in
data_is content utf8 = ap (λ b. cond b (read content) None) (is_utf8-from_IsUtf8 content utf8)

no_data : (content : List ℕ) (b : Bool) → is_utf8 content ≡ b → (IsUtf8 content → ⊥) →
    cond b (read content) None ≡ None
no_data content false e never = refl
no_data content true e never = absurd (never (IsUtf8-from_is_utf8 content e))

pub data_none : (content : List ℕ) → (IsUtf8 content → ⊥) → data_in content ≡ None
unfolding data_in
data_none content never = no_data content (is_utf8 content) refl never
