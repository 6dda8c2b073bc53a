-- Resources put one after the other.
use Rattle.std.proofs.Common.{◌≡◌, ℕ, ◌+◌, ◌<◌, List, [], ◌∷◌, ◌++◌, length, get_or, drop, refl}
use Rattle.std.proofs.Common.{sym}
use Rattle.std.proofs.Common.{ap, ◌∙◌}
use Rattle.std.specs.Prelude.{flat_map}
use Rattle.std.specs.BTreeSet.{insert_key}
use Rattle.std.proofs.lemmas.List.{at_drop_more}
use Rattle.pl_base.specs.declared.resource.ResourceKey.{ResourceKey}
use Rattle.pl_uses.specs.Uses.{key_cmp, put_all}

pub put_both : (kept keys more : List ResourceKey) →
    put_all kept (keys ++ more) ≡ put_all (put_all kept keys) more
put_both kept [] more = refl
put_both kept (key ∷ keys) more = put_both (insert_key key_cmp kept key) keys more

-- a turn of a loop over what uses them
pub put_more : {X : Type 0} (uses : X → List ResourceKey) (whole old new : List ResourceKey)
    (xs : List X) (i : ℕ) (x : X) → put_all old (flat_map uses (drop i xs)) ≡ whole
    → i < length xs → x ≡ get_or xs i x → new ≡ put_all old (uses x)
    → put_all new (flat_map uses (drop (i + 1) xs)) ≡ whole
put_more uses whole old new xs i x so_far within is put =
    let rest = flat_map uses (drop (i + 1) xs) in
    ap (λ kept. put_all kept rest) put
    ∙ sym (put_both old (uses x) rest)
    ∙ sym (at_drop_more (λ left. put_all old (flat_map uses left)) xs i x within
    ∙ ap (λ first. put_all old (uses first ++ rest)) (sym is))
    ∙ so_far

pub put_three : (old one two a b c : List ResourceKey) → one ≡ put_all old a →
    two ≡ put_all one b → put_all two c ≡ put_all old (a ++ b ++ c)
put_three old one two a b c first second =
    ap (λ kept. put_all kept c) (second ∙ ap (λ kept. put_all kept b) first
    ∙ sym (put_both old a b))
    ∙ sym (put_both old (a ++ b) c)

pub put_four : (old one two three a b c d : List ResourceKey) → one ≡ put_all old a →
    two ≡ put_all one b → three ≡ put_all two c → put_all three d ≡ put_all old (a ++ b ++ c ++ d)
put_four old one two three a b c d first second third =
    ap (λ kept. put_all kept d) (third ∙ put_three old one two a b c first second)
    ∙ sym (put_both old (a ++ b ++ c) d)
