-- Characters added to a text.
use Rattle.std.proofs.Common.{◌≡◌, ℕ, ◌+◌, List, [], ◌∷◌, ◌++◌, replicate, sym, ap, ◌∙◌}
use Rattle.std.proofs.Common.{append_assoc}
use Rattle.std.specs.Prelude.{encode_utf8_all}
use Rattle.std.specs.Char.{encode_utf8}
use Rattle.std.proofs.lemmas.Str.{encodes-append}
use Rattle.std.proofs.lemmas.List.{append-nil, replicate_more}

-- one more of them
one_more :
    (front : List ℕ) (cs : List ℕ) (c : ℕ) →
    (front ++ encode_utf8_all cs) ++ encode_utf8 c ≡ front ++ encode_utf8_all (cs ++ c ∷ [])
one_more front cs c =
    append_assoc front (encode_utf8_all cs) (encode_utf8 c)
    ∙ ap (λ e. front ++ (encode_utf8_all cs ++ e)) (sym (append-nil (encode_utf8 c)))
    ∙ ap (λ e. front ++ e) (sym (encodes-append cs (c ∷ [])))

pub push_same :
    (front : List ℕ) (n c : ℕ) →
    (front ++ encode_utf8_all (replicate n c)) ++ encode_utf8 c ≡ front ++
    encode_utf8_all (replicate (n + 1) c)
push_same front n c = one_more front (replicate n c) c ∙ ap (λ t. front ++ encode_utf8_all t)
    (replicate_more n c)
