-- Tokens of one item more.
use Rattle.std.proofs.Common.{◌≡◌, ℕ, ◌+◌, ◌<◌, List, [], ◌∷◌, ◌++◌, length, get_or, drop, map}
use Rattle.std.proofs.Common.{sym, ap, ◌∙◌, append_assoc, refl, rules}
use Rattle.std.proofs.lemmas.List.{drop_more}
use Rattle.json.specs.Token.{Token, begin_object, end_object}
use Rattle.pl_json.specs.declared.json.Json.{Json, the_lemmas}
use Rattle.pl_json.specs.declared.json.Json.TheVariants as json
use Rattle.pl_json.specs.declared.members.Member.{Member}
use Rattle.pl_wire.specs.Json.{joined, member_tokens, tokens_in, tokens_of}

-- one item more
pub tokens_more :
    {X : Type 0} (f : X → List Token) (items : List X) (i : ℕ) (item : X) (old new all : List Token)
    → i < length items → item ≡ get_or items i item → new ≡ old ++ f item
    → old ++ joined (map f (drop i items)) ≡ all
    → new ++ joined (map f (drop (i + 1) items)) ≡ all
tokens_more f items i item old new all below here is h =
    ap (λ t. t ++ joined (map f (drop (i + 1) items))) is
    ∙ append_assoc old (f item) (joined (map f (drop (i + 1) items)))
    ∙ sym (ap (λ xs. old ++ joined (map f xs)) (drop_more items i item below ∙
    ap (λ x. x ∷ drop (i + 1) items) (sym here)))
    ∙ h

-- a token, and then others
pub behind_one :
    (old mid new tokens : List Token) (first : Token) → mid ≡ old ++ first ∷ [] →
    new ≡ mid ++ tokens → new ≡ old ++ (first ∷ tokens)
behind_one old mid new tokens first one more =
    more ∙ ap (λ t. t ++ tokens) one ∙ append_assoc old (first ∷ []) tokens

-- others between two tokens
pub between_two :
    (old begun inner new tokens : List Token) (first last : Token)
    → begun ≡ old ++ first ∷ [] → inner ≡ begun ++ tokens → new ≡ inner ++ last ∷ []
    → new ≡ old ++ (first ∷ (tokens ++ last ∷ []))
between_two old begun inner new tokens first last one more end =
    end ∙ ap (λ t. t ++ last ∷ []) (behind_one old begun inner tokens first one more)
    ∙ append_assoc old (first ∷ tokens) (last ∷ [])

-- a member with the tokens of its value
abbrev pub with_tokens : Member Json → Member (List Token)
with_tokens one = record { name = one.name; value = tokens_of one.value }

pub members_tokens :
    (members : List (Member Json)) →
    map member_tokens (map with_tokens members) ≡ map tokens_in members
members_tokens [] = refl
members_tokens (one ∷ members) = ap (λ l. tokens_in one ∷ l) (members_tokens members)

one_level :
    (members : List (Member Json)) →
    tokens_of (json.Object members) ≡
    begin_object ∷ (joined (map member_tokens (map with_tokens members)) ++ end_object ∷ [])
one_level members = search (rules, the_lemmas)

-- an object's tokens
pub object_tokens :
    (members : List (Member Json)) →
    tokens_of (json.Object members) ≡
    begin_object ∷ (joined (map tokens_in members) ++ end_object ∷ [])
object_tokens members =
    one_level members ∙ ap (λ l. begin_object ∷ (joined l ++ end_object ∷ []))
    (members_tokens members)
