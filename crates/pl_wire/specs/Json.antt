-- The text of a JSON value (RFC 8259): its tokens, as `json` prints them, without blanks. An
-- object's members stand in byte order of their names, each once: its type keeps them so.
use Rattle.std.specs.Prelude.{◌≡◌, ℕ, List, [], ◌∷◌, ◌++◌, map, Result, OnOk}
use Rattle.std.specs.Fmt.{decimal}
use Rattle.json.specs.Print.{print}
use Rattle.json.specs.Token.{Token, begin_object, end_object, begin_array, end_array, key, string}
use Rattle.json.specs.Token.{number, boolean, null}
use Rattle.json.specs.Written.{Written}
use Rattle.pl_json.specs.declared.json.Json.{Json, fold-Json}
use Rattle.pl_json.specs.declared.json.Json.TheOpen.{Json-F}
use Rattle.pl_json.specs.declared.members.Member.{Member}

-- one behind the other
abbrev pub joined : List (List Token) → List Token
joined [] = []
joined (tokens ∷ more) = tokens ++ joined more

-- a member: its name, and the tokens of its value
abbrev pub member_tokens : Member (List Token) → List Token
member_tokens one = key one.name ∷ one.value

-- one level, with what is inside already seen as its tokens
abbrev pub tokens_step : Json-F (List Token) → List Token
tokens_step Json-F.Null = null ∷ []
tokens_step (Json-F.Bool truth) = boolean truth ∷ []
tokens_step (Json-F.Number n) = number (decimal n) ∷ []
tokens_step (Json-F.Text text) = string text ∷ []
tokens_step (Json-F.Array items) = begin_array ∷ (joined items ++ end_array ∷ [])
tokens_step (Json-F.Object members) =
    begin_object ∷ (joined (map member_tokens members) ++ end_object ∷ [])

abbrev pub tokens_of : Json → List Token
tokens_of = fold-Json (List Token) tokens_step

abbrev pub tokens_in : Member Json → List Token
tokens_in one = key one.name ∷ tokens_of one.value

-- the compact text
abbrev pub json_text : Json → List ℕ
json_text value = print (tokens_of value)

-- a writer has these tokens more
abbrev pub Adds : {E : Type 0} → Result (Unit {0}) E → Written → Written → List Token → Type 0
Adds result old new tokens =
    OnOk result ((new.tokens ≡ old.tokens ++ tokens) × (new.before ≡ old.before))
