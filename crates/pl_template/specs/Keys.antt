-- The form of a key (Microsoft Learn, Azure Pipelines, "Template expressions": conditional
-- insertion, iterative
-- insertion, the insert directive).
use Rattle.std.specs.Prelude.{ℕ, Bool, false, List, [], ◌∷◌, codes, Option, Some, None, is_some}
use Rattle.std.specs.Prelude.{◌&&◌, if◌then◌else◌}
use Rattle.std.specs.List.{list_any}
use Rattle.pl_template.specs.declared.forms.Piece.{Piece}
use Rattle.pl_template.specs.declared.forms.Piece.TheVariants.{Literal, Expression}
use Rattle.pl_template.specs.declared.forms.ScalarForm.{ScalarForm}
use Rattle.pl_template.specs.declared.forms.ScalarForm.TheVariants as scalar
use Rattle.pl_template.specs.declared.forms.KeyForm.{KeyForm}
use Rattle.pl_template.specs.declared.forms.KeyForm.TheVariants.{Plain, Computed, If, ElseIf, Else}
use Rattle.pl_template.specs.declared.forms.KeyForm.TheVariants.{Each, Insert, Bad}
use Rattle.pl_template.specs.declared.directive.Directive.{Directive}
use Rattle.pl_template.specs.declared.directive.Directive.TheVariants as directive
use Rattle.pl_template.specs.Forms.{form_of}
use Rattle.pl_template.specs.Words.{first_word, behind_word, is_name}
use Rattle.pl_base.specs.Texts.{is}

-- the directive of that word, which is exact
abbrev pub directive_named : List ℕ → Option Directive
directive_named word =
    if is word (codes "if") then Some directive.If
    else if is word (codes "elseif") then Some directive.ElseIf
    else if is word (codes "else") then Some directive.Else
    else if is word (codes "each") then Some directive.Each
    else if is word (codes "insert") then Some directive.Insert
    else None

-- the directive whose word an expression begins with
abbrev pub directive_of : List ℕ → Option Directive
directive_of inside = directive_named (first_word inside)

-- what a directive makes of the expression that it must have
abbrev pub with_expression : List ℕ → (List ℕ → KeyForm) → KeyForm
with_expression [] made = Bad
with_expression (byte ∷ expression) made = made (byte ∷ expression)

-- what a directive makes that has nothing behind its word
abbrev pub alone : List ℕ → KeyForm → KeyForm
alone [] made = made
alone (byte ∷ expression) made = Bad

-- NAME in EXPRESSION
abbrev pub each_form : List ℕ → KeyForm
each_form text =
    let name = first_word text in
    let behind = behind_word text in
    if is_name name && is (first_word behind) (codes "in") then with_expression (behind_word behind)
    (Each name)
    else Bad

-- what a directive makes of the text behind its word
abbrev pub directive_form : Directive → List ℕ → KeyForm
directive_form directive.If text = with_expression text If
directive_form directive.ElseIf text = with_expression text ElseIf
directive_form directive.Else text = alone text Else
directive_form directive.Each text = each_form text
directive_form directive.Insert text = alone text Insert

-- a directive, or an expression that gives the key
abbrev pub whole_form : Option Directive → List ℕ → KeyForm
whole_form None inside = Computed (scalar.Whole inside)
whole_form (Some directive) inside = directive_form directive (behind_word inside)

abbrev pub is_directive : Piece → Bool
is_directive (Literal text) = false
is_directive (Expression inside) = is_some (directive_of inside)

-- the form of a key whose text has that form: beside a directive nothing else may stand
abbrev pub form_of_key : ScalarForm → KeyForm
form_of_key scalar.Plain = Plain
form_of_key (scalar.Whole inside) = whole_form (directive_of inside) inside
form_of_key (scalar.Joined pieces) =
    if list_any is_directive pieces then Bad else Computed (scalar.Joined pieces)
form_of_key scalar.Unclosed = Bad

abbrev pub key_form_of : List ℕ → KeyForm
key_form_of text = form_of_key (form_of text)
