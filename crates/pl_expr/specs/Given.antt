-- Which trees the grammar gives in a mode.
use Rattle.std.specs.Prelude.{◌≡◌, ℕ, zero, suc, ◌^◌, ◌<◌, ◌≤◌, true, List, [], ◌∷◌, length, ℤ, pos}
use Rattle.std.specs.Prelude.{negsuc}
use Rattle.std.specs.List.{list_all}
use Rattle.pl_base.specs.declared.value.Value.{Value, Bool as Truth, Number, Version, Str}
use Rattle.pl_expr.specs.declared.expr.Expr.{Expr}
use Rattle.pl_expr.specs.declared.expr.Expr.TheVariants.{Root}
use Rattle.pl_expr.specs.declared.expr.Expr.TheOpen.{Expr-F}
use Rattle.pl_expr.specs.declared.expr.Expr.TheOpen as layer
use Rattle.pl_expr.specs.declared.expr.Expr.TheViews.{out-Expr}
use Rattle.pl_expr.specs.declared.expr.Mode.{Mode}
use Rattle.pl_expr.specs.Numerals.{is_segment}
use Rattle.pl_expr.specs.Functions.{stands_in, takes}
use Rattle.pl_expr.specs.Grammar.{is_word, is_name_byte, word_tree}

abbrev pub IsName : List ℕ → Type 0
IsName name = (is_word name ≡ true) × (list_all is_name_byte name ≡ true)

abbrev pub AreNames : List (List ℕ) → Type 0
AreNames [] = Unit {0}
AreNames (name ∷ names) = IsName name × AreNames names

-- 64 bits hold the number
abbrev pub IsNumber : ℤ → Type 0
IsNumber (pos number) = number < 2 ^ 63
IsNumber (negsuc number) = number < 2 ^ 63

-- three or four segments
abbrev pub IsVersion : List ℕ → Type 0
IsVersion segments = (2 < length segments) × (length segments ≤ 4) ×
    (list_all is_segment segments ≡ true)

abbrev pub IsLiteral : Value → Type 0
IsLiteral (Truth truth) = Unit {0}
IsLiteral (Number number) = IsNumber number
IsLiteral (Version segments) = IsVersion segments
IsLiteral (Str text) = Unit {0}
IsLiteral value = ⊥

abbrev pub AreGiven : (Expr → Type 0) → List Expr → Type 0
AreGiven IsGiven [] = Unit {0}
AreGiven IsGiven (tree ∷ trees) = IsGiven tree × AreGiven IsGiven trees

-- a tree, where its parts are given
abbrev pub IsGivenBy : Mode → (Expr → Type 0) → Expr-F Expr → Type 0
IsGivenBy mode IsGiven (layer.Lit value) = IsLiteral value
IsGivenBy mode IsGiven (layer.Root name) = IsName name × (word_tree name ≡ Root name)
IsGivenBy mode IsGiven (layer.Index of at) = IsGiven of × IsGiven at
IsGivenBy mode IsGiven (layer.Project of names) = IsGiven of × AreNames names
IsGivenBy mode IsGiven (layer.Call function arguments) = (stands_in mode function ≡ true) ×
    (takes function (length arguments) ≡ true) × AreGiven IsGiven arguments

-- A tree of at most this depth.
abbrev pub IsGiven : Mode → ℕ → Expr → Type 0
IsGiven mode zero tree = ⊥
IsGiven mode (suc depth) tree = IsGivenBy mode (IsGiven mode depth) (out-Expr tree)
