-- How deep an expression is, what its last tail is, and how it is printed.
use Rattle.std.specs.Prelude.{ℕ, ◌+◌, Bool, true, false, List, [], ◌∷◌, ◌++◌, map, max, codes}
use Rattle.std.specs.Prelude.{decimal, flat_map, ◌==◌, if◌then◌else◌}
use Rattle.std.specs.Fmt.{signed_decimal}
use Rattle.std.specs.List.{join_with_byte}
use Rattle.pl_base.specs.declared.value.Value.{Value, Bool as Truth, Number, Version, Str}
use Rattle.pl_expr.specs.declared.expr.Expr.{Expr}
use Rattle.pl_expr.specs.declared.expr.Expr.TheOpen.{Expr-F, Lit, Root, Index, Project, Call}
use Rattle.pl_expr.specs.declared.expr.Expr.TheFolds.{fold-Expr}
use Rattle.pl_expr.specs.declared.expr.Expr.TheViews.{out-Expr}
use Rattle.pl_expr.specs.Functions.{name_of}

-- A leaf is 1 deep, and so is a call without arguments. What an expression stands in is one deeper.
abbrev pub deepest : List ℕ → ℕ
deepest [] = 0
deepest (depth ∷ depths) = max depth (deepest depths)

abbrev pub depth_step : Expr-F ℕ → ℕ
depth_step (Lit value) = 1
depth_step (Root name) = 1
depth_step (Index of at) = 1 + max of at
depth_step (Project of names) = 1 + of
depth_step (Call function arguments) = 1 + deepest arguments

abbrev pub depth_of : Expr → ℕ
depth_of = fold-Expr ℕ depth_step

-- the last tail is a projection
abbrev pub projects : Expr-F Expr → Bool
projects (Project of names) = true
projects tree = false

abbrev pub is_projection : Expr → Bool
is_projection tree = projects (out-Expr tree)

-- a text's bytes between quotes, each quote in it twice
abbrev pub quoted : List ℕ → List ℕ
quoted [] = []
quoted (byte ∷ bytes) = if byte == 39 then 39 ∷ 39 ∷ quoted bytes else byte ∷ quoted bytes

-- A literal. What the grammar never gives, as Null, is written as the empty text.
abbrev pub literal : Value → List ℕ
literal (Truth true) = codes "True"
literal (Truth false) = codes "False"
literal (Number number) = signed_decimal number
literal (Version segments) = join_with_byte 46 (map decimal segments)
literal (Str text) = 39 ∷ quoted text ++ 39 ∷ []
literal value = codes "''"

-- texts with a comma and a space between each two
abbrev pub listed : List (List ℕ) → List ℕ
listed [] = []
listed (text ∷ []) = text
listed (text ∷ next ∷ texts) = text ++ 44 ∷ 32 ∷ listed (next ∷ texts)

-- names, each behind a dot
abbrev pub dotted : List (List ℕ) → List ℕ
dotted names = flat_map (λ name. 46 ∷ name) names

abbrev pub printed_step : Expr-F (List ℕ) → List ℕ
printed_step (Lit value) = literal value
printed_step (Root name) = name
printed_step (Index of at) = of ++ 91 ∷ at ++ 93 ∷ []
printed_step (Project of names) = of ++ codes ".*" ++ dotted names
printed_step (Call function arguments) = name_of function ++ 40 ∷ listed arguments ++ 41 ∷ []

abbrev pub printed : Expr → List ℕ
printed = fold-Expr (List ℕ) printed_step
