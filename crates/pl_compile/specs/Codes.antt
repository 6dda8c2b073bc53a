-- The codes of what is wrong with an expression, its evaluation and a text.
use Rattle.std.specs.Prelude.{ℕ, List, codes}
use Rattle.pl_expr.specs.declared.fault.ExprCode.{ExprCode}
use Rattle.pl_expr.specs.declared.fault.ExprCode.TheVariants as expression
use Rattle.pl_eval.specs.declared.fault.EvalCode.{EvalCode}
use Rattle.pl_eval.specs.declared.fault.EvalCode.TheVariants as evaluation
use Rattle.pl_line.specs.declared.code.YamlCode.{YamlCode}
use Rattle.pl_line.specs.declared.code.YamlCode.TheVariants as text

abbrev pub expression_code : ExprCode → List ℕ
expression_code expression.BadChar = codes "E1"
expression_code expression.UnclosedString = codes "E2"
expression_code expression.UnknownFunction = codes "E3"
expression_code expression.BadCount = codes "E4"
expression_code expression.Trailing = codes "E5"
expression_code expression.TooDeep = codes "E6"
expression_code expression.Fraction = codes "E7"
expression_code expression.NumberRange = codes "E8"

abbrev pub evaluation_code : EvalCode → List ℕ
evaluation_code evaluation.NotConvertible = codes "V1"
evaluation_code evaluation.FormatIndex = codes "V2"
evaluation_code evaluation.NoLength = codes "V3"
evaluation_code evaluation.TextTooLong = codes "V4"
evaluation_code evaluation.UnknownRoot = codes "V5"

abbrev pub text_code : YamlCode → List ℕ
text_code text.NotUtf8 = codes "Y1"
text_code text.TabIndent = codes "Y2"
text_code text.Anchor = codes "Y3"
text_code text.Tag = codes "Y4"
text_code text.ComplexKey = codes "Y5"
text_code text.Documents = codes "Y6"
text_code text.BadIndent = codes "Y7"
text_code text.Unclosed = codes "Y8"
text_code text.BadEscape = codes "Y9"
text_code text.DuplicateKey = codes "Y10"
text_code text.TooDeep = codes "Y11"
text_code text.TooLarge = codes "Y12"
text_code text.NoEntry = codes "Y13"
