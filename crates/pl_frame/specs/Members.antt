-- The values of names, looked up one by one.
use Rattle.std.specs.Prelude.{ℕ, List, map, find, reverse, Option}
use Rattle.std.specs.Option.{option_and_then}
use Rattle.std.specs.FinMap as finite
use Rattle.pl_base.specs.Files.{text_cmp}
use Rattle.pl_base.specs.Folding.{folded}
use Rattle.pl_base.specs.declared.origin.Origin.{Origin}
use Rattle.pl_base.specs.declared.value.Value.{Value}
use Rattle.pl_base.specs.declared.value.MarkedNode.{MarkedNode}
use Rattle.pl_base.specs.declared.value.MarkedPair.{MarkedPair}
use Rattle.pl_expr.specs.Conversions.{text_of}
use Rattle.pl_eval.specs.Known.{same_name}
use Rattle.pl_eval.specs.LookUps.{made}
use Rattle.pl_frame.specs.declared.frame.Loop.{Loop}
use Rattle.pl_frame.specs.declared.frame.Parameter.{Parameter}
use Rattle.pl_frame.specs.declared.frame.Variable.{Variable}
use Rattle.pl_frame.specs.Names.{loop_entry}
use Rattle.pl_frame.specs.Trees.{all_moved}

-- the item of the innermost loop of that name, the case aside
abbrev pub loop_of : List Loop → List ℕ → Option MarkedNode
loop_of loops name = finite.find text_cmp (folded name) (map loop_entry (reverse loops))

-- the first parameter, and the first variable, of the name that an index converts to
abbrev pub parameter_at : List Parameter → Value → Option Parameter
parameter_at parameters at =
    option_and_then
    (λ name. find (λ parameter. same_name name parameter.name) parameters) (text_of at)

abbrev pub variable_at : List Variable → Value → Option Variable
variable_at variables at =
    option_and_then (λ name. find (λ variable. same_name name variable.name) variables) (text_of at)

-- a variable as a property, all of which has that origin
abbrev pub made_pair : Origin → Variable → MarkedPair
made_pair here variable = record {
  key = variable.name;
  key_origin = here;
  item = made here (all_moved (λ _. here) variable.value);
}
