-- Options and arguments as the words spell them.
use Rattle.std.specs.Prelude.{List, Option, Some, None, map, string_bytes}
use Rattle.std.specs.Option.{option_and_then}
use Rattle.pl_base.specs.declared.expanded.Argument.{Argument}
use Rattle.pl_words.specs.Options.{Given, and_more, options_of}
use Rattle.pl_words.specs.Words.{arguments_of, before}
use Rattle.pl_words.specs.declared.options.Front.{Front}
use Rattle.pl_words.specs.declared.options.Spelled.{Spelled}
use Rattle.pl_words.specs.declared.parameters.Parameter.{Parameter}
use Rattle.pl_words.specs.declared.parameters.Lead.{Lead}

abbrev pub given : Spelled → Given
given option = record { name = option.name.now; value = option.value.now }

-- the first option before those of the words behind it
abbrev pub front_in : Option Front → Option (List Given)
front_in None = None
front_in (Some front) =
    and_more (given front.option)
    (options_of (map (λ word. string_bytes word) front.behind.now))

abbrev pub argument_in : Parameter → Argument
argument_in parameter = record { name = parameter.name.now; text = parameter.text.now }

-- the first argument before those of the words behind it
abbrev pub first_in : Option Lead → Option (List Argument)
first_in None = None
first_in (Some lead) =
    option_and_then (before (argument_in lead.parameter))
    (arguments_of (map (λ word. string_bytes word) lead.behind.now))
