use Rattle.std.proofs.Common.{◌≡◌, length, map, false}
use Rattle.std.specs.Option.{option_map_or}
use Rattle.pl_words.specs.Options.{are_once, options_of}
use Rattle.pl_words.proofs.Fronts.{bytes_of}
use Rattle.pl_words.proofs.options.are_once.Given as goal

abbrev pub invariant-loop-rest : goal.invariant-loop-rest
invariant-loop-rest l =
    option_map_or (are_once (map (λ name. name.now) l.names)) (options_of (bytes_of l.words)) false
    ≡ option_map_or (are_once (map (λ name. name.now) l.names)) (options_of (bytes_of l.rest)) false

abbrev pub decreases-loop-rest : goal.decreases-loop-rest
decreases-loop-rest l = length l.rest
