use Rattle.std.proofs.Common.{◌≡◌, ◌++◌, replicate}
use Rattle.std.specs.Prelude.{string_bytes, encode_utf8_all}
use Rattle.pl_yaml.proofs.push.push_times.Given as goal

abbrev pub invariant-loop : goal.invariant-loop
invariant-loop l = string_bytes l.text ≡ string_bytes l.fn.text ++
    encode_utf8_all (replicate l.counter l.character)
