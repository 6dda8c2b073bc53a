use Rattle.std.proofs.Common.{◌≡◌, ◌+◌, ◌-◌, ◌^◌, min, take, drop}
use Rattle.std.specs.List.{prefix_len}
use Rattle.std.specs.Char.{is_ascii_digit}
use Rattle.pl_reading.specs.Bytes.{number_of}
use Rattle.pl_texts.proofs.scanning.leading_number.Given as goal

abbrev pub invariant-loop-byte : goal.invariant-loop-byte
invariant-loop-byte l = record {
  counted : prefix_len is_ascii_digit l.bytes ≡ l.byte-index + prefix_len is_ascii_digit
      (drop l.byte-index l.bytes);
  value : l.number ≡ min (number_of (take l.byte-index l.bytes)) (2 ^ 64 - 1);
}
