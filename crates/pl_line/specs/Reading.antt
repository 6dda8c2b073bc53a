-- Where a fault of reading is told.
use Rattle.std.specs.Prelude.{ℕ, ◌+◌}
use Rattle.pl_line.specs.declared.code.YamlCode.{YamlCode}
use Rattle.pl_line.specs.declared.line_fault.Fault.{Fault}
use Rattle.pl_line.specs.Rows.{Row}

-- a fault at a row's column, and at its end
abbrev pub fault_at : YamlCode → Row → Fault
fault_at code row = record { code = code; line = row.number; column = row.column }

abbrev pub fault_behind : YamlCode → ℕ → Row → Fault
fault_behind code n row = record { code = code; line = row.number; column = row.column + n }
