use Rattle.std.specs.Prelude.{ℕ, List, codes}
use Rattle.vt_report.specs.Lines.{line}

-- The lines of answers that no file is refused by.

abbrev pub usage_line : List ℕ
usage_line = line (codes "usage: vtc COMMAND ARGUMENTS")

abbrev pub read_fault_line : List ℕ
read_fault_line = line (codes "read failed")

abbrev pub no_memory_line : List ℕ
no_memory_line = line (codes "out of memory")
