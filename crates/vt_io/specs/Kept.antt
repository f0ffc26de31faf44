use Rattle.std.specs.Prelude.{ℕ, List, map, String, string_bytes}
use Rattle.std.specs.Ordering.{nat_cmp}
use Rattle.std.specs.Cmp.Lexicographic.{slice_cmp}
use Rattle.std.specs.BTreeMap.{BTreeMap}
use Rattle.std.specs.declared.alloc.Global.{Global}
use Rattle.std.specs.FinMap as fin
use Rattle.vt_io.specs.declared.mem_files.MemFile.{MemFile}

-- the bytes and the failures of a file
abbrev pub file_of : MemFile → List ℕ × ℕ
file_of file = (file.bytes.items, file.faults)

-- the files by the bytes of their names
abbrev pub files_of : BTreeMap (String Global) MemFile → fin.FinMap (slice_cmp nat_cmp) (List ℕ × ℕ)
files_of m = fin.from_entries (map (λ e. (string_bytes e.0, file_of e.1)) m.entries)
