use Rattle.std.specs.Prelude.{ℕ, ◌-◌, ◌^◌, ◌++◌, min, Bool, true, false, ◌&&◌, ◌==◌, nat_lt, nat_le, if◌then◌else◌, is_none, List, take, length, Option, Some, None}
use Rattle.std.specs.Option.{option_map_or}
use Rattle.vt_io.specs.Memory.{raised}

-- A sink in memory: what was written, the bytes that still fit, the failures and the puts so far, and
-- the number of a put that is to fail with how many bytes it may take.
pub record MemorySink : Type 0 where
  pub written : List ℕ
  pub room : ℕ
  pub faults : ℕ
  pub puts : ℕ
  pub failing : Option (ℕ × ℕ)

-- the next put is the one that is to fail
abbrev pub is_set_to_fail : MemorySink → Bool
is_set_to_fail s = option_map_or (λ f. f.0 == raised s.puts) s.failing false

-- how many bytes the next put may take
abbrev pub allowance : MemorySink → ℕ
allowance s = option_map_or (λ f. if f.0 == raised s.puts then min s.room f.1 else s.room) s.failing s.room

-- the next put takes all of so many bytes and does not fail
abbrev pub takes_all : MemorySink → ℕ → Bool
takes_all s count = (if is_set_to_fail s then false else true) && nat_le count s.room

-- after a put, which takes the bytes that it may
abbrev pub after_put : MemorySink → List ℕ → MemorySink
after_put s bytes =
    let taken = take (allowance s) bytes in
    record {
      written = s.written ++ taken;
      room = s.room - length taken;
      faults = if takes_all s (length bytes) then s.faults else raised s.faults;
      puts = raised s.puts;
      failing = s.failing;
    }

-- the bytes that the next put is sure to take
abbrev pub sure_of : MemorySink → Option ℕ
sure_of s = if is_none s.failing && nat_lt s.faults (2 ^ 64 - 1) then Some s.room else None
