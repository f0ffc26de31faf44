use Rattle.std.specs.Option.{option_map}
use Rattle.std.specs.String.{string_bytes}
use Rattle.vt_type.specs.declared.constants.Entry.{Entry}
use Rattle.vt_type.specs.Constants.{Constant}

-- an entry of the table of constants, as contracts see it
abbrev pub constant_of : Entry → Constant
constant_of entry = record { name = option_map string_bytes entry.name; closed = entry.closed }
