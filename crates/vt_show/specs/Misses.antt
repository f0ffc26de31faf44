use Rattle.vt_show.specs.declared.reader.Miss.{Miss}
use Rattle.vt_show.specs.declared.reader.Miss.TheVariants.{NotSpelled, Memory}

-- a fact where nothing was spelled; want of memory says nothing
abbrev pub IfNotSpelled : Type 0 → Miss → Type 0
IfNotSpelled P NotSpelled = P
IfNotSpelled P (Memory error) = Unit {0}
