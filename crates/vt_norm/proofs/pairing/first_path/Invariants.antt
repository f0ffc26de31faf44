use Rattle.std.proofs.Common.{◌≡◌, [], ◌∷◌, drop}
use Rattle.std.specs.Map.{lookup}
use Rattle.std.specs.Str.{bytes_eq}
use Rattle.vt_norm.specs.Pairing.{places_of}
use Rattle.vt_norm.proofs.pairing.first_path.Given as goal

abbrev pub invariant-loop-own : goal.invariant-loop-own
invariant-loop-own l = lookup (bytes_eq (l.cell ∷ [])) (places_of l.seen) ≡ lookup (bytes_eq (l.cell ∷ [])) (places_of (drop l.own-index l.seen))
