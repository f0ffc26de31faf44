use Rattle.std.proofs.Common.{◌≡◌, ℕ, List, Option, Some, None, refl}
use Rattle.vt_type.specs.declared.head.Head.{Head}
use Rattle.vt_type.specs.declared.plain.Plain.{Plain}
use Rattle.vt_type.specs.declared.plain.Plain as plain
use Rattle.vt_type.specs.declared.plain.PlainKids.{PlainKids}
use Rattle.vt_type.specs.Plain.{kid_count}
use Rattle.vt_type.specs.NormalForm.{Named, Made, Wrong, root}

-- The outcome that has a root.

pub Named-outcome : (outcome : Option Plain) (name : List ℕ) → root outcome ≡ Named name → outcome ≡ Some (plain.Var name)
Named-outcome None name is = cc
Named-outcome (Some (plain.Var own)) name is = cc
Named-outcome (Some (plain.Con top kids)) name is = cc

pub Made-outcome : (outcome : Option Plain) (top : Head) (count : ℕ) → root outcome ≡ Made top count → (kids : PlainKids) × (outcome ≡ Some (plain.Con top kids)) × (kid_count kids ≡ count)
Made-outcome None top count is = cc
Made-outcome (Some (plain.Var name)) top count is = cc
Made-outcome (Some (plain.Con own kids)) top count is = (kids, cc, cc)

pub Wrong-outcome : (outcome : Option Plain) → root outcome ≡ Wrong → outcome ≡ None
Wrong-outcome None is = refl
Wrong-outcome (Some (plain.Var name)) is = cc
Wrong-outcome (Some (plain.Con top kids)) is = cc
