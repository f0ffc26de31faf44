use Rattle.std.specs.Prelude.{ℕ, List, [], ◌++◌, codes}
use Rattle.vt_type.specs.declared.plain.Plain.{Plain}
use Rattle.vt_type.specs.declared.plain.Plain as plain
use Rattle.vt_type.specs.declared.plain.PlainKids.{PlainKids}
use Rattle.vt_type.specs.declared.plain.PlainKids as plain_kids
use Rattle.vt_type.specs.declared.vtype.VType.{VType, Var, Con}
use Rattle.vt_type.specs.declared.vtype.VKids.{VKids, Nil}
use Rattle.vt_type.specs.Plain.{kids_of}
use Rattle.vt_type.specs.Variational.{vkids_of}
use Rattle.vt_type.specs.Text.{variables, distinct, shown}

-- a plain type, seen as a variational one
abbrev mutual
  pub of_plain : Plain → VType
  of_plain (plain.Var name) = Var name
  of_plain (plain.Con top kids) = Con top (of_plain_kids kids)

  pub of_plain_kids : PlainKids → VKids
  of_plain_kids plain_kids.Nil = Nil
  of_plain_kids (kids_of kid kids) = vkids_of (of_plain kid) (of_plain_kids kids)

-- a wanted type and the type that results, over the names of the dimensions and those of the variables
abbrev pub both_shown : List (List ℕ) → List (List ℕ) → VType → VType → List ℕ
both_shown dims names wanted outcome = codes "wants " ++ shown dims names 0 wanted ++ codes ", result " ++ shown dims names 0 outcome

-- the same, with letters over both in the order in which they appear
abbrev pub both_text : List (List ℕ) → VType → VType → List ℕ
both_text dims wanted outcome = both_shown dims (distinct (variables wanted ++ variables outcome)) wanted outcome

-- The text of a wanted type and the type that results. A plain type has no dimensions.
abbrev pub pair_text : Plain → Plain → List ℕ
pair_text wanted outcome = both_text [] (of_plain wanted) (of_plain outcome)
