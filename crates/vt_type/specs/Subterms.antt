use Rattle.std.specs.Prelude.{◌≡◌, ℕ, List, [], ◌∷◌, Option, Some, None}
use Rattle.std.specs.Option.{option_and_then}
use Rattle.vt_type.specs.declared.plain.Plain.{Plain, Var, Con}
use Rattle.vt_type.specs.declared.plain.PlainKids.{PlainKids, Nil}
use Rattle.vt_type.specs.Plain.{kids_of}
use Rattle.vt_type.specs.NormalForm.{kid_at}

-- the subterm of a type at a path, which is the child numbers on the way to it
abbrev pub subterm : Plain → List ℕ → Option Plain
subterm type [] = Some type
subterm (Var name) (n ∷ path) = None
subterm (Con top kids) (n ∷ path) = option_and_then (λ kid. subterm kid path) (kid_at kids n)

-- The general type is the special one, with a variable wherever it has one, if all occurrences of
-- that variable stand for the subterm of a whole at the path that names it.
abbrev mutual
  pub FitsSubterms : Plain → Plain → Plain → Type 0
  FitsSubterms whole (Var name) special = subterm whole name ≡ Some special
  FitsSubterms whole (Con top kids) special = (parts : PlainKids) × (special ≡ Con top parts) × AllFitSubterms whole kids parts

  pub AllFitSubterms : Plain → PlainKids → PlainKids → Type 0
  AllFitSubterms whole Nil parts = parts ≡ Nil
  AllFitSubterms whole (kids_of kid kids) parts =
      (first : Plain) × (others : PlainKids) × (parts ≡ kids_of first others) × FitsSubterms whole kid first × AllFitSubterms whole kids others
