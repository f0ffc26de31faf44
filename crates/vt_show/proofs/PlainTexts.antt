use Rattle.std.proofs.Common.{◌≡◌, ℕ, ◌+◌, List, [], ◌++◌, nat_lt, codes, refl, ap, ◌∙◌}
use Rattle.std.proofs.lemmas.List.{append_assoc}
use Rattle.vt_type.specs.declared.head.Head.TheVariants.{Int, Bool as Truth, Text, List as ListOf, Pair, Fun, Data}
use Rattle.vt_type.specs.declared.plain.Plain.{Plain}
use Rattle.vt_type.specs.declared.plain.Plain as plain
use Rattle.vt_type.specs.declared.plain.PlainKids.{PlainKids}
use Rattle.vt_type.specs.declared.plain.PlainKids as plain_kids
use Rattle.vt_type.specs.Plain.{kids_of, kid_count, IsWellFormed, AreWellFormed}
use Rattle.vt_type.specs.declared.vtype.VType.{VType}
use Rattle.vt_type.specs.Variational.{vkid_count, IsWellFormedV, AreWellFormedV}
use Rattle.vt_type.specs.Text.{variables, distinct, wrapped, shown}
use Rattle.vt_show.specs.Conditions.{DimsBelow, KidsDimsBelow}
use Rattle.vt_show.specs.Pairs.{of_plain, of_plain_kids, both_shown, both_text, pair_text}

-- Plain types, seen as variational ones.

mutual
  pub of_plain-well_formed : (type : Plain) → IsWellFormed type → IsWellFormedV (of_plain type)
  of_plain-well_formed (plain.Var name) h = tt
  of_plain-well_formed (plain.Con top kids) h = (of_plain-count kids ∙ h.0, of_plain_kids-well_formed kids h.1)

  of_plain_kids-well_formed : (kids : PlainKids) → AreWellFormed kids → AreWellFormedV (of_plain_kids kids)
  of_plain_kids-well_formed plain_kids.Nil h = tt
  of_plain_kids-well_formed (kids_of kid kids) h = (of_plain-well_formed kid h.0, of_plain_kids-well_formed kids h.1)

  of_plain-count : (kids : PlainKids) → vkid_count (of_plain_kids kids) ≡ kid_count kids
  of_plain-count plain_kids.Nil = refl
  of_plain-count (kids_of kid kids) = ap (λ n. 1 + n) (of_plain-count kids)

mutual
  pub of_plain-dims : (n : ℕ) (type : Plain) → DimsBelow n (of_plain type)
  of_plain-dims n (plain.Var name) = tt
  of_plain-dims n (plain.Con top kids) = of_plain_kids-dims n kids

  of_plain_kids-dims : (n : ℕ) (kids : PlainKids) → KidsDimsBelow n (of_plain_kids kids)
  of_plain_kids-dims n plain_kids.Nil = tt
  of_plain_kids-dims n (kids_of kid kids) = (of_plain-dims n kid, of_plain_kids-dims n kids)

-- the names of the dimensions do not matter
pub shown-plain : (dims names : List (List ℕ)) (level : ℕ) (type : Plain) → shown dims names level (of_plain type) ≡ shown [] names level (of_plain type)
shown-plain dims names level (plain.Var name) = refl
shown-plain dims names level (plain.Con ListOf (kids_of item plain_kids.Nil)) =
    ap (λ t. codes "[" ++ t ++ codes "]") (shown-plain dims names 0 item)
shown-plain dims names level (plain.Con Pair (kids_of left (kids_of right plain_kids.Nil))) =
    λ j. wrapped (nat_lt 1 level) (shown-plain dims names 2 left j ++ codes " * " ++ shown-plain dims names 2 right j)
shown-plain dims names level (plain.Con Fun (kids_of from (kids_of to plain_kids.Nil))) =
    λ j. wrapped (nat_lt 0 level) (shown-plain dims names 1 from j ++ codes " -> " ++ shown-plain dims names 0 to j)
shown-plain dims names level (plain.Con Int plain_kids.Nil) = refl
shown-plain dims names level (plain.Con Truth plain_kids.Nil) = refl
shown-plain dims names level (plain.Con Text plain_kids.Nil) = refl
shown-plain dims names level (plain.Con Int (kids_of kid kids)) = refl
shown-plain dims names level (plain.Con Truth (kids_of kid kids)) = refl
shown-plain dims names level (plain.Con Text (kids_of kid kids)) = refl
shown-plain dims names level (plain.Con ListOf plain_kids.Nil) = refl
shown-plain dims names level (plain.Con ListOf (kids_of kid (kids_of other kids))) = refl
shown-plain dims names level (plain.Con Pair plain_kids.Nil) = refl
shown-plain dims names level (plain.Con Pair (kids_of kid plain_kids.Nil)) = refl
shown-plain dims names level (plain.Con Pair (kids_of kid (kids_of other (kids_of more kids)))) = refl
shown-plain dims names level (plain.Con Fun plain_kids.Nil) = refl
shown-plain dims names level (plain.Con Fun (kids_of kid plain_kids.Nil)) = refl
shown-plain dims names level (plain.Con Fun (kids_of kid (kids_of other (kids_of more kids)))) = refl
shown-plain dims names level (plain.Con (Data number parameters) kids) = refl

after : (s a b c d : List ℕ) → s ++ a ++ b ++ c ++ d ≡ s ++ (a ++ b ++ c ++ d)
after s a b c d = ap (λ t. t ++ c ++ d) (append_assoc s a b) ∙ ap (λ t. t ++ d) (append_assoc s (a ++ b) c) ∙ append_assoc s (a ++ b ++ c) d

-- two types are written one after the other
pub both_written : (dims names : List (List ℕ)) (one other : VType) (start s1 s2 s3 end : List ℕ)
    → s1 ≡ start ++ codes "wants " → s2 ≡ s1 ++ shown dims names 0 one → s3 ≡ s2 ++ codes ", result " → end ≡ s3 ++ shown dims names 0 other
    → end ≡ start ++ both_shown dims names one other
both_written dims names one other start s1 s2 s3 end e1 e2 e3 e4 =
    rw (e4, e3, e2, e1) (after start (codes "wants ") (shown dims names 0 one) (codes ", result ") (shown dims names 0 other))

-- plain types have the same text over all names of dimensions
pub both_text-plain : (dims : List (List ℕ)) (wanted outcome : Plain) (one other : VType) → one ≡ of_plain wanted → other ≡ of_plain outcome
    → both_text dims one other ≡ pair_text wanted outcome
both_text-plain dims wanted outcome one other is are =
    let names = distinct (variables (of_plain wanted) ++ variables (of_plain outcome)) in
    (λ j. both_text dims (is j) (are j))
    ∙ (λ j. codes "wants " ++ shown-plain dims names 0 wanted j ++ codes ", result " ++ shown-plain dims names 0 outcome j)
