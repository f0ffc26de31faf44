use Rattle.std.proofs.Common.{◌≡◌, ℕ, List, [], ◌∷◌, ◌++◌, Option, Some, None, length, refl, ap, sym, subst, ◌∙◌, arith, length-append, append_assoc}
use Rattle.std.specs.List.{All}
use Rattle.std.proofs.lemmas.List.{get_or_append_left, map-append}
use Rattle.std.proofs.lemmas.List.Elements.{All-nil, All-cons, All-head, All-tail, All-append, All-weaker}
use Rattle.std.proofs.Math.Seq.{get_or-append_seam}
use Rattle.vt_dec.specs.Decisions.{Region}
use Rattle.vt_unify.specs.declared.pairs.Pair.{Pair}
use Rattle.vt_unify.specs.Equations.{Equation, equations_of}
use Rattle.vt_unify.proofs.Holding.{All-parts, append-none}
use Rattle.vt_unify.specs.Pairs.{region_of, IsPlace, IsKnown, IsMore, equation_of, equations_of_pairs, pairs_of}

-- pairs stand for the same equations when more contexts are kept

IsPlace-more : (narrowed more : List Region) (place : Option ℕ) → IsPlace narrowed place → IsPlace (narrowed ++ more) place
IsPlace-more narrowed more None h = tt
IsPlace-more narrowed more (Some place) h = omega (arith, length-append narrowed more)

region_of-more : (whole : Region) (narrowed more : List Region) (place : Option ℕ) → IsPlace narrowed place → region_of whole (narrowed ++ more) place ≡ region_of whole narrowed place
region_of-more whole narrowed more None h = refl
region_of-more whole narrowed more (Some place) h = get_or_append_left narrowed more whole place h

-- what a pair stands for stays when more contexts are kept
pub stable-more : (whole : Region) (narrowed later : List Region) → IsMore narrowed later → (pair : Pair) → IsKnown narrowed pair → IsKnown later pair × (equation_of whole later pair ≡ equation_of whole narrowed pair)
stable-more whole narrowed later grows pair known = (
  subst (λ own. IsKnown own pair) (sym grows.1) (IsPlace-more narrowed grows.0 pair.context known),
  ap (λ own. equation_of whole own pair) grows.1 ∙ ap (λ (within : Region). record { within = within; left = pair.left; right = pair.right }) (region_of-more whole narrowed grows.0 pair.context known),
)

pub equations-more : (whole : Region) (narrowed more : List Region) (pairs : List Pair) → All (IsKnown narrowed) pairs
    → equations_of_pairs whole (narrowed ++ more) pairs ≡ equations_of_pairs whole narrowed pairs
equations-more whole narrowed more [] known = refl
equations-more whole narrowed more (pair ∷ pairs) known =
    let here = region_of-more whole narrowed more pair.context (All-head (IsKnown narrowed) pair pairs known) in
    let rest = equations-more whole narrowed more pairs (All-tail (IsKnown narrowed) pair pairs known) in
    λ i. record { within = here i; left = pair.left; right = pair.right } ∷ rest i

pub equations-append : (whole : Region) (narrowed : List Region) (xs ys : List Pair) → equations_of_pairs whole narrowed (xs ++ ys) ≡ equations_of_pairs whole narrowed xs ++ equations_of_pairs whole narrowed ys
equations-append whole narrowed xs ys = map-append (equation_of whole narrowed) xs ys

-- the children of two heads, each in the context of the pair
equations-parts : (whole : Region) (narrowed : List Region) (context : Option ℕ) (lefts rights : List ℕ)
    → equations_of_pairs whole narrowed (pairs_of context lefts rights) ≡ equations_of (region_of whole narrowed context) lefts rights
equations-parts whole narrowed context [] rights = refl
equations-parts whole narrowed context (left ∷ lefts) [] = refl
equations-parts whole narrowed context (left ∷ lefts) (right ∷ rights) =
    ap (λ (rest : List Equation). record { within = region_of whole narrowed context; left = left; right = right } ∷ rest) (equations-parts whole narrowed context lefts rights)

parts-known : (narrowed : List Region) (context : Option ℕ) (lefts rights : List ℕ) → IsPlace narrowed context → All (IsKnown narrowed) (pairs_of context lefts rights)
parts-known narrowed context [] rights h = All-nil (IsKnown narrowed)
parts-known narrowed context (left ∷ lefts) [] h = All-nil (IsKnown narrowed)
parts-known narrowed context (left ∷ lefts) (right ∷ rights) h =
    All-cons (IsKnown narrowed) (record { context = context; left = left; right = right }) (pairs_of context lefts rights) h (parts-known narrowed context lefts rights h)

-- ---- a pair that is added in a context of its own

abbrev narrowed_pair : List Region → Pair → Pair
narrowed_pair narrowed pair = record pair { context = Some (length narrowed) }

known-narrowed : (narrowed : List Region) (within : Region) (pairs : List Pair) (pair : Pair) → All (IsKnown narrowed) pairs → All (IsKnown (narrowed ++ within ∷ [])) (pairs ++ narrowed_pair narrowed pair ∷ [])
known-narrowed narrowed within pairs pair known =
    All-append (IsKnown (narrowed ++ within ∷ [])) pairs (narrowed_pair narrowed pair ∷ [])
    (All-weaker (IsKnown narrowed) (IsKnown (narrowed ++ within ∷ [])) (λ own. IsPlace-more narrowed (within ∷ []) own.context) pairs known)
    (All-cons (IsKnown (narrowed ++ within ∷ [])) (narrowed_pair narrowed pair) [] (omega (arith, length-append narrowed (within ∷ []))) (All-nil (IsKnown (narrowed ++ within ∷ []))))

equations-narrowed : (whole : Region) (narrowed : List Region) (within : Region) (pairs : List Pair) (pair : Pair) → All (IsKnown narrowed) pairs
    → equations_of_pairs whole (narrowed ++ within ∷ []) (pairs ++ narrowed_pair narrowed pair ∷ []) ≡ equations_of_pairs whole narrowed pairs ++ record { within = within; left = pair.left; right = pair.right } ∷ []
equations-narrowed whole narrowed within pairs pair known =
    equations-append whole (narrowed ++ within ∷ []) pairs (narrowed_pair narrowed pair ∷ [])
    ∙ (λ i. equations-more whole narrowed (within ∷ []) pairs known i ++ record { within = get_or-append_seam narrowed within [] whole i; left = pair.left; right = pair.right } ∷ [])

module _ (whole : Region) (narrowed later : List Region) (within : Region) (pairs more : List Pair) (pair : Pair) (known : All (IsKnown narrowed) pairs)
    (kept : later ≡ narrowed ++ within ∷ []) (added : more ≡ pairs ++ narrowed_pair narrowed pair ∷ []) where
  pub still_known : All (IsKnown later) more
  still_known =
      let here = subst (λ own. All (IsKnown own) (pairs ++ narrowed_pair narrowed pair ∷ [])) (sym kept) (known-narrowed narrowed within pairs pair known) in
      subst (All (IsKnown later)) (sym added) here

  pub one_more : equations_of_pairs whole later more ≡ equations_of_pairs whole narrowed pairs ++ record { within = within; left = pair.left; right = pair.right } ∷ []
  one_more = (λ i. equations_of_pairs whole (kept i) (added i)) ∙ equations-narrowed whole narrowed within pairs pair known

-- the two halves of a pair
pub two_more : (whole : Region) (narrowed later last : List Region) (one other : Region) (pairs more all : List Pair) (pair : Pair) → All (IsKnown narrowed) pairs
    → later ≡ narrowed ++ one ∷ [] → more ≡ pairs ++ narrowed_pair narrowed pair ∷ [] → last ≡ later ++ other ∷ [] → all ≡ more ++ narrowed_pair later pair ∷ []
    → equations_of_pairs whole last all ≡ equations_of_pairs whole narrowed pairs ++ (record { within = one; left = pair.left; right = pair.right } ∷ record { within = other; left = pair.left; right = pair.right } ∷ [])
two_more whole narrowed later last one other pairs more all pair known kept added kept_too added_too =
    one_more whole later last other more all pair (still_known whole narrowed later one pairs more pair known kept added) kept_too added_too
    ∙ ap (λ (equations : List Equation). equations ++ record { within = other; left = pair.left; right = pair.right } ∷ []) (one_more whole narrowed later one pairs more pair known kept added)
    ∙ append_assoc (equations_of_pairs whole narrowed pairs) (record { within = one; left = pair.left; right = pair.right } ∷ []) (record { within = other; left = pair.left; right = pair.right } ∷ [])

-- the pairs of the children of two heads
pub parts_more : (whole : Region) (narrowed later : List Region) (context : Option ℕ) (lefts rights : List ℕ) (pairs all : List Pair) → later ≡ narrowed → all ≡ pairs ++ pairs_of context lefts rights
    → equations_of_pairs whole later all ≡ equations_of_pairs whole narrowed pairs ++ equations_of (region_of whole narrowed context) lefts rights
parts_more whole narrowed later context lefts rights pairs all kept added =
    (λ i. equations_of_pairs whole (kept i) (added i)) ∙ equations-append whole narrowed pairs (pairs_of context lefts rights)
    ∙ ap (λ rest. equations_of_pairs whole narrowed pairs ++ rest) (equations-parts whole narrowed context lefts rights)

pub parts_known : (narrowed later : List Region) (context : Option ℕ) (lefts rights : List ℕ) (pairs all : List Pair) → later ≡ narrowed → all ≡ pairs ++ pairs_of context lefts rights
    → IsPlace narrowed context → All (IsKnown narrowed) pairs → All (IsKnown later) all
parts_known narrowed later context lefts rights pairs all kept added place known =
    let here = All-append (IsKnown narrowed) pairs (pairs_of context lefts rights) known (parts-known narrowed context lefts rights place) in
    let moved = subst (λ own. All (IsKnown own) (pairs ++ pairs_of context lefts rights)) (sym kept) here in
    subst (All (IsKnown later)) (sym added) moved

-- the last pair is taken off
module _ (whole : Region) (narrowed later : List Region) (pairs rest : List Pair) (pair : Pair) (kept : later ≡ narrowed) (taken : pairs ≡ rest ++ pair ∷ []) where
  pub last_taken : equations_of_pairs whole narrowed pairs ≡ equations_of_pairs whole later rest ++ equation_of whole later pair ∷ []
  last_taken = (λ i. equations_of_pairs whole (sym kept i) (taken i)) ∙ equations-append whole later rest (pair ∷ [])

  pub rest_known : All (IsKnown narrowed) pairs → All (IsKnown later) rest × IsKnown later pair
  rest_known known =
      let moved = subst (λ own. All (IsKnown own) pairs) (sym kept) known in
      let both = All-parts (IsKnown later) rest (pair ∷ []) (subst (All (IsKnown later)) taken moved) in
      (both.0, All-head (IsKnown later) pair [] both.1)

pub none_taken : (whole : Region) (narrowed later : List Region) (pairs rest : List Pair) → later ≡ narrowed → pairs ≡ rest ++ [] → equations_of_pairs whole narrowed pairs ≡ equations_of_pairs whole later rest
none_taken whole narrowed later pairs rest kept taken = λ i. equations_of_pairs whole (sym kept i) ((taken ∙ append-none rest) i)

-- a first pair in the whole context
module _ (whole : Region) (narrowed : List Region) (before pairs : List Pair) (left right : ℕ) (empty : before ≡ []) (added : pairs ≡ before ++ record { context = None; left = left; right = right } ∷ []) where
  one_pair : pairs ≡ record { context = None; left = left; right = right } ∷ []
  one_pair = added ∙ ap (λ (list : List Pair). list ++ record { context = None; left = left; right = right } ∷ []) empty

  pub first_equation : equations_of_pairs whole narrowed pairs ≡ record { within = whole; left = left; right = right } ∷ []
  first_equation = ap (equations_of_pairs whole narrowed) one_pair

  pub first_known : All (IsKnown narrowed) pairs
  first_known = subst (All (IsKnown narrowed)) (sym one_pair) (All-cons (IsKnown narrowed) (record { context = None; left = left; right = right }) [] tt (All-nil (IsKnown narrowed)))

pub grows_twice : (narrowed later last : List Region) (one other : Region) → later ≡ narrowed ++ one ∷ [] → last ≡ later ++ other ∷ [] → IsMore narrowed last
grows_twice narrowed later last one other kept kept_too =
    (one ∷ other ∷ [], kept_too ∙ ap (λ own. own ++ other ∷ []) kept ∙ append_assoc narrowed (one ∷ []) (other ∷ []))
