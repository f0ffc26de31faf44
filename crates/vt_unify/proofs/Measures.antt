use Rattle.std.proofs.Common.{◌≡◌, ◌⊎◌, ℕ, ◌+◌, ◌-◌, ◌*◌, ◌<◌, ◌≤◌, List, [], ◌∷◌, ◌++◌, length, refl, ◌∙◌, inl, inr, arith, length-append}
use Rattle.std.specs.List.{All}
use Rattle.std.proofs.lemmas.List.Elements.{All-nil, All-cons, All-head, All-tail, All-append}
use Rattle.vt_dec.specs.declared.side.Side.{Side}
use Rattle.vt_dec.specs.declared.side.Side.TheVariants.{Left, Right}
use Rattle.vt_dec.specs.Decisions.{Region, Admits, Narrows}
use Rattle.vt_dec.proofs.Agreement.{Agrees-length}
use Rattle.vt_dec.proofs.Admitting.{Admits-or}
use Rattle.vt_store.specs.Ends.{IsAcyclic}
use Rattle.vt_store.specs.Stores.{Cells, cell_count, ends_at}
use Rattle.vt_store.specs.Writes.{IsOf}
use Rattle.vt_unify.specs.Comparisons.{IsSameMade}
use Rattle.vt_unify.specs.Equations.{Equation, IsPosed, equation_in, equations_of, Replaces, nothing, halves, parts}
use Rattle.vt_unify.proofs.Admitted.{IsOf-in}
use Rattle.vt_unify.proofs.Sums.{sum_all, sum_all-add, sum_all-le, sum_all-lt, sum_all-same}
use Rattle.vt_unify.specs.Weights.{weight, weights}
use Rattle.vt_unify.proofs.Weights.{weight-positive, made-weight}
use Rattle.vt_unify.proofs.Holding.{Replaces-posed}

-- a number, where a property holds
abbrev pub counted : {P : Type 0} → P ⊎ (P → ⊥) → ℕ → ℕ
counted (inl p) k = k
counted (inr p) k = 0

pub counted-yes : {P : Type 0} (decide : P ⊎ (P → ⊥)) (k : ℕ) → P → counted decide k ≡ k
counted-yes (inl p) k has = refl
counted-yes (inr p) k has = absurd (p has)

pub counted-no : {P : Type 0} (decide : P ⊎ (P → ⊥)) (k : ℕ) → (P → ⊥) → counted decide k ≡ 0
counted-no (inl p) k none = absurd (none p)
counted-no (inr p) k none = refl

-- The weight of the cells of an equation, at each decision that it speaks of.

abbrev weight_at : Cells → List Side → ℕ → ℕ
weight_at store decision cell = weight (ends_at store decision) (cell_count store) cell

abbrev work_one : (N : ℕ) → Cells → Equation → List Side → ℕ
work_one N store equation decision = counted (Admits-or equation.within decision) (weight_at store decision equation.left + weight_at store decision equation.right)

abbrev work_at : (N : ℕ) → Cells → List Equation → List Side → ℕ
work_at N store [] decision = 0
work_at N store (equation ∷ equations) decision = work_one N store equation decision + work_at N store equations decision

abbrev work : (N : ℕ) → Cells → List Equation → ℕ
work N store equations = sum_all (64 * N) (work_at N store equations)

-- It falls with each equation that is replaced: two halves weigh as much as the whole, and are one more.
abbrev pub left_work : (N : ℕ) → Cells → List Equation → ℕ
left_work N store equations = 2 * work N store equations - length equations

module _ (N : ℕ) (store : Cells) where
  work_at-append : (xs ys : List Equation) (decision : List Side) → work_at N store (xs ++ ys) decision ≡ work_at N store xs decision + work_at N store ys decision
  work_at-append [] ys decision = omega arith
  work_at-append (x ∷ xs) ys decision = omega (arith, work_at-append xs ys decision)

  work-append : (xs ys : List Equation) → work N store (xs ++ ys) ≡ work N store xs + work N store ys
  work-append xs ys =
      sum_all-same (64 * N) (work_at N store (xs ++ ys)) (λ d. work_at N store xs d + work_at N store ys d) (work_at-append xs ys)
      ∙ sum_all-add (64 * N) (work_at N store xs) (work_at N store ys)

  pub some-sized : (equation : Equation) (posed : IsPosed N store equation) → length posed.some.0 ≡ 64 * N
  some-sized equation posed = Agrees-length equation.within.sides posed.some.0 posed.some.1.agrees ∙ posed.sized

  one-positive : (equation : Equation) (decision : List Side) → Admits equation.within decision → 0 < work_one N store equation decision
  one-positive equation decision admits =
      let here = counted-yes (Admits-or equation.within decision) (weight_at store decision equation.left + weight_at store decision equation.right) admits in
      omega (arith, here, weight-positive (ends_at store decision) (cell_count store) equation.left)

  -- an equation weighs more than what is nowhere heavier, and is lighter at one decision that it speaks of
  less_work : (equation : Equation) (added : List Equation) (posed : IsPosed N store equation)
      → ((decision : List Side) → length decision ≡ 64 * N → work_at N store added decision ≤ work_one N store equation decision)
      → work_at N store added posed.some.0 < work_one N store equation posed.some.0 → work N store added < work N store (equation ∷ [])
  less_work equation added posed le less =
      sum_all-lt (64 * N) (work_at N store added) (work_at N store (equation ∷ [])) posed.some.0 (some-sized equation posed) (λ d sized. omega (arith, le d sized)) (omega (arith, less))

  length-work : (equations : List Equation) → All (IsPosed N store) equations → length equations ≤ work N store equations
  length-work [] posed = omega arith
  length-work (equation ∷ equations) posed =
      let own = All-head (IsPosed N store) equation equations posed in
      let one = less_work equation [] own (λ d sized. omega arith) (one-positive equation own.some.0 own.some.1) in
      let rest = length-work equations (All-tail (IsPosed N store) equation equations posed) in
      omega (arith, one, rest, work-append (equation ∷ []) equations)

  -- ---- the children of two equal heads

  parts-idle : (within : Region) (lefts rights : List ℕ) (decision : List Side) → (Admits within decision → ⊥) → work_at N store (equations_of within lefts rights) decision ≡ 0
  parts-idle within [] rights decision out = refl
  parts-idle within (left ∷ lefts) [] decision out = refl
  parts-idle within (left ∷ lefts) (right ∷ rights) decision out =
      omega (arith, parts-idle within lefts rights decision out, counted-no (Admits-or within decision) (weight_at store decision left + weight_at store decision right) out)

  parts-work : (within : Region) (lefts rights : List ℕ) (decision : List Side) → Admits within decision
      → work_at N store (equations_of within lefts rights) decision ≤ weights (weight_at store decision) lefts + weights (weight_at store decision) rights
  parts-work within [] rights decision admits = omega arith
  parts-work within (left ∷ lefts) [] decision admits = omega arith
  parts-work within (left ∷ lefts) (right ∷ rights) decision admits =
      omega (arith, parts-work within lefts rights decision admits, counted-yes (Admits-or within decision) (weight_at store decision left + weight_at store decision right) admits)

  made-less : (equation : Equation) (lefts rights : List ℕ) (decision : List Side) → IsAcyclic (cell_count store) (ends_at store decision) → IsPosed N store equation → Admits equation.within decision
      → IsSameMade (ends_at store decision) equation.left equation.right lefts rights → work_at N store (equations_of equation.within lefts rights) decision < work_one N store equation decision
  made-less equation lefts rights decision acyclic posed admits made =
      let left = made-weight (cell_count store) (ends_at store decision) acyclic equation.left made.0 lefts posed.left made.1 in
      let right = made-weight (cell_count store) (ends_at store decision) acyclic equation.right made.0 rights posed.right made.2 in
      let below = parts-work equation.within lefts rights decision admits in
      let own = counted-yes (Admits-or equation.within decision) (weight_at store decision equation.left + weight_at store decision equation.right) admits in
      omega (arith, left, right, below, own)

  -- ---- the halves of an equation

  halves-work : (equation : Equation) (dim : ℕ) (right left : Region) → Narrows equation.within dim Right right → Narrows equation.within dim Left left
      → (decision : List Side) → work_at N store (equation_in equation right ∷ equation_in equation left ∷ []) decision ≤ work_one N store equation decision
  halves-work equation dim right left narrows_right narrows_left decision = by (Admits-or right decision) (Admits-or left decision)
    where
      whole : ℕ
      whole = weight_at store decision equation.left + weight_at store decision equation.right

      by : Admits right decision ⊎ (Admits right decision → ⊥) → Admits left decision ⊎ (Admits left decision → ⊥)
          → work_at N store (equation_in equation right ∷ equation_in equation left ∷ []) decision ≤ work_one N store equation decision
      by (inl one) (inl other) =
          let right_side = ((narrows_right.exactly decision).0 one).1 in
          let left_side = ((narrows_left.exactly decision).0 other).1 in
          let same : ◌≡◌ {A = Side} Right Left = cc in
          absurd cc
      by (inl one) (inr other) =
          omega (
            arith,
            counted-yes (Admits-or right decision) (weight_at store decision equation.left + weight_at store decision equation.right) one,
            counted-no (Admits-or left decision) (weight_at store decision equation.left + weight_at store decision equation.right) other,
            counted-yes (Admits-or equation.within decision) (weight_at store decision equation.left + weight_at store decision equation.right) ((narrows_right.exactly decision).0 one).0,
          )
      by (inr one) (inl other) =
          omega (
            arith,
            counted-no (Admits-or right decision) (weight_at store decision equation.left + weight_at store decision equation.right) one,
            counted-yes (Admits-or left decision) (weight_at store decision equation.left + weight_at store decision equation.right) other,
            counted-yes (Admits-or equation.within decision) (weight_at store decision equation.left + weight_at store decision equation.right) ((narrows_left.exactly decision).0 other).0,
          )
      by (inr one) (inr other) =
          omega (
            arith,
            counted-no (Admits-or right decision) (weight_at store decision equation.left + weight_at store decision equation.right) one,
            counted-no (Admits-or left decision) (weight_at store decision equation.left + weight_at store decision equation.right) other,
          )

  -- ---- each equation that is replaced

  module _ (acyclic : (decision : List Side) → IsOf N store.space decision → IsAcyclic (cell_count store) (ends_at store decision)) where
    Replaces-work : (equation : Equation) (added : List Equation) → IsPosed N store equation → Replaces N store equation added
        → (work N store added < work N store (equation ∷ [])) ⊎ ((work N store added ≤ work N store (equation ∷ [])) × (length added ≡ 2))
    Replaces-work equation added posed nothing = inl (less_work equation [] posed (λ d sized. omega arith) (one-positive equation posed.some.0 posed.some.1))
    Replaces-work equation added posed (halves dim right left can narrows_right narrows_left) =
        inr (
          sum_all-le (64 * N) (work_at N store (equation_in equation right ∷ equation_in equation left ∷ [])) (work_at N store (equation ∷ []))
              (λ d sized. omega (arith, halves-work equation dim right left narrows_right narrows_left d)),
          refl,
        )
    Replaces-work equation added posed (parts lefts rights made) =
        inl (less_work equation (equations_of equation.within lefts rights) posed (λ d sized. by d (Admits-or equation.within d)) (here posed.some.0 posed.some.1))
      where
        here : (d : List Side) → Admits equation.within d → work_at N store (equations_of equation.within lefts rights) d < work_one N store equation d
        here d admits = made-less equation lefts rights d (acyclic d (IsOf-in N store.space equation.within d posed.sized posed.space admits)) posed admits (made d admits)

        by : (d : List Side) → Admits equation.within d ⊎ (Admits equation.within d → ⊥) → work_at N store (equations_of equation.within lefts rights) d ≤ work_one N store equation d
        by d (inl admits) = omega (arith, here d admits)
        by d (inr out) = omega (arith, parts-idle equation.within lefts rights d out)

    pub left_work-falls : (old : List Equation) (equation : Equation) (added : List Equation) → All (IsPosed N store) old → IsPosed N store equation → Replaces N store equation added
        → left_work N store (old ++ added) < left_work N store (old ++ equation ∷ [])
    left_work-falls old equation added others posed replaces = by (Replaces-work equation added posed replaces)
      where
        all : All (IsPosed N store) (old ++ added)
        all = All-append (IsPosed N store) old added others (Replaces-posed N store acyclic equation added posed replaces)

        whole : All (IsPosed N store) (old ++ equation ∷ [])
        whole = All-append (IsPosed N store) old (equation ∷ []) others (All-cons (IsPosed N store) equation [] posed (All-nil (IsPosed N store)))

        by : (work N store added < work N store (equation ∷ [])) ⊎ ((work N store added ≤ work N store (equation ∷ [])) × (length added ≡ 2)) → left_work N store (old ++ added) < left_work N store (old ++ equation ∷ [])
        by (inl less) =
            omega (arith, less, length-work (old ++ added) all, length-work (old ++ equation ∷ []) whole, work-append old added, work-append old (equation ∷ []), length-append old added, length-append old (equation ∷ []))
        by (inr both) =
            omega (arith, both.0, both.1, length-work (old ++ added) all, length-work (old ++ equation ∷ []) whole, work-append old added, work-append old (equation ∷ []), length-append old added, length-append old (equation ∷ []))
