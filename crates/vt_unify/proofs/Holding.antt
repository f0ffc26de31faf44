use Rattle.std.proofs.Common.{◌≡◌, ◌⊎◌, ◌↔◌, ℕ, ◌*◌, ◌<◌, List, [], ◌∷◌, ◌++◌, Some, length, map, slice_get, refl, ap, sym, subst, ◌∙◌, inl, inr, arith}
use Rattle.std.specs.List.{All}
use Rattle.std.proofs.lemmas.List.Elements.{All-nil, All-cons, All-head, All-tail, All-append}
use Rattle.vt_dec.specs.declared.side.Side.{Side}
use Rattle.vt_dec.specs.declared.side.Side.TheVariants.{Left, Right}
use Rattle.vt_dec.specs.declared.fate.Fate.{Fate}
use Rattle.vt_dec.specs.declared.fate.Fate.TheVariants.{Alive, Dead}
use Rattle.vt_dec.specs.Decisions.{Region, Admits, Takes, Narrows}
use Rattle.vt_dec.proofs.Agreement.{Agrees-length}
use Rattle.vt_dec.proofs.Admitting.{Admits-or}
use Rattle.vt_type.specs.declared.head.Head.{Head}
use Rattle.vt_type.specs.declared.plain.Plain.{Plain}
use Rattle.vt_type.specs.Plain.{arity}
use Rattle.vt_store.specs.Ends.{IsAcyclic, AreArities, HasArity, EachCell}
use Rattle.vt_store.specs.Fates.{killed}
use Rattle.vt_store.specs.Patterns.{FateMap, fate_at, IsMasked}
use Rattle.vt_store.specs.Solutions.{Solves}
use Rattle.vt_store.specs.Stores.{Cells, cell_count, ends_at}
use Rattle.vt_store.specs.Writes.{IsOf}
use Rattle.vt_store.proofs.Writing.{side_at}
use Rattle.vt_unify.specs.Comparisons.{AreNeverEqual, IsMadeOf, IsSameMade}
use Rattle.vt_unify.specs.Equations.{Equation, HoldsAt, HoldAt, IsPosed, IsInside, equation_in, equations_of, Replaces, nothing, halves, parts}
use Rattle.vt_unify.specs.Turns.{Turns, TurnsAll, left_at}
use Rattle.vt_unify.proofs.Admitted.{IsOf-in}
use Rattle.vt_unify.proofs.Solving.{named_inside, Follows-within, same_made}

pub All-parts : {X : Type 0} (P : X → Type 0) (xs ys : List X) → All P (xs ++ ys) → All P xs × All P ys
All-parts P [] ys h = (All-nil P, h)
All-parts P (x ∷ xs) ys h =
    let rest = All-parts P xs ys (All-tail P x (xs ++ ys) h) in
    (All-cons P x xs (All-head P x (xs ++ ys) h) rest.0, rest.1)

pub append-none : {X : Type 0} (xs : List X) → xs ++ [] ≡ xs
append-none [] = refl
append-none (x ∷ xs) = ap (λ rest. x ∷ rest) (append-none xs)

-- ---- what takes the place of an equation holds where it does

module _ (N : ℕ) (decision : List Side) (s : ℕ → Plain) where
  pub halves-hold : (equation : Equation) (dim : ℕ) (right left : Region) → length decision ≡ 64 * N → dim < 64 * N
      → Narrows equation.within dim Right right → Narrows equation.within dim Left left
      → HoldsAt decision s equation ↔ HoldAt decision s (equation_in equation right ∷ equation_in equation left ∷ [])
  halves-hold equation dim right left sized small narrows_right narrows_left = (forth, back)
    where
      forth : HoldsAt decision s equation → HoldAt decision s (equation_in equation right ∷ equation_in equation left ∷ [])
      forth h =
          All-cons (HoldsAt decision s) (equation_in equation right) (equation_in equation left ∷ []) (λ admits. h ((narrows_right.exactly decision).0 admits).0)
          (All-cons (HoldsAt decision s) (equation_in equation left) [] (λ admits. h ((narrows_left.exactly decision).0 admits).0) (All-nil (HoldsAt decision s)))

      back : HoldAt decision s (equation_in equation right ∷ equation_in equation left ∷ []) → HoldsAt decision s equation
      back h admits = by (side_at N decision dim sized small)
        where
          by : (side : Side) × (slice_get decision dim ≡ Some side) → s equation.left ≡ s equation.right
          by (Right, takes) = All-head (HoldsAt decision s) (equation_in equation right) (equation_in equation left ∷ []) h ((narrows_right.exactly decision).1 (admits, takes))
          by (Left, takes) =
              All-head (HoldsAt decision s) (equation_in equation left) [] (All-tail (HoldsAt decision s) (equation_in equation right) (equation_in equation left ∷ []) h)
              ((narrows_left.exactly decision).1 (admits, takes))

  equations-idle : (within : Region) (lefts rights : List ℕ) → (Admits within decision → ⊥) → HoldAt decision s (equations_of within lefts rights)
  equations-idle within [] rights out = All-nil (HoldsAt decision s)
  equations-idle within (left ∷ lefts) [] out = All-nil (HoldsAt decision s)
  equations-idle within (left ∷ lefts) (right ∷ rights) out =
      All-cons (HoldsAt decision s) (record { within = within; left = left; right = right }) (equations_of within lefts rights) (λ admits. absurd (out admits)) (equations-idle within lefts rights out)

  equations-forth : (within : Region) (lefts rights : List ℕ) → map s lefts ≡ map s rights → HoldAt decision s (equations_of within lefts rights)
  equations-forth within [] rights same = All-nil (HoldsAt decision s)
  equations-forth within (left ∷ lefts) [] same = All-nil (HoldsAt decision s)
  equations-forth within (left ∷ lefts) (right ∷ rights) same =
      let here : s left ≡ s right = cc in
      let rest : map s lefts ≡ map s rights = cc in
      All-cons (HoldsAt decision s) (record { within = within; left = left; right = right }) (equations_of within lefts rights) (λ admits. here) (equations-forth within lefts rights rest)

  equations-back : (within : Region) (lefts rights : List ℕ) → Admits within decision → length lefts ≡ length rights → HoldAt decision s (equations_of within lefts rights) → map s lefts ≡ map s rights
  equations-back within [] [] admits long h = refl
  equations-back within [] (right ∷ rights) admits long h = absurd (omega arith)
  equations-back within (left ∷ lefts) [] admits long h = absurd (omega arith)
  equations-back within (left ∷ lefts) (right ∷ rights) admits long h =
      let here = All-head (HoldsAt decision s) (record { within = within; left = left; right = right }) (equations_of within lefts rights) h admits in
      let rest = equations-back within lefts rights admits (omega arith) (All-tail (HoldsAt decision s) (record { within = within; left = left; right = right }) (equations_of within lefts rights) h) in
      λ i. here i ∷ rest i

  module _ (store : Cells) (acyclic : IsAcyclic (cell_count store) (ends_at store decision)) (arities : AreArities (cell_count store) (ends_at store decision))
      (solves : Solves (cell_count store) (ends_at store decision) s) where
    made-long : (cell : ℕ) (head : Head) (kids : List ℕ) → cell < cell_count store → IsMadeOf (ends_at store decision) cell head kids → length kids ≡ arity head
    made-long cell head kids within made =
        subst HasArity made.2 (arities made.0 (Follows-within (cell_count store) (ends_at store decision) acyclic cell made.0 within made.1))

    pub parts-hold : (equation : Equation) (lefts rights : List ℕ) → equation.left < cell_count store → equation.right < cell_count store
        → (Admits equation.within decision → IsSameMade (ends_at store decision) equation.left equation.right lefts rights)
        → HoldsAt decision s equation ↔ HoldAt decision s (equations_of equation.within lefts rights)
    parts-hold equation lefts rights left right made = by (Admits-or equation.within decision)
      where
        by : Admits equation.within decision ⊎ (Admits equation.within decision → ⊥) → HoldsAt decision s equation ↔ HoldAt decision s (equations_of equation.within lefts rights)
        by (inl admits) =
            let both = same_made (cell_count store) (ends_at store decision) acyclic s solves equation.left equation.right lefts rights left right (made admits) in
            let long : length lefts ≡ length rights = made-long equation.left (made admits).0 lefts left (made admits).1 ∙ sym (made-long equation.right (made admits).0 rights right (made admits).2) in (
              (λ h. equations-forth equation.within lefts rights (both.0 (h admits))),
              (λ h own. both.1 (equations-back equation.within lefts rights own long h)),
            )
        by (inr out) = ((λ h. equations-idle equation.within lefts rights out), (λ h own. absurd (out own)))

-- ---- what takes the place of an equation is one of cells, over the same decisions

module _ (N : ℕ) (store : Cells) where
  equations-posed : (within : Region) (lefts rights : List ℕ) → within.space ≡ store.space → length within.sides ≡ 64 * N → (decision : List Side) × Admits within decision
      → All (λ kid. kid < cell_count store) lefts → All (λ kid. kid < cell_count store) rights → All (IsPosed N store) (equations_of within lefts rights)
  equations-posed within [] rights space sized some left right = All-nil (IsPosed N store)
  equations-posed within (one ∷ lefts) [] space sized some left right = All-nil (IsPosed N store)
  equations-posed within (one ∷ lefts) (other ∷ rights) space sized some left right =
      All-cons (IsPosed N store) (record { within = within; left = one; right = other }) (equations_of within lefts rights)
      (record {
        left = All-head (λ kid. kid < cell_count store) one lefts left;
        right = All-head (λ kid. kid < cell_count store) other rights right;
        space = space;
        sized = sized;
        some = some;
      })
      (equations-posed within lefts rights space sized some (All-tail (λ kid. kid < cell_count store) one lefts left) (All-tail (λ kid. kid < cell_count store) other rights right))

  equations-inside : (region within : Region) (lefts rights : List ℕ) → ((decision : List Side) → Admits within decision → Admits region decision) → All (IsInside region) (equations_of within lefts rights)
  equations-inside region within [] rights h = All-nil (IsInside region)
  equations-inside region within (left ∷ lefts) [] h = All-nil (IsInside region)
  equations-inside region within (left ∷ lefts) (right ∷ rights) h =
      All-cons (IsInside region) (record { within = within; left = left; right = right }) (equations_of within lefts rights) h (equations-inside region within lefts rights h)

  half-posed : (equation : Equation) (dim : ℕ) (side : Side) (half : Region) → IsPosed N store equation → Narrows equation.within dim side half
      → (decision : List Side) × Admits equation.within decision × Takes decision dim side → IsPosed N store (equation_in equation half)
  half-posed equation dim side half posed narrows some =
      let admits = (narrows.exactly some.0).1 (some.1, some.2) in
      record {
        left = posed.left;
        right = posed.right;
        space = narrows.space ∙ posed.space;
        sized = sym (Agrees-length half.sides some.0 admits.agrees) ∙ Agrees-length equation.within.sides some.0 some.1.agrees ∙ posed.sized;
        some = (some.0, admits);
      }

  module _ (acyclic : (decision : List Side) → IsOf N store.space decision → IsAcyclic (cell_count store) (ends_at store decision)) where
    made-inside : (decision : List Side) → IsOf N store.space decision → (cell : ℕ) (head : Head) (kids : List ℕ) → cell < cell_count store → IsMadeOf (ends_at store decision) cell head kids → All (λ kid. kid < cell_count store) kids
    made-inside decision of cell head kids within made =
        subst (EachCell (λ kid. kid < cell_count store)) made.2
        (named_inside (cell_count store) (ends_at store decision) (acyclic decision of) made.0 (Follows-within (cell_count store) (ends_at store decision) (acyclic decision of) cell made.0 within made.1))

    pub Replaces-posed : (equation : Equation) (added : List Equation) → IsPosed N store equation → Replaces N store equation added → All (IsPosed N store) added
    Replaces-posed equation added posed nothing = All-nil (IsPosed N store)
    Replaces-posed equation added posed (halves dim right left can narrows_right narrows_left) =
        All-cons (IsPosed N store) (equation_in equation right) (equation_in equation left ∷ []) (half-posed equation dim Right right posed narrows_right can.1.1)
        (All-cons (IsPosed N store) (equation_in equation left) [] (half-posed equation dim Left left posed narrows_left can.1.0) (All-nil (IsPosed N store)))
    Replaces-posed equation added posed (parts lefts rights made) =
        let of = IsOf-in N store.space equation.within posed.some.0 posed.sized posed.space posed.some.1 in
        let own = made posed.some.0 posed.some.1 in
        equations-posed equation.within lefts rights posed.space posed.sized posed.some
        (made-inside posed.some.0 of equation.left own.0 lefts posed.left own.1)
        (made-inside posed.some.0 of equation.right own.0 rights posed.right own.2)

  pub Replaces-inside : (region : Region) (equation : Equation) (added : List Equation) → IsInside region equation → Replaces N store equation added → All (IsInside region) added
  Replaces-inside region equation added inside nothing = All-nil (IsInside region)
  Replaces-inside region equation added inside (halves dim right left can narrows_right narrows_left) =
      All-cons (IsInside region) (equation_in equation right) (equation_in equation left ∷ []) (λ d admits. inside d ((narrows_right.exactly d).0 admits).0)
      (All-cons (IsInside region) (equation_in equation left) [] (λ d admits. inside d ((narrows_left.exactly d).0 admits).0) (All-nil (IsInside region)))
  Replaces-inside region equation added inside (parts lefts rights made) = equations-inside region equation.within lefts rights inside

-- ---- what a step does at each decision

pub alive_dead : (node : ℕ) → ◌≡◌ {A = Fate} Alive (Dead node) → ⊥
alive_dead node e = cc

pub Turns-then : (node : ℕ) (first second third : Fate) (A B C : (ℕ → Plain) → Type 0) → Turns node first second A B → Turns node second third B C → Turns node first third A C
Turns-then node first second third A B C (inl one) (inl other) =
    inl (record { fate = other.fate ∙ one.fate; same = λ alive s. ((λ c. (one.same alive s).0 ((other.same (one.fate ∙ alive) s).0 c)), (λ a. (other.same (one.fate ∙ alive) s).1 ((one.same alive s).1 a))) })
Turns-then node first second third A B C (inl one) (inr other) =
    inr (record { was = sym one.fate ∙ other.was; now = other.now; none = λ s a. other.none s ((one.same (sym one.fate ∙ other.was) s).1 a) })
Turns-then node first second third A B C (inr one) (inl other) = inr (record { was = one.was; now = other.fate ∙ one.now; none = one.none })
Turns-then node first second third A B C (inr one) (inr other) = absurd (alive_dead node (sym other.was ∙ one.now))

module _ (N node : ℕ) (store : Cells) where
  pub TurnsAll-then : (first second third : FateMap) (xs ys zs : List Equation) → TurnsAll N node store first second xs ys → TurnsAll N node store second third ys zs → TurnsAll N node store first third xs zs
  TurnsAll-then first second third xs ys zs one other decision of =
      Turns-then node (fate_at first decision) (fate_at second decision) (fate_at third decision) (left_at decision store xs) (left_at decision store ys) (left_at decision store zs) (one decision of) (other decision of)

  -- equations that hold where one does beside the others, as far as decisions are alive
  pub swapped : (pattern : FateMap) (old : List Equation) (equation : Equation) (added : List Equation)
      → ((decision : List Side) → IsOf N store.space decision → fate_at pattern decision ≡ Alive → (s : ℕ → Plain) → Solves (cell_count store) (ends_at store decision) s
      → HoldAt decision s old → HoldsAt decision s equation ↔ HoldAt decision s added)
      → TurnsAll N node store pattern pattern (old ++ equation ∷ []) (old ++ added)
  swapped pattern old equation added same decision of =
      inl (record { fate = refl; same = λ alive s. ((λ h. (h.0, forth s (same decision of alive s h.0) h.1)), (λ h. (h.0, back s (same decision of alive s h.0) h.1))) })
    where
      forth : (s : ℕ → Plain) → (HoldAt decision s old → HoldsAt decision s equation ↔ HoldAt decision s added) → HoldAt decision s (old ++ added) → HoldAt decision s (old ++ equation ∷ [])
      forth s both h =
          let cut = All-parts (HoldsAt decision s) old added h in
          All-append (HoldsAt decision s) old (equation ∷ []) cut.0 (All-cons (HoldsAt decision s) equation [] ((both cut.0).1 cut.1) (All-nil (HoldsAt decision s)))

      back : (s : ℕ → Plain) → (HoldAt decision s old → HoldsAt decision s equation ↔ HoldAt decision s added) → HoldAt decision s (old ++ equation ∷ []) → HoldAt decision s (old ++ added)
      back s both h =
          let cut = All-parts (HoldsAt decision s) old (equation ∷ []) h in
          All-append (HoldsAt decision s) old added cut.0 ((both cut.0).0 (All-head (HoldsAt decision s) equation [] cut.1))

  -- an equation that has no solution at any decision that it speaks of
  pub killing : (before after : FateMap) (old : List Equation) (equation : Equation) → before.space ≡ store.space
      → ((decision : List Side) → Admits equation.within decision → fate_at before decision ≡ Alive)
      → ((decision : List Side) → Admits equation.within decision → AreNeverEqual (cell_count store) (ends_at store decision) equation.left equation.right)
      → IsMasked N equation.within node before after → TurnsAll N node store before after (old ++ equation ∷ []) (old ++ [])
  killing before after old equation space alive never masked decision of = by (Admits-or equation.within decision)
    where
      by : Admits equation.within decision ⊎ (Admits equation.within decision → ⊥)
          → Turns node (fate_at before decision) (fate_at after decision) (left_at decision store (old ++ equation ∷ [])) (left_at decision store (old ++ []))
      by (inl admits) = inr (record {
        was = alive decision admits;
        now = masked.admitted decision admits ∙ ap (killed node) (alive decision admits);
        none = λ s h. never decision admits s h.0 (All-head (HoldsAt decision s) equation [] (All-parts (HoldsAt decision s) old (equation ∷ []) h.1).1 admits);
      })
      by (inr out) = inl (record {
        fate = masked.others decision (subst (λ own. IsOf N own decision) (sym space) of) out;
        same = λ own s. (
          (λ h. (h.0, All-append (HoldsAt decision s) old (equation ∷ []) (All-parts (HoldsAt decision s) old [] h.1).0 (All-cons (HoldsAt decision s) equation [] (λ admits. absurd (out admits)) (All-nil (HoldsAt decision s))))),
          (λ h. (h.0, All-append (HoldsAt decision s) old [] (All-parts (HoldsAt decision s) old (equation ∷ []) h.1).0 (All-nil (HoldsAt decision s)))),
        );
      })
