use Rattle.std.proofs.Common.{◌≡◌, ◌↔◌, ℕ, ◌<◌, true, false, List, [], ◌∷◌, ◌++◌, Option, Some, None, MatchOption, is_some, length, refl, ap, sym, subst, ◌∙◌, arith}
use Rattle.std.specs.List.{All}
use Rattle.std.specs.Option.{option_to_list, option_map}
use Rattle.std.proofs.lemmas.List.Elements.{All-nil, All-cons, All-head, All-append}
use Rattle.vt_dec.specs.declared.side.Side.{Side}
use Rattle.vt_dec.specs.declared.fate.Fate.TheVariants.{Alive}
use Rattle.vt_dec.specs.Decisions.{Region, Admits}
use Rattle.vt_type.specs.declared.plain.Plain.{Plain}
use Rattle.vt_store.specs.Ends.{IsAcyclic, AreArities}
use Rattle.vt_store.specs.Patterns.{FateMap, fate_at, IsMasked}
use Rattle.vt_store.specs.Solutions.{Solves}
use Rattle.vt_store.specs.Stores.{Cells, cell_count, ends_at}
use Rattle.vt_store.specs.Writes.{IsOf}
use Rattle.vt_unify.specs.declared.compare.Comparison.{Comparison}
use Rattle.vt_unify.specs.declared.compare.Comparison.TheVariants as found
use Rattle.vt_unify.specs.declared.life.Life.TheVariants as life
use Rattle.vt_unify.specs.Walks.{CanSplit}
use Rattle.vt_unify.specs.Comparisons.{IsSameMade, IsComparison}
use Rattle.vt_unify.specs.Equations.{Equation, HoldsAt, HoldAt, IsPosed, IsInside, equations_of, Replaces, nothing, halves, parts}
use Rattle.vt_unify.specs.Carried.{IsCarried}
use Rattle.vt_unify.specs.Turns.{IsLifeOf, TurnsAll, IsSplit, IsReplaced, IsOpened, IsTurn, IsWorked}
use Rattle.vt_unify.proofs.Holding.{All-parts, append-none, halves-hold, parts-hold, swapped, killing, TurnsAll-then, Replaces-posed, Replaces-inside}
use Rattle.vt_unify.proofs.Carrying.{lighter-hold}
use Rattle.vt_unify.proofs.Measures.{left_work, left_work-falls}

-- what becomes of one equation, by what was found of it

module _ (N node : ℕ) (store : Cells) (before : FateMap) (equation : Equation) (old : List Equation) (posed : IsPosed N store equation) where
  turn_replaced : (new added : List Equation) → Replaces N store equation added → new ≡ old ++ added
      → ((decision : List Side) → IsOf N store.space decision → fate_at before decision ≡ Alive → (s : ℕ → Plain) → Solves (cell_count store) (ends_at store decision) s
      → HoldAt decision s old → HoldsAt decision s equation ↔ HoldAt decision s added)
      → IsTurn N node store before before equation old new None
  turn_replaced new added replaces appended same = (
    subst (TurnsAll N node store before before (old ++ equation ∷ [])) (sym (append-none new ∙ appended)) (swapped N node store before old equation added same),
    refl,
    record { added = added; replaces = replaces; appended = appended },
  )

  pub turn_split : (dim : ℕ) (new : List Equation) → CanSplit N equation.within dim → IsSplit N equation dim old new → IsTurn N node store before before equation old new None
  turn_split dim new can split =
      turn_replaced new _ (halves dim split.right split.left can split.narrows_right split.narrows_left) split.appended
      (λ d of alive s solves rest. halves-hold N d s equation dim split.right split.left of.sized can.0 split.narrows_right split.narrows_left)

  pub turn_dead : IsLifeOf N before equation.within life.Dead → IsTurn N node store before before equation old old None
  turn_dead dead =
      turn_replaced old [] nothing (sym (append-none old)) (λ d of alive s solves rest. ((λ h. All-nil (HoldsAt d s)), (λ h admits. absurd (dead d admits alive))))

  pub turn_equal : IsComparison N store equation.within equation.left equation.right found.Equal → IsTurn N node store before before equation old old None
  turn_equal always =
      turn_replaced old [] nothing (sym (append-none old)) (λ d of alive s solves rest. ((λ h. All-nil (HoldsAt d s)), (λ h admits. always d admits s solves)))

  pub turn_parts : (lefts rights : List ℕ) (new : List Equation)
      → ((decision : List Side) → IsOf N store.space decision → IsAcyclic (cell_count store) (ends_at store decision))
      → ((decision : List Side) → IsOf N store.space decision → AreArities (cell_count store) (ends_at store decision))
      → ((decision : List Side) → Admits equation.within decision → IsSameMade (ends_at store decision) equation.left equation.right lefts rights)
      → new ≡ old ++ equations_of equation.within lefts rights → IsTurn N node store before before equation old new None
  turn_parts lefts rights new acyclic arities made appended =
      turn_replaced new (equations_of equation.within lefts rights) (parts lefts rights made) appended
      (λ d of alive s solves rest. parts-hold N d s store (acyclic d of) (arities d of) solves equation lefts rights posed.left posed.right (made d))

  -- an equation that holds wherever the others do
  pub turn_skipped : IsCarried N store before (old ++ equation ∷ []) equation → IsTurn N node store before before equation old old None
  turn_skipped carried =
      turn_replaced old [] nothing (sym (append-none old))
      (λ d of alive s solves rest. ((λ h. All-nil (HoldsAt d s)), (λ h. carried d of alive s solves (lighter-hold store d s old equation rest))))

  pub turn_killed : (after : FateMap) → before.space ≡ store.space → IsLifeOf N before equation.within life.Alive → IsComparison N store equation.within equation.left equation.right found.Differ
      → IsMasked N equation.within node before after → IsTurn N node store before after equation old old None
  turn_killed after space alive never masked = (
    killing N node store before after old equation space alive never masked,
    masked.space,
    record { added = []; replaces = nothing; appended = sym (append-none old) },
  )

  pub turn_open : (cell to : ℕ) → IsLifeOf N before equation.within life.Alive → IsComparison N store equation.within equation.left equation.right (found.Open cell to)
      → IsTurn N node store before before equation old old (Some (record { within = equation.within; left = cell; right = to }))
  turn_open cell to alive compared = (
    swapped N node store before old equation (record { within = equation.within; left = cell; right = to } ∷ [])
        (λ d of living s solves rest. (
          (λ h. All-cons (HoldsAt d s) (record { within = equation.within; left = cell; right = to }) [] (λ admits. ((compared.2 d admits).1 s solves).0 (h admits)) (All-nil (HoldsAt d s))),
          (λ h admits. ((compared.2 d admits).1 s solves).1 (All-head (HoldsAt d s) (record { within = equation.within; left = cell; right = to }) [] h admits)),
        )),
    refl,
    (
      refl,
      record { left = compared.0; right = compared.1; within = refl; bindable = record { binds = λ d admits. (compared.2 d admits).0; alive = alive } },
    ),
  )

-- one more equation that was worked off a list, of which `rest` is what comes before it
module _ (N node : ℕ) (store : Cells) (acyclic : (decision : List Side) → IsOf N store.space decision → IsAcyclic (cell_count store) (ends_at store decision))
    (first now after : FateMap) (start before rest new : List Equation) (equation : Equation) (popped : before ≡ rest ++ equation ∷ []) where
  next_turned : (found : Option Equation) → TurnsAll N node store first now start before → IsTurn N node store now after equation rest new found → TurnsAll N node store first after start (new ++ option_to_list found)
  next_turned found so_far turn =
      TurnsAll-then N node store first now after start (rest ++ equation ∷ []) (new ++ option_to_list found) (subst (TurnsAll N node store first now start) popped so_far) turn.0

  next_posed : (found : Option Equation) → All (IsPosed N store) before → IsTurn N node store now after equation rest new found → All (IsPosed N store) (new ++ option_to_list found)
  next_posed found all turn = by found turn.2
    where
      both : All (IsPosed N store) rest × All (IsPosed N store) (equation ∷ [])
      both = All-parts (IsPosed N store) rest (equation ∷ []) (subst (All (IsPosed N store)) popped all)

      own : IsPosed N store equation
      own = All-head (IsPosed N store) equation [] both.1

      by : (found : Option Equation) → MatchOption found (IsReplaced N store equation rest new) (λ binding. (new ≡ rest) × IsOpened store after equation binding) → All (IsPosed N store) (new ++ option_to_list found)
      by None replaced =
          subst (All (IsPosed N store)) (sym (append-none new ∙ replaced.appended))
          (All-append (IsPosed N store) rest replaced.added both.0 (Replaces-posed N store acyclic equation replaced.added own replaced.replaces))
      by (Some binding) opened =
          All-append (IsPosed N store) new (binding ∷ []) (subst (All (IsPosed N store)) (sym opened.0) both.0)
          (All-cons (IsPosed N store) binding []
          (record {
            left = opened.1.left;
            right = opened.1.right;
            space = ap (λ (region : Region). region.space) opened.1.within ∙ own.space;
            sized = ap (λ (region : Region). length region.sides) opened.1.within ∙ own.sized;
            some = (own.some.0, subst (λ region. Admits region own.some.0) (sym opened.1.within) own.some.1);
          })
          (All-nil (IsPosed N store)))

  next_inside : (region : Region) (found : Option Equation) → All (IsInside region) before → IsTurn N node store now after equation rest new found → All (IsInside region) (new ++ option_to_list found)
  next_inside region found all turn = by found turn.2
    where
      both : All (IsInside region) rest × All (IsInside region) (equation ∷ [])
      both = All-parts (IsInside region) rest (equation ∷ []) (subst (All (IsInside region)) popped all)

      own : IsInside region equation
      own = All-head (IsInside region) equation [] both.1

      by : (found : Option Equation) → MatchOption found (IsReplaced N store equation rest new) (λ binding. (new ≡ rest) × IsOpened store after equation binding) → All (IsInside region) (new ++ option_to_list found)
      by None replaced =
          subst (All (IsInside region)) (sym (append-none new ∙ replaced.appended))
          (All-append (IsInside region) rest replaced.added both.0 (Replaces-inside N store region equation replaced.added own replaced.replaces))
      by (Some binding) opened =
          All-append (IsInside region) new (binding ∷ []) (subst (All (IsInside region)) (sym opened.0) both.0)
          (All-cons (IsInside region) binding [] (λ d admits. own d (subst (λ within. Admits within d) opened.1.within admits)) (All-nil (IsInside region)))

  pub worked_none : TurnsAll N node store first now start before → All (IsPosed N store) before → IsTurn N node store now after equation rest new None
      → TurnsAll N node store first after start new × All (IsPosed N store) new
  worked_none so_far all turn =
      (subst (TurnsAll N node store first after start) (append-none new) (next_turned None so_far turn), subst (All (IsPosed N store)) (append-none new) (next_posed None all turn))

  pub inside_none : (region : Region) → All (IsInside region) before → IsTurn N node store now after equation rest new None → All (IsInside region) new
  inside_none region all turn = subst (All (IsInside region)) (append-none new) (next_inside region None all turn)

  pub falls_none : All (IsPosed N store) before → IsTurn N node store now after equation rest new None → left_work N store new < left_work N store before
  falls_none all turn =
      let both = All-parts (IsPosed N store) rest (equation ∷ []) (subst (All (IsPosed N store)) popped all) in
      let falls = left_work-falls N store acyclic rest equation turn.2.added both.0 (All-head (IsPosed N store) equation [] both.1) turn.2.replaces in
      omega (arith, falls, ap (left_work N store) popped, ap (left_work N store) turn.2.appended)

  pub worked_some : (found : Option Equation) → is_some found ≡ true → now.space ≡ first.space
      → TurnsAll N node store first now start before → All (IsPosed N store) before → ((region : Region) → All (IsInside region) start → All (IsInside region) before)
      → IsTurn N node store now after equation rest new found → IsWorked N node store first after start new found
  worked_some None is space so_far all inside turn = absurd cc
  worked_some (Some binding) is space so_far all inside turn = record {
    turned = next_turned (Some binding) so_far turn;
    posed = next_posed (Some binding) all turn;
    inside = λ region own. next_inside region (Some binding) (inside region own) turn;
    space = turn.1 ∙ space;
    bindable = turn.2.1.bindable;
  }

pub no_option : {X : Type 0} (found : Option X) → is_some found ≡ false → found ≡ None
no_option None is = refl
no_option (Some x) is = absurd cc

pub compared_at : (N : ℕ) (store : Cells) (given region : Region) (left right : ℕ) (one found : Comparison) → given ≡ region → one ≡ found
    → IsComparison N store given left right one → IsComparison N store region left right found
compared_at N store given region left right one found same is h =
    subst (λ own. IsComparison N store own left right found) same (subst (IsComparison N store given left right) is h)

pub last_posed : (N : ℕ) (store : Cells) (before rest : List Equation) (equation : Equation) → before ≡ rest ++ equation ∷ [] → All (IsPosed N store) before → IsPosed N store equation
last_posed N store before rest equation popped all =
    All-head (IsPosed N store) equation [] (All-parts (IsPosed N store) rest (equation ∷ []) (subst (All (IsPosed N store)) popped all)).1

pub is_some-mapped : {X Y : Type 0} (f : X → Y) (found : Option X) → is_some found ≡ true → is_some (option_map f found) ≡ true
is_some-mapped f None is = is
is_some-mapped f (Some x) is = refl

-- nothing is left to be worked off
pub worked_out : (N node : ℕ) (store : Cells) (first now : FateMap) (start before rest : List Equation) → before ≡ rest → rest ≡ [] → now.space ≡ first.space
    → TurnsAll N node store first now start before → All (IsPosed N store) before → ((region : Region) → All (IsInside region) start → All (IsInside region) before)
    → IsWorked N node store first now start rest None
worked_out N node store first now start before rest same none space so_far all inside =
    let whole = same ∙ sym (append-none rest) in record {
      turned = subst (TurnsAll N node store first now start) whole so_far;
      posed = subst (All (IsPosed N store)) whole all;
      inside = λ region own. subst (All (IsInside region)) whole (inside region own);
      space = space;
      bindable = none;
    }

pub never_some : {X : Type 0} (found : Option X) → ((x : X) → found ≡ Some x → ⊥) → found ≡ None
never_some None never = refl
never_some (Some x) never = absurd (never x refl)

-- the equation that is to be bound
module _ (N node : ℕ) (store : Cells) (first after : FateMap) (start rest : List Equation) (binding : Equation) (worked : IsWorked N node store first after start rest (Some binding)) where
  pub binding_posed : IsPosed N store binding
  binding_posed = All-head (IsPosed N store) binding [] (All-parts (IsPosed N store) rest (binding ∷ []) worked.posed).1

pub all_worked : (N node : ℕ) (store : Cells) (first after : FateMap) (start rest : List Equation) → IsWorked N node store first after start rest None → rest ++ [] ≡ []
all_worked N node store first after start rest worked = append-none rest ∙ worked.bindable
