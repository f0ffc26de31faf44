use Rattle.std.proofs.Common.{◌≡◌, ◌≢◌, ◌⊎◌, inl, inr, false, ℕ, ◌+◌, ◌*◌, ◌<◌, ◌≤◌, List, [], ◌∷◌, ◌++◌, length, Some, None, slice_get, refl, sym, ap, subst, ◌∙◌, arith}
use Rattle.std.specs.BTreeMap.{BTreeMap, is_at}
use Rattle.std.specs.List.{Contains}
use Rattle.std.specs.Option.{unwrap_or}
use Rattle.std.specs.Ordering.{nat_cmp}
use Rattle.std.proofs.lemmas.Bool.{cases_eq}
use Rattle.std.proofs.lemmas.Bool.Decides.{nat_tests}
use Rattle.std.proofs.lemmas.List.Elements.{Contains-push_cases, Contains-append_left, Contains-push}
use Rattle.vt_dec.specs.declared.side.Side.{Side}
use Rattle.vt_dec.specs.declared.side.Side.TheVariants.{Left, Right}
use Rattle.vt_dec.specs.Decisions.{Region, IsIn, Admits, Takes, IsNextDecided}
use Rattle.vt_dec.proofs.Admitting.{Agrees-all}
use Rattle.vt_dec.proofs.Agreement.{Agrees-decided}
use Rattle.vt_type.specs.declared.plain.Plain.{Plain}
use Rattle.vt_type.specs.Variational.{by_side}
use Rattle.vt_store.specs.Stores.{Cells, cell_count}
use Rattle.vt_store.specs.Writes.{IsOf, AgreesBelow}
use Rattle.vt_store.proofs.Writing.{side_at, le_or_lt}
use Rattle.vt_infer.specs.declared.holes.MetHole.{MetHole}
use Rattle.vt_infer.specs.Inferring.{solutions_at, IsNew}
use Rattle.vt_infer.specs.Mixing.{GrowsTo, IsMade, IsOfHole, ArePlaced, IsPlaced, cell_in}
use Rattle.vt_infer.proofs.Combining.{keeps-itself, keeps-then, adds-keeps}

-- Cells that are the one or the other of two, by the decision.

module _ (N : ℕ) where
  pub grows-itself : (store : Cells) → GrowsTo N store store
  grows-itself store = record { space = refl; more = omega arith; keeps = λ decision of. keeps-itself (cell_count store) (solutions_at store decision) }

  pub of_grown : (old new : Cells) → GrowsTo N old new → (decision : List Side) → IsOf N new.space decision → IsOf N old.space decision
  of_grown old new grows decision of = subst (λ space. IsOf N space decision) grows.space of

  pub grows-then : (old middle new : Cells) → GrowsTo N old middle → GrowsTo N middle new → GrowsTo N old new
  grows-then old middle new one other = record {
    space = other.space ∙ one.space;
    more = omega (arith, one.more, other.more);
    keeps = λ decision of.
        keeps-then (cell_count old) (cell_count middle) (cell_count new) (solutions_at old decision) (solutions_at middle decision) (solutions_at new decision)
        (one.keeps decision of) (other.keeps decision (subst (λ space. IsOf N space decision) (sym one.space) of));
  }

  -- a choice by a dimension
  module _ (old new : Cells) (dim : ℕ) (within : dim < 64 * N) (left right cell : ℕ)
      (made : IsNew N (λ decision s type. type ≡ by_side (slice_get decision dim) (s left) (s right)) cell old new) where
    pub grows-choice : GrowsTo N old new
    grows-choice = record {
      space = made.space;
      more = made.grows;
      keeps = λ decision of.
          adds-keeps (cell_count old) (cell_count new) (solutions_at old decision) (solutions_at new decision) cell (λ s type. type ≡ by_side (slice_get decision dim) (s left) (s right))
          (λ s a. (by_side (slice_get decision dim) (s left) (s right), refl)) (made.adds decision of);
    }

    -- the type of the cell where a side is taken
    type_at : (decision : List Side) → IsOf N new.space decision → (side : Side) → Takes decision dim side → (s : ℕ → Plain) → solutions_at new decision s → s cell ≡ by_side (Some side) (s left) (s right)
    type_at decision of side takes s b = (made.adds decision (of_grown old new grows-choice decision of)).related s b ∙ ap (λ taken. by_side taken (s left) (s right)) takes

    apart : (decision : List Side) → Takes decision dim Left → Takes decision dim Right → ⊥
    apart decision one other =
        let both : Some Left ≡ Some Right = sym one ∙ other in
        cc

    pub made-left : IsMade N (λ decision. Takes decision dim Left) left right cell old new
    made-left = record { grows = grows-choice; made = record { is_cell = made.is_cell; either = λ decision of. by decision of (side_at N decision dim of.sized within).0 (side_at N decision dim of.sized within).1 } }
      where
        by : (decision : List Side) → IsOf N new.space decision → (side : Side) → Takes decision dim side
            → (Takes decision dim Left × ((s : ℕ → Plain) → solutions_at new decision s → s cell ≡ s left)) ⊎ ((Takes decision dim Left → ⊥) × ((s : ℕ → Plain) → solutions_at new decision s → s cell ≡ s right))
        by decision of Left takes = inl (takes, type_at decision of Left takes)
        by decision of Right takes = inr ((λ one. apart decision one takes), type_at decision of Right takes)

    pub made-right : IsMade N (λ decision. Takes decision dim Right) right left cell old new
    made-right = record { grows = grows-choice; made = record { is_cell = made.is_cell; either = λ decision of. by decision of (side_at N decision dim of.sized within).0 (side_at N decision dim of.sized within).1 } }
      where
        by : (decision : List Side) → IsOf N new.space decision → (side : Side) → Takes decision dim side
            → (Takes decision dim Right × ((s : ℕ → Plain) → solutions_at new decision s → s cell ≡ s right)) ⊎ ((Takes decision dim Right → ⊥) × ((s : ℕ → Plain) → solutions_at new decision s → s cell ≡ s left))
        by decision of Right takes = inl (takes, type_at decision of Right takes)
        by decision of Left takes = inr ((λ one. apart decision takes one), type_at decision of Left takes)

  -- what is known while the dimensions of a context are gone through
  pub record Mixing (region : Region) (from one other cell : ℕ) (old now : Cells) : Type 0 where
    pub made : IsMade N (AgreesBelow region from) one other cell old now
    pub before : other < cell_count now

  module _ (region : Region) (one other : ℕ) (old : Cells) where
    pub mixing-begin : one < cell_count old → other < cell_count old → Mixing region 0 one other one old old
    mixing-begin one_within other_within = record {
      made = record {
        grows = grows-itself old;
        made = record { is_cell = one_within; either = λ decision of. inl ((λ dim side less decides. absurd (omega (arith, less))), λ s b. refl) };
      };
      before = other_within;
    }

    -- one more dimension
    module _ (from dim : ℕ) (side : Side) (next : IsNextDecided region from (Some (dim, side))) (cell after : ℕ) (now new : Cells)
        (h : Mixing region from one other cell old now) (made : IsMade N (λ decision. Takes decision dim side) cell other after now new) where
      further : (decision : List Side) → AgreesBelow region from decision → Takes decision dim side → AgreesBelow region (dim + 1) decision
      further decision below takes own own_side less decides = by (le_or_lt from own)
        where
          same_side : own ≡ dim → Takes decision own own_side
          same_side same =
              let both : Some (Some own_side) ≡ Some (Some side) = sym decides ∙ ap (slice_get region.sides) same ∙ next.1 in
              let equal : own_side ≡ side = cc in
              subst (λ d. Takes decision d own_side) (sym same) (subst (Takes decision dim) (sym equal) takes)

          by : (from ≤ own) ⊎ (own < from) → Takes decision own own_side
          by (inr before) = below own own_side before decides
          by (inl le) = elim (cases_eq own dim) [
            | inl same ↦ same_side same
            | inr differ ↦ absurd (next.2 own own_side le (omega (arith, less, differ)) decides)
          ]

      back : (decision : List Side) → AgreesBelow region (dim + 1) decision → AgreesBelow region from decision × Takes decision dim side
      back decision below = ((λ own own_side less decides. below own own_side (omega (arith, less, next.0)) decides), below dim side (omega arith) next.1)

      pub mixing-next : Mixing region (dim + 1) one other after old new
      mixing-next = record {
        made = record {
          grows = grows-then old now new h.made.grows made.grows;
          made = record { is_cell = made.made.is_cell; either = λ decision of. by decision of (made.made.either decision of) (h.made.made.either decision (of_grown now new made.grows decision of)) };
        };
        before = known;
      }
        where
          known : other < cell_count new
          known = omega (arith, h.before, made.grows.more)

          earlier : (decision : List Side) → IsOf N new.space decision → (s : ℕ → Plain) → solutions_at new decision s → solutions_at now decision s
          earlier decision of s b = (made.grows.keeps decision (of_grown now new made.grows decision of)).old s b

          by : (decision : List Side) → IsOf N new.space decision
              → (Takes decision dim side × ((s : ℕ → Plain) → solutions_at new decision s → s after ≡ s cell)) ⊎ ((Takes decision dim side → ⊥) × ((s : ℕ → Plain) → solutions_at new decision s → s after ≡ s other))
              → (AgreesBelow region from decision × ((s : ℕ → Plain) → solutions_at now decision s → s cell ≡ s one)) ⊎ ((AgreesBelow region from decision → ⊥) × ((s : ℕ → Plain) → solutions_at now decision s → s cell ≡ s other))
              → (AgreesBelow region (dim + 1) decision × ((s : ℕ → Plain) → solutions_at new decision s → s after ≡ s one)) ⊎ ((AgreesBelow region (dim + 1) decision → ⊥) × ((s : ℕ → Plain) → solutions_at new decision s → s after ≡ s other))
          by decision of (inl (takes, same)) (inl (below, is)) = inl (further decision below takes, λ s b. same s b ∙ is s (earlier decision of s b))
          by decision of (inl (takes, same)) (inr (not_below, is)) = inr ((λ all. not_below (back decision all).0), λ s b. same s b ∙ is s (earlier decision of s b))
          by decision of (inr (not_taken, same)) other_way = inr ((λ all. not_taken (back decision all).1), same)

    -- nothing more is decided
    pub mixing-end : (from cell : ℕ) (now : Cells) → length region.sides ≡ 64 * N → region.space ≡ old.space → IsNextDecided region from None → Mixing region from one other cell old now → IsMade N (Admits region) one other cell old now
    mixing-end from cell now sized space none h = record {
      grows = h.made.grows;
      made = record { is_cell = h.made.made.is_cell; either = λ decision of. by decision of (h.made.made.either decision of) };
    }
      where
        all : (decision : List Side) → IsOf N now.space decision → AgreesBelow region from decision → Admits region decision
        all decision of below = record {
          agrees = Agrees-all region.sides decision (of.sized ∙ sym sized) (λ dim side decides. elim (le_or_lt from dim) [
            | inl le ↦ absurd (none dim side le decides)
            | inr less ↦ below dim side less decides
          ]);
          in_space = subst (λ own. IsIn own decision) (h.made.grows.space ∙ sym space) of.inside;
        }

        by : (decision : List Side) → IsOf N now.space decision
            → (AgreesBelow region from decision × ((s : ℕ → Plain) → solutions_at now decision s → s cell ≡ s one)) ⊎ ((AgreesBelow region from decision → ⊥) × ((s : ℕ → Plain) → solutions_at now decision s → s cell ≡ s other))
            → (Admits region decision × ((s : ℕ → Plain) → solutions_at now decision s → s cell ≡ s one)) ⊎ ((Admits region decision → ⊥) × ((s : ℕ → Plain) → solutions_at now decision s → s cell ≡ s other))
        by decision of (inl (below, is)) = inl (all decision of below, is)
        by decision of (inr (not_below, is)) = inr ((λ admits. not_below (λ dim side less decides. Agrees-decided region.sides decision dim side admits.agrees decides)), is)

  -- two numbers that differ
  differ : (x y : ℕ) → (x ≡ y → ⊥) → is_at (nat_cmp x) y ≡ false
  differ x y not = let other : x ≢ y = not in grind (arith, nat_tests)

  -- one more hole
  module _ (old new : Cells) (met : List (MetHole N)) (hole : MetHole N) (before after : BTreeMap ℕ ℕ) (main : ℕ)
      (h : ArePlaced {N = N} old met (cell_in before main)) (p : IsPlaced old new hole before after main) where
    own_cell : cell_in after main hole.node ≡ p.cell
    own_cell = ap (λ found. unwrap_or found main) p.placed.1

    other_cell : (mark : ℕ) → (hole.node ≡ mark → ⊥) → cell_in after main mark ≡ cell_in before main mark
    other_cell mark not = ap (λ found. unwrap_or found main) (p.placed.2 mark (differ hole.node mark not))

    cells : (mark : ℕ) → cell_in after main mark < cell_count new
    cells mark = elim (cases_eq hole.node mark) [
      | inl same ↦ subst (λ m. cell_in after main m < cell_count new) same (subst (λ cell. cell < cell_count new) (sym own_cell) p.made.made.is_cell)
      | inr not ↦ subst (λ cell. cell < cell_count new) (sym (other_cell mark not)) (omega (arith, h.cells mark, p.made.grows.more))
    ]

    earlier : (decision : List Side) → IsOf N new.space decision → (s : ℕ → Plain) → solutions_at new decision s → solutions_at old decision s
    earlier decision of s b = (p.made.grows.keeps decision (of_grown old new p.made.grows decision of)).old s b

    -- what was known of a number
    kept : (decision : List Side) → IsOf N new.space decision → (mark cell : ℕ) → IsOfHole old met decision mark cell → (own : ℕ) → ((s : ℕ → Plain) → solutions_at new decision s → s own ≡ s cell)
        → IsOfHole new (met ++ hole ∷ []) decision mark own
    kept decision of mark cell o own same = record {
      hole = o.hole;
      is_met = Contains-append_left met (hole ∷ []) o.hole o.is_met;
      number = o.number;
      there = o.there;
      same = λ s b. same s b ∙ o.same s (earlier decision of s b);
    }

    -- the hole itself
    itself : (decision : List Side) → Admits hole.within decision → ((s : ℕ → Plain) → solutions_at new decision s → s p.cell ≡ s hole.cell) → IsOfHole new (met ++ hole ∷ []) decision hole.node (cell_in after main hole.node)
    itself decision admits same = record {
      hole = hole;
      is_met = Contains-push met hole;
      number = refl;
      there = admits;
      same = λ s b. ap s own_cell ∙ same s b;
    }

    -- its number, which has stood on another hole
    again : (decision : List Side) → IsOf N new.space decision → IsOfHole old met decision hole.node (cell_in before main hole.node)
        → (Admits hole.within decision × ((s : ℕ → Plain) → solutions_at new decision s → s p.cell ≡ s hole.cell)) ⊎ ((Admits hole.within decision → ⊥) × ((s : ℕ → Plain) → solutions_at new decision s → s p.cell ≡ s (cell_in before main hole.node)))
        → IsOfHole new (met ++ hole ∷ []) decision hole.node (cell_in after main hole.node)
    again decision of o (inl (admits, same)) = itself decision admits same
    again decision of o (inr (not, same)) = kept decision of hole.node (cell_in before main hole.node) o (cell_in after main hole.node) (λ s b. ap s own_cell ∙ same s b)

    first_time : (decision : List Side) → Admits hole.within decision
        → (Admits hole.within decision × ((s : ℕ → Plain) → solutions_at new decision s → s p.cell ≡ s hole.cell)) ⊎ ((Admits hole.within decision → ⊥) × ((s : ℕ → Plain) → solutions_at new decision s → s p.cell ≡ s (cell_in before main hole.node)))
        → IsOfHole new (met ++ hole ∷ []) decision hole.node (cell_in after main hole.node)
    first_time decision admits (inl (there, same)) = itself decision there same
    first_time decision admits (inr (not, same)) = absurd (not admits)

    old_hole : (decision : List Side) → IsOf N new.space decision → (one : MetHole N) → Contains met one → Admits one.within decision → (hole.node ≡ one.node) ⊎ (hole.node ≡ one.node → ⊥)
        → IsOfHole new (met ++ hole ∷ []) decision one.node (cell_in after main one.node)
    old_hole decision of one is admits (inl same) =
        let o = h.holes decision (of_grown old new p.made.grows decision of) one is admits in
        subst (λ mark. IsOfHole new (met ++ hole ∷ []) decision mark (cell_in after main mark)) same
        (again decision of (subst (λ mark. IsOfHole old met decision mark (cell_in before main mark)) (sym same) o) (p.made.made.either decision of))
    old_hole decision of one is admits (inr not) =
        let o = h.holes decision (of_grown old new p.made.grows decision of) one is admits in
        kept decision of one.node (cell_in before main one.node) o (cell_in after main one.node) (λ s b. ap s (other_cell one.node not))

    pub placed-next : ArePlaced {N = N} new (met ++ hole ∷ []) (cell_in after main)
    placed-next = record {
      cells = cells;
      holes = λ decision of one is admits. by decision of one admits (Contains-push_cases met hole one is);
    }
      where
        by : (decision : List Side) → IsOf N new.space decision → (one : MetHole N) → Admits one.within decision → Contains met one ⊎ (hole ≡ one) → IsOfHole new (met ++ hole ∷ []) decision one.node (cell_in after main one.node)
        by decision of one admits (inl is) = old_hole decision of one is admits (cases_eq hole.node one.node)
        by decision of one admits (inr same) =
            subst (λ (own : MetHole N). Admits own.within decision → IsOfHole new (met ++ hole ∷ []) decision own.node (cell_in after main own.node)) same
            (λ there. first_time decision there (p.made.made.either decision of)) admits
