use Rattle.std.proofs.Common.{◌≡◌, ◌⊎◌, ℕ, ◌*◌, ◌<◌, List, [], ◌∷◌, ◌++◌, Option, Some, None, length, refl, sym, subst, ◌∙◌, inl, inr, arith}
use Rattle.std.specs.List.{All, Contains}
use Rattle.std.proofs.lemmas.List.Elements.{All-nil, All-push, All-pop, All-contains, Contains-push, Contains-push_cases, Contains-append_left}
use Rattle.vt_dec.specs.declared.side.Side.{Side}
use Rattle.vt_dec.specs.declared.side.Side.TheVariants.{Left, Right}
use Rattle.vt_dec.specs.declared.side.Space.{Space}
use Rattle.vt_dec.specs.Decisions.{Region, Agrees, Admits, Takes, Narrows}
use Rattle.vt_dec.proofs.Agreement.{Agrees-length}
use Rattle.vt_store.specs.Stores.{Cells, ends_at, IsOneEnd}
use Rattle.vt_store.specs.Writes.{IsOf}
use Rattle.vt_unify.specs.Samplings.{AreSamples, IsTurn}
use Rattle.vt_unify.proofs.WalkCounts.{either_side, admitted-positive, admitted-halves, work, work-done, work-split}

-- Parts of a context that are still to be looked at, and the decisions that are found.

pub record IsPart (region part : Region) : Type 0 where
  pub space : part.space ≡ region.space
  pub inside : (d : List Side) → Admits part d → Admits region d

pub record Sampling (store : Cells) (region : Region) (cell : ℕ) (parts : List Region) (found : List (List Side)) : Type 0 where
  pub each : All (IsPart region) parts
  pub admitted : All (Admits region) found
  pub every : (d : List Side) → Admits region d
      → ((sample : List Side) × Contains found sample × (ends_at store sample cell ≡ ends_at store d cell)) ⊎ ((part : Region) × Contains parts part × Admits part d)

module _ (store : Cells) (region : Region) (cell : ℕ) where
  module _ (parts : List Region) (part : Region) (found : List (List Side)) (now : Sampling store region cell (parts ++ part ∷ []) found) where
    pub here : IsPart region part
    here = All-contains (IsPart region) (parts ++ part ∷ []) part now.each (Contains-push parts part)

    others : All (IsPart region) parts
    others = (All-pop (IsPart region) (parts ++ part ∷ []) parts (Some part) refl now.each).0

    -- a part at whose decisions the cell has one end
    pub Sampling-leaf : (least : List Side) → IsOneEnd store cell part → Admits part least → Sampling store region cell parts (found ++ least ∷ [])
    Sampling-leaf least one_end admits = record {
      each = others;
      admitted = All-push (Admits region) found least now.admitted (here.inside least admits);
      every = λ d h. by d (now.every d h);
    }
      where
        by : (d : List Side) → ((sample : List Side) × Contains found sample × (ends_at store sample cell ≡ ends_at store d cell)) ⊎ ((own : Region) × Contains (parts ++ part ∷ []) own × Admits own d)
            → ((sample : List Side) × Contains (found ++ least ∷ []) sample × (ends_at store sample cell ≡ ends_at store d cell)) ⊎ ((own : Region) × Contains parts own × Admits own d)
        by d (inl known) = inl (known.0, Contains-append_left found (least ∷ []) known.0 known.1, known.2)
        by d (inr way) = elim (Contains-push_cases parts part way.0 way.1) [
          | inl old ↦ inr (way.0, old, way.2)
          | inr same ↦ inl (least, Contains-push found least, one_end least d admits (subst (λ own. Admits own d) (sym same) way.2))
        ]

    -- a part that is split
    pub Sampling-split : (dim : ℕ) (left right : Region) → ((d : List Side) → Admits part d → dim < length d) → Narrows part dim Left left → Narrows part dim Right right
        → Sampling store region cell ((parts ++ right ∷ []) ++ left ∷ []) found
    Sampling-split dim left right low to_left to_right = record {
      each = All-push (IsPart region) (parts ++ right ∷ []) left (All-push (IsPart region) parts right others (narrowed Right right to_right)) (narrowed Left left to_left);
      admitted = now.admitted;
      every = λ d h. by d (now.every d h);
    }
      where
        narrowed : (side : Side) (half : Region) → Narrows part dim side half → IsPart region half
        narrowed side half narrows = record { space = narrows.space ∙ here.space; inside = λ d h. here.inside d ((narrows.exactly d).0 h).0 }

        found_in : (d : List Side) → Admits part d → Takes d dim Left ⊎ Takes d dim Right → (own : Region) × Contains ((parts ++ right ∷ []) ++ left ∷ []) own × Admits own d
        found_in d h (inl takes) = (left, Contains-push (parts ++ right ∷ []) left, (to_left.exactly d).1 (h, takes))
        found_in d h (inr takes) = (right, Contains-append_left (parts ++ right ∷ []) (left ∷ []) right (Contains-push parts right), (to_right.exactly d).1 (h, takes))

        by : (d : List Side) → ((sample : List Side) × Contains found sample × (ends_at store sample cell ≡ ends_at store d cell)) ⊎ ((own : Region) × Contains (parts ++ part ∷ []) own × Admits own d)
            → ((sample : List Side) × Contains found sample × (ends_at store sample cell ≡ ends_at store d cell)) ⊎ ((own : Region) × Contains ((parts ++ right ∷ []) ++ left ∷ []) own × Admits own d)
        by d (inl known) = inl known
        by d (inr way) = elim (Contains-push_cases parts part way.0 way.1) [
          | inl old ↦ inr (way.0, Contains-append_left (parts ++ right ∷ []) (left ∷ []) way.0 (Contains-append_left parts (right ∷ []) way.0 old), way.2)
          | inr same ↦ let h = subst (λ own. Admits own d) (sym same) way.2 in inr (found_in d h (either_side d dim (low d h)))
        ]

-- A part is taken off the list and looked at.
module _ (N : ℕ) (store : Cells) (region : Region) (cell : ℕ) (sized : length region.sides ≡ 64 * N)
    (before after : List Region) (part : Region) (found : List (List Side)) (is : before ≡ after ++ part ∷ []) (now : Sampling store region cell before found) where
  opened : Sampling store region cell (after ++ part ∷ []) found
  opened = subst (λ own. Sampling store region cell own found) is now

  long : (d : List Side) → Admits part d → length d ≡ 64 * N
  long d h = Agrees-length region.sides d ((here store region cell after part found opened).inside d h).agrees ∙ sized

  -- the part is one of the context's space
  pub same_space : part.space ≡ region.space
  same_space = (here store region cell after part found opened).space

  module _ (later : List Region) (all : List (List Side)) where
    pub Sampling-turn : IsTurn N store cell part after later found all → Sampling store region cell later all
    Sampling-turn (inl t) =
        subst (λ own. Sampling store region cell own all) (sym t.kept)
        (subst (λ own. Sampling store region cell after own) (sym t.found) (Sampling-leaf store region cell after part found opened t.least t.one_end t.is_least.admitted))
    Sampling-turn (inr t) =
        subst (λ own. Sampling store region cell own all) (sym t.put)
        (subst (λ own. Sampling store region cell ((after ++ t.right ∷ []) ++ t.left ∷ []) own) (sym t.kept)
        (Sampling-split store region cell after part found opened t.dim t.left t.right (λ d h. omega (arith, long d h, t.can.0)) t.to_left t.to_right))

    pub work-turn : IsTurn N store cell part after later found all → work (64 * N) later < work (64 * N) before
    work-turn (inl t) =
        subst (λ own. work (64 * N) own < work (64 * N) before) (sym t.kept)
        (subst (λ own. work (64 * N) after < work (64 * N) own) (sym is)
        (work-done (64 * N) after part (admitted-positive (64 * N) part t.least (long t.least t.is_least.admitted) t.is_least.admitted)))
    work-turn (inr t) =
        let one = t.can.1.0 in
        let other = t.can.1.1 in
        let some_left = admitted-positive (64 * N) t.left one.0 (long one.0 one.1) ((t.to_left.exactly one.0).1 (one.1, one.2)) in
        let some_right = admitted-positive (64 * N) t.right other.0 (long other.0 other.1) ((t.to_right.exactly other.0).1 (other.1, other.2)) in
        let both = admitted-halves (64 * N) t.dim part t.left t.right t.can.0 t.to_left t.to_right in
        subst (λ own. work (64 * N) own < work (64 * N) before) (sym t.put)
        (subst (λ own. work (64 * N) ((after ++ t.right ∷ []) ++ t.left ∷ []) < work (64 * N) own) (sym is)
        (work-split (64 * N) after part t.left t.right some_left some_right both))
