use Rattle.std.proofs.Common.{◌≡◌, ◌⊎◌, ℕ, ◌+◌, ◌<◌, ◌≤◌, List, [], ◌∷◌, ◌++◌, refl, ap, sym, subst, ◌∙◌, inl, inr, arith}
use Rattle.std.specs.List.{All}
use Rattle.std.proofs.lemmas.List.Elements.{All-nil, All-cons, All-head, All-tail, All-append, All-weaker}
use Rattle.vt_dec.specs.declared.side.Side.{Side}
use Rattle.vt_dec.specs.declared.side.Side.TheVariants.{Left, Right}
use Rattle.vt_dec.specs.declared.fate.Fate.TheVariants.{Alive}
use Rattle.vt_dec.specs.Decisions.{Region, Admits, Narrows}
use Rattle.vt_dec.proofs.Admitting.{Admits-or}
use Rattle.vt_type.specs.declared.plain.Plain.{Plain}
use Rattle.vt_store.specs.Ends.{IsAcyclic, AreArities}
use Rattle.vt_store.specs.Fates.{killed}
use Rattle.vt_store.specs.Patterns.{FateMap, fate_at, IsMasked}
use Rattle.vt_store.specs.Solutions.{Solves}
use Rattle.vt_store.specs.Stores.{Cells, cell_count, ends_at}
use Rattle.vt_store.specs.Writes.{IsOf}
use Rattle.vt_unify.specs.declared.compare.Comparison.TheVariants as found
use Rattle.vt_unify.specs.declared.life.Life.TheVariants as life
use Rattle.vt_unify.specs.declared.pairs.Pair.{Pair}
use Rattle.vt_unify.specs.declared.seen.Seen.{Seen}
use Rattle.vt_unify.specs.Weights.{weight, weights}
use Rattle.vt_unify.specs.Walks.{CanSplit}
use Rattle.vt_unify.specs.Comparisons.{IsSameMade, IsComparison}
use Rattle.vt_unify.specs.Equations.{Equation, HoldsAt, HoldAt, IsPosed, equation_in, equations_of}
use Rattle.vt_unify.specs.Turns.{IsLifeOf, IsSplit}
use Rattle.vt_unify.specs.Pairs.{region_of, IsKnown, equation_of}
use Rattle.vt_unify.specs.Seen.{Remembers}
use Rattle.vt_unify.specs.Carried.{equation_weight, HoldsBelow, IsCarried, AreCarried}
use Rattle.vt_unify.proofs.Holding.{All-parts, append-none, alive_dead, halves-hold, parts-hold}
use Rattle.vt_unify.proofs.Weights.{made-weight}

-- where all others hold, those that are lighter do, and an equation is not lighter than itself
pub lighter-hold : (store : Cells) (decision : List Side) (s : ℕ → Plain) (others : List Equation) (equation : Equation) → HoldAt decision s others
    → All (HoldsBelow store decision s (equation_weight store decision equation)) (others ++ equation ∷ [])
lighter-hold store decision s others equation all =
    All-append (HoldsBelow store decision s (equation_weight store decision equation)) others (equation ∷ [])
    (All-weaker (HoldsAt decision s) (HoldsBelow store decision s (equation_weight store decision equation)) (λ own holds light. holds) others all)
    (All-cons (HoldsBelow store decision s (equation_weight store decision equation)) equation [] (λ light. absurd (omega arith)) (All-nil (HoldsBelow store decision s (equation_weight store decision equation))))

-- An equation was taken off, and others were added: as far as what is lighter than a number holds, it
-- holds too if it is lighter.
abbrev Gives : (N : ℕ) → Cells → FateMap → FateMap → List Equation → List Equation → Equation → Type 0
Gives N store before after rest added equation =
    (d : List Side) → IsOf N store.space d → fate_at after d ≡ Alive → (s : ℕ → Plain) → Solves (cell_count store) (ends_at store d) s
    → (fate_at before d ≡ Alive)
    × ((most : ℕ) → equation_weight store d equation < most → All (HoldsBelow store d s most) rest → All (HoldsBelow store d s most) added → HoldsAt d s equation)

module _ (N : ℕ) (store : Cells) (before after : FateMap) (rest added : List Equation) (equation : Equation) (gives : Gives N store before after rest added equation) where
  carry : (other : Equation) → IsCarried N store before (rest ++ equation ∷ []) other → IsCarried N store after (rest ++ added) other
  carry other carried d of alive s solves below =
      let cut = All-parts (HoldsBelow store d s (equation_weight store d other)) rest added below in
      let given = gives d of alive s solves in
      carried d of given.0 s solves
      (All-append (HoldsBelow store d s (equation_weight store d other)) rest (equation ∷ []) cut.0
      (All-cons (HoldsBelow store d s (equation_weight store d other)) equation [] (λ light. given.1 (equation_weight store d other) light cut.0 cut.1) (All-nil (HoldsBelow store d s (equation_weight store d other)))))

  -- what was remembered is still carried, with more contexts too
  pub carry_all : (whole : Region) (narrowed later : List Region) (seen : Seen) → ((pair : Pair) → IsKnown narrowed pair → IsKnown later pair × (equation_of whole later pair ≡ equation_of whole narrowed pair))
      → AreCarried N store before whole narrowed (rest ++ equation ∷ []) seen → AreCarried N store after whole later (rest ++ added) seen
  carry_all whole narrowed later seen stable all pair remembered =
      let old = all pair remembered in
      let same = stable pair old.0 in
      (same.0, subst (IsCarried N store after (rest ++ added)) (sym same.1) (carry (equation_of whole narrowed pair) old.1))

module _ (N node : ℕ) (store : Cells) (pattern : FateMap) (rest : List Equation) (equation : Equation) where
  pub gives_dead : IsLifeOf N pattern equation.within life.Dead → Gives N store pattern pattern rest [] equation
  gives_dead dead d of alive s solves = (alive, λ most light others added admits. absurd (dead d admits alive))

  pub gives_equal : IsComparison N store equation.within equation.left equation.right found.Equal → Gives N store pattern pattern rest [] equation
  gives_equal always d of alive s solves = (alive, λ most light others added admits. always d admits s solves)

  pub gives_killed : (after : FateMap) → pattern.space ≡ store.space → IsLifeOf N pattern equation.within life.Alive → IsMasked N equation.within node pattern after → Gives N store pattern after rest [] equation
  gives_killed after space living masked d of alive s solves = (by (Admits-or equation.within d), λ most light others added admits. absurd (dies admits))
    where
      dies : Admits equation.within d → ⊥
      dies admits = alive_dead node (sym alive ∙ masked.admitted d admits ∙ ap (killed node) (living d admits))

      by : Admits equation.within d ⊎ (Admits equation.within d → ⊥) → fate_at pattern d ≡ Alive
      by (inl admits) = living d admits
      by (inr out) = sym (masked.others d (subst (λ own. IsOf N own d) (sym space) of) out) ∙ alive

  pub gives_split : (dim : ℕ) (right left : Region) → CanSplit N equation.within dim → Narrows equation.within dim Right right → Narrows equation.within dim Left left
      → Gives N store pattern pattern rest (equation_in equation right ∷ equation_in equation left ∷ []) equation
  gives_split dim right left can narrows_right narrows_left d of alive s solves = (alive, gives)
    where
      gives : (most : ℕ) → equation_weight store d equation < most → All (HoldsBelow store d s most) rest → All (HoldsBelow store d s most) (equation_in equation right ∷ equation_in equation left ∷ []) → HoldsAt d s equation
      gives most light others added =
          let tail = All-tail (HoldsBelow store d s most) (equation_in equation right) (equation_in equation left ∷ []) added in
          (halves-hold N d s equation dim right left of.sized can.0 narrows_right narrows_left).1
          (All-cons (HoldsAt d s) (equation_in equation right) (equation_in equation left ∷ [])
          (All-head (HoldsBelow store d s most) (equation_in equation right) (equation_in equation left ∷ []) added light)
          (All-cons (HoldsAt d s) (equation_in equation left) [] (All-head (HoldsBelow store d s most) (equation_in equation left) [] tail light) (All-nil (HoldsAt d s))))

  -- one that the others carry is not missed
  pub gives_skipped : IsCarried N store pattern (rest ++ equation ∷ []) equation → Gives N store pattern pattern rest [] equation
  gives_skipped carried d of alive s solves = (alive, gives)
    where
      gives : (most : ℕ) → equation_weight store d equation < most → All (HoldsBelow store d s most) rest → All (HoldsBelow store d s most) [] → HoldsAt d s equation
      gives most light others added =
          carried d of alive s solves
          (All-append (HoldsBelow store d s (equation_weight store d equation)) rest (equation ∷ [])
          (All-weaker (HoldsBelow store d s most) (HoldsBelow store d s (equation_weight store d equation)) (λ own holds lighter. holds (omega arith)) rest others)
          (All-cons (HoldsBelow store d s (equation_weight store d equation)) equation [] (λ lighter. absurd (omega arith)) (All-nil (HoldsBelow store d s (equation_weight store d equation)))))

-- ---- the children of two equal heads

parts-light : (store : Cells) (d : List Side) (within : Region) (lefts rights : List ℕ)
    → All (λ own. equation_weight store d own ≤ weights (weight (ends_at store d) (cell_count store)) lefts + weights (weight (ends_at store d) (cell_count store)) rights) (equations_of within lefts rights)
parts-light store d within [] rights = All-nil (λ own. equation_weight store d own ≤ 0 + weights (weight (ends_at store d) (cell_count store)) rights)
parts-light store d within (left ∷ lefts) [] = All-nil (λ own. equation_weight store d own ≤ weights (weight (ends_at store d) (cell_count store)) (left ∷ lefts) + 0)
parts-light store d within (left ∷ lefts) (right ∷ rights) =
    All-cons (λ own. equation_weight store d own ≤ weights (weight (ends_at store d) (cell_count store)) (left ∷ lefts) + weights (weight (ends_at store d) (cell_count store)) (right ∷ rights))
    (record { within = within; left = left; right = right }) (equations_of within lefts rights) (omega arith)
    (All-weaker (λ own. equation_weight store d own ≤ weights (weight (ends_at store d) (cell_count store)) lefts + weights (weight (ends_at store d) (cell_count store)) rights)
    (λ own. equation_weight store d own ≤ weights (weight (ends_at store d) (cell_count store)) (left ∷ lefts) + weights (weight (ends_at store d) (cell_count store)) (right ∷ rights))
    (λ own le. omega arith) (equations_of within lefts rights) (parts-light store d within lefts rights))

module _ (N : ℕ) (store : Cells) (pattern : FateMap) (rest : List Equation) (equation : Equation) (lefts rights : List ℕ) (posed : IsPosed N store equation)
    (acyclic : (d : List Side) → IsOf N store.space d → IsAcyclic (cell_count store) (ends_at store d))
    (arities : (d : List Side) → IsOf N store.space d → AreArities (cell_count store) (ends_at store d))
    (made : (d : List Side) → Admits equation.within d → IsSameMade (ends_at store d) equation.left equation.right lefts rights) where
  parts-give : (d : List Side) → IsOf N store.space d → (s : ℕ → Plain) → Solves (cell_count store) (ends_at store d) s → (most : ℕ) → equation_weight store d equation ≤ most
      → All (HoldsBelow store d s most) (equations_of equation.within lefts rights) → HoldsAt d s equation
  parts-give d of s solves most le below admits =
      (parts-hold N d s store (acyclic d of) (arities d of) solves equation lefts rights posed.left posed.right (made d)).1 all admits
    where
      one : weights (weight (ends_at store d) (cell_count store)) lefts < weight (ends_at store d) (cell_count store) equation.left
      one = made-weight (cell_count store) (ends_at store d) (acyclic d of) equation.left (made d admits).0 lefts posed.left (made d admits).1

      other : weights (weight (ends_at store d) (cell_count store)) rights < weight (ends_at store d) (cell_count store) equation.right
      other = made-weight (cell_count store) (ends_at store d) (acyclic d of) equation.right (made d admits).0 rights posed.right (made d admits).2

      all : HoldAt d s (equations_of equation.within lefts rights)
      all k own within =
          let light = parts-light store d equation.within lefts rights k own within in
          below k own within (omega (arith, light, one, other))

  pub gives_parts : Gives N store pattern pattern rest (equations_of equation.within lefts rights) equation
  gives_parts d of alive s solves = (alive, λ most light others added. parts-give d of s solves most (omega arith) added)

  -- and it is carried by them itself
  pub parts_carry : IsCarried N store pattern (rest ++ equations_of equation.within lefts rights) equation
  parts_carry d of alive s solves below =
      parts-give d of s solves (equation_weight store d equation) (omega arith) (All-parts (HoldsBelow store d s (equation_weight store d equation)) rest (equations_of equation.within lefts rights) below).1

-- ---- what was remembered, after each of these

pub carried_same : (N : ℕ) (store : Cells) (before after : FateMap) (rest : List Equation) (equation : Equation) (whole : Region) (narrowed : List Region) (seen : Seen)
    → Gives N store before after rest [] equation → AreCarried N store before whole narrowed (rest ++ equation ∷ []) seen → AreCarried N store after whole narrowed rest seen
carried_same N store before after rest equation whole narrowed seen gives all =
    subst (λ others. AreCarried N store after whole narrowed others seen) (append-none rest)
    (carry_all N store before after rest [] equation gives whole narrowed narrowed seen (λ pair known. (known, refl)) all)

-- one more pair is remembered
pub carried_more : (N : ℕ) (store : Cells) (pattern : FateMap) (whole : Region) (narrowed : List Region) (others : List Equation) (seen later : Seen) (pair : Pair)
    → ((other : Pair) → Remembers later other → Remembers seen other ⊎ (pair ≡ other)) → AreCarried N store pattern whole narrowed others seen
    → IsKnown narrowed pair × IsCarried N store pattern others (equation_of whole narrowed pair) → AreCarried N store pattern whole narrowed others later
carried_more N store pattern whole narrowed others seen later pair only all own other remembered = by (only other remembered)
  where
    by : Remembers seen other ⊎ (pair ≡ other) → IsKnown narrowed other × IsCarried N store pattern others (equation_of whole narrowed other)
    by (inl old) = all other old
    by (inr same) = subst (λ (one : Pair). IsKnown narrowed one × IsCarried N store pattern others (equation_of whole narrowed one)) same own

pub carried_split : (N node : ℕ) (store : Cells) (pattern : FateMap) (rest : List Equation) (equation : Equation) (whole : Region) (narrowed later : List Region) (all : List Equation) (seen : Seen) (dim : ℕ)
    → CanSplit N equation.within dim → IsSplit N equation dim rest all → ((pair : Pair) → IsKnown narrowed pair → IsKnown later pair × (equation_of whole later pair ≡ equation_of whole narrowed pair))
    → AreCarried N store pattern whole narrowed (rest ++ equation ∷ []) seen → AreCarried N store pattern whole later all seen
carried_split N node store pattern rest equation whole narrowed later all seen dim can split stable old =
    subst (λ others. AreCarried N store pattern whole later others seen) (sym split.appended)
    (carry_all N store pattern pattern rest (equation_in equation split.right ∷ equation_in equation split.left ∷ []) equation
    (gives_split N node store pattern rest equation dim split.right split.left can split.narrows_right split.narrows_left) whole narrowed later seen stable old)

pub carried_parts : (N : ℕ) (store : Cells) (pattern : FateMap) (rest : List Equation) (whole : Region) (narrowed later : List Region) (all : List Equation) (seen more : Seen) (pair : Pair) (lefts rights : List ℕ)
    → IsPosed N store (equation_of whole narrowed pair)
    → ((d : List Side) → IsOf N store.space d → IsAcyclic (cell_count store) (ends_at store d)) → ((d : List Side) → IsOf N store.space d → AreArities (cell_count store) (ends_at store d))
    → ((d : List Side) → Admits (region_of whole narrowed pair.context) d → IsSameMade (ends_at store d) pair.left pair.right lefts rights)
    → all ≡ rest ++ equations_of (region_of whole narrowed pair.context) lefts rights → later ≡ narrowed → IsKnown narrowed pair → ((other : Pair) → Remembers more other → Remembers seen other ⊎ (pair ≡ other))
    → AreCarried N store pattern whole narrowed (rest ++ equation_of whole narrowed pair ∷ []) seen → AreCarried N store pattern whole later all more
carried_parts N store pattern rest whole narrowed later all seen more pair lefts rights posed acyclic arities made appended kept known only old =
    subst (λ own. AreCarried N store pattern whole own all more) (sym kept)
    (subst (λ others. AreCarried N store pattern whole narrowed others more) (sym appended)
    (carried_more N store pattern whole narrowed (rest ++ equations_of (region_of whole narrowed pair.context) lefts rights) seen more pair only
    (carry_all N store pattern pattern rest (equations_of (region_of whole narrowed pair.context) lefts rights) (equation_of whole narrowed pair)
    (gives_parts N store pattern rest (equation_of whole narrowed pair) lefts rights posed acyclic arities made) whole narrowed narrowed seen (λ own there. (there, refl)) old)
    (known, parts_carry N store pattern rest (equation_of whole narrowed pair) lefts rights posed acyclic arities made)))

pub carried_popped : (N : ℕ) (store : Cells) (pattern : FateMap) (whole : Region) (narrowed later : List Region) (before others : List Equation) (seen : Seen) → before ≡ others → later ≡ narrowed
    → AreCarried N store pattern whole narrowed before seen → AreCarried N store pattern whole later others seen
carried_popped N store pattern whole narrowed later before others seen same kept all =
    subst (λ own. AreCarried N store pattern whole own others seen) (sym kept) (subst (λ own. AreCarried N store pattern whole narrowed own seen) same all)
