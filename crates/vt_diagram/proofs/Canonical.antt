use Rattle.std.proofs.Common.{◌≡◌, ◌⊎◌, ℕ, zero, suc, ◌+◌, ◌<◌, ◌≤◌, List, length, replicate, set, slice_get, Some, refl, ap, sym, subst, ◌∙◌, inl, inr, arith}
use Rattle.std.specs.BTreeMap.{BTreeMap}
use Rattle.std.proofs.lemmas.Bool.{cases_order}
use Rattle.std.proofs.lemmas.List.{length-set, length-replicate}
use Rattle.std.proofs.lemmas.Option.{same_Some, slice_get-get_or}
use Rattle.vt_dec.specs.declared.side.Side.TheVariants.{Left, Right}
use Rattle.vt_diagram.specs.declared.entry.Entry.{Entry}
use Rattle.vt_diagram.specs.declared.entry.Entry.TheVariants.{Leaf, Choice}
use Rattle.vt_diagram.specs.Tables.{tree_of, tree_at, IsTable, IsChoice, IsEntry}
use Rattle.vt_diagram.specs.Trees.{Tree, Tip, Fork, IsOrdered, Agree}
use Rattle.vt_diagram.proofs.Entering.{stands_for}
use Rattle.vt_diagram.proofs.Sides.{value_in-set, value_in-left, value_in-right}

-- Two diagrams of a table that have one value at each decision are one.

-- ---- diagrams by themselves

-- no choice is between one and the same
abbrev pub IsProper : Tree → Type 0
IsProper (Tip value) = Unit {0}
IsProper (Fork dim left right) = (left ≡ right → ⊥) × IsProper left × IsProper right

unfoldable size : Tree → ℕ
size (Tip value) = 1
size (Fork dim left right) = suc (size left + size right)

size-some : (tree : Tree) → 0 < size tree
unfolding size
size-some (Tip value) = omega arith
size-some (Fork dim left right) = omega arith

module _ (bound : ℕ) where
  abbrev IsReduced : ℕ → Tree → Type 0
  IsReduced from tree = IsOrdered bound from tree × IsProper tree

  -- either side of a choice agrees with what begins later, where the choice does
  module _ (dim : ℕ) (left right other : Tree) (ordered : IsOrdered bound dim (Fork dim left right)) (later : IsOrdered bound (dim + 1) other) (agree : Agree bound (Fork dim left right) other) where
    agree-left : Agree bound left other
    agree-left d long =
        sym (value_in-left bound dim left right ordered.1 ordered.2 ordered.3 d long) ∙ agree (set d dim Left) (length-set d dim Left ∙ long)
        ∙ value_in-set bound (dim + 1) dim Left d other later (omega arith)

    agree-right : Agree bound right other
    agree-right d long =
        sym (value_in-right bound dim left right ordered.1 ordered.2 ordered.3 d long) ∙ agree (set d dim Right) (length-set d dim Right ∙ long)
        ∙ value_in-set bound (dim + 1) dim Right d other later (omega arith)

  -- the sides of two choices by one dimension agree, where the choices do
  module _ (dim : ℕ) (left right one two : Tree) (a : IsOrdered bound dim (Fork dim left right)) (b : IsOrdered bound dim (Fork dim one two)) (agree : Agree bound (Fork dim left right) (Fork dim one two)) where
    agree-lefts : Agree bound left one
    agree-lefts d long =
        sym (value_in-left bound dim left right a.1 a.2 a.3 d long) ∙ agree (set d dim Left) (length-set d dim Left ∙ long) ∙ value_in-left bound dim one two b.1 b.2 b.3 d long

    agree-rights : Agree bound right two
    agree-rights d long =
        sym (value_in-right bound dim left right a.1 a.2 a.3 d long) ∙ agree (set d dim Right) (length-set d dim Right ∙ long) ∙ value_in-right bound dim one two b.1 b.2 b.3 d long

  module _ (n : ℕ) (again : (from : ℕ) (one other : Tree) → size one + size other ≤ n → IsReduced from one → IsReduced from other → Agree bound one other → one ≡ other) where
    -- a choice agrees with nothing that begins later
    apart : (dim : ℕ) (left right other : Tree) → size (Fork dim left right) + size other ≤ suc n → IsReduced dim (Fork dim left right) → IsReduced (dim + 1) other → Agree bound (Fork dim left right) other → ⊥
    unfolding size
    apart dim left right other le t o agree =
        let one = again (dim + 1) left other (omega arith) (t.0.2, t.1.1) o (agree-left dim left right other t.0 o.0 agree) in
        let two = again (dim + 1) right other (omega arith) (t.0.3, t.1.2) o (agree-right dim left right other t.0 o.0 agree) in
        t.1.0 (one ∙ sym two)

    beside : (dim : ℕ) (left right one two : Tree) → size (Fork dim left right) + size (Fork dim one two) ≤ suc n → IsReduced dim (Fork dim left right) → IsReduced dim (Fork dim one two)
        → Agree bound (Fork dim left right) (Fork dim one two) → Fork dim left right ≡ Fork dim one two
    unfolding size
    beside dim left right one two le t o agree =
        let l = again (dim + 1) left one (omega arith) (t.0.2, t.1.1) (o.0.2, o.1.1) (agree-lefts dim left right one two t.0 o.0 agree) in
        let r = again (dim + 1) right two (omega arith) (t.0.3, t.1.2) (o.0.3, o.1.2) (agree-rights dim left right one two t.0 o.0 agree) in
        λ i. Fork dim (l i) (r i)

    -- a choice begins at its dimension
    from_own : (from dim : ℕ) (left right : Tree) → IsReduced from (Fork dim left right) → IsReduced dim (Fork dim left right)
    from_own from dim left right t = ((omega arith, t.0.1, t.0.2, t.0.3), t.1)

    from_before : (from dim own : ℕ) (left right : Tree) → own < dim → IsReduced from (Fork dim left right) → IsReduced (own + 1) (Fork dim left right)
    from_before from dim own left right before t = ((omega arith, t.0.1, t.0.2, t.0.3), t.1)

    two_forks : (from dim own : ℕ) (left right one two : Tree) → size (Fork dim left right) + size (Fork own one two) ≤ suc n → IsReduced from (Fork dim left right) → IsReduced from (Fork own one two)
        → Agree bound (Fork dim left right) (Fork own one two) → (dim ≡ own) ⊎ ((dim < own) ⊎ (own < dim)) → Fork dim left right ≡ Fork own one two
    two_forks from dim own left right one two le t o agree (inl e) =
        let P : ℕ → Type 0 = λ k. size (Fork dim left right) + size (Fork k one two) ≤ suc n → IsReduced k (Fork k one two) → Agree bound (Fork dim left right) (Fork k one two) → Fork dim left right ≡ Fork k one two in
        subst P e (λ a b c. beside dim left right one two a (from_own from dim left right t) b c) le (from_own from own one two o) agree
    two_forks from dim own left right one two le t o agree (inr (inl lt)) = absurd (apart dim left right (Fork own one two) le (from_own from dim left right t) (from_before from own dim one two lt o) agree)
    two_forks from dim own left right one two le t o agree (inr (inr lt)) =
        absurd (apart own one two (Fork dim left right) (omega arith) (from_own from own one two o) (from_before from dim own left right lt t) (λ d long. sym (agree d long)))

    step : (from : ℕ) (one other : Tree) → size one + size other ≤ suc n → IsReduced from one → IsReduced from other → Agree bound one other → one ≡ other
    step from (Tip value) (Tip own) le t u agree = ap Tip (agree (replicate bound Left) (length-replicate bound Left))
    step from (Fork dim left right) (Tip own) le t u agree = absurd (apart dim left right (Tip own) le (from_own from dim left right t) (tt, tt) agree)
    step from (Tip value) (Fork dim left right) le t u agree = absurd (apart dim left right (Tip value) (omega arith) (from_own from dim left right u) (tt, tt) (λ d long. sym (agree d long)))
    step from (Fork dim left right) (Fork own one two) le t u agree = two_forks from dim own left right one two le t u agree (cases_order dim own)

  agree_same : (n from : ℕ) (one other : Tree) → size one + size other ≤ n → IsReduced from one → IsReduced from other → Agree bound one other → one ≡ other
  agree_same zero from one other le a b agree = absurd (omega (arith, size-some one))
  agree_same (suc n) from one other le a b agree = step n (agree_same n) from one other le a b agree

-- ---- the diagrams of a table

module _ (bound : ℕ) (entries : List Entry) (numbers : BTreeMap Entry ℕ) (table : IsTable bound entries numbers) where
  entry_at : (id : ℕ) → id < length entries → (entry : Entry) × (slice_get entries id ≡ Some entry)
  entry_at id within = (_, slice_get-get_or entries id (Leaf 0) within)

  stands : (id : ℕ) (entry : Entry) → slice_get entries id ≡ Some entry → tree_at entries id ≡ tree_of (tree_at entries) (Some entry)
  stands id entry is = (stands_for bound entries numbers table id entry is).is

  -- the first entry stands under no other number
  first_alone : (id : ℕ) (entry : Entry) → slice_get entries 0 ≡ Some entry → slice_get entries id ≡ Some entry → id ≡ 0
  first_alone id entry a b =
      let value : entry ≡ Leaf 0 = same_Some entry (Leaf 0) (sym a ∙ table.first) in
      subst (IsEntry bound entries id) value (table.sound id entry b) refl

  one_number : (one other : ℕ) (entry : Entry) → slice_get entries one ≡ Some entry → slice_get entries other ≡ Some entry → one ≡ other
  one_number zero other entry a b = sym (first_alone other entry a b)
  one_number (suc one) zero entry a b = first_alone (suc one) entry b a
  one_number (suc one) (suc other) entry a b = same_Some (suc one) (suc other) (sym (table.every one entry a) ∙ table.every other entry b)

  record IsChoiceOf (entry : Entry) (dim : ℕ) (left right : Tree) : Type 0 where
    one : ℕ
    two : ℕ
    is : entry ≡ Choice dim one two
    left_is : tree_at entries one ≡ left
    right_is : tree_at entries two ≡ right

  tip_entry : (id value : ℕ) (entry : Entry) → slice_get entries id ≡ Some entry → tree_at entries id ≡ Tip value → entry ≡ Leaf value
  tip_entry id value (Leaf own) is e = let h = sym (stands id (Leaf own) is) ∙ e in let v : own ≡ value = cc in ap Leaf v
  tip_entry id value (Choice dim left right) is e = let h = sym (stands id (Choice dim left right) is) ∙ e in absurd cc

  fork_entry : (id dim : ℕ) (left right : Tree) (entry : Entry) → slice_get entries id ≡ Some entry → tree_at entries id ≡ Fork dim left right → IsChoiceOf entry dim left right
  fork_entry id dim left right (Leaf own) is e = let h = sym (stands id (Leaf own) is) ∙ e in absurd cc
  fork_entry id dim left right (Choice own one two) is e =
      let h = sym (stands id (Choice own one two) is) ∙ e in
      let d : own ≡ dim = cc in
      record { one = one; two = two; is = ap (λ k. Choice k one two) d; left_is = cc; right_is = cc }

  choice_at : (id : ℕ) (entry : Entry) (dim left right : ℕ) → slice_get entries id ≡ Some entry → entry ≡ Choice dim left right → IsChoice bound entries id dim left right
  choice_at id entry dim left right is same = subst (IsEntry bound entries id) same (table.sound id entry is)

  one_entry : (one other : ℕ) (mine own : Entry) → slice_get entries one ≡ Some mine → slice_get entries other ≡ Some own → mine ≡ own → one ≡ other
  one_entry one other mine own a b same = one_number one other own (a ∙ ap Some same) b

  -- a diagram stands under one number
  same_tree : (tree : Tree) (one other : ℕ) → one < length entries → other < length entries → tree_at entries one ≡ tree → tree_at entries other ≡ tree → one ≡ other
  same_tree (Tip value) one other a b e f =
      let x = entry_at one a in
      let y = entry_at other b in
      one_entry one other x.0 y.0 x.1 y.1 (tip_entry one value x.0 x.1 e ∙ sym (tip_entry other value y.0 y.1 f))
  same_tree (Fork dim left right) one other a b e f =
      let x = entry_at one a in
      let y = entry_at other b in
      let p = fork_entry one dim left right x.0 x.1 e in
      let q = fork_entry other dim left right y.0 y.1 f in
      let c = choice_at one x.0 dim p.one p.two x.1 p.is in
      let d = choice_at other y.0 dim q.one q.two y.1 q.is in
      let l = same_tree left p.one q.one (omega (arith, c.left_in)) (omega (arith, d.left_in)) p.left_is q.left_is in
      let r = same_tree right p.two q.two (omega (arith, c.right_in)) (omega (arith, d.right_in)) p.right_is q.right_is in
      one_entry one other x.0 y.0 x.1 y.1 (p.is ∙ (λ i. Choice dim (l i) (r i)) ∙ sym q.is)

  proper : (tree : Tree) (id : ℕ) → id < length entries → tree_at entries id ≡ tree → IsProper tree
  proper (Tip value) id a e = tt
  proper (Fork dim left right) id a e =
      let x = entry_at id a in
      let p = fork_entry id dim left right x.0 x.1 e in
      let c = choice_at id x.0 dim p.one p.two x.1 p.is in
      let l : p.one < length entries = omega (arith, c.left_in) in
      let r : p.two < length entries = omega (arith, c.right_in) in
      (λ same. c.differ (same_tree left p.one p.two l r p.left_is (p.right_is ∙ sym same)), proper left p.one l p.left_is, proper right p.two r p.right_is)

  ordered : (tree : Tree) (id : ℕ) → id < length entries → tree_at entries id ≡ tree → IsOrdered bound 0 tree
  ordered (Tip value) id a e = tt
  ordered (Fork dim left right) id a e =
      let x = entry_at id a in
      let p = fork_entry id dim left right x.0 x.1 e in
      let c = choice_at id x.0 dim p.one p.two x.1 p.is in
      (omega arith, c.below, subst (IsOrdered bound (dim + 1)) p.left_is c.left_ordered, subst (IsOrdered bound (dim + 1)) p.right_is c.right_ordered)

  pub ordered_at : (id : ℕ) → id < length entries → IsOrdered bound 0 (tree_at entries id)
  ordered_at id within = ordered (tree_at entries id) id within refl

  -- two numbers are one where their diagrams have one value at each decision
  pub one_id : (one other : ℕ) → one < length entries → other < length entries → Agree bound (tree_at entries one) (tree_at entries other) → one ≡ other
  one_id one other a b agree =
      let t = tree_at entries one in
      let u = tree_at entries other in
      let same : t ≡ u = agree_same bound (size t + size u) 0 t u (omega arith) (ordered t one a refl, proper t one a refl) (ordered u other b refl, proper u other b refl) agree in
      same_tree u one other a b same refl
