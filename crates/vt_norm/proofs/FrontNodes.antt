use Rattle.std.proofs.Common.{◌≡◌, ℕ, inl, inr, List, Some, refl, ap, subst, sym, ◌∙◌}
use Rattle.vt_dec.specs.declared.side.Side.{Side}
use Rattle.vt_dec.specs.declared.side.Side.TheVariants.{Left, Right}
use Rattle.vt_type.specs.Variational.{by_side}
use Rattle.vt_norm.specs.declared.front.Front.{Front, Node}
use Rattle.vt_norm.specs.declared.front.Front.TheBlock as block
use Rattle.vt_norm.specs.Sides.{taken_side}
use Rattle.vt_norm.specs.Fronts.{node, spot_at, HaveCells, IsJoinedFront}

-- A node of a front, as code makes and matches it.
pub front_node_here : (dim : ℕ) (left right : Front) → Node dim left right ≡ node dim left right
unfolding block.shape-the_row-Front-0 block.hidden-the_row-Front-0 denote.Hole.Carrier.hidden
front_node_here dim left right = refl

pub front_node_is : (dim : ℕ) (one left other right : Front) → one ≡ left → other ≡ right → Node dim one other ≡ node dim left right
front_node_is dim one left other right e f = rw (e, f) (front_node_here dim left right)

-- what stands at a node that code has matched
pub spot-node : (front : Front) (dim : ℕ) (left right : Front) → front ≡ Node dim left right → (d : List Side) → spot_at d front ≡ by_side (Some (taken_side d dim)) (spot_at d left) (spot_at d right)
spot-node front dim left right is d = ap (spot_at d) (is ∙ front_node_here dim left right)

pub cells-node : (count : ℕ) (front : Front) (dim : ℕ) (left right : Front) → front ≡ Node dim left right → HaveCells count front → HaveCells count left × HaveCells count right
cells-node count front dim left right is h = subst (HaveCells count) (is ∙ front_node_here dim left right) h

both_sides : {A : Type 0} (side : Side) (x : A) → x ≡ by_side (Some side) x x
both_sides Left x = refl
both_sides Right x = refl

-- what stands at a join
pub spot-joined : (dim : ℕ) (left right front : Front) → IsJoinedFront dim left right front → (d : List Side) → spot_at d front ≡ by_side (Some (taken_side d dim)) (spot_at d left) (spot_at d right)
spot-joined dim left right front (inl is) d = ap (spot_at d) is
spot-joined dim left right front (inr (is, same)) d = ap (spot_at d) is ∙ both_sides (taken_side d dim) (spot_at d left) ∙ ap (λ other. by_side (Some (taken_side d dim)) (spot_at d left) (spot_at d other)) same

pub cells-joined : (count dim : ℕ) (left right front : Front) → IsJoinedFront dim left right front → HaveCells count left → HaveCells count right → HaveCells count front
cells-joined count dim left right front (inl is) h k = subst (HaveCells count) (sym is) (h, k)
cells-joined count dim left right front (inr (is, same)) h k = subst (HaveCells count) (sym is) h
