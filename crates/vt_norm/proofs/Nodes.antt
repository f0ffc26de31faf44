use Rattle.std.proofs.Common.{◌≡◌, ◌≢◌, ℕ, zero, suc, ◌-◌, ◌==◌, Bool, true, false, ◌||◌, cond, Option, Some, None, refl, sym, ap, ◌∙◌, arith}
use Rattle.std.proofs.lemmas.Bool.{ltb-true, ltb-false}
use Rattle.vt_dec.specs.declared.side.Side.{Side}
use Rattle.vt_dec.specs.declared.side.Side.TheVariants.{Left, Right}
use Rattle.vt_type.specs.declared.vtype.VType.{VType, Choice}
use Rattle.vt_type.specs.declared.vtype.VKids.{VKids, More}
use Rattle.vt_type.specs.Variational.{vkids_of, choice, by_side}
use Rattle.vt_type.proofs.Makers.{choice_here, vmore_here}
use Rattle.vt_norm.specs.declared.root.Top.{Top}
use Rattle.vt_norm.specs.declared.diagram.Diagram.{Diagram, Node}
use Rattle.vt_norm.specs.declared.diagram.Diagram.TheBlock as block
use Rattle.vt_norm.specs.Parts.{restricted, kids_restricted, vkid_at, kid}
use Rattle.vt_norm.specs.Diagrams.{node, taking, has_other, differ, lesser, is_below, least, first, joined, guarded, diagram, guarded_by}

-- Definitions at a node that the code has matched.

pub node_here : (dim : ℕ) (left right : Diagram) → Node dim left right ≡ node dim left right
unfolding block.shape-the_row-Diagram-0 block.hidden-the_row-Diagram-0 denote.Hole.Carrier.hidden
node_here dim left right = refl

pub node_is : (dim : ℕ) (one left other right : Diagram) → one ≡ left → other ≡ right → Node dim one other ≡ node dim left right
node_is dim one left other right e f = rw (e, f) (node_here dim left right)

pub first-node : (tree : Diagram) (dim : ℕ) (left right : Diagram) → tree ≡ Node dim left right → first tree ≡ first left
first-node tree dim left right is = ap first (is ∙ node_here dim left right)

pub has_other-node : (top : Top) (tree : Diagram) (dim : ℕ) (left right : Diagram) → tree ≡ Node dim left right → has_other top tree ≡ (has_other top left || has_other top right)
has_other-node top tree dim left right is = ap (has_other top) (is ∙ node_here dim left right)

side-left : {A : Type 0} (side : Side) (left right : A) → side ≡ Left → by_side (Some side) left right ≡ left
side-left side left right e = ap (λ s. by_side (Some s) left right) e

side-right : {A : Type 0} (side : Side) (left right : A) → side ≡ Right → by_side (Some side) left right ≡ right
side-right side left right e = ap (λ s. by_side (Some s) left right) e

taking-node : (dim : ℕ) (side : Side) (tree : Diagram) (other : ℕ) (left right : Diagram) (test : Bool) → tree ≡ Node other left right → test ≡ (other == dim) → taking dim side tree ≡ cond test (by_side (Some side) (taking dim side left) (taking dim side right)) (node other (taking dim side left) (taking dim side right))
taking-node dim side tree other left right test is e =
    ap (taking dim side) (is ∙ node_here other left right)
    ∙ ap (λ t. cond t (by_side (Some side) (taking dim side left) (taking dim side right)) (node other (taking dim side left) (taking dim side right))) (sym e)

pub taking-left : (dim : ℕ) (side : Side) (tree : Diagram) (other : ℕ) (left right : Diagram) → tree ≡ Node other left right → true ≡ (other == dim) → side ≡ Left → taking dim side tree ≡ taking dim side left
taking-left dim side tree other left right is e s = taking-node dim side tree other left right true is e ∙ side-left side _ _ s

pub taking-right : (dim : ℕ) (side : Side) (tree : Diagram) (other : ℕ) (left right : Diagram) → tree ≡ Node other left right → true ≡ (other == dim) → side ≡ Right → taking dim side tree ≡ taking dim side right
taking-right dim side tree other left right is e s = taking-node dim side tree other left right true is e ∙ side-right side _ _ s

pub taking-other : (dim : ℕ) (side : Side) (tree : Diagram) (other : ℕ) (left right : Diagram) → tree ≡ Node other left right → false ≡ (other == dim) → taking dim side tree ≡ node other (taking dim side left) (taking dim side right)
taking-other dim side tree other left right is e = taking-node dim side tree other left right false is e

pub differ-node : (tree other : Diagram) (dim : ℕ) (left right : Diagram) → tree ≡ Node dim left right → differ tree other ≡ (differ left (taking dim Left other) || differ right (taking dim Right other))
differ-node tree other dim left right is = ap (λ t. differ t other) (is ∙ node_here dim left right)

least-node : (tree : Diagram) (dim : ℕ) (left right : Diagram) (test : Bool) → tree ≡ Node dim left right → differ left right ≡ test → least tree ≡ lesser (cond test (Some dim) None) (lesser (least left) (least right))
least-node tree dim left right test is e =
    ap least (is ∙ node_here dim left right) ∙ ap (λ t. lesser (cond t (Some dim) None) (lesser (least left) (least right))) e

lesser-below : (test : Bool) (dim : ℕ) (below : Option ℕ) → is_below below dim ≡ true → lesser (cond test (Some dim) None) below ≡ below
lesser-below false dim below h = refl
lesser-below true dim None h = cc
lesser-below true dim (Some least) h = ap Some (omega (arith, ltb-true least dim h))

lesser-own : (dim : ℕ) (below : Option ℕ) → is_below below dim ≡ false → lesser (Some dim) below ≡ Some dim
lesser-own dim None h = refl
lesser-own dim (Some least) h = ap Some (omega (arith, ltb-false least dim h))

pub least-below : (tree : Diagram) (dim : ℕ) (left right : Diagram) → tree ≡ Node dim left right → is_below (lesser (least left) (least right)) dim ≡ true → least tree ≡ lesser (least left) (least right)
least-below tree dim left right is h = least-node tree dim left right _ is refl ∙ lesser-below (differ left right) dim _ h

pub least-same : (tree : Diagram) (dim : ℕ) (left right : Diagram) → tree ≡ Node dim left right → differ left right ≡ false → least tree ≡ lesser (least left) (least right)
least-same tree dim left right is e = least-node tree dim left right false is e

pub least-own : (tree : Diagram) (dim : ℕ) (left right : Diagram) → tree ≡ Node dim left right → is_below (lesser (least left) (least right)) dim ≡ false → differ left right ≡ true → least tree ≡ Some dim
least-own tree dim left right is h e = least-node tree dim left right true is e ∙ lesser-own dim _ h

pub guarded-node : (tree rest : Diagram) (dim : ℕ) (left right : Diagram) → tree ≡ Node dim left right → guarded tree rest ≡ joined dim (guarded left (taking dim Left rest)) (guarded right (taking dim Right rest))
guarded-node tree rest dim left right is = ap (λ t. guarded t rest) (is ∙ node_here dim left right)

restricted-choice : (dim : ℕ) (side : Side) (type : VType) (other : ℕ) (left right : VType) (test : Bool) → type ≡ Choice other left right → test ≡ (other == dim) → restricted dim side type ≡ cond test (by_side (Some side) (restricted dim side left) (restricted dim side right)) (choice other (restricted dim side left) (restricted dim side right))
restricted-choice dim side type other left right test is e =
    ap (restricted dim side) (is ∙ choice_here other left right)
    ∙ ap (λ t. cond t (by_side (Some side) (restricted dim side left) (restricted dim side right)) (choice other (restricted dim side left) (restricted dim side right))) (sym e)

pub restricted-left : (dim : ℕ) (side : Side) (type : VType) (other : ℕ) (left right : VType) → type ≡ Choice other left right → true ≡ (other == dim) → side ≡ Left → restricted dim side type ≡ restricted dim side left
restricted-left dim side type other left right is e s = restricted-choice dim side type other left right true is e ∙ side-left side _ _ s

pub restricted-right : (dim : ℕ) (side : Side) (type : VType) (other : ℕ) (left right : VType) → type ≡ Choice other left right → true ≡ (other == dim) → side ≡ Right → restricted dim side type ≡ restricted dim side right
restricted-right dim side type other left right is e s = restricted-choice dim side type other left right true is e ∙ side-right side _ _ s

pub restricted-other : (dim : ℕ) (side : Side) (type : VType) (other : ℕ) (left right : VType) → type ≡ Choice other left right → false ≡ (other == dim) → restricted dim side type ≡ choice other (restricted dim side left) (restricted dim side right)
restricted-other dim side type other left right is e = restricted-choice dim side type other left right false is e

pub kids_restricted-more : (dim : ℕ) (side : Side) (all : VKids) (one : VType) (others : VKids) → all ≡ More one others → kids_restricted dim side all ≡ vkids_of (restricted dim side one) (kids_restricted dim side others)
kids_restricted-more dim side all one others is = ap (kids_restricted dim side) (is ∙ vmore_here one others)

pub kid-choice : (number : ℕ) (type : VType) (dim : ℕ) (left right : VType) → type ≡ Choice dim left right → kid number type ≡ choice dim (kid number left) (kid number right)
kid-choice number type dim left right is = ap (kid number) (is ∙ choice_here dim left right)

pub vkid_at-first : (all : VKids) (one : VType) (others : VKids) (number : ℕ) → all ≡ More one others → number ≡ 0 → vkid_at all number ≡ Some one
vkid_at-first all one others number is e = rw (is ∙ vmore_here one others, e) refl

pub vkid_at-others : (all : VKids) (one : VType) (others : VKids) (number : ℕ) → all ≡ More one others → number ≢ 0 → vkid_at all number ≡ vkid_at others (number - 1)
vkid_at-others all one others zero is ne = absurd (ne refl)
vkid_at-others all one others (suc number) is ne = rw (is ∙ vmore_here one others) (ap (vkid_at others) (omega arith))

pub diagram-choice : (careful : Bool) (type : VType) (dim : ℕ) (left right : VType) → type ≡ Choice dim left right → diagram careful type ≡ node dim (taking dim Left (diagram careful left)) (taking dim Right (diagram careful right))
diagram-choice careful type dim left right is = ap (diagram careful) (is ∙ choice_here dim left right)

pub guarded_by-more : (all : VKids) (rest : Diagram) (one : VType) (others : VKids) → all ≡ More one others → guarded_by all rest ≡ guarded (diagram true one) (guarded_by others rest)
guarded_by-more all rest one others is = ap (λ k. guarded_by k rest) (is ∙ vmore_here one others)
