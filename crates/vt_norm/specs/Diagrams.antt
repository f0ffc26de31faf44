use Rattle.std.specs.Prelude.{◌≡◌, ℕ, ◌==◌, nat_lt, min, Bool, true, false, IsTrue, not, cond, ◌&&◌, ◌||◌, ◌⊎◌, if◌then◌else◌, Option, Some, None}
use Rattle.std.specs.Str.{bytes_eq}
use Rattle.vt_dec.specs.declared.side.Side.{Side}
use Rattle.vt_dec.specs.declared.side.Side.TheVariants.{Left, Right}
use Rattle.vt_type.specs.declared.head.Head.{Head}
use Rattle.vt_type.specs.declared.head.Head.TheVariants.{Int, Text, Pair, Fun, Data}
use Rattle.vt_type.specs.declared.head.Head.TheVariants as head
use Rattle.vt_type.specs.declared.vtype.VType.{VType, Var, Con, Err}
use Rattle.vt_type.specs.declared.vtype.VKids.{VKids, Nil}
use Rattle.vt_type.specs.Plain.{arity}
use Rattle.vt_type.specs.Variational.{vkids_of, choice, by_side, HasError}
use Rattle.vt_type.specs.NormalForm.{Root}
use Rattle.vt_type.specs.NormalForm as form
use Rattle.vt_norm.specs.declared.root.Top.{Top}
use Rattle.vt_norm.specs.declared.root.Top.TheVariants.{Made, Named, Wrong}
use Rattle.vt_norm.specs.declared.diagram.Diagram.{Diagram, Leaf, Node', end_of-Diagram, more_of-Diagram}

-- The root of a type as a tree of decisions: a node asks for the side of a dimension, a leaf has the
-- root. No dimension is asked twice on a way down.

-- a node between two diagrams
pattern abbrev pub node : ℕ → Diagram → Diagram → Diagram
node dim left right = Node' dim tt (more_of-Diagram left end_of-Diagram) tt (more_of-Diagram right end_of-Diagram)

-- the root of a well-formed type: a head has as many children as its arity
abbrev pub shown : Top → Root
shown (Made top) = form.Made top (arity top)
shown (Named name) = form.Named name
shown Wrong = form.Wrong

-- the leaf that is come to by the sides of all dimensions
abbrev pub at : (ℕ → Side) → Diagram → Top
at sides (Leaf top) = top
at sides (node dim left right) = by_side (Some (sides dim)) (at sides left) (at sides right)

-- the dimension is asked in the diagram
abbrev pub Asks : ℕ → Diagram → Type 0
Asks dim (Leaf top) = ⊥
Asks dim (node other left right) = (dim ≡ other) ⊎ (Asks dim left ⊎ Asks dim right)

-- no dimension is asked twice on a way down
abbrev pub AsksOnce : Diagram → Type 0
AsksOnce (Leaf top) = Unit {0}
AsksOnce (node dim left right) = (Asks dim left → ⊥) × (Asks dim right → ⊥) × AsksOnce left × AsksOnce right

-- the diagram where a dimension takes a side
abbrev pub taking : ℕ → Side → Diagram → Diagram
taking dim side (Leaf top) = Leaf top
taking dim side (node other left right) =
    if other == dim
    then by_side (Some side) (taking dim side left) (taking dim side right)
    else node other (taking dim side left) (taking dim side right)

-- heads by the order in which they are declared
abbrev pub head_kind : Head → ℕ
head_kind Int = 0
head_kind head.Bool = 1
head_kind Text = 2
head_kind head.List = 3
head_kind Pair = 4
head_kind Fun = 5
head_kind (Data number parameters) = 6

-- the number of a declared type
abbrev pub head_number : Head → ℕ
head_number (Data number parameters) = number
head_number other = 0

-- the heads are equal
abbrev pub same_head : Head → Head → Bool
same_head one other =
    (head_kind one == head_kind other) && ((head_number one == head_number other) && (arity one == arity other))

-- the roots are equal
abbrev pub same_top : Top → Top → Bool
same_top (Made one) (Made other) = same_head one other
same_top (Named one) (Named other) = bytes_eq one other
same_top Wrong Wrong = true
same_top one other = false

-- some leaf has another root than this one
abbrev pub has_other : Top → Diagram → Bool
has_other top (Leaf other) = not (same_top top other)
has_other top (node dim left right) = has_other top left || has_other top right

-- the two come to different roots somewhere
abbrev pub differ : Diagram → Diagram → Bool
differ (Leaf top) other = has_other top other
differ (node dim left right) other = differ left (taking dim Left other) || differ right (taking dim Right other)

-- the lesser of two dimensions, where there are any
abbrev pub lesser : Option ℕ → Option ℕ → Option ℕ
lesser None other = other
lesser (Some one) None = Some one
lesser (Some one) (Some other) = Some (min one other)

-- there is a dimension, and it is less than the other
abbrev pub is_below : Option ℕ → ℕ → Bool
is_below None other = false
is_below (Some one) other = nat_lt one other

-- the least dimension on which the root depends
abbrev pub least : Diagram → Option ℕ
least (Leaf top) = None
least (node dim left right) = lesser (cond (differ left right) (Some dim) None) (lesser (least left) (least right))

-- the leaf on the left
abbrev pub first : Diagram → Top
first (Leaf top) = top
first (node dim left right) = first left

-- both are leaves with one root
abbrev pub are_one_leaf : Diagram → Diagram → Bool
are_one_leaf (Leaf one) (Leaf other) = same_top one other
are_one_leaf left right = false

-- a node, unless both sides are one leaf
abbrev pub joined : ℕ → Diagram → Diagram → Diagram
joined dim (Leaf one) (Leaf other) = if same_top one other then Leaf one else node dim (Leaf one) (Leaf other)
joined dim left right = node dim left right

-- the error where the first diagram has it, the second diagram elsewhere
abbrev pub guarded : Diagram → Diagram → Diagram
guarded (Leaf Wrong) rest = Leaf Wrong
guarded (Leaf top) rest = rest
guarded (node dim left right) rest = joined dim (guarded left (taking dim Left rest)) (guarded right (taking dim Right rest))

-- The diagram of the root of a type. An error below a constructor makes the whole the error; it is
-- looked for only where the first argument says that there may be one.
abbrev mutual
  pub diagram : Bool → VType → Diagram
  diagram careful (Var name) = Leaf (Named name)
  diagram careful (Con top kids) = cond careful (guarded_by kids (Leaf (Made top))) (Leaf (Made top))
  diagram careful (choice dim left right) = node dim (taking dim Left (diagram careful left)) (taking dim Right (diagram careful right))
  diagram careful Err = Leaf Wrong

  pub guarded_by : VKids → Diagram → Diagram
  guarded_by Nil rest = rest
  guarded_by (vkids_of kid kids) rest = guarded (diagram true kid) (guarded_by kids rest)

-- an error is looked for where one stands in the type
abbrev pub IsCarefulOf : Bool → VType → Type 0
IsCarefulOf careful type = HasError type → IsTrue careful
