use Rattle.std.proofs.Common.{ℕ, zero, suc, ◌+◌, ◌<◌, List, [], ◌∷◌, ◌++◌, length, get_or, All, AllPairs, subst, length-append, arith}
use Rattle.std.proofs.lemmas.List.{get_or_append_left, get_or-append-add}
use Rattle.vt_syntax.specs.declared.core_expr.Form.{Form, Literal, Name, Const, Hole}
use Rattle.vt_syntax.specs.CoreTrees.{fun_of, app_of, let_of, let_rec_of, choice_of}
use Rattle.vt_syntax.specs.Checking.{numbers, Rise}

-- What the numbers of an expression's nodes say of its parts.

-- something holds of the numbers of all nodes
abbrev pub AllNodes : (ℕ → Type 0) → ℕ → Form → Type 0
AllNodes P node (Literal literal) = P node
AllNodes P node (Name distance) = P node
AllNodes P node (Const id) = P node
AllNodes P node Hole = P node
AllNodes P node (fun_of n at body) = P node × AllNodes P n body
AllNodes P node (app_of n at function m by argument) = P node × AllNodes P n function × AllNodes P m argument
AllNodes P node (let_of n at bound m by body) = P node × AllNodes P n bound × AllNodes P m body
AllNodes P node (let_rec_of name name_at n at bound m by body) = P node × AllNodes P n bound × AllNodes P m body
AllNodes P node (choice_of dim n at left m by right) = P node × AllNodes P n left × AllNodes P m right

-- a node comes after its parts, but a `let` or `let rec` before its body
abbrev pub InOrder : ℕ → Form → Type 0
InOrder node (Literal literal) = Unit {0}
InOrder node (Name distance) = Unit {0}
InOrder node (Const id) = Unit {0}
InOrder node Hole = Unit {0}
InOrder node (fun_of n at body) = AllNodes (λ m. m < node) n body × InOrder n body
InOrder node (app_of n at function m by argument) =
    AllNodes (λ i. i < node) n function × AllNodes (λ i. i < node) m argument × InOrder n function × InOrder m argument
InOrder node (let_of n at bound m by body) =
    AllNodes (λ i. i < node) n bound × AllNodes (λ i. node < i) m body × InOrder n bound × InOrder m body
InOrder node (let_rec_of name name_at n at bound m by body) =
    AllNodes (λ i. i < node) n bound × AllNodes (λ i. node < i) m body × InOrder n bound × InOrder m body
InOrder node (choice_of dim n at left m by right) = Unit {0}

-- the parts of lists
module _ (P : ℕ → Type 0) (xs ys : List ℕ) where
  pub All-left : All P (xs ++ ys) → All P xs
  All-left h i d within = subst P (get_or_append_left xs ys d i within) (h i d (omega (arith, length-append xs ys)))

  pub All-right : All P (xs ++ ys) → All P ys
  All-right h i d within = subst P (get_or-append-add xs ys i d) (h (length xs + i) d (omega (arith, length-append xs ys)))

pub All-head : (P : ℕ → Type 0) (x : ℕ) (xs : List ℕ) → All P (x ∷ xs) → P x
All-head P x xs h = h 0 x (omega arith)

pub All-tail : (P : ℕ → Type 0) (x : ℕ) (xs : List ℕ) → All P (x ∷ xs) → All P xs
All-tail P x xs h i d within = h (suc i) d (omega arith)

module _ (R : ℕ → ℕ → Type 0) where
  pub Pairs-left : (xs ys : List ℕ) → AllPairs R (xs ++ ys) → AllPairs R xs
  Pairs-left xs ys h i j d less within =
      let le : i < length xs = omega arith in
      subst (λ y. R (get_or xs i d) y) (get_or_append_left xs ys d j within)
      (subst (λ x. R x (get_or (xs ++ ys) j d)) (get_or_append_left xs ys d i le) (h i j d less (omega (arith, length-append xs ys))))

  pub Pairs-right : (xs ys : List ℕ) → AllPairs R (xs ++ ys) → AllPairs R ys
  Pairs-right xs ys h i j d less within =
      subst (λ y. R (get_or ys i d) y) (get_or-append-add xs ys j d)
      (subst (λ x. R x (get_or (xs ++ ys) (length xs + j) d)) (get_or-append-add xs ys i d) (h (length xs + i) (length xs + j) d (omega arith) (omega (arith, length-append xs ys))))

  pub Pairs-head : (x : ℕ) (xs : List ℕ) → AllPairs R (x ∷ xs) → All (R x) xs
  Pairs-head x xs h i d within = h 0 (suc i) d (omega arith) (omega arith)

  -- each of the first before the one that follows them
  pub Pairs-before : (xs ys : List ℕ) (y : ℕ) → AllPairs R (xs ++ y ∷ ys) → All (λ x. R x y) xs
  Pairs-before [] ys y h i d within = absurd (omega arith)
  Pairs-before (x ∷ xs) ys y h zero d within = All-head (R x) y ys (All-right (R x) xs (y ∷ ys) (Pairs-head x (xs ++ y ∷ ys) h))
  Pairs-before (x ∷ xs) ys y h (suc i) d within = Pairs-before xs ys y (Pairs-right (x ∷ []) (xs ++ y ∷ ys) h) i d (omega arith)

-- the same of lists and of nodes
pub all_nodes : (P : ℕ → Type 0) (node : ℕ) (form : Form) → All P (numbers node form) → AllNodes P node form
all_nodes P node (Literal literal) h = All-head P node [] h
all_nodes P node (Name distance) h = All-head P node [] h
all_nodes P node (Const id) h = All-head P node [] h
all_nodes P node Hole h = All-head P node [] h
all_nodes P node (fun_of n at body) h =
    (All-head P node [] (All-right P (numbers n body) (node ∷ []) h), all_nodes P n body (All-left P (numbers n body) (node ∷ []) h))
all_nodes P node (app_of n at function m by argument) h =
    let both = All-left P (numbers n function ++ numbers m argument) (node ∷ []) h in (
      All-head P node [] (All-right P (numbers n function ++ numbers m argument) (node ∷ []) h),
      all_nodes P n function (All-left P (numbers n function) (numbers m argument) both),
      all_nodes P m argument (All-right P (numbers n function) (numbers m argument) both),
    )
all_nodes P node (let_of n at bound m by body) h =
    let rest = All-right P (numbers n bound) (node ∷ numbers m body) h in
    (All-head P node (numbers m body) rest, all_nodes P n bound (All-left P (numbers n bound) (node ∷ numbers m body) h), all_nodes P m body (All-tail P node (numbers m body) rest))
all_nodes P node (let_rec_of name name_at n at bound m by body) h =
    let rest = All-right P (numbers n bound) (node ∷ numbers m body) h in
    (All-head P node (numbers m body) rest, all_nodes P n bound (All-left P (numbers n bound) (node ∷ numbers m body) h), all_nodes P m body (All-tail P node (numbers m body) rest))
all_nodes P node (choice_of dim n at left m by right) h =
    let both = All-left P (numbers n left ++ numbers m right) (node ∷ []) h in (
      All-head P node [] (All-right P (numbers n left ++ numbers m right) (node ∷ []) h),
      all_nodes P n left (All-left P (numbers n left) (numbers m right) both),
      all_nodes P m right (All-right P (numbers n left) (numbers m right) both),
    )

-- a binding between its two parts
module _ (node n m : ℕ) (bound body : Form) (h : Rise (numbers n bound ++ node ∷ numbers m body)) where
  bound_before : AllNodes (λ i. i < node) n bound
  bound_before = all_nodes (λ i. i < node) n bound (Pairs-before (λ i j. i < j) (numbers n bound) (numbers m body) node h)

  rest_rises : Rise (node ∷ numbers m body)
  rest_rises = Pairs-right (λ i j. i < j) (numbers n bound) (node ∷ numbers m body) h

  body_after : AllNodes (λ i. node < i) m body
  body_after = all_nodes (λ i. node < i) m body (Pairs-head (λ i j. i < j) node (numbers m body) rest_rises)

  bound_rises : Rise (numbers n bound)
  bound_rises = Pairs-left (λ i j. i < j) (numbers n bound) (node ∷ numbers m body) h

  body_rises : Rise (numbers m body)
  body_rises = Pairs-right (λ i j. i < j) (node ∷ []) (numbers m body) rest_rises

pub in_order : (node : ℕ) (form : Form) → Rise (numbers node form) → InOrder node form
in_order node (Literal literal) h = tt
in_order node (Name distance) h = tt
in_order node (Const id) h = tt
in_order node Hole h = tt
in_order node (fun_of n at body) h =
    (all_nodes (λ i. i < node) n body (Pairs-before (λ i j. i < j) (numbers n body) [] node h), in_order n body (Pairs-left (λ i j. i < j) (numbers n body) (node ∷ []) h))
in_order node (app_of n at function m by argument) h =
    let R = λ (i j : ℕ). i < j in
    let parts = Pairs-left R (numbers n function ++ numbers m argument) (node ∷ []) h in
    let both = Pairs-before R (numbers n function ++ numbers m argument) [] node h in (
      all_nodes (λ i. i < node) n function (All-left (λ i. i < node) (numbers n function) (numbers m argument) both),
      all_nodes (λ i. i < node) m argument (All-right (λ i. i < node) (numbers n function) (numbers m argument) both),
      in_order n function (Pairs-left R (numbers n function) (numbers m argument) parts),
      in_order m argument (Pairs-right R (numbers n function) (numbers m argument) parts),
    )
in_order node (let_of n at bound m by body) h =
    (bound_before node n m bound body h, body_after node n m bound body h, in_order n bound (bound_rises node n m bound body h), in_order m body (body_rises node n m bound body h))
in_order node (let_rec_of name name_at n at bound m by body) h =
    (bound_before node n m bound body h, body_after node n m bound body h, in_order n bound (bound_rises node n m bound body h), in_order m body (body_rises node n m bound body h))
in_order node (choice_of dim n at left m by right) h = tt
