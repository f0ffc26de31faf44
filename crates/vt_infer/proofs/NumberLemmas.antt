use Rattle.std.proofs.Common.{◌≡◌, ℕ, zero, suc, ◌≤◌, ◌<◌, List, [], ◌∷◌, ◌++◌, length, slice_get, Some, inl, inr, refl, sym, ap, subst, arith}
use Rattle.std.proofs.lemmas.Option.{slice_get_cases}
use Rattle.std.specs.List.{All}
use Rattle.vt_dec.specs.declared.side.Side.{Side}
use Rattle.vt_dec.specs.declared.side.Side.TheVariants.{Left, Right}
use Rattle.vt_lex.specs.declared.span.Span.{Span}
use Rattle.vt_syntax.specs.declared.core_expr.Core.{Core}
use Rattle.vt_syntax.specs.declared.core_expr.Form.{Form, Literal, Name, Const, Hole}
use Rattle.vt_syntax.specs.CoreTrees.{core, fun_of, app_of, let_of, let_rec_of, choice_of, choice_form}
use Rattle.vt_syntax.specs.Checking.{numbers, Rise}
use Rattle.vt_syntax.specs.Scoping.{HasDims}
use Rattle.vt_syntax.specs.Selection.{chosen, selected_form, IsPlainForm, core_at}
use Rattle.vt_rules.proofs.InOrder.{AllNodes, All-left, All-right, All-head, All-tail, Pairs-left, Pairs-right, Pairs-head, Pairs-before}
use Rattle.vt_rules.proofs.NodesAbove.{weaker}
use Rattle.vt_infer.specs.Numbered.{IsNumbered}

-- What the numbers of the nodes of a form say.

-- the root's own number
pub numbered-within : (first node : ℕ) (form : Form) (last : ℕ) → IsNumbered first node form last → (first ≤ node) × (node < last)
numbered-within first node (Literal literal) last h = h
numbered-within first node (Name distance) last h = h
numbered-within first node (Const id) last h = h
numbered-within first node Hole last h = h
numbered-within first node (fun_of n at body) last h = let f = numbered-within first n body node h.0 in (omega arith, h.1)
numbered-within first node (app_of n at function m by argument) last h =
    let f = numbered-within first n function h.0 h.1 in
    let g = numbered-within h.0 m argument node h.2 in
    (omega arith, h.3)
numbered-within first node (let_of n at bound m by body) last h =
    let f = numbered-within first n bound node h.0 in
    let g = numbered-within (suc node) m body last h.1 in
    (omega arith, omega arith)
numbered-within first node (let_rec_of name name_at n at bound m by body) last h =
    let f = numbered-within first n bound node h.0 in
    let g = numbered-within (suc node) m body last h.1 in
    (omega arith, omega arith)
numbered-within first node (choice_of dim n at left m by right) last h = absurd h

pub numbered-wider : (less first node : ℕ) (form : Form) (last more : ℕ) → less ≤ first → last ≤ more → IsNumbered first node form last → IsNumbered less node form more
numbered-wider less first node (Literal literal) last more le wide h = (omega arith, omega arith)
numbered-wider less first node (Name distance) last more le wide h = (omega arith, omega arith)
numbered-wider less first node (Const id) last more le wide h = (omega arith, omega arith)
numbered-wider less first node Hole last more le wide h = (omega arith, omega arith)
numbered-wider less first node (fun_of n at body) last more le wide h = (numbered-wider less first n body node node le (omega arith) h.0, omega (arith, h.1))
numbered-wider less first node (app_of n at function m by argument) last more le wide h =
    (h.0, numbered-wider less first n function h.0 h.0 le (omega arith) h.1, h.2, omega (arith, h.3))
numbered-wider less first node (let_of n at bound m by body) last more le wide h =
    (numbered-wider less first n bound node node le (omega arith) h.0, numbered-wider (suc node) (suc node) m body last more (omega arith) wide h.1)
numbered-wider less first node (let_rec_of name name_at n at bound m by body) last more le wide h =
    (numbered-wider less first n bound node node le (omega arith) h.0, numbered-wider (suc node) (suc node) m body last more (omega arith) wide h.1)
numbered-wider less first node (choice_of dim n at left m by right) last more le wide h = h

-- all nodes are among wider numbers
among : (first last less more : ℕ) (node : ℕ) (form : Form) → less ≤ first → last ≤ more
    → AllNodes (λ n. (first ≤ n) × (n < last)) node form → AllNodes (λ n. (less ≤ n) × (n < more)) node form
among first last less more node form le wide h =
    weaker (λ n. (first ≤ n) × (n < last)) (λ n. (less ≤ n) × (n < more)) (λ n r. (omega (arith, r.0), omega (arith, r.1))) node form h

pub numbered-all : (first node : ℕ) (form : Form) (last : ℕ) → IsNumbered first node form last → AllNodes (λ n. (first ≤ n) × (n < last)) node form
numbered-all first node (Literal literal) last h = h
numbered-all first node (Name distance) last h = h
numbered-all first node (Const id) last h = h
numbered-all first node Hole last h = h
numbered-all first node (fun_of n at body) last h =
    (numbered-within first node (fun_of n at body) last h, among first node first last n body (omega arith) (omega (arith, h.1)) (numbered-all first n body node h.0))
numbered-all first node (app_of n at function m by argument) last h =
    let f = numbered-within first n function h.0 h.1 in
    let g = numbered-within h.0 m argument node h.2 in (
      numbered-within first node (app_of n at function m by argument) last h,
      among first h.0 first last n function (omega arith) (omega (arith, h.3)) (numbered-all first n function h.0 h.1),
      among h.0 node first last m argument (omega arith) (omega (arith, h.3)) (numbered-all h.0 m argument node h.2),
    )
numbered-all first node (let_of n at bound m by body) last h =
    let f = numbered-within first n bound node h.0 in
    let g = numbered-within (suc node) m body last h.1 in (
      numbered-within first node (let_of n at bound m by body) last h,
      among first node first last n bound (omega arith) (omega arith) (numbered-all first n bound node h.0),
      among (suc node) last first last m body (omega arith) (omega arith) (numbered-all (suc node) m body last h.1),
    )
numbered-all first node (let_rec_of name name_at n at bound m by body) last h =
    let f = numbered-within first n bound node h.0 in
    let g = numbered-within (suc node) m body last h.1 in (
      numbered-within first node (let_rec_of name name_at n at bound m by body) last h,
      among first node first last n bound (omega arith) (omega arith) (numbered-all first n bound node h.0),
      among (suc node) last first last m body (omega arith) (omega arith) (numbered-all (suc node) m body last h.1),
    )
numbered-all first node (choice_of dim n at left m by right) last h = absurd h

-- all nodes are within a number, or all are above it
pub numbered-up_to : (k first node : ℕ) (form : Form) (last : ℕ) → last ≤ suc k → IsNumbered first node form last → AllNodes (λ n. n ≤ k) node form
numbered-up_to k first node form last le h = weaker (λ n. (first ≤ n) × (n < last)) (λ n. n ≤ k) (λ n r. omega (arith, r.1)) node form (numbered-all first node form last h)

pub numbered-above : (k first node : ℕ) (form : Form) (last : ℕ) → k < first → IsNumbered first node form last → AllNodes (λ n. k < n) node form
numbered-above k first node form last less h = weaker (λ n. (first ≤ n) × (n < last)) (λ n. k < n) (λ n r. omega (arith, r.0)) node form (numbered-all first node form last h)

pub numbered-plain : (first node : ℕ) (form : Form) (last : ℕ) → IsNumbered first node form last → IsPlainForm form
numbered-plain first node (Literal literal) last h = tt
numbered-plain first node (Name distance) last h = tt
numbered-plain first node (Const id) last h = tt
numbered-plain first node Hole last h = tt
numbered-plain first node (fun_of n at body) last h = numbered-plain first n body node h.0
numbered-plain first node (app_of n at function m by argument) last h = (numbered-plain first n function h.0 h.1, numbered-plain h.0 m argument node h.2)
numbered-plain first node (let_of n at bound m by body) last h = (numbered-plain first n bound node h.0, numbered-plain (suc node) m body last h.1)
numbered-plain first node (let_rec_of name name_at n at bound m by body) last h = (numbered-plain first n bound node h.0, numbered-plain (suc node) m body last h.1)
numbered-plain first node (choice_of dim n at left m by right) last h = absurd h

-- the numbers of a form have a first one
starts : (node : ℕ) (form : Form) → (x : ℕ) × (xs : List ℕ) × (numbers node form ≡ x ∷ xs)
starts node (Literal literal) = (node, [], refl)
starts node (Name distance) = (node, [], refl)
starts node (Const id) = (node, [], refl)
starts node Hole = (node, [], refl)
starts node (fun_of n at body) = let (x, xs, e) = starts n body in (x, xs ++ node ∷ [], ap (λ ys. ys ++ node ∷ []) e)
starts node (app_of n at function m by argument) =
    let (x, xs, e) = starts n function in
    (x, xs ++ numbers m argument ++ node ∷ [], ap (λ ys. ys ++ numbers m argument ++ node ∷ []) e)
starts node (let_of n at bound m by body) = let (x, xs, e) = starts n bound in (x, xs ++ node ∷ numbers m body, ap (λ ys. ys ++ node ∷ numbers m body) e)
starts node (let_rec_of name name_at n at bound m by body) = let (x, xs, e) = starts n bound in (x, xs ++ node ∷ numbers m body, ap (λ ys. ys ++ node ∷ numbers m body) e)
starts node (choice_of dim n at left m by right) =
    let (x, xs, e) = starts n left in
    (x, xs ++ numbers m right ++ node ∷ [], ap (λ ys. ys ++ numbers m right ++ node ∷ []) e)

-- which is the least where they rise
rise-least : (x : ℕ) (xs : List ℕ) → Rise (x ∷ xs) → All (λ i. x ≤ i) (x ∷ xs)
rise-least x xs h zero d within = omega arith
rise-least x xs h (suc i) d within = omega (arith, Pairs-head (λ i j. i < j) x xs h i d (omega arith))

-- a number between two lists that rise together
between : (xs ys : List ℕ) (y : ℕ) (rest : List ℕ) → ys ≡ y ∷ rest → Rise (xs ++ ys) → All (λ i. i < y) xs × All (λ i. y ≤ i) ys
between xs ys y rest e h =
    let whole : Rise (xs ++ y ∷ rest) = rw e at h in
    (Pairs-before (λ i j. i < j) xs rest y whole, rw e (rise-least y rest (Pairs-right (λ i j. i < j) xs (y ∷ rest) whole)))

-- bounds of the numbers of a list
bounds : (less more : ℕ) (xs : List ℕ) → All (λ i. less ≤ i) xs → All (λ i. i < more) xs → All (λ i. (less ≤ i) × (i < more)) xs
bounds less more xs f g i d within = (f i d within, g i d within)

lower : (first last : ℕ) (xs : List ℕ) → All (λ i. (first ≤ i) × (i < last)) xs → All (λ i. first ≤ i) xs
lower first last xs h i d within = (h i d within).0

upper : (first last : ℕ) (xs : List ℕ) → All (λ i. (first ≤ i) × (i < last)) xs → All (λ i. i < last) xs
upper first last xs h i d within = (h i d within).1

-- a binding between its parts
module _ (first node n : ℕ) (bound : Form) (m : ℕ) (body : Form) (last : ℕ)
    (rise : Rise (numbers n bound ++ node ∷ numbers m body)) (all : All (λ i. (first ≤ i) × (i < last)) (numbers n bound ++ node ∷ numbers m body)) where
  bound_rises : Rise (numbers n bound)
  bound_rises = Pairs-left (λ i j. i < j) (numbers n bound) (node ∷ numbers m body) rise

  bound_among : All (λ i. (first ≤ i) × (i < node)) (numbers n bound)
  bound_among =
      bounds first node (numbers n bound) (lower first last (numbers n bound) (All-left (λ i. (first ≤ i) × (i < last)) (numbers n bound) (node ∷ numbers m body) all))
      (Pairs-before (λ i j. i < j) (numbers n bound) (numbers m body) node rise)

  rest_rises : Rise (node ∷ numbers m body)
  rest_rises = Pairs-right (λ i j. i < j) (numbers n bound) (node ∷ numbers m body) rise

  body_rises : Rise (numbers m body)
  body_rises = Pairs-right (λ i j. i < j) (node ∷ []) (numbers m body) rest_rises

  body_among : All (λ i. (suc node ≤ i) × (i < last)) (numbers m body)
  body_among =
      bounds (suc node) last (numbers m body) (Pairs-head (λ i j. i < j) node (numbers m body) rest_rises)
      (upper first last (numbers m body) (All-tail (λ i. (first ≤ i) × (i < last)) node (numbers m body) (All-right (λ i. (first ≤ i) × (i < last)) (numbers n bound) (node ∷ numbers m body) all)))

pub rise-numbered : (first node : ℕ) (form : Form) (last : ℕ) → IsPlainForm form → Rise (numbers node form) → All (λ n. (first ≤ n) × (n < last)) (numbers node form) → IsNumbered first node form last
rise-numbered first node (Literal literal) last plain rise all = All-head (λ n. (first ≤ n) × (n < last)) node [] all
rise-numbered first node (Name distance) last plain rise all = All-head (λ n. (first ≤ n) × (n < last)) node [] all
rise-numbered first node (Const id) last plain rise all = All-head (λ n. (first ≤ n) × (n < last)) node [] all
rise-numbered first node Hole last plain rise all = All-head (λ n. (first ≤ n) × (n < last)) node [] all
rise-numbered first node (fun_of n at body) last plain rise all =
    let P = λ (i : ℕ). (first ≤ i) × (i < last) in
    let inside = bounds first node (numbers n body) (lower first last (numbers n body) (All-left P (numbers n body) (node ∷ []) all)) (Pairs-before (λ i j. i < j) (numbers n body) [] node rise) in
    (rise-numbered first n body node plain (Pairs-left (λ i j. i < j) (numbers n body) (node ∷ []) rise) inside, (All-head P node [] (All-right P (numbers n body) (node ∷ []) all)).1)
rise-numbered first node (app_of n at function m by argument) last plain rise all =
    let P = λ (i : ℕ). (first ≤ i) × (i < last) in
    let R = λ (i j : ℕ). i < j in
    let parts = numbers n function ++ numbers m argument in
    let parts_rise : Rise (numbers n function ++ numbers m argument) = Pairs-left R (numbers n function ++ numbers m argument) (node ∷ []) rise in
    let below = Pairs-before R (numbers n function ++ numbers m argument) [] node rise in
    let parts_all = All-left P (numbers n function ++ numbers m argument) (node ∷ []) all in
    let (middle, rest, e) = starts m argument in
    let apart = between (numbers n function) (numbers m argument) middle rest e parts_rise in (
      middle,
      rise-numbered first n function middle plain.0 (Pairs-left R (numbers n function) (numbers m argument) parts_rise)
          (bounds first middle (numbers n function) (lower first last (numbers n function) (All-left P (numbers n function) (numbers m argument) parts_all)) apart.0),
      rise-numbered middle m argument node plain.1 (Pairs-right R (numbers n function) (numbers m argument) parts_rise)
          (bounds middle node (numbers m argument) apart.1 (All-right (λ i. i < node) (numbers n function) (numbers m argument) below)),
      (All-head P node [] (All-right P (numbers n function ++ numbers m argument) (node ∷ []) all)).1,
    )
rise-numbered first node (let_of n at bound m by body) last plain rise all = (
  rise-numbered first n bound node plain.0 (bound_rises first node n bound m body last rise all) (bound_among first node n bound m body last rise all),
  rise-numbered (suc node) m body last plain.1 (body_rises first node n bound m body last rise all) (body_among first node n bound m body last rise all),
)
rise-numbered first node (let_rec_of name name_at n at bound m by body) last plain rise all = (
  rise-numbered first n bound node plain.0 (bound_rises first node n bound m body last rise all) (bound_among first node n bound m body last rise all),
  rise-numbered (suc node) m body last plain.1 (body_rises first node n bound m body last rise all) (body_among first node n bound m body last rise all),
)
rise-numbered first node (choice_of dim n at left m by right) last plain rise all = absurd plain

-- what a total decision selects has no choice
chosen-plain : (side : Side) (left right neither : Core) → IsPlainForm left.form → IsPlainForm right.form → IsPlainForm (chosen (Some side) left right neither).form
chosen-plain Left left right neither f g = f
chosen-plain Right left right neither f g = g

selected-plain : (count : ℕ) (decision : List Side) (node : ℕ) (at : Span) (form : Form) → HasDims count form → count ≤ length decision → IsPlainForm (selected_form (slice_get decision) node at form).form
selected-plain count decision node at (Literal literal) dims le = tt
selected-plain count decision node at (Name distance) dims le = tt
selected-plain count decision node at (Const id) dims le = tt
selected-plain count decision node at Hole dims le = tt
selected-plain count decision node at (fun_of n by body) dims le = selected-plain count decision n by body dims le
selected-plain count decision node at (app_of n by function m to argument) dims le =
    (selected-plain count decision n by function dims.0 le, selected-plain count decision m to argument dims.1 le)
selected-plain count decision node at (let_of n by bound m to body) dims le =
    (selected-plain count decision n by bound dims.0 le, selected-plain count decision m to body dims.1 le)
selected-plain count decision node at (let_rec_of name name_at n by bound m to body) dims le =
    (selected-plain count decision n by bound dims.0 le, selected-plain count decision m to body dims.1 le)
selected-plain count decision node at (choice_of dim n by left m to right) dims le =
    let one = selected_form (slice_get decision) n by left in
    let other = selected_form (slice_get decision) m to right in
    elim (slice_get_cases decision dim).1 [
      | inl (side, _, taken, _) ↦ subst (λ found. IsPlainForm (chosen found one other (core node at (choice_form dim one other))).form) (sym taken)
          (chosen-plain side one other (core node at (choice_form dim one other)) (selected-plain count decision n by left dims.1 le) (selected-plain count decision m to right dims.2 le))
      | inr past ↦ absurd (omega (arith, past.0, dims.0))
    ]

pub core_at-plain : (count : ℕ) (decision : List Side) (e : Core) → HasDims count e.form → count ≤ length decision → IsPlainForm (core_at decision e).form
core_at-plain count decision e dims le = selected-plain count decision e.node e.span e.form dims le
