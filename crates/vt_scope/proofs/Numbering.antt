use Rattle.std.proofs.Common.{◌≡◌, ℕ, suc, ◌<◌, ◌≤◌, Bool, true, false, List, [], ◌∷◌, ◌++◌, map, Option, Some, None, refl, ap, subst, ◌∙◌, arith}
use Rattle.std.specs.List.{All}
use Rattle.std.proofs.lemmas.List.Elements.{All-cons}
use Rattle.std.proofs.lemmas.List.Kept.{AllPairs-cons}
use Rattle.vt_dec.specs.declared.side.Side.{Side}
use Rattle.vt_dec.specs.declared.side.Side.TheVariants.{Left, Right}
use Rattle.vt_lex.specs.declared.span.Span.{Span}
use Rattle.vt_type.specs.Constants.{Constant}
use Rattle.vt_syntax.specs.declared.expr.Expr.{Expr}
use Rattle.vt_syntax.specs.declared.expr.Exprs.{Exprs}
use Rattle.vt_syntax.specs.declared.program.Def.{Def}
use Rattle.vt_syntax.specs.declared.program.Program.{Program}
use Rattle.vt_syntax.specs.declared.core_expr.Core.{Core}
use Rattle.vt_syntax.specs.declared.core_expr.Form.{Form, Literal, Name, Const, Hole}
use Rattle.vt_syntax.specs.declared.core_program.CoreDef.{CoreDef}
use Rattle.vt_syntax.specs.declared.core_program.CoreProgram.{CoreProgram}
use Rattle.vt_syntax.specs.declared.leaf.Leaf.{Leaf}
use Rattle.vt_syntax.specs.CoreTrees.{fun_of, app_of, let_of, let_rec_of, choice_of, core, fun_form, app_form, let_form, let_rec_form, choice_form}
use Rattle.vt_syntax.specs.Selection.{chosen, selected_form, selected_core, selected_core_def, selected_core_program}
use Rattle.vt_syntax.specs.Programs.{nested, whole, binding}
use Rattle.vt_syntax.specs.Checking.{numbers_of, Rise, AreDifferent, IsInCheckingOrder, HasDistinctNumbers}
use Rattle.vt_scope.specs.declared.scope.Binder.{Binder}
use Rattle.vt_scope.specs.Scopes.{parameter, defined, bound_under}
use Rattle.vt_scope.specs.Cores as cores
use Rattle.vt_scope.specs.Cores.{IsCore, AreItems, AreNested, IsCoreProgram, bound_form}

-- Numbers that rise from a first one on and stay below a last one.
abbrev pub Between : ℕ → List ℕ → ℕ → Type 0
Between n [] m = n ≤ m
Between n (x ∷ xs) m = (n ≤ x) × Between (suc x) xs m

Between-from : (i n m : ℕ) (xs : List ℕ) → i ≤ n → Between n xs m → Between i xs m
Between-from i n m [] le h = omega arith
Between-from i n m (x ∷ xs) le (low, rest) = (omega arith, rest)

Between-up_to : (n m k : ℕ) (xs : List ℕ) → Between n xs m → m ≤ k → Between n xs k
Between-up_to n m k [] h le = omega arith
Between-up_to n m k (x ∷ xs) (low, rest) le = (low, Between-up_to (suc x) m k xs rest le)

Between-le : (n m : ℕ) (xs : List ℕ) → Between n xs m → n ≤ m
Between-le n m [] h = h
Between-le n m (x ∷ xs) (low, rest) = let above = Between-le (suc x) m xs rest in omega (arith, low, above)

Between-append : (n m k : ℕ) (xs ys : List ℕ) → Between n xs m → Between m ys k → Between n (xs ++ ys) k
Between-append n m k [] ys h g = Between-from n m k ys h g
Between-append n m k (x ∷ xs) ys (low, rest) g = (low, Between-append (suc x) m k xs ys rest g)

Between-last : (n m : ℕ) (xs : List ℕ) → Between n xs m → Between n (xs ++ m ∷ []) (suc m)
Between-last n m xs h = let own : m ≤ m = omega arith in let end : suc m ≤ suc m = omega arith in Between-append n m (suc m) xs (m ∷ []) h (own, end)

above : (n m : ℕ) (xs : List ℕ) → Between (suc n) xs m → All (λ other. n < other) xs
above n m [] h = λ k d lt. absurd (omega arith)
above n m (x ∷ xs) (low, rest) = All-cons (λ other. n < other) x xs (omega arith) (above n m xs (Between-from (suc n) (suc x) m xs (omega arith) rest))

rises : (n m : ℕ) (xs : List ℕ) → Between n xs m → Rise xs
rises n m [] h = λ i j d lt le. absurd (omega arith)
rises n m (x ∷ xs) (low, rest) = AllPairs-cons (λ one other. one < other) x xs (above x m xs rest) (rises (suc x) m xs rest)

module _ (taken : ℕ → Option Side) where
  -- the numbers of what is selected
  abbrev left_of : Core → List ℕ
  left_of c = numbers_of (selected_core taken c)

  applied_between : (n i k : ℕ) (at : Span) (f c : Core) → Between n (left_of f) i → Between i (left_of c) k → Between n (left_of (cores.applied k at f c)) (suc k)
  applied_between n i k at f c p q = Between-last n k (left_of f ++ left_of c) (Between-append n i k (left_of f) (left_of c) p q)

  constant_between : (n id : ℕ) (at : Span) → Between n (left_of (cores.constant n at id)) (suc n)
  constant_between n id at = let own : n ≤ n = omega arith in let end : suc n ≤ suc n = omega arith in (own, end)

  bound_between : (n i k : ℕ) (at : Span) (recursive : Bool) (name : List ℕ) (name_at : Span) (c d : Core)
      → Between n (left_of c) i → Between (suc i) (left_of d) k → Between n (left_of (core i at (bound_form recursive name name_at c d))) k
  bound_between n i k at true name name_at c d p q = let own : i ≤ i = omega arith in Between-append n i k (left_of c) (i ∷ left_of d) p (own, q)
  bound_between n i k at false name name_at c d p q = let own : i ≤ i = omega arith in Between-append n i k (left_of c) (i ∷ left_of d) p (own, q)

  choice_between : (n i k dim : ℕ) (at : Span) (c d : Core) → Between n (left_of c) i → Between i (left_of d) k → Between n (left_of (core k at (choice_form dim c d))) (suc k)
  choice_between n i k dim at c d p q = by (taken dim)
    where
      by : (side : Option Side) → Between n (numbers_of (chosen side (selected_core taken c) (selected_core taken d) (core k at (choice_form dim (selected_core taken c) (selected_core taken d))))) (suc k)
      by (Some Left) = let more = Between-le i k (left_of d) q in Between-up_to n i (suc k) (left_of c) p (omega arith)
      by (Some Right) = let more = Between-le n i (left_of c) p in Between-from n i (suc k) (left_of d) more (Between-up_to i k (suc k) (left_of d) q (omega arith))
      by None = Between-last n k (left_of c ++ left_of d) (Between-append n i k (left_of c) (left_of d) p q)

  module _ (constants : List Constant) (dims : List (List ℕ)) where
    mutual
      between : (s : List Binder) (n : ℕ) (e : Expr) (c : Core) (ls : List Leaf) (m : ℕ) → IsCore constants dims s n e c ls m → Between n (left_of c) m
      between _ _ _ _ _ _ (cores.number s n at value) = constant_between n 0 at
      between _ _ _ _ _ _ (cores.quoted s n at) = constant_between n 0 at
      between _ _ _ _ _ _ (cores.truth s n at value) = constant_between n 0 at
      between _ _ _ _ _ _ (cores.bound s n at name binder is) = constant_between n 0 at
      between _ _ _ _ _ _ (cores.named s n at name id none has) = constant_between n 0 at
      between _ _ _ _ _ _ (cores.hole s n at) = constant_between n 0 at
      between _ _ _ _ _ _ (cores.fun s n i at name name_at f d ks p) = Between-last n i (left_of d) (between (parameter name ∷ s) n f d ks i p)
      between _ _ _ _ _ _ (cores.let_in s n i k at recursive name name_at f g d h ks js p q) =
          bound_between n i k at recursive name name_at d h (between (bound_under recursive name s) n f d ks i p) (between (defined name ∷ s) (suc i) g h js k q)
      between _ _ _ _ _ _ (cores.if_else s n i j k at f g h x y z ks js is p q r) =
          applied_between n (suc j) k at (cores.applied j at (cores.applied i at (cores.constant n at 16) x) y) z
          (applied_between n (suc i) j at (cores.applied i at (cores.constant n at 16) x) y
          (applied_between n (suc n) i at (cores.constant n at 16) x (constant_between n 16 at) (between s (suc n) f x ks i p))
          (between s (suc i) g y js j q))
          (between s (suc j) h z is k r)
      between _ _ _ _ _ _ (cores.match_list s n i j k at first first_at rest rest_at f g h x y z ks js is p q r) =
          applied_between n (suc j) (suc (suc k)) at (cores.applied j at (cores.applied i at (cores.constant n at 17) x) y)
          (cores.function (suc k) (cores.up_to first_at at) (cores.function k (cores.up_to first_at at) z))
          (applied_between n (suc i) j at (cores.applied i at (cores.constant n at 17) x) y
          (applied_between n (suc n) i at (cores.constant n at 17) x (constant_between n 17 at) (between s (suc n) f x ks i p))
          (between s (suc i) g y js j q))
          (Between-last (suc j) (suc k) (left_of (cores.function k (cores.up_to first_at at) z))
          (Between-last (suc j) k (left_of z) (between (parameter rest ∷ parameter first ∷ s) (suc j) h z is k r)))
      between _ _ _ _ _ _ (cores.operation s n i k at op op_at f g x y ks js p q) =
          applied_between n (suc i) k at (cores.applied i at (cores.constant n op_at (cores.op_id op)) x) y
          (applied_between n (suc n) i at (cores.constant n op_at (cores.op_id op)) x (constant_between n (cores.op_id op) op_at) (between s (suc n) f x ks i p))
          (between s (suc i) g y js k q)
      between _ _ _ _ _ _ (cores.apply s n i k at f g x y ks js p q) =
          applied_between n i k at x y (between s n f x ks i p) (between s i g y js k q)
      between _ _ _ _ _ _ (cores.pair s n i k at f g x y ks js p q) =
          applied_between n (suc i) k at (cores.applied i at (cores.constant n at 13) x) y
          (applied_between n (suc n) i at (cores.constant n at 13) x (constant_between n 13 at) (between s (suc n) f x ks i p))
          (between s (suc i) g y js k q)
      between _ _ _ _ _ _ (cores.list s n k at items d ks p) = items_between s at at n items d ks k p
      between _ _ _ _ _ _ (cores.choice s n i k at name dim name_at f g x y ks js has p q) =
          choice_between n i k dim at x y (between s n f x ks i p) (between s i g y js k q)

      items_between : (s : List Binder) (whole here : Span) (n : ℕ) (es : Exprs) (c : Core) (ls : List Leaf) (m : ℕ) → AreItems constants dims s whole here n es c ls m → Between n (left_of c) m
      items_between _ _ _ _ _ _ _ _ (cores.none s whole here n) = constant_between n 14 here
      items_between _ _ _ _ _ _ _ _ (cores.more s whole here n i k f fs x y ks js p q) =
          applied_between n (suc i) k here (cores.applied i here (cores.constant n whole 15) x) y
          (applied_between n (suc n) i here (cores.constant n whole 15) x (constant_between n 15 whole) (between s (suc n) f x ks i p))
          (items_between s whole (cores.left_span whole fs) (suc i) fs y js k q)

    nested_between : (s : List Binder) (n : ℕ) (defs : List Def) (e : Expr) (all : List CoreDef) (main : Core) (ls : List Leaf) (m : ℕ)
        → AreNested constants dims s n defs e all main ls m → Between n (numbers_of (nested (map (selected_core_def taken) all) (selected_core taken main))) m
    nested_between _ _ _ _ _ _ _ _ (cores.main s n m e c ls p) = between s n e c ls m p
    nested_between _ _ _ _ _ _ _ _ (cores.def s n i k def others e b bodies main ls ks p q) =
        by def.recursive (between (bound_under def.recursive def.name s) n def.body b ls i p)
        (nested (map (selected_core_def taken) bodies) (selected_core taken main)) (nested_between (defined def.name ∷ s) (suc i) others e bodies main ks k q)
      where
        own : i ≤ i
        own = omega arith

        by : (recursive : Bool) → Between n (left_of b) i → (rest : Core) → Between (suc i) (numbers_of rest) k
            → Between n (numbers_of (core i def.name_span (binding (selected_core_def taken (cores.core_def def i b)) recursive rest))) k
        by true one rest below = Between-append n i k (left_of b) (i ∷ numbers_of rest) one (own, below)
        by false one rest below = Between-append n i k (left_of b) (i ∷ numbers_of rest) one (own, below)

-- where nothing is selected, all stays
selected-none : (n : ℕ) (at : Span) (f : Form) → selected_form (λ dim. None) n at f ≡ core n at f
selected-none n at (Literal literal) = refl
selected-none n at (Name distance) = refl
selected-none n at (Const id) = refl
selected-none n at Hole = refl
selected-none n at (fun_of m by body) = ap (λ c. core n at (fun_form c)) (selected-none m by body)
selected-none n at (app_of m by function k to argument) =
    ap (λ c. core n at (app_form c (selected_form (λ dim. None) k to argument))) (selected-none m by function) ∙ ap (λ c. core n at (app_form (core m by function) c)) (selected-none k to argument)
selected-none n at (let_of m by bound k to body) =
    ap (λ c. core n at (let_form c (selected_form (λ dim. None) k to body))) (selected-none m by bound) ∙ ap (λ c. core n at (let_form (core m by bound) c)) (selected-none k to body)
selected-none n at (let_rec_of name name_at m by bound k to body) =
    ap (λ c. core n at (let_rec_form name name_at c (selected_form (λ dim. None) k to body))) (selected-none m by bound) ∙ ap (λ c. core n at (let_rec_form name name_at (core m by bound) c)) (selected-none k to body)
selected-none n at (choice_of dim m by left k to right) =
    ap (λ c. core n at (choice_form dim c (selected_form (λ dim. None) k to right))) (selected-none m by left) ∙ ap (λ c. core n at (choice_form dim (core m by left) c)) (selected-none k to right)

selected-none-defs : (defs : List CoreDef) → map (selected_core_def (λ dim. None)) defs ≡ defs
selected-none-defs [] = refl
selected-none-defs (def ∷ defs) =
    ap (λ c. record def { body = c } ∷ map (selected_core_def (λ dim. None)) defs) (selected-none def.body.node def.body.span def.body.form) ∙ ap (λ all. def ∷ all) (selected-none-defs defs)

differ-rise : (numbers : List ℕ) → Rise numbers → AreDifferent numbers
differ-rise numbers h i j d lt le same = let below = h i j d lt le in absurd (omega (arith, below, same))

module _ (constants : List Constant) (dims : List (List ℕ)) (program : Program) (core : CoreProgram) (leaves : List Leaf) (is : IsCoreProgram constants dims program core leaves) where
  rise_of : (taken : ℕ → Option Side) → Rise (numbers_of (whole (selected_core_program taken core)))
  rise_of taken =
      rises 1 is.next (numbers_of (whole (selected_core_program taken core)))
      (nested_between taken constants dims [] 1 program.defs program.main core.defs core.main leaves is.next is.nested)

  all_stays : whole (selected_core_program (λ dim. None) core) ≡ whole core
  all_stays =
      ap (λ defs. nested defs (selected_core (λ dim. None) core.main)) (selected-none-defs core.defs)
      ∙ ap (nested core.defs) (selected-none core.main.node core.main.span core.main.form)

  pub distinct_program : HasDistinctNumbers core
  distinct_program = differ-rise (numbers_of (whole core)) (subst Rise (ap numbers_of all_stays) (rise_of (λ dim. None)))

  pub numbered_program : IsInCheckingOrder core
  numbered_program taken = rise_of (λ dim. Some (taken dim))
