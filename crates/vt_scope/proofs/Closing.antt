use Rattle.std.proofs.Common.{◌≡◌, ℕ, suc, ◌<◌, Bool, true, false, List, [], ◌∷◌, length, map, Some, refl, sym, subst, arith}
use Rattle.std.proofs.lemmas.List.{length-map}
use Rattle.std.proofs.lemmas.Option.{slice_get_within}
use Rattle.vt_lex.specs.declared.span.Span.{Span}
use Rattle.vt_type.specs.Constants.{Constant, HasName}
use Rattle.vt_syntax.specs.declared.expr.Op.{Op}
use Rattle.vt_syntax.specs.declared.expr.Op.TheVariants as op
use Rattle.vt_syntax.specs.declared.expr.Expr.{Expr}
use Rattle.vt_syntax.specs.declared.expr.Exprs.{Exprs}
use Rattle.vt_syntax.specs.declared.program.Def.{Def}
use Rattle.vt_syntax.specs.declared.program.Program.{Program}
use Rattle.vt_syntax.specs.declared.core_expr.Core.{Core}
use Rattle.vt_syntax.specs.declared.core_expr.Form.{Form}
use Rattle.vt_syntax.specs.declared.core_program.CoreDef.{CoreDef}
use Rattle.vt_syntax.specs.declared.core_program.CoreProgram.{CoreProgram}
use Rattle.vt_syntax.specs.declared.leaf.Leaf.{Leaf}
use Rattle.vt_syntax.specs.Programs.{nested, binding}
use Rattle.vt_syntax.specs.Scoping.{IsScoped, HasConstants, HasDims, IsClosed}
use Rattle.vt_scope.specs.declared.scope.Binder.{Binder}
use Rattle.vt_scope.specs.Scopes.{parameter, defined, bound_under}
use Rattle.vt_scope.specs.Cores as cores
use Rattle.vt_scope.specs.Cores.{IsCore, AreItems, AreNested, IsCoreProgram, HasImplied, op_id}
use Rattle.vt_scope.proofs.ScopeLists.{found_within}

-- In the core of an expression each name has its binder, each constant is in the table and each
-- dimension is known.

module _ (constants : List Constant) (dims : List (List ℕ)) where
  pub record Closed (binders : ℕ) (form : Form) : Type 0 where
    pub names : IsScoped binders form
    pub table : HasImplied constants → HasConstants (length constants) form
    pub dims_are : HasDims (length dims) form

  op-implied : HasImplied constants → (op : Op) → op_id op < length constants
  op-implied h op.Add = omega arith
  op-implied h op.Sub = omega arith
  op-implied h op.Mul = omega arith
  op-implied h op.Cat = omega arith
  op-implied h op.Equal = omega arith
  op-implied h op.Less = omega arith
  op-implied h op.Cons = omega arith
  op-implied h op.And = omega arith
  op-implied h op.Or = omega arith

  named-within : (id : ℕ) (name : List ℕ) → HasName constants id name → id < length constants
  named-within id name has = rw (length-map constants (λ c. c.name)) at (slice_get_within (map (λ c. c.name) constants) id (Some name) has)

  mutual
    closed-core : (s : List Binder) (n : ℕ) (e : Expr) (c : Core) (ls : List Leaf) (m : ℕ) → IsCore constants dims s n e c ls m → Closed (length s) c.form
    closed-core _ _ _ _ _ _ (cores.number s n at value) = record { names = tt; table = λ h. tt; dims_are = tt }
    closed-core _ _ _ _ _ _ (cores.quoted s n at) = record { names = tt; table = λ h. tt; dims_are = tt }
    closed-core _ _ _ _ _ _ (cores.truth s n at value) = record { names = tt; table = λ h. tt; dims_are = tt }
    closed-core _ _ _ _ _ _ (cores.bound s n at name binder is) = record { names = found_within s name binder is; table = λ h. tt; dims_are = tt }
    closed-core _ _ _ _ _ _ (cores.named s n at name id none has) = record { names = tt; table = λ h. named-within id name has; dims_are = tt }
    closed-core _ _ _ _ _ _ (cores.hole s n at) = record { names = tt; table = λ h. tt; dims_are = tt }
    closed-core _ _ _ _ _ _ (cores.fun s n i at name name_at f d ks p) =
        let one = closed-core (parameter name ∷ s) n f d ks i p in
        record { names = one.names; table = one.table; dims_are = one.dims_are }
    closed-core _ _ _ _ _ _ (cores.let_in s n i k at true name name_at f g d h ks js p q) =
        let one = closed-core (defined name ∷ s) n f d ks i p in
        let two = closed-core (defined name ∷ s) (suc i) g h js k q in
        record { names = (one.names, two.names); table = λ h. (one.table h, two.table h); dims_are = (one.dims_are, two.dims_are) }
    closed-core _ _ _ _ _ _ (cores.let_in s n i k at false name name_at f g d h ks js p q) =
        let one = closed-core s n f d ks i p in
        let two = closed-core (defined name ∷ s) (suc i) g h js k q in
        record { names = (one.names, two.names); table = λ h. (one.table h, two.table h); dims_are = (one.dims_are, two.dims_are) }
    closed-core _ _ _ _ _ _ (cores.if_else s n i j k at f g h x y z ks js is p q r) =
        let one = closed-core s (suc n) f x ks i p in
        let two = closed-core s (suc i) g y js j q in
        let three = closed-core s (suc j) h z is k r in
        record {
          names = (((tt, one.names), two.names), three.names);
          table = λ h. (((omega arith, one.table h), two.table h), three.table h);
          dims_are = (((tt, one.dims_are), two.dims_are), three.dims_are);
        }
    closed-core _ _ _ _ _ _ (cores.match_list s n i j k at first first_at rest rest_at f g h x y z ks js is p q r) =
        let one = closed-core s (suc n) f x ks i p in
        let two = closed-core s (suc i) g y js j q in
        let three = closed-core (parameter rest ∷ parameter first ∷ s) (suc j) h z is k r in
        record {
          names = (((tt, one.names), two.names), three.names);
          table = λ h. (((omega arith, one.table h), two.table h), three.table h);
          dims_are = (((tt, one.dims_are), two.dims_are), three.dims_are);
        }
    closed-core _ _ _ _ _ _ (cores.operation s n i k at op op_at f g x y ks js p q) =
        let one = closed-core s (suc n) f x ks i p in
        let two = closed-core s (suc i) g y js k q in
        record {
          names = ((tt, one.names), two.names);
          table = λ h. ((op-implied h op, one.table h), two.table h);
          dims_are = ((tt, one.dims_are), two.dims_are);
        }
    closed-core _ _ _ _ _ _ (cores.apply s n i k at f g x y ks js p q) =
        let one = closed-core s n f x ks i p in
        let two = closed-core s i g y js k q in
        record { names = (one.names, two.names); table = λ h. (one.table h, two.table h); dims_are = (one.dims_are, two.dims_are) }
    closed-core _ _ _ _ _ _ (cores.pair s n i k at f g x y ks js p q) =
        let one = closed-core s (suc n) f x ks i p in
        let two = closed-core s (suc i) g y js k q in
        record {
          names = ((tt, one.names), two.names);
          table = λ h. ((omega arith, one.table h), two.table h);
          dims_are = ((tt, one.dims_are), two.dims_are);
        }
    closed-core _ _ _ _ _ _ (cores.list s n k at items d ks p) = closed-items s at at n items d ks k p
    closed-core _ _ _ _ _ _ (cores.choice s n i k at name dim name_at f g x y ks js has p q) =
        let one = closed-core s n f x ks i p in
        let two = closed-core s i g y js k q in
        record {
          names = (one.names, two.names);
          table = λ h. (one.table h, two.table h);
          dims_are = (slice_get_within dims dim name has, one.dims_are, two.dims_are);
        }

    closed-items : (s : List Binder) (whole here : Span) (n : ℕ) (es : Exprs) (c : Core) (ls : List Leaf) (m : ℕ) → AreItems constants dims s whole here n es c ls m → Closed (length s) c.form
    closed-items _ _ _ _ _ _ _ _ (cores.none s whole here n) = record { names = tt; table = λ h. omega arith; dims_are = tt }
    closed-items _ _ _ _ _ _ _ _ (cores.more s whole here n i k f fs x y ks js p q) =
        let one = closed-core s (suc n) f x ks i p in
        let two = closed-items s whole (cores.left_span whole fs) (suc i) fs y js k q in
        record {
          names = ((tt, one.names), two.names);
          table = λ h. ((omega arith, one.table h), two.table h);
          dims_are = ((tt, one.dims_are), two.dims_are);
        }

  closed-def : (recursive : Bool) (name : List ℕ) (name_at : Span) (node : ℕ) (s : List Binder) (body rest : Core)
      → Closed (length (bound_under recursive name s)) body.form → Closed (suc (length s)) rest.form
      → Closed (length s) (cores.bound_form recursive name name_at body rest)
  closed-def true name name_at node s body rest one two =
      record { names = (one.names, two.names); table = λ h. (one.table h, two.table h); dims_are = (one.dims_are, two.dims_are) }
  closed-def false name name_at node s body rest one two =
      record { names = (one.names, two.names); table = λ h. (one.table h, two.table h); dims_are = (one.dims_are, two.dims_are) }

  -- the form that binds a definition
  pub binding-is : (def : CoreDef) (recursive : Bool) (rest : Core) → binding def recursive rest ≡ cores.bound_form recursive def.name def.name_span def.body rest
  binding-is def true rest = refl
  binding-is def false rest = refl

  closed-nested : (s : List Binder) (n : ℕ) (defs : List Def) (e : Expr) (all : List CoreDef) (main : Core) (ls : List Leaf) (m : ℕ)
      → AreNested constants dims s n defs e all main ls m → Closed (length s) (nested all main).form
  closed-nested _ _ _ _ _ _ _ _ (cores.main s n m e c ls p) = closed-core s n e c ls m p
  closed-nested _ _ _ _ _ _ _ _ (cores.def s n i k def others e b bodies main ls ks p q) =
      let one = closed-core (bound_under def.recursive def.name s) n def.body b ls i p in
      let rest = closed-nested (defined def.name ∷ s) (suc i) others e bodies main ks k q in
      subst (Closed (length s)) (sym (binding-is (cores.core_def def i b) def.recursive (nested bodies main)))
      (closed-def def.recursive def.name def.name_span i s b (nested bodies main) one rest)

  pub closed-program : (program : Program) (core : CoreProgram) (leaves : List Leaf) → IsCoreProgram constants dims program core leaves → HasImplied constants → IsClosed (length constants) (length dims) core
  closed-program program core leaves is h =
      let all = closed-nested [] 1 program.defs program.main core.defs core.main leaves is.next is.nested in
      record { names = all.names; constants_are = all.table h; dims_are = all.dims_are }
