use Rattle.std.proofs.Common.{◌≡◌, ℕ, ◌<◌, ◌≤◌, nat_lt, Bool, true, false, ◌||◌, List, [], ◌∷◌, ◌++◌, length, is_some, Some, None, refl, ap, sym, ◌∙◌, if◌then◌else◌, arith}
use Rattle.std.specs.List.{list_any}
use Rattle.std.specs.Str.{bytes_eq}
use Rattle.std.proofs.lemmas.Bool.Decides.{nat_tests}
use Rattle.std.proofs.lemmas.List.{length-append}
use Rattle.std.proofs.lemmas.Option.{none-some}
use Rattle.vt_lex.specs.declared.span.Span.{Span}
use Rattle.vt_type.specs.Constants.{Constant}
use Rattle.vt_syntax.specs.declared.expr.Expr.{Expr}
use Rattle.vt_syntax.specs.declared.expr.Exprs.{Exprs, Nil}
use Rattle.vt_syntax.specs.declared.expr.ExprForm.{ExprForm}
use Rattle.vt_syntax.specs.declared.expr.ExprForm as form
use Rattle.vt_syntax.specs.declared.program.Def.{Def}
use Rattle.vt_syntax.specs.declared.program.Program.{Program}
use Rattle.vt_syntax.specs.SurfaceTrees.{fun_of, let_of, if_of, match_of, op_of, apply_of, pair_of, choice_of, exprs_of}
use Rattle.vt_scope.specs.declared.fault.ScopeFault.TheVariants.{TooManyDimensions}
use Rattle.vt_scope.specs.declared.scope.Binder.{Binder}
use Rattle.vt_scope.specs.Scopes.{parameter, defined, bound_under, found, is_constant}
use Rattle.vt_scope.specs.Faults.{Event, Nameless, Dimension, events, item_events, nested_events, program_events, with_dim, dims_after, dims_of, most_dims, refused, first_fault}
use Rattle.vt_scope.proofs.EventLists.{dims_after-append, first_of-none}

-- The dimensions of a program hang on no constants.

-- events that meet the same dimensions
record Alike (es fs : List Event) : Type 0 where
  same : (dims : List (List ℕ)) → dims_after dims es ≡ dims_after dims fs

alike-append : (es fs gs hs : List Event) → Alike es fs → Alike gs hs → Alike (es ++ gs) (fs ++ hs)
alike-append es fs gs hs p q = record {
  same = λ dims. dims_after-append dims es gs ∙ q.same (dims_after dims es) ∙ ap (λ names. dims_after names hs) (p.same dims) ∙ sym (dims_after-append dims fs hs);
}

no_dims : (b : Bool) (at : Span) (dims : List (List ℕ)) → dims_after dims (if b then [] else (Nameless at ∷ [])) ≡ dims
no_dims true at dims = refl
no_dims false at dims = refl

module _ (constants : List Constant) where
  mutual
    alike : (s : List Binder) (at : Span) (f : ExprForm) → Alike (events constants s at f) (events [] s at f)
    alike s at (form.Number value) = record { same = λ dims. refl }
    alike s at form.Quoted = record { same = λ dims. refl }
    alike s at (form.Truth value) = record { same = λ dims. refl }
    alike s at (form.Name name) = record {
      same = λ dims. no_dims (is_some (found s name) || is_constant constants name) at dims ∙ sym (no_dims (is_some (found s name) || is_constant [] name) at dims);
    }
    alike s at form.Hole = record { same = λ dims. refl }
    alike s at (fun_of name name_at by body) = alike (parameter name ∷ s) by body
    alike s at (let_of recursive name name_at by bound to body) =
        alike-append _ _ _ _ (alike (bound_under recursive name s) by bound) (alike (defined name ∷ s) to body)
    alike s at (if_of by condition to met on unmet) =
        alike-append _ _ _ _ (alike-append _ _ _ _ (alike s by condition) (alike s to met)) (alike s on unmet)
    alike s at (match_of by list to empty first first_at rest rest_at on cell) =
        alike-append _ _ _ _ (alike-append _ _ _ _ (alike s by list) (alike s to empty)) (alike (parameter rest ∷ parameter first ∷ s) on cell)
    alike s at (op_of op op_at by left to right) = alike-append _ _ _ _ (alike s by left) (alike s to right)
    alike s at (apply_of by function to argument) = alike-append _ _ _ _ (alike s by function) (alike s to argument)
    alike s at (pair_of by left to right) = alike-append _ _ _ _ (alike s by left) (alike s to right)
    alike s at (form.List items) = alike-items s items
    alike s at (choice_of dim dim_at by left to right) =
        let parts = alike-append _ _ _ _ (alike s by left) (alike s to right) in
        record { same = λ dims. parts.same (with_dim dims dim) }

    alike-items : (s : List Binder) (items : Exprs) → Alike (item_events constants s items) (item_events [] s items)
    alike-items s Nil = record { same = λ dims. refl }
    alike-items s (exprs_of at first rest) = alike-append _ _ _ _ (alike s at first) (alike-items s rest)

  alike-nested : (s : List Binder) (defs : List Def) (main : Expr) → Alike (nested_events constants s defs main) (nested_events [] s defs main)
  alike-nested s [] main = alike s main.span main.form
  alike-nested s (def ∷ defs) main =
      alike-append _ _ _ _ (alike (bound_under def.recursive def.name s) def.body.span def.body.form) (alike-nested (defined def.name ∷ s) defs main)

  pub dims-any : (program : Program) → dims_after [] (program_events constants program) ≡ dims_of program
  dims-any program = (alike-nested [] program.defs program.main).same []

-- there are never more than the most
few-with : (dims : List (List ℕ)) (name : List ℕ) (at : Span) → length dims ≤ 64 → refused dims (Dimension name at) ≡ None → length (with_dim dims name) ≤ 64
few-with dims name at h free = by (list_any (bytes_eq name) dims) (nat_lt (length dims) most_dims) refl refl free
  where
    by : (known room : Bool) → list_any (bytes_eq name) dims ≡ known → nat_lt (length dims) most_dims ≡ room
        → (if known || room then None else Some (TooManyDimensions at)) ≡ None → length (if known then dims else (dims ++ name ∷ [])) ≤ 64
    by true room e f g = h
    by false true e f g = let below : length dims < 64 = grind (arith, nat_tests) in omega (arith, below, length-append dims (name ∷ []))
    by false false e f g = absurd (none-some (TooManyDimensions at) (sym g))

pub few : (es : List Event) (dims : List (List ℕ)) → length dims ≤ 64 → first_fault dims es ≡ None → length (dims_after dims es) ≤ 64
few [] dims h free = h
few (Nameless at ∷ es) dims h free = few es dims h (first_of-none (refused dims (Nameless at)) (first_fault dims es) free).1
few (Dimension name at ∷ es) dims h free =
    let parts = first_of-none (refused dims (Dimension name at)) (first_fault (with_dim dims name) es) free in
    few es (with_dim dims name) (few-with dims name at h parts.0) parts.1
