use Rattle.std.proofs.Common.{◌≡◌, ℕ, suc, Bool, true, false, if◌then◌else◌, nat_lt, ◌||◌, List, [], ◌∷◌, ◌++◌, length, Option, Some, None, subst, arith}
use Rattle.std.specs.List.{All, list_any}
use Rattle.std.specs.Str.{bytes_eq}
use Rattle.std.proofs.lemmas.Option.{same_Some, none-some}
use Rattle.vt_lex.specs.declared.span.Span.{Span}
use Rattle.vt_lex.specs.declared.token.Key.TheVariants.{ThenKey, WithKey}
use Rattle.vt_lex.specs.declared.token.Sign.TheVariants.{Arrow, SquareOpen, SquareClose, Comma, Equals}
use Rattle.vt_lex.specs.declared.token.TokenKind.TheVariants as kind
use Rattle.vt_lex.specs.declared.token.Token.{Token}
use Rattle.vt_type.specs.Constants.{Constant}
use Rattle.vt_syntax.specs.declared.expr.Expr.{Expr}
use Rattle.vt_syntax.specs.declared.expr.Exprs.{Exprs}
use Rattle.vt_syntax.specs.declared.program.Def.{Def}
use Rattle.vt_syntax.specs.declared.program.Program.{Program}
use Rattle.vt_syntax.specs.Infixes.{Operator, Applied, infix_tokens}
use Rattle.vt_lex.specs.Spans.{word_at}
use Rattle.vt_syntax.specs.Spelling.{Part, Spells, SpellsItems, SpellsProgram, SpellsIn, def_head}
use Rattle.vt_syntax.specs.Spelling as spell
use Rattle.vt_scope.specs.declared.fault.ScopeFault.{ScopeFault}
use Rattle.vt_scope.specs.declared.fault.ScopeFault.TheVariants.{Unbound, TooManyDimensions, Memory}
use Rattle.vt_scope.specs.declared.scope.Binder.{Binder}
use Rattle.vt_scope.specs.Scopes.{parameter, defined, bound_under}
use Rattle.vt_scope.specs.Faults.{Event, Nameless, Dimension, events, item_events, nested_events, program_events, dims_after, first_of, first_fault, most_dims}

-- What scope meets in a program stands in tokens of its text.

-- something holds of each element
abbrev pub Each : {X : Type 0} → (X → Type 0) → List X → Type 0
Each P [] = Unit {0}
Each P (x ∷ xs) = P x × Each P xs

pub each-append : {X : Type 0} (P : X → Type 0) (xs ys : List X) → Each P xs → Each P ys → Each P (xs ++ ys)
each-append P [] ys h k = k
each-append P (x ∷ xs) ys h k = (h.0, each-append P xs ys h.1 k)

pub each-parts : {X : Type 0} (P : X → Type 0) (xs ys : List X) → Each P (xs ++ ys) → Each P xs × Each P ys
each-parts P [] ys h = (tt, h)
each-parts P (x ∷ xs) ys h = let more = each-parts P xs ys h.1 in ((h.0, more.0), more.1)

pub each-all : {X : Type 0} (P : X → Type 0) (xs : List X) → All P xs → Each P xs
each-all P [] h = tt
each-all P (x ∷ xs) h = (h 0 x (omega arith), each-all P xs (λ k d below. h (suc k) d (omega arith)))

module _ (text : List ℕ) (P : Span → Type 0) (constants : List Constant) where
  -- the token stands there
  abbrev There : Token → Type 0
  There t = P t.span

  -- the event does
  abbrev Met : Event → Type 0
  Met (Nameless at) = P at
  Met (Dimension name at) = P at

  name_met : (b : Bool) (at : Span) → P at → Each Met (if b then [] else (Nameless at ∷ []))
  name_met true at h = tt
  name_met false at h = (h, tt)

  both : (es fs : List Event) → Each Met es → Each Met fs → Each Met (es ++ fs)
  both es fs h k = each-append Met es fs h k

  mutual
    met : (w : ℕ) (ts : List Token) (p : Part) → Spells text w ts p → Each There ts → (scope : List Binder) → Each Met (events constants scope p.expr.span p.expr.form)
    met _ _ _ (spell.number w value at) h scope = tt
    met _ _ _ (spell.quoted w at) h scope = tt
    met _ _ _ (spell.yes w at) h scope = tt
    met _ _ _ (spell.no w at) h scope = tt
    met _ _ _ (spell.name w at) h scope = name_met _ at h.0
    met _ _ _ (spell.hole w at) h scope = tt
    met _ _ _ (spell.empty w a b) h scope = tt
    met _ _ _ (spell.list w a b ts es depth s) h scope = items_met ts es depth s (each-parts There ts _ h.1).0 scope
    met _ _ _ (spell.parens w a b ts p s) h scope = met 0 ts p s (each-parts There ts _ h.1).0 scope
    met _ _ _ (spell.pair w a b c ts us p q s r) h scope =
        let (front, last) = each-parts There (ts ++ (spell.sign Comma b ∷ us)) _ h.1 in
        let parts = each-parts There ts _ front in
        both _ _ (met 0 ts p s parts.0 scope) (met 0 us q r parts.1.1 scope)
    met _ _ _ (spell.choice w at a b c ts us p q s r) h scope =
        let (front, last) = each-parts There (ts ++ (spell.sign Comma b ∷ us)) _ h.1.1 in
        let parts = each-parts There ts _ front in
        (h.0, both _ _ (met 0 ts p s parts.0 scope) (met 0 us q r parts.1.1 scope))
    met _ _ _ (spell.joins w (Operator op) at ts us p q above s r) h scope =
        let (front, last) = each-parts There (ts ++ infix_tokens (Operator op) at) us h in
        both _ _ (met _ ts p s (each-parts There ts _ front).0 scope) (met _ us q r last scope)
    met _ _ _ (spell.joins w Applied at ts us p q above s r) h scope =
        let (front, last) = each-parts There (ts ++ infix_tokens Applied at) us h in
        both _ _ (met _ ts p s (each-parts There ts _ front).0 scope) (met _ us q r last scope)
    met _ _ _ (spell.fun a at b ts p s) h scope = met 0 ts p s h.1.1.1 (parameter (word_at text at) ∷ scope)
    met _ _ _ (spell.let_in a at b c ts us p q s r) h scope =
        let parts = each-parts There ts _ h.1.1.1 in
        both _ _ (met 0 ts p s parts.0 (bound_under false (word_at text at) scope)) (met 0 us q r parts.1.1 (defined (word_at text at) ∷ scope))
    met _ _ _ (spell.let_rec a o at b c ts us p q s r) h scope =
        let parts = each-parts There ts _ h.1.1.1.1 in
        both _ _ (met 0 ts p s parts.0 (bound_under true (word_at text at) scope)) (met 0 us q r parts.1.1 (defined (word_at text at) ∷ scope))
    met _ _ _ (spell.if_else a b c ts us vs p q o s r t) h scope =
        let (front, last) = each-parts There (ts ++ (spell.key ThenKey b ∷ us)) _ h.1 in
        let parts = each-parts There ts _ front in
        both _ _ (both _ _ (met 0 ts p s parts.0 scope) (met 0 us q r parts.1.1 scope)) (met 0 vs o t last.1 scope)
    met _ _ _ (spell.match_list a b c d e f first g rest i ts us vs p q o s r t) h scope =
        let (front, last) = each-parts There (ts ++ (spell.key WithKey b ∷ spell.sign SquareOpen c ∷ spell.sign SquareClose d ∷ spell.sign Arrow e ∷ us)) _ h.1 in
        let parts = each-parts There ts _ front in
        both _ _ (both _ _ (met 0 ts p s parts.0 scope) (met 0 us q r parts.1.1.1.1.1 scope))
        (met 0 vs o t last.1.1.1.1.1 (parameter (word_at text rest) ∷ parameter (word_at text first) ∷ scope))

    items_met : (ts : List Token) (es : Exprs) (depth : ℕ) → SpellsItems text ts es depth → Each There ts → (scope : List Binder) → Each Met (item_events constants scope es)
    items_met _ _ _ (spell.last ts p s) h scope = both _ [] (met 0 ts p s h scope) tt
    items_met _ _ _ (spell.more a ts us p es depth s r) h scope =
        let parts = each-parts There ts _ h in
        both _ _ (met 0 ts p s parts.0 scope) (items_met us es depth r parts.1.1 scope)

  program_met : (ts : List Token) (defs : List Def) (e : Expr) (depth : ℕ) → SpellsProgram text ts defs e depth → Each There ts → (scope : List Binder)
      → Each Met (nested_events constants scope defs e)
  program_met _ _ _ _ (spell.main ts p s) h scope = met 0 ts p s h scope
  program_met _ _ _ _ (spell.def a r at b c recursive ts us p defs e depth s t) h scope =
      let (front, last) = each-parts There (def_head a r recursive ++ (spell.token kind.Name at ∷ spell.sign Equals b ∷ ts)) _ h in
      let parts = each-parts There (def_head a r recursive) _ front in
      both _ _ (met 0 ts p s parts.1.1.1 (bound_under recursive (word_at text at) scope)) (program_met us defs e depth t last.1 (defined (word_at text at) ∷ scope))

  -- the fault stands there
  abbrev pub Faulty : ScopeFault → Type 0
  Faulty (Unbound at) = P at
  Faulty (TooManyDimensions at) = P at
  Faulty Memory = Unit {0}

  fault_of_dimension : (b : Bool) (at : Span) (later : Option ScopeFault) (fault : ScopeFault) → P at → (later ≡ Some fault → Faulty fault)
      → first_of (if b then None else Some (TooManyDimensions at)) later ≡ Some fault → Faulty fault
  fault_of_dimension true at later fault h more e = more e
  fault_of_dimension false at later fault h more e = subst Faulty (same_Some _ _ e) h

  fault_met : (es : List Event) (dims : List (List ℕ)) (fault : ScopeFault) → Each Met es → first_fault dims es ≡ Some fault → Faulty fault
  fault_met [] dims fault h e = absurd (none-some fault e)
  fault_met (Nameless at ∷ es) dims fault h e = subst Faulty (same_Some _ _ e) h.0
  fault_met (Dimension name at ∷ es) dims fault h e =
      fault_of_dimension (list_any (bytes_eq name) dims || nat_lt (length dims) most_dims) at _ fault h.0 (fault_met es (dims_after dims (Dimension name at ∷ [])) fault h.1) e

  -- What is refused first in a program stands in one of its tokens.
  pub fault_in_token : (ts : List Token) (program : Program) (depth : ℕ) (fault : ScopeFault) → SpellsIn text ts program depth → All There ts
      → first_fault [] (program_events constants program) ≡ Some fault → Faulty fault
  fault_in_token ts program depth fault s all e =
      fault_met (program_events constants program) [] fault (program_met ts program.defs program.main depth s (each-all There ts all) []) e
