use Rattle.std.proofs.Common.{◌≡◌, ◌⊎◌, ℕ, zero, suc, ◌<◌, ◌≤◌, List, length, Some, refl, ap, ◌∙◌, inl, inr, subst, arith}
use Rattle.std.proofs.lemmas.Bool.{cases_lt, cases_eq}
use Rattle.std.proofs.lemmas.Option.{same_Some, none-some, slice_get_cases, slice_get-map}
use Rattle.std.specs.Option.{option_map}
use Rattle.vt_lex.specs.declared.span.Span.{Span}
use Rattle.vt_syntax.specs.declared.core_expr.Core.{Core}
use Rattle.vt_syntax.specs.declared.core_expr.Form.{Form, Literal, Name, Const, Hole}
use Rattle.vt_syntax.specs.CoreTrees.{core, fun_of, app_of, let_of, let_rec_of, choice_of, fun_form, app_form, let_form, let_rec_form}
use Rattle.vt_syntax.specs.Selection.{IsPlainForm}
use Rattle.vt_syntax.specs.Checking.{Rise, numbers_of}
use Rattle.vt_syntax.specs.Scoping.{IsScoped, HasConstants}
use Rattle.vt_type.specs.declared.plain.Plain.{Plain}
use Rattle.vt_type.specs.Plain.{IsWellFormed, IsInstance}
use Rattle.vt_type.specs.Constants.{Constant, IsTable, HasClosed, int, ◌⇒◌}
use Rattle.vt_type.proofs.Renaming.{renaming-canonical}
use Rattle.vt_rules.specs.Env.{Env, Entry, Empty, ◌▸◌, Mono, Def, Rec, entry_at, IsWellFormedEnv}
use Rattle.vt_rules.specs.Typing.{Ty}
use Rattle.vt_rules.specs.TypingUpTo.{TyUpTo}
use Rattle.vt_rules.specs.TypingUpTo as to
use Rattle.vt_rules.specs.Failing.{IsTypedUpTo, FirstFailing, HasJoin}
use Rattle.vt_rules.proofs.Entries.{entry-well_formed}
use Rattle.vt_rules.proofs.InOrder.{AllNodes, InOrder, in_order}
use Rattle.vt_rules.proofs.NodesAbove.{weaker, int_is, above_all}
use Rattle.vt_rules.proofs.UpTo.{ty-up_to}
use Rattle.vt_rules.proofs.UpToAll.{AllInEnv, up_to-ty}

-- The first failing node is an application or a `let rec`: at any other node, a typing up to the number
-- before gives one up to its own.

-- how many names are known
abbrev pub size : Env → ℕ
size Empty = 0
size (env ▸ entry) = suc (size env)

-- a name that has its binder has an entry
found : (env : Env) (distance : ℕ) → distance < size env → (entry : Entry) × (entry_at env distance ≡ Some entry)
found Empty distance within = absurd (omega arith)
found (env ▸ entry) zero within = (entry, refl)
found (env ▸ entry) (suc distance) within = found env distance (omega arith)

-- one of two that are decided
either : {A B : Type 0} → A ⊎ (A → ⊥) → B ⊎ (B → ⊥) → (A ⊎ B) ⊎ ((A ⊎ B) → ⊥)
either (inl a) d = inl (inl a)
either (inr f) (inl b) = inl (inr b)
either (inr f) (inr g) = inr (elim [ inl a ↦ f a | inr b ↦ g b ])

-- a constant of the table has its own closed type
constant_typed : (K : List Constant) (id : ℕ) → id < length K → (closed : Plain) × HasClosed K id closed × IsInstance closed closed
constant_typed K id within =
    elim (slice_get_cases K id).1 [
      | inl (c, _, at, _) ↦ (c.closed, slice_get-map (λ d. d.closed) K id ∙ ap (option_map (λ d. d.closed)) at, (renaming-canonical c.closed c.closed refl).0)
      | inr past ↦ absurd (omega (arith, past.0))
    ]

module _ (K : List Constant) (table : IsTable K) where
  -- each bound expression has a type
  abbrev mutual
    HasTypes : Env → Type 0
    HasTypes Empty = Unit {0}
    HasTypes (env ▸ entry) = HasTypes env × EntryHasType entry

    EntryHasType : Entry → Type 0
    EntryHasType (Mono type) = Unit {0}
    EntryHasType (Def env bound) = (some : Plain) × Ty K env bound some
    EntryHasType (Rec env bound) = (some : Plain) × IsWellFormed some × Ty K (env ▸ Mono some) bound some

  has_type : (env : Env) (distance : ℕ) (entry : Entry) → HasTypes env → entry_at env distance ≡ Some entry → EntryHasType entry
  has_type Empty distance entry h e = absurd (none-some entry e)
  has_type (env ▸ other) zero entry h e = subst EntryHasType (same_Some other entry e) h.1
  has_type (env ▸ other) (suc distance) entry h e = has_type env distance entry h.0 e

  -- what an expression is, in which no application and no `let rec` has the number
  record Sound (j : ℕ) (env : Env) (node : ℕ) (form : Form) : Type 0 where
    plain : IsPlainForm form
    scoped : IsScoped (size env) form
    constants : HasConstants (length K) form
    order : InOrder node form
    no_join : HasJoin j node form → ⊥

  -- the parts of such an expression
  in_body : (j : ℕ) (env : Env) (node : ℕ) (body : Core) (entry : Entry) → Sound j env node (fun_form body) → Sound j (env ▸ entry) body.node body.form
  in_body j env node body entry s = record { plain = s.plain; scoped = s.scoped; constants = s.constants; order = s.order.1; no_join = s.no_join }

  module _ (j : ℕ) (env : Env) (node : ℕ) (one other : Core) where
    in_function : Sound j env node (app_form one other) → Sound j env one.node one.form
    in_function s = record { plain = s.plain.0; scoped = s.scoped.0; constants = s.constants.0; order = s.order.2; no_join = λ h. s.no_join (inr (inl h)) }

    in_argument : Sound j env node (app_form one other) → Sound j env other.node other.form
    in_argument s = record { plain = s.plain.1; scoped = s.scoped.1; constants = s.constants.1; order = s.order.3; no_join = λ h. s.no_join (inr (inr h)) }

    in_bound : Sound j env node (let_form one other) → Sound j env one.node one.form
    in_bound s = record { plain = s.plain.0; scoped = s.scoped.0; constants = s.constants.0; order = s.order.2; no_join = λ h. s.no_join (inl h) }

    in_looped : (name : List ℕ) (name_at : Span) (entry : Entry) → Sound j env node (let_rec_form name name_at one other) → Sound j (env ▸ entry) one.node one.form
    in_looped name name_at entry s = record { plain = s.plain.0; scoped = s.scoped.0; constants = s.constants.0; order = s.order.2; no_join = λ h. s.no_join (inr (inl h)) }

    in_let : (entry : Entry) → Sound j env node (let_form one other) → Sound j (env ▸ entry) other.node other.form
    in_let entry s = record { plain = s.plain.1; scoped = s.scoped.1; constants = s.constants.1; order = s.order.3; no_join = λ h. s.no_join (inr h) }

    in_let_rec : (name : List ℕ) (name_at : Span) (entry : Entry) → Sound j env node (let_rec_form name name_at one other) → Sound j (env ▸ entry) other.node other.form
    in_let_rec name name_at entry s = record { plain = s.plain.1; scoped = s.scoped.1; constants = s.constants.1; order = s.order.3; no_join = λ h. s.no_join (inr (inr h)) }

  -- a name that is not above the number has a type
  name_typed : (j : ℕ) (env : Env) (n : ℕ) (by : Span) (distance : ℕ) → n ≤ j → IsWellFormedEnv env → HasTypes env → distance < size env → (type : Plain) × TyUpTo K j env (core n by (Name distance)) type
  name_typed j env n by distance le well_formed types within = by_entry (found env distance within).0 (found env distance within).1
    where
      by_entry : (entry : Entry) → entry_at env distance ≡ Some entry → (type : Plain) × TyUpTo K j env (core n by (Name distance)) type
      by_entry (Mono type) e = (type, to.name_mono env n by distance type le e)
      by_entry (Def inner bound) e =
          let (some, d) = has_type env distance (Def inner bound) types e in
          (some, to.name_def env n by distance inner bound some le e (ty-up_to K table j inner bound some d (entry-well_formed env distance (Def inner bound) well_formed e)))
      by_entry (Rec inner bound) e =
          let (some, w, d) = has_type env distance (Rec inner bound) types e in
          (some, to.name_rec env n by distance inner bound some le e w (ty-up_to K table j (inner ▸ Mono some) bound some d (entry-well_formed env distance (Rec inner bound) well_formed e, w)))

  module _ (k : ℕ) where
    -- what an environment is, in which the nodes before are checked
    record Checked (env : Env) : Type 0 where
      well_formed : IsWellFormedEnv env
      within : AllInEnv (λ n. n ≤ k) env
      has_types : HasTypes env

    -- an expression that is checked already
    checked : (env : Env) (e : Core) (type : Plain) → Checked env → AllNodes (λ n. n ≤ k) e.node e.form → TyUpTo K k env e type → TyUpTo K (suc k) env e type
    checked env e type c all d = ty-up_to K table (suc k) env e type (up_to-ty K k env e type d c.within all) c.well_formed

    under_mono : (env : Env) (type : Plain) → Checked env → IsWellFormed type → Checked (env ▸ Mono type)
    under_mono env type c w = record { well_formed = (c.well_formed, w); within = (c.within, tt); has_types = (c.has_types, tt) }

    -- the number of a node that is above one number and not above the next
    is_next : (n : ℕ) → k < n → n ≤ suc k → n ≡ suc k
    is_next n above le = omega arith

    -- nodes before one that is not above the next number
    before : (n node : ℕ) (form : Form) → n ≤ suc k → AllNodes (λ i. i < n) node form → AllNodes (λ i. i ≤ k) node form
    before n node form le h = weaker (λ i. i < n) (λ i. i ≤ k) (λ i less. omega arith) node form h

    -- nodes after one that is above the number
    after : (n node : ℕ) (form : Form) → k < n → AllNodes (λ i. n < i) node form → AllNodes (λ i. suc k < i) node form
    after n node form above h = weaker (λ i. n < i) (λ i. suc k < i) (λ i less. omega arith) node form h

    under_def : (env : Env) (bound : Core) (some : Plain) → Checked env → AllNodes (λ i. i ≤ k) bound.node bound.form → TyUpTo K k env bound some → Checked (env ▸ Def env bound)
    under_def env bound some c all d = record {
      well_formed = (c.well_formed, c.well_formed);
      within = (c.within, (c.within, all));
      has_types = (c.has_types, (some, up_to-ty K k env bound some d c.within all));
    }

    under_rec : (env : Env) (bound : Core) (some : Plain) → Checked env → AllNodes (λ i. i ≤ k) bound.node bound.form → IsWellFormed some → TyUpTo K k (env ▸ Mono some) bound some → Checked (env ▸ Rec env bound)
    under_rec env bound some c all w d = record {
      well_formed = (c.well_formed, c.well_formed);
      within = (c.within, (c.within, all));
      has_types = (c.has_types, (some, w, up_to-ty K k (env ▸ Mono some) bound some d (c.within, tt) all));
    }

    -- one node more
    step : (env : Env) (e : Core) (type : Plain) → TyUpTo K k env e type → Checked env → Sound (suc k) env e.node e.form → (new : Plain) × TyUpTo K (suc k) env e new
    step _ _ _ (to.literal env n by l le) c s = (_, to.literal env n by l (omega arith))
    step _ _ _ (to.constant env n by id closed type le has instance) c s = (type, to.constant env n by id closed type (omega arith) has instance)
    step _ _ _ (to.hole env n by type le w) c s = (type, to.hole env n by type (omega arith) w)
    step _ _ _ (to.name_mono env n by distance type le e) c s = name_typed (suc k) env n by distance (omega arith) c.well_formed c.has_types s.scoped
    step _ _ _ (to.name_def env n by distance inner bound type le e d) c s = name_typed (suc k) env n by distance (omega arith) c.well_formed c.has_types s.scoped
    step _ _ _ (to.name_rec env n by distance inner bound type le e w d) c s = name_typed (suc k) env n by distance (omega arith) c.well_formed c.has_types s.scoped
    step _ _ _ (to.fun env n by body from type le w d) c s =
        (_, to.fun env n by body from type (omega arith) w (checked (env ▸ Mono from) body type (under_mono env from c w) (before n body.node body.form (omega arith) s.order.0) d))
    step _ _ _ (to.app env n by function argument from type le d f) c s = (
      type,
      to.app env n by function argument from type (omega arith)
          (checked env function (from ⇒ type) c (before n function.node function.form (omega arith) s.order.0) d)
          (checked env argument from c (before n argument.node argument.form (omega arith) s.order.1) f),
    )
    step _ _ _ (to.let_in env n by bound body some type le d f) c s =
        let all = before n bound.node bound.form (omega arith) s.order.0 in
        let (new, g) = step (env ▸ Def env bound) body type f (under_def env bound some c all d) (in_let (suc k) env n bound body (Def env bound) s) in
        (new, to.let_in env n by bound body some new (omega arith) (checked env bound some c all d) g)
    step _ _ _ (to.let_rec env n by name name_at bound body some type le w d f) c s =
        let all = before n bound.node bound.form (omega arith) s.order.0 in
        let (new, g) = step (env ▸ Rec env bound) body type f (under_rec env bound some c all w d) (in_let_rec (suc k) env n bound body name name_at (Rec env bound) s) in
        (new, to.let_rec env n by name name_at bound body some new (omega arith) w (checked (env ▸ Mono some) bound some (under_mono env some c w) all d) g)
    step _ _ _ (to.literal_above env n by l type above w) c s =
        elim (cases_lt (suc k) n) [ inl past ↦ (type, to.literal_above env n by l type past w) | inr here ↦ (_, to.literal env n by l here) ]
    step _ _ _ (to.constant_above env n by id type above w) c s =
        elim (cases_lt (suc k) n) [
          | inl past ↦ (type, to.constant_above env n by id type past w)
          | inr here ↦ (let (closed, has, instance) = constant_typed K id s.constants in (closed, to.constant env n by id closed closed here has instance))
        ]
    step _ _ _ (to.hole_above env n by type above w) c s =
        elim (cases_lt (suc k) n) [ inl past ↦ (type, to.hole_above env n by type past w) | inr here ↦ (type, to.hole env n by type here w) ]
    step _ _ _ (to.name_above env n by distance type above w) c s =
        elim (cases_lt (suc k) n) [ inl past ↦ (type, to.name_above env n by distance type past w) | inr here ↦ name_typed (suc k) env n by distance here c.well_formed c.has_types s.scoped ]
    step _ _ _ (to.fun_above env n by body from other type above w v d) c s =
        let (new, g) = step (env ▸ Mono from) body other d (under_mono env from c v) (in_body (suc k) env n body (Mono from) s) in
        elim (cases_lt (suc k) n) [
          | inl past ↦ (type, to.fun_above env n by body from new type past w v g)
          | inr here ↦ (_, to.fun env n by body from other here v (checked (env ▸ Mono from) body other (under_mono env from c v) (before n body.node body.form here s.order.0) d))
        ]
    step _ _ _ (to.app_above env n by function argument one other type above w d f) c s =
        let (new, g) = step env function one d c (in_function (suc k) env n function argument s) in
        let (new', j) = step env argument other f c (in_argument (suc k) env n function argument s) in
        elim (cases_lt (suc k) n) [
          | inl past ↦ (type, to.app_above env n by function argument new new' type past w g j)
          | inr here ↦ absurd (s.no_join (inl (is_next n above here)))
        ]
    step _ _ _ (to.let_above env n by bound body one other type above w d f) c s =
        let (new, g) = step env bound one d c (in_bound (suc k) env n bound body s) in
        let j = above_all K (suc k) (env ▸ Def env bound) body.node body.span body.form int (after n body.node body.form above s.order.1) s.plain.1 int_is in
        elim (cases_lt (suc k) n) [
          | inl past ↦ (type, to.let_above env n by bound body new int type past w g j)
          | inr here ↦ (int, to.let_in env n by bound body one int here (checked env bound one c (before n bound.node bound.form here s.order.0) d) j)
        ]
    step _ _ _ (to.let_rec_above env n by name name_at bound body from one other type above w v d f) c s =
        let (new, g) = step (env ▸ Mono from) bound one d (under_mono env from c v) (in_looped (suc k) env n bound body name name_at (Mono from) s) in
        let j = above_all K (suc k) (env ▸ Rec env bound) body.node body.span body.form int (after n body.node body.form above s.order.1) s.plain.1 int_is in
        elim (cases_lt (suc k) n) [
          | inl past ↦ (type, to.let_rec_above env n by name name_at bound body from new int type past w v g j)
          | inr here ↦ absurd (s.no_join (inl (is_next n above here)))
        ]

  -- a typing up to 0
  first_step : (env : Env) (node : ℕ) (by : Span) (form : Form) → IsWellFormedEnv env → HasTypes env → Sound 0 env node form → (type : Plain) × TyUpTo K 0 env (core node by form) type
  first_step env node by (Literal l) w h s =
      elim (cases_lt 0 node) [ inl past ↦ (int, to.literal_above env node by l int past int_is) | inr here ↦ (_, to.literal env node by l here) ]
  first_step env node by (Name distance) w h s =
      elim (cases_lt 0 node) [ inl past ↦ (int, to.name_above env node by distance int past int_is) | inr here ↦ name_typed 0 env node by distance here w h s.scoped ]
  first_step env node by (Const id) w h s =
      elim (cases_lt 0 node) [
        | inl past ↦ (int, to.constant_above env node by id int past int_is)
        | inr here ↦ (let (closed, has, instance) = constant_typed K id s.constants in (closed, to.constant env node by id closed closed here has instance))
      ]
  first_step env node by Hole w h s =
      elim (cases_lt 0 node) [ inl past ↦ (int, to.hole_above env node by int past int_is) | inr here ↦ (int, to.hole env node by int here int_is) ]
  first_step env node by (fun_of n at body) w h s =
      let (some, d) = first_step (env ▸ Mono int) n at body (w, int_is) (h, tt) (in_body 0 env node (core n at body) (Mono int) s) in
      elim (cases_lt 0 node) [
        | inl past ↦ (int, to.fun_above env node by (core n at body) int some int past int_is int_is d)
        | inr here ↦ (_, to.fun env node by (core n at body) int some here int_is d)
      ]
  first_step env node by (app_of n at function m on argument) w h s =
      let (some, d) = first_step env n at function w h (in_function 0 env node (core n at function) (core m on argument) s) in
      let (some', d') = first_step env m on argument w h (in_argument 0 env node (core n at function) (core m on argument) s) in
      elim (cases_lt 0 node) [
        | inl past ↦ (int, to.app_above env node by (core n at function) (core m on argument) some some' int past int_is d d')
        | inr here ↦ absurd (s.no_join (inl (omega arith)))
      ]
  first_step env node by (let_of n at bound m on body) w h s =
      let (some, d) = first_step env n at bound w h (in_bound 0 env node (core n at bound) (core m on body) s) in
      let past_body = weaker (λ i. node < i) (λ i. 0 < i) (λ i less. omega arith) m body s.order.1 in
      let f = above_all K 0 (env ▸ Def env (core n at bound)) m on body int past_body s.plain.1 int_is in
      elim (cases_lt 0 node) [
        | inl past ↦ (int, to.let_above env node by (core n at bound) (core m on body) some int int past int_is d f)
        | inr here ↦ (int, to.let_in env node by (core n at bound) (core m on body) some int here d f)
      ]
  first_step env node by (let_rec_of name name_at n at bound m on body) w h s =
      let (some, d) = first_step (env ▸ Mono int) n at bound (w, int_is) (h, tt) (in_looped 0 env node (core n at bound) (core m on body) name name_at (Mono int) s) in
      let past_body = weaker (λ i. node < i) (λ i. 0 < i) (λ i less. omega arith) m body s.order.1 in
      let f = above_all K 0 (env ▸ Rec env (core n at bound)) m on body int past_body s.plain.1 int_is in
      elim (cases_lt 0 node) [
        | inl past ↦ (int, to.let_rec_above env node by name name_at (core n at bound) (core m on body) int some int int past int_is int_is d f)
        | inr here ↦ absurd (s.no_join (inl (omega arith)))
      ]
  first_step env node by (choice_of dim n at left m on right) w h s = absurd s.plain

  -- whether an application or a `let rec` has the number
  has_join : (k node : ℕ) (form : Form) → HasJoin k node form ⊎ (HasJoin k node form → ⊥)
  has_join k node (Literal l) = inr (λ h. h)
  has_join k node (Name distance) = inr (λ h. h)
  has_join k node (Const id) = inr (λ h. h)
  has_join k node Hole = inr (λ h. h)
  has_join k node (fun_of n at body) = has_join k n body
  has_join k node (app_of n at function m on argument) = either (cases_eq node k) (either (has_join k n function) (has_join k m argument))
  has_join k node (let_of n at bound m on body) = either (has_join k n bound) (has_join k m body)
  has_join k node (let_rec_of name name_at n at bound m on body) = either (cases_eq node k) (either (has_join k n bound) (has_join k m body))
  has_join k node (choice_of dim n at left m on right) = either (has_join k n left) (has_join k m right)

  pub first_is_join : (program : Core) (k : ℕ) → IsPlainForm program.form → IsScoped 0 program.form → HasConstants (length K) program.form → Rise (numbers_of program) → FirstFailing K program k
      → HasJoin k program.node program.form
  first_is_join program k plain scoped constants rise first =
      elim (has_join k program.node program.form) [ inl join ↦ join | inr none ↦ absurd (first.fails (up_to k first.before none)) ]
    where
      sound : (j : ℕ) → (HasJoin j program.node program.form → ⊥) → Sound j Empty program.node program.form
      sound j none = record { plain = plain; scoped = scoped; constants = constants; order = in_order program.node program.form rise; no_join = none }

      up_to : (j : ℕ) → ((m : ℕ) → m < j → IsTypedUpTo K m program) → (HasJoin j program.node program.form → ⊥) → IsTypedUpTo K j program
      up_to zero below none = first_step Empty program.node program.span program.form tt tt (sound 0 none)
      up_to (suc j) below none =
          let (type, d) = below j (omega arith) in
          step j Empty program type d (record { well_formed = tt; within = tt; has_types = tt }) (sound (suc j) none)
