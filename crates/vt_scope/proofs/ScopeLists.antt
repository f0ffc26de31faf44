use Rattle.std.proofs.Common.{◌≡◌, ℕ, zero, suc, ◌+◌, ◌<◌, ◌≤◌, nat_lt, Bool, true, false, ◌||◌, List, [], ◌∷◌, ◌++◌, length, slice_get, is_some, Option, Some, None, refl, ap, sym, subst, ◌∙◌, true≢false, if◌then◌else◌, arith}
use Rattle.std.specs.List.{list_any}
use Rattle.std.specs.Option.{option_map}
use Rattle.std.specs.Str.{bytes_eq}
use Rattle.std.proofs.lemmas.Bool.{or_right}
use Rattle.std.proofs.lemmas.Option.{none-some, same_Some}
use Rattle.std.proofs.lemmas.Bool.Decides.{nat_tests}
use Rattle.std.proofs.lemmas.Slice.Eq.{bytes_eq-Decides}
use Rattle.vt_lex.specs.declared.span.Span.{Span}
use Rattle.vt_type.specs.Constants.{Constant, HasName}
use Rattle.vt_scope.specs.declared.fault.ScopeFault.TheVariants.{TooManyDimensions, Unbound}
use Rattle.vt_scope.specs.declared.scope.Binder.{Binder}
use Rattle.vt_scope.specs.declared.scope.Found.{Found}
use Rattle.vt_scope.specs.declared.walk.Walk.{Walk}
use Rattle.vt_scope.specs.Scopes.{found, further, is_written, is_constant}
use Rattle.vt_scope.specs.Faults.{Dimension, Nameless, name_events, with_dim, refused, first_fault, most_dims}

-- Looking up binders, constants and dimensions.

-- so many binders further away
abbrev pub away : ℕ → Found → Found
away count binder = record binder { distance = binder.distance + count }

-- a distance is that of one of the binders
pub found_within : (s : List Binder) (name : List ℕ) (binder : Found) → found s name ≡ Some binder → binder.distance < length s
found_within [] name binder h = absurd (none-some binder h)
found_within (x ∷ s) name binder h = by (bytes_eq x.name name) (found s name) refl (found_within s name) h
  where
    by : (b : Bool) (o : Option Found) → found s name ≡ o → ((one : Found) → found s name ≡ Some one → one.distance < length s) → (if b then Some (record { distance = 0; class = x.class }) else option_map further o) ≡ Some binder → binder.distance < length (x ∷ s)
    by true o e within k = let zero_is : 0 ≡ binder.distance = ap (λ u. u.distance) (same_Some _ binder k) in omega (arith, zero_is)
    by false None e within k = absurd (none-some binder k)
    by false (Some one) e within k =
        let before = within one e in
        let more : suc one.distance ≡ binder.distance = ap (λ u. u.distance) (same_Some _ binder k) in
        omega (arith, before, more)

-- a constant of this name
has-constant : (constants : List Constant) (id : ℕ) (name : List ℕ) → HasName constants id name → is_constant constants name ≡ true
has-constant [] id name has = absurd (none-some (Some name) has)
has-constant (constant ∷ constants) zero name has =
    let own : is_written name constant.name ≡ true = subst (λ n. is_written name n ≡ true) (sym (same_Some constant.name (Some name) has)) ((bytes_eq-Decides name name).1 refl) in
    ap (λ b. b || is_constant constants name) own
has-constant (constant ∷ constants) (suc id) name has = or_right (is_written name constant.name) (is_constant constants name) (has-constant constants id name has)

written-is : (name : List ℕ) (own : Option (List ℕ)) → is_written name own ≡ true → own ≡ Some name
written-is name (Some text) h = ap Some ((bytes_eq-Decides text name).0 h)
written-is name None h = absurd (true≢false (sym h))

no-constant : (constants : List Constant) (name : List ℕ) → ((id : ℕ) → HasName constants id name → ⊥) → is_constant constants name ≡ false
no-constant [] name none = refl
no-constant (constant ∷ constants) name none = by (is_written name constant.name) refl (no-constant constants name (λ id has. none (suc id) has))
  where
    by : (b : Bool) → is_written name constant.name ≡ b → is_constant constants name ≡ false → (b || is_constant constants name) ≡ false
    by true e rest = absurd (none 0 (ap Some (written-is name constant.name e)))
    by false e rest = rest

module _ (constants : List Constant) (s : List Binder) (at : Span) (name : List ℕ) where
  pub found_events : (binder : Found) → found s name ≡ Some binder → name_events constants s at name ≡ []
  found_events binder is = ap (λ o. if is_some o || is_constant constants name then [] else (Nameless at ∷ [])) is

  pub constant_events : (id : ℕ) → HasName constants id name → name_events constants s at name ≡ []
  constant_events id has = by (is_some (found s name))
    where
      by : (b : Bool) → (if b || is_constant constants name then [] else (Nameless at ∷ [])) ≡ []
      by true = refl
      by false = ap (λ b. if b then [] else (Nameless at ∷ [])) (has-constant constants id name has)

  pub unbound_events : (dims : List (List ℕ)) → found s name ≡ None → ((id : ℕ) → HasName constants id name → ⊥) → first_fault dims (name_events constants s at name) ≡ Some (Unbound at)
  unbound_events dims is none =
      ap (first_fault dims)
      (ap (λ o. if is_some o || is_constant constants name then [] else (Nameless at ∷ [])) is
      ∙ ap (λ b. if b then [] else (Nameless at ∷ [])) (no-constant constants name none))

-- a name among the dimensions
pub any-at : (dims : List (List ℕ)) (n : ℕ) (name : List ℕ) → slice_get dims n ≡ Some name → list_any (bytes_eq name) dims ≡ true
any-at [] n name h = absurd (none-some name h)
any-at (own ∷ dims) zero name h = ap (λ b. b || list_any (bytes_eq name) dims) ((bytes_eq-Decides name own).1 (sym (same_Some own name h)))
any-at (own ∷ dims) (suc n) name h = or_right (bytes_eq name own) (list_any (bytes_eq name) dims) (any-at dims n name h)

none-any : (dims : List (List ℕ)) (name : List ℕ) → ((n : ℕ) → slice_get dims n ≡ Some name → ⊥) → list_any (bytes_eq name) dims ≡ false
none-any [] name none = refl
none-any (own ∷ dims) name none = by (bytes_eq name own) refl (none-any dims name (λ n h. none (suc n) h))
  where
    by : (b : Bool) → bytes_eq name own ≡ b → list_any (bytes_eq name) dims ≡ false → (b || list_any (bytes_eq name) dims) ≡ false
    by true e rest = absurd (none 0 (ap Some (sym ((bytes_eq-Decides name own).0 e))))
    by false e rest = rest

-- whether there is room for one dimension more, as a test
pub full_test : (n : ℕ) → 64 ≤ n → nat_lt n most_dims ≡ false
full_test n h = grind (arith, nat_tests)

pub room_test : (n : ℕ) → n < 64 → nat_lt n most_dims ≡ true
room_test n h = grind (arith, nat_tests)

module _ (walk : Walk) (name : List ℕ) (at : Span) where
  pub dimension_known : (n : ℕ) → slice_get walk.dims n ≡ Some name
      → (slice_get walk.dims n ≡ Some name) × (walk ≡ record walk { dims = with_dim walk.dims name }) × (refused walk.dims (Dimension name at) ≡ None)
  dimension_known n h =
      let known = any-at walk.dims n name h in (
        h,
        ap (λ b. record walk { dims = (if b then walk.dims else (walk.dims ++ name ∷ [])) }) (sym known),
        ap (λ b. if b || nat_lt (length walk.dims) most_dims then None else Some (TooManyDimensions at)) known,
      )

  pub dimension_refused : ((n : ℕ) → slice_get walk.dims n ≡ Some name → ⊥) → nat_lt (length walk.dims) most_dims ≡ false → first_fault walk.dims (Dimension name at ∷ []) ≡ Some (TooManyDimensions at)
  dimension_refused none full = rw (none-any walk.dims name none, full) refl

  pub dimension_new : (n : ℕ) (dims : List (List ℕ)) → ((n : ℕ) → slice_get walk.dims n ≡ Some name → ⊥) → nat_lt (length walk.dims) most_dims ≡ true
      → slice_get dims n ≡ Some name → dims ≡ walk.dims ++ name ∷ []
      → (slice_get dims n ≡ Some name) × (record walk { dims = dims } ≡ record walk { dims = with_dim walk.dims name }) × (refused walk.dims (Dimension name at) ≡ None)
  dimension_new n dims none room h is = (
    h,
    ap (λ all. record walk { dims = all }) (is ∙ ap (λ b. if b then walk.dims else (walk.dims ++ name ∷ [])) (sym (none-any walk.dims name none))),
    rw (none-any walk.dims name none, room) refl,
  )
