use Rattle.std.proofs.Common.{◌≡◌, ◌⊎◌, ℕ, zero, suc, ◌+◌, ◌<◌, ◌≤◌, Bool, true, false, cond, eqb, ◌||◌, List, [], ◌∷◌, ◌++◌, length, slice_get, Option, Some, None, refl, ap, sym, subst, ◌∙◌, inl, inr, arith}
use Rattle.std.proofs.lemmas.Bool.{eq-eqb}
use Rattle.std.proofs.lemmas.Bool.Decides.{nat_tests}
use Rattle.std.proofs.lemmas.Option.{same_Some}
use Rattle.vt_dec.specs.declared.side.Side.{Side}
use Rattle.vt_dec.specs.declared.side.Side.TheVariants.{Left, Right}
use Rattle.vt_dec.specs.declared.side.Space.{Space}
use Rattle.vt_diagram.specs.declared.entry.Entry.{Entry}
use Rattle.vt_diagram.specs.declared.parting.Cut.{Cut}
use Rattle.vt_diagram.specs.declared.parting.Part.{Part}
use Rattle.vt_diagram.specs.Parts.{IsCutAt, IsPart, IsParted, has_value, left_over}
use Rattle.vt_diagram.specs.Regions.{Has, IsOf}
use Rattle.vt_diagram.specs.Tables.{Grows, Holds, value_at, tree_at}
use Rattle.vt_diagram.specs.Trees.{Tree, Tip, Fork, value_in, by_side}
use Rattle.vt_diagram.proofs.Growth.{grows_on}
use Rattle.vt_diagram.proofs.Slices.{before_or_last}

-- The parts of a region by the values of a diagram.

-- ---- values that are done

pub eqb-is : (one other : ℕ) → eqb one other ≡ true → one ≡ other
eqb-is one other e = grind (arith, nat_tests)

or-false : (one other : Bool) → (one || other) ≡ false → (one ≡ false) × (other ≡ false)
or-false true other e = absurd cc
or-false false other e = (refl, e)

or-true : (one : Bool) → (one || true) ≡ true
or-true true = refl
or-true false = refl

or-false_both : (one other : Bool) → one ≡ false → other ≡ false → (one || other) ≡ false
or-false_both true other a b = absurd cc
or-false_both false other a b = b

eqb-false : (one other : ℕ) → (one ≡ other → ⊥) → eqb one other ≡ false
eqb-false one other differ = by (eqb one other) refl
  where
    by : (equal : Bool) → eqb one other ≡ equal → eqb one other ≡ false
    by true e = absurd (differ (eqb-is one other e))
    by false e = e

has_value-push : (parts : List Part) (part : Part) (value : ℕ) → has_value (parts ++ part ∷ []) value ≡ (has_value parts value || eqb part.value value)
has_value-push [] part value = by (eqb part.value value)
  where
    by : (equal : Bool) → (equal || false) ≡ equal
    by true = refl
    by false = refl
has_value-push (own ∷ parts) part value = ap (λ rest. eqb own.value value || rest) (has_value-push parts part value) ∙ by (eqb own.value value)
  where
    by : (equal : Bool) → (equal || (has_value parts value || eqb part.value value)) ≡ ((equal || has_value parts value) || eqb part.value value)
    by true = refl
    by false = refl

has_value-at : (parts : List Part) (index : ℕ) (part : Part) → slice_get parts index ≡ Some part → has_value parts part.value ≡ true
has_value-at [] index part is = absurd cc
has_value-at (own ∷ parts) zero part is = ap (λ p. eqb p.value part.value || has_value parts part.value) (same_Some own part is) ∙ ap (λ b. b || has_value parts part.value) (eq-eqb part.value part.value refl)
has_value-at (own ∷ parts) (suc index) part is = ap (λ b. eqb own.value part.value || b) (has_value-at parts index part is) ∙ or-true (eqb own.value part.value)

-- ---- fewer places are left over

module _ (done more : ℕ → Bool) (kept : (value : ℕ) → done value ≡ true → more value ≡ true) where
  left_over-le : (tree : Tree) → left_over more tree ≤ left_over done tree
  left_over-le (Tip value) = by (done value) (more value) refl refl
    where
      by : (a b : Bool) → done value ≡ a → more value ≡ b → cond b 0 1 ≤ cond a 0 1
      by false true e f = omega arith
      by false false e f = omega arith
      by true true e f = omega arith
      by true false e f = absurd (let h = sym (kept value e) ∙ f in cc)
  left_over-le (Fork dim left right) = omega (arith, left_over-le left, left_over-le right)

  pub left_over-less : (d : List Side) (tree : Tree) → done (value_in d tree) ≡ false → more (value_in d tree) ≡ true → left_over more tree < left_over done tree
  left_over-less d (Tip value) new now = subst (λ b. cond (more value) 0 1 < cond b 0 1) (sym new) (subst (λ b. cond b 0 1 < 1) (sym now) (omega arith))
  left_over-less d (Fork dim left right) new now = by (slice_get d dim) new now (left_over-less d left) (left_over-less d right) (left_over-le left) (left_over-le right)
    where
      by : (side : Option Side) → done (by_side side (value_in d left) (value_in d right)) ≡ false → more (by_side side (value_in d left) (value_in d right)) ≡ true
          → (done (value_in d left) ≡ false → more (value_in d left) ≡ true → left_over more left < left_over done left)
          → (done (value_in d right) ≡ false → more (value_in d right) ≡ true → left_over more right < left_over done right) → left_over more left ≤ left_over done left → left_over more right ≤ left_over done right
          → left_over more left + left_over more right < left_over done left + left_over done right
      by None a b l r x y = omega (arith, l a b)
      by (Some Left) a b l r x y = omega (arith, l a b)
      by (Some Right) a b l r x y = omega (arith, r a b)

pub left_over-falls : (parts : List Part) (part : Part) (d : List Side) (tree : Tree) → has_value parts (value_in d tree) ≡ false → part.value ≡ value_in d tree
    → left_over (has_value (parts ++ part ∷ [])) tree < left_over (has_value parts) tree
left_over-falls parts part d tree new is =
    left_over-less (has_value parts) (has_value (parts ++ part ∷ [])) (λ value e. has_value-push parts part value ∙ ap (λ b. b || eqb part.value value) e) d tree new
    (has_value-push parts part (value_in d tree) ∙ ap (λ b. has_value parts (value_in d tree) || b) (eq-eqb part.value (value_in d tree) is) ∙ or-true (has_value parts (value_in d tree)))

-- ---- one part more

module _ (N : ℕ) (space : Space) (old now new : List Entry) (region id rest : ℕ) (parts : List Part) (cut : Cut) (value : ℕ) (d : List Side) (held : Holds old id) (parted : IsParted N space old now region id parts rest)
    (of : IsOf N space d) (member : Has now rest d) (is : value ≡ value_at now id d) (grows : Grows now new) (made : IsCutAt N space now new rest id value cut) where
  abbrev part : Part
  part = record { value = value; region = cut.part }

  same : (e : List Side) → value_at now id e ≡ value_at old id e
  same e = ap (value_in e) (parted.grows.kept id held)

  fresh : has_value parts value ≡ false
  fresh = subst (λ v. has_value parts v ≡ false) (sym (is ∙ same d)) ((parted.rest_is.1 d of).0 member).1

  part_is : IsPart N space old new region id part
  part_is = record {
    region_is = (
      made.part.0,
      λ e own.
          let here = made.part.1 e own in
          let before = parted.rest_is.1 e own in (
            λ has. let both = here.0 has in ((before.0 both.0).0, sym (same e) ∙ both.1),
            λ both. here.1 (before.1 (both.0, subst (λ v. has_value parts v ≡ false) (sym both.1) fresh), same e ∙ both.1),
          ),
    );
    some = (d, of, (made.part.1 d of).1 (member, sym is));
  }

  part_stays : (own : Part) → IsPart N space old now region id own → IsPart N space old new region id own
  part_stays own p =
      let kept = grows.kept own.region p.region_is.0 in
      record {
        region_is = (omega (arith, p.region_is.0, grows.more), λ e of. rw kept (p.region_is.1 e of));
        some = (p.some.0, p.some.1, rw kept p.some.2);
      }

  each : (index : ℕ) (own : Part) → slice_get (parts ++ part ∷ []) index ≡ Some own → IsPart N space old new region id own
  each index own found = by (before_or_last parts part index own found)
    where
      by : (slice_get parts index ≡ Some own) ⊎ ((index ≡ length parts) × (part ≡ own)) → IsPart N space old new region id own
      by (inl before) = part_stays own (parted.pieces.each index own before)
      by (inr last) = subst (IsPart N space old new region id) last.1 part_is

  apart : (index other : ℕ) (one two : Part) → slice_get (parts ++ part ∷ []) index ≡ Some one → slice_get (parts ++ part ∷ []) other ≡ Some two → one.value ≡ two.value → index ≡ other
  apart index other one two a b equal = by (before_or_last parts part index one a) (before_or_last parts part other two b)
    where
      clash : (k : ℕ) (own : Part) → slice_get parts k ≡ Some own → own.value ≡ value → ⊥
      clash k own found e = let h = sym (subst (λ v. has_value parts v ≡ true) e (has_value-at parts k own found)) ∙ fresh in cc

      by : (slice_get parts index ≡ Some one) ⊎ ((index ≡ length parts) × (part ≡ one)) → (slice_get parts other ≡ Some two) ⊎ ((other ≡ length parts) × (part ≡ two)) → index ≡ other
      by (inl x) (inl y) = parted.pieces.apart index other one two x y equal
      by (inl x) (inr y) = absurd (clash index one x (equal ∙ ap (λ p. p.value) (sym y.1)))
      by (inr x) (inl y) = absurd (clash other two y (sym equal ∙ ap (λ p. p.value) (sym x.1)))
      by (inr x) (inr y) = x.0 ∙ sym y.0

  pub parted-more : IsParted N space old new region id (parts ++ part ∷ []) cut.rest
  parted-more = record {
    grows = grows_on old now new parted.grows grows;
    pieces = record { each = each; apart = apart };
    rest_is = (
      made.rest.0,
      λ e own.
          let here = made.rest.1 e own in
          let before = parted.rest_is.1 e own in (
            λ has.
                let both = here.0 has in
                let was = before.0 both.0 in (
                  was.0,
                  has_value-push parts part (value_at old id e) ∙ or-false_both (has_value parts (value_at old id e)) (eqb value (value_at old id e)) was.1
                      (eqb-false value (value_at old id e) (λ equal. both.1 (same e ∙ sym equal))),
                ),
            λ both.
                let split = or-false (has_value parts (value_at old id e)) (eqb value (value_at old id e)) (sym (has_value-push parts part (value_at old id e)) ∙ both.1) in
                here.1 (before.1 (both.0, split.0), λ equal. let hit = sym (eq-eqb value (value_at old id e) (sym equal ∙ same e)) ∙ split.1 in cc),
          ),
    );
  }

  pub left_over-parted : left_over (has_value (parts ++ part ∷ [])) (tree_at new id) < left_over (has_value parts) (tree_at now id)
  left_over-parted =
      let within : id < length now = omega (arith, held, parted.grows.more) in
      subst (λ tree. left_over (has_value (parts ++ part ∷ [])) tree < left_over (has_value parts) (tree_at now id)) (sym (grows.kept id within))
      (left_over-falls parts part d (tree_at now id) (subst (λ v. has_value parts v ≡ false) is fresh) is)
