use Rattle.std.proofs.Common.{◌≡◌, ◌⊎◌, inl, inr, ℕ, ◌<◌, Bool, true, false, cond, List, [], ◌∷◌, ◌++◌, map, Option, Some, None, refl, ap, sym, subst, ◌∙◌, arith}
use Rattle.std.specs.Map.{lookup}
use Rattle.std.specs.Str.{bytes_eq}
use Rattle.std.specs.List.{All}
use Rattle.std.proofs.lemmas.Option.{same_Some}
use Rattle.std.proofs.lemmas.Slice.Eq.{bytes_eq-Decides}
use Rattle.vt_type.specs.declared.head.Head.{Head}
use Rattle.vt_type.specs.declared.plain.Plain.{Plain, Var, Con}
use Rattle.vt_type.specs.declared.plain.PlainKids.{PlainKids, Nil}
use Rattle.vt_type.specs.Plain.{kids_of, IsWellFormed, substituted, kids_substituted}
use Rattle.vt_type.specs.Constants.{Constant, HasClosed}
use Rattle.vt_store.specs.Solutions.{plain_kids}
use Rattle.vt_store.specs.Stores.{Cells, cell_count}
use Rattle.vt_store.specs.Writes.{IsOf}
use Rattle.vt_infer.specs.Steps.{Agree}
use Rattle.vt_infer.specs.Building.{Table, IsMet, AreThere, Match, IsBuilt}
use Rattle.vt_infer.specs.Inferring.{IsNew, IsUse}

-- Types that are built from cells.

-- a table with one more name
met-last : (test : List ℕ → Bool) (name : List ℕ) (cell : ℕ) (table : Table) → lookup test table ≡ None → lookup test (table ++ (name, cell) ∷ []) ≡ cond (test name) (Some cell) None
met-last test name cell [] none = refl
met-last test name cell (entry ∷ table) none = by (test entry.0) none (met-last test name cell table)
  where
    by : (b : Bool) → cond b (Some entry.1) (lookup test table) ≡ None → (lookup test table ≡ None → lookup test (table ++ (name, cell) ∷ []) ≡ cond (test name) (Some cell) None)
        → cond b (Some entry.1) (lookup test (table ++ (name, cell) ∷ [])) ≡ cond (test name) (Some cell) None
    by true none later = absurd (cc)
    by false none later = later none

met-before : (test : List ℕ → Bool) (table more : Table) (cell : ℕ) → lookup test table ≡ Some cell → lookup test (table ++ more) ≡ Some cell
met-before test [] more cell met = absurd (cc)
met-before test (entry ∷ table) more cell met = by (test entry.0) met (met-before test table more cell)
  where
    by : (b : Bool) → cond b (Some entry.1) (lookup test table) ≡ Some cell → (lookup test table ≡ Some cell → lookup test (table ++ more) ≡ Some cell)
        → cond b (Some entry.1) (lookup test (table ++ more)) ≡ Some cell
    by true met later = met
    by false met later = later met

-- who is found in it was found before, or is the last
met-either : (other name : List ℕ) (own cell : ℕ) (table : Table) → IsMet (table ++ (name, own) ∷ []) other cell → IsMet table other cell ⊎ ((other ≡ name) × (cell ≡ own))
met-either other name own cell table met = by (lookup (bytes_eq other) table) refl
  where
    last : (b : Bool) → bytes_eq other name ≡ b → cond b (Some own) None ≡ Some cell → (other ≡ name) × (cell ≡ own)
    last true same is = ((bytes_eq-Decides other name).0 same, sym (same_Some own cell is))
    last false same is = absurd (cc)

    by : (found : Option ℕ) → lookup (bytes_eq other) table ≡ found → IsMet table other cell ⊎ ((other ≡ name) × (cell ≡ own))
    by None none = inr (last (bytes_eq other name) refl (sym (met-last (bytes_eq other) name own table none) ∙ met))
    by (Some first) some = inl (some ∙ sym (met-before (bytes_eq other) table ((name, own) ∷ []) first some) ∙ met)

module _ (N : ℕ) where
  -- a variable that was met
  pub IsBuilt-met : (name : List ℕ) (cell : ℕ) (table : Table) (store : Cells) → AreThere (cell_count store) table → IsMet table name cell
      → IsBuilt N (λ s. s cell) (λ images. images name) table table store store
  IsBuilt-met name cell table store there met = record {
    space = refl;
    grows = omega arith;
    more = λ own other m. m;
    there = there;
    given = λ decision of s solves. (solves, λ images match. sym (match name cell met));
    taken = λ decision of s solves images formed match. (s, solves, (λ own inside. refl), match, sym (match name cell met));
  }

  -- a variable that is met here
  pub IsBuilt-first : (name : List ℕ) (cell : ℕ) (table after : Table) (old new : Cells) → AreThere (cell_count old) table → lookup (bytes_eq name) table ≡ None
      → IsNew N (λ decision s type. IsWellFormed type) cell old new → after ≡ table ++ (name, cell) ∷ []
      → IsBuilt N (λ s. s cell) (λ images. images name) table after old new
  IsBuilt-first name cell table after old new there none is_new is =
      subst (λ own. IsBuilt N (λ s. s cell) (λ images. images name) table own old new) (sym is) (record {
        space = is_new.space;
        grows = is_new.grows;
        more = λ own other met. met-before (bytes_eq own) table ((name, cell) ∷ []) other met;
        there = λ own other met. below own other (met-either own name cell other table met);
        given = λ decision of s solves. ((is_new.adds decision of).old s solves, λ images match. sym (match name cell found));
        taken = λ decision of s solves images formed match.
            let some = (is_new.adds decision of).taken s (images name) solves (formed name) in
            (some.0, some.1, some.2, (λ own other met. matches s images match some.0 some.2 some.3 own other (met-either own name cell other table met)), some.3);
      })
    where
      found : IsMet (table ++ (name, cell) ∷ []) name cell
      found = met-last (bytes_eq name) name cell table none ∙ ap (λ b. cond b (Some cell) None) ((bytes_eq-Decides name name).1 refl)

      below : (own : List ℕ) (other : ℕ) → IsMet table own other ⊎ ((own ≡ name) × (other ≡ cell)) → other < cell_count new
      below own other (inl met) = let inside = there own other met in omega (arith, is_new.grows)
      below own other (inr last) = omega (arith, is_new.is_cell, last.1)

      matches : (s : ℕ → Plain) (images : List ℕ → Plain) → Match table s images → (t : ℕ → Plain) → Agree (cell_count old) s t → t cell ≡ images name
          → (own : List ℕ) (other : ℕ) → IsMet table own other ⊎ ((own ≡ name) × (other ≡ cell)) → images own ≡ t other
      matches s images match t agree is own other (inl met) = match own other met ∙ sym (agree other (there own other met))
      matches s images match t agree is own other (inr last) = ap images last.0 ∙ sym is ∙ ap t (sym last.1)

  -- a head over cells
  pub IsBuilt-con : (head : Head) (kids : PlainKids) (cells : List ℕ) (result : ℕ) (before after : Table) (old middle new : Cells)
      → IsBuilt N (λ s. plain_kids (map s cells)) (λ images. kids_substituted images kids) before after old middle
      → All (λ cell. cell < cell_count middle) cells
      → IsNew N (λ decision s type. type ≡ Con head (plain_kids (map s cells))) result middle new
      → IsBuilt N (λ s. s result) (λ images. substituted images (Con head kids)) before after old new
  IsBuilt-con head kids cells result before after old middle new built inside is_new = record {
    space = is_new.space ∙ built.space;
    grows = omega (arith, built.grows, is_new.grows);
    more = built.more;
    there = λ name cell met. let below = built.there name cell met in omega (arith, is_new.grows);
    given = λ decision of s solves.
        let adds = is_new.adds decision (subst (λ space. IsOf N space decision) (sym built.space) of) in
        let below = built.given decision of s (adds.old s solves) in
        (below.0, λ images match. adds.related s solves ∙ ap (Con head) (below.1 images match));
    taken = λ decision of s solves images formed match.
        let adds = is_new.adds decision (subst (λ space. IsOf N space decision) (sym built.space) of) in
        let first = built.taken decision of s solves images formed match in
        let then = adds.taken first.0 (Con head (plain_kids (map first.0 cells))) first.1 refl in (
          then.0,
          then.1,
          (λ cell below. then.2 cell (omega (arith, built.grows)) ∙ first.2 cell below),
          (λ name cell met. first.3 name cell met ∙ sym (then.2 cell (built.there name cell met))),
          then.3 ∙ ap (Con head) first.4,
        );
  }

  pub IsBuilt-nil : (table : Table) (store : Cells) → AreThere (cell_count store) table → IsBuilt N (λ s. plain_kids (map s [])) (λ images. kids_substituted images Nil) table table store store
  IsBuilt-nil table store there = record {
    space = refl;
    grows = omega arith;
    more = λ own other m. m;
    there = there;
    given = λ decision of s solves. (solves, λ images match. refl);
    taken = λ decision of s solves images formed match. (s, solves, (λ own inside. refl), match, refl);
  }

  pub IsBuilt-more : (kid : Plain) (kids : PlainKids) (cell : ℕ) (cells : List ℕ) (before between after : Table) (old middle new : Cells)
      → IsBuilt N (λ s. s cell) (λ images. substituted images kid) before between old middle → cell < cell_count middle
      → IsBuilt N (λ s. plain_kids (map s cells)) (λ images. kids_substituted images kids) between after middle new
      → IsBuilt N (λ s. plain_kids (map s (cell ∷ cells))) (λ images. kids_substituted images (kids_of kid kids)) before after old new
  IsBuilt-more kid kids cell cells before between after old middle new one inside others = record {
    space = others.space ∙ one.space;
    grows = omega (arith, one.grows, others.grows);
    more = λ name own met. others.more name own (one.more name own met);
    there = others.there;
    given = λ decision of s solves.
        let later = others.given decision (subst (λ space. IsOf N space decision) (sym one.space) of) s solves in
        let first = one.given decision of s later.0 in (
          first.0,
          λ images match.
              let here = first.1 images (λ name own met. match name own (others.more name own met)) in
              let rest = later.1 images match in
              (λ i. kids_of (here i) (rest i)),
        );
    taken = λ decision of s solves images formed match.
        let first = one.taken decision of s solves images formed match in
        let then = others.taken decision (subst (λ space. IsOf N space decision) (sym one.space) of) first.0 first.1 images formed first.3 in
        let here = then.2 cell inside ∙ first.4 in
        let rest = then.4 in
        (then.0, then.1, (λ own below. then.2 own (omega (arith, one.grows)) ∙ first.2 own below), then.3, (λ i. kids_of (here i) (rest i)));
  }

  -- the image of a variable is the type of its cell
  abbrev image : Option ℕ → (ℕ → Plain) → List ℕ → Plain
  image None s name = Var name
  image (Some cell) s name = s cell

  -- a whole closed type
  pub IsUse-built : (K : List Constant) (id : ℕ) (closed : Plain) (result : ℕ) (after : Table) (old new : Cells) → HasClosed K id closed
      → IsBuilt N (λ s. s result) (λ images. substituted images closed) [] after old new → result < cell_count new
      → IsUse N K id result old new
  IsUse-built K id closed result after old new has built inside = record {
    closed = closed;
    has_closed = has;
    is_new = record {
      space = built.space;
      grows = built.grows;
      is_cell = inside;
      adds = λ decision of. record {
        grows = built.grows;
        is_cell = inside;
        old = λ s solves. (built.given decision of s solves).0;
        related = λ s solves. record {
          images = λ name. image (lookup (bytes_eq name) after) s name;
          well_formed = λ name. formed s solves.well_formed name (lookup (bytes_eq name) after) refl;
          same = sym ((built.given decision of s solves).1 (λ name. image (lookup (bytes_eq name) after) s name) (λ name cell met. ap (λ found. image found s name) met));
        };
        taken = λ s type solves instance.
            let found = built.taken decision of s solves instance.images instance.well_formed (λ name cell met. absurd (nothing cell met)) in
            (found.0, found.1, found.2, found.4 ∙ instance.same);
      };
    };
  }
    where
      nothing : (cell : ℕ) → None ≡ Some cell → ⊥
      nothing cell met = cc

      formed : (s : ℕ → Plain) → ((cell : ℕ) → cell < cell_count new → IsWellFormed (s cell)) → (name : List ℕ) (found : Option ℕ) → lookup (bytes_eq name) after ≡ found → IsWellFormed (image found s name)
      formed s all name None is = tt
      formed s all name (Some cell) is = all cell (built.there name cell is)
