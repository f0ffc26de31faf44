use Rattle.std.proofs.Common.{◌≡◌, ℕ, ◌+◌, ◌<◌, List, [], ◌∷◌, map, refl, sym, ap, subst, ◌∙◌}
use Rattle.vt_type.specs.declared.plain.Plain.{Plain, Var, Con}
use Rattle.vt_type.specs.Plain.{kids_of, IsWellFormed, substituted, kids_substituted, IsInstance}
use Rattle.vt_type.specs.Canonical.{canonical, first_path}
use Rattle.vt_type.specs.Laws.{RenamingsShareTheirForm, FormsAreCanonical}
use Rattle.vt_type.proofs.Renaming.{IsInstance-trans}
use Rattle.vt_type.proofs.Substituting.{canonical-well_formed, substituted-well_formed}
use Rattle.vt_store.specs.Ends.{CellEnd, Free, Same, Made}
use Rattle.vt_store.specs.Laws.{IsOwnSolution}
use Rattle.vt_store.specs.Solutions.{plain_kids, Fits, Solves, ReadsAs}

-- A cell reads as the canonical form of its type in a most general solution, and as nothing else.

-- ---- a solution in which the variables are replaced

kids-of-images : (images : List ℕ → Plain) (s : ℕ → Plain) (cells : List ℕ) → kids_substituted images (plain_kids (map s cells)) ≡ plain_kids (map (λ cell. substituted images (s cell)) cells)
kids-of-images images s [] = refl
kids-of-images images s (cell ∷ cells) = ap (kids_of (substituted images (s cell))) (kids-of-images images s cells)

fits-replaced : (images : List ℕ → Plain) (s : ℕ → Plain) (type : Plain) (end : CellEnd) → Fits s type end → Fits (λ cell. substituted images (s cell)) (substituted images type) end
fits-replaced images s type Free h = tt
fits-replaced images s type (Same cell) h = ap (substituted images) h
fits-replaced images s type (Made head cells) h = ap (substituted images) h ∙ ap (Con head) (kids-of-images images s cells)

pub solves-replaced : (n : ℕ) (e : ℕ → CellEnd) (s : ℕ → Plain) (images : List ℕ → Plain) → ((name : List ℕ) → IsWellFormed (images name)) → Solves n e s → Solves n e (λ cell. substituted images (s cell))
solves-replaced n e s images w h = record {
  well_formed = λ cell within. substituted-well_formed images w (s cell) (h.well_formed cell within);
  fits = λ cell within. fits-replaced images s (s cell) (e cell) (h.fits cell within);
}

-- ---- what a cell reads as

module _ (shared : RenamingsShareTheirForm) (again : FormsAreCanonical) (n : ℕ) (e : ℕ → CellEnd) (s : ℕ → Plain) (own : IsOwnSolution n e s) (root : ℕ) (within : root < n) where
  well : IsWellFormed (s root)
  well = own.solves.well_formed root within

  -- the type is an instance of its canonical form
  back : IsInstance (s root) (canonical (s root))
  back = ((shared (s root) (canonical (s root)) well (canonical-well_formed (s root) well)).1 (sym (again (s root) well))).0

  special : (t : ℕ → Plain) → Solves n e t → IsInstance (t root) (s root)
  special t solves = let g = own.general t solves in record { images = g.images; well_formed = g.well_formed; same = g.same root within }

  pub reads-canonical : ReadsAs n e root (canonical (s root))
  reads-canonical = record {
    given = (λ cell. substituted (λ name. Var (first_path (s root) name)) (s cell), solves-replaced n e s (λ name. Var (first_path (s root) name)) (λ name. tt) own.solves, refl);
    general = λ t solves. IsInstance-trans (t root) (s root) (canonical (s root)) (special t solves) back;
    canonical = again (s root) well;
  }

  pub reads-only : (type : Plain) → ReadsAs n e root type → type ≡ canonical (s root)
  reads-only type h =
      let g = h.given in
      let one : IsInstance type (s root) = subst (λ t. IsInstance t (s root)) g.2 (special g.0 g.1) in
      let well_type : IsWellFormed type = subst IsWellFormed g.2 (g.1.well_formed root within) in
      let other : IsInstance (s root) type = h.general s own.solves in
      sym h.canonical ∙ (shared type (s root) well_type well).0 (one, other)
