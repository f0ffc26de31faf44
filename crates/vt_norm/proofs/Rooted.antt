use Rattle.std.proofs.Common.{◌≡◌, ◌≢◌, ℕ, zero, suc, ◌<◌, ◌≤◌, inl, inr, List, [], ◌∷◌, length, Option, Some, None, slice_get, slice_set, refl, sym, ap, subst, ◌∙◌, arith}
use Rattle.std.specs.Option.{unwrap_or}
use Rattle.std.proofs.lemmas.Bool.{cases_eq}
use Rattle.std.proofs.lemmas.Option.{slice_get_within}
use Rattle.vt_dec.specs.declared.side.Side.{Side}
use Rattle.vt_dec.specs.declared.side.Side.TheVariants.{Left, Right}
use Rattle.vt_dec.specs.Decisions.{Agrees}
use Rattle.vt_type.specs.declared.head.Head.{Head}
use Rattle.vt_type.specs.declared.plain.Plain.{Plain}
use Rattle.vt_type.specs.declared.vtype.VType.{VType, Var, Con, Err}
use Rattle.vt_type.specs.declared.vtype.VKids.{VKids}
use Rattle.vt_type.specs.Plain.{arity}
use Rattle.vt_type.specs.Variational.{choice, vkid_count}
use Rattle.vt_type.specs.NormalForm.{Map, Decisions, Root, root, Taking, DependsOn, IsNormalForm, AreNormalForms}
use Rattle.vt_type.specs.NormalForm as form
use Rattle.vt_norm.specs.declared.root.Top.{Top}
use Rattle.vt_norm.specs.declared.root.Top.TheVariants.{Made, Named, Wrong}
use Rattle.vt_norm.specs.declared.diagram.Diagram.{Diagram, Leaf}
use Rattle.vt_norm.specs.Diagrams.{node, shown, at, Asks, AsksOnce, least, first}
use Rattle.vt_norm.specs.Names.{IsOpenTree}
use Rattle.vt_norm.specs.Sides.{taken_side}
use Rattle.vt_norm.proofs.Roots.{same_roots, depends_on_none}
use Rattle.vt_norm.proofs.Tops.{shown-one}
use Rattle.vt_norm.proofs.Taking.{with, with-here, with-there, at-agree}
use Rattle.vt_norm.proofs.Least.{Depends, least-none, least-some, least-least}
use Rattle.vt_norm.proofs.Sets.{sides-set_here, sides-set_other}
use Rattle.vt_norm.proofs.Deciding.{agrees-open, some-agrees}

-- What a diagram that asks only open dimensions says of the one normal form over a part.

get-set-part : (part : List (Option Side)) (dim : ℕ) (own : Option Side) → dim < length part → slice_get (slice_set part dim own) dim ≡ Some own
get-set-part [] dim own below = absurd (omega arith)
get-set-part (x ∷ part) zero own below = refl
get-set-part (x ∷ part) (suc dim) own below = get-set-part part dim own (omega arith)

-- what is open once a side is taken was open before
open-before : (part : List (Option Side)) (dim other : ℕ) (side : Side) → slice_get (slice_set part dim (Some side)) other ≡ Some None → slice_get part other ≡ Some None
open-before [] dim other side e = e
open-before (x ∷ part) zero zero side e = let f : Some (Some side) ≡ Some None = e in absurd (cc)
open-before (x ∷ part) zero (suc other) side e = e
open-before (x ∷ part) (suc dim) zero side e = e
open-before (x ∷ part) (suc dim) (suc other) side e = open-before part dim other side e

-- what it asks is open
pub asks-open : (part : List (Option Side)) (tree : Diagram) (dim : ℕ) → IsOpenTree part tree → Asks dim tree → slice_get part dim ≡ Some None
asks-open part (Leaf top) dim h a = absurd a
asks-open part (node own left right) dim h (inl e) = rw e h.0
asks-open part (node own left right) dim h (inr (inl a)) = open-before part own dim Left (asks-open (slice_set part own (Some Left)) left dim h.1 a)
asks-open part (node own left right) dim h (inr (inr a)) = open-before part own dim Right (asks-open (slice_set part own (Some Right)) right dim h.2 a)

not-again : (part : List (Option Side)) (tree : Diagram) (dim : ℕ) (side : Side) → slice_get part dim ≡ Some None → IsOpenTree (slice_set part dim (Some side)) tree → Asks dim tree → ⊥
not-again part tree dim side e h a =
    let below : dim < length part = slice_get_within _ _ _ e in
    let f = asks-open (slice_set part dim (Some side)) tree dim h a in
    let g = get-set-part part dim (Some side) below in
    cc

pub asks-once : (part : List (Option Side)) (tree : Diagram) → IsOpenTree part tree → AsksOnce tree
asks-once part (Leaf top) h = tt
asks-once part (node dim left right) h =
    (not-again part left dim Left h.0 h.1, not-again part right dim Right h.0 h.2, asks-once (slice_set part dim (Some Left)) left h.1, asks-once (slice_set part dim (Some Right)) right h.2)

-- the decision of the part that takes these sides of what is open
abbrev fill : List (Option Side) → (ℕ → Side) → List Side
fill [] sides = []
fill (None ∷ part) sides = sides 0 ∷ fill part (λ n. sides (suc n))
fill (Some side ∷ part) sides = side ∷ fill part (λ n. sides (suc n))

agrees-fill : (part : List (Option Side)) (sides : ℕ → Side) → Agrees part (fill part sides)
agrees-fill [] sides = tt
agrees-fill (None ∷ part) sides = agrees-fill part (λ n. sides (suc n))
agrees-fill (Some side ∷ part) sides = (refl, agrees-fill part (λ n. sides (suc n)))

get-fill : (part : List (Option Side)) (sides : ℕ → Side) (dim : ℕ) → slice_get part dim ≡ Some None → slice_get (fill part sides) dim ≡ Some (sides dim)
get-fill [] sides dim e = absurd (cc)
get-fill (None ∷ part) sides zero e = refl
get-fill (Some side ∷ part) sides zero e = let f : Some (Some side) ≡ Some None = e in absurd (cc)
get-fill (None ∷ part) sides (suc dim) e = get-fill part (λ n. sides (suc n)) dim e
get-fill (Some side ∷ part) sides (suc dim) e = get-fill part (λ n. sides (suc n)) dim e

taken-fill : (part : List (Option Side)) (sides : ℕ → Side) (dim : ℕ) → slice_get part dim ≡ Some None → taken_side (fill part sides) dim ≡ sides dim
taken-fill part sides dim e = ap (λ s. unwrap_or s Left) (get-fill part sides dim e)

module _ (part : List (Option Side)) (tree : Diagram) (f : List Side → Option Plain)
    (opens : IsOpenTree part tree) (shows : (d : List Side) → Agrees part d → root (f d) ≡ shown (at (taken_side d) tree)) where
  -- the map
  abbrev map_f : Map
  map_f d found = f d ≡ found

  single : (d : List Side) (one other : Option Plain) → map_f d one → map_f d other → one ≡ other
  single d one other h k = sym h ∙ k

  -- ---- no dimension

  constant : (top : Top) → least tree ≡ None → first tree ≡ top → form.AllHaveRoot map_f (Agrees part) (shown top)
  constant top none e d a = (f d, refl, shows d a ∙ ap shown (least-none tree (taken_side d) none ∙ e))

  some-d : (d : List Side) × Agrees part d
  some-d = some-agrees part

  pub no-choice : (top : Top) (dim : ℕ) (left right : VType) → least tree ≡ None → first tree ≡ top → IsNormalForm (choice dim left right) map_f (Agrees part) → ⊥
  no-choice top dim left right none e h = depends_on_none map_f (Agrees part) single (shown top) dim (constant top none e) h.0.0

  same-root : (top : Top) (r : Root) → least tree ≡ None → first tree ≡ top → form.AllHaveRoot map_f (Agrees part) r → shown top ≡ r
  same-root top r none e all = same_roots map_f (Agrees part) single some-d.0 some-d.1 (shown top) r (constant top none e) all

  pub is-named : (name : List ℕ) (w : VType) → least tree ≡ None → first tree ≡ Named name → IsNormalForm w map_f (Agrees part) → w ≡ Var name
  is-named name (Var own) none e h = let s = same-root (Named name) _ none e h in cc
  is-named name (Con top kids) none e h = let s = same-root (Named name) _ none e h.0 in cc
  is-named name (choice dim left right) none e h = absurd (no-choice (Named name) dim left right none e h)
  is-named name Err none e h = let s = same-root (Named name) _ none e h in cc

  pub is-wrong : (w : VType) → least tree ≡ None → first tree ≡ Wrong → IsNormalForm w map_f (Agrees part) → w ≡ Err
  is-wrong (Var own) none e h = let s = same-root Wrong _ none e h in cc
  is-wrong (Con top kids) none e h = let s = same-root Wrong _ none e h.0 in cc
  is-wrong (choice dim left right) none e h = absurd (no-choice Wrong dim left right none e h)
  is-wrong Err none e h = refl

  pub is-made : (head : Head) (w : VType) → least tree ≡ None → first tree ≡ Made head → IsNormalForm w map_f (Agrees part) → (kids : VKids) × (w ≡ Con head kids) × (vkid_count kids ≡ arity head) × AreNormalForms kids 0 map_f (Agrees part)
  is-made head (Var own) none e h = let s = same-root (Made head) _ none e h in absurd (cc)
  is-made head (Con top kids) none e h =
      let s : form.Made head (arity head) ≡ form.Made top (vkid_count kids) = same-root (Made head) _ none e h.0 in
      let heads : top ≡ head = cc in
      (kids, ap (λ x. Con x kids) heads, cc, h.1)
  is-made head (choice dim left right) none e h = absurd (no-choice (Made head) dim left right none e h)
  is-made head Err none e h = let s = same-root (Made head) _ none e h in absurd (cc)

  -- ---- the least dimension

  agree-with : (sides : ℕ → Side) (dim : ℕ) (side : Side) (d : List Side) → taken_side d dim ≡ side → ((other : ℕ) → other ≢ dim → slice_get part other ≡ Some None → taken_side d other ≡ sides other) → at (taken_side d) tree ≡ at (with sides dim side) tree
  agree-with sides dim side d here others =
      at-agree _ _ tree (λ asked a. elim (cases_eq asked dim) [
        | inl e ↦ rw (e, with-here sides dim side) here
        | inr ne ↦ others asked ne (asks-open part tree asked opens a) ∙ sym (with-there sides dim side asked ne)
      ])

  depends : (dim : ℕ) → Depends dim tree → DependsOn map_f (Agrees part) dim
  depends dim (asked, (sides, apart)) =
      let o = asks-open part tree dim opens asked in
      let one = fill part (with sides dim Left) in
      let inside = agrees-fill part (with sides dim Left) in
      let other = slice_set one dim Right in
      let got : slice_get one dim ≡ Some Left = get-fill part (with sides dim Left) dim o ∙ ap Some (with-here sides dim Left) in
      let below : dim < length one = slice_get_within _ _ _ got in
      let left = agree-with sides dim Left one (ap (λ s. unwrap_or s Left) got) (λ d ne p. taken-fill part (with sides dim Left) d p ∙ with-there sides dim Left d ne) in
      let right = agree-with sides dim Right other (sides-set_here one dim Right below) (λ d ne p. sides-set_other one dim d Right ne ∙ taken-fill part (with sides dim Left) d p ∙ with-there sides dim Left d ne) in
      let within = agrees-open part one dim Right inside o in (
        one,
        got,
        inside,
        within,
        root (f one),
        root (f other),
        (f one, refl, refl),
        (f other, refl, refl),
        λ e. apart (sym left ∙ shown-one _ _ (sym (shows one inside) ∙ e ∙ shows other within) ∙ right),
      )

  bound : (dim other : ℕ) → least tree ≡ Some dim → DependsOn map_f (Agrees part) other → dim ≤ other
  bound dim other e (d, left, inside, also, one, two, first_root, second_root, apart) =
      let below : other < length d = slice_get_within _ _ _ left in
      let changed = slice_set d other Right in
      let differs : at (taken_side d) tree ≢ at (taken_side changed) tree =
      λ same. apart (sym first_root.2 ∙ ap root (sym first_root.1) ∙ shows d inside ∙ ap shown same ∙ sym (shows changed also) ∙ ap root second_root.1 ∙ second_root.2) in
      let found = least-least tree other (taken_side d) (taken_side changed) (asks-once part tree opens) (ap (λ s. unwrap_or s Left) left) (sides-set_here d other Right below) (λ asked ne. sym (sides-set_other d other asked Right ne)) differs in
      rw e at found

  pub is-choice : (dim : ℕ) (w : VType) → least tree ≡ Some dim → IsNormalForm w map_f (Agrees part) → (left right : VType) × (w ≡ choice dim left right) × IsNormalForm left map_f (Taking (Agrees part) dim Left) × IsNormalForm right map_f (Taking (Agrees part) dim Right)
  is-choice dim (Var own) e h = absurd (depends_on_none map_f (Agrees part) single _ dim h (depends dim (least-some tree dim (asks-once part tree opens) e)))
  is-choice dim (Con top kids) e h = absurd (depends_on_none map_f (Agrees part) single _ dim h.0 (depends dim (least-some tree dim (asks-once part tree opens) e)))
  is-choice dim Err e h = absurd (depends_on_none map_f (Agrees part) single _ dim h (depends dim (least-some tree dim (asks-once part tree opens) e)))
  is-choice dim (choice own left right) e h =
      let d = depends dim (least-some tree dim (asks-once part tree opens) e) in
      let same : own ≡ dim = omega (arith, bound dim own e h.0.0, h.0.1 dim d) in
      (left, right, ap (λ n. choice n left right) same, subst (λ n. IsNormalForm left map_f (Taking (Agrees part) n Left)) same h.1, subst (λ n. IsNormalForm right map_f (Taking (Agrees part) n Right)) same h.2)
