use Rattle.std.proofs.Common.{◌≡◌, ℕ, zero, suc, ◌+◌, ◌<◌, ◌≤◌, List, [], ◌∷◌, ◌++◌, map, drop, length, refl, sym, ap, subst, ◌∙◌, append_assoc, lit<, arith}
use Rattle.std.specs.List.{All}
use Rattle.std.specs.Map.{lookup}
use Rattle.std.specs.Option.{unwrap_or}
use Rattle.std.specs.Str.{bytes_eq}
use Rattle.std.proofs.lemmas.Slice.Eq.{bytes_eq-Decides}
use Rattle.std.proofs.lemmas.List.{append-nil}
use Rattle.vt_type.specs.declared.head.Head.{Head}
use Rattle.vt_type.specs.declared.plain.Plain.{Plain, Var, Con}
use Rattle.vt_type.specs.declared.plain.PlainKids.{PlainKids, Nil}
use Rattle.vt_type.specs.Plain.{arity, kids_of, IsWellFormed, plain_nodes, kids_nodes, substituted, kids_substituted, IsInstance}
use Rattle.vt_type.specs.Canonical.{canonical, first_path, occurrences, kids_occurrences, first_of}
use Rattle.vt_type.specs.Constants.{pair}
use Rattle.vt_type.specs.Laws.{RenamingsShareTheirForm, FormsAreCanonical}
use Rattle.vt_type.proofs.Renaming.{IsInstance-trans}
use Rattle.vt_type.proofs.Substituting.{canonical-well_formed, substituted-well_formed}
use Rattle.vt_store.specs.Ends.{CellEnd, Free, Made, EachCell, IsAcyclic, AreArities, HasArity}
use Rattle.vt_store.specs.Laws.{IsOwnSolution}
use Rattle.vt_store.specs.Solutions.{plain_kids, Fits, Solves, PairReadsAs}
use Rattle.vt_store.specs.Views.{Follows, arrived, onward}
use Rattle.vt_norm.specs.Fronts.{IsTyping}
use Rattle.vt_norm.specs.declared.pairing.Seen.{Seen}
use Rattle.vt_norm.specs.Pairing.{places_of, PlainIsMet, PlainKidsAreMet, IsPlain, ArePlain, IsPlainBeyond, ArePlainBeyond}
use Rattle.vt_store.proofs.Cells.{IsAcyclic-named}
use Rattle.vt_norm.proofs.Spotting.{named-by}
use Rattle.vt_norm.proofs.CanonicalReading.{solves-replaced}

-- Reading a cell at one decision.

-- cells that links lead to have one type
follow-same : (n : ℕ) (e : ℕ → CellEnd) → IsAcyclic n e → (first last : ℕ) → first < n → Follows e first last → (last < n) × ((s : ℕ → Plain) → Solves n e s → s first ≡ s last)
follow-same n e acyclic first last within (arrived own) = (within, λ s solves. refl)
follow-same n e acyclic first last within (onward own next end step rest) =
    let further = follow-same n e acyclic next last (subst (EachCell (λ below. below < n)) step (IsAcyclic-named n e acyclic first within)) rest in
    (further.0, λ s solves. subst (Fits s (s first)) step (solves.fits first within) ∙ further.1 s solves)

nodes-positive : (type : Plain) → 0 < plain_nodes type
nodes-positive (Var name) = lit< tt
nodes-positive (Con top kids) = omega arith

regroup : {X : Type 0} (met one rest later : List X) → (met ++ one) ++ (rest ++ later) ≡ met ++ ((one ++ rest) ++ later)
regroup met one rest later = simp append_assoc

-- as many nodes with other names
mutual
  nodes-renamed : (name_of : List ℕ → List ℕ) (type : Plain) → plain_nodes (substituted (λ name. Var (name_of name)) type) ≡ plain_nodes type
  nodes-renamed name_of (Var name) = refl
  nodes-renamed name_of (Con top kids) = ap (λ count. 1 + count) (kids_nodes-renamed name_of kids)

  kids_nodes-renamed : (name_of : List ℕ → List ℕ) (kids : PlainKids) → kids_nodes (kids_substituted (λ name. Var (name_of name)) kids) ≡ kids_nodes kids
  kids_nodes-renamed name_of Nil = refl
  kids_nodes-renamed name_of (kids_of kid kids) = rw (nodes-renamed name_of kid, kids_nodes-renamed name_of kids) refl

module _ (n : ℕ) (e : ℕ → CellEnd) (acyclic : IsAcyclic n e) (cell : ℕ) (within : cell < n) where
  -- ---- an open cell

  open-type : (last : ℕ) → Follows e cell last → e last ≡ Free → (s : ℕ → Plain) → IsTyping n e s → s cell ≡ Var (last ∷ [])
  open-type last follows free s typing =
      let f = follow-same n e acyclic cell last within follows in f.1 s typing.solves ∙ typing.open_cells last f.0 free

  pub open-met : (last : ℕ) (way : List ℕ) (old new : List (List ℕ × List ℕ)) → Follows e cell last × (e last ≡ Free) → new ≡ old ++ (last ∷ [], way) ∷ [] → PlainIsMet n e cell way old new
  open-met last way old new look is s typing = is ∙ ap (λ type. old ++ occurrences way type) (sym (open-type last look.0 look.1 s typing))

  pub open-built : (last : ℕ) (way path : List ℕ) (old : List (List ℕ × List ℕ)) → Follows e cell last × (e last ≡ Free) → path ≡ unwrap_or (lookup (bytes_eq (last ∷ [])) old) way → IsPlain n e cell way old (Var path)
  open-built last way path old look is s later typing =
      rw (open-type last look.0 look.1 s typing)
      (ap Var (is ∙ sym (named-by (bytes_eq (last ∷ [])) (last ∷ []) way (last ∷ []) old later ((bytes_eq-Decides (last ∷ []) (last ∷ [])).1 refl))))

  -- ---- a head

  module _ (head : Head) (kids : List ℕ) (look : (last : ℕ) × Follows e cell last × (e last ≡ Made head kids)) where
    pub kids-cells : All (λ kid. kid < n) kids
    kids-cells = subst (EachCell (λ below. below < n)) look.2 (IsAcyclic-named n e acyclic look.0 (follow-same n e acyclic cell look.0 within look.1).0)

    pub kids-count : AreArities n e → length kids ≡ arity head
    kids-count arities = subst HasArity look.2 (arities look.0 (follow-same n e acyclic cell look.0 within look.1).0)

    made-type : (s : ℕ → Plain) → IsTyping n e s → s cell ≡ Con head (plain_kids (map s kids))
    made-type s typing =
        let f = follow-same n e acyclic cell look.0 within look.1 in f.1 s typing.solves ∙ subst (Fits s (s look.0)) look.2 (typing.solves.fits look.0 f.0)

    pub made-met : (way : List ℕ) (old new : List (List ℕ × List ℕ)) → PlainKidsAreMet n e kids 0 way old new → PlainIsMet n e cell way old new
    made-met way old new h s typing = h s typing ∙ ap (λ type. old ++ occurrences way type) (sym (made-type s typing))

    pub made-built : (way : List ℕ) (old : List (List ℕ × List ℕ)) (types : PlainKids) → ArePlain n e kids 0 way old types → IsPlain n e cell way old (Con head types)
    made-built way old types h s later typing = rw (made-type s typing) (ap (Con head) (h s later typing))

    pub made-beyond : (room less : ℕ) → room ≤ less + 1 → ArePlainBeyond n e kids less → IsPlainBeyond n e cell room
    made-beyond room less below h s typing = rw (made-type s typing) (omega (arith, h s typing))

-- what is known of the children
pub has-kids : (n : ℕ) (e : ℕ → CellEnd) → IsAcyclic n e → AreArities n e → (cell : ℕ) → cell < n → (head : Head) (kids : List ℕ) → (last : ℕ) × Follows e cell last × (e last ≡ Made head kids) → arity head < 256 → All (λ kid. kid < n) kids × (length kids < 256)
has-kids n e acyclic arities cell within head kids look small =
    let count = kids-count n e acyclic cell within head kids look arities in (kids-cells n e acyclic cell within head kids look, omega arith)

-- ---- children

module _ (n : ℕ) (e : ℕ → CellEnd) where
  module _ (kids : List ℕ) (first : ℕ) (others : List ℕ) (is : kids ≡ first ∷ others) (number : ℕ) (way : List ℕ) (old between : List (List ℕ × List ℕ)) where
    pub more-met : (new : List (List ℕ × List ℕ)) → PlainIsMet n e first (way ++ number ∷ []) old between → PlainKidsAreMet n e others (number + 1) way between new → PlainKidsAreMet n e kids number way old new
    more-met new h k s typing = rw is (k s typing ∙ ap (λ own. own ++ kids_occurrences way (number + 1) (plain_kids (map s others))) (h s typing) ∙ (rw append_assoc refl))

    pub more-built : (one : Plain) (types all : PlainKids) → PlainIsMet n e first (way ++ number ∷ []) old between → IsPlain n e first (way ++ number ∷ []) old one → ArePlain n e others (number + 1) way between types → all ≡ kids_of one types → ArePlain n e kids number way old all
    more-built one types all met h k made s later typing =
        let rest = kids_occurrences way (number + 1) (plain_kids (map s others)) in
        let own = occurrences (way ++ number ∷ []) (s first) in
        let places = old ++ ((own ++ rest) ++ later) in
        let a : one ≡ substituted (first_of places) (s first) = h s (rest ++ later) typing ∙ ap (λ list. substituted (first_of (old ++ list)) (s first)) (sym (append_assoc own rest later)) in
        let b : types ≡ kids_substituted (first_of places) (plain_kids (map s others)) =
        k s later typing ∙ ap (λ list. kids_substituted (first_of list) (plain_kids (map s others))) (ap (λ list. list ++ (rest ++ later)) (met s typing) ∙ regroup old own rest later) in
        rw is (made ∙ (λ i. kids_of (a i) (b i)))

    pub others-beyond : (room less : ℕ) (one : Plain) → IsPlain n e first (way ++ number ∷ []) old one → less + plain_nodes one ≡ room → ArePlainBeyond n e others less → ArePlainBeyond n e kids room
    others-beyond room less one h size k s typing =
        rw is (let count = nodes-renamed (λ name. unwrap_or (lookup (bytes_eq name) (old ++ (occurrences (way ++ number ∷ []) (s first) ++ []))) name) (s first) in omega (arith, k s typing, size, ap plain_nodes (h s [] typing), count))

-- ---- the pair

module _ (shared : RenamingsShareTheirForm) (again : FormsAreCanonical) (n : ℕ) (e : ℕ → CellEnd) (s : ℕ → Plain) (own : IsOwnSolution n e s) (left right : ℕ) (left_within : left < n) (right_within : right < n) where
  abbrev pub naming : List ℕ → Plain
  naming name = Var (first_path (pair (s left) (s right)) name)

  well : IsWellFormed (pair (s left) (s right))
  well = (refl, (own.solves.well_formed left left_within, (own.solves.well_formed right right_within, tt)))

  back : IsInstance (pair (s left) (s right)) (canonical (pair (s left) (s right)))
  back = ((shared (pair (s left) (s right)) (canonical (pair (s left) (s right))) well (canonical-well_formed (pair (s left) (s right)) well)).1 (sym (again (pair (s left) (s right)) well))).0

  special : (t : ℕ → Plain) → Solves n e t → IsInstance (pair (t left) (t right)) (pair (s left) (s right))
  special t solves =
      let g = own.general t solves in
      record { images = g.images; well_formed = g.well_formed; same = (let a = g.same left left_within in let b = g.same right right_within in λ i. pair (a i) (b i)) }

  abbrev pub left-of : Plain
  left-of = substituted naming (s left)

  abbrev pub right-of : Plain
  right-of = substituted naming (s right)

  pub reads-pair : PairReadsAs n e left right (substituted naming (s left)) (substituted naming (s right))
  reads-pair = record {
    given = (λ cell. substituted naming (s cell), solves-replaced n e s naming (λ name. tt) own.solves, refl, refl);
    general = λ t solves. IsInstance-trans (pair (t left) (t right)) (pair (s left) (s right)) (canonical (pair (s left) (s right))) (special t solves) back;
    canonical = again (pair (s left) (s right)) well;
  }

  typing : IsTyping n e s
  typing = record { solves = own.solves; open_cells = own.open_cells }

  pub is-left : (type : Plain) → IsPlain n e left (0 ∷ []) [] type → type ≡ substituted naming (s left)
  is-left type h = h s (occurrences (1 ∷ []) (s right) ++ []) typing

  pub is-right : (type : Plain) (between : List (List ℕ × List ℕ)) → PlainIsMet n e left (0 ∷ []) [] between → IsPlain n e right (1 ∷ []) between type → type ≡ substituted naming (s right)
  is-right type between met h = h s [] typing ∙ ap (λ list. substituted (first_of (list ++ (occurrences (1 ∷ []) (s right) ++ []))) (s right)) (met s typing)

  pub left-well : IsWellFormed (substituted naming (s left))
  left-well = substituted-well_formed naming (λ name. tt) (s left) (own.solves.well_formed left left_within)

  pub right-well : IsWellFormed (substituted naming (s right))
  right-well = substituted-well_formed naming (λ name. tt) (s right) (own.solves.well_formed right right_within)

  pub left-beyond : (limit : ℕ) → IsPlainBeyond n e left limit → limit < plain_nodes (substituted naming (s left))
  left-beyond limit h = omega (arith, h s typing, nodes-renamed (first_path (pair (s left) (s right))) (s left))

  pub right-beyond : (limit : ℕ) → IsPlainBeyond n e right limit → limit < plain_nodes (substituted naming (s right))
  right-beyond limit h = omega (arith, h s typing, nodes-renamed (first_path (pair (s left) (s right))) (s right))

-- one more place
pub places-push : (seen : List Seen) (own : Seen) → places_of (seen ++ own ∷ []) ≡ places_of seen ++ (own.cell ∷ [], own.path) ∷ []
places-push [] own = refl
places-push (first ∷ seen) own = ap (λ rest. (first.cell ∷ [], first.path) ∷ rest) (places-push seen own)
