use Rattle.std.proofs.Common.{◌≡◌, ◌↔◌, ℕ, ◌+◌, ◌-◌, ◌<◌, ◌≤◌, List, [], ◌∷◌, ◌++◌, map, length, get_or, Option, Some, None, slice_get, slice_set, refl, sym, ap, ◌∙◌, append_assoc, arith}
use Rattle.std.specs.Option.{option_map}
use Rattle.std.proofs.lemmas.List.{append-nil}
use Rattle.std.proofs.lemmas.Option.{slice_get-get_or}
use Rattle.vt_dec.specs.declared.side.Side.{Side}
use Rattle.vt_dec.specs.declared.side.Side.TheVariants.{Left, Right}
use Rattle.vt_dec.specs.Decisions.{Agrees}
use Rattle.vt_type.specs.declared.head.Head.{Head}
use Rattle.vt_type.specs.declared.plain.Plain.{Plain}
use Rattle.vt_type.specs.declared.plain.Plain as plain
use Rattle.vt_type.specs.declared.vtype.VType.{VType, Var, Con, Err}
use Rattle.vt_type.specs.declared.vtype.VKids.{VKids, Nil}
use Rattle.vt_type.specs.declared.plain.PlainKids.{PlainKids}
use Rattle.vt_type.specs.Plain.{arity, substituted, kids_substituted}
use Rattle.vt_type.specs.Canonical.{kids_occurrences, first_of}
use Rattle.vt_type.specs.NormalForm.{Map, Taking, root, Kid, kid_at, IsNormalForm}
use Rattle.vt_type.specs.Variational.{vkids_of, choice, nodes}
use Rattle.vt_store.specs.Solutions.{plain_kids}
use Rattle.vt_store.specs.Stores.{Cells, cell_count, ends_at}
use Rattle.vt_norm.specs.declared.front.Front.{Front}
use Rattle.vt_norm.specs.declared.names.Met.{Met}
use Rattle.vt_norm.specs.declared.root.Top.{Top}
use Rattle.vt_norm.specs.declared.root.Top.TheVariants as top
use Rattle.vt_norm.specs.declared.diagram.Diagram.{Diagram}
use Rattle.vt_norm.specs.Diagrams.{shown, at, least, first}
use Rattle.vt_norm.specs.Sides.{taken_side}
use Rattle.vt_norm.specs.Fronts.{spot_at, spot_type, spot_kids, occurring, HaveCells, IsTyping, Typing, Naming, outcome, map_at}
use Rattle.vt_norm.specs.Names.{met_at, name_at, top_of, IsTopTree, IsNoted}
use Rattle.vt_norm.specs.Resolving.{IsBelow}
use Rattle.vt_norm.specs.Readings.{ArePlaces, AreMade, AreMet, KidsAreMet, IsReading, IsOnlyForm, AreOnlyForms, IsBeyond, KidsAreBeyond, places_of, kids_places_of}
use Rattle.vt_norm.proofs.Building.{nodes-positive}
use Rattle.vt_norm.proofs.Congruence.{for_same_outcomes, for_same_decisions}
use Rattle.vt_norm.proofs.Deciding.{agrees-set, agrees-unset}
use Rattle.vt_norm.proofs.Naming.{either_side}
use Rattle.vt_norm.proofs.Least.{least-none, least-some}
use Rattle.vt_norm.proofs.Rooted.{asks-open, asks-once, is-named, is-wrong, is-made, is-choice}
use Rattle.vt_norm.proofs.Spotting.{cells-at, root-by-names, made-of-top, noted-named, none-of-wrong, places-of-kids, places-of-kid, kid-at-number}

-- What the recursion that reads a cell out does at each step.

regroup : {X : Type 0} (met one rest later : List X) → met ++ ((one ++ rest) ++ later) ≡ (met ++ one) ++ (rest ++ later)
regroup met one rest later = simp append_assoc

same-kid : (one other : Option Plain) (head top : Head) (kids mine : PlainKids) (number : ℕ) (kid own : Plain) → one ≡ Some (plain.Con head kids) → one ≡ Some (plain.Con top mine) → kid_at kids number ≡ Some kid → kid_at mine number ≡ Some own → other ≡ Some own → Some kid ≡ other
same-kid one other head top kids mine number kid own e f g h k = cc

-- nothing can be built with no room
pub nothing-fits : (store : Cells) (part : List (Option Side)) (front : Front) (way : List ℕ) (met : List Met) (room : ℕ) → room ≡ 0 → IsBeyond store part front way met room
nothing-fits store part front way met room e types names w reading h = rw e (nodes-positive w)

-- ---- the root

module _ (store : Cells) (part : List (Option Side)) (front : Front) (way : List ℕ) (met : List Met) (tree : Diagram)
    (tops : IsTopTree part met way front tree) (cells : HaveCells (cell_count store) front) (places : ArePlaces store part front) where
  -- the diagram shows the root of each outcome
  shows : (types : Typing) (names : Naming) → IsReading store part met types names (places_of types front way) → (d : List Side) → Agrees part d → root (outcome types names front d) ≡ shown (at (taken_side d) tree)
  shows types names reading d a =
      let begins = reading.begins d a in
      root-by-names (cell_count store) (ends_at store d) (types d) (reading.typing d a) (spot_at d front) (cells-at (cell_count store) front d cells) (places d a) (names d) (met_at d met) begins.0 way begins.1
      ∙ ap shown (sym (tops.tops d a))

  -- with no least dimension the root is one
  one-top : (own : Top) → least tree ≡ None → first tree ≡ own → (d : List Side) → Agrees part d → top_of (name_at d met way) (spot_at d front) ≡ own
  one-top own none e d a = sym (tops.tops d a) ∙ least-none tree (taken_side d) none ∙ e

  pub made-there : (head : Head) → least tree ≡ None → first tree ≡ top.Made head → AreMade part head front
  made-there head none e d a = made-of-top (name_at d met way) (spot_at d front) head (one-top (top.Made head) none e d a)

  -- a variable
  pub named-met : (name : List ℕ) (new : List Met) → least tree ≡ None → first tree ≡ top.Named name → IsNoted part way front met new → AreMet store part front way met new
  named-met name new none e h = record {
    here = λ d s a typing. h.here d a ∙ ap (λ more. met_at d met ++ more) (noted-named (cell_count store) (ends_at store d) s typing (name_at d met way) (spot_at d front) name way (cells-at (cell_count store) front d cells) (places d a) (one-top (top.Named name) none e d a));
    others = h.others;
  }

  pub named-built : (name copy : List ℕ) → least tree ≡ None → first tree ≡ top.Named name → copy ≡ name → IsOnlyForm store part front way met (Var copy)
  named-built name copy none e same types names w reading h = ap Var same ∙ sym (is-named part tree (outcome types names front) tops.opens (shows types names reading) name w none e h)

  -- the error
  pub wrong-met : least tree ≡ None → first tree ≡ top.Wrong → AreMet store part front way met met
  wrong-met none e = record {
    here = λ d s a typing. sym (append-nil (met_at d met)) ∙ ap (λ more. met_at d met ++ more) (sym (none-of-wrong s (name_at d met way) (spot_at d front) way (one-top top.Wrong none e d a)));
    others = λ d apart. refl;
  }

  pub wrong-built : least tree ≡ None → first tree ≡ top.Wrong → IsOnlyForm store part front way met Err
  wrong-built none e types names w reading h = sym (is-wrong part tree (outcome types names front) tops.opens (shows types names reading) w none e h)

  -- ---- a head over its children

  kids-reading : (head : Head) (number : ℕ) → number ≡ 0 → AreMade part head front → (types : Typing) (names : Naming) → IsReading store part met types names (places_of types front way) → IsReading store part met types names (kids_places_of types front number way)
  kids-reading head number zeroth made types names reading = record {
    typing = reading.typing;
    begins = λ d a. (let b = reading.begins d a in let m = made d a in
        (b.0, b.1 ∙ ap (λ own. met_at d met ++ (own ++ b.0)) (places-of-kids (types d) (spot_at d front) head m.0 way number zeroth m.1)));
  }

  pub con-built : (head : Head) (number count : ℕ) (kids : VKids) → least tree ≡ None → first tree ≡ top.Made head → number ≡ 0 → count ≡ arity head → AreOnlyForms store part front number count way met kids → IsOnlyForm store part front way met (Con head kids)
  con-built head number count kids none e zeroth all only types names w reading h =
      let m = is-made part tree (outcome types names front) tops.opens (shows types names reading) head w none e h in
      let same = only types names m.0 (kids-reading head number zeroth (made-there head none e) types names reading) (m.2 ∙ sym all) (rw zeroth m.3) in
      ap (Con head) same ∙ sym m.1

  pub con-beyond : (head : Head) (number count room less : ℕ) → least tree ≡ None → first tree ≡ top.Made head → number ≡ 0 → count ≡ arity head → room ≤ less + 1 → KidsAreBeyond store part front number count way met less → IsBeyond store part front way met room
  con-beyond head number count room less none e zeroth all below beyond types names w reading h =
      let m = is-made part tree (outcome types names front) tops.opens (shows types names reading) head w none e h in
      let more = beyond types names m.0 (kids-reading head number zeroth (made-there head none e) types names reading) (m.2 ∙ sym all) (rw zeroth m.3) in
      rw m.1 (omega (arith, more))

  -- ---- a choice

  under : (dim : ℕ) (side : Side) (types : Typing) (names : Naming) (between : List Met) → slice_get part dim ≡ Some None → ((d : List Side) → Agrees (slice_set part dim (Some side)) d → met_at d between ≡ met_at d met) → IsReading store part met types names (places_of types front way) → IsReading store (slice_set part dim (Some side)) between types names (places_of types front way)
  under dim side types names between opened same reading = record {
    typing = λ d a. reading.typing d (agrees-unset part d dim side opened a).0;
    begins = λ d a. (let b = reading.begins d (agrees-unset part d dim side opened a).0 in (b.0, b.1 ∙ ap (λ own. own ++ (places_of types front way d ++ b.0)) (sym (same d a))));
  }

  form-under : (dim : ℕ) (side : Side) (w : VType) (map : Map) → slice_get part dim ≡ Some None → IsNormalForm w map (Taking (Agrees part) dim side) → IsNormalForm w map (Agrees (slice_set part dim (Some side)))
  form-under dim side w map opened h =
      for_same_decisions w map (Taking (Agrees part) dim side) (Agrees (slice_set part dim (Some side))) (λ d. (λ t. agrees-set part d dim side t.0 opened t.1, λ a. agrees-unset part d dim side opened a)) h

  apart-sides : (dim : ℕ) → slice_get part dim ≡ Some None → (d : List Side) → Agrees (slice_set part dim (Some Right)) d → Agrees (slice_set part dim (Some Left)) d → ⊥
  apart-sides dim opened d r l =
      let one = (agrees-unset part d dim Left opened l).1 in
      let other = (agrees-unset part d dim Right opened r).1 in
      cc

  module _ (dim : ℕ) (on_left on_right : List (Option Side)) (opened : slice_get part dim ≡ Some None) (is_left : on_left ≡ slice_set part dim (Some Left)) (is_right : on_right ≡ slice_set part dim (Some Right)) (e : least tree ≡ Some dim) where
    pub split-beyond-left : (room : ℕ) → IsBeyond store on_left front way met room → IsBeyond store part front way met (room + 1)
    split-beyond-left room beyond types names w reading h =
        let c = is-choice part tree (outcome types names front) tops.opens (shows types names reading) dim w e h in
        let beyond = rw is_left at beyond in
        let more = beyond types names c.0 (under dim Left types names met opened (λ d a. refl) reading) (form-under dim Left c.0 (map_at types names front) opened c.3) in
        rw c.2 (omega (arith, more))

    pub split-beyond-right : (room less : ℕ) (between : List Met) (left : VType) → AreMet store on_left front way met between → IsOnlyForm store on_left front way met left → less + nodes left ≡ room → IsBeyond store on_right front way between less → IsBeyond store part front way met (room + 1)
    split-beyond-right room less between left met_left only taken beyond types names w reading h =
        let c = is-choice part tree (outcome types names front) tops.opens (shows types names reading) dim w e h in
        let only = rw is_left at only in
        let met_left = rw is_left at met_left in
        let beyond = rw is_right at beyond in
        let same = only types names c.0 (under dim Left types names met opened (λ d a. refl) reading) (form-under dim Left c.0 (map_at types names front) opened c.3) in
        let more = beyond types names c.1 (under dim Right types names between opened (λ d a. met_left.others d (apart-sides dim opened d a)) reading) (form-under dim Right c.1 (map_at types names front) opened c.4) in
        let size = ap nodes same in
        rw c.2 (omega (arith, more, size))

    pub split-built : (between : List Met) (left right built : VType) → AreMet store on_left front way met between → IsOnlyForm store on_left front way met left → IsOnlyForm store on_right front way between right → built ≡ choice dim left right → IsOnlyForm store part front way met built
    split-built between left right built met_left first_only second_only is types names w reading h =
        let c = is-choice part tree (outcome types names front) tops.opens (shows types names reading) dim w e h in
        let first_only = rw is_left at first_only in
        let second_only = rw is_right at second_only in
        let met_left = rw is_left at met_left in
        let one = first_only types names c.0 (under dim Left types names met opened (λ d a. refl) reading) (form-under dim Left c.0 (map_at types names front) opened c.3) in
        let other = second_only types names c.1 (under dim Right types names between opened (λ d a. met_left.others d (apart-sides dim opened d a)) reading) (form-under dim Right c.1 (map_at types names front) opened c.4) in
        is ∙ (λ i. choice dim (one i) (other i)) ∙ sym c.2

    pub split-met : (between new : List Met) → AreMet store on_left front way met between → AreMet store on_right front way between new → AreMet store part front way met new
    split-met between new l r =
        let l = rw is_left at l in
        let r = rw is_right at r in
        record {
          here = λ d s a typing. (let side = either_side part dim d a opened in by l r d s typing side.0 side.2);
          others = λ d apart. r.others d (λ a. apart (agrees-unset part d dim Right opened a).0) ∙ l.others d (λ a. apart (agrees-unset part d dim Left opened a).0);
        }
      where
        by : AreMet store (slice_set part dim (Some Left)) front way met between → AreMet store (slice_set part dim (Some Right)) front way between new → (d : List Side) (s : ℕ → Plain) → IsTyping (cell_count store) (ends_at store d) s → (side : Side) → Agrees (slice_set part dim (Some side)) d → met_at d new ≡ met_at d met ++ occurring way (spot_type s (spot_at d front))
        by l r d s typing Left a = r.others d (λ b. apart-sides dim opened d b a) ∙ l.here d s a typing
        by l r d s typing Right a = r.here d s a typing ∙ ap (λ own. own ++ occurring way (spot_type s (spot_at d front))) (l.others d (λ b. apart-sides dim opened d a b))

-- what is right at all decisions of the part is right at those on a side
pub places-under : (store : Cells) (part on_side : List (Option Side)) (front : Front) (dim : ℕ) (side : Side) → slice_get part dim ≡ Some None → on_side ≡ slice_set part dim (Some side) → ArePlaces store part front → ArePlaces store on_side front
places-under store part on_side front dim side opened is places d a = places d (agrees-unset part d dim side opened (rw is at a)).0

-- ---- children

pub kids-con-met : (store : Cells) (part : List (Option Side)) (front : Front) (head : Head) (number : ℕ) (way : List ℕ) (old new : List Met) → number ≡ 0 → AreMade part head front → KidsAreMet store part front number way old new → AreMet store part front way old new
kids-con-met store part front head number way old new zeroth made h = record {
  here = λ d s a typing. h.here d s a typing ∙ ap (λ more. met_at d old ++ more) (sym (places-of-kids s (spot_at d front) head (made d a).0 way number zeroth (made d a).1));
  others = h.others;
}

module _ (store : Cells) (part : List (Option Side)) (front : Front) (head : Head) (way : List ℕ) (made : AreMade part head front) (places : ArePlaces store part front) (cells : HaveCells (cell_count store) front) where
  -- as many children stand there as the arity says
  long : (d : List Side) (a : Agrees part d) → length (made d a).0 ≡ arity head
  long d a = let right = rw (made d a).1 at (places d a) in right

  pub none-built : (met : List Met) (number count : ℕ) → count ≡ 0 → AreOnlyForms store part front number count way met Nil
  none-built met number count e types names Nil reading all h = refl
  none-built met number count e types names (vkids_of w ws) reading all h = absurd (omega arith)

  module _ (number : ℕ) (child : Front) (small : number < arity head) (below : IsBelow store part number front child) where
    -- the child that stands there
    kid : (d : List Side) → Agrees part d → ℕ
    kid d a = get_or (made d a).0 number 0

    small-here : (d : List Side) (a : Agrees part d) → number < length (made d a).0
    small-here d a = omega (arith, long d a)

    pub child-type : (d : List Side) (a : Agrees part d) (s : ℕ → Plain) → IsTyping (cell_count store) (ends_at store d) s → spot_type s (spot_at d child) ≡ Some (s (get_or (made d a).0 number 0))
    child-type d a s typing =
        (below.spots d a head (made d a).0 (get_or (made d a).0 number 0) (made d a).1 (slice_get-get_or (made d a).0 number 0 (small-here d a))).same s typing.solves

    child-places : (d : List Side) (a : Agrees part d) (s : ℕ → Plain) → IsTyping (cell_count store) (ends_at store d) s → kids_occurrences way number (spot_kids number s (spot_at d front)) ≡ occurring (way ++ number ∷ []) (spot_type s (spot_at d child)) ++ kids_occurrences way (number + 1) (spot_kids (number + 1) s (spot_at d front))
    child-places d a s typing =
        places-of-kid s (spot_at d front) head (made d a).0 way number (small-here d a) (made d a).1
        ∙ ap (λ own. occurring (way ++ number ∷ []) own ++ kids_occurrences way (number + 1) (spot_kids (number + 1) s (spot_at d front))) (sym (child-type d a s typing))

    child-reading : (met : List Met) (types : Typing) (names : Naming) → IsReading store part met types names (kids_places_of types front number way) → IsReading store part met types names (places_of types child (way ++ number ∷ []))
    child-reading met types names reading = record {
      typing = reading.typing;
      begins = λ d a. (let b = reading.begins d a in
          let rest = kids_occurrences way (number + 1) (spot_kids (number + 1) (types d) (spot_at d front)) in
          (rest ++ b.0, b.1 ∙ ap (λ own. met_at d met ++ (own ++ b.0)) (child-places d a (types d) (reading.typing d a)) ∙ ap (λ own. met_at d met ++ own) (append_assoc (places_of types child (way ++ number ∷ []) d) rest b.0)));
    }

    rest-reading : (met between : List Met) (types : Typing) (names : Naming) → AreMet store part child (way ++ number ∷ []) met between → IsReading store part met types names (kids_places_of types front number way) → IsReading store part between types names (kids_places_of types front (number + 1) way)
    rest-reading met between types names h reading = record {
      typing = reading.typing;
      begins = λ d a. (let b = reading.begins d a in
          let rest = kids_occurrences way (number + 1) (spot_kids (number + 1) (types d) (spot_at d front)) in
          (b.0, b.1 ∙ ap (λ own. met_at d met ++ (own ++ b.0)) (child-places d a (types d) (reading.typing d a)) ∙ regroup (met_at d met) (places_of types child (way ++ number ∷ []) d) rest b.0 ∙ ap (λ own. own ++ (rest ++ b.0)) (sym (h.here d (types d) a (reading.typing d a)))));
    }

    child-map : (types : Typing) (names : Naming) → ((d : List Side) → Agrees part d → IsTyping (cell_count store) (ends_at store d) (types d)) → (d : List Side) (found : Option Plain) → Agrees part d → Kid (map_at types names front) number d found ↔ map_at types names child d found
    child-map types names typing d found a =
        let m = made d a in
        let s = types d in
        let images = first_of (names d) in
        let one = substituted images (s (get_or m.0 number 0)) in
        let at_child : outcome types names child d ≡ Some one = ap (option_map (substituted images)) (child-type d a s (typing d a)) in
        let at_number = kid-at-number images s m.0 number (small-here d a) in
        let at_front : outcome types names front d ≡ Some (plain.Con head (kids_substituted images (plain_kids (map s m.0)))) = ap (λ spot. option_map (substituted images) (spot_type s spot)) m.1 in
        (λ h. at_child ∙ same-kid _ found _ _ _ _ number _ _ at_front h.3 at_number h.4 h.5, λ h. (head, kids_substituted images (plain_kids (map s m.0)), one, at_front, at_number, sym h ∙ at_child))

    child-form : (types : Typing) (names : Naming) (w : VType) → ((d : List Side) → Agrees part d → IsTyping (cell_count store) (ends_at store d) (types d)) → IsNormalForm w (Kid (map_at types names front) number) (Agrees part) → IsNormalForm w (map_at types names child) (Agrees part)
    child-form types names w typing h = for_same_outcomes w (Kid (map_at types names front) number) (map_at types names child) (Agrees part) (child-map types names typing) h

    pub kid-beyond : (met : List Met) (count room : ℕ) → (count ≡ 0 → ⊥) → IsBeyond store part child (way ++ number ∷ []) met room → KidsAreBeyond store part front number count way met room
    kid-beyond met count room some beyond types names Nil reading all h = absurd (some (sym all))
    kid-beyond met count room some beyond types names (vkids_of w ws) reading all h =
        let more = beyond types names w (child-reading met types names reading) (child-form types names w reading.typing h.0) in omega (arith, more)

    pub rest-beyond : (met between : List Met) (count less_count room less next : ℕ) (one : VType) → (count ≡ 0 → ⊥) → less_count ≡ count - 1 → next ≡ number + 1 → AreMet store part child (way ++ number ∷ []) met between → IsOnlyForm store part child (way ++ number ∷ []) met one → less + nodes one ≡ room → KidsAreBeyond store part front next less_count way between less → KidsAreBeyond store part front number count way met room
    rest-beyond met between count less_count room less next one some fewer after met_one only taken beyond types names Nil reading all h = absurd (some (sym all))
    rest-beyond met between count less_count room less next one some fewer after met_one only taken beyond types names (vkids_of w ws) reading all h =
        let same = only types names w (child-reading met types names reading) (child-form types names w reading.typing h.0) in
        let beyond = rw after at beyond in
        let more = beyond types names ws (rest-reading met between types names met_one reading) (omega arith) h.1 in
        omega (arith, more, ap nodes same)

    pub kids-built : (met between : List Met) (count less_count next : ℕ) (one : VType) (others kids : VKids) → (count ≡ 0 → ⊥) → less_count ≡ count - 1 → next ≡ number + 1 → AreMet store part child (way ++ number ∷ []) met between → IsOnlyForm store part child (way ++ number ∷ []) met one → AreOnlyForms store part front next less_count way between others → kids ≡ vkids_of one others → AreOnlyForms store part front number count way met kids
    kids-built met between count less_count next one others kids some fewer after met_one only rest is types names Nil reading all h = absurd (some (sym all))
    kids-built met between count less_count next one others kids some fewer after met_one only rest is types names (vkids_of w ws) reading all h =
        let first_same = only types names w (child-reading met types names reading) (child-form types names w reading.typing h.0) in
        let rest = rw after at rest in
        let rest_same = rest types names ws (rest-reading met between types names met_one reading) (omega arith) h.1 in
        is ∙ (λ i. vkids_of (first_same i) (rest_same i))

    pub kids-met : (met between new : List Met) (next : ℕ) → next ≡ number + 1 → AreMet store part child (way ++ number ∷ []) met between → KidsAreMet store part front next way between new → KidsAreMet store part front number way met new
    kids-met met between new next after one rest =
        let rest = rw after at rest in
        record {
          here = λ d s a typing. rest.here d s a typing ∙ ap (λ own. own ++ kids_occurrences way (number + 1) (spot_kids (number + 1) s (spot_at d front))) (one.here d s a typing) ∙ append_assoc (met_at d met) _ _ ∙ ap (λ own. met_at d met ++ own) (sym (child-places d a s typing));
          others = λ d apart. rest.others d apart ∙ one.others d apart;
        }

-- the least dimension is open
pub least-open : (part : List (Option Side)) (met : List Met) (here : List ℕ) (front : Front) (tree : Diagram) (dim : ℕ) → IsTopTree part met here front tree → least tree ≡ Some dim → slice_get part dim ≡ Some None
least-open part met here front tree dim tops e = asks-open part tree dim tops.opens (least-some tree dim (asks-once part tree tops.opens) e).0
