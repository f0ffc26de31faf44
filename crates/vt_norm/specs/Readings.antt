use Rattle.std.specs.Prelude.{◌≡◌, ℕ, ◌<◌, List, ◌++◌, Option}
use Rattle.vt_dec.specs.declared.side.Side.{Side}
use Rattle.vt_dec.specs.Decisions.{Agrees}
use Rattle.vt_type.specs.declared.head.Head.{Head}
use Rattle.vt_type.specs.declared.plain.Plain.{Plain}
use Rattle.vt_type.specs.declared.vtype.VType.{VType}
use Rattle.vt_type.specs.declared.vtype.VKids.{VKids}
use Rattle.vt_type.specs.Canonical.{kids_occurrences}
use Rattle.vt_type.specs.Variational.{nodes, vkids_nodes, vkid_count}
use Rattle.vt_type.specs.NormalForm.{IsNormalForm, AreNormalForms}
use Rattle.vt_store.specs.Stores.{Cells, cell_count, ends_at}
use Rattle.vt_norm.specs.declared.front.Spot.TheVariants.{Made}
use Rattle.vt_norm.specs.declared.front.Front.{Front}
use Rattle.vt_norm.specs.declared.names.Met.{Met}
use Rattle.vt_norm.specs.Fronts.{spot_at, spot_type, spot_kids, occurring, IsSpot, IsTyping, Typing, Naming, map_at}
use Rattle.vt_norm.specs.Names.{met_at}

-- What building the normal form at a place owes. All is said for any types of the cells that fit, and
-- of the one normal form over the decisions of a part: what is built is that one, and it is too big
-- where that one is. It is built in the order in which variables stand in the type.

-- what stands at the place is right at each decision of the part
abbrev pub ArePlaces : Cells → List (Option Side) → Front → Type 0
ArePlaces store part front = (decision : List Side) → Agrees part decision → IsSpot (ends_at store decision) (spot_at decision front)

-- the head stands there at each decision of the part
abbrev pub AreMade : List (Option Side) → Head → Front → Type 0
AreMade part head front = (decision : List Side) → Agrees part decision → (kids : List ℕ) × (spot_at decision front ≡ Made head kids)

-- Over the part the variables of the type that stands there are met, elsewhere none.
pub record AreMet (store : Cells) (part : List (Option Side)) (front : Front) (way : List ℕ) (old new : List Met) : Type 0 where
  pub here : (decision : List Side) (s : ℕ → Plain) → Agrees part decision → IsTyping (cell_count store) (ends_at store decision) s
      → met_at decision new ≡ met_at decision old ++ occurring way (spot_type s (spot_at decision front))
  pub others : (decision : List Side) → (Agrees part decision → ⊥) → met_at decision new ≡ met_at decision old

-- the same of its children from a number on
pub record KidsAreMet (store : Cells) (part : List (Option Side)) (front : Front) (number : ℕ) (way : List ℕ) (old new : List Met) : Type 0 where
  pub here : (decision : List Side) (s : ℕ → Plain) → Agrees part decision → IsTyping (cell_count store) (ends_at store decision) s
      → met_at decision new ≡ met_at decision old ++ kids_occurrences way number (spot_kids number s (spot_at decision front))
  pub others : (decision : List Side) → (Agrees part decision → ⊥) → met_at decision new ≡ met_at decision old

-- the variables at each decision of the type that stands there
abbrev pub places_of : Typing → Front → List ℕ → Naming
places_of types front way decision = occurring way (spot_type (types decision) (spot_at decision front))

-- those of its children from a number on
abbrev pub kids_places_of : Typing → Front → ℕ → List ℕ → Naming
kids_places_of types front number way decision = kids_occurrences way number (spot_kids number (types decision) (spot_at decision front))

-- Types of the cells that fit, and the variables of a whole type, which after those that were met go
-- on with these.
pub record IsReading (store : Cells) (part : List (Option Side)) (met : List Met) (types : Typing) (names places : Naming) : Type 0 where
  pub typing : (decision : List Side) → Agrees part decision → IsTyping (cell_count store) (ends_at store decision) (types decision)
  pub begins : (decision : List Side) → Agrees part decision → (later : List (List ℕ × List ℕ)) × (names decision ≡ met_at decision met ++ (places decision ++ later))

-- it is the normal form of what stands there, whatever the normal form is of
abbrev pub IsOnlyForm : Cells → List (Option Side) → Front → List ℕ → List Met → VType → Type 0
IsOnlyForm store part front way met one =
    (types : Typing) (names : Naming) (form : VType) → IsReading store part met types names (places_of types front way)
    → IsNormalForm form (map_at types names front) (Agrees part) → one ≡ form

-- they are the normal forms of so many children from a number on
abbrev pub AreOnlyForms : Cells → List (Option Side) → Front → ℕ → ℕ → List ℕ → List Met → VKids → Type 0
AreOnlyForms store part front number count way met some =
    (types : Typing) (names : Naming) (forms : VKids) → IsReading store part met types names (kids_places_of types front number way)
    → vkid_count forms ≡ count → AreNormalForms forms number (map_at types names front) (Agrees part) → some ≡ forms

-- the normal form has more nodes than there is room
abbrev pub IsBeyond : Cells → List (Option Side) → Front → List ℕ → List Met → ℕ → Type 0
IsBeyond store part front way met room =
    (types : Typing) (names : Naming) (form : VType) → IsReading store part met types names (places_of types front way)
    → IsNormalForm form (map_at types names front) (Agrees part) → room < nodes form

-- those of the children have
abbrev pub KidsAreBeyond : Cells → List (Option Side) → Front → ℕ → ℕ → List ℕ → List Met → ℕ → Type 0
KidsAreBeyond store part front number count way met room =
    (types : Typing) (names : Naming) (forms : VKids) → IsReading store part met types names (kids_places_of types front number way)
    → vkid_count forms ≡ count → AreNormalForms forms number (map_at types names front) (Agrees part) → room < vkids_nodes forms
