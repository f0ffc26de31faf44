use Rattle.std.specs.Prelude.{◌≡◌, ℕ, ◌<◌, List, [], ◌∷◌, ◌++◌, map, length}
use Rattle.std.specs.List.{All}
use Rattle.vt_type.specs.declared.plain.Plain.{Plain}
use Rattle.vt_type.specs.declared.plain.PlainKids.{PlainKids}
use Rattle.vt_type.specs.Plain.{plain_nodes, kids_nodes, substituted, kids_substituted}
use Rattle.vt_type.specs.Canonical.{occurrences, kids_occurrences, first_of}
use Rattle.vt_store.specs.Ends.{CellEnd}
use Rattle.vt_store.specs.declared.views.Look.{Look}
use Rattle.vt_store.specs.declared.views.Look.TheVariants as look
use Rattle.vt_store.specs.Solutions.{plain_kids}
use Rattle.vt_norm.specs.declared.pairing.Seen.{Seen}
use Rattle.vt_norm.specs.Fronts.{IsTyping}

-- What reading a cell at one decision owes, for any types of the cells that fit.

-- the variables that were met, each named by the number of its cell
abbrev pub places_of : List Seen → List (List ℕ × List ℕ)
places_of [] = []
places_of (own ∷ seen) = (own.cell ∷ [], own.path) ∷ places_of seen

-- the variables of the type are met
abbrev pub PlainIsMet : ℕ → (ℕ → CellEnd) → ℕ → List ℕ → List (List ℕ × List ℕ) → List (List ℕ × List ℕ) → Type 0
PlainIsMet n e cell way old new = (s : ℕ → Plain) → IsTyping n e s → new ≡ old ++ occurrences way (s cell)

abbrev pub PlainKidsAreMet : ℕ → (ℕ → CellEnd) → List ℕ → ℕ → List ℕ → List (List ℕ × List ℕ) → List (List ℕ × List ℕ) → Type 0
PlainKidsAreMet n e kids number way old new = (s : ℕ → Plain) → IsTyping n e s → new ≡ old ++ kids_occurrences way number (plain_kids (map s kids))

-- it is the type, with each variable named by where it stands first in a whole that goes on with these
abbrev pub IsPlain : ℕ → (ℕ → CellEnd) → ℕ → List ℕ → List (List ℕ × List ℕ) → Plain → Type 0
IsPlain n e cell way old type =
    (s : ℕ → Plain) (later : List (List ℕ × List ℕ)) → IsTyping n e s → type ≡ substituted (first_of (old ++ (occurrences way (s cell) ++ later))) (s cell)

abbrev pub ArePlain : ℕ → (ℕ → CellEnd) → List ℕ → ℕ → List ℕ → List (List ℕ × List ℕ) → PlainKids → Type 0
ArePlain n e kids number way old types =
    (s : ℕ → Plain) (later : List (List ℕ × List ℕ)) → IsTyping n e s
    → types ≡ kids_substituted (first_of (old ++ (kids_occurrences way number (plain_kids (map s kids)) ++ later))) (plain_kids (map s kids))

-- it has more nodes than there is room
abbrev pub IsPlainBeyond : ℕ → (ℕ → CellEnd) → ℕ → ℕ → Type 0
IsPlainBeyond n e cell room = (s : ℕ → Plain) → IsTyping n e s → room < plain_nodes (s cell)

abbrev pub ArePlainBeyond : ℕ → (ℕ → CellEnd) → List ℕ → ℕ → Type 0
ArePlainBeyond n e kids room = (s : ℕ → Plain) → IsTyping n e s → room < kids_nodes (plain_kids (map s kids))

-- the children are cells, and fewer than 256
abbrev pub HasKids : ℕ → Look → Type 0
HasKids count (look.Open last) = Unit {0}
HasKids count (look.Con head kids) = All (λ kid. kid < count) kids.now × (length kids.now < 256)
