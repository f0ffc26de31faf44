use Rattle.std.proofs.Common.{◌≡◌, ℕ, zero, suc, Bool, true, false, List, [], ◌∷◌, ◌++◌, Option, Some, None, refl, ap, sym, ◌∙◌, append_assoc, slice_get, if◌then◌else◌}
use Rattle.std.specs.List.{list_any}
use Rattle.std.specs.Str.{bytes_eq}
use Rattle.std.proofs.lemmas.List.{append-nil}
use Rattle.std.proofs.lemmas.Option.{none-some}
use Rattle.vt_scope.specs.declared.fault.ScopeFault.{ScopeFault}
use Rattle.vt_scope.specs.declared.fault.ScopeFault.TheVariants.{Unbound, TooManyDimensions, Memory}
use Rattle.vt_scope.specs.Faults.{Event, Nameless, Dimension, with_dim, dims_after, refused, first_of, first_fault, IsFault}
use Rattle.vt_scope.specs.Walking.{Extends}

-- Events one after another.

pub dims_after-append : (dims : List (List ℕ)) (es fs : List Event) → dims_after dims (es ++ fs) ≡ dims_after (dims_after dims es) fs
dims_after-append dims [] fs = refl
dims_after-append dims (Nameless at ∷ es) fs = dims_after-append dims es fs
dims_after-append dims (Dimension name at ∷ es) fs = dims_after-append (with_dim dims name) es fs

-- nothing is refused at the first event, nor after it
pub first_of-none : (one other : Option ScopeFault) → first_of one other ≡ None → (one ≡ None) × (other ≡ None)
first_of-none None other h = (refl, h)
first_of-none (Some fault) other h = absurd (none-some fault (sym h))

dims_after-cons : (dims : List (List ℕ)) (e : Event) (es : List Event) → dims_after dims (e ∷ es) ≡ dims_after (dims_after dims (e ∷ [])) es
dims_after-cons dims (Nameless at) es = refl
dims_after-cons dims (Dimension name at) es = refl

-- where the first events are not refused, the fault is that of the others
pub first_fault-later : (dims : List (List ℕ)) (es fs : List Event) → first_fault dims es ≡ None → first_fault dims (es ++ fs) ≡ first_fault (dims_after dims es) fs
first_fault-later dims [] fs h = refl
first_fault-later dims (e ∷ es) fs h =
    let parts = first_of-none (refused dims e) (first_fault (dims_after dims (e ∷ [])) es) h in
    ap (λ one. first_of one (first_fault (dims_after dims (e ∷ [])) (es ++ fs))) parts.0
    ∙ first_fault-later (dims_after dims (e ∷ [])) es fs parts.1
    ∙ ap (λ names. first_fault names fs) (sym (dims_after-cons dims e es))

first_of-some : (one later longer : Option ScopeFault) (fault : ScopeFault) → (later ≡ Some fault → longer ≡ Some fault) → first_of one later ≡ Some fault → first_of one longer ≡ Some fault
first_of-some None later longer fault keeps h = keeps h
first_of-some (Some own) later longer fault keeps h = h

-- the fault of the first events is that of all
pub first_fault-first : (dims : List (List ℕ)) (es fs : List Event) (fault : ScopeFault) → first_fault dims es ≡ Some fault → first_fault dims (es ++ fs) ≡ Some fault
first_fault-first dims [] fs fault h = absurd (none-some fault h)
first_fault-first dims (e ∷ es) fs fault h =
    first_of-some (refused dims e) (first_fault (dims_after dims (e ∷ [])) es) (first_fault (dims_after dims (e ∷ [])) (es ++ fs)) fault
    (first_fault-first (dims_after dims (e ∷ [])) es fs fault) h

pub IsFault-first : (dims : List (List ℕ)) (es fs : List Event) (fault : ScopeFault) → IsFault (first_fault dims es) fault → IsFault (first_fault dims (es ++ fs)) fault
IsFault-first dims es fs (Unbound at) h = first_fault-first dims es fs (Unbound at) h
IsFault-first dims es fs (TooManyDimensions at) h = first_fault-first dims es fs (TooManyDimensions at) h
IsFault-first dims es fs Memory h = tt

-- more names behind names
pub Extends-same : (names : List (List ℕ)) → Extends names names
Extends-same names = ([], sym (append-nil names))

pub Extends-then : (one two three : List (List ℕ)) → Extends one two → Extends two three → Extends one three
Extends-then one two three (more, e) (others, f) = (more ++ others, f ∙ ap (λ names. names ++ others) e ∙ append_assoc one more others)

pub Extends-with_dim : (dims : List (List ℕ)) (name : List ℕ) → Extends dims (with_dim dims name)
Extends-with_dim dims name = by (list_any (bytes_eq name) dims)
  where
    by : (b : Bool) → Extends dims (if b then dims else (dims ++ name ∷ []))
    by true = Extends-same dims
    by false = (name ∷ [], refl)

pub Extends-dims_after : (dims : List (List ℕ)) (es : List Event) → Extends dims (dims_after dims es)
Extends-dims_after dims [] = Extends-same dims
Extends-dims_after dims (Nameless at ∷ es) = Extends-dims_after dims es
Extends-dims_after dims (Dimension name at ∷ es) =
    Extends-then dims (with_dim dims name) (dims_after (with_dim dims name) es) (Extends-with_dim dims name) (Extends-dims_after (with_dim dims name) es)

-- a name keeps its number
slice_get-append : (names more : List (List ℕ)) (k : ℕ) (name : List ℕ) → slice_get names k ≡ Some name → slice_get (names ++ more) k ≡ Some name
slice_get-append [] more k name h = absurd (none-some name h)
slice_get-append (own ∷ names) more zero name h = h
slice_get-append (own ∷ names) more (suc k) name h = slice_get-append names more k name h

pub slice_get-Extends : (names longer : List (List ℕ)) (k : ℕ) (name : List ℕ) → Extends names longer → slice_get names k ≡ Some name → slice_get longer k ≡ Some name
slice_get-Extends names longer k name (more, e) h = ap (λ all. slice_get all k) e ∙ slice_get-append names more k name h
