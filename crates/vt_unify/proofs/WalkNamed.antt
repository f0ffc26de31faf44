use Rattle.std.proofs.Common.{◌≡◌, ◌⊎◌, ℕ, zero, suc, ◌+◌, ◌*◌, ◌<◌, ◌≤◌, List, [], ◌∷◌, ◌++◌, length, take, get_or, refl, ap, sym, subst, ◌∙◌, inl, inr, arith}
use Rattle.std.specs.List.{AllZip, Contains, flat_map}
use Rattle.std.proofs.lemmas.List.{take_all, take_more}
use Rattle.std.proofs.lemmas.List.Elements.{All-contains, Contains-get_or, Contains-append_left, Contains-append_right, Contains-append_cases}
use Rattle.vt_dec.specs.declared.side.Side.{Side}
use Rattle.vt_dec.specs.Decisions.{Region, Admits}
use Rattle.vt_store.specs.Ends.{CellEnd, Free, Same, Made, NamesCell}
use Rattle.vt_store.specs.Stores.{Cells, ends_at}
use Rattle.vt_store.specs.Writes.{IsOf}
use Rattle.vt_unify.specs.Samplings.{AreSamples}
use Rattle.vt_unify.specs.Walks.{AreNamed, AreLinked, cells_of}
use Rattle.vt_unify.proofs.Admitted.{IsOf-in}

-- What the samples name is what is named.

Contains-front : {X : Type 0} (x : X) (xs : List X) → Contains (x ∷ xs) x
Contains-front x xs = (zero, omega arith, refl)

Contains-later : {X : Type 0} (x : X) (xs : List X) (y : X) → Contains xs y → Contains (x ∷ xs) y
Contains-later x xs y h = (suc h.0, omega (arith, h.1), h.2)

Contains-cons_cases : {X : Type 0} (x : X) (xs : List X) (y : X) → Contains (x ∷ xs) y → (x ≡ y) ⊎ Contains xs y
Contains-cons_cases x xs y (zero, within, is) = inl is
Contains-cons_cases x xs y (suc k, within, is) = inr (k, omega arith, is)

Contains-flat_map : {X Y : Type 0} (f : X → List Y) (xs : List X) (x : X) (y : Y) → Contains xs x → Contains (f x) y → Contains (flat_map f xs) y
Contains-flat_map f [] x y h g = absurd (omega (arith, h.1))
Contains-flat_map {X} {Y} f (own ∷ xs) x y h g = by (Contains-cons_cases own xs x h) (λ later. Contains-flat_map f xs x y later g)
  where
    by : (own ≡ x) ⊎ Contains xs x → (Contains xs x → Contains (flat_map f xs) y) → Contains (f own ++ flat_map f xs) y
    by (inl same) rest = let P : X → Type 0 = λ z. Contains (f z) y in Contains-append_left (f own) (flat_map f xs) y (subst P (sym same) g)
    by (inr later) rest = Contains-append_right (f own) (flat_map f xs) y (rest later)

flat_map-from : {X Y : Type 0} (f : X → List Y) (xs : List X) (y : Y) → Contains (flat_map f xs) y → (x : X) × Contains xs x × Contains (f x) y
flat_map-from f [] y h = absurd (omega (arith, h.1))
flat_map-from {X} {Y} f (own ∷ xs) y h = by (Contains-append_cases (f own) (flat_map f xs) y h) (flat_map-from f xs y)
  where
    by : Contains (f own) y ⊎ Contains (flat_map f xs) y → (Contains (flat_map f xs) y → (x : X) × Contains xs x × Contains (f x) y) → (x : X) × Contains (own ∷ xs) x × Contains (f x) y
    by (inl here) rest = (own, Contains-front own xs, here)
    by (inr later) rest = let found = rest later in (found.0, Contains-later own xs found.0 found.1, found.2)

cells_of-names : (end : CellEnd) (cell : ℕ) → NamesCell end cell → Contains (cells_of end) cell
cells_of-names Free cell h = absurd h
cells_of-names (Same own) cell h = (zero, omega arith, h)
cells_of-names (Made head kids) cell h = h

names-cells_of : (end : CellEnd) (cell : ℕ) → Contains (cells_of end) cell → NamesCell end cell
names-cells_of Free cell h = absurd (omega (arith, h.1))
names-cells_of (Same own) cell h = by (Contains-cons_cases own [] cell h)
  where
    by : (own ≡ cell) ⊎ Contains [] cell → own ≡ cell
    by (inl same) = same
    by (inr none) = absurd (omega (arith, none.1))
names-cells_of (Made head kids) cell h = h

-- the two lists of a relation between elements
length-related : {X Y : Type 0} (R : X → Y → Type 0) (xs : List X) (ys : List Y) → AllZip R xs ys → length xs ≡ length ys
length-related R [] [] h = refl
length-related R [] (y ∷ ys) h = absurd h
length-related R (x ∷ xs) [] h = absurd h
length-related R (x ∷ xs) (y ∷ ys) h = ap suc (length-related R xs ys h.1)

at_related : {X Y : Type 0} (R : X → Y → Type 0) (xs : List X) (ys : List Y) (k : ℕ) (x : X) (y : Y) → AllZip R xs ys → k < length xs → R (get_or xs k x) (get_or ys k y)
at_related R [] ys k x y h within = absurd (omega arith)
at_related R (own ∷ xs) [] k x y h within = absurd h
at_related R (own ∷ xs) (other ∷ ys) zero x y h within = h.0
at_related R (own ∷ xs) (other ∷ ys) (suc k) x y h within = at_related R xs ys k x y h.1 (omega arith)

related-push : {X Y : Type 0} (R : X → Y → Type 0) (xs : List X) (ys : List Y) (x : X) (y : Y) → AllZip R xs ys → R x y → AllZip R (xs ++ x ∷ []) (ys ++ y ∷ [])
related-push R [] [] x y h here = (here, tt)
related-push R [] (other ∷ ys) x y h here = absurd h
related-push R (own ∷ xs) [] x y h here = absurd h
related-push R (own ∷ xs) (other ∷ ys) x y h here = (h.0, related-push R xs ys x y h.1 here)

module _ (store : Cells) (region : Region) (cell : ℕ) (found : List (List Side)) (known : AreSamples store region cell found) (samples : List (List Side)) (same : samples ≡ found) where
  sampled : AreSamples store region cell samples
  sampled = subst (AreSamples store region cell) (sym same) known

  abbrev named_by : List Side → List ℕ
  named_by sample = cells_of (ends_at store sample cell)

  -- once all samples are looked at
  pub AreNamed-all : (k : ℕ) (cells : List ℕ) → length samples ≤ k → cells ≡ flat_map (λ (sample : List Side). cells_of (ends_at store sample cell)) (take k samples) → AreNamed store region cell cells
  AreNamed-all k cells past is next = ((λ h. at (subst (λ own. Contains own next) all h)), (λ (d, h, names). subst (λ own. Contains own next) (sym all) (from d h names)))
    where
      all : cells ≡ flat_map named_by samples
      all = is ∙ ap (flat_map named_by) (take_all k samples past)

      at : Contains (flat_map named_by samples) next → (d : List Side) × Admits region d × NamesCell (ends_at store d cell) next
      at h =
          let origin = flat_map-from named_by samples next h in
          (origin.0, All-contains (Admits region) samples origin.0 sampled.admitted origin.1, names-cells_of (ends_at store origin.0 cell) next origin.2)

      from : (d : List Side) → Admits region d → NamesCell (ends_at store d cell) next → Contains (flat_map named_by samples) next
      from d h names =
          let sample = sampled.every d h in
          Contains-flat_map named_by samples sample.0 next sample.1 (cells_of-names (ends_at store sample.0 cell) next (subst (λ end. NamesCell end next) (sym sample.2) names))

  abbrev links_to : List Side → ℕ → Type 0
  links_to sample next = ends_at store sample cell ≡ Same next

  pub linked-more : (k : ℕ) (cells : List ℕ) (sample : List Side) (next : ℕ) → k < length samples → sample ≡ get_or samples k sample → Same next ≡ ends_at store sample cell
      → AllZip links_to (take k samples) cells → AllZip links_to (take (k + 1) samples) (cells ++ next ∷ [])
  linked-more k cells sample next within is link h =
      subst (λ own. AllZip links_to own (cells ++ next ∷ [])) (sym (take_more samples k sample within ∙ ap (λ own. take k samples ++ own ∷ []) (sym is)))
      (related-push links_to (take k samples) cells sample next h (sym link))

  pub AreLinked-all : (k : ℕ) (cells : List ℕ) → length samples ≤ k → AllZip (λ sample next. ends_at store sample cell ≡ Same next) (take k samples) cells → AreLinked store region cell cells
  AreLinked-all k cells past h = record { every = every; only = only }
    where
      zip : AllZip links_to samples cells
      zip = subst (λ own. AllZip links_to own cells) (take_all k samples past) h

      as_long : length samples ≡ length cells
      as_long = length-related links_to samples cells zip

      every : (d : List Side) → Admits region d → (next : ℕ) × Contains cells next × (ends_at store d cell ≡ Same next)
      every d admits =
          let sample = sampled.every d admits in
          let place = sample.1.0 in
          let within : place < length samples = sample.1.1 in
          let is : ends_at store (get_or samples place sample.0) cell ≡ Same (get_or cells place 0) = at_related links_to samples cells place sample.0 0 zip within in
          (get_or cells place 0, Contains-get_or cells place 0 (omega (arith, as_long, within)), sym sample.2 ∙ ap (λ own. ends_at store own cell) (sym sample.1.2) ∙ is)

      only : (next : ℕ) → Contains cells next → (d : List Side) × Admits region d × (ends_at store d cell ≡ Same next)
      only next (place, within, is) =
          let low : place < length samples = omega (arith, as_long) in
          (get_or samples place [], All-contains (Admits region) samples (get_or samples place []) sampled.admitted (Contains-get_or samples place [] low), at_related links_to samples cells place [] next zip low ∙ ap Same is)

  -- each sample is a decision of the context's space
  pub IsOf-sample : (N : ℕ) (k : ℕ) (sample : List Side) → length region.sides ≡ 64 * N → region.space ≡ store.space → k < length samples → sample ≡ get_or samples k sample → IsOf N store.space sample
  IsOf-sample N k sample sized alike within is = IsOf-in N store.space region sample sized alike (subst (Admits region) (sym is) (sampled.admitted k sample within))
