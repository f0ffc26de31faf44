use Rattle.std.proofs.Common.{◌≡◌, ◌≢◌, ◌⊎◌, ℕ, zero, suc, ◌<◌, ◌≤◌, List, [], ◌∷◌, ◌++◌, map, slice_get, Some, refl, ap, sym, ◌∙◌, inl, inr, arith}
use Rattle.std.specs.List.{All}
use Rattle.std.proofs.lemmas.List.Elements.{All-cons}
use Rattle.std.proofs.lemmas.List.Kept.{AllPairs-cons}
use Rattle.std.proofs.lemmas.Option.{none-some, same_Some}
use Rattle.vt_syntax.specs.declared.leaf.Leaf.{Leaf}
use Rattle.vt_syntax.specs.Leaves.{IsListed, HaveDifferentNumbers}

-- Leaves that are listed, and lists in which no two leaves have one number.

-- the leaf stands in the list
abbrev pub In : List Leaf → Leaf → Type 0
In [] one = ⊥
In (x ∷ xs) one = (x ≡ one) ⊎ In xs one

-- no two have one number
abbrev pub Apart : List Leaf → Type 0
Apart [] = Unit {0}
Apart (x ∷ xs) = ((one : Leaf) → In xs one → x.node ≢ one.node) × Apart xs

pub In-left : (xs ys : List Leaf) (one : Leaf) → In xs one → In (xs ++ ys) one
In-left [] ys one h = absurd h
In-left (x ∷ xs) ys one (inl e) = inl e
In-left (x ∷ xs) ys one (inr h) = inr (In-left xs ys one h)

pub In-right : (xs ys : List Leaf) (one : Leaf) → In ys one → In (xs ++ ys) one
In-right [] ys one h = h
In-right (x ∷ xs) ys one h = inr (In-right xs ys one h)

pub In-either : (xs ys : List Leaf) (one : Leaf) → In (xs ++ ys) one → In xs one ⊎ In ys one
In-either [] ys one h = inr h
In-either (x ∷ xs) ys one (inl e) = inl (inl e)
In-either (x ∷ xs) ys one (inr h) = by (In-either xs ys one h)
  where
    by : In xs one ⊎ In ys one → In (x ∷ xs) one ⊎ In ys one
    by (inl k) = inl (inr k)
    by (inr k) = inr k

pub Apart-append : (xs ys : List Leaf) → Apart xs → Apart ys → ((a b : Leaf) → In xs a → In ys b → a.node ≢ b.node) → Apart (xs ++ ys)
Apart-append [] ys p q differ = q
Apart-append (x ∷ xs) ys p q differ = (head, Apart-append xs ys p.1 q (λ a b h k. differ a b (inr h) k))
  where
    head : (one : Leaf) → In (xs ++ ys) one → x.node ≢ one.node
    head one h = by (In-either xs ys one h)
      where
        by : In xs one ⊎ In ys one → x.node ≢ one.node
        by (inl k) = p.0 one k
        by (inr k) = differ x one (inl refl) k

-- a leaf from the front to a place between
pub In-moved : (x : Leaf) (xs ys : List Leaf) (one : Leaf) → In (x ∷ xs ++ ys) one → In (xs ++ x ∷ ys) one
In-moved x [] ys one h = h
In-moved x (y ∷ xs) ys one (inl e) = inr (In-moved x xs ys one (inl e))
In-moved x (y ∷ xs) ys one (inr (inl e)) = inl e
In-moved x (y ∷ xs) ys one (inr (inr h)) = inr (In-moved x xs ys one (inr h))

pub In-back : (x : Leaf) (xs ys : List Leaf) (one : Leaf) → In (xs ++ x ∷ ys) one → In (x ∷ xs ++ ys) one
In-back x [] ys one h = h
In-back x (y ∷ xs) ys one (inl e) = inr (inl e)
In-back x (y ∷ xs) ys one (inr h) = by (In-back x xs ys one h)
  where
    by : In (x ∷ xs ++ ys) one → In (x ∷ (y ∷ xs) ++ ys) one
    by (inl e) = inl e
    by (inr k) = inr (inr k)

pub Apart-moved : (x : Leaf) (xs ys : List Leaf) → Apart (x ∷ xs ++ ys) → Apart (xs ++ x ∷ ys)
Apart-moved x [] ys h = h
Apart-moved x (y ∷ xs) ys (first, more) = (head, Apart-moved x xs ys ((λ one k. first one (inr k)), more.1))
  where
    head : (one : Leaf) → In (xs ++ x ∷ ys) one → y.node ≢ one.node
    head one h = by (In-back x xs ys one h)
      where
        by : In (x ∷ xs ++ ys) one → y.node ≢ one.node
        by (inl e) = λ same. first y (inl refl) (ap (λ (l : Leaf). l.node) e ∙ sym same)
        by (inr k) = more.0 one k

-- the same by places
pub listed : (xs : List Leaf) (one : Leaf) → In xs one → IsListed xs one
listed [] one h = absurd h
listed (x ∷ xs) one (inl e) = (zero, ap Some e)
listed (x ∷ xs) one (inr h) = let (place, at) = listed xs one h in (suc place, at)

pub listed-in : (xs : List Leaf) (place : ℕ) (one : Leaf) → slice_get xs place ≡ Some one → In xs one
listed-in [] place one h = absurd (none-some one h)
listed-in (x ∷ xs) zero one h = inl (same_Some x one h)
listed-in (x ∷ xs) (suc place) one h = inr (listed-in xs place one h)

-- something that holds of the numbers of all
all-nodes : (P : ℕ → Type 0) (xs : List Leaf) → ((one : Leaf) → In xs one → P one.node) → All P (map (λ (l : Leaf). l.node) xs)
all-nodes P [] h = λ k d lt. absurd (omega arith)
all-nodes P (x ∷ xs) h = All-cons P x.node (map (λ (l : Leaf). l.node) xs) (h x (inl refl)) (all-nodes P xs (λ one k. h one (inr k)))

pub different : (xs : List Leaf) → Apart xs → HaveDifferentNumbers xs
different [] h = λ i j d lt le. absurd (omega arith)
different (x ∷ xs) h =
    AllPairs-cons (λ one other. one ≢ other) x.node (map (λ (l : Leaf). l.node) xs) (all-nodes (λ other. x.node ≢ other) xs h.0) (different xs h.1)
