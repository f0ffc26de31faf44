use Rattle.std.proofs.Common.{◌≡◌, ◌⊎◌, zero, suc, ◌<◌, List, [], ◌∷◌, length, Contains, AllPairs, refl, sym, subst, inl, inr, arith}

-- Two lists with the same elements, each in the order of a strict relation, are one.

module _ {X : Type 0} where
  -- an element is the first or one of the others
  first_or_later : (x y : X) (ys : List X) → Contains (y ∷ ys) x → (y ≡ x) ⊎ Contains ys x
  first_or_later x y ys (zero, within, e) = inl e
  first_or_later x y ys (suc k, within, e) = inr (k, omega arith, e)

  later : (x y : X) (ys : List X) → Contains ys x → Contains (y ∷ ys) x
  later x y ys (k, within, e) = (suc k, omega arith, e)

  module _ (R : X → X → Type 0) (strict : (x y : X) → R x y → R y x → ⊥) where
    before_later : (y : X) (ys : List X) → AllPairs R (y ∷ ys) → (x : X) → Contains ys x → R y x
    before_later y ys order x (k, within, e) = subst (R y) e (order 0 (suc k) x (omega arith) (omega arith))

    later_order : (y : X) (ys : List X) → AllPairs R (y ∷ ys) → AllPairs R ys
    later_order y ys order i j d less within = order (suc i) (suc j) d (omega arith) (omega arith)

    same_first : (x y : X) (xs ys : List X) → AllPairs R (x ∷ xs) → AllPairs R (y ∷ ys) → Contains (y ∷ ys) x → Contains (x ∷ xs) y → x ≡ y
    same_first x y xs ys order other h k =
        elim (first_or_later x y ys h) [
          | inl e ↦ sym e
          | inr in_ys ↦
              elim (first_or_later y x xs k) [ inl e ↦ e | inr in_xs ↦ absurd (strict x y (before_later x xs order y in_xs) (before_later y ys other x in_ys)) ]
        ]

    -- what stands later in one list stands later in the other
    also_later : (x : X) (xs ys : List X) → AllPairs R (x ∷ xs) → ((z : X) → Contains (x ∷ xs) z → Contains (x ∷ ys) z) → (z : X) → Contains xs z → Contains ys z
    also_later x xs ys order all z h =
        elim (first_or_later z x ys (all z (later z x xs h))) [
          | inl e ↦ (let r = before_later x xs order z h in absurd (strict x z r (subst (λ y. R y x) e (subst (R x) (sym e) r))))
          | inr there ↦ there
        ]

    pub one_list : (xs ys : List X) → AllPairs R xs → AllPairs R ys → ((z : X) → Contains xs z → Contains ys z) → ((z : X) → Contains ys z → Contains xs z) → xs ≡ ys
    one_list [] [] order other all back = refl
    one_list [] (y ∷ ys) order other all back = let h : 0 < length (y ∷ ys) = omega arith in absurd (let k = back y (0, h, refl) in omega (arith, k.1))
    one_list (x ∷ xs) [] order other all back = let h : 0 < length (x ∷ xs) = omega arith in absurd (let k = all x (0, h, refl) in omega (arith, k.1))
    one_list (x ∷ xs) (y ∷ ys) order other all back =
        let e = same_first x y xs ys order other (all x (0, omega arith, refl)) (back y (0, omega arith, refl)) in
        let all' : (z : X) → Contains (x ∷ xs) z → Contains (x ∷ ys) z = subst (λ w. (z : X) → Contains (x ∷ xs) z → Contains (w ∷ ys) z) (sym e) all in
        let back' : (z : X) → Contains (y ∷ ys) z → Contains (y ∷ xs) z = subst (λ w. (z : X) → Contains (y ∷ ys) z → Contains (w ∷ xs) z) e back in
        let tails = one_list xs ys (later_order x xs order) (later_order y ys other) (also_later x xs ys order all') (also_later y ys xs other back') in
        λ j. e j ∷ tails j
