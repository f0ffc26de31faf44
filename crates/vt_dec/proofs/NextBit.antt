use Rattle.std.proofs.Common.{◌≡◌, ℕ, ◌+◌, ◌-◌, ◌*◌, ◌/◌, ◌%◌, ◌^◌, ◌<◌, ◌≤◌, true, false, Some, eqb, min, List, length, get_or, slice_get, bit_and, Fits, ap, sym, ◌∙◌, inl, inr, arith}
use Rattle.std.proofs.lemmas.Bool.{cases_lt, eqb-true}
use Rattle.std.proofs.lemmas.Nat.{pow_pos}
use Rattle.std.proofs.lemmas.Nat.Bits.{bit_at_and, bit_at-zero, bit_at_mask_inside, bit_at_mask_below, bit_at-trailing_zeros, bit_at-lt}
use Rattle.std.proofs.lemmas.Option.{slice_get-get_or, get_or_from_slice_get, slice_get_within}
use Rattle.std.proofs.Math.Facts.{Fits-and_r}
use Rattle.std.specs.Int.{bit_at, trailing_zeros, w64}
use Rattle.vt_dec.specs.Words.{members, AreWords, IsNextMember}
use Rattle.vt_dec.proofs.WordBits.{length-members, get_or-members}

bit_of_member : (words : List ℕ) (dim : ℕ) → slice_get (members words) dim ≡ Some true → bit_at (get_or words (dim / 64) 0) (dim % 64) ≡ 1
bit_of_member words dim member =
    let within : dim < length (members words) = slice_get_within (members words) dim true member in
    eqb-true _ _ (sym (get_or-members words dim (omega (arith, length-members words))) ∙ get_or_from_slice_get (members words) dim true false member)

member_of_bit : (words : List ℕ) (index offset : ℕ) → index < length words → offset < 64 → bit_at (get_or words index 0) offset ≡ 1 → slice_get (members words) (64 * index + offset) ≡ Some true
member_of_bit words index offset within low set =
    let dim = 64 * index + offset in
    let at : dim / 64 ≡ index = omega arith in
    let rest : dim % 64 ≡ offset = omega arith in
    let inside : dim < 64 * length words = omega arith in
    slice_get-get_or (members words) dim false (omega (arith, length-members words))
    ∙ ap Some (get_or-members words dim inside ∙ (λ k. eqb (bit_at (get_or words (at k) 0) (rest k)) 1) ∙ ap (λ bit. eqb bit 1) set)

module _ (words : List ℕ) (from index mask : ℕ) (hides : mask ≡ 2 ^ 64 - 2 ^ (from - 64 * index)) where
  -- no member stands where the masked word has no bit
  passed : (limit : ℕ) → limit ≤ 64 → ((i : ℕ) → i < limit → bit_at (bit_and (get_or words index 0) mask) i ≡ 0)
      → (dim : ℕ) → from ≤ dim → 64 * index ≤ dim → dim < 64 * index + limit → slice_get (members words) dim ≡ Some true → ⊥
  passed limit few zeros dim after low high member =
      let word = get_or words index 0 in
      let i = dim - 64 * index in
      let at : dim / 64 ≡ index = omega arith in
      let rest : dim % 64 ≡ i = omega arith in
      let set : bit_at word i ≡ 1 = sym (λ k. bit_at (get_or words (at k) 0) (rest k)) ∙ bit_of_member words dim member in
      let shown : bit_at mask i ≡ 1 = ap (λ m. bit_at m i) hides ∙ bit_at_mask_inside (from - 64 * index) 64 i (omega arith) (omega arith) in
      omega (arith, zeros i (omega arith), bit_at_and word mask i, set, shown)

  pub none_in_word : ((dim : ℕ) → from ≤ dim → dim < 64 * index → slice_get (members words) dim ≡ Some true → ⊥)
      → bit_and (get_or words index 0) mask ≡ 0
      → (dim : ℕ) → from ≤ dim → dim < 64 * (index + 1) → slice_get (members words) dim ≡ Some true → ⊥
  none_in_word before none dim after low member =
      elim (cases_lt dim (64 * index)) [
        | inl early ↦ before dim after early member
        | inr late ↦ passed 64 (omega arith) (λ i inside. ap (λ n. bit_at n i) none ∙ bit_at-zero i) dim after late (omega arith) member
      ]

  pub first_in_word : (n : ℕ) → AreWords n words → index < n → from < 64 * (index + 1)
      → ((dim : ℕ) → from ≤ dim → dim < 64 * index → slice_get (members words) dim ≡ Some true → ⊥)
      → (bit_and (get_or words index 0) mask ≡ 0 → ⊥)
      → IsNextMember (members words) from (Some (64 * index + trailing_zeros w64 (bit_and (get_or words index 0) mask)))
  first_in_word n held inside near before some =
      let word = get_or words index 0 in
      let found = bit_and word mask in
      let offset = trailing_zeros w64 found in
      let fits : Fits w64 mask = record { fits = omega (arith, pow_pos (from - 64 * index)) } in
      let both : Fits w64 found = Fits-and_r word fits in
      let positive : 0 < found = omega (arith, some) in
      let lowest = bit_at-trailing_zeros w64 found positive both.fits in
      let both_set : min (bit_at word offset) (bit_at mask offset) ≡ 1 = sym (bit_at_and word mask offset) ∙ lowest.1 in
      let after : from ≤ 64 * index + offset =
      elim (cases_lt offset (from - 64 * index)) [
        | inl hidden ↦ absurd (omega (arith, both_set, ap (λ m. bit_at m offset) hides, bit_at_mask_below (from - 64 * index) 64 offset hidden))
        | inr shown ↦ omega arith
      ]
      in (
        after,
        member_of_bit words index offset (omega (arith, held.long)) lowest.0 (omega (arith, both_set, bit_at-lt word offset, bit_at-lt mask offset)),
        λ dim from_on short member.
            elim (cases_lt dim (64 * index)) [
              | inl early ↦ before dim from_on early member
              | inr late ↦ passed offset (omega (arith, lowest.0)) lowest.2 dim from_on late short member
            ],
      )
