use Rattle.std.proofs.Common.{◌≡◌, ◌↔◌, ◌⊎◌, Bool, true, false, IsTrue, inl, inr, refl}

-- an `or` that stops at a first part that holds
pub first_holds : (P Q : Type 0) (first : Bool) → (IsTrue first ↔ P) → first ≡ true → IsTrue first ↔ (P ⊎ Q)
first_holds P Q first is e = (λ h. inl (is.0 h), λ _. rw e refl)

-- an `or` that is its second part, where the first fails
pub second_decides : (P Q : Type 0) (first second : Bool) → (IsTrue first ↔ P) → first ≡ false → (IsTrue second ↔ Q) → IsTrue second ↔ (P ⊎ Q)
second_decides P Q first second is e other =
    (λ h. inr (other.0 h), λ h. elim h [ inl p ↦ (let t : IsTrue first = is.1 p in cc) | inr q ↦ other.1 q ])
