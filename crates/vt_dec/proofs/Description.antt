use Rattle.std.proofs.Common.{◌≡◌, ℕ, ◌≤◌, ◌↔◌, List, Option, Some, None, length, slice_get, refl, ap, sym, ◌∙◌, arith}
use Rattle.std.proofs.lemmas.List.{ext_get_or}
use Rattle.std.proofs.lemmas.Option.{slice_get-get_or, same_Some}
use Rattle.vt_dec.specs.declared.side.Side.{Side}
use Rattle.vt_dec.specs.declared.side.Side.TheVariants.{Left, Right}
use Rattle.vt_dec.specs.declared.side.Space.{Space}
use Rattle.vt_dec.specs.declared.side.Space.TheVariants.{All, AtMost}
use Rattle.vt_dec.specs.Decisions.{taken, Region, Admits, IsKeptIn, IsKept}
use Rattle.vt_dec.specs.Contexts.{least_of, IsSpentIn}
use Rattle.vt_dec.proofs.Agreement.{Agrees-length, Agrees-decided, rights-least, taken_le_rights, slice_get-least_open}
use Rattle.vt_dec.proofs.Regions.{Admits-least, CanTake-right}

-- One region is described in one way.

unspent : (space : Space) (ones others : List (Option Side)) (dim : ℕ) → IsKeptIn space others → slice_get others dim ≡ Some (Some Left) → taken ones ≤ taken others → IsSpentIn space ones → ⊥
unspent All ones others dim kept left fewer spent = spent
unspent (AtMost k) ones others dim kept left fewer spent = kept.no_left (omega (arith, kept.within)) dim left

module _ (one other : Region) (one_kept : IsKept one) (other_kept : IsKept other) (same_space : one.space ≡ other.space)
    (forth : (decision : List Side) → Admits one decision → Admits other decision) (back : (decision : List Side) → Admits other decision → Admits one decision) where
  -- what the one leaves open, the other does not decide
  no_more : (dim : ℕ) (own : Side) → slice_get one.sides dim ≡ Some None → slice_get other.sides dim ≡ Some (Some own) → ⊥
  no_more dim Right free decides =
      let least = least_of one.sides in
      let takes = Agrees-decided other.sides least dim Right (forth least (Admits-least one one_kept)).agrees decides in
      cc (takes, slice_get-least_open one.sides dim free)
  no_more dim Left free decides =
      let least = least_of other.sides in
      let fewer : taken one.sides ≤ taken other.sides =
      omega (arith, taken_le_rights one.sides least (back least (Admits-least other other_kept)).agrees, rights-least other.sides)
      in
      let other_kept_here : IsKeptIn one.space other.sides = rw same_space other_kept in
      let can = CanTake-right one dim one_kept (unspent one.space one.sides other.sides dim other_kept_here decides fewer) free in
      let takes = Agrees-decided other.sides can.0 dim Left (forth can.0 can.1).agrees decides in
      cc (takes, can.2)

  same_length : length one.sides ≡ length other.sides
  same_length =
      let least = least_of one.sides in
      let admits = Admits-least one one_kept in
      sym (Agrees-length one.sides least admits.agrees) ∙ Agrees-length other.sides least (forth least admits).agrees

  same_own : (dim : ℕ) (ones others : Side) → slice_get one.sides dim ≡ Some (Some ones) → slice_get other.sides dim ≡ Some (Some others) → ones ≡ others
  same_own dim ones others a b =
      let least = least_of one.sides in
      let admits = Admits-least one one_kept in
      same_Some _ _ (sym (Agrees-decided one.sides least dim ones admits.agrees a) ∙ Agrees-decided other.sides least dim others (forth least admits).agrees b)

same_at : (one other : Region) → IsKept one → IsKept other → one.space ≡ other.space
    → ((decision : List Side) → Admits one decision → Admits other decision) → ((decision : List Side) → Admits other decision → Admits one decision)
    → (dim : ℕ) (a b : Option Side) → slice_get one.sides dim ≡ Some a → slice_get other.sides dim ≡ Some b → a ≡ b
same_at one other k l s forth back dim None None a b = refl
same_at one other k l s forth back dim None (Some own) a b = absurd (no_more one other k l s forth back dim own a b)
same_at one other k l s forth back dim (Some own) None a b = absurd (no_more other one l k (sym s) back forth dim own b a)
same_at one other k l s forth back dim (Some x) (Some y) a b = ap Some (same_own one other k l s forth back dim x y a b)

pub one_region : (one other : Region) → IsKept one → IsKept other → one.space ≡ other.space → ((decision : List Side) → Admits one decision ↔ Admits other decision) → one ≡ other
one_region one other k l s same =
    let forth = λ (decision : List Side). (same decision).0 in
    let back = λ (decision : List Side). (same decision).1 in
    let long : length one.sides ≡ length other.sides = same_length one other k l s forth back in
    let sides : one.sides ≡ other.sides = ext_get_or None one.sides other.sides long (λ dim within.
    same_at one other k l s forth back dim _ _ (slice_get-get_or one.sides dim None within) (slice_get-get_or other.sides dim None (omega (arith, within, long))))
    in
    λ i. record { sides = sides i; space = s i }
