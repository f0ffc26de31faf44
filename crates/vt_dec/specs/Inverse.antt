use Rattle.std.specs.Prelude.{◌≡◌, ℕ, zero, suc, ◌+◌, ◌-◌, ◌*◌, ◌/◌, ◌%◌, ◌^◌, ◌<◌, Bool, true, false, eqb, is_some, map, cond, List, [], ◌∷◌, length, take, drop}
use Rattle.std.proofs.Common.{refl, ap, sym, ◌∙◌, arith}
use Rattle.std.proofs.lemmas.Grind.{common_steps}
use Rattle.std.proofs.lemmas.List.{take_at, drop_at}
use Rattle.std.proofs.Math.Nat.{pow-suc}
use lib.Lanes.{mask_l}
use Rattle.vt_dec.specs.declared.side.Side.{Side}
use Rattle.vt_dec.specs.declared.side.Space.{Space}
use Rattle.vt_dec.specs.Sides.{side_of, is_right}
use Rattle.vt_dec.specs.Decisions.{rights}
use Rattle.vt_dec.specs.Contexts.{kept, least_of, budget_of, IsHeld}
use Rattle.vt_dec.specs.Words.{bits_of, members, words_of, AreWords}

-- A set of dimensions is known by its members: the words are had back from the bits. Decisions and
-- contexts are known by their sides.

pub length-bits_of : (n word : ℕ) → length (bits_of n word) ≡ n
unfolding bits_of
length-bits_of zero word = refl
length-bits_of (suc n) word = ap suc (length-bits_of n (word / 2))

lowest_back : (word rest : ℕ) → rest ≡ word / 2 → cond (eqb (word % 2) 1) 1 0 + 2 * rest ≡ word
lowest_back word rest e = grind (arith, common_steps)

pub mask_l-bits_of : (n word : ℕ) → word < 2 ^ n → mask_l (bits_of n word) ≡ word
unfolding bits_of
mask_l-bits_of zero word fits = omega arith
mask_l-bits_of (suc n) word fits = lowest_back word _ (mask_l-bits_of n (word / 2) (omega (arith, pow-suc 2 n)))

pub words_of-members : (n : ℕ) (words : List ℕ) → AreWords n words → words_of n (members words) ≡ words
unfolding members words_of
words_of-members zero [] held = refl
words_of-members (suc n) [] held = absurd (omega (arith, held.long))
words_of-members zero (word ∷ words) held = absurd (omega (arith, held.long))
words_of-members (suc n) (word ∷ words) held =
    let front : take 64 (members (word ∷ words)) ≡ bits_of 64 word = take_at _ (members words) 64 (length-bits_of 64 word) in
    let rest : drop 64 (members (word ∷ words)) ≡ members words = drop_at (bits_of 64 word) _ 64 (length-bits_of 64 word) in
    let head : mask_l (take 64 (members (word ∷ words))) ≡ word = ap mask_l front ∙ mask_l-bits_of 64 word (held.fit 0).fits in
    let tail : words_of n (drop 64 (members (word ∷ words))) ≡ words =
    ap (words_of n) rest ∙ words_of-members n words (record { long = omega (arith, held.long); fit = λ k. held.fit (suc k) })
    in
    λ k. head k ∷ tail k

pub is_right-side_of : (bits : List Bool) → map is_right (map side_of bits) ≡ bits
is_right-side_of [] = refl
is_right-side_of (true ∷ bits) = ap (λ rest. true ∷ rest) (is_right-side_of bits)
is_right-side_of (false ∷ bits) = ap (λ rest. false ∷ rest) (is_right-side_of bits)

is_some-kept : (decided : List Bool) (least : List Side) → length decided ≡ length least → map is_some (kept decided least) ≡ decided
is_some-kept [] least long = refl
is_some-kept (decides ∷ decided) [] long = absurd (omega arith)
is_some-kept (true ∷ decided) (side ∷ least) long = ap (λ rest. true ∷ rest) (is_some-kept decided least (omega arith))
is_some-kept (false ∷ decided) (side ∷ least) long = ap (λ rest. false ∷ rest) (is_some-kept decided least (omega arith))

module _ {n : ℕ} {decided : List Bool} {least : List Side} {left : ℕ} {space : Space} (held : IsHeld n decided least left space) where
  pub decided_back : map is_some (kept decided least) ≡ decided
  decided_back = is_some-kept decided least (held.parts.long ∙ sym held.parts.full)

  pub left_back : budget_of space - rights (least_of (kept decided least)) ≡ left
  left_back = ap (λ sides. budget_of space - rights sides) held.parts.only ∙ sym held.count
