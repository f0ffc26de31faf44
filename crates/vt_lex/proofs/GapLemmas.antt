use Rattle.std.proofs.Common.{◌≡◌, ℕ, ◌==◌, Bool, true, false, not, inl, inr, List, [], ◌∷◌, ◌++◌, take, drop, refl, ap, arith, eq-eqb, eqb-true, one-add}
use Rattle.std.proofs.lemmas.Bool.{cases_Bool}
use Rattle.vt_lex.specs.Lexing.{BeginsNoGap, IsOnOneLine, EndsLine, IsGap, nothing, blank, comment}
use Rattle.vt_lex.specs.Reading.{is_blank, gap_length}
use Rattle.vt_lex.proofs.PieceLemmas.{blank_test}

-- Gaps between tokens.

-- a gap, or the end of a comment and a gap
abbrev pub IsTaken : Bool → List ℕ → List ℕ → Type 0
IsTaken false taken rest = IsGap taken rest
IsTaken true taken rest = (line : List ℕ) × (gap : List ℕ) × (taken ≡ line ++ gap) × IsOnOneLine line × EndsLine (gap ++ rest) × IsGap gap rest

-- what is counted is a gap
pub taken : (inside : Bool) (cs : List ℕ) → IsTaken inside (take (gap_length inside cs) cs) (drop (gap_length inside cs) cs)
taken false [] = nothing []
taken true [] = ([], [], refl, tt, tt, nothing [])
taken true (c ∷ cs) = elim (cases_Bool (c == 10)) [
  | inl e ↦ rw (e, one-add) (let feed = eqb-true c 10 e in ([], c ∷ take (gap_length false cs) cs, refl, tt, feed, blank c _ _ (inr (inr (inl feed))) (taken false cs)))
  | inr e ↦ rw (e, one-add) (let more = taken true cs in (c ∷ more.0, more.1, ap (λ t. c ∷ t) more.2, (λ feed. let equal = eq-eqb c 10 feed in cc, more.3), more.4, more.5))
]
taken false (c ∷ cs) = elim (cases_Bool (c == 35)) [
  | inl e ↦ rw (e, one-add) (let more = taken true cs in rw (eqb-true c 35 e, more.2) (comment more.0 more.1 _ more.3 more.4 more.5))
  | inr e ↦ elim (cases_Bool (is_blank c)) [
    | inl is ↦ rw (e, is, one-add) (blank c _ _ ((blank_test c).0 is) (taken false cs))
    | inr is ↦ rw (e, is) (nothing (c ∷ cs))
  ]
]

-- after what is counted no gap begins
pub gap_length-after : (inside : Bool) (cs : List ℕ) → gap_length false (drop (gap_length inside cs) cs) ≡ 0
gap_length-after false [] = refl
gap_length-after true [] = refl
gap_length-after true (c ∷ cs) = rw one-add (gap_length-after (not (c == 10)) cs)
gap_length-after false (c ∷ cs) = elim (cases_Bool (c == 35)) [
  | inl e ↦ rw (e, one-add) (gap_length-after true cs)
  | inr e ↦ elim (cases_Bool (is_blank c)) [
    | inl is ↦ rw (e, is, one-add) (gap_length-after false cs)
    | inr is ↦ rw (e, is) (rw (e, is) refl)
  ]
]

-- a character where no gap is counted begins none
pub BeginsNoGap-none : (c : ℕ) (cs : List ℕ) → gap_length false (c ∷ cs) ≡ 0 → BeginsNoGap c
BeginsNoGap-none c cs h = elim (cases_Bool (c == 35)) [
  | inl e ↦ absurd (let some = rw e at h in omega arith)
  | inr e ↦ elim (cases_Bool (is_blank c)) [
    | inl is ↦ absurd (let some = rw (e, is) at h in omega arith)
    | inr is ↦ (λ b. let test = (blank_test c).1 b in cc, λ hash. let equal = eq-eqb c 35 hash in cc)
  ]
]
