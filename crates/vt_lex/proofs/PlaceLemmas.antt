use Rattle.std.proofs.Common.{◌≡◌, ◌≢◌, ℕ, ◌+◌, ◌-◌, ◌≤◌, ◌==◌, Bool, false, not, cond, List, [], ◌∷◌, ◌++◌, length, count_by, refl, sym, ap, ◌∙◌, arith, length-drop}
use Rattle.std.specs.List.{suffix_len, prefix_len}
use Rattle.std.proofs.lemmas.Bool.Decides.{nat_tests}
use Rattle.std.proofs.lemmas.List.{reverse-append}
use Rattle.std.proofs.lemmas.List.Sums.{sum_by_push, suffix_len-le-length, count_by-le-length}
use Rattle.vt_lex.specs.declared.place.LineCol.{LineCol}
use Rattle.vt_lex.specs.Places.{last_line, place_after}

-- The place after some characters, one character on.

-- how many characters the last line has
column_of : (cs : List ℕ) → length (last_line cs) ≡ suffix_len (λ c. not (c == 10)) cs
column_of cs = omega (arith, length-drop (length cs - suffix_len (λ c. not (c == 10)) cs) cs, suffix_len-le-length (λ c. not (c == 10)) cs)

-- how many it has with one more
column_more : (cs : List ℕ) (c : ℕ) → length (last_line (cs ++ c ∷ [])) ≡ cond (not (c == 10)) (1 + length (last_line cs)) 0
column_more cs c =
    let on : ℕ → Bool = λ c. not (c == 10) in
    column_of (cs ++ c ∷ []) ∙ ap (prefix_len on) (reverse-append cs (c ∷ [])) ∙ ap (λ n. cond (on c) (1 + n) 0) (sym (column_of cs))

-- how many line feeds there are with one character more
lines_more : (cs : List ℕ) (c : ℕ) → count_by (λ c. c == 10) (cs ++ c ∷ []) ≡ count_by (λ c. c == 10) cs + cond (c == 10) 1 0
lines_more cs c = sum_by_push (λ c. cond (c == 10) 1 0) cs c

same_place : (a b c d : ℕ) → a ≡ c → b ≡ d → ◌≡◌ {A = LineCol} (record { line = a; column = b }) (record { line = c; column = d })
same_place a b c d p q = rw (p, q) refl

-- after another character
pub place_after-other : (cs : List ℕ) (c : ℕ) (place : LineCol) → c ≢ 10 → place ≡ place_after cs → record place { column = place.column + 1 } ≡ place_after (cs ++ c ∷ [])
place_after-other cs c place other e =
    let test : (c == 10) ≡ false = grind (arith, nat_tests) in
    let lines = rw test at (lines_more cs c) in
    let column = rw test at (column_more cs c) in
    same_place _ _ _ _ (omega (arith, lines, ap (λ p. p.line) e)) (omega (arith, column, ap (λ p. p.column) e))

-- lines and columns are no more than characters
pub place_after-bound : (cs : List ℕ) (place : LineCol) → place ≡ place_after cs → (place.line ≤ length cs + 1) × (place.column ≤ length cs + 1)
place_after-bound cs place e =
    let lines = ap (λ p. p.line) e in
    let column = ap (λ p. p.column) e in
    (omega (arith, lines, count_by-le-length (λ c. c == 10) cs), omega (arith, column, column_of cs, suffix_len-le-length (λ c. not (c == 10)) cs))
