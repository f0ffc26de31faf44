use Rattle.std.proofs.Common.{◌≡◌, ℕ, List, [], ◌∷◌, ◌++◌, sym, ap, ◌∙◌, append-nil, append_assoc}
use Rattle.vt_scheme.specs.declared.scheme.Scheme.{Scheme}
use Rattle.vt_infer.specs.Environments.{schemes_of}
use Rattle.vt_infer.specs.declared.environment.Entry.{Entry}
use Rattle.vt_infer.specs.declared.environment.Entry.TheVariants.{Mono, Poly}

-- The schemes of entries, of which the last one was bound first.

schemes_of-last : {N : ℕ} (entries : List (Entry N)) (entry : Entry N) → schemes_of (entries ++ entry ∷ []) ≡ schemes_of (entry ∷ []) ++ schemes_of entries
schemes_of-last [] entry = sym (append-nil (schemes_of (entry ∷ [])))
schemes_of-last (Mono cell ∷ entries) entry = schemes_of-last entries entry
schemes_of-last (Poly scheme originals ∷ entries) entry =
    ap (λ list. list ++ scheme ∷ []) (schemes_of-last entries entry) ∙ append_assoc (schemes_of (entry ∷ [])) (schemes_of entries) (scheme ∷ [])

-- one entry moved
pub moved_one : {N : ℕ} (before after : List (Scheme N)) (all entries : List (Entry N)) (entry : Entry N) → all ≡ entries ++ entry ∷ [] → after ≡ before ++ schemes_of (entry ∷ [])
    → after ++ schemes_of entries ≡ before ++ schemes_of all
moved_one before after all entries entry is moved =
    ap (λ list. list ++ schemes_of entries) moved ∙ append_assoc before (schemes_of (entry ∷ [])) (schemes_of entries)
    ∙ ap (λ list. before ++ list) (sym (schemes_of-last entries entry) ∙ ap schemes_of (sym is))
