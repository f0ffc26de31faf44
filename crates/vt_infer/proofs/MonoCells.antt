use Rattle.std.proofs.Common.{◌≡◌, ℕ, List, [], ◌∷◌, ◌++◌, refl, ap, ◌∙◌}
use Rattle.vt_infer.specs.Environments.{mono_cells}
use Rattle.vt_infer.specs.declared.environment.Entry.{Entry}
use Rattle.vt_infer.specs.declared.environment.Entry.TheVariants.{Mono, Poly}

-- The cells of the parameters in scope, with one entry more.

pub mono_cells-more : {N : ℕ} (entry : Entry N) (entries : List (Entry N)) → mono_cells (entry ∷ entries) ≡ mono_cells (entry ∷ []) ++ mono_cells entries
mono_cells-more (Mono cell) entries = refl
mono_cells-more (Poly scheme originals) entries = refl

-- and without it again
pub mono_cells-fewer : {N : ℕ} (entry : Entry N) (all entries : List (Entry N)) (before after : List ℕ) → all ≡ entry ∷ entries → before ≡ mono_cells all
    → ((rest : List ℕ) → before ≡ mono_cells (entry ∷ []) ++ rest → after ≡ rest) → after ≡ mono_cells entries
mono_cells-fewer entry all entries before after is same takes = takes (mono_cells entries) (same ∙ ap mono_cells is ∙ mono_cells-more entry entries)
