use Rattle.std.proofs.Common.{◌≡◌, ℕ, zero, suc, List, slice_get, Option, Some, None, refl, sym, ap, subst, ◌∙◌}
use Rattle.std.specs.Option.{option_map}
use Rattle.std.proofs.lemmas.Option.{slice_get-map, slice_get_within, get_or_from_slice_get, same_Some, none-some}
use Rattle.vt_type.specs.declared.plain.Plain.{Plain}
use Rattle.vt_type.specs.Plain.{IsWellFormed}
use Rattle.vt_type.specs.Constants.{Constant, HasClosed, IsTable}
use Rattle.vt_rules.specs.Env.{Env, Entry, Empty, ◌▸◌, entry_at, IsWellFormedEnv, IsWellFormedEntry, env_substituted, entry_substituted}

-- what is looked up in a well-formed environment is well formed
pub entry-well_formed : (env : Env) (distance : ℕ) (entry : Entry) → IsWellFormedEnv env → entry_at env distance ≡ Some entry → IsWellFormedEntry entry
entry-well_formed Empty distance entry h e = absurd (none-some entry e)
entry-well_formed (env ▸ other) zero entry h e = subst IsWellFormedEntry (same_Some other entry e) h.1
entry-well_formed (env ▸ other) (suc distance) entry h e = entry-well_formed env distance entry h.0 e

-- what is looked up after a substitution
pub entry_at-substituted : (images : List ℕ → Plain) (env : Env) (distance : ℕ) (entry : Entry)
    → entry_at env distance ≡ Some entry → entry_at (env_substituted images env) distance ≡ Some (entry_substituted images entry)
entry_at-substituted images Empty distance entry e = absurd (none-some entry e)
entry_at-substituted images (env ▸ other) zero entry e = ap (λ x. Some (entry_substituted images x)) (same_Some other entry e)
entry_at-substituted images (env ▸ other) (suc distance) entry e = entry_at-substituted images env distance entry e

-- the closed types of a table are well formed
pub closed-well_formed : (K : List Constant) (id : ℕ) (closed : Plain) → IsTable K → HasClosed K id closed → IsWellFormed closed
closed-well_formed K id closed table e = by (slice_get K id) refl (sym (slice_get-map (λ c. c.closed) K id) ∙ e)
  where
    by : (found : Option Constant) → slice_get K id ≡ found → option_map (λ c. c.closed) found ≡ Some closed → IsWellFormed closed
    by None at f = absurd (none-some closed f)
    by (Some c) at f =
        subst IsWellFormed (ap (λ d. d.closed) (get_or_from_slice_get K id c c at) ∙ same_Some c.closed closed f)
        (table.types id c (slice_get_within K id c at)).0
