use Rattle.std.proofs.Common.{◌≡◌, ℕ, ◌+◌, ◌<◌, List, [], ◌∷◌, ◌++◌, length, get_or, take, ap, sym, subst, ◌∙◌}
use Rattle.std.proofs.lemmas.List.{append_assoc, append-nil, take_more}
use Rattle.vt_type.specs.declared.change.ChangeLine.{ChangeLine}
use Rattle.vt_syntax.specs.declared.leaf.Leaf.{Leaf}
use Rattle.vt_report.specs.Reports.{heading, IsTold, AreTold, none, one_more}

-- Reports from left to right.

module _ (text : List ℕ) (leaves : List Leaf) (changes : List ChangeLine) where
  -- a report up to the lines of the first so many changes
  pub record IsBegun (count : ℕ) (written : List ℕ) : Type 0 where
    pub told : List ℕ
    pub lines : AreTold text leaves (take count changes) told
    pub written_is : written ≡ heading (length changes) ++ told

  pub begun : (out : List ℕ) → out ≡ heading (length changes) → IsBegun 0 out
  begun out is = record { told = []; lines = none; written_is = is ∙ sym (append-nil _) }

  pub one_line_more : (count : ℕ) (out own new : List ℕ) (change : ChangeLine) → IsBegun count out
      → count < length changes → change ≡ get_or changes count change → IsTold text leaves change own
      → new ≡ out ++ own → IsBegun (count + 1) new
  one_line_more count out own new change so_far within is told new_is =
      let taken : take count changes ++ change ∷ [] ≡ take (count + 1) changes = ap (λ c. take count changes ++ c ∷ []) is ∙ sym (take_more changes count change within) in
      record {
        told = so_far.told ++ own;
        lines = subst (λ cs. AreTold text leaves cs (so_far.told ++ own)) taken (one_more _ so_far.told change own so_far.lines told);
        written_is = new_is ∙ ap (λ o. o ++ own) so_far.written_is ∙ append_assoc (heading (length changes)) so_far.told own;
      }
