use Rattle.std.proofs.Common.{◌≡◌, ◌⊎◌, ℕ, List, Some, subst, inl, inr, arith}
use Rattle.std.specs.BTreeMap.{BTreeMap, get, Updates}
use Rattle.vt_diagram.specs.declared.entry.Entry.{Entry}
use Rattle.vt_diagram.specs.declared.question.Question.{Question}
use Rattle.vt_diagram.specs.Answers.{IsAnswer, AreKnown, question_cmp}
use Rattle.vt_diagram.specs.Tables.{Grows}
use Rattle.vt_diagram.proofs.Keys.{exact_question}
use Rattle.vt_diagram.proofs.Maps.{new_or_old}

-- Answers that are remembered.

-- an answer stays right while the table grows
pub answer-grown : (bound : ℕ) (old new : List Entry) (asked : Question) (id : ℕ) → Grows old new → IsAnswer bound old asked id → IsAnswer bound new asked id
answer-grown bound old new asked id grows answer =
    let x = grows.kept asked.one answer.first in
    let y = grows.kept asked.other answer.second in
    let z = grows.kept id answer.within in
    record {
      first = omega (arith, answer.first, grows.more);
      second = omega (arith, answer.second, grows.more);
      within = omega (arith, answer.within, grows.more);
      at_each = λ decision within. rw (x, y, z) (answer.at_each decision within);
      ordered = rw (x, y, z) answer.ordered;
    }

-- one answer more
pub known-more : (bound : ℕ) (entries : List Entry) (old new : BTreeMap Question ℕ) (asked : Question) (id : ℕ) → AreKnown bound entries old → IsAnswer bound entries asked id
    → Updates question_cmp old new asked (Some id) → AreKnown bound entries new
known-more bound entries old new asked id known answer updates own place found = by (new_or_old question_cmp exact_question old new asked id updates own place found)
  where
    by : ((asked ≡ own) × (id ≡ place)) ⊎ (get question_cmp old own ≡ Some place) → IsAnswer bound entries own place
    by (inl new) = subst (λ question. IsAnswer bound entries question place) new.0 (subst (IsAnswer bound entries asked) new.1 answer)
    by (inr old) = known own place old
