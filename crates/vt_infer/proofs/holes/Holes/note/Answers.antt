use Rattle.std.proofs.Common.{refl, inl, sym, ◌∙◌}
use Rattle.std.proofs.lemmas.Cmp.{nat_cmp_total}
use Rattle.std.proofs.lemmas.Map.Lookups.{exact_unsigned}
use Rattle.std.proofs.lemmas.Map.Views.{btree_set_contains_iff}
use Rattle.vt_infer.proofs.holes.Holes.note.Goals as goal

pub returns-in_ok-push : goal.returns-in_ok-push
returns-in_ok-push g c =
    rw (← c.node.view_is, ← c.self.view_is) (record {
      asked = refl;
      noted = inl ((btree_set_contains_iff nat_cmp_total exact_unsigned c.self.inside.asked c.node.inside.0).0 (sym c.contains.ensures ∙ c.if-contains.true), rw (c.node.view_is) c.in_ok-push.ensures.items);
    })
