use Rattle.std.proofs.Common.{inl, inr, ◌≡◌, refl, ℕ, ◌^◌, ◌<◌, min, true, sym, ap, arith}
use Rattle.std.specs.declared.cmp.Ordering.{Ordering}
use Rattle.std.specs.declared.cmp.Ordering.TheVariants.{Less, Equal}
use Rattle.std.specs.Ordering.{nat_cmp, on, then_cmp, is_lt}
use Rattle.std.specs.Cmp.{IsTotalOrder, nat_cmp_is}
use Rattle.std.proofs.lemmas.Cmp.{nat_cmp_total, on_total, then_total}
use Rattle.vt_type.specs.declared.change.ChangeLine.{ChangeLine}
use Rattle.vt_type.specs.Plain.{plain_nodes}
use Rattle.vt_rules.specs.Changes.{ComesBefore}
use Rattle.vt_change.specs.declared.ranking.Standing.{Standing}
use Rattle.vt_change.specs.Ranking.{standing}

-- How changes are compared: by class, then by nodes, then by leaf.
abbrev pub by_standing : Standing → Standing → Ordering
by_standing = then_cmp (on (λ s. s.class) nat_cmp) (then_cmp (on (λ s. s.nodes) nat_cmp) (on (λ s. s.leaf) nat_cmp))

pub by_standing-total : IsTotalOrder by_standing
by_standing-total = then_total (on_total (λ s. s.class) nat_cmp_total) (then_total (on_total (λ s. s.nodes) nat_cmp_total) (on_total (λ s. s.leaf) nat_cmp_total))

less : (x y : ℕ) → x < y → nat_cmp x y ≡ Less
less x y below = sym (nat_cmp_is x y Less below)

same : (x y : ℕ) → x ≡ y → nat_cmp x y ≡ Equal
same x y is = sym (nat_cmp_is x y Equal is)

-- what comes before is lower
pub lower : (one other : ChangeLine) → plain_nodes one.wanted < 2 ^ 32 → plain_nodes other.wanted < 2 ^ 32 → ComesBefore one other → is_lt (by_standing (standing one) (standing other)) ≡ true
lower one other few fewer (inl class) = rw (less one.class other.class class) refl
lower one other few fewer (inr (class, inl nodes)) =
    rw (same one.class other.class class, less (min (plain_nodes one.wanted) 4294967295) (min (plain_nodes other.wanted) 4294967295) (omega (arith, nodes, few, fewer))) refl
lower one other few fewer (inr (class, inr (nodes, leaf))) =
    rw (same one.class other.class class, same (min (plain_nodes one.wanted) 4294967295) (min (plain_nodes other.wanted) 4294967295) (ap (λ n. min n 4294967295) nodes), less one.leaf other.leaf leaf) refl
