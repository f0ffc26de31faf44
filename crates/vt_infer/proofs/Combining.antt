use Rattle.std.proofs.Common.{◌≡◌, ◌↔◌, ℕ, ◌≤◌, List, refl, sym, ◌∙◌, arith}
use Rattle.vt_dec.specs.declared.fate.Fate.{Fate}
use Rattle.vt_dec.specs.declared.fate.Fate.TheVariants.{Alive, Dead}
use Rattle.vt_syntax.specs.declared.core_expr.Core.{Core}
use Rattle.vt_type.specs.declared.plain.Plain.{Plain}
use Rattle.vt_type.specs.Constants.{Constant}
use Rattle.vt_infer.specs.Places.{Place, HaveCells}
use Rattle.vt_infer.specs.Steps.{Solutions, Agree, Keeps, Adds, Steps}
use Rattle.vt_infer.proofs.PlaceLemmas.{env_at-agrees}

-- Steps one after the other.

pub agree-then : (n m : ℕ) (s one other : ℕ → Plain) → n ≤ m → Agree n s one → Agree m one other → Agree n s other
agree-then n m s one other le f g cell within = g cell (omega arith) ∙ f cell within

pub keeps-itself : (n : ℕ) (A : Solutions) → Keeps n n A A
keeps-itself n A = record { grows = omega arith; old = λ s h. h; again = λ s h. (s, h, λ cell within. refl) }

pub keeps-then : (n m l : ℕ) (A B C : Solutions) → Keeps n m A B → Keeps m l B C → Keeps n l A C
keeps-then n m l A B C h g = record {
  grows = omega (arith, h.grows, g.grows);
  old = λ s c. h.old s (g.old s c);
  again = λ s a.
      let (one, b, f) = h.again s a in
      let (other, c, k) = g.again one b in
      (other, c, agree-then n m s one other h.grows f k);
}

-- a result that is always there
pub adds-keeps : (n m : ℕ) (A B : Solutions) (result : ℕ) (P : (ℕ → Plain) → Plain → Type 0)
    → ((s : ℕ → Plain) → A s → (type : Plain) × P s type) → Adds n m A B result P → Keeps n m A B
adds-keeps n m A B result P some h = record {
  grows = h.grows;
  old = h.old;
  again = λ s a.
      let (type, p) = some s a in
      let (other, b, f, _) = h.taken s type a p in
      (other, b, f);
}

-- the same types by another relation
pub adds-same : (n m : ℕ) (A B : Solutions) (result : ℕ) (P Q : (ℕ → Plain) → Plain → Type 0)
    → ((s : ℕ → Plain) → A s → (type : Plain) → P s type ↔ Q s type) → Adds n m A B result P → Adds n m A B result Q
adds-same n m A B result P Q same h = record {
  grows = h.grows;
  is_cell = h.is_cell;
  old = h.old;
  related = λ s b. (same s (h.old s b) (s result)).0 (h.related s b);
  taken = λ s type a q. h.taken s type a ((same s a type).1 q);
}

module _ (K : List Constant) (places : List Place) (e : Core) (first last : ℕ) where
  keeping_after : (fate : Fate) (n m l : ℕ) (A B C : Solutions) (result : ℕ) → Steps K n m A B result places e first last fate → Keeps m l B C → Steps K n l A C result places e first last fate
  keeping_after Alive n m l A B C result h k = record {
    grows = omega (arith, h.grows, k.grows);
    is_cell = omega (arith, h.is_cell, k.grows);
    old = λ s c. h.old s (k.old s c);
    related = λ s c. h.related s (k.old s c);
    taken = λ s type a d.
        let (one, b, f, own) = h.taken s type a d in
        let (other, c, g) = k.again one b in
        (other, c, agree-then n m s one other h.grows f g, g result h.is_cell ∙ own);
  }
  keeping_after (Dead node) n m l A B C result h k = h

  keeping_before : (fate : Fate) (n m l : ℕ) (A B C : Solutions) (result : ℕ) → HaveCells n places → Keeps n m A B → Steps K m l B C result places e first last fate → Steps K n l A C result places e first last fate
  keeping_before Alive n m l A B C result have k h = record {
    grows = omega (arith, h.grows, k.grows);
    is_cell = h.is_cell;
    old = λ s c. k.old s (h.old s c);
    related = h.related;
    taken = λ s type a d.
        let (one, b, f) = k.again s a in
        let (other, c, g, own) = h.taken one type b (rw (env_at-agrees n s one places have f) d) in
        (other, c, agree-then n m s one other k.grows f g, own);
  }
  keeping_before (Dead node) n m l A B C result have k h = record {
    from = h.from;
    below = h.below;
    fails = λ s a type d.
        let (one, b, f) = k.again s a in
        h.fails one b type (rw (env_at-agrees n s one places have f) d);
    before = λ i less.
        let (s, b, type, d) = h.before i less in
        (s, k.old s b, type, d);
  }

  same_after : (fate : Fate) (n m l : ℕ) (A B C : Solutions) (result same : ℕ) → Steps K n m A B result places e first last fate → Adds m l B C same (λ s type. type ≡ s result) → Steps K n l A C same places e first last fate
  same_after Alive n m l A B C result same h k = record {
    grows = omega (arith, h.grows, k.grows);
    is_cell = k.is_cell;
    old = λ s c. h.old s (k.old s c);
    related = λ s c. rw (k.related s c) (h.related s (k.old s c));
    taken = λ s type a d.
        let (one, b, f, own) = h.taken s type a d in
        let (other, c, g, equal) = k.taken one type b (sym own) in
        (other, c, agree-then n m s one other h.grows f g, equal);
  }
  same_after (Dead node) n m l A B C result same h k = h

module _ (K : List Constant) (places : List Place) (e : Core) (first last : ℕ) (fate : Fate) where
  -- an expression, and then what keeps the solutions
  pub steps-keeps : (n m l : ℕ) (A B C : Solutions) (result : ℕ) → Steps K n m A B result places e first last fate → Keeps m l B C → Steps K n l A C result places e first last fate
  steps-keeps = keeping_after K places e first last fate

  -- what keeps the solutions, and then an expression
  pub keeps-steps : (n m l : ℕ) (A B C : Solutions) (result : ℕ) → HaveCells n places → Keeps n m A B → Steps K m l B C result places e first last fate → Steps K n l A C result places e first last fate
  keeps-steps = keeping_before K places e first last fate

  -- an expression, and then a cell of the same type
  pub steps-same : (n m l : ℕ) (A B C : Solutions) (result same : ℕ) → Steps K n m A B result places e first last fate → Adds m l B C same (λ s type. type ≡ s result) → Steps K n l A C same places e first last fate
  steps-same = same_after K places e first last fate
