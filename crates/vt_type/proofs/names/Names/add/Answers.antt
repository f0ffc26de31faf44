use Rattle.std.proofs.Common.{Some, Contains, map, ◌<◌, ◌^◌, length, true≢false, sym, ap, ◌∙◌, arith}
use Rattle.std.proofs.lemmas.List.{length_push}
use Rattle.std.proofs.lemmas.Option.{slice_get-map}
use Rattle.std.proofs.lemmas.Slice.Eq.{bytes_eq-Decides}
use Rattle.std.specs.Option.{option_map}
use Rattle.std.specs.String.{string_bytes}
use Rattle.vt_type.proofs.Naming.{pushed, AreDistinct-push}
use Rattle.vt_type.proofs.names.Names.add.Goals as goal

pub invariant_of-self-2 : goal.invariant_of-self-2
invariant_of-self-2 c =
    let old = map string_bytes c.self.inside.texts.keys in
    let absent : Contains old (string_bytes c.in_ok-text.text) → ⊥ = rw (c.self.view_is, c.in_ok-text.ensures.ok) (λ h. true≢false (sym (c.in_default.ensures.known.1 h))) in
    let room : length old < 2 ^ 32 = rw c.self.view_is c.requires in
    rw (pushed string_bytes c.self.inside.texts.keys c.insert_full.new.self.keys c.in_ok-text.text c.in_ok-number.ensures.keys absent)
    (AreDistinct-push old _ c.self.invariant.0 absent, omega (arith, length_push old (string_bytes c.in_ok-text.text)))

pub returns-clause-number : goal.returns-clause-number
returns-clause-number c =
    let stored = c.in_ok-number.ensures.stored in
    slice_get-map string_bytes c.insert_full.new.self.keys c.in_ok-number.number ∙ ap (option_map string_bytes) stored.1
    ∙ ap Some (sym ((bytes_eq-Decides _ _).0 stored.2) ∙ c.in_ok-text.ensures.ok)

pub returns-clause-added : goal.returns-clause-added
returns-clause-added c absent =
    rw (← c.self.view_is, ← c.in_ok-text.ensures.ok)
    (pushed string_bytes c.self.inside.texts.keys c.insert_full.new.self.keys c.in_ok-text.text c.in_ok-number.ensures.keys
    (rw (c.self.view_is, c.in_ok-text.ensures.ok) absent))
