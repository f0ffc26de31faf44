use Rattle.std.proofs.Common.{replicate, sym, ◌∙◌}
use Rattle.std.proofs.lemmas.List.{length-replicate}
use Rattle.vt_dec.specs.declared.side.Side.TheVariants.{Left}
use Rattle.vt_type.specs.NormalForm.{Total, map_of}
use Rattle.vt_norm.specs.Laws.{AreSingleValued, IsSoundForTypes, IsUniqueForTypes, OneFormSelectsAlike, AlikeHaveOneForm}
use Rattle.vt_norm.proofs.Congruence.{for_same_outcomes}
use Rattle.vt_norm.proofs.Soundness.{sound}
use Rattle.vt_norm.proofs.Uniqueness.{unique}

-- The normal form of a type is that of its map.

pub maps_are_single : AreSingleValued
maps_are_single type decision one other h k = sym h ∙ k

pub sound_for_types : IsSoundForTypes
sound_for_types type normal h decision total = sym (sound (map_of type) Total (maps_are_single type) (λ d t. t) normal h decision total)

pub one_form_selects_alike : OneFormSelectsAlike
one_form_selects_alike one other normal h k decision total = sym (sound_for_types one normal h decision total) ∙ sound_for_types other normal k decision total

pub alike_have_one_form : AlikeHaveOneForm
alike_have_one_form one other alike normal h =
    for_same_outcomes normal (map_of one) (map_of other) Total (λ decision outcome total. (λ e. sym (alike decision total) ∙ e, λ e. alike decision total ∙ e)) h

pub unique_for_types : IsUniqueForTypes
unique_for_types type one other h k = unique (map_of type) Total (maps_are_single type) (replicate 64 Left) (length-replicate 64 Left) one other h k
