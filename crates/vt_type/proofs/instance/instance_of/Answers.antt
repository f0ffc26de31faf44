use Rattle.vt_type.proofs.SubtermsFit.{IsInstance-fits}
use Rattle.vt_type.proofs.instance.instance_of.Goals as goal

pub returns : goal.returns
returns c =
    let fits = IsInstance-fits c.args.special.now c.args.general.now c.requires.special c.requires.canonical in
    (λ yes. fits.0 (c.fits.ensures.0 yes), λ instance. c.fits.ensures.1 (fits.1 instance))
