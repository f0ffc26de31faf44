use Rattle.vt_store.proofs.store.Part.narrowed_at.Goals as goal

pub returns : goal.returns
returns g c = rw (c.representative.ensures, c.deref-2.ensures.value, c.in_ok-represented.ensures, c.deref.ensures.value) c.in_ok-store.ensures
