use Rattle.std.proofs.Common.{[], inl, inr, refl}
use Rattle.aegis_storage.proofs.recovery.redone.Goals as goal

pub returns-in-Some : goal.returns-in-Some
returns-in-Some c = let whole = c.in-Some.ensures.some in (whole.0, whole.1.within, whole.2, inl whole.1)

pub returns-in-None : goal.returns-in-None
returns-in-None c = ([], tt, refl, inr (refl, c.in-None.ensures.none))
