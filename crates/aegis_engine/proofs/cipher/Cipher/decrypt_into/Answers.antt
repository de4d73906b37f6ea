-- One piece is all of the associated data.
use Rattle.std.proofs.lemmas.List.{append-nil}
use Rattle.aegis_engine.proofs.cipher.Cipher.decrypt_into.Goals as goal

pub returns-clause-opened : goal.returns-clause-opened
returns-clause-opened g c = rw (append-nil c.args.ad.now) at c.open_given.ensures.opened

pub returns-clause-accepted : goal.returns-clause-accepted
returns-clause-accepted g c = rw (append-nil c.args.ad.now) at c.open_given.ensures.accepted

pub returns-clause-only : goal.returns-clause-only
returns-clause-only g c = rw (append-nil c.args.ad.now) at c.open_given.ensures.only
