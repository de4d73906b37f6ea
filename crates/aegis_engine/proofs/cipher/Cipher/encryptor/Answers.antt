-- One piece is all of the associated data.
use Rattle.std.proofs.lemmas.List.{append-nil}
use Rattle.aegis_engine.proofs.cipher.Cipher.encryptor.Goals as goal

pub returns-clause-stands : goal.returns-clause-stands
returns-clause-stands g c = rw (append-nil c.args.ad.now) at c.encryptor_with.ensures.stands

pub returns-clause-empty : goal.returns-clause-empty
returns-clause-empty g c = rw (append-nil c.args.ad.now) at c.encryptor_with.ensures.empty
