-- One piece is all of the associated data.
use Rattle.std.proofs.lemmas.List.{append-nil}
use Rattle.aegis_engine.proofs.cipher.Cipher.encrypt_in_place.Goals as goal

pub returns : goal.returns
returns g c = rw (append-nil c.args.ad.now) at c.encrypt_in_place_with.ensures
