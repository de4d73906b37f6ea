use Rattle.aegis_c_calls.proofs.record.cipher.seal_record.Goals as goal

pub seal_record_in_place-requires-clause-within : goal.seal_record_in_place-requires-clause-within
seal_record_in_place-requires-clause-within c = rw c.position.ensures c.requires.within

pub returns : goal.returns
returns c = rw c.position.ensures at c.seal_record_in_place.ensures
