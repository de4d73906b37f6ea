-- One piece is all of the associated data.
use Rattle.std.proofs.lemmas.List.{append-nil}
use Rattle.aegis_base.proofs.AppendFacts.{ciphertext-none}
use Rattle.aegis_engine.proofs.context.Context.begin.Goals as goal

pub begin_with-requires-clause-associated_data_within : goal.begin_with-requires-clause-associated_data_within
begin_with-requires-clause-associated_data_within g c = rw (append-nil c.args.ad.now) c.requires.associated_data_within

pub returns-clause-stands : goal.returns-clause-stands
returns-clause-stands g c = rw (append-nil c.args.ad.now) at c.begin_with.ensures.stands

pub returns-clause-empty : goal.returns-clause-empty
returns-clause-empty g c = ciphertext-none g.S.LaneState.VARIANT _

pub returns-clause-ad_bytes : goal.returns-clause-ad_bytes
returns-clause-ad_bytes g c = rw (append-nil c.args.ad.now) at c.begin_with.ensures.ad_bytes
