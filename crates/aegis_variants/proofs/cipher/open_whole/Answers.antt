-- All chunks are kept, and the message fills the destination.
use Rattle.std.proofs.Common.{length, arith, append-nil}
use Rattle.std.proofs.lemmas.List.{drop_all, take_all}
use Rattle.aegis_base.specs.Chunks.{joined}
use Rattle.aegis_variants.proofs.OpenFacts.{whole_accepted}
use Rattle.aegis_variants.proofs.cipher.open_whole.Goals as goal

pub returns-clause-opened : goal.returns-clause-opened
returns-clause-opened g c =
    let whole = whole_accepted c.args.chunks.now (length c.args.message.now) c.requires.ciphertext c.requires.lengths in
    let long = c.open_chunks_len.auto.dst in
    let lengths = c.requires.lengths in
    let all = take_all (length (joined c.args.chunks.now)) c.open_chunks_len.new.dst (omega (arith, long, lengths)) in
    rw (whole, all) at c.open_chunks_len.ensures.opened

pub returns-clause-accepted : goal.returns-clause-accepted
returns-clause-accepted g c =
    let whole = whole_accepted c.args.chunks.now (length c.args.message.now) c.requires.ciphertext c.requires.lengths in
    rw whole at c.open_chunks_len.ensures.accepted

pub returns-clause-only : goal.returns-clause-only
returns-clause-only g c =
    let whole = whole_accepted c.args.chunks.now (length c.args.message.now) c.requires.ciphertext c.requires.lengths in
    let long = c.open_chunks_len.auto.dst in
    let lengths = c.requires.lengths in
    let all = take_all (length (joined c.args.chunks.now)) c.open_chunks_len.new.dst (omega (arith, long, lengths)) in
    rw (whole, all) at c.open_chunks_len.ensures.only

pub returns-clause-erased : goal.returns-clause-erased
returns-clause-erased g c =
    let whole = whole_accepted c.args.chunks.now (length c.args.message.now) c.requires.ciphertext c.requires.lengths in
    let none = drop_all (length (joined c.args.chunks.now)) c.args.message.now (omega arith) in
    rw (whole, none, append-nil, ← c.requires.lengths) at c.open_chunks_len.ensures.erased
