use Rattle.std.proofs.Common.{◌+◌, ◌≤◌, ◌++◌, ◌∙◌, [], ap, arith, false, length, refl, subst, sym, take, true}
use Rattle.std.proofs.KnownBytes.{Appends-nil}
use Rattle.std.proofs.lemmas.List.{length-take}
use Rattle.std.proofs.lemmas.Result.{err_from_is_err_and}
use Rattle.std.specs.Io.KnownBytes.{Appends}
use Rattle.std.specs.List.{length_refill}
use Rattle.aegis.specs.RecordResults.{message_at, message_in, record_of}
use Rattle.aegis.specs.RecordStream.{header}
use Rattle.aegis.specs.declared.record.length.TheConstants.{RECORD_BYTES}
use Rattle.aegis.specs.declared.record.version.Version.TheVariants.{Second}
use Rattle.aegis_files.proofs.Sealing.{length-message, message_cut, seals_begin, seals_end, seals_more, stops_between, stops_long, stops_in_front, stops_writing, written_in_time}
use Rattle.aegis_files.proofs.seal.seal_stream.Goals as goal

pub returns-in_err-buffer-clause-stopped : goal.returns-in_err-buffer-clause-stopped
returns-in_err-buffer-clause-stopped g c =
    let p = err_from_is_err_and c.from_residual.result c.from_residual.ensures.1 in
    rw (p.1, p.2) (stops_in_front _ _ _ _ _ _ 0 _ c.told-prefix (λ it. absurd cc) (Appends-nil _))

pub returns-in_err-out-clause-stopped : goal.returns-in_err-out-clause-stopped
returns-in_err-out-clause-stopped g c =
    let p = err_from_is_err_and c.from_residual-in_err-out.result c.from_residual-in_err-out.ensures.1 in
    rw (p.1, p.2) (stops_in_front _ _ _ _ _ _ 0 _ c.told-prefix (λ it. absurd cc) (Appends-nil _))

pub returns-in_err-sealer-clause-stopped : goal.returns-in_err-sealer-clause-stopped
returns-in_err-sealer-clause-stopped g c =
    let p = err_from_is_err_and c.from_residual-in_err-sealer.result c.from_residual-in_err-sealer.ensures.1 in
    let why = c.in_err-sealer.ensures.err in
    rw (p.1, p.2) (stops_in_front _ _ _ _ _ _ 0 _ c.told-prefix (λ it. absurd cc) (Appends-nil _))

pub returns-in_err-write-clause-stopped : goal.returns-in_err-write-clause-stopped
returns-in_err-write-clause-stopped g c =
    let p = err_from_is_err_and c.from_residual-in_err-write.result c.from_residual-in_err-write.ensures.1 in
    let all = c.deref.ensures.value ∙ c.in_ok-sealer.ensures.appended ∙ ap (λ l. l ++ (c.args.prefix.now ++ header Second)) c.in_ok-out.ensures.items in
    let written = c.in_err-write.ensures.beginning in
    rw (p.1, p.2) (stops_in_front _ _ _ _ _ _ written.0 _ c.told-prefix (written_in_time _ c.in_err-write.ensures.err)
    (subst (Appends _ _) (ap (take written.0) all) written.1))

pub pieces-init : goal.pieces-init
pieces-init g c =
    let all = c.deref.ensures.value ∙ c.in_ok-sealer.ensures.appended ∙ ap (λ l. l ++ (c.args.prefix.now ++ header Second)) c.in_ok-out.ensures.items in
    record {
      room = c.in_ok-buffer.ensures;
      sealed = seals_begin _ _ _ _ _ _ _ c.in_ok-sealer.ensures.progress (subst (Appends _ _) all c.in_ok-write.ensures.ok);
    }

pub returns-in_err-count-clause-stopped : goal.returns-in_err-count-clause-stopped
returns-in_err-count-clause-stopped g c =
    let p = err_from_is_err_and c.from_residual-in_err-count.result c.from_residual-in_err-count.ensures.1 in
    rw (p.1, p.2) (stops_between _ _ _ _ _ _ _ _ _ c.told-prefix (let why = c.in_err-count.ensures.err.1 in λ it. absurd cc) c.pieces.invariant.sealed)

pub returns-in_err-seal_last-clause-stopped : goal.returns-in_err-seal_last-clause-stopped
returns-in_err-seal_last-clause-stopped g c =
    let p = err_from_is_err_and c.from_residual-in_err-seal_last.result c.from_residual-in_err-seal_last.ensures.1 in
    rw (p.1, p.2) (stops_between _ _ _ _ _ _ _ _ _ c.told-prefix (λ it. absurd cc) c.pieces.invariant.sealed)

pub returns-in_err-write_last-clause-stopped : goal.returns-in_err-write_last-clause-stopped
returns-in_err-write_last-clause-stopped g c =
    let p = err_from_is_err_and c.from_residual-in_err-write_last.result c.from_residual-in_err-write_last.ensures.1 in
    let sent = c.deref-then-count-eq0.ensures.value ∙ c.in_ok-seal_last.ensures.appended ∙ ap (λ l. l ++ record_of c.pieces.sealer 1 []) c.clear.ensures.items in
    let read = rw c.if-count-eq0.true at c.in_ok-count.ensures in
    let written = c.in_err-write_last.ensures.beginning in
    rw (p.1, p.2) (stops_writing _ true _ _ _ _ _ _ _ _ _ [] _ written.0 _ c.told-prefix c.pieces.invariant.sealed read.read (refl, read.end (omega arith)) sent
    written.1 c.in_err-write_last.ensures.err)

pub returns-then-count-eq0-clause-sealed : goal.returns-then-count-eq0-clause-sealed
returns-then-count-eq0-clause-sealed g c =
    let sent = c.deref-then-count-eq0.ensures.value ∙ c.in_ok-seal_last.ensures.appended ∙ ap (λ l. l ++ record_of c.pieces.sealer 1 []) c.clear.ensures.items in
    let read = rw c.if-count-eq0.true at c.in_ok-count.ensures in
    seals_end _ _ _ _ _ _ _ _ _ _ _ c.told-prefix c.pieces.invariant.sealed read.read (read.end (omega arith)) sent c.in_ok-write_last.ensures.ok

pub returns-then-remaining-count-clause-stopped : goal.returns-then-remaining-count-clause-stopped
returns-then-remaining-count-clause-stopped g c =
    let count = c.in_ok-count.count in
    let size = length-message count c.read_piece.new.buffer.items (omega (arith, c.read_piece.ensures.room, c.in_ok-count.ensures.within)) in
    stops_long _ _ _ _ _ _ _ _ _ _ c.told-prefix c.pieces.invariant.sealed c.in_ok-count.ensures.read
    (omega (arith, size, c.if-count-eq0.false)) (omega (arith, size, c.remaining.ensures, c.if-remaining-count.true))

pub pieces-preserved : goal.pieces-preserved
pieces-preserved g c =
    let count = c.in_ok-count.count in
    let bytes = c.read_piece.new.buffer.items in
    let long : RECORD_BYTES + count ≤ length bytes = omega (arith, c.read_piece.ensures.room, c.in_ok-count.ensures.within) in
    let size = length-message count bytes long in
    let is = ap (λ l. message_in (take (RECORD_BYTES + count) l)) c.deref_mut.ensures.value ∙ message_cut count bytes long in
    record {
      room = sym (length_refill _ _ _ c.read_piece.new.buffer.ok.0) ∙ c.read_piece.new.buffer.ok.0 ∙ c.read_piece.ensures.room;
      sealed = seals_more _ _ _ _ _ _ _ _ _ _ _ (message_at count bytes) _ c.pieces.invariant.sealed c.in_ok-count.ensures.read (rw is at c.seal_next_in_place.ensures.progress) (rw is at c.seal_next_in_place.ensures.written) c.in_ok-write-2.ensures.ok
          (record {
            some = omega (arith, size, c.if-count-eq0.false);
            within = omega (arith, size, c.in_ok-count.ensures.within);
            end = λ short. c.in_ok-count.ensures.end (omega (arith, short, size));
          })
          (omega (arith, c.seal_next_in_place.ensures.taken, long, ap length c.deref_mut.ensures.value, length-take (RECORD_BYTES + count) c.deref_mut.result.now, c.remaining.ensures, c.if-remaining-count.false));
    }

pub returns-in_err-write-2-clause-stopped : goal.returns-in_err-write-2-clause-stopped
returns-in_err-write-2-clause-stopped g c =
    let p = err_from_is_err_and c.from_residual-in_err-write-2.result c.from_residual-in_err-write-2.ensures.1 in
    let count = c.in_ok-count.count in
    let bytes = c.read_piece.new.buffer.items in
    let long : RECORD_BYTES + count ≤ length bytes = omega (arith, c.read_piece.ensures.room, c.in_ok-count.ensures.within) in
    let size = length-message count bytes long in
    let is = ap (λ l. message_in (take (RECORD_BYTES + count) l)) c.deref_mut.ensures.value ∙ message_cut count bytes long in
    let written = c.in_err-write-2.ensures.beginning in
    rw (p.1, p.2) (stops_writing _ false _ _ _ _ _ _ _ _ _ (message_at count bytes) _ written.0 _ c.told-prefix c.pieces.invariant.sealed c.in_ok-count.ensures.read
    (record {
      some = omega (arith, size, c.if-count-eq0.false);
      within = omega (arith, size, c.in_ok-count.ensures.within);
      end = λ short. c.in_ok-count.ensures.end (omega (arith, short, size));
    })
    (rw is at c.seal_next_in_place.ensures.written) written.1 c.in_err-write-2.ensures.err)
