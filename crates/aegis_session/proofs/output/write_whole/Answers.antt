use Rattle.std.proofs.Common.{arith, length-drop}
use Rattle.std.proofs.Math.Seq.{take-add}
use Rattle.std.proofs.KnownBytes.{Appends-trans}
use Rattle.aegis_session.proofs.OutputFacts.{slice-end}
use Rattle.aegis_session.proofs.output.write_whole.Goals as goal

pub writes-preserved : goal.writes-preserved
writes-preserved g c =
    let all = c.args.bytes.now in
    let sent = c.writes.sent in
    let more = rw (slice-end all sent) at c.in_ok-count.ensures.bytes in
    let bound = rw (slice-end all sent) at c.in_ok-count.ensures.bound in
    record {
      within = omega (arith, bound, length-drop sent all);
      written = rw (take-add sent c.in_ok-count.count all) (Appends-trans _ _ _ _ _ c.writes.invariant.written more);
    }
