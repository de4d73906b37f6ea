use Rattle.std.proofs.Common.{◌≡◌, ◌∙◌, sym, ap, refl, ℕ, ◌++◌, List, length, take, get_or, arith}
use Rattle.std.proofs.lemmas.Grind.{common_steps}
use Rattle.std.proofs.lemmas.List.{length-take-le}
use Rattle.aegis_base.specs.Chunks.{accepted_after}
use Rattle.aegis_base.specs.Message.{ciphertext, lane_before}
use Rattle.aegis_base.specs.Context.{Held}
use Rattle.aegis_base.proofs.Bijection.{length-ciphertext}
use Rattle.aegis_base.proofs.ChunkFacts.{no_chunk}
use Rattle.aegis_engine.proofs.ChunkSteps.{accepted-more, accepted-none, counted-by, kept-by, on-err, on-ok}
use Rattle.aegis_engine.proofs.context.Context.open_all.Goals as goal

pub loop-chunk-init : goal.loop-chunk-init
loop-chunk-init g c = record {
  fits = c.requires;
  long = refl;
  stands = λ key nonce ad stands. stands;
  sealed = λ key nonce ad stands. sym (accepted-none _ _ c.args.chunks.now);
  count = λ kept long. sym long ∙ ap length (sym (accepted-none (length c.args.dst.now) kept c.args.chunks.now));
  rest = λ n low. refl;
}

pub loop-chunk-preserved : goal.loop-chunk-preserved
loop-chunk-preserved g c =
    let V = g.S.LaneState.VARIANT in let before = c.loop-chunk.invariant in let said = c.open_chunk.ensures in let r = c.open_chunk.result in
    let chunks = c.args.chunks.now in let i = c.loop-chunk.chunk-index in let chunk = (get_or chunks i no_chunk).now in
    let room = length c.args.dst.now in let here = length c.loop-chunk.dst in let w = c.loop-chunk.self.message_bytes in
    let first = take c.args.self.now.message_bytes c.args.dst.now in
    record {
      fits = said.fits;
      long = said.appends.room ∙ before.long;
      stands = λ key nonce ad stands. said.stands key nonce ad (before.stands key nonce ad stands);
      sealed = λ key nonce ad stands.
          let from = accepted_after room (ciphertext V key nonce ad first) in
          let beginning = take w c.loop-chunk.dst in
          let is = before.sealed key nonce ad stands in
          let long : length (from (take i chunks)) ≡ w =
          sym (ap length is) ∙ length-ciphertext V (lane_before V key nonce ad) beginning ∙ length-take-le w c.loop-chunk.dst before.fits.within in
          kept-by r room w here (from (take i chunks)) (ciphertext V key nonce ad (take c.open_chunk.new.self.message_bytes c.open_chunk.new.dst)) chunk long before.long said.answer.accepted
          (on-ok r said.ciphertext (λ e. e key nonce ad (before.stands key nonce ad stands) ∙ ap (λ (kept : List ℕ). kept ++ chunk) is))
          (on-err r said.unchanged (λ same. ap (λ (p : Held × List ℕ). ciphertext V key nonce ad (take p.0.message_bytes p.1)) (λ j. (same.0 j, same.1 j)) ∙ is))
          ∙ sym (accepted-more room (ciphertext V key nonce ad first) chunks i c.loop-chunk-test.true);
      count = λ kept long.
          counted-by r room w here c.open_chunk.new.self.message_bytes (accepted_after room kept (take i chunks)) chunk (sym (before.count kept long)) before.long said.answer.accepted
          said.message_bytes (on-err r said.unchanged (λ same. ap (λ (h : Held). h.message_bytes) same.0))
          ∙ ap length (sym (accepted-more room kept chunks i c.loop-chunk-test.true));
      rest = λ n low. said.appends.rest n low ∙ before.rest n (omega (arith, said.appends.grows, low));
    }

-- What `search` does not find.
pub returns-clause-ciphertext : goal.returns-clause-ciphertext
returns-clause-ciphertext g c = grind (arith, common_steps)

pub returns-clause-message_bytes : goal.returns-clause-message_bytes
returns-clause-message_bytes g c = grind (arith, common_steps)
