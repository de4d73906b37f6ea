use Rattle.std.proofs.Common.{◌≡◌, ℕ, ◌≤◌, List, drop, length, take}
use Rattle.aegis_base.specs.Chunks.{accepted_after}
use Rattle.aegis_base.specs.Message.{ciphertext}
use Rattle.aegis_base.specs.Context.{Continues, Stands}
use Rattle.aegis_engine.specs.Private.{FitsRoom}
use Rattle.aegis_engine.proofs.context.Context.open_all.Given as goal

abbrev pub invariant-loop-chunk : goal.invariant-loop-chunk
invariant-loop-chunk g l =
    let V = g.S.LaneState.VARIANT in
    let old = l.initial.self in
    let before = take l.initial.self.message_bytes l.initial.dst in
    let beginning = take l.self.message_bytes l.dst in
    record {
      fits : FitsRoom l.self.message_bytes (length l.dst);
      long : length l.dst ≡ length l.initial.dst;
      stands : Continues V old before l.self beginning;
      sealed : (key nonce ad : List ℕ) → Stands V old key nonce ad before
          → ciphertext V key nonce ad beginning ≡ accepted_after (length l.initial.dst) (ciphertext V key nonce ad before) (take l.chunk-index l.chunks);
      count : (kept : List ℕ) → length kept ≡ old.message_bytes → l.self.message_bytes ≡ length (accepted_after (length l.initial.dst) kept (take l.chunk-index l.chunks));
      rest : (n : ℕ) → l.self.message_bytes ≤ n → drop n l.dst ≡ drop n l.initial.dst;
    }
