use Rattle.std.proofs.Common.{◌≡◌, ◌+◌, ◌*◌, ◌++◌, [], List, ℕ, ap, arith, length, replicate, ◌∙◌}
use Rattle.std.proofs.lemmas.List.{length-append}
use Rattle.std.specs.Int.{to_le_bytes, w64}
use Rattle.aegis_pages.specs.Commits.{page_count}
use Rattle.aegis_pages.specs.Layouts.{plaintext_header, nonce_bytes}
use Rattle.aegis_pages.proofs.CommitmentFacts.{begun, committed_mac, length_begun, one_more, saved_message, saved_so}
use Rattle.aegis_pages.proofs.KnownFacts.{known_all, known_map, known_map2}
use Rattle.aegis_pages.proofs.commitment.file_commitment.Goals as goal

pub absorb-requires-3-clause-message_within : goal.absorb-requires-3-clause-message_within
absorb-requires-3-clause-message_within g c =
    omega (arith, saved_message _ _ _ _ _ (c.absorb-2.ensures _ _ [] _ (c.absorb.ensures _ _ [] [] c.begin.ensures.stands)), length-append c.plaintext_header.result c.to_le_bytes.result)

pub loop-number-init : goal.loop-number-init
loop-number-init g c =
    let layout = c.args.layout.now in
    record {
      saved = (
        (c.plaintext_header.result ++ c.to_le_bytes.result) ++ c.to_le_bytes-2.result,
        saved_so g.L.LaneState.VARIANT c.absorb-3.new.self c.key.result.now layout.key _ (replicate (nonce_bytes layout) 255) _
            c.key.ensures.key (ap (λ (n : ℕ). replicate n 255) c.key.ensures.long)
            (c.absorb-3.ensures _ _ [] _ (c.absorb-2.ensures _ _ [] _ (c.absorb.ensures _ _ [] [] c.begin.ensures.stands))),
        length_begun c.plaintext_header.result c.to_le_bytes.result c.to_le_bytes-2.result (omega arith) (omega arith) (omega arith),
        known_all (g.S.Storage.bytes c.args.storage.now) _ (λ file.
            begun _ (plaintext_header layout) _ (to_le_bytes w64 c.args.counter) _ (to_le_bytes w64 c.args.len) c.plaintext_header.ensures.plaintext c.to_le_bytes.ensures c.to_le_bytes-2.ensures),
      );
    }

pub loop-number-preserved : goal.loop-number-preserved
loop-number-preserved g c =
    let layout = c.args.layout.now in
    let x : List ℕ = c.loop-number.invariant.saved.0 in
    let long : length c.loop-number.invariant.saved.0 ≡ 49 + 32 * c.loop-number.number = c.loop-number.invariant.saved.2 in
    record {
      saved = (
        x ++ c.in-Ok.tag,
        c.absorb-in-loop-number.ensures _ _ [] _ c.loop-number.invariant.saved.1,
        omega (arith, long, length-append c.loop-number.invariant.saved.0 c.in-Ok.tag),
        known_map2 (g.S.Storage.bytes c.args.storage.now) _ _ _ (λ file before is.
            ap (λ (l : List ℕ). l ++ c.in-Ok.tag) before
            ∙ one_more (plaintext_header layout) (to_le_bytes w64 c.args.counter) (to_le_bytes w64 c.args.len) layout file c.in-Ok.tag c.loop-number.number is)
            c.loop-number.invariant.saved.3 c.in-Ok.ensures.tag,
      );
    }

pub returns-clause-is : goal.returns-clause-is
returns-clause-is g c =
    let all : c.loop-number.number ≡ page_count c.args.layout.now c.args.len = omega (arith, c.loop-number-test.false, c.loop-number.auto.number-end, c.page_count-number-end.ensures.count) in
    known_map (g.S.Storage.bytes c.args.storage.now) _ _ (λ file is.
    committed_mac c.args.layout.now g.L.LaneState.VARIANT c.args.counter c.args.len c.loop-number.number file c.loop-number.invariant.saved.0 c.mac-mac.result c.key.ensures.variant all is
    (c.mac-mac.ensures _ _ _ c.loop-number.invariant.saved.1)) c.loop-number.invariant.saved.3
