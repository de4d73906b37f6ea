use Rattle.std.proofs.Common.{◌≡◌, ◌<◌, ◌^◌, ◌∙◌, arith, refl, sym}
use Rattle.std.proofs.lemmas.List.{append-nil, drop-replicate, take-replicate}
use Rattle.aegis_pages.specs.Layouts.{header_plaintext, page_associated_data}
use Rattle.aegis_pages.specs.declared.layout.TheConstants.{HEADER_NUMBER}
use Rattle.aegis_pages.proofs.SealedFacts.{moved, made_nonce, made_header_block, made_padding}
use Rattle.aegis_pages.proofs.header.seal_header.Goals as goal

pub returns-clause-header : goal.returns-clause-header
returns-clause-header g c =
    let layout = c.args.layout.now in
    let contents : c.array_of-contents.result ≡ header_plaintext c.args.counter c.args.len =
    rw (c.array_of-contents.ensures, c.to_le_bytes.ensures, c.to_le_bytes-2.ensures, append-nil) refl in
    let countable : c.args.counter < 2 ^ 64 = omega arith in
    made_header_block layout c.args.counter c.args.len c.plaintext_header.result c.args.nonce.now c.encrypt_in_place-tag.new.mc c.encrypt_in_place-tag.result _ c.array_of.result
    c.plaintext_header.ensures.size c.requires countable c.array_of.ensures c.plaintext_header.ensures.plaintext (omega arith) (omega (arith, c.nonce_bytes.ensures.value, c.nonce_bytes.ensures.key)) (omega arith) (omega arith)
    (moved g.L.LaneState.VARIANT layout.variant c.array_of-contents.result (header_plaintext c.args.counter c.args.len) c.cipher.result.key layout.key c.cipher.result.nonce c.args.nonce.now
    c.associated_data-ad.result (page_associated_data layout HEADER_NUMBER) _ _ _ _ (sym c.cipher.ensures.variant) contents c.cipher.ensures.key c.cipher.ensures.nonce c.associated_data-ad.ensures refl refl
    (sym c.encrypt_in_place-tag.ensures))

pub returns-clause-nonce : goal.returns-clause-nonce
returns-clause-nonce g c =
    made_nonce c.args.layout.now c.plaintext_header.result c.args.nonce.now _ c.array_of.result c.array_of.ensures (omega arith) (omega (arith, c.nonce_bytes.ensures.value, c.nonce_bytes.ensures.key))

pub returns-clause-padding : goal.returns-clause-padding
returns-clause-padding g c =
    made_padding c.plaintext_header.result c.args.nonce.now c.encrypt_in_place-tag.new.mc c.encrypt_in_place-tag.result _ c.array_of.result _ c.array_of.ensures
    (omega (arith, c.nonce_bytes.ensures.value, c.nonce_bytes.ensures.key, c.plaintext_header.ensures.size)) ∙ grind (arith, append-nil, drop-replicate, take-replicate, c.nonce_bytes.ensures.value)
