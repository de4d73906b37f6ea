use Rattle.std.proofs.Common.{◌∙◌, ap, is_some, sym}
use Rattle.aegis_pages.proofs.SealedFacts.{header_block_opens}
use Rattle.aegis_pages.proofs.header.found_header.Goals as goal

pub returns-in_err-counter-clause-found : goal.returns-in_err-counter-clause-found
returns-in_err-counter-clause-found g c = λ layout counter len variant key header_block.
    let named = c.in_ok-layout.ensures in
    let opens = header_block_opens layout c.in_ok-layout.layout counter len c.nonce_bytes.result c.args.header_block.now c.split_at_mut-plaintext.result.0.now c.split_at_mut-plaintext.result.1.now header_block
    (variant ∙ sym named.variant) (key ∙ sym named.key) named.size c.split_at_mut-plaintext.ensures.front named.plaintext c.split_at_mut-plaintext.ensures.back c.nonce_bytes.ensures.value in
    rw c.from_residual-in_err-counter.ensures (ap is_some (c.in_err-counter.ensures.found counter len header_block.countable header_block.within opens))
