use Rattle.std.proofs.Common.{◌++◌, ◌∙◌, refl, sym}
use Rattle.std.proofs.lemmas.List.{take_at}
use Rattle.aegis_pages.specs.Layouts.{page_associated_data, inner, nonce_bytes}
use Rattle.aegis_pages.proofs.SealedFacts.{cut, moved, opens_parts}
use Rattle.aegis_pages.proofs.page.seal_page_at.Goals as goal

pub returns-clause-opens : goal.returns-clause-opens
returns-clause-opens g c =
    let layout = c.args.layout.now in
    let old = c.args.sealed.now in
    let parts = cut layout c.nonce_bytes-nonce_bytes.result old c.split_at_mut-head.result.0.now _ c.split_at_mut-contents.result.0.now c.split_at_mut-contents.result.1.now c.nonce_bytes-nonce_bytes.ensures.value
    c.requires.long c.split_at_mut-head.ensures.front c.split_at_mut-head.ensures.back c.split_at_mut-contents.ensures.front c.split_at_mut-contents.ensures.back in
    opens_parts layout c.args.number _ _ _ (inner layout old) (c.copy_from_slice.ensures.len ∙ parts.first) (c.copy_from_slice-2.ensures.len ∙ parts.last)
    (moved g.L.LaneState.VARIANT layout.variant c.split_at_mut-contents.result.0.now (inner layout old) c.cipher.result.key layout.key c.cipher.result.nonce c.copy_from_slice.new.self
    c.associated_data-ad.result (page_associated_data layout c.args.number) _ _ c.encrypt_in_place-tag.result c.copy_from_slice-2.new.self
    (sym c.cipher.ensures.variant) parts.inside c.cipher.ensures.key (c.cipher.ensures.nonce ∙ sym c.copy_from_slice.ensures.after) c.associated_data-ad.ensures refl (sym c.copy_from_slice-2.ensures.after)
    (sym c.encrypt_in_place-tag.ensures))

pub returns-clause-nonce : goal.returns-clause-nonce
returns-clause-nonce g c =
    let first = c.copy_from_slice.ensures.len ∙ c.split_at_mut-head.ensures.front_len ∙ c.nonce_bytes-nonce_bytes.ensures.value in
    take_at c.copy_from_slice.new.self (c.encrypt_in_place-tag.new.mc ++ c.copy_from_slice-2.new.self) (nonce_bytes c.args.layout.now) first ∙ c.copy_from_slice.ensures.after
