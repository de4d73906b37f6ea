use Rattle.std.proofs.Common.{◌-◌, ◌∙◌, drop, length, refl, sym, take}
use Rattle.aegis_pages.specs.Layouts.{page_associated_data, inner, nonce_bytes}
use Rattle.aegis_pages.proofs.SealedFacts.{cut, inner_of, moved, on_ok}
use Rattle.aegis_pages.proofs.page.open_contents.Goals as goal

pub returns-clause-opened : goal.returns-clause-opened
returns-clause-opened g c =
    let layout = c.args.layout.now in
    let old = c.args.sealed.now in
    let parts = cut layout c.nonce_bytes-nonce_bytes.result old c.split_at_mut-head.result.0.now _ c.split_at_mut-contents.result.0.now c.split_at_mut-contents.result.1.now c.nonce_bytes-nonce_bytes.ensures.value
    c.requires.long c.split_at_mut-head.ensures.front c.split_at_mut-head.ensures.back c.split_at_mut-contents.ensures.front c.split_at_mut-contents.ensures.back in
    let m = c.decrypt_in_place-opened.new.mc in
    let is = inner_of layout c.split_at_mut-head.result.0.now m c.split_at_mut-contents.result.1.now parts.first parts.last in
    λ ok. record {
      is = moved g.L.LaneState.VARIANT layout.variant m _ c.cipher.result.key layout.key c.cipher.result.nonce (take (nonce_bytes layout) old)
          c.associated_data-ad.result (page_associated_data layout c.args.number) c.split_at_mut-contents.result.0.now (inner layout old) c.copy_from_slice-2.new.self (drop (length old - 32) old)
          (sym c.cipher.ensures.variant) (sym is) c.cipher.ensures.key (c.cipher.ensures.nonce ∙ c.copy_from_slice.ensures.after ∙ parts.nonce) c.associated_data-ad.ensures parts.inside
          (c.copy_from_slice-2.ensures.after ∙ parts.tag)
          (on_ok c.decrypt_in_place-opened.result c.decrypt_in_place-opened.ensures.opened (sym c.is_ok.ensures.value ∙ ok));
    }

pub returns-clause-only : goal.returns-clause-only
returns-clause-only g c =
    let layout = c.args.layout.now in
    let old = c.args.sealed.now in
    let parts = cut layout c.nonce_bytes-nonce_bytes.result old c.split_at_mut-head.result.0.now _ c.split_at_mut-contents.result.0.now c.split_at_mut-contents.result.1.now c.nonce_bytes-nonce_bytes.ensures.value
    c.requires.long c.split_at_mut-head.ensures.front c.split_at_mut-head.ensures.back c.split_at_mut-contents.ensures.front c.split_at_mut-contents.ensures.back in
    λ m opens.
    let said = moved layout.variant g.L.LaneState.VARIANT m m layout.key c.cipher.result.key (take (nonce_bytes layout) old) c.cipher.result.nonce
    (page_associated_data layout c.args.number) c.associated_data-ad.result (inner layout old) c.split_at_mut-contents.result.0.now (drop (length old - 32) old) c.copy_from_slice-2.new.self
    c.cipher.ensures.variant refl (sym c.cipher.ensures.key) (sym (c.cipher.ensures.nonce ∙ c.copy_from_slice.ensures.after ∙ parts.nonce)) (sym c.associated_data-ad.ensures) (sym parts.inside)
    (sym (c.copy_from_slice-2.ensures.after ∙ parts.tag)) opens.is in (
      c.is_ok.ensures.value ∙ c.decrypt_in_place-opened.ensures.accepted m said,
      inner_of layout c.split_at_mut-head.result.0.now c.decrypt_in_place-opened.new.mc c.split_at_mut-contents.result.1.now parts.first parts.last ∙ c.decrypt_in_place-opened.ensures.only m said,
    )
