use Rattle.std.proofs.Common.{◌≡◌, ◌-◌, arith, length, refl, sym}
use Rattle.std.proofs.lemmas.Bool.{true≢false}
use Rattle.std.proofs.lemmas.List.{take_at}
use Rattle.aegis.proofs.Sealed.{opened, opens}
use Rattle.aegis.proofs.record.record_cipher.RecordCipher.open_in_place.Goals as goal

pub returns-in-Ok-clause-opened : goal.returns-in-Ok-clause-opened
returns-in-Ok-clause-opened c =
    let s = c.args.self.now in
    let p = c.args.position in
    let parts = rw c.unwrap.ensures at c.split_last_chunk_mut.ensures.cases in
    let ad = rw (c.new-ad.ensures.position, c.new-ad.ensures.flag) at c.pieces-pieces.ensures.are in
    let key = c.cipher.ensures.key in
    let number = c.cipher.ensures.nonce in
    let m = c.decrypt_in_place_with.new.mc in
    let long : length m ≡ length c.args.sealed.now - 32 = omega (arith, c.decrypt_in_place_with.auto.mc, parts.2) in
    rw (take_at m c.unwrap.result.1.now (length c.args.sealed.now - 32) long)
    (opened s.key.now s.prefix.now s.context.now p c.args.flag m c.args.sealed.now c.unwrap.result.0.now c.unwrap.result.1.now
    (rw (ad, key, number) at c.in-Ok.ensures.opened) parts.0 parts.1)

pub returns-in-Err-clause-refused : goal.returns-in-Err-clause-refused
returns-in-Err-clause-refused c =
    let s = c.args.self.now in
    let p = c.args.position in
    let parts = rw c.unwrap.ensures at c.split_last_chunk_mut.ensures.cases in
    let ad = rw (c.new-ad.ensures.position, c.new-ad.ensures.flag) at c.pieces-pieces.ensures.are in
    let key = c.cipher.ensures.key in
    let number = c.cipher.ensures.nonce in (
      λ m e. true≢false (sym (rw (ad, key, number) at c.in-Err.ensures.accepted m
          (opens s.key.now s.prefix.now s.context.now p c.args.flag m c.args.sealed.now c.unwrap.result.0.now c.unwrap.result.1.now e parts.0 parts.1))),
      refl,
    )
