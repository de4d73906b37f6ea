use Rattle.std.proofs.Common.{refl, inr}
use Rattle.aegis.proofs.Sealed.{opened, opens}
use Rattle.aegis.proofs.record.record_cipher.RecordCipher.open.Goals as goal

pub returns-in-Ok-clause-opened : goal.returns-in-Ok-clause-opened
returns-in-Ok-clause-opened g c =
    let s = c.args.self.now in
    let p = c.args.position in
    let parts = rw c.unwrap.ensures at c.split_last_chunk.ensures.cases in
    let ad = rw (c.new-ad.ensures.position, c.new-ad.ensures.flag) at c.pieces-pieces.ensures.are in
    let key = c.cipher.ensures.key in
    let number = c.cipher.ensures.nonce in
    opened s.key.now s.prefix.now s.context.now p c.args.flag c.in-Ok.message.items c.args.sealed.now c.unwrap.result.0.now c.unwrap.result.1.now
    (rw (ad, key, number) at c.in-Ok.ensures.opened) parts.0 parts.1

pub returns-in-Err-InvalidTag-clause-refused : goal.returns-in-Err-InvalidTag-clause-refused
returns-in-Err-InvalidTag-clause-refused g c =
    let s = c.args.self.now in
    let p = c.args.position in
    let parts = rw c.unwrap.ensures at c.split_last_chunk.ensures.cases in
    let ad = rw (c.new-ad.ensures.position, c.new-ad.ensures.flag) at c.pieces-pieces.ensures.are in
    let key = c.cipher.ensures.key in
    let number = c.cipher.ensures.nonce in
    inr (
      λ m e. rw (ad, key, number) at c.in-Err-InvalidTag.ensures.accepted m
          (opens s.key.now s.prefix.now s.context.now p c.args.flag m c.args.sealed.now c.unwrap.result.0.now c.unwrap.result.1.now e parts.0 parts.1)
          (rw c.in-Err-InvalidTag.field-0-is refl),
      refl,
    )
