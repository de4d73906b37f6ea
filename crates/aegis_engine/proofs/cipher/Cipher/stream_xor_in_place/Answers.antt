use Rattle.std.proofs.Common.{◌≡◌, ◌∙◌, ap, [], length, arith}
use Rattle.std.proofs.lemmas.Grind.{common_steps}
use Rattle.aegis_aes.specs.Block.{xor}
use Rattle.aegis_base.specs.Message.{keystream, xor_keystream}
use Rattle.aegis_base.proofs.KeystreamFacts.{xor_keystream_twice}
use Rattle.aegis_engine.proofs.KeystreamFacts.{xored-by}
use Rattle.aegis_engine.proofs.cipher.Cipher.stream_xor_in_place.Goals as goal

pub returns-clause-xored : goal.returns-clause-xored
returns-clause-xored g c =
    let key = c.self.inside.key in let nonce = c.self.inside.nonce in let m = c.args.mc.now in
    let sealed = c.pass.ensures.written key nonce [] [] c.begin.ensures.stands in
    let e : keystream g.S.LaneState.VARIANT key nonce (length m) ≡ xor m c.pass.new.mc = grind (arith, common_steps, sealed) in
    rw (← c.self.view_is) (xored-by g.S.LaneState.VARIANT key nonce m c.pass.new.mc c.pass.auto.mc e)

pub returns-clause-undone : goal.returns-clause-undone
returns-clause-undone g c =
    let L = g.S.LaneState in
    ap (xor_keystream L.VARIANT c.args.self.key c.args.self.nonce) (returns-clause-xored g c)
    ∙ xor_keystream_twice L.VARIANT c.args.self.key c.args.self.nonce c.args.mc.now
