use Rattle.std.proofs.Common.{◌≡◌, [], length, arith}
use Rattle.std.proofs.lemmas.Grind.{common_steps}
use Rattle.aegis_aes.specs.Block.{xor}
use Rattle.aegis_base.specs.Message.{keystream}
use Rattle.aegis_engine.proofs.ChunkSteps.{on-ok}
use Rattle.aegis_engine.proofs.KeystreamFacts.{xored-by}
use Rattle.aegis_engine.proofs.cipher.Cipher.stream_xor.Goals as goal

pub returns-clause-xored : goal.returns-clause-xored
returns-clause-xored g c =
    let key = c.self.inside.key in let nonce = c.self.inside.nonce in let m = c.args.m.now in
    let out = c.pass_appended.new.out.items in
    let sealed = on-ok c.pass_appended.result c.pass_appended.ensures.written (λ e. e key nonce [] [] c.begin-context.ensures.stands) in
    let e : keystream g.S.LaneState.VARIANT key nonce (length m) ≡ xor m out = grind (arith, common_steps, sealed) in
    rw (← c.self.view_is) (xored-by g.S.LaneState.VARIANT key nonce m out (grind (arith, common_steps)) e)
