-- The bytes that the lanes take in as a buffer is xored with the keystream, and their ciphertext.
use Rattle.std.specs.Prelude.{ℕ, List, Option, None, Some, length, replicate}
use Rattle.std.specs.Borrow.{Bor}
use Rattle.aegis_aes.specs.Block.{xor}
use Rattle.aegis_base.specs.Context.{Encrypts, Held, Takes}
use Rattle.aegis_base.specs.Variant.{Variant}
use Rattle.aegis_engine.specs.declared.pass.Pass.{Pass}
use Rattle.aegis_engine.specs.declared.pass.Pass.TheVariants.{Seal, Open, Keystream}

-- what the lanes take in of a buffer that is `old` before a pass and `new` after it
abbrev pub absorbed : Pass → List ℕ → List ℕ → List ℕ
absorbed Seal old new = old
absorbed Open old new = new
absorbed Keystream old new = replicate (length old) 0

-- the ciphertext of what the lanes take in; that of zeros is the keystream
abbrev pub ciphertext_in : Pass → List ℕ → List ℕ → List ℕ
ciphertext_in Seal old new = new
ciphertext_in Open old new = old
ciphertext_in Keystream old new = xor old new

-- the bytes that a pass processes: those of `source`, or if there is none, those of the buffer itself
abbrev pub given : Option (Bor (List ℕ)) → List ℕ → List ℕ
given None buffer = buffer
given (Some source) buffer = source.now

-- from `old` to `new`, a pass has processed `source`, which became `out`
pub record IsPassed (variant : Variant) (old new : Held) (pass : Pass) (source out : List ℕ) : Type 0 where
  pub takes : Takes variant old new (absorbed pass source out)
  pub encrypts : Encrypts variant old (absorbed pass source out) (ciphertext_in pass source out)
