-- The variants, and a cipher of any of them: its key and its nonce, and the results of its calls.
use Rattle.std.specs.Prelude.{ℕ, ◌≡◌, ◌&&◌, ◌==◌, List, Option, Some, None, length, false}
use Rattle.aegis_base.specs.Variant as base
use Rattle.aegis_variants.specs.declared.variant.AnyVariant.{AnyVariant}
use Rattle.aegis_variants.specs.declared.variant.AnyVariant.TheVariants as variants
use Rattle.aegis_variants.specs.declared.variant.TagLength.{TagLength}
use Rattle.aegis_variants.specs.declared.variant.TagLength.TheVariants as tag_lengths
use Rattle.aegis_base.specs.Mac.{mac}
use Rattle.aegis_base.specs.Message.{seal, keystream}
use Rattle.aegis_variants.specs.declared.cipher.Keys.{Keys}
use Rattle.aegis_variants.specs.declared.cipher.AnyCipher.{AnyCipher}
use Rattle.aegis_variants.specs.declared.cipher.AnyCipher.TheVariants as ciphers
use Rattle.aegis_base.specs.Variant.{long_tag_bytes}

-- a variant as the definitions have it
abbrev pub standard_of : AnyVariant → base.Variant
standard_of variants.Aegis128L = base.Aegis128L
standard_of variants.Aegis128X2 = base.Aegis128X2
standard_of variants.Aegis128X4 = base.Aegis128X4
standard_of variants.Aegis256 = base.Aegis256
standard_of variants.Aegis256X2 = base.Aegis256X2
standard_of variants.Aegis256X4 = base.Aegis256X4

-- the length of a variant's key and of its nonce, in bytes
abbrev pub key_length_of : AnyVariant → ℕ
key_length_of variant = base.key_length (standard_of variant).family

-- the length of a tag, in bytes
abbrev pub tag_length_of : TagLength → ℕ
tag_length_of tag_lengths.Short = 16
tag_length_of tag_lengths.Long = long_tag_bytes

-- ---- ciphers

-- a cipher's variant, key and nonce, and each of them
abbrev pub parts_of : AnyCipher → AnyVariant × List ℕ × List ℕ
parts_of (ciphers.Aegis128L keys) = (variants.Aegis128L, keys.key, keys.nonce)
parts_of (ciphers.Aegis128X2 keys) = (variants.Aegis128X2, keys.key, keys.nonce)
parts_of (ciphers.Aegis128X4 keys) = (variants.Aegis128X4, keys.key, keys.nonce)
parts_of (ciphers.Aegis256 keys) = (variants.Aegis256, keys.key, keys.nonce)
parts_of (ciphers.Aegis256X2 keys) = (variants.Aegis256X2, keys.key, keys.nonce)
parts_of (ciphers.Aegis256X4 keys) = (variants.Aegis256X4, keys.key, keys.nonce)

abbrev pub variant_of : AnyCipher → AnyVariant
variant_of cipher = (parts_of cipher).0

abbrev pub key_of : AnyCipher → List ℕ
key_of cipher = (parts_of cipher).1

abbrev pub nonce_of : AnyCipher → List ℕ
nonce_of cipher = (parts_of cipher).2

-- the result has this key and nonce if both have n bytes, and otherwise it is `None`
abbrev pub IsKeys : (n : ℕ) → List ℕ → List ℕ → Option (Keys n) → Type 0
IsKeys n key nonce (Some keys) = (length key ≡ n) × (length nonce ≡ n) × (keys.key ≡ key) × (keys.nonce ≡ nonce)
IsKeys n key nonce None = (length key == n && length nonce == n) ≡ false

-- the result is the cipher of this variant, key and nonce if both have the variant's length, and otherwise it is `None`
abbrev pub IsCipherOf : AnyVariant → List ℕ → List ℕ → Option AnyCipher → Type 0
IsCipherOf variant key nonce (Some cipher) =
    (length key ≡ key_length_of variant) × (length nonce ≡ key_length_of variant) × (parts_of cipher ≡ (variant, key, nonce))
IsCipherOf variant key nonce None = (length key == key_length_of variant && length nonce == key_length_of variant) ≡ false

-- the ciphertext and the tag of n bytes of a message, under a cipher's key and nonce
abbrev pub sealed_by : AnyCipher → ℕ → List ℕ → List ℕ → List ℕ × List ℕ
sealed_by cipher n ad m = seal (standard_of (variant_of cipher)) n (key_of cipher) (nonce_of cipher) ad m

-- the first n bytes of a cipher's keystream
abbrev pub keystream_of : AnyCipher → ℕ → List ℕ
keystream_of cipher n = keystream (standard_of (variant_of cipher)) (key_of cipher) (nonce_of cipher) n

-- the MAC of n bytes of a message, under a cipher's key and nonce
abbrev pub mac_by : AnyCipher → ℕ → List ℕ → List ℕ
mac_by cipher n m = mac (standard_of (variant_of cipher)) n (key_of cipher) (nonce_of cipher) m
