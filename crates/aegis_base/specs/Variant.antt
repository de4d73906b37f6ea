-- The six variants of AEGIS: a family, named after the number of bits of its keys, and a number of lanes. Their lengths and names.
use Rattle.std.specs.Prelude.{ℕ, ◌*◌, ◌==◌, List, codes, if◌then◌else◌, ◌-◌, ◌^◌}

pub data Family : Type 0 where
  Family128 : Family
  Family256 : Family

pub record Variant : Type 0 where
  pub family : Family
  pub lanes : ℕ

abbrev pub Aegis128L : Variant
Aegis128L = record { family = Family128; lanes = 1 }

abbrev pub Aegis128X2 : Variant
Aegis128X2 = record { family = Family128; lanes = 2 }

abbrev pub Aegis128X4 : Variant
Aegis128X4 = record { family = Family128; lanes = 4 }

abbrev pub Aegis256 : Variant
Aegis256 = record { family = Family256; lanes = 1 }

abbrev pub Aegis256X2 : Variant
Aegis256X2 = record { family = Family256; lanes = 2 }

abbrev pub Aegis256X4 : Variant
Aegis256X4 = record { family = Family256; lanes = 4 }

-- the number of blocks that one lane takes in of each rate block
abbrev pub width : Family → ℕ
width Family128 = 2
width Family256 = 1

-- the length of a rate block, in bytes
abbrev pub rate : Variant → ℕ
rate variant = 16 * (width variant.family * variant.lanes)

-- the length of a key and of a nonce, in bytes
abbrev pub key_length : Family → ℕ
key_length Family128 = 16
key_length Family256 = 32

-- the maximum length of a message, and of associated data, in bytes: 2^64 bits would be too many (AEGIS specification, P_MAX and A_MAX)
abbrev pub max_aead_bytes : ℕ
max_aead_bytes = 2 ^ 61 - 1

-- the length of the longer tags, in bytes
abbrev pub long_tag_bytes : ℕ
long_tag_bytes = 32

-- the one of three names that belongs to a number of lanes
abbrev pub by_lanes : ℕ → List ℕ → List ℕ → List ℕ → List ℕ
by_lanes lanes one two four = if lanes == 1 then one else if lanes == 2 then two else four

-- the names that the variant of a family and a number of lanes prints: its cipher's and its module's
abbrev pub cipher_name : Family → ℕ → List ℕ
cipher_name Family128 lanes = by_lanes lanes (codes "Aegis128L") (codes "Aegis128X2") (codes "Aegis128X4")
cipher_name Family256 lanes = by_lanes lanes (codes "Aegis256") (codes "Aegis256X2") (codes "Aegis256X4")

abbrev pub module_name : Family → ℕ → List ℕ
module_name Family128 lanes = by_lanes lanes (codes "aegis128l") (codes "aegis128x2") (codes "aegis128x4")
module_name Family256 lanes = by_lanes lanes (codes "aegis256") (codes "aegis256x2") (codes "aegis256x4")
