-- What the bodies and their proofs use, and no public contract.
use Rattle.std.specs.Prelude.{ℕ, List, [], length, None, ◌≡◌, ◌+◌, ◌∷◌}
use Rattle.aegis_lines.specs.declared.table.Command.{Command}
use Rattle.aegis_lines.specs.declared.table.Kind.{Kind}
use Rattle.aegis_variants.specs.Cipher.{key_length_of}
use Rattle.aegis_lines.specs.Answer.{fault_of, field_of, kinds_of, tag_length_in, variant_in}

-- no field from field i on has a fault
abbrev pub AreFaultless : (key tag : ℕ) → List Kind → ℕ → List (List ℕ) → Type 0
AreFaultless key tag [] i fields = Unit {0}
AreFaultless key tag (kind ∷ kinds) i fields = (fault_of key tag kind (field_of fields i) ≡ None) × AreFaultless key tag kinds (i + 1) fields

-- the line of a command has no fault
abbrev pub IsFaultless : Command → List (List ℕ) → Type 0
IsFaultless command fields =
    (length fields ≡ length (kinds_of command) + 1)
    × AreFaultless (key_length_of (variant_in fields)) (tag_length_in fields) (kinds_of command) 1 fields
