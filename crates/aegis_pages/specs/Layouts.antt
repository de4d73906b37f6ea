-- How a random-access file is laid out: its header, and sealed pages, their associated data and their places.
use Rattle.std.specs.Prelude.{ℕ, ◌+◌, ◌-◌, ◌*◌, ◌≤◌, List, ◌∷◌, ◌++◌, codes, drop, length, replicate, take, ◌≡◌, ◌^◌, ◌<◌, IfSome, Option}
use Rattle.std.specs.Int.{to_le_bytes, w32, w64}
use Rattle.aegis_base.specs.Variant.{Variant, key_length, long_tag_bytes}
use Rattle.aegis_base.specs.Message.{Opens}
use Rattle.aegis_storage.specs.Disk.{part_at}
use Rattle.aegis_pages.specs.declared.header.FileHeader.{FileHeader}
use Rattle.aegis_storage.specs.Journal.{journal_beginning_bytes}

-- what all sealed pages of a file are sealed under
pub record Layout : Type 0 where
  pub variant : Variant
  pub key : List ℕ
  pub page_bytes : ℕ
  pub id : List ℕ

-- the least and the greatest page size, in bytes of contents
abbrev pub min_page_bytes : ℕ
min_page_bytes = 256

abbrev pub max_page_bytes : ℕ
max_page_bytes = 65_536

abbrev pub IsPageSize : ℕ → Type 0
IsPageSize n = (min_page_bytes ≤ n) × (n ≤ max_page_bytes)

-- how many bytes contents may have
abbrev pub max_contents_bytes : ℕ
max_contents_bytes = 2 ^ 60

-- the byte that stands for a variant: the length of its keys, and its number of lanes
abbrev pub variant_byte : Variant → ℕ
variant_byte variant = key_length variant.family + variant.lanes

-- a magic number, variant, page size and id
abbrev pub named : List ℕ → Layout → List ℕ
named magic_number layout = magic_number ++ (variant_byte layout.variant ∷ (to_le_bytes w32 layout.page_bytes ++ layout.id))

-- the magic number of files, and that of journals
abbrev pub magic : List ℕ
magic = codes "AGP1"

abbrev pub journal_magic : List ℕ
journal_magic = codes "AGJ1"

-- the first bytes of a header, and of the associated data of each sealed page, and how many they are
abbrev pub plaintext_header_bytes : ℕ
plaintext_header_bytes = 33

unfoldable pub plaintext_header : Layout → List ℕ
plaintext_header layout = named magic layout

-- the beginning of the file's journals, which has another magic number, and fills a sector with zeros
unfoldable pub journal_beginning : Layout → List ℕ
journal_beginning layout = named journal_magic layout ++ replicate (journal_beginning_bytes - plaintext_header_bytes) 0

-- the associated data of the sealed page of a number
unfoldable pub page_associated_data : Layout → ℕ → List ℕ
page_associated_data layout number = plaintext_header layout ++ to_le_bytes w64 number

-- the length of a nonce, which is that of a key
abbrev pub nonce_bytes : Layout → ℕ
nonce_bytes layout = key_length layout.variant.family

-- the length of a sealed page whose contents have n bytes: a nonce, the ciphertext and a tag
abbrev pub sealed_bytes : Layout → ℕ → ℕ
sealed_bytes layout n = n + (nonce_bytes layout + long_tag_bytes)

-- the bytes of a sealed page between its nonce and its tag
abbrev pub inner : Layout → List ℕ → List ℕ
inner layout sealed = take (length sealed - (nonce_bytes layout + long_tag_bytes)) (drop (nonce_bytes layout) sealed)

-- the sealed page opens to the contents m, under the file's variant, key and id at this number
pub record OpensAt (layout : Layout) (number : ℕ) (sealed m : List ℕ) : Type 0 where
  pub is : Opens layout.variant long_tag_bytes layout.key (take (nonce_bytes layout) sealed) (page_associated_data layout number) (inner layout sealed) (drop (length sealed - long_tag_bytes) sealed) m

-- where page k begins, after the block of the header
abbrev pub page_place : Layout → ℕ → ℕ
page_place layout k = 4096 + k * sealed_bytes layout layout.page_bytes

-- the sealed page of page k
abbrev pub page_at : Layout → List ℕ → ℕ → List ℕ
page_at layout file k = part_at file (page_place layout k) (sealed_bytes layout layout.page_bytes)

-- ---- the header of a file

-- the number that stands for a header where a page has its own; no page has it
abbrev pub header_number : ℕ
header_number = 2 ^ 64 - 1

-- the plaintext of a header's encrypted part: how many commits were made before, and the length of the file's contents
abbrev pub header_plaintext : ℕ → ℕ → List ℕ
header_plaintext counter len = to_le_bytes w64 counter ++ to_le_bytes w64 len

-- the header block begins with a header of this layout, counter and length
pub record IsHeaderBlock (layout : Layout) (counter len : ℕ) (header_block : List ℕ) : Type 0 where
  pub size : IsPageSize layout.page_bytes
  pub within : len ≤ max_contents_bytes
  pub countable : counter < 2 ^ 64
  pub plaintext : take plaintext_header_bytes header_block ≡ plaintext_header layout
  pub opens : OpensAt layout header_number (part_at header_block plaintext_header_bytes (sealed_bytes layout 16)) (header_plaintext counter len)

-- how many bytes a header block has: a sector
abbrev pub header_block_bytes : ℕ
header_block_bytes = 512

-- the file begins with a header block that has this header
pub record IsHeader (layout : Layout) (counter len : ℕ) (file : List ℕ) : Type 0 where
  pub whole : header_block_bytes ≤ length file
  pub is : IsHeaderBlock layout counter len (part_at file 0 header_block_bytes)

-- the layout that a header names, for a variant and a key
abbrev pub layout_of : Variant → List ℕ → FileHeader → Layout
layout_of variant key header = record { variant = variant; key = key; page_bytes = header.page_bytes; id = header.id }

-- A file begins with this header, if its bytes can be read.
pub record HasHeader (variant : Variant) (key : List ℕ) (header : FileHeader) (file : Option (List ℕ)) : Type 0 where
  pub page_bytes : IsPageSize header.page_bytes
  pub len : header.len ≤ max_contents_bytes
  pub is : IfSome file (IsHeader (layout_of variant key header) header.counter header.len)

-- the file has no header that was sealed with the variant and under the key
abbrev pub HasNoHeader : Variant → List ℕ → List ℕ → Type 0
HasNoHeader variant key file = (layout : Layout) (counter len : ℕ) → layout.variant ≡ variant → layout.key ≡ key → IsHeader layout counter len file → ⊥
