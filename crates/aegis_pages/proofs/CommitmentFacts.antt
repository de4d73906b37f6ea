-- Commitments: the tag of a page as it is read, the input of the MAC as it grows, and the commitment of a file that was opened.
use Rattle.std.proofs.Common.{◌≡◌, ℕ, ◌+◌, ◌-◌, List, [], ◌++◌, Option, None, Some, IfSome, drop, length, replicate, take, sym, ap, subst, ◌∙◌, append_assoc, append-nil, arith}
use Rattle.std.proofs.lemmas.List.{drop-drop, drop-take, length-append, length-drop, length-take}
use Rattle.std.specs.Int.{to_le_bytes, w64}
use Rattle.aegis_base.specs.Mac.{mac}
use Rattle.aegis_base.specs.Context.{Stands}
use Rattle.aegis_base.specs.Variant.{Variant}
use Rattle.aegis_engine.specs.SavedContexts.{IsSaved}
use Rattle.aegis_engine.specs.declared.saved.SavedContext.{SavedContext}
use Rattle.aegis_pages.specs.Commits.{HasOneCommitment, commitment, page_count, page_tag, page_tags}
use Rattle.aegis_aes.specs.Lanes.{IsLaneCount}
use Rattle.aegis_pages.specs.Layouts.{IsHeader, Layout, plaintext_header, nonce_bytes}
use Rattle.aegis_pages.proofs.SealedFacts.{one_in_file}

-- the last 32 bytes of a sealed page of m + 32 bytes, if they are all there
pub tag_end : (file tag : List ℕ) (at m n : ℕ) → n ≡ m + 32 → length tag ≡ 32 → tag ≡ take 32 (drop (at + m) file)
    → tag ≡ drop (length (take n (drop at file)) - 32) (take n (drop at file))
tag_end file tag at m n is long read =
    let size : length (take n (drop at file)) - 32 ≡ m =
    omega (arith, is, long, ap length read, length-take 32 (drop (at + m) file), length-drop (at + m) file, length-take n (drop at file), length-drop at file) in
    read ∙ ap (take 32) (sym (drop-drop m at file)) ∙ sym (drop-take m 32 (drop at file)) ∙ ap (λ (k : ℕ). drop m (take k (drop at file))) (sym is)
    ∙ ap (λ (k : ℕ). drop k (take n (drop at file))) (sym size)

-- ---- the input, with the tags at its end

-- what a saved context counts
pub saved_data : (v : Variant) (context : SavedContext) (key nonce x : List ℕ) → IsSaved v context key nonce [] x → context.ad_bytes ≡ 0
unfolding IsSaved Stands
saved_data v context key nonce x is = is.1.0

pub saved_message : (v : Variant) (context : SavedContext) (key nonce x : List ℕ) → IsSaved v context key nonce [] x → context.message_bytes ≡ length x
unfolding IsSaved Stands
saved_message v context key nonce x is = is.1.1

-- the same key and nonce by other names
pub saved_so : (v : Variant) (context : SavedContext) (key key' nonce nonce' x : List ℕ) → key ≡ key' → nonce ≡ nonce' → IsSaved v context key nonce [] x → IsSaved v context key' nonce' [] x
saved_so v context key key' nonce nonce' x p q saved = subst (λ (n : List ℕ). IsSaved v context key' n [] x) q (subst (λ (k : List ℕ). IsSaved v context k nonce [] x) p saved)

-- the length of what was taken in before the tags
pub length_begun : (a b c : List ℕ) → length a ≡ 33 → length b ≡ 8 → length c ≡ 8 → length ((a ++ b) ++ c) ≡ 49
length_begun a b c p q r = omega (arith, p, q, r, length-append (a ++ b) c, length-append a b)

-- what taking in uses
pub ruleset saved_laws = (saved_data, saved_message, length_begun)

-- the MAC of all that was taken in
pub committed_mac : (layout : Layout) (v : Variant) (counter len n : ℕ) (file x result : List ℕ) → layout.variant ≡ v → n ≡ page_count layout len
    → x ≡ plaintext_header layout ++ (to_le_bytes w64 counter ++ (to_le_bytes w64 len ++ page_tags layout file n))
    → result ≡ mac v 32 layout.key (replicate (nonce_bytes layout) 255) x → result ≡ commitment layout counter len file
committed_mac layout v counter len n file x result variant all is tagged = grind arith

pub begun : (a a' b b' c c' : List ℕ) → a ≡ a' → b ≡ b' → c ≡ c' → (a ++ b) ++ c ≡ a' ++ (b' ++ (c' ++ []))
begun a a' b b' c c' p q r = rw (p, q, r) (append_assoc a' b' c' ∙ ap (λ (x : List ℕ). a' ++ (b' ++ x)) (sym (append-nil c')))

pub one_more : (a b c : List ℕ) (layout : Layout) (file tag : List ℕ) (k : ℕ) → tag ≡ page_tag layout file k
    → (a ++ (b ++ (c ++ page_tags layout file k))) ++ tag ≡ a ++ (b ++ (c ++ page_tags layout file (k + 1)))
one_more a b c layout file tag k is = grind (arith, append_assoc)

-- ---- the commitment of a file that was opened

pub has_commitment : (layout : Layout) (counter len : ℕ) (variant : Variant) (key c : List ℕ) (o : Option (List ℕ)) → IsLaneCount variant.lanes → layout.variant ≡ variant → layout.key ≡ key
    → IfSome o (IsHeader layout counter len) → IfSome o (λ file. c ≡ commitment layout counter len file) → IfSome o (HasOneCommitment variant key c)
has_commitment layout counter len variant key c None count v k header is = tt
has_commitment layout counter len variant key c (Some file) count v k header is = record {
  has = record { layout = layout; counter = counter; len = len; variant_is = v; key_is = k; header = header; is = is };
  one = λ other has.
      let same = one_in_file layout has.layout counter has.counter len has.len file (subst (λ (w : Variant). IsLaneCount w.lanes) (sym v) count) (has.variant_is ∙ sym v) (has.key_is ∙ sym k)
      header has.header in
      has.is ∙ ap (λ (l : Layout). commitment l has.counter has.len file) same.0 ∙ ap (λ (n : ℕ). commitment layout n has.len file) same.1
      ∙ ap (λ (n : ℕ). commitment layout counter n file) same.2 ∙ sym is;
}
