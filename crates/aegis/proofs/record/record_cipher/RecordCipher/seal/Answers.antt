use Rattle.std.proofs.Common.{◌∙◌, ◌++◌, List, [], ℕ, length, sym, ap, arith, rules, append_assoc}
use Rattle.std.specs.Slice.Iter.{chunks_rest}
use Rattle.std.proofs.lemmas.List.{append-nil, length-append}
use Rattle.aegis_base.specs.Variant.{Aegis256}
use Rattle.aegis_base.specs.Message.{ciphertext}
use Rattle.aegis_base.proofs.AppendFacts.{ciphertext-none}
use Rattle.aegis.proofs.Pieces.{all_sealed, data_of, nonce_of, piece_is, piece_sealed}
use Rattle.aegis.proofs.Reading.{limit-within}
use Rattle.aegis.proofs.record.record_cipher.RecordCipher.seal.Goals as goal

pub loop-piece-init : goal.loop-piece-init
loop-piece-init g c =
    let ad = rw (c.new-ad.ensures.position, c.new-ad.ensures.flag) at c.pieces-pieces.ensures.are in
    let key = c.cipher.ensures.key in
    let number = c.cipher.ensures.nonce in
    let out = c.args.out.now.items in
    record {
      can_next = search rules;
      is_finite = tt;
      sealed = record {
        done = [];
        parts = search rules;
        stands = rw (ad, key, number) at c.encryptor_with-encryptor.ensures.stands;
        bytes = c.encryptor_with-encryptor.ensures.length;
        items = sym (append-nil out) ∙ ap (λ (l : List ℕ). out ++ l) (sym (ciphertext-none Aegis256 _));
      };
    }

pub loop-piece-preserved : goal.loop-piece-preserved
loop-piece-preserved g c =
    let s = c.args.self.now in
    let p = c.args.position in
    let so_far = c.loop-piece.invariant.sealed in
    let piece = c.in-Some.piece.now in
    let start = c.len-start.ensures ∙ c.loop-piece.out.ok.0 in
    let all = c.deref_mut.ensures.value ∙ c.in_ok-extend_from_slice.ensures.items in
    let is = piece_is c.len-start.result c.deref_mut.result.now c.loop-piece.out.items piece all start in
    let before = c.args.out.now.items in
    let made = c.update_in_place.new.buffer in
    let said = c.update_in_place.ensures in
    record {
      can_next = search rules;
      is_finite = tt;
      sealed = record {
        done = so_far.done ++ piece;
        parts = append_assoc so_far.done piece (chunks_rest c.next.new.self) ∙ ap (λ (l : List ℕ). so_far.done ++ l) (sym c.in-Some.ensures.steps.1.0) ∙ so_far.parts;
        stands = rw is at (said.taken s.key.now (nonce_of s p) (data_of s p c.args.flag) so_far.done so_far.stands);
        bytes = omega (arith, said.length, so_far.bytes, ap length is, length-append so_far.done piece);
        items = piece_sealed c.extend_from_slice.new.self c.len-start.result c.deref_mut.result.now c.loop-piece.out.items piece made c.deref_mut.ensures.value
            c.in_ok-extend_from_slice.ensures.items start (c.update_in_place.auto.buffer ∙ ap length is)
            ∙ ap (λ (l : List ℕ). l ++ made) so_far.items
            ∙ append_assoc before (ciphertext Aegis256 s.key.now (nonce_of s p) (data_of s p c.args.flag) so_far.done) made
            ∙ ap (λ (l : List ℕ). before ++ l) (sym (rw is at (said.written s.key.now (nonce_of s p) (data_of s p c.args.flag) so_far.done so_far.stands)));
      };
    }

pub update_in_place-requires : goal.update_in_place-requires
update_in_place-requires g c =
    let so_far = c.loop-piece.invariant.sealed in
    let piece = c.in-Some.piece.now in
    let start = c.len-start.ensures ∙ c.loop-piece.out.ok.0 in
    let all = c.deref_mut.ensures.value ∙ c.in_ok-extend_from_slice.ensures.items in
    let is = ap length (piece_is c.len-start.result c.deref_mut.result.now c.loop-piece.out.items piece all start) in
    let whole = ap length so_far.parts in
    let rest = ap length c.in-Some.ensures.steps.1.0 in (
      omega arith,
      omega (
        arith,
        so_far.bytes,
        is,
        whole,
        rest,
        length-append so_far.done (chunks_rest c.loop-piece.piece-iterator),
        length-append piece (chunks_rest c.next.new.self),
        c.requires.within,
        limit-within c.args.position.version,
      ),
    )

pub returns-clause-ok : goal.returns-clause-ok
returns-clause-ok g c =
    all_sealed c.args.self.now c.args.position c.args.flag c.args.message.now _ _ c.args.out.now.items c.loop-piece.out.items c.finalize.result c.extend_from_slice-2.new.self.items
    c.loop-piece.invariant.sealed c.in-None.ensures.steps.1.0 (c.finalize.ensures _ _ _) c.in_ok-extend_from_slice-2.ensures.items
