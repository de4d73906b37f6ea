use Rattle.std.specs.Slice.Iter.{chunks_rest}
use Rattle.aegis.proofs.Pieces.{HasSealed}
use Rattle.aegis.proofs.record.record_cipher.RecordCipher.seal.Given as goal

abbrev pub invariant-loop-piece : goal.invariant-loop-piece
invariant-loop-piece g l = record {
  can_next : (goal.iterator-loop-piece g).can_next l.piece-iterator;
  is_finite : (goal.iterator-loop-piece g).is_finite l.piece-iterator;
  sealed : HasSealed l.fn.self l.fn.position l.fn.flag l.fn.message (chunks_rest l.piece-iterator) l.encryptor l.initial.out.items l.out.items;
}
