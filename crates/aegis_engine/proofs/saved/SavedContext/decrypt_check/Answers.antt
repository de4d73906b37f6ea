use Rattle.std.proofs.Common.{◌≡◌, ◌∙◌, ap, sym, List, ℕ, [], ◌++◌, arith, rules, length}
use Rattle.std.proofs.lemmas.Grind.{common_steps}
use Rattle.std.proofs.lemmas.List.{append_assoc, length-append}
use Rattle.std.specs.Slice.Iter.{chunks_rest}
use Rattle.aegis_engine.proofs.SavedFacts.{checked-more, checked-none}
use Rattle.aegis_engine.proofs.saved.SavedContext.decrypt_check.Goals as goal

pub loop-piece-init : goal.loop-piece-init
loop-piece-init g c =
    let rest : chunks_rest c.into_iter-piece-iterator.result ≡ c.args.c.now = search rules in
    record {
      can_next = search rules;
      is_finite = tt;
      associated_data_within = c.requires.associated_data_within;
      message_within = rw rest c.requires.message_within;
      checked = ([], rest, checked-none g.S.LaneState.VARIANT c.args.self.now);
    }

pub loop-piece-preserved : goal.loop-piece-preserved
loop-piece-preserved g c =
    let before = c.loop-piece.invariant.checked in
    let piece = c.in-Some.piece.now in
    let parts = c.in-Some.ensures.steps.1.0 in
    let long = ap length parts ∙ length-append piece (chunks_rest c.next.new.self) in
    record {
      can_next = search rules;
      is_finite = tt;
      associated_data_within = rw c.check_piece.ensures.associated_data c.loop-piece.invariant.associated_data_within;
      message_within = omega (arith, long, c.check_piece.ensures.counted, c.loop-piece.invariant.message_within);
      checked = (
        before.0 ++ piece,
        append_assoc before.0 piece (chunks_rest c.next.new.self) ∙ ap (λ (l : List ℕ). before.0 ++ l) (sym parts) ∙ before.1,
        checked-more g.S.LaneState.VARIANT c.args.self.now c.loop-piece.self c.check_piece.new.self before.0 piece before.2 c.check_piece.ensures.checked,
      );
    }

pub returns : goal.returns
returns g c =
    let before = c.loop-piece.invariant.checked in
    let whole : before.0 ≡ c.args.c.now = grind (arith, common_steps) in
    rw whole at before.2
