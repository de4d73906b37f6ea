use Rattle.std.proofs.Common.{subst, rules}
use Rattle.aegis_c_calls.specs.PageCalls.{BlockHasHeader, header_of}
use Rattle.aegis_c_calls.proofs.OneRecord.{one_header}
use Rattle.aegis_c_calls.proofs.page.page_header_open.Goals as goal

pub returns : goal.returns
returns g c =
    let variant = g.S.LaneState.VARIANT in
    let found = header_of c.in-Some.header.page_bytes c.in-Some.header.id c.in-Some.header.counter c.in-Some.header.len in
    let opened : BlockHasHeader variant c.args.k.now c.args.header_block.now found =
    subst (λ key. BlockHasHeader variant key c.args.header_block.now found) c.in_ok-key.ensures.key c.in-Some.ensures.opened in
    record {
      answered = search rules;
      lengths = search rules;
      opened = λ _. opened;
      one = λ _ header is. one_header variant c.args.k.now c.args.header_block.now header found g.met.S.LaneState.one_two_or_four is opened;
      accepted = search rules;
      kept = search rules;
    }
