use Rattle.std.proofs.Common.{◌≡◌, ◌∙◌, List, ap, arith, refl, rules, ℕ}
use Rattle.aegis_pages.specs.Commits.{journal_key}
use Rattle.aegis_c_calls.proofs.JournalFacts.{content_within, may_be, may_not_be, own_may_be, was_read, whole_found}
use Rattle.aegis_c_calls.specs.Private.{IsOwnCommit, IsWhole}
use Rattle.aegis_c_calls.proofs.journal.check.Goals as goal

pub returns-in-Some-clause-call : goal.returns-in-Some-clause-call
returns-in-Some-clause-call g c =
    let variant = g.S.LaneState.VARIANT in
    let key : List ℕ = c.args.k.now in
    let read = was_read (λ l. l.now) variant _ key _ c.args.file.now c.args.journal.now _ c.header_in-header.result c.journaled_content-content.result c.is_accepted.result g.met.S.LaneState.one_two_or_four
    c.in_ok-key.ensures.key c.journal_key-journal_key.ensures c.header_block.ensures c.header_in-header.ensures c.journaled_content-content.ensures.some c.journaled_content-content.ensures.none c.is_accepted.ensures in
    record {
      answered = search rules;
      lengths = search rules;
      other = search rules;
      accepted = search rules;
      complete = λ may _. absurd (may_not_be variant key _ _ _ read.0 _ read.1 c.if-not-is_accepted.true may);
      own = λ writes is long of_commit _. absurd (may_not_be variant key _ _ _ read.0 _ read.1 c.if-not-is_accepted.true (own_may_be variant key _ _ _ read.0 _ read.1 writes is long of_commit));
      none = search rules;
      named = λ _. (c.in-Some.field-0, rw c.in-Some.is at read.1.is);
      whole = search rules;
      torn = search rules;
      within = search rules;
      kept = search rules;
    }

pub returns-in-None-clause-call : goal.returns-in-None-clause-call
returns-in-None-clause-call g c =
    let variant = g.S.LaneState.VARIANT in
    let key : List ℕ = c.args.k.now in
    let read = was_read (λ l. l.now) variant _ key _ c.args.file.now c.args.journal.now _ c.header_in-header.result c.journaled_content-content.result c.is_accepted.result g.met.S.LaneState.one_two_or_four
    c.in_ok-key.ensures.key c.journal_key-journal_key.ensures c.header_block.ensures c.header_in-header.ensures c.journaled_content-content.ensures.some c.journaled_content-content.ensures.none c.is_accepted.ensures in
    record {
      answered = search rules;
      lengths = search rules;
      other = search rules;
      accepted = search rules;
      complete = λ may _. absurd (may_not_be variant key _ _ _ read.0 _ read.1 c.if-not-is_accepted.true may);
      own = λ writes is long of_commit _. absurd (may_not_be variant key _ _ _ read.0 _ read.1 c.if-not-is_accepted.true (own_may_be variant key _ _ _ read.0 _ read.1 writes is long of_commit));
      none = λ _. rw c.in-None.is at read.1.is;
      named = search rules;
      whole = search rules;
      torn = search rules;
      within = search rules;
      kept = search rules;
    }

pub returns-in_default-clause-call : goal.returns-in_default-clause-call
returns-in_default-clause-call g c =
    let variant = g.S.LaneState.VARIANT in
    let key : List ℕ = c.args.k.now in
    let read = was_read (λ l. l.now) variant _ key _ c.args.file.now c.args.journal.now _ c.header_in-header.result c.journaled_content-content.result c.is_accepted.result g.met.S.LaneState.one_two_or_four
    c.in_ok-key.ensures.key c.journal_key-journal_key.ensures c.header_block.ensures c.header_in-header.ensures c.journaled_content-content.ensures.some c.journaled_content-content.ensures.none c.is_accepted.ensures in
    let made : c.journal_key-journal_key.result ≡ journal_key variant key =
    c.journal_key-journal_key.ensures ∙ ap (journal_key variant) c.in_ok-key.ensures.key in
    record {
      answered = search rules;
      lengths = search rules;
      other = search rules;
      accepted = λ _. may_be variant key _ _ _ read.0 _ read.1 c.if-not-is_accepted.false;
      complete = λ _ _. refl;
      own = λ _ _ _ _ _. refl;
      none = search rules;
      named = search rules;
      whole = λ writes _ is. absurd ((rw made at c.in_default.ensures.none) writes is);
      torn = λ _ _. refl;
      within = λ _ more. absurd (omega (arith, more));
      kept = search rules;
    }

pub returns-clause-call : goal.returns-clause-call
returns-clause-call g c =
    let variant = g.S.LaneState.VARIANT in
    let key : List ℕ = c.args.k.now in
    let read = was_read (λ l. l.now) variant _ key _ c.args.file.now c.args.journal.now _ c.header_in-header.result c.journaled_content-content.result c.is_accepted.result g.met.S.LaneState.one_two_or_four
    c.in_ok-key.ensures.key c.journal_key-journal_key.ensures c.header_block.ensures c.header_in-header.ensures c.journaled_content-content.ensures.some c.journaled_content-content.ensures.none c.is_accepted.ensures in
    let made : c.journal_key-journal_key.result ≡ journal_key variant key =
    c.journal_key-journal_key.ensures ∙ ap (journal_key variant) c.in_ok-key.ensures.key in
    record {
      answered = search rules;
      lengths = search rules;
      other = search rules;
      accepted = λ _. may_be variant key _ _ _ read.0 _ read.1 c.if-not-is_accepted.false;
      complete = λ _ _. refl;
      own = λ _ _ _ _ _. refl;
      none = search rules;
      named = search rules;
      whole = λ writes _ is. whole_found _ _ _ _ writes made c.in-Some-content.ensures.some is;
      torn = λ _ torn. absurd (torn _ (rw made at c.in-Some-content.ensures.some.1));
      within = λ _ _. content_within _ _ _ c.in-Some-content.ensures.some;
      kept = search rules;
    }

pub returns-in_default-clause-found : goal.returns-in_default-clause-found
unfolding IsWhole
returns-in_default-clause-found g c =
    let made : c.journal_key-journal_key.result ≡ journal_key g.S.LaneState.VARIANT c.args.k.now =
    c.journal_key-journal_key.ensures ∙ ap (journal_key g.S.LaneState.VARIANT) c.in_ok-key.ensures.key in λ writes is. absurd ((rw made at c.in_default.ensures.none) writes is)

pub returns-clause-found : goal.returns-clause-found
unfolding IsWhole
returns-clause-found g c =
    let made : c.journal_key-journal_key.result ≡ journal_key g.S.LaneState.VARIANT c.args.k.now =
    c.journal_key-journal_key.ensures ∙ ap (journal_key g.S.LaneState.VARIANT) c.in_ok-key.ensures.key in λ writes is. whole_found _ _ _ _ writes made c.in-Some-content.ensures.some is

pub returns-in-Some-clause-accepted : goal.returns-in-Some-clause-accepted
unfolding IsOwnCommit IsWhole
returns-in-Some-clause-accepted g c all is own size =
    let read = was_read (λ l. l.now) g.S.LaneState.VARIANT _ c.args.k.now _ c.args.file.now c.args.journal.now _ c.header_in-header.result c.journaled_content-content.result c.is_accepted.result g.met.S.LaneState.one_two_or_four
    c.in_ok-key.ensures.key c.journal_key-journal_key.ensures c.header_block.ensures c.header_in-header.ensures c.journaled_content-content.ensures.some c.journaled_content-content.ensures.none c.is_accepted.ensures in
    absurd (may_not_be g.S.LaneState.VARIANT c.args.k.now _ _ _ read.0 _ read.1 c.if-not-is_accepted.true (own_may_be g.S.LaneState.VARIANT c.args.k.now _ _ _ read.0 _ read.1 all is own.0 own.1))

pub returns-in-None-clause-accepted : goal.returns-in-None-clause-accepted
unfolding IsOwnCommit IsWhole
returns-in-None-clause-accepted g c all is own size =
    let read = was_read (λ l. l.now) g.S.LaneState.VARIANT _ c.args.k.now _ c.args.file.now c.args.journal.now _ c.header_in-header.result c.journaled_content-content.result c.is_accepted.result g.met.S.LaneState.one_two_or_four
    c.in_ok-key.ensures.key c.journal_key-journal_key.ensures c.header_block.ensures c.header_in-header.ensures c.journaled_content-content.ensures.some c.journaled_content-content.ensures.none c.is_accepted.ensures in
    absurd (may_not_be g.S.LaneState.VARIANT c.args.k.now _ _ _ read.0 _ read.1 c.if-not-is_accepted.true (own_may_be g.S.LaneState.VARIANT c.args.k.now _ _ _ read.0 _ read.1 all is own.0 own.1))
