use Rattle.std.proofs.Common.{◌≡◌, ◌++◌, ◌∙◌, ap, arith, length, rules, subst, sym, take}
use Rattle.std.proofs.lemmas.List.{take-append-drop, take_all}
use Rattle.std.specs.Io.KnownBytes.{Consumes}
use Rattle.aegis.specs.RecordStream.{header}
use Rattle.aegis.specs.declared.record.version.Version.TheVariants.{Second}
use Rattle.aegis_files.proofs.open.read_prefix.Goals as goal

pub returns-clause-read : goal.returns-clause-read
returns-clause-read g c =
    let size : length c.fill.new.buffer ≡ 28 = c.fill.auto.buffer in
    let whole = take_all c.in_ok-fill.field-0 c.fill.new.buffer (omega (arith, size, c.if-branch-lt-BEGINNING_BYTES.false)) in
    let same : c.split_at.result.1.now ≡ header Second = search rules in
    let all : take 24 c.fill.new.buffer ++ header Second ≡ c.fill.new.buffer =
    ap (λ l. take 24 c.fill.new.buffer ++ l) (sym same ∙ c.split_at.ensures.back) ∙ take-append-drop 24 c.fill.new.buffer in
    subst (Consumes _ _) (whole ∙ sym all ∙ ap (λ l. l ++ header Second) (sym (c.copy_from_slice.ensures.after ∙ c.split_at.ensures.front))) c.in_ok-fill.ensures.read
