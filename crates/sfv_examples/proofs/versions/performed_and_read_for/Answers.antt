use Rattle.std.proofs.Common.{rules, ◌≡◌, ap}
use Rattle.sfv.specs.{Canonical.canonical, Errors.kind_of, Parsers.IsParseError}
use Rattle.sfv.specs.{Scripts.described_list, Statements.IsParsedAs, Trees.list_tree, Types.list_field, Values.RawField}
use Rattle.sfv.proofs.Callers.{one_value, accepted_error}
use Rattle.sfv_examples.proofs.versions.performed_and_read_for.Goals as goal

pub returns-in-Ok-clause-read : goal.returns-in-Ok-clause-read
returns-in-Ok-clause-read c =
    let raw : RawField list_field = described_list c.args.calls.now in
    let text : c.as_bytes.result.now ≡ canonical list_field raw = search rules in
    let read : IsParsedAs c.args.version list_field (canonical list_field raw) (list_tree c.in-Ok.list.items) =
    rw (c.with_version-parser.ensures, c.new.ensures, text) at c.in-Ok.ensures.read in
    one_value c.args.version list_field (canonical list_field raw) (list_tree c.in-Ok.list.items) _ read
    c.in_ok-run_list_for.ensures.read_back

pub unreachable-requires : goal.unreachable-requires
unreachable-requires c =
    let version = c.args.version in
    let raw : RawField list_field = described_list c.args.calls.now in
    let text : c.as_bytes.result.now ≡ canonical list_field raw = search rules in
    let written = c.in_ok-run_list_for.ensures.read_back in
    let rejected : IsParseError version list_field (canonical list_field raw) c.in-Err.error =
    rw (c.with_version-parser.ensures, c.new.ensures, text) at c.in-Err.ensures.rejected in
    let kind = ap kind_of (accepted_error version list_field (canonical list_field raw) written.raw c.in-Err.error
    written.accepted rejected) in
    absurd (let wanting = c.if-is_out_of_memory.ensures.1 kind in cc)
