use Rattle.std.proofs.Common.{◌≡◌, refl, map, string_bytes}
use Rattle.http_header.specs.Token.{lowercase}
use Rattle.sfv_headers.specs.Lines.{lines_in}
use Rattle.sfv_signatures.specs.HttpMessages.{without_start, without_end, plain_text}
use Rattle.sfv_signatures.specs.declared.base_error.BaseErrorKind.{BaseErrorKind}
use Rattle.sfv_signatures.proofs.{Joined.{all_joined, plain_fault}, Named.on_error}
use Rattle.sfv_signatures.proofs.lines.append_plain_text.Goals as goal

pub returns-in_err-append_line : goal.returns-in_err-append_line
returns-in_err-append_line c = on_error c.from_residual.result _ _ _ c.from_residual.ensures.1
    (λ (e : BaseErrorKind) h. let same : c.in_err-append_line.field-0.0 ≡ e = cc (h) in
    plain_fault (string_bytes c.args.base.now) (string_bytes c.loop-value.base) c.loop-value.is_first
    (without_end (without_start c.in-Some.value.now.bytes))
    (map (λ line. without_end (without_start line)) (map (λ v. v.bytes) c.next.new.self))
    (map (λ line. without_end (without_start line)) (lines_in c.args.fields.now (lowercase c.args.name.now)))
    c.in_err-append_line.field-0.0 e (rw c.in-Some.ensures.steps at c.loop-value.invariant.2)
    (rw c.as_bytes.ensures.value at c.in_err-append_line.ensures.failed) same)

pub returns : goal.returns
returns c = (
  plain_text (lines_in c.args.fields.now (lowercase c.args.name.now)),
  refl,
  all_joined (string_bytes c.args.base.now) (string_bytes c.loop-value.base) c.loop-value.is_first
      (map (λ line. without_end (without_start line)) (lines_in c.args.fields.now (lowercase c.args.name.now)))
      (rw c.in-None.ensures.steps.0 at c.loop-value.invariant.2),
)
