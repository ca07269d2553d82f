use Rattle.std.proofs.Common.{◌≡◌, map, sym, ◌∙◌, ap, subst, ◌≢◌, Any, codes, string_bytes, Err}
use Rattle.std.proofs.lemmas.{Bool.false≢true, Slice.Eq.bytes_eq-Decides}
use Rattle.sfv.specs.{Canonical.item_text, Trees.item_tree, Values.string}
use Rattle.sfv_signatures.specs.Components.{UnlessMemory}
use Rattle.sfv_signatures.specs.{SignatureBase.{AreSame, Gives}, declared.base_error.BaseErrorKind.BaseErrorKind}
use Rattle.sfv_signatures.proofs.Named.{line_parts, named_value, named_fault, on_error}
use Rattle.sfv_signatures.proofs.base.append_line.Goals as goal

pub returns-in_err-append_checked : goal.returns-in_err-append_checked
returns-in_err-append_checked g c =
    let message = g.M.Components.gives c.args.message.now in
    let before = map item_tree c.args.before.now in
    let i = item_tree c.args.identifier.now in
    let new : Any (AreSame i) (map item_tree c.args.before.now) → ⊥ =
    λ h. false≢true (sym c.if-is_repeated.false ∙ c.is_repeated.ensures.1 h) in
    let name = c.as_str-name.result.now in
    let named : i.bare ≡ string name = c.in-Some.ensures ∙ ap string (sym c.as_str-name.ensures.text) in
    let other : name ≢ codes "@signature-params" =
    λ same. false≢true (sym c.if-eq.false ∙ c.eq.ensures ∙ (bytes_eq-Decides name (codes "@signature-params")).1 same) in
    let fault : UnlessMemory (λ kind. Gives message before i (Err kind)) c.in_err-append_checked.field-0.0 =
    named_fault message before i name c.in_err-append_checked.field-0.0 new named other c.in_err-append_checked.ensures in
    on_error c.from_residual-in_err-append_checked.result _ _ (UnlessMemory (λ kind. Gives message before i (Err kind)))
    c.from_residual-in_err-append_checked.ensures.1
    (λ (e : BaseErrorKind) h. let same : c.in_err-append_checked.field-0.0 ≡ e = cc (h) in
    subst (UnlessMemory (λ kind. Gives message before i (Err kind))) same fault)

pub returns : goal.returns
returns g c =
    let i = item_tree c.args.identifier.now in
    let new : Any (AreSame i) (map item_tree c.args.before.now) → ⊥ =
    λ h. false≢true (sym c.if-is_repeated.false ∙ c.is_repeated.ensures.1 h) in
    let name = c.as_str-name.result.now in
    let named : i.bare ≡ string name = c.in-Some.ensures ∙ ap string (sym c.as_str-name.ensures.text) in
    let other : name ≢ codes "@signature-params" =
    λ same. false≢true (sym c.if-eq.false ∙ c.eq.ensures ∙ (bytes_eq-Decides name (codes "@signature-params")).1 same) in
    let given = c.in_ok-append_checked.ensures in (
      given.0,
      named_value (g.M.Components.gives c.args.message.now) (map item_tree c.args.before.now) i name given.0 new named other
          given.1,
      line_parts (string_bytes c.args.base.now) (string_bytes c.append_identifier.new.base)
          (string_bytes c.push_str.new.self) (string_bytes c.append_checked.new.base) (string_bytes c.push_str-2.new.self)
          (item_text i) (codes ": ") given.0 (codes "\n") c.in_ok-append_identifier.ensures.text
          c.in_ok-push_str.ensures.bytes given.2 c.in_ok-push_str-2.ensures.bytes,
    )
