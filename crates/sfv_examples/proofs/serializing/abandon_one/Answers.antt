use Rattle.std.proofs.{Common.{rules, ◌++◌, ◌∷◌, [], List, ℕ, Bool, codes, subst}, lemmas.Result.MatchResult-weaker}
use Rattle.sfv.specs.{BareItems.ref_value, Canonical.bare_text}
use Rattle.sfv.specs.Serializers.{is_empty_so_far, sequence_version, sequence_sink}
use Rattle.sfv.specs.{Types.Version, Versions.ChecksVersionFirst, Written.{LacksRoom, separator_before}}
use Rattle.sfv.proofs.Callers.{taken_away, kept_as}
use Rattle.sfv_examples.proofs.Exits.{checks_one, lacks_after}
use Rattle.sfv_examples.proofs.serializing.abandon_one.Goals as goal

pub returns-clause-kept : goal.returns-clause-kept
returns-clause-kept g c =
    let s = g.W.Sink in
    let again = g.met.W.Sink.same_again in
    let list = c.args.list.now in
    let last = c.abandon.new.self.0 in
    let begun = c.in_ok-inner.ensures in
    let away = c.abandon.ensures.text in
    let kept = taken_away s again list last c.in_ok-inner.inner c.write_inner-written.new.inner _ begun.text
    begun.begins.1 c.write_inner-written.ensures.grows away in
    kept_as s list last _ _ _ _ kept (search rules) (search rules) (search rules) (search rules)

pub returns-clause-unsupported : goal.returns-clause-unsupported
returns-clause-unsupported g c =
    let value = ref_value c.args.value in
    let written = c.write_inner-written.result in
    checks_one (sequence_version c.args.list.now) value written
    (subst (λ (version : Version). ChecksVersionFirst version (value ∷ []) written) c.in_ok-inner.ensures.version
    c.write_inner-written.ensures.unsupported)

pub returns-clause-room : goal.returns-clause-room
returns-clause-room g c =
    let begun = c.in_ok-inner.ensures in
    let old = g.W.Sink.text c.args.list.now.sink in
    let mid = g.W.Sink.text (sequence_sink c.in_ok-inner.inner).now.sink in
    let front : List ℕ = separator_before (is_empty_so_far c.args.list.now) (codes ", ") in
    let value : List ℕ = bare_text (ref_value c.args.value) in
    MatchResult-weaker c.write_inner-written.result c.write_inner-written.ensures.room (λ x h. h) (λ e h memory.
    lacks_after old front (codes "(") mid begun.text.1 begun.text.5 value
    (subst (λ (b : Bool). LacksRoom mid (separator_before b (codes " ") ++ value)) begun.begins.0 (h memory)))
