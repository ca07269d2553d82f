use Rattle.std.proofs.Common.{[], arith, refl, sym, rules, append-nil}
use Rattle.sfv.proofs.Callers.{taken_away, kept_as}
use Rattle.sfv_examples.proofs.serializing.abandon_named.Goals as goal

pub returns-clause-kept : goal.returns-clause-kept
returns-clause-kept g c =
    let s = g.W.Sink in
    let again = g.met.W.Sink.same_again in
    let dictionary = c.args.dictionary.now in
    let last = c.abandon.new.self.0 in
    let inner = c.in_ok-inner.inner in
    let begun = c.in_ok-inner.ensures in
    let away = c.abandon.ensures.text in
    let kept = taken_away s again dictionary last inner inner _ begun.text begun.begins.1
    ((refl, g.met.W.Sink.same_itself _, refl, refl, refl), ([], sym (append-nil _)), refl, omega arith) away in
    kept_as s dictionary last _ _ _ _ kept (search rules) (search rules) (search rules) (search rules)
