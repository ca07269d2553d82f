use Rattle.std.proofs.{Common.{◌≡◌, ℕ, List}, lemmas.Result.IfOk-weaker}
use Rattle.sfv.specs.Builders.{dictionary_state, dictionary_step, DictionaryAdds}
use Rattle.sfv.specs.{Maps.IndexMap, Seeds.DictionaryHasSeed, Statements.IsParsedAs, Trees.dictionary_tree}
use Rattle.sfv.specs.Types.{dictionary_field, Rfc9651, HashSeed, DictionaryBuilder, ListEntry}
use Rattle.sfv.proofs.Callers.{dictionary_in_lines, dictionary_after, dictionary_seeded, read_is_value}
use Rattle.sfv_examples.proofs.Uses.{second_fails}
use Rattle.sfv_examples.proofs.reading.dictionary_of_lines.Goals as goal

pub returns-clause-joined : goal.returns-clause-joined
returns-clause-joined c =
    let held = dictionary_tree c.in_ok-held.held.entries in
    let first : IsParsedAs Rfc9651 dictionary_field c.args.first.now held =
    rw (c.with_hash_seed-parser.ensures, c.new.ensures) at c.in_ok-held.ensures.read in
    let second = rw (c.new-2.ensures) at c.parse_dictionary_with_visitor.ensures.visited in
    let distinct = (read_is_value Rfc9651 dictionary_field c.args.first.now held first).distinct in
    let past = dictionary_after Rfc9651 c.args.second.now held c.new-builder.result
    c.parse_dictionary_with_visitor.result distinct c.new-builder.ensures.state second in
    IfOk-weaker c.parse_dictionary_with_visitor.result _ _ (λ dictionary h. (held, h.0, first, h.1, h.2)) past

pub returns-clause-one_line : goal.returns-clause-one_line
returns-clause-one_line c = IfOk-weaker c.parse_dictionary_with_visitor.result _ _ (λ dictionary h a b first m second n.
    rw h.4 (dictionary_in_lines Rfc9651 c.args.first.now c.args.second.now h.0 h.1 a b h.2 h.3 first m second n))
    (returns-clause-joined c)

pub returns-clause-seed : goal.returns-clause-seed
returns-clause-seed c =
    let second = rw (c.new-2.ensures) at c.parse_dictionary_with_visitor.ensures.visited in
    let first : DictionaryHasSeed c.args.seed c.in_ok-held.held =
    rw c.with_hash_seed-parser.ensures at c.in_ok-held.ensures.seed in
    IfOk-weaker c.parse_dictionary_with_visitor.result _ _ (λ dictionary h. dictionary_seeded Rfc9651 c.args.second.now
    c.new-builder.result dictionary c.args.seed (rw c.new-builder.ensures.dictionary first.1) (rw first.0 at c.new-builder.ensures.seed) h) second

pub returns-clause-rejected : goal.returns-clause-rejected
returns-clause-rejected c =
    let read : IsParsedAs Rfc9651 dictionary_field c.args.first.now (dictionary_tree c.in_ok-held.held.entries) =
    rw (c.with_hash_seed-parser.ensures, c.new.ensures) at c.in_ok-held.ensures.read in
    second_fails dictionary_field (λ (s : DictionaryBuilder) e after.
    (dictionary_state after ≡ dictionary_step (dictionary_state s) e) × DictionaryAdds s after)
    (λ s (dictionary : IndexMap (List ℕ) ListEntry HashSeed). dictionary ≡ s.dictionary) c.args.first.now
    c.args.second.now c.new-builder.result c.parse_dictionary_with_visitor.result (read.raw, read.accepted)
    (rw c.new-2.ensures at c.parse_dictionary_with_visitor.ensures.syntax)
