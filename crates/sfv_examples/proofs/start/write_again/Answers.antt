use Rattle.sfv.specs.{Statements.IsParsedAs, Trees.dictionary_tree, Types.{dictionary_field, Rfc9651}}
use Rattle.sfv.proofs.Callers.{member_needs, needed}
use Rattle.sfv_examples.proofs.start.write_again.Goals as goal

pub returns-in_err-line-clause-memory : goal.returns-in_err-line-clause-memory
returns-in_err-line-clause-memory c =
    let value = dictionary_tree c.in_ok-dictionary.dictionary.entries in
    let read : IsParsedAs Rfc9651 dictionary_field c.args.input.now value = rw c.new.ensures at c.in_ok-dictionary.ensures.read in
    needed dictionary_field c.args.input.now c.from_residual-in_err-line.result
    (member_needs Rfc9651 dictionary_field c.args.input.now value (λ same. absurd (cc)) read
    c.in_err-line.ensures.out_of_memory)

pub returns-clause-written : goal.returns-clause-written
returns-clause-written c =
    let read : IsParsedAs Rfc9651 dictionary_field c.args.input.now (dictionary_tree c.in_ok-dictionary.dictionary.entries) =
    rw c.new.ensures at c.in_ok-dictionary.ensures.read in
    (dictionary_tree c.in_ok-dictionary.dictionary.entries, read, c.in_ok-line.ensures.text)
