use Rattle.std.proofs.lemmas.Result.{IfOk-weaker}
use Rattle.sfv.specs.{HashSeeds.library_seed, Types.{dictionary_field, Rfc9651}}
use Rattle.sfv.proofs.Callers.{made_visited, made_syntax, made_visitor, dictionary_seeded, dictionary_built}
use Rattle.sfv.proofs.Callers.{no_entry_held}
use Rattle.sfv_examples.proofs.Uses.{read_failed}
use Rattle.sfv_examples.proofs.expecting.dictionary.Goals as goal

pub returns-clause-read : goal.returns-clause-read
returns-clause-read c = IfOk-weaker c.parse_dictionary.result _ _
    (λ value h. dictionary_built Rfc9651 c.args.input.now h.0 value h.1.0 h.2)
    (made_visited _ (rw c.new.ensures at c.parse_dictionary.ensures))

pub returns-clause-seed : goal.returns-clause-seed
returns-clause-seed c = IfOk-weaker c.parse_dictionary.result _ _
    (λ value h. dictionary_seeded Rfc9651 c.args.input.now h.0 value library_seed
    (no_entry_held h.0 library_seed h.1.0) h.1.1 h.2) (made_visited _ (rw c.new.ensures at c.parse_dictionary.ensures))

pub returns-clause-rejected : goal.returns-clause-rejected
returns-clause-rejected c = read_failed _ _ _ dictionary_field c.args.input.now (λ e h. h.2.0) (λ f h. tt)
    c.parse_dictionary.result (made_syntax _ (rw c.new.ensures at c.parse_dictionary.ensures))
    (made_visitor _ (rw c.new.ensures at c.parse_dictionary.ensures))
