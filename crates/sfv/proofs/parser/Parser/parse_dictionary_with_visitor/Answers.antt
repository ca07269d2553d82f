use Rattle.sfv.{specs.Field.dictionary_field, specs.Parsers.{input_of, version_of}, proofs.Memory.visits_memory}
use Rattle.sfv.proofs.visits.{Failed.{on_tree, visits_failure}, Fields.{visits_answer, visits_syntax, visits_before}}
use Rattle.sfv.proofs.parser.Parser.parse_dictionary_with_visitor.Goals as goal

pub returns-clause-visited : goal.returns-clause-visited
returns-clause-visited g c = visits_answer g.V.Visitor c.args.self dictionary_field c.args.visitor c.parse_members_field.result
    (on_tree g.V.Visitor c.args.self dictionary_field c.args.visitor c.parse_members_field.result
    c.parse_members_field.ensures.visited)

pub returns-clause-syntax : goal.returns-clause-syntax
returns-clause-syntax g c = visits_syntax g.V.Visitor c.args.self dictionary_field c.args.visitor c.parse_members_field.result
    (on_tree g.V.Visitor c.args.self dictionary_field c.args.visitor c.parse_members_field.result
    c.parse_members_field.ensures.visited)

pub returns-clause-before_error : goal.returns-clause-before_error
returns-clause-before_error g c = visits_before g.V.Visitor c.args.self dictionary_field c.args.visitor c.parse_members_field.result
    (on_tree g.V.Visitor c.args.self dictionary_field c.args.visitor c.parse_members_field.result
    c.parse_members_field.ensures.visited)

pub returns-clause-visitor : goal.returns-clause-visitor
returns-clause-visitor g c = visits_failure g.V.Visitor c.args.self dictionary_field c.args.visitor c.parse_members_field.result
    c.parse_members_field.ensures.visited

pub returns-clause-memory : goal.returns-clause-memory
returns-clause-memory g c = visits_memory g.V.Visitor.takes g.V.Visitor.fails g.V.Visitor.finishes
    g.V.Visitor.finish_fails (version_of c.args.self) dictionary_field (input_of c.args.self) c.args.visitor
    c.parse_members_field.result (on_tree g.V.Visitor c.args.self dictionary_field c.args.visitor c.parse_members_field.result
    c.parse_members_field.ensures.visited)
