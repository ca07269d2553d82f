-- What words name nothing.
use Rattle.std.proofs.Common.{ℕ, List}
use Rattle.sfv_tool_lib.specs.Runs.{NamesNoField, NamesNoPriority, NamesNothing}
use Rattle.sfv_tool_lib.specs.declared.run.Request.TheVariants as request

pub names_nothing : (words : List (List ℕ)) → NamesNoPriority words → NamesNoField words → NamesNothing words
names_nothing words none other (request.Field field reading writing) h = other field reading writing h
names_nothing words none other (request.Priority version) h = none version h
