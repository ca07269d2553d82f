-- The errors of writing into a header map.
use Rattle.sfv.specs.Types.{SerializeError}
use Rattle.sfv.specs.Types.serialize_errors
use Rattle.http_header.specs.declared.map.HeaderMapError.{HeaderMapError}
use Rattle.http_header.specs.declared.map.HeaderMapError.TheVariants as map_errors
use Rattle.sfv_headers.specs.declared.write_error.WriteError.{WriteError}
use Rattle.sfv_headers.specs.declared.write_error.WriteError.TheVariants as errors

abbrev pub of_serializing : SerializeError → WriteError
of_serializing (serialize_errors.Unsupported kind) = errors.Unsupported kind
of_serializing serialize_errors.OutOfMemory = errors.OutOfMemory

abbrev pub of_map : HeaderMapError → WriteError
of_map map_errors.MaxSizeReached = errors.MaxSizeReached
of_map map_errors.OutOfMemory = errors.OutOfMemory
