-- The text of a script parses back under each version that has its values.
use Rattle.std.proofs.Common.{Result, Ok, Err, OnOk}
use Rattle.sfv_spec.specs.{Values.{RawField, IsFieldValue}, declared.field_kind.FieldKind.FieldKind}
use Rattle.sfv_writer.proofs.ReadBack.{read_back}
use Rattle.sfv_serializer.specs.Scripts.{IsReadBackWhereFit}

pub read_back_where_fit : {T E : Type 0} (r : Result T E) (kind : FieldKind) (raw : RawField kind)
    → OnOk r (IsFieldValue kind raw) → OnOk r (IsReadBackWhereFit kind raw)
read_back_where_fit (Ok x) kind raw h = λ version fits. read_back version kind raw h fits
read_back_where_fit (Err e) kind raw h = tt
