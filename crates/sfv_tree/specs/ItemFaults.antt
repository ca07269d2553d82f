-- The texts of errors of a visitor that expects an item.
use Rattle.std.specs.Prelude.{ℕ, List, ◌++◌, codes}
use Rattle.sfv_values.specs.Kinds.{kind_text}
use Rattle.sfv_tree.specs.declared.visitor.ItemFault.{ItemFault}
use Rattle.sfv_tree.specs.declared.visitor.ItemFault.TheVariants as faults

-- the printed text of an error of a visitor that expects an item
abbrev pub item_fault_text : ItemFault → List ℕ
item_fault_text (faults.WrongType expected got) =
    codes "unexpected bare item type: expected " ++ kind_text expected ++ codes ", got " ++ kind_text got
item_fault_text faults.NoItem = codes "no item"
item_fault_text faults.OutOfMemory = codes "out of memory"
