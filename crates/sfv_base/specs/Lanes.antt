-- Classes of bytes by the halves of a byte, and the masks of vectors of bytes.
use Rattle.std.specs.Prelude.{ℕ, ◌/◌, ◌%◌, ◌==◌, Bool, not, List, map, slice_index, bit_and}
use Rattle.std.specs.Simd.Lanes.{mask_l}
use Rattle.std.proofs.lemmas.Bool.{agree_below}
use Rattle.sfv_base.specs.declared.lanes.TheConstants.{HIGH}

-- bit k is 1 if byte k is not of the class
abbrev pub outside_mask : (ℕ → Bool) → List ℕ → ℕ
outside_mask class bytes = mask_l (map (λ b. not (class b)) bytes)

-- the table has, at the byte's low half, the bit of its high half
abbrev pub is_marked : List ℕ → ℕ → Bool
is_marked low b = not (bit_and (slice_index low (b % 16)) (slice_index HIGH (b / 16)) == 0)

-- the table marks the bytes of the class, and no others
abbrev pub is_table_of : (ℕ → Bool) → List ℕ → Bool
is_table_of class low = agree_below (is_marked low) class 256
