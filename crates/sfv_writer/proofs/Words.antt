-- Words that only proofs use: borrowed members, as parts of a field.
use Rattle.std.proofs.Common.{ℕ, List, Bor}
use Rattle.sfv_spec.specs.Values.{RawMember}
use Rattle.sfv_tree.specs.{Trees.member_tree, declared.parsed.ListEntry.ListEntry}

abbrev pub lent_list_member : Bor ListEntry → RawMember
lent_list_member member = member_tree member.now

abbrev pub lent_dictionary_member : Bor (List ℕ) × Bor ListEntry → List ℕ × RawMember
lent_dictionary_member member = (member.0.now, member_tree member.1.now)
