-- On how much of the text a bare item rests.
use Rattle.sfv_model.specs.{Bare.{boolean_at, token_at, date_at, quoted_at, bare_at}, Judgements.Local}
use Rattle.sfv_model.proofs.{Types.{Version, Rfc8941, Rfc9651}, local.ByteSequences.Local-bytes}
use Rattle.sfv_model.proofs.local.{Combinators.local_rules, Numbers.Local-number, Quoted.{Local-string, Local-display}}

-- ---- what an answer rests on

Local-date : (version : Version) → Local (date_at version)
unfolding date_at
Local-date Rfc8941 = search local_rules depth 40
Local-date Rfc9651 = search (local_rules, Local-number) depth 40

Local-quoted : (version : Version) → Local (quoted_at version)
unfolding quoted_at
Local-quoted Rfc8941 = search local_rules depth 40
Local-quoted Rfc9651 = search (local_rules, Local-display) depth 40

pub Local-bare : (version : Version) → Local (bare_at version)
unfolding bare_at boolean_at token_at
Local-bare version = search (local_rules, Local-number, Local-string, Local-bytes, Local-date, Local-quoted) depth 40
