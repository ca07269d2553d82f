use Rattle.std.proofs.Common.{inr, map, vec_items}
use Rattle.sfv_http_fields.{specs.SecChUa.brand_value, proofs.BrandLists.has_brand}
use Rattle.sfv_http_fields.proofs.sec_ch_ua.brands.Goals as goal

pub returns-then-read-clause-memory : goal.returns-then-read-clause-memory
returns-then-read-clause-memory c = λ same. inr (has_brand c.args.version c.args.input.now c.in_ok-read.read.is_cut
    (map brand_value (vec_items c.in_ok-read.read.brands)) c.in_ok-read.ensures.read.0 c.in_ok-read.ensures.read.1
    c.in_ok-read.ensures.read.2 c.if-read.true)
