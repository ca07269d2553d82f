use Rattle.std.proofs.Common.{◌≡◌, if◌then◌else◌, codes, subst, refl}
use Rattle.sfv.specs.Events.{begins_item, begins_inner_list}
use Rattle.sfv_c.specs.RowEvents.{member, text_only, Appends}
use Rattle.sfv_c.proofs.Stops.{writes_none, writes_row, answers_on, appends_none, stops_at, stuck_at, stuck_end, fails}
use Rattle.sfv_c.proofs.{Stops.not_member, rows_to_text.member.Goals.{then-keyed, else-keyed}}
use Rattle.sfv_c.proofs.rows_to_text.member.Goals as goal

pub returns-in_default : goal.returns-in_default
returns-in_default c p = stops_at (writes_none _ _ _ _) (stuck_end (member c.args.keyed p) c.in_default.ensures refl)

pub returns-then-is_plain : goal.returns-then-is_plain
returns-then-is_plain c p = answers_on p c.item.new.output c.item.result (writes_row begins_item c.in-Some.ensures.1 tt
    (c.if-is_plain.ensures.0 refl) refl (appends_none _)) (c.item.ensures p)

pub returns-then-not-is_plain : goal.returns-then-not-is_plain
returns-then-not-is_plain c p = stops_at (writes_none _ _ _ _) (stuck_at (member c.args.keyed p) c.in-Some.ensures.1
    (not_member c.in-Some.row.now c.args.keyed p (fails c.if-is_plain.ensures) (fails c.if-not-is_plain.ensures)))

pub returns : goal.returns
returns c p =
    let opening : c.if-keyed.opening.now ≡ (if c.args.keyed then codes "=(" else codes "(") = elim c.if-keyed.branch [
      | then-keyed w ↦ cc
      | else-keyed w ↦ cc
    ] in
    answers_on p c.items.new.output c.items.result
    (writes_row begins_inner_list c.in-Some.ensures.1 tt (c.if-not-is_plain.ensures.0 refl) refl
    (subst (λ t. Appends (text_only t) c.args.output.now c.append_text.new.self) opening c.append_text.ensures.appended))
    (c.items.ensures p)
