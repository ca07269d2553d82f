-- What the events of the parts of a field add.
use Rattle.std.proofs.Common.{◌≡◌, ℕ, List, [], ◌∷◌, ◌++◌, map, flat_map, refl, sym, ap, ◌∙◌, append_assoc, Bool, true}
use Rattle.std.proofs.Common.{false, if◌then◌else◌, Option, Some, None, option_map, codes, append-nil}
use Rattle.std.specs.Map.{values_of}
use Rattle.sfv_writer.proofs.Separated.{in_a_row_first}
use Rattle.sfv.specs.Canonical.{parameters_text, item_text, member_text, dictionary_member_text, inner_list_text}
use Rattle.sfv.specs.Canonical.{canonical}
use Rattle.sfv.specs.Events.{TreeEvent, parameter, begins_inner_list, inner_list_end, parameters_events, item_events}
use Rattle.sfv.specs.Events.{inner_item_events, member_events, entry_events, keyed_events, events}
use Rattle.sfv.specs.Types.{FieldKind, item_field, list_field, dictionary_field}
use Rattle.sfv.specs.Values.{BareValue, RawField, RawParameters, RawItem, RawMember, item, inner_list, item_values}
use Rattle.sfv.specs.{Values.{member_values, bare_values}, Written.{with_separators, separator_before}}
use Rattle.sfv_c.specs.RowEvents.{ParseState, ended, list_members, dictionary_members, member, value, parameters, items}
use Rattle.sfv_c.specs.RowEvents.{Piece, text_only, followed_by, item_piece, piece, added, beginning}

abbrev pub piece_of : List ℕ → List BareValue → Piece
piece_of text values = record { text = text; values = values }

pub same_piece : {t u : List ℕ} {v w : List BareValue} → t ≡ u → v ≡ w → piece_of t v ≡ piece_of u w
same_piece {t} {u} {v} {w} e f = ap (λ (x : List ℕ). piece_of x v) e ∙ ap (λ (x : List BareValue). piece_of u x) f

pub adds_nothing : (o : Option Piece) → option_map (followed_by (text_only [])) o ≡ o
adds_nothing None = refl
adds_nothing (Some x) = refl

-- one piece after another
pub adds_both : (a b : Piece) (o : Option Piece)
    → option_map (followed_by a) (option_map (followed_by b) o) ≡ option_map (followed_by (followed_by a b)) o
adds_both a b None = refl
adds_both a b (Some c) = ap Some (same_piece (sym (append_assoc a.text b.text c.text))
    (sym (append_assoc a.values b.values c.values)))

-- the same where the second piece comes from the events after the first
adds_next : (a b c : Piece) (o p : Option Piece) → o ≡ option_map (followed_by b) p → followed_by a b ≡ c
    → option_map (followed_by a) o ≡ option_map (followed_by c) p
adds_next a b c o p h e = ap (option_map (followed_by a)) h ∙ (adds_both a b p
    ∙ ap (λ (x : Piece). option_map (followed_by x) p) e)

abbrev pub parameters_piece : RawParameters → Piece
parameters_piece ps = record { text = parameters_text ps; values = values_of ps }

pub adds_parameters : (p : ParseState) (ps : RawParameters) (es : List TreeEvent)
    → added (parameters p) (parameters_events ps ++ es) ≡ option_map (followed_by (parameters_piece ps)) (added p es)
adds_parameters p [] es = refl
adds_parameters p (q ∷ ps) es = adds_next (piece (parameters p) (parameter q.0 q.1)) (parameters_piece ps)
    (parameters_piece (q ∷ ps)) (added (parameters p) (parameters_events ps ++ es)) (added p es) (adds_parameters p ps es) refl

abbrev pub whole_item : Bool → RawItem → Piece
whole_item keyed i = followed_by (item_piece keyed i.bare) (parameters_piece i.parameters)

pub adds_item : (keyed : Bool) (p : ParseState) (i : RawItem) (es : List TreeEvent)
    → added (value keyed p) (item_events i ++ es) ≡ option_map (followed_by (whole_item keyed i)) (added p es)
adds_item keyed p i es = adds_next (item_piece keyed i.bare) (parameters_piece i.parameters) (whole_item keyed i)
    (added (parameters p) (parameters_events i.parameters ++ es)) (added p es) (adds_parameters p i.parameters es) refl

-- the items of an inner list, its end, and its parameters
abbrev pub inside : Bool → List RawItem → RawParameters → Piece
inside is_first is ps = record {
  text = with_separators is_first (codes " ") (map item_text is) ++ codes ")" ++ parameters_text ps;
  values = flat_map item_values is ++ values_of ps;
}

pub adds_inside : (is_first : Bool) (p : ParseState) (is : List RawItem) (ps : RawParameters) (es : List TreeEvent)
    → added (items is_first p) (flat_map inner_item_events is ++ (inner_list_end ∷ (parameters_events ps ++ es)))
    ≡ option_map (followed_by (inside is_first is ps)) (added p es)
adds_inside is_first p [] ps es = adds_next (text_only (codes ")")) (parameters_piece ps) (inside is_first [] ps)
    (added (parameters p) (parameters_events ps ++ es)) (added p es) (adds_parameters p ps es) refl
adds_inside is_first p (i ∷ is) ps es =
    let rest = inner_list_end ∷ (parameters_events ps ++ es) in
    let front = separator_before is_first (codes " ") in
    ap (added (items is_first p)) (append_assoc (inner_item_events i) (flat_map inner_item_events is) rest)
    ∙ adds_next (text_only front) (followed_by (whole_item false i) (inside false is ps)) (inside is_first (i ∷ is) ps)
    (added (value false (items false p)) (item_events i ++ (flat_map inner_item_events is ++ rest))) (added p es)
    (adds_item false (items false p) i (flat_map inner_item_events is ++ rest)
    ∙ adds_next (whole_item false i) (inside false is ps) (followed_by (whole_item false i) (inside false is ps))
    (added (items false p) (flat_map inner_item_events is ++ rest)) (added p es) (adds_inside false p is ps es) refl)
    (same_piece (simp append_assoc) (sym (append_assoc (item_values i) (flat_map item_values is) (values_of ps))))

abbrev pub whole_member : Bool → RawMember → Piece
whole_member keyed (item i) = whole_item keyed i
whole_member keyed (inner_list l) =
    followed_by (text_only (if keyed then codes "=(" else codes "(")) (inside true l.items l.parameters)

pub adds_member : (keyed : Bool) (p : ParseState) (m : RawMember) (es : List TreeEvent)
    → added (member keyed p) (member_events m ++ es) ≡ option_map (followed_by (whole_member keyed m)) (added p es)
adds_member keyed p (item i) es = adds_next (text_only []) (whole_item keyed i) (whole_item keyed i)
    (added (value keyed p) (item_events i ++ es)) (added p es) (adds_item keyed p i es) refl
adds_member keyed p (inner_list l) es =
    let events = flat_map inner_item_events l.items in
    let last = inner_list_end ∷ parameters_events l.parameters in
    ap (λ (x : List TreeEvent). added (member keyed p) (begins_inner_list ∷ x)) (append_assoc events last es)
    ∙ adds_next (text_only (if keyed then codes "=(" else codes "(")) (inside true l.items l.parameters)
    (whole_member keyed (inner_list l)) (added (items true p) (events ++ (last ++ es))) (added p es)
    (adds_inside true p l.items l.parameters es) refl

list_piece : (m : RawMember) → whole_member false m ≡ piece_of (member_text m) (member_values m)
list_piece (item i) = refl
list_piece (inner_list l) = same_piece (ap (λ (t : List ℕ). codes "(" ++ t ++ codes ")" ++ parameters_text l.parameters)
    (in_a_row_first (codes " ") (map item_text l.items))) refl

keyed_piece : (m : List ℕ × RawMember) → followed_by (text_only m.0) (whole_member true m.1)
    ≡ piece_of (dictionary_member_text m) (member_values m.1)
keyed_piece (key, item i) = same_piece (simp append_assoc) refl
keyed_piece (key, inner_list l) =
    same_piece (ap (λ (t : List ℕ). key ++ (codes "=(" ++ (t ++ codes ")" ++ parameters_text l.parameters)))
    (in_a_row_first (codes " ") (map item_text l.items)) ∙ sym (append_assoc key (codes "=") (inner_list_text l))) refl

-- a member after its separator, and the others
one_more : (front key : List ℕ) (x y z : Piece) → followed_by (text_only key) x ≡ y
    → followed_by (text_only (front ++ key)) (followed_by x z)
    ≡ piece_of (front ++ y.text ++ z.text) (y.values ++ z.values)
one_more front key x y z e = same_piece (simp append_assoc) refl
    ∙ ap (λ (w : Piece). piece_of (front ++ w.text ++ z.text) (w.values ++ z.values)) e

adds_list : (is_first : Bool) (ms : List RawMember) → added (list_members is_first) (flat_map entry_events ms)
    ≡ Some (piece_of (with_separators is_first (codes ", ") (map member_text ms)) (flat_map member_values ms))
adds_list is_first [] = refl
adds_list is_first (m ∷ ms) =
    let front = separator_before is_first (codes ", ") in
    let rest = piece_of (with_separators false (codes ", ") (map member_text ms)) (flat_map member_values ms) in
    ap (option_map (followed_by (text_only front))) (adds_member false (list_members false) m (flat_map entry_events ms)
    ∙ ap (option_map (followed_by (whole_member false m))) (adds_list false ms)) ∙ ap Some
    (ap (λ (t : List ℕ). followed_by (text_only t) (followed_by (whole_member false m) rest)) (sym (append-nil front))
    ∙ one_more front [] (whole_member false m) (piece_of (member_text m) (member_values m)) rest (list_piece m))

adds_dictionary : (is_first : Bool) (ms : List (List ℕ × RawMember))
    → added (dictionary_members is_first) (flat_map keyed_events ms)
    ≡ Some (piece_of (with_separators is_first (codes ", ") (map dictionary_member_text ms))
    (flat_map (λ m. member_values m.1) ms))
adds_dictionary is_first [] = refl
adds_dictionary is_first (m ∷ ms) =
    let front = separator_before is_first (codes ", ") in
    let rest = piece_of (with_separators false (codes ", ") (map dictionary_member_text ms))
    (flat_map (λ m. member_values m.1) ms) in
    ap (option_map (followed_by (text_only (front ++ m.0)))) (adds_member true (dictionary_members false) m.1
    (flat_map keyed_events ms) ∙ ap (option_map (followed_by (whole_member true m.1))) (adds_dictionary false ms))
    ∙ ap Some (one_more front m.0 (whole_member true m.1) (piece_of (dictionary_member_text m) (member_values m.1)) rest
    (keyed_piece m))

-- a field adds its canonical text and its values
pub adds_field : (kind : FieldKind) (raw : RawField kind)
    → added (beginning kind) (events kind raw) ≡ Some (piece_of (canonical kind raw) (bare_values kind raw))
adds_field item_field i = ap (added (beginning item_field)) (sym (append-nil (item_events i)))
    ∙ (adds_item false ended i [] ∙ ap Some (same_piece (append-nil (item_text i)) (append-nil (item_values i))))
adds_field list_field ms = adds_list true ms
    ∙ ap Some (same_piece (in_a_row_first (codes ", ") (map member_text ms)) refl)
adds_field dictionary_field ms = adds_dictionary true ms
    ∙ ap Some (same_piece (in_a_row_first (codes ", ") (map dictionary_member_text ms)) refl)
