-- Parts that an iterator gave, and whose text is appended.
use Rattle.std.proofs.Common.{◌≡◌, ◌≤◌, ℕ, Bool, false, List, [], ◌∷◌, ◌++◌, string_bytes, string_capacity, refl, sym}
use Rattle.std.proofs.Common.{ap, subst, ◌∙◌, arith, inl, inr, Result, Option, Some, None, IfErr, IsErrAnd, flat_map}
use Rattle.std.proofs.Common.{append-nil, length-append}
use Rattle.std.{specs.Iterator.{Yields, Drains}, specs.declared.string.String.String, proofs.iter.Next.Yields-more}
use Rattle.sfv_spec.specs.{Values.AllFit, declared.version.Version.Version}
use Rattle.sfv_writer.specs.Versions.{PartKind, parts_text, StopsEarly, LacksForParts, IsSerializeError}
use Rattle.sfv_writer.specs.{Versions.NamesFirstUnfit, Written.{Extends, LacksRoom, separator_before}}
use Rattle.sfv_writer.specs.declared.serialize_error.SerializeError.{SerializeError}
use Rattle.sfv_writer.proofs.{Appended.{next, grows}, Checks.{at_exit, each_more, each_stops}}
use Rattle.sfv_writer.proofs.{Room.{room_after, room_before}, Separated.{IsLed, in_a_row_more, in_a_row_push}}
use Rattle.sfv_writer.specs.declared.serialize_error.SerializeError.TheVariants as errors

module _ {A S Z : Type 0} (kind : PartKind A) (gives : S → Option A → S → Type 0) (from : S) (separator : List ℕ)
    (was_first : Bool) (old : String Z) where
  -- The iterator gave these parts and is at `here`. Each is valid, and their text is appended.
  pub record HasTaken (here : S) (is_first : Bool) (output : String Z) : Type 0 where
    pub taken : List A
    pub yielded : Yields gives from taken here
    pub led : IsLed kind.text kind.is_valid separator taken was_first is_first (string_bytes old) (string_bytes output)
    pub grown : string_capacity old ≤ string_capacity output

  -- it gave none yet
  abbrev pub none_taken : (here : S) → here ≡ from → HasTaken here was_first old
  none_taken here start = record {
    taken = [];
    yielded = sym start;
    led = record { first = refl; text = sym (append-nil (string_bytes old)); good = tt };
    grown = omega arith;
  }

module _ {A S Z : Type 0} {kind : PartKind A} {gives : S → Option A → S → Type 0} {from : S} {separator : List ℕ}
    {was_first : Bool} {old : String Z} {here : S} {is_first : Bool} {output : String Z}
    (so_far : HasTaken kind gives from separator was_first old here is_first output) where
  -- it gave all
  pub drained : (end : S) → gives here None end → Drains gives from so_far.taken
  drained end step = (end, (here, so_far.yielded, step))

  -- the old text is a prefix
  pub extended : Extends (string_bytes old) (string_bytes output)
  extended = (_, so_far.led.text)

-- It gives one more. The separator before it is written to `ready`.
module _ {A S Z : Type 0} {kind : PartKind A} {gives : S → Option A → S → Type 0} {from : S} {separator : List ℕ}
    {was_first : Bool} {old : String Z} {here there : S} {is_first : Bool} {output : String Z} (x : A)
    (so_far : HasTaken kind gives from separator was_first old here is_first output) (step : gives here (Some x) there) where
  with_one_more : parts_text kind separator was_first (so_far.taken ++ x ∷ [])
      ≡ (parts_text kind separator was_first so_far.taken ++ separator_before is_first separator) ++ kind.text x
  with_one_more = in_a_row_push kind.text separator was_first so_far.taken x
      ∙ ap (λ (b : Bool). (parts_text kind separator was_first so_far.taken ++ separator_before b separator) ++ kind.text x)
      (sym so_far.led.first)

  -- a text after the parts so far is one after the old text
  pub grown_from : (new : List ℕ) → Extends (string_bytes output) new → Extends (string_bytes old) new
  grown_from new h = grows _ _ _ new so_far.led.text h

  -- there is no room for the separator
  pub lacks_separator : LacksRoom output (separator_before is_first separator)
      → LacksRoom old (parts_text kind separator was_first (so_far.taken ++ x ∷ []))
  lacks_separator h =
      let front : List ℕ = parts_text kind separator was_first so_far.taken in
      let between : List ℕ = separator_before is_first separator in
      subst (λ (l : List ℕ). LacksRoom old l) (sym with_one_more) (room_before old (front ++ between) (kind.text x)
      (room_after old output front between so_far.led.text so_far.grown h))

  -- a call that returns an error here fails for the parts up to this one
  stops : (version : Version) (e : SerializeError)
      → IsSerializeError version (flat_map kind.values (so_far.taken ++ x ∷ [])) e
      → (e ≡ errors.OutOfMemory → LacksRoom old (parts_text kind separator was_first (so_far.taken ++ x ∷ [])))
      → StopsEarly kind version gives from separator old was_first e
  stops version e cause room = record {
    taken = so_far.taken ++ x ∷ [];
    rest = there;
    yielded = Yields-more gives from so_far.taken here x there so_far.yielded step;
    some = omega (arith, length-append so_far.taken (x ∷ []));
    cause = cause;
    room = room;
  }

  module _ {T : Type 0} (version : Version) (r : Result T SerializeError)
      (fit : AllFit version (flat_map kind.values so_far.taken)) where
    -- the version lacks a value of this part
    pub stops_unfit : (e : SerializeError) → IsErrAnd r (λ y. y ≡ e) → NamesFirstUnfit version (kind.values x) e
        → IfErr r (StopsEarly kind version gives from separator old was_first)
    stops_unfit e exit names = at_exit r e _ _ exit (stops version e
        (inr (each_stops version kind.values so_far.taken x [] e fit names)) (λ is. absurd (let named = names.2 in cc)))

    -- memory runs out at this part
    pub stops_full : IsErrAnd r (λ y. y ≡ errors.OutOfMemory) → AllFit version (kind.values x)
        → LacksRoom old (parts_text kind separator was_first (so_far.taken ++ x ∷ []))
        → IfErr r (StopsEarly kind version gives from separator old was_first)
    stops_full exit last lacks = at_exit r errors.OutOfMemory _ _ exit (stops version errors.OutOfMemory
        (inl (refl, each_more version kind.values so_far.taken x fit last)) (λ _. lacks))

  -- the same without a version
  pub lacks_more : LacksRoom old (parts_text kind separator was_first (so_far.taken ++ x ∷ []))
      → LacksForParts kind gives from separator was_first old
  lacks_more h =
      (so_far.taken ++ x ∷ [], there, Yields-more gives from so_far.taken here x there so_far.yielded step, h)

  module _ (ready : String Z) (parted : string_bytes ready ≡ string_bytes output ++ separator_before is_first separator)
      (room : string_capacity output ≤ string_capacity ready) where
    so_far_parted : string_bytes ready
        ≡ string_bytes old ++ (parts_text kind separator was_first so_far.taken ++ separator_before is_first separator)
    so_far_parted = next _ (parts_text kind separator was_first so_far.taken) _ _ _ so_far.led.text parted

    -- there is no room for the part
    pub lacks_part : LacksRoom ready (kind.text x)
        → LacksRoom old (parts_text kind separator was_first (so_far.taken ++ x ∷ []))
    lacks_part h =
        let front : List ℕ = parts_text kind separator was_first so_far.taken in
        subst (λ (l : List ℕ). LacksRoom old l) (sym with_one_more) (room_after old ready (front
        ++ separator_before is_first separator) (kind.text x) so_far_parted (omega (arith, so_far.grown, room)) h)

    -- a text after the separator is one after the old text
    pub grown_parted : (new : List ℕ) → Extends (string_bytes ready) new → Extends (string_bytes old) new
    grown_parted new h = grows _ _ _ new so_far_parted h

    -- the part is written
    abbrev pub one_taken : (new : String Z) → string_bytes new ≡ string_bytes ready ++ kind.text x
        → string_capacity ready ≤ string_capacity new → kind.is_valid x
        → HasTaken kind gives from separator was_first old there false new
    one_taken new written more good = record {
      taken = so_far.taken ++ x ∷ [];
      yielded = Yields-more gives from so_far.taken here x there so_far.yielded step;
      led = in_a_row_more kind.text kind.is_valid separator so_far.taken was_first is_first false (string_bytes old)
          (string_bytes output) (string_bytes ready) (string_bytes new) x so_far.led refl parted written good;
      grown = omega (arith, so_far.grown, room, more);
    }
