-- Readers: parsers over lists. A reader returns a value and the rest, or a fault.
use Rattle.std.specs.Prelude.{◌≡◌, ℕ, zero, suc, Bool, true, false, List, [], ◌∷◌, ◌++◌, length, Option, Some, None}
use Rattle.std.specs.Prelude.{Result, Ok, Err, if◌then◌else◌, ◌==◌}
use Rattle.sfv_spec.specs.Events.{TreeEvent}
use Rattle.sfv_spec.specs.declared.error_kind.ErrorKind.{ErrorKind}
use Rattle.sfv_spec.specs.declared.error_kind.ErrorKind.TheVariants.{TrailingComma, TrailingDecimalPoint}
use Rattle.sfv_spec.specs.declared.error_kind.ErrorKind.TheVariants.{NonIntegerDate, TooManyDigitsAfterDecimalPoint}
use Rattle.sfv_spec.specs.declared.error_kind.ErrorKind.TheVariants.{UnterminatedByteSequence, InvalidByteSequence}
use Rattle.sfv_spec.specs.declared.error_kind.ErrorKind.TheVariants.{UnterminatedDisplayString}
use Rattle.sfv_spec.specs.declared.error_kind.ErrorKind.TheVariants.{UnterminatedEscapeSequence, InvalidEscapeSequence}
use Rattle.sfv_spec.specs.declared.error_kind.ErrorKind.TheVariants.{InvalidDisplayStringCharacter}
use Rattle.sfv_spec.specs.declared.error_kind.ErrorKind.TheVariants.{InvalidUtf8InDisplayString}

-- the kinds of fault with their own rule for the index
abbrev pub has_rule : ErrorKind → Bool
has_rule TrailingComma = true
has_rule TrailingDecimalPoint = true
has_rule NonIntegerDate = true
has_rule TooManyDigitsAfterDecimalPoint = true
has_rule UnterminatedByteSequence = true
has_rule InvalidByteSequence = true
has_rule UnterminatedDisplayString = true
has_rule UnterminatedEscapeSequence = true
has_rule InvalidEscapeSequence = true
has_rule InvalidDisplayStringCharacter = true
has_rule InvalidUtf8InDisplayString = true
has_rule _ = false

-- The first fault of a text. `rest` is the text from the fault on, and `events` are the events before it. For an exact
-- fault, the text before `rest` is a prefix of a text of the grammar, and no longer prefix is.
pub record Fault : Type 0 where
  pub kind : ErrorKind
  pub exact : Bool
  pub rest : List ℕ
  pub events : List TreeEvent

-- a fault without events
abbrev pub placed : Bool → ErrorKind → List ℕ → Fault
placed exact k t = record { kind = k; exact = exact; rest = t; events = [] }

-- a fault at the reach
abbrev pub at_reach : ErrorKind → List ℕ → Fault
at_reach k t = placed true k t

-- a fault whose index has its own rule
abbrev pub by_rule : ErrorKind → List ℕ → Fault
by_rule k t = placed false k t

-- the result of a reader: a value and the rest of the text, or a fault
abbrev pub Answer : Type 0 → Type 0
Answer A = Result (A × List ℕ) Fault

-- a parser over lists
abbrev pub Reader : Type 0 → Type 0
Reader A = List ℕ → Answer A

-- the fault with these events before its events
abbrev pub after_events : List TreeEvent → Fault → Fault
after_events es e = record { kind = e.kind; exact = e.exact; rest = e.rest; events = es ++ e.events }

-- returns the value, and consumes nothing
unfoldable pub give : {A : Type 0} → A → Reader A
give v t = Ok (v, t)

-- fails here, at the reach
unfoldable pub fail : {A : Type 0} → ErrorKind → Reader A
fail k t = Err (at_reach k t)

-- fails here, where a rule has its own index
unfoldable pub ruled : {A : Type 0} → ErrorKind → Reader A
ruled k t = Err (by_rule k t)

-- continues after a success, and keeps a fault
abbrev pub and_then : {A B : Type 0} → Answer A → (A → Reader B) → Answer B
and_then (Ok x) g = g x.0 x.1
and_then (Err e) g = Err e

-- one reader after another
unfoldable pub bind : {A B : Type 0} → Reader A → (A → Reader B) → Reader B
bind f g t = and_then (f t) g

infixl 10 ◌>>=◌
abbrev pub ◌>>=◌ : {A B : Type 0} → Reader A → (A → Reader B) → Reader B
f >>= g = bind f g

-- the result with these events before the events of its fault
abbrev pub led_answer : {A : Type 0} → List TreeEvent → Answer A → Answer A
led_answer es (Ok x) = Ok x
led_answer es (Err e) = Err (after_events es e)

-- emits these events, and continues
unfoldable pub led : {A : Type 0} → List TreeEvent → Reader A → Reader A
led es f t = led_answer es (f t)

-- consumes a byte of the class, or continues without it
unfoldable pub branch : {A : Type 0} → (ℕ → Bool) → (ℕ → Reader A) → Reader A → Reader A
branch class taken other [] = other []
branch class taken other (c ∷ r) = if class c then taken c r else other (c ∷ r)

-- chooses by the next byte, and does not consume it
unfoldable pub ahead : {A : Type 0} → (ℕ → Bool) → Reader A → Reader A → Reader A
ahead class taken other [] = other []
ahead class taken other (c ∷ r) = if class c then taken (c ∷ r) else other (c ∷ r)

-- turns `None` into a fault at the start of `t`
abbrev pub at_start : {A : Type 0} → ErrorKind → List ℕ → Answer (Option A) → Answer A
at_start k t (Ok (Some v, r)) = Ok (v, r)
at_start k t (Ok (None, r)) = Err (record { kind = k; exact = false; rest = t; events = [] })
at_start k t (Err e) = Err e

-- fails at the start, by a rule, if `f` returns `None`
unfoldable pub back : {A : Type 0} → ErrorKind → Reader (Option A) → Reader A
back k f t = at_start k t (f t)

-- consumes at most this many bytes of the class
unfoldable pub up_to : (ℕ → Bool) → ℕ → Reader (List ℕ)
up_to class zero = give []
up_to class (suc n) = branch class (λ c. up_to class n >>= λ cs. give (c ∷ cs)) (give [])

-- consumes the longest run of bytes of the class
unfoldable pub span : (ℕ → Bool) → Reader (List ℕ)
span class [] = Ok ([], [])
span class (c ∷ r) = if class c then and_then (span class r) (λ cs. give (c ∷ cs)) else Ok ([], c ∷ r)

-- after a step: the rest of the list, or its end
abbrev pub go_on : {A : Type 0} → (A → List TreeEvent) → Reader (List A) → Option A → Reader (List A)
go_on parts more None = give []
go_on parts more (Some a) = led (parts a) (more >>= λ vs. give (a ∷ vs))

-- at most this many steps; the fault at zero never occurs, because `many` allows enough steps
unfoldable pub many_within : {A : Type 0} → (A → List TreeEvent) → ℕ → Reader (Option A) → Reader (List A)
many_within parts zero step = ruled UnterminatedByteSequence
many_within parts (suc n) step = step >>= go_on parts (many_within parts n step)

-- repeats a step until it returns `None`; each step consumes a byte, and emits the events of its value
unfoldable pub many : {A : Type 0} → (A → List TreeEvent) → Reader (Option A) → Reader (List A)
many parts step t = many_within parts (suc (length t)) step t

-- one value, and the values of the steps after it
abbrev pub one_and_more : {A : Type 0} → (A → List TreeEvent) → Reader A → Reader (Option A) → Reader (List A)
one_and_more parts one next = one >>= λ v. led (parts v) (many parts next >>= λ vs. give (v ∷ vs))

-- the class of one byte
abbrev pub byte : ℕ → ℕ → Bool
byte c b = b == c

-- the class of all bytes
abbrev pub any : ℕ → Bool
any _ = true

-- the events of a result
abbrev pub visited : {A : Type 0} → (A → List TreeEvent) → Answer A → List TreeEvent
visited parts (Ok x) = parts x.0
visited parts (Err e) = e.events

-- the next byte
abbrev pub first : List ℕ → Option ℕ
first [] = None
first (c ∷ r) = Some c

-- the next byte is not of the class, or there is none
pub record Apart (class : ℕ → Bool) (t : List ℕ) : Type 0 where
  pub apart : (c : ℕ) → first t ≡ Some c → class c ≡ false
