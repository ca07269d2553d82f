-- Items, inner lists and members that are built, by their parts.
use Rattle.std.proofs.Common.{◌≡◌, ℕ, true, false, List, [], ◌∷◌, ◌++◌, map, None, Ok, Err, refl, sym, ap, ap₂, subst}
use Rattle.std.proofs.{Common.{◌∙◌, All, Result, bytes_eq}, lemmas.List.map-append}
use Rattle.indexmap.specs.IndexMap.{insert_entry}
use Rattle.sfv_spec.specs.Classes.{is_token_start}
use Rattle.sfv_spec.specs.Events.{TreeEvent, entry, begins_item, begins_inner_list, bare_item, keyed_entry}
use Rattle.sfv_spec.specs.Ordered.{collapse, ordered_item, ordered_member}
use Rattle.sfv_spec.specs.Values.{BareValue, boolean, RawParameters, RawItem, RawMember, item, inner_list}
use Rattle.sfv_spec.proofs.Marks.{equals_sign, left_parenthesis, true_with}
use Rattle.sfv_model.specs.Bare.{bare_at}
use Rattle.sfv_model.specs.Items.{key_at, parameter_event, parameter_at, parameters_at, item_at, item_of}
use Rattle.sfv_model.specs.Members.{inner_items_at, inner_at, inner_of, closed_events, member_at, member_value_at}
use Rattle.sfv_model.specs.{Members.{entry_at, keyed_at}, Reader.{Apart, Reader, led, give, ◌>>=◌, byte}}
use Rattle.sfv_model.proofs.{Types.ExpectedStartOfBareItem, complete.Combinators.{bind_complete, led_complete}}
use Rattle.sfv_model.proofs.sound.{Items.Consumes-parameter, Many.{starts, is_done}}
use Rattle.sfv_tree.specs.Seeds.{ItemHasSeed, MemberHasSeed, ListHasSeed}
use Rattle.sfv_tree.specs.Trees.{OwnedBareItem, pairs_tree, item_tree, member_tree, list_tree, dictionary_tree}
use Rattle.sfv_tree.proofs.{Entered.dictionary_tree-insert, Seeded.{all_push, all_entered}}
use Rattle.sfv.specs.{Types.{Version, Error, HashSeed, Item, ListEntry}, declared.parser.cursor.Cursor.Cursor}
use Rattle.sfv.specs.parser.{Cursor.{kept, version, rest, located, TakesIf}, Trees.{Builds, EntriesHaveSeed}}
use Rattle.sfv.proofs.reads.Errors.{fault_bind, kept_reads}
use Rattle.sfv.proofs.reads.Steps.{branch_true, branch_false, item_some, NoOpener, bare_token, token_none}
use Rattle.sfv.proofs.trees.Errors.{Any, Never, FailsWith, led_fails, fails_in}
use Rattle.sfv.proofs.visits.{InnerLists.{member_list, member_item}, Keyed.true_is}

-- no parameters
pub no_parameters : (version : Version) (t : List ℕ) → parameter_at version t ≡ Ok (None, t)
    → parameters_at version t ≡ Ok ([], t)
unfolding parameters_at
no_parameters version t e = is_done parameter_event (parameter_at version) (Consumes-parameter version) [] t t
    (parameters_at version t) e (starts parameter_event (parameters_at version t))

-- an event and then a part
pub led_builds : {X Y Z : Type 0} (view : X → Z) (collapsed : Y → Z) (e : TreeEvent) (f : Version → Reader Y)
    (before after : Cursor) (r : Result X Error) → Builds view collapsed before after r f
    → Builds view collapsed before after r (λ version. led (e ∷ []) (f version))
led_builds view collapsed e f before after (Ok x) h =
    (h.0, led_complete (e ∷ []) (f (version before)) (rest before) (rest after) h.0 h.1, h.2, h.3)
led_builds view collapsed e f before after (Err error) h = fails_in f (λ version. led (e ∷ []) (f version)) before
    before error refl (led_fails (e ∷ []) (f (version before)) (rest before)) h

abbrev pub with_parts : BareValue → RawParameters → RawItem
with_parts b ps = record { bare = b; parameters = ps }

-- the value of an item by its parts
pub item_parts : (b c : BareValue) (ps qs : RawParameters) → b ≡ c → ps ≡ collapse qs
    → with_parts b ps ≡ ordered_item (item_of c qs)
item_parts b c ps qs same all = ap₂ with_parts same all

abbrev pub list_with : List RawItem → RawParameters → RawMember
list_with is ps = inner_list (record { items = is; parameters = ps })

-- the value of an inner list by its parts
pub inner_list_parts : (is js : List RawItem) (ps qs : RawParameters) → is ≡ map ordered_item js → ps ≡ collapse qs
    → list_with is ps ≡ ordered_member (inner_of js qs)
inner_list_parts is js ps qs same all = ap₂ list_with same all

-- ---- readers, by their parts

pub inner_some : (version : Version) (t q r : List ℕ) (is : List RawItem) (ps : RawParameters)
    → inner_items_at version t ≡ Ok (is, q) → parameters_at version q ≡ Ok (ps, r)
    → inner_at version t ≡ Ok (inner_of is ps, r)
unfolding inner_at give
inner_some version t q r is ps e k =
    bind_complete (inner_items_at version) _ t q is e
    ∙ led_complete (closed_events is) (parameters_at version >>= λ ps. give (inner_of is ps)) q r (inner_of is ps)
    (bind_complete (parameters_at version) _ q r ps k)

pub member_list_some : (version : Version) (t q r : List ℕ) (m : RawMember)
    → TakesIf (byte left_parenthesis) true t q → inner_at version q ≡ Ok (m, r) → member_at version t ≡ Ok (m, r)
member_list_some version t q r m takes e =
    member_list Any Never version t q takes ∙ led_complete (begins_inner_list ∷ []) (inner_at version) q r m e

pub member_item_some : (version : Version) (t q r : List ℕ) (i : RawItem)
    → TakesIf (byte left_parenthesis) false t q → item_at version q ≡ Ok (i, r) → member_at version t ≡ Ok (item i, r)
unfolding give
member_item_some version t q r i takes e =
    member_item Any Never version t q takes
    ∙ led_complete (begins_item ∷ []) (item_at version >>= λ i. give (item i)) q r (item i)
    (bind_complete (item_at version) _ q r i e)

pub value_some : (version : Version) (t q r : List ℕ) (m : RawMember) → TakesIf (byte equals_sign) true t q
    → member_at version q ≡ Ok (m, r) → member_value_at version t ≡ Ok (m, r)
unfolding member_value_at
value_some version t q r m takes e = branch_true (byte equals_sign) _ _ t q takes ∙ e

pub true_some : (version : Version) (t q r : List ℕ) (ps : RawParameters) → TakesIf (byte equals_sign) false t q
    → parameters_at version q ≡ Ok (ps, r) → member_value_at version t ≡ Ok (true_with ps, r)
unfolding give
true_some version t q r ps takes e =
    true_is Any Never version t q takes
    ∙ bind_complete _ _ q r ps (led_complete (begins_item ∷ []) _ q r ps
    (led_complete (bare_item (boolean true) ∷ []) (parameters_at version) q r ps e))

pub keyed_some : (version : Version) (t q r key : List ℕ) (m : RawMember) → key_at t ≡ Ok (key, q)
    → member_value_at version q ≡ Ok (m, r) → keyed_at version t ≡ Ok ((key, m), r)
unfolding keyed_at give
keyed_some version t q r key m e k =
    bind_complete key_at _ t q key e
    ∙ led_complete (keyed_entry key ∷ []) (member_value_at version >>= λ m. give (key, m)) q r (key, m)
    (bind_complete (member_value_at version) _ q r m k)

-- ---- errors of readers, by their parts

module _ (version : Version) where
  pub bare_fails : (t : List ℕ) → FailsWith (bare_at version t) (item_at version t)
  unfolding item_at
  bare_fails t = fault_bind (bare_at version) _ t

  -- no byte is next that a bare item begins with
  pub bare_none : (t : List ℕ) → NoOpener t → Apart is_token_start t
      → located (bare_at version t) ≡ Err (ExpectedStartOfBareItem, t)
  bare_none t opener token = ap located (bare_token version t opener) ∙ token_none t token

  pub later_fails : (t q : List ℕ) (b : BareValue) → bare_at version t ≡ Ok (b, q)
      → FailsWith (parameters_at version q) (item_at version t)
  unfolding item_at
  later_fails t q b read k r h = ap located (bind_complete (bare_at version) _ t q b read)
      ∙ led_fails (bare_item b ∷ []) _ q k r (fault_bind (parameters_at version) _ q k r h)

  pub items_fail : (t : List ℕ) → FailsWith (inner_items_at version t) (inner_at version t)
  unfolding inner_at
  items_fail t = fault_bind (inner_items_at version) _ t

  pub closed_fails : (t q : List ℕ) (is : List RawItem) → inner_items_at version t ≡ Ok (is, q)
      → FailsWith (parameters_at version q) (inner_at version t)
  unfolding inner_at
  closed_fails t q is read k r h = ap located (bind_complete (inner_items_at version) _ t q is read)
      ∙ led_fails (closed_events is) _ q k r (fault_bind (parameters_at version) _ q k r h)

  pub list_fails : (t q : List ℕ) → TakesIf (byte left_parenthesis) true t q
      → FailsWith (inner_at version q) (member_at version t)
  list_fails t q takes k r h = ap located (member_list Any Never version t q takes)
      ∙ led_fails (begins_inner_list ∷ []) (inner_at version) q k r h

  pub item_fails : (t q : List ℕ) → TakesIf (byte left_parenthesis) false t q
      → FailsWith (item_at version q) (member_at version t)
  item_fails t q takes k r h = ap located (member_item Any Never version t q takes)
      ∙ led_fails (begins_item ∷ []) _ q k r (fault_bind (item_at version) _ q k r h)

  -- a list member that begins as no bare item does
  pub entry_fails : (t : List ℕ) → Apart (byte left_parenthesis) t → FailsWith (bare_at version t) (entry_at version t)
  unfolding entry_at
  entry_fails t apart k r h = led_fails (entry ∷ []) (member_at version) t k r
      (item_fails t t (refl, apart) k r (bare_fails t k r h))

  pub value_fails : (t q : List ℕ) → TakesIf (byte equals_sign) true t q
      → FailsWith (member_at version q) (member_value_at version t)
  unfolding member_value_at
  value_fails t q takes k r h = ap located (branch_true (byte equals_sign) _ _ t q takes) ∙ h

  pub true_fails : (t q : List ℕ) → TakesIf (byte equals_sign) false t q
      → FailsWith (parameters_at version q) (member_value_at version t)
  unfolding member_value_at
  true_fails t q takes k r h = ap located (branch_false (byte equals_sign) _ _ t q takes)
      ∙ led_fails _ _ q k r (fault_bind (parameters_at version) _ q k r h)

  pub key_fails : (t : List ℕ) → FailsWith (key_at t) (keyed_at version t)
  unfolding keyed_at
  key_fails t = fault_bind key_at _ t

  pub keyed_fails : (t q key : List ℕ) → key_at t ≡ Ok (key, q)
      → FailsWith (member_value_at version q) (keyed_at version t)
  unfolding keyed_at
  keyed_fails t q key read k r h = ap located (bind_complete key_at _ t q key read)
      ∙ led_fails (keyed_entry key ∷ []) _ q k r (fault_bind (member_value_at version) _ q k r h)

-- after an equals sign
pub value_builds : (before middle after : Cursor) (r : Result ListEntry Error)
    → TakesIf (byte equals_sign) true (rest before) (rest middle) → kept middle ≡ kept before
    → Builds member_tree ordered_member middle after r member_at
    → Builds member_tree ordered_member before after r member_value_at
value_builds before middle after (Ok m) takes same h = (
  h.0,
  value_some (version before) (rest before) (rest middle) (rest after) h.0 takes
      (kept_reads member_at (rest middle) (kept middle) (kept before) same ∙ h.1),
  h.2,
  h.3 ∙ same,
)
value_builds before middle after (Err e) takes same h = fails_in member_at member_value_at before middle e same
    (value_fails (version before) (rest before) (rest middle) takes) h

-- ---- items, by their bare items and parameters

pub item_builds : (before between after : Cursor) (value : BareValue) (entries : List (List ℕ × OwnedBareItem))
    (raw : BareValue) → bare_at (version before) (rest before) ≡ Ok (raw, rest between) → value ≡ raw
    → kept between ≡ kept before
    → Builds (λ (u : Unit {0}). pairs_tree entries) collapse between after (Ok tt) parameters_at
    → Builds (λ (u : Unit {0}). with_parts value (pairs_tree entries)) ordered_item before after (Ok tt) item_at
item_builds before between after value entries raw read is same h = (
  item_of raw h.0,
  item_some (version before) (rest before) (rest between) (rest after) raw h.0 read
      (kept_reads parameters_at (rest between) (kept between) (kept before) same ∙ h.1),
  item_parts value raw (pairs_tree entries) h.0 is h.2,
  h.3 ∙ same,
)

-- ---- items of an inner list

pub pushed_item : (old middle new : List Item) (i : Item) (raw : RawItem) → middle ≡ old → new ≡ middle ++ i ∷ []
    → item_tree i ≡ ordered_item raw → map item_tree new ≡ map item_tree old ++ ordered_item raw ∷ []
pushed_item old middle new i raw same add built =
    ap (map item_tree) (add ∙ ap (λ (is : List Item). is ++ i ∷ []) same) ∙ map-append item_tree old (i ∷ [])
    ∙ ap (λ (r : RawItem). map item_tree old ++ r ∷ []) built

pub pushed_item_seed : (seed : HashSeed) (old middle new : List Item) (i : Item) → middle ≡ old
    → new ≡ middle ++ i ∷ [] → ItemHasSeed seed i → All (ItemHasSeed seed) old → All (ItemHasSeed seed) new
pushed_item_seed seed old middle new i same add one h =
    subst (All (ItemHasSeed seed)) (sym (add ∙ ap (λ (is : List Item). is ++ i ∷ []) same))
    (all_push (ItemHasSeed seed) old i one h)

-- ---- members of a list

pub pushed_tree : (old middle new : List ListEntry) (m : ListEntry) (raw : RawMember) → middle ≡ old
    → new ≡ middle ++ m ∷ [] → member_tree m ≡ ordered_member raw
    → list_tree new ≡ list_tree old ++ ordered_member raw ∷ []
pushed_tree old middle new m raw same add built =
    ap list_tree (add ∙ ap (λ (ms : List ListEntry). ms ++ m ∷ []) same) ∙ map-append member_tree old (m ∷ [])
    ∙ ap (λ (r : RawMember). list_tree old ++ r ∷ []) built

pub pushed_seed : (seed : HashSeed) (old middle new : List ListEntry) (m : ListEntry) → middle ≡ old
    → new ≡ middle ++ m ∷ [] → MemberHasSeed seed m → ListHasSeed seed old → ListHasSeed seed new
pushed_seed seed old middle new m same add one h =
    subst (ListHasSeed seed) (sym (add ∙ ap (λ (ms : List ListEntry). ms ++ m ∷ []) same))
    (all_push (MemberHasSeed seed) old m one h)

-- ---- members of a dictionary

pub entered_tree : (old new : List (List ℕ × ListEntry)) (key : List ℕ) (m : ListEntry) (raw : RawMember)
    (name : List ℕ) → new ≡ insert_entry bytes_eq old key m → key ≡ name → member_tree m ≡ ordered_member raw
    → dictionary_tree new ≡ insert_entry bytes_eq (dictionary_tree old) name (ordered_member raw)
entered_tree old new key m raw name add same built =
    ap dictionary_tree add ∙ dictionary_tree-insert old key m
    ∙ ap₂ (λ (k : List ℕ) (r : RawMember). insert_entry bytes_eq (dictionary_tree old) k r) same built

pub entered_seed : (seed : HashSeed) (old new : List (List ℕ × ListEntry)) (key : List ℕ) (m : ListEntry)
    → new ≡ insert_entry bytes_eq old key m → MemberHasSeed seed m → EntriesHaveSeed seed old
    → EntriesHaveSeed seed new
entered_seed seed old new key m add one h =
    subst (EntriesHaveSeed seed) (sym add) (all_entered bytes_eq
    (λ (p : List ℕ × ListEntry). MemberHasSeed seed p.1) old key m (λ k. one) h)
