-- The steps of the visitors, in terms of the definitions of a reader.
use Rattle.std.specs.Prelude.{◌≡◌, ⊤, ℕ, List, [], ◌∷◌, ◌++◌, Some, None, MatchOption}
use Rattle.sfv_spec.specs.Values.{BareValue, RawItem, RawParameters, RawMember}
use Rattle.sfv_spec.specs.Events.{TreeEvent, entry, keyed_entry, begins_item, begins_inner_list, bare_item, parameter}
use Rattle.sfv_spec.specs.Events.{parameters_end, inner_list_end}
use Rattle.sfv_readers.specs.Words.{Head, of_item, of_inner_list, member_of, head_of, parameters_of, raw_item, put}
use Rattle.sfv_readers.specs.Words.{IsKeyFor}
use Rattle.sfv_readers.specs.declared.list.ListVisitor.{ListVisitor}
use Rattle.sfv_readers.specs.declared.dictionary.DictionaryVisitor.{DictionaryVisitor}

module _ {R M I : Type 0} (inner : I → List RawItem → Type 0) (keeps : R → M → Head → RawParameters → Type 0)
    (reads : R → R → List RawMember → Type 0) where
  -- the visitor keeps the state of a member with this head and these parameters
  abbrev pub Keeps : ListVisitor R M I → Head → RawParameters → Type 0
  Keeps s head ps = (m : M) × (s.member ≡ Some m) × keeps s.reader m head ps

  -- within an inner list, after these items
  abbrev pub Within : ListVisitor R M I → List RawItem → Type 0
  Within s xs = (i : I) × (s.items ≡ Some i) × inner i xs

  -- A bare item: within an inner list, it is one more item without parameters. Otherwise it is the head of the member.
  abbrev pub TakesBareItem : ListVisitor R M I → BareValue → ListVisitor R M I → Type 0
  TakesBareItem s b after = (after.reader ≡ s.reader) × MatchOption s.items
      ((after.items ≡ None) × Keeps after (of_item b) [])
      (λ i. (xs : List RawItem) → inner i xs → Within after (xs ++ raw_item b [] ∷ []))

  -- A parameter: within an inner list, it is one more parameter of the last item. Otherwise it is one of the member.
  abbrev pub TakesParameter : ListVisitor R M I → List ℕ → BareValue → ListVisitor R M I → Type 0
  TakesParameter s k v after = (after.reader ≡ s.reader) × MatchOption s.items
      ((after.items ≡ None) × ((head : Head) (ps : RawParameters) → Keeps s head ps → Keeps after head (put ps k v)))
      (λ i. (xs : List RawItem) (b : BareValue) (ps : RawParameters) → inner i (xs ++ raw_item b ps ∷ [])
      → Within after (xs ++ raw_item b (put ps k v) ∷ []))

  -- The end of parameters: within an inner list, it changes nothing. Otherwise the member is complete, and goes to the
  -- reader.
  abbrev pub TakesEnd : ListVisitor R M I → ListVisitor R M I → Type 0
  TakesEnd s after = MatchOption s.items
      ((after.items ≡ None) × ((start : R) (m : RawMember) (ms : List RawMember)
      → Keeps s (head_of m) (parameters_of m) → reads start s.reader ms → reads start after.reader (ms ++ m ∷ [])))
      (λ i. after ≡ s)

  -- the end of the items of an inner list, which are now the head of the member
  abbrev pub TakesItemsEnd : ListVisitor R M I → ListVisitor R M I → Type 0
  TakesItemsEnd s after = MatchOption s.items ⊤ (λ i. (after.reader ≡ s.reader) × (after.items ≡ None)
      × ((xs : List RawItem) → inner i xs → Keeps after (of_inner_list xs) []))

  -- the step of the visitor of a list at each event; the start of a member or of an item changes nothing
  abbrev pub ListTakes : ListVisitor R M I → TreeEvent → ListVisitor R M I → Type 0
  ListTakes s begins_inner_list after = (after.reader ≡ s.reader) × Within after []
  ListTakes s (bare_item b) after = TakesBareItem s b after
  ListTakes s (parameter k v) after = TakesParameter s k v after
  ListTakes s parameters_end after = TakesEnd s after
  ListTakes s inner_list_end after = TakesItemsEnd s after
  ListTakes s entry after = after ≡ s
  ListTakes s (keyed_entry k) after = after ≡ s
  ListTakes s begins_item after = after ≡ s

module _ {R K I : Type 0} (inner : I → List RawItem → Type 0) (text : R → K → List ℕ)
    (reads : R → R → List (List ℕ × RawMember) → Type 0) where
  -- within an inner list whose key matters, after these items
  abbrev pub WithinKey : DictionaryVisitor R K I → List RawItem → Type 0
  WithinKey s xs = (i : I) × (s.items ≡ Some i) × inner i xs

  -- the reader and the keys are unchanged
  abbrev pub Passes : DictionaryVisitor R K I → DictionaryVisitor R K I → Type 0
  Passes s after = (after.reader ≡ s.reader) × (after.key ≡ None) × (after.outer ≡ s.outer)

  -- the start of a member: the visitor keeps its key, or the member is ignored
  abbrev pub TakesKey : DictionaryVisitor R K I → List ℕ → DictionaryVisitor R K I → Type 0
  TakesKey s k after = (after.reader ≡ s.reader) × IsKeyFor reads text s.reader k after.key

  -- the start of an inner list: the visitor has no item yet, if the key matters
  abbrev pub TakesItems : DictionaryVisitor R K I → DictionaryVisitor R K I → Type 0
  TakesItems s after = (after.reader ≡ s.reader) × (after.key ≡ None) × (after.outer ≡ s.key)
      × MatchOption s.key ⊤ (λ key. WithinKey after [])

  -- A bare item: if its key matters, the member with this key is now the item without parameters. Within an inner list,
  -- it is one more item.
  abbrev pub TakesBare : DictionaryVisitor R K I → BareValue → DictionaryVisitor R K I → Type 0
  TakesBare s b after = MatchOption s.key
      (Passes s after × MatchOption s.items ⊤ (λ i. (xs : List RawItem) → inner i xs
      → WithinKey after (xs ++ raw_item b [] ∷ [])))
      (λ key. (after.key ≡ s.key) × ((start : R) (ms : List (List ℕ × RawMember)) → reads start s.reader ms
      → reads start after.reader (put ms (text start key) (member_of (of_item b) []))))

  -- A parameter: if its key matters, the member has one more. Within an inner list, its last item has one more.
  abbrev pub TakesParam : DictionaryVisitor R K I → List ℕ → BareValue → DictionaryVisitor R K I → Type 0
  TakesParam s k v after = MatchOption s.key
      (Passes s after × MatchOption s.items ⊤ (λ i. (xs : List RawItem) (b : BareValue) (ps : RawParameters)
      → inner i (xs ++ raw_item b ps ∷ []) → WithinKey after (xs ++ raw_item b (put ps k v) ∷ [])))
      (λ key. (after.key ≡ s.key) × ((start : R) (ms : List (List ℕ × RawMember)) (head : Head) (ps : RawParameters)
      → reads start s.reader (put ms (text start key) (member_of head ps))
      → reads start after.reader (put ms (text start key) (member_of head (put ps k v)))))

  -- the end of the items of an inner list: if its key matters, the member is now the inner list without parameters
  abbrev pub TakesEndOfItems : DictionaryVisitor R K I → DictionaryVisitor R K I → Type 0
  TakesEndOfItems s after = (after.key ≡ s.outer) × MatchOption s.outer (after.reader ≡ s.reader) (λ key.
      MatchOption s.items ⊤ (λ i. (start : R) (ms : List (List ℕ × RawMember)) (xs : List RawItem) → inner i xs
      → reads start s.reader ms → reads start after.reader (put ms (text start key) (member_of (of_inner_list xs) []))))

  -- the step of the visitor of a dictionary at each event; the end of parameters changes nothing
  abbrev pub DictionaryTakes : DictionaryVisitor R K I → TreeEvent → DictionaryVisitor R K I → Type 0
  DictionaryTakes s (keyed_entry k) after = TakesKey s k after
  DictionaryTakes s begins_inner_list after = TakesItems s after
  DictionaryTakes s (bare_item b) after = TakesBare s b after
  DictionaryTakes s (parameter k v) after = TakesParam s k v after
  DictionaryTakes s inner_list_end after = TakesEndOfItems s after
  DictionaryTakes s entry after = after ≡ s
  DictionaryTakes s begins_item after = after ≡ s
  DictionaryTakes s parameters_end after = after ≡ s
