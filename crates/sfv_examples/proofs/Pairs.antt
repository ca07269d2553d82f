-- Where one of two values isn't written.
use Rattle.std.proofs.{Common.{◌≡◌, [], ◌∷◌, inl, inr, Result, IfErr, IsErrAnd}, lemmas.Result.err_from_is_err_and}
use Rattle.sfv.specs.{Types.{Version, SerializeError}, Values.{BareValue, AllFit}, Versions.IsSerializeError}
use Rattle.sfv.proofs.Callers.{names_front, names_after}
use Rattle.sfv_examples.specs.Pairs.{IsPairError}

-- where the first or the second of two values isn't written, and a `?` returns the error
module _ {T : Type 0} (version : Version) (a b : BareValue) (e : SerializeError) (r : Result T SerializeError)
    (exit : IsErrAnd r (λ y. y ≡ e)) where
  at_exit : IsPairError version a b e → IfErr r (IsPairError version a b)
  at_exit h = let p = err_from_is_err_and r exit in rw (p.1, p.2) h

  pub first_unwritten : IsSerializeError version (a ∷ []) e → IfErr r (IsPairError version a b)
  first_unwritten (inl h) = at_exit (inl h)
  first_unwritten (inr h) = at_exit (inr (names_front version (a ∷ []) (b ∷ []) e h))

  pub second_unwritten : AllFit version (a ∷ []) → IsSerializeError version (b ∷ []) e
      → IfErr r (IsPairError version a b)
  second_unwritten fit (inl h) = at_exit (inl (h.0, fit))
  second_unwritten fit (inr h) = at_exit (inr (names_after version (a ∷ []) (b ∷ []) e fit h))
