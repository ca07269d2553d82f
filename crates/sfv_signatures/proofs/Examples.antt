-- What the definitions say of one message.
use Rattle.std.{proofs.Common.{◌≡◌, ℕ, List, [], ◌∷◌, ◌++◌, refl, pos, codes, lit<}, specs.Fmt.digits}
use Rattle.sfv.specs.{Ordered.{last_of, collapse}, Values.{RawItem, RawInnerList, integer, string}}
use Rattle.sfv_signatures.specs.SignatureBase.{base_text, AreComponents}

-- a name without parameters
abbrev named : List ℕ → RawItem
named name = record { bare = string name; parameters = [] }

-- the identifiers of the example in RFC 9421, section 2.5
example : RawInnerList
example = record {
  items = named (codes "@method") ∷ named (codes "@authority") ∷ named (codes "@path")
      ∷ named (codes "content-digest") ∷ named (codes "content-length") ∷ named (codes "content-type") ∷ [];
  parameters = (codes "created", integer (pos 1618884473)) ∷ (codes "keyid", string (codes "test-key-rsa-pss")) ∷ [];
}

-- the values of its message
values : List (List ℕ)
values = codes "POST" ∷ codes "example.com" ∷ codes "/foo"
    ∷ codes "sha-512=:WZDPaVn/7XgHaAy8pmojAkGWoRx2UFChF41A2svX+TaPm+AbwAgBWnrIiYllu7BNNyealdVLvRwEmTHWXvJwew==:"
    ∷ codes "18" ∷ codes "application/json" ∷ []

base_is_written : base_text example values ≡ codes "\"@method\": POST\n" ++ codes "\"@authority\": example.com\n"
    ++ codes "\"@path\": /foo\n"
    ++ codes "\"content-digest\": sha-512=:WZDPaVn/7XgHaAy8pmojAkGWoRx2UFChF41A2svX+TaPm+AbwAgBWnrIiYllu7BNNyealdVL"
    ++ codes "vRwEmTHWXvJwew==:\n" ++ codes "\"content-length\": 18\n" ++ codes "\"content-type\": application/json\n"
    ++ codes "\"@signature-params\": (\"@method\" \"@authority\" \"@path\" \"content-digest\" \"content-length\" "
    ++ codes "\"content-type\");created=1618884473;keyid=\"test-key-rsa-pss\""
unfolding example values digits
base_is_written = refl

-- the laws speak of it
are_components : AreComponents example values
unfolding example values last_of collapse
are_components = record {
  list = record {
    parts = ((((refl, tt), ((refl, tt), ((refl, tt), ((refl, tt), ((refl, tt), ((refl, tt), tt)))))), ((refl, lit< tt), ((refl, refl), tt))), tt);
    distinct = refl;
  };
  counted = refl;
  lines = (refl, (refl, (refl, (refl, (refl, (refl, tt))))));
}
