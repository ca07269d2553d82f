-- A text of a Byte Sequence is read, as its bytes.
use Rattle.std.proofs.Common.{◌≡◌, ℕ, List, ◌∷◌, ◌++◌, ◌∙◌, ap, append_assoc, Ok}
use Rattle.sfv_spec.{specs.Base64.IsBase64Text, proofs.Marks.colon}
use Rattle.sfv_model.specs.Content.{IsBytesEnd, bytes_at}
use Rattle.sfv_model.proofs.{base64.Contents.gives_the_bytes, sound.ByteSequences.{read_value, text_apart}}

-- Each Byte Sequence is read, whatever follows it.
pub reads_its_texts : (bytes content rest : List ℕ) → IsBase64Text bytes content
    → bytes_at (content ++ colon ∷ rest) ≡ Ok (bytes, rest)
reads_its_texts bytes content rest h = read_value _ _ _ (text_apart _ _ h) ((gives_the_bytes content bytes).0 h)

pub bytes_complete : (bytes t q : List ℕ) → IsBytesEnd bytes t → bytes_at (t ++ q) ≡ Ok (bytes, q)
bytes_complete bytes t q h =
    let all : t ++ q ≡ h.front ++ colon ∷ q = simp (h.text, h.second, append_assoc) in
    ap bytes_at all ∙ reads_its_texts bytes h.front q h.first
