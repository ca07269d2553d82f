-- Colors of words.
use Rattle.std.specs.Prelude.{ℕ, List, ◌∷◌, ◌++◌, codes}
use Rattle.sfv_lint_head.specs.declared.paint.Colors.{Colors}
use Rattle.sfv_lint_head.specs.declared.paint.Colors.TheVariants as colors
use Rattle.sfv_lint_head.specs.declared.paint.Tone.{Tone}
use Rattle.sfv_lint_head.specs.declared.paint.Tone.TheVariants as tones

-- the code of a color (ECMA-48, SGR): green, red or yellow
abbrev pub color_of : Tone → List ℕ
color_of tones.Good = codes "32"
color_of tones.Bad = codes "31"
color_of tones.Note = codes "33"

-- a word, in its color if there are colors
abbrev pub painted : Colors → Tone → List ℕ → List ℕ
painted colors.Off tone word = word
painted colors.On tone word =
    (27 ∷ codes "[") ++ color_of tone ++ codes "m" ++ word ++ (27 ∷ codes "[0m")
