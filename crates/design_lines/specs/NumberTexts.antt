-- The texts of numbers that a printer of rows keeps.
use Rattle.std.specs.Prelude.{ℕ, List, ◌∷◌, ◌≡◌, ◌≤◌, ◌<◌, ◌⊎◌, length, get_or, take}
use Rattle.std.specs.Fmt.{decimal}
use Rattle.design_lines.specs.declared.number_texts.NumberText.{NumberText}

-- a space and the digits of the number
pub record IsText (number : ℕ) (t : NumberText) : Type 0 where
  pub short : t.len ≤ 6
  pub text : take t.len t.bytes ≡ 32 ∷ decimal number

-- at each place there is nothing yet, or the text of the place
abbrev pub AreTexts : List NumberText → Type 0
AreTexts texts = (i : ℕ) (d : NumberText) → i < length texts → ((get_or texts i d).len ≡ 0) ⊎ IsText i (get_or texts i d)
