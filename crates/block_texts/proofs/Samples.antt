-- Small values of the definitions, computed.
use Rattle.std.proofs.Common.{◌≡◌, [], ◌∷◌, ◌++◌, Some, None, refl}
use Rattle.std.specs.Prelude.{codes}
use Rattle.design_lines.specs.Words.{words_of}
use Rattle.block_texts.specs.BlockLines.{block_line, block_number, numbers_of}

block_of_two : block_line (codes " 00012  65535 " ++ 13 ∷ []) ≡ Some (12 ∷ 65535 ∷ [])
unfolding block_line words_of numbers_of block_number
block_of_two = refl

blank_line : block_line [] ≡ Some []
unfolding block_line words_of numbers_of
blank_line = refl

five_digits : block_line (codes "00001") ≡ Some (1 ∷ [])
unfolding block_line words_of numbers_of block_number
five_digits = refl

six_digits : block_line (codes "000001") ≡ None
unfolding block_line words_of numbers_of block_number
six_digits = refl

large_number : block_line (codes "1 65536") ≡ None
unfolding block_line words_of numbers_of block_number
large_number = refl
