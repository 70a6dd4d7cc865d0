-- Small values of the definitions, computed.
use Rattle.std.proofs.Common.{◌≡◌, ◌-◌, ◌^◌, [], Some, refl}
use Rattle.std.specs.Prelude.{codes}
use Rattle.design_io.specs.Faults.{counted}
use Rattle.design_io.specs.Inputs.{IsInput, TakesAll, line_at}

-- the fourth byte stands behind one line feed, the third is that line feed
fourth_byte : line_at (codes "ab\ncd") 3 ≡ 2
fourth_byte = refl

third_byte : line_at (codes "ab\ncd") 2 ≡ 1
third_byte = refl

-- all is taken, and it is the text
all_taken : TakesAll (Some (codes "ab")) (Some []) (codes "ab")
all_taken = (refl, refl)

told_text : IsInput (Some (codes "ab")) (codes "ab")
told_text = refl

-- faults are counted one by one, up to the last value
sixth_fault : counted 5 ≡ 6
sixth_fault = refl

last_fault : counted (2 ^ 64 - 1) ≡ 2 ^ 64 - 1
last_fault = refl
