-- The tests of a condition, one by one.
use Rattle.std.proofs.Common.{Bool, true, ◌&&◌, ◌≡◌}
use Rattle.counting.proofs.Booleans.{both}

pub three_tests : {a b c : Bool} → (a && b && c) ≡ true → (a ≡ true) × (b ≡ true) × (c ≡ true)
three_tests {a} {b} {c} e = let last = both (a && b) c e in let front = both a b last.0 in (front.0, front.1, last.1)

pub four_tests : {a b c d : Bool} → (a && b && c && d) ≡ true → (a ≡ true) × (b ≡ true) × (c ≡ true) × (d ≡ true)
four_tests {a} {b} {c} {d} e = let last = both (a && b && c) d e in let front = three_tests last.0 in (front.0, front.1, front.2, last.1)

pub five_tests : {a b c d f : Bool} → (a && b && c && d && f) ≡ true → (a ≡ true) × (b ≡ true) × (c ≡ true) × (d ≡ true) × (f ≡ true)
five_tests {a} {b} {c} {d} {f} e = let last = both (a && b && c && d) f e in let front = four_tests last.0 in (front.0, front.1, front.2, front.3, last.1)

pub six_tests : {a b c d f g : Bool} → (a && b && c && d && f && g) ≡ true → (a ≡ true) × (b ≡ true) × (c ≡ true) × (d ≡ true) × (f ≡ true) × (g ≡ true)
six_tests {a} {b} {c} {d} {f} {g} e = let last = both (a && b && c && d && f) g e in let front = five_tests last.0 in (front.0, front.1, front.2, front.3, front.4, last.1)

pub seven_tests : {a b c d f g h : Bool} → (a && b && c && d && f && g && h) ≡ true → (a ≡ true) × (b ≡ true) × (c ≡ true) × (d ≡ true) × (f ≡ true) × (g ≡ true) × (h ≡ true)
seven_tests {a} {b} {c} {d} {f} {g} {h} e =
    let last = both (a && b && c && d && f && g) h e in
    let front = six_tests last.0 in (front.0, front.1, front.2, front.3, front.4, front.5, last.1)

pub eight_tests : {a b c d f g h i : Bool} → (a && b && c && d && f && g && h && i) ≡ true
    → (a ≡ true) × (b ≡ true) × (c ≡ true) × (d ≡ true) × (f ≡ true) × (g ≡ true) × (h ≡ true) × (i ≡ true)
eight_tests {a} {b} {c} {d} {f} {g} {h} {i} e =
    let last = both (a && b && c && d && f && g && h) i e in
    let front = seven_tests last.0 in (front.0, front.1, front.2, front.3, front.4, front.5, front.6, last.1)
