-- Lists in the order of a test.
use Rattle.std.proofs.Common.{Bool, List, [], cond, false, true, ◌∷◌, ◌≡◌}
use Rattle.std.specs.List.{AllByRecursion}

-- x put in front of the first element that is not before it
unfoldable pub insert_by : {X : Type 0} → (X → X → Bool) → X → List X → List X
insert_by le x [] = x ∷ []
insert_by le x (y ∷ ys) = cond (le x y) (x ∷ (y ∷ ys)) (y ∷ insert_by le x ys)

-- the elements in the order of le
unfoldable pub sort_by : {X : Type 0} → (X → X → Bool) → List X → List X
sort_by le [] = []
sort_by le (x ∷ xs) = insert_by le x (sort_by le xs)

-- an order as a test
pub record IsOrder {X : Type 0} (le : X → X → Bool) : Type 0 where
  pub total : (x y : X) → le x y ≡ false → le y x ≡ true
  pub joins : (x y z : X) → le x y ≡ true → le y z ≡ true → le x z ≡ true
  pub same : (x y : X) → le x y ≡ true → le y x ≡ true → x ≡ y

-- each element is not after any later one
abbrev pub Ordered : {X : Type 0} → (X → X → Bool) → List X → Type 0
Ordered le [] = Unit {0}
Ordered le (x ∷ xs) = AllByRecursion (λ y. le x y ≡ true) xs × Ordered le xs
