-- Sums and multiples of lists of coefficients.
use Rattle.std.proofs.Common.{◌≡◌, ℕ, ◌+◌, ◌*◌, suc, List, [], ◌∷◌, length, arith, ap, refl, sym, ◌∙◌}
use Rattle.std.proofs.Math.Nat.{suc_inj}
use Rattle.std.proofs.Math.Path.{ap₂}
use Rattle.design_base.specs.Polynomials.{add, scale, pushed, top}

-- sums
pub add_comm : (x y : List ℕ) → add x y ≡ add y x
add_comm [] [] = refl
add_comm [] (y ∷ ys) = refl
add_comm (x ∷ xs) [] = refl
add_comm (x ∷ xs) (y ∷ ys) = ap₂ ◌∷◌ (let e : x + y ≡ y + x = omega arith in e) (add_comm xs ys)

pub add_assoc : (x y z : List ℕ) → add (add x y) z ≡ add x (add y z)
add_assoc [] y z = refl
add_assoc (x ∷ xs) [] z = refl
add_assoc (x ∷ xs) (y ∷ ys) [] = refl
add_assoc (x ∷ xs) (y ∷ ys) (z ∷ zs) = ap₂ ◌∷◌ (let e : x + y + z ≡ x + (y + z) = omega arith in e) (add_assoc xs ys zs)

-- the middle two change places
pub add_swap : (a b c d : List ℕ) → add (add a b) (add c d) ≡ add (add a c) (add b d)
add_swap a b c d = add_assoc a b (add c d) ∙ ap (add a) (sym (add_assoc b c d) ∙ ap (λ t. add t d) (add_comm b c) ∙ add_assoc c b d) ∙ sym (add_assoc a c (add b d))

-- multiples of sums, and sums of multiples
pub scale-add : (c : ℕ) (x y : List ℕ) → scale c (add x y) ≡ add (scale c x) (scale c y)
scale-add c [] y = refl
scale-add c (x ∷ xs) [] = refl
scale-add c (x ∷ xs) (y ∷ ys) = ap₂ ◌∷◌ (let e : c * (x + y) ≡ c * x + c * y = omega arith in e) (scale-add c xs ys)

pub add-scale : (c d : ℕ) (x : List ℕ) → scale (c + d) x ≡ add (scale c x) (scale d x)
add-scale c d [] = refl
add-scale c d (x ∷ xs) = ap₂ ◌∷◌ (let e : (c + d) * x ≡ c * x + d * x = omega arith in e) (add-scale c d xs)

pub scale-scale : (c d : ℕ) (x : List ℕ) → scale c (scale d x) ≡ scale (c * d) x
scale-scale c d [] = refl
scale-scale c d (x ∷ xs) = ap₂ ◌∷◌ (let e : c * (d * x) ≡ c * d * x = omega arith in e) (scale-scale c d xs)

-- lengths
pub length-add : (x y : List ℕ) → length x ≡ length y → length (add x y) ≡ length x
length-add [] y e = refl
length-add (x ∷ xs) [] e = sym e
length-add (x ∷ xs) (y ∷ ys) e = ap suc (length-add xs ys (suc_inj e))

pub length-scale : (c : ℕ) (x : List ℕ) → length (scale c x) ≡ length x
length-scale c [] = refl
length-scale c (x ∷ xs) = ap suc (length-scale c xs)

pub length-pushed : (a : ℕ) (x : List ℕ) → length (pushed a x) ≡ length x
length-pushed a [] = refl
length-pushed a (x ∷ xs) = ap suc (length-pushed x xs)

-- what goes up and what goes out, of a sum
pub pushed-add : (a b : ℕ) (x y : List ℕ) → pushed (a + b) (add x y) ≡ add (pushed a x) (pushed b y)
pushed-add a b [] y = refl
pushed-add a b (x ∷ xs) [] = refl
pushed-add a b (x ∷ xs) (y ∷ ys) = ap (λ t. (a + b) ∷ t) (pushed-add x y xs ys)

pub top-add : (a b : ℕ) (x y : List ℕ) → length x ≡ length y → top (a + b) (add x y) ≡ top a x + top b y
top-add a b [] [] e = refl
top-add a b [] (y ∷ ys) e = cc
top-add a b (x ∷ xs) [] e = cc
top-add a b (x ∷ xs) (y ∷ ys) e = top-add x y xs ys (suc_inj e)

-- and of a multiple
pub pushed-scale : (c a : ℕ) (x : List ℕ) → pushed (c * a) (scale c x) ≡ scale c (pushed a x)
pushed-scale c a [] = refl
pushed-scale c a (x ∷ xs) = ap (λ t. (c * a) ∷ t) (pushed-scale c x xs)

pub top-scale : (c a : ℕ) (x : List ℕ) → top (c * a) (scale c x) ≡ c * top a x
top-scale c a [] = refl
top-scale c a (x ∷ xs) = top-scale c x xs
