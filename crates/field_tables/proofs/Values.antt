-- Tables that are read and filled.
use Rattle.std.proofs.Common.{◌≡◌, ℕ, ◌+◌, ◌*◌, ◌/◌, ◌<◌, ◌≤◌, List, [], ◌∷◌, ◌++◌, length, slice_index, arith, ap, sym, subst, ◌∙◌, length-append, inl, inr}
use Rattle.std.proofs.Math.Path.{ap₂}
use Rattle.std.proofs.Math.Nat.{mul-add-div_right, div-eq_of_lt, mul-le-mul_right}
use Rattle.std.proofs.Math.ListN.{get_or-append}
use Rattle.std.proofs.Math.Seq.{get_or-append_seam}
use Rattle.std.proofs.lemmas.Nat.{mod-mul-add}
use Rattle.counting.proofs.Booleans.{cases_lt}
use Rattle.field_tables.specs.Tables.{IsValues, IsTable, by_rows}

-- the row of a place
row_of : (q x y : ℕ) → y < q → (x * q + y) / q ≡ x
row_of q x y below = let positive : 0 < q = omega arith in mul-add-div_right positive x y ∙ ap (λ t. x + t) (div-eq_of_lt below) ∙ omega arith

-- the entry in row x and column y
pub row_at : (f : ℕ → ℕ → ℕ) (q : ℕ) (t : List ℕ) → IsValues (by_rows f q) t → (x y : ℕ) → y < q → x * q + y < length t → slice_index t (x * q + y) ≡ f x y
row_at f q t h x y below inside = h (x * q + y) inside ∙ ap₂ f (row_of q x y below) (mod-mul-add x q y below)

-- an entry of an earlier row comes before
pub earlier : (q a x b y : ℕ) → a < x → b < q → a * q + b < x * q + y
earlier q a x b y h k = omega (arith, mul-le-mul_right q h)

-- each entry stands in the table
pub in_table : (q x y : ℕ) → x < q → y < q → x * q + y < q * q
in_table q x y hx hy = omega (arith, earlier q x q y 0 hx hy)

-- an entry of a whole table
pub table_at : (f : ℕ → ℕ → ℕ) (q : ℕ) (t : List ℕ) → IsTable f q t → (x y : ℕ) → x < q → y < q → slice_index t (x * q + y) ≡ f x y
table_at f q t h x y hx hy = row_at f q t h.entries x y hy (omega (arith, in_table q x y hx hy, h.size))

-- the next value
pub values_push : (f : ℕ → ℕ) (t : List ℕ) (v : ℕ) → IsValues f t → v ≡ f (length t) → IsValues f (t ++ (v ∷ []))
values_push f t v h e k inside = elim (cases_lt k (length t)) [
  | inl before ↦ get_or-append t (v ∷ []) 0 k before ∙ h k before
  | inr last ↦
      let here : k ≡ length t = omega (arith, length-append t (v ∷ [])) in
      ap (λ i. slice_index (t ++ (v ∷ [])) i) here ∙ get_or-append_seam t v [] 0 ∙ e ∙ ap f (sym here)
]

-- the next entry of a row
pub row_push : (f : ℕ → ℕ → ℕ) (q : ℕ) (t : List ℕ) (x y v : ℕ) → IsValues (by_rows f q) t → length t ≡ x * q + y → y < q → v ≡ f x y → IsValues (by_rows f q) (t ++ (v ∷ []))
row_push f q t x y v h size below e =
    values_push (by_rows f q) t v h (e ∙ sym (ap (by_rows f q) size ∙ ap₂ f (row_of q x y below) (mod-mul-add x q y below)))

-- a table up to row x, of which y entries stand
abbrev pub IsBegun : (ℕ → ℕ → ℕ) → ℕ → ℕ → ℕ → List ℕ → Type 0
IsBegun f q x y t = record { size : length t ≡ x * q + y; entries : IsValues (by_rows f q) t }

pub begun_push : (f : ℕ → ℕ → ℕ) (q x y v : ℕ) (t new : List ℕ) → IsBegun f q x y t → y < q → v ≡ f x y → new ≡ t ++ (v ∷ []) → IsBegun f q x (y + 1) new
begun_push f q x y v t new begun below value pushed = record {
  size = omega (arith, ap length pushed, length-append t (v ∷ []), begun.size);
  entries = subst (IsValues (by_rows f q)) (sym pushed) (row_push f q t x y v begun.entries begun.size below value);
}

-- an entry e that was read of a table, whose order has the names q and v
module _ (op : ℕ → ℕ → ℕ → ℕ) (q v x y e : ℕ) (items t : List ℕ) (same : q ≡ v) (hx : x < v) (hy : y < v)
    (table : IsTable (op q) q items) (deref : t ≡ items) (read : e ≡ slice_index t (x * q + y)) where
  pub read_is : e ≡ op v x y
  read_is =
      read ∙ ap (λ t. slice_index t (x * q + y)) deref
      ∙ table_at (op q) q items table x y (subst (λ n. x < n) (sym same) hx) (subst (λ n. y < n) (sym same) hy) ∙ ap (λ n. op n x y) same

  pub read_below : op q x y < q → e < v
  read_below below = subst (λ n. n < v) (sym read_is) (subst (λ n. op n x y < n) same below)

-- the next solution, which a number below low has no need of
pub solved_push : (f : ℕ → ℕ → ℕ) (target low q : ℕ) (t : List ℕ) (v : ℕ) →
    ((x : ℕ) → low ≤ x → x < length t → (slice_index t x < q) × (f x (slice_index t x) ≡ target)) →
    (low ≤ length t → (v < q) × (f (length t) v ≡ target)) →
    (x : ℕ) → low ≤ x → x < length (t ++ (v ∷ [])) → (slice_index (t ++ (v ∷ [])) x < q) × (f x (slice_index (t ++ (v ∷ [])) x) ≡ target)
solved_push f target low q t v before next x h inside =
    let P : ℕ → ℕ → Type 0 = λ k a. (a < q) × (f k a ≡ target) in
    elim (cases_lt x (length t)) [
      | inl early ↦ subst (P x) (sym (get_or-append t (v ∷ []) 0 x early)) (before x h early)
      | inr late ↦
          let here : x ≡ length t = omega (arith, length-append t (v ∷ [])) in
          subst (λ k. P k (slice_index (t ++ (v ∷ [])) k)) (sym here) (subst (P (length t)) (sym (get_or-append_seam t v [] 0)) (next (omega arith)))
    ]
