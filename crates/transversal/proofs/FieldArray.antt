-- The arrays of a field: column 0 is x, and column j + 1 is y + j * x.
use Rattle.std.proofs.Common.{List, ap, ap₂, arith, get_or, length, refl, slice_index, slice_set, subst, suc, sym, take, true, zero, ℕ, ◌*◌, ◌+◌, ◌-◌, ◌<◌, ◌∙◌, ◌∷◌, ◌≡◌, ◌≤◌}
use Rattle.std.proofs.lemmas.List.{get_or-take}
use Rattle.counting.proofs.Ranges.{get_or-list_below, length-list_below}
use Rattle.counting.specs.Sums.{join_below, list_below}
use Rattle.design_base.specs.Arrays.{IsOa, row_block}
use Rattle.design_base.specs.Fields.{field_product, field_sum, has_field}
use Rattle.design_base.specs.Rings.{IsField}
use Rattle.field_tables.proofs.AnyField.{add_cancel, difference, distribute_right, divide, mul_cancel}
use Rattle.field_tables.proofs.Listed.{listed_field}
use Rattle.transversal.proofs.Buffers.{written_next}
use Rattle.transversal.proofs.Square.{square_is_oa}
use Rattle.transversal.specs.Constructions.{field_row, field_rows, rows_below}

module _ (q : ℕ) (add mul : ℕ → ℕ → ℕ) (field : IsField q add mul) where
  -- the entry in column j
  line : ℕ → ℕ → ℕ → ℕ
  line x y zero = x
  line x y (suc j) = add y (mul j x)

  -- two slopes that differ by d
  step : (x y i d : ℕ) → add y (mul (add i d) x) ≡ add (add y (mul i x)) (mul d x)
  step x y i d = ap (add y) (distribute_right q add mul field.ring i d x) ∙ sym (field.ring.sums_associate y (mul i x) (mul d x))

  -- what is added to t to give b, from the left
  lifted : (t b : ℕ) → b < q → (y : ℕ) × (y < q) × (add y t ≡ b)
  lifted t b l = let d = difference q add mul field.ring t b l in (d.0, d.1, field.ring.sums_commute d.0 t ∙ d.2)

  rise : (i j : ℕ) → i < j → j < q → (d : ℕ) × (0 < d) × (d < q) × (add i d ≡ j)
  rise i j l m = let s = difference q add mul field.ring i j m in (s.0, positive s.0 s.2, s.1, s.2)
    where
      positive : (d : ℕ) → add i d ≡ j → 0 < d
      positive zero e = absurd (omega (arith, e, field.ring.zero_neutral i (omega arith)))
      positive (suc d) e = omega arith

  solves : (i j a b : ℕ) → i < j → j < q + 1 → a < q → b < q → (x : ℕ) × (y : ℕ) × (x < q) × (y < q) × (line x y i ≡ a) × (line x y j ≡ b)
  unfolding line
  solves zero (suc j) a b l m la lb = let y = lifted (mul j a) b lb in (a, y.0, la, y.1, refl, y.2)
  solves (suc i) (suc j) a b l m la lb =
      let d = rise i j (omega arith) (omega arith) in
      let c = difference q add mul field.ring a b lb in
      let x = divide q add mul field.ring field.inverses d.0 c.0 d.1 d.2 c.1 in
      let y = lifted (mul i x.0) a la in
      (x.0, y.0, x.1, y.1, y.2, ap (λ j. add y.0 (mul j x.0)) (sym d.3) ∙ step x.0 y.0 i d.0 ∙ ap₂ add y.2 x.2 ∙ c.2)
  solves i zero a b l m la lb = absurd (omega arith)

  -- one column fixes y where x is known
  fixes : (j x y w : ℕ) → y < q → w < q → add y (mul j x) ≡ add w (mul j x) → y ≡ w
  fixes j x y w ly lw e = add_cancel q add mul field.ring (mul j x) y w ly lw (field.ring.sums_commute (mul j x) y ∙ e ∙ field.ring.sums_commute w (mul j x))

  unique_by : (i d x y z w : ℕ) → 0 < d → d < q → x < q → y < q → z < q → w < q → add y (mul i x) ≡ add w (mul i z) → add y (mul (add i d) x) ≡ add w (mul (add i d) z) → (x ≡ z) × (y ≡ w)
  unique_by i d x y z w pos ld lx ly lz lw e f = (same, fixes i x y w ly lw (e ∙ ap (λ x. add w (mul i x)) (sym same)))
    where
      same : x ≡ z
      same = mul_cancel q add mul field.ring field.inverses d x z pos ld lx lz (add_cancel q add mul field.ring (add w (mul i z)) (mul d x) (mul d z) (field.ring.products_below d x) (field.ring.products_below d z)
          (ap (λ a. add a (mul d x)) (sym e) ∙ sym (step x y i d) ∙ f ∙ step z w i d))

  unique : (i j x y z w : ℕ) → i < j → j < q + 1 → x < q → y < q → z < q → w < q → line x y i ≡ line z w i → line x y j ≡ line z w j → (x ≡ z) × (y ≡ w)
  unfolding line
  unique zero (suc j) x y z w l m lx ly lz lw e f = (e, fixes j x y w ly lw (f ∙ ap (λ x. add w (mul j x)) (sym e)))
  unique (suc i) (suc j) x y z w l m lx ly lz lw e f = let d = rise i j (omega arith) (omega arith) in
      unique_by i d.0 x y z w d.1 d.2 lx ly lz lw e (ap (λ j. add y (mul j x)) d.3 ∙ f ∙ ap (λ j. add w (mul j z)) (sym d.3))
  unique i zero x y z w l m lx ly lz lw e f = absurd (omega arith)

  line-below : (x y j : ℕ) → x < q → line x y j < q
  unfolding line
  line-below x y zero lx = lx
  line-below x y (suc j) lx = field.ring.sums_below y (mul j x)

  entry : (k x y j : ℕ) → j < k → get_or (x ∷ list_below (k - 1) (λ j. add y (mul j x))) j 0 ≡ line x y j
  unfolding line
  entry k x y zero l = refl
  entry k x y (suc j) l = get_or-list_below (k - 1) (λ j. add y (mul j x)) j 0 (omega arith)

  -- the first k of the q + 1 columns
  lines_are_oa : (k : ℕ) → 2 ≤ k → k ≤ q + 1 → IsOa (rows_below q q (λ x y. x ∷ list_below (k - 1) (λ j. add y (mul j x)))) k q
  lines_are_oa k two most = square_is_oa k q (λ x y. x ∷ list_below (k - 1) (λ j. add y (mul j x))) line
      (λ x y. omega (arith, length-list_below (k - 1) (λ j. add y (mul j x))))
      (entry k)
      two (record {
        small = λ x y j lx ly l. line-below x y j lx;
        solves = λ i j a b l m la lb. solves i j a b l (omega arith) la lb;
        unique = λ i j x y z w l m. unique i j x y z w l (omega arith);
      })

pub field_is_oa : (k q : ℕ) → IsField q (field_sum q) (field_product q) → 2 ≤ k → k ≤ q + 1 → IsOa (field_rows k q) k q
unfolding field_rows field_row
field_is_oa k q field two most = lines_are_oa q (field_sum q) (field_product q) field k two most

-- ---- the block of x and y, written over the front of a buffer
-- a product that is kept
kept_product : (q x j : ℕ) (products : List ℕ) → j < q → take q products ≡ list_below q (λ j. field_product q j x) → get_or products j 0 ≡ field_product q j x
kept_product q x j products l is = sym (get_or-take q products j 0 l) ∙ ap (λ xs. get_or xs j 0) is ∙ get_or-list_below q (λ j. field_product q j x) j 0 l

pub kept_below : (q x j : ℕ) (products : List ℕ) → has_field q ≡ true → j < q → take q products ≡ list_below q (λ j. field_product q j x) → get_or products j 0 < q
kept_below q x j products listed l is = subst (λ z. z < q) (sym (kept_product q x j products l is)) ((listed_field q listed).ring.products_below j x)

-- an entry of the row
slope_entry : (k q x y j : ℕ) → j < k - 1 → get_or (field_row k q x y) (j + 1) 0 ≡ field_sum q y (field_product q j x)
unfolding field_row
slope_entry k q x y j l = ap (λ i. get_or (x ∷ list_below (k - 1) (λ j. field_sum q y (field_product q j x))) i 0) after ∙ get_or-list_below (k - 1) (λ j. field_sum q y (field_product q j x)) j 0 l
  where
    after : j + 1 ≡ suc j
    after = omega arith

pub line_block_first : (k q x y : ℕ) (block : List ℕ) → 0 < length block → take 1 (slice_set block 0 x) ≡ row_block 1 q (slice_index (field_row k q x y))
unfolding field_row row_block join_below
line_block_first k q x y block l = ap (λ z. take 1 (slice_set block 0 z)) same ∙ written_next q 0 x (field_row k q x y) block l refl refl
  where
    same : x ≡ 0 * q + x
    same = omega arith

pub line_block_next : (k q x y j z : ℕ) (block products : List ℕ) → j < k - 1 → k ≤ q + 1 → j + 1 < length block → take q products ≡ list_below q (λ j. field_product q j x) → z ≡ field_sum q y (get_or products j 0) →
    take (j + 1) block ≡ row_block (j + 1) q (slice_index (field_row k q x y)) → take (j + 1 + 1) (slice_set block (j + 1) ((j + 1) * q + z)) ≡ row_block (j + 1 + 1) q (slice_index (field_row k q x y))
line_block_next k q x y j z block products within most l kept is front = written_next q (j + 1) z (field_row k q x y) block l front
    (is ∙ ap (field_sum q y) (kept_product q x j products (omega arith) kept) ∙ sym (slope_entry k q x y j within))
