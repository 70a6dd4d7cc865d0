-- A Latin square with one row and one column more.
use Rattle.std.proofs.Common.{ap, ap₂, arith, inl, inr, sym, ℕ, ◌+◌, ◌<◌, ◌∙◌, ◌≡◌, ◌≢◌, ◌⊎◌}
use Rattle.counting.proofs.Booleans.{cases_eq}
use Rattle.triple_systems.specs.Squares.{IsLatin}

-- a square with one row and one column more: the entries of L at x and up x moved there
pub record IsProlonged (n : ℕ) (L : ℕ → ℕ → ℕ) (up down : ℕ → ℕ) (op : ℕ → ℕ → ℕ) : Type 0 where
  pub latin : IsLatin n L
  pub up_below : (x : ℕ) → x < n → up x < n
  pub down_below : (y : ℕ) → y < n → down y < n
  pub up_down : (y : ℕ) → y < n → up (down y) ≡ y
  pub down_up : (x : ℕ) → x < n → down (up x) ≡ x
  pub moved_cancels : (x y : ℕ) → x < n → y < n → L x (up x) ≡ L y (up y) → x ≡ y
  pub moved_solves : (z : ℕ) → z < n → (x : ℕ) × (x < n) × (L x (up x) ≡ z)
  pub corner : op n n ≡ n
  pub last_row : (y : ℕ) → y < n → op n y ≡ L (down y) y
  pub last_column : (x : ℕ) → x < n → op x n ≡ L x (up x)
  pub moved : (x : ℕ) → x < n → op x (up x) ≡ n
  pub others : (x y : ℕ) → x < n → y < n → y ≢ up x → op x y ≡ L x y

-- its rows; its columns are the rows of the turned square
module _ (n : ℕ) (L : ℕ → ℕ → ℕ) (up down : ℕ → ℕ) (op : ℕ → ℕ → ℕ) (p : IsProlonged n L up down op) where
  -- the three kinds of entries of a row but the last
  abbrev Kind : ℕ → ℕ → Type 0
  Kind x y = ((y ≡ n) × (op x y ≡ L x (up x))) ⊎ (((y ≡ up x) × (op x y ≡ n)) ⊎ ((y ≢ up x) × ((y < n) × (op x y ≡ L x y))))

  kind : (x y : ℕ) → x < n → y < n + 1 → Kind x y
  kind x y l m = elim (cases_eq y n) [
    | inl e ↦ inl (e, ap (op x) e ∙ p.last_column x l)
    | inr d ↦ elim (cases_eq y (up x)) [
      | inl e ↦ inr (inl (e, ap (op x) e ∙ p.moved x l))
      | inr f ↦ inr (inr (f, (omega arith, p.others x y l (omega arith) f)))
    ]
  ]

  upper_cancels : (x y z : ℕ) → x < n → y < n + 1 → z < n + 1 → op x y ≡ op x z → y ≡ z
  upper_cancels x y z l m k e =
      let a = kind x y l m in
      let b = kind x z l k in
      grind (arith, p.up_below x, p.latin.small x (up x), p.latin.small x y, p.latin.small x z, p.latin.row_cancels x y z, p.latin.row_cancels x y (up x), p.latin.row_cancels x (up x) z)

  upper_solves : (x z : ℕ) → x < n → z < n + 1 → (y : ℕ) × (y < n + 1) × (op x y ≡ z)
  upper_solves x z l m = elim (cases_eq z n) [
    | inl e ↦ (up x, omega (arith, p.up_below x l), p.moved x l ∙ sym e)
    | inr d ↦ let w = p.latin.row_solves x z l (omega arith) in elim (cases_eq w.0 (up x)) [
      | inl e ↦ (n, omega arith, p.last_column x l ∙ ap (L x) (sym e) ∙ w.2)
      | inr f ↦ (w.0, omega (arith, w.1), p.others x w.0 l w.1 f ∙ w.2)
    ]
  ]

  -- the last row
  bottom : (y : ℕ) → y < n → op n y ≡ L (down y) (up (down y))
  bottom y l = p.last_row y l ∙ ap (L (down y)) (sym (p.up_down y l))

  bottom-below : (y : ℕ) → y < n → op n y < n
  bottom-below y l = omega (arith, bottom y l, p.latin.small (down y) (up (down y)) (p.down_below y l) (p.up_below (down y) (p.down_below y l)))

  bottom_cancels : (y z : ℕ) → y < n + 1 → z < n + 1 → op n y ≡ op n z → y ≡ z
  bottom_cancels y z l m e = elim (cases_eq y n) [
    | inl a ↦ elim (cases_eq z n) [
      | inl b ↦ omega arith
      | inr b ↦ absurd (omega (arith, e, ap (op n) a, p.corner, bottom-below z (omega arith)))
    ]
    | inr a ↦ elim (cases_eq z n) [
      | inl b ↦ absurd (omega (arith, e, ap (op n) b, p.corner, bottom-below y (omega arith)))
      | inr b ↦ let h : down y ≡ down z = p.moved_cancels (down y) (down z) (p.down_below y (omega arith)) (p.down_below z (omega arith)) (sym (bottom y (omega arith)) ∙ e ∙ bottom z (omega arith)) in
          sym (p.up_down y (omega arith)) ∙ ap up h ∙ p.up_down z (omega arith)
    ]
  ]

  bottom_solves : (z : ℕ) → z < n + 1 → (y : ℕ) × (y < n + 1) × (op n y ≡ z)
  bottom_solves z m = elim (cases_eq z n) [
    | inl e ↦ (n, omega arith, p.corner ∙ sym e)
    | inr d ↦ let w = p.moved_solves z (omega arith) in (up w.0, omega (arith, p.up_below w.0 w.1), p.last_row (up w.0) (p.up_below w.0 w.1) ∙ ap (λ x. L x (up w.0)) (p.down_up w.0 w.1) ∙ w.2)
  ]

  each_row_cancels : (x y z : ℕ) → x < n + 1 → y < n + 1 → z < n + 1 → op x y ≡ op x z → y ≡ z
  each_row_cancels x y z k l m e = elim (cases_eq x n) [
    | inl a ↦ bottom_cancels y z l m (ap (λ x. op x y) (sym a) ∙ e ∙ ap (λ x. op x z) a)
    | inr a ↦ upper_cancels x y z (omega arith) l m e
  ]

  each_row_solves : (x z : ℕ) → x < n + 1 → z < n + 1 → (y : ℕ) × (y < n + 1) × (op x y ≡ z)
  each_row_solves x z k m = elim (cases_eq x n) [
    | inl a ↦ let w = bottom_solves z m in (w.0, w.1, ap (λ x. op x w.0) a ∙ w.2)
    | inr a ↦ upper_solves x z (omega arith) m
  ]

  entries-below : (x y : ℕ) → x < n + 1 → y < n + 1 → op x y < n + 1
  entries-below x y k l = elim (cases_eq x n) [
    | inl a ↦ elim (cases_eq y n) [
      | inl b ↦ omega (arith, ap₂ op a b, p.corner)
      | inr b ↦ omega (arith, ap (λ x. op x y) a, bottom-below y (omega arith))
    ]
    | inr a ↦ let w = kind x y (omega arith) l in grind (arith, p.up_below x, p.latin.small x (up x), p.latin.small x y)
  ]

  turned : IsProlonged n (λ x y. L y x) down up (λ x y. op y x)
  turned = record {
    latin = record { small = λ x y k l. p.latin.small y x l k; row_cancels = p.latin.column_cancels; row_solves = p.latin.column_solves; column_cancels = p.latin.row_cancels; column_solves = p.latin.row_solves };
    up_below = p.down_below;
    down_below = p.up_below;
    up_down = p.down_up;
    down_up = p.up_down;
    moved_cancels = λ x y l m e. sym (p.up_down x l) ∙ ap up (p.moved_cancels (down x) (down y) (p.down_below x l) (p.down_below y m) (ap (L (down x)) (p.up_down x l) ∙ e ∙ ap (L (down y)) (sym (p.up_down y m)))) ∙ p.up_down y m;
    moved_solves = λ z l. let w = p.moved_solves z l in (up w.0, p.up_below w.0 w.1, ap (λ x. L x (up w.0)) (p.down_up w.0 w.1) ∙ w.2);
    corner = p.corner;
    last_row = p.last_column;
    last_column = p.last_row;
    moved = λ x l. ap (op (down x)) (sym (p.up_down x l)) ∙ p.moved (down x) (p.down_below x l);
    others = λ x y l m ne. p.others y x m l (λ e. ne (sym (p.down_up y m) ∙ ap down (sym e)));
  }

pub prolonged_latin : (n : ℕ) (L : ℕ → ℕ → ℕ) (up down : ℕ → ℕ) (op : ℕ → ℕ → ℕ) → IsProlonged n L up down op → IsLatin (n + 1) op
prolonged_latin n L up down op p = record {
  small = entries-below n L up down op p;
  row_cancels = each_row_cancels n L up down op p;
  row_solves = each_row_solves n L up down op p;
  column_cancels = each_row_cancels n (λ x y. L y x) down up (λ x y. op y x) (turned n L up down op p);
  column_solves = each_row_solves n (λ x y. L y x) down up (λ x y. op y x) (turned n L up down op p);
}
